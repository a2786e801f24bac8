use Rattle.lv_cert_meaning.proofs.LogLemmas.{follows_sound}
use Rattle.lv_cert_meaning.proofs.laws.following_is_sound.Goals as goal

pub returns : goal.returns
returns c = follows_sound
