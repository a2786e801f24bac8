-- each way to choose is listed, and putting in order loses none
use Rattle.lv_meaning.proofs.Listing.{is_listed, is_candidate}
use Rattle.lv_meaning.proofs.laws.candidates_are_all.Goals as goal

pub returns : goal.returns
returns c = record { listed = is_listed; are = is_candidate }
