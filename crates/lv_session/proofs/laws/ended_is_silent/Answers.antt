use Rattle.std.proofs.Common.{ap}
use Rattle.lv_session_state.specs.State.{Stepped}
use Rattle.lv_session.proofs.StepLaws.{ended_stays}
use Rattle.lv_session.proofs.laws.ended_is_silent.Goals as goal

pub returns : goal.returns
returns c =
    record {
      stays = λ plant state line e. ap (λ (s : Stepped). s.state) (ended_stays plant state line e);
      silent = λ plant state line e. ap (λ (s : Stepped). s.reply) (ended_stays plant state line e);
    }
