use Rattle.lv_session.proofs.StepLaws.{refused_stays}
use Rattle.lv_session.proofs.laws.refused_line_changes_nothing.Goals as goal

pub returns : goal.returns
returns c = λ plant state line. refused_stays plant state line
