-- the search finds a nominal step exactly where there is one
use Rattle.lv_meaning.proofs.NominalSteps.{recovers_leads, leads_recover}
use Rattle.lv_meaning.proofs.recovery_laws.recovers_reads.Goals as goal

pub returns : goal.returns
returns c = record { leads = recovers_leads; suffices = leads_recover }
