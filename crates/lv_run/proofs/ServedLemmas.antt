-- A session that the shelf tells, from how its serving ended.
use Rattle.std.proofs.Common.{◌≡◌, ℕ, List, take, Option, Result, Ok, Err, sym, subst, arith}
use Rattle.std.specs.Prelude.{true, IfErr, IsErrAnd}
use Rattle.lv_model.specs.declared.plant.Plant.{Plant}
use Rattle.lv_serve.specs.Ends.{ended}
use Rattle.lv_serve.specs.Served.{within_limit}
use Rattle.lv_serve.specs.declared.fault.ServeFault.{ServeFault}
use Rattle.lv_serve.specs.declared.fault.ServeFault.TheVariants.{Read, Write, TooLong, Memory}
use Rattle.lv_plant.proofs.lv_session.Answering.{adds_transcript, adds_front}
use Rattle.lv_run_words.specs.declared.commands.Service.{Service}
use Rattle.lv_run_words.specs.declared.commands.Service.TheVariants.{Single, Lanes, Simulation}
use Rattle.lv_run.specs.Services.{Serves, fits, AddsReplies}
use Rattle.lv_run.proofs.ServiceLemmas.{no_replies, none_quit, none_written}
use Rattle.lv_run.specs.Expected.{ServesTold}
use Rattle.lv_run.specs.Faults.{EndsOpening, EndsSession, fault_of_serving}
use Rattle.lv_run.specs.declared.status.Ended.{Ended}
use Rattle.lv_run.specs.declared.fault.RunFault.{RunFault}
use Rattle.lv_run.specs.declared.fault.RunFault.TheVariants.{WordsRefused as BadWords, ModelRefused as BadModel, ModelUnread as NoModel, SessionUnread as NoSession, CertificateUnread as NoCertificate, OutputFailed as NoOutput, SessionTooLong as LongSession, CertificateTooLong as LongCertificate, OutOfMemory as NoMemory}

-- a text was served to its end
pub told_done : (service : Service) (plant : Plant) (text : List ℕ) (out out_after : Option (List ℕ))
    → Serves service plant text out out_after {T = Unit {0}} (Ok tt)
    → (fits service plant text ≡ true) × AddsReplies service plant text out out_after
told_done Single plant text out out_after served = (served.0, adds_transcript plant text out out_after served.1)
told_done Lanes plant text out out_after served = served
told_done Simulation plant text out out_after served = served

-- or its serving ended with a fault
pub told_ended : (service : Service) (plant : Plant) (text : List ℕ) (out out_after : Option (List ℕ)) (fault : ServeFault)
    → Serves service plant text out out_after {T = Unit {0}} (Err fault)
    → ServesTold service plant text out out_after (Err (fault_of_serving fault))
told_ended Single plant text out out_after Read served = record {
  count = served.count;
  within = served.within;
  goes_on = served.goes_on;
  written = adds_transcript plant (ended (take served.count text)) out out_after served.written;
}
told_ended Single plant text out out_after Write served = record {
  of_all = λ fit. adds_front plant text out out_after (served.of_all fit);
  of_lines = λ long. adds_front plant (within_limit text) out out_after (served.of_lines long);
}
told_ended Single plant text out out_after TooLong served = (served.0, adds_transcript plant (within_limit text) out out_after served.1)
told_ended Single plant text out out_after Memory served = record {
  of_all = λ fit. adds_front plant text out out_after (served.of_all fit);
  of_lines = λ long. adds_front plant (within_limit text) out out_after (served.of_lines long);
}
told_ended Lanes plant text out out_after Read served = record { count = served.count; within = served.within; goes_on = served.goes_on; written = served.written }
told_ended Lanes plant text out out_after Write served = record { of_all = served.of_all; of_lines = served.of_lines }
told_ended Lanes plant text out out_after TooLong served = served
told_ended Lanes plant text out out_after Memory served = record { of_all = served.of_all; of_lines = served.of_lines }
told_ended Simulation plant text out out_after Read served = record { count = served.count; within = served.within; goes_on = served.goes_on; written = served.written }
told_ended Simulation plant text out out_after Write served = record { of_all = served.of_all; of_lines = served.of_lines }
told_ended Simulation plant text out out_after TooLong served = served
told_ended Simulation plant text out out_after Memory served = record { of_all = served.of_all; of_lines = served.of_lines }

-- what a fault came to is what the run did
pub handed_told : (service : Service) (plant : Plant) (text : List ℕ) (before after : Option (List ℕ)) (result : Result Ended RunFault) (fault : RunFault)
    → IsErrAnd result (λ e. e ≡ fault)
    → ServesTold service plant text before after (Err fault)
    → ServesTold service plant text before after result
handed_told service plant text before after (Ok x) fault handed told = absurd handed
handed_told service plant text before after (Err e) fault handed told =
    subst (λ (f : RunFault). ServesTold service plant text before after (Err f)) (sym handed) told

-- nothing was read of a session that was not opened
unopened : (service : Service) (plant : Plant) (text : List ℕ) (out : Option (List ℕ)) (fault : RunFault) → EndsOpening fault → ServesTold service plant text out out (Err fault)
unopened service plant text out BadWords ends = absurd ends
unopened service plant text out (BadModel code line) ends = absurd ends
unopened service plant text out NoModel ends = absurd ends
unopened service plant text out NoSession ends = record {
  count = 0;
  within = omega arith;
  goes_on = none_quit service plant;
  written = none_written service plant out;
}
unopened service plant text out NoCertificate ends = absurd ends
unopened service plant text out NoOutput ends = absurd ends
unopened service plant text out LongSession ends = absurd ends
unopened service plant text out LongCertificate ends = absurd ends
unopened service plant text out NoMemory ends = record {
  of_all = λ fit. no_replies service plant text out;
  of_lines = λ long. no_replies service plant (within_limit text) out;
}

pub unopened_told : (service : Service) (plant : Plant) (text : List ℕ) (out : Option (List ℕ)) (result : Result Ended RunFault) (fault : RunFault)
    → IsErrAnd result (λ e. e ≡ fault)
    → EndsOpening fault
    → ServesTold service plant text out out result
unopened_told service plant text out result fault handed ends = handed_told service plant text out out result fault handed (unopened service plant text out fault ends)

-- a run that ended at opening or serving ended so
pub handed_ends : (result : Result Ended RunFault) (fault : RunFault) → IsErrAnd result (λ e. e ≡ fault) → EndsOpening fault → IfErr result EndsSession
handed_ends (Ok x) fault handed ends = tt
handed_ends (Err e) BadWords handed ends = absurd ends
handed_ends (Err e) (BadModel code line) handed ends = absurd ends
handed_ends (Err e) NoModel handed ends = absurd ends
handed_ends (Err e) NoSession handed ends = subst EndsSession (sym handed) tt
handed_ends (Err e) NoCertificate handed ends = absurd ends
handed_ends (Err e) NoOutput handed ends = absurd ends
handed_ends (Err e) LongSession handed ends = absurd ends
handed_ends (Err e) LongCertificate handed ends = absurd ends
handed_ends (Err e) NoMemory handed ends = subst EndsSession (sym handed) tt

pub served_ends : (result : Result Ended RunFault) (fault : ServeFault) → IsErrAnd result (λ e. e ≡ fault_of_serving fault) → IfErr result EndsSession
served_ends (Ok x) fault handed = tt
served_ends (Err e) Read handed = subst EndsSession (sym handed) tt
served_ends (Err e) Write handed = subst EndsSession (sym handed) tt
served_ends (Err e) TooLong handed = subst EndsSession (sym handed) tt
served_ends (Err e) Memory handed = subst EndsSession (sym handed) tt
