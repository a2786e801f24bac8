-- the search that is kept has run on
use Rattle.std.proofs.Common.{◌≡◌, ◌+◌, subst, ap}
use Rattle.lv_session_state.specs.declared.running.Running.{Running}
use Rattle.lv_session_state.specs.State.{trials, sum_of}
use Rattle.lv_session_state.specs.Current.{Diagnosed, Recovering, Testing, Tracing, kept_walk, IsOn}
use Rattle.lv_session_state.proofs.Kept.{diagnosis_suits, diagnosis_ran, recovery_suits, recovery_ran, test_suits, test_ran, window_suits, window_ran}
use Rattle.lv_session_state.proofs.state.State.run_on.Goals as goal

pub run-requires-clause-suit : goal.run-requires-clause-suit
run-requires-clause-suit c =
    diagnosis_suits c.args.model.now c.args.self.now c.args.n c.args.query c.in-Diagnosis.run' c.deref_mut.result.now
    (subst (λ (r : Running). IsOn c.args.query c.args.model.now c.args.self.now r) c.in-Diagnosis.is c.requires.on) c.deref_mut.ensures.value

pub returns-in_ok-running-in-Diagnosis-clause-kept : goal.returns-in_ok-running-in-Diagnosis-clause-kept
returns-in_ok-running-in-Diagnosis-clause-kept c =
    let ran = c.in_ok-running-in-Diagnosis in
    let run = c.run in
    diagnosis_ran c.args.model.now c.args.self.now c.args.n c.args.query c.in-Diagnosis.run' _ c.deref_mut.result.now run.new.self ran.field-0
    (subst (λ (r : Running). IsOn c.args.query c.args.model.now c.args.self.now r) c.in-Diagnosis.is c.requires.on)
    (subst (λ (r : Running). trials (kept_walk r) + c.args.n ≡ sum_of c.args.query) c.in-Diagnosis.is c.requires.sum) c.deref_mut.ensures.value
    ran.ensures.query ran.ensures.walk run.ensures.plant run.ensures.facts ran.ensures.k run.ensures.distinct
    (ap (λ (d : Diagnosed). record d { outcome = ran.field-0 }) c.deref_mut-in-Diagnosis.ensures.value)

pub run-requires-in-Recovery-clause-suit : goal.run-requires-in-Recovery-clause-suit
run-requires-in-Recovery-clause-suit c =
    recovery_suits c.args.model.now c.args.self.now c.args.n c.args.query c.in-Recovery.run' c.deref_mut-in-Recovery.result.now
    (subst (λ (r : Running). IsOn c.args.query c.args.model.now c.args.self.now r) c.in-Recovery.is c.requires.on) c.deref_mut-in-Recovery.ensures.value

pub returns-in_ok-running-in-Recovery-clause-kept : goal.returns-in_ok-running-in-Recovery-clause-kept
returns-in_ok-running-in-Recovery-clause-kept c =
    let ran = c.in_ok-running-in-Recovery in
    let run = c.run-in-Recovery in
    recovery_ran c.args.model.now c.args.self.now c.args.n c.args.query c.in-Recovery.run' _ c.deref_mut-in-Recovery.result.now run.new.self ran.field-0
    (subst (λ (r : Running). IsOn c.args.query c.args.model.now c.args.self.now r) c.in-Recovery.is c.requires.on)
    (subst (λ (r : Running). trials (kept_walk r) + c.args.n ≡ sum_of c.args.query) c.in-Recovery.is c.requires.sum) c.deref_mut-in-Recovery.ensures.value
    ran.ensures.query ran.ensures.walk run.ensures.plant run.ensures.aim
    (ap (λ (d : Recovering). record d { outcome = ran.field-0 }) c.deref_mut-in-Recovery-2.ensures.value)

pub run-requires-in-Test-clause-suit : goal.run-requires-in-Test-clause-suit
run-requires-in-Test-clause-suit c =
    test_suits c.args.model.now c.args.self.now c.args.n c.args.query c.in-Test.run' c.deref_mut-in-Test.result.now
    (subst (λ (r : Running). IsOn c.args.query c.args.model.now c.args.self.now r) c.in-Test.is c.requires.on) c.deref_mut-in-Test.ensures.value

pub returns-in_ok-running-in-Test-clause-kept : goal.returns-in_ok-running-in-Test-clause-kept
returns-in_ok-running-in-Test-clause-kept c =
    let ran = c.in_ok-running-in-Test in
    let run = c.run-in-Test in
    test_ran c.args.model.now c.args.self.now c.args.n c.args.query c.in-Test.run' _ c.deref_mut-in-Test.result.now run.new.self ran.field-0
    (subst (λ (r : Running). IsOn c.args.query c.args.model.now c.args.self.now r) c.in-Test.is c.requires.on)
    (subst (λ (r : Running). trials (kept_walk r) + c.args.n ≡ sum_of c.args.query) c.in-Test.is c.requires.sum) c.deref_mut-in-Test.ensures.value
    ran.ensures.query ran.ensures.walk run.ensures.plant run.ensures.aim run.ensures.var
    (ap (λ (d : Testing). record d { outcome = ran.field-0 }) c.deref_mut-in-Test-2.ensures.value)

pub run-requires-in-Window-clause-suit : goal.run-requires-in-Window-clause-suit
run-requires-in-Window-clause-suit c =
    window_suits c.args.model.now c.args.self.now c.args.n c.args.query c.in-Window.run' c.deref_mut-in-Window.result.now
    (subst (λ (r : Running). IsOn c.args.query c.args.model.now c.args.self.now r) c.in-Window.is c.requires.on) c.deref_mut-in-Window.ensures.value

pub returns-in_ok-running-in-Window-clause-kept : goal.returns-in_ok-running-in-Window-clause-kept
returns-in_ok-running-in-Window-clause-kept c =
    let ran = c.in_ok-running-in-Window in
    let run = c.run-in-Window in
    window_ran c.args.model.now c.args.self.now c.args.n c.args.query c.in-Window.run' _ c.deref_mut-in-Window.result.now run.new.self ran.field-0
    (subst (λ (r : Running). IsOn c.args.query c.args.model.now c.args.self.now r) c.in-Window.is c.requires.on)
    (subst (λ (r : Running). trials (kept_walk r) + c.args.n ≡ sum_of c.args.query) c.in-Window.is c.requires.sum) c.deref_mut-in-Window.ensures.value
    ran.ensures.query ran.ensures.walk run.ensures.plant run.ensures.steps ran.ensures.k
    (ap (λ (d : Tracing). record d { outcome = ran.field-0 }) c.deref_mut-in-Window-2.ensures.value)
