-- What the whole call promises, from what carrying out and telling do.
use Rattle.std.proofs.Common.{sym, ◌∙◌, map, subst, Global}
use Rattle.std.specs.Prelude.{string_bytes}
use Rattle.lv_run_words.specs.Words.{command_of}
use Rattle.lv_run.specs.Inputs.{opens_of}
use Rattle.lv_run.specs.Expected.{Meets, Follows, serves, judges, shows}
use Rattle.lv_run.specs.Faults.{ended_status}
use Rattle.lv_run.specs.declared.status.Status.{Status}
use Rattle.lv_run_words.specs.declared.commands.Service.TheVariants.{Single, Lanes, Simulation}
use Rattle.lv_run.proofs.ServiceLemmas.{adds_lanes, adds_own_parts, adds_script}
use Rattle.lv_run.proofs.TopLemmas.{reported_meets, status_due, expected_run, expected_check, expected_text, told_verdict, ended_done, session_not_long, certificate_not_long, output_cause}
use Rattle.lv_certcheck.proofs.ProvingLemmas.{exists}
use Rattle.lv_run.proofs.EndLemmas.{expectation, never_refused}
use Rattle.lv_run.proofs.OpenLemmas.{all_opened}
use Rattle.lv_plant.proofs.lv_session.TrueAnswers.{adds_true}
use Rattle.lv_run.proofs.PrintedLemmas.{adds_certified}
use Rattle.lv_run.proofs.top.livingstone.Goals as goal

pub returns-clause-meets : goal.returns-clause-meets
returns-clause-meets g c =
    λ e expects. reported_meets (command_of (map (string_bytes {Z = Global}) c.args.words.items)) e _ _ (ended_status c.carry_out-ended.result) c.tell_end.result
    c.tell_end.ensures.status
    (rw c.as_slice.ensures.value at c.carry_out-ended.ensures.silent) ((rw c.as_slice.ensures.value at c.carry_out-ended.ensures.meets) e expects)

pub returns-clause-output_failed : goal.returns-clause-output_failed
returns-clause-output_failed g c =
    output_cause (ended_status c.carry_out-ended.result) c.tell_end.result
    (λ e. (c.carry_out-ended.ensures.sink.failed e, c.tell_end.ensures.untold e)) c.tell_end.ensures.failed

pub returns-clause-exact : goal.returns-clause-exact
returns-clause-exact g c =
    λ d expects. status_due (g.F.Shelf.faults c.args.shelf.now) (g.F.Shelf.faults c.carry_out-ended.new.shelf) _ _ _ _ _ _ d c.tell_end.result
    (λ e. c.carry_out-ended.ensures.shelf.model_unread (sym (c.tell_end.ensures.status (λ f. cc) (λ f. cc)) ∙ e))
    (λ e. c.carry_out-ended.ensures.shelf.second_unread (sym (c.tell_end.ensures.status (λ f. cc) (λ f. cc)) ∙ e))
    (returns-clause-output_failed g c)
    (returns-clause-meets g c d expects)

pub returns-clause-opens : goal.returns-clause-opens
returns-clause-opens g c =
    all_opened (opens_of (command_of (map (string_bytes {Z = Global}) c.args.words.items))) (g.F.Shelf.opens c.args.shelf.now) (g.F.Shelf.opens c.carry_out-ended.new.shelf) (ended_status c.carry_out-ended.result) c.tell_end.result c.tell_end.ensures.status
    (rw c.as_slice.ensures.value at c.carry_out-ended.ensures.opens)

pub returns-clause-headline : goal.returns-clause-headline
returns-clause-headline g c =
    λ plant session asks done. (
      (subst (λ (s : Status). Meets (serves Single plant session) (g.O.Sink.text c.args.out.now) (g.O.Sink.text c.carry_out-ended.new.out) s) done
          (returns-clause-meets g c (serves Single plant session) (expected_run Single (g.F.Shelf.file c.args.shelf.now) (map (string_bytes {Z = Global}) c.args.words.items) plant session asks))).1,
      ended_done c.carry_out-ended.result _ _ c.tell_end.result c.tell_end.ensures.status c.tell_end.ensures.told done,
    )

pub returns-clause-lanes : goal.returns-clause-lanes
returns-clause-lanes g c =
    λ plant lines asks done. (
      adds_lanes plant lines (g.O.Sink.text c.args.out.now) (g.O.Sink.text c.carry_out-ended.new.out)
          (subst (λ (s : Status). Meets (serves Lanes plant lines) (g.O.Sink.text c.args.out.now) (g.O.Sink.text c.carry_out-ended.new.out) s) done
          (returns-clause-meets g c (serves Lanes plant lines) (expected_run Lanes (g.F.Shelf.file c.args.shelf.now) (map (string_bytes {Z = Global}) c.args.words.items) plant lines asks))).1,
      ended_done c.carry_out-ended.result _ _ c.tell_end.result c.tell_end.ensures.status c.tell_end.ensures.told done,
    )

pub returns-clause-lanes_bytes : goal.returns-clause-lanes_bytes
returns-clause-lanes_bytes g c =
    λ plant lines asks done. adds_own_parts plant lines (g.O.Sink.text c.args.out.now) (g.O.Sink.text c.carry_out-ended.new.out)
    (subst (λ (s : Status). Meets (serves Lanes plant lines) (g.O.Sink.text c.args.out.now) (g.O.Sink.text c.carry_out-ended.new.out) s) done
    (returns-clause-meets g c (serves Lanes plant lines) (expected_run Lanes (g.F.Shelf.file c.args.shelf.now) (map (string_bytes {Z = Global}) c.args.words.items) plant lines asks))).1

pub returns-clause-lanes_complete : goal.returns-clause-lanes_complete
returns-clause-lanes_complete g c =
    λ plant lines asks none. returns-clause-exact g c (serves Lanes plant lines)
    (expected_run Lanes (g.F.Shelf.file c.args.shelf.now) (map (string_bytes {Z = Global}) c.args.words.items) plant lines asks) none

pub returns-clause-plant : goal.returns-clause-plant
returns-clause-plant g c =
    λ plant script asks done. (
      adds_script plant script (g.O.Sink.text c.args.out.now) (g.O.Sink.text c.carry_out-ended.new.out)
          (subst (λ (s : Status). Meets (serves Simulation plant script) (g.O.Sink.text c.args.out.now) (g.O.Sink.text c.carry_out-ended.new.out) s) done
          (returns-clause-meets g c (serves Simulation plant script) (expected_run Simulation (g.F.Shelf.file c.args.shelf.now) (map (string_bytes {Z = Global}) c.args.words.items) plant script asks))).1,
      ended_done c.carry_out-ended.result _ _ c.tell_end.result c.tell_end.ensures.status c.tell_end.ensures.told done,
    )

pub returns-clause-plant_complete : goal.returns-clause-plant_complete
returns-clause-plant_complete g c =
    λ plant script asks none. returns-clause-exact g c (serves Simulation plant script)
    (expected_run Simulation (g.F.Shelf.file c.args.shelf.now) (map (string_bytes {Z = Global}) c.args.words.items) plant script asks) none

pub returns-clause-answers : goal.returns-clause-answers
returns-clause-answers g c =
    λ plant session asks done. adds_true plant session (g.O.Sink.text c.args.out.now) (g.O.Sink.text c.carry_out-ended.new.out) (returns-clause-headline g c plant session asks done).0

pub returns-clause-certified : goal.returns-clause-certified
returns-clause-certified g c =
    λ plant session asks done. adds_certified asks.text plant session (g.O.Sink.text c.args.out.now) (g.O.Sink.text c.carry_out-ended.new.out) asks.verdict
    (returns-clause-headline g c plant session asks done).0

pub returns-clause-written : goal.returns-clause-written
returns-clause-written g c =
    λ text asks done. (
      (subst (λ (s : Status). Meets (shows text) (g.O.Sink.text c.args.out.now) (g.O.Sink.text c.carry_out-ended.new.out) s) done
          (returns-clause-meets g c (shows text) (expected_text (g.F.Shelf.file c.args.shelf.now) (map (string_bytes {Z = Global}) c.args.words.items) text asks))).1,
      ended_done c.carry_out-ended.result _ _ c.tell_end.result c.tell_end.ensures.status c.tell_end.ensures.told done,
    )

pub returns-clause-complete : goal.returns-clause-complete
returns-clause-complete g c =
    λ plant session asks none. returns-clause-exact g c (serves Single plant session)
    (expected_run Single (g.F.Shelf.file c.args.shelf.now) (map (string_bytes {Z = Global}) c.args.words.items) plant session asks) none

pub returns-clause-writes : goal.returns-clause-writes
returns-clause-writes g c =
    λ text asks none. returns-clause-exact g c (shows text)
    (expected_text (g.F.Shelf.file c.args.shelf.now) (map (string_bytes {Z = Global}) c.args.words.items) text asks) none

pub returns-clause-checked : goal.returns-clause-checked
returns-clause-checked g c =
    λ plant certificate asks is. told_verdict (g.F.Shelf.file c.args.shelf.now) (map (string_bytes {Z = Global}) c.args.words.items) plant certificate
    c.carry_out-ended.result _ _ _ _ c.tell_end.result c.tell_end.ensures.status
    (rw c.as_slice.ensures.value at c.carry_out-ended.ensures.verdict) c.tell_end.ensures.told (returns-clause-meets g c) asks is

pub returns-clause-judged : goal.returns-clause-judged
returns-clause-judged g c =
    λ plant certificate verdict asks is none. returns-clause-exact g c (judges verdict)
    (expected_check (g.F.Shelf.file c.args.shelf.now) (map (string_bytes {Z = Global}) c.args.words.items) plant certificate verdict asks is) none

pub returns-clause-ends : goal.returns-clause-ends
returns-clause-ends g c =
    λ told none.
    let due = expectation (g.F.Shelf.file c.args.shelf.now) (command_of (map (string_bytes {Z = Global}) c.args.words.items)) told in
    record { expected = due.expected; is = due.is; ends = returns-clause-exact g c due.expected due.is none }

pub returns-clause-driven : goal.returns-clause-driven
returns-clause-driven g c =
    λ n is refused. never_refused (g.F.Shelf.file c.args.shelf.now) (command_of (map (string_bytes {Z = Global}) c.args.words.items)) n is
    (subst (λ (s : Status). Follows (g.F.Shelf.file c.args.shelf.now) (command_of (map (string_bytes {Z = Global}) c.args.words.items)) s)
    (sym (c.tell_end.ensures.status (λ f. cc) (λ f. cc)) ∙ refused) (rw c.as_slice.ensures.value at c.carry_out-ended.ensures.follows))

pub returns-clause-settles : goal.returns-clause-settles
returns-clause-settles g c =
    λ plant certificate asks none. record {
      verdict = (exists plant certificate).verdict;
      is = (exists plant certificate).is;
      ends = returns-clause-judged g c plant certificate (exists plant certificate).verdict asks (exists plant certificate).is none;
    }

pub returns-clause-short_certificate : goal.returns-clause-short_certificate
returns-clause-short_certificate g c =
    λ plant certificate asks long. certificate_not_long (exists plant certificate).verdict (g.O.Sink.text c.args.out.now) (g.O.Sink.text c.carry_out-ended.new.out) c.tell_end.result
    (returns-clause-meets g c (judges (exists plant certificate).verdict)
    (expected_check (g.F.Shelf.file c.args.shelf.now) (map (string_bytes {Z = Global}) c.args.words.items) plant certificate (exists plant certificate).verdict asks (exists plant certificate).is)) long

pub returns-clause-short_session : goal.returns-clause-short_session
returns-clause-short_session g c =
    λ service plant session asks long. session_not_long service plant session (g.O.Sink.text c.args.out.now) (g.O.Sink.text c.carry_out-ended.new.out) c.tell_end.result
    (returns-clause-meets g c (serves service plant session)
    (expected_run service (g.F.Shelf.file c.args.shelf.now) (map (string_bytes {Z = Global}) c.args.words.items) plant session asks)) long
