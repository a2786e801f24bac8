-- What waits or was written, where a line stands behind the last line feed and where none does.
use Rattle.std.proofs.Common.{◌≡◌, rules, nat_eq, length, true, false}
use Rattle.lv_serve.proofs.StandingLemmas.{waits_none, waits_last, front_last, ok_weaker, err_weaker}
use Rattle.lv_serve.proofs.serving.Serving.answer_last.Goals as goal

pub returns-then-is_empty-clause-ok : goal.returns-then-is_empty-clause-ok
returns-then-is_empty-clause-ok g c =
    let none : nat_eq (length c.args.self.now.line.bytes) 0 ≡ true = search rules in
    λ start read before at. waits_none g.L.Responder.next g.L.Responder.says start read before _ c.args.self.now none at

pub returns-clause-ok : goal.returns-clause-ok
returns-clause-ok g c =
    let some : nat_eq (length c.args.self.now.line.bytes) 0 ≡ false = search rules in
    λ start read before at. ok_weaker c.answer.result (λ answered. waits_last g.L.Responder.next g.L.Responder.says g.met.L.Responder.long_goes g.met.L.Responder.long_says start read before _ _ c.args.self.now c.answer.new.self some answered at) c.answer.ensures.ok

pub returns-clause-err : goal.returns-clause-err
returns-clause-err g c =
    let some : nat_eq (length c.args.self.now.line.bytes) 0 ≡ false = search rules in
    λ start read before at. err_weaker c.answer.result (λ front. front_last g.L.Responder.next g.L.Responder.says g.met.L.Responder.long_goes g.met.L.Responder.long_says start read before _ _ c.args.self.now some front at) c.answer.ensures.err
