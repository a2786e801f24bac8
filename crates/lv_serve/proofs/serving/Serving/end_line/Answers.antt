-- Where the serving stands once a line has ended.
use Rattle.std.proofs.Common.{◌≡◌, ◌++◌, rules, refl, nat_eq, length, true}
use Rattle.lv_serve.proofs.StandingLemmas.{stands_longer, stands_whole, stands_answered, front_of_ended, ok_weaker, err_weaker, at_err}
use Rattle.lv_serve.proofs.PieceLemmas.{next_front}
use Rattle.lv_serve.proofs.serving.Serving.end_line.Goals as goal

pub returns-then-is_empty-clause-ok : goal.returns-then-is_empty-clause-ok
returns-then-is_empty-clause-ok g c =
    let empty : nat_eq (length c.args.self.now.line.bytes) 0 ≡ true = search rules in
    λ start read before at. ok_weaker c.answer_whole.result
    (λ answered. stands_answered g.L.Responder.next g.L.Responder.says g.met.L.Responder.long_goes g.met.L.Responder.long_says start (read ++ c.args.last.now) before _ _ _ c.answer_whole.new.self
    (stands_whole g.L.Responder.next g.L.Responder.says start read c.args.last.now before _ c.args.self.now c.requires empty at) answered)
    c.answer_whole.ensures.ok

pub returns-then-is_empty-clause-err : goal.returns-then-is_empty-clause-err
returns-then-is_empty-clause-err g c =
    let empty : nat_eq (length c.args.self.now.line.bytes) 0 ≡ true = search rules in
    λ start read before at. err_weaker c.answer_whole.result
    (λ front. front_of_ended g.L.Responder.next g.L.Responder.says g.met.L.Responder.long_goes g.met.L.Responder.long_says start (read ++ c.args.last.now) before _ _ _
    (stands_whole g.L.Responder.next g.L.Responder.says start read c.args.last.now before _ c.args.self.now c.requires empty at) front)
    c.answer_whole.ensures.err

pub returns-in_err-push-clause-err : goal.returns-in_err-push-clause-err
returns-in_err-push-clause-err g c =
    λ start read before at. at_err c.from_residual.result (next_front g.L.Responder.next g.L.Responder.says start read c.args.last.now before _ c.args.self.now at)

pub returns-clause-ok : goal.returns-clause-ok
returns-clause-ok g c =
    λ start read before at. ok_weaker c.answer.result
    (λ answered. stands_answered g.L.Responder.next g.L.Responder.says g.met.L.Responder.long_goes g.met.L.Responder.long_says start (read ++ c.args.last.now) before _ _ _ c.answer.new.self
    (stands_longer g.L.Responder.next g.L.Responder.says start read c.args.last.now before _ c.args.self.now _ c.requires refl refl c.in_ok-push.ensures.ok at) answered)
    c.answer.ensures.ok

pub returns-clause-err : goal.returns-clause-err
returns-clause-err g c =
    λ start read before at. err_weaker c.answer.result
    (λ front. front_of_ended g.L.Responder.next g.L.Responder.says g.met.L.Responder.long_goes g.met.L.Responder.long_says start (read ++ c.args.last.now) before _ _ _
    (stands_longer g.L.Responder.next g.L.Responder.says start read c.args.last.now before _ c.args.self.now _ c.requires refl refl c.in_ok-push.ensures.ok at) front)
    c.answer.ensures.err
