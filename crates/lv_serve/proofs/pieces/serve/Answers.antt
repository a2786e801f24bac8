-- What serving came to where the shelf tells the session.
use Rattle.std.proofs.Common.{subst}
use Rattle.lv_serve.specs.Told.{ServesText}
use Rattle.lv_serve.proofs.ToldLemmas.{told_by}
use Rattle.lv_serve.proofs.pieces.serve.Goals as goal

pub returns-clause-told : goal.returns-clause-told
returns-clause-told g c =
    λ session told. subst
    (λ start. ServesText g.L.Responder.next g.L.Responder.says g.L.Responder.has_ended start session (g.O.Sink.text c.args.out.now) (g.O.Sink.text c.serve_all.new.out) c.serve_all.result)
    c.new-serving.ensures.at
    (told_by g.L.Responder.next g.L.Responder.says g.L.Responder.has_ended g.met.L.Responder.ended_stays g.met.L.Responder.ended_silent
    c.new-serving.result.at session _ _ _ _ c.serve_all.result c.serve_all.ensures.serves told)
