use Rattle.std.proofs.Common.{rules, ◌≡◌, ◌∙◌, ap, map, IfOk}
use Rattle.std.proofs.lemmas.Result.{IfOk-weaker}
use Rattle.std.specs.Map.{values_of}
use Rattle.lv_session_request.specs.Held.{observation_of}
use Rattle.lv_session_request.proofs.HeldLemmas.{without_names}
use Rattle.lv_session_request.proofs.held.Held.observations.Goals as goal

pub returns : goal.returns
returns c =
    let entries = c.self.inside.table.entries in
    let told : IfOk c.collect.result (λ out. out.items ≡ values_of entries) = search rules in
    IfOk-weaker c.collect.result _ _ (λ out is. is ∙ without_names (λ k. k.items) entries ∙ ap (map observation_of) c.self.view_is) told
