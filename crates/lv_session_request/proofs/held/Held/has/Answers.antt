use Rattle.std.proofs.Common.{◌∙◌, ap, nat_eq}
use Rattle.std.specs.Cmp.Lexicographic.{pointwise, nat_list_eq_equiv}
use Rattle.std.specs.List.{list_any}
use Rattle.lv_session_request.specs.Held.{has_name, sighting_of}
use Rattle.lv_session_request.proofs.HeldLemmas.{lookup_any}
use Rattle.lv_session_request.proofs.held.Held.has.Goals as goal

-- a name is compared with a key the other way round than with a text
pub returns : goal.returns
returns c =
    let name = c.args.name.now in
    c.contains_key.ensures
    ∙ lookup_any (λ e. sighting_of e.0.items e.1) (λ k. pointwise nat_eq name k.items) (has_name name) (λ e. nat_list_eq_equiv.symm e.0.items name) c.self.inside.table.entries
    ∙ ap (list_any (has_name name)) c.self.view_is
