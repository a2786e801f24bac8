use Rattle.std.proofs.Common.{◌∙◌, sym, ap, nat_eq, map, filter}
use Rattle.std.specs.Cmp.Lexicographic.{pointwise, nat_list_eq_equiv, same_text}
use Rattle.lv_session_request.specs.Held.{has_name, lacks_name, sighting_of}
use Rattle.lv_session_request.proofs.HeldLemmas.{one_out}
use Rattle.lv_session_request.proofs.held.Held.take_out.Goals as goal

-- two keys that are this name are one
pub returns : goal.returns
returns c =
    let name = c.args.name.now in
    ap (map (λ e. sighting_of e.0.items e.1)) c.shift_remove.ensures.entries
    ∙ one_out (λ e. sighting_of e.0.items e.1) (λ k. pointwise nat_eq name k.items) (has_name name) (λ e. nat_list_eq_equiv.symm e.0.items name)
    (λ j k. pointwise nat_eq j.items k.items) (λ j k h. ap (λ bytes. pointwise nat_eq bytes k.items) (same_text name j.items (sym h))) c.self.inside.table.entries c.self.invariant
    ∙ ap (filter (lacks_name name)) c.self.view_is
