use Rattle.std.proofs.Common.{◌∙◌, sym, ap, nat_eq}
use Rattle.std.specs.Cmp.Lexicographic.{pointwise, nat_list_eq_equiv}
use Rattle.lv_session_request.specs.Held.{has_name, sighting_of}
use Rattle.lv_session_request.proofs.HeldLemmas.{put_last}
use Rattle.lv_session_request.proofs.held.Held.push.Goals as goal

-- a name is compared with a key the other way round than with a text
pub returns-clause-ok : goal.returns-clause-ok
returns-clause-ok c =
    let s = c.args.sighting in
    let key = c.into_vec.result in
    put_last (λ e. sighting_of e.0.items e.1) (λ j k. pointwise nat_eq j.items k.items) (has_name s.name) key (record { var = s.var; val = s.val }) s c.self.inside.table.entries c.insert.new.self.entries c.args.self.now
    (λ e. nat_list_eq_equiv.symm e.0.items s.name ∙ ap (λ bytes. pointwise nat_eq bytes e.0.items) (sym c.into_vec.ensures))
    (ap (λ bytes. sighting_of bytes (record { var = s.var; val = s.val })) c.into_vec.ensures)
    c.self.view_is c.in_ok-insert.ensures.entries c.requires
