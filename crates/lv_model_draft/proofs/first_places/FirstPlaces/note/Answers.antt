use Rattle.std.proofs.Common.{◌≡◌, ◌∙◌, sym, ap, false, nat_eq, ◌∷◌, [], ◌++◌, is_some, if◌then◌else◌}
use Rattle.std.specs.Cmp.Lexicographic.{pointwise, nat_list_eq_equiv}
use Rattle.lv_base.specs.Names.{is_named}
use Rattle.lv_model_draft.specs.Places.{place_of}
use Rattle.lv_model_draft.proofs.KeyLemmas.{inserted}
use Rattle.lv_model_draft.proofs.first_places.FirstPlaces.note.Goals as goal

-- a name is compared with a key the other way round than with a text
pub returns-clause-ok : goal.returns-clause-ok
returns-clause-ok c =
    let name = c.args.name.now in
    let key = c.in_ok-key.key in
    let absent : is_some (place_of name c.args.self.now) ≡ false = ap is_some (sym c.find.ensures) ∙ sym c.is_some.ensures ∙ c.if-is_some.false in
    inserted (λ k. k.items) (λ j k. pointwise nat_eq j.items k.items) (is_named name) key name c.args.place c.self.inside.places.entries c.insert.new.self.entries c.args.self.now
    (λ k. nat_list_eq_equiv.symm key.items k.items ∙ ap (λ bytes. pointwise nat_eq k.items bytes) c.in_ok-key.ensures.items) c.in_ok-key.ensures.items c.self.view_is c.in_ok-insert.ensures.entries absent
    ∙ ap (λ b. if b then c.args.self.now else c.args.self.now ++ (name, c.args.place) ∷ []) (sym absent)
