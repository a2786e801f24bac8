use Rattle.std.proofs.Common.{◌∙◌, ap, nat_eq}
use Rattle.std.specs.Cmp.Lexicographic.{pointwise, nat_list_eq_equiv}
use Rattle.lv_base.specs.Names.{is_named}
use Rattle.lv_model_draft.specs.Places.{place_of}
use Rattle.lv_model_draft.proofs.KeyLemmas.{lookup-seen}
use Rattle.lv_model_draft.proofs.first_places.FirstPlaces.find.Goals as goal

-- a name is compared with a key the other way round than with a text
pub returns : goal.returns
returns c =
    c.copied.ensures ∙ c.get.ensures.value
    ∙ lookup-seen (λ k. k.items) (λ k. pointwise nat_eq c.args.name.now k.items) (is_named c.args.name.now) (λ k. nat_list_eq_equiv.symm c.args.name.now k.items) c.self.inside.places.entries
    ∙ ap (place_of c.args.name.now) c.self.view_is
