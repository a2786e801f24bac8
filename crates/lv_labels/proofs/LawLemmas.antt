-- A labelling is one.
use Rattle.std.proofs.Common.{◌≡◌, Bool, true, false, List, [], ◌∷◌, filter, refl, sym, ap, ◌∙◌}
use Rattle.lv_base.specs.declared.ids.Lit.{Lit}
use Rattle.lv_model.specs.declared.plant.Plant.{Plant}
use Rattle.lv_reply.specs.declared.labels.Label.{Label}
use Rattle.lv_labels.specs.declared.labelling.Labelling.TheVariants.{Contradiction, Labels}
use Rattle.lv_labels.specs.Labels.{AreFound, all_labels, label_literal}
use Rattle.lv_labels.specs.Laws.{LabellingIsOne}

same_bool : (a b : Bool) → (a ≡ true → b ≡ true) → (b ≡ true → a ≡ true) → a ≡ b
same_bool true b f g = sym (f refl)
same_bool false true f g = g refl
same_bool false false f g = refl

-- two tests that tell the same leave the same
filter_same : {X : Type 0} (p q : X → Bool) → ((x : X) → p x ≡ q x) → (xs : List X) → filter p xs ≡ filter q xs
filter_same p q same [] = refl
filter_same p q same (x ∷ xs) = by_value (q x) (same x) refl (filter_same p q same xs)
  where
    by_value : (b : Bool) → p x ≡ q x → q x ≡ b → filter p xs ≡ filter q xs → filter p (x ∷ xs) ≡ filter q (x ∷ xs)
    by_value true e f ih = rw (e, f) (ap (λ t. x ∷ t) ih)
    by_value false e f ih = rw (e, f) ih

same_labels : (plant : Plant) (literals : List Lit) (one other : List Label) → AreFound plant literals one → AreFound plant literals other → one ≡ other
same_labels plant literals one other a b =
    a.listed
    ∙ filter_same (λ (x : Label). a.has (label_literal plant x)) (λ (x : Label). b.has (label_literal plant x))
    (λ x. same_bool (a.has (label_literal plant x)) (b.has (label_literal plant x)) (λ e. b.complete (label_literal plant x) (a.sound (label_literal plant x) e)) (λ e. a.complete (label_literal plant x) (b.sound (label_literal plant x) e)))
    (all_labels plant)
    ∙ sym b.listed

pub labelling_is_one : LabellingIsOne
labelling_is_one plant literals Contradiction Contradiction a b = refl
labelling_is_one plant literals Contradiction (Labels other) a b = absurd (b.consistent a)
labelling_is_one plant literals (Labels one) Contradiction a b = absurd (a.consistent b)
labelling_is_one plant literals (Labels one) (Labels other) a b = ap (λ (ls : List Label). Labels ls) (same_labels plant literals one other a b)
