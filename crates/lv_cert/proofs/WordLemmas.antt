-- Words one after the other.
use Rattle.std.proofs.Common.{◌≡◌, List, ℕ, [], ◌∷◌, ◌++◌, refl, sym, ap, ◌∙◌}
use Rattle.std.specs.Prelude.{codes}
use Rattle.std.proofs.lemmas.List.{append_assoc}
use Rattle.lv_cert.specs.Texts.{spaced}

pub spaced_append : (xs ys : List (List ℕ)) → spaced (xs ++ ys) ≡ spaced xs ++ spaced ys
spaced_append [] ys = refl
spaced_append (x ∷ xs) ys =
    ap (λ t. codes " " ++ x ++ t) (spaced_append xs ys) ∙ sym (append_assoc (codes " " ++ x) (spaced xs) (spaced ys))

-- what is added of a clause behind its literals
pub hints_added : (out xs ys all : List ℕ) (hs : List (List ℕ)) → xs ≡ out ++ spaced (codes "0" ∷ []) → ys ≡ xs ++ spaced hs → all ≡ ys ++ spaced (codes "0" ∷ [])
    → all ≡ out ++ spaced (codes "0" ∷ (hs ++ codes "0" ∷ []))
hints_added out xs ys all hs e f g =
    g ∙ ap (λ t. t ++ spaced (codes "0" ∷ [])) (f ∙ ap (λ t. t ++ spaced hs) e)
    ∙ ap (λ t. t ++ spaced (codes "0" ∷ [])) (append_assoc out (spaced (codes "0" ∷ [])) (spaced hs))
    ∙ append_assoc out (spaced (codes "0" ∷ []) ++ spaced hs) (spaced (codes "0" ∷ []))
    ∙ ap (λ t. out ++ (spaced (codes "0" ∷ []) ++ t)) (sym (spaced_append hs (codes "0" ∷ [])))

-- what is added of a clause
pub clause_added : (out xs ys all : List ℕ) (ls hs : List (List ℕ)) → xs ≡ out ++ codes "clause" → ys ≡ xs ++ spaced ls → all ≡ ys ++ spaced hs
    → all ≡ out ++ (codes "clause" ++ spaced (ls ++ hs))
clause_added out xs ys all ls hs e f g =
    g ∙ ap (λ t. t ++ spaced hs) (f ∙ ap (λ t. t ++ spaced ls) e)
    ∙ ap (λ t. t ++ spaced hs) (append_assoc out (codes "clause") (spaced ls))
    ∙ append_assoc out (codes "clause" ++ spaced ls) (spaced hs)
    ∙ ap (λ t. out ++ (codes "clause" ++ t)) (sym (spaced_append ls hs))
