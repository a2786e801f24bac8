-- The modes of names, taken one by one.
use Rattle.std.proofs.Common.{◌≡◌, ◌+◌, ◌<◌, ◌≤◌, ℕ, length, drop, get_or, List, [], ◌∷◌, ◌++◌, Option, Some, None, Result, Ok, Err, refl, sym, ap, ◌∙◌, append_assoc}
use Rattle.std.proofs.lemmas.List.{append-nil, drop_more, drop_all}
use Rattle.lv_base.specs.declared.ids.ValId.{ValId}
use Rattle.lv_model.specs.declared.plant.ComponentType.{ComponentType}
use Rattle.lv_reader.specs.declared.code.ModelCode.{ModelCode}
use Rattle.lv_reader.specs.declared.code.ModelCode.TheVariants.{UnknownName}
use Rattle.lv_model_entries.specs.Places.{mode_place}
use Rattle.lv_model_entries.specs.Entries.{known, on_ok, mode_places}

-- modes and those after them
abbrev pub joined_places : List ValId → Result (List ValId) ModelCode → Result (List ValId) ModelCode
joined_places front rest = on_ok rest (λ back. Ok (front ++ back))

pub joined_none : (rest : Result (List ValId) ModelCode) → joined_places [] rest ≡ rest
joined_none (Ok ms) = refl
joined_none (Err code) = refl

moved_on : (front : List ValId) (m : ValId) (rest : Result (List ValId) ModelCode) → joined_places (front ++ m ∷ []) rest ≡ joined_places front (on_ok rest (λ ms. Ok (m ∷ ms)))
moved_on front m (Err code) = refl
moved_on front m (Ok ms) = ap Ok (append_assoc front (m ∷ []) ms)

-- one more mode is taken
pub place_taken : (t : ComponentType) (left rest : List (List ℕ)) (name : List ℕ) (front : List ValId) (m : ValId) (whole : Result (List ValId) ModelCode) → left ≡ name ∷ rest
    → mode_place t name ≡ Some m → joined_places front (mode_places t left) ≡ whole → joined_places (front ++ m ∷ []) (mode_places t rest) ≡ whole
place_taken t left rest name front m whole same found is =
    moved_on front m (mode_places t rest)
    ∙ ap (λ (o : Option ValId). joined_places front (known o UnknownName (λ x. on_ok (mode_places t rest) (λ ms. Ok (x ∷ ms))))) (sym found)
    ∙ ap (λ (ns : List (List ℕ)). joined_places front (mode_places t ns)) (sym same) ∙ is

-- a name of no mode is the first fault
pub place_missing : (t : ComponentType) (left rest : List (List ℕ)) (name : List ℕ) (front : List ValId) (whole : Result (List ValId) ModelCode) → left ≡ name ∷ rest
    → mode_place t name ≡ None → joined_places front (mode_places t left) ≡ whole → whole ≡ Err UnknownName
place_missing t left rest name front whole same none is =
    sym is ∙ ap (λ (ns : List (List ℕ)). joined_places front (mode_places t ns)) same
    ∙ ap (λ (o : Option ValId). joined_places front (known o UnknownName (λ x. on_ok (mode_places t rest) (λ ms. Ok (x ∷ ms))))) none

-- what is left begins with the name there
pub left_at : (names : List (List ℕ)) (i : ℕ) (name : List ℕ) → i < length names → name ≡ get_or names i name → drop i names ≡ name ∷ drop (i + 1) names
left_at names i name inside is = drop_more names i name inside ∙ ap (λ (x : List ℕ). x ∷ drop (i + 1) names) (sym is)

-- behind the last name all modes are taken
pub places_taken : (t : ComponentType) (names : List (List ℕ)) (i : ℕ) (front : List ValId) (whole : Result (List ValId) ModelCode) → length names ≤ i
    → joined_places front (mode_places t (drop i names)) ≡ whole → whole ≡ Ok front
places_taken t names i front whole past is =
    sym is ∙ ap (λ (ns : List (List ℕ)). joined_places front (mode_places t ns)) (drop_all i names past) ∙ ap Ok (append-nil front)
