-- What is observed of a step are observables of the plant with values that they have, and its parts are then in modes that they have.
use Rattle.std.proofs.Common.{◌≡◌, ◌+◌, ◌<◌, ◌≤◌, ℕ, zero, suc, Bool, true, false, cond, List, [], ◌∷◌, ◌++◌, length, map, take, decimal, slice_get, slice_index_or, Option, Some, None, refl, sym, subst, ap, ◌∙◌, arith, All}
use Rattle.std.specs.List.{flat_map}
use Rattle.std.specs.Option.{option_map_or}
use Rattle.std.specs.Cmp.Derive.{both_true}
use Rattle.std.proofs.lemmas.Bool.{and_parts, eqb-true, lt-ltb}
use Rattle.std.proofs.lemmas.List.{append_assoc, length-append, length-map}
use Rattle.std.proofs.lemmas.List.Elements.{All-cons, All-nil, All-append, All-head, All-tail, All-take}
use Rattle.lv_base.specs.declared.ids.ValId.{ValId}
use Rattle.lv_base.specs.declared.ids.VarId.{VarId}
use Rattle.lv_base.specs.declared.names.Class.{Class}
use Rattle.lv_base.specs.declared.range.Range.{Range}
use Rattle.lv_base.specs.Tree.{number_of, value_of}
use Rattle.lv_base.specs.Fits.{has_value}
use Rattle.lv_model.specs.declared.plant.Plant.{Plant}
use Rattle.lv_model.specs.declared.plant.ComponentType.{ComponentType}
use Rattle.lv_model.specs.declared.plant.Variable.{Variable}
use Rattle.lv_model.specs.declared.plant.Part.{Part}
use Rattle.lv_model.specs.Lists.{sizes, part_width, variable_count}
use Rattle.lv_model.specs.Ranges.{plant_ranges}
use Rattle.lv_model.specs.WellFormed.{is_well_formed, firsts_follow, PartEnds, PartReads}
use Rattle.lv_model.proofs.Reading.{follow_pass, ends-of_well_formed, parts-of_well_formed, length-plant_ranges}
use Rattle.lv_session.specs.lv_model_names.Names.{is_observable_class, is_observable, type_classes, part_classes, classes}
use Rattle.lv_meaning.specs.Ranges.{modes_fit}
use Rattle.lv_session.specs.lv_session_request.Requests.{IsSightingIn}
use Rattle.lv_plant_step.specs.lv_system.Laws.{IsAssignment}
use Rattle.lv_plant.specs.declared.seeing.TheConstants.{SEEN}
use Rattle.lv_plant.specs.Seeing.{observables_from, part_observables, observables, letter, seen_from, seen, modes_in}

-- the variable is there, and is an observable by these classes
pub record Sees (bound : ℕ) (cs : List (Option Class)) (x : VarId) : Type 0 where
  pub below : x.0 < bound
  pub sees : is_observable cs x.0 ≡ true

abbrev class_of : Variable → Option Class
class_of v = Some v.class

-- the class behind a front
at_end : {X : Type 0} (front : List X) (x : X) (more : List X) → slice_get (front ++ (x ∷ more)) (length front) ≡ Some x
at_end [] x more = refl
at_end (y ∷ ys) x more = at_end ys x more

next_front : {X : Type 0} (front : List X) (x : X) → length (front ++ (x ∷ [])) ≡ length front + 1
next_front front x = length-append front (x ∷ [])

-- a variable with this class, and those behind it
with_class : (bound : ℕ) (front : List (Option Class)) (v : Variable) (more : List (Option Class)) (later : List VarId) → length front < bound
    → All (Sees bound (front ++ (Some v.class ∷ more))) later → (b : Bool) → is_observable_class v.class ≡ b
    → All (Sees bound (front ++ (Some v.class ∷ more))) (cond b (record { 0 = length front } ∷ later) later)
with_class bound front v more later below all true is =
    All-cons (Sees bound (front ++ (Some v.class ∷ more))) (record { 0 = length front }) later
    (record {
      below = below;
      sees = ap (λ (o : Option (Option Class)). option_map_or (λ (c : Option Class). option_map_or is_observable_class c false) o false) (at_end front (Some v.class) more) ∙ is;
    }) all
with_class bound front v more later below all false is = all

among_variables : (bound : ℕ) (front : List (Option Class)) (vs : List Variable) (rest : List (Option Class)) → length front + length vs ≤ bound
    → All (Sees bound (front ++ (map class_of vs ++ rest))) (observables_from (length front) vs)
among_variables bound front [] rest within = λ k d below. absurd (omega arith)
among_variables bound front (v ∷ vs) rest within =
    let more : List (Option Class) = map class_of vs ++ rest in
    let long : length (front ++ (Some v.class ∷ [])) ≡ length front + 1 = next_front front (Some v.class) in
    let same : (front ++ (Some v.class ∷ [])) ++ more ≡ front ++ (Some v.class ∷ more) = append_assoc front (Some v.class ∷ []) more in
    with_class bound front v more (observables_from (length front + 1) vs) (omega (arith, within))
    (subst (λ (n : ℕ). All (Sees bound (front ++ (Some v.class ∷ more))) (observables_from n vs)) long
    (subst (λ (cs : List (Option Class)). All (Sees bound cs) (observables_from (length (front ++ (Some v.class ∷ []))) vs)) same
    (among_variables bound (front ++ (Some v.class ∷ [])) vs rest (omega (arith, long, within)))))
    (is_observable_class v.class) refl

-- the observables of a part, whose variables stand behind the front
in_part : (bound : ℕ) (first : ℕ) (front : List (Option Class)) (o : Option ComponentType) (rest : List (Option Class)) → first ≡ length front
    → length front + option_map_or (λ (t : ComponentType). length t.variables + 1) o 0 ≤ bound
    → All (Sees bound (front ++ (option_map_or type_classes o [] ++ rest))) (option_map_or (λ (t : ComponentType). observables_from (first + 1) t.variables) o [])
in_part bound first front None rest first_is within = λ k d below. absurd (omega arith)
in_part bound first front (Some t) rest first_is within =
    let long : length (front ++ (None ∷ [])) ≡ length front + 1 = next_front front None in
    let at : length (front ++ (None ∷ [])) ≡ first + 1 = omega (arith, long, first_is) in
    let same : (front ++ (None ∷ [])) ++ (map class_of t.variables ++ rest) ≡ front ++ (None ∷ (map class_of t.variables ++ rest)) = append_assoc front (None ∷ []) (map class_of t.variables ++ rest) in
    subst (λ (n : ℕ). All (Sees bound (front ++ (None ∷ (map class_of t.variables ++ rest)))) (observables_from n t.variables)) at
    (subst (λ (cs : List (Option Class)). All (Sees bound cs) (observables_from (length (front ++ (None ∷ []))) t.variables)) same
    (among_variables bound (front ++ (None ∷ [])) t.variables rest (omega (arith, long, within))))

width_of : (o : Option ComponentType) → length (option_map_or type_classes o []) ≡ option_map_or (λ (t : ComponentType). length t.variables + 1) o 0
width_of None = refl
width_of (Some t) = let long : length (map class_of t.variables) ≡ length t.variables = length-map t.variables class_of in omega (arith, long)

in_parts : (bound : ℕ) (types : List ComponentType) (front : List (Option Class)) (ps : List Part) → firsts_follow types (length front) ps ≡ true → All (PartEnds bound types) ps
    → All (Sees bound (front ++ flat_map (part_classes types) ps)) (flat_map (part_observables types) ps)
in_parts bound types front [] follow ends = λ k d below. absurd (omega arith)
in_parts bound types front (p ∷ ps) follow ends =
    let rest : List (Option Class) = flat_map (part_classes types) ps in
    let two = and_parts _ _ follow in
    let first : p.first.0 ≡ length front = eqb-true p.first.0 (length front) two.0 in
    let last : p.first.0 + part_width types p ≤ bound = (All-head (PartEnds bound types) p ps ends).last in
    let long : length (front ++ part_classes types p) ≡ length front + part_width types p =
    length-append front (part_classes types p) ∙ ap (λ (n : ℕ). length front + n) (width_of (slice_get types p.kind)) in
    let same : (front ++ part_classes types p) ++ rest ≡ front ++ (part_classes types p ++ rest) = append_assoc front (part_classes types p) rest in
    All-append (Sees bound (front ++ (part_classes types p ++ rest))) (part_observables types p) (flat_map (part_observables types) ps)
    (in_part bound p.first.0 front (slice_get types p.kind) rest first (omega (arith, first, last)))
    (subst (λ (cs : List (Option Class)). All (Sees bound cs) (flat_map (part_observables types) ps)) same
    (in_parts bound types (front ++ part_classes types p) ps (subst (λ (n : ℕ). firsts_follow types n ps ≡ true) (sym long) two.1) (All-tail (PartEnds bound types) p ps ends)))

module _ (plant : Plant) (h : is_well_formed plant ≡ true) where
  -- the observables are variables of the plant that are observed
  pub all_seen : All (Sees (variable_count plant) (classes plant)) (observables plant)
  all_seen = in_parts (variable_count plant) plant.types [] plant.parts (follow_pass plant h) (ends-of_well_formed plant h)

  variables_sized : variable_count plant ≡ length (sizes plant)
  variables_sized = sym (length-plant_ranges plant) ∙ sym (length-map (plant_ranges plant) (λ (r : Range). r.size))

-- a number below a variable's size is one of its values
by_size : (ranges : List Range) (x v : ℕ) → v < slice_index_or (map (λ (r : Range). r.size) ranges) x 0 → has_value ranges x v ≡ true
by_size [] x v h = absurd (omega (arith, h))
by_size (r ∷ rs) zero v h = lt-ltb v r.size h
by_size (r ∷ rs) (suc x) v h = by_size rs x v h

module _ (plant : Plant) (h : is_well_formed plant ≡ true) (b : List ValId) (is : IsAssignment (sizes plant) b) where
  -- the value of a variable is one that it has
  value_there : (x : ℕ) → x < variable_count plant → has_value (plant_ranges plant) x (number_of b x) ≡ true
  value_there x below = let all = variables_sized plant h in by_size (plant_ranges plant) x (number_of b x) (is.in_range x (omega (arith, below, all)))

  sightings : (front : List ℕ) (n : ℕ) (xs : List VarId) → All (Sees (variable_count plant) (classes plant)) xs → All (IsSightingIn plant) (seen_from front n b xs)
  sightings front n [] all = All-nil (IsSightingIn plant)
  sightings front n (x ∷ xs) all =
      let one = All-head (Sees (variable_count plant) (classes plant)) x xs all in
      All-cons (IsSightingIn plant) (record { name = front ++ decimal n; var = x; val = value_of b x.0 }) (seen_from front (n + 1) b xs)
      (record { observable = one.sees; value = value_there x.0 one.below })
      (sightings front (n + 1) xs (All-tail (Sees (variable_count plant) (classes plant)) x xs all))

  -- what is observed of a step that ends so can be observed
  pub seen_in : (odd : Bool) → All (IsSightingIn plant) (seen plant odd b)
  seen_in odd = sightings (letter odd) 1 (take SEEN (observables plant)) (All-take (Sees (variable_count plant) (classes plant)) SEEN (observables plant) (all_seen plant h))

  modes_there : (ps : List Part) → All (PartReads (variable_count plant) plant.types) ps → modes_fit (plant_ranges plant) ps (modes_in ps b) ≡ true
  modes_there [] all = refl
  modes_there (p ∷ ps) all =
      both_true (value_there p.first.0 (All-head (PartReads (variable_count plant) plant.types) p ps all).first)
      (modes_there ps (All-tail (PartReads (variable_count plant) plant.types) p ps all))

  -- the modes that it leads to are modes of the parts
  pub modes_in_fit : modes_fit (plant_ranges plant) plant.parts (modes_in plant.parts b) ≡ true
  modes_in_fit = modes_there plant.parts (parts-of_well_formed plant h)
