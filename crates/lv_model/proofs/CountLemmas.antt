-- Sums that stop at one more than the limit.
use Rattle.std.proofs.Common.{◌≡◌, ◌+◌, ◌<◌, ℕ, zero, suc, Bool, true, false, nat_eq, ◌&&◌, List, [], ◌∷◌, length, map, take, sum_by, slice_get, if◌then◌else◌, refl, sym, ap, ap₂, ◌∙◌, arith, get_or}
use Rattle.std.specs.Option.{option_map_or}
use Rattle.std.proofs.lemmas.List.{take-map}
use Rattle.std.proofs.lemmas.List.Sums.{sum_by-cons, sum_by_more}
use Rattle.lv_model.specs.declared.counts.Denial.{Denial}
use Rattle.lv_model.specs.declared.plant.Domain.{Domain}
use Rattle.lv_model.specs.declared.plant.ComponentType.{ComponentType}
use Rattle.lv_model.specs.declared.plant.Move.{Move}
use Rattle.lv_model.specs.declared.plant.MoveKind.{MoveKind}
use Rattle.lv_model.specs.declared.plant.MoveKind.TheVariants.{Step, Stay, Fault}
use Rattle.lv_model.specs.declared.plant.Part.{Part}
use Rattle.lv_model.specs.Meaning.{is_step_kind}
use Rattle.lv_model.specs.Counts.{held, pairs, guard_count, denied_count, closed_count, goes_count, moves_count, type_count, part_count}
use Rattle.lv_model.specs.Denials.{denial, denied, goes_of, held_type_count, looked_up}

pub pairs_more : (n : ℕ) → pairs (n + 1) ≡ n + pairs n
pairs_more n = let e : n + 1 ≡ suc n = omega arith in ap pairs e

-- one thing more in a sum that is held
pub held_more : {X : Type 0} (f : X → ℕ) (xs : List X) (i : ℕ) (x : X) (total out new : ℕ) → i < length xs → x ≡ get_or xs i x → out ≡ held (total + sum_by f (take i xs)) → new ≡ held (out + f x)
    → new ≡ held (total + sum_by f (take (i + 1) xs))
held_more f xs i x total out new inside is so_far added =
    let more : sum_by f (take (i + 1) xs) ≡ sum_by f (take i xs) + f (get_or xs i x) = sum_by_more f xs i x inside in
    let same : f (get_or xs i x) ≡ f x = sym (ap f is) in
    omega (arith, so_far, added, more, same)

denied_same : (sizes : List ℕ) (mode : ℕ) (m : Move) → denied mode (denial sizes m) ≡ denied_count sizes mode m
denied_same sizes mode m = by (is_step_kind m.kind) (nat_eq m.source.0 mode) (guard_count sizes false m)
  where
    by : (s e : Bool) (n : ℕ) → (if e then (if s then n else 0) else 0) ≡ (if s && e then n else 0)
    by true true n = refl
    by true false n = refl
    by false true n = refl
    by false false n = refl

denied_sum : (sizes : List ℕ) (mode : ℕ) (ms : List Move) → sum_by (denied mode) (map (denial sizes) ms) ≡ closed_count sizes mode ms
denied_sum sizes mode [] = refl
denied_sum sizes mode (m ∷ ms) =
    sum_by-cons (denied mode) (denial sizes m) (map (denial sizes) ms)
    ∙ ap₂ (λ (a b : ℕ). a + b) (denied_same sizes mode m) (denied_sum sizes mode ms)
    ∙ sym (sum_by-cons (denied_count sizes mode) m ms)

denied_taken : (sizes : List ℕ) (mode n : ℕ) (ms : List Move) → sum_by (denied mode) (take n (map (denial sizes) ms)) ≡ closed_count sizes mode (take n ms)
denied_taken sizes mode n ms = ap (λ ds. sum_by (denied mode) ds) (take-map (denial sizes) n ms) ∙ denied_sum sizes mode (take n ms)

pub goes_same : (kind : MoveKind) (sizes : List ℕ) (moves : List Move) (n : ℕ) (m : Move) → goes_of kind sizes (map (denial sizes) moves) n m ≡ goes_count kind sizes moves n m
goes_same Step sizes moves n m = ap (λ (c : ℕ). guard_count sizes true m + c) (denied_taken sizes m.source.0 n moves)
goes_same Stay sizes moves n m = denied_sum sizes m.source.0 moves
goes_same Fault sizes moves n m = refl

looked_up_one : (domains : List Domain) (types : List ComponentType) (k : ℕ) → option_map_or (λ (n : ℕ). n) (slice_get (map (held_type_count domains) types) k) 0 ≡ held (option_map_or (type_count domains) (slice_get types k) 0)
looked_up_one domains [] k = refl
looked_up_one domains (t ∷ ts) zero = refl
looked_up_one domains (t ∷ ts) (suc k) = looked_up_one domains ts k

-- shares that are held come to the same, held
pub looked_up_sum : (domains : List Domain) (types : List ComponentType) (total : ℕ) (ps : List Part)
    → held (total + sum_by (looked_up (map (held_type_count domains) types)) ps) ≡ held (total + sum_by (part_count domains types) ps)
looked_up_sum domains types total [] = refl
looked_up_sum domains types total (p ∷ ps) =
    let one : looked_up (map (held_type_count domains) types) p ≡ held (part_count domains types p) = looked_up_one domains types p.kind in
    let rest = looked_up_sum domains types (total + part_count domains types p) ps in
    let a = sum_by-cons (looked_up (map (held_type_count domains) types)) p ps in
    let b = sum_by-cons (part_count domains types) p ps in
    omega (arith, one, rest, a, b)

-- one move more
pub moved_more : (sizes : List ℕ) (moves left rest : List Move) (ds : List Denial) (i : ℕ) (m : Move) (out two new whole : ℕ) → ds ≡ map (denial sizes) moves → left ≡ m ∷ rest
    → two ≡ held (out + 2) → new ≡ held (two + goes_of m.kind sizes ds i m) → held (out + moves_count sizes moves i left) ≡ whole → held (new + moves_count sizes moves (i + 1) rest) ≡ whole
moved_more sizes moves left rest ds i m out two new whole are cut source_and_target goes so_far =
    let own : goes_of m.kind sizes ds i m ≡ goes_count m.kind sizes moves i m = ap (λ (x : List Denial). goes_of m.kind sizes x i m) are ∙ goes_same m.kind sizes moves i m in
    let all : moves_count sizes moves i left ≡ 2 + goes_count m.kind sizes moves i m + moves_count sizes moves (i + 1) rest = ap (λ (ms : List Move). moves_count sizes moves i ms) cut in
    let added : new ≡ held (two + goes_count m.kind sizes moves i m) = goes ∙ ap (λ (n : ℕ). held (two + n)) own in
    omega (arith, all, added, source_and_target, so_far)
