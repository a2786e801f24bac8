-- Claims one by one: those made so far and those left make the whole; and facts claimed before others can be taken back.
use Rattle.std.proofs.Common.{◌≡◌, ℕ, Bool, true, false, ◌+◌, ◌-◌, ◌<◌, ◌≤◌, ◌^◌, List, [], ◌∷◌, ◌++◌, ◌&&◌, length, map, take, drop, count_by, refl, sym, subst, ap, ap₂, ◌∙◌, arith, All}
use Rattle.std.specs.List.{list_all}
use Rattle.std.proofs.lemmas.Bool.{and_parts}
use Rattle.std.proofs.lemmas.List.{length-map, length-append, length-take-le, length-drop, append_assoc, append-nil, map-append, take-append-drop}
use Rattle.std.proofs.lemmas.List.Folds.{list_all-append}
use Rattle.lv_base.specs.declared.ids.Lit.{Lit}
use Rattle.lv_clauses.specs.Noted.{is_of}
use Rattle.lv_clauses.proofs.LiteralLemmas.{and_both}
use Rattle.lv_ltms.proofs.CountLemmas.{count_yes, count_no}
use Rattle.lv_model.specs.declared.plant.Plant.{Plant}
use Rattle.lv_meaning.specs.declared.facts.Facts.{Facts}
use Rattle.lv_meaning.specs.declared.facts.Observation.{Observation}
use Rattle.lv_meaning.specs.Facts.{now_facts}
use Rattle.lv_reply.specs.declared.labels.Label.{Label}
use Rattle.lv_reply.specs.declared.labels.Moment.{Moment}
use Rattle.lv_reply.specs.declared.labels.Moment.TheVariants.{Now, Next}
use Rattle.lv_labels.specs.Literals.{value_at, values_of, observed_at, fact_literals}
use Rattle.lv_labels.specs.Labels.{label_literal}
use Rattle.lv_labels.specs.Claims.{Claims, IsClaiming, is_positive}
use Rattle.lv_labels.specs.Holding.{claim_at, fact_claims, claim_literals, IsClaimIn, CLAIMS, IsHolding, AreTurned}

-- the claims before a place were added to whatever was claimed
pub record AreClaimed (to : ℕ) (claims : List Label) (old new : Claims) : Type 0 where
  pub values : new.values ≡ old.values
  pub modes : new.modes ≡ old.modes
  pub claiming : (plant : Plant) (literals : List Lit) → length claims + length literals < 2 ^ 32 → IsClaiming plant literals old
      → IsClaiming plant (claim_literals plant (take to claims) ++ literals) new

-- the claims before a place were taken back from whatever was claimed behind them
pub record AreReleased (to : ℕ) (claims : List Label) (old new : Claims) : Type 0 where
  pub values : new.values ≡ old.values
  pub modes : new.modes ≡ old.modes
  pub claiming : (plant : Plant) (literals : List Lit) → IsClaiming plant (claim_literals plant claims ++ literals) old
      → IsClaiming plant (claim_literals plant (drop to claims) ++ literals) new

count_both : (p : Lit → Bool) (xs ys : List Lit) → count_by p (xs ++ ys) ≡ count_by p xs + count_by p ys
count_both p [] ys = omega arith
count_both p (x ∷ xs) ys = by (p x) refl (count_both p xs ys)
  where
    by : (b : Bool) → p x ≡ b → count_by p (xs ++ ys) ≡ count_by p xs + count_by p ys → count_by p (x ∷ (xs ++ ys)) ≡ count_by p (x ∷ xs) + count_by p ys
    by true e rest =
        let whole = count_yes p x (xs ++ ys) e in
        let front = count_yes p x xs e in
        omega (arith, whole, front, rest)
    by false e rest =
        let whole = count_no p x (xs ++ ys) e in
        let front = count_no p x xs e in
        omega (arith, whole, front, rest)

-- which literals are claimed is told by how often each boolean is
same_counts : (plant : Plant) (xs ys : List Lit) (c : Claims) → ((b : ℕ) → count_by (is_of b) xs ≡ count_by (is_of b) ys) → list_all is_positive ys ≡ true → IsClaiming plant xs c → IsClaiming plant ys c
same_counts plant xs ys c same positive is = record { clauses = is.clauses; values = is.values; modes = is.modes; counts = λ b. is.counts b ∙ same b; positive = positive }

-- claims may change places
pub swapped : (plant : Plant) (xs ys : List Lit) (c : Claims) → IsClaiming plant (xs ++ ys) c → IsClaiming plant (ys ++ xs) c
swapped plant xs ys c is =
    let two = and_parts (list_all is_positive xs) (list_all is_positive ys) (sym (list_all-append is_positive xs ys) ∙ is.positive) in
    same_counts plant (xs ++ ys) (ys ++ xs) c
    (λ b.
    let front = count_both (is_of b) xs ys in
    let back = count_both (is_of b) ys xs in
    omega (arith, front, back))
    (list_all-append is_positive ys xs ∙ and_both (list_all is_positive ys) (list_all is_positive xs) two.1 two.0) is

-- and one may stand among the others
among : (plant : Plant) (front back : List Lit) (l : Lit) (c : Claims) → IsClaiming plant (l ∷ (front ++ back)) c → IsClaiming plant (front ++ (l ∷ back)) c
among plant front back l c is =
    let one = and_parts l.sign (list_all is_positive (front ++ back)) is.positive in
    let two = and_parts (list_all is_positive front) (list_all is_positive back) (sym (list_all-append is_positive front back) ∙ one.1) in
    same_counts plant (l ∷ (front ++ back)) (front ++ (l ∷ back)) c
    (λ b.
    let head = count_both (is_of b) (l ∷ []) (front ++ back) in
    let rest = count_both (is_of b) front back in
    let whole = count_both (is_of b) front (l ∷ back) in
    let tail = count_both (is_of b) (l ∷ []) back in
    omega (arith, head, rest, whole, tail))
    (list_all-append is_positive front (l ∷ back) ∙ and_both (list_all is_positive front) (l.sign && list_all is_positive back) two.0 (and_both l.sign (list_all is_positive back) one.0 two.1)) is

-- one claim more behind those that were added
pub claimed_one : (to : ℕ) (claims : List Label) (x : Label) (old mid new : Claims) → to < length claims → take (to + 1) claims ≡ take to claims ++ x ∷ []
    → new.values ≡ mid.values → new.modes ≡ mid.modes
    → ((plant : Plant) (literals : List Lit) → length literals < 2 ^ 32 - 1 → IsClaiming plant literals mid → IsClaiming plant (value_at plant x.moment x.var.0 x.val.0 ∷ literals) new)
    → AreClaimed to claims old mid → AreClaimed (to + 1) claims old new
claimed_one to claims x old mid new inside split values modes more before =
    record {
      values = values ∙ before.values;
      modes = modes ∙ before.modes;
      claiming =
          λ plant literals few is.
          let front = claim_literals plant (take to claims) in
          let long = length-append front literals in
          let mapped = length-map (take to claims) (label_literal plant) in
          let taken = length-take-le to claims (omega (arith, inside)) in
          let added : IsClaiming plant (label_literal plant x ∷ (front ++ literals)) new = more plant (front ++ literals) (omega (arith, long, mapped, taken, few, inside)) (before.claiming plant literals few is) in
          let moved : IsClaiming plant (front ++ (label_literal plant x ∷ literals)) new = among plant front literals (label_literal plant x) new added in
          let same : front ++ (label_literal plant x ∷ literals) ≡ claim_literals plant (take (to + 1) claims) ++ literals =
          sym (append_assoc front (label_literal plant x ∷ []) literals)
          ∙ ap (λ (ls : List Lit). ls ++ literals) (sym (map-append (label_literal plant) (take to claims) (x ∷ [])) ∙ ap (claim_literals plant) (sym split)) in
          subst (λ (ls : List Lit). IsClaiming plant ls new) same moved;
    }

-- one claim less at the front
pub released_one : (to : ℕ) (claims : List Label) (x : Label) (old mid new : Claims) → drop to claims ≡ x ∷ drop (to + 1) claims → new.values ≡ mid.values → new.modes ≡ mid.modes
    → ((plant : Plant) (literals : List Lit) → IsClaiming plant (value_at plant x.moment x.var.0 x.val.0 ∷ literals) mid → IsClaiming plant literals new)
    → AreReleased to claims old mid → AreReleased (to + 1) claims old new
released_one to claims x old mid new split values modes less before =
    record {
      values = values ∙ before.values;
      modes = modes ∙ before.modes;
      claiming =
          λ plant literals is.
          less plant (claim_literals plant (drop (to + 1) claims) ++ literals)
          (subst (λ (xs : List Label). IsClaiming plant (claim_literals plant xs ++ literals) mid) split (before.claiming plant literals is));
    }

both_mapped : (plant : Plant) (moment : Moment) (os : List Observation) → map (label_literal plant) (map (claim_at moment) os) ≡ map (observed_at plant moment) os
both_mapped plant moment [] = refl
both_mapped plant moment (o ∷ os) = ap (λ (ls : List Lit). observed_at plant moment o ∷ ls) (both_mapped plant moment os)

-- facts as claims have the literals of the facts
pub claims_are_facts : (plant : Plant) (facts : Facts) → claim_literals plant (fact_claims plant facts) ≡ fact_literals plant facts
claims_are_facts plant facts =
    map-append (label_literal plant) (map (claim_at Now) (now_facts plant facts)) (map (claim_at Next) facts.next)
    ∙ ap₂ (λ (xs ys : List Lit). xs ++ ys) (both_mapped plant Now (now_facts plant facts)) (both_mapped plant Next facts.next)

-- what stands among others may stand before them
first : (plant : Plant) (front back : List Lit) (l : Lit) (c : Claims) → IsClaiming plant (front ++ (l ∷ back)) c → IsClaiming plant (l ∷ (front ++ back)) c
first plant front back l c is =
    let two = and_parts (list_all is_positive front) (l.sign && list_all is_positive back) (sym (list_all-append is_positive front (l ∷ back)) ∙ is.positive) in
    let one = and_parts l.sign (list_all is_positive back) two.1 in
    same_counts plant (front ++ (l ∷ back)) (l ∷ (front ++ back)) c
    (λ b.
    let head = count_both (is_of b) (l ∷ []) (front ++ back) in
    let rest = count_both (is_of b) front back in
    let whole = count_both (is_of b) front (l ∷ back) in
    let tail = count_both (is_of b) (l ∷ []) back in
    omega (arith, head, rest, whole, tail))
    (and_both l.sign (list_all is_positive (front ++ back)) one.0 (list_all-append is_positive front back ∙ and_both (list_all is_positive front) (list_all is_positive back) two.0 one.1)) is

-- none came yet
pub none_turned : (before now : List Label) (c : Claims) → AreTurned 0 before now c c
none_turned before now c = record { values = refl; modes = refl; claiming = λ plant literals few is. is }

-- one claim more came in place of that before it
pub turned_one : (to : ℕ) (before now : List Label) (x y : Label) (old mid new : Claims) → to < length before → to < length now
    → drop to before ≡ x ∷ drop (to + 1) before → take (to + 1) now ≡ take to now ++ y ∷ []
    → new.values ≡ mid.values → new.modes ≡ mid.modes
    → ((plant : Plant) (literals : List Lit) → length literals < 2 ^ 32 - 1 → IsClaiming plant (label_literal plant x ∷ literals) mid → IsClaiming plant (label_literal plant y ∷ literals) new)
    → AreTurned to before now old mid → AreTurned (to + 1) before now old new
turned_one to before now x y old mid new inside within split longer values modes turn so_far =
    record {
      values = values ∙ so_far.values;
      modes = modes ∙ so_far.modes;
      claiming =
          λ plant literals few is.
          let front = claim_literals plant (take to now) in
          let back = claim_literals plant (drop (to + 1) before) ++ literals in
          let there : IsClaiming plant (front ++ (label_literal plant x ∷ back)) mid =
          subst (λ (xs : List Label). IsClaiming plant (front ++ (claim_literals plant xs ++ literals)) mid) split (so_far.claiming plant literals few is) in
          let all = length-append front back in
          let behind = length-append (claim_literals plant (drop (to + 1) before)) literals in
          let mapped = length-map (take to now) (label_literal plant) in
          let taken = length-take-le to now (omega (arith, within)) in
          let left = length-map (drop (to + 1) before) (label_literal plant) in
          let dropped = length-drop (to + 1) before in
          let turned : IsClaiming plant (label_literal plant y ∷ (front ++ back)) new =
          turn plant (front ++ back) (omega (arith, all, behind, mapped, taken, left, dropped, few, inside, within)) (first plant front back (label_literal plant x) mid there) in
          let moved : IsClaiming plant (front ++ (label_literal plant y ∷ back)) new = among plant front back (label_literal plant y) new turned in
          let same : front ++ (label_literal plant y ∷ back) ≡ claim_literals plant (take (to + 1) now) ++ back =
          sym (append_assoc front (label_literal plant y ∷ []) back)
          ∙ ap (λ (ls : List Lit). ls ++ back) (sym (map-append (label_literal plant) (take to now) (y ∷ [])) ∙ ap (claim_literals plant) (sym longer)) in
          subst (λ (ls : List Lit). IsClaiming plant ls new) same moved;
    }

-- those behind the first, claimed before those before are taken back
turned_about : (plant : Plant) (xs ys zs ls : List Lit) (c : Claims) → IsClaiming plant (xs ++ (ys ++ (zs ++ ls))) c → IsClaiming plant (zs ++ ((ys ++ xs) ++ ls)) c
turned_about plant xs ys zs ls c is =
    let one = and_parts (list_all is_positive xs) (list_all is_positive (ys ++ (zs ++ ls))) (sym (list_all-append is_positive xs (ys ++ (zs ++ ls))) ∙ is.positive) in
    let two = and_parts (list_all is_positive ys) (list_all is_positive (zs ++ ls)) (sym (list_all-append is_positive ys (zs ++ ls)) ∙ one.1) in
    let three = and_parts (list_all is_positive zs) (list_all is_positive ls) (sym (list_all-append is_positive zs ls) ∙ two.1) in
    let both : list_all is_positive (ys ++ xs) ≡ true = list_all-append is_positive ys xs ∙ and_both (list_all is_positive ys) (list_all is_positive xs) two.0 one.0 in
    let rest : list_all is_positive ((ys ++ xs) ++ ls) ≡ true =
    list_all-append is_positive (ys ++ xs) ls ∙ and_both (list_all is_positive (ys ++ xs)) (list_all is_positive ls) both three.1 in
    same_counts plant (xs ++ (ys ++ (zs ++ ls))) (zs ++ ((ys ++ xs) ++ ls)) c
    (λ b.
    let a = count_both (is_of b) xs (ys ++ (zs ++ ls)) in
    let d = count_both (is_of b) ys (zs ++ ls) in
    let e = count_both (is_of b) zs ls in
    let f = count_both (is_of b) zs ((ys ++ xs) ++ ls) in
    let g = count_both (is_of b) (ys ++ xs) ls in
    let h = count_both (is_of b) ys xs in
    omega (arith, a, d, e, f, g, h))
    (list_all-append is_positive zs ((ys ++ xs) ++ ls) ∙ and_both (list_all is_positive zs) (list_all is_positive ((ys ++ xs) ++ ls)) three.0 rest) is

-- the first came in place of those before them, the others are claimed, and then the others before are taken back
pub turned_all : (to : ℕ) (before now : List Label) (old half claimed new : Claims) → to ≤ length before → to ≤ length now → AreTurned to before now old half
    → ((plant : Plant) (literals : List Lit) → length (drop to now) + length literals < 2 ^ 32 → IsClaiming plant literals half → IsClaiming plant (claim_literals plant (drop to now) ++ literals) claimed)
    → ((plant : Plant) (literals : List Lit) → IsClaiming plant (claim_literals plant (drop to before) ++ literals) claimed → IsClaiming plant literals new)
    → (plant : Plant) (literals : List Lit) → length before + length now + length literals < 2 ^ 32 - 1 → IsClaiming plant (claim_literals plant before ++ literals) old
    → IsClaiming plant (claim_literals plant now ++ literals) new
turned_all to before now old half claimed new inside within turned claim release plant literals few is =
    let front = claim_literals plant (take to now) in
    let more = claim_literals plant (drop to now) in
    let less = claim_literals plant (drop to before) in
    let all = length-append front (less ++ literals) in
    let behind = length-append less literals in
    let mapped = length-map (take to now) (label_literal plant) in
    let taken = length-take-le to now within in
    let left = length-map (drop to before) (label_literal plant) in
    let dropped = length-drop to before in
    let others = length-drop to now in
    let added : IsClaiming plant (more ++ (front ++ (less ++ literals))) claimed =
    claim plant (front ++ (less ++ literals)) (omega (arith, all, behind, mapped, taken, left, dropped, others, few, inside, within)) (turned.claiming plant literals few is) in
    let kept : IsClaiming plant ((front ++ more) ++ literals) new = release plant ((front ++ more) ++ literals) (turned_about plant more front less literals claimed added) in
    let same : front ++ more ≡ claim_literals plant now =
    sym (map-append (label_literal plant) (take to now) (drop to now)) ∙ ap (claim_literals plant) (take-append-drop to now) in
    subst (λ (ls : List Lit). IsClaiming plant (ls ++ literals) new) same kept

-- the facts of a new question in place of those of the last
pub held_anew : (plant : Plant) (old new : List Label) (c d e : Claims) → IsHolding plant old c → All (IsClaimIn (values_of plant)) new → length new ≤ CLAIMS
    → ((plant : Plant) (literals : List Lit) → length old + length new + length literals < 2 ^ 32 - 1 → IsClaiming plant (claim_literals plant old ++ literals) c → IsClaiming plant (claim_literals plant new ++ literals) d)
    → e ≡ d → IsHolding plant new e
held_anew plant old new c d e held within few turned same =
    let most = held.few in
    let before : IsClaiming plant (claim_literals plant old ++ []) c = subst (λ (ls : List Lit). IsClaiming plant ls c) (sym (append-nil (claim_literals plant old))) held.claims in
    let now : IsClaiming plant (claim_literals plant new) d =
    subst (λ (ls : List Lit). IsClaiming plant ls d) (append-nil (claim_literals plant new)) (turned plant [] (omega (arith, most, few)) before) in
    record {
      claims = subst (IsClaiming plant (claim_literals plant new)) (sym same) now;
      within = within;
      few = few;
    }
