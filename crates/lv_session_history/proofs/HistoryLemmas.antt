-- What is kept of the last commits stays what it is, without an observation and with one commit more.
use Rattle.std.proofs.Common.{◌≡◌, ℕ, zero, suc, ◌+◌, ◌-◌, ◌<◌, ◌≤◌, Bool, true, false, cond, nat_lt, Option, None, Some, slice_get, slice_set, List, [], ◌∷◌, ◌++◌, length, drop, filter, refl, sym, subst, ◌∙◌, arith}
use Rattle.std.specs.Option.{option_map_or}
use Rattle.std.proofs.lemmas.Bool.{ltb-true, ltb-false}
use Rattle.std.proofs.lemmas.List.{length-append}
use Rattle.std.proofs.lemmas.List.Elements.{All-filter}
use Rattle.std.proofs.lemmas.List.Sums.{length-filter, count_by-le-length}
use Rattle.lv_model.specs.declared.plant.Plant.{Plant}
use Rattle.lv_session_request.specs.declared.request.Sighting.{Sighting}
use Rattle.lv_session_request.specs.Held.{lacks_name}
use Rattle.lv_session_request.specs.Requests.{IsSightingIn}
use Rattle.lv_session_history.specs.declared.history.Past.{Past}
use Rattle.lv_session_history.specs.declared.history.TheConstants.{HISTORY}
use Rattle.lv_session_history.specs.History.{with_room, without, without_in}
use Rattle.lv_session_history.specs.Pasts.{IsPastOf, ArePastOf, kept_before, IsHistoryOf}

-- without an observation

fewer : (name : List ℕ) (ss : List Sighting) → length (filter (lacks_name name) ss) ≤ length ss
fewer name ss = subst (λ n. n ≤ length ss) (sym (length-filter (lacks_name name) ss)) (count_by-le-length (lacks_name name) ss)

past_without : (plant : Plant) (time : ℕ) (p : Past) (name : List ℕ) → IsPastOf plant time p → IsPastOf plant time (without name p)
past_without plant time p name is = record {
  controls_whole = is.controls_whole;
  values = is.values;
  modes = is.modes;
  fit = is.fit;
  costs = is.costs;
  observed = All-filter (lacks_name name) (IsSightingIn plant) p.observed is.observed;
  few = let less = fewer name p.observed in let few = is.few in omega (arith, less, few);
}

each_without : (plant : Plant) (time : ℕ) (ps : List Past) (place : ℕ) (name : List ℕ) → ArePastOf plant time ps → ArePastOf plant time (without_in ps place name)
each_without plant time [] place name are = are
each_without plant time (p ∷ ps) zero name are = (past_without plant time p name are.0, are.1)
each_without plant time (p ∷ ps) (suc n) name are = by (slice_get ps n) (each_without plant (time + 1) ps n name are.1)
  where
    by : (o : Option Past) → ArePastOf plant (time + 1) (option_map_or (λ (q : Past). slice_set ps n (without name q)) o ps)
        → ArePastOf plant time (option_map_or (λ (q : Past). p ∷ slice_set ps n (without name q)) o (p ∷ ps))
    by None rest = (are.0, rest)
    by (Some q) rest = (are.0, rest)

as_many : (ps : List Past) (place : ℕ) (name : List ℕ) → length (without_in ps place name) ≡ length ps
as_many [] place name = refl
as_many (p ∷ ps) zero name = refl
as_many (p ∷ ps) (suc n) name = by (slice_get ps n) (as_many ps n name)
  where
    by : (o : Option Past) → length (option_map_or (λ (q : Past). slice_set ps n (without name q)) o ps) ≡ length ps
        → length (option_map_or (λ (q : Past). p ∷ slice_set ps n (without name q)) o (p ∷ ps)) ≡ length (p ∷ ps)
    by None rest = refl
    by (Some q) rest = omega (arith, rest)

pub history_without : (plant : Plant) (time : ℕ) (ps : List Past) (place : ℕ) (name : List ℕ) → IsHistoryOf plant time ps → IsHistoryOf plant time (without_in ps place name)
history_without plant time ps place name is =
    let same = as_many ps place name in
    record {
      each = subst (λ n. ArePastOf plant (time - n) (without_in ps place name)) (sym same) (each_without plant (time - length ps) ps place name is.each);
      many = same ∙ is.many;
    }

-- with one commit more

each_behind : (plant : Plant) (time : ℕ) (ps : List Past) (p : Past) → ArePastOf plant time ps → IsPastOf plant (time + length ps) p → ArePastOf plant time (ps ++ (p ∷ []))
each_behind plant time [] p are is = let at : time + 0 ≡ time = omega arith in (subst (λ n. IsPastOf plant n p) at is, tt)
each_behind plant time (q ∷ qs) p are is =
    let at : time + length (q ∷ qs) ≡ time + 1 + length qs = omega arith in
    (are.0, each_behind plant (time + 1) qs p are.1 (subst (λ n. IsPastOf plant n p) at is))

few_kept : (n : ℕ) → n ≤ HISTORY → kept_before n ≡ n
few_kept n few = by (nat_lt n HISTORY) refl
  where
    by : (b : Bool) → nat_lt n HISTORY ≡ b → cond b n HISTORY ≡ n
    by true e = refl
    by false e = let most = ltb-false n HISTORY e in omega (arith, few, most)

all_kept : (n : ℕ) → HISTORY ≤ n → kept_before n ≡ HISTORY
all_kept n many = by (nat_lt n HISTORY) refl
  where
    by : (b : Bool) → nat_lt n HISTORY ≡ b → cond b n HISTORY ≡ HISTORY
    by true e = let less = ltb-true n HISTORY e in absurd (omega (arith, less, many))
    by false e = refl

module _ (plant : Plant) (time : ℕ) (p : Past) (is : IsPastOf plant time p) where
  -- all others stay
  with_all : (ps : List Past) → ArePastOf plant (time - length ps) ps → length ps < HISTORY → length ps ≡ time → IsHistoryOf plant (time + 1) (ps ++ (p ∷ []))
  with_all ps are less same =
      let long = length-append ps (p ∷ []) in
      let first : time - length ps ≡ time + 1 - length (ps ++ (p ∷ [])) = omega (arith, long, same) in
      let last : time ≡ time - length ps + length ps = omega (arith, same) in
      let here : length (ps ++ (p ∷ [])) ≡ time + 1 = omega (arith, long, same) in
      record {
        each = subst (λ n. ArePastOf plant n (ps ++ (p ∷ []))) first (each_behind plant (time - length ps) ps p are (subst (λ n. IsPastOf plant n p) last is));
        many = here ∙ sym (few_kept (time + 1) (omega (arith, less, same)));
      }

  -- the oldest goes
  without_oldest : (ps : List Past) → ArePastOf plant (time - length ps) ps → length ps ≡ HISTORY → HISTORY ≤ time → IsHistoryOf plant (time + 1) (drop 1 ps ++ (p ∷ []))
  without_oldest [] are full late = absurd (omega (arith, full))
  without_oldest (q ∷ qs) are full late =
      let long = length-append qs (p ∷ []) in
      let first : time - length (q ∷ qs) + 1 ≡ time + 1 - length (qs ++ (p ∷ [])) = omega (arith, long, full, late) in
      let last : time ≡ time - length (q ∷ qs) + 1 + length qs = omega (arith, full, late) in
      let here : length (qs ++ (p ∷ [])) ≡ HISTORY = omega (arith, long, full) in
      record {
        each = subst (λ n. ArePastOf plant n (qs ++ (p ∷ []))) first (each_behind plant (time - length (q ∷ qs) + 1) qs p are.1 (subst (λ n. IsPastOf plant n p) last is));
        many = here ∙ sym (all_kept (time + 1) (omega (arith, late)));
      }

  pub history_on : (ps : List Past) → IsHistoryOf plant time ps → IsHistoryOf plant (time + 1) (with_room ps ++ (p ∷ []))
  history_on ps h = by (nat_lt (length ps) HISTORY) refl (nat_lt time HISTORY) refl h.many
    where
      by : (a : Bool) → nat_lt (length ps) HISTORY ≡ a → (b : Bool) → nat_lt time HISTORY ≡ b → length ps ≡ cond b time HISTORY → IsHistoryOf plant (time + 1) (cond a ps (drop 1 ps) ++ (p ∷ []))
      by true e true f same = with_all ps h.each (ltb-true (length ps) HISTORY e) same
      by true e false f same = let less = ltb-true (length ps) HISTORY e in absurd (omega (arith, less, same))
      by false e true f same =
          let less = ltb-true time HISTORY f in
          let all = ltb-false (length ps) HISTORY e in
          absurd (omega (arith, less, all, same))
      by false e false f same = without_oldest ps h.each same (ltb-false time HISTORY f)
