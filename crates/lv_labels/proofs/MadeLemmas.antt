-- What holds of the labels of a model's facts when nothing is claimed yet.
use Rattle.std.proofs.Common.{◌≡◌, ℕ, zero, suc, ◌≤◌, Bool, List, [], ◌∷◌, length, map, Option, Some, None, replicate, refl, sym, subst, ap, ap₂, ◌∙◌, arith, inl, inr, Contains}
use Rattle.std.proofs.lemmas.List.{length-replicate}
use Rattle.lv_base.specs.declared.ids.Lit.{Lit}
use Rattle.lv_base.specs.declared.ids.VarId.{VarId}
use Rattle.lv_base.specs.declared.ids.ClauseId.{ClauseId}
use Rattle.lv_clauses.specs.ClauseMap.{Slots}
use Rattle.lv_clauses.specs.Marks.{nothing}
use Rattle.lv_clauses.proofs.LiteralLemmas.{Contains-nil, Contains-cases}
use Rattle.lv_ltms.specs.System.{System}
use Rattle.lv_model.specs.declared.plant.Plant.{Plant}
use Rattle.lv_model.specs.Lists.{variable_count}
use Rattle.lv_model.proofs.Sizes.{length-sizes}
use Rattle.lv_compile.specs.Booleans.{Booleans, bool_count}
use Rattle.lv_compile.specs.FormulaClauses.{Clauses}
use Rattle.lv_compile.specs.ModelClauses.{model_clauses}
use Rattle.lv_system.specs.System.{SystemValue, IsSystemOf}
use Rattle.lv_system.specs.Numbering.{clause_of}
use Rattle.lv_labels.specs.declared.values.Values.{Values}
use Rattle.lv_labels.specs.Literals.{values_of, mode_variables}
use Rattle.lv_labels.specs.Claims.{IsClaiming, IsKept, AreWithin, IsPresent, count_at, mark_of}
use Rattle.lv_labels.specs.Copying.{AreSame}

none_claimed : (n b : ℕ) → count_at (replicate n 0) b ≡ 0
none_claimed zero b = refl
none_claimed (suc n) zero = refl
none_claimed (suc n) (suc b) = none_claimed n b

none_marked : (n : ℕ) → nothing n ≡ map mark_of (replicate n 0)
none_marked zero = refl
none_marked (suc n) = ap (λ (ms : List (Option Bool)). None ∷ ms) (none_marked n)

-- a clause that has a number is present
numbered_present : (cs : Clauses) (ids : List ClauseId) (slots : Slots) (c : List Lit) → map (clause_of slots) ids ≡ map Some cs → Contains cs c → IsPresent slots c
numbered_present [] ids slots c e h = absurd (Contains-nil c h)
numbered_present (d ∷ ds) [] slots c e h = absurd (cc)
numbered_present (d ∷ ds) (i ∷ is) slots c e h =
    let head : clause_of slots i ≡ Some d = cc in
    let rest : map (clause_of slots) is ≡ map Some ds = cc in
    elim (Contains-cases d c ds h) [
      | inl same ↦ record { number = i.0; at = head ∙ ap (λ (x : List Lit). Some x) same }
      | inr later ↦ numbered_present ds is slots c rest later
    ]

module _ (plant : Plant) (system : SystemValue) (is : IsSystemOf plant system) (counts : List ℕ) (values : Values) (s : System) (few : variable_count plant ≤ 4096)
    (zeros : counts ≡ replicate system.set.bools 0) (before : values.before ≡ system.before) (after : values.after ≡ system.after) (bools : s.bools ≡ system.set.bools)
    (unassumed : s.assumed ≡ nothing system.set.bools) (same : AreSame system.set.slots s.clauses) where
  count : length counts ≡ bool_count plant
  count = ap (λ (cs : List ℕ). length cs) zeros ∙ length-replicate system.set.bools 0 ∙ is.bools

  are_values : values ≡ values_of plant
  are_values = ap₂ (λ (a b : Booleans). record { before = a; after = b }) (before ∙ is.before) (after ∙ is.after)

  pub new_kept : IsKept counts values s
  new_kept =
      record {
        assumed = record {
          bools = bools ∙ sym (length-replicate system.set.bools 0) ∙ ap (λ (cs : List ℕ). length cs) (sym zeros);
          assumed = unassumed ∙ none_marked system.set.bools ∙ ap (map mark_of) (sym zeros);
        };
        before = subst (λ (vs : Values). AreWithin (length counts) vs.before) (sym are_values) (record { few = omega (arith, few, length-sizes plant); within = omega (arith, count) });
        after = subst (λ (vs : Values). AreWithin (length counts) vs.after) (sym are_values) (record { few = omega (arith, few, length-sizes plant); within = omega (arith, count) });
      }

  pub new_claiming : (modes : List VarId) → modes ≡ mode_variables plant → IsClaiming plant [] (record { clauses = s.clauses; counts = counts; values = values; modes = modes })
  new_claiming modes are_modes =
      record {
        clauses = record {
          each = λ c h. let there = numbered_present (model_clauses plant) system.ids system.set.slots c is.numbered.each h in same.each there.number c there.at;
          only = λ id c at. let there = same.only id c at in is.among there.number c there.at;
        };
        values = are_values;
        modes = are_modes;
        counts = λ b. ap (λ (cs : List ℕ). count_at cs b) zeros ∙ none_claimed system.set.bools b;
        positive = refl;
      }
