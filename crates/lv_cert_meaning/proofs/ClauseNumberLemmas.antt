-- The clauses of a block by their numbers.
use Rattle.std.proofs.Common.{◌≡◌, List, [], ◌∷◌, ◌++◌, map, Option, Some, unwrap_or, refl, sym, ap, ◌∙◌}
use Rattle.std.proofs.lemmas.List.{append_assoc}
use Rattle.std.proofs.lemmas.Simd.{map-map}
use Rattle.lv_base.specs.declared.ids.Lit.{Lit}
use Rattle.lv_system.specs.lv_model.declared.plant.Plant.{Plant}
use Rattle.lv_system.specs.lv_compile.ModelClauses.{model_clauses}
use Rattle.lv_system.specs.Numbering.{clause_of}
use Rattle.lv_system.specs.System.{SystemValue, IsSystemOf}
use Rattle.lv_cert_meaning.specs.Blocks.{BlockValue, clauses_of, block_clauses, with_clause}

unwrapped : (cs : List (List Lit)) → map (λ (o : Option (List Lit)). unwrap_or o []) (map Some cs) ≡ cs
unwrapped [] = refl
unwrapped (c ∷ cs) = ap (λ (ds : List (List Lit)). c ∷ ds) (unwrapped cs)

pub clauses_are : (plant : Plant) (s : SystemValue) → IsSystemOf plant s → clauses_of s ≡ model_clauses plant
clauses_are plant s is =
    sym (map-map (λ (o : Option (List Lit)). unwrap_or o []) (clause_of s.set.slots) s.ids)
    ∙ ap (map (λ (o : Option (List Lit)). unwrap_or o [])) is.numbered.each
    ∙ unwrapped (model_clauses plant)

-- a block with one clause more has its clauses and that one
pub with_clause_is : (b : BlockValue) (c : List Lit) → block_clauses (with_clause b c) ≡ block_clauses b ++ c ∷ []
with_clause_is b c = sym (append_assoc (clauses_of b.system) b.own (c ∷ []))
