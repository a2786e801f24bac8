-- The blocks of conflicts are good where each is refuted.
use Rattle.std.proofs.Common.{◌≡◌, ℕ, ◌+◌, ◌^◌, ◌≤◌, true, false, List, [], ◌∷◌, ◌++◌, length, map, Some, None, cond, refl, sym, subst, ◌∙◌, ap, arith, All}
use Rattle.std.specs.List.{flat_map}
use Rattle.std.specs.Option.{option_and_then}
use Rattle.std.proofs.lemmas.Bool.{and_parts}
use Rattle.std.proofs.lemmas.List.{append_assoc, length-append}
use Rattle.std.proofs.lemmas.List.Elements.{All-head, All-tail}
use Rattle.lv_base.specs.declared.ids.Lit.{Lit}
use Rattle.lv_model.specs.declared.plant.Plant.{Plant}
use Rattle.lv_model.specs.Lists.{move_counts}
use Rattle.lv_model.specs.WellFormed.{is_well_formed}
use Rattle.lv_model.proofs.Sizes.{few-move_counts}
use Rattle.lv_meaning.specs.declared.facts.Facts.{Facts}
use Rattle.lv_search_zones.specs.lv_compile.Booleans.{bool_count}
use Rattle.lv_search_zones.specs.lv_compile.ModelClauses.{model_clauses}
use Rattle.lv_cert_laws.specs.lv_cert_meaning.Deriving.{clause_of_line, derives, ends_empty as lines_end_empty}
use Rattle.lv_cert.specs.declared.line.Question.TheVariants.{Diagnosis}
use Rattle.lv_cert.specs.declared.line.Head.TheVariants as head
use Rattle.lv_cert.specs.declared.line.Line.{Line}
use Rattle.lv_cert.specs.declared.line.Line.TheVariants as line
use Rattle.lv_cert.specs.declared.order.Place.{Place}
use Rattle.lv_cert.specs.declared.order.Place.TheVariants as place
use Rattle.lv_cert.specs.Order.{after_blocks, place_after}
use Rattle.lv_cert_laws.specs.lv_cert_meaning.Units.{units, choice_literal}
use Rattle.lv_cert_laws.specs.lv_cert_meaning.Judging.{Judged, with_conflict, clauses_of_choices}
use Rattle.lv_cert_writing.specs.Lines.{pair_numbers, clause_lines}
use Rattle.lv_cert_writing.specs.Ending.{Ends, BeginApart}
use Rattle.lv_cert_writing.proofs.Ending.{line_first}
use Rattle.lv_cert_writing.proofs.Clauses.{ends_before, block_first}
use Rattle.lv_cert_writing.proofs.Pairs.{pairs_read, pairs_even, pairs_formed}
use Rattle.lv_cert_diagnosis.specs.Showing.{Block, block_lines, stated_literals, own_clauses, IsRefuted}

-- where a conflict may come
pub record TakesConflicts (p : Place) : Type 0 where
  pub conflict : (ns : List ℕ) → place_after p (line.Numbers head.Conflict ns) ≡ after_blocks Diagnosis (line.Numbers head.Conflict ns)

-- what a block comes to
abbrev pub behind_block : Plant → Facts → Judged → Block → Judged
behind_block plant facts j b = record j { excluded = j.excluded ++ b.pairs ∷ []; own = own_clauses plant facts b.pairs ++ map clause_of_line b.lines }

-- what blocks come to, and where
abbrev pub with_blocks : Plant → Facts → Judged → List Block → Judged
with_blocks plant facts j [] = j
with_blocks plant facts j (b ∷ bs) = with_blocks plant facts (behind_block plant facts j b) bs

abbrev pub place_behind_blocks : Place → List Block → Place
place_behind_blocks p [] = p
place_behind_blocks p (b ∷ bs) = place.MoreClauses Diagnosis

module _ (plant : Plant) (h : is_well_formed plant ≡ true) (few_parts : length (move_counts plant) ≤ 4096) (few_bools : bool_count plant ≤ 10 ^ 30) (few_clauses : length (model_clauses plant) ≤ 10 ^ 20) (facts : Facts) (final : Judged) (rest : List Line) (apart : BeginApart rest) where
  blocks_apart : (bs : List Block) → BeginApart (flat_map block_lines bs ++ rest)
  blocks_apart [] = apart
  blocks_apart (b ∷ bs) = record { same = λ is_empty. refl }

  later_place : (bs : List Block) → place_behind_blocks (place.MoreClauses Diagnosis) bs ≡ place.MoreClauses Diagnosis
  later_place [] = refl
  later_place (b ∷ bs) = refl

  one_block : (b : Block) → IsRefuted plant facts b → (p : Place) → TakesConflicts p → (j : Judged) → j.stated.literals ≡ stated_literals plant facts → (more : List Line) → BeginApart more
      → Ends Diagnosis plant (place.MoreClauses Diagnosis) (behind_block plant facts j b) more final → Ends Diagnosis plant p j (block_lines b ++ more) final
  one_block b is p takes j literals_are more more_apart ends =
      let begun : Judged = record j { excluded = j.excluded ++ b.pairs ∷ []; own = own_clauses plant facts b.pairs } in
      let few_own = is.few_own in
      let few_lines = is.few_lines in
      let long = length-append (model_clauses plant) (own_clauses plant facts b.pairs) in
      let few : length (model_clauses plant ++ own_clauses plant facts b.pairs) + length b.lines ≤ 10 ^ 30 = omega (arith, few_clauses, few_own, few_lines, long) in
      let two = and_parts (derives (bool_count plant) (model_clauses plant ++ own_clauses plant facts b.pairs) b.lines) (lines_end_empty b.lines) is.refuted in
      line_first Diagnosis plant final p (place.Clauses Diagnosis) j begun (line.Numbers head.Conflict (pair_numbers b.pairs)) (clause_lines b.lines ++ more)
      (ap (option_and_then (λ pairs. with_conflict j pairs (clauses_of_choices plant j pairs) (clause_lines b.lines ++ more))) (pairs_read (move_counts plant) b.pairs is.choices is.rising)
      ∙ ap (λ (ls : List Lit). with_conflict j b.pairs (units (ls ++ map (choice_literal plant) b.pairs)) (clause_lines b.lines ++ more)) literals_are
      ∙ ap (λ e. cond e (Some begun) None) (ends_before false b.lines more more_apart two.1))
      (takes.conflict (pair_numbers b.pairs) ∙ ap (λ e. cond e (Some (place.Clauses Diagnosis)) None) (pairs_even b.pairs))
      (λ w. pairs_formed (move_counts plant) b.pairs (few-move_counts plant h) few_parts is.choices)
      (block_first Diagnosis plant few_bools final more (place.Clauses Diagnosis) (place.MoreClauses Diagnosis) (record { begins = λ ls hs. refl }) (record { begins = λ ls hs. refl }) b.lines begun few two.0 two.1 ends)

  pub blocks_first : (bs : List Block) → All (IsRefuted plant facts) bs → (p : Place) → TakesConflicts p → (j : Judged) → j.stated.literals ≡ stated_literals plant facts
      → Ends Diagnosis plant (place_behind_blocks p bs) (with_blocks plant facts j bs) rest final → Ends Diagnosis plant p j (flat_map block_lines bs ++ rest) final
  blocks_first [] are p takes j literals_are ends = ends
  blocks_first (b ∷ bs) are p takes j literals_are ends =
      subst (λ ls. Ends Diagnosis plant p j ls final) (sym (append_assoc (block_lines b) (flat_map block_lines bs) rest))
      (one_block b (All-head (IsRefuted plant facts) b bs are) p takes j literals_are (flat_map block_lines bs ++ rest) (blocks_apart bs)
      (blocks_first bs (All-tail (IsRefuted plant facts) b bs are) (place.MoreClauses Diagnosis) (record { conflict = λ ns. refl }) (behind_block plant facts j b) literals_are
      (subst (λ q. Ends Diagnosis plant q (with_blocks plant facts (behind_block plant facts j b) bs) rest final) (sym (later_place bs)) ends)))
