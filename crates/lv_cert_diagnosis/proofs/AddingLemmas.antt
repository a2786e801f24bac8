-- What lines add, one candidate or conflict after the other.
use Rattle.std.proofs.Common.{◌≡◌, ◌<◌, ◌^◌, true, List, [], ◌∷◌, ◌++◌, length, map, refl, sym, ◌∙◌, ap, ap₂, arith}
use Rattle.std.specs.List.{flat_map}
use Rattle.std.proofs.lemmas.List.{append_assoc, append-nil, length-map, map-append}
use Rattle.std.proofs.lemmas.List.Elements.{All-cons, All-nil, All-append}
use Rattle.lv_base.specs.declared.ids.ValId.{ValId}
use Rattle.lv_base.specs.declared.rank.Rank.{Rank}
use Rattle.lv_base.specs.declared.search.Pair.{Pair}
use Rattle.lv_base.specs.Choices.{slots_rise}
use Rattle.lv_model.specs.declared.plant.Plant.{Plant}
use Rattle.lv_meaning.specs.declared.facts.Facts.{Facts}
use Rattle.lv_search_zones.specs.lv_compile.Booleans.{bool_count}
use Rattle.lv_search_zones.specs.lv_compile.ModelClauses.{model_clauses}
use Rattle.lv_cert_laws.specs.lv_cert_meaning.Deriving.{refutes}
use Rattle.lv_cert_writing.specs.declared.derivation.Derivation.{Derivation}
use Rattle.lv_cert_writing.specs.BlockLines.{derived_of}
use Rattle.lv_cert.specs.declared.line.Head.TheVariants as head
use Rattle.lv_cert.specs.declared.line.Line.{Line}
use Rattle.lv_cert.specs.declared.line.Line.TheVariants as line
use Rattle.lv_cert_writing.specs.Lines.{numbers_of, values_line, pair_numbers, clause_lines}
use Rattle.lv_cert_diagnosis.specs.Showing.{Shown, Block, listed_lines, block_lines, own_clauses, IsRefuted, ShowsStep, StepIsShown, AddsShown, AddsBlocks, CanBeRefuted}

flat_two : {X Y : Type 0} (f : X → List Y) (xs ys : List X) → flat_map f (xs ++ ys) ≡ flat_map f xs ++ flat_map f ys
flat_two f [] ys = refl
flat_two f (x ∷ xs) ys = ap (λ zs. f x ++ zs) (flat_two f xs ys) ∙ sym (append_assoc (f x) (flat_map f xs) (flat_map f ys))

module _ (plant : Plant) (facts : Facts) where
  pub shown_none : (lines : List Line) → AddsShown plant facts [] lines lines
  shown_none lines = record { shown = []; are = All-nil (StepIsShown plant facts); ranks = refl; lines = sym (append-nil lines) }

  pub shown_more : (front more : List Rank) (old mid new : List Line) → AddsShown plant facts front old mid → AddsShown plant facts more mid new → AddsShown plant facts (front ++ more) old new
  shown_more front more old mid new a b = record {
    shown = a.shown ++ b.shown;
    are = All-append (StepIsShown plant facts) a.shown b.shown a.are b.are;
    ranks = map-append (λ (w : Shown). w.rank) a.shown b.shown ∙ ap₂ (λ (xs ys : List Rank). xs ++ ys) a.ranks b.ranks;
    lines = b.lines ∙ ap (λ ls. ls ++ flat_map listed_lines b.shown) a.lines ∙ append_assoc old (flat_map listed_lines a.shown) (flat_map listed_lines b.shown)
        ∙ ap (λ ls. old ++ ls) (sym (flat_two listed_lines a.shown b.shown));
  }

  pub shown_one : (r : Rank) (before after : List ValId) → ShowsStep plant facts r before after → (old new : List Line)
      → new ≡ ((old ++ line.Numbers head.Listed (numbers_of (r.source ∷ r.choices)) ∷ []) ++ values_line head.Now before ∷ []) ++ values_line head.Next after ∷ []
      → AddsShown plant facts (r ∷ []) old new
  shown_one r before after shows old new is =
      let w : Shown = record { rank = r; before = before; after = after } in
      let first : Line = line.Numbers head.Listed (numbers_of (r.source ∷ r.choices)) in
      record {
        shown = w ∷ [];
        are = All-cons (StepIsShown plant facts) w [] (record { shows = shows }) (All-nil (StepIsShown plant facts));
        ranks = refl;
        lines = is ∙ append_assoc (old ++ first ∷ []) (values_line head.Now before ∷ []) (values_line head.Next after ∷ []) ∙ append_assoc old (first ∷ []) (values_line head.Now before ∷ values_line head.Next after ∷ []);
      }

  pub blocks_none : (lines : List Line) → AddsBlocks plant facts [] lines lines
  blocks_none lines = record { blocks = []; are = All-nil (IsRefuted plant facts); pairs = refl; lines = sym (append-nil lines) }

  pub blocks_more : (front more : List (List Pair)) (old mid new : List Line) → AddsBlocks plant facts front old mid → AddsBlocks plant facts more mid new → AddsBlocks plant facts (front ++ more) old new
  blocks_more front more old mid new a b = record {
    blocks = a.blocks ++ b.blocks;
    are = All-append (IsRefuted plant facts) a.blocks b.blocks a.are b.are;
    pairs = map-append (λ (x : Block). x.pairs) a.blocks b.blocks ∙ ap₂ (λ (xs ys : List (List Pair)). xs ++ ys) a.pairs b.pairs;
    lines = b.lines ∙ ap (λ ls. ls ++ flat_map block_lines b.blocks) a.lines ∙ append_assoc old (flat_map block_lines a.blocks) (flat_map block_lines b.blocks)
        ∙ ap (λ ls. old ++ ls) (sym (flat_two block_lines a.blocks b.blocks));
  }

  pub blocks_one : (pairs : List Pair) → slots_rise pairs ≡ true → CanBeRefuted plant facts pairs → (lines : List Derivation)
      → refutes (bool_count plant) (model_clauses plant ++ own_clauses plant facts pairs) (map derived_of lines) ≡ true → length (own_clauses plant facts pairs) < 2 ^ 64 → length lines < 2 ^ 64
      → (old new : List Line) → new ≡ (old ++ line.Numbers head.Conflict (pair_numbers pairs) ∷ []) ++ clause_lines (map derived_of lines)
      → AddsBlocks plant facts (pairs ∷ []) old new
  blocks_one pairs rise can lines told few_own few_lines old new is =
      let b : Block = record { pairs = pairs; lines = map derived_of lines } in
      let first : Line = line.Numbers head.Conflict (pair_numbers pairs) in
      record {
        blocks = b ∷ [];
        are = All-cons (IsRefuted plant facts) b []
            (record {
              choices = λ n d inside. record { below = (can.moves n d inside).below };
              rising = rise;
              refuted = told;
              few_own = few_own;
              few_lines = let same = length-map lines derived_of in omega (arith, same, few_lines);
            })
            (All-nil (IsRefuted plant facts));
        pairs = refl;
        lines = is ∙ append_assoc old (first ∷ []) (clause_lines (map derived_of lines)) ∙ ap (λ ls. old ++ ls) (sym (append-nil (first ∷ clause_lines (map derived_of lines))));
      }
