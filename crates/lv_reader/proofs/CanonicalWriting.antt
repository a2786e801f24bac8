-- The canonical text, line by line.
use Rattle.std.proofs.Common.{◌≡◌, ℕ, List, [], ◌∷◌, ◌++◌, Bool, true, false, if◌then◌else◌, refl, sym, ap, ap₂, ◌∙◌, append_assoc}
use Rattle.std.proofs.lemmas.List.{append-nil}
use Rattle.std.specs.List.{flat_map}
use Rattle.lv_reader.specs.declared.statement.Statement.{Statement}
use Rattle.lv_reader.specs.declared.statement.NumberedStatement.{NumberedStatement}
use Rattle.lv_reader.specs.declared.canonical_text.Canonical.{Canonical}
use Rattle.lv_reader.specs.CanonicalTexts.{names_model, default_name, name_before, statements_of, ended_line, name_line, written_lines, WritesLine}
use Rattle.lv_reader.specs.Taking.{TakesAll, none_taken, one_taken}

-- a line, and what is written behind it
first_line : (begun : Bool) (s : Statement) (ss : List Statement) → written_lines begun (s ∷ ss) ≡ (name_line begun s ++ ended_line s) ++ written_lines true ss
first_line true s ss = refl
first_line false s ss = by (names_model s)
  where
    by : (b : Bool) → flat_map ended_line ((if b then [] else default_name ∷ []) ++ s ∷ ss) ≡ (flat_map ended_line (if b then [] else default_name ∷ []) ++ ended_line s) ++ flat_map ended_line ss
    by true = refl
    by false =
        sym (append_assoc (ended_line default_name) (ended_line s) (flat_map ended_line ss))
        ∙ ap (λ (bs : List ℕ). (bs ++ ended_line s) ++ flat_map ended_line ss) (sym (append-nil (ended_line default_name)))

-- with one line more the same is written in all
pub goes_on : (s : Statement) (ss : List Statement) (old new : Canonical) (whole : List ℕ) → WritesLine s old new → old.bytes.items ++ written_lines old.has_begun (s ∷ ss) ≡ whole
    → new.bytes.items ++ written_lines new.has_begun ss ≡ whole
goes_on s ss old new whole w h =
    let front : List ℕ = name_line old.has_begun s ++ ended_line s in
    let bytes : new.bytes.items ≡ old.bytes.items ++ front = w.bytes ∙ append_assoc old.bytes.items (name_line old.has_begun s) (ended_line s) in
    let both : new.bytes.items ++ written_lines new.has_begun ss ≡ (old.bytes.items ++ front) ++ written_lines true ss =
    ap₂ (λ (bs : List ℕ) (b : Bool). bs ++ written_lines b ss) bytes w.begun in
    both ∙ append_assoc old.bytes.items front (written_lines true ss) ∙ ap (λ (bs : List ℕ). old.bytes.items ++ bs) (sym (first_line old.has_begun s ss)) ∙ h

-- what is written of statements that were taken one after the other
pub all_written : {S : Type 0} (takes : S → NumberedStatement → S → Type 0) (canonical : S → Canonical)
    → ((s t : S) (x : NumberedStatement) → takes s x t → WritesLine x.statement (canonical s) (canonical t)) → (s t : S) (xs : List NumberedStatement) → TakesAll takes s xs t
    → (canonical t).bytes.items ++ written_lines (canonical t).has_begun [] ≡ (canonical s).bytes.items ++ written_lines (canonical s).has_begun (statements_of xs)
all_written takes canonical step s t [] (none_taken e) = ap (λ u. (canonical u).bytes.items ++ written_lines (canonical u).has_begun []) e
all_written takes canonical step s t (x ∷ xs) (one_taken {t = u} first rest) =
    all_written takes canonical step u t xs rest
    ∙ goes_on x.statement (statements_of xs) (canonical s) (canonical u) _ (step s u x first) refl
