-- Tokens written one after the other are written as one list.
use Rattle.std.proofs.Common.{◌≡◌, ℕ, Bool, List, ◌∷◌, ◌++◌, Result, OnOk, codes, sym, ap, ◌∙◌}
use Rattle.std.proofs.lemmas.Result.{on_ok_weaker}
use Rattle.lv_text.specs.Lexemes.{Lexeme}
use Rattle.lv_formula_text.specs.PhraseTree.{PhraseTree}
use Rattle.lv_formula_text.specs.Spacing.{written, word}
use Rattle.lv_formula_text.specs.Canonical.{tokens_of}
use Rattle.lv_formula_text.proofs.SpacingLemmas as spacing
use Rattle.lv_reader.specs.declared.statement.Statement.{Statement}
use Rattle.lv_reader.specs.declared.statement.Statement.TheVariants.{InLine}
use Rattle.lv_reader.specs.CanonicalTokens.{mode_tokens, statement_tokens}

pub written_more : (ts us : List Lexeme) (w : List ℕ × Bool) → written us (written ts w) ≡ written (ts ++ us) w
written_more ts us w = sym (spacing.written_more ts us w)

-- a formula behind the modes in which it holds
pub in_written : {T E : Type 0} (r : Result T E) (s : Statement) (modes : List (List ℕ)) (f : PhraseTree) (old between new : List ℕ × Bool) → s ≡ InLine modes f
    → between ≡ written (word (codes "in") ∷ mode_tokens modes) old → OnOk r (new ≡ written (tokens_of f) between) → OnOk r (new ≡ written (statement_tokens s) old)
in_written r s modes f old between new is begun h =
    on_ok_weaker r
    (λ e. e ∙ ap (written (tokens_of f)) begun ∙ written_more (word (codes "in") ∷ mode_tokens modes) (tokens_of f) old ∙ ap (λ (x : Statement). written (statement_tokens x) old) (sym is))
    h
