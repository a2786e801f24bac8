-- Printing operand by operand.
use Rattle.std.proofs.Common.{◌≡◌, ℕ, ◌+◌, ◌<◌, ◌≤◌, Bool, true, false, nat_lt, List, [], ◌∷◌, ◌++◌, refl, sym, ap, ap₂, ◌∙◌, arith, append_assoc, append-nil}
use Rattle.std.proofs.lemmas.Bool.Decides.{nat_tests}
use Rattle.lv_text.specs.declared.lexer.TokenKind.TheVariants.{Iff, Implies, Open, Close}
use Rattle.lv_text.specs.Lexemes.{Lexeme}
use Rattle.lv_formula_text.specs.declared.connective.Connective.{Connective}
use Rattle.lv_formula_text.specs.PhraseTree.{PhraseTree, PhraseTrees, more, implies, iff}
use Rattle.lv_formula_text.specs.Connectives.{level}
use Rattle.lv_formula_text.specs.Spacing.{symbol, written}
use Rattle.lv_formula_text.specs.Canonical.{level_of, enclosed, tokens_of, operand_tokens, further_tokens, sign_before}
use Rattle.lv_formula_text.proofs.SpacingLemmas.{written_more}

abbrev pub tokens_left : Connective → Bool → PhraseTrees → List Lexeme
tokens_left c true fs = operand_tokens c fs
tokens_left c false fs = further_tokens c fs

-- nothing more is written for no tokens
pub written_none : (w : List ℕ × Bool) → written [] w ≡ w
written_none w = ap (λ (xs : List ℕ). (xs, w.1)) (append-nil w.0)

-- three pieces one after the other
pub written_pair : (ts us : List Lexeme) (s : Lexeme) (w x y z : List ℕ × Bool) → x ≡ written ts w → y ≡ written (s ∷ []) x → z ≡ written us y → z ≡ written (ts ++ s ∷ us) w
written_pair ts us s w x y z a b c =
    c ∙ ap (written us) (b ∙ ap (written (s ∷ [])) a ∙ sym (written_more ts (s ∷ []) w)) ∙ sym (written_more (ts ++ s ∷ []) us w) ∙ ap (λ vs. written vs w) (append_assoc ts (s ∷ []) us)

-- one token and what stands behind it
pub written_behind : (us : List Lexeme) (s : Lexeme) (w y z : List ℕ × Bool) → y ≡ written (s ∷ []) w → z ≡ written us y → z ≡ written (s ∷ us) w
written_behind us s w y z b c = c ∙ ap (written us) b ∙ sym (written_more (s ∷ []) us w)

pub bare : (bound : ℕ) (f : PhraseTree) (ts : List Lexeme) → bound ≤ level_of f → enclosed bound f ts ≡ ts
bare bound f ts h = let test : nat_lt (level_of f) bound ≡ false = grind (arith, nat_tests) in rw test refl

pub in_parentheses : (bound : ℕ) (f : PhraseTree) (ts : List Lexeme) (w x y z : List ℕ × Bool) → level_of f < bound
    → x ≡ written (symbol Open ∷ []) w → y ≡ written ts x → z ≡ written (symbol Close ∷ []) y → z ≡ written (enclosed bound f ts) w
in_parentheses bound f ts w x y z h a b c =
    let test : nat_lt (level_of f) bound ≡ true = grind (arith, nat_tests) in
    rw test (written_behind (ts ++ symbol Close ∷ []) (symbol Open) w x z a (c ∙ ap (written (symbol Close ∷ [])) b ∙ sym (written_more ts (symbol Close ∷ []) x)))

-- an operand, with the sign before it if it isn't the first
pub operand_step : (c : Connective) (first : Bool) (fs gs : PhraseTrees) (f : PhraseTree) (w x y : List ℕ × Bool) → fs ≡ more f gs
    → x ≡ written (sign_before c first) w → y ≡ written (enclosed (level c + 1) f (tokens_of f)) x → written (further_tokens c gs) y ≡ written (tokens_left c first fs) w
operand_step c first fs gs f w x y whole a b =
    let own = enclosed (level c + 1) f (tokens_of f) in
    let start : y ≡ written (sign_before c first ++ own) w = b ∙ ap (written own) a ∙ sym (written_more (sign_before c first) own w) in
    ap (written (further_tokens c gs)) start ∙ sym (written_more (sign_before c first ++ own) (further_tokens c gs) w)
    ∙ ap (λ ts. written ts w) (append_assoc (sign_before c first) own (further_tokens c gs) ∙ same first ∙ ap (tokens_left c first) (sym whole))
  where
    same : (b : Bool) → sign_before c b ++ (enclosed (level c + 1) f (tokens_of f) ++ further_tokens c gs) ≡ tokens_left c b (more f gs)
    same true = refl
    same false = refl

pub implies_written : (t f g a b : PhraseTree) (m n : ℕ) (w x y z : List ℕ × Bool) → t ≡ implies f g → a ≡ f → b ≡ g → m ≡ 3 → n ≡ 2
    → x ≡ written (enclosed m a (tokens_of a)) w → y ≡ written (symbol Implies ∷ []) x → z ≡ written (enclosed n b (tokens_of b)) y → z ≡ written (tokens_of t) w
implies_written t f g a b m n w x y z tree left right outer inner p q r =
    let first : enclosed m a (tokens_of a) ≡ enclosed 3 f (tokens_of f) = ap₂ (λ (i : ℕ) (h : PhraseTree). enclosed i h (tokens_of h)) outer left in
    let second : enclosed n b (tokens_of b) ≡ enclosed 2 g (tokens_of g) = ap₂ (λ (i : ℕ) (h : PhraseTree). enclosed i h (tokens_of h)) inner right in
    written_pair (enclosed m a (tokens_of a)) (enclosed n b (tokens_of b)) (symbol Implies) w x y z p q r
    ∙ ap (λ ts. written ts w) (ap₂ (λ (ts us : List Lexeme). ts ++ symbol Implies ∷ us) first second ∙ ap tokens_of (sym tree))

pub iff_written : (t f g a b : PhraseTree) (m n : ℕ) (w x y z : List ℕ × Bool) → t ≡ iff f g → a ≡ f → b ≡ g → m ≡ 2 → n ≡ 1
    → x ≡ written (enclosed m a (tokens_of a)) w → y ≡ written (symbol Iff ∷ []) x → z ≡ written (enclosed n b (tokens_of b)) y → z ≡ written (tokens_of t) w
iff_written t f g a b m n w x y z tree left right outer inner p q r =
    let first : enclosed m a (tokens_of a) ≡ enclosed 2 f (tokens_of f) = ap₂ (λ (i : ℕ) (h : PhraseTree). enclosed i h (tokens_of h)) outer left in
    let second : enclosed n b (tokens_of b) ≡ enclosed 1 g (tokens_of g) = ap₂ (λ (i : ℕ) (h : PhraseTree). enclosed i h (tokens_of h)) inner right in
    written_pair (enclosed m a (tokens_of a)) (enclosed n b (tokens_of b)) (symbol Iff) w x y z p q r
    ∙ ap (λ ts. written ts w) (ap₂ (λ (ts us : List Lexeme). ts ++ symbol Iff ∷ us) first second ∙ ap tokens_of (sym tree))
