-- What the steps of the function read.
use Rattle.std.proofs.Common.{◌≡◌, ◌≢◌, ℕ, Bool, true, false, cond, List, [], ◌∷◌, drop, Option, Some, None, refl, ap, subst, ◌∙◌}
use Rattle.lv_text.specs.declared.lexer.TokenKind.{TokenKind}
use Rattle.lv_text.specs.declared.lexer.TokenKind.TheVariants.{Word, Number, Iff, Implies, Arrow, Equals, Not, And, Or, Open, Close, Dot}
use Rattle.lv_text.specs.Lexemes.{Lexeme, is_word}
use Rattle.lv_formula_text.specs.Connectives.{first_kind}
use Rattle.lv_formula_text.specs.Descent.{Parsed, parsed, Parser, read_as, is_kind, begins_with, behind, word}

pub kind_same : (k l : TokenKind) → is_kind k l ≡ true → l ≡ k
kind_same Word Word e = refl
kind_same Number Number e = refl
kind_same Iff Iff e = refl
kind_same Implies Implies e = refl
kind_same Arrow Arrow e = refl
kind_same Equals Equals e = refl
kind_same Not Not e = refl
kind_same And And e = refl
kind_same Or Or e = refl
kind_same Open Open e = refl
kind_same Close Close e = refl
kind_same Dot Dot e = refl
kind_same k l e = absurd (cc)

pub kind_itself : (k : TokenKind) → is_kind k k ≡ true
kind_itself Word = refl
kind_itself Number = refl
kind_itself Iff = refl
kind_itself Implies = refl
kind_itself Arrow = refl
kind_itself Equals = refl
kind_itself Not = refl
kind_itself And = refl
kind_itself Or = refl
kind_itself Open = refl
kind_itself Close = refl
kind_itself Dot = refl

-- a text at the head, by what its tokens and its tree are
pub turned : {T : Type 0} (R : List Lexeme → T → List Lexeme → Type 0) {ts us xs ys : List Lexeme} {x y : T} → R ts x xs → ts ≡ us → x ≡ y → xs ≡ ys → R us y ys
turned R {us = us} {xs = xs} {x = x} {y = y} r e f g = subst (λ zs. R us y zs) g (subst (λ z. R us z xs) f (subst (λ zs. R zs x xs) e r))

pub some_is_one : {A : Type 0} {x y : A} → Some x ≡ Some y → x ≡ y
some_is_one e = cc

pub parsed_same : {A : Type 0} (x : A) (rest : List Lexeme) (p : Parsed A) → parsed x rest ≡ Some p → (x ≡ p.read) × (rest ≡ p.rest)
parsed_same x rest p e = let s = some_is_one e in (ap (λ q. q.read) s, ap (λ q. q.rest) s)

pub as_some : {A B : Type 0} (f : A → B) (o : Option (Parsed A)) (p : Parsed B) → read_as f o ≡ Some p → (x : Parsed A) × (o ≡ Some x) × (f x.read ≡ p.read) × (x.rest ≡ p.rest)
as_some f None p e = absurd (cc)
as_some f (Some x) p e = let g = parsed_same (f x.read) x.rest p e in (x, refl, g.0, g.1)

-- the first token, if it is of that kind
pub begins_first : (k : TokenKind) (ts : List Lexeme) → begins_with k ts ≡ true → (t : Lexeme) × (ts ≡ t ∷ drop 1 ts) × (t.kind ≡ k)
begins_first k [] e = absurd (cc)
begins_first k (t ∷ ts) e = (t, refl, kind_same k t.kind e)

pub begins_not : (k : TokenKind) (ts : List Lexeme) → begins_with k ts ≡ false → first_kind ts ≢ Some k
begins_not k [] e is = absurd (cc)
begins_not k (t ∷ ts) e is = let same : t.kind ≡ k = cc in let so = ap (is_kind k) same ∙ kind_itself k in absurd (cc)

pub begins_so : (k : TokenKind) (t : Lexeme) (ts : List Lexeme) → t.kind ≡ k → begins_with k (t ∷ ts) ≡ true
begins_so k t ts is = ap (is_kind k) is ∙ kind_itself k

pub begins_other : (k : TokenKind) (ts : List Lexeme) → first_kind ts ≢ Some k → begins_with k ts ≡ false
begins_other k ts other = by (begins_with k ts) refl
  where
    by : (b : Bool) → begins_with k ts ≡ b → b ≡ false
    by false is = refl
    by true is = let t = begins_first k ts is in absurd (other (ap first_kind t.1 ∙ ap Some t.2))

-- what stands behind a token of that kind
pub behind_some : {T : Type 0} (k : TokenKind) (parser : Parser T) (ts : List Lexeme) (p : Parsed T) → behind k parser ts ≡ Some p
    → (t : Lexeme) × (ts ≡ t ∷ drop 1 ts) × (t.kind ≡ k) × (parser (drop 1 ts) ≡ Some p)
behind_some k parser ts p e = by (begins_with k ts) refl e
  where
    by : (b : Bool) → begins_with k ts ≡ b → cond b (parser (drop 1 ts)) None ≡ Some p → (t : Lexeme) × (ts ≡ t ∷ drop 1 ts) × (t.kind ≡ k) × (parser (drop 1 ts) ≡ Some p)
    by true is f = let t = begins_first k ts is in (t.0, t.1, t.2, f)
    by false is f = absurd (cc)

pub behind_gives : {T : Type 0} (k : TokenKind) (parser : Parser T) (t : Lexeme) (ts : List Lexeme) → t.kind ≡ k → behind k parser (t ∷ ts) ≡ parser ts
behind_gives k parser t ts is = ap (λ b. cond b (parser ts) None) (begins_so k t ts is)

pub word_some : (ts : List Lexeme) (p : Parsed (List ℕ)) → word ts ≡ Some p → (t : Lexeme) × (ts ≡ t ∷ p.rest) × (t.kind ≡ Word) × (t.text ≡ p.read)
word_some [] p e = absurd (cc)
word_some (t ∷ ts) p e = by t.kind refl e
  where
    by : (k : TokenKind) → t.kind ≡ k → cond (is_word k) (parsed t.text ts) None ≡ Some p → (v : Lexeme) × (t ∷ ts ≡ v ∷ p.rest) × (v.kind ≡ Word) × (v.text ≡ p.read)
    by Word is f = let g = parsed_same t.text ts p f in (t, ap (λ xs. t ∷ xs) g.1, is, g.0)
    by k is f = absurd (cc)

pub word_gives : (t : Lexeme) (ts : List Lexeme) → t.kind ≡ Word → word (t ∷ ts) ≡ parsed t.text ts
word_gives t ts is = ap (λ k. cond (is_word k) (parsed t.text ts) None) is
