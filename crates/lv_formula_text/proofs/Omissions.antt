-- What stays as it is, or gets no more, where pairs of parentheses are left out.
use Rattle.std.proofs.Common.{◌≡◌, ℕ, ◌+◌, ◌-◌, ◌≤◌, Bool, true, false, not, ◌&&◌, ◌||◌, cond, nat_lt, List, [], ◌∷◌, ◌++◌, length, refl, sym, ap, ap₂, subst, ◌∙◌, arith, append_assoc, length-append, codes, All}
use Rattle.std.proofs.lemmas.Bool.{and_parts, or_parts, or_from}
use Rattle.std.proofs.lemmas.Bool.Decides.{nat_tests}
use Rattle.std.proofs.lemmas.List.Elements.{All-nil, All-cons, All-head, All-tail, All-append}
use Rattle.lv_base.specs.declared.limits.TheConstants.{OPEN_PARENTHESES, NESTING_OPERATORS}
use Rattle.lv_text.specs.declared.lexer.TokenKind.{TokenKind}
use Rattle.lv_text.specs.declared.lexer.TokenKind.TheVariants.{Open, Close}
use Rattle.lv_text.specs.Lexemes.{Lexeme}
use Rattle.lv_formula_text.specs.Nesting.{one_if, opens, closes, nests, how_many, some_front, is_too_open, nests_too_often, is_too_deep}
use Rattle.lv_formula_text.specs.Spacing.{is_wordlike, symbol, spaced, ends_in_word}
use Rattle.std.specs.List.{list_all}
use Rattle.lv_formula_text.specs.Laws.{is_flat}
use Rattle.lv_formula_text.specs.Omission.{Omits, nothing, pair}
use Rattle.lv_formula_text.proofs.NestingLemmas.{exceeds, some_same, open_start}
use Rattle.lv_formula_text.proofs.SpacingLemmas.{spaced_more}

-- in two steps
pub omits_more : {ts us vs : List Lexeme} → Omits ts us → Omits us vs → Omits ts vs
omits_more h nothing = h
omits_more h (pair x y z k a b) = pair x y z (omits_more h k) a b

-- behind the same tokens
pub omits_behind : (front : List Lexeme) {ts us : List Lexeme} → Omits ts us → Omits (front ++ ts) (front ++ us)
omits_behind front nothing = nothing
omits_behind front (pair x y z h a b) =
    pair (front ++ x) y z (omits_behind front h)
    (ap (λ ts. front ++ ts) a ∙ sym (append_assoc front x (symbol Open ∷ (y ++ symbol Close ∷ z))))
    (ap (λ ts. front ++ ts) b ∙ sym (append_assoc front x (y ++ z)))

-- before the same tokens
pub omits_before : {ts us : List Lexeme} → Omits ts us → (back : List Lexeme) → Omits (ts ++ back) (us ++ back)
omits_before nothing back = nothing
omits_before (pair x y z h a b) back =
    pair x y (z ++ back) (omits_before h back)
    (ap (λ ts. ts ++ back) a ∙ append_assoc x (symbol Open ∷ (y ++ symbol Close ∷ z)) back ∙ ap (λ ts. x ++ symbol Open ∷ ts) (append_assoc y (symbol Close ∷ z) back))
    (ap (λ ts. ts ++ back) b ∙ append_assoc x (y ++ z) back ∙ ap (λ ts. x ++ ts) (append_assoc y z back))

-- one pair, without its place
pub omits_pair : {ts : List Lexeme} (y z : List Lexeme) → Omits ts (symbol Open ∷ (y ++ symbol Close ∷ z)) → Omits ts (y ++ z)
omits_pair y z h = pair [] y z h refl refl

-- what holds of each token
pub all_front : (P : Lexeme → Type 0) (xs ys : List Lexeme) → All P (xs ++ ys) → All P xs
all_front P [] ys h = All-nil P
all_front P (x ∷ xs) ys h = All-cons P x xs (All-head P x (xs ++ ys) h) (all_front P xs ys (All-tail P x (xs ++ ys) h))

pub all_back : (P : Lexeme → Type 0) (xs ys : List Lexeme) → All P (xs ++ ys) → All P ys
all_back P [] ys h = h
all_back P (x ∷ xs) ys h = all_back P xs ys (All-tail P x (xs ++ ys) h)

pub omits_all : (P : Lexeme → Type 0) {ts us : List Lexeme} → Omits ts us → All P ts → All P us
omits_all P nothing h = h
omits_all P (pair x y z k a b) h =
    let before = subst (All P) a (omits_all P k h) in
    let behind = All-tail P (symbol Open) (y ++ symbol Close ∷ z) (all_back P x (symbol Open ∷ (y ++ symbol Close ∷ z)) before) in
    let last = All-tail P (symbol Close) z (all_back P y (symbol Close ∷ z) behind) in
    subst (All P) (sym b) (All-append P x (y ++ z) (all_front P x (symbol Open ∷ (y ++ symbol Close ∷ z)) before) (All-append P y z (all_front P y (symbol Close ∷ z) behind) last))

-- too many are open at some place, with so many opened and closed before
abbrev pub crowded : ℕ → ℕ → List Lexeme → Bool
crowded opened closed [] = nat_lt OPEN_PARENTHESES (opened - closed)
crowded opened closed (t ∷ ts) = nat_lt OPEN_PARENTHESES (opened - closed) || crowded (one_if (opens t.kind) + opened) (one_if (closes t.kind) + closed) ts

crowded_fronts : (ts : List Lexeme) (opened closed : ℕ) → some_front (exceeds opened closed) ts ≡ crowded opened closed ts
crowded_fronts [] opened closed = none_more opened closed
  where
    none_more : (o c : ℕ) → exceeds o c [] ≡ nat_lt OPEN_PARENTHESES (o - c)
    none_more o c = let e : (o + 0) - (c + 0) ≡ o - c = omega arith in ap (nat_lt OPEN_PARENTHESES) e
crowded_fronts (t ∷ ts) opened closed =
    let e : (opened + 0) - (closed + 0) ≡ opened - closed = omega arith in
    ap₂ (λ (x y : Bool). x || y) (ap (nat_lt OPEN_PARENTHESES) e)
    (some_same (λ front. exceeds opened closed (t ∷ front)) (exceeds (one_if (opens t.kind) + opened) (one_if (closes t.kind) + closed)) ts same
    ∙ crowded_fronts ts (one_if (opens t.kind) + opened) (one_if (closes t.kind) + closed))
  where
    same : (front : List Lexeme) → exceeds opened closed (t ∷ front) ≡ exceeds (one_if (opens t.kind) + opened) (one_if (closes t.kind) + closed) front
    same front =
        let x : opened + how_many opens (t ∷ front) ≡ (one_if (opens t.kind) + opened) + how_many opens front = omega arith in
        let y : closed + how_many closes (t ∷ front) ≡ (one_if (closes t.kind) + closed) + how_many closes front = omega arith in
        ap₂ (λ (m n : ℕ). nat_lt OPEN_PARENTHESES (m - n)) x y

pub open_crowded : (ts : List Lexeme) → is_too_open ts ≡ crowded 0 0 ts
open_crowded ts = sym (open_start ts) ∙ crowded_fronts ts 0 0

-- a pair before it changes nothing
crowded_pair : (ts : List Lexeme) (o c : ℕ) → crowded (1 + o) (1 + c) ts ≡ crowded o c ts
crowded_pair [] o c = let e : (1 + o) - (1 + c) ≡ o - c = omega arith in ap (nat_lt OPEN_PARENTHESES) e
crowded_pair (t ∷ ts) o c =
    let e : (1 + o) - (1 + c) ≡ o - c = omega arith in
    let x : one_if (opens t.kind) + (1 + o) ≡ 1 + (one_if (opens t.kind) + o) = omega arith in
    let y : one_if (closes t.kind) + (1 + c) ≡ 1 + (one_if (closes t.kind) + c) = omega arith in
    ap₂ (λ (a b : Bool). a || b) (ap (nat_lt OPEN_PARENTHESES) e)
    (ap₂ (λ (m n : ℕ). crowded m n ts) x y ∙ crowded_pair ts (one_if (opens t.kind) + o) (one_if (closes t.kind) + c))

fewer_open : (o c : ℕ) → nat_lt OPEN_PARENTHESES ((1 + o) - c) ≡ false → nat_lt OPEN_PARENTHESES (o - c) ≡ false
fewer_open o c h = grind (arith, nat_tests)

crowded_inside : (y z : List Lexeme) (o c : ℕ) → crowded (1 + o) c (y ++ symbol Close ∷ z) ≡ false → crowded o c (y ++ z) ≡ false
crowded_inside [] z o c h =
    let behind = (or_parts (nat_lt OPEN_PARENTHESES ((1 + o) - c)) (crowded (0 + (1 + o)) (1 + c) z) h).1 in
    let e : 0 + (1 + o) ≡ 1 + o = omega arith in
    sym (ap (λ n. crowded n (1 + c) z) e ∙ crowded_pair z o c) ∙ behind
crowded_inside (t ∷ y) z o c h =
    let parts = or_parts (nat_lt OPEN_PARENTHESES ((1 + o) - c)) (crowded (one_if (opens t.kind) + (1 + o)) (one_if (closes t.kind) + c) (y ++ symbol Close ∷ z)) h in
    let e : one_if (opens t.kind) + (1 + o) ≡ 1 + (one_if (opens t.kind) + o) = omega arith in
    or_from _ _ (fewer_open o c parts.0)
    (crowded_inside y z (one_if (opens t.kind) + o) (one_if (closes t.kind) + c) (sym (ap (λ n. crowded n (one_if (closes t.kind) + c) (y ++ symbol Close ∷ z)) e) ∙ parts.1))

crowded_less : (x y z : List Lexeme) (o c : ℕ) → crowded o c (x ++ symbol Open ∷ (y ++ symbol Close ∷ z)) ≡ false → crowded o c (x ++ (y ++ z)) ≡ false
crowded_less [] y z o c h =
    let behind = (or_parts (nat_lt OPEN_PARENTHESES (o - c)) (crowded (1 + o) (0 + c) (y ++ symbol Close ∷ z)) h).1 in
    let e : 0 + c ≡ c = omega arith in
    crowded_inside y z o c (sym (ap (λ n. crowded (1 + o) n (y ++ symbol Close ∷ z)) e) ∙ behind)
crowded_less (t ∷ x) y z o c h =
    let parts = or_parts (nat_lt OPEN_PARENTHESES (o - c)) (crowded (one_if (opens t.kind) + o) (one_if (closes t.kind) + c) (x ++ symbol Open ∷ (y ++ symbol Close ∷ z))) h in
    or_from _ _ parts.0 (crowded_less x y z (one_if (opens t.kind) + o) (one_if (closes t.kind) + c) parts.1)

how_many_more : (test : TokenKind → Bool) (xs ys : List Lexeme) → how_many test (xs ++ ys) ≡ how_many test xs + how_many test ys
how_many_more test [] ys = let e : how_many test ys ≡ 0 + how_many test ys = omega arith in e
how_many_more test (x ∷ xs) ys = let more = how_many_more test xs ys in omega arith

-- parentheses are no operators
same_nests : (x y z : List Lexeme) → how_many nests (x ++ symbol Open ∷ (y ++ symbol Close ∷ z)) ≡ how_many nests (x ++ (y ++ z))
same_nests x y z =
    let a = how_many_more nests x (symbol Open ∷ (y ++ symbol Close ∷ z)) in
    let b = how_many_more nests y (symbol Close ∷ z) in
    let c = how_many_more nests x (y ++ z) in
    let d = how_many_more nests y z in
    omega arith

pub pair_shallow : (x y z : List Lexeme) → is_too_deep (x ++ symbol Open ∷ (y ++ symbol Close ∷ z)) ≡ false → is_too_deep (x ++ (y ++ z)) ≡ false
pair_shallow x y z h =
    let ts = x ++ symbol Open ∷ (y ++ symbol Close ∷ z) in
    let parts = or_parts (is_too_open ts) (nests_too_often ts) h in
    or_from _ _ (open_crowded (x ++ (y ++ z)) ∙ crowded_less x y z 0 0 (sym (open_crowded ts) ∙ parts.0))
    (ap (nat_lt NESTING_OPERATORS) (sym (same_nests x y z)) ∙ parts.1)

pub omits_shallow : {ts us : List Lexeme} → Omits ts us → is_too_deep ts ≡ false → is_too_deep us ≡ false
omits_shallow nothing h = h
omits_shallow (pair x y z k a b) h = ap is_too_deep b ∙ pair_shallow x y z (sym (ap is_too_deep a) ∙ omits_shallow k h)

-- the text of what stands in parentheses
one_space : (after : Bool) (ts : List Lexeme) → length (spaced after ts) ≤ length (spaced false ts) + 1
one_space after [] = omega arith
one_space true (t ∷ ts) = by (is_wordlike t.kind)
  where
    by : (b : Bool) → length (cond b (codes " ") [] ++ (t.text ++ spaced (is_wordlike t.kind) ts)) ≤ length (t.text ++ spaced (is_wordlike t.kind) ts) + 1
    by true = omega arith
    by false = omega arith
one_space false ts = omega arith

-- no space stands before a parenthesis
spaced_symbol : (after : Bool) (k : TokenKind) (ts : List Lexeme) → is_wordlike k ≡ false → spaced after (symbol k ∷ ts) ≡ (symbol k).text ++ spaced false ts
spaced_symbol after k ts plain = by after (is_wordlike k) plain
  where
    by : (a b : Bool) → b ≡ false → cond (a && b) (codes " ") [] ++ ((symbol k).text ++ spaced b ts) ≡ (symbol k).text ++ spaced false ts
    by true b e = rw e refl
    by false b e = rw e refl

pub pair_no_longer : (after : Bool) (x y z : List Lexeme) → length (spaced after (x ++ (y ++ z))) ≤ length (spaced after (x ++ symbol Open ∷ (y ++ symbol Close ∷ z)))
pair_no_longer after x y z =
    let e = ends_in_word after x in
    let inner = symbol Open ∷ (y ++ symbol Close ∷ z) in
    let a = ap (length {A = ℕ}) (spaced_more after x (y ++ z)) ∙ length-append (spaced after x) (spaced e (y ++ z)) in
    let b = ap (length {A = ℕ}) (spaced_more e y z) ∙ length-append (spaced e y) (spaced (ends_in_word e y) z) in
    let c = ap (length {A = ℕ}) (spaced_more after x inner) ∙ length-append (spaced after x) (spaced e inner) in
    let d = ap (length {A = ℕ}) (spaced_symbol e Open (y ++ symbol Close ∷ z) refl) in
    let f = ap (length {A = ℕ}) (spaced_more false y (symbol Close ∷ z)) ∙ length-append (spaced false y) (spaced (ends_in_word false y) (symbol Close ∷ z)) in
    let g = ap (length {A = ℕ}) (spaced_symbol (ends_in_word false y) Close z refl) in
    let h = one_space e y in
    let i = one_space (ends_in_word e y) z in
    omega arith

pub omits_no_longer : (after : Bool) {ts us : List Lexeme} → Omits ts us → length (spaced after us) ≤ length (spaced after ts)
omits_no_longer after nothing = omega arith
omits_no_longer after (pair x y z k a b) =
    let before = omits_no_longer after k in
    let step = pair_no_longer after x y z in
    let m = ap (λ ts. length (spaced after ts)) a in
    let n = ap (λ ts. length (spaced after ts)) b in
    omega arith

-- tokens that don't nest change nothing in front of a line
flat_parts : (l : Lexeme) → is_flat l ≡ true → (opens l.kind ≡ false) × (closes l.kind ≡ false) × (nests l.kind ≡ false)
flat_parts l h = by (opens l.kind) (closes l.kind) (nests l.kind) h
  where
    by : (a b c : Bool) → not (a || (b || c)) ≡ true → (a ≡ false) × (b ≡ false) × (c ≡ false)
    by false false false h = (refl, refl, refl)
    by false false true h = absurd (cc)
    by false true c h = absurd (cc)
    by true b c h = absurd (cc)

flat_crowded : (front ts : List Lexeme) → list_all is_flat front ≡ true → crowded 0 0 (front ++ ts) ≡ crowded 0 0 ts
flat_crowded [] ts h = refl
flat_crowded (l ∷ front) ts h =
    let parts = and_parts (is_flat l) (list_all is_flat front) h in
    let flat = flat_parts l parts.0 in
    ap₂ (λ (a b : Bool). crowded (one_if a + 0) (one_if b + 0) (front ++ ts)) flat.0 flat.1 ∙ flat_crowded front ts parts.1

flat_nests : (front ts : List Lexeme) → list_all is_flat front ≡ true → how_many nests (front ++ ts) ≡ how_many nests ts
flat_nests [] ts h = refl
flat_nests (l ∷ front) ts h =
    let parts = and_parts (is_flat l) (list_all is_flat front) h in
    let flat = flat_parts l parts.0 in
    let more = flat_nests front ts parts.1 in
    let none : one_if (nests l.kind) ≡ 0 = ap one_if flat.2 in
    omega arith

pub flat_front : (front ts : List Lexeme) → list_all is_flat front ≡ true → is_too_deep (front ++ ts) ≡ is_too_deep ts
flat_front front ts h =
    ap₂ (λ (a b : Bool). a || b)
    (open_crowded (front ++ ts) ∙ flat_crowded front ts h ∙ sym (open_crowded ts))
    (ap (nat_lt NESTING_OPERATORS) (flat_nests front ts h))
