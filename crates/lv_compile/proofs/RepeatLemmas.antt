-- Literals that don't stand among those before them, one literal more.
use Rattle.std.proofs.Common.{◌≡◌, ℕ, Bool, true, false, not, ◌&&◌, ◌||◌, if◌then◌else◌, List, [], ◌∷◌, ◌++◌, filter, refl, sym, ap, ap₂, ◌∙◌, cond}
use Rattle.std.specs.List.{list_any}
use Rattle.std.proofs.lemmas.Bool.{or_parts}
use Rattle.std.proofs.lemmas.List.{append_assoc}
use Rattle.std.proofs.lemmas.List.Folds.{list_any-append}
use Rattle.lv_base.specs.declared.ids.Lit.{Lit}
use Rattle.lv_compile.specs.Cleaning.{same_literal, is_repeated, with_new, has_repeats, without_repeats}
use Rattle.lv_compile.proofs.TautologyLemmas.{one_literal}

abbrev pub is_new : List Lit → Lit → Bool
is_new earlier l = not (is_repeated earlier l)

-- filters of one test after the other

filter_both : (p q r : Lit → Bool) → ((m : Lit) → (p m && q m) ≡ r m) → (ms : List Lit) → filter p (filter q ms) ≡ filter r ms
filter_both p q r same [] = refl
filter_both p q r same (m ∷ ms) = by (p m) refl (q m) refl (filter_both p q r same ms)
  where
    by : (a : Bool) → p m ≡ a → (b : Bool) → q m ≡ b → filter p (filter q ms) ≡ filter r ms → filter p (filter q (m ∷ ms)) ≡ filter r (m ∷ ms)
    by true e true f rest = let g : r m ≡ true = sym (same m) ∙ ap₂ (λ (x y : Bool). x && y) e f in rw (f, e, g) (ap (λ (ls : List Lit). m ∷ ls) rest)
    by true e false f rest = let g : r m ≡ false = sym (same m) ∙ ap₂ (λ (x y : Bool). x && y) e f in rw (f, g) rest
    by false e true f rest = let g : r m ≡ false = sym (same m) ∙ ap₂ (λ (x y : Bool). x && y) e f in rw (f, e, g) rest
    by false e false f rest = let g : r m ≡ false = sym (same m) ∙ ap₂ (λ (x y : Bool). x && y) e f in rw (f, g) rest

pub filter_all : (ms : List Lit) → filter (is_new []) ms ≡ ms
filter_all [] = refl
filter_all (m ∷ ms) = ap (λ (ls : List Lit). m ∷ ls) (filter_all ms)

-- one test more

and_not : (p q : Bool) → (not p && not q) ≡ not (p || (q || false))
and_not true q = refl
and_not false true = refl
and_not false false = refl

longer : (out : List Lit) (l m : Lit) → (is_new out m && not (same_literal l m)) ≡ is_new (out ++ l ∷ []) m
longer out l m =
    and_not (is_repeated out m) (same_literal l m)
    ∙ ap not (sym (list_any-append (λ (o : Lit). same_literal o m) out (l ∷ [])))

like : (out : List Lit) (l m : Lit) → same_literal l m ≡ true → is_repeated out l ≡ is_repeated out m
like out l m e = ap (is_repeated out) (one_literal l m e)

no_longer : (out : List Lit) (l : Lit) → is_repeated out l ≡ true → (m : Lit) → (is_new out m && not (same_literal l m)) ≡ is_new out m
no_longer out l stands m = by (same_literal l m) refl (is_repeated out m) refl
  where
    by : (a : Bool) → same_literal l m ≡ a → (b : Bool) → is_repeated out m ≡ b → (not b && not a) ≡ not b
    by true e true f = refl
    by true e false f = let g : true ≡ false = sym stands ∙ like out l m e ∙ f in absurd (cc)
    by false e true f = refl
    by false e false f = refl

-- a literal that is new is added

pub added_new : (out ls whole : List Lit) (l : Lit) → is_repeated out l ≡ false → out ++ filter (is_new out) (without_repeats (l ∷ ls)) ≡ whole
    → out ++ l ∷ [] ++ filter (is_new (out ++ l ∷ [])) (without_repeats ls) ≡ whole
added_new out ls whole l new so_far =
    append_assoc out (l ∷ []) (filter (is_new (out ++ l ∷ [])) (without_repeats ls))
    ∙ ap (λ (ms : List Lit). out ++ l ∷ ms) (sym (filter_both (is_new out) (λ (m : Lit). not (same_literal l m)) (is_new (out ++ l ∷ [])) (longer out l) (without_repeats ls)))
    ∙ ap (λ (ms : List Lit). out ++ ms) (sym (kept (is_repeated out l) refl new))
    ∙ so_far
  where
    kept : (b : Bool) → is_repeated out l ≡ b → b ≡ false → filter (is_new out) (without_repeats (l ∷ ls)) ≡ l ∷ filter (is_new out) (filter (λ (m : Lit). not (same_literal l m)) (without_repeats ls))
    kept true e f = absurd (cc)
    kept false e f = rw e refl

pub left_old : (out ls whole : List Lit) (l : Lit) → is_repeated out l ≡ true → out ++ filter (is_new out) (without_repeats (l ∷ ls)) ≡ whole
    → out ++ filter (is_new out) (without_repeats ls) ≡ whole
left_old out ls whole l stands so_far =
    ap (λ (ms : List Lit). out ++ ms)
    (sym (filter_both (is_new out) (λ (m : Lit). not (same_literal l m)) (is_new out) (no_longer out l stands) (without_repeats ls))
    ∙ sym (dropped (is_repeated out l) refl stands))
    ∙ so_far
  where
    dropped : (b : Bool) → is_repeated out l ≡ b → b ≡ true → filter (is_new out) (without_repeats (l ∷ ls)) ≡ filter (is_new out) (filter (λ (m : Lit). not (same_literal l m)) (without_repeats ls))
    dropped true e f = rw e refl
    dropped false e f = absurd (cc)

-- one literal more
pub one_literal_more : (out new left ls whole : List Lit) (l : Lit) → new ≡ with_new out l → left ≡ l ∷ ls → out ++ filter (is_new out) (without_repeats left) ≡ whole → new ++ filter (is_new new) (without_repeats ls) ≡ whole
one_literal_more out new left ls whole l is cut so_far = by (is_repeated out l) refl
  where
    start : out ++ filter (is_new out) (without_repeats (l ∷ ls)) ≡ whole
    start = sym (ap (λ (ms : List Lit). out ++ filter (is_new out) (without_repeats ms)) cut) ∙ so_far

    by : (b : Bool) → is_repeated out l ≡ b → new ++ filter (is_new new) (without_repeats ls) ≡ whole
    by true e =
        let same : new ≡ out = is ∙ ap (λ (b : Bool). if b then out else out ++ l ∷ []) e in
        ap (λ (n : List Lit). n ++ filter (is_new n) (without_repeats ls)) same ∙ left_old out ls whole l e start
    by false e =
        let more : new ≡ out ++ l ∷ [] = is ∙ ap (λ (b : Bool). if b then out else out ++ l ∷ []) e in
        ap (λ (n : List Lit). n ++ filter (is_new n) (without_repeats ls)) more ∙ added_new out ls whole l e start

-- a list without repeats

unlike_all : (l : Lit) (ms : List Lit) → list_any (same_literal l) ms ≡ false → filter (λ (m : Lit). not (same_literal l m)) ms ≡ ms
unlike_all l [] none = refl
unlike_all l (m ∷ ms) none =
    let two = or_parts (same_literal l m) (list_any (same_literal l) ms) none in
    ap (λ (b : Bool). cond (not b) (m ∷ filter (λ (n : Lit). not (same_literal l n)) ms) (filter (λ (n : Lit). not (same_literal l n)) ms)) two.0
    ∙ ap (λ (ls : List Lit). m ∷ ls) (unlike_all l ms two.1)

pub no_repeats : (ls : List Lit) → has_repeats ls ≡ false → without_repeats ls ≡ ls
no_repeats [] none = refl
no_repeats (l ∷ ls) none =
    let two = or_parts (list_any (same_literal l) ls) (has_repeats ls) none in
    ap (λ (ms : List Lit). l ∷ filter (λ (m : Lit). not (same_literal l m)) ms) (no_repeats ls two.1)
    ∙ ap (λ (ms : List Lit). l ∷ ms) (unlike_all l ls two.0)
