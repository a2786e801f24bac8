-- Words taken one by one from lexemes that are all words.
use Rattle.std.proofs.Common.{◌≡◌, ℕ, zero, suc, ◌+◌, ◌<◌, ◌≤◌, List, [], ◌∷◌, ◌++◌, Bool, true, false, length, drop, Option, Some, None, option_map, refl, sym, ap, subst, ◌∙◌, arith, append_assoc}
use Rattle.std.proofs.lemmas.List.{append-nil, drop_all}
use Rattle.lv_text.specs.Lexemes.{Lexeme, word_at}
use Rattle.lv_reader.specs.Words.{words_of, is_or, has_kind_at, alternatives, one_or_more}

-- words and those after them
abbrev pub joined_words : List (List ℕ) → Option (List (List ℕ)) → Option (List (List ℕ))
joined_words front rest = option_map (λ back. front ++ back) rest

pub joined_words-none : (rest : Option (List (List ℕ))) → joined_words [] rest ≡ rest
joined_words-none None = refl
joined_words-none (Some words) = refl

one_taken : (line : List Lexeme) (at : ℕ) (word : List ℕ) → word_at line at ≡ Some word → words_of (drop at line) ≡ option_map (λ words. word ∷ words) (words_of (drop (suc at) line))
one_taken [] at word h = absurd (cc)
one_taken (l ∷ ls) zero word h = rw h refl
one_taken (l ∷ ls) (suc n) word h = one_taken ls n word h

moved_on : (front : List (List ℕ)) (word : List ℕ) (rest : Option (List (List ℕ))) → joined_words (front ++ word ∷ []) rest ≡ joined_words front (option_map (λ words. word ∷ words) rest)
moved_on front word None = refl
moved_on front word (Some words) = ap Some (append_assoc front (word ∷ []) words)

-- one more word is taken
pub word_taken : (line : List Lexeme) (at : ℕ) (front : List (List ℕ)) (word : List ℕ) (whole : Option (List (List ℕ))) → word_at line at ≡ Some word
    → joined_words front (words_of (drop at line)) ≡ whole → joined_words (front ++ word ∷ []) (words_of (drop (at + 1) line)) ≡ whole
word_taken line at front word whole h is =
    let next : suc at ≡ at + 1 = omega arith in
    let whole_now : joined_words (front ++ word ∷ []) (words_of (drop (suc at) line)) ≡ whole =
    moved_on front word (words_of (drop (suc at) line)) ∙ ap (joined_words front) (sym (one_taken line at word h)) ∙ is in
    subst (λ n. joined_words (front ++ word ∷ []) (words_of (drop n line)) ≡ whole) next whole_now

no_words : (line : List Lexeme) (at : ℕ) → at < length line → word_at line at ≡ None → words_of (drop at line) ≡ None
no_words [] at inside h = absurd (omega arith)
no_words (l ∷ ls) zero inside h = rw h refl
no_words (l ∷ ls) (suc n) inside h = no_words ls n (omega arith) h

-- what is no word ends the search for words
pub word_missing : (line : List Lexeme) (at : ℕ) (front : List (List ℕ)) (whole : Option (List (List ℕ))) → at < length line → word_at line at ≡ None
    → joined_words front (words_of (drop at line)) ≡ whole → whole ≡ None
word_missing line at front whole inside h is = sym is ∙ ap (joined_words front) (no_words line at inside h)

-- behind the last word all are taken
pub words_taken : (line : List Lexeme) (at : ℕ) (front : List (List ℕ)) (whole : Option (List (List ℕ))) → length line ≤ at
    → joined_words front (words_of (drop at line)) ≡ whole → whole ≡ Some front
words_taken line at front whole past is =
    sym is ∙ ap (λ ls. joined_words front (words_of ls)) (drop_all at line past) ∙ ap Some (append-nil front)

sign_taken : (line : List Lexeme) (at : ℕ) (word : List ℕ) → has_kind_at is_or line at ≡ true → word_at line (suc at) ≡ Some word
    → alternatives (drop at line) ≡ option_map (λ words. word ∷ words) (alternatives (drop (suc (suc at)) line))
sign_taken [] at word s h = absurd (nothing_there at s)
  where
    nothing_there : (at : ℕ) → has_kind_at is_or [] at ≡ true → ⊥
    nothing_there zero s = (cc)
    nothing_there (suc n) s = (cc)
sign_taken (l ∷ []) zero word s h = absurd (cc)
sign_taken (l ∷ m ∷ ls) zero word s h = rw (s, h) refl
sign_taken (l ∷ ls) (suc n) word s h = sign_taken ls n word s h

-- one more name behind a sign is taken
pub other_taken : (line : List Lexeme) (at : ℕ) (front : List (List ℕ)) (word : List ℕ) (whole : Option (List (List ℕ))) → has_kind_at is_or line at ≡ true
    → word_at line (at + 1) ≡ Some word → joined_words front (alternatives (drop at line)) ≡ whole → joined_words (front ++ word ∷ []) (alternatives (drop (at + 2) line)) ≡ whole
other_taken line at front word whole s h is =
    let one : at + 1 ≡ suc at = omega arith in
    let two : suc (suc at) ≡ at + 2 = omega arith in
    let there : word_at line (suc at) ≡ Some word = subst (λ n. word_at line n ≡ Some word) one h in
    let now : joined_words (front ++ word ∷ []) (alternatives (drop (suc (suc at)) line)) ≡ whole =
    moved_on front word (alternatives (drop (suc (suc at)) line)) ∙ ap (joined_words front) (sym (sign_taken line at word s there)) ∙ is in
    subst (λ n. joined_words (front ++ word ∷ []) (alternatives (drop n line)) ≡ whole) two now

sign_alone : (line : List Lexeme) (at : ℕ) → has_kind_at is_or line at ≡ true → word_at line (suc at) ≡ None → alternatives (drop at line) ≡ None
sign_alone [] zero s h = absurd (cc)
sign_alone [] (suc n) s h = absurd (cc)
sign_alone (l ∷ []) zero s h = rw s refl
sign_alone (l ∷ m ∷ ls) zero s h = rw (s, h) refl
sign_alone (l ∷ ls) (suc n) s h = sign_alone ls n s h

-- a sign without a name behind it ends the search for names
pub other_missing : (line : List Lexeme) (at : ℕ) (front : List (List ℕ)) (whole : Option (List (List ℕ))) → has_kind_at is_or line at ≡ true → word_at line (at + 1) ≡ None
    → joined_words front (alternatives (drop at line)) ≡ whole → whole ≡ None
other_missing line at front whole s h is =
    let one : at + 1 ≡ suc at = omega arith in
    sym is ∙ ap (joined_words front) (sign_alone line at s (subst (λ n. word_at line n ≡ None) one h))

no_sign : (line : List Lexeme) (at : ℕ) → has_kind_at is_or line at ≡ false → alternatives (drop at line) ≡ Some []
no_sign [] zero s = refl
no_sign [] (suc n) s = refl
no_sign (l ∷ ls) zero s = rw s refl
no_sign (l ∷ ls) (suc n) s = no_sign ls n s

-- without a sign all names are taken
pub others_end : (line : List Lexeme) (at : ℕ) (front : List (List ℕ)) (whole : Option (List (List ℕ))) (sign : Bool) → sign ≡ has_kind_at is_or line at → sign ≡ false
    → joined_words front (alternatives (drop at line)) ≡ whole → whole ≡ Some front
others_end line at front whole sign asked none is = sym is ∙ ap (joined_words front) (no_sign line at (sym asked ∙ none)) ∙ ap Some (append-nil front)

-- and so they are at the end of the line
pub others_past : (line : List Lexeme) (at : ℕ) (front : List (List ℕ)) (whole : Option (List (List ℕ))) → length line ≤ at
    → joined_words front (alternatives (drop at line)) ≡ whole → whole ≡ Some front
others_past line at front whole past is =
    sym is ∙ ap (λ ls. joined_words front (alternatives ls)) (drop_all at line past) ∙ ap Some (append-nil front)

-- the first name
pub first_taken : (line : List Lexeme) (word : List ℕ) → word_at line 1 ≡ Some word → joined_words (word ∷ []) (alternatives (drop 2 line)) ≡ one_or_more line
first_taken [] word h = absurd (cc)
first_taken (t ∷ []) word h = absurd (cc)
first_taken (t ∷ l ∷ ls) word h = rw h refl

pub first_missing : (line : List Lexeme) → word_at line 1 ≡ None → one_or_more line ≡ None
first_missing [] h = refl
first_missing (t ∷ []) h = refl
first_missing (t ∷ l ∷ ls) h = rw h refl

-- a place with a word is inside the line
pub sign_inside : (line : List Lexeme) (at : ℕ) → has_kind_at is_or line at ≡ true → at < length line
sign_inside [] zero s = absurd (cc)
sign_inside [] (suc n) s = absurd (cc)
sign_inside (l ∷ ls) zero s = omega arith
sign_inside (l ∷ ls) (suc n) s = let less = sign_inside ls n s in omega (arith, less)

pub word_inside : (line : List Lexeme) (at : ℕ) (word : List ℕ) → word_at line at ≡ Some word → at < length line
word_inside [] zero word s = absurd (cc)
word_inside [] (suc n) word s = absurd (cc)
word_inside (l ∷ ls) zero word s = omega arith
word_inside (l ∷ ls) (suc n) word s = let less = word_inside ls n word s in omega (arith, less)
