-- The text of a line in its form is cut into its words, and ends at its first line feed.
use Rattle.std.proofs.Common.{◌≡◌, ℕ, ◌<◌, true, false, List, [], ◌∷◌, ◌++◌, length, map, Some, refl, sym, ap, ◌∙◌, arith}
use Rattle.std.specs.Prelude.{codes, decimal}
use Rattle.std.specs.List.{list_all, slice_split, join_with_byte, All}
use Rattle.std.proofs.lemmas.Bool.{and_parts, and_from}
use Rattle.std.proofs.lemmas.Bool.Decides.{nat_tests}
use Rattle.std.proofs.lemmas.List.{append-nil}
use Rattle.std.proofs.lemmas.List.Elements.{All-cons, All-append}
use Rattle.std.proofs.lemmas.List.Folds.{list_all-append}
use Rattle.std.proofs.lemmas.List.Splits.{slice_split_none, slice_split_at, join_with_byte-slice_split}
use Rattle.lv_cert.specs.declared.line.Question.{Question}
use Rattle.lv_cert.specs.declared.line.Moment.{Moment}
use Rattle.lv_cert.specs.declared.line.Literal.{Literal}
use Rattle.lv_cert.specs.declared.line.Evidence.{Evidence}
use Rattle.lv_cert.specs.declared.line.Head.{Head}
use Rattle.lv_cert.specs.declared.line.Line.{Line}
use Rattle.lv_cert.specs.Texts.{head_word, literal_word, evidence_words, words_of, spaced, joined}
use Rattle.lv_cert.specs.Words.{is_space, is_line_feed, is_inside, has_only_inside, is_word}
use Rattle.lv_cert.specs.Reading.{line_of}
use Rattle.lv_cert.specs.Form.{is_within_limit, is_formed_hint, is_formed_literal, is_formed_evidence, is_formed}
use Rattle.lv_cert.proofs.SpellingLemmas.{is_word-decimal, is_word-literal}
use Rattle.lv_cert.proofs.ReadingLemmas.{line_reads}
use Rattle.lv_cert.proofs.BackLemmas.{line_back}

decimals_are_words : (ns : List ℕ) → list_all is_within_limit ns ≡ true → list_all is_word (map decimal ns) ≡ true
decimals_are_words [] h = refl
decimals_are_words (n ∷ ns) h = let parts = and_parts _ _ h in and_from _ _ (is_word-decimal n parts.0) (decimals_are_words ns parts.1)

hints_are_words : (ns : List ℕ) → list_all is_formed_hint ns ≡ true → list_all is_word (map decimal ns) ≡ true
hints_are_words [] h = refl
hints_are_words (n ∷ ns) h = let parts = and_parts _ _ h in and_from _ _ (is_word-decimal n (and_parts _ _ parts.0).0) (hints_are_words ns parts.1)

literals_are_words : (ls : List Literal) → list_all is_formed_literal ls ≡ true → list_all is_word (map literal_word ls) ≡ true
literals_are_words [] h = refl
literals_are_words (l ∷ ls) h = let parts = and_parts _ _ h in and_from _ _ (is_word-literal l parts.0) (literals_are_words ls parts.1)

head_is_word : (head : Head) → is_word (head_word head) ≡ true
head_is_word Head.Limit = refl
head_is_word Head.State = refl
head_is_word Head.Control = refl
head_is_word Head.Listed = refl
head_is_word Head.Now = refl
head_is_word Head.Next = refl
head_is_word Head.Conflict = refl
head_is_word Head.Recovery = refl
head_is_word Head.Good = refl
head_is_word Head.Proof = refl
head_is_word Head.Counter = refl

evidence_is_words : (e : Evidence) → is_formed_evidence e ≡ true → list_all is_word (evidence_words e) ≡ true
evidence_is_words (Evidence.Conflict n) h = and_from _ _ refl (and_from _ _ (is_word-decimal n h) refl)
evidence_is_words (Evidence.Listed n) h = and_from _ _ refl (and_from _ _ (is_word-decimal n h) refl)
evidence_is_words (Evidence.Target n) h = and_from _ _ refl (and_from _ _ (is_word-decimal n h) refl)
evidence_is_words Evidence.Recovery h = refl

words_are_words : (l : Line) → is_formed l ≡ true → list_all is_word (words_of l) ≡ true
words_are_words (Line.Certificate Question.Diagnosis) h = refl
words_are_words (Line.Certificate Question.Recovery) h = refl
words_are_words (Line.Model name) h = and_from (is_word name) true h refl
words_are_words (Line.Goal text) h = and_from (is_word text) true h refl
words_are_words (Line.Distinct k) h = and_from _ _ (is_word-decimal k h) refl
words_are_words (Line.Fact Moment.Now x v) h = let parts = and_parts _ _ h in and_from _ _ (is_word-decimal x parts.0) (and_from _ _ (is_word-decimal v parts.1) refl)
words_are_words (Line.Fact Moment.Next x v) h = let parts = and_parts _ _ h in and_from _ _ (is_word-decimal x parts.0) (and_from _ _ (is_word-decimal v parts.1) refl)
words_are_words (Line.Clause ls hs) h =
    let parts = and_parts _ _ h in
    let behind : list_all is_word (map decimal hs ++ codes "0" ∷ []) ≡ true = list_all-append is_word (map decimal hs) (codes "0" ∷ []) ∙ and_from _ _ (hints_are_words hs parts.1) refl in
    list_all-append is_word (map literal_word ls) (codes "0" ∷ (map decimal hs ++ codes "0" ∷ [])) ∙ and_from _ _ (literals_are_words ls parts.0) behind
words_are_words (Line.Split z e) h = let parts = and_parts _ _ h in and_from _ _ (is_word-decimal z parts.0) (evidence_is_words e parts.1)
words_are_words (Line.Numbers head ns) h = let parts = and_parts _ _ h in and_from _ _ (head_is_word head) (decimals_are_words ns parts.1)
words_are_words Line.End h = refl

-- a word has no space and no line feed
no_space : (w : List ℕ) → has_only_inside w ≡ true → All (λ b. is_space b ≡ false) w
no_space [] h = λ k d l. absurd (omega arith)
no_space (b ∷ bs) h = let parts = and_parts _ _ h in All-cons (λ x. is_space x ≡ false) b bs (apart b parts.0) (no_space bs parts.1)
  where
    apart : (b : ℕ) → is_inside b ≡ true → is_space b ≡ false
    apart b h = grind (arith, nat_tests)

no_line_feed : (w : List ℕ) → has_only_inside w ≡ true → All (λ b. is_line_feed b ≡ false) w
no_line_feed [] h = λ k d l. absurd (omega arith)
no_line_feed (b ∷ bs) h = let parts = and_parts _ _ h in All-cons (λ x. is_line_feed x ≡ false) b bs (apart b parts.0) (no_line_feed bs parts.1)
  where
    apart : (b : ℕ) → is_inside b ≡ true → is_line_feed b ≡ false
    apart b h = grind (arith, nat_tests)

-- words with spaces between them are cut into these words
split_joined : (w : List ℕ) (ws : List (List ℕ)) → is_word w ≡ true → list_all is_word ws ≡ true → slice_split is_space (w ++ spaced ws) ≡ w ∷ ws
split_joined w [] h i = ap (slice_split is_space) (append-nil w) ∙ slice_split_none is_space w (no_space w (and_parts _ _ h).1)
split_joined w (u ∷ us) h i =
    let parts = and_parts _ _ i in
    slice_split_at is_space w 32 (u ++ spaced us) (no_space w (and_parts _ _ h).1) refl ∙ ap (λ t. w ∷ t) (split_joined u us parts.0 parts.1)

split_words : (ws : List (List ℕ)) → 0 < length ws → list_all is_word ws ≡ true → slice_split is_space (joined ws) ≡ ws
split_words [] some h = absurd (omega arith)
split_words (w ∷ ws) some h = let parts = and_parts _ _ h in split_joined w ws parts.0 parts.1

-- and the words of a text with spaces between them are the text
joined_is : (ws : List (List ℕ)) → joined ws ≡ join_with_byte 32 ws
joined_is [] = refl
joined_is (w ∷ []) = append-nil w
joined_is (w ∷ u ∷ us) = ap (λ t. w ++ 32 ∷ t) (joined_is (u ∷ us))

joined_split : (bs : List ℕ) → joined (slice_split is_space bs) ≡ bs
joined_split bs = joined_is (slice_split is_space bs) ∙ join_with_byte-slice_split 32 bs

some_words : (l : Line) → 0 < length (words_of l)
some_words (Line.Certificate q) = omega arith
some_words (Line.Model name) = omega arith
some_words (Line.Goal text) = omega arith
some_words (Line.Distinct k) = omega arith
some_words (Line.Fact m x v) = omega arith
some_words (Line.Clause ls hs) = omega arith
some_words (Line.Split z e) = omega arith
some_words (Line.Numbers head ns) = omega arith
some_words Line.End = omega arith

-- no line feed in words with spaces between them
spaced_inside : (ws : List (List ℕ)) → list_all is_word ws ≡ true → All (λ b. is_line_feed b ≡ false) (spaced ws)
spaced_inside [] h = no_line_feed [] refl
spaced_inside (w ∷ ws) h = let parts = and_parts _ _ h in All-cons (λ x. is_line_feed x ≡ false) 32 (w ++ spaced ws) refl (All-append (λ x. is_line_feed x ≡ false) w (spaced ws) (no_line_feed w (and_parts _ _ parts.0).1) (spaced_inside ws parts.1))

joined_inside : (ws : List (List ℕ)) → list_all is_word ws ≡ true → All (λ b. is_line_feed b ≡ false) (joined ws)
joined_inside [] h = no_line_feed [] refl
joined_inside (w ∷ ws) h = let parts = and_parts _ _ h in All-append (λ x. is_line_feed x ≡ false) w (spaced ws) (no_line_feed w (and_parts _ _ parts.0).1) (spaced_inside ws parts.1)

-- bytes that read as a line are its words with spaces between them
pub line_read : (bs : List ℕ) (l : Line) → line_of (slice_split is_space bs) ≡ Some l → (joined (words_of l) ≡ bs) × (is_formed l ≡ true)
line_read bs l h = let this = line_reads (slice_split is_space bs) l h in (ap joined this.0 ∙ joined_split bs, this.1)

-- a line in its form is read back
pub line_written : (l : Line) → is_formed l ≡ true → line_of (slice_split is_space (joined (words_of l))) ≡ Some l
line_written l h = ap line_of (split_words (words_of l) (some_words l) (words_are_words l h)) ∙ line_back l h

-- and there is no line feed in it
pub line_inside : (l : Line) → is_formed l ≡ true → All (λ b. is_line_feed b ≡ false) (joined (words_of l))
line_inside l h = joined_inside (words_of l) (words_are_words l h)

-- what stands before the first line feed is one
pub one_front : (a b x y : List ℕ) → All (λ c. is_line_feed c ≡ false) a → All (λ c. is_line_feed c ≡ false) x → a ++ 10 ∷ b ≡ x ++ 10 ∷ y → a ≡ x
one_front a b x y h i e =
    let one : slice_split is_line_feed (a ++ 10 ∷ b) ≡ a ∷ slice_split is_line_feed b = slice_split_at is_line_feed a 10 b h refl in
    let two : slice_split is_line_feed (x ++ 10 ∷ y) ≡ x ∷ slice_split is_line_feed y = slice_split_at is_line_feed x 10 y i refl in
    let same : a ∷ slice_split is_line_feed b ≡ x ∷ slice_split is_line_feed y = sym one ∙ ap (slice_split is_line_feed) e ∙ two in
    cc
