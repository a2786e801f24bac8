-- A line in its form is read back from its words.
use Rattle.std.proofs.Common.{◌≡◌, ℕ, suc, ◌+◌, Bool, true, false, not, cond, nat_lt, nat_eq, List, [], ◌∷◌, ◌++◌, length, take, drop, map, Option, Some, None, refl, sym, ap, ap₂, subst, ◌∙◌, arith}
use Rattle.std.specs.Prelude.{codes, decimal}
use Rattle.std.specs.List.{list_all, position, position_or_len}
use Rattle.std.specs.Option.{option_map, option_and_then}
use Rattle.std.proofs.lemmas.Bool.{and_parts, and_from, and_right}
use Rattle.std.proofs.lemmas.Bool.Decides.{nat_tests}
use Rattle.std.proofs.lemmas.List.{length-map, length-append}
use Rattle.std.proofs.Math.Seq.{take-append_seam, drop-append-add}
use Rattle.lv_text.specs.Numbers.{number_value}
use Rattle.lv_cert.specs.declared.line.Question.{Question}
use Rattle.lv_cert.specs.declared.line.Moment.{Moment}
use Rattle.lv_cert.specs.declared.line.Literal.{Literal}
use Rattle.lv_cert.specs.declared.line.Evidence.{Evidence}
use Rattle.lv_cert.specs.declared.line.Head.{Head}
use Rattle.lv_cert.specs.declared.line.Line.{Line}
use Rattle.lv_cert.specs.Texts.{head_word, literal_word, evidence_words, words_of}
use Rattle.lv_cert.specs.Numbers.{is_number, is_positive, is_literal, literal_value}
use Rattle.lv_cert.specs.Reading.{head_of, has_fitting_count, numbers_of, literals_of, hints_of, row_of, number_of, evidence_of, is_zero, clause_from, line_from, line_of}
use Rattle.lv_cert.specs.Form.{is_within_limit, is_formed_hint, is_formed_literal, is_formed_evidence, is_formed}
use Rattle.lv_cert.proofs.SpellingLemmas.{same_text, worth, is_number-decimal, is_positive-decimal, is_literal-word, literal_worth}

number_back : (n : ℕ) → is_within_limit n ≡ true → number_of (decimal n) ≡ Some n
number_back n h = ap₂ (λ (c : Bool) (m : ℕ). cond c (Some m) None) (is_number-decimal n h) (worth n h)

numbers_good : (ns : List ℕ) → list_all is_within_limit ns ≡ true → (list_all is_number (map decimal ns) ≡ true) × (map number_value (map decimal ns) ≡ ns)
numbers_good [] h = (refl, refl)
numbers_good (n ∷ ns) h =
    let parts = and_parts _ _ h in let later = numbers_good ns parts.1 in
    (and_from _ _ (is_number-decimal n parts.0) later.0, ap₂ (λ (x : ℕ) (xs : List ℕ). x ∷ xs) (worth n parts.0) later.1)

hints_good : (ns : List ℕ) → list_all is_formed_hint ns ≡ true → (list_all is_positive (map decimal ns) ≡ true) × (map number_value (map decimal ns) ≡ ns)
hints_good [] h = (refl, refl)
hints_good (n ∷ ns) h =
    let parts = and_parts _ _ h in let later = hints_good ns parts.1 in
    (and_from _ _ (is_positive-decimal n parts.0) later.0, ap₂ (λ (x : ℕ) (xs : List ℕ). x ∷ xs) (worth n (and_parts _ _ parts.0).0) later.1)

literals_good : (ls : List Literal) → list_all is_formed_literal ls ≡ true → (list_all is_literal (map literal_word ls) ≡ true) × (map literal_value (map literal_word ls) ≡ ls)
literals_good [] h = (refl, refl)
literals_good (l ∷ ls) h =
    let parts = and_parts _ _ h in let later = literals_good ls parts.1 in
    (and_from _ _ (is_literal-word l parts.0) later.0, ap₂ (λ (x : Literal) (xs : List Literal). x ∷ xs) (literal_worth l parts.0) later.1)

head_back : (head : Head) → head_of (head_word head) ≡ Some head
head_back Head.Limit = refl
head_back Head.State = refl
head_back Head.Control = refl
head_back Head.Listed = refl
head_back Head.Now = refl
head_back Head.Next = refl
head_back Head.Conflict = refl
head_back Head.Recovery = refl
head_back Head.Good = refl
head_back Head.Proof = refl
head_back Head.Counter = refl

-- as many numbers as may stand behind a head are a line of numbers
row_behind : (head : Head) (w : List ℕ) (ws : List (List ℕ)) → has_fitting_count head (length ws) ≡ true → line_from (Some head) w ws ≡ row_of head ws
row_behind Head.Limit w [] h = refl
row_behind Head.Limit w (n ∷ []) h = refl
row_behind Head.Limit w (n ∷ u ∷ us) h = absurd (grind (arith, nat_tests))
row_behind Head.State w ws h = refl
row_behind Head.Control w ws h = refl
row_behind Head.Listed w ws h = refl
row_behind Head.Now w ws h = refl
row_behind Head.Next w ws h = refl
row_behind Head.Conflict w ws h = refl
row_behind Head.Recovery w ws h = refl
row_behind Head.Good w ws h = refl
row_behind Head.Proof w ws h = refl
row_behind Head.Counter w ws h = refl

row_back : (head : Head) (ns : List ℕ) → is_formed (Line.Numbers head ns) ≡ true → line_of (words_of (Line.Numbers head ns)) ≡ Some (Line.Numbers head ns)
row_back head ns h =
    let parts = and_parts _ _ h in let all = numbers_good ns parts.1 in
    let long : length (map decimal ns) ≡ length ns = length-map ns decimal in
    let fits : has_fitting_count head (length (map decimal ns)) ≡ true = subst (λ n. has_fitting_count head n ≡ true) (sym long) parts.0 in
    ap (λ o. line_from o (head_word head) (map decimal ns)) (head_back head) ∙ row_behind head (head_word head) (map decimal ns) fits
    ∙ ap (λ c. cond c (option_map (λ ms. Line.Numbers head ms) (numbers_of (map decimal ns))) None) fits
    ∙ ap₂ (λ (c : Bool) (ms : List ℕ). option_map (λ ks. Line.Numbers head ks) (cond c (Some ms) None)) all.0 all.1

-- the first 0 stands behind words of which none is 0
zero_first : (xs ys : List (List ℕ)) → list_all (λ w. not (is_zero w)) xs ≡ true → position_or_len is_zero (xs ++ codes "0" ∷ ys) ≡ length xs
zero_first [] ys e = refl
zero_first (u ∷ us) ys e = by (zero_first us ys (and_parts _ _ e).1) (is_zero u) refl
  where
    m : ℕ
    m = position_or_len is_zero (us ++ codes "0" ∷ ys)

    by : m ≡ length us → (c : Bool) → is_zero u ≡ c → cond (not c) (1 + m) 0 ≡ suc (length us)
    by later true is = let no : not true ≡ true = ap not (sym is) ∙ (and_parts _ _ e).0 in absurd (cc)
    by later false is = omega arith

zero_place : (xs ys : List (List ℕ)) → list_all (λ w. not (is_zero w)) xs ≡ true → position is_zero (xs ++ codes "0" ∷ ys) ≡ Some (length xs)
zero_place xs ys h =
    let first : position_or_len is_zero (xs ++ codes "0" ∷ ys) ≡ length xs = zero_first xs ys h in
    let long : length (xs ++ codes "0" ∷ ys) ≡ length xs + suc (length ys) = length-append xs (codes "0" ∷ ys) in
    let test : nat_lt (length xs) (length xs + suc (length ys)) ≡ true = grind (arith, nat_tests) in
    ap₂ (λ (n m : ℕ). cond (nat_lt n m) (Some n) None) first long ∙ ap (λ c. cond c (Some (length xs)) None) test

literal_not_zero : (ls : List Literal) → list_all is_formed_literal ls ≡ true → list_all (λ w. not (is_zero w)) (map literal_word ls) ≡ true
literal_not_zero [] h = refl
literal_not_zero (l ∷ ls) h = and_from _ _ (by (is_zero (literal_word l)) refl) (literal_not_zero ls (and_parts _ _ h).1)
  where
    good : is_literal (literal_word l) ≡ true
    good = is_literal-word l (and_parts _ _ h).0

    by : (c : Bool) → is_zero (literal_word l) ≡ c → not (is_zero (literal_word l)) ≡ true
    by true is =
        let zero_good : is_literal (codes "0") ≡ true = subst (λ w. is_literal w ≡ true) (same_text (literal_word l) (codes "0") is) good in
        let zero_bad : is_literal (codes "0") ≡ false = and_right (is_number (codes "0")) false refl in
        absurd (cc)
    by false is = ap not is

hint_not_zero : (ns : List ℕ) → list_all is_formed_hint ns ≡ true → list_all (λ w. not (is_zero w)) (map decimal ns) ≡ true
hint_not_zero [] h = refl
hint_not_zero (n ∷ ns) h = and_from _ _ (by (is_zero (decimal n)) refl) (hint_not_zero ns (and_parts _ _ h).1)
  where
    good : is_positive (decimal n) ≡ true
    good = is_positive-decimal n (and_parts _ _ h).0

    by : (c : Bool) → is_zero (decimal n) ≡ c → not (is_zero (decimal n)) ≡ true
    by true is =
        let zero_good : is_positive (codes "0") ≡ true = subst (λ w. is_positive w ≡ true) (same_text (decimal n) (codes "0") is) good in
        let zero_bad : is_positive (codes "0") ≡ false = and_right (is_number (codes "0")) false refl in
        absurd (cc)
    by false is = ap not is

-- a clause from words that were cut
hints_back : (ls : List Literal) (hs : List ℕ) → list_all is_formed_literal ls ≡ true → list_all is_formed_hint hs ≡ true
    → clause_from (map literal_word ls) (map decimal hs ++ codes "0" ∷ []) ≡ Some (Line.Clause ls hs)
hints_back ls hs h i =
    let ws : List (List ℕ) = map decimal hs in
    let place : position is_zero (ws ++ codes "0" ∷ []) ≡ Some (length ws) = zero_place ws [] (hint_not_zero hs i) in
    let long : length (ws ++ codes "0" ∷ []) ≡ length ws + 1 = length-append ws (codes "0" ∷ []) in
    let last : nat_eq (length ws + 1) (length (ws ++ codes "0" ∷ [])) ≡ true = grind (arith, nat_tests) in
    let front : take (length ws) (ws ++ codes "0" ∷ []) ≡ ws = take-append_seam ws (codes "0" ∷ []) in
    let one = literals_good ls h in let two = hints_good hs i in
    ap (λ o. option_and_then (λ at. cond (nat_eq (at + 1) (length (ws ++ codes "0" ∷ [])))
    (option_and_then (λ literals. option_map (λ hints. Line.Clause literals hints) (hints_of (take at (ws ++ codes "0" ∷ [])))) (literals_of (map literal_word ls))) None) o) place
    ∙ ap₂ (λ (c : Bool) (us : List (List ℕ)). cond c (option_and_then (λ literals. option_map (λ hints. Line.Clause literals hints) (hints_of us)) (literals_of (map literal_word ls))) None) last front
    ∙ ap₂ (λ (c : Bool) (ks : List Literal). option_and_then (λ literals. option_map (λ hints. Line.Clause literals hints) (hints_of ws)) (cond c (Some ks) None)) one.0 one.1
    ∙ ap₂ (λ (c : Bool) (ks : List ℕ). option_map (λ hints. Line.Clause ls hints) (cond c (Some ks) None)) two.0 two.1

clause_back : (ls : List Literal) (hs : List ℕ) → is_formed (Line.Clause ls hs) ≡ true → line_of (words_of (Line.Clause ls hs)) ≡ Some (Line.Clause ls hs)
clause_back ls hs h =
    let parts = and_parts _ _ h in
    let ws : List (List ℕ) = map literal_word ls in
    let us : List (List ℕ) = map decimal hs ++ codes "0" ∷ [] in
    let place : position is_zero (ws ++ codes "0" ∷ us) ≡ Some (length ws) = zero_place ws us (literal_not_zero ls parts.0) in
    let front : take (length ws) (ws ++ codes "0" ∷ us) ≡ ws = take-append_seam ws (codes "0" ∷ us) in
    let rest : drop (length ws + 1) (ws ++ codes "0" ∷ us) ≡ us = drop-append-add ws (codes "0" ∷ us) 1 in
    ap (λ o. option_and_then (λ at. clause_from (take at (ws ++ codes "0" ∷ us)) (drop (at + 1) (ws ++ codes "0" ∷ us))) o) place
    ∙ ap₂ (λ (xs ys : List (List ℕ)). clause_from xs ys) front rest ∙ hints_back ls hs parts.0 parts.1

fact_back : (m : Moment) (x v : ℕ) → is_formed (Line.Fact m x v) ≡ true → line_of (words_of (Line.Fact m x v)) ≡ Some (Line.Fact m x v)
fact_back Moment.Now x v h =
    let parts = and_parts _ _ h in
    ap₂ (λ (o p : Option ℕ). option_and_then (λ a. option_map (λ b. Line.Fact Moment.Now a b) p) o) (number_back x parts.0) (number_back v parts.1)
fact_back Moment.Next x v h =
    let parts = and_parts _ _ h in
    ap₂ (λ (o p : Option ℕ). option_and_then (λ a. option_map (λ b. Line.Fact Moment.Next a b) p) o) (number_back x parts.0) (number_back v parts.1)

evidence_back : (e : Evidence) → is_formed_evidence e ≡ true → evidence_of (evidence_words e) ≡ Some e
evidence_back (Evidence.Conflict n) h = ap (λ o. option_and_then (λ k. Some (Evidence.Conflict k)) o) (number_back n h)
evidence_back (Evidence.Listed n) h = ap (λ o. option_and_then (λ k. Some (Evidence.Listed k)) o) (number_back n h)
evidence_back (Evidence.Target n) h = ap (λ o. option_and_then (λ k. Some (Evidence.Target k)) o) (number_back n h)
evidence_back Evidence.Recovery h = refl

split_back : (z : ℕ) (e : Evidence) → is_formed (Line.Split z e) ≡ true → line_of (words_of (Line.Split z e)) ≡ Some (Line.Split z e)
split_back z e h =
    let parts = and_parts _ _ h in
    ap₂ (λ (o : Option ℕ) (p : Option Evidence). option_and_then (λ zone. option_map (λ k. Line.Split zone k) p) o) (number_back z parts.0) (evidence_back e parts.1)

-- a line in its form is read back from its words
pub line_back : (l : Line) → is_formed l ≡ true → line_of (words_of l) ≡ Some l
line_back (Line.Certificate Question.Diagnosis) h = refl
line_back (Line.Certificate Question.Recovery) h = refl
line_back (Line.Model name) h = ap (λ c. option_map (λ t. Line.Model t) (cond c (Some name) None)) h
line_back (Line.Goal text) h = ap (λ c. option_map (λ t. Line.Goal t) (cond c (Some text) None)) h
line_back (Line.Distinct k) h = ap (λ o. option_map (λ n. Line.Distinct n) o) (number_back k h)
line_back (Line.Fact m x v) h = fact_back m x v h
line_back (Line.Clause ls hs) h = clause_back ls hs h
line_back (Line.Split z e) h = split_back z e h
line_back (Line.Numbers head ns) h = row_back head ns h
line_back Line.End h = refl
