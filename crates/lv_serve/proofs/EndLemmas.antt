-- Texts cut at their last line feed, as more comes.
use Rattle.std.proofs.Common.{◌≡◌, ℕ, suc, ◌+◌, ◌-◌, ◌<◌, nat_lt, not, Bool, true, false, ◌||◌, cond, List, [], ◌∷◌, ◌++◌, length, take, drop, Some, None, refl, sym, ◌∙◌, ap, ap₂, arith, append_assoc}
use Rattle.std.specs.List.{list_any, position_or_len}
use Rattle.std.specs.Option.{option_map}
use Rattle.std.specs.Str.Lines.{strip_carriage_return}
use Rattle.std.proofs.lemmas.List.{append-nil}
use Rattle.std.proofs.lemmas.List.Folds.{list_any-append}
use Rattle.lv_text.specs.Lines.{is_line_feed, lines_of, first_ended_line}
use Rattle.lv_text.proofs.LineFacts.{found_inside}
use Rattle.lv_text.proofs.LineLaws.{line_feed_ends, end_ends, lines_part}
use Rattle.lv_serve.specs.Ends.{ended, unended}

-- the two parts are the text
pub parts_joined : (text : List ℕ) → ended text ++ unended text ≡ text
parts_joined [] = refl
parts_joined (b ∷ more) = by (parts_joined more) (list_any is_line_feed (b ∷ more))
  where
    by : ended more ++ unended more ≡ more → (c : Bool) → cond c (b ∷ ended more) [] ++ cond c (unended more) (b ∷ more) ≡ b ∷ more
    by later true = ap (λ (l : List ℕ). b ∷ l) later
    by later false = refl

-- no line feed stands behind the last
pub unended_has_none : (text : List ℕ) → list_any is_line_feed (unended text) ≡ false
unended_has_none [] = refl
unended_has_none (b ∷ more) = by (unended_has_none more) (list_any is_line_feed (b ∷ more)) refl
  where
    by : list_any is_line_feed (unended more) ≡ false → (c : Bool) → list_any is_line_feed (b ∷ more) ≡ c → list_any is_line_feed (cond c (unended more) (b ∷ more)) ≡ false
    by later true is = later
    by later false is = is

none_added : (xs ys : List ℕ) → list_any is_line_feed ys ≡ false → list_any is_line_feed (xs ++ ys) ≡ list_any is_line_feed xs
none_added xs ys none = list_any-append is_line_feed xs ys ∙ by (list_any is_line_feed xs) (list_any is_line_feed ys) none
  where
    by : (a b : Bool) → b ≡ false → (a || b) ≡ a
    by true b e = refl
    by false b e = e

ended_none : (text : List ℕ) → list_any is_line_feed text ≡ false → ended text ≡ []
ended_none [] none = refl
ended_none (b ∷ more) none = ap (λ (c : Bool). cond c (b ∷ ended more) []) none

unended_none : (text : List ℕ) → list_any is_line_feed text ≡ false → unended text ≡ text
unended_none [] none = refl
unended_none (b ∷ more) none = ap (λ (c : Bool). cond c (unended more) (b ∷ more)) none

-- more of a line that doesn't end
pub ended_stays : (text more : List ℕ) → list_any is_line_feed more ≡ false → ended (text ++ more) ≡ ended text
ended_stays [] more none = ended_none more none
ended_stays (b ∷ text) more none =
    ap₂ (λ (c : Bool) (l : List ℕ). cond c (b ∷ l) []) (none_added (b ∷ text) more none) (ended_stays text more none)

pub unended_grows : (text more : List ℕ) → list_any is_line_feed more ≡ false → unended (text ++ more) ≡ unended text ++ more
unended_grows [] more none = unended_none more none
unended_grows (b ∷ text) more none =
    ap₂ (λ (c : Bool) (l : List ℕ). cond c l (b ∷ (text ++ more))) (none_added (b ∷ text) more none) (unended_grows text more none)
    ∙ by (list_any is_line_feed (b ∷ text))
  where
    by : (c : Bool) → cond c (unended text ++ more) (b ∷ (text ++ more)) ≡ cond c (unended text) (b ∷ text) ++ more
    by true = refl
    by false = refl

has_feed : (text : List ℕ) → list_any is_line_feed (text ++ 10 ∷ []) ≡ true
has_feed text = list_any-append is_line_feed text (10 ∷ []) ∙ by (list_any is_line_feed text)
  where
    by : (a : Bool) → (a || true) ≡ true
    by true = refl
    by false = refl

-- a text that a line feed ends
pub ended_whole : (text : List ℕ) → ended (text ++ 10 ∷ []) ≡ text ++ 10 ∷ []
ended_whole [] = refl
ended_whole (b ∷ text) =
    ap₂ (λ (c : Bool) (l : List ℕ). cond c (b ∷ l) []) (has_feed (b ∷ text)) (ended_whole text)

pub unended_whole : (text : List ℕ) → unended (text ++ 10 ∷ []) ≡ []
unended_whole [] = refl
unended_whole (b ∷ text) =
    ap₂ (λ (c : Bool) (l : List ℕ). cond c l (b ∷ (text ++ 10 ∷ []))) (has_feed (b ∷ text)) (unended_whole text)

-- the lines that have ended are none, or end with a line feed
data IsCut : List ℕ → Type 0 where
  is_none : {text : List ℕ} → text ≡ [] → IsCut text
  is_some : {text : List ℕ} (front : List ℕ) → text ≡ front ++ 10 ∷ [] → IsCut text

ended_cut : (text : List ℕ) → IsCut (ended text)
ended_cut [] = is_none refl
ended_cut (b ∷ more) = by b (is_line_feed b) refl (ended_cut more)
  where
    feed : (b : ℕ) → is_line_feed b ≡ true → b ≡ 10
    feed b is = grind arith

    by : (b : ℕ) (c : Bool) → is_line_feed b ≡ c → IsCut (ended more) → IsCut (cond (c || list_any is_line_feed more) (b ∷ ended more) [])
    by b true is (is_none e) = is_some [] (ap₂ (λ (x : ℕ) (l : List ℕ). x ∷ l) (feed b is) e)
    by b true is (is_some front e) = is_some (b ∷ front) (ap (λ (l : List ℕ). b ∷ l) e)
    by b false is (is_none e) = by_rest (list_any is_line_feed more) refl e
      where
        by_rest : (c : Bool) → list_any is_line_feed more ≡ c → ended more ≡ [] → IsCut (cond c (b ∷ ended more) [])
        by_rest true has e = absurd (never more has e)
          where
            never : (t : List ℕ) → list_any is_line_feed t ≡ true → ended t ≡ [] → ⊥
            never [] h e = absurd (cc)
            never (x ∷ t) h e = let f : cond (list_any is_line_feed (x ∷ t)) (x ∷ ended t) [] ≡ x ∷ ended t = ap (λ (c : Bool). cond c (x ∷ ended t) []) h in absurd (cc)
        by_rest false has e = is_none refl
    by b false is (is_some front e) = by_rest (list_any is_line_feed more)
      where
        by_rest : (c : Bool) → IsCut (cond c (b ∷ ended more) [])
        by_rest true = is_some (b ∷ front) (ap (λ (l : List ℕ). b ∷ l) e)
        by_rest false = is_none refl

-- the lines of a text are those that have ended, and those behind its last line feed
pub lines_cut : (text rest : List ℕ) → lines_of (ended text ++ rest) ≡ lines_of (ended text) ++ lines_of rest
lines_cut text rest = by (ended text) (ended_cut text)
  where
    by : (front : List ℕ) → IsCut front → lines_of (front ++ rest) ≡ lines_of front ++ lines_of rest
    by front (is_none e) = ap (λ (l : List ℕ). lines_of (l ++ rest)) e ∙ sym (ap (λ (l : List ℕ). lines_of l ++ lines_of rest) e)
    by front (is_some f e) =
        ap (λ (l : List ℕ). lines_of (l ++ rest)) e ∙ ap lines_of (append_assoc f (10 ∷ []) rest) ∙ lines_part f rest
        ∙ sym (ap (λ (l : List ℕ). lines_of l ++ lines_of rest) e)

-- the last line has ended
pub lines_one_more : (text : List ℕ) → lines_of (ended (text ++ 10 ∷ [])) ≡ lines_of (ended text) ++ strip_carriage_return (unended text) ∷ []
lines_one_more text =
    ap lines_of
    (ended_whole text ∙ ap (λ (l : List ℕ). l ++ 10 ∷ []) (sym (parts_joined text)) ∙ append_assoc (ended text) (unended text) (10 ∷ []))
    ∙ lines_cut text (unended text ++ 10 ∷ [])
    ∙ ap (λ (ls : List (List ℕ)). lines_of (ended text) ++ ls) (line_feed_ends (unended text) [] (unended_has_none text))

-- the lines of the whole text, the last of which the end of the text ends
pub lines_last : (text : List ℕ) → 0 < length (unended text) → lines_of text ≡ lines_of (ended text) ++ strip_carriage_return (unended text) ∷ []
lines_last text some =
    ap lines_of (sym (parts_joined text)) ∙ lines_cut text (unended text)
    ∙ ap (λ (ls : List (List ℕ)). lines_of (ended text) ++ ls) (end_ends (unended text) (unended_has_none text) some)

pub lines_all_ended : (text : List ℕ) → unended text ≡ [] → lines_of text ≡ lines_of (ended text)
lines_all_ended text all =
    ap lines_of (sym (parts_joined text)) ∙ ap (λ (l : List ℕ). lines_of (ended text ++ l)) all ∙ ap lines_of (append-nil (ended text))

-- a longer text has the same lines that have ended, and behind them those that end in what came
pub ended_more : (text more : List ℕ) → ended (text ++ more) ≡ ended text ++ ended (unended text ++ more)
ended_more [] more = refl
ended_more (b ∷ text) more = by (ended_more text more) (list_any is_line_feed (b ∷ text)) refl
  where
    has : (c : Bool) → list_any is_line_feed (b ∷ text) ≡ true → list_any is_line_feed ((b ∷ text) ++ more) ≡ true
    has c is = list_any-append is_line_feed (b ∷ text) more ∙ ap (λ (a : Bool). a || list_any is_line_feed more) is

    by : ended (text ++ more) ≡ ended text ++ ended (unended text ++ more) → (c : Bool) → list_any is_line_feed (b ∷ text) ≡ c
        → ended ((b ∷ text) ++ more) ≡ cond c (b ∷ ended text) [] ++ ended (cond c (unended text) (b ∷ text) ++ more)
    by later true is =
        ap (λ (a : Bool). cond a (b ∷ ended (text ++ more)) []) (has true is) ∙ ap (λ (l : List ℕ). b ∷ l) later
    by later false is = refl

-- where the first line feed stands
feed_parts : (text : List ℕ) → list_any is_line_feed text ≡ true
    → (text ≡ take (position_or_len is_line_feed text) text ++ 10 ∷ drop (position_or_len is_line_feed text + 1) text)
    × (list_any is_line_feed (take (position_or_len is_line_feed text) text) ≡ false)
feed_parts [] h = absurd (cc)
feed_parts (b ∷ more) h = by (feed_parts more) b (is_line_feed b) refl h
  where
    feed : (b : ℕ) → is_line_feed b ≡ true → b ≡ 10
    feed b is = grind arith

    m : ℕ
    m = position_or_len is_line_feed more

    by : (list_any is_line_feed more ≡ true → (more ≡ take m more ++ 10 ∷ drop (m + 1) more) × (list_any is_line_feed (take m more) ≡ false))
        → (b : ℕ) (c : Bool) → is_line_feed b ≡ c → (c || list_any is_line_feed more) ≡ true
        → ((b ∷ more) ≡ take (cond (not c) (1 + m) 0) (b ∷ more) ++ 10 ∷ drop (cond (not c) (1 + m) 0 + 1) (b ∷ more))
        × (list_any is_line_feed (take (cond (not c) (1 + m) 0) (b ∷ more)) ≡ false)
    by later b true is e = (ap (λ (x : ℕ). x ∷ more) (feed b is), refl)
    by later b false is e =
        let parts = later e in
        let one : suc m ≡ 1 + m = omega arith in
        let two : suc (m + 1) ≡ (1 + m) + 1 = omega arith in (
          ap (λ (l : List ℕ). b ∷ l) parts.0
              ∙ ap₂ (λ (j k : ℕ). take j (b ∷ more) ++ 10 ∷ drop k (b ∷ more)) one two,
          ap (λ (k : ℕ). list_any is_line_feed (take k (b ∷ more))) (sym one) ∙ ap (λ (a : Bool). a || list_any is_line_feed (take m more)) is ∙ parts.1,
        )

-- the line that ends first, and what stands behind its end
pub first_cut : (text : List ℕ) (shown whole : ℕ) → first_ended_line text ≡ Some (shown, whole)
    → (text ≡ (take (whole - 1) text ++ 10 ∷ []) ++ drop whole text) × (list_any is_line_feed (take (whole - 1) text) ≡ false)
first_cut text shown whole found = by (nat_lt (position_or_len is_line_feed text) (length text)) refl found
  where
    n : ℕ
    n = position_or_len is_line_feed text

    both : ℕ → ℕ × ℕ
    both k = (length (strip_carriage_return (take k text)), k + 1)

    inside : (x y : ℕ × ℕ) → Some x ≡ Some y → x ≡ y
    inside x y e = cc

    by : (c : Bool) → nat_lt (position_or_len is_line_feed text) (length text) ≡ c
        → option_map both (cond c (Some n) None) ≡ Some (shown, whole)
        → (text ≡ (take (whole - 1) text ++ 10 ∷ []) ++ drop whole text) × (list_any is_line_feed (take (whole - 1) text) ≡ false)
    by true is e =
        let parts = feed_parts text (sym (found_inside is_line_feed text) ∙ is) in
        let place : whole ≡ n + 1 = sym (ap (λ (p : ℕ × ℕ). p.1) (inside (both n) (shown, whole) e)) in
        let before : n ≡ whole - 1 = omega (arith, place) in (
          parts.0 ∙ sym (append_assoc (take n text) (10 ∷ []) (drop (n + 1) text))
              ∙ ap₂ (λ (j k : ℕ). (take j text ++ 10 ∷ []) ++ drop k text) before (sym place),
          ap (λ (k : ℕ). list_any is_line_feed (take k text)) (sym before) ∙ parts.1,
        )
    by false is e = absurd (cc)
