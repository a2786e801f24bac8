-- The lines of a text, and those that begin with a front.
use Rattle.std.proofs.Common.{◌≡◌, ℕ, suc, ◌+◌, Bool, true, false, cond, not, nat_eq, ◌&&◌, List, [], ◌∷◌, ◌++◌, map, take, refl, sym, ◌∙◌, ap, ap₂, subst, append_assoc, arith}
use Rattle.std.specs.List.{list_all, prefix_len}
use Rattle.std.proofs.lemmas.Bool.{eqb-true}
use Rattle.lv_base.specs.Names.{is_named}
use Rattle.lv_text.specs.Bytes.{is_word_byte}
use Rattle.lv_lanes.specs.Replies.{fronted, lane_front}
use Rattle.lv_lanes.specs.Bytes.{begun, whole_lines, behind_front, behind_fronts, ends_whole, is_whole}

-- ---- the lines of a text that is whole, and then those behind it

begun_before : (b : ℕ) (text : List ℕ) (more : List (List ℕ)) → ends_whole false text ≡ true → begun b (whole_lines text ++ more) ≡ begun b (whole_lines text) ++ more
begun_before b [] more whole = absurd (cc)
begun_before b (c ∷ text) more whole = by (nat_eq c 10) (whole_lines text)
  where
    by : (e : Bool) (ls : List (List ℕ)) → begun b (cond e ((c ∷ []) ∷ ls) (begun c ls) ++ more) ≡ begun b (cond e ((c ∷ []) ∷ ls) (begun c ls)) ++ more
    by true ls = refl
    by false [] = refl
    by false (l ∷ ls) = refl

pub lines_apart : (begins : Bool) (text more : List ℕ) → ends_whole begins text ≡ true → whole_lines (text ++ more) ≡ whole_lines text ++ whole_lines more
lines_apart begins [] more whole = refl
lines_apart begins (b ∷ text) more whole = by (nat_eq b 10) whole (λ (e : Bool). lines_apart e text more)
  where
    by : (e : Bool) → ends_whole e text ≡ true → ((e : Bool) → ends_whole e text ≡ true → whole_lines (text ++ more) ≡ whole_lines text ++ whole_lines more)
        → cond e ((b ∷ []) ∷ whole_lines (text ++ more)) (begun b (whole_lines (text ++ more)))
        ≡ cond e ((b ∷ []) ∷ whole_lines text) (begun b (whole_lines text)) ++ whole_lines more
    by true whole later = ap (λ (ls : List (List ℕ)). (b ∷ []) ∷ ls) (later true whole)
    by false whole later = ap (begun b) (later false whole) ∙ begun_before b text (whole_lines more) whole

-- ---- the lines of a text are the text

begun_joined : (b : ℕ) (ls : List (List ℕ)) → behind_fronts [] (begun b ls) ≡ b ∷ behind_fronts [] ls
begun_joined b [] = refl
begun_joined b (l ∷ ls) = refl

pub lines_joined : (text : List ℕ) → behind_fronts [] (whole_lines text) ≡ text
lines_joined [] = refl
lines_joined (b ∷ text) = by (nat_eq b 10) (lines_joined text)
  where
    by : (e : Bool) → behind_fronts [] (whole_lines text) ≡ text → behind_fronts [] (cond e ((b ∷ []) ∷ whole_lines text) (begun b (whole_lines text))) ≡ b ∷ text
    by true later = ap (λ (t : List ℕ). b ∷ t) later
    by false later = begun_joined b (whole_lines text) ∙ ap (λ (t : List ℕ). b ∷ t) later

-- ---- a front before each line

abbrev no_feed : ℕ → Bool
no_feed b = not (nat_eq b 10)

abbrev front_before : List ℕ → List ℕ → List ℕ
front_before front line = front ++ line

abbrev fronts_before : List ℕ → Bool → List (List ℕ) → List (List ℕ)
fronts_before front true lines = map (front_before front) lines
fronts_before front false [] = []
fronts_before front false (l ∷ ls) = l ∷ map (front_before front) ls

abbrev all_begun : List ℕ → List (List ℕ) → List (List ℕ)
all_begun [] lines = lines
all_begun (b ∷ front) lines = begun b (all_begun front lines)

all_begun_first : (front l : List ℕ) (ls : List (List ℕ)) → all_begun front (l ∷ ls) ≡ (front ++ l) ∷ ls
all_begun_first [] l ls = refl
all_begun_first (b ∷ front) l ls = ap (begun b) (all_begun_first front l ls)

both_true : (a b : Bool) → (a && b) ≡ true → (a ≡ true) × (b ≡ true)
both_true true b h = (refl, h)
both_true false b h = absurd (cc)

is_not : (b : Bool) → not b ≡ true → b ≡ false
is_not true h = absurd (cc)
is_not false h = refl

front_lines : (front text : List ℕ) → list_all no_feed front ≡ true → whole_lines (front ++ text) ≡ all_begun front (whole_lines text)
front_lines [] text none = refl
front_lines (b ∷ front) text none =
    let parts = both_true (no_feed b) (list_all no_feed front) none in
    ap (λ (e : Bool). cond e ((b ∷ []) ∷ whole_lines (front ++ text)) (begun b (whole_lines (front ++ text)))) (is_not (nat_eq b 10) parts.0)
    ∙ ap (begun b) (front_lines front text parts.1)

module _ (front : List ℕ) (none : list_all no_feed front ≡ true) where
  -- behind a byte of a line
  line_goes_on : (b : ℕ) (e : Bool) (lines : List (List ℕ))
      → cond e ((b ∷ []) ∷ fronts_before front e lines) (begun b (fronts_before front e lines)) ≡ fronts_before front false (cond e ((b ∷ []) ∷ lines) (begun b lines))
  line_goes_on b true lines = refl
  line_goes_on b false [] = refl
  line_goes_on b false (l ∷ ls) = refl

  first_front : (b : ℕ) (e : Bool) (lines : List (List ℕ))
      → all_begun front (fronts_before front false (cond e ((b ∷ []) ∷ lines) (begun b lines))) ≡ map (front_before front) (cond e ((b ∷ []) ∷ lines) (begun b lines))
  first_front b true lines = all_begun_first front (b ∷ []) (map (front_before front) lines)
  first_front b false [] = all_begun_first front (b ∷ []) []
  first_front b false (l ∷ ls) = all_begun_first front (b ∷ l) (map (front_before front) ls)

  pub fronted_lines : (begins : Bool) (text : List ℕ) → whole_lines (fronted front begins text) ≡ fronts_before front begins (whole_lines text)
  fronted_lines true [] = refl
  fronted_lines false [] = refl
  fronted_lines false (b ∷ text) =
      ap (λ (ls : List (List ℕ)). cond (nat_eq b 10) ((b ∷ []) ∷ ls) (begun b ls)) (fronted_lines (nat_eq b 10) text)
      ∙ line_goes_on b (nat_eq b 10) (whole_lines text)
  fronted_lines true (b ∷ text) =
      front_lines front (b ∷ fronted front (nat_eq b 10) text) none
      ∙ ap (all_begun front)
      (ap (λ (ls : List (List ℕ)). cond (nat_eq b 10) ((b ∷ []) ∷ ls) (begun b ls)) (fronted_lines (nat_eq b 10) text)
      ∙ line_goes_on b (nat_eq b 10) (whole_lines text))
      ∙ first_front b (nat_eq b 10) (whole_lines text)

-- ---- the front of a name

-- a byte of a word is no space and no line feed
no_space : (b : ℕ) → is_word_byte b ≡ true → nat_eq b 32 ≡ false
no_space b is = by (nat_eq b 32) refl
  where
    by : (e : Bool) → nat_eq b 32 ≡ e → e ≡ false
    by false e = refl
    by true e = absurd (cc (sym is ∙ ap is_word_byte (eqb-true b 32 e)))

space_is_no : (b : ℕ) → is_word_byte b ≡ true → nat_eq 32 b ≡ false
space_is_no b is = by (nat_eq 32 b) refl
  where
    by : (e : Bool) → nat_eq 32 b ≡ e → e ≡ false
    by false e = refl
    by true e = absurd (cc (sym is ∙ ap is_word_byte (sym (eqb-true 32 b e))))

no_feed_in_word : (b : ℕ) → is_word_byte b ≡ true → no_feed b ≡ true
no_feed_in_word b is = by (nat_eq b 10) refl
  where
    by : (e : Bool) → nat_eq b 10 ≡ e → not e ≡ true
    by false e = refl
    by true e = absurd (cc (sym is ∙ ap is_word_byte (eqb-true b 10 e)))

name_front : (name : List ℕ) → list_all is_word_byte name ≡ true → list_all no_feed (name ++ 32 ∷ []) ≡ true
name_front [] word = refl
name_front (b ∷ name) word =
    let parts = both_true (is_word_byte b) (list_all is_word_byte name) word in
    ap₂ (λ (p q : Bool). p && q) (no_feed_in_word b parts.0) (name_front name parts.1)

-- a line of a name has that front and no other's
of_name : (name other line : List ℕ) → list_all is_word_byte name ≡ true → list_all is_word_byte other ≡ true
    → behind_front (name ++ 32 ∷ []) ((other ++ 32 ∷ []) ++ line) ≡ cond (is_named name other) line []
of_name [] [] line word words = refl
of_name [] (c ∷ other) line word words =
    ap (λ (e : Bool). cond e ((other ++ 32 ∷ []) ++ line) []) (no_space c (both_true (is_word_byte c) (list_all is_word_byte other) words).0)
of_name (b ∷ name) [] line word words =
    ap (λ (e : Bool). cond e (behind_front (name ++ 32 ∷ []) line) []) (space_is_no b (both_true (is_word_byte b) (list_all is_word_byte name) word).0)
of_name (b ∷ name) (c ∷ other) line word words =
    by (nat_eq c b) (of_name name other line (both_true (is_word_byte b) (list_all is_word_byte name) word).1 (both_true (is_word_byte c) (list_all is_word_byte other) words).1)
  where
    by : (e : Bool) → behind_front (name ++ 32 ∷ []) ((other ++ 32 ∷ []) ++ line) ≡ cond (is_named name other) line []
        → cond e (behind_front (name ++ 32 ∷ []) ((other ++ 32 ∷ []) ++ line)) [] ≡ cond (e && is_named name other) line []
    by true later = later
    by false later = refl

own_fronts : (front before : List ℕ) (c : Bool) (ls : List (List ℕ)) → ((line : List ℕ) → behind_front front (before ++ line) ≡ cond c line [])
    → behind_fronts front (map (front_before before) ls) ≡ cond c (behind_fronts [] ls) []
own_fronts front before true [] own = refl
own_fronts front before false [] own = refl
own_fronts front before true (l ∷ ls) own = ap₂ (λ (a b : List ℕ). a ++ b) (own l) (own_fronts front before true ls own)
own_fronts front before false (l ∷ ls) own = ap₂ (λ (a b : List ℕ). a ++ b) (own l) (own_fronts front before false ls own)

-- of a lane's text as it is written, all belongs to the lane of its name, and nothing to another
pub own_of_lane : (name other text : List ℕ) → list_all is_word_byte name ≡ true → list_all is_word_byte other ≡ true
    → behind_fronts (lane_front name) (whole_lines (fronted (lane_front other) true text)) ≡ cond (is_named name other) text []
own_of_lane name other text word words =
    ap (behind_fronts (lane_front name)) (fronted_lines (lane_front other) (name_front other words) true text)
    ∙ own_fronts (lane_front name) (lane_front other) (is_named name other) (whole_lines text) (λ line. of_name name other line word words)
    ∙ ap (λ (t : List ℕ). cond (is_named name other) t []) (lines_joined text)

-- ---- texts that are whole

ends_behind : (begins : Bool) (front : List ℕ) (b : ℕ) (text : List ℕ) → ends_whole begins (front ++ b ∷ text) ≡ ends_whole (nat_eq b 10) text
ends_behind begins [] b text = refl
ends_behind begins (c ∷ front) b text = ends_behind (nat_eq c 10) front b text

pub fronted_whole : (front : List ℕ) (begins : Bool) (text : List ℕ) → ends_whole begins (fronted front begins text) ≡ ends_whole begins text
fronted_whole front begins [] = refl
fronted_whole front begins (b ∷ text) =
    ends_behind begins (cond begins front []) b (fronted front (nat_eq b 10) text) ∙ fronted_whole front (nat_eq b 10) text

pub whole_behind : (begins : Bool) (a b : List ℕ) → ends_whole begins a ≡ true → is_whole b ≡ true → ends_whole begins (a ++ b) ≡ true
whole_behind begins [] b whole wholes = subst (λ (e : Bool). ends_whole e b ≡ true) (sym whole) wholes
whole_behind begins (c ∷ a) b whole wholes = whole_behind (nat_eq c 10) a b whole wholes

-- what belongs to a lane of one text and of another behind it
pub own_apart : (front a b : List ℕ) → is_whole a ≡ true
    → behind_fronts front (whole_lines (a ++ b)) ≡ behind_fronts front (whole_lines a) ++ behind_fronts front (whole_lines b)
own_apart front a b whole = ap (behind_fronts front) (lines_apart true a b whole) ∙ by (whole_lines a)
  where
    by : (ls : List (List ℕ)) → behind_fronts front (ls ++ whole_lines b) ≡ behind_fronts front ls ++ behind_fronts front (whole_lines b)
    by [] = refl
    by (l ∷ ls) = ap (λ (t : List ℕ). behind_front front l ++ t) (by ls) ∙ sym (append_assoc (behind_front front l) (behind_fronts front ls) (behind_fronts front (whole_lines b)))

-- ---- words

pub word_taken : (text : List ℕ) → list_all is_word_byte (take (prefix_len is_word_byte text) text) ≡ true
word_taken [] = refl
word_taken (b ∷ text) = by (is_word_byte b) refl (word_taken text)
  where
    by : (e : Bool) → is_word_byte b ≡ e → list_all is_word_byte (take (prefix_len is_word_byte text) text) ≡ true
        → list_all is_word_byte (take (cond e (1 + prefix_len is_word_byte text) 0) (b ∷ text)) ≡ true
    by false is later = refl
    by true is later =
        let one : 1 + prefix_len is_word_byte text ≡ suc (prefix_len is_word_byte text) = omega arith in
        ap (λ (n : ℕ). list_all is_word_byte (take n (b ∷ text))) one ∙ ap₂ (λ (p q : Bool). p && q) is later
