-- Where a line of a text ends.
use Rattle.std.proofs.Common.{◌≡◌, ℕ, ◌+◌, ◌-◌, ◌<◌, Bool, true, false, not, cond, ◌||◌, nat_eq, nat_lt, List, [], ◌∷◌, ◌++◌, length, take, map, get_or, Some, None, refl, sym, ap, ◌∙◌, arith, append_assoc, length-append}
use Rattle.std.proofs.Math.Seq.{take-append_seam, get_or-append_seam}
use Rattle.std.proofs.lemmas.Bool.Decides.{nat_tests}
use Rattle.std.proofs.lemmas.List.{map-append, take-append-le}
use Rattle.std.specs.List.{list_any, onto_first, position, position_or_len}
use Rattle.std.specs.Option.{option_map}
use Rattle.std.specs.Str.Lines.{strip_carriage_return}
use Rattle.lv_text.specs.Lines.{is_line_feed, unended_lines, lines_of}
use Rattle.lv_text.specs.Laws.{LineFeedEndsLine, ReturnGoesWithLineFeed, EndOfTextEndsLine, LinesPartAtLineFeed, FirstLineStays}
use Rattle.lv_text.proofs.LineFacts.{unended_lines-last, found_inside}

-- a line feed ends what stands before it
unended_lines-append : (line rest : List ℕ) → list_any is_line_feed line ≡ false → unended_lines (line ++ 10 ∷ rest) ≡ line ∷ unended_lines rest
unended_lines-append [] rest h = refl
unended_lines-append (b ∷ more) rest h = by (unended_lines-append more rest) (is_line_feed b) h
  where
    by : (list_any is_line_feed more ≡ false → unended_lines (more ++ 10 ∷ rest) ≡ more ∷ unended_lines rest) → (c : Bool) → (c || list_any is_line_feed more) ≡ false
        → cond c ([] ∷ unended_lines (more ++ 10 ∷ rest)) (onto_first b (unended_lines (more ++ 10 ∷ rest))) ≡ (b ∷ more) ∷ unended_lines rest
    by later true e = absurd (cc)
    by later false e = ap (onto_first b) (later e)

-- a carriage return more at the end is the one that goes
strip_carriage_return-push : (line : List ℕ) → strip_carriage_return (line ++ 13 ∷ []) ≡ line
strip_carriage_return-push line =
    let whole : List ℕ = line ++ 13 ∷ [] in
    let last : length (line ++ 13 ∷ []) - 1 ≡ length line = omega (arith, length-append line (13 ∷ [])) in
    let test : nat_eq (get_or (line ++ 13 ∷ []) (length (line ++ 13 ∷ []) - 1) 0) 13 ≡ true =
    ap (λ k. nat_eq (get_or (line ++ 13 ∷ []) k 0) 13) last ∙ ap (λ b. nat_eq b 13) (get_or-append_seam line 13 [] 0) in
    ap (λ c. cond c (take (length (line ++ 13 ∷ []) - 1) (line ++ 13 ∷ [])) (line ++ 13 ∷ [])) test
    ∙ ap (λ k. take k (line ++ 13 ∷ [])) last ∙ take-append_seam line (13 ∷ [])

no_feed_push : (line : List ℕ) → list_any is_line_feed line ≡ false → list_any is_line_feed (line ++ 13 ∷ []) ≡ false
no_feed_push [] h = refl
no_feed_push (b ∷ more) h = by (no_feed_push more) (is_line_feed b) h
  where
    by : (list_any is_line_feed more ≡ false → list_any is_line_feed (more ++ 13 ∷ []) ≡ false) → (c : Bool) → (c || list_any is_line_feed more) ≡ false
        → (c || list_any is_line_feed (more ++ 13 ∷ [])) ≡ false
    by later true e = absurd (cc)
    by later false e = later e

pub line_feed_ends : LineFeedEndsLine
line_feed_ends line rest h = ap (map strip_carriage_return) (unended_lines-append line rest h)

pub return_goes : ReturnGoesWithLineFeed
return_goes line rest h =
    let parted : (line ++ 13 ∷ []) ++ 10 ∷ rest ≡ line ++ 13 ∷ 10 ∷ rest = append_assoc line (13 ∷ []) (10 ∷ rest) in
    ap lines_of (sym parted) ∙ line_feed_ends (line ++ 13 ∷ []) rest (no_feed_push line h) ∙ ap (λ l. l ∷ lines_of rest) (strip_carriage_return-push line)

pub end_ends : EndOfTextEndsLine
end_ends line h some = ap (map strip_carriage_return) (unended_lines-last line h some)

onto_first-append : (b : ℕ) (xs ys : List (List ℕ)) → 0 < length xs → onto_first b (xs ++ ys) ≡ onto_first b xs ++ ys
onto_first-append b [] ys some = absurd (omega arith)
onto_first-append b (x ∷ xs) ys some = refl

length-onto_first : (b : ℕ) (xs : List (List ℕ)) → 0 < length (onto_first b xs)
length-onto_first b [] = omega arith
length-onto_first b (x ∷ xs) = omega arith

ended_is_some : (xs : List ℕ) → 0 < length (unended_lines (xs ++ 10 ∷ []))
ended_is_some [] = omega arith
ended_is_some (b ∷ more) = by (is_line_feed b)
  where
    by : (c : Bool) → 0 < length (cond c ([] ∷ unended_lines (more ++ 10 ∷ [])) (onto_first b (unended_lines (more ++ 10 ∷ []))))
    by true = omega arith
    by false = length-onto_first b (unended_lines (more ++ 10 ∷ []))

unended_lines-parted : (text rest : List ℕ) → unended_lines (text ++ 10 ∷ rest) ≡ unended_lines (text ++ 10 ∷ []) ++ unended_lines rest
unended_lines-parted [] rest = refl
unended_lines-parted (b ∷ more) rest = by (unended_lines-parted more rest) (is_line_feed b)
  where
    by : unended_lines (more ++ 10 ∷ rest) ≡ unended_lines (more ++ 10 ∷ []) ++ unended_lines rest → (c : Bool)
        → cond c ([] ∷ unended_lines (more ++ 10 ∷ rest)) (onto_first b (unended_lines (more ++ 10 ∷ rest)))
        ≡ cond c ([] ∷ unended_lines (more ++ 10 ∷ [])) (onto_first b (unended_lines (more ++ 10 ∷ []))) ++ unended_lines rest
    by later true = ap (λ ls. [] ∷ ls) later
    by later false = ap (onto_first b) later ∙ onto_first-append b (unended_lines (more ++ 10 ∷ [])) (unended_lines rest) (ended_is_some more)

pub lines_part : LinesPartAtLineFeed
lines_part text rest =
    ap (map strip_carriage_return) (unended_lines-parted text rest) ∙ map-append strip_carriage_return (unended_lines (text ++ 10 ∷ [])) (unended_lines rest)

-- the first place that passes stays, where there is one
position_or_len-append : (p : ℕ → Bool) (xs ys : List ℕ) → list_any p xs ≡ true → position_or_len p (xs ++ ys) ≡ position_or_len p xs
position_or_len-append p [] ys h = absurd (cc)
position_or_len-append p (x ∷ xs) ys h = by (position_or_len-append p xs ys) (p x) h
  where
    by : (list_any p xs ≡ true → position_or_len p (xs ++ ys) ≡ position_or_len p xs) → (c : Bool) → (c || list_any p xs) ≡ true
        → cond (not c) (1 + position_or_len p (xs ++ ys)) 0 ≡ cond (not c) (1 + position_or_len p xs) 0
    by later true e = refl
    by later false e = ap (λ n. 1 + n) (later e)

pub first_stays : FirstLineStays
first_stays text more h =
    let n : ℕ = position_or_len is_line_feed text in
    let test : nat_lt (position_or_len is_line_feed text) (length text) ≡ true = found_inside is_line_feed text ∙ h in
    let inside : position_or_len is_line_feed text < length text = grind (arith, nat_tests) in
    let longer : nat_lt (position_or_len is_line_feed text) (length (text ++ more)) ≡ true = within (position_or_len is_line_feed text) (omega (arith, inside, length-append text more)) in
    let found : position is_line_feed text ≡ Some (position_or_len is_line_feed text) = ap (λ c. cond c (Some (position_or_len is_line_feed text)) None) test in
    let found_later : position is_line_feed (text ++ more) ≡ Some (position_or_len is_line_feed text) =
    ap (λ k. cond (nat_lt k (length (text ++ more))) (Some k) None) (position_or_len-append is_line_feed text more h)
    ∙ ap (λ c. cond c (Some (position_or_len is_line_feed text)) None) longer in
    let front : take (position_or_len is_line_feed text) (text ++ more) ≡ take (position_or_len is_line_feed text) text =
    take-append-le (position_or_len is_line_feed text) text more (omega arith) in
    ap (option_map (λ k. (length (strip_carriage_return (take k (text ++ more))), k + 1))) found_later
    ∙ ap (λ l. Some (length (strip_carriage_return l), position_or_len is_line_feed text + 1)) front
    ∙ sym (ap (option_map (λ k. (length (strip_carriage_return (take k text)), k + 1))) found)
  where
    within : (k : ℕ) → k < length (text ++ more) → nat_lt k (length (text ++ more)) ≡ true
    within k less = grind (arith, nat_tests)
