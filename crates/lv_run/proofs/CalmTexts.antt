-- In a generated session no `c` stands before an `e`, so no line of it has the word `certificate`.
use Rattle.std.proofs.Common.{◌≡◌, ℕ, zero, suc, ◌+◌, ◌-◌, ◌<◌, ◌^◌, Bool, true, false, not, ◌&&◌, ◌||◌, cond, nat_eq, List, [], ◌∷◌, ◌++◌, length, map, take, drop, get_or, Some, None, refl, sym, ap₂, subst, arith, codes, decimal}
use Rattle.std.specs.List.{list_all, list_any, onto_first}
use Rattle.std.specs.Cmp.Derive.{both_true}
use Rattle.std.specs.Cmp.Lexicographic.{same_text}
use Rattle.std.specs.Option.{option_map_or}
use Rattle.std.specs.Str.Lines.{strip_carriage_return}
use Rattle.std.proofs.lemmas.Bool.{and_parts, eqb-true}
use Rattle.lv_text.specs.lv_base.Names.{is_named}
use Rattle.lv_text.specs.declared.lexer.Token.{Token}
use Rattle.lv_text.specs.Bytes.{is_digit}
use Rattle.lv_text.specs.Kinds.{token_text}
use Rattle.lv_text.specs.Lexemes.{Lexeme, lexemes_of, reads, reading_by, is_word, says}
use Rattle.lv_text.specs.Lines.{is_line_feed, unended_lines, lines_of}
use Rattle.lv_text.specs.Tokens.{Lexed, lexed, bad_byte, long_line, line_tokens}
use Rattle.lv_text.proofs.NumberFacts.{printed_law}
use Rattle.lv_gen.specs.Draws.{draw_of, state_after}
use Rattle.lv_gen.specs.Series.{valves}
use Rattle.lv_gen.specs.Session.{order_line, command_line, command_lines, observation_line, questions, round_text, round_start, round_texts, session_text}
use Rattle.lv_model.specs.declared.plant.Plant.{Plant}
use Rattle.lv_plant.specs.lv_session.lv_session_state.State.{SessionState, start}
use Rattle.lv_plant.specs.lv_session.Session.{stepped}
use Rattle.lv_plant.specs.lv_session.Laws.{is_certificate, replies_to, tells_certificate}
use Rattle.lv_run.proofs.AskingLemmas.{IsOther, none_in_reply}

-- behind a `c` or not, no `c` stands before an `e`
abbrev calm : Bool → List ℕ → Bool
calm after [] = true
calm after (b ∷ more) = not (after && nat_eq b 101) && calm (nat_eq b 99) more

looser : (after : Bool) (text : List ℕ) → calm true text ≡ true → calm after text ≡ true
looser after [] h = refl
looser true (b ∷ more) h = h
looser false (b ∷ more) h = (and_parts (not (nat_eq b 101)) (calm (nat_eq b 99) more) h).1

loosest : (after : Bool) (text : List ℕ) → calm after text ≡ true → calm false text ≡ true
loosest true text h = looser false text h
loosest false text h = h

joined : (after : Bool) (xs ys : List ℕ) → calm after xs ≡ true → calm true ys ≡ true → calm after (xs ++ ys) ≡ true
joined after [] ys h k = looser after ys k
joined after (x ∷ xs) ys h k =
    let parts = and_parts (not (after && nat_eq x 101)) (calm (nat_eq x 99) xs) h in
    both_true parts.0 (joined (nat_eq x 99) xs ys parts.1 k)

-- a text is calm behind a `c` too
record IsCalm (text : List ℕ) : Type 0 where
  pub calm : calm true text ≡ true

both_calm : {xs ys : List ℕ} → IsCalm xs → IsCalm ys → IsCalm (xs ++ ys)
both_calm {xs} {ys} h k = record { calm = joined true xs ys h.calm k.calm }

calm_take : (after : Bool) (n : ℕ) (text : List ℕ) → calm after text ≡ true → calm after (take n text) ≡ true
calm_take after zero text h = refl
calm_take after (suc n) [] h = refl
calm_take after (suc n) (b ∷ more) h =
    let parts = and_parts (not (after && nat_eq b 101)) (calm (nat_eq b 99) more) h in
    both_true parts.0 (calm_take (nat_eq b 99) n more parts.1)

calm_drop : (after : Bool) (n : ℕ) (text : List ℕ) → calm after text ≡ true → calm false (drop n text) ≡ true
calm_drop after zero text h = loosest after text h
calm_drop after (suc n) [] h = refl
calm_drop after (suc n) (b ∷ more) h = calm_drop (nat_eq b 99) n more (and_parts (not (after && nat_eq b 101)) (calm (nat_eq b 99) more) h).1

-- a digit is no `e`
other_than_digit : (b : ℕ) → is_digit b ≡ true → not (nat_eq b 101) ≡ true
other_than_digit b h = by (nat_eq b 101) refl
  where
    by : (c : Bool) → nat_eq b 101 ≡ c → not c ≡ true
    by true is = let clash : is_digit 101 ≡ true = subst (λ (n : ℕ). is_digit n ≡ true) (eqb-true b 101 is) h in absurd (cc clash)
    by false is = refl

calm_digits : (after : Bool) (ds : List ℕ) → list_all is_digit ds ≡ true → calm after ds ≡ true
calm_digits after [] h = refl
calm_digits after (d ∷ ds) h =
    let parts = and_parts (is_digit d) (list_all is_digit ds) h in
    both_true (first after (other_than_digit d parts.0)) (calm_digits (nat_eq d 99) ds parts.1)
  where
    first : (a : Bool) → not (nat_eq d 101) ≡ true → not (a && nat_eq d 101) ≡ true
    first true k = k
    first false k = refl

calm_number : (n : ℕ) → n < 2 ^ 64 → IsCalm (decimal n)
calm_number n small = record { calm = calm_digits true (decimal n) (printed_law n small).0 }

-- the lines of a calm text are calm
abbrev all_calm : List (List ℕ) → Bool
all_calm lines = list_all (calm false) lines

abbrev first_calm : Bool → List (List ℕ) → Bool
first_calm after [] = true
first_calm after (line ∷ lines) = calm after line && all_calm lines

each_calm : (after : Bool) (lines : List (List ℕ)) → first_calm after lines ≡ true → all_calm lines ≡ true
each_calm after [] h = refl
each_calm after (line ∷ lines) h =
    let parts = and_parts (calm after line) (all_calm lines) h in
    both_true (loosest after line parts.0) parts.1

onto_calm : (after : Bool) (b : ℕ) (lines : List (List ℕ)) → not (after && nat_eq b 101) ≡ true → first_calm (nat_eq b 99) lines ≡ true → first_calm after (onto_first b lines) ≡ true
onto_calm after b [] h k = both_true (both_true h refl) refl
onto_calm after b (line ∷ lines) h k =
    let parts = and_parts (calm (nat_eq b 99) line) (all_calm lines) k in
    both_true (both_true h parts.0) parts.1

unended_calm : (after : Bool) (text : List ℕ) → calm after text ≡ true → first_calm after (unended_lines text) ≡ true
unended_calm after [] h = refl
unended_calm after (b ∷ more) h =
    let parts = and_parts (not (after && nat_eq b 101)) (calm (nat_eq b 99) more) h in
    by (is_line_feed b) parts.0 (unended_calm (nat_eq b 99) more parts.1)
  where
    by : (c : Bool) → not (after && nat_eq b 101) ≡ true → first_calm (nat_eq b 99) (unended_lines more) ≡ true
        → first_calm after (cond c ([] ∷ unended_lines more) (onto_first b (unended_lines more))) ≡ true
    by true first rest = each_calm (nat_eq b 99) (unended_lines more) rest
    by false first rest = onto_calm after b (unended_lines more) first rest

strip_calm : (line : List ℕ) → calm false line ≡ true → calm false (strip_carriage_return line) ≡ true
strip_calm line h = by (nat_eq (get_or line (length line - 1) 0) 13)
  where
    by : (c : Bool) → calm false (cond c (take (length line - 1) line) line) ≡ true
    by true = calm_take false (length line - 1) line h
    by false = h

stripped_calm : (lines : List (List ℕ)) → all_calm lines ≡ true → all_calm (map strip_carriage_return lines) ≡ true
stripped_calm [] h = refl
stripped_calm (line ∷ lines) h =
    let parts = and_parts (calm false line) (all_calm lines) h in
    both_true (strip_calm line parts.0) (stripped_calm lines parts.1)

lines_calm : (text : List ℕ) → calm true text ≡ true → all_calm (lines_of text) ≡ true
lines_calm text h = stripped_calm (unended_lines text) (each_calm true (unended_lines text) (unended_calm true text h))

-- a calm text is not `certificate`
not_named : (text : List ℕ) → calm false text ≡ true → is_named (codes "certificate") text ≡ false
not_named text h = by (is_named (codes "certificate") text) refl
  where
    by : (c : Bool) → is_named (codes "certificate") text ≡ c → c ≡ false
    by true is =
        let same : text ≡ codes "certificate" = same_text text (codes "certificate") (sym is) in
        let clash : calm false (codes "certificate") ≡ true = subst (λ (t : List ℕ). calm false t ≡ true) same h in absurd (cc clash)
    by false is = refl

-- nor does a calm line begin with that word
first_token : (line : List ℕ) (ts : List Token) → calm false line ≡ true → says (codes "certificate") (lexemes_of line ts) 0 ≡ false
first_token line [] h = refl
first_token line (t ∷ ts) h = by (is_word t.kind)
  where
    text : calm false (token_text line t) ≡ true
    text = calm_take false (t.end - t.start) (drop t.start line) (calm_drop false t.start line h)

    by : (b : Bool) → option_map_or (is_named (codes "certificate")) (cond b (Some (token_text line t)) None) false ≡ false
    by true = not_named (token_text line t) text
    by false = refl

calm_other : (line : List ℕ) → calm false line ≡ true → IsOther line
calm_other line h ts is = by (line_tokens line) is
  where
    by : (found : Lexed) → reading_by line found ≡ reads ts → says (codes "certificate") ts 0 ≡ false
    by (lexed tokens) e = let same : lexemes_of line tokens ≡ ts = cc e in subst (λ (ls : List Lexeme). says (codes "certificate") ls 0 ≡ false) same (first_token line tokens h)
    by (bad_byte place) e = absurd (cc e)
    by long_line e = absurd (cc e)

none_in_replies : (plant : Plant) (state : SessionState) (lines : List (List ℕ)) → all_calm lines ≡ true → list_any is_certificate (replies_to plant state lines) ≡ false
none_in_replies plant state [] h = refl
none_in_replies plant state (line ∷ lines) h =
    let parts = and_parts (calm false line) (all_calm lines) h in
    ap₂ (λ (a b : Bool). a || b) (none_in_reply plant state line (calm_other line parts.0)) (none_in_replies plant (stepped plant state line).state lines parts.1)

-- the texts of generated sessions
calm_text : (text : List ℕ) → calm true text ≡ true → IsCalm text
calm_text text h = record { calm = h }

order_calm : (v : ℕ) (order : List ℕ) → v < 2 ^ 64 → IsCalm order → IsCalm (order_line v order)
order_calm v order small h =
    both_calm (both_calm (both_calm (both_calm (calm_text (codes "command v") refl) (calm_number v small)) (calm_text (codes ".cmd = ") refl)) h) (calm_text (codes "\n") refl)

command_calm : (v drawn : ℕ) → v < 2 ^ 64 → IsCalm (command_line v drawn)
command_calm v drawn small = by (nat_eq drawn 0) (nat_eq drawn 1)
  where
    by : (a b : Bool) → IsCalm (cond a (order_line v (codes "open")) (cond b (order_line v (codes "close")) []))
    by true b = order_calm v (codes "open") small (calm_text (codes "open") refl)
    by false true = order_calm v (codes "close") small (calm_text (codes "close") refl)
    by false false = calm_text [] refl

commands_calm : (x n : ℕ) → n < 2 ^ 64 → IsCalm (command_lines x n)
commands_calm x zero small = calm_text [] refl
commands_calm x (suc n) small =
    let same : n + 1 ≡ suc n = omega arith in
    both_calm (commands_calm x n (omega (arith, small))) (command_calm (n + 1) (draw_of 4 (state_after x (n + 1))) (omega (arith, small, same)))

observation_calm : (valve round drawn : ℕ) → valve < 2 ^ 64 → round < 2 ^ 64 → IsCalm (observation_line valve round drawn)
observation_calm valve round drawn small few =
    both_calm (both_calm (both_calm (both_calm (both_calm (calm_text (codes "observe o") refl) (calm_number round few)) (calm_text (codes " v") refl)) (calm_number valve small))
    (calm_text (codes ".out = ") refl)) (by (nat_eq drawn 0))
  where
    by : (b : Bool) → IsCalm (cond b (codes "zero\n") (codes "some\n"))
    by true = calm_text (codes "zero\n") refl
    by false = calm_text (codes "some\n") refl

questions_calm : (round : ℕ) → round < 2 ^ 64 → IsCalm (questions round)
questions_calm round few = both_calm (both_calm (calm_text (codes "diagnose\nconflicts\ncommit\nretract o") refl) (calm_number round few)) (calm_text (codes "\n") refl)

round_calm : (count x round : ℕ) → count < 2 ^ 64 → round < 2 ^ 64 → IsCalm (round_text count x round)
round_calm count x round small few =
    both_calm (both_calm (commands_calm x count small) (observation_calm count round (draw_of 2 (state_after x (count + 1))) small few)) (questions_calm round few)

rounds_calm : (count x n : ℕ) → count < 2 ^ 64 → n < 2 ^ 64 → IsCalm (round_texts count x n)
rounds_calm count x zero small few = calm_text [] refl
rounds_calm count x (suc n) small few =
    let same : n + 1 ≡ suc n = omega arith in
    both_calm (rounds_calm count x n small (omega (arith, few))) (round_calm count (round_start count x n) (n + 1) small (omega (arith, few, same)))

few_valves : (n : ℕ) → valves n < 2 ^ 64
few_valves n = omega arith

session_calm : (n : ℕ) → IsCalm (session_text n)
session_calm n = both_calm (rounds_calm (valves n) n 20 (few_valves n) (omega arith)) (calm_text (codes "states\n") refl)

pub none_told : (plant : Plant) (n : ℕ) → tells_certificate plant (session_text n) ≡ false
none_told plant n = none_in_replies plant (start plant) (lines_of (session_text n)) (lines_calm (session_text n) (session_calm n).calm)
