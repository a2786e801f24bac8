-- What `clap` makes of the words behind a command.
use Rattle.std.proofs.Common.{◌≡◌, ℕ, ◌+◌, Bool, true, false, cond, nat_eq, ◌&&◌, ◌||◌, List, [], ◌∷◌, codes, Option, None, Some, refl, sym, ◌∙◌, ap, ap₂, subst}
use Rattle.std.specs.List.{list_all}
use Rattle.std.specs.Option.{option_map_or}
use Rattle.std.specs.Prelude.{if◌then◌else◌, fold, min, unwrap_or, option_map, find, slice_index_or}
use Rattle.clap.specs.Lexer.{usize_max}
use Rattle.clap.specs.Words.{App, Text, Row}
use Rattle.clap.specs.Simple.{Shape, help_rule, inherited, built_leaf, with_leaf_noted}
use Rattle.clap.specs.Walk.{Held, Walk, Rule, first_of, arg_by_long, arg_by_short, arg_by_index, to_positional, positional_held, pushed, is_pending, is_multiple, takes_several, positional, value as a_value, idle, walk_from, walked, settled, finished, nothing_held}
use Rattle.clap.specs.Values.{reading_of, refused_kind}
use Rattle.clap.specs.ValueTests.{accepts}
use Rattle.clap.specs.declared.error.kind.ErrorKind.{ErrorKind}
use Rattle.clap.specs.declared.parser.matches.ValueSource.TheVariants.{CommandLine}
use Rattle.clap.specs.Kinds.{Kinds, or_else, value_kinds}
use Rattle.clap.specs.Faults.{turn_fault, step_fault, walk_fault, settle_fault, defaults_fault, check_fault}
use Rattle.clap.specs.declared.builder.value_parser.ValueParser.{ValueParser}
use Rattle.clap.specs.declared.builder.value_parser.ValueParser.TheVariants as parsers
use Rattle.clap.specs.declared.error.kind.ErrorKind.TheVariants as kind
use Rattle.clap.proofs.OnLiterals.{clap_on_literals}
use Rattle.lv_run_words.specs.Words.{is_plain, is_dashes}
use Rattle.lv_run_words.specs.Parser.{over_two, over_one, no_commands, is_lone, has_lone}
use Rattle.lv_run_words.proofs.Among.{values_among}
use Rattle.lv_run_words.proofs.ClapWords.{standing, has_flag, value_turn, dashes_turn, flag_told, told_turn}

-- a command as the whole builds it
abbrev pub below : App → Shape
below a = built_leaf (inherited (with_leaf_noted (record no_commands.top { is_leaf = false })) a.top)

-- behind the words so far, what is told of a command's words
abbrev pub end_fault : Shape → Held → Kinds
end_fault s h =
    or_else (settle_fault s.rules s.args_override_self h) (or_else (defaults_fault (settled s.rules h).rows s.rules) (check_fault s (finished s.rules h) false))

abbrev pub faults : Shape → Walk → List Text → Kinds
faults s w words = or_else (walk_fault s [] w words) (end_fault s (fold (walked s.rules []) w words).held)

abbrev pub all_rows : Shape → Walk → List Text → List Row
all_rows s w words = finished s.rules (fold (walked s.rules []) w words).held

-- a value's row, and what is told of it
abbrev pub row_of_value : Text → Option ValueParser → Text → Row
row_of_value id p value = record { id = id; values = value ∷ []; count = None; source = Some CommandLine; reading = reading_of (unwrap_or p parsers.String) }

abbrev pub kinds_of_value : Option ValueParser → Text → Kinds
kinds_of_value p value = or_else (value_kinds false (unwrap_or p parsers.String) value) []

-- ---- lists of kinds

or_else_assoc : (a b c : Kinds) → or_else (or_else a b) c ≡ or_else a (or_else b c)
or_else_assoc [] b c = refl
or_else_assoc (k ∷ ks) b c = refl

or_else_last : (a b : Kinds) → or_else a b ≡ [] → b ≡ []
or_else_last [] b none = none
or_else_last (k ∷ ks) b none = absurd (cc none)

-- ---- word by word

faults_step : (s : Shape) (w : Walk) (word : Text) (words : List Text)
    → faults s w (word ∷ words) ≡ or_else (turn_fault s [] w word) (faults s (walked s.rules [] w word) words)
unfolding walk_fault
faults_step s w word words =
    or_else_assoc (turn_fault s [] w word) (walk_fault s [] (walked s.rules [] w word) words) (end_fault s (fold (walked s.rules []) w (word ∷ words)).held)

-- from one standing the words come to what the values come to from another; where they give none, something is told
abbrev pub Comes : Shape → Walk → Walk → List Text → Option (List Text) → Type 0
Comes s w v words None = faults s w words ≡ [] → ⊥
Comes s w v words (Some values) = (faults s w words ≡ faults s v values) × (all_rows s w words ≡ all_rows s v values)

comes_on : (s : Shape) (w v w_next v_next : Walk) (word : Text) (words : List Text) (among : Option (List Text))
    → turn_fault s [] w word ≡ turn_fault s [] v word → walked s.rules [] w word ≡ w_next → walked s.rules [] v word ≡ v_next
    → Comes s w_next v_next words among → Comes s w v (word ∷ words) (option_map (λ (values : List Text). word ∷ values) among)
comes_on s w v w_next v_next word words None same goes goes_too later =
    λ none. later (sym (ap (λ (x : Walk). faults s x words) goes) ∙ or_else_last (turn_fault s [] w word) (faults s (walked s.rules [] w word) words) (sym (faults_step s w word words) ∙ none))
comes_on s w v w_next v_next word words (Some values) same goes goes_too later = (
  faults_step s w word words
      ∙ ap₂ (λ (a b : Kinds). or_else a b) same (ap (λ (x : Walk). faults s x words) goes ∙ later.0 ∙ sym (ap (λ (x : Walk). faults s x values) goes_too))
      ∙ sym (faults_step s v word values),
  ap (λ (x : Walk). all_rows s x words) goes ∙ later.1 ∙ sym (ap (λ (x : Walk). all_rows s x values) goes_too),
)

pub lone_parts : (word : Text) (words : List Text) → is_dashes word ≡ false → has_lone (word ∷ words) ≡ false → (is_lone word ≡ false) × (has_lone words ≡ false)
lone_parts word words dashes lone = by (is_lone word) refl (sym (ap (λ (t : Bool). option_map_or is_lone (cond (is_lone word || t) (Some word) (find (λ w. is_lone w || is_dashes w) words)) false) dashes) ∙ lone)
  where
    by : (e : Bool) → is_lone word ≡ e → option_map_or is_lone (cond (e || false) (Some word) (find (λ w. is_lone w || is_dashes w) words)) false ≡ false
        → (e ≡ false) × (has_lone words ≡ false)
    by true is none = absurd (cc (sym is ∙ none))
    by false is none = (refl, none)

pub both_true : (a b : Bool) → (a && b) ≡ true → (a ≡ true) × (b ≡ true)
both_true true b h = (refl, h)
both_true false b h = absurd (cc)

-- where a value leads to, behind `--` as before it
pub record Leads (s : Shape) (h : Held) (position : ℕ) (word : Text) : Type 0 where
  pub held : Held
  pub next : ℕ
  pub skip : held.skip ≡ 0
  pub goes : to_positional s.rules (arg_by_index s.rules position) word (standing h position) h ≡ standing held next
  pub goes_behind : to_positional s.rules (arg_by_index s.rules position) word (record (standing h position) { is_trailing = true }) h ≡ record (standing held next) { is_trailing = true }

module _ (s : Shape) (no_long : (name : Text) → arg_by_long s.rules name ≡ None) (no_short : (c : ℕ) → arg_by_short s.rules c ≡ None)
    (leads : (h : Held) (position : ℕ) (word : Text) → h.skip ≡ 0 → Leads s h position word) where
  behind_turn : (h : Held) (position : ℕ) (word : Text) → (turn_fault s [] (record (standing h position) { is_trailing = true }) word ≡ step_fault s position h a_value)
      × (walked s.rules [] (record (standing h position) { is_trailing = true }) word ≡ to_positional s.rules (arg_by_index s.rules position) word (record (standing h position) { is_trailing = true }) h)
  unfolding walked
  behind_turn h position word = (refl, refl)

  no_words : (h : Held) (position : ℕ) → Comes s (standing h position) (record (standing h position) { is_trailing = true }) [] (Some [])
  unfolding walk_fault
  no_words h position = (refl, refl)

  pub from_standing : (words : List Text) (h : Held) (position : ℕ) → h.skip ≡ 0 → has_lone words ≡ false → list_all has_flag words ≡ true
      → Comes s (standing h position) (record (standing h position) { is_trailing = true }) words (values_among words)
  from_standing [] h position skip lone flags = no_words h position
  from_standing (word ∷ words) h position skip lone flags =
      by (is_dashes word) (is_plain word) refl refl
      (λ dashes held next none. from_standing words held next none (lone_parts word words dashes lone).1 (both_true (has_flag word) (list_all has_flag words) flags).1)
    where
      by : (d e : Bool) → is_dashes word ≡ d → is_plain word ≡ e
          → (is_dashes word ≡ false → (held : Held) (next : ℕ) → held.skip ≡ 0 → Comes s (standing held next) (record (standing held next) { is_trailing = true }) words (values_among words))
          → Comes s (standing h position) (record (standing h position) { is_trailing = true }) (word ∷ words)
          (if d then Some words else if e then option_map (λ (values : List Text). word ∷ values) (values_among words) else None)
      by true e is plain later =
          let turn = dashes_turn s [] h position word refl is in (
            faults_step s (standing h position) word words ∙ ap₂ (λ (a b : Kinds). or_else a b) turn.0 (ap (λ (x : Walk). faults s x words) turn.1),
            ap (λ (x : Walk). all_rows s x words) turn.1,
          )
      by false true is plain later =
          let turn = value_turn s [] h position word refl plain in
          let turn_behind = behind_turn h position word in
          let to = leads h position word skip in
          comes_on s (standing h position) (record (standing h position) { is_trailing = true }) (standing to.held to.next) (record (standing to.held to.next) { is_trailing = true })
          word words (values_among words) (turn.0 ∙ sym turn_behind.0) (turn.1 ∙ to.goes) (turn_behind.1 ∙ to.goes_behind) (later is to.held to.next to.skip)
      by false false is plain later =
          let told = flag_told s no_long no_short h word skip plain is (lone_parts word words is lone).0 (both_true (has_flag word) (list_all has_flag words) flags).0 in
          λ none. cc (sym (faults_step s (standing h position) word words ∙ ap (λ (ks : Kinds). or_else ks (faults s (walked s.rules [] (standing h position) word) words)) (told_turn s [] h position word refl (kind.UnknownArgument ∷ []) told)) ∙ none)

-- ---- a command over two values, and over one

held_leads : (s : Shape) (h : Held) (position : ℕ) (word : Text) (r : Rule) → h.skip ≡ 0 → arg_by_index s.rules position ≡ Some r → is_multiple r ≡ false → r.trailing_var_arg ≡ false
    → takes_several r ≡ false → Leads s h position word
held_leads s h position word r skip found single plain one = record {
  held = positional_held s.rules r word h;
  next = min (position + 1) usize_max;
  skip = ap (λ (b : Bool). (pushed r.id word (if b then h else settled s.rules h)).skip) (by (is_pending r h.pending) one) ∙ skip;
  goes = ap (λ (o : Option Rule). to_positional s.rules o word (standing h position) h) found
      ∙ ap₂ (λ (m t : Bool). record {
        held = positional_held s.rules r word h;
        waiting = if m then positional else idle;
        position = if m then position else min (position + 1) usize_max;
        is_trailing = false || t;
        stopped = None;
      }) single plain;
  goes_behind = ap (λ (o : Option Rule). to_positional s.rules o word (record (standing h position) { is_trailing = true }) h) found
      ∙ ap (λ (m : Bool). record {
        held = positional_held s.rules r word h;
        waiting = if m then positional else idle;
        position = if m then position else min (position + 1) usize_max;
        is_trailing = true;
        stopped = None;
      }) single;
}
  where
    by : (b : Bool) → takes_several r ≡ false → (b && takes_several r) ≡ false
    by true one = one
    by false one = refl

none_leads : (s : Shape) (h : Held) (position : ℕ) (word : Text) → h.skip ≡ 0 → arg_by_index s.rules position ≡ None → Leads s h position word
none_leads s h position word skip none = record {
  held = h;
  next = position;
  skip = skip;
  goes = ap (λ (o : Option Rule). to_positional s.rules o word (standing h position) h) none;
  goes_behind = ap (λ (o : Option Rule). to_positional s.rules o word (record (standing h position) { is_trailing = true }) h) none;
}

abbrev pub passes : Option ValueParser → Text → Bool
passes p value = accepts false (unwrap_or p parsers.String) value

-- the two values that are there and pass, or the one
abbrev pub two_of : Option ValueParser → Option ValueParser → Option (List Text) → Option (Text × Text)
two_of p q None = None
two_of p q (Some []) = None
two_of p q (Some (a ∷ [])) = None
two_of p q (Some (a ∷ b ∷ [])) = if passes p a && passes q b then Some (a, b) else None
two_of p q (Some (a ∷ b ∷ c ∷ more)) = None

abbrev pub one_of : Option ValueParser → Option (List Text) → Option Text
one_of p None = None
one_of p (Some []) = None
one_of p (Some (a ∷ [])) = if passes p a then Some a else None
one_of p (Some (a ∷ b ∷ more)) = None

-- nothing is told where they are, and they are what was read; else something is told
abbrev pub TwoRead : Kinds → List Row → Option (Text × Text) → Type 0
TwoRead ks rows None = ks ≡ [] → ⊥
TwoRead ks rows (Some both) = (ks ≡ []) × (first_of (codes "first") rows ≡ Some both.0) × (first_of (codes "second") rows ≡ Some both.1)

abbrev pub OneRead : Kinds → List Row → Option Text → Type 0
OneRead ks rows None = ks ≡ [] → ⊥
OneRead ks rows (Some one) = (ks ≡ []) × (first_of (codes "first") rows ≡ Some one) × (first_of (codes "second") rows ≡ None)

told_missing : (p : Option ValueParser) (a : Text) (k : ErrorKind) (ks : Kinds) → or_else (kinds_of_value p a) (k ∷ ks) ≡ [] → ⊥
told_missing p a k ks none = let last : k ∷ ks ≡ [] = or_else_last (kinds_of_value p a) (k ∷ ks) none in absurd (cc last)

module _ (name : Text) (p q : Option ValueParser) where
  abbrev pub two : Shape
  two = below (over_two name p q)

  abbrev two_rule : ℕ → Rule
  two_rule n = slice_index_or two.rules n help_rule

  abbrev first_kinds : Text → Kinds
  first_kinds = kinds_of_value p

  abbrev second_kinds : Text → Kinds
  second_kinds = kinds_of_value q

  -- where the walk stands with no value, one and two; behind `--` or not
  abbrev none_yet : Bool → Walk
  none_yet t = record (walk_from nothing_held) { is_trailing = t }

  two_missing : faults two (none_yet true) [] ≡ kind.MissingRequiredArgument ∷ []
  unfolding clap_on_literals
  two_missing = refl

  one_missing : (a : Text) → faults two (none_yet true) (a ∷ []) ≡ or_else (first_kinds a) (kind.MissingRequiredArgument ∷ [])
  unfolding clap_on_literals
  one_missing a = refl

  both_there : (a b : Text) → faults two (none_yet true) (a ∷ b ∷ []) ≡ or_else (or_else (first_kinds a) []) (or_else (second_kinds b) [])
  unfolding clap_on_literals
  both_there a b = refl

  too_many : (a b c : Text) (more : List Text) → faults two (none_yet true) (a ∷ b ∷ c ∷ more) ≡ or_else (or_else (first_kinds a) (kind.UnknownArgument ∷ [])) (end_fault two (fold (walked two.rules []) (none_yet true) (a ∷ b ∷ c ∷ more)).held)
  unfolding clap_on_literals
  too_many a b c more = refl

  rows_are : (a b : Text) → all_rows two (none_yet true) (a ∷ b ∷ []) ≡ row_of_value (codes "first") p a ∷ row_of_value (codes "second") q b ∷ []
  unfolding clap_on_literals
  rows_are a b = refl

  too_many_told : (a b c : Text) (more : List Text) → faults two (none_yet true) (a ∷ b ∷ c ∷ more) ≡ [] → ⊥
  too_many_told a b c more none = by (kinds_of_value p a) (sym (too_many a b c more) ∙ none)
    where
      by : (ks : Kinds) → or_else (or_else ks (kind.UnknownArgument ∷ [])) (end_fault two (fold (walked two.rules []) (none_yet true) (a ∷ b ∷ c ∷ more)).held) ≡ [] → ⊥
      by [] none = cc none
      by (k ∷ ks) none = cc none

  both_read : (a b : Text) → TwoRead (faults two (none_yet true) (a ∷ b ∷ [])) (all_rows two (none_yet true) (a ∷ b ∷ [])) (if passes p a && passes q b then Some (a, b) else None)
  both_read a b = by (passes p a) (passes q b) refl refl
    where
      ends : (c d : Bool) → passes p a ≡ c → passes q b ≡ d
          → faults two (none_yet true) (a ∷ b ∷ []) ≡ or_else (or_else (or_else (if c then [] else refused_kind (unwrap_or p parsers.String) ∷ []) []) []) (or_else (or_else (if d then [] else refused_kind (unwrap_or q parsers.String) ∷ []) []) [])
      ends c d is is_too =
          both_there a b
          ∙ ap₂ (λ (x y : Bool). or_else (or_else (or_else (if x then [] else refused_kind (unwrap_or p parsers.String) ∷ []) []) []) (or_else (or_else (if y then [] else refused_kind (unwrap_or q parsers.String) ∷ []) []) [])) is is_too

      by : (c d : Bool) → passes p a ≡ c → passes q b ≡ d
          → TwoRead (faults two (none_yet true) (a ∷ b ∷ [])) (all_rows two (none_yet true) (a ∷ b ∷ [])) (if c && d then Some (a, b) else None)
      by true true is is_too = (ends true true is is_too, ap (first_of (codes "first")) (rows_are a b), ap (first_of (codes "second")) (rows_are a b))
      by true false is is_too = λ none. cc (sym (ends true false is is_too) ∙ none)
      by false d is is_too = λ none. cc (sym (ends false d is is_too) ∙ none)

  two_long : (n : Text) → arg_by_long two.rules n ≡ None
  two_long n = refl

  two_short : (c : ℕ) → arg_by_short two.rules c ≡ None
  two_short c = refl

  two_leads : (h : Held) (position : ℕ) (word : Text) → h.skip ≡ 0 → Leads two h position word
  two_leads h position word skip = by (nat_eq 1 position) (nat_eq 2 position) refl refl
    where
      by : (a b : Bool) → nat_eq 1 position ≡ a → nat_eq 2 position ≡ b → Leads two h position word
      by true b is other = held_leads two h position word (two_rule 0) skip (ap (λ (t : Bool). cond t (Some (two_rule 0)) (cond (nat_eq 2 position) (Some (two_rule 1)) None)) is) refl refl refl
      by false true other is =
          held_leads two h position word (two_rule 1) skip (ap₂ (λ (t u : Bool). cond t (Some (two_rule 0)) (cond u (Some (two_rule 1)) None)) other is) refl refl refl
      by false false first second = none_leads two h position word skip (ap₂ (λ (t u : Bool). cond t (Some (two_rule 0)) (cond u (Some (two_rule 1)) None)) first second)

  two_behind : (values : Option (List Text)) (words : List Text) → Comes two (none_yet false) (none_yet true) words values
      → TwoRead (faults two (none_yet false) words) (all_rows two (none_yet false) words) (two_of p q values)
  two_behind None words comes = comes
  two_behind (Some []) words comes = λ none. cc (sym two_missing ∙ sym comes.0 ∙ none)
  two_behind (Some (a ∷ [])) words comes = λ none. told_missing p a kind.MissingRequiredArgument [] (sym (one_missing a) ∙ sym comes.0 ∙ none)
  two_behind (Some (a ∷ b ∷ [])) words comes =
      subst (λ (ks : Kinds). TwoRead ks (all_rows two (none_yet false) words) (two_of p q (Some (a ∷ b ∷ [])))) (sym comes.0)
      (subst (λ (rs : List Row). TwoRead (faults two (none_yet true) (a ∷ b ∷ [])) rs (two_of p q (Some (a ∷ b ∷ [])))) (sym comes.1) (both_read a b))
  two_behind (Some (a ∷ b ∷ c ∷ more)) words comes = λ none. too_many_told a b c more (sym comes.0 ∙ none)

  -- what is told of the words behind a command over two values
  pub two_read : (words : List Text) → has_lone words ≡ false → list_all has_flag words ≡ true
      → TwoRead (faults two (none_yet false) words) (all_rows two (none_yet false) words) (two_of p q (values_among words))
  two_read words lone flags = two_behind (values_among words) words (from_standing two two_long two_short two_leads words nothing_held 1 refl lone flags)

module _ (name : Text) (p : Option ValueParser) where
  abbrev pub one : Shape
  one = below (over_one name p)

  abbrev one_rule : Rule
  one_rule = slice_index_or one.rules 0 help_rule

  abbrev starting : Bool → Walk
  starting t = record (walk_from nothing_held) { is_trailing = t }

  value_missing : faults one (starting true) [] ≡ kind.MissingRequiredArgument ∷ []
  unfolding clap_on_literals
  value_missing = refl

  value_there : (a : Text) → faults one (starting true) (a ∷ []) ≡ or_else (kinds_of_value p a) []
  unfolding clap_on_literals
  value_there a = refl

  one_more : (a b : Text) (more : List Text) → faults one (starting true) (a ∷ b ∷ more) ≡ or_else (kind.UnknownArgument ∷ []) (end_fault one (fold (walked one.rules []) (starting true) (a ∷ b ∷ more)).held)
  unfolding clap_on_literals
  one_more a b more = refl

  value_row : (a : Text) → all_rows one (starting true) (a ∷ []) ≡ row_of_value (codes "first") p a ∷ []
  unfolding clap_on_literals
  value_row a = refl

  value_read : (a : Text) → OneRead (faults one (starting true) (a ∷ [])) (all_rows one (starting true) (a ∷ [])) (if passes p a then Some a else None)
  value_read a = by (passes p a) refl
    where
      ends : (c : Bool) → passes p a ≡ c → faults one (starting true) (a ∷ []) ≡ or_else (or_else (if c then [] else refused_kind (unwrap_or p parsers.String) ∷ []) []) []
      ends c is = value_there a ∙ ap (λ (x : Bool). or_else (or_else (if x then [] else refused_kind (unwrap_or p parsers.String) ∷ []) []) []) is

      by : (c : Bool) → passes p a ≡ c → OneRead (faults one (starting true) (a ∷ [])) (all_rows one (starting true) (a ∷ [])) (if c then Some a else None)
      by true is = (ends true is, ap (first_of (codes "first")) (value_row a), ap (first_of (codes "second")) (value_row a))
      by false is = λ none. cc (sym (ends false is) ∙ none)

  one_long : (n : Text) → arg_by_long one.rules n ≡ None
  one_long n = refl

  one_short : (c : ℕ) → arg_by_short one.rules c ≡ None
  one_short c = refl

  one_leads : (h : Held) (position : ℕ) (word : Text) → h.skip ≡ 0 → Leads one h position word
  one_leads h position word skip = by (nat_eq 1 position) refl
    where
      by : (a : Bool) → nat_eq 1 position ≡ a → Leads one h position word
      by true is = held_leads one h position word one_rule skip (ap (λ (t : Bool). cond t (Some one_rule) None) is) refl refl refl
      by false other = none_leads one h position word skip (ap (λ (t : Bool). cond t (Some one_rule) None) other)

  one_behind : (values : Option (List Text)) (words : List Text) → Comes one (starting false) (starting true) words values
      → OneRead (faults one (starting false) words) (all_rows one (starting false) words) (one_of p values)
  one_behind None words comes = comes
  one_behind (Some []) words comes = λ none. cc (sym value_missing ∙ sym comes.0 ∙ none)
  one_behind (Some (a ∷ [])) words comes =
      subst (λ (ks : Kinds). OneRead ks (all_rows one (starting false) words) (one_of p (Some (a ∷ [])))) (sym comes.0)
      (subst (λ (rs : List Row). OneRead (faults one (starting true) (a ∷ [])) rs (one_of p (Some (a ∷ [])))) (sym comes.1) (value_read a))
  one_behind (Some (a ∷ b ∷ more)) words comes = λ none. cc (sym (one_more a b more) ∙ sym comes.0 ∙ none)

  -- what is told of the words behind a command over one value
  pub one_read : (words : List Text) → has_lone words ≡ false → list_all has_flag words ≡ true
      → OneRead (faults one (starting false) words) (all_rows one (starting false) words) (one_of p (values_among words))
  one_read words lone flags = one_behind (values_among words) words (from_standing one one_long one_short one_leads words nothing_held 1 refl lone flags)
