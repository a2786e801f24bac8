-- A line that is handed to the session asks for nothing there that observes, diagnoses, commits or ends.
use Rattle.std.proofs.Common.{◌≡◌, ℕ, Bool, true, false, ◌||◌, cond, nat_eq, List, [], ◌∷◌, length, Option, None, Some, codes, Result, Ok, Err, refl, sym, subst}
use Rattle.std.specs.Option.{option_map_or}
use Rattle.std.specs.Cmp.Lexicographic.{same_text}
use Rattle.lv_base.specs.Names.{is_named}
use Rattle.lv_base.specs.declared.limits.TheConstants.{TRACKED, BUDGET}
use Rattle.lv_session.specs.lv_formula_text.Nesting.{is_too_deep}
use Rattle.lv_text.specs.Lexemes.{Lexeme, Reading, reads, has_bad_byte, is_too_long, line_reading, word_at, number_at}
use Rattle.lv_model.specs.declared.plant.Plant.{Plant}
use Rattle.lv_session.specs.lv_model_names.declared.lists.Lists.{Lists}
use Rattle.lv_session.specs.lv_model_names.Lists.{lists_of}
use Rattle.lv_reply.specs.declared.reply.Refusal.{Refusal}
use Rattle.lv_reply.specs.declared.reply.Refusal.TheVariants.{Form, TooComplex}
use Rattle.lv_session.specs.lv_session_request.declared.request.Request.{Request}
use Rattle.lv_session.specs.lv_session_request.declared.request.Request.TheVariants as request
use Rattle.lv_session.specs.lv_session_request.declared.words.Word.{Word}
use Rattle.lv_session.specs.lv_session_request.declared.words.Word.TheVariants as said
use Rattle.lv_session.specs.lv_session_request.Chain.{and_then}
use Rattle.lv_session.specs.lv_session_request.Forms.{first_word, has_distinct_form, limited, number_to}
use Rattle.lv_session.specs.lv_session_request.Goals.{goal_of}
use Rattle.lv_session.specs.lv_session_request.Requests.{command_of, release_of, retracted_of, request_by, asked_by_first, asked, asked_by as request_by_reading, request_of}
use Rattle.lv_plant.specs.declared.fault.PlantFault.TheVariants.{NoForm}
use Rattle.lv_plant.specs.Forms as forms
use Rattle.lv_plant.specs.Forms.{goes_to_session, is_naming, is_alone, asked_of, asked_by_reading}

-- what lines ask for that begin with a word that is handed to the session
abbrev pub is_handed : Request → Bool
is_handed request.Nothing = true
is_handed (request.Track n) = true
is_handed (request.TrackDistinct n) = true
is_handed (request.SetBudget n) = true
is_handed (request.SetControl c) = true
is_handed (request.Release place) = true
is_handed (request.SetGoal g) = true
is_handed (request.DropGoal name) = true
is_handed request.Recover = true
is_handed request.Conflicts = true
is_handed request.States = true
is_handed r = false

abbrev pub asks_handed : Result Request Refusal → Bool
asks_handed (Ok r) = is_handed r
asks_handed (Err refusal) = true

abbrev is_handed_word : Word → Bool
is_handed_word said.Track = true
is_handed_word said.Budget = true
is_handed_word said.Command = true
is_handed_word said.Release = true
is_handed_word said.Goal = true
is_handed_word said.Drop = true
is_handed_word said.Recover = true
is_handed_word said.Conflicts = true
is_handed_word said.States = true
is_handed_word w = false

abbrev named_so : List ℕ → Option (List ℕ) → Bool
named_so text o = option_map_or (is_named text) o false

-- the word of a line by its first token's text
abbrev word_by : Option (List ℕ) → Option Word
word_by o =
    cond (named_so (codes "track") o) (Some said.Track) (cond (named_so (codes "budget") o) (Some said.Budget) (cond (named_so (codes "command") o) (Some said.Command)
    (cond (named_so (codes "release") o) (Some said.Release) (cond (named_so (codes "observe") o) (Some said.Observe) (cond (named_so (codes "retract") o) (Some said.Retract)
    (cond (named_so (codes "goal") o) (Some said.Goal) (cond (named_so (codes "drop") o) (Some said.Drop) (cond (named_so (codes "diagnose") o) (Some said.Diagnose)
    (cond (named_so (codes "recover") o) (Some said.Recover) (cond (named_so (codes "more") o) (Some said.More) (cond (named_so (codes "commit") o) (Some said.Commit)
    (cond (named_so (codes "conflicts") o) (Some said.Conflicts) (cond (named_so (codes "certificate") o) (Some said.Certificate) (cond (named_so (codes "labels") o) (Some said.Labels)
    (cond (named_so (codes "states") o) (Some said.States) (cond (named_so (codes "reset") o) (Some said.Reset) (cond (named_so (codes "quit") o) (Some said.Quit)
    (cond (named_so (codes "probe") o) (Some said.Probe) (cond (named_so (codes "test") o) (Some said.Test) (cond (named_so (codes "window") o) (Some said.Window) None))))))))))))))))))))

abbrev goes_by : Option (List ℕ) → Bool
goes_by o =
    named_so (codes "track") o || named_so (codes "budget") o || named_so (codes "command") o || named_so (codes "release") o || named_so (codes "goal") o || named_so (codes "drop") o
    || named_so (codes "recover") o || named_so (codes "conflicts") o || named_so (codes "states") o

-- the first token is a word that is handed on
record HasWord (o : Option (List ℕ)) : Type 0 where
  pub word : Word
  pub is : word_by o ≡ Some word
  pub handed : is_handed_word word ≡ true

either : {C : Type 0} (a b : Bool) → (a || b) ≡ true → (a ≡ true → C) → (b ≡ true → C) → C
either true b h f g = f refl
either false b h f g = g h

of_text : (text : List ℕ) (w : Word) → word_by (Some text) ≡ Some w → is_handed_word w ≡ true → (t : List ℕ) → is_named text t ≡ true → HasWord (Some t)
of_text text w is handed t e =
    let same : t ≡ text = same_text t text (sym e) in
    record { word = w; is = subst (λ (x : List ℕ). word_by (Some x) ≡ Some w) (sym same) is; handed = handed }

has_word : (o : Option (List ℕ)) → goes_by o ≡ true → HasWord o
has_word None h = absurd (cc h)
has_word (Some t) h =
    either _ (is_named (codes "states") t) h (λ h7.
    either _ (is_named (codes "conflicts") t) h7 (λ h6.
    either _ (is_named (codes "recover") t) h6 (λ h5.
    either _ (is_named (codes "drop") t) h5 (λ h4.
    either _ (is_named (codes "goal") t) h4 (λ h3.
    either _ (is_named (codes "release") t) h3 (λ h2.
    either _ (is_named (codes "command") t) h2 (λ h1.
    either _ (is_named (codes "budget") t) h1 (of_text (codes "track") said.Track refl refl t)
    (of_text (codes "budget") said.Budget refl refl t))
    (of_text (codes "command") said.Command refl refl t))
    (of_text (codes "release") said.Release refl refl t))
    (of_text (codes "goal") said.Goal refl refl t))
    (of_text (codes "drop") said.Drop refl refl t))
    (of_text (codes "recover") said.Recover refl refl t))
    (of_text (codes "conflicts") said.Conflicts refl refl t))
    (of_text (codes "states") said.States refl refl t)

of_chain : {X : Type 0} (r : Result X Refusal) (f : X → Request) → ((x : X) → is_handed (f x) ≡ true) → asks_handed (and_then r (λ x. Ok (f x))) ≡ true
of_chain (Ok x) f h = h x
of_chain (Err refusal) f h = refl

of_alone : (r : Request) (b : Bool) → is_handed r ≡ true → asks_handed (cond b (Ok r) (Err Form)) ≡ true
of_alone r true h = h
of_alone r false h = refl

handed_by : (plant : Plant) (lists : Lists) (ts : List Lexeme) (w : Word) → is_handed_word w ≡ true → asks_handed (request_by plant lists w ts) ≡ true
handed_by plant lists ts said.Track h = by (has_distinct_form ts)
  where
    by : (b : Bool) → asks_handed (cond b (and_then (limited TRACKED ts) (λ n. Ok (request.TrackDistinct n))) (and_then (number_to TRACKED ts) (λ n. Ok (request.Track n)))) ≡ true
    by true = of_chain (limited TRACKED ts) request.TrackDistinct (λ n. refl)
    by false = of_chain (number_to TRACKED ts) request.Track (λ n. refl)
handed_by plant lists ts said.Budget h = of_chain (number_to BUDGET ts) request.SetBudget (λ n. refl)
handed_by plant lists ts said.Command h = of_chain (command_of plant lists ts) request.SetControl (λ c. refl)
handed_by plant lists ts said.Release h = of_chain (release_of plant lists ts) request.Release (λ place. refl)
handed_by plant lists ts said.Observe h = absurd (cc h)
handed_by plant lists ts said.Retract h = absurd (cc h)
handed_by plant lists ts said.Goal h = of_chain (goal_of plant lists ts) request.SetGoal (λ g. refl)
handed_by plant lists ts said.Drop h = of_chain (retracted_of ts) request.DropGoal (λ name. refl)
handed_by plant lists ts said.Diagnose h = absurd (cc h)
handed_by plant lists ts said.Recover h = of_alone request.Recover (nat_eq (length ts) 1) refl
handed_by plant lists ts said.More h = absurd (cc h)
handed_by plant lists ts said.Commit h = absurd (cc h)
handed_by plant lists ts said.Conflicts h = of_alone request.Conflicts (nat_eq (length ts) 1) refl
handed_by plant lists ts said.Certificate h = absurd (cc h)
handed_by plant lists ts said.Labels h = absurd (cc h)
handed_by plant lists ts said.States h = of_alone request.States (nat_eq (length ts) 1) refl
handed_by plant lists ts said.Reset h = absurd (cc h)
handed_by plant lists ts said.Quit h = absurd (cc h)
handed_by plant lists ts said.Probe h = absurd (cc h)
handed_by plant lists ts said.Test h = absurd (cc h)
handed_by plant lists ts said.Window h = absurd (cc h)

handed_tokens : (plant : Plant) (ts : List Lexeme) → goes_to_session ts ≡ true → asks_handed (asked plant (lists_of plant) ts) ≡ true
handed_tokens plant ts h = by (nat_eq (length ts) 0)
  where
    has : HasWord (word_at ts 0)
    has = has_word (word_at ts 0) h

    deep : (b : Bool) → asks_handed (cond b (Err TooComplex) (request_by plant (lists_of plant) has.word ts)) ≡ true
    deep true = refl
    deep false = handed_by plant (lists_of plant) ts has.word has.handed

    by : (b : Bool) → asks_handed (cond b (Ok request.Nothing) (asked_by_first plant (lists_of plant) ts (first_word ts))) ≡ true
    by true = refl
    by false = subst (λ (o : Option Word). asks_handed (asked_by_first plant (lists_of plant) ts o) ≡ true) (sym has.is) (deep (is_too_deep ts))

goes_on : (line : List Lexeme) → asked_of line ≡ forms.for_session → goes_to_session line ≡ true
goes_on [] e = absurd (cc e)
goes_on (first ∷ more) e = by (goes_to_session (first ∷ more)) (is_naming (first ∷ more)) (is_alone (codes "step") (first ∷ more)) (is_alone (codes "apply") (first ∷ more)) (word_at (first ∷ more) 1) e
  where
    by : (a b c d : Bool) (o : Option (List ℕ))
        → cond a forms.for_session (cond b (option_map_or (λ (part : List ℕ). forms.name part (number_at (first ∷ more) 2)) o (forms.refused NoForm)) (cond c forms.step (cond d forms.apply (forms.refused NoForm)))) ≡ forms.for_session
        → a ≡ true
    by true b c d o h = refl
    by false true c d None h = absurd (cc h)
    by false true c d (Some part) h = absurd (cc h)
    by false false true d o h = absurd (cc h)
    by false false false true o h = absurd (cc h)
    by false false false false o h = absurd (cc h)

-- the request of such a line, if it isn't refused
pub handed_request : (plant : Plant) (line : List ℕ) → forms.asked_by line ≡ forms.for_session → asks_handed (request_of plant line) ≡ true
unfolding request_of
handed_request plant line h = by (line_reading line) h
  where
    by : (r : Reading) → asked_by_reading r ≡ forms.for_session → asks_handed (request_by_reading plant (lists_of plant) r) ≡ true
    by (reads ts) e = handed_tokens plant ts (goes_on ts e)
    by (has_bad_byte place) e = absurd (cc e)
    by is_too_long e = absurd (cc e)
