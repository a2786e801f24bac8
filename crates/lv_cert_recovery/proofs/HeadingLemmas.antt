-- The lines that state the question of a recovery are good, and state it.
use Rattle.std.proofs.Common.{◌≡◌, ℕ, zero, suc, ◌+◌, ◌<◌, ◌≤◌, true, nat_eq, List, [], ◌∷◌, ◌++◌, length, map, Some, None, option_map, cond, refl, sym, subst, ◌∙◌, ap, arith, All}
use Rattle.std.specs.List.{list_all}
use Rattle.std.specs.Cmp.Lexicographic.{pointwise}
use Rattle.std.proofs.lemmas.Bool.{and_parts, and_from, lt-ltb, eq-eqb}
use Rattle.std.proofs.lemmas.List.{append_assoc, append-nil, length-map}
use Rattle.lv_base.specs.Tree.{Tree}
use Rattle.lv_model.specs.declared.plant.Plant.{Plant}
use Rattle.lv_model.specs.Lists.{variable_count}
use Rattle.lv_model.specs.WellFormed.{is_well_formed}
use Rattle.lv_meaning.specs.declared.aim.Aim.{Aim}
use Rattle.lv_search_zones.specs.lv_compile.Booleans.{booleans_now}
use Rattle.lv_search_zones.specs.Commands.{control_slots, command_zone}
use Rattle.lv_cert.specs.declared.line.Question.TheVariants.{Recovery}
use Rattle.lv_cert.specs.declared.line.Moment.TheVariants.{Now}
use Rattle.lv_cert.specs.declared.line.Line.{Line}
use Rattle.lv_cert.specs.declared.line.Line.TheVariants as line
use Rattle.lv_cert.specs.declared.order.Place.{Place}
use Rattle.lv_cert.specs.declared.order.Place.TheVariants as place
use Rattle.lv_cert.specs.Order.{after_known_facts, place_after}
use Rattle.lv_cert.specs.Words.{is_word}
use Rattle.lv_cert_laws.specs.lv_cert_meaning.Stated.{observed_literal, goal_of, with_goal}
use Rattle.lv_cert_laws.specs.lv_cert_meaning.Judging.{Judged, unjudged}
use Rattle.lv_cert_writing.specs.Lines.{state_lines, fact_lines}
use Rattle.lv_cert_writing.specs.Ending.{Ends}
use Rattle.lv_cert_writing.proofs.Ending.{line_first}
use Rattle.lv_cert_writing.proofs.StatingLemmas.{Stands, states_first}
use Rattle.lv_cert_writing.proofs.Facts.{IsSeenIn, TakesFacts, facts_first}
use Rattle.lv_cert_recovery.specs.Showing.{stated_by, goal_lines, head_lines}
use Rattle.lv_cert_recovery.specs.Leading.{task_of}

-- where so many lines of goals came, behind so many of states and of facts
abbrev pub facts_place : ℕ → ℕ → Place
facts_place states zero = place.Known states
facts_place states (suc n) = place.KnownFacts states (suc n)

abbrev pub goals_place : ℕ → ℕ → ℕ → Place
goals_place states facts zero = facts_place states facts
goals_place states facts (suc n) = place.Goals (record { states = states; goals = suc n })

facts_taken : (states : ℕ) → 1 ≤ states → TakesFacts Now (facts_place states)
facts_taken states some = record { next = next }
  where
    next : (n x v : ℕ) → n < 1024 → place_after (facts_place states n) (line.Fact Now x v) ≡ Some (facts_place states (n + 1))
    next zero x v less = ap (λ b. cond b (after_known_facts states 0 (line.Fact Now x v)) None) (lt-ltb 0 states some)
    next (suc n) x v less =
        let same : suc (suc n) ≡ suc n + 1 = omega arith in
        ap (λ b. cond b (Some (place.KnownFacts states (suc n + 1))) None) (lt-ltb (suc n) 1024 less)
        ∙ ap (λ m. Some (place.KnownFacts states m)) (sym same)
        ∙ ap (λ m. Some (facts_place states m)) same

-- where so many more goals may come
record TakesGoals (place_of : ℕ → Place) : Type 0 where
  next : (n : ℕ) (text : List ℕ) → n < 64 → place_after (place_of n) (line.Goal text) ≡ Some (place_of (n + 1))

goals_taken : (states facts : ℕ) → 1 ≤ states → TakesGoals (goals_place states facts)
goals_taken states facts some = record { next = next facts }
  where
    next : (f n : ℕ) (text : List ℕ) → n < 64 → place_after (goals_place states f n) (line.Goal text) ≡ Some (goals_place states f (n + 1))
    next zero zero text less = ap (λ b. cond b (after_known_facts states 0 (line.Goal text)) None) (lt-ltb 0 states some)
    next (suc f) zero text less = refl
    next f (suc n) text less =
        let same : suc (suc n) ≡ suc n + 1 = omega arith in
        ap (λ b. cond b (Some (place.Goals (record { states = states; goals = suc n + 1 }))) None) (lt-ltb (suc n) 64 less)
        ∙ ap (λ m. Some (place.Goals (record { states = states; goals = m }))) (sym same)
        ∙ ap (λ m. Some (goals_place states f m)) same

-- the texts are of these goals, and each is one word
pub record AreTextsOf (plant : Plant) (texts : List (List ℕ)) (goals : List Tree) : Type 0 where
  pub words : list_all is_word texts ≡ true
  pub goals_are : map (goal_of plant) texts ≡ map Some goals

abbrev with_goals : Judged → List Tree → Judged
with_goals j gs = record j { stated = record j.stated { goals = j.stated.goals ++ gs } }

module _ (plant : Plant) (place_of : ℕ → Place) (takes : TakesGoals place_of) (final : Judged) (rest : List Line) where
  goals_first : (texts : List (List ℕ)) (gs : List Tree) (n : ℕ) (j : Judged) → AreTextsOf plant texts gs → n + length texts ≤ 64
      → Ends Recovery plant (place_of (n + length texts)) (with_goals j gs) rest final → Ends Recovery plant (place_of n) j (goal_lines texts ++ rest) final
  goals_first [] [] n j are few ends =
      let same : n + 0 ≡ n = omega arith in
      subst (λ (gs : List Tree). Ends Recovery plant (place_of n) (record j { stated = record j.stated { goals = gs } }) rest final) (append-nil j.stated.goals)
      (subst (λ m. Ends Recovery plant (place_of m) (with_goals j []) rest final) same ends)
  goals_first [] (g ∷ gs) n j are few ends = let none : [] ≡ Some g ∷ map Some gs = are.goals_are in absurd (cc none)
  goals_first (t ∷ ts) [] n j are few ends = let none : goal_of plant t ∷ map (goal_of plant) ts ≡ [] = are.goals_are in absurd (cc none)
  goals_first (t ∷ ts) (g ∷ gs) n j are few ends =
      let both : goal_of plant t ∷ map (goal_of plant) ts ≡ Some g ∷ map Some gs = are.goals_are in
      let read : goal_of plant t ≡ Some g = cc both in
      let others : map (goal_of plant) ts ≡ map Some gs = cc both in
      let words = and_parts (is_word t) (list_all is_word ts) are.words in
      let less : n < 64 = omega (arith, few) in
      let next : n + suc (length ts) ≡ n + 1 + length ts = omega arith in
      line_first Recovery plant final (place_of n) (place_of (n + 1)) j (record j { stated = with_goal j.stated g }) (line.Goal t) (goal_lines ts ++ rest)
      (ap (option_map (λ (goal : Tree). record j { stated = with_goal j.stated goal })) read) (takes.next n t less) (λ w. words.0)
      (goals_first ts gs (n + 1) (record j { stated = with_goal j.stated g }) (record { words = words.1; goals_are = others }) (omega (arith, few))
      (subst (λ (all : List Tree). Ends Recovery plant (place_of (n + 1 + length ts)) (record j { stated = record j.stated { goals = all } }) rest final) (sym (append_assoc j.stated.goals (g ∷ []) gs))
      (subst (λ m. Ends Recovery plant (place_of m) (with_goals j (g ∷ gs)) rest final) next ends)))

-- what is asked of a recovery is of the plant, and within the limits
pub record IsAskedOf (plant : Plant) (aim : Aim) (texts : List (List ℕ)) : Type 0 where
  pub well_formed : is_well_formed plant ≡ true
  pub variables : variable_count plant ≤ 4096
  pub some_states : 1 ≤ length aim.tracked
  pub few_states : length aim.tracked ≤ 64
  pub stand : All (Stands plant) aim.tracked
  pub present : All (IsSeenIn plant) aim.present
  pub observed : length aim.present ≤ 1024
  pub some_goals : 1 ≤ length aim.goals
  pub few_goals : length aim.goals ≤ 64
  pub texts_are : AreTextsOf plant texts aim.goals

-- what the head comes to
abbrev pub headed : Plant → Aim → Judged
headed plant aim =
    record {
      stated = stated_by plant aim;
      space = record { slots = control_slots plant; zones = Some (command_zone plant) ∷ [] };
      listed = [];
      excluded = [];
      own = [];
      aimed = None;
      before = None;
    }

same_name : (ns : List ℕ) → pointwise nat_eq ns ns ≡ true
same_name [] = refl
same_name (n ∷ ns) = and_from (nat_eq n n) (pointwise nat_eq ns ns) (eq-eqb n n refl) (same_name ns)

module _ (plant : Plant) (aim : Aim) (texts : List (List ℕ)) (is : IsAskedOf plant aim texts) (final : Judged) (rest : List Line) where
  abbrev states : ℕ
  states = length aim.tracked

  abbrev facts : ℕ
  facts = length aim.present

  -- with the states
  abbrev known : Judged
  known = record (unjudged plant Recovery) { stated = record (unjudged plant Recovery).stated { tracked = aim.tracked } }

  -- and what is seen
  abbrev seen : Judged
  seen = record known { stated = record known.stated { facts = record { controls = []; present = aim.present; next = [] }; literals = map (observed_literal (booleans_now plant)) aim.present } }

  long_texts : length texts ≡ length aim.goals
  long_texts = sym (length-map texts (goal_of plant)) ∙ ap length is.texts_are.goals_are ∙ length-map aim.goals Some

  last_place : goals_place states facts (0 + length texts) ≡ place.Goals (task_of aim)
  last_place = by (length texts) refl
    where
      by : (n : ℕ) → length texts ≡ n → goals_place states facts (0 + n) ≡ place.Goals (task_of aim)
      by zero none = let some = is.some_goals in let long = long_texts in absurd (omega (arith, some, long, none))
      by (suc n) many =
          let same : 0 + suc n ≡ suc n = omega arith in
          ap (goals_place states facts) same ∙ ap (λ m. place.Goals (record { states = states; goals = m })) (sym many ∙ long_texts)

  goals_end : Ends Recovery plant (place.Goals (task_of aim)) (headed plant aim) rest final → Ends Recovery plant (facts_place states facts) seen (goal_lines texts ++ rest) final
  goals_end ends =
      let few = is.few_goals in
      let long = long_texts in
      goals_first plant (goals_place states facts) (goals_taken states facts is.some_states) final rest texts aim.goals 0 seen is.texts_are (omega (arith, few, long))
      (subst (λ p. Ends Recovery plant p (headed plant aim) rest final) (sym last_place) ends)

  facts_end : Ends Recovery plant (place.Goals (task_of aim)) (headed plant aim) rest final
      → Ends Recovery plant (place.Known states) known (fact_lines Now aim.present ++ (goal_lines texts ++ rest)) final
  facts_end ends =
      facts_first Recovery plant is.well_formed is.variables final (goal_lines texts ++ rest) Now (facts_place states) (facts_taken states is.some_states) aim.present 0 facts known is.present (omega arith) is.observed
      (goals_end ends)

  states_end : Ends Recovery plant (place.Goals (task_of aim)) (headed plant aim) rest final
      → Ends Recovery plant (place.Known 0) (unjudged plant Recovery) (state_lines aim.tracked ++ (fact_lines Now aim.present ++ (goal_lines texts ++ rest))) final
  states_end ends =
      states_first Recovery plant is.well_formed place.Known (record { next = λ n ns less. ap (λ b. cond b (Some (place.Known (n + 1))) None) (lt-ltb n 64 less) }) final
      (fact_lines Now aim.present ++ (goal_lines texts ++ rest)) aim.tracked 0 states (unjudged plant Recovery) is.stand refl (omega arith) is.few_states
      (facts_end ends)

  regrouped : (state_lines aim.tracked ++ (fact_lines Now aim.present ++ goal_lines texts)) ++ rest ≡ state_lines aim.tracked ++ (fact_lines Now aim.present ++ (goal_lines texts ++ rest))
  regrouped =
      append_assoc (state_lines aim.tracked) (fact_lines Now aim.present ++ goal_lines texts) rest
      ∙ ap (λ (ls : List Line). state_lines aim.tracked ++ ls) (append_assoc (fact_lines Now aim.present) (goal_lines texts) rest)

  pub head_first : Ends Recovery plant (place.Goals (task_of aim)) (headed plant aim) rest final → Ends Recovery plant place.Start (unjudged plant Recovery) (head_lines plant aim texts ++ rest) final
  head_first ends =
      let more : List Line = state_lines aim.tracked ++ (fact_lines Now aim.present ++ (goal_lines texts ++ rest)) in
      subst (λ (ls : List Line). Ends Recovery plant place.Start (unjudged plant Recovery) (line.Certificate Recovery ∷ (line.Model plant.name ∷ ls)) final) (sym regrouped)
      (line_first Recovery plant final place.Start (place.Named Recovery) (unjudged plant Recovery) (unjudged plant Recovery) (line.Certificate Recovery) (line.Model plant.name ∷ more) refl refl (λ w. refl)
      (line_first Recovery plant final (place.Named Recovery) (place.Known 0) (unjudged plant Recovery) (unjudged plant Recovery) (line.Model plant.name) more
      (ap (λ b. cond b (Some (unjudged plant Recovery)) None) (same_name plant.name)) refl (λ w. w) (states_end ends)))
