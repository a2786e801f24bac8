-- What a label tells of the trail, and that what is read off is a labelling.
use Rattle.std.proofs.Common.{◌≡◌, ◌||◌, ℕ, ◌<◌, nat_lt, Bool, true, false, List, [], ◌∷◌, ◌++◌, filter, length, Option, None, Some, All, refl, sym, ap, subst, ◌∙◌, arith}
use Rattle.std.proofs.lemmas.List.Folds.{list_any-append}
use Rattle.std.proofs.lemmas.List.{length-map}
use Rattle.std.proofs.lemmas.List.Elements.{All-nil, All-cons}
use Rattle.lv_base.specs.declared.ids.Lit.{Lit}
use Rattle.lv_base.specs.declared.ids.ValId.{ValId}
use Rattle.lv_base.specs.declared.ids.VarId.{VarId}
use Rattle.lv_clauses.specs.Literals.{neg}
use Rattle.lv_clauses.specs.ClauseMap.{Slots}
use Rattle.lv_clauses.specs.Closure.{both_signs}
use Rattle.lv_clauses.specs.Marks.{Marks, is_marked}
use Rattle.lv_clauses.proofs.LiteralLemmas.{and_left, and_right}
use Rattle.std.proofs.lemmas.Bool.Decides.{nat_tests}
use Rattle.lv_ltms.specs.Trail.{same_lit, trail_has}
use Rattle.lv_ltms.specs.System.{System, IsDerived, IsRefuted, IsWholeTrail, in_list}
use Rattle.lv_ltms.proofs.TrailLemmas.{derivation_sound}
use Rattle.lv_model.specs.declared.plant.Plant.{Plant}
use Rattle.lv_model.specs.declared.state.State.{State}
use Rattle.lv_compile.specs.Booleans.{Booleans, booleans_now}
use Rattle.lv_compile.specs.FormulaClauses.{size_of}
use Rattle.lv_compile.specs.ModelClauses.{model_clauses}
use Rattle.lv_reply.specs.declared.labels.Moment.TheVariants.{Now, Next}
use Rattle.lv_labels.specs.declared.values.Values.{Values}
use Rattle.lv_labels.specs.declared.labelling.Labelling.{Labelling}
use Rattle.lv_labels.specs.declared.labelling.Labelling.TheVariants.{Contradiction, Labels}
use Rattle.lv_labels.specs.Labels.{IsFound, IsRefutedBy, IsLabelling, labels_from}
use Rattle.lv_labels.specs.Claims.{Claims, IsClaiming, AreAssumed, AreJust, AreWithin, mark_of}
use Rattle.lv_labels.specs.Literals.{values_of, mode_variables, literals_of, state_literals}
use Rattle.lv_labels.specs.Modes.{are_values, modes_in}
use Rattle.lv_labels.proofs.ClaimLemmas.{claim_within}
use Rattle.lv_labels.specs.Assuming.{IsUnder, IsRead, IsToldUnder, IsClaim, AreTrue, is_on_trail}
use Rattle.lv_labels.proofs.ClosureLemmas.{closure_moved, refuted_moved, to_list, from_list}
use Rattle.lv_labels.proofs.CountLemmas.{marked_among, positive_marks}

pub true_found : (s : System) (l : Lit) → IsWholeTrail s → IsDerived s l → true ≡ trail_has s.trail l
true_found s l whole h = sym (whole.complete l h)

not_found : (s : System) (l : Lit) → IsWholeTrail s → (IsDerived s l → ⊥) → (b : Bool) → trail_has s.trail l ≡ b → false ≡ trail_has s.trail l
not_found s l whole never true e = absurd (never (derivation_sound whole.derivation l e))
not_found s l whole never false e = sym e

pub unknown_unfound : (s : System) (l : Lit) → IsWholeTrail s → (IsDerived s l → ⊥) → false ≡ trail_has s.trail l
unknown_unfound s l whole never = not_found s l whole never (trail_has s.trail l) refl

pub false_unfound : (s : System) (l : Lit) → (IsRefuted s → ⊥) → IsWholeTrail s → IsDerived s (neg l) → false ≡ trail_has s.trail l
false_unfound s l consistent whole h = unknown_unfound s l whole (λ d. consistent (both_signs l d h))

-- what is read off a system in which the claims and more literals are assumed is a labelling of them
module _ (plant : Plant) (literals lits : List Lit) (c : Claims) (s : System) (claiming : IsClaiming plant literals c) (clauses : s.clauses ≡ c.clauses) (assumed : AreAssumed c.counts s) where
  module _ (t : System) (under : IsUnder s lits t) where
    just : AreJust (model_clauses plant) t.clauses
    just = subst (λ (slots : Slots). AreJust (model_clauses plant) slots) (sym clauses ∙ sym under.clauses) claiming.clauses

    assumed_same : (m : Lit) → is_marked t.assumed m ≡ in_list (literals ++ lits) m
    assumed_same m =
        under.assumed m
        ∙ ap (λ (ms : Marks). is_marked ms m || in_list lits m) assumed.assumed
        ∙ ap (λ (b : Bool). b || in_list lits m) (marked_among c.counts literals claiming.counts claiming.positive m)
        ∙ sym (list_any-append (λ (k : Lit). same_lit k m) literals lits)

    found : (l : Lit) → IsDerived t l → IsFound plant (literals ++ lits) l
    found = closure_moved (to_list (model_clauses plant) t.clauses just) (λ l e. sym (assumed_same l) ∙ e)

    derived : (l : Lit) → IsFound plant (literals ++ lits) l → IsDerived t l
    derived = closure_moved (from_list (model_clauses plant) t.clauses just) (λ l e. assumed_same l ∙ e)

    refuted : IsRefuted t → IsRefutedBy plant (literals ++ lits)
    refuted = refuted_moved (to_list (model_clauses plant) t.clauses just) (λ l e. sym (assumed_same l) ∙ e)

    refutes : IsRefutedBy plant (literals ++ lits) → IsRefuted t
    refutes = refuted_moved (from_list (model_clauses plant) t.clauses just) (λ l e. assumed_same l ∙ e)

    labelling : (told : Labelling) → IsRead t c.values told → IsLabelling plant (literals ++ lits) told
    labelling Contradiction read = refuted read
    labelling (Labels labels) read =
        record {
          consistent = λ r. read.consistent (refutes r);
          has = trail_has t.trail;
          sound = λ l e. found l (derivation_sound read.whole.derivation l e);
          complete = λ l h. read.whole.complete l (derived l h);
          listed =
              subst (λ (vs : Values). labels ≡ filter (is_on_trail t.trail vs) (labels_from Now 0 vs.before.sizes ++ labels_from Next 0 vs.after.sizes)) claiming.values read.listed;
        }

  pub labelling_told : (told : Labelling) → IsToldUnder s lits c.values told → IsLabelling plant (literals ++ lits) told
  labelling_told told under = labelling under.system under.under told under.read

-- the literals of a state's modes
pub state_literals_are : (plant : Plant) (values : Values) (modes : List VarId) (state : Option State) → values ≡ values_of plant → modes ≡ mode_variables plant
    → literals_of values.before modes (modes_in state) ≡ state_literals plant state
state_literals_are plant values modes None e f = refl
state_literals_are plant values modes (Some state) e f =
    ap (λ (vs : Values). literals_of vs.before modes state.modes) e ∙ ap (λ (xs : List VarId). literals_of (booleans_now plant) xs state.modes) f

-- what is assumed for claims are true literals
pub assumed_true : (counts : List ℕ) (s : System) → AreAssumed counts s → AreTrue s
assumed_true counts s assumed =
    record {
      positive = λ l e. positive_marks counts l (ap (λ (ms : Marks). is_marked ms l) (sym assumed.assumed) ∙ e);
      whole = ap (λ (ms : Marks). length ms) assumed.assumed ∙ length-map counts mark_of ∙ sym assumed.bools;
    }

less : (n m : ℕ) → nat_lt n m ≡ true → n < m
less n m e = grind (arith, nat_tests)

-- the literals of values are claims
pub values_claims : (bools : ℕ) (b : Booleans) (xs : List VarId) (vs : List ValId) → AreWithin bools b → are_values b xs vs ≡ true → All (IsClaim bools) (literals_of b xs vs)
values_claims bools b xs [] within are = All-nil (IsClaim bools)
values_claims bools b [] (v ∷ vs) within are = All-nil (IsClaim bools)
values_claims bools b (x ∷ xs) (v ∷ vs) within are =
    All-cons (IsClaim bools) _ _
    (record { within = claim_within bools b x.0 v.0 within (less v.0 (size_of b x.0) (and_left (nat_lt v.0 (size_of b x.0)) (are_values b xs vs) are)); positive = refl })
    (values_claims bools b xs vs within (and_right (nat_lt v.0 (size_of b x.0)) (are_values b xs vs) are))
