-- One claim more, or one less: what is assumed for claims, and what is claimed.
use Rattle.std.proofs.Common.{◌≡◌, ◌≢◌, ℕ, zero, suc, ◌+◌, ◌-◌, ◌<◌, ◌^◌, Bool, true, false, nat_eq, List, [], ◌∷◌, length, count_by, get_or, set, None, Some, if◌then◌else◌, refl, sym, subst, ap, ap₂, ◌∙◌, arith}
use Rattle.std.specs.List.{list_all}
use Rattle.std.proofs.Math.Seq.{map-set_same}
use Rattle.std.proofs.lemmas.List.{map-set, length-set, get_or-set_same, get_or-set_other}
use Rattle.std.proofs.lemmas.List.Sums.{count_by-le-length}
use Rattle.std.proofs.lemmas.Bool.Decides.{nat_tests}
use Rattle.lv_base.specs.declared.ids.Lit.{Lit}
use Rattle.lv_clauses.specs.Marks.{Marks, marked}
use Rattle.lv_clauses.specs.Noted.{is_of}
use Rattle.lv_clauses.proofs.LiteralLemmas.{and_right, and_both}
use Rattle.lv_ltms.specs.System.{System}
use Rattle.lv_ltms.proofs.CountLemmas.{count_yes, count_no}
use Rattle.lv_model.specs.declared.plant.Plant.{Plant}
use Rattle.lv_compile.specs.Booleans.{Booleans, value_bool}
use Rattle.lv_compile.specs.FormulaClauses.{size_of}
use Rattle.lv_compile.specs.ModelClauses.{model_clauses}
use Rattle.lv_compile.proofs.BooleanLemmas.{is_there, among_all}
use Rattle.lv_reply.specs.declared.labels.Moment.{Moment}
use Rattle.lv_reply.specs.declared.labels.Moment.TheVariants.{Now, Next}
use Rattle.lv_labels.specs.declared.values.Values.{Values}
use Rattle.lv_labels.specs.Values.{booleans_at, literal_at}
use Rattle.lv_labels.specs.Claims.{Claims, IsClaiming, AreAssumed, AreJust, AreWithin, count_at, mark_of, is_positive}
use Rattle.lv_labels.proofs.CountLemmas.{mark_more}

module _ (counts : List ℕ) (s : System) where
  pub first_claim : (t : System) (l : Lit) → l.sign ≡ true → AreAssumed counts s → t.bools ≡ s.bools → t.assumed ≡ marked s.assumed l → AreAssumed (set counts l.var.0 1) t
  first_claim t l sign assumed bools changed =
      record {
        bools = bools ∙ assumed.bools ∙ sym (length-set counts l.var.0 1);
        assumed =
            changed
            ∙ ap₂ (λ (ms : Marks) (b : Bool). set ms l.var.0 (Some b)) assumed.assumed sign
            ∙ sym (map-set mark_of counts l.var.0 1);
      }

  pub last_claim : (t : System) (l : Lit) → AreAssumed counts s → t.bools ≡ s.bools → t.assumed ≡ set s.assumed l.var.0 None → AreAssumed (set counts l.var.0 0) t
  last_claim t l assumed bools changed =
      record {
        bools = bools ∙ assumed.bools ∙ sym (length-set counts l.var.0 0);
        assumed = changed ∙ ap (λ (ms : Marks). set ms l.var.0 None) assumed.assumed ∙ sym (map-set mark_of counts l.var.0 0);
      }

  same_mark : (n y : ℕ) → AreAssumed counts s → mark_of y ≡ mark_of (count_at counts n) → AreAssumed (set counts n y) s
  same_mark n y assumed same =
      record {
        bools = assumed.bools ∙ sym (length-set counts n y);
        assumed = assumed.assumed ∙ sym (map-set_same mark_of counts n y 0 same);
      }

  -- a boolean that stays claimed
  pub more_claims : (n y : ℕ) → AreAssumed counts s → 0 < count_at counts n → 0 < y → AreAssumed (set counts n y) s
  more_claims n y assumed was is = same_mark n y assumed (mark_more y is ∙ sym (mark_more (count_at counts n) was))

  -- and one that stays unclaimed
  pub no_claim : (n y : ℕ) → AreAssumed counts s → count_at counts n ≡ 0 → y ≡ 0 → AreAssumed (set counts n y) s
  no_claim n y assumed was is = same_mark n y assumed (ap mark_of (is ∙ sym was))

-- what was read at a place is the count there
pub count_is : (counts : List ℕ) (i n : ℕ) → i < length counts → n ≡ get_or counts i n → count_at counts i ≡ n
count_is [] i n within e = absurd (omega (arith, within))
count_is (x ∷ xs) zero n within e = sym e
count_is (x ∷ xs) (suc i) n within e = count_is xs i n (omega (arith, within)) e

-- a variable's value has its boolean among all
pub claim_within : (bools : ℕ) (b : Booleans) (x v : ℕ) → AreWithin bools b → v < size_of b x → value_bool b x v < bools
claim_within bools b x v within has =
    let among = among_all b.sizes x (is_there b.sizes x v has) in
    let fits = within.within in
    omega (arith, among, fits, has)

pub literal_within : (bools : ℕ) (values : Values) (moment : Moment) (x v : ℕ) → AreWithin bools values.before → AreWithin bools values.after → v < size_of (booleans_at values moment) x
    → (literal_at values moment x v).var.0 < bools
literal_within bools values Now x v before after has = claim_within bools values.before x v before has
literal_within bools values Next x v before after has = claim_within bools values.after x v after has

module _ (plant : Plant) (literals : List Lit) (l : Lit) where
  count_more : (b : ℕ) → (same : Bool) → nat_eq l.var.0 b ≡ same → count_by (is_of b) (l ∷ literals) ≡ (if same then 1 else 0) + count_by (is_of b) literals
  count_more b true e = count_yes (is_of b) l literals e
  count_more b false e = count_no (is_of b) l literals e ∙ omega arith

  -- one claim more
  pub claims_more : (old new : Claims) → new.clauses ≡ old.clauses → new.values ≡ old.values → new.modes ≡ old.modes → l.sign ≡ true → l.var.0 < length old.counts → length literals < 2 ^ 32 - 1
      → (count_at old.counts l.var.0 < 2 ^ 32 - 1 → new.counts ≡ set old.counts l.var.0 (count_at old.counts l.var.0 + 1)) → IsClaiming plant literals old → IsClaiming plant (l ∷ literals) new
  claims_more old new clauses values modes sign within few changed claiming =
      record {
        clauses = subst (λ s. AreJust (model_clauses plant) s) (sym clauses) claiming.clauses;
        values = values ∙ claiming.values;
        modes = modes ∙ claiming.modes;
        counts = λ b. by_boolean b (nat_eq l.var.0 b) refl;
        positive = and_both l.sign (list_all is_positive literals) sign claiming.positive;
      }
    where
      becomes : new.counts ≡ set old.counts l.var.0 (count_at old.counts l.var.0 + 1)
      becomes = changed (omega (arith, few, claiming.counts l.var.0, count_by-le-length (is_of l.var.0) literals))

      by_boolean : (b : ℕ) (same : Bool) → nat_eq l.var.0 b ≡ same → count_at new.counts b ≡ count_by (is_of b) (l ∷ literals)
      by_boolean b true e =
          let here : b ≡ l.var.0 = grind (arith, nat_tests) in
          ap (λ (cs : List ℕ). count_at cs b) becomes
          ∙ ap (λ (n : ℕ). get_or (set old.counts l.var.0 (count_at old.counts l.var.0 + 1)) n 0) here
          ∙ get_or-set_same old.counts l.var.0 (count_at old.counts l.var.0 + 1) 0 within
          ∙ omega (arith, claiming.counts l.var.0, count_more l.var.0 true (ap (nat_eq l.var.0) (sym here) ∙ e))
          ∙ ap (λ (n : ℕ). count_by (is_of n) (l ∷ literals)) (sym here)
      by_boolean b false e =
          let differs : b ≢ l.var.0 = λ (same : b ≡ l.var.0). let f : nat_eq l.var.0 b ≡ true = grind (arith, nat_tests) in cc (e, f) in
          ap (λ (cs : List ℕ). count_at cs b) becomes
          ∙ get_or-set_other old.counts l.var.0 b (count_at old.counts l.var.0 + 1) 0 differs
          ∙ omega (arith, claiming.counts b, count_more b false e)

  -- one claim less
  pub claims_less : (old new : Claims) → new.clauses ≡ old.clauses → new.values ≡ old.values → new.modes ≡ old.modes → l.var.0 < length old.counts
      → new.counts ≡ set old.counts l.var.0 (count_at old.counts l.var.0 - 1) → IsClaiming plant (l ∷ literals) old → IsClaiming plant literals new
  claims_less old new clauses values modes within changed claiming =
      record {
        clauses = subst (λ s. AreJust (model_clauses plant) s) (sym clauses) claiming.clauses;
        values = values ∙ claiming.values;
        modes = modes ∙ claiming.modes;
        counts = λ b. by_boolean b (nat_eq l.var.0 b) refl;
        positive = and_right l.sign (list_all is_positive literals) claiming.positive;
      }
    where
      by_boolean : (b : ℕ) (same : Bool) → nat_eq l.var.0 b ≡ same → count_at new.counts b ≡ count_by (is_of b) literals
      by_boolean b true e =
          let here : b ≡ l.var.0 = grind (arith, nat_tests) in
          ap (λ (cs : List ℕ). count_at cs b) changed
          ∙ ap (λ (n : ℕ). get_or (set old.counts l.var.0 (count_at old.counts l.var.0 - 1)) n 0) here
          ∙ get_or-set_same old.counts l.var.0 (count_at old.counts l.var.0 - 1) 0 within
          ∙ omega (arith, claiming.counts l.var.0, count_more l.var.0 true (ap (nat_eq l.var.0) (sym here) ∙ e))
          ∙ ap (λ (n : ℕ). count_by (is_of n) literals) (sym here)
      by_boolean b false e =
          let differs : b ≢ l.var.0 = λ (same : b ≡ l.var.0). let f : nat_eq l.var.0 b ≡ true = grind (arith, nat_tests) in cc (e, f) in
          ap (λ (cs : List ℕ). count_at cs b) changed
          ∙ get_or-set_other old.counts l.var.0 b (count_at old.counts l.var.0 - 1) 0 differs
          ∙ omega (arith, claiming.counts b, count_more b false e)
