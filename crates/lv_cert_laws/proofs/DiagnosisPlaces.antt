-- What holds at each place of a diagnosis behind its first line, and that lines keep it from the first listed candidate on.
use Rattle.std.proofs.Common.{◌≡◌, ℕ, ◌+◌, ◌<◌, true, nat_lt, List, [], length, Some, refl, sym, subst, ◌∙◌, ap, arith}
use Rattle.std.specs.Prelude.{map}
use Rattle.std.proofs.lemmas.Bool.{ltb-true}
use Rattle.std.proofs.lemmas.Option.{cond_some}
use Rattle.lv_cert_meaning.specs.lv_model.declared.plant.Plant.{Plant}
use Rattle.lv_cert_meaning.specs.lv_model.WellFormed.{is_well_formed}
use Rattle.lv_cert_meaning.specs.lv_meaning.Targets.{are_alike}
use Rattle.lv_cert_meaning.proofs.lv_meaning.Among.{Among}
use Rattle.lv_cert_meaning.specs.lv_boxes.Ranked.{rises}
use Rattle.lv_cert_meaning.specs.lv_search_zones.Moves.{move_slots, zones_from}
use Rattle.lv_cert_meaning.specs.lv_cert.declared.line.Question.TheVariants.{Diagnosis}
use Rattle.lv_cert_meaning.specs.lv_cert.declared.line.Head.TheVariants as head
use Rattle.lv_cert_meaning.specs.lv_cert.declared.line.Line.{Line}
use Rattle.lv_cert_meaning.specs.lv_cert.declared.line.Line.TheVariants as line
use Rattle.lv_cert_meaning.specs.lv_cert.declared.order.Listing.{Listing}
use Rattle.lv_cert_meaning.specs.lv_cert.declared.order.Witness.TheVariants as witness
use Rattle.lv_cert_meaning.specs.lv_cert.declared.order.Place.{Place}
use Rattle.lv_cert_meaning.specs.lv_cert.declared.order.Place.TheVariants as place
use Rattle.lv_cert_meaning.specs.lv_cert.Order.{has_pairs, splits, after_splits, after_blocks, after_first_clause, after_clauses, after_listing, after_now, after_next, place_behind}
use Rattle.lv_cert_meaning.specs.Stated.{Stated}
use Rattle.lv_cert_meaning.specs.Space.{Space}
use Rattle.lv_cert_meaning.specs.Judging.{Judged, judge_line, judge_lines, comes_to}
use Rattle.lv_cert_laws.proofs.Saying.{Says}
use Rattle.lv_cert_laws.proofs.Exclusion.{IsCovered, first_covers}
use Rattle.lv_cert_laws.proofs.Sound.{IsTold}
use Rattle.lv_cert_laws.proofs.Candidacy.{IsPossible, possible_in_zones}
use Rattle.lv_cert_laws.proofs.DiagnosisLines.{IsLate, Answers, split_late, clause_late, now_late, next_same, end_answers, conflict_late, listed_late}

-- before the first control: nothing is listed, excluded or said
pub record IsBlank (plant : Plant) (j : Judged) : Type 0 where
  pub listed : j.listed ≡ []
  pub excluded : j.excluded ≡ []
  pub literals : j.stated.literals ≡ []
  pub slots : j.space.slots ≡ move_slots plant

pub record IsStarted (plant : Plant) (k : ℕ) (j : Judged) : Type 0 where
  pub blank : IsBlank plant j
  pub limit : j.stated.k ≡ k

-- behind the controls: the zones are those of the states
pub record IsFaced (plant : Plant) (k : ℕ) (j : Judged) : Type 0 where
  pub limit : j.stated.k ≡ k
  pub listed : j.listed ≡ []
  pub excluded : j.excluded ≡ []
  pub space : j.space ≡ record { slots = move_slots plant; zones = map Some (zones_from plant 0 j.stated.tracked) }
  pub says : Says plant j.stated

-- so many are listed as the place says
pub record IsCounted (plant : Plant) (l : Listing) (j : Judged) : Type 0 where
  pub late : IsLate plant j
  pub most : l.most ≡ j.stated.k
  pub listed : l.listed ≡ length j.listed

abbrev pub Holds : Plant → Place → Judged → Type 0
Holds plant (place.Named Diagnosis) j = IsBlank plant j
Holds plant place.Asked j = IsBlank plant j
Holds plant (place.States k n) j = IsStarted plant k j
Holds plant (place.Facts k n) j = IsFaced plant k j
Holds plant (place.Listings l) j = IsCounted plant l j
Holds plant (place.Now (witness.OfListed l)) j = IsCounted plant l j
Holds plant (place.Next (witness.OfListed l)) j = IsCounted plant l j
Holds plant (place.Clauses Diagnosis) j = IsLate plant j
Holds plant (place.MoreClauses Diagnosis) j = IsLate plant j
Holds plant (place.Blocks Diagnosis) j = IsLate plant j
Holds plant (place.Splits Diagnosis) j = IsLate plant j
Holds plant place.Done j = Answers plant j
Holds plant p j = ⊥

-- the facts are stated, and candidates are to be listed
pub faced_late : (plant : Plant) (k : ℕ) (j : Judged) → IsFaced plant k j → IsLate plant j
faced_late plant k j faced =
    record {
      stated = j.stated;
      says = faced.says;
      sound = record {
        stated_is = refl;
        slots_are = ap (λ (s : Space). s.slots) faced.space;
        few = let none = ap length faced.listed in omega (arith, none);
        rising = ap rises faced.listed;
        firsts = record { apart = λ q r a. absurd (subst (λ rs. Among q rs) faced.listed a) };
        shown = λ r a. absurd (subst (λ rs. Among r rs) faced.listed a);
        barred = λ pairs a. absurd (subst (λ cs. Among pairs cs) faced.excluded a);
        covered = subst (IsCovered (IsPossible plant j.stated) (IsTold (are_alike j.stated.distinct plant) j.listed)) (sym faced.space)
            (first_covers (IsPossible plant j.stated) (IsTold (are_alike j.stated.distinct plant) j.listed) (move_slots plant) (zones_from plant 0 j.stated.tracked) (possible_in_zones plant j.stated));
      };
    }

module _ (plant : Plant) (h : is_well_formed plant ≡ true) (n : ℕ) (final : Judged) (rest : List Line) where
  -- from the blocks on
  pub splits_step : (l : Line) (q : Place) (j k : Judged) → after_splits Diagnosis l ≡ Some q → judge_line Diagnosis plant j rest l ≡ Some k → IsLate plant j → Holds plant q k
  splits_step (line.Split zone by) q j k order judged late =
      subst (λ (p : Place). Holds plant p k) (cond_some (splits Diagnosis by) (place.Splits Diagnosis) q order).1 (split_late plant h j k zone by judged late)
  splits_step line.End q j k order judged late = let same : place.Done ≡ q = cc order in subst (λ (p : Place). Holds plant p k) same (end_answers plant h j k judged late)
  splits_step l q j k order judged late = absurd (cc order)

  pub blocks_step : (l : Line) (q : Place) (j k : Judged) → after_blocks Diagnosis l ≡ Some q → judge_line Diagnosis plant j rest l ≡ Some k → judge_lines Diagnosis plant n k rest ≡ comes_to final → IsLate plant j → Holds plant q k
  blocks_step (line.Split zone by) q j k order judged later late = splits_step (line.Split zone by) q j k order judged late
  blocks_step line.End q j k order judged later late = splits_step line.End q j k order judged late
  blocks_step (line.Numbers head.Conflict ns) q j k order judged later late =
      subst (λ (p : Place). Holds plant p k) (cond_some (has_pairs Diagnosis (length ns)) (place.Clauses Diagnosis) q order).1 (conflict_late plant h n j k final ns rest judged later late)
  blocks_step l q j k order judged later late = absurd (cc order)

  pub first_clause_step : (l : Line) (q : Place) (j k : Judged) → after_first_clause Diagnosis l ≡ Some q → judge_line Diagnosis plant j rest l ≡ Some k → IsLate plant j → Holds plant q k
  first_clause_step (line.Clause ls hs) q j k order judged late = let same : place.MoreClauses Diagnosis ≡ q = cc order in subst (λ (p : Place). Holds plant p k) same (clause_late plant h j k ls hs judged late)
  first_clause_step l q j k order judged late = absurd (cc order)

  pub clauses_step : (l : Line) (q : Place) (j k : Judged) → after_clauses Diagnosis l ≡ Some q → judge_line Diagnosis plant j rest l ≡ Some k → judge_lines Diagnosis plant n k rest ≡ comes_to final → IsLate plant j → Holds plant q k
  clauses_step (line.Clause ls hs) q j k order judged later late = first_clause_step (line.Clause ls hs) q j k order judged late
  clauses_step (line.Split zone by) q j k order judged later late = blocks_step (line.Split zone by) q j k order judged later late
  clauses_step (line.Numbers head ns) q j k order judged later late = blocks_step (line.Numbers head ns) q j k order judged later late
  clauses_step line.End q j k order judged later late = blocks_step line.End q j k order judged later late
  clauses_step l q j k order judged later late = absurd (cc order)

  -- among the listed candidates
  pub listing_step : (l : Line) (listing : Listing) (q : Place) (j k : Judged) → after_listing listing l ≡ Some q → place_behind q rest ≡ Some place.Done → judge_line Diagnosis plant j rest l ≡ Some k
      → judge_lines Diagnosis plant n k rest ≡ comes_to final → IsCounted plant listing j → Holds plant q k
  listing_step (line.Split zone by) listing q j k order behind judged later c = blocks_step (line.Split zone by) q j k order judged later c.late
  listing_step line.End listing q j k order behind judged later c = blocks_step line.End q j k order judged later c.late
  listing_step (line.Numbers head.Listed ns) listing q j k order behind judged later c =
      let next : Listing = record { most = listing.most; listed = listing.listed + 1 } in
      let both = cond_some (nat_lt listing.listed listing.most) (place.Now (witness.OfListed next)) q order in
      let room : listing.listed < listing.most = ltb-true listing.listed listing.most both.0 in
      let most = c.most in
      let listed = c.listed in
      let told = listed_late plant h (witness.OfListed next) n j k final ns rest judged (subst (λ (p : Place). place_behind p rest ≡ Some place.Done) (sym both.1) behind) later (omega (arith, room, most, listed)) c.late in
      let long = told.2 in
      subst (λ (p : Place). Holds plant p k) both.1
      (record { late = told.0; most = c.most ∙ sym (ap (λ (s : Stated). s.k) told.1); listed = omega (arith, listed, long) })
  listing_step (line.Numbers head.Conflict ns) listing q j k order behind judged later c = blocks_step (line.Numbers head.Conflict ns) q j k order judged later c.late
  listing_step l listing q j k order behind judged later c = absurd (cc order)

  pub now_step : (l : Line) (listing : Listing) (q : Place) (j k : Judged) → after_now (witness.OfListed listing) l ≡ Some q → judge_line Diagnosis plant j rest l ≡ Some k → IsCounted plant listing j
      → Holds plant q k
  now_step (line.Numbers head.Now ns) listing q j k order judged c =
      let same : place.Next (witness.OfListed listing) ≡ q = cc order in
      let told = now_late plant h j k ns judged c.late in
      subst (λ (p : Place). Holds plant p k) same
      (record { late = told.0; most = c.most ∙ sym (ap (λ (s : Stated). s.k) told.1); listed = c.listed ∙ sym (ap length told.2) })
  now_step l listing q j k order judged c = absurd (cc order)

  pub next_step : (l : Line) (listing : Listing) (q : Place) (j k : Judged) → after_next (witness.OfListed listing) l ≡ Some q → judge_line Diagnosis plant j rest l ≡ Some k → IsCounted plant listing j
      → Holds plant q k
  next_step (line.Numbers head.Next ns) listing q j k order judged c =
      let same : place.Listings listing ≡ q = cc order in
      subst (λ (p : Place). Holds plant p k) same (subst (IsCounted plant listing) (next_same plant h j k ns judged) c)
  next_step l listing q j k order judged c = absurd (cc order)
