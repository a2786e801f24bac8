-- What is listed at the end of a diagnosis is its answer: the first candidates that are possible and alike no possible one before them.
use Rattle.std.proofs.Common.{◌≡◌, ℕ, ◌<◌, ◌≤◌, Bool, true, false, List, [], ◌∷◌, ◌⊎◌, inl, inr, ⊎_elim, length, take, filter, refl, sym, ◌∙◌, ap}
use Rattle.lv_cert_meaning.specs.lv_base.declared.rank.Rank.{Rank}
use Rattle.lv_cert_meaning.specs.lv_base.Rank.{rank_key, ranks_before}
use Rattle.lv_cert_meaning.proofs.lv_base.OrderLemmas.{transitive}
use Rattle.lv_cert_meaning.specs.lv_model.declared.plant.Plant.{Plant}
use Rattle.lv_cert_meaning.specs.lv_boxes.Ranked.{rises}
use Rattle.lv_cert_meaning.specs.lv_boxes.Walk.{first_of_each}
use Rattle.lv_cert_meaning.proofs.lv_boxes.RankedLemmas.{not_both_before}
use Rattle.lv_cert_meaning.proofs.lv_boxes.WalkLemmas.{each_is_first}
use Rattle.lv_cert_meaning.specs.lv_meaning.Candidates.{candidates, is_possible_rank}
use Rattle.lv_cert_meaning.specs.lv_meaning.Targets.{are_alike, answer}
use Rattle.lv_cert_meaning.proofs.lv_meaning.Among.{Among, among, contained, all_among}
use Rattle.lv_cert_meaning.proofs.lv_meaning.Answering.{among_passing, among_filtered, all_pass, rise_filtered}
use Rattle.lv_cert_meaning.proofs.lv_meaning.Listing.{is_listed, is_candidate}
use Rattle.lv_cert_meaning.proofs.lv_meaning.OneAnswer.{IsFirst, first_is}
use Rattle.lv_cert_meaning.proofs.lv_meaning.Rising.{candidates_rise_law}
use Rattle.lv_cert_meaning.proofs.lv_meaning.TargetLemmas.{alike_join}
use Rattle.lv_cert_meaning.specs.Stated.{Stated}
use Rattle.lv_cert_laws.proofs.Sound.{IsSecond, IsTold, AreFirst, IsBehindAll}
use Rattle.lv_cert_laws.proofs.Distinct.{each_among, each_rises, each_keeps, each_apart}
use Rattle.lv_cert_laws.proofs.Candidacy.{IsPossible}

module _ (plant : Plant) (s : Stated) (listed : List Rank) where
  abbrev alike : Rank → Rank → Bool
  alike = are_alike s.distinct plant

  abbrev all : List Rank
  all = candidates plant s.tracked

  abbrev possible : List Rank
  possible = filter (is_possible_rank plant s.facts) all

  possible_rise : rises possible ≡ true
  possible_rise = rise_filtered (is_possible_rank plant s.facts) all (candidates_rise_law plant s.tracked)

  sought : (r : Rank) → Among r possible → IsPossible plant s r
  sought r a =
      record {
        candidate = is_candidate plant s.tracked r (contained all r (among_filtered (is_possible_rank plant s.facts) all r a));
        possible = all_among (is_possible_rank plant s.facts) possible r (all_pass (is_possible_rank plant s.facts) all) a;
      }

  there : (r : Rank) → IsPossible plant s r → Among r possible
  there r is = among_passing (is_possible_rank plant s.facts) all r (among all r (is_listed plant s.tracked r is.candidate)) is.possible

  module _ (few : length listed ≤ s.k) (rising : rises listed ≡ true) (firsts : AreFirst alike listed) (shown : (r : Rank) → Among r listed → IsPossible plant s r)
      (each : (r : Rank) → IsPossible plant s r → IsTold alike listed r ⊎ IsBehindAll listed r) (none_left_out : length listed < s.k → (r : Rank) → IsPossible plant s r → IsTold alike listed r) where
    -- a listed one is alike no possible one before it
    listed_apart : (r : Rank) → Among r listed → (q : Rank) → Among q possible → ranks_before q r ≡ true → alike r q ≡ false
    listed_apart r a q b front = by (alike r q) refl
      where
        told : IsTold alike listed q ⊎ IsBehindAll listed q → alike r q ≡ true → ⊥
        told (inl (inl c)) like = cc (sym like ∙ firsts.apart q r c a front)
        told (inl (inr second)) like =
            let far : alike r second.first ≡ true = alike_join s.distinct plant r q second.first like second.like in
            cc (sym far ∙ firsts.apart second.first r second.among a (transitive (rank_key second.first) (rank_key q) (rank_key r) second.before front))
        told (inr behind) like = not_both_before q r front (behind.after r a)

        by : (b : Bool) → alike r q ≡ b → alike r q ≡ false
        by true e = absurd (told (each q (sought q b)) e)
        by false e = e

    -- and one that is alike no possible one before it is listed, where it is told
    told_listed : (r : Rank) → Among r (first_of_each alike possible) → IsTold alike listed r → Among r listed
    told_listed r a (inl b) = b
    told_listed r a (inr second) =
        let never : alike r second.first ≡ false = each_apart alike possible r possible_rise a second.first (there second.first (shown second.first second.among)) second.before in
        absurd (cc (sym second.like ∙ never))

    first : IsFirst s.k (first_of_each alike possible) listed
    first = record {
      few = few;
      rising = rising;
      members = λ r a. each_keeps alike possible r possible_rise (there r (shown r a)) (listed_apart r a);
      others_after = λ r other a b left.
          ⊎_elim (λ told. absurd (left (told_listed other b told))) (λ behind. behind.after r a) (each other (sought other (each_among alike possible other b)));
      none_left_out = λ fewer r a. told_listed r a (none_left_out fewer r (sought r (each_among alike possible r a)));
    }

    answered : (d : Bool) → take s.k (first_of_each (are_alike d plant) possible) ≡ answer d s.k plant s.facts s.tracked
    answered true = refl
    answered false = ap (take s.k) (each_is_first [] possible)

    pub final_answers : listed ≡ answer s.distinct s.k plant s.facts s.tracked
    final_answers = first_is s.k (first_of_each alike possible) listed (each_rises alike possible possible_rise) first ∙ answered s.distinct
