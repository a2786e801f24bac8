-- Zones closed one after the other: those behind are passed, those ahead have none but explained members and weigh less at each turn.
use Rattle.std.proofs.Common.{◌≡◌, ℕ, ◌+◌, ◌-◌, ◌<◌, ◌≤◌, Bool, true, false, ◌&&◌, List, [], ◌∷◌, ◌++◌, ⊎_elim, length, map, take, drop, set, get_or, Option, Some, None, option_map, refl, sym, ◌∙◌, ap, subst, cond, arith}
use Rattle.std.specs.Option.{option_and_then, option_map_or}
use Rattle.std.specs.List.{list_all, list_any}
use Rattle.std.proofs.Math.ListN.{length-set}
use Rattle.std.proofs.lemmas.Bool.{and_from, or_cases, or_left, or_right}
use Rattle.std.proofs.lemmas.List.{take_all, drop_more, take_more, take_more_set, take-append-le, drop-append-le, drop-set-lt}
use Rattle.std.proofs.lemmas.List.Folds.{list_all-append, list_any-append}
use Rattle.lv_base.specs.declared.ids.Cost.{Cost}
use Rattle.lv_base.specs.declared.rank.Rank.{Rank}
use Rattle.lv_base.specs.declared.search.Pair.{Pair}
use Rattle.lv_boxes.specs.Members.{ZoneValue}
use Rattle.lv_model.specs.declared.plant.Plant.{Plant}
use Rattle.lv_cert.specs.declared.line.Question.{Question}
use Rattle.lv_cert.specs.declared.line.Evidence.{Evidence}
use Rattle.lv_cert.specs.Order.{splits}
use Rattle.lv_cert_meaning.specs.Space.{Space, same_zone, open_zone, with_parts, least_rank, is_behind, is_passed}
use Rattle.lv_cert_meaning.specs.Judging.{Judged, split_parts, judge_split}
use Rattle.lv_cert_writing.specs.Explained.{is_explained, AreExplained}
use Rattle.lv_cert_writing.specs.Closing.{can_be_listed, Cut, cut_before, cut_at, after_cut, judge_splits, AreForQuestion, MayHaveTargets, Closes}
use Rattle.lv_cert_writing.specs.declared.closing.Split.{Split}
use Rattle.lv_cert_writing.proofs.CountLemmas.{weights, rest_weighs_less}
use Rattle.lv_cert_writing.proofs.CutLemmas.{total_length, item_of_number, IsCut, cut_told, uncut_told}
use Rattle.lv_cert_writing.proofs.LeastLemmas.{IsLeastOf, least_told, ranks_in_open, among_open}

-- one item written over, and more behind: up to it, and from it on
module _ {X : Type 0} (xs more : List X) (at : ℕ) (y : X) (within : at < length xs) where
  abbrev pub changed : List X
  changed = set xs (at + 1 - 1) y ++ more

  place : at + 1 - 1 ≡ at
  place = omega arith

  long : at + 1 ≤ length (set xs (at + 1 - 1) y)
  long = let same = length-set xs (at + 1 - 1) y in omega (arith, same, within)

  pub take_changed : take (at + 1) changed ≡ take at xs ++ y ∷ []
  take_changed = take-append-le (at + 1) (set xs (at + 1 - 1) y) more long ∙ ap (λ n. take (at + 1) (set xs n y)) place ∙ take_more_set xs at y within

  pub drop_changed : drop (at + 1) changed ≡ drop (at + 1) xs ++ more
  drop_changed = drop-append-le (at + 1) (set xs (at + 1 - 1) y) more long ∙ ap (λ zs. zs ++ more) (drop-set-lt (at + 1) xs (at + 1 - 1) y (omega arith))

-- splits, and one more
judged_more : (plant : Plant) (j : Judged) (made : List Split) (s : Split) → judge_splits plant j (made ++ s ∷ []) ≡ option_and_then (λ (k : Judged). judge_split plant k s.zone s.by) (judge_splits plant j made)
judged_more plant j [] s = alone (judge_split plant j s.zone s.by)
  where
    alone : (o : Option Judged) → option_and_then (λ (k : Judged). Some k) o ≡ o
    alone None = refl
    alone (Some k) = refl
judged_more plant j (t ∷ ts) s = by (judge_split plant j t.zone t.by) (λ k. judged_more plant k ts s)
  where
    by : (o : Option Judged) → ((k : Judged) → judge_splits plant k (ts ++ s ∷ []) ≡ option_and_then (λ (m : Judged). judge_split plant m s.zone s.by) (judge_splits plant k ts))
        → option_and_then (λ k. judge_splits plant k (ts ++ s ∷ [])) o ≡ option_and_then (λ (k : Judged). judge_split plant k s.zone s.by) (option_and_then (λ k. judge_splits plant k ts) o)
    by None later = refl
    by (Some k) later = later k

-- what the zones from a place on weigh
abbrev pub weight_left : List (List Cost) → List (List Pair) → ℕ → Space → ℕ
weight_left slots excluded at space = weights slots (length slots + total_length excluded) (drop at space.zones)

module _ (groups : Option (List (List ℕ))) (question : Question) (slots : List (List Cost)) (zones : List ZoneValue) (last : Option Rank) (listed : List Rank) (excluded : List (List Pair)) where
  abbrev start : Space
  start = record { slots = slots; zones = map Some zones }

  -- the zones before a place are passed, and members of those from it on are explained
  pub record Stands (at : ℕ) (space : Space) (made : List Split) : Type 0 where
    pub slots_are : space.slots ≡ slots
    pub passed : list_all (is_passed slots last) (take at space.zones) ≡ true
    pub explained : (r : Rank) → list_any (ranks_in_open slots r) (drop at space.zones) ≡ true → is_explained groups last listed excluded r ≡ true
    pub judged : (plant : Plant) (j : Judged) → MayHaveTargets plant j.stated.distinct groups → j.space ≡ start → j.listed ≡ listed → j.excluded ≡ excluded → judge_splits plant j made ≡ Some (record j { space = space })
    pub fitting : list_all (λ (s : Split). splits question s.by) made ≡ true

  stands_first : AreExplained groups slots zones last listed excluded → Stands 0 start []
  stands_first explained =
      record {
        slots_are = refl;
        passed = refl;
        explained = λ r h. explained.each r (sym (among_open slots r zones) ∙ h);
        judged = λ plant j may is _ _. ap (λ (s : Space). Some (record j { space = s })) is;
        fitting = refl;
      }

  pub stands_at_start : (space : Space) (made : List Split) → space ≡ record { slots = slots; zones = map Some zones } → made ≡ [] → AreExplained groups slots zones last listed excluded → Stands 0 space made
  stands_at_start space made is none explained = subst (λ (s : Space). Stands 0 s made) (sym is) (subst (λ ss. Stands 0 start ss) (sym none) (stands_first explained))

  pub closed_all : (at : ℕ) (space : Space) (made : List Split) → length space.zones ≤ at → Stands at space made → Closes groups question slots zones last listed excluded made
  closed_all at space made past stands =
      record {
        space = space;
        judged = stands.judged;
        passed = ap (list_all (is_passed space.slots last)) (sym (take_all at space.zones past))
            ∙ ap (λ (costs : List (List Cost)). list_all (is_passed costs last) (take at space.zones)) stands.slots_are
            ∙ stands.passed;
        fitting = stands.fitting;
      }

  -- the zone of a number is open, and its least member is in the cut
  record IsFound (at : ℕ) (space : Space) (cut : Cut) : Type 0 where
    zone : ZoneValue
    rank : Rank
    is_open : open_zone space (at + 1) ≡ Some zone
    item : get_or space.zones at None ≡ Some zone
    least : IsLeastOf slots zone rank
    cuts : IsCut groups question slots listed excluded zone cut

  module _ (at : ℕ) (space : Space) (made : List Split) (stands : Stands at space made) (within : at < length space.zones) where
    abbrev item : Option ZoneValue
    item = get_or space.zones at None

    opened : open_zone space (at + 1) ≡ item
    opened = ap (option_and_then same_zone) (item_of_number space.zones at None within)

    ahead : drop at space.zones ≡ item ∷ drop (at + 1) space.zones
    ahead = drop_more space.zones at None within

    item_explained : (r : Rank) → ranks_in_open slots r item ≡ true → is_explained groups last listed excluded r ≡ true
    item_explained r ranks =
        stands.explained r (ap (list_any (ranks_in_open slots r)) ahead ∙ or_left (ranks_in_open slots r item) (list_any (ranks_in_open slots r) (drop (at + 1) space.zones)) ranks)

    rest_explained : (r : Rank) → list_any (ranks_in_open slots r) (drop (at + 1) space.zones) ≡ true → is_explained groups last listed excluded r ≡ true
    rest_explained r ranks =
        stands.explained r (ap (list_any (ranks_in_open slots r)) ahead ∙ or_right (ranks_in_open slots r item) (list_any (ranks_in_open slots r) (drop (at + 1) space.zones)) ranks)

    abbrev passes : Option ZoneValue → Bool
    passes = is_passed slots last

    one_more_passed : (z : Option ZoneValue) → passes z ≡ true → list_all passes (take at space.zones ++ z ∷ []) ≡ true
    one_more_passed z passed =
        list_all-append passes (take at space.zones) (z ∷ []) ∙ and_from (list_all passes (take at space.zones)) (passes z && true) stands.passed (and_from (passes z) true passed refl)

    cut_in : (z : Option ZoneValue) → item ≡ z → cut_at groups question last listed excluded space (at + 1) ≡ option_and_then (cut_before groups question last listed excluded) (option_and_then (least_rank slots) z)
    cut_in z is = λ i. option_and_then (cut_before groups question last listed excluded) (option_and_then (least_rank (stands.slots_are i)) ((opened ∙ is) i))

    item_passed : cut_at groups question last listed excluded space (at + 1) ≡ None → passes item ≡ true
    item_passed none = by item refl
      where
        by_rank : (zone : ZoneValue) → item ≡ Some zone → (o : Option Rank) → least_rank slots zone ≡ o → option_and_then (cut_before groups question last listed excluded) o ≡ None → option_map_or (is_behind last) o true ≡ true
        by_rank zone is None e uncut = refl
        by_rank zone is (Some r) e uncut =
            uncut_told question slots listed excluded groups last r (item_explained r (ap (ranks_in_open slots r) is ∙ (least_told slots zone r e).ranks)) uncut

        by : (z : Option ZoneValue) → item ≡ z → passes z ≡ true
        by None is = refl
        by (Some zone) is = by_rank zone is (least_rank slots zone) refl (sym (cut_in (Some zone) is) ∙ none)

    -- a zone is passed
    pub stands_left : cut_at groups question last listed excluded space (at + 1) ≡ None → Stands (at + 1) space made
    stands_left none =
        record {
          slots_are = stands.slots_are;
          passed = ap (list_all passes) (take_more space.zones at None within) ∙ one_more_passed item (item_passed none);
          explained = rest_explained;
          judged = stands.judged;
          fitting = stands.fitting;
        }

    pub left_weighs_less : weight_left slots excluded (at + 1) space < weight_left slots excluded at space
    left_weighs_less =
        subst (λ zs. weight_left slots excluded (at + 1) space < weights slots (length slots + total_length excluded) zs) (sym ahead)
        (rest_weighs_less slots (length slots + total_length excluded) item (drop (at + 1) space.zones))

    module _ (asks : AreForQuestion groups question) (can : can_be_listed question (length listed) ≡ true) (cut : Cut) (is : cut_at groups question last listed excluded space (at + 1) ≡ Some cut) where
      found : IsFound at space cut
      found = by item refl (sym (cut_in item refl) ∙ is)
        where
          by_behind : (b : Bool) (o : Option Cut) → cond b None o ≡ Some cut → o ≡ Some cut
          by_behind true o e = absurd (cc e)
          by_behind false o e = e

          by_rank : (zone : ZoneValue) → item ≡ Some zone → (o : Option Rank) → least_rank slots zone ≡ o → option_and_then (cut_before groups question last listed excluded) o ≡ Some cut → IsFound at space cut
          by_rank zone same None e cuts = absurd (cc cuts)
          by_rank zone same (Some r) e cuts =
              let least = least_told slots zone r e in
              record {
                zone = zone;
                rank = r;
                is_open = opened ∙ same;
                item = same;
                least = least;
                cuts = cut_told question slots listed excluded groups asks zone r e least can cut (by_behind (is_behind last r) _ cuts);
              }

          by : (z : Option ZoneValue) → item ≡ z → option_and_then (cut_before groups question last listed excluded) (option_and_then (least_rank slots) z) ≡ Some cut → IsFound at space cut
          by None same cuts = absurd (cc cuts)
          by (Some zone) same cuts = by_rank zone same (least_rank slots zone) refl cuts

      abbrev parts : List ZoneValue
      parts = cut.parts found.zone

      after : after_cut space (at + 1) (Some cut) ≡ with_parts space (at + 1) parts
      after = ap (λ (o : Option ZoneValue). option_map_or (λ zone. with_parts space (at + 1) (cut.parts zone)) o space) found.is_open

      parts_explained : (r : Rank) → list_any (ranks_in_open slots r) (map Some parts) ≡ true → is_explained groups last listed excluded r ≡ true
      parts_explained r ranks =
          item_explained r (ap (ranks_in_open slots r) found.item ∙ found.cuts.within r (sym (among_open slots r parts) ∙ ranks))

      split_stands : Stands (at + 1) (with_parts space (at + 1) parts) (made ++ record { zone = at + 1; by = cut.by } ∷ [])
      split_stands =
          record {
            slots_are = stands.slots_are;
            passed = ap (list_all passes) (take_changed space.zones (map Some parts) at None within) ∙ one_more_passed None refl;
            explained = λ r ranks.
                ⊎_elim (rest_explained r) (parts_explained r)
                (or_cases (list_any (ranks_in_open slots r) (drop (at + 1) space.zones)) (list_any (ranks_in_open slots r) (map Some parts))
                (sym (ap (list_any (ranks_in_open slots r)) (drop_changed space.zones (map Some parts) at None within) ∙ list_any-append (ranks_in_open slots r) (drop (at + 1) space.zones) (map Some parts)) ∙ ranks));
            judged = λ plant j may space_is listed_is excluded_is.
                judged_more plant j made (record { zone = at + 1; by = cut.by })
                ∙ ap (option_and_then (λ (k : Judged). judge_split plant k (at + 1) cut.by)) (stands.judged plant j may space_is listed_is excluded_is)
                ∙ ap (option_and_then (λ (zone : ZoneValue). option_map (λ ps. record j { space = with_parts space (at + 1) ps }) (split_parts plant (record j { space = space }) zone cut.by))) found.is_open
                ∙ ap (option_map (λ ps. record j { space = with_parts space (at + 1) ps })) (found.cuts.chosen plant (record j { space = space }) may stands.slots_are listed_is excluded_is);
            fitting = list_all-append (λ (s : Split). splits question s.by) made (record { zone = at + 1; by = cut.by } ∷ [])
                ∙ and_from (list_all (λ (s : Split). splits question s.by) made) (splits question cut.by && true) stands.fitting (and_from (splits question cut.by) true found.cuts.fitting refl);
          }

      -- a zone is split
      pub stands_split : Stands (at + 1) (after_cut space (at + 1) (Some cut)) (made ++ record { zone = at + 1; by = cut.by } ∷ [])
      stands_split = subst (λ (s : Space). Stands (at + 1) s (made ++ record { zone = at + 1; by = cut.by } ∷ [])) (sym after) split_stands

      pub cut_weighs_less : weight_left slots excluded (at + 1) (after_cut space (at + 1) (Some cut)) < weight_left slots excluded at space
      cut_weighs_less =
          let room : ℕ = length slots + total_length excluded in
          let less = found.cuts.lighter (drop (at + 1) space.zones) in
          subst (λ (s : Space). weight_left slots excluded (at + 1) s < weight_left slots excluded at space) (sym after)
          (subst (λ zs. weights slots room zs < weight_left slots excluded at space) (sym (drop_changed space.zones (map Some parts) at None within))
          (subst (λ zs. weights slots room (drop (at + 1) space.zones ++ map Some parts) < weights slots room zs) (sym (ahead ∙ ap (λ z. z ∷ drop (at + 1) space.zones) found.item)) less))

  uncut_same : (space : Space) (n : ℕ) → after_cut space n None ≡ space
  uncut_same space n = by (open_zone space n)
    where
      by : (o : Option ZoneValue) → option_map_or (λ (zone : ZoneValue). space) o space ≡ space
      by None = refl
      by (Some zone) = refl

  -- a turn: what it did with the zone at its place
  module _ (at : ℕ) (space new : Space) (made : List Split) (stands : Stands at space made) (within : at < length space.zones) (asks : AreForQuestion groups question)
      (can : can_be_listed question (length listed) ≡ true) (is : new ≡ after_cut space (at + 1) (cut_at groups question last listed excluded space (at + 1))) where
    abbrev cut : Option Cut
    cut = cut_at groups question last listed excluded space (at + 1)

    uncut : cut ≡ None → new ≡ space
    uncut none = is ∙ ap (after_cut space (at + 1)) none ∙ uncut_same space (at + 1)

    pub turn_weighs_less : weight_left slots excluded (at + 1) new < weight_left slots excluded at space
    turn_weighs_less = by cut refl
      where
        by : (o : Option Cut) → cut ≡ o → weight_left slots excluded (at + 1) new < weight_left slots excluded at space
        by None e = subst (λ (s : Space). weight_left slots excluded (at + 1) s < weight_left slots excluded at space) (sym (uncut e)) (left_weighs_less at space made stands within)
        by (Some c) e =
            subst (λ (s : Space). weight_left slots excluded (at + 1) s < weight_left slots excluded at space) (sym (is ∙ ap (after_cut space (at + 1)) e))
            (cut_weighs_less at space made stands within asks can c e)

    pub turn_left : (same : List Split) → None ≡ option_map (λ (c : Cut). c.by) cut → same ≡ made → Stands (at + 1) new same
    turn_left same none unchanged = by cut refl none
      where
        by : (o : Option Cut) → cut ≡ o → None ≡ option_map (λ (c : Cut). c.by) o → Stands (at + 1) new same
        by None e none = subst (λ (s : Space). Stands (at + 1) s same) (sym (uncut e)) (subst (λ ss. Stands (at + 1) space ss) (sym unchanged) (stands_left at space made stands within e))
        by (Some c) e same = absurd (cc same)

    pub turn_split : (by : Evidence) (more : List Split) → Some by ≡ option_map (λ (c : Cut). c.by) cut → more ≡ made ++ record { zone = at + 1; by = by } ∷ [] → Stands (at + 1) new more
    turn_split evidence more some pushed = by cut refl some
      where
        by : (o : Option Cut) → cut ≡ o → Some evidence ≡ option_map (λ (c : Cut). c.by) o → Stands (at + 1) new more
        by None e same = absurd (cc same)
        by (Some c) e same =
            let made_is : evidence ≡ c.by = cc same in
            subst (λ (s : Space). Stands (at + 1) s more) (sym (is ∙ ap (after_cut space (at + 1)) e))
            (subst (λ ss. Stands (at + 1) (after_cut space (at + 1) (Some c)) ss) (sym (pushed ∙ ap (λ (x : Evidence). made ++ record { zone = at + 1; by = x } ∷ []) made_is))
            (stands_split at space made stands within asks can c e))
