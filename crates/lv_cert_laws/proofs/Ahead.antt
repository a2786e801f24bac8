-- What comes behind a line is known before it comes: two lines with the values before and after a step, which show what is to be shown.
use Rattle.std.proofs.Common.{◌≡◌, ℕ, ◌+◌, true, false, ◌&&◌, List, ◌∷◌, Some, refl, sym, subst}
use Rattle.std.specs.Option.{option_map_or}
use Rattle.std.proofs.lemmas.Bool.{and_parts}
use Rattle.std.proofs.lemmas.Option.{cond_some}
use Rattle.lv_cert_meaning.specs.lv_model.declared.plant.Plant.{Plant}
use Rattle.lv_cert_meaning.specs.lv_model.Lists.{sizes}
use Rattle.lv_cert_meaning.specs.lv_cert.declared.line.Question.{Question}
use Rattle.lv_cert_meaning.specs.lv_cert.declared.line.Head.TheVariants as head
use Rattle.lv_cert_meaning.specs.lv_cert.declared.line.Line.{Line}
use Rattle.lv_cert_meaning.specs.lv_cert.declared.line.Line.TheVariants as line
use Rattle.lv_cert_meaning.specs.lv_cert.declared.order.Witness.{Witness}
use Rattle.lv_cert_meaning.specs.lv_cert.declared.order.Place.{Place}
use Rattle.lv_cert_meaning.specs.lv_cert.declared.order.Place.TheVariants as place
use Rattle.lv_cert_meaning.specs.lv_cert.Order.{place_after, place_behind}
use Rattle.lv_cert_meaning.specs.Counting.{are_of, values_of}
use Rattle.lv_cert_meaning.specs.Judging.{Judged, shows, judge_now, judge_next, judge_lines, comes_to}
use Rattle.lv_cert_laws.proofs.Options.{anded}
use Rattle.lv_cert_laws.proofs.Refuting.{IsJudged, first_judged}

-- the first of lines in order
pub record IsOrdered (p q : Place) (l : Line) (ls : List Line) : Type 0 where
  pub next : Place
  pub after : place_after p l ≡ Some next
  pub later : place_behind next ls ≡ Some q

pub first_ordered : (p q : Place) (l : Line) (ls : List Line) → place_behind p (l ∷ ls) ≡ Some q → IsOrdered p q l ls
first_ordered p q l ls h =
    let found = anded (λ next. place_behind next ls) (place_after p l) q h in
    record { next = found.0; after = found.1; later = found.2 }

-- lines that begin with the values before a step, or after it
pub record BeginsNow (w : Witness) (lines : List Line) : Type 0 where
  pub numbers : List ℕ
  pub more : List Line
  pub are : lines ≡ line.Numbers head.Now numbers ∷ more
  pub later : place_behind (place.Next w) more ≡ Some place.Done

pub record BeginsNext (lines : List Line) : Type 0 where
  pub numbers : List ℕ
  pub more : List Line
  pub are : lines ≡ line.Numbers head.Next numbers ∷ more

now_begins : (w : Witness) (lines : List Line) → place_behind (place.Now w) lines ≡ Some place.Done → BeginsNow w lines
now_begins w (line.Numbers head.Now ns ∷ rest) h = record { numbers = ns; more = rest; are = refl; later = h }
now_begins w lines h = absurd (cc h)

next_begins : (w : Witness) (lines : List Line) → place_behind (place.Next w) lines ≡ Some place.Done → BeginsNext lines
next_begins w (line.Numbers head.Next ns ∷ rest) h = record { numbers = ns; more = rest; are = refl }
next_begins w lines h = absurd (cc h)

-- values before and after a step that show what is to be shown of a judged state
pub record IsShown (question : Question) (plant : Plant) (j : Judged) : Type 0 where
  pub before : List ℕ
  pub after : List ℕ
  pub before_of : are_of (sizes plant) before ≡ true
  pub after_of : are_of (sizes plant) after ≡ true
  pub shown : shows question plant (record j { before = Some (values_of before) }) (values_of after) (values_of before) ≡ true

module _ (question : Question) (plant : Plant) where
  now_judged : (j k : Judged) (ns : List ℕ) → judge_now plant j ns ≡ Some k → (are_of (sizes plant) ns ≡ true) × (record j { before = Some (values_of ns) } ≡ k)
  now_judged j k ns h = cond_some (are_of (sizes plant) ns) (record j { before = Some (values_of ns) }) k h

  next_judged : (j k : Judged) (ns : List ℕ) → judge_next question plant j ns ≡ Some k
      → (are_of (sizes plant) ns ≡ true) × (option_map_or (shows question plant j (values_of ns)) j.before false ≡ true)
  next_judged j k ns h =
      and_parts (are_of (sizes plant) ns) (option_map_or (shows question plant j (values_of ns)) j.before false)
      ((cond_some (are_of (sizes plant) ns && option_map_or (shows question plant j (values_of ns)) j.before false) j k h).0)

  pub pair_shown : (w : Witness) (n : ℕ) (j final : Judged) (rest : List Line) → place_behind (place.Now w) rest ≡ Some place.Done → judge_lines question plant n j rest ≡ comes_to final
      → IsShown question plant j
  pair_shown w n j final rest order good =
      let now : BeginsNow w rest = now_begins w rest order in
      let next : BeginsNext now.more = next_begins w now.more now.later in
      let first : IsJudged question plant n j final (line.Numbers head.Now now.numbers) now.more =
      first_judged question plant n j final (line.Numbers head.Now now.numbers) now.more (subst (λ ls. judge_lines question plant n j ls ≡ comes_to final) now.are good) in
      let told = now_judged j first.behind now.numbers first.judged in
      let second : IsJudged question plant (n + 1) (record j { before = Some (values_of now.numbers) }) final (line.Numbers head.Next next.numbers) next.more =
      first_judged question plant (n + 1) (record j { before = Some (values_of now.numbers) }) final (line.Numbers head.Next next.numbers) next.more
      (subst (λ (k : Judged). judge_lines question plant (n + 1) k (line.Numbers head.Next next.numbers ∷ next.more) ≡ comes_to final) (sym told.1)
      (subst (λ ls. judge_lines question plant (n + 1) first.behind ls ≡ comes_to final) next.are first.later)) in
      let shown = next_judged (record j { before = Some (values_of now.numbers) }) second.behind next.numbers second.judged in
      record { before = now.numbers; after = next.numbers; before_of = told.0; after_of = shown.0; shown = shown.1 }
