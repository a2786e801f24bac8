-- Lines that lead from the start to the end are in the order of the tables.
use Rattle.std.proofs.Common.{◌≡◌, ℕ, ◌≤◌, true, ◌&&◌, List, [], ◌∷◌, Option, Some, None, refl, ap, ◌∙◌, arith}
use Rattle.std.specs.Option.{option_and_then, option_map_or}
use Rattle.std.proofs.lemmas.Bool.{and_from}
use Rattle.lv_cert.specs.declared.line.Line.{Line}
use Rattle.lv_cert.specs.declared.order.Place.{Place}
use Rattle.lv_cert.specs.declared.order.Place.TheVariants as place
use Rattle.lv_cert.specs.Order.{place_after, place_behind}
use Rattle.lv_cert_laws.specs.Tables.{is_start, is_end, row_of, is_single, is_from, row_behind, rows_rise, may_follow, are_next, OrderIsOfTheTables}
use Rattle.lv_cert_laws.proofs.StepLemmas.{row_at, due, ends_at, Comes, leads_earlier, true_le, comes, begins}

-- the place behind the first of some lines, and the others from there
record Goes (p : Place) (l : Line) (ls : List Line) : Type 0 where
  next : Place
  after : place_after p l ≡ Some next
  rest : place_behind next ls ≡ Some place.Done

goes : (p : Place) (l : Line) (ls : List Line) → place_behind p (l ∷ ls) ≡ Some place.Done → Goes p l ls
goes p l ls e = by (place_after p l) refl e
  where
    by : (o : Option Place) → place_after p l ≡ o → option_and_then (λ q. place_behind q ls) o ≡ Some place.Done → Goes p l ls
    by None is h = absurd (cc h)
    by (Some q) is h = record { next = q; after = is; rest = h }

rise : (p : Place) (row : ℕ) (lines : List Line) → row ≤ row_at p → place_behind p lines ≡ Some place.Done → rows_rise row lines ≡ true
rise p row [] h e = refl
rise p row (l ∷ ls) h e =
    let step : Goes p l ls = goes p l ls e in
    let leads = leads_earlier row (row_at p) l step.next h (comes p l step.next step.after).leads in
    and_from (is_from row (row_of l)) (rows_rise (row_behind row (is_single l) (row_of l)) ls) leads.from
    (rise step.next (row_behind row (is_single l) (row_of l)) ls (true_le (row_behind row (is_single l) (row_of l)) (row_at step.next) leads.behind) step.rest)

follow : (p : Place) (l : Line) (lines : List Line) → ((m : Line) → may_follow l m ≡ due p m) → is_end l ≡ ends_at p → place_behind p lines ≡ Some place.Done → are_next l lines ≡ true
follow p l [] follows ends e = ends ∙ ap ends_at (same p place.Done e)
  where
    same : (x q : Place) → Some x ≡ Some q → x ≡ q
    same x q h = ap (λ o. option_map_or (λ z. z) o x) h
follow p l (m ∷ ms) follows ends e =
    let step : Goes p m ms = goes p m ms e in
    let come : Comes p m step.next = comes p m step.next step.after in
    and_from (may_follow l m) (are_next m ms) (follows m ∙ come.due_is) (follow step.next m ms come.leads.follows come.leads.ends step.rest)

pub in_table_order : OrderIsOfTheTables
in_table_order [] e = absurd (cc e)
in_table_order (l ∷ ls) e =
    let step : Goes place.Start l ls = goes place.Start l ls e in
    let come : Comes place.Start l step.next = comes place.Start l step.next step.after in
    and_from (is_start l && rows_rise 0 (l ∷ ls)) (are_next l ls)
    (and_from (is_start l) (rows_rise 0 (l ∷ ls)) (begins l step.next step.after) (rise place.Start 0 (l ∷ ls) (omega arith) e))
    (follow step.next l ls come.leads.follows come.leads.ends step.rest)
