-- Lines that end a certificate well, from a place on where what came before was judged so.
use Rattle.std.specs.Prelude.{◌≡◌, ℕ, Bool, true, List, Some}
use Rattle.std.specs.List.{list_all}
use Rattle.lv_model.specs.declared.plant.Plant.{Plant}
use Rattle.lv_cert.specs.declared.line.Question.{Question}
use Rattle.lv_cert.specs.declared.line.Line.{Line}
use Rattle.lv_cert.specs.declared.order.Place.{Place}
use Rattle.lv_cert.specs.declared.order.Place.TheVariants.{Done}
use Rattle.lv_cert.specs.Order.{place_behind}
use Rattle.lv_cert.specs.Words.{is_word}
use Rattle.lv_cert.specs.Form.{is_formed}
use Rattle.lv_cert_meaning.specs.Judging.{Judged, judge_lines, comes_to, ends_empty_after}

-- none of them is bad, they are in order, and in their form where the plant's name is one word
pub record Ends (question : Question) (plant : Plant) (place : Place) (j : Judged) (lines : List Line) (final : Judged) : Type 0 where
  pub judged : (n : ℕ) → judge_lines question plant n j lines ≡ comes_to final
  pub ordered : place_behind place lines ≡ Some Done
  pub formed : is_word plant.name ≡ true → list_all is_formed lines ≡ true

-- these lines don't begin with a clause, so a block in front of them ends before them
pub record BeginApart (lines : List Line) : Type 0 where
  pub same : (is_empty : Bool) → ends_empty_after is_empty lines ≡ is_empty
