-- A line in front of lines that end a certificate well.
use Rattle.std.proofs.Common.{◌≡◌, ◌+◌, true, List, [], ◌∷◌, Some, refl, ◌∙◌, ap}
use Rattle.std.specs.List.{list_all}
use Rattle.std.specs.Option.{option_map_or, option_and_then}
use Rattle.std.proofs.lemmas.Bool.{and_from}
use Rattle.lv_model.specs.declared.plant.Plant.{Plant}
use Rattle.lv_cert.specs.declared.line.Question.{Question}
use Rattle.lv_cert.specs.declared.line.Line.{Line}
use Rattle.lv_cert.specs.declared.order.Place.{Place}
use Rattle.lv_cert.specs.declared.order.Place.TheVariants.{Done}
use Rattle.lv_cert.specs.Order.{place_after, place_behind}
use Rattle.lv_cert.specs.Words.{is_word}
use Rattle.lv_cert.specs.Form.{is_formed}
use Rattle.lv_cert_meaning.specs.Judging.{Judged, judge_line, judge_lines, is_bad_at}
use Rattle.lv_cert_writing.specs.Ending.{Ends}

module _ (question : Question) (plant : Plant) (final : Judged) where
  -- behind the last line
  pub ended : Ends question plant Done final [] final
  ended = record { judged = λ n. refl; ordered = refl; formed = λ w. refl }

  pub line_first : (p q : Place) (j k : Judged) (l : Line) (rest : List Line) → judge_line question plant j rest l ≡ Some k → place_after p l ≡ Some q
      → (is_word plant.name ≡ true → is_formed l ≡ true) → Ends question plant q k rest final → Ends question plant p j (l ∷ rest) final
  line_first p q j k l rest good after form h = record {
    judged = λ n. ap (λ o. option_map_or (λ next. judge_lines question plant (n + 1) next rest) o (is_bad_at n)) good ∙ h.judged (n + 1);
    ordered = ap (option_and_then (λ next. place_behind next rest)) after ∙ h.ordered;
    formed = λ w. and_from (is_formed l) (list_all is_formed rest) (form w) (h.formed w);
  }
