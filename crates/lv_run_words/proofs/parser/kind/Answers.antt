-- The kinds that are handed to `clap`, by their words.
use Rattle.std.proofs.Common.{rules, ◌≡◌, ◌∙◌, [], ◌∷◌, codes, map, ap, false}
use Rattle.clap.specs.ValueTests.{accepts}
use Rattle.lv_run_words.proofs.Readings.{one_of_names}
use Rattle.lv_run_words.proofs.parser.kind.Goals as goal

pub returns : goal.returns
returns c =
    let given = c.value_parser.ensures.given in
    let names : map (λ s. s.now) c.as_slice.result.now ≡ codes "model" ∷ codes "session" ∷ [] = search rules in
    record {
      parser = given.0;
      is_kind = record { tells = λ word. ap (λ p. accepts false p word) given.2 ∙ one_of_names c.as_slice.result.now (codes "model") (codes "session") word names };
      is = record { rule_is = search rules; local = search rules };
    }
