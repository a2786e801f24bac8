use Rattle.std.proofs.Common.{rules, ◌≡◌, ◌∷◌, ◌∙◌, ◌+◌, drop, sym, ap, false, Global}
use Rattle.std.specs.Prelude.{string_bytes}
use Rattle.std.proofs.lemmas.List.{drop_more}
use Rattle.lv_run_words.specs.Words.{is_dashes}
use Rattle.lv_run_words.specs.Parser.{is_lone}
use Rattle.lv_run_words.proofs.Readings.{passed_over}
use Rattle.lv_run_words.proofs.parser.has_lone_dash.Goals as goal

pub loop-word-preserved : goal.loop-word-preserved
loop-word-preserved c =
    let here = c.word-item.result in
    let words = c.args.words.now in
    let i = c.loop-word.word-index in
    let left : drop i words ≡ here ∷ drop (i + 1) words = drop_more words i here c.loop-word-test.true ∙ ap (λ x. x ∷ drop (i + 1) words) (sym c.word-item.is) in
    let lone : is_lone (string_bytes {Z = Global} here) ≡ false = search rules in
    let dashes : is_dashes (string_bytes {Z = Global} here) ≡ false = search rules in
    record { rest = sym (passed_over (string_bytes {Z = Global}) (drop i words) (drop (i + 1) words) here left lone dashes) ∙ c.loop-word.invariant.rest }
