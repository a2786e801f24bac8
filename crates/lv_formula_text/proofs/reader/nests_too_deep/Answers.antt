-- each token is counted by its kind
use Rattle.std.proofs.Common.{◌≡◌, ◌+◌, ◌-◌, ◌<◌, ◌≤◌, Bool, true, false, ◌||◌, length, drop, sym, ap, ◌∙◌, arith}
use Rattle.std.specs.Option.{option_map_or}
use Rattle.lv_formula_text.specs.Nesting.{one_if, opens, closes, nests, is_too_open, nests_too_often}
use Rattle.lv_formula_text.proofs.NestingLemmas.{how_many_step, open_step, open_found, one_if_small, too_many, few_enough}
use Rattle.lv_formula_text.proofs.reader.nests_too_deep.Goals as goal

pub returns-then-saturating_sub : goal.returns-then-saturating_sub
returns-then-saturating_sub c =
    let inside : c.tokens.place < length c.args.line.now = omega arith in
    let more = c.one_if-opened.ensures ∙ ap one_if (c.opens.ensures ∙ ap (λ k. option_map_or opens k false) c.kind-kind.ensures) in
    let other = c.one_if-closed.ensures ∙ ap one_if (c.closes.ensures ∙ ap (λ k. option_map_or closes k false) c.kind-kind.ensures) in
    let step = open_step c.args.line.now c.tokens.place c.tokens.opened c.tokens.closed c.one_if-opened.result c.one_if-closed.result inside c.tokens.invariant.small more other in
    let big = too_many c.saturating_sub.result ((c.tokens.opened + c.one_if-opened.result) - (c.tokens.closed + c.one_if-closed.result)) c.saturating_sub.ensures c.if-saturating_sub.true in
    let found : true ≡ is_too_open c.args.line.now =
    sym (open_found (drop (c.tokens.place + 1) c.args.line.now) (c.tokens.opened + c.one_if-opened.result) (c.tokens.closed + c.one_if-closed.result) big) ∙ sym step ∙ c.tokens.invariant.whole in
    ap (λ (b : Bool). b || nests_too_often c.args.line.now) found

pub tokens-preserved : goal.tokens-preserved
tokens-preserved c =
    let inside : c.tokens.place < length c.args.line.now = omega arith in
    let more = c.one_if-opened.ensures ∙ ap one_if (c.opens.ensures ∙ ap (λ k. option_map_or opens k false) c.kind-kind.ensures) in
    let other = c.one_if-closed.ensures ∙ ap one_if (c.closes.ensures ∙ ap (λ k. option_map_or closes k false) c.kind-kind.ensures) in
    let bit = c.one_if-nested.ensures ∙ ap one_if (c.nests.ensures ∙ ap (λ k. option_map_or nests k false) c.kind-kind.ensures) in
    let step = open_step c.args.line.now c.tokens.place c.tokens.opened c.tokens.closed c.one_if-opened.result c.one_if-closed.result inside c.tokens.invariant.small more other in
    let count = how_many_step nests c.args.line.now c.tokens.place c.one_if-nested.result inside bit in
    let a : c.one_if-opened.result ≤ 1 = rw c.one_if-opened.ensures (one_if_small c.opens.result) in
    let b : c.one_if-closed.result ≤ 1 = rw c.one_if-closed.ensures (one_if_small c.closes.result) in
    let n : c.one_if-nested.result ≤ 1 = rw c.one_if-nested.ensures (one_if_small c.nests.result) in
    record {
      whole = sym step ∙ c.tokens.invariant.whole;
      small = few_enough c.saturating_sub.result ((c.tokens.opened + c.one_if-opened.result) - (c.tokens.closed + c.one_if-closed.result)) c.saturating_sub.ensures c.if-saturating_sub.false;
      few_opened = omega arith;
      few_closed = omega arith;
      counted = omega arith;
      few_nested = omega arith;
    }
