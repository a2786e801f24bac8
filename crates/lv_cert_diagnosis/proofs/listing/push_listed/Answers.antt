-- one candidate more: three lines
use Rattle.std.proofs.Common.{◌++◌, ◌∷◌, [], ◌∙◌, List, take, sym, subst, ap, ap₂}
use Rattle.std.proofs.lemmas.List.{take_more}
use Rattle.lv_base.specs.declared.rank.Rank.{Rank}
use Rattle.lv_cert.specs.declared.line.Head.TheVariants as head
use Rattle.lv_cert.specs.declared.line.Line.{Line}
use Rattle.lv_cert_writing.specs.Lines.{values_line}
use Rattle.lv_cert_diagnosis.specs.Showing.{AddsShown}
use Rattle.lv_cert_diagnosis.proofs.AddingLemmas.{shown_one, shown_more}
use Rattle.lv_cert_diagnosis.proofs.listing.push_listed.Goals as goal

pub loop-rank-preserved : goal.loop-rank-preserved
loop-rank-preserved c =
    let plant = c.args.asking.now.plant in
    let facts = c.args.asking.now.facts in
    let listed = c.args.listed.now in
    let i = c.loop-rank.rank-index in
    let before = c.loop-rank.lines.items in
    let after = c.push-in-loop-rank-2.new.self.items in
    let first = c.in_ok-push.ensures.items ∙ ap (λ (l : Line). before ++ l ∷ []) c.in_ok-listed_line.ensures in
    let second = c.in_ok-push-2.ensures.items ∙ ap₂ (λ (ls : List Line) (l : Line). ls ++ l ∷ []) first (c.in_ok-values_line.ensures ∙ ap (values_line head.Now) c.as_slice.ensures) in
    let third = c.in_ok-push-3.ensures.items ∙ ap₂ (λ (ls : List Line) (l : Line). ls ++ l ∷ []) second (c.in_ok-values_line-2.ensures ∙ ap (values_line head.Next) c.as_slice-in-loop-rank.ensures) in
    let one : AddsShown plant facts (c.rank-item.result ∷ []) before after = shown_one plant facts c.rank-item.result c.in_ok-step.step.now c.in_ok-step.step.next c.in_ok-step.ensures.shown before after third in
    record {
      shown =
          subst (λ (rs : List Rank). AddsShown plant facts rs c.args.lines.now.items after)
          (sym (take_more listed i c.rank-item.result c.loop-rank-test.true ∙ ap (λ (r : Rank). take i listed ++ r ∷ []) (sym c.rank-item.is)))
          (shown_more plant facts (take i listed) (c.rank-item.result ∷ []) c.args.lines.now.items before after c.loop-rank.invariant.shown one);
      kept = c.step_of.ensures.kept ∙ c.loop-rank.invariant.kept;
    }
