-- the clause of this number was added, or there is none
use Rattle.std.proofs.Common.{◌≡◌, ◌∙◌, ◌+◌, sym, ap, subst, Some, None}
use Rattle.lv_clauses.specs.ClauseMap.{clause_at}
use Rattle.lv_ltms.specs.System.{System}
use Rattle.lv_labels.specs.Copying.{AreCopied}
use Rattle.lv_labels.proofs.CopyLemmas.{copied_one, copied_past}
use Rattle.lv_labels.proofs.copying.copy_clauses.Goals.{in-Some+in_ok-add_clause, in_default}
use Rattle.lv_labels.proofs.copying.copy_clauses.Goals as goal

pub loop-n-preserved : goal.loop-n-preserved
loop-n-preserved c = elim c.match-find.branch [
  | in-Some+in_ok-add_clause w ↦
      let put = w.in_ok-add_clause.ensures in
      let at : clause_at c.args.set.now.slots c.loop-n.n ≡ Some w.in-Some.lits.now = sym w.in-Some.ensures.value in
      record {
        bools = ap (λ (s : System). s.bools) w.ltms-is ∙ put.added.bools ∙ c.loop-n.invariant.bools;
        assumed = ap (λ (s : System). s.assumed) w.ltms-is ∙ put.added.assumed ∙ c.loop-n.invariant.assumed;
        copied =
            subst (λ (s : System). AreCopied (c.loop-n.n + 1) c.args.set.now.slots s.clauses) (sym w.ltms-is)
            (copied_one c.loop-n.ltms.clauses w.add_clause.new.self.clauses w.in_ok-add_clause.field-0.0 put.vacant put.added.others c.loop-n.n c.args.set.now.slots w.in-Some.lits.now c.loop-n.invariant.copied at put.added.changed);
      }
  | in_default w ↦
      let at : clause_at c.args.set.now.slots c.loop-n.n ≡ None = sym w.in_default.ensures.value in
      record {
        bools = ap (λ (s : System). s.bools) w.ltms-is ∙ c.loop-n.invariant.bools;
        assumed = ap (λ (s : System). s.assumed) w.ltms-is ∙ c.loop-n.invariant.assumed;
        copied =
            subst (λ (s : System). AreCopied (c.loop-n.n + 1) c.args.set.now.slots s.clauses) (sym w.ltms-is)
            (copied_past c.loop-n.n c.args.set.now.slots c.loop-n.ltms.clauses c.loop-n.invariant.copied at);
      }
]
