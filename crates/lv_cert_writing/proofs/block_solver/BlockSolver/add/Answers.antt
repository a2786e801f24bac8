-- what is added stands beside the system's clauses, or is taken back
use Rattle.std.proofs.Common.{◌≡◌, ◌++◌, ◌∷◌, [], List, Some, subst, rules}
use Rattle.lv_base.specs.declared.ids.ClauseId.{ClauseId}
use Rattle.lv_cert_writing.specs.StatedClauses.{IsShared}
use Rattle.lv_cert_writing.proofs.SharedLemmas.{shared_more, shared_back}
use Rattle.lv_cert_writing.proofs.block_solver.BlockSolver.add.Goals as goal

pub returns-in-Ok-clause-shared : goal.returns-in-Ok-clause-shared
returns-in-Ok-clause-shared c =
    λ s is.
    let joined : c.push.new.self.items ≡ c.args.self.now.added.items ++ c.in_ok-id.id ∷ [] = search rules in
    shared_more s c.args.self.now.solver.set c.args.self.now.added.items c.args.self.now.numbers.items is c.in_ok-id.id (Some c.args.lits.now) c.add.new.self.set c.push.new.self.items c.keep.new.numbers.items
    c.in_ok-id.ensures.vacant c.in_ok-id.ensures.added joined c.keep.ensures.others

pub returns-in-Err-clause-shared : goal.returns-in-Err-clause-shared
returns-in-Err-clause-shared c =
    λ s is.
    let same : c.args.self.now.added.items ≡ c.push.new.self.items = search rules in
    subst (λ (ids : List ClauseId). IsShared s c.remove.new.self.set ids c.args.self.now.numbers.items) same
    (shared_back s c.args.self.now.solver.set c.args.self.now.added.items c.args.self.now.numbers.items is c.in_ok-id.id.0 (Some c.args.lits.now) c.add.new.self.set c.remove.new.self.set
    c.in_ok-id.ensures.vacant c.in_ok-id.ensures.added c.remove.ensures.removed)
