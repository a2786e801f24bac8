-- the last that was added goes first
use Rattle.std.proofs.Common.{◌≡◌, [], ◌∙◌, arith, rules}
use Rattle.std.proofs.lemmas.List.{nil_from_length}
use Rattle.lv_cert_writing.proofs.block_solver.BlockSolver.clear.Goals as goal

pub returns-clause-empty : goal.returns-clause-empty
returns-clause-empty c =
    let before : c.loop-id.self.added.items ≡ [] = nil_from_length c.loop-id.self.added.items (omega (arith, c.in_default.ensures.cases.0)) in
    let same : c.pop.new.self.items ≡ c.loop-id.self.added.items = search rules in
    same ∙ before
