-- it goes out of both lists
use Rattle.std.proofs.Common.{ℕ, [], length, set, None, sym, subst}
use Rattle.lv_clauses.specs.ClauseMap.{AreClauses}
use Rattle.lv_ltms.specs.Standing.{true_before}
use Rattle.lv_ltms.specs.Watching.{lit_at, IsThreaded}
use Rattle.lv_ltms.proofs.BlankLemmas.{tells_left}
use Rattle.lv_ltms.proofs.FalsifyLemmas.{near_members}
use Rattle.lv_ltms.proofs.NetworkLemmas.{gone_network, gone_looked}
use Rattle.lv_ltms.proofs.network.Network.remove.Goals as goal

pub unwatch-requires-clause-threaded : goal.unwatch-requires-clause-threaded
unwatch-requires-clause-threaded c = subst (λ (n : ℕ). IsThreaded c.args.self.now.near c.args.self.now.arena n) (sym c.requires.alive.network.near_rows.of_true) c.requires.alive.network.near_rows

pub unwatch-requires-clause-clauses : goal.unwatch-requires-clause-clauses
unwatch-requires-clause-clauses c = subst (λ (n : ℕ). AreClauses n c.args.self.now.arena) (sym c.requires.alive.network.near_rows.of_true) c.requires.alive.network.clauses

pub unwatch-requires-clause-members : goal.unwatch-requires-clause-members
unwatch-requires-clause-members c =
    near_members c.args.self.now.arena (lit_at c.args.self.now.near) (lit_at c.args.self.now.far) (true_before c.args.self.now.progress.done c.args.self.now.labels.trail) c.args.self.now.labels.marks [] c.requires.alive.looked.watching.near_side

pub unwatch-requires-2-clause-threaded : goal.unwatch-requires-2-clause-threaded
unwatch-requires-2-clause-threaded c = subst (λ (n : ℕ). IsThreaded c.args.self.now.far c.args.self.now.arena n) (sym c.requires.alive.network.far_rows.of_true) c.requires.alive.network.far_rows

pub unwatch-requires-2-clause-clauses : goal.unwatch-requires-2-clause-clauses
unwatch-requires-2-clause-clauses c = subst (λ (n : ℕ). AreClauses n c.args.self.now.arena) (sym c.requires.alive.network.far_rows.of_true) c.requires.alive.network.clauses

pub unwatch-requires-2-clause-members : goal.unwatch-requires-2-clause-members
unwatch-requires-2-clause-members c =
    near_members c.args.self.now.arena (lit_at c.args.self.now.far) (lit_at c.args.self.now.near) (true_before c.args.self.now.progress.done c.args.self.now.labels.trail) c.args.self.now.labels.marks [] c.requires.alive.looked.watching.far_side

pub blank_left-self-requires : goal.blank_left-self-requires
blank_left-self-requires c = tells_left c.args.self.now.arena c.remove.new.self c.args.id.0 c.args.self.now.empty c.remove.ensures c.requires.alive.tells_empty

pub returns-clause-alive : goal.returns-clause-alive
returns-clause-alive c =
    let near_is : IsThreaded c.unwatch.new.rows (set c.args.self.now.arena c.args.id.0 None) (length c.args.self.now.labels.marks) = subst (λ (n : ℕ). IsThreaded c.unwatch.new.rows (set c.args.self.now.arena c.args.id.0 None) n) c.requires.alive.network.near_rows.of_true c.unwatch.ensures.threaded in
    let far_is : IsThreaded c.unwatch-2.new.rows (set c.args.self.now.arena c.args.id.0 None) (length c.args.self.now.labels.marks) = subst (λ (n : ℕ). IsThreaded c.unwatch-2.new.rows (set c.args.self.now.arena c.args.id.0 None) n) c.requires.alive.network.far_rows.of_true c.unwatch-2.ensures.threaded in
    record {
      network =
          gone_network (length c.args.self.now.labels.marks) c.args.self.now.arena c.remove.new.self c.args.self.now.near c.args.self.now.far c.unwatch.new.rows c.unwatch-2.new.rows c.args.self.now.labels c.args.self.now.progress.done c.args.id.0 c.requires.alive.network c.requires.alive.looked c.remove.ensures near_is far_is c.unwatch.ensures.same c.unwatch-2.ensures.same;
      looked =
          gone_looked (length c.args.self.now.labels.marks) c.args.self.now.arena c.remove.new.self c.args.self.now.near c.args.self.now.far c.unwatch.new.rows c.unwatch-2.new.rows c.args.self.now.labels c.args.self.now.progress.done c.args.id.0 c.requires.alive.network c.requires.alive.looked c.remove.ensures near_is far_is c.unwatch.ensures.same c.unwatch-2.ensures.same;
      falsified = tt;
      tells_empty = c.blank_left-self.ensures;
    }
