-- the clauses that come to watch another literal are gone along in the end
use Rattle.std.proofs.Common.{ℕ, length, sym, subst}
use Rattle.lv_clauses.specs.Literals.{neg}
use Rattle.lv_ltms.specs.Watching.{lit_at}
use Rattle.lv_ltms.specs.Standing.{IsNetwork}
use Rattle.lv_ltms.specs.Following.{Follows}
use Rattle.lv_ltms.proofs.PairLemmas.{followed_network, followed_all, followed_found, followed_then}
use Rattle.lv_ltms.proofs.VisitLemmas.{goes_on-then}
use Rattle.lv_ltms.proofs.propagation.visit.Goals as goal

pub returns-in-Holds-clause-network : goal.returns-in-Holds-clause-network
returns-in-Holds-clause-network c = followed_network c.args.arena.now (length c.args.labels.now.marks) c.args.near.now c.args.far.now c.args.labels.now c.follow.new.labels c.args.lit c.requires.network c.follow.ensures.goes_on

pub returns-in-Holds-clause-visits : goal.returns-in-Holds-clause-visits
returns-in-Holds-clause-visits c =
    followed_all c.args.arena.now (length c.args.labels.now.marks) c.args.near.now c.args.far.now c.args.labels.now c.follow.new.labels c.args.lit c.requires.network c.follow.ensures.goes_on
    (subst (Follows c.args.arena.now c.args.near.now c.args.far.now c.follow.new.labels.marks c.args.lit) c.in-Holds.is c.follow.ensures.follows)

pub returns-in-Fails-clause-network : goal.returns-in-Fails-clause-network
returns-in-Fails-clause-network c = followed_network c.args.arena.now (length c.args.labels.now.marks) c.args.near.now c.args.far.now c.args.labels.now c.follow.new.labels c.args.lit c.requires.network c.follow.ensures.goes_on

pub returns-in-Fails-clause-visits : goal.returns-in-Fails-clause-visits
returns-in-Fails-clause-visits c =
    followed_found c.args.arena.now (length c.args.labels.now.marks) c.args.near.now c.args.far.now c.args.labels.now c.follow.new.labels c.args.lit c.requires.network c.follow.ensures.goes_on c.in-Fails.id

pub returns-in-Fails-clause-found : goal.returns-in-Fails-clause-found
returns-in-Fails-clause-found c = subst (Follows c.args.arena.now c.args.near.now c.args.far.now c.follow.new.labels.marks c.args.lit) c.in-Fails.is c.follow.ensures.follows

pub rewatch-requires-clause-network : goal.rewatch-requires-clause-network
rewatch-requires-clause-network c =
    subst (λ (n : ℕ). IsNetwork n c.args.arena.now c.args.near.now c.args.far.now c.follow.new.labels) (sym c.follow.ensures.goes_on.grows.marks)
    (followed_network c.args.arena.now (length c.args.labels.now.marks) c.args.near.now c.args.far.now c.args.labels.now c.follow.new.labels c.args.lit c.requires.network c.follow.ensures.goes_on)

pub rewatch-requires-clause-turned : goal.rewatch-requires-clause-turned
rewatch-requires-clause-turned c = c.follow.ensures.goes_on.grows.kept (neg c.args.lit) c.requires.turned

pub returns-in-Stops-clause-network : goal.returns-in-Stops-clause-network
returns-in-Stops-clause-network c =
    subst (λ (n : ℕ). IsNetwork n c.args.arena.now c.rewatch.new.near c.args.far.now c.rewatch.new.labels) c.follow.ensures.goes_on.grows.marks c.rewatch.ensures.network

pub returns-in-Stops-clause-goes_on : goal.returns-in-Stops-clause-goes_on
returns-in-Stops-clause-goes_on c = goes_on-then c.args.arena.now c.args.labels.now c.follow.new.labels c.rewatch.new.labels c.follow.ensures.goes_on c.rewatch.ensures.goes_on

pub returns-in-Stops-clause-visits : goal.returns-in-Stops-clause-visits
returns-in-Stops-clause-visits c =
    followed_then c.args.arena.now (length c.args.labels.now.marks) c.args.near.now c.args.far.now c.args.labels.now c.follow.new.labels c.args.lit c.requires.network c.follow.ensures.goes_on (lit_at c.rewatch.new.near) c.rewatch.new.labels c.rewatch.result c.rewatch.ensures.visits
