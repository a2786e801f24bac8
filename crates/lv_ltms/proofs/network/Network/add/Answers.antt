-- want of memory, a clause without literals, or one that watches two
use Rattle.std.proofs.Common.{◌≡◌, [], length, Option, IfSome, IfNone, refl, sym, subst, arith}
use Rattle.lv_clauses.specs.ClauseMap.{Slots}
use Rattle.lv_clauses.specs.Marks.{Marks}
use Rattle.lv_ltms.specs.declared.propagation.Pair.{Pair}
use Rattle.lv_ltms.specs.Watching.{Rows, with_watch}
use Rattle.lv_ltms.specs.Standing.{IsNetwork, IsLooked, IsFalsified, TellsEmpty, Picks}
use Rattle.lv_ltms.proofs.FindLemmas.{on_err}
use Rattle.lv_ltms.proofs.MeetLemmas.{clause_range, goes_on_self}
use Rattle.lv_ltms.proofs.NetworkLemmas.{fitted_network, fitted_looked, blank_network, blank_looked, blank_told, kept_falsified, pair_network, pair_looked, pair_falsified, pair_told}
use Rattle.lv_ltms.proofs.network.Network.add.Goals as goal

pub returns-in_err-id-clause-kept : goal.returns-in_err-id-clause-kept
returns-in_err-id-clause-kept c = on_err c.from_residual.result (record { arena = c.in_err-id.ensures.kept; labels = refl; progress = refl; empty = refl })

pub returns-in_err-id-clause-alive : goal.returns-in_err-id-clause-alive
returns-in_err-id-clause-alive c =
    record {
      network = subst (λ (a : Slots). IsNetwork (length c.args.self.now.labels.marks) a c.add.new.near c.add.new.far c.args.self.now.labels) (sym c.in_err-id.ensures.kept) (fitted_network (length c.args.self.now.labels.marks) c.args.self.now.arena c.args.self.now.near c.args.self.now.far c.args.self.now.labels c.args.self.now.progress.done c.requires.alive.network c.requires.alive.looked c.add.new.near c.add.new.far c.in_err-id.ensures.near c.in_err-id.ensures.far);
      looked = subst (λ (a : Slots). IsLooked a c.add.new.near c.add.new.far c.args.self.now.labels c.args.self.now.progress.done) (sym c.in_err-id.ensures.kept) (fitted_looked (length c.args.self.now.labels.marks) c.args.self.now.arena c.args.self.now.near c.args.self.now.far c.args.self.now.labels c.args.self.now.progress.done c.requires.alive.network c.requires.alive.looked c.add.new.near c.add.new.far c.in_err-id.ensures.near c.in_err-id.ensures.far);
      falsified = subst (λ (a : Slots). IfSome c.args.self.now.progress.conflict (λ i. IsFalsified a c.args.self.now.labels.marks i.0)) (sym c.in_err-id.ensures.kept) c.requires.alive.falsified;
      tells_empty = subst (λ (a : Slots). TellsEmpty a c.args.self.now.empty) (sym c.in_err-id.ensures.kept) c.requires.alive.tells_empty;
    }

pub returns-in_err-id-clause-goes_on : goal.returns-in_err-id-clause-goes_on
returns-in_err-id-clause-goes_on c = goes_on_self c.add.new.self c.args.self.now.labels (length c.args.self.now.labels.marks) c.requires.alive.network.are_labels

pub returns-in_default-clause-alive : goal.returns-in_default-clause-alive
returns-in_default-clause-alive c =
    let none : c.args.lits.now ≡ [] = subst (λ (o : Option Pair). IfNone o (c.args.lits.now ≡ [])) c.in_default.is c.pick.ensures.none in
    record {
      network = blank_network (length c.args.self.now.labels.marks) c.args.self.now.arena c.args.self.now.near c.args.self.now.far c.args.self.now.labels c.args.self.now.progress.done c.requires.alive.network c.requires.alive.looked c.add.new.near c.add.new.far c.in_ok-id.ensures.near c.in_ok-id.ensures.far c.add.new.self c.in_ok-id.id c.args.lits.now c.in_ok-id.ensures.vacant c.in_ok-id.ensures.added c.requires.clause c.in_ok-id.ensures.near_room c.in_ok-id.ensures.far_room none;
      looked = blank_looked (length c.args.self.now.labels.marks) c.args.self.now.arena c.args.self.now.near c.args.self.now.far c.args.self.now.labels c.args.self.now.progress.done c.requires.alive.network c.requires.alive.looked c.add.new.near c.add.new.far c.in_ok-id.ensures.near c.in_ok-id.ensures.far c.add.new.self c.in_ok-id.id c.args.lits.now c.in_ok-id.ensures.vacant c.in_ok-id.ensures.added c.requires.clause c.in_ok-id.ensures.near_room c.in_ok-id.ensures.far_room none;
      falsified = kept_falsified (length c.args.self.now.labels.marks) c.args.self.now.arena c.args.self.now.near c.args.self.now.far c.args.self.now.labels c.args.self.now.progress.done c.requires.alive.network c.requires.alive.looked c.add.new.near c.add.new.far c.in_ok-id.ensures.near c.in_ok-id.ensures.far c.add.new.self c.in_ok-id.id c.args.lits.now c.in_ok-id.ensures.vacant c.in_ok-id.ensures.added c.requires.clause c.in_ok-id.ensures.near_room c.in_ok-id.ensures.far_room c.args.self.now.progress.conflict c.requires.alive.falsified;
      tells_empty = blank_told (length c.args.self.now.labels.marks) c.args.self.now.arena c.args.self.now.near c.args.self.now.far c.args.self.now.labels c.args.self.now.progress.done c.requires.alive.network c.requires.alive.looked c.add.new.near c.add.new.far c.in_ok-id.ensures.near c.in_ok-id.ensures.far c.add.new.self c.in_ok-id.id c.args.lits.now c.in_ok-id.ensures.vacant c.in_ok-id.ensures.added c.requires.clause c.in_ok-id.ensures.near_room c.in_ok-id.ensures.far_room none;
    }

pub returns-in_default-clause-goes_on : goal.returns-in_default-clause-goes_on
returns-in_default-clause-goes_on c = goes_on_self c.add.new.self c.args.self.now.labels (length c.args.self.now.labels.marks) c.requires.alive.network.are_labels

pub put-requires-clause-room : goal.put-requires-clause-room
put-requires-clause-room c = c.in_ok-id.ensures.near_room

pub put-requires-clause-range : goal.put-requires-clause-range
put-requires-clause-range c =
    let picks : Picks c.args.lits.now c.args.self.now.labels.marks c.in-Some.pair =
    subst (λ (m : Marks). Picks c.args.lits.now m c.in-Some.pair) c.marks.ensures (subst (λ (o : Option Pair). IfSome o (Picks c.args.lits.now c.marks.result.now)) c.in-Some.is c.pick.ensures.some) in
    omega (arith, clause_range (length c.args.self.now.labels.marks) c.args.lits.now c.in-Some.pair.near c.requires.clause picks.near, (fitted_network (length c.args.self.now.labels.marks) c.args.self.now.arena c.args.self.now.near c.args.self.now.far c.args.self.now.labels c.args.self.now.progress.done c.requires.alive.network c.requires.alive.looked c.add.new.near c.add.new.far c.in_ok-id.ensures.near c.in_ok-id.ensures.far).near_rows.of_true)

pub put-requires-2-clause-room : goal.put-requires-2-clause-room
put-requires-2-clause-room c = c.in_ok-id.ensures.far_room

pub put-requires-2-clause-range : goal.put-requires-2-clause-range
put-requires-2-clause-range c =
    let picks : Picks c.args.lits.now c.args.self.now.labels.marks c.in-Some.pair =
    subst (λ (m : Marks). Picks c.args.lits.now m c.in-Some.pair) c.marks.ensures (subst (λ (o : Option Pair). IfSome o (Picks c.args.lits.now c.marks.result.now)) c.in-Some.is c.pick.ensures.some) in
    omega (arith, clause_range (length c.args.self.now.labels.marks) c.args.lits.now c.in-Some.pair.far c.requires.clause picks.far, (fitted_network (length c.args.self.now.labels.marks) c.args.self.now.arena c.args.self.now.near c.args.self.now.far c.args.self.now.labels c.args.self.now.progress.done c.requires.alive.network c.requires.alive.looked c.add.new.near c.add.new.far c.in_ok-id.ensures.near c.in_ok-id.ensures.far).far_rows.of_true)

pub settle-self-requires-clause-labels : goal.settle-self-requires-clause-labels
settle-self-requires-clause-labels c = c.requires.alive.network.are_labels

pub settle-self-requires-clause-range : goal.settle-self-requires-clause-range
settle-self-requires-clause-range c =
    let picks : Picks c.args.lits.now c.args.self.now.labels.marks c.in-Some.pair =
    subst (λ (m : Marks). Picks c.args.lits.now m c.in-Some.pair) c.marks.ensures (subst (λ (o : Option Pair). IfSome o (Picks c.args.lits.now c.marks.result.now)) c.in-Some.is c.pick.ensures.some) in
    clause_range (length c.args.self.now.labels.marks) c.args.lits.now c.in-Some.pair.near c.requires.clause picks.near

pub returns-clause-alive : goal.returns-clause-alive
returns-clause-alive c =
    let picks : Picks c.args.lits.now c.args.self.now.labels.marks c.in-Some.pair =
    subst (λ (m : Marks). Picks c.args.lits.now m c.in-Some.pair) c.marks.ensures (subst (λ (o : Option Pair). IfSome o (Picks c.args.lits.now c.marks.result.now)) c.in-Some.is c.pick.ensures.some) in
    record {
      network =
          subst (λ (r : Rows). IsNetwork (length c.settle-self.new.labels.marks) c.add.new.self r c.put-2.new.self c.settle-self.new.labels) (sym c.put.ensures)
          (subst (λ (r : Rows). IsNetwork (length c.settle-self.new.labels.marks) c.add.new.self (with_watch c.add.new.near c.in_ok-id.id c.in-Some.pair.near) r c.settle-self.new.labels) (sym c.put-2.ensures)
          (pair_network (length c.args.self.now.labels.marks) c.args.self.now.arena c.args.self.now.near c.args.self.now.far c.args.self.now.labels c.args.self.now.progress.done c.requires.alive.network c.requires.alive.looked c.add.new.near c.add.new.far c.in_ok-id.ensures.near c.in_ok-id.ensures.far c.add.new.self c.in_ok-id.id c.args.lits.now c.in_ok-id.ensures.vacant c.in_ok-id.ensures.added c.requires.clause c.in_ok-id.ensures.near_room c.in_ok-id.ensures.far_room c.in-Some.pair picks c.settle-self.new.labels c.args.self.now.progress c.settle-self.result refl c.settle-self.ensures));
      looked =
          subst (λ (r : Rows). IsLooked c.add.new.self r c.put-2.new.self c.settle-self.new.labels c.settle-self.result.done) (sym c.put.ensures)
          (subst (λ (r : Rows). IsLooked c.add.new.self (with_watch c.add.new.near c.in_ok-id.id c.in-Some.pair.near) r c.settle-self.new.labels c.settle-self.result.done) (sym c.put-2.ensures)
          (pair_looked (length c.args.self.now.labels.marks) c.args.self.now.arena c.args.self.now.near c.args.self.now.far c.args.self.now.labels c.args.self.now.progress.done c.requires.alive.network c.requires.alive.looked c.add.new.near c.add.new.far c.in_ok-id.ensures.near c.in_ok-id.ensures.far c.add.new.self c.in_ok-id.id c.args.lits.now c.in_ok-id.ensures.vacant c.in_ok-id.ensures.added c.requires.clause c.in_ok-id.ensures.near_room c.in_ok-id.ensures.far_room c.in-Some.pair picks c.settle-self.new.labels c.args.self.now.progress c.settle-self.result refl c.settle-self.ensures));
      falsified = pair_falsified (length c.args.self.now.labels.marks) c.args.self.now.arena c.args.self.now.near c.args.self.now.far c.args.self.now.labels c.args.self.now.progress.done c.requires.alive.network c.requires.alive.looked c.add.new.near c.add.new.far c.in_ok-id.ensures.near c.in_ok-id.ensures.far c.add.new.self c.in_ok-id.id c.args.lits.now c.in_ok-id.ensures.vacant c.in_ok-id.ensures.added c.requires.clause c.in_ok-id.ensures.near_room c.in_ok-id.ensures.far_room c.in-Some.pair picks c.settle-self.new.labels c.args.self.now.progress c.settle-self.result refl c.settle-self.ensures c.requires.alive.falsified;
      tells_empty = pair_told (length c.args.self.now.labels.marks) c.args.self.now.arena c.args.self.now.near c.args.self.now.far c.args.self.now.labels c.args.self.now.progress.done c.requires.alive.network c.requires.alive.looked c.add.new.near c.add.new.far c.in_ok-id.ensures.near c.in_ok-id.ensures.far c.add.new.self c.in_ok-id.id c.args.lits.now c.in_ok-id.ensures.vacant c.in_ok-id.ensures.added c.requires.clause c.in_ok-id.ensures.near_room c.in_ok-id.ensures.far_room c.in-Some.pair picks c.settle-self.new.labels c.args.self.now.progress c.settle-self.result refl c.settle-self.ensures c.args.self.now.empty c.requires.alive.tells_empty;
    }

pub returns-clause-goes_on : goal.returns-clause-goes_on
returns-clause-goes_on c =
    let picks : Picks c.args.lits.now c.args.self.now.labels.marks c.in-Some.pair =
    subst (λ (m : Marks). Picks c.args.lits.now m c.in-Some.pair) c.marks.ensures (subst (λ (o : Option Pair). IfSome o (Picks c.args.lits.now c.marks.result.now)) c.in-Some.is c.pick.ensures.some) in
    record { grows = c.settle-self.ensures.grows; derivation = λ assumed d. c.settle-self.ensures.derivation c.add.new.self assumed c.args.lits.now c.in_ok-id.ensures.added.changed picks d }
