-- a clause is known to be false, or all is looked at
use Rattle.std.proofs.Common.{sym, ◌∙◌}
use Rattle.lv_ltms.proofs.RestLemmas.{stops_falsified, falsified_stops, network_sized}
use Rattle.lv_ltms.proofs.network.Network.propagate.Goals as goal

pub returns-then-is_some-clause-rested : goal.returns-then-is_some-clause-rested
returns-then-is_some-clause-rested c =
    record {
      alive = c.requires;
      stops = falsified_stops c.args.self.now.arena c.args.self.now.labels c.args.self.now.progress.done c.args.self.now.progress.conflict (sym c.is_some.ensures ∙ c.if-is_some.true) c.requires.falsified;
    }

pub returns-clause-rested : goal.returns-clause-rested
returns-clause-rested c =
    record {
      alive =
          record {
            network = network_sized c.args.self.now.arena c.propagate-self.new.near c.propagate-self.new.far c.args.self.now.labels c.propagate-self.new.labels c.propagate-self.ensures.goes_on c.propagate-self.ensures.network;
            looked = c.propagate-self.ensures.looked;
            falsified = stops_falsified c.args.self.now.arena c.propagate-self.new.labels c.propagate-self.result.done c.propagate-self.result.conflict c.propagate-self.ensures.stops;
            tells_empty = c.requires.tells_empty;
          };
      stops = c.propagate-self.ensures.stops;
    }
