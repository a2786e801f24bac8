use Rattle.std.proofs.Common.{◌≡◌, drop}
use Rattle.std.specs.List.{list_all}
use Rattle.std.specs.Option.{option_copied}
use Rattle.lv_cert_meaning.specs.Space.{is_passed, all_passed}
use Rattle.lv_cert_meaning.proofs.space.Space.all_passed.Given as goal

-- the zones that are left are passed exactly where all are
abbrev pub invariant-loop-place : goal.invariant-loop-place
invariant-loop-place l =
    record {
      left : list_all (is_passed l.self.slots (option_copied l.last)) (drop l.place l.self.zones) ≡ all_passed l.self (option_copied l.last);
      walk : l.walk ≡ l.self.zones;
    }
