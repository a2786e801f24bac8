-- what was read, with what is left, is all, and all are numbers of booleans where those of what is left are
use Rattle.std.proofs.Common.{◌≡◌, ◌++◌, map, drop}
use Rattle.std.specs.List.{list_all}
use Rattle.lv_cert_meaning.specs.Following as Following
use Rattle.lv_cert_meaning.proofs.following.literals_of.Given as goal

abbrev pub invariant-loop-literal : goal.invariant-loop-literal
invariant-loop-literal l =
    record {
      lits : l.lits ++ map Following.literal_of (drop l.literal-index l.literals) ≡ map Following.literal_of l.literals;
      named : list_all (Following.names_boolean l.bools) (drop l.literal-index l.literals) ≡ list_all (Following.names_boolean l.bools) l.literals;
    }
