use Rattle.std.proofs.Common.{◌≡◌, ◌++◌}
use Rattle.lv_checker.proofs.types.add_lists_laws.Given as goal

-- the laws left come behind those that are there
abbrev pub invariant-laws : goal.invariant-laws
invariant-laws l =
    record l.lists { formulas = l.lists.formulas ++ l.law-iterator.rest.items }
    ≡ record (l.initial.lists) { formulas = l.initial.lists.formulas ++ l.initial.law-iterator.rest.items }
