-- What a fault of resolving says.
use Rattle.std.specs.Prelude.{◌≡◌, Result, Err}
use Rattle.lv_base.specs.Tree.{Tree}
use Rattle.lv_formula_text.specs.declared.resolver.NameFault.{NameFault}
use Rattle.lv_formula_text.specs.declared.resolver.NameFault.TheVariants as name_fault
use Rattle.lv_formula_text.specs.declared.resolver.ResolveFault.{ResolveFault}
use Rattle.lv_formula_text.specs.declared.resolver.ResolveFault.TheVariants.{UnknownName, NoFit, Memory}

-- the fault is the first from the left; want of memory tells nothing
abbrev pub Tells : ResolveFault → Result Tree NameFault → Type 0
Tells UnknownName found = found ≡ Err name_fault.UnknownName
Tells NoFit found = found ≡ Err name_fault.NoFit
Tells Memory found = Unit {0}
