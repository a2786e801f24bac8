-- What a handle of a model owns: nothing where it is closed, else what a box owns.
use base.Fml.{Fml, ftrue}
use base.Stored.{Coded}
use denote.RawPtr.{Ptr}
use Rattle.std.specs.Box.Ownership.{box_owns}
use Rattle.std.specs.Coded.{coded_option}
use Rattle.std.specs.Global.{Global}
use Rattle.std.specs.Prelude.{Option, None, Some}
use Rattle.std_heap.specs.contracts.GlobalAllocator.TheImpl.{ghosts}
use Rattle.livingstone_c.specs.contracts.accepted.Accepted.{the_row}

abbrev pub owned : Global → Ptr → Option the_row.Denot → Fml
owned alloc at None = ftrue
owned alloc at (Some x) = box_owns (ghosts.dealloc_token alloc) the_row at x

abbrev pub held_coded : Coded (Option the_row.Denot)
held_coded = coded_option the_row.coded
