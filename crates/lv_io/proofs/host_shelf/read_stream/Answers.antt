-- The stream that was read keeps its role.
use Rattle.std.proofs.Common.{ap}
use Rattle.std.proofs.Math.Seq.{map-set_same}
use Rattle.lv_io.specs.Streams.{stream_role}
use Rattle.lv_io.proofs.host_shelf.read_stream.Goals as goal

pub returns-in-File-clause-roles : goal.returns-in-File-clause-roles
returns-in-File-clause-roles g c =
    map-set_same stream_role c.args.streams.now.items c.args.index _ c.index_mut.result.now (ap stream_role c.index_mut.ensures.value)

pub returns-in-Stdin-clause-roles : goal.returns-in-Stdin-clause-roles
returns-in-Stdin-clause-roles g c =
    map-set_same stream_role c.args.streams.now.items c.args.index _ c.index_mut.result.now (ap stream_role c.index_mut.ensures.value)
