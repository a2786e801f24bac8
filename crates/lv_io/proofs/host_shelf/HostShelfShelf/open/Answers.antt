-- The slots before stay answered.
use Rattle.lv_io.specs.Streams.{stream_role}
use Rattle.lv_io.proofs.Answered.{known_stays}
use Rattle.lv_io.proofs.host_shelf.HostShelfShelf.open.Goals as goal

pub returns-in-Ok-clause-stays : goal.returns-in-Ok-clause-stays
returns-in-Ok-clause-stays g c = λ s known. rw (c.add_stream.ensures.added, c.in_ok-reserve.ensures.items) (known_stays stream_role _ _ s known)
