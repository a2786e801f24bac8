-- The slots before stay as they were, and the new one stands at the first byte.
use Rattle.std.proofs.Common.{◌≡◌, Some, sym, ◌∙◌, ap}
use Rattle.lv_io.specs.Memory.{place_of}
use Rattle.lv_io.proofs.Answered.{known_stays}
use Rattle.lv_io.proofs.Readers.{role_at, rest_stays, file_there}
use Rattle.lv_io.proofs.mem_shelf.MemShelfShelf.open.Goals as goal

pub returns-in-Some-clause-stays : goal.returns-in-Some-clause-stays
returns-in-Some-clause-stays c = λ s known. rw (c.add_reader.ensures.added, c.in_ok-reserve.ensures.items) (known_stays role_at _ _ s known)

pub returns-in-Some-clause-left : goal.returns-in-Some-clause-left
returns-in-Some-clause-left c = λ s known. rw (c.add_reader.ensures.added, c.in_ok-reserve.ensures.items) (rest_stays _ _ _ s known)

pub returns-in-Some-clause-found : goal.returns-in-Some-clause-found
returns-in-Some-clause-found c =
    let place : place_of c.args.self.now.files.items c.args.name.now ≡ Some c.in-Some.file =
    ap (λ files. place_of files c.args.name.now) (sym c.as_slice.ensures.value) ∙ sym c.place_of.ensures ∙ c.in-Some.is in
    (sym c.if-not-fails.ensures.answer, file_there c.args.self.now.files.items c.args.name.now c.in-Some.file place)
