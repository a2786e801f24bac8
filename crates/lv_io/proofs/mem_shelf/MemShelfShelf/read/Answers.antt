-- The reader of the slot goes on, and every other stays.
use Rattle.std.proofs.Common.{ℕ, List, [], length, Option, refl, sym, ◌∙◌, ap}
use Rattle.std.specs.Prelude.{unwrap_or}
use Rattle.std.proofs.lemmas.Option.{slice_get_read}
use Rattle.lv_io.specs.Slots.{is_slot}
use Rattle.lv_io.specs.Memory.{File, left_of, piece_of}
use Rattle.lv_io.proofs.Answered.{roles_kept, slot_within}
use Rattle.lv_io.proofs.Readers.{role_at, rest_here}
use Rattle.lv_io.proofs.mem_shelf.MemShelfShelf.read.Goals as goal

pub returns-clause-known : goal.returns-clause-known
returns-clause-known c =
    let within = slot_within role_at c.args.self.now.readers.items c.args.slot c.requires in
    let here = slice_get_read c.args.self.now.readers.items _ c.args.slot.index c.index.result.now refl within c.index.ensures in
    ap is_slot (roles_kept role_at _ _ _ _ here (ap role_at c.read_next-n.ensures.reader))

pub returns-clause-count : goal.returns-clause-count
returns-clause-count c =
    let within = slot_within role_at c.args.self.now.readers.items c.args.slot c.requires in
    let here = slice_get_read c.args.self.now.readers.items _ c.args.slot.index c.index.result.now refl within c.index.ensures in
    c.read_next-n.ensures.count
    ∙ ap (λ (o : Option (List ℕ)). piece_of c.args.self.now.piece (length c.args.buf.now) (length (unwrap_or o [])))
    (ap (λ (files : List File). left_of files c.index.result.now) c.as_slice.ensures.value
    ∙ sym (rest_here c.args.self.now.files.items c.args.self.now.readers.items c.args.slot c.index.result.now c.requires here))
