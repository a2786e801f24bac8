-- The piece is the front of what was left.
use Rattle.std.proofs.Common.{length, take, drop, ◌∙◌, ap, arith, length-append, length-take, length-drop}
use Rattle.lv_io.proofs.Readers.{piece_read}
use Rattle.lv_io.proofs.mem_shelf.read_next.Goals as goal

pub returns-clause-bytes : goal.returns-clause-bytes
returns-clause-bytes c =
    let lengths = ap length c.left_of-left.ensures in
    piece_read _ _ c.min-n.result c.copy_from_slice.new.self (drop c.min-n.result c.args.buf.now)
    (c.copy_from_slice.ensures.after ∙ ap (take c.min-n.result) c.left_of-left.ensures)
    (omega (arith, lengths))
    (λ none room. omega (arith, lengths, none, simp (length-append, length-drop) at room, simp length-take at c.copy_from_slice.ensures.len))
