-- The streams of the system that a shelf has open.
use Rattle.std.specs.Prelude.{ℕ, List, Option, map, slice_get}
use Rattle.std.specs.Option.{option_and_then}
use Rattle.lv_io.specs.declared.Role.{Role}
use Rattle.lv_io.specs.declared.host_shelf.Stream.{Stream}
use Rattle.lv_io.specs.declared.host_shelf.Stream.TheVariants.{File, Stdin}
use Rattle.lv_io.specs.declared.host_shelf.OpenStream.{OpenStream}

-- the role that a stream was opened for
abbrev pub stream_role : {F I : Type 0} → OpenStream F I → Role
stream_role open_stream = open_stream.role

-- the roles of open streams, in order
abbrev pub stream_roles : {F I : Type 0} → List (OpenStream F I) → List Role
stream_roles streams = map stream_role streams

-- the bytes that reads of a stream will give, where it tells them: a file by `of_file`, standard input by `of_stdin`
abbrev pub left_in : {F I : Type 0} → (F → Option (List ℕ)) → (I → Option (List ℕ)) → Stream F I → Option (List ℕ)
left_in of_file of_stdin (File file) = of_file file
left_in of_file of_stdin (Stdin input) = of_stdin input

-- the bytes that reads of the stream at a place will give, where there is one and it tells them
abbrev pub left_at : {F I : Type 0} → (F → Option (List ℕ)) → (I → Option (List ℕ)) → List (OpenStream F I) → ℕ → Option (List ℕ)
left_at of_file of_stdin streams index =
    option_and_then (λ (open_stream : OpenStream _ _). left_in of_file of_stdin open_stream.stream) (slice_get streams index)
