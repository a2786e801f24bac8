-- What a sink in memory tells.
use Rattle.std.specs.Prelude.{ℕ, List, Option, Some}
use Rattle.lv_io.specs.declared.mem_sink.MemSink.{MemSink}

-- the text written so far
abbrev pub mem_text : MemSink → Option (List ℕ)
mem_text sink = Some sink.text.items
