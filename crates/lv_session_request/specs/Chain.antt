-- Refusals in their order: what comes first decides.
use Rattle.std.specs.Prelude.{Result, Ok, Err}
use Rattle.lv_reply.specs.declared.reply.Refusal.{Refusal}

-- what is asked of something that was found; a refusal stays
abbrev pub and_then : {X Y : Type 0} → Result X Refusal → (X → Result Y Refusal) → Result Y Refusal
and_then (Ok x) f = f x
and_then (Err refusal) f = Err refusal
