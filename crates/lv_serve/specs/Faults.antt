-- Why a session was not served to its end, and whose counts of faults tell it.
use Rattle.std.specs.Prelude.{◌≡◌, ℕ, Result, Ok, Err}
use Rattle.lv_io.specs.Outside.{Rose}
use Rattle.lv_io.specs.declared.IoFault.{IoFault}
use Rattle.lv_io.specs.declared.IoFault.TheVariants.{Failed, Memory as NoMemory}
use Rattle.lv_serve.specs.declared.fault.ServeFault.{ServeFault}
use Rattle.lv_serve.specs.declared.fault.ServeFault.TheVariants.{Read, Write, TooLong, Memory}

-- what a fault of writing ends a serving with
abbrev pub fault_of_sink : IoFault → ServeFault
fault_of_sink Failed = Write
fault_of_sink NoMemory = Memory

-- the shelf's count rose where the session could not be read, and is as before otherwise
abbrev pub HasShelfCause : {T : Type 0} → ℕ → ℕ → Result T ServeFault → Type 0
HasShelfCause old new (Ok x) = new ≡ old
HasShelfCause old new (Err Read) = Rose old new
HasShelfCause old new (Err Write) = new ≡ old
HasShelfCause old new (Err TooLong) = new ≡ old
HasShelfCause old new (Err Memory) = new ≡ old

-- the sink's rose where replies could not be written, and is as before otherwise
abbrev pub HasSinkCause : {T : Type 0} → ℕ → ℕ → Result T ServeFault → Type 0
HasSinkCause old new (Ok x) = new ≡ old
HasSinkCause old new (Err Read) = new ≡ old
HasSinkCause old new (Err Write) = Rose old new
HasSinkCause old new (Err TooLong) = new ≡ old
HasSinkCause old new (Err Memory) = new ≡ old

-- with these ends all that was written is flushed
abbrev pub IsFlushed : {T : Type 0} → Result T ServeFault → Type 0 → Type 0
IsFlushed (Ok x) fact = fact
IsFlushed (Err Read) fact = fact
IsFlushed (Err Write) fact = Unit {0}
IsFlushed (Err TooLong) fact = fact
IsFlushed (Err Memory) fact = Unit {0}
