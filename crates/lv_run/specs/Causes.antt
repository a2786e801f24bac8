-- Whose fault the end of a run was, and what the run left flushed.
use Rattle.std.specs.Prelude.{◌≡◌, ◌≢◌, ℕ, Bool, true}
use Rattle.lv_io.specs.Outside.{Rose}
use Rattle.lv_io.specs.declared.Role.{Role}
use Rattle.lv_io.specs.declared.Role.TheVariants.{Model, Second}
use Rattle.lv_run.specs.declared.status.Status.{Status}
use Rattle.lv_run.specs.declared.status.Status.TheVariants.{ModelUnread, SecondUnread, OutputFailed, OutOfMemory}

-- of a sink: what was written is flushed where it was so before, but where a write failed or memory was wanting; and it counts a
-- fault more exactly where the status tells of one
pub record SinkEnds (status : Status) (was_flushed is_flushed : Bool) (before after : ℕ) : Type 0 where
  pub flushed : status ≢ OutputFailed → status ≢ OutOfMemory → was_flushed ≡ true → is_flushed ≡ true
  pub failed : status ≡ OutputFailed → Rose before after
  pub as_before : status ≢ OutputFailed → after ≡ before

-- of a shelf: it counts a fault more of the file that couldn't be read, and none else
pub record ShelfEnds (status : Status) (before after : Role → ℕ) : Type 0 where
  pub model_unread : status ≡ ModelUnread → Rose (before Model) (after Model)
  pub second_unread : status ≡ SecondUnread → Rose (before Second) (after Second)
  pub as_before : status ≢ ModelUnread → status ≢ SecondUnread → (r : Role) → after r ≡ before r
