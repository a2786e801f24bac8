-- What a call opens: of the files that its words ask for a front, by the status that it ends with.
use Rattle.std.specs.Prelude.{◌≡◌, List, ◌++◌, take}
use Rattle.lv_io.specs.Outside.{Opened}
use Rattle.lv_run.specs.Inputs.{AddsOpens}
use Rattle.lv_run.specs.declared.status.Status.{Status}
use Rattle.lv_run.specs.declared.status.Status.TheVariants.{Done, WordsRefused, ModelRefused, ModelUnread, SecondUnread, OutputFailed, SecondTooLong, OutOfMemory, Invalid}

-- refused words open nothing; a model that is refused or not read is opened alone; the second file is opened only behind an
-- accepted model; where a write failed or memory was wanting, some front of the two was opened
abbrev pub HasOpened : List Opened → List Opened → List Opened → Status → Type 0
HasOpened asked old new Done = new ≡ old ++ asked
HasOpened asked old new WordsRefused = new ≡ old
HasOpened asked old new ModelRefused = new ≡ old ++ take 1 asked
HasOpened asked old new ModelUnread = new ≡ old ++ take 1 asked
HasOpened asked old new SecondUnread = new ≡ old ++ asked
HasOpened asked old new OutputFailed = AddsOpens old asked new
HasOpened asked old new SecondTooLong = new ≡ old ++ asked
HasOpened asked old new OutOfMemory = AddsOpens old asked new
HasOpened asked old new Invalid = new ≡ old ++ asked
