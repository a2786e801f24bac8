-- The number by which the code of a refused text is told.
use Rattle.std.specs.Prelude.{ℕ}
use Rattle.lv_reader.specs.declared.code.ModelCode.{ModelCode}
use Rattle.lv_reader.specs.declared.code.ModelCode.TheVariants.{TextTooLong, BadByte, LongLine, UnknownStatement, Form, NumberOutOfRange, NameInUse, UnknownName, NoFit, Misplaced, NotEnded, LimitPassed, TooDeep, TooManyClauses, NoPart}

abbrev pub number_of : ModelCode → ℕ
number_of TextTooLong = 1
number_of BadByte = 2
number_of LongLine = 3
number_of UnknownStatement = 4
number_of Form = 5
number_of NumberOutOfRange = 6
number_of NameInUse = 7
number_of UnknownName = 8
number_of NoFit = 9
number_of Misplaced = 10
number_of NotEnded = 11
number_of LimitPassed = 12
number_of TooDeep = 13
number_of TooManyClauses = 14
number_of NoPart = 15
