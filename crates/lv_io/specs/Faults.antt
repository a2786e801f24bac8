-- A fault of one read as a fault of reading the whole.
use Rattle.lv_io.specs.declared.IoFault.{IoFault}
use Rattle.lv_io.specs.declared.IoFault.TheVariants.{Failed, Memory}
use Rattle.lv_io.specs.declared.ReadFault.{ReadFault}
use Rattle.lv_io.specs.declared.ReadFault.TheVariants.{Failed as ReadFailed, Memory as ReadMemory}

-- the fault of the whole that a fault of one read makes
abbrev pub read_fault_of : IoFault → ReadFault
read_fault_of Failed = ReadFailed
read_fault_of Memory = ReadMemory
