-- The words that statements begin with.
use Rattle.std.specs.Prelude.{List, if◌then◌else◌, Option, Some, None, codes}
use Rattle.lv_base.specs.declared.names.Class.TheVariants.{Control, Dependent, Observable}
use Rattle.lv_text.specs.Lexemes.{Lexeme, says}
use Rattle.lv_reader.specs.declared.keyword.Keyword.{Keyword}
use Rattle.lv_reader.specs.declared.keyword.Keyword.TheVariants.{ModelWord, DomainWord, TypeWord, ClassWord, ModeWord, LawWord, InWord, StepWord, FaultWord, EndWord, PartWord, PriceWord, VersionWord}

-- the word that a line begins with, if it is one of those that stand in types alone
abbrev pub keyword_in_type : List Lexeme → Option Keyword
keyword_in_type line =
    if says (codes "control") line 0 then Some (ClassWord Control)
    else (if says (codes "variable") line 0 then Some (ClassWord Dependent)
    else (if says (codes "observable") line 0 then Some (ClassWord Observable)
    else (if says (codes "mode") line 0 then Some ModeWord
    else (if says (codes "in") line 0 then Some InWord
    else (if says (codes "step") line 0 then Some StepWord
    else (if says (codes "fault") line 0 then Some FaultWord
    else (if says (codes "end") line 0 then Some EndWord
    else None)))))))

-- the word of a statement that a line begins with, if it begins with one
unfoldable pub keyword_of : List Lexeme → Option Keyword
keyword_of line =
    if says (codes "law") line 0 then Some LawWord
    else (if says (codes "part") line 0 then Some PartWord
    else (if says (codes "price") line 0 then Some PriceWord
    else (if says (codes "domain") line 0 then Some DomainWord
    else (if says (codes "type") line 0 then Some TypeWord
    else (if says (codes "model") line 0 then Some ModelWord
    else (if says (codes "version") line 0 then Some VersionWord
    else keyword_in_type line))))))
