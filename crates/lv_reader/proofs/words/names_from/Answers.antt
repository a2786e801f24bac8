use Rattle.std.proofs.Common.{rules}
use Rattle.lv_reader.proofs.WordLists.{joined_words-none, word_taken, word_missing, words_taken}
use Rattle.lv_reader.proofs.words.names_from.Goals as goal

pub loop-at-init : goal.loop-at-init
loop-at-init c = search (rules, joined_words-none)

pub returns-in_err-name_at-clause-refused : goal.returns-in_err-name_at-clause-refused
returns-in_err-name_at-clause-refused c = search (rules, word_missing)

pub loop-at-preserved : goal.loop-at-preserved
loop-at-preserved c = search (rules, word_taken)

pub returns-clause-ok : goal.returns-clause-ok
returns-clause-ok c = search (rules, words_taken)
