-- The texts of lines: words, parted by one space and ended by a line feed.
use Rattle.std.specs.Prelude.{ℕ, List, [], ◌∷◌, ◌++◌, map, codes, decimal, if◌then◌else◌}
use Rattle.lv_cert.specs.declared.line.Question.{Question}
use Rattle.lv_cert.specs.declared.line.Moment.{Moment}
use Rattle.lv_cert.specs.declared.line.Literal.{Literal}
use Rattle.lv_cert.specs.declared.line.Evidence.{Evidence}
use Rattle.lv_cert.specs.declared.line.Head.{Head}
use Rattle.lv_cert.specs.declared.line.Line.{Line}

abbrev pub question_word : Question → List ℕ
question_word Question.Diagnosis = codes "diagnosis"
question_word Question.Recovery = codes "recovery"

abbrev pub moment_word : Moment → List ℕ
moment_word Moment.Now = codes "now"
moment_word Moment.Next = codes "next"

abbrev pub head_word : Head → List ℕ
head_word Head.Limit = codes "k"
head_word Head.State = codes "state"
head_word Head.Control = codes "control"
head_word Head.Listed = codes "listed"
head_word Head.Now = codes "now"
head_word Head.Next = codes "next"
head_word Head.Conflict = codes "conflict"
head_word Head.Recovery = codes "recovery"
head_word Head.Good = codes "good"
head_word Head.Proof = codes "proof"
head_word Head.Counter = codes "counter"

abbrev pub literal_word : Literal → List ℕ
literal_word l = (if l.negated then codes "-" else []) ++ decimal l.number

abbrev pub evidence_words : Evidence → List (List ℕ)
evidence_words (Evidence.Conflict n) = codes "conflict" ∷ decimal n ∷ []
evidence_words (Evidence.Listed n) = codes "listed" ∷ decimal n ∷ []
evidence_words (Evidence.Target n) = codes "target" ∷ decimal n ∷ []
evidence_words Evidence.Recovery = codes "recovery" ∷ []

-- the words of a line; a 0 ends the literals of a clause, and another one its hints
abbrev pub words_of : Line → List (List ℕ)
words_of (Line.Certificate question) = codes "certificate" ∷ question_word question ∷ []
words_of (Line.Model name) = codes "model" ∷ name ∷ []
words_of (Line.Goal text) = codes "goal" ∷ text ∷ []
words_of (Line.Distinct k) = codes "k" ∷ decimal k ∷ codes "distinct" ∷ []
words_of (Line.Fact moment x v) = codes "fact" ∷ moment_word moment ∷ decimal x ∷ decimal v ∷ []
words_of (Line.Clause literals hints) = codes "clause" ∷ (map literal_word literals ++ codes "0" ∷ (map decimal hints ++ codes "0" ∷ []))
words_of (Line.Split zone evidence) = codes "split" ∷ decimal zone ∷ evidence_words evidence
words_of (Line.Numbers head numbers) = head_word head ∷ map decimal numbers
words_of Line.End = codes "end" ∷ []

-- words, each after a space
abbrev pub spaced : List (List ℕ) → List ℕ
spaced [] = []
spaced (w ∷ ws) = codes " " ++ w ++ spaced ws

-- words with a space between them
abbrev pub joined : List (List ℕ) → List ℕ
joined [] = []
joined (w ∷ ws) = w ++ spaced ws

abbrev pub line_text : Line → List ℕ
line_text l = joined (words_of l) ++ codes "\n"

-- the lines one after the other
abbrev pub text_of : List Line → List ℕ
text_of [] = []
text_of (l ∷ ls) = line_text l ++ text_of ls
