-- The model of a valve, and the certificate of its diagnosis after a command to open it, where no flow is seen.
use Rattle.std.specs.Prelude.{ℕ, List, [], ◌∷◌, ◌++◌, codes}
use Rattle.lv_model.specs.declared.plant.Plant.{Plant}
use Rattle.lv_cert.specs.declared.line.Question.TheVariants.{Diagnosis}
use Rattle.lv_cert.specs.declared.line.Moment.TheVariants.{Next}
use Rattle.lv_cert.specs.declared.line.Evidence.TheVariants as evidence
use Rattle.lv_cert.specs.declared.line.Head.TheVariants as head
use Rattle.lv_cert.specs.declared.line.Line.{Line}
use Rattle.lv_cert.specs.declared.line.Line.TheVariants as line
use Rattle.lv_checker.specs.Drafts.{bare}
use Rattle.lv_checker.specs.Verdicts.{Verdict, accepted, refused}
use Rattle.lv_checker.specs.Reading.{verdict_on}

unfoldable pub valve_text : List ℕ
valve_text =
    codes "model valve\ndomain flow zero some\ndomain order none open close\n"
    ++ codes "type valve\ncontrol cmd order\nvariable inn flow\n"
    ++ codes "observable out flow\nmode closed\nmode open\n"
    ++ codes "mode stuck_closed\nmode stuck_open\nin closed out = zero\n"
    ++ codes "in open out = inn\nin stuck_closed out = zero\nin stuck_open out = inn\n"
    ++ codes "step closed -> open when cmd = open\nstep open -> closed when cmd = close\nfault closed -> stuck_closed cost 3\n"
    ++ codes "fault open -> stuck_open cost 5\nfault open -> stuck_closed cost 4\nfault closed -> stuck_open cost 8\n"
    ++ codes "end\npart v valve closed\nlaw v.inn = some\n"

-- the plant of an accepted text
abbrev pub plant_in : Verdict → Plant
plant_in (accepted plant) = plant
plant_in (refused code line) = bare

abbrev pub valve : Plant
valve = plant_in (verdict_on valve_text)

-- the lines before the last two
abbrev pub first_lines : List Line
first_lines =
    (line.Certificate Diagnosis)
    ∷ (line.Model (codes "valve"))
    ∷ (line.Numbers head.Limit (4 ∷ []))
    ∷ (line.Numbers head.State (0 ∷ 1 ∷ []))
    ∷ (line.Numbers head.Control (2 ∷ []))
    ∷ (line.Fact Next 4 1)
    ∷ (line.Numbers head.Listed (1 ∷ 3 ∷ []))
    ∷ (line.Numbers head.Now (1 ∷ 2 ∷ 2 ∷ 1 ∷ []))
    ∷ (line.Numbers head.Next (3 ∷ 1 ∷ 2 ∷ 1 ∷ []))
    ∷ (line.Numbers head.Conflict (1 ∷ 1 ∷ []))
    ∷ (line.Clause [] (117 ∷ 92 ∷ 116 ∷ 39 ∷ 44 ∷ 35 ∷ []))
    ∷ (line.Numbers head.Conflict (1 ∷ 2 ∷ []))
    ∷ (line.Clause [] (117 ∷ 115 ∷ 96 ∷ []))
    ∷ (line.Numbers head.Conflict (1 ∷ 4 ∷ []))
    ∷ (line.Clause [] (117 ∷ 100 ∷ 116 ∷ 42 ∷ 44 ∷ 35 ∷ []))
    ∷ (line.Split 1 (evidence.Conflict 1))
    ∷ (line.Split 2 (evidence.Conflict 2))
    ∷ (line.Split 3 (evidence.Listed 1))
    ∷ []

-- all lines
abbrev pub worked_lines : List Line
worked_lines = first_lines ++ (line.Split 4 (evidence.Conflict 3)) ∷ line.End ∷ []

-- without the line before the last
abbrev pub lines_without : List Line
lines_without = first_lines ++ line.End ∷ []
