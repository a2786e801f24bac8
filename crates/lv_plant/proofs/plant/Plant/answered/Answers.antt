-- what a line does, by what it asks for
use Rattle.std.proofs.Common.{◌≡◌, subst, ◌∙◌}
use Rattle.std.proofs.lemmas.Result.{IfOk-weaker}
use Rattle.lv_plant.specs.declared.form.PlantLine.{PlantLine}
use Rattle.lv_plant.specs.Forms as forms
use Rattle.lv_plant.specs.Standing.{handed_on, step, apply, done}
use Rattle.lv_plant.proofs.PlantLemmas.{done_as}
use Rattle.lv_plant.proofs.plant.Plant.answered.Goals as goal

pub returns-in-Nothing : goal.returns-in-Nothing
returns-in-Nothing c =
    done_as c.args.self.now c.args.line.now forms.nothing (subst (λ (l : PlantLine). forms.Asks l (forms.asked_by c.args.line.now)) c.in-Nothing.is c.in_ok-asked_by.ensures)

pub returns-in-Refused : goal.returns-in-Refused
returns-in-Refused c =
    done_as c.args.self.now c.args.line.now (forms.refused c.in-Refused.fault) (subst (λ (l : PlantLine). forms.Asks l (forms.asked_by c.args.line.now)) c.in-Refused.is c.in_ok-asked_by.ensures)

pub returns-in-ForSession : goal.returns-in-ForSession
returns-in-ForSession c =
    IfOk-weaker c.hand_on.result (λ reply. record { next = c.hand_on.new.self; reply = reply } ≡ handed_on c.args.self.now.session.plant c.args.self.now c.args.line.now)
    (λ reply. record { next = c.hand_on.new.self; reply = reply } ≡ done c.args.self.now c.args.line.now)
    (λ reply e. e ∙ done_as c.args.self.now c.args.line.now forms.for_session (subst (λ (l : PlantLine). forms.Asks l (forms.asked_by c.args.line.now)) c.in-ForSession.is c.in_ok-asked_by.ensures)) c.hand_on.ensures

pub returns-in-Name : goal.returns-in-Name
returns-in-Name c =
    c.name.ensures
    ∙ done_as c.args.self.now c.args.line.now (forms.name c.in-Name.part.now c.in-Name.tag) (subst (λ (l : PlantLine). forms.Asks l (forms.asked_by c.args.line.now)) c.in-Name.is c.in_ok-asked_by.ensures)

pub returns-in-Step : goal.returns-in-Step
returns-in-Step c =
    IfOk-weaker c.go_on.result (λ reply. record { next = c.go_on.new.self; reply = reply } ≡ step c.args.self.now.session.plant c.args.self.now)
    (λ reply. record { next = c.go_on.new.self; reply = reply } ≡ done c.args.self.now c.args.line.now)
    (λ reply e. e ∙ done_as c.args.self.now c.args.line.now forms.step (subst (λ (l : PlantLine). forms.Asks l (forms.asked_by c.args.line.now)) c.in-Step.is c.in_ok-asked_by.ensures)) c.go_on.ensures

pub returns-in-Apply : goal.returns-in-Apply
returns-in-Apply c =
    IfOk-weaker c.apply.result (λ reply. record { next = c.apply.new.self; reply = reply } ≡ apply c.args.self.now)
    (λ reply. record { next = c.apply.new.self; reply = reply } ≡ done c.args.self.now c.args.line.now)
    (λ reply e. e ∙ done_as c.args.self.now c.args.line.now forms.apply (subst (λ (l : PlantLine). forms.Asks l (forms.asked_by c.args.line.now)) c.in-Apply.is c.in_ok-asked_by.ensures)) c.apply.ensures
