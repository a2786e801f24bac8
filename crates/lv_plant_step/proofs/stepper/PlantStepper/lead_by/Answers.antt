-- what is assumed with the value
use Rattle.std.proofs.Common.{ℕ, ◌∷◌, [], ◌++◌, take, ap, ap₂, ◌∙◌}
use Rattle.lv_base.specs.declared.ids.Lit.{Lit}
use Rattle.lv_clauses.specs.Literals.{in_range}
use Rattle.lv_plant_step.specs.Assuming.{Assumption}
use Rattle.lv_plant_step.proofs.LeadLemmas.{place_in_range, lead_asks}
use Rattle.lv_plant_step.proofs.stepper.PlantStepper.lead_by.Goals as goal

pub assume-requires : goal.assume-requires
assume-requires c =
    ap₂ (λ (n : ℕ) (l : Lit). in_range n l) (ap (λ (s : Assumption). s.bools) c.in_ok-assumed.ensures ∙ c.requires.can.bools) c.literal.ensures
    ∙ place_in_range c.args.self.now c.args.place c.args.val.0 c.requires.below

pub returns-clause-leads : goal.returns-clause-leads
returns-clause-leads c =
    λ asked led.
    c.lead_with.ensures.leads asked (take c.args.place c.args.lead.now.values ++ c.args.val ∷ [])
    (lead_asks c.args.self.now asked c.args.place c.args.lead.now c.args.val c.in_ok-assumed.assumed c.assume.new.self c.literal.result c.requires.can c.requires.below led c.in_ok-assumed.ensures c.literal.ensures
    c.in_ok-assume.ensures)
