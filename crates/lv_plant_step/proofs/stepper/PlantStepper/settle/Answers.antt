-- a smaller value is found, or none will do and the lead's own is settled
use Rattle.std.proofs.Common.{◌∙◌}
use Rattle.std.proofs.lemmas.Result.{on_ok_weaker}
use Rattle.lv_plant_step.proofs.SettledLemmas.{last_below, tried_below, last_in_range, earlier_led, none_earlier, own_led}
use Rattle.lv_plant_step.proofs.stepper.PlantStepper.settle.Goals as goal

pub lead_by-requires-clause-below : goal.lead_by-requires-clause-below
lead_by-requires-clause-below c =
    tried_below c.args.self.now c.args.lead.now c.args.place c.requires.can c.requires.place c.loop-v.self c.loop-v.invariant.self c.as_slice.result.now c.as_slice.ensures c.loop-v.v c.loop-v-test.true

pub returns-in-Some-clause-led : goal.returns-in-Some-clause-led
returns-in-Some-clause-led c =
    λ asked led.
    earlier_led c.args.self.now asked c.args.lead.now c.args.place c.loop-v.v c.requires.place led (c.loop-v.invariant.none asked led) c.loop-v.self c.loop-v.invariant.self c.loop-v.lead
    c.loop-v.invariant.lead c.in_ok-earlier.field-0 (c.in_ok-earlier.ensures.leads asked) c.in-Some.earlier c.in-Some.is

pub loop-v-preserved : goal.loop-v-preserved
loop-v-preserved c =
    record {
      self = c.in_ok-earlier.ensures.kept ∙ c.loop-v.invariant.self;
      lead = c.loop-v.invariant.lead;
      none =
          λ asked led.
          none_earlier c.args.self.now asked c.args.lead.now c.args.place c.loop-v.v c.requires.place led (c.loop-v.invariant.none asked led) c.loop-v.self c.loop-v.invariant.self c.loop-v.lead
          c.loop-v.invariant.lead c.in_ok-earlier.field-0 (c.in_ok-earlier.ensures.leads asked) c.in_default.is;
    }

pub literal-requires : goal.literal-requires
literal-requires c =
    last_below c.args.self.now c.args.lead.now c.args.place c.requires.can c.requires.place c.loop-v.self c.loop-v.invariant.self c.as_slice.result.now c.as_slice.ensures

pub assume-requires : goal.assume-requires
assume-requires c =
    last_in_range c.args.self.now c.args.lead.now c.args.place c.requires.can c.requires.place c.loop-v.self c.loop-v.invariant.self c.as_slice.result.now c.as_slice.ensures c.loop-v.lead
    c.loop-v.invariant.lead c.literal.result c.literal.ensures

pub returns-clause-led : goal.returns-clause-led
returns-clause-led c =
    λ asked led.
    on_ok_weaker c.assume.result
    (λ more.
    own_led c.args.self.now asked c.args.lead.now c.args.place c.loop-v.v c.requires.place c.requires.can led (c.loop-v.invariant.none asked led) c.loop-v.self c.loop-v.invariant.self c.loop-v.lead
    c.loop-v.invariant.lead c.as_slice.result.now c.as_slice.ensures c.loop-v-test.false c.literal.result c.literal.ensures c.assume.new.self more)
    c.assume.ensures
