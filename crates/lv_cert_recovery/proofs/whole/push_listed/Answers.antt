-- the one that is listed recovers
use Rattle.std.proofs.Common.{◌∙◌, ◌<◌, ◌^◌, [], List, length, subst, sym, ap}
use Rattle.std.proofs.lemmas.Result.{IfOk-weaker}
use Rattle.lv_base.specs.declared.rank.Rank.{Rank}
use Rattle.lv_base.specs.Choices.{pairs_of}
use Rattle.lv_cert_recovery.specs.Leading.{asked, excluding, standing, LeadsOn}
use Rattle.lv_cert_recovery.proofs.DoneLemmas.{few_choices, given, answered, none_on}
use Rattle.lv_cert_recovery.proofs.whole.push_listed.Goals as goal

pub returns-in-None-clause-told : goal.returns-in-None-clause-told
returns-in-None-clause-told c =
    none_on c.args.asking.now.plant c.args.asking.now.aim c.args.answer.now.listed.now c.args.answer.now.kept.now c.requires.given (sym c.in-None.ensures.value) c.args.lines.now.items

pub pairs_of-requires : goal.pairs_of-requires
pairs_of-requires c =
    subst (λ us. length us < 2 ^ 32) (sym c.as_slice.ensures)
    (few_choices c.args.asking.now.plant c.args.asking.now.aim c.args.answer.now.listed.now c.args.answer.now.kept.now c.requires.given c.in-Some.rank.now (sym c.in-Some.ensures.value) c.aim-aim.ensures.well_formed)

pub push_recovery-requires-clause-given : goal.push_recovery-requires-clause-given
push_recovery-requires-clause-given c =
    given c.args.asking.now.plant c.args.asking.now.aim c.args.answer.now.listed.now c.args.answer.now.kept.now c.requires.given c.in-Some.rank.now (sym c.in-Some.ensures.value) c.as_slice-in-Some.result.now
    (c.as_slice-in-Some.ensures.value ∙ c.in_ok-pairs-in-Some.ensures ∙ ap pairs_of c.as_slice.ensures)

pub returns-in_ok-pairs-in-Some-clause-told : goal.returns-in_ok-pairs-in-Some-clause-told
returns-in_ok-pairs-in-Some-clause-told c =
    IfOk-weaker c.push_recovery.result _ _
    (λ x on.
    subst
    (λ (rs : List Rank). LeadsOn c.args.asking.now.plant c.args.asking.now.aim (standing asked [] []) (standing excluding rs []) c.args.lines.now.items c.push_recovery.new.lines.items)
    (answered c.args.asking.now.plant c.args.asking.now.aim c.args.answer.now.listed.now c.args.answer.now.kept.now c.requires.given c.in-Some.rank.now (sym c.in-Some.ensures.value) c.as_slice-in-Some.result.now
    (c.as_slice-in-Some.ensures.value ∙ c.in_ok-pairs-in-Some.ensures ∙ ap pairs_of c.as_slice.ensures))
    on)
    c.push_recovery.ensures.told
