-- what is written is the least member, which has the cheapest choices
use Rattle.std.proofs.Common.{◌≡◌, List, Some, None, ap, subst}
use Rattle.lv_base.specs.declared.ids.Cost.{Cost}
use Rattle.lv_cert_meaning.specs.Space.{Space, least_rank}
use Rattle.lv_cert_meaning.proofs.LeastLemmas.{rank_told, none_told}
use Rattle.lv_cert_meaning.proofs.space.Space.least_rank.Goals as goal

pub returns-in_ok-from_slice-in-Some-clause-rank : goal.returns-in_ok-from_slice-in-Some-clause-rank
returns-in_ok-from_slice-in-Some-clause-rank c =
    let same : c.self.inside.grid ≡ c.args.self.now.slots = ap (λ (s : Space). s.slots) c.self.view_is in
    subst (λ (slots : List (List Cost)). Some (record { cost = c.in-Some.cost; source = c.source.result; choices = c.in_ok-from_slice-in-Some.field-0 }) ≡ least_rank slots c.args.zone.now) same
    (rank_told c.self.inside.grid c.args.zone.now c.in-Some.cost c.source.result c.write_best.new.out c.in_ok-from_slice-in-Some.field-0 c.source.ensures c.in_ok-from_slice-in-Some.ensures
    c.in-Some.ensures.member c.in-Some.ensures.cost)

pub returns-in-None-clause-rank : goal.returns-in-None-clause-rank
returns-in-None-clause-rank c =
    let same : c.self.inside.grid ≡ c.args.self.now.slots = ap (λ (s : Space). s.slots) c.self.view_is in
    subst (λ (slots : List (List Cost)). None ≡ least_rank slots c.args.zone.now) same (none_told c.self.inside.grid c.args.zone.now c.in-None.ensures.none)
