-- first one side, then the other
use Rattle.std.proofs.Common.{◌≡◌, false, List, [], length, get_or, refl, ap, subst, ◌∙◌}
use Rattle.lv_base.specs.declared.ids.Lit.{Lit}
use Rattle.lv_clauses.specs.Literals.{neg}
use Rattle.lv_ltms.specs.declared.labels.Link.{Link}
use Rattle.lv_ltms.specs.declared.labels.Reason.TheVariants.{Assumed}
use Rattle.lv_ltms.specs.Watching.{lit_at}
use Rattle.lv_ltms.specs.Standing.{true_before}
use Rattle.lv_ltms.specs.Visiting.{Visits}
use Rattle.lv_ltms.proofs.FindLemmas.{if_none}
use Rattle.lv_ltms.proofs.FalsifyLemmas.{near_members, first_looked, first_members, second_looked, second_further}
use Rattle.lv_ltms.proofs.PairLemmas.{watched_looked, watched_swap}
use Rattle.lv_ltms.proofs.propagation.falsify.Goals as goal

abbrev blank : Link
blank = record { lit = record { var = record { 0 = 0 }; sign = false }; reason = Assumed }

pub visit-requires-clause-members : goal.visit-requires-clause-members
visit-requires-clause-members c =
    near_members c.args.arena.now (lit_at c.args.far.now) (lit_at c.args.near.now) (true_before c.args.at c.args.labels.now.trail) c.args.labels.now.marks [] c.requires.looked.watching.far_side

pub visit-requires-in-None-clause-members : goal.visit-requires-in-None-clause-members
visit-requires-in-None-clause-members c =
    let lit : c.negation-lit.result ≡ neg (get_or c.args.labels.now.trail c.args.at blank).lit = c.negation-lit.ensures ∙ ap (λ (t : List Link). neg (get_or t c.args.at blank).lit) c.trail.ensures in
    let visits : Visits c.args.arena.now (lit_at c.args.near.now) (lit_at c.visit.new.near) (lit_at c.args.far.now) c.args.labels.now c.visit.new.labels (neg (get_or c.args.labels.now.trail c.args.at blank).lit) c.visit.result =
    subst (λ (l : Lit). Visits c.args.arena.now (lit_at c.args.near.now) (lit_at c.visit.new.near) (lit_at c.args.far.now) c.args.labels.now c.visit.new.labels l c.visit.result) lit c.visit.ensures.visits in
    first_members c.args.arena.now (length c.args.labels.now.marks) c.args.near.now c.args.far.now c.args.labels.now c.args.at (get_or c.args.labels.now.trail c.args.at blank) blank c.requires.network c.requires.looked c.requires.place refl c.visit.new.near c.visit.new.labels c.visit.result visits c.visit.ensures.goes_on

pub returns-in-Some-clause-looked : goal.returns-in-Some-clause-looked
returns-in-Some-clause-looked c =
    let lit : c.negation-lit.result ≡ neg (get_or c.args.labels.now.trail c.args.at blank).lit = c.negation-lit.ensures ∙ ap (λ (t : List Link). neg (get_or t c.args.at blank).lit) c.trail.ensures in
    let visits : Visits c.args.arena.now (lit_at c.args.near.now) (lit_at c.visit.new.near) (lit_at c.args.far.now) c.args.labels.now c.visit.new.labels (neg (get_or c.args.labels.now.trail c.args.at blank).lit) c.visit.result =
    subst (λ (l : Lit). Visits c.args.arena.now (lit_at c.args.near.now) (lit_at c.visit.new.near) (lit_at c.args.far.now) c.args.labels.now c.visit.new.labels l c.visit.result) lit c.visit.ensures.visits in
    first_looked c.args.arena.now (length c.args.labels.now.marks) c.args.near.now c.args.far.now c.args.labels.now c.args.at (get_or c.args.labels.now.trail c.args.at blank) blank c.requires.network c.requires.looked c.requires.place refl c.visit.new.near c.visit.new.labels c.visit.result visits c.visit.ensures.goes_on

pub returns-in-None-clause-looked : goal.returns-in-None-clause-looked
returns-in-None-clause-looked c =
    let lit : c.negation-lit.result ≡ neg (get_or c.args.labels.now.trail c.args.at blank).lit = c.negation-lit.ensures ∙ ap (λ (t : List Link). neg (get_or t c.args.at blank).lit) c.trail.ensures in
    let visits : Visits c.args.arena.now (lit_at c.args.near.now) (lit_at c.visit.new.near) (lit_at c.args.far.now) c.args.labels.now c.visit.new.labels (neg (get_or c.args.labels.now.trail c.args.at blank).lit) c.visit.result =
    subst (λ (l : Lit). Visits c.args.arena.now (lit_at c.args.near.now) (lit_at c.visit.new.near) (lit_at c.args.far.now) c.args.labels.now c.visit.new.labels l c.visit.result) lit c.visit.ensures.visits in
    let visits2 : Visits c.args.arena.now (lit_at c.args.far.now) (lit_at c.visit-in-None.new.near) (lit_at c.visit.new.near) c.visit.new.labels c.visit-in-None.new.labels (neg (get_or c.args.labels.now.trail c.args.at blank).lit) c.visit-in-None.result =
    subst (λ (l : Lit). Visits c.args.arena.now (lit_at c.args.far.now) (lit_at c.visit-in-None.new.near) (lit_at c.visit.new.near) c.visit.new.labels c.visit-in-None.new.labels l c.visit-in-None.result) lit c.visit-in-None.ensures.visits in
    second_looked c.args.arena.now (length c.args.labels.now.marks) c.args.near.now c.args.far.now c.args.labels.now c.args.at (get_or c.args.labels.now.trail c.args.at blank) blank c.requires.network c.requires.looked c.requires.place refl c.visit.new.near c.visit.new.labels c.visit.result visits c.visit.ensures.goes_on c.in-None.is c.visit-in-None.new.near c.visit-in-None.new.labels c.visit-in-None.result visits2 c.visit-in-None.ensures.goes_on

pub returns-in-None-clause-more : goal.returns-in-None-clause-more
returns-in-None-clause-more c =
    let lit : c.negation-lit.result ≡ neg (get_or c.args.labels.now.trail c.args.at blank).lit = c.negation-lit.ensures ∙ ap (λ (t : List Link). neg (get_or t c.args.at blank).lit) c.trail.ensures in
    let visits : Visits c.args.arena.now (lit_at c.args.near.now) (lit_at c.visit.new.near) (lit_at c.args.far.now) c.args.labels.now c.visit.new.labels (neg (get_or c.args.labels.now.trail c.args.at blank).lit) c.visit.result =
    subst (λ (l : Lit). Visits c.args.arena.now (lit_at c.args.near.now) (lit_at c.visit.new.near) (lit_at c.args.far.now) c.args.labels.now c.visit.new.labels l c.visit.result) lit c.visit.ensures.visits in
    let visits2 : Visits c.args.arena.now (lit_at c.args.far.now) (lit_at c.visit-in-None.new.near) (lit_at c.visit.new.near) c.visit.new.labels c.visit-in-None.new.labels (neg (get_or c.args.labels.now.trail c.args.at blank).lit) c.visit-in-None.result =
    subst (λ (l : Lit). Visits c.args.arena.now (lit_at c.args.far.now) (lit_at c.visit-in-None.new.near) (lit_at c.visit.new.near) c.visit.new.labels c.visit-in-None.new.labels l c.visit-in-None.result) lit c.visit-in-None.ensures.visits in
    if_none c.visit-in-None.result
    (second_further c.args.arena.now (length c.args.labels.now.marks) c.args.near.now c.args.far.now c.args.labels.now c.args.at (get_or c.args.labels.now.trail c.args.at blank) blank c.requires.network c.requires.looked c.requires.place refl c.visit.new.near c.visit.new.labels c.visit.result visits c.visit.ensures.goes_on c.in-None.is c.visit-in-None.new.near c.visit-in-None.new.labels c.visit-in-None.result visits2 c.visit-in-None.ensures.goes_on)

pub visit-requires-clause-pairs : goal.visit-requires-clause-pairs
visit-requires-clause-pairs c = watched_looked (length c.args.labels.now.marks) c.args.arena.now c.args.near.now c.args.far.now c.args.labels.now c.args.at c.requires.network c.requires.looked

pub visit-requires-in-None-clause-pairs : goal.visit-requires-in-None-clause-pairs
visit-requires-in-None-clause-pairs c =
    let lit : c.negation-lit.result ≡ neg (get_or c.args.labels.now.trail c.args.at blank).lit = c.negation-lit.ensures ∙ ap (λ (t : List Link). neg (get_or t c.args.at blank).lit) c.trail.ensures in
    let visits : Visits c.args.arena.now (lit_at c.args.near.now) (lit_at c.visit.new.near) (lit_at c.args.far.now) c.args.labels.now c.visit.new.labels (neg (get_or c.args.labels.now.trail c.args.at blank).lit) c.visit.result =
    subst (λ (l : Lit). Visits c.args.arena.now (lit_at c.args.near.now) (lit_at c.visit.new.near) (lit_at c.args.far.now) c.args.labels.now c.visit.new.labels l c.visit.result) lit c.visit.ensures.visits in
    watched_swap c.args.arena.now c.visit.new.near c.args.far.now
    (watched_looked (length c.args.labels.now.marks) c.args.arena.now c.visit.new.near c.args.far.now c.visit.new.labels c.args.at c.visit.ensures.network
    (first_looked c.args.arena.now (length c.args.labels.now.marks) c.args.near.now c.args.far.now c.args.labels.now c.args.at (get_or c.args.labels.now.trail c.args.at blank) blank c.requires.network c.requires.looked c.requires.place refl c.visit.new.near c.visit.new.labels c.visit.result visits c.visit.ensures.goes_on))
