-- one number fewer is to be looked at
use Rattle.std.proofs.Common.{ℕ, ◌-◌, length, [], sym, ap, ◌∙◌, arith, inl, inr}
use Rattle.std.proofs.lemmas.Bool.{cases_eq}
use Rattle.lv_clauses.specs.ClauseMap.{Slots, clause_at}
use Rattle.lv_ltms.specs.Standing.{has_no_lits}
use Rattle.lv_ltms.proofs.BlankLemmas.{blank_is, no_blank, some_within}
use Rattle.lv_ltms.proofs.FindLemmas.{is_there}
use Rattle.lv_ltms.proofs.arena.Arena.first_blank.Goals as goal

pub loop-bound-init : goal.loop-bound-init
loop-bound-init c = λ id some. inl (omega (arith, some_within c.args.self.now id some, ap (λ (s : Slots). length s) c.self.view_is, c.capacity-bound.ensures.slots))

pub returns-then-is_blank : goal.returns-then-is_blank
returns-then-is_blank c = blank_is (clause_at c.args.self.now (c.loop-bound.bound - 1)) (sym c.is_blank.ensures ∙ c.if-is_blank.true)

pub loop-bound-preserved : goal.loop-bound-preserved
loop-bound-preserved c =
    λ id some. elim (c.loop-bound.invariant id some) [
      | inr fine ↦ inr fine
      | inl below ↦ elim (cases_eq id (c.loop-bound.bound - 1)) [
        | inl same ↦ inr (ap (λ (i : ℕ). has_no_lits (clause_at c.args.self.now i)) same ∙ sym c.is_blank.ensures ∙ c.if-is_blank.false)
        | inr differs ↦ inl (omega (arith, below, differs))
      ]
    ]

pub returns : goal.returns
returns c =
    record {
      never = λ id e. elim (c.loop-bound.invariant id (is_there (clause_at c.args.self.now id) [] e)) [
        | inl below ↦ absurd (omega (arith, below, c.loop-bound-test.false))
        | inr fine ↦ absurd (cc (no_blank (clause_at c.args.self.now id) e, fine))
      ];
    }
