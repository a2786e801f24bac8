-- the store tells whether the candidate is ruled out
use Rattle.std.proofs.Common.{sym, ◌∙◌, ap}
use Rattle.lv_search.specs.Turn.{standing}
use Rattle.lv_search.proofs.NextLemmas.{asked, passes_over, not_ruled_out}
use Rattle.lv_search.proofs.turn.next_at.Goals as goal

pub returns-in-Some : goal.returns-in-Some
returns-in-Some c left first =
    passes_over (standing left c.args.held.now) c.args.rank first c.requires c.in-Some.number (sym (asked c.args.held.now.conflicts c.in_ok-candidate.ensures c.as_slice.ensures c.contained_in.ensures) ∙ c.in-Some.is)

pub next_allowed-requires-clause-allowed : goal.next_allowed-requires-clause-allowed
next_allowed-requires-clause-allowed c =
    not_ruled_out c.args.held.now.conflicts c.args.rank.choices (sym (asked c.args.held.now.conflicts c.in_ok-candidate.ensures c.as_slice.ensures c.contained_in.ensures) ∙ c.in-None.is)

pub next_allowed-requires-clause-candidate : goal.next_allowed-requires-clause-candidate
next_allowed-requires-clause-candidate c = c.in_ok-candidate.ensures ∙ ap (λ choices. record { source = c.args.rank.source; choices = choices }) c.as_slice.ensures
