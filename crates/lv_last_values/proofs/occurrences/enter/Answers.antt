-- the row begins with the new link, which leads to where it began
use Rattle.std.proofs.Common.{◌≡◌, ℕ, [], ◌∷◌, ◌++◌, length, set, ap, ap₂, ◌∙◌, rules}
use Rattle.std.proofs.lemmas.List.{get_or_default}
use Rattle.lv_last_values.proofs.RowLemmas.{entered_names}
use Rattle.lv_last_values.proofs.occurrences.enter.Goals as goal

pub returns-clause-names : goal.returns-clause-names
returns-clause-names c =
    let count : c.len.result ≡ length c.push.new.self.items = search rules in
    entered_names c.args.heads.now.items c.fit.new.heads.items (set c.fit.new.heads.items c.row_of-row.result c.in_ok-heads.field-0) c.args.links.now.items c.push.new.self.items c.row_of-row.result c.args.id c.args.lit c.in_ok-fit.ensures.same c.in_ok-fit.ensures.within
    (c.in_ok-push.ensures.items ∙ ap₂ (λ (number next : ℕ). c.args.links.now.items ++ record { number = number; next = next } ∷ []) c.in_ok-number.ensures (c.index.ensures ∙ get_or_default c.fit.new.heads.items c.row_of-row.result c.index.result.now 0 c.in_ok-fit.ensures.within))
    (ap (set c.fit.new.heads.items c.row_of-row.result) (c.in_ok-heads.ensures ∙ count)) c.row_of-row.ensures
