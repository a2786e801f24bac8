-- the entries before the cut are a trail, and no entry there has the boolean
use Rattle.std.proofs.Common.{Some, None, false, get_or, sym, rules, ap, ap₂, subst, ◌∙◌, ◌≡◌, List, ◌++◌, ◌∷◌, []}
use Rattle.lv_base.specs.declared.ids.Lit.{Lit}
use Rattle.lv_clauses.specs.Literals.{neg}
use Rattle.lv_clauses.specs.Marks.{marked}
use Rattle.lv_trail.specs.declared.trail.Entry.{Entry}
use Rattle.lv_trail.specs.Trail.{IsTrail}
use Rattle.lv_trail.proofs.TrailLemmas.{trail_turned}
use Rattle.lv_trail.proofs.trail.Trail.turn.Goals as goal

abbrev blank : Entry
blank = record { lit = record { var = record { 0 = 0 }; sign = false }; reason = None }

pub returns-clause-trail : goal.returns-clause-trail
returns-clause-trail c =
    λ cs log trail turn.
    let lit : c.negation-lit.result ≡ neg (get_or c.args.self.now.entries.items c.args.flip.place blank).lit = search rules in
    subst (λ m. IsTrail cs log m c.push.new.self.entries.items) (sym (c.in_ok-push.ensures.marks ∙ ap (marked c.cut.new.self.marks.items) lit))
    (subst (IsTrail cs log (marked c.cut.new.self.marks.items (neg (get_or c.args.self.now.entries.items c.args.flip.place blank).lit)))
    (sym (c.in_ok-push.ensures.entries ∙ ap₂ (λ (es : List Entry) (l : Lit). es ++ record { lit = l; reason = Some c.args.hint } ∷ []) c.cut.ensures.entries lit))
    (trail_turned cs log c.cut.new.self.marks.items c.args.self.now.entries.items c.args.flip blank c.args.hint c.requires.place c.requires.cut trail.chain turn (subst (IsTrail cs log c.cut.new.self.marks.items) c.cut.ensures.entries (c.cut.ensures.trail cs log trail))))
