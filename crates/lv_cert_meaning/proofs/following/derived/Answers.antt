-- a boolean that stands twice
use Rattle.std.proofs.Common.{◌≡◌, ◌++◌, Bool, false, List, Option, Some, None, length, map, sym, ap, ◌∙◌, if◌then◌else◌}
use Rattle.std.specs.List.{list_all}
use Rattle.std.proofs.lemmas.List.{length-replicate}
use Rattle.lv_base.specs.declared.ids.Lit.{Lit}
use Rattle.lv_clauses.specs.Literals.{is_clause}
use Rattle.lv_clauses.specs.ClauseMap.{ClauseMap}
use Rattle.lv_clauses.specs.Marks.{Marks}
use Rattle.lv_cert_meaning.specs.Blocks.{clauses_of}
use Rattle.lv_cert_meaning.specs.Following as Following
use Rattle.lv_cert_meaning.specs.Following.{names_boolean}
use Rattle.lv_cert_meaning.proofs.RangeLemmas.{twice_named}
use Rattle.lv_cert_meaning.proofs.following.derived.Goals as goal

pub returns-then-not-branch-clause-derived : goal.returns-then-not-branch-clause-derived
returns-then-not-branch-clause-derived c =
    let bools = c.args.system.now.set.bools in
    let counted : c.bools.result ≡ bools = c.bools.ensures ∙ ap (λ (s : ClauseMap). s.bools) c.clauses.ensures in
    let size : length c.args.marks.now ≡ bools = ap (λ (m : Marks). length m) c.requires.blank ∙ length-replicate {A = Option Bool} bools None in
    let twice : is_clause bools c.as_slice.result.now ≡ false = ap (λ n. is_clause n c.as_slice.result.now) (sym size) ∙ sym c.in_ok-deny-in-Some.ensures.is_clause ∙ c.if-not-branch.true in
    let read : Some c.as_slice.result.now ≡ (if list_all (names_boolean bools) c.args.literals.now then Some (map Following.literal_of c.args.literals.now) else None) =
    ap (λ (ls : List Lit). Some ls) c.as_slice.ensures
    ∙ sym c.in-Some.is
    ∙ c.in_ok-literals_of.ensures
    ∙ ap (λ n. if list_all (names_boolean n) c.args.literals.now then Some (map Following.literal_of c.args.literals.now) else None) counted in
    let out = twice_named bools (clauses_of c.args.system.now ++ c.args.own.now) c.args.literals.now c.args.hints.now c.as_slice.result.now read twice in
    sym (ap (λ b. if b then Some (map Following.literal_of c.args.literals.now) else None) out)
