-- The parts stand in the order of their variables, so that the place is found by halves.
use Rattle.std.proofs.Common.{◌≡◌, List, true, false, rules, nat_le, subst, sym}
use Rattle.std.specs.List.Sorted.{IsPartitionedBy, IsPartitionPoint}
use Rattle.std.proofs.lemmas.Bool.{leb-true, leb-false}
use Rattle.std.proofs.lemmas.List.Sorted.{IsPartitionPoint-from_clause, IsPartitionedBy-leb}
use Rattle.lv_model.specs.declared.plant.Part.{Part}
use Rattle.lv_model.proofs.Reading.{follow_pass}
use Rattle.lv_reply.proofs.OwnerLemmas.{parts_rise}
use Rattle.lv_reply.proofs.variables.begun_by.Goals as goal

pub returns : goal.returns
returns c =
    let plant = c.args.model.now in
    let same : plant.parts ≡ c.as_slice.result.now = search rules in
    let rise = parts_rise plant.types plant.parts (follow_pass plant (search rules)) in
    let parted = IsPartitionedBy-leb (λ (p : Part). p.first.0) plant.parts c.args.x rise in
    let there = subst (λ (ps : List Part). IsPartitionedBy (λ (p : Part). nat_le p.first.0 c.args.x) ps) same parted in
    let found = IsPartitionPoint-from_clause (λ (p : Part). nat_le p.first.0 c.args.x) _ _ c.partition_point.ensures.partitioned there (λ a r f k. search rules) in
    let point = subst (λ (ps : List Part). IsPartitionPoint (λ (p : Part). nat_le p.first.0 c.args.x ≡ true) (λ (p : Part). nat_le p.first.0 c.args.x ≡ false) ps c.partition_point.result) (sym same) found in
    record {
      place = (
        λ k d low below. leb-true _ _ (point.0 k d low below),
        λ k d low below. leb-false _ _ (point.1 k d low below),
      );
      few = search rules;
    }
