-- the numbers read off are those of the step that is encoded
use Rattle.std.proofs.Common.{map, ap, subst, ◌∙◌}
use Rattle.lv_compile.specs.Booleans.{Booleans}
use Rattle.lv_system.specs.Encoding.{truth_in, value_numbered, move_numbered}
use Rattle.lv_system.specs.System.{SystemValue}
use Rattle.lv_system.specs.Decoding.{AreNumbers}
use Rattle.lv_system.proofs.DecodingLemmas.{decoded_by}
use Rattle.lv_system.proofs.system.StepSystem.decode.Goals as goal

pub returns : goal.returns
returns c =
    let values = c.args.values.now in
    let first = c.in_ok-now.now.items in
    let second = c.in_ok-next.next.items in
    let third = c.in_ok-moves.moves.items in
    let now = subst (λ (s : SystemValue). AreNumbers (truth_in values) s.before first) c.self.view_is c.in_ok-now.ensures in
    let after = subst (λ (s : SystemValue). AreNumbers (truth_in values) s.after second) c.self.view_is c.in_ok-next.ensures in
    let chosen = subst (λ (b : Booleans). AreNumbers (truth_in values) b third) c.as_values.ensures c.in_ok-moves.ensures in
    let moves = subst (λ (s : SystemValue). AreNumbers (truth_in values) (record { sizes = s.counts; first = s.first_choice }) third) c.self.view_is chosen in
    decoded_by c.args.self.now values c.requires.whole c.requires.satisfied first second third now after moves _ _ _
    (c.from_vec.ensures ∙ c.in_ok-values_numbered.ensures ∙ ap (λ ns. map value_numbered ns) c.as_slice.ensures.value)
    (c.from_vec-2.ensures ∙ c.in_ok-values_numbered-2.ensures ∙ ap (λ ns. map value_numbered ns) c.as_slice-2.ensures.value)
    (c.from_vec-3.ensures ∙ c.in_ok-moves_numbered.ensures ∙ ap (λ ns. map move_numbered ns) c.as_slice-3.ensures.value)
