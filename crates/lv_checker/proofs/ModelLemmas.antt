-- What a fault tells of the bytes, and how many lines they have at most.
use Rattle.std.proofs.Common.{◌≡◌, ◌≤◌, ◌<◌, ◌^◌, ℕ, suc, List, [], ◌∷◌, length, Bool, true, false, refl, sym, ◌∙◌, ap, arith}
use Rattle.std.specs.List.{onto_first}
use Rattle.std.specs.Str.Lines.{strip_carriage_return}
use Rattle.std.proofs.lemmas.List.{length-map}
use Rattle.lv_formula_text.specs.lv_text.Lines.{is_line_feed, unended_lines, lines_of}
use Rattle.lv_model.specs.declared.plant.Plant.{Plant}
use Rattle.lv_reader.specs.declared.code.ModelCode.{ModelCode}
use Rattle.lv_reader.specs.declared.fault.ModelFault.{ModelFault}
use Rattle.lv_reader.specs.declared.fault.ModelFault.TheVariants.{At, Memory}
use Rattle.lv_reader.specs.declared.statement.ModelText.{ModelText}
use Rattle.lv_reader.specs.Texts.{ReadsAs, TellsReading}
use Rattle.lv_checker.specs.Checking.{Checked, fine, faulty, checked, Finds}
use Rattle.lv_checker.specs.Verdicts.{accepted, refused, verdict_of, IsVerdict, not_read, is_checked, Tells}

pub reading_tells : (bytes : List ℕ) (fault : ModelFault) → TellsReading fault bytes → Tells fault bytes
reading_tells bytes (At code line) h = not_read code line h refl
reading_tells bytes Memory h = tt

found_refused : (c : Checked Plant) (code : ModelCode) (line : ℕ) → Finds (At code line) c → refused code line ≡ verdict_of c
found_refused (fine plant) code line h = absurd h
found_refused (faulty c n) code line h = ap (λ (x : ModelCode). refused x line) h.0 ∙ ap (refused c) h.1

pub checking_tells : (bytes : List ℕ) (text : ModelText) → ReadsAs bytes text → (fault : ModelFault) → Finds fault (checked text) → Tells fault bytes
checking_tells bytes text reads (At code line) h = is_checked text reads (found_refused (checked text) code line h)
checking_tells bytes text reads Memory h = tt

pub text_accepted : (bytes : List ℕ) (text : ModelText) (plant : Plant) → ReadsAs bytes text → checked text ≡ fine plant → IsVerdict bytes (accepted plant)
text_accepted bytes text plant reads e = is_checked text reads (sym (ap verdict_of e))

onto_few : (b n : ℕ) (ls : List (List ℕ)) → length ls ≤ n → length (onto_first b ls) ≤ suc n
onto_few b n [] h = omega arith
onto_few b n (l ∷ ls) h = omega arith

unended_few : (text : List ℕ) → length (unended_lines text) ≤ length text
unended_few [] = omega arith
unended_few (b ∷ more) = by_value (is_line_feed b) refl (unended_few more)
  where
    by_value : (feed : Bool) → is_line_feed b ≡ feed → length (unended_lines more) ≤ length more → length (unended_lines (b ∷ more)) ≤ length (b ∷ more)
    by_value true e h = rw e (omega (arith, h))
    by_value false e h = rw e (onto_few b (length more) (unended_lines more) h)

-- a text has no more lines than bytes
pub few_lines : (bytes : List ℕ) (text : ModelText) → ReadsAs bytes text → text.lines < 2 ^ 63
few_lines bytes text reads =
    let mapped : length (lines_of bytes) ≡ length (unended_lines bytes) = length-map (unended_lines bytes) strip_carriage_return in
    let few = unended_few bytes in
    let within = reads.within in
    let count = reads.lines in
    omega (arith, mapped, few, within, count)
