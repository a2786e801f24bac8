-- A plant gives all lines that are too long the same reply.
use Rattle.std.proofs.Common.{◌≡◌, ℕ, ◌<◌, Bool, cond, List, length, sym, ◌∙◌, ap, subst}
use Rattle.std.proofs.lemmas.Bool.{lt-ltb}
use Rattle.lv_base.specs.declared.limits.TheConstants.{LINE_BYTES}
use Rattle.lv_text.specs.Tokens.{long_line, all_tokens}
use Rattle.lv_text.specs.Lexemes.{Reading, line_reading, reading_by, is_too_long}
use Rattle.lv_plant.specs.declared.fault.PlantFault.TheVariants.{LineTooLong}
use Rattle.lv_plant.specs.declared.reply.PlantReply.TheVariants.{Refused}
use Rattle.lv_plant.specs.Forms.{asked_by_reading}
use Rattle.lv_plant.specs.Standing.{Standing, Done, done, done_by, unchanged}
use Rattle.lv_plant.specs.Replies.{plant_text}
use Rattle.lv_plant.specs.Answering.{next_at, SaysAt}

long_reading : (line : List ℕ) → LINE_BYTES < length line → line_reading line ≡ is_too_long
long_reading line long = ap (λ (c : Bool). reading_by line (cond c long_line (all_tokens line))) (lt-ltb LINE_BYTES (length line) long)

refused_long : (s : Standing) (line : List ℕ) → LINE_BYTES < length line → done s line ≡ unchanged s (Refused LineTooLong)
unfolding done
refused_long s line long = ap (λ (r : Reading). done_by s.session.plant s line (asked_by_reading r)) (long_reading line long)

same_long : (s : Standing) (a b : List ℕ) → LINE_BYTES < length a → LINE_BYTES < length b → done s a ≡ done s b
same_long s a b long_a long_b = refused_long s a long_a ∙ sym (refused_long s b long_b)

pub long_next : (s : Standing) (a b : List ℕ) → LINE_BYTES < length a → LINE_BYTES < length b → next_at s a ≡ next_at s b
long_next s a b long_a long_b = ap (λ (d : Done). d.next) (same_long s a b long_a long_b)

pub long_says : (s : Standing) (a b text : List ℕ) → LINE_BYTES < length a → LINE_BYTES < length b → SaysAt s a text → SaysAt s b text
long_says s a b text long_a long_b says = subst (λ (d : Done). text ≡ plant_text s.session.plant d.reply) (same_long s a b long_a long_b) says
