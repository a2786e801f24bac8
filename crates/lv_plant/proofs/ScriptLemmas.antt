-- What is written of lines that a plant answers is the text of its script.
use Rattle.std.proofs.Common.{◌≡◌, ℕ, List, [], ◌∷◌, ◌++◌, refl, ◌∙◌, ap₂}
use Rattle.lv_serve.specs.Conversation.{IsConversation, ends, goes_on}
use Rattle.lv_plant.specs.Standing.{Standing}
use Rattle.lv_plant.specs.Answering.{next_at, SaysAt}
use Rattle.lv_plant.specs.Scripts.{script_text}

pub conversation_is_script : (s : Standing) (lines : List (List ℕ)) (text : List ℕ) → IsConversation next_at SaysAt s lines text → text ≡ script_text s lines
conversation_is_script s [] text ends = refl
conversation_is_script s (line ∷ lines) text (goes_on {rest = rest} says later is) =
    is ∙ ap₂ (λ (a b : List ℕ). a ++ b) says (conversation_is_script (next_at s line) lines rest later)
