-- How the calls that C makes end: 0 where what was asked for is done, 1 where a text is refused or not valid, 2 where memory was
-- wanting.
use Rattle.std.specs.Prelude.{◌≡◌, ℕ, List, length}
use Rattle.lv_checker.specs.Verdicts.{IsVerdict, refused}
use Rattle.lv_reader.specs.declared.code.ModelCode.{ModelCode}
use Rattle.lv_reader.specs.Codes.{number_of}
use Rattle.lv_session.specs.Answering.{next_at, SaysAt}
use Rattle.livingstone_c.specs.declared.talk.Talk.{Talk}

-- the bytes are refused for the reason of this number, on this line
pub record IsRefusedAs (bytes : List ℕ) (number line : ℕ) : Type 0 where
  pub reason : ModelCode
  pub is_number : number_of reason ≡ number
  pub is : IsVerdict bytes (refused reason line)

-- a session has answered a line: it stands where the line leads to, and keeps a text of the reply, which is so long
pub record Answers (line : List ℕ) (before after : Talk) (n : ℕ) : Type 0 where
  pub leads : after.session ≡ next_at before.session line
  pub says : SaysAt before.session line after.reply.items
  pub long : n ≡ length after.reply.items
