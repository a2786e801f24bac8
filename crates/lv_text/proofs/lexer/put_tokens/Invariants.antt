use Rattle.std.proofs.Common.{◌≡◌, ◌≤◌, ◌-◌, length}
use Rattle.lv_text.specs.Tokens.{all_tokens, tokens_at, joined}
use Rattle.lv_text.proofs.lexer.put_tokens.Given as goal

-- the tokens found so far, and those from the place on, are those of the line
abbrev pub invariant-loop-place : goal.invariant-loop-place
invariant-loop-place l = record {
  within : l.place ≤ length l.line;
  whole : joined l.found.items (tokens_at l.line l.place) ≡ all_tokens l.line;
}

abbrev pub decreases-loop-place : goal.decreases-loop-place
decreases-loop-place l = length l.line - l.place
