-- What is kept when more of a line has come.
use Rattle.std.proofs.Common.{rules, ◌≡◌, ◌-◌, ap₂, List, ℕ, Bool, ◌++◌, ◌∙◌, sym, ap, length, nat_lt, take}
use Rattle.lv_serve.specs.Kept.{most_kept}
use Rattle.lv_serve.proofs.KeptLemmas.{bytes_more, longer_before, longer_now}
use Rattle.lv_serve.proofs.unfinished.Unfinished.push.Goals.{then-self, else-self}
use Rattle.lv_serve.proofs.unfinished.Unfinished.push.Goals as goal

pub returns-clause-ok : goal.returns-clause-ok
returns-clause-ok c =
    λ line was.
    let bytes_were : c.self.inside.bytes.items ≡ take most_kept line = search rules in
    let longer_was : c.self.inside.is_longer ≡ nat_lt most_kept (length line) = search rules in
    let room_is : c.len-room.result ≡ length c.self.inside.bytes.items = search rules in
    let bytes_are : c.extend_from_slice.new.self.items ≡ take most_kept (line ++ c.args.more.now) =
    c.in_ok-extend_from_slice.ensures.items ∙ bytes_more _ line c.args.more.now _ bytes_were (search rules) in
    let longer_is : c.if-self.self ≡ nat_lt most_kept (length (line ++ c.args.more.now)) = elim c.if-self.branch [
      | then-self w ↦ w.self-is ∙ w.if-self.true ∙ sym (longer_before line c.args.more.now (sym longer_was ∙ w.if-self.true))
      | else-self w ↦ w.self-is ∙ ap (λ (n : ℕ). nat_lt (most_kept - n) (length c.args.more.now)) room_is
          ∙ longer_now c.self.inside.bytes.items line c.args.more.now bytes_were (sym longer_was ∙ w.if-self.false)
    ] in
    ap₂ (λ (b : List ℕ) (l : Bool). record { bytes = b; is_longer = l }) bytes_are longer_is
