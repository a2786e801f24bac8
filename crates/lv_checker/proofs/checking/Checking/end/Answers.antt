-- the text was read, so that it has few lines
use Rattle.std.proofs.Common.{◌<◌, ◌^◌, ℕ, subst, arith}
use Rattle.lv_checker.proofs.Ending.{read_few}
use Rattle.lv_checker.proofs.checking.Checking.end.Goals as goal

pub overflow_add-line : goal.overflow_add-line
overflow_add-line c =
    let few : c.args.lines < 2 ^ 63 = subst (λ (n : ℕ). n < 2 ^ 63) c.requires.lines_are (read_few c.requires.text c.requires.read) in
    omega (arith, few)
