-- The observables among the first variables are such.
use Rattle.std.proofs.Common.{ℕ, ◌<◌, Option, List, map, All, sym, subst, arith}
use Rattle.std.specs.List.{range_with_len}
use Rattle.std.proofs.lemmas.List.Elements.{All-filter}
use Rattle.std.proofs.lemmas.List.FromFn.{length-map-range_with_len, get_or-map-range_with_len}
use Rattle.lv_base.specs.declared.names.Class.{Class}
use Rattle.lv_model.specs.Lists.{IsVariable}
use Rattle.lv_probe.specs.Probing.{is_seen, variable, observables_among}

variables_there : (n : ℕ) → All (IsVariable n) (map variable (range_with_len 0 n))
variables_there n k d below =
    let few : k < n = subst (λ m. k < m) (length-map-range_with_len variable 0 n) below in
    subst (IsVariable n) (sym (get_or-map-range_with_len variable 0 n k k d few (omega arith))) (record { below = few })

pub observables_there : (kinds : List (Option Class)) (n : ℕ) → All (IsVariable n) (observables_among kinds n)
observables_there kinds n = All-filter (is_seen kinds) (IsVariable n) (map variable (range_with_len 0 n)) (variables_there n)
