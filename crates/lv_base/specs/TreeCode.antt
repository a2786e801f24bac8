-- A code of trees as ghost values, by which proofs tell trees apart.
use Rattle.std.specs.Prelude.{◌≡◌, refl}
use Rattle.std.proofs.Common.{ap, ap₂}
use Rattle.std.specs.Coded.{Coded}
use base.Stored.{Gv, gnil, gnum, gcons}
use Rattle.lv_base.specs.Tree.{Tree, always, never, is, same, negation, all, any, implies, iff, Trees, none, more}

abbrev mutual
  pub code_of : Tree → Gv
  code_of always = gnum 0
  code_of never = gnum 1
  code_of (is x v) = gcons (gnum 0) (gcons (gnum x) (gnum v))
  code_of (same x y) = gcons (gnum 1) (gcons (gnum x) (gnum y))
  code_of (negation f) = gcons (gnum 2) (code_of f)
  code_of (all fs) = gcons (gnum 3) (codes_of fs)
  code_of (any fs) = gcons (gnum 4) (codes_of fs)
  code_of (implies f g) = gcons (gnum 5) (gcons (code_of f) (code_of g))
  code_of (iff f g) = gcons (gnum 6) (gcons (code_of f) (code_of g))

  pub codes_of : Trees → Gv
  codes_of none = gnil
  codes_of (more f fs) = gcons (code_of f) (codes_of fs)

mutual
  pub code_inj : (f g : Tree) → code_of f ≡ code_of g → f ≡ g
  code_inj always always p = refl
  code_inj never never p = refl
  code_inj (is x v) (is y w) p = (cc)
  code_inj (same x v) (same y w) p = (cc)
  code_inj (negation f) (negation g) p = ap negation (code_inj f g (cc))
  code_inj (all fs) (all gs) p = ap all (codes_inj fs gs (cc))
  code_inj (any fs) (any gs) p = ap any (codes_inj fs gs (cc))
  code_inj (implies f h) (implies g k) p = ap₂ implies (code_inj f g (cc)) (code_inj h k (cc))
  code_inj (iff f h) (iff g k) p = ap₂ iff (code_inj f g (cc)) (code_inj h k (cc))
  code_inj f g p = absurd (cc)

  pub codes_inj : (fs gs : Trees) → codes_of fs ≡ codes_of gs → fs ≡ gs
  codes_inj none none p = refl
  codes_inj (more f fs) (more g gs) p = ap₂ more (code_inj f g (cc)) (codes_inj fs gs (cc))
  codes_inj fs gs p = absurd (cc)

abbrev pub tree_code : Coded Tree
tree_code = record { code = code_of; inj = code_inj }
