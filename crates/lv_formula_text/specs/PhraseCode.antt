-- A code of trees as ghost values, by which proofs tell trees apart.
use Rattle.std.specs.Prelude.{◌≡◌, refl, ℕ, List}
use Rattle.std.proofs.Common.{ap, ap₂, ◌⊎◌, inl, inr}
use Rattle.std.specs.Coded.{Coded, coded_ℕ, coded_list, coded×, coded⊎, code_by}
use base.Stored.{Gv, gnil, gnum, gcons}
use Rattle.lv_formula_text.specs.declared.path.Path.{Path}
use Rattle.lv_formula_text.specs.declared.path.Path.TheVariants.{Own, OfPart}
use Rattle.lv_formula_text.specs.PhraseTree.{PhraseTree, always, never, equals, negation, all, any, implies, iff, PhraseTrees, none, more}

abbrev names_of : Path → List ℕ ⊎ (List ℕ × List ℕ)
names_of (Own n) = inl n
names_of (OfPart p n) = inr (p, n)

abbrev path_of : List ℕ ⊎ (List ℕ × List ℕ) → Path
path_of (inl n) = Own n
path_of (inr ns) = OfPart ns.0 ns.1

pub path_back : (p : Path) → path_of (names_of p) ≡ p
path_back (Own n) = refl
path_back (OfPart p n) = refl

abbrev pub path_code : Coded Path
path_code = code_by (List ℕ ⊎ (List ℕ × List ℕ)) (coded⊎ (coded_list coded_ℕ) (coded× (coded_list coded_ℕ) (coded_list coded_ℕ))) names_of path_of path_back

abbrev mutual
  pub code_of : PhraseTree → Gv
  code_of always = gnum 0
  code_of never = gnum 1
  code_of (equals l r) = gcons (gnum 0) (gcons (path_code.code l) (path_code.code r))
  code_of (negation f) = gcons (gnum 1) (code_of f)
  code_of (all fs) = gcons (gnum 2) (codes_of fs)
  code_of (any fs) = gcons (gnum 3) (codes_of fs)
  code_of (implies f g) = gcons (gnum 4) (gcons (code_of f) (code_of g))
  code_of (iff f g) = gcons (gnum 5) (gcons (code_of f) (code_of g))

  pub codes_of : PhraseTrees → Gv
  codes_of none = gnil
  codes_of (more f fs) = gcons (code_of f) (codes_of fs)

mutual
  pub code_inj : (f g : PhraseTree) → code_of f ≡ code_of g → f ≡ g
  code_inj always always p = refl
  code_inj never never p = refl
  code_inj (equals l r) (equals m s) p = ap₂ equals (path_code.inj l m (cc)) (path_code.inj r s (cc))
  code_inj (negation f) (negation g) p = ap negation (code_inj f g (cc))
  code_inj (all fs) (all gs) p = ap all (codes_inj fs gs (cc))
  code_inj (any fs) (any gs) p = ap any (codes_inj fs gs (cc))
  code_inj (implies f h) (implies g k) p = ap₂ implies (code_inj f g (cc)) (code_inj h k (cc))
  code_inj (iff f h) (iff g k) p = ap₂ iff (code_inj f g (cc)) (code_inj h k (cc))
  code_inj f g p = absurd (cc)

  pub codes_inj : (fs gs : PhraseTrees) → codes_of fs ≡ codes_of gs → fs ≡ gs
  codes_inj none none p = refl
  codes_inj (more f fs) (more g gs) p = ap₂ more (code_inj f g (cc)) (codes_inj fs gs (cc))
  codes_inj fs gs p = absurd (cc)

abbrev pub tree_code : Coded PhraseTree
tree_code = record { code = code_of; inj = code_inj }
