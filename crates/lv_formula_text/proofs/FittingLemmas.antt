-- A formula resolved in a scope that keeps to ranges fits them.
use Rattle.std.proofs.Common.{◌≡◌, Bool, true, false, ◌&&◌, List, Option, Some, None, Result, Ok, Err, IfOk, if◌then◌else◌, refl, ap₂, subst}
use Rattle.lv_base.specs.declared.ids.VarId.{VarId}
use Rattle.lv_base.specs.declared.ids.ValId.{ValId}
use Rattle.lv_formula_text.specs.declared.path.Path.{Path}
use Rattle.lv_formula_text.specs.declared.path.Path.TheVariants.{Own, OfPart}
use Rattle.lv_base.specs.declared.range.Range.{Range}
use Rattle.lv_base.specs.Tree.{Tree, Trees, same, negation, all, any, implies, iff, more}
use Rattle.lv_base.specs.Fits.{has_value, fits, each_fits}
use Rattle.lv_formula_text.specs.declared.resolver.NameFault.{NameFault}
use Rattle.lv_formula_text.specs.declared.resolver.NameFault.TheVariants.{NoFit}
use Rattle.lv_formula_text.specs.PhraseTree as phrase
use Rattle.lv_formula_text.specs.Resolving.{Names, value_named, right_side, left_side, on_ok, resolved, resolved_all}
use Rattle.lv_formula_text.specs.Fitting.{ScopeFits}

kept : {A B : Type 0} (P : A → Type 0) (Q : B → Type 0) (r : Result A NameFault) (go_on : A → Result B NameFault) → IfOk r P → ((x : A) → P x → IfOk (go_on x) Q) → IfOk (on_ok r go_on) Q
kept P Q (Ok x) go_on h step = step x h
kept P Q (Err fault) go_on h step = tt

both : (b c : Bool) → b ≡ true → c ≡ true → b && c ≡ true
both b c e f = ap₂ (λ (p q : Bool). p && q) e f

module _ (names : Names) (ranges : List Range) (scope : ScopeFits names ranges) where
  abbrev Fit : Tree → Type 0
  Fit f = fits ranges f ≡ true

  abbrev EachFits : Trees → Type 0
  EachFits fs = each_fits ranges fs ≡ true

  module _ (left : Path) (x : VarId) (found : names.variable left ≡ Some x) where
    value_fits : (right : Path) (v : ValId) → value_named names x right ≡ Some v → has_value ranges x.0 v.0 ≡ true
    value_fits (Own name) v here = scope.values left x name v found here
    value_fits (OfPart part name) v here = absurd (cc)

    shared_fits : (right : Path) (y : VarId) → names.variable right ≡ Some y → (b : Bool) → names.share_domain x y ≡ b → IfOk (if b then Ok (same x.0 y.0) else Err NoFit) Fit
    shared_fits right y other true shared = scope.domains left right x y found other shared
    shared_fits right y other false shared = tt

    right_fits : (right : Path) (v : Option ValId) (y : Option VarId) → value_named names x right ≡ v → names.variable right ≡ y → IfOk (right_side names x v y) Fit
    right_fits right (Some v) y value other = value_fits right v value
    right_fits right None (Some y) value other = shared_fits right y other (names.share_domain x y) refl
    right_fits right None None value other = tt

  equation_fits : (left right : Path) (o : Option VarId) → names.variable left ≡ o → IfOk (left_side names o right) Fit
  equation_fits left right None found = tt
  equation_fits left right (Some x) found = right_fits left x found right (value_named names x right) (names.variable right) refl refl

  mutual
    fitting : (p : phrase.PhraseTree) → IfOk (resolved names p) Fit
    fitting phrase.always = refl
    fitting phrase.never = refl
    fitting (phrase.equals l r) = equation_fits l r (names.variable l) refl
    fitting (phrase.negation p) = kept Fit Fit (resolved names p) (λ t. Ok (negation t)) (fitting p) (λ t h. h)
    fitting (phrase.all ps) = kept EachFits Fit (resolved_all names ps) (λ ts. Ok (all ts)) (each_fitting ps) (λ ts h. h)
    fitting (phrase.any ps) = kept EachFits Fit (resolved_all names ps) (λ ts. Ok (any ts)) (each_fitting ps) (λ ts h. h)
    fitting (phrase.implies p q) =
        kept Fit Fit (resolved names p) (λ t. on_ok (resolved names q) (λ u. Ok (implies t u))) (fitting p)
        (λ t h. kept Fit Fit (resolved names q) (λ u. Ok (implies t u)) (fitting q) (λ u k. both (fits ranges t) (fits ranges u) h k))
    fitting (phrase.iff p q) =
        kept Fit Fit (resolved names p) (λ t. on_ok (resolved names q) (λ u. Ok (iff t u))) (fitting p)
        (λ t h. kept Fit Fit (resolved names q) (λ u. Ok (iff t u)) (fitting q) (λ u k. both (fits ranges t) (fits ranges u) h k))

    each_fitting : (ps : phrase.PhraseTrees) → IfOk (resolved_all names ps) EachFits
    each_fitting phrase.none = refl
    each_fitting (phrase.more p ps) =
        kept Fit EachFits (resolved names p) (λ t. on_ok (resolved_all names ps) (λ ts. Ok (more t ts))) (fitting p)
        (λ t h. kept EachFits EachFits (resolved_all names ps) (λ ts. Ok (more t ts)) (each_fitting ps) (λ ts k. both (fits ranges t) (each_fits ranges ts) h k))

  pub resolved_fits : (p : phrase.PhraseTree) (f : Tree) → resolved names p ≡ Ok f → fits ranges f ≡ true
  resolved_fits p f e = subst (λ (r : Result Tree NameFault). IfOk r Fit) e (fitting p)
