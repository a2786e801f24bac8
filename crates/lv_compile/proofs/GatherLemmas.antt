-- Gathering is associative, and begins and ends with what says nothing.
use Rattle.std.proofs.Common.{◌≡◌, ◌+◌, ℕ, arith, Bool, true, false, List, [], ◌∷◌, ◌++◌, map, refl, sym, ap, ap₂, ◌∙◌}
use Rattle.std.specs.List.{range_with_len}
use Rattle.std.proofs.lemmas.List.FromFn.{map-range_with_len_more}
use Rattle.std.proofs.lemmas.List.{append_assoc, append-nil, map-append}
use Rattle.std.proofs.lemmas.Grind.{flat_map-append}
use Rattle.lv_base.specs.declared.ids.Lit.{Lit}
use Rattle.lv_compile.specs.FormulaClauses.{Clauses, each_after, product, gather, when_true, asked}

longer_nil : (qs : Clauses) → map (λ (q : List Lit). [] ++ q) qs ≡ qs
longer_nil [] = refl
longer_nil (q ∷ qs) = ap (λ (c : Clauses). q ∷ c) (longer_nil qs)

product_start : (qs : Clauses) → product ([] ∷ []) qs ≡ qs
product_start qs = append-nil (map (λ (q : List Lit). [] ++ q) qs) ∙ longer_nil qs

product_end : (ps : Clauses) → product ps ([] ∷ []) ≡ ps
product_end [] = refl
product_end (p ∷ ps) = ap₂ (λ (c : List Lit) (cs : Clauses). c ∷ cs) (append-nil p) (product_end ps)

longer_longer : (p q : List Lit) (rs : Clauses) → map (λ (r : List Lit). p ++ q ++ r) rs ≡ map (λ (r : List Lit). p ++ r) (map (λ (r : List Lit). q ++ r) rs)
longer_longer p q [] = refl
longer_longer p q (r ∷ rs) = ap₂ (λ (c : List Lit) (cs : Clauses). c ∷ cs) (append_assoc p q r) (longer_longer p q rs)

longer_product : (p : List Lit) (qs rs : Clauses) → product (map (λ (q : List Lit). p ++ q) qs) rs ≡ map (λ (q : List Lit). p ++ q) (product qs rs)
longer_product p [] rs = refl
longer_product p (q ∷ qs) rs =
    ap₂ (λ (a c : Clauses). a ++ c) (longer_longer p q rs) (longer_product p qs rs)
    ∙ sym (map-append (λ (r : List Lit). p ++ r) (map (λ (r : List Lit). q ++ r) rs) (product qs rs))

product_assoc : (ps qs rs : Clauses) → product (product ps qs) rs ≡ product ps (product qs rs)
product_assoc [] qs rs = refl
product_assoc (p ∷ ps) qs rs =
    flat_map-append (each_after rs) (map (λ (q : List Lit). p ++ q) qs) (product ps qs)
    ∙ ap₂ (λ (a c : Clauses). a ++ c) (longer_product p qs rs) (product_assoc ps qs rs)

pub gather_start : (of_all : Bool) (qs : Clauses) → gather of_all (when_true of_all) qs ≡ qs
gather_start true qs = refl
gather_start false qs = product_start qs

pub gather_end : (of_all : Bool) (ps : Clauses) → gather of_all ps (when_true of_all) ≡ ps
gather_end true ps = append-nil ps
gather_end false ps = product_end ps

pub gather_assoc : (of_all : Bool) (ps qs rs : Clauses) → gather of_all (gather of_all ps qs) rs ≡ gather of_all ps (gather of_all qs rs)
gather_assoc true ps qs rs = append_assoc ps qs rs
gather_assoc false ps qs rs = product_assoc ps qs rs

-- what is gathered where it isn't asked for is nothing
pub gather_asked : (is_asked of_all : Bool) (ps qs : Clauses) → gather of_all (asked is_asked ps) (asked is_asked qs) ≡ asked is_asked (gather of_all ps qs)
gather_asked true of_all ps qs = refl
gather_asked false true ps qs = refl
gather_asked false false ps qs = refl

-- what was gathered, and these clauses of the operands that are left, give the whole
pub record IsGathered (is_asked of_all : Bool) (out rest whole : Clauses) : Type 0 where
  pub so_far : gather of_all out (asked is_asked rest) ≡ asked is_asked whole
  pub held : out ≡ asked is_asked out

pub gathered_start : (is_asked of_all : Bool) (out whole : Clauses) → out ≡ asked is_asked (when_true of_all) → IsGathered is_asked of_all out whole whole
gathered_start true of_all out whole is = record { so_far = ap (λ (o : Clauses). gather of_all o whole) is ∙ gather_start of_all whole; held = refl }
gathered_start false of_all out whole is = record { so_far = ap (λ (o : Clauses). gather of_all o []) is ∙ gather_asked false of_all [] []; held = is }

pub gathered_more : (is_asked of_all : Bool) (out new more clauses rest left whole : Clauses) → IsGathered is_asked of_all out left whole → left ≡ gather of_all clauses rest
    → more ≡ asked is_asked clauses → new ≡ gather of_all out more → IsGathered is_asked of_all new rest whole
gathered_more true of_all out new more clauses rest left whole before cut are is =
    record {
      so_far =
          ap (λ (n : Clauses). gather of_all n rest) (is ∙ ap (λ (m : Clauses). gather of_all out m) are)
          ∙ gather_assoc of_all out clauses rest
          ∙ ap (λ (l : Clauses). gather of_all out l) (sym cut)
          ∙ before.so_far;
      held = refl;
    }
gathered_more false of_all out new more clauses rest left whole before cut are is =
    let none : new ≡ [] = is ∙ ap₂ (λ (o m : Clauses). gather of_all o m) before.held are ∙ gather_asked false of_all [] [] in
    record { so_far = ap (λ (n : Clauses). gather of_all n []) none ∙ gather_asked false of_all [] []; held = none }

pub gathered_all : (is_asked of_all : Bool) (out rest whole : Clauses) → IsGathered is_asked of_all out rest whole → rest ≡ when_true of_all → out ≡ asked is_asked whole
gathered_all true of_all out rest whole are none = sym (gather_end of_all out) ∙ sym (ap (λ (r : Clauses). gather of_all out r) none) ∙ are.so_far
gathered_all false of_all out rest whole are none = are.held

-- the clause of one value more
pub one_more : (clause_of : ℕ → List Lit) (out new : Clauses) (c : List Lit) (v : ℕ) → out ≡ map clause_of (range_with_len 0 v) → new ≡ out ++ c ∷ [] → c ≡ clause_of v → new ≡ map clause_of (range_with_len 0 (v + 1))
one_more clause_of out new c v so_far pushed is =
    pushed ∙ ap₂ (λ (o : Clauses) (d : List Lit). o ++ d ∷ []) so_far is ∙ sym (map-range_with_len_more clause_of 0 v v (omega arith))
