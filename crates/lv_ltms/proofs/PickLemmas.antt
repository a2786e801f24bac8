-- Which literals a clause that comes watches, and what is marked then.
use Rattle.std.proofs.Common.{◌≡◌, ◌≢◌, ◌⊎◌, ◌<◌, Bool, true, false, not, ◌||◌, ℕ, suc, arith, List, [], ◌∷◌, length, find, unwrap_or, Option, Some, None, refl, sym, ap, subst, ◌∙◌, inl, inr, Contains}
use Rattle.lv_base.specs.declared.ids.Lit.{Lit}
use Rattle.lv_base.specs.declared.ids.ClauseId.{ClauseId}
use Rattle.lv_clauses.specs.Literals.{neg}
use Rattle.lv_clauses.specs.Marks.{Marks, is_marked}
use Rattle.lv_clauses.proofs.LiteralLemmas.{lit_cases}
use Rattle.lv_ltms.specs.declared.labels.Link.{Link}
use Rattle.lv_ltms.specs.declared.labels.Reason.TheVariants.{Clause}
use Rattle.lv_ltms.specs.declared.propagation.Pair.{Pair}
use Rattle.lv_ltms.specs.declared.propagation.Progress.{Progress}
use Rattle.lv_ltms.specs.Trail.{same_lit, next}
use Rattle.lv_ltms.specs.Labelled.{Labelled, AreLabels, with_link}
use Rattle.lv_ltms.specs.Standing.{IsNear, Picks, Settles}
use Rattle.lv_ltms.specs.Visiting.{is_open, is_open_but}
use Rattle.lv_ltms.proofs.BoolLemmas.{from_not, or_parts}
use Rattle.lv_ltms.proofs.CountLemmas.{same_lit-self}
use Rattle.lv_ltms.proofs.TrailLemmas.{same_lit-equal, or_cases}
use Rattle.lv_ltms.proofs.LabelLemmas.{Grows-push, Grows-self, pushed_has, room_left}
use Rattle.lv_ltms.proofs.FindLemmas.{found_passes, none_passes, open_found, none_open}

-- the first literal picked isn't false, or all are
pub near_picked : (c : List Lit) (marks : Marks) (first near : Lit) → Contains c first → near ≡ unwrap_or (find (is_open marks) c) first → IsNear c marks near
near_picked c marks first near h e = by_found (find (is_open marks) c) refl e
  where
    by_found : (o : Option Lit) → find (is_open marks) c ≡ o → near ≡ unwrap_or o first → IsNear c marks near
    by_found None f g = record { member = subst (Contains c) (sym g) h; all_false = λ p m k. each m k (is_marked marks (neg m)) refl }
      where
        each : (m : Lit) → Contains c m → (b : Bool) → is_marked marks (neg m) ≡ b → is_marked marks (neg m) ≡ true
        each m k true p = p
        each m k false p = absurd (none_passes (is_open marks) c m f k (ap not p))
    by_found (Some l) f g =
        let found = found_passes (is_open marks) c l f in
        record {
          member = subst (Contains c) (sym g) found.1;
          all_false = λ p m k. absurd (cc (from_not (is_marked marks (neg l)) found.0, ap (λ (x : Lit). is_marked marks (neg x)) g, p));
        }

pub picks_open : (c : List Lit) (marks : Marks) (near far : Lit) → IsNear c marks near → find (is_open_but near marks) c ≡ Some far → Picks c marks (record { near = near; far = far })
picks_open c marks near far is e =
    let found = open_found c near marks far e in
    record {
      near = is.member;
      far = found.member;
      lone = λ same. absurd (found.differs (sym same));
      near_false = is.all_false;
      far_false = λ p. absurd (cc (found.open_still, p));
    }

pub picks_other : (c : List Lit) (marks : Marks) (near far : Lit) → IsNear c marks near → find (is_open_but near marks) c ≡ None → far ≡ unwrap_or (find (λ (l : Lit). not (same_lit l near)) c) near → Picks c marks (record { near = near; far = far })
picks_other c marks near far is e f = by_found (find (λ (l : Lit). not (same_lit l near)) c) refl f
  where
    by_found : (o : Option Lit) → find (λ (l : Lit). not (same_lit l near)) c ≡ o → far ≡ unwrap_or o near → Picks c marks (record { near = near; far = far })
    by_found None g h =
        record {
          near = is.member;
          far = subst (Contains c) (sym h) is.member;
          lone = λ same m k. each m k (lit_cases m near);
          near_false = is.all_false;
          far_false = λ p m k differs. none_open c near marks e m k differs;
        }
      where
        each : (m : Lit) → Contains c m → (m ≡ near) ⊎ (m ≢ near) → m ≡ near
        each m k (inl same) = same
        each m k (inr differs) = by_same (same_lit m near) refl
          where
            by_same : (b : Bool) → same_lit m near ≡ b → m ≡ near
            by_same true q = same_lit-equal m near q
            by_same false q = absurd (none_passes (λ (l : Lit). not (same_lit l near)) c m g k (ap not q))
    by_found (Some l) g h =
        let found = found_passes (λ (x : Lit). not (same_lit x near)) c l g in
        let apart : far ≢ near =
        λ same.
        let is : l ≡ near = sym h ∙ same in
        cc (from_not (same_lit l near) found.0, ap (λ k. same_lit k near) is, same_lit-self near) in
        record {
          near = is.member;
          far = subst (Contains c) (sym h) found.1;
          lone = λ same. absurd (apart (sym same));
          near_false = is.all_false;
          far_false = λ p m k differs. none_open c near marks e m k differs;
        }

module _ (id : ClauseId) (pair : Pair) (old : Labelled) (was : Progress) (labels : AreLabels (length old.marks) old) where
  pub settles_false : is_marked old.marks (neg pair.near) ≡ true → Settles id pair old old was (record { done = 0; conflict = Some id })
  settles_false e =
      record {
        closed = λ p. (refl, refl);
        left_open = λ p. absurd (cc (e, p));
        last = λ p. absurd (cc (e, p));
        grows = Grows-self old labels.agrees;
        derivation = λ slots assumed c at picks d. d;
      }

  pub settles_kept : is_marked old.marks (neg pair.near) ≡ false → ((pair.near ≡ pair.far) ⊎ (is_marked old.marks (neg pair.far) ≡ true) → is_marked old.marks pair.near ≡ true) → Settles id pair old old was was
  settles_kept e known =
      record {
        closed = λ p. absurd (cc (e, p));
        left_open = λ p. refl;
        last = λ p. known;
        grows = Grows-self old labels.agrees;
        derivation = λ slots assumed c at picks d. d;
      }

  pub not_last : (same_lit pair.near pair.far || is_marked old.marks (neg pair.far)) ≡ false → (pair.near ≡ pair.far) ⊎ (is_marked old.marks (neg pair.far) ≡ true) → is_marked old.marks pair.near ≡ true
  not_last e (inl same) = absurd (cc ((or_parts (same_lit pair.near pair.far) (is_marked old.marks (neg pair.far)) e).0, ap (same_lit pair.near) same, same_lit-self pair.near))
  not_last e (inr falls) = absurd (cc ((or_parts (same_lit pair.near pair.far) (is_marked old.marks (neg pair.far)) e).1, falls))

  module _ (p : is_marked old.marks pair.near ≡ false) (q : is_marked old.marks (neg pair.near) ≡ false) (range : pair.near.var.0 < length old.marks) where
    abbrev pub settled_link : Link
    settled_link = record { lit = pair.near; reason = Clause id }

    pub settled_inside : pair.near.var.0 < length old.supports
    settled_inside = subst (λ n. pair.near.var.0 < n) (sym labels.supports) range

    pub settled_room : length old.trail < length old.marks
    settled_room = room_left old settled_link range settled_inside p q labels.agrees

    pub settles_marked : (same_lit pair.near pair.far || is_marked old.marks (neg pair.far)) ≡ true → Settles id pair old (with_link old settled_link) was was
    settles_marked e =
        record {
          closed = λ f. absurd (cc (q, f));
          left_open = λ f. refl;
          last = λ f g. pushed_has old settled_link range settled_inside p q labels.agrees;
          grows = Grows-push old settled_link range settled_inside p q labels.agrees;
          derivation =
              λ slots assumed c at picks d.
              next old.trail settled_link d
              (record {
                clause = c;
                present = at;
                member = picks.near;
                others = λ m h differs. sym (labels.agrees.same (neg m)) ∙ others c picks m h differs (or_cases (same_lit pair.near pair.far) (is_marked old.marks (neg pair.far)) e);
              })
              refl;
        }
      where
        others : (c : List Lit) → Picks c old.marks pair → (m : Lit) → Contains c m → m ≢ pair.near → (same_lit pair.near pair.far ≡ true) ⊎ (is_marked old.marks (neg pair.far) ≡ true) → is_marked old.marks (neg m) ≡ true
        others c picks m h differs (inl same) = absurd (differs (picks.lone (same_lit-equal pair.near pair.far same) m h))
        others c picks m h differs (inr falls) = picks.far_false falls m h differs

pub empty_of : (ls : List Lit) → length ls ≡ 0 → ls ≡ []
empty_of [] e = refl
empty_of (l ∷ ls) e = absurd (never (length ls) e)
  where
    never : (n : ℕ) → suc n ≡ 0 → ⊥
    never n f = omega (arith, f)
