-- Slots that were answered, over the list of what a shelf keeps for each: `role` reads the role of one.
use Rattle.std.proofs.Common.{◌≡◌, ℕ, ◌<◌, true, false, List, [], ◌∷◌, ◌++◌, length, map, set, Option, None, Some, refl, sym, ◌∙◌, ap, ap₂, subst}
use Rattle.std.proofs.lemmas.List.{length-map}
use Rattle.std.specs.Prelude.{slice_get, IsTrue}
use Rattle.std.specs.Option.{option_map, option_map_or}
use Rattle.std.proofs.lemmas.Option.{slice_get-map, slice_get_within, get_or_from_slice_get}
use Rattle.std.proofs.Math.Seq.{map-set_same}
use Rattle.lv_io.specs.declared.Role.{Role}
use Rattle.lv_io.specs.declared.Role.TheVariants.{Model, Second}
use Rattle.lv_io.specs.declared.Slot.{Slot}
use Rattle.lv_io.specs.Slots.{same_role, is_slot}
use Rattle.lv_io.proofs.Places.{get_front, get_end}

pub same_role_same : (r : Role) → same_role r r ≡ true
same_role_same Model = refl
same_role_same Second = refl

role_there : (o : Option Role) (r : Role) → IsTrue (option_map_or (same_role r) o false) → o ≡ Some r
role_there None r there = absurd (cc)
role_there (Some Model) Model there = refl
role_there (Some Model) Second there = absurd (cc)
role_there (Some Second) Model there = absurd (cc)
role_there (Some Second) Second there = refl

-- the role stands at the place of a slot that was answered
pub slot_role : (roles : List Role) (slot : Slot) → IsTrue (is_slot roles slot) → slice_get roles slot.index ≡ Some slot.role
slot_role roles slot known = role_there (slice_get roles slot.index) slot.role known

-- two slots that were answered at one place are one
pub same_slot : (roles : List Role) (s slot : Slot)
    → IsTrue (is_slot roles s) → IsTrue (is_slot roles slot) → s.index ≡ slot.index → s ≡ slot
same_slot roles s slot here known place =
    let roles_at : Some s.role ≡ Some slot.role =
    sym (slot_role roles s here) ∙ ap (slice_get roles) place ∙ slot_role roles slot known in
    let one_role : s.role ≡ slot.role = cc roles_at in
    ap₂ (λ (i : ℕ) (r : Role). record { index = i; role = r }) place one_role

module _ {X : Type 0} (role : X → Role) where
  pub slot_within : (xs : List X) (slot : Slot) → IsTrue (is_slot (map role xs) slot) → slot.index < length xs
  slot_within xs slot known =
      subst (λ (n : ℕ). slot.index < n) (length-map xs role)
      (slice_get_within (map role xs) slot.index slot.role (slot_role (map role xs) slot known))

  -- whether a slot was answered, by what stands at its place
  pub slot_by : (xs : List X) (slot : Slot)
      → is_slot (map role xs) slot ≡ option_map_or (same_role slot.role) (option_map role (slice_get xs slot.index)) false
  slot_by xs slot = ap (λ (o : Option Role). option_map_or (same_role slot.role) o false) (slice_get-map role xs slot.index)

  -- a slot that was answered stays so as more are
  pub slot_stays : (xs ys : List X) (slot : Slot) → slot.index < length xs → is_slot (map role (xs ++ ys)) slot ≡ is_slot (map role xs) slot
  slot_stays xs ys slot within =
      slot_by (xs ++ ys) slot
      ∙ ap (λ (o : Option X). option_map_or (same_role slot.role) (option_map role o) false) (get_front xs ys slot.index within)
      ∙ sym (slot_by xs slot)

  pub known_stays : (xs ys : List X) (slot : Slot) → IsTrue (is_slot (map role xs) slot) → IsTrue (is_slot (map role (xs ++ ys)) slot)
  known_stays xs ys slot known = slot_stays xs ys slot (slot_within xs slot known) ∙ known

  -- the slot of the newest place
  pub slot_added : (xs : List X) (y : X) (slot : Slot) → slot ≡ record { index = length xs; role = role y }
      → IsTrue (is_slot (map role (xs ++ y ∷ [])) slot)
  slot_added xs y slot is =
      subst (λ (s : Slot). IsTrue (is_slot (map role (xs ++ y ∷ [])) s)) (sym is)
      (slot_by (xs ++ y ∷ []) (record { index = length xs; role = role y })
      ∙ ap (λ (o : Option X). option_map_or (same_role (role y)) (option_map role o) false) (get_end xs y)
      ∙ same_role_same (role y))

  -- a write that keeps the role at its place keeps all roles
  pub roles_kept : (xs : List X) (i : ℕ) (x y : X) → slice_get xs i ≡ Some x → role y ≡ role x → map role (set xs i y) ≡ map role xs
  roles_kept xs i x y at_place same =
      map-set_same role xs i y x (same ∙ ap role (sym (get_or_from_slice_get xs i x x at_place)))
