-- Lanes by their names: what a line changes of one lane, and what it leaves of the others.
use Rattle.std.proofs.Common.{◌≡◌, ℕ, Bool, true, false, cond, ◌||◌, List, [], ◌∷◌, ◌++◌, map, refl, sym, ◌∙◌, ap, ap₂}
use Rattle.std.specs.List.{list_any}
use Rattle.std.proofs.lemmas.Cmp.{nat_list_eq_equiv}
use Rattle.lv_base.specs.Names.{is_named}
use Rattle.lv_lanes.specs.declared.named.Named.{Named}
use Rattle.lv_lanes.specs.Standing.{is_lane, lane_of, gone_on, handed, turned}

pub same_name : (a : List ℕ) → is_named a a ≡ true
same_name a = nat_list_eq_equiv.refl a

pub other_way : (a b : List ℕ) → is_named a b ≡ is_named b a
other_way a b = nat_list_eq_equiv.symm b a

-- of two names that are the same, each is a third where the other is
pub named_alike : (a b c : List ℕ) → is_named a b ≡ true → is_named a c ≡ is_named b c
named_alike a b c e = nat_list_eq_equiv.symm c a ∙ sym (nat_list_eq_equiv.congr b a c e) ∙ nat_list_eq_equiv.symm b c

neither : (a b : Bool) → (a || b) ≡ false → (a ≡ false) × (b ≡ false)
neither false b h = (refl, h)
neither true b h = absurd (cc)

module _ {S : Type 0} where
  -- no two lanes have one name
  abbrev pub NamedOnce : List (Named S) → Type 0
  NamedOnce [] = Unit {0}
  NamedOnce (l ∷ ls) = (list_any (is_lane l.name) ls ≡ false) × NamedOnce ls

  pub absent_later : (name : List ℕ) (l : Named S) (ls : List (Named S)) → list_any (is_lane name) (l ∷ ls) ≡ false
      → (is_lane name l ≡ false) × (list_any (is_lane name) ls ≡ false)
  absent_later name l ls none = neither (is_lane name l) (list_any (is_lane name) ls) none

  any_alike : (a b : List ℕ) (ls : List (Named S)) → is_named a b ≡ true → list_any (is_lane a) ls ≡ list_any (is_lane b) ls
  any_alike a b [] e = refl
  any_alike a b (l ∷ ls) e = ap₂ (λ (p q : Bool). p || q) (named_alike a b l.name e) (any_alike a b ls e)

  -- behind a lane of that name stands no other
  pub no_other : (name : List ℕ) (l : Named S) (ls : List (Named S)) → is_lane name l ≡ true → list_any (is_lane l.name) ls ≡ false
      → list_any (is_lane name) ls ≡ false
  no_other name l ls e none = any_alike name l.name ls e ∙ none

  -- a lane put last at its start stands where one that isn't there stands
  pub lane_of_fresh : (name : List ℕ) (start : S) (l : Named S) (ls : List (Named S)) → l.name ≡ name → l.lane ≡ start
      → lane_of name start (ls ++ l ∷ []) ≡ lane_of name start ls
  lane_of_fresh name start l [] n e = by (is_lane name l)
    where
      by : (b : Bool) → cond b l.lane start ≡ start
      by true = e
      by false = refl
  lane_of_fresh name start l (m ∷ ls) n e = ap (λ (s : S). cond (is_lane name m) m.lane s) (lane_of_fresh name start l ls n e)

module _ {S : Type 0} (next : S → List ℕ → S) where
  -- a line for a lane that was put last at its start
  pub handed_fresh : (name line : List ℕ) (start : S) (l : Named S) (ls : List (Named S)) → l.name ≡ name → l.lane ≡ start
      → list_any (is_lane name) ls ≡ false → handed next name line start (ls ++ l ∷ []) ≡ handed next name line start ls
  handed_fresh name line start l [] n e none =
      ap (λ (b : Bool). cond b (gone_on next line l ∷ []) (l ∷ handed next name line start [])) (ap (is_named name) n ∙ same_name name)
      ∙ ap₂ (λ (m : List ℕ) (s : S). record { name = m; lane = next s line } ∷ []) n e
  handed_fresh name line start l (m ∷ ls) n e none =
      let apart = absent_later name m ls none in
      ap (λ (b : Bool). cond b (gone_on next line m ∷ (ls ++ l ∷ [])) (m ∷ handed next name line start (ls ++ l ∷ []))) apart.0
      ∙ ap (λ (more : List (Named S)). m ∷ more) (handed_fresh name line start l ls n e apart.1)
      ∙ sym (ap (λ (b : Bool). cond b (gone_on next line m ∷ ls) (m ∷ handed next name line start ls)) apart.0)

  -- the lane that a line is for goes on by it
  pub own_goes : (name line : List ℕ) (start : S) (ls : List (Named S)) → lane_of name start (handed next name line start ls) ≡ next (lane_of name start ls) line
  own_goes name line start [] = ap (λ (b : Bool). cond b (next start line) start) (same_name name)
  own_goes name line start (l ∷ ls) = by (is_lane name l) refl (own_goes name line start ls)
    where
      by : (b : Bool) → is_lane name l ≡ b → lane_of name start (handed next name line start ls) ≡ next (lane_of name start ls) line
          → lane_of name start (cond b (gone_on next line l ∷ ls) (l ∷ handed next name line start ls)) ≡ next (cond b l.lane (lane_of name start ls)) line
      by true e later = ap (λ (b : Bool). cond b (next l.lane line) (lane_of name start ls)) e
      by false e later = ap (λ (b : Bool). cond b l.lane (lane_of name start (handed next name line start ls))) e ∙ later

  -- the others stay
  pub other_stays : (other name line : List ℕ) (start : S) (ls : List (Named S)) → is_named other name ≡ false
      → lane_of other start (handed next name line start ls) ≡ lane_of other start ls
  other_stays other name line start [] apart = ap (λ (b : Bool). cond b (next start line) start) apart
  other_stays other name line start (l ∷ ls) apart = by (is_lane name l) refl (other_stays other name line start ls apart)
    where
      by : (b : Bool) → is_lane name l ≡ b → lane_of other start (handed next name line start ls) ≡ lane_of other start ls
          → lane_of other start (cond b (gone_on next line l ∷ ls) (l ∷ handed next name line start ls)) ≡ cond (is_lane other l) l.lane (lane_of other start ls)
      by true is later =
          let differs : is_lane other l ≡ false = other_way other l.name ∙ sym (named_alike name l.name other is) ∙ other_way name other ∙ apart in
          ap (λ (b : Bool). cond b (next l.lane line) (lane_of other start ls)) differs ∙ sym (ap (λ (b : Bool). cond b l.lane (lane_of other start ls)) differs)
      by false is later = ap (λ (s : S). cond (is_lane other l) l.lane s) later

  none_made : (other name line : List ℕ) (start : S) (ls : List (Named S)) → is_named other name ≡ false → list_any (is_lane other) ls ≡ false
      → list_any (is_lane other) (handed next name line start ls) ≡ false
  none_made other name line start [] apart none = ap (λ (b : Bool). b || false) apart
  none_made other name line start (l ∷ ls) apart none =
      by (is_lane name l) (none_made other name line start ls apart (absent_later other l ls none).1)
    where
      by : (b : Bool) → list_any (is_lane other) (handed next name line start ls) ≡ false
          → list_any (is_lane other) (cond b (gone_on next line l ∷ ls) (l ∷ handed next name line start ls)) ≡ false
      by true later = none
      by false later = ap₂ (λ (p q : Bool). p || q) (absent_later other l ls none).0 later

  -- a line for a lane gives no name twice
  pub once_handed : (name line : List ℕ) (start : S) (ls : List (Named S)) → NamedOnce ls → NamedOnce (handed next name line start ls)
  once_handed name line start [] once = (refl, tt {0})
  once_handed name line start (l ∷ ls) once = by (is_lane name l) refl (once_handed name line start ls once.1)
    where
      by : (b : Bool) → is_lane name l ≡ b → NamedOnce (handed next name line start ls)
          → NamedOnce (cond b (gone_on next line l ∷ ls) (l ∷ handed next name line start ls))
      by true is later = once
      by false is later = (none_made l.name name line start ls (other_way l.name name ∙ is) once.0, later)

module _ {S : Type 0} (next : S → List ℕ → S) (is_open : S → Bool) where
  any_turned : (name line : List ℕ) (ls : List (Named S)) → list_any (is_lane name) (map (turned next is_open line) ls) ≡ list_any (is_lane name) ls
  any_turned name line [] = refl
  any_turned name line (l ∷ ls) = ap₂ (λ (p q : Bool). p || q) (by (is_open l.lane)) (any_turned name line ls)
    where
      by : (b : Bool) → is_lane name (cond b (gone_on next line l) l) ≡ is_lane name l
      by true = refl
      by false = refl

  -- nor does a turn
  pub once_turned : (line : List ℕ) (ls : List (Named S)) → NamedOnce ls → NamedOnce (map (turned next is_open line) ls)
  once_turned line [] once = tt {0}
  once_turned line (l ∷ ls) once = (by (is_open l.lane), once_turned line ls once.1)
    where
      by : (b : Bool) → list_any (is_lane (cond b (gone_on next line l) l).name) (map (turned next is_open line) ls) ≡ false
      by true = any_turned l.name line ls ∙ once.0
      by false = any_turned l.name line ls ∙ once.0
