-- Slots in rising place: where one goes, and that they go on rising.
use Rattle.std.proofs.Common.{inl, inr, eq-or-lt_of_le, get_or, ◌≡◌, ◌∙◌, ◌<◌, ◌≤◌, ◌+◌, ◌-◌, ℕ, zero, suc, arith, Bool, true, false, cond, List, [], ◌∷◌, length, insert, slice_get, refl, sym, ap, subst, Some}
use Rattle.std.specs.Prelude.{nat_lt, ◌||◌, ◌==◌}
use Rattle.std.proofs.lemmas.Bool.Decides.{nat_tests}
use Rattle.std.proofs.lemmas.Option.{slice_get-get_or}
use Rattle.xfrac.specs.declared.value.XFrac.{XFrac}
use Rattle.step_batch.specs.Lent.{SlotsRise, has_slot, insert_slot}
use Rattle.step_batch.specs.declared.steps.Slot.{Slot}

abbrev slot : ℕ → XFrac → Slot
slot place value = record { place = place; value = value }

pub rise_wider : (low lower high higher : ℕ) (slots : List Slot) → lower ≤ low → high ≤ higher → SlotsRise low high slots → SlotsRise lower higher slots
rise_wider low lower high higher [] a b r = tt
rise_wider low lower high higher (s ∷ slots) a b r = (let h = r.0 in omega arith, let h = r.1 in omega arith, rise_wider (s.place + 1) (s.place + 1) high higher slots (omega arith) b r.2)

-- a slot at a place is no lower than the bound
at_least : (low high i : ℕ) (slots : List Slot) (s : Slot) → SlotsRise low high slots → slice_get slots i ≡ Some s → low ≤ s.place
at_least low high i [] s r h = absurd (cc)
at_least low high zero (t ∷ slots) s r h = let same : t ≡ s = cc in subst (λ (x : Slot). low ≤ x.place) same r.0
at_least low high (suc i) (t ∷ slots) s r h = let a = at_least (t.place + 1) high i slots s r.2 h in let b = r.0 in omega arith

-- slots before one are earlier
pub earlier : (low high : ℕ) (slots : List Slot) (j k : ℕ) (s t : Slot) → SlotsRise low high slots → j < k → slice_get slots j ≡ Some s → slice_get slots k ≡ Some t → s.place < t.place
earlier low high [] j k s t r l f g = absurd (cc)
earlier low high (x ∷ slots) j zero s t r l f g = absurd (omega arith)
earlier low high (x ∷ slots) zero (suc k) s t r l f g =
    let same : x ≡ s = cc in
    let a : x.place + 1 ≤ t.place = at_least (x.place + 1) high k slots t r.2 g in
    subst (λ (y : Slot). y.place < t.place) same (omega arith)
earlier low high (x ∷ slots) (suc j) (suc k) s t r l f g = earlier (x.place + 1) high slots j k s t r.2 (omega arith) f g

-- where all from a place on are later, and all before it earlier
pub insert_there : (slots : List Slot) (i place : ℕ) (value : XFrac) → i ≤ length slots
    → ((j : ℕ) (s : Slot) → i ≤ j → slice_get slots j ≡ Some s → place ≤ s.place) → ((j : ℕ) (s : Slot) → j < i → slice_get slots j ≡ Some s → s.place < place)
    → insert slots i (slot place value) ≡ insert_slot slots place value
insert_there [] zero place value w b a = refl
insert_there [] (suc i) place value w b a = absurd (omega arith)
insert_there (s ∷ slots) zero place value w b a =
    let h : place ≤ s.place = b 0 s (omega arith) refl in
    let e : nat_lt s.place place ≡ false = grind (arith, nat_tests, h) in
    rw e refl
insert_there (s ∷ slots) (suc i) place value w b a =
    let h : s.place < place = a 0 s (omega arith) refl in
    let e : nat_lt s.place place ≡ true = grind (arith, nat_tests, h) in
    rw e (ap (λ (ss : List Slot). s ∷ ss) (insert_there slots i place value (omega arith) (λ j t l g. b (suc j) t (omega arith) g) (λ j t l g. a (suc j) t (omega arith) g)))

-- one more slot
pub rise_insert : (low high : ℕ) (slots : List Slot) (place : ℕ) (value : XFrac) → SlotsRise low high slots → low ≤ place → place < high → has_slot place slots ≡ false → SlotsRise low high (insert_slot slots place value)
rise_insert low high [] place value r a b n = (a, b, tt)
rise_insert low high (s ∷ slots) place value r a b n =
    elim (nat_lt s.place place) as (λ c. nat_lt s.place place ≡ c → SlotsRise low high (cond c (s ∷ insert_slot slots place value) (slot place value ∷ s ∷ slots))) [
      | true ↦ λ e. let h : s.place < place = grind (arith, nat_tests, e) in (r.0, r.1, rise_insert (s.place + 1) high slots place value r.2 (omega arith) b (other n))
      | false ↦ λ e.
          let h : place ≤ s.place = grind (arith, nat_tests, e) in
          let d : place ≡ s.place → ⊥ = apart n in
          let k : place < s.place = omega arith in
          (a, b, (omega arith, r.1, r.2))
    ] refl
  where
    other : ((place == s.place) || has_slot place slots) ≡ false → has_slot place slots ≡ false
    other h = elim (place == s.place) as (λ c. (c || has_slot place slots) ≡ false → has_slot place slots ≡ false) [ true ↦ λ f. absurd (cc) | false ↦ λ f. f ] h

    apart : ((place == s.place) || has_slot place slots) ≡ false → place ≡ s.place → ⊥
    apart h e = let f : (place == s.place) ≡ true = grind (arith, nat_tests, e) in no (sym (ap (λ (c : Bool). c || has_slot place slots) f) ∙ h)
      where
        no : true ≡ false → ⊥
        no x = cc

-- ---- a search from the end

pub none_behind : (slots : List Slot) (j : ℕ) (s : Slot) → length slots ≤ j → slice_get slots j ≡ Some s → ⊥
none_behind [] j s l h = cc
none_behind (x ∷ slots) zero s l h = absurd (omega arith)
none_behind (x ∷ slots) (suc j) s l h = none_behind slots j s (omega arith) h

pub here_is : (slots : List Slot) (i : ℕ) (d : Slot) → i < length slots → slice_get slots i ≡ Some (get_or slots i d)
here_is slots i d l = slice_get-get_or slots i d l

pub one_more_behind : (slots : List Slot) (i place : ℕ) (here : Slot) → 0 < i → slice_get slots (i - 1) ≡ Some here → place ≤ here.place
    → ((j : ℕ) (s : Slot) → i ≤ j → slice_get slots j ≡ Some s → place ≤ s.place) → (j : ℕ) (s : Slot) → i - 1 ≤ j → slice_get slots j ≡ Some s → place ≤ s.place
one_more_behind slots i place here w at h b j s l g =
    elim (eq-or-lt_of_le l) [
      | inl same ↦ let e : Some here ≡ Some s = sym at ∙ (subst (λ (k : ℕ). slice_get slots k ≡ Some s) (sym same) g) in let f : here ≡ s = cc in subst (λ (x : Slot). place ≤ x.place) f h
      | inr less ↦ b j s (omega arith) g
    ]

pub all_earlier : (high : ℕ) (slots : List Slot) (i place : ℕ) (here : Slot) → SlotsRise 0 high slots → 0 < i → slice_get slots (i - 1) ≡ Some here → here.place < place → (j : ℕ) (s : Slot) → j < i → slice_get slots j ≡ Some s → s.place < place
all_earlier high slots i place here r w at h j s l g =
    let k : j ≤ i - 1 = omega arith in
    elim (eq-or-lt_of_le k) [
      | inl same ↦ let e : Some here ≡ Some s = sym at ∙ (subst (λ (k : ℕ). slice_get slots k ≡ Some s) same g) in let f : here ≡ s = cc in subst (λ (x : Slot). x.place < place) f h
      | inr less ↦ let a = earlier 0 high slots j (i - 1) s here r less g at in omega arith
    ]
