-- Values at rising places.
use Rattle.std.proofs.Common.{◌≡◌, ◌∙◌, ◌+◌, ◌<◌, ◌≤◌, ℕ, zero, suc, arith, Bool, true, false, List, [], ◌∷◌, length, get_or, drop, refl, sym, ap, subst, Option, Some}
use Rattle.std.specs.Prelude.{◌&&◌, IsTrue, nat_lt, slice_get}
use Rattle.std.specs.List.{AllByRecursion}
use Rattle.step_batch.specs.Lent.{SlotsRise}
use Rattle.step_batch.specs.declared.steps.Slot.{Slot}
use Rattle.step_put.specs.Placed.{do_rise, is_behind}

rise_at : (last : Option ℕ) (slots : List Slot) (i : ℕ) (d : Slot) → i < length slots → do_rise last (drop i slots) ≡ (is_behind last (get_or slots i d).place && do_rise (Some (get_or slots i d).place) (drop (i + 1) slots))
rise_at last [] i d l = absurd (omega arith)
rise_at last (s ∷ slots) zero d l = refl
rise_at last (s ∷ slots) (suc i) d l = let e : suc i + 1 ≡ suc (i + 1) = omega arith in rw e (rise_at last slots i d (omega arith))

-- one more place, behind the last or not
pub rise_here : (last : Option ℕ) (slots : List Slot) (i : ℕ) (s : Slot) (b : Bool) → i < length slots → s ≡ get_or slots i s → is_behind last s.place ≡ b → do_rise last (drop i slots) ≡ (b && do_rise (Some s.place) (drop (i + 1) slots))
rise_here last slots i s b l is e =
    rise_at last slots i s l ∙ ap (λ (z : Slot). is_behind last z.place && do_rise (Some z.place) (drop (i + 1) slots)) (sym is) ∙ ap (λ (c : Bool). c && do_rise (Some s.place) (drop (i + 1) slots)) e

parts : (b c : Bool) → IsTrue (b && c) → IsTrue b × IsTrue c
parts true true e = (refl, refl)
parts true false e = absurd (cc)
parts false c e = absurd (cc)

behind_is : (m n : ℕ) → nat_lt m n ≡ true → m + 1 ≤ n
behind_is m n h = grind (arith, h)

-- places that rise and are below a bound
pub rise_below : (low high : ℕ) (last : Option ℕ) (slots : List Slot) → AllByRecursion (λ (s : Slot). s.place < high) slots → ((n : ℕ) → IsTrue (is_behind last n) → low ≤ n) → IsTrue (do_rise last slots) → SlotsRise low high slots
rise_below low high last [] a w t = tt
rise_below low high last (s ∷ slots) a w t =
    let both = parts (is_behind last s.place) (do_rise (Some s.place) slots) t in
    (w s.place both.0, a.0, rise_below (s.place + 1) high (Some s.place) slots a.1 (λ n h. behind_is s.place n h) both.1)

pub place_within : (low high : ℕ) (slots : List Slot) (i : ℕ) (s : Slot) → i < length slots → s ≡ get_or slots i s → SlotsRise low high slots → s.place < high
place_within low high slots i s l is r = subst (λ (z : Slot). z.place < high) (sym is) (at low slots i l r)
  where
    at : (low : ℕ) (slots : List Slot) (i : ℕ) → i < length slots → SlotsRise low high slots → (get_or slots i s).place < high
    at low [] i l r = absurd (omega arith)
    at low (x ∷ slots) zero l r = r.1
    at low (x ∷ slots) (suc i) l r = at (x.place + 1) slots i (omega arith) r.2

pub slot_within : (low high : ℕ) (slots : List Slot) (i : ℕ) (s : Slot) → slice_get slots i ≡ Some s → SlotsRise low high slots → s.place < high
slot_within low high [] i s e r = absurd (cc)
slot_within low high (x ∷ slots) zero s e r = let same : x ≡ s = cc in subst (λ (z : Slot). z.place < high) same r.1
slot_within low high (x ∷ slots) (suc i) s e r = slot_within (x.place + 1) high slots i s e r.2

pub more_room : (low high more : ℕ) (slots : List Slot) → high ≤ more → SlotsRise low high slots → SlotsRise low more slots
more_room low high more [] l r = tt
more_room low high more (x ∷ slots) l r = (r.0, omega (arith, r.1), more_room (x.place + 1) high more slots l r.2)
