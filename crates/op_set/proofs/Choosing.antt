-- Signatures that are marked, and rows that are chosen by them.
use Rattle.std.proofs.Common.{◌≡◌, ◌≢◌, ◌∙◌, ◌+◌, ◌<◌, ℕ, zero, suc, arith, Bool, true, false, append_assoc, cond, List, [], ◌∷◌, ◌++◌, length, get_or, take, map, refl, sym, ap, subst, inl, inr, ◌⊎◌}
use Rattle.std.specs.Prelude.{◌==◌, ◌||◌, filter, not}
use Rattle.std.specs.List.{list_any}
use Rattle.std.proofs.Math.ListN.{replicate, set}
use Rattle.std.proofs.lemmas.Bool.Decides.{eqb_tells}
use Rattle.std.proofs.lemmas.List.{map-append}
use Rattle.std.proofs.lemmas.List.Elements.{filter-append}
use Rattle.step_batch.specs.Lent.{SlotsRise}
use Rattle.step_batch.specs.declared.steps.Slot.{Slot}
use Rattle.op_set.specs.Sides.{AreBelow, AreMarked, has_number, is_kept, is_met, kept_rows, moved, number_of}
use Rattle.op_set.specs.declared.choose.Chosen.{Chosen}
use Rattle.op_set.specs.declared.choose.Chosen.TheVariants.{All, Marked, Unmarked}
use Rattle.op_set.specs.declared.sides.Side.{Side}
use Rattle.op_set.proofs.Named.{take_more}

-- a slot by its place in a list stands at a place of labels
pub slot_within : (low high : ℕ) (slots : List Slot) (i : ℕ) (d : Slot) → i < length slots → SlotsRise low high slots → (get_or slots i d).place < high
slot_within low high [] i d l r = absurd (omega arith)
slot_within low high (s ∷ slots) zero d l r = r.1
slot_within low high (s ∷ slots) (suc i) d l r = slot_within (s.place + 1) high slots i d (omega arith) r.2

-- ---- marks

none_marked : (n k : ℕ) → get_or (replicate n false) k false ≡ false
none_marked zero k = refl
none_marked (suc n) zero = refl
none_marked (suc n) (suc k) = none_marked n k

pub marked_first : (numbers : List ℕ) (marked : List Bool) (n : ℕ) → marked ≡ replicate n false → AreMarked marked numbers []
marked_first numbers marked n e k h = ap (λ (m : List Bool). get_or m k false) e ∙ none_marked n k

any_more : (f : Slot → Bool) (xs ys : List Slot) → list_any f (xs ++ ys) ≡ (list_any f xs || list_any f ys)
any_more f [] ys = refl
any_more f (x ∷ xs) ys = elim (f x) as (λ b. (b || list_any f (xs ++ ys)) ≡ ((b || list_any f xs) || list_any f ys)) [ true ↦ refl | false ↦ any_more f xs ys ]

set_same : (marked : List Bool) (n : ℕ) → n < length marked → get_or (set marked n true) n false ≡ true
set_same [] n h = absurd (omega arith)
set_same (m ∷ marked) zero h = refl
set_same (m ∷ marked) (suc n) h = set_same marked n (omega arith)

set_other : (marked : List Bool) (n k : ℕ) → (n ≡ k → ⊥) → get_or (set marked n true) k false ≡ get_or marked k false
set_other [] n k h = refl
set_other (m ∷ marked) zero zero h = absurd (h refl)
set_other (m ∷ marked) zero (suc k) h = refl
set_other (m ∷ marked) (suc n) zero h = refl
set_other (m ∷ marked) (suc n) (suc k) h = set_other marked n k (λ e. h (ap suc e))

pub set_count : (marked : List Bool) (n : ℕ) → length (set marked n true) ≡ length marked
set_count [] n = refl
set_count (m ∷ marked) zero = refl
set_count (m ∷ marked) (suc n) = ap suc (set_count marked n)

or_true : (b : Bool) → (b || true) ≡ true
or_true true = refl
or_true false = refl

or_false : (b : Bool) → (b || false) ≡ b
or_false true = refl
or_false false = refl

-- one more row whose signature is marked
pub marked_more : (marked : List Bool) (numbers : List ℕ) (slots : List Slot) (i n : ℕ) (d : Slot) → i < length slots → n < length marked → n ≡ number_of numbers (get_or slots i d)
    → AreMarked marked numbers (take i slots) → AreMarked (set marked n true) numbers (take (i + 1) slots)
marked_more marked numbers slots i n d l h e a k b =
    let here : k < length marked = subst (λ m. k < m) (set_count marked n) b in
    let f : Slot → Bool = λ s. number_of numbers s == k in
    let all : has_number numbers (take (i + 1) slots) k ≡ (has_number numbers (take i slots) k || ((n == k) || false)) =
    ap (list_any f) (take_more slots i d l) ∙ any_more f (take i slots) (get_or slots i d ∷ []) ∙ ap (λ (m : ℕ). has_number numbers (take i slots) k || ((m == k) || false)) (sym e) in
    one (eqb_tells n k) here ∙ sym all
  where
    one : (((n == k) ≡ true) × (n ≡ k)) ⊎ (((n == k) ≡ false) × (n ≢ k)) → k < length marked → get_or (set marked n true) k false ≡ (has_number numbers (take i slots) k || ((n == k) || false))
    one (inl w) here = subst (λ m. get_or (set marked n true) m false ≡ true) w.1 (set_same marked n h) ∙ sym (rw w.0 (or_true (has_number numbers (take i slots) k)))
    one (inr w) here = set_other marked n k w.1 ∙ a k here ∙ sym (rw w.0 (or_false (has_number numbers (take i slots) k)))

-- ---- rows

rows_more : (chosen : Chosen) (marked : List Bool) (side : Side) (slots : List Slot) (i : ℕ) (d : Slot) → i < length slots
    → kept_rows chosen marked side (take (i + 1) slots) ≡ kept_rows chosen marked side (take i slots) ++ map (moved side.own.places) (cond (is_kept chosen marked side.signed.places (get_or slots i d)) (get_or slots i d ∷ []) [])
rows_more chosen marked side slots i d l =
    ap (kept_rows chosen marked side) (take_more slots i d l)
    ∙ ap (map (moved side.own.places)) (filter-append (is_kept chosen marked side.signed.places) (take i slots) (get_or slots i d ∷ []))
    ∙ map-append (moved side.own.places) (filter (is_kept chosen marked side.signed.places) (take i slots)) (cond (is_kept chosen marked side.signed.places (get_or slots i d)) (get_or slots i d ∷ []) [])

nothing_behind : (xs : List Slot) → xs ++ [] ≡ xs
nothing_behind [] = refl
nothing_behind (x ∷ xs) = ap (λ r. x ∷ r) (nothing_behind xs)

pub left_out : (chosen : Chosen) (marked : List Bool) (side : Side) (slots : List Slot) (i : ℕ) (d : Slot) → i < length slots → is_kept chosen marked side.signed.places (get_or slots i d) ≡ false
    → kept_rows chosen marked side (take (i + 1) slots) ≡ kept_rows chosen marked side (take i slots)
left_out chosen marked side slots i d l h =
    rows_more chosen marked side slots i d l ∙ ap (λ (b : Bool). kept_rows chosen marked side (take i slots) ++ map (moved side.own.places) (cond b (get_or slots i d ∷ []) [])) h ∙ nothing_behind (kept_rows chosen marked side (take i slots))

pub put_in : (chosen : Chosen) (marked : List Bool) (side : Side) (slots : List Slot) (i : ℕ) (d : Slot) → i < length slots → is_kept chosen marked side.signed.places (get_or slots i d) ≡ true
    → kept_rows chosen marked side (take (i + 1) slots) ≡ kept_rows chosen marked side (take i slots) ++ moved side.own.places (get_or slots i d) ∷ []
put_in chosen marked side slots i d l h =
    rows_more chosen marked side slots i d l ∙ ap (λ (b : Bool). kept_rows chosen marked side (take i slots) ++ map (moved side.own.places) (cond b (get_or slots i d ∷ []) [])) h

-- one more row behind those that are there
pub row_in : (first was now done more : List Slot) (s t : Slot) → was ≡ first ++ done → now ≡ was ++ s ∷ [] → s ≡ t → more ≡ done ++ t ∷ [] → now ≡ first ++ more
row_in first was now done more s t w n is m =
    n ∙ ap (λ (z : List Slot). z ++ s ∷ []) w ∙ append_assoc first done (s ∷ []) ∙ ap (λ (z : Slot). first ++ (done ++ z ∷ [])) is ∙ ap (λ (z : List Slot). first ++ z) (sym m)

-- ---- what is kept

-- two tests that agree on rows choose the same of them
filtered_alike : (high low : ℕ) (f g : Slot → Bool) (slots : List Slot) → SlotsRise low high slots → ((s : Slot) → s.place < high → f s ≡ g s) → filter f slots ≡ filter g slots
filtered_alike high low f g [] r e = refl
filtered_alike high low f g (s ∷ slots) r e =
    ap (λ (b : Bool). cond b (s ∷ filter f slots) (filter f slots)) (e s r.1) ∙ ap (λ (z : List Slot). cond (g s) (s ∷ z) z) (filtered_alike high (s.place + 1) f g slots r.2 e)

pub kept_marked : (marked : List Bool) (side other : Side) (slots others : List Slot) → AreBelow (length marked) side.signed.places → SlotsRise 0 (length side.signed.places) slots → AreMarked marked other.signed.places others
    → kept_rows Marked marked side slots ≡ map (moved side.own.places) (filter (is_met other others side) slots)
kept_marked marked side other slots others below r m =
    ap (map (moved side.own.places)) (filtered_alike (length side.signed.places) 0 (is_kept Marked marked side.signed.places) (is_met other others side) slots r (λ s h. m (number_of side.signed.places s) (below s.place h)))

pub kept_unmarked : (marked : List Bool) (side other : Side) (slots others : List Slot) → AreBelow (length marked) side.signed.places → SlotsRise 0 (length side.signed.places) slots → AreMarked marked other.signed.places others
    → kept_rows Unmarked marked side slots ≡ map (moved side.own.places) (filter (λ s. not (is_met other others side s)) slots)
kept_unmarked marked side other slots others below r m =
    ap (map (moved side.own.places)) (filtered_alike (length side.signed.places) 0 (is_kept Unmarked marked side.signed.places) (λ s. not (is_met other others side s)) slots r (λ s h. ap not (m (number_of side.signed.places s) (below s.place h))))

all_chosen : (f : Slot → Bool) (slots : List Slot) → ((s : Slot) → f s ≡ true) → filter f slots ≡ slots
all_chosen f [] e = refl
all_chosen f (s ∷ slots) e = ap (λ (b : Bool). cond b (s ∷ filter f slots) (filter f slots)) (e s) ∙ ap (λ z. s ∷ z) (all_chosen f slots e)

pub kept_all : (marked : List Bool) (side : Side) (slots : List Slot) → kept_rows All marked side slots ≡ map (moved side.own.places) slots
kept_all marked side slots = ap (map (moved side.own.places)) (all_chosen (is_kept All marked side.signed.places) slots (λ s. refl))
