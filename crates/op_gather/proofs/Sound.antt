-- What is kept of engines stays what was asked.
use Rattle.std.proofs.Common.{◌≡◌, ℕ, zero, suc, ◌<◌, ◌≤◌, ◌^◌, Bool, true, false, List, [], ◌∷◌, length, map, replicate, slice_get, slice_set, refl, sym, ap, subst, arith, Some, None}
use Rattle.std.specs.Prelude.{Option, IfSome, if◌then◌else◌}
use Rattle.std.specs.List.{AllByRecursion, cons_option, filter_map}
use Rattle.holders.specs.Joins.{both_of}
use Rattle.step_table.specs.declared.cells.StepCells.{StepCells}
use Rattle.ticks.specs.Walks.{IsInstant}
use Rattle.ticks.specs.declared.moment.Ms.{Ms}
use Rattle.remote_api.specs.Strays.{is_well, wrong_cell}
use Rattle.remote_api.specs.declared.asks.Ask.{Ask}
use Rattle.remote_api.specs.declared.frame.Stray.TheVariants.{WrongCell}
use Rattle.op_gather.specs.Histories.{AreWell, IsQueueOf, IsSound}
use Rattle.op_gather.specs.Queues.{ended, fed, first_step, head_of, nothing_of, popped, without_first}
use Rattle.op_gather.specs.declared.queue.Queue.{Queue}

-- ---- lists

module _ {X : Type 0} where
  pub some_at : (xs : List X) (i : ℕ) → i < length xs → (x : X) × (slice_get xs i ≡ Some x)
  some_at [] i h = absurd (omega arith)
  some_at (x ∷ xs) zero h = (x, refl)
  some_at (x ∷ xs) (suc i) h = some_at xs i (omega (arith, h))

  module _ (P : X → Type 0) where
    pub holds_at : (xs : List X) (i : ℕ) (x : X) → slice_get xs i ≡ Some x → AllByRecursion P xs → P x
    holds_at [] i x e a = absurd (cc)
    holds_at (y ∷ xs) zero x e a = let same : y ≡ x = cc in subst P same a.0
    holds_at (y ∷ xs) (suc i) x e a = holds_at xs i x e a.1

    pub all_set : (xs : List X) (i : ℕ) (x : X) → P x → AllByRecursion P xs → AllByRecursion P (slice_set xs i x)
    all_set [] i x h a = a
    all_set (y ∷ xs) zero x h a = (h, a.1)
    all_set (y ∷ xs) (suc i) x h a = (a.0, all_set xs i x h a.1)

pub length_set : {X : Type 0} (xs : List X) (i : ℕ) (x : X) → length (slice_set xs i x) ≡ length xs
length_set [] i x = refl
length_set (y ∷ xs) zero x = refl
length_set (y ∷ xs) (suc i) x = ap suc (length_set xs i x)

pub length_map : {X Y : Type 0} (f : X → Y) (xs : List X) → length (map f xs) ≡ length xs
length_map f [] = refl
length_map f (x ∷ xs) = ap suc (length_map f xs)

pub as_long : {X : Type 0} (x : X) (n : ℕ) → length (replicate n x) ≡ n
as_long x zero = refl
as_long x (suc n) = ap suc (as_long x n)

-- ---- a frame without a wrong cell

module _ (ask : Ask) where
  pub well_all : (steps : List StepCells) → wrong_cell ask steps ≡ None → AreWell ask steps
  well_all [] e = tt
  well_all (step ∷ steps) e = by (is_well ask step) refl e (well_all steps)
    where
      by : (b : Bool) → is_well ask step ≡ b → (if b then wrong_cell ask steps else Some (WrongCell step.at)) ≡ None → (wrong_cell ask steps ≡ None → AreWell ask steps) → (is_well ask step ≡ true) × AreWell ask steps
      by true h f rest = (h, rest f)
      by false h f rest = absurd (cc)

  -- ---- one engine

  pub nothing_sound : (first : Option Ms) → IfSome first (λ (t : Ms). IsInstant ask.walk t.0) → (n : ℕ) → AllByRecursion (IsQueueOf ask) (replicate n (nothing_of first))
  nothing_sound first h zero = tt
  nothing_sound first h (suc n) = (record { coming = h; well = tt }, nothing_sound first h n)

  pub fed_sound : (q : Queue) (steps : List StepCells) (behind : Option Ms) → wrong_cell ask steps ≡ None → IfSome behind (λ (t : Ms). IsInstant ask.walk t.0) → IsQueueOf ask q → IsQueueOf ask (fed q steps behind)
  fed_sound q steps behind e h s = record { coming = h; well = both_of (AreWell ask) q.frames (steps ∷ []) s.well (well_all steps e, tt) }

  pub ended_sound : (q : Queue) → IsQueueOf ask q → IsQueueOf ask (ended q)
  ended_sound q s = record { coming = s.coming; well = s.well }

  rest_well : (frames : List (List StepCells)) → AllByRecursion (AreWell ask) frames → AllByRecursion (AreWell ask) (without_first frames)
  rest_well [] a = tt
  rest_well ([] ∷ frames) a = a.1
  rest_well ((s ∷ []) ∷ frames) a = a.1
  rest_well ((s ∷ t ∷ steps) ∷ frames) a = (a.0.1, a.1)

  -- ---- all engines

  pub popped_sound : (qs : List Queue) → AllByRecursion (IsQueueOf ask) qs → AllByRecursion (IsQueueOf ask) (map popped qs)
  popped_sound [] a = tt
  popped_sound (q ∷ qs) a = (record { coming = a.0.coming; well = rest_well q.frames a.0.well }, popped_sound qs a.1)

  head_well : (frames : List (List StepCells)) (others : List StepCells) → AllByRecursion (AreWell ask) frames → AreWell ask others → AreWell ask (cons_option (first_step frames) others)
  head_well [] others a b = b
  head_well ([] ∷ frames) others a b = b
  head_well ((s ∷ steps) ∷ frames) others a b = (a.0.0, b)

  pub heads_well : (qs : List Queue) → AllByRecursion (IsQueueOf ask) qs → AreWell ask (filter_map head_of qs)
  heads_well [] a = tt
  heads_well (q ∷ qs) a = head_well q.frames (filter_map head_of qs) a.0.well (heads_well qs a.1)

  -- ---- one engine after another

  pub set_sound : (qs new : List Queue) (i : ℕ) (q : Queue) → IsSound ask qs → IsQueueOf ask q → new ≡ slice_set qs i q → IsSound ask new
  set_sound qs new i q s h e =
      subst (IsSound ask) (sym e) (record { times = s.times; few = subst (λ (n : ℕ). n < 2 ^ 32) (sym (length_set qs i q)) s.few; each = all_set (IsQueueOf ask) qs i q h s.each })

  pub popped_all_sound : (qs new : List Queue) → IsSound ask qs → new ≡ map popped qs → IsSound ask new
  popped_all_sound qs new s e =
      subst (IsSound ask) (sym e) (record { times = s.times; few = subst (λ (n : ℕ). n < 2 ^ 32) (sym (length_map popped qs)) s.few; each = popped_sound qs s.each })

no_more : (frames : List (List StepCells)) (others : List StepCells) → length (cons_option (first_step frames) others) ≤ suc (length others)
no_more [] others = omega arith
no_more ([] ∷ frames) others = omega arith
no_more ((s ∷ steps) ∷ frames) others = omega arith

pub heads_few : (qs : List Queue) → length (filter_map head_of qs) ≤ length qs
heads_few [] = omega arith
heads_few (q ∷ qs) = let h : length (cons_option (first_step q.frames) (filter_map head_of qs)) ≤ suc (length (filter_map head_of qs)) = no_more q.frames (filter_map head_of qs) in let l : length (filter_map head_of qs) ≤ length qs = heads_few qs in omega (arith, h, l)
