-- An engine whose next step isn't kept has room.
use Rattle.std.proofs.Common.{◌≡◌, ◌∙◌, ℕ, ◌≤◌, Bool, true, false, List, [], ◌∷◌, length, drop, slice_get, ◌-◌, refl, sym, ap, arith, Some, None, length-drop}
use Rattle.std.specs.Prelude.{Option, ◌&&◌, ◌||◌, is_some}
use Rattle.std.specs.List.{AllByRecursion, AllZip, list_all, list_any}
use Rattle.std.proofs.lemmas.Bool.{false≢true}
use Rattle.step_table.specs.declared.cells.StepCells.{StepCells}
use Rattle.ticks.specs.declared.moment.Ms.{Ms}
use Rattle.op_gather.specs.declared.queue.Queue.{Queue}
use Rattle.op_gather.specs.Histories.{IsFilled, QueueStands}
use Rattle.op_gather.specs.Laws.{RoomIsLeft}
use Rattle.op_gather.specs.Queues.{first_step, has_room, head_of, steps_in}

filled_has_first : (steps : List StepCells) (frames : List (List StepCells)) → 1 ≤ length steps → is_some (first_step (steps ∷ frames)) ≡ true
filled_has_first [] frames l = absurd (omega arith)
filled_has_first (s ∷ steps) frames l = refl

no_frames : (frames : List (List StepCells)) → AllByRecursion IsFilled frames → is_some (first_step frames) ≡ false → frames ≡ []
no_frames [] a e = refl
no_frames (frame ∷ frames) a e = absurd (false≢true (sym e ∙ filled_has_first frame frames a.0))

some_isnt_none : (t : Ms) → Some t ≡ None → ⊥
some_isnt_none t e = absurd (cc)

has_none : {X : Type 0} (n : ℕ) (xs : List X) → [] ≡ drop n xs → length xs ≤ n
has_none n xs e = let l : length (drop n xs) ≡ 0 = ap length (sym e) in let d : length (drop n xs) ≡ length xs - n = length-drop n xs in omega arith

module _ (all : List Ms) (taken : ℕ) (t : Ms) (coming : Some t ≡ slice_get all taken) where
  with_room : (done : List StepCells) (q : Queue) → QueueStands all taken done q → is_some (head_of q) ≡ false → has_room q ≡ true
  with_room done q s e =
      let none : q.frames ≡ [] = no_frames q.frames s.filled e in
      let l : length done ≤ taken = has_none taken done (ap steps_in (sym none) ∙ s.kept) in
      let b : taken ≤ length done = s.behind in
      let same : length done ≡ taken = omega arith in
      let going : q.ended ≡ false = by q.ended (λ h. some_isnt_none t (coming ∙ ap (slice_get all) (sym same) ∙ sym s.coming ∙ s.ended h)) in
      rw (going, none) refl
    where
      by : (b : Bool) → (b ≡ true → ⊥) → b ≡ false
      by true h = absurd (h refl)
      by false h = refl

  among : (dones : List (List StepCells)) (qs : List Queue) → AllZip (QueueStands all taken) dones qs → list_all (λ (q : Queue). is_some (head_of q)) qs ≡ false → list_any has_room qs ≡ true
  among [] [] a e = absurd (false≢true (sym e))
  among [] (q ∷ qs) a e = absurd a
  among (done ∷ dones) [] a e = absurd a
  among (done ∷ dones) (q ∷ qs) a e = by (is_some (head_of q)) refl e (λ f. among dones qs a.1 f)
    where
      or_true : (b : Bool) → (b || true) ≡ true
      or_true true = refl
      or_true false = refl

      by : (b : Bool) → is_some (head_of q) ≡ b → (b && list_all (λ (q : Queue). is_some (head_of q)) qs) ≡ false → (list_all (λ (q : Queue). is_some (head_of q)) qs ≡ false → list_any has_room qs ≡ true) → (has_room q || list_any has_room qs) ≡ true
      by true h f rest = ap (λ b. has_room q || b) (rest f) ∙ or_true (has_room q)
      by false h f rest = ap (λ b. b || list_any has_room qs) (with_room done q a.0 h)

pub room : RoomIsLeft
room g all dones taken t s e f =
    among all taken t (sym e ∙ s.next) dones g.queues s.queues
    (ap (λ (n : Option Ms). is_some n && list_all (λ (q : Queue). is_some (head_of q)) g.queues) (sym e) ∙ f)
