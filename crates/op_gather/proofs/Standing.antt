-- What each call makes of the history of a gather.
use Rattle.std.proofs.Common.{◌≡◌, ◌∙◌, ℕ, zero, suc, ◌+◌, ◌<◌, ◌≤◌, Bool, true, false, List, [], ◌∷◌, ◌++◌, length, map, take, drop, slice_get, slice_set, refl, sym, ap, subst, arith, Some, None, replicate, append_assoc, append-nil, length-append}
use Rattle.std.specs.Prelude.{Option, ◌&&◌, not, nat_lt, is_some}
use Rattle.std.specs.List.{AllByRecursion, AllZip, filter_map, list_all, cons_option}
use Rattle.std.proofs.lemmas.Bool.{false≢true, ltb-true}
use Rattle.std.proofs.lemmas.List.{drop-drop, map-append}
use Rattle.std.proofs.Math.Seq.{take-add}
use Rattle.holders.specs.Joins.{both_of}
use Rattle.step_table.specs.declared.cells.StepCells.{StepCells}
use Rattle.ticks.specs.declared.moment.Ms.{Ms}
use Rattle.op_gather.specs.declared.queue.Queue.{Queue}
use Rattle.remote_api.specs.Strays.{out_of_step}
use Rattle.op_gather.specs.Histories.{IsFilled, QueueStands, steps_at}
use Rattle.op_gather.specs.Queues.{ended, fed, first_step, has_room, head_of, popped, steps_in, without_first}
use Rattle.op_gather.proofs.Following.{has_followed}

-- ---- pairs of histories and queues

module _ {D Q : Type 0} (R : D → Q → Type 0) where
  pub zip_set : (ds : List D) (qs : List Q) (i : ℕ) (d d' : D) (q q' : Q) → slice_get ds i ≡ Some d → slice_get qs i ≡ Some q → (R d q → R d' q') → AllZip R ds qs → AllZip R (slice_set ds i d') (slice_set qs i q')
  zip_set [] [] i d d' q q' e f g a = a
  zip_set [] (x ∷ qs) i d d' q q' e f g a = absurd a
  zip_set (x ∷ ds) [] i d d' q q' e f g a = absurd a
  zip_set (x ∷ ds) (y ∷ qs) zero d d' q q' e f g a =
      let one : x ≡ d = cc in
      let two : y ≡ q = cc in
      (g (subst (λ z. R z q) one (subst (λ z. R x z) two a.0)), a.1)
  zip_set (x ∷ ds) (y ∷ qs) (suc i) d d' q q' e f g a = (a.0, zip_set ds qs i d d' q q' e f g a.1)

  pub zip_set_right : (ds : List D) (qs : List Q) (i : ℕ) (q q' : Q) → slice_get qs i ≡ Some q → ((d : D) → R d q → R d q') → AllZip R ds qs → AllZip R ds (slice_set qs i q')
  zip_set_right [] [] i q q' f g a = a
  zip_set_right [] (x ∷ qs) i q q' f g a = absurd a
  zip_set_right (x ∷ ds) [] i q q' f g a = absurd a
  zip_set_right (x ∷ ds) (y ∷ qs) zero q q' f g a = let two : y ≡ q = cc in (g x (subst (λ z. R x z) two a.0), a.1)
  zip_set_right (x ∷ ds) (y ∷ qs) (suc i) q q' f g a = (a.0, zip_set_right ds qs i q q' f g a.1)

  pub zip_at : (ds : List D) (qs : List Q) (i : ℕ) (d : D) (q : Q) → slice_get ds i ≡ Some d → slice_get qs i ≡ Some q → AllZip R ds qs → R d q
  zip_at [] qs i d q e f a = absurd (cc)
  zip_at (x ∷ ds) [] i d q e f a = absurd a
  zip_at (x ∷ ds) (y ∷ qs) zero d q e f a =
      let one : x ≡ d = cc in
      let two : y ≡ q = cc in
      subst (λ z. R z q) one (subst (λ z. R x z) two a.0)
  zip_at (x ∷ ds) (y ∷ qs) (suc i) d q e f a = zip_at ds qs i d q e f a.1

-- ---- the first kept step

head_in : {X : Type 0} → List X → Option X
head_in [] = None
head_in (x ∷ xs) = Some x

head_drop : {X : Type 0} (n : ℕ) (xs : List X) → head_in (drop n xs) ≡ slice_get xs n
unfolding head_in
head_drop zero [] = refl
head_drop zero (x ∷ xs) = refl
head_drop (suc n) [] = refl
head_drop (suc n) (x ∷ xs) = head_drop n xs

first_in_frame : (steps : List StepCells) (frames : List (List StepCells)) → 1 ≤ length steps → first_step (steps ∷ frames) ≡ head_in (steps ++ steps_in frames)
unfolding head_in
first_in_frame [] frames l = absurd (omega arith)
first_in_frame (s ∷ steps) frames l = refl

first_of_filled : (frames : List (List StepCells)) → AllByRecursion IsFilled frames → first_step frames ≡ head_in (steps_in frames)
unfolding head_in
first_of_filled [] a = refl
first_of_filled (frame ∷ frames) a = first_in_frame frame frames a.0

module _ (all : List Ms) (taken : ℕ) where
  head_is : (done : List StepCells) (q : Queue) → QueueStands all taken done q → head_of q ≡ slice_get done taken
  head_is done q s = first_of_filled q.frames s.filled ∙ ap head_in s.kept ∙ head_drop taken done

  pub heads_are : (dones : List (List StepCells)) (qs : List Queue) → AllZip (QueueStands all taken) dones qs → filter_map head_of qs ≡ steps_at taken dones
  heads_are [] [] a = refl
  heads_are [] (q ∷ qs) a = absurd a
  heads_are (done ∷ dones) [] a = absurd a
  heads_are (done ∷ dones) (q ∷ qs) a = ap (λ o. cons_option o (filter_map head_of qs)) (head_is done q a.0) ∙ ap (cons_option (slice_get done taken)) (heads_are dones qs a.1)

-- ---- the first kept step is taken

rest_in_frame : (steps : List StepCells) (frames : List (List StepCells)) → 1 ≤ length steps → steps_in (without_first (steps ∷ frames)) ≡ drop 1 (steps ++ steps_in frames)
rest_in_frame [] frames l = absurd (omega arith)
rest_in_frame (s ∷ []) frames l = refl
rest_in_frame (s ∷ t ∷ steps) frames l = refl

rest_filled : (steps : List StepCells) (frames : List (List StepCells)) → 1 ≤ length steps → AllByRecursion IsFilled frames → AllByRecursion IsFilled (without_first (steps ∷ frames))
rest_filled [] frames l a = absurd (omega arith)
rest_filled (s ∷ []) frames l a = a
rest_filled (s ∷ t ∷ steps) frames l a = (omega arith, a)

rest_few : (steps : List StepCells) (frames : List (List StepCells)) → length (without_first (steps ∷ frames)) ≤ suc (length frames)
rest_few [] frames = omega arith
rest_few (s ∷ []) frames = omega arith
rest_few (s ∷ t ∷ steps) frames = omega arith

frames_rest : (frames : List (List StepCells)) → AllByRecursion IsFilled frames → steps_in (without_first frames) ≡ drop 1 (steps_in frames)
frames_rest [] a = refl
frames_rest (frame ∷ frames) a = rest_in_frame frame frames a.0

frames_filled : (frames : List (List StepCells)) → AllByRecursion IsFilled frames → AllByRecursion IsFilled (without_first frames)
frames_filled [] a = tt
frames_filled (frame ∷ frames) a = rest_filled frame frames a.0 a.1

frames_few : (frames : List (List StepCells)) → length (without_first frames) ≤ length frames
frames_few [] = omega arith
frames_few (frame ∷ frames) = rest_few frame frames

pub drop_one_more : {X : Type 0} (n : ℕ) (xs : List X) → drop 1 (drop n xs) ≡ drop (n + 1) xs
drop_one_more n xs = drop-drop 1 n xs

some_within : {X : Type 0} (xs : List X) (n : ℕ) → is_some (slice_get xs n) ≡ true → n < length xs
some_within [] n e = absurd (cc)
some_within (x ∷ xs) zero e = omega arith
some_within (x ∷ xs) (suc n) e = let l : n < length xs = some_within xs n e in omega arith

pub both_true : (a b : Bool) → (a && b) ≡ true → (a ≡ true) × (b ≡ true)
both_true true b e = (refl, e)
both_true false b e = absurd (false≢true e)

module _ (all : List Ms) (taken : ℕ) where
  popped_stands : (done : List StepCells) (q : Queue) → is_some (head_of q) ≡ true → QueueStands all taken done q → QueueStands all (taken + 1) done (popped q)
  popped_stands done q e s =
      let l : taken < length done = some_within done taken (ap is_some (sym (head_is all taken done q s)) ∙ e) in
      record {
        kept = frames_rest q.frames s.filled ∙ ap (drop 1) s.kept ∙ drop_one_more taken done;
        filled = frames_filled q.frames s.filled;
        few = let f = frames_few q.frames in let g = s.few in omega arith;
        coming = s.coming;
        times = s.times;
        behind = omega arith;
        ended = s.ended;
      }

  pub all_popped : (dones : List (List StepCells)) (qs : List Queue) → list_all (λ (q : Queue). is_some (head_of q)) qs ≡ true → AllZip (QueueStands all taken) dones qs → AllZip (QueueStands all (taken + 1)) dones (map popped qs)
  all_popped [] [] e a = tt
  all_popped [] (q ∷ qs) e a = absurd a
  all_popped (done ∷ dones) [] e a = absurd a
  all_popped (done ∷ dones) (q ∷ qs) e a =
      let both : (is_some (head_of q) ≡ true) × (list_all (λ (q : Queue). is_some (head_of q)) qs ≡ true) = both_true (is_some (head_of q)) (list_all (λ (q : Queue). is_some (head_of q)) qs) e in
      (popped_stands done q both.0 a.0, all_popped dones qs both.1 a.1)

-- ---- new queues

fresh_stands : (all : List Ms) (first : Option Ms) → first ≡ slice_get all 0 → QueueStands all 0 [] (record { frames = []; next = first; ended = false })
fresh_stands all first h = record { kept = refl; filled = tt; few = omega arith; coming = h; times = refl; behind = omega arith; ended = λ e. absurd (false≢true e) }

pub all_fresh : (all : List Ms) (first : Option Ms) (n : ℕ) → first ≡ slice_get all 0 → AllZip (QueueStands all 0) (replicate n []) (replicate n (record { frames = []; next = first; ended = false }))
all_fresh all first zero h = tt
all_fresh all first (suc n) h = (fresh_stands all first h, all_fresh all first n h)

-- ---- a delivery, and an end

steps_more : (frames : List (List StepCells)) (frame : List StepCells) → steps_in (frames ++ frame ∷ []) ≡ steps_in frames ++ frame
steps_more [] frame = append-nil frame
steps_more (f ∷ frames) frame = ap (λ ss. f ++ ss) (steps_more frames frame) ∙ sym (append_assoc f (steps_in frames) frame)

drop_append : {X : Type 0} (n : ℕ) (xs ys : List X) → n ≤ length xs → drop n (xs ++ ys) ≡ drop n xs ++ ys
drop_append zero xs ys l = refl
drop_append (suc n) [] ys l = absurd (omega arith)
drop_append (suc n) (x ∷ xs) ys l = drop_append n xs ys (omega arith)

take_twice : {X : Type 0} (m n : ℕ) (xs : List X) → take m xs ++ take n (drop m xs) ≡ take (m + n) xs
take_twice m n xs = sym (take-add m n xs)

room_left : (q : Queue) → has_room q ≡ true → (q.ended ≡ false) × (length q.frames < 4)
room_left q e =
    let both : (not q.ended ≡ true) × (nat_lt (length q.frames) 4 ≡ true) = both_true (not q.ended) (nat_lt (length q.frames) 4) e in
    (negated q.ended both.0, ltb-true (length q.frames) 4 both.1)
  where
    negated : (b : Bool) → not b ≡ true → b ≡ false
    negated true e = absurd (false≢true e)
    negated false e = refl

pub fed_stands : (all : List Ms) (taken : ℕ) (done : List StepCells) (q : Queue) (frame : List StepCells) (behind : Option Ms) → has_room q ≡ true → 1 ≤ length frame
    → out_of_step (drop (length done) all) frame ≡ None → behind ≡ slice_get all (length done + length frame) → QueueStands all taken done q → QueueStands all taken (done ++ frame) (fed q frame behind)
fed_stands all taken done q frame behind room some follows next s =
    let r = room_left q room in
    let going : q.ended ≡ false = r.0 in
    let few : length q.frames < 4 = r.1 in
    let on : map (λ (step : StepCells). step.at) frame ≡ take (length frame) (drop (length done) all) = has_followed (drop (length done) all) frame follows in
    let long : length (done ++ frame) ≡ length done + length frame = length-append done frame in
    record {
      kept = steps_more q.frames frame ∙ ap (λ ss. ss ++ frame) s.kept ∙ sym (drop_append taken done frame s.behind);
      filled = both_of IsFilled q.frames (frame ∷ []) s.filled (some, tt);
      few = let n : length (q.frames ++ frame ∷ []) ≡ length q.frames + 1 = length-append q.frames (frame ∷ []) in omega arith;
      coming = next ∙ ap (slice_get all) (sym long);
      times = map-append (λ (step : StepCells). step.at) done frame ∙ (λ i. s.times i ++ on i) ∙ take_twice (length done) (length frame) all ∙ ap (λ n. take n all) (sym long);
      behind = let b = s.behind in omega arith;
      ended = λ e. absurd (false≢true (sym going ∙ e));
    }

pub ended_stands : (all : List Ms) (taken : ℕ) (done : List StepCells) (q : Queue) → q.next ≡ None → QueueStands all taken done q → QueueStands all taken done (ended q)
ended_stands all taken done q e s = record { kept = s.kept; filled = s.filled; few = s.few; coming = s.coming; times = s.times; behind = s.behind; ended = λ _. e }
