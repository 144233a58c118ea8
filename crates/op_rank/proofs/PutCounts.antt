-- Counts that are put into the last step, one place after another.
use Rattle.std.proofs.Common.{◌≡◌, ◌∙◌, ℕ, zero, suc, ◌+◌, ◌<◌, ◌≤◌, Bool, false, List, [], ◌∷◌, ◌++◌, length, get_or, slice_get, drop, map, refl, sym, ap, arith, Some}
use Rattle.std.specs.Prelude.{◌==◌, if◌then◌else◌}
use Rattle.std.specs.List.{filter_map}
use Rattle.std.proofs.lemmas.Grind.{fold-append}
use Rattle.std.proofs.lemmas.List.Elements.{filter_map-append}
use Rattle.step_batch.specs.Lent.{entries_of, entry_in, entry_of, no_marks, on_last, row_of, stage_with_marks, stage_with_row, step_of}
use Rattle.step_batch.specs.Tables.{in_order, put_into}
use Rattle.step_batch.specs.declared.steps.Slot.{Slot}
use Rattle.step_table.specs.Groups.{Names}
use Rattle.step_table.specs.Timed.{StepAt}
use Rattle.step_table.specs.Unions.{united}
use Rattle.step_table.specs.declared.marks.Marks.{Marks}
use Rattle.ticks.specs.declared.moment.Ms.{Ms}
use Rattle.xfrac.specs.Arithmetic.{whole_number}
use Rattle.xfrac.specs.declared.value.XFrac.{XFrac}
use Rattle.op_rank.specs.ValueCounts.{is_next, rows_in, slots_counted}
use Rattle.op_rank.specs.declared.value_counts.Count.{Count}
use Rattle.op_rank.proofs.Runs.{drop_here}

abbrev Named : Type 0
Named = List (Names × XFrac)

on_last_one : (f : StepAt → StepAt) (front : List StepAt) (s : StepAt) → on_last f (front ++ s ∷ []) ≡ front ++ f s ∷ []
on_last_one f [] s = refl
on_last_one f (x ∷ []) s = refl
on_last_one f (x ∷ y ∷ front) s = ap (λ (r : List StepAt). x ∷ r) (on_last_one f (y ∷ front) s)

back : (es : Named) → map entry_in (map row_of es) ≡ es
back [] = refl
back (e ∷ es) = ap (λ r. e ∷ r) (back es)

row_put : (at : Ms) (es : Named) (marks : Marks) (n : Names) (v : XFrac) → stage_with_row n v (record { at = at; step = step_of es marks }) ≡ record { at = at; step = step_of (es ++ (n, v) ∷ []) marks }
row_put at es marks n v =
    ap (λ (z : Named). record { at = at; step = record { table = record { rows = map row_of z }; marks = marks } }) (ap (λ (z : Named). put_into z (n, v)) (back (in_order es)) ∙ sym (fold-append put_into [] es ((n, v) ∷ [])))

pub get_there : (labels : List Names) (p : ℕ) → p < length labels → slice_get labels p ≡ Some (get_or labels p [])
get_there [] p l = absurd (omega arith)
get_there (x ∷ labels) zero l = refl
get_there (x ∷ labels) (suc p) l = get_there labels p (omega arith)

-- a slot that is put last
pub slot_put : (was now front : List StepAt) (at : Ms) (labels names : List Names) (done : List Slot) (s : Slot) (marks : Marks) → names ≡ labels → s.place < length labels
    → ((n : Names) → slice_get names s.place ≡ Some n → now ≡ on_last (stage_with_row n s.value) was) → was ≡ front ++ record { at = at; step = step_of (entries_of labels done) marks } ∷ []
    → now ≡ front ++ record { at = at; step = step_of (entries_of labels (done ++ s ∷ [])) marks } ∷ []
slot_put was now front at labels names done s marks same l p o =
    let n : Names = get_or labels s.place [] in
    let there : slice_get labels s.place ≡ Some n = get_there labels s.place l in
    let more : entries_of labels (done ++ s ∷ []) ≡ entries_of labels done ++ (n, s.value) ∷ [] = filter_map-append (entry_of labels) done (s ∷ []) ∙ ap (λ (z : Named). entries_of labels done ++ z) (one there) in
    p n (ap (λ (z : List Names). slice_get z s.place) same ∙ there) ∙ ap (on_last (stage_with_row n s.value)) o ∙ on_last_one (stage_with_row n s.value) front (record { at = at; step = step_of (entries_of labels done) marks })
    ∙ ap (λ (z : StepAt). front ++ z ∷ []) (row_put at (entries_of labels done) marks n s.value)
    ∙ ap (λ (z : Named). front ++ record { at = at; step = step_of z marks } ∷ []) (sym more)
  where
    one : {n : Names} → slice_get labels s.place ≡ Some n → filter_map (entry_of labels) (s ∷ []) ≡ (n, s.value) ∷ []
    one e = rw e refl

-- the marks and notes of the step that is fed
pub marks_put : (front was now : List StepAt) (at : Ms) (marks : Marks) → was ≡ front ++ record { at = at; step = step_of [] no_marks } ∷ [] → now ≡ on_last (stage_with_marks marks) was → now ≡ front ++ record { at = at; step = step_of [] marks } ∷ []
marks_put front was now at marks b n = n ∙ ap (on_last (stage_with_marks marks)) b ∙ on_last_one (stage_with_marks marks) front (record { at = at; step = step_of [] no_marks })

-- and more of them
pub more_put : (front was now : List StepAt) (at : Ms) (es : Named) (marks more : Marks) → was ≡ front ++ record { at = at; step = step_of es marks } ∷ [] → now ≡ on_last (stage_with_marks more) was
    → now ≡ front ++ record { at = at; step = step_of es (united marks more) } ∷ []
more_put front was now at es marks more b n = n ∙ ap (on_last (stage_with_marks more)) b ∙ on_last_one (stage_with_marks more) front (record { at = at; step = step_of es marks })

-- ---- counts

pub counted_here : (rows : ℕ) (counts : List Count) (i : ℕ) (n : Count) (b : Bool) → i < length counts → n ≡ get_or counts i n → b ≡ is_next (drop (i + 1) counts) n.place
    → slots_counted rows (drop i counts) ≡ (if b then slots_counted (rows + n.rows) (drop (i + 1) counts) else record { place = n.place; value = whole_number (rows + n.rows) } ∷ slots_counted 0 (drop (i + 1) counts))
counted_here rows counts i n b l e h =
    ap (slots_counted rows) (drop_here counts i n l e)
    ∙ ap (λ (t : Bool). if t then slots_counted (rows + n.rows) (drop (i + 1) counts) else record { place = n.place; value = whole_number (rows + n.rows) } ∷ slots_counted 0 (drop (i + 1) counts)) (sym h)

pub rows_here : (counts : List Count) (i : ℕ) (n : Count) → i < length counts → n ≡ get_or counts i n → rows_in (drop i counts) ≡ n.rows + rows_in (drop (i + 1) counts)
rows_here counts i n l e = ap rows_in (drop_here counts i n l e)

pub none_left : (rows : ℕ) (counts : List Count) (i : ℕ) → length counts ≤ i → slots_counted rows (drop i counts) ≡ []
none_left rows [] zero l = refl
none_left rows [] (suc i) l = refl
none_left rows (n ∷ counts) zero l = absurd (omega arith)
none_left rows (n ∷ counts) (suc i) l = none_left rows counts i (omega arith)

pub next_is : (counts : List Count) (i place : ℕ) (n : Count) → i < length counts → n ≡ get_or counts i n → is_next (drop i counts) place ≡ (n.place == place)
next_is counts i place n l e = ap (λ (z : List Count). is_next z place) (drop_here counts i n l e)

pub none_next : (counts : List Count) (i place : ℕ) → length counts ≤ i → is_next (drop i counts) place ≡ false
none_next [] zero place l = refl
none_next [] (suc i) place l = refl
none_next (n ∷ counts) zero place l = absurd (omega arith)
none_next (n ∷ counts) (suc i) place l = none_next counts i place (omega arith)
