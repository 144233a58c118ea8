-- What is made of groups, put one by one into a step.
use Rattle.std.proofs.Common.{◌≡◌, ◌∙◌, ◌+◌, ◌<◌, ℕ, zero, suc, arith, Bool, true, false, List, [], ◌∷◌, ◌++◌, length, get_or, slice_get, take, drop, map, refl, sym, ap, subst, Option, Some, None, append-nil}
use Rattle.std.specs.Prelude.{fold, ◌==◌, ◌||◌, is_none, slice_index_or}
use Rattle.std.specs.BTreeSet.{insert_key}
use Rattle.std.specs.List.{cons_option, filter_map}
use Rattle.std.specs.Option.{option_map, option_to_list}
use Rattle.std.proofs.lemmas.Grind.{fold-append}
use Rattle.std.proofs.lemmas.List.{map-append}
use Rattle.std.proofs.lemmas.List.Elements.{filter_map-append}
use Rattle.func_table.specs.declared.table.Aggregate.{Aggregate}
use Rattle.step_batch.specs.Lent.{entry_in, has_slot, last_slots, no_marks, on_last, row_of, stage_with_marks, stage_with_row, step_of}
use Rattle.step_batch.specs.Tables.{in_order, put_into}
use Rattle.step_batch.specs.declared.steps.PlacedStep.{PlacedStep}
use Rattle.step_table.specs.Groups.{Names}
use Rattle.step_table.specs.KeySets.{set_more}
use Rattle.step_table.specs.Orders.{mark_cmp}
use Rattle.step_table.specs.Outcomes as outcomes
use Rattle.step_table.specs.Timed.{StepAt}
use Rattle.step_table.specs.Unions.{set_of, united, with_fatal}
use Rattle.step_table.specs.declared.marks.Mark.{Mark}
use Rattle.step_table.specs.declared.marks.Mark.TheVariants.{Overflow}
use Rattle.step_table.specs.declared.marks.Marks.{Marks}
use Rattle.step_table.specs.declared.outcomes.Outcome.{Outcome}
use Rattle.step_table.specs.declared.step.Row.{Row}
use Rattle.ticks.specs.declared.moment.Ms.{Ms}
use Rattle.xfrac.specs.declared.value.XFrac.{XFrac}
use Rattle.op_aggregate.specs.Places.{AreApart, AreReady, IsReady, group_made, groups_made, has_place, overflow_if}
use Rattle.op_aggregate.specs.Tallies.{group_value, or_overflow}
use Rattle.op_aggregate.specs.declared.tally.Group.{Group}
use Rattle.op_aggregate.proofs.AtPlaces.{here_first, or_none, take_more}

abbrev Entry : Type 0
Entry = Names × XFrac

-- ---- the last step

last_count : (f : PlacedStep → PlacedStep) (xs : List PlacedStep) → length (on_last f xs) ≡ length xs
last_count f [] = refl
last_count f (s ∷ []) = refl
last_count f (s ∷ t ∷ ss) = ap suc (last_count f (t ∷ ss))

pub still_begun : (f : PlacedStep → PlacedStep) (steps now : List PlacedStep) → now ≡ on_last f steps → 0 < length steps → 0 < length now
still_begun f steps now e h = subst (λ (n : ℕ). 0 < n) (sym (ap length e ∙ last_count f steps)) h

on_last_one : (f : StepAt → StepAt) (front : List StepAt) (s : StepAt) → on_last f (front ++ s ∷ []) ≡ front ++ f s ∷ []
on_last_one f [] s = refl
on_last_one f (x ∷ []) s = refl
on_last_one f (x ∷ y ∷ front) s = ap (λ (r : List StepAt). x ∷ r) (on_last_one f (y ∷ front) s)

back : (es : List Entry) → map entry_in (map row_of es) ≡ es
back [] = refl
back (e ∷ es) = ap (λ r. e ∷ r) (back es)

-- a row that is put last
stage_more : (at : Ms) (es : List Entry) (marks : Marks) (n : Names) (v : XFrac) → stage_with_row n v (record { at = at; step = step_of es marks }) ≡ record { at = at; step = step_of (es ++ (n, v) ∷ []) marks }
stage_more at es marks n v =
    ap (λ (z : List Entry). record { at = at; step = record { table = record { rows = map row_of z }; marks = marks } }) (ap (λ (z : List Entry). put_into z (n, v)) (back (in_order es)) ∙ sym (fold-append put_into [] es ((n, v) ∷ [])))

pub value_put : (old new front : List StepAt) (at : Ms) (es : List Entry) (marks : Marks) (labels : List Names) (place : ℕ) (v : XFrac) (value : Option XFrac) → value ≡ Some v → place < length labels
    → ((names : Names) → slice_get labels place ≡ Some names → new ≡ on_last (stage_with_row names v) old) → old ≡ front ++ record { at = at; step = step_of es marks } ∷ []
    → new ≡ front ++ record { at = at; step = step_of (es ++ map entry_in (option_to_list (outcomes.row_of (record { labels = slice_index_or labels place []; value = or_overflow value })))) marks } ∷ []
value_put old new front at es marks labels place v value e l n o =
    let names : Names = slice_index_or labels place [] in
    n names (there labels place l) ∙ ap (on_last (stage_with_row names v)) o ∙ on_last_one (stage_with_row names v) front (record { at = at; step = step_of es marks })
    ∙ ap (λ (s : StepAt). front ++ s ∷ []) (stage_more at es marks names v)
    ∙ ap (λ (x : Option XFrac). front ++ record { at = at; step = step_of (es ++ map entry_in (option_to_list (outcomes.row_of (record { labels = names; value = or_overflow x })))) marks } ∷ []) (sym e)
  where
    there : (labels : List Names) (i : ℕ) → i < length labels → slice_get labels i ≡ Some (slice_index_or labels i [])
    there [] i h = absurd (omega arith)
    there (l ∷ labels) zero h = refl
    there (l ∷ labels) (suc i) h = there labels i (omega arith)

pub none_put : (old front : List StepAt) (at : Ms) (es : List Entry) (marks : Marks) (names : Names) (value : Option XFrac) → value ≡ None → old ≡ front ++ record { at = at; step = step_of es marks } ∷ []
    → old ≡ front ++ record { at = at; step = step_of (es ++ map entry_in (option_to_list (outcomes.row_of (record { labels = names; value = or_overflow value })))) marks } ∷ []
none_put old front at es marks names value e o =
    o ∙ ap (λ (z : List Entry). front ++ record { at = at; step = step_of z marks } ∷ []) (sym (append-nil es))
    ∙ ap (λ (x : Option XFrac). front ++ record { at = at; step = step_of (es ++ map entry_in (option_to_list (outcomes.row_of (record { labels = names; value = or_overflow x })))) marks } ∷ []) (sym e)

-- the marks and notes of the step that is fed
pub unite_first : (front began now : List StepAt) (at : Ms) (marks : Marks) → began ≡ front ++ record { at = at; step = step_of [] no_marks } ∷ [] → now ≡ on_last (stage_with_marks marks) began
    → now ≡ front ++ record { at = at; step = step_of [] marks } ∷ []
unite_first front began now at marks b n = n ∙ ap (on_last (stage_with_marks marks)) b ∙ on_last_one (stage_with_marks marks) front (record { at = at; step = step_of [] no_marks })

-- and the mark of an overflow
pub unite_overflow : (front put now : List StepAt) (at : Ms) (marks more : Marks) (es : List Entry) (fs ms : List Mark) → put ≡ front ++ record { at = at; step = step_of es marks } ∷ [] → now ≡ on_last (stage_with_marks more) put
    → more ≡ record { fatal = fs; notes = [] } → fs ≡ set_of mark_cmp ms → now ≡ front ++ record { at = at; step = step_of es (with_fatal marks ms) } ∷ []
unite_overflow front put now at marks more es fs ms p n m f =
    n ∙ ap (on_last (stage_with_marks more)) p ∙ on_last_one (stage_with_marks more) front (record { at = at; step = step_of es marks })
    ∙ ap (λ (z : Marks). front ++ record { at = at; step = step_of es (united marks z) } ∷ []) (m ∙ ap (λ (z : List Mark). record { fatal = z; notes = [] }) f)

-- ---- groups

one_made : (f : Aggregate) (labels : List Names) (all : List Group) (p : ℕ) (value : Option XFrac) → option_map (group_value f) (slice_get all p) ≡ Some value
    → groups_made f labels all (p ∷ []) ≡ record { labels = slice_index_or labels p []; value = or_overflow value } ∷ []
one_made f labels all p value e = told (slice_get all p) e
  where
    made : Option XFrac → Outcome
    made x = record { labels = slice_index_or labels p []; value = or_overflow x }

    told : (o : Option Group) → option_map (group_value f) o ≡ Some value → cons_option {X = Outcome} (option_map (λ (g : Group). record { labels = slice_index_or labels p []; value = or_overflow (group_value f g) }) o) [] ≡ record { labels = slice_index_or labels p []; value = or_overflow value } ∷ []
    told None e = absurd (cc)
    told (Some g) e = let same : group_value f g ≡ value = cc in ap (λ (x : Option XFrac). made x ∷ []) same

-- what is made of one group more
pub made_more : (f : Aggregate) (labels : List Names) (all : List Group) (places : List ℕ) (i p : ℕ) (value : Option XFrac) → i < length places → p ≡ get_or places i 0 → option_map (group_value f) (slice_get all p) ≡ Some value
    → groups_made f labels all (take (i + 1) places) ≡ groups_made f labels all (take i places) ++ record { labels = slice_index_or labels p []; value = or_overflow value } ∷ []
made_more f labels all places i p value l e v =
    ap (groups_made f labels all) (take_more places i 0 l ∙ ap (λ (q : ℕ). take i places ++ q ∷ []) (sym e)) ∙ filter_map-append (group_made f labels all) (take i places) (p ∷ [])
    ∙ ap (λ (z : List Outcome). groups_made f labels all (take i places) ++ z) (one_made f labels all p value v)

one_chosen : {A B : Type 0} (f : A → Option B) (a : A) → filter_map f (a ∷ []) ≡ option_to_list (f a)
one_chosen {A} {B} f a = elim (f a) as (λ (o : Option B). cons_option o [] ≡ option_to_list o) [ None ↦ refl | Some b ↦ refl ]

pub rows_more : (f : Aggregate) (labels : List Names) (all : List Group) (places : List ℕ) (i p : ℕ) (value : Option XFrac) → i < length places → p ≡ get_or places i 0 → option_map (group_value f) (slice_get all p) ≡ Some value
    → map entry_in (filter_map outcomes.row_of (groups_made f labels all (take (i + 1) places)))
    ≡ map entry_in (filter_map outcomes.row_of (groups_made f labels all (take i places))) ++ map entry_in (option_to_list (outcomes.row_of (record { labels = slice_index_or labels p []; value = or_overflow value })))
rows_more f labels all places i p value l e v =
    let o : Outcome = record { labels = slice_index_or labels p []; value = or_overflow value } in
    let done : List Outcome = groups_made f labels all (take i places) in
    ap (λ (z : List Outcome). map entry_in (filter_map outcomes.row_of z)) (made_more f labels all places i p value l e v)
    ∙ ap (map entry_in) (filter_map-append outcomes.row_of done (o ∷ [])) ∙ map-append entry_in (filter_map outcomes.row_of done) (filter_map outcomes.row_of (o ∷ []))
    ∙ ap (λ (rs : List Row). map entry_in (filter_map outcomes.row_of done) ++ map entry_in rs) (one_chosen outcomes.row_of o)

mark_more : (b : Bool) (value : Option XFrac) (ms : List Mark) (names : Names) → overflow_if b ≡ set_of mark_cmp ms → overflow_if (b || is_none value) ≡ set_of mark_cmp (ms ++ option_to_list (outcomes.mark_of (record { labels = names; value = or_overflow value })))
mark_more b (Some v) ms names e = ap overflow_if (or_none b) ∙ e ∙ ap (set_of mark_cmp) (sym (append-nil ms))
mark_more b None ms names e = sym (insert b) ∙ ap (λ (z : List Mark). insert_key mark_cmp z Overflow) e ∙ sym (set_more mark_cmp ms Overflow)
  where
    insert : (b : Bool) → insert_key mark_cmp (overflow_if b) Overflow ≡ overflow_if (b || true)
    insert true = refl
    insert false = refl

pub marks_more : (f : Aggregate) (labels : List Names) (all : List Group) (places : List ℕ) (i p : ℕ) (value : Option XFrac) (b c now : Bool) → i < length places → p ≡ get_or places i 0 → option_map (group_value f) (slice_get all p) ≡ Some value
    → c ≡ is_none value → now ≡ (b || c) → overflow_if b ≡ set_of mark_cmp (filter_map outcomes.mark_of (groups_made f labels all (take i places)))
    → overflow_if now ≡ set_of mark_cmp (filter_map outcomes.mark_of (groups_made f labels all (take (i + 1) places)))
marks_more f labels all places i p value b c now l e v h n was =
    let o : Outcome = record { labels = slice_index_or labels p []; value = or_overflow value } in
    let done : List Outcome = groups_made f labels all (take i places) in
    ap overflow_if (n ∙ ap (λ (d : Bool). b || d) h) ∙ mark_more b value (filter_map outcomes.mark_of done) (slice_index_or labels p []) was
    ∙ ap (λ (z : List Mark). set_of mark_cmp (filter_map outcomes.mark_of done ++ z)) (sym (one_chosen outcomes.mark_of o))
    ∙ ap (set_of mark_cmp) (sym (filter_map-append outcomes.mark_of done (o ∷ [])))
    ∙ ap (λ (z : List Outcome). set_of mark_cmp (filter_map outcomes.mark_of z)) (sym (made_more f labels all places i p value l e v))

-- ---- places

pub ready_here : (all : List Group) (places : List ℕ) (i p : ℕ) → i < length places → p ≡ get_or places i 0 → AreReady all places → IsReady (slice_get all p)
ready_here all places i p l e a = subst (λ (q : ℕ). IsReady (slice_get all q)) (sym e) (at places i l a)
  where
    at : (places : List ℕ) (i : ℕ) → i < length places → AreReady all places → IsReady (slice_get all (get_or places i 0))
    at [] i l a = absurd (omega arith)
    at (x ∷ places) zero l a = a.0
    at (x ∷ places) (suc i) l a = at places i (omega arith) a.1

pub ready_within : (all : List Group) (p : ℕ) → IsReady (slice_get all p) → p < length all
ready_within [] p r = absurd r
ready_within (g ∷ all) zero r = omega arith
ready_within (g ∷ all) (suc p) r = let l = ready_within all p r in omega (arith, l)

drop_here : (places : List ℕ) (i p : ℕ) → i < length places → p ≡ get_or places i 0 → drop i places ≡ p ∷ drop (i + 1) places
drop_here places i p l e = at places i l ∙ ap (λ (q : ℕ). q ∷ drop (i + 1) places) (sym e)
  where
    at : (places : List ℕ) (i : ℕ) → i < length places → drop i places ≡ get_or places i 0 ∷ drop (i + 1) places
    at [] i l = absurd (omega arith)
    at (x ∷ places) zero l = refl
    at (x ∷ places) (suc i) l = let e : suc i + 1 ≡ suc (i + 1) = omega arith in rw e (at places i (omega arith))

-- none of the places has a row yet
abbrev pub AreFree : List PlacedStep → List ℕ → Type 0
AreFree steps places = (q : ℕ) → has_place q places ≡ true → has_slot q (last_slots steps) ≡ false

pub free_here : (steps : List PlacedStep) (places : List ℕ) (i p : ℕ) → i < length places → p ≡ get_or places i 0 → AreFree steps (drop i places) → has_slot p (last_slots steps) ≡ false
free_here steps places i p l e f = f p (ap (has_place p) (drop_here places i p l e) ∙ here_first p (drop (i + 1) places))

apart_drop : (places : List ℕ) (i : ℕ) → AreApart places → AreApart (drop i places)
apart_drop [] zero a = a
apart_drop [] (suc i) a = a
apart_drop (x ∷ places) zero a = a
apart_drop (x ∷ places) (suc i) a = apart_drop places i a.1

pub free_next : (steps now : List PlacedStep) (places : List ℕ) (i p : ℕ) → i < length places → p ≡ get_or places i 0 → AreApart places
    → ((q : ℕ) → (q ≡ p → ⊥) → has_slot q (last_slots steps) ≡ false → has_slot q (last_slots now) ≡ false) → AreFree steps (drop i places) → AreFree now (drop (i + 1) places)
free_next steps now places i p l e a k f = λ q h.
    let apart : AreApart (p ∷ drop (i + 1) places) = subst AreApart (drop_here places i p l e) (apart_drop places i a) in
    k q (λ same. apart.0 (subst (λ (z : ℕ). has_place z (drop (i + 1) places) ≡ true) same h))
    (f q (ap (has_place q) (drop_here places i p l e) ∙ later (q == p) (has_place q (drop (i + 1) places)) h))
  where
    later : (a b : Bool) → b ≡ true → (a || b) ≡ true
    later true b e = refl
    later false b e = e

-- ---- one item more

-- what is chosen of one item more
pub chosen_next : {A B : Type 0} (f : A → Option B) (xs : List A) (i : ℕ) (x : A) → i < length xs → x ≡ get_or xs i x → filter_map f (take (i + 1) xs) ≡ filter_map f (take i xs) ++ option_to_list (f x)
chosen_next f xs i x l e =
    ap (filter_map f) (take_more xs i x l ∙ ap (λ y. take i xs ++ y ∷ []) (sym e)) ∙ filter_map-append f (take i xs) (x ∷ []) ∙ ap (λ r. filter_map f (take i xs) ++ r) (one_chosen f x)

pub ordered_next : {A B : Type 0} (f : A → Option (Names × B)) (xs : List A) (i : ℕ) (x : A) → i < length xs → x ≡ get_or xs i x → in_order (filter_map f (take (i + 1) xs)) ≡ fold put_into (in_order (filter_map f (take i xs))) (option_to_list (f x))
ordered_next f xs i x l e = ap in_order (chosen_next f xs i x l e) ∙ fold-append put_into [] (filter_map f (take i xs)) (option_to_list (f x))
