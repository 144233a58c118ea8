-- Items and points of results, one more at a time.
use Rattle.std.proofs.Common.{◌≡◌, ◌≤◌, ◌<◌, ℕ, suc, ◌+◌, List, [], ◌∷◌, ◌++◌, length, get_or, drop, map, Bor, Result, Ok, Err, false, ◌==◌, refl, ap, ◌∙◌, arith, add-one, drop-cons, subst}
use Rattle.xfrac.specs.declared.value.XFrac.{XFrac}
use Rattle.promql_meaning.specs.declared.answer.Point.{Point}
use Rattle.script_read.specs.Items.{item_spelled}
use Rattle.script_read.specs.Moments.{point_at}
use Rattle.ticks.specs.Moments.{Moments}
use Rattle.script_read.specs.Outcomes.{in_front, joined, then_give, then_try}
use Rattle.script_read.specs.Results.{cell_spelled, cells_from, cells_spelled, next_value, room_after, run_points, total_places, places_of}
use Rattle.script_read.specs.declared.fault.LineFault.{LineFault}
use Rattle.std.proofs.lemmas.Bool.Decides.{nat_tests}
use Rattle.script_read.specs.declared.script.SeriesItem.{SeriesItem}
use Rattle.script_read.specs.declared.script.SeriesItem.TheVariants.{Gap, Stale, Run}
use Rattle.script_read.proofs.Steps.{front_front, front_joined, front_none}

-- ---- words as items

-- items begin with none, where there is a word
pub cells_start : (room : ℕ) (words : List (Bor (List ℕ))) (cells : List SeriesItem) → cells ≡ [] → (length words == 0) ≡ false
    → in_front cells (cells_from room (map (λ word. word.now) (drop 0 words))) ≡ cells_spelled room (map (λ word. word.now) words)
cells_start room [] cells none h = absurd (cc)
cells_start room (word ∷ words) cells none h =
    ap (λ l. in_front l (cells_from room (map (λ word. word.now) (word ∷ words)))) none ∙ front_none (cells_from room (map (λ word. word.now) (word ∷ words)))

module _ (words : List (Bor (List ℕ))) (i : ℕ) (d : Bor (List ℕ)) (lt : i < length words) where
  -- the words from a place on
  pub words_cut : map (λ word. word.now) (drop i words) ≡ (get_or words i d).now ∷ map (λ word. word.now) (drop (i + 1) words)
  words_cut = rw (add-one, drop-cons words i d lt) refl

  pub cell_more : (cells : List SeriesItem) (room : ℕ) (cell : SeriesItem × ℕ) → cell_spelled room (get_or words i d).now ≡ Ok cell
      → in_front cells (cells_from room (map (λ word. word.now) (drop i words))) ≡ in_front (cells ++ cell.0 ∷ []) (cells_from cell.1 (map (λ word. word.now) (drop (i + 1) words)))
  cell_more cells room cell is =
      in_front_of cells (cells_cut_from room)
      ∙ ap (λ r. in_front cells (then_try r (λ cell. in_front (cell.0 ∷ []) (cells_from cell.1 rest)))) is
      ∙ front_front cells (cell.0 ∷ []) (cells_from cell.1 rest)
    where
      rest : List (List ℕ)
      rest = map (λ word. word.now) (drop (i + 1) words)

      in_front_of : (xs : List SeriesItem) {r s : Result (List SeriesItem) LineFault} → r ≡ s → in_front xs r ≡ in_front xs s
      in_front_of xs h = ap (in_front xs) h

      cells_cut_from : (room : ℕ) → cells_from room (map (λ word. word.now) (drop i words)) ≡ cells_from room ((get_or words i d).now ∷ rest)
      cells_cut_from room = ap (cells_from room) words_cut

  pub cell_refused : (cells : List SeriesItem) (room : ℕ) (e : LineFault) → cell_spelled room (get_or words i d).now ≡ Err e
      → in_front cells (cells_from room (map (λ word. word.now) (drop i words))) ≡ Err e
  cell_refused cells room e is =
      ap (λ l. in_front cells (cells_from room l)) words_cut
      ∙ ap (λ r. in_front cells (then_try r (λ cell. in_front (cell.0 ∷ []) (cells_from cell.1 (map (λ word. word.now) (drop (i + 1) words)))))) is

-- the places of a cell
pub places_fit : (room left : ℕ) (item : SeriesItem) → room_after room item ≡ Ok left → places_of item + left ≡ room
places_fit room left Stale is = absurd (cc)
places_fit room left (Gap gap) is = grind (arith, nat_tests, is)
places_fit room left (Run first by more) is = grind (arith, nat_tests, is)

total-append : (items : List SeriesItem) (item : SeriesItem) → total_places (items ++ item ∷ []) ≡ total_places items + places_of item
total-append [] item = omega arith
total-append (first ∷ items) item = omega (arith, total-append items item)

pub given_room : (r : Result SeriesItem LineFault) (room : ℕ) (cell : SeriesItem × ℕ) → then_try r (λ item. then_give (room_after room item) (λ left. (item, left))) ≡ Ok cell → places_of cell.0 + cell.1 ≡ room
given_room (Err e) room cell h = absurd (cc)
given_room (Ok item) room cell h = given_left (room_after room item) refl h
  where
    given_left : (s : Result ℕ LineFault) → room_after room item ≡ s → then_give s (λ left. (item, left)) ≡ Ok cell → places_of cell.0 + cell.1 ≡ room
    given_left (Err e) k h = absurd (cc)
    given_left (Ok left) k h =
        let same : (item, left) ≡ cell = cc in
        subst (λ (c : SeriesItem × ℕ). places_of c.0 + c.1 ≡ room) same (places_fit room left item k)

-- a cell more, within the places
pub cell_within : (words : List (Bor (List ℕ))) (i : ℕ) (d : Bor (List ℕ)) (room steps : ℕ) (cells now : List SeriesItem) (cell : SeriesItem × ℕ)
    → cell_spelled room (get_or words i d).now ≡ Ok cell → now ≡ cells ++ cell.0 ∷ [] → total_places cells + room ≤ steps → total_places now + cell.1 ≤ steps
cell_within words i d room steps cells now cell is push h =
    let fit = given_room (item_spelled (get_or words i d).now) room cell is in
    let all : total_places now ≡ total_places cells + places_of cell.0 = ap total_places push ∙ total-append cells cell.0 in
    omega (arith, fit, all)

-- ---- runs

abbrev pub run_point : Moments → ℕ → XFrac → Point
run_point m place value = record { at = point_at m place; value = value }

module _ (m : Moments) (points : List Point) (place : ℕ) (value by : XFrac) where
  next_of : (n : ℕ) (next : XFrac) → next_value value by ≡ Ok next
      → in_front points (run_points m place (suc n) value by) ≡ in_front (points ++ run_point m place value ∷ []) (run_points m (place + 1) n next by)
  next_of n next is = rw is (front_front points (run_point m place value ∷ []) (run_points m (place + 1) n next by))

  pub run_more : (n left : ℕ) (after : ℕ) (next : XFrac) → n ≡ suc left → after ≡ place + 1 → next_value value by ≡ Ok next
      → in_front points (run_points m place n value by) ≡ in_front (points ++ run_point m place value ∷ []) (run_points m after left next by)
  run_more n left after next en ea is = rw (en, ea) (next_of left next is)

  pub run_past : (n left : ℕ) (e : LineFault) → n ≡ suc left → next_value value by ≡ Err e → in_front points (run_points m place n value by) ≡ Err e
  run_past n left e en is = rw (en, is) refl

-- ---- points of items

same_inside : {X E : Type 0} (a b : List X) (r : Result (List X) E) → r ≡ Ok a → r ≡ Ok b → a ≡ b
same_inside a b r h k = cc

-- what stands behind points that are added
pub front_added : {X E : Type 0} (before now : List X) (r s : Result (List X) E) → in_front before r ≡ Ok now → in_front before (joined r s) ≡ in_front now s
front_added before now (Ok xs) s h = front_joined before xs s ∙ ap (λ l. in_front l s) (same_inside (before ++ xs) now (in_front before (Ok xs)) refl h)
front_added before now (Err e) s h = absurd (cc)
