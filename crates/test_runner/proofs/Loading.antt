-- How the slots of a line are put one after another.
use Rattle.std.proofs.Common.{◌≡◌, ℕ, zero, suc, ◌+◌, ◌<◌, true, false, List, [], ◌∷◌, ◌++◌, drop, get_or, length, Result, Ok, Err, IsErr, refl, sym, ap, ◌∙◌, arith, rules}
use Rattle.std.specs.Prelude.{ℤ, pos, ◌*ℤ◌, replicate}
use Rattle.sample_store.specs.Samples.{AllSeries}
use Rattle.ticks.specs.declared.moment.Ms.{Ms}
use Rattle.xfrac.specs.Arithmetic.{arithmetic}
use Rattle.xfrac.specs.declared.value.ArithOp.TheVariants.{Add}
use Rattle.xfrac.specs.declared.value.NumFault.{NumFault}
use Rattle.xfrac.specs.declared.value.Held.{Held}
use Rattle.xfrac.specs.declared.value.Held.TheVariants.{Value}
use Rattle.xfrac.specs.declared.value.XFrac.{XFrac}
use Rattle.test_runner.specs.Loads.{Slot, Empty, Filled, Outside, slots_from, slots_of, line_slots, is_beyond, run_slots, sample_put, slot_put, slots_put, is_placed, items_put, line_put, lines_put, left_by, left_by_all}
use Rattle.script_read.specs.Outcomes.{then_try}
use Rattle.script_read.specs.Series.{LabelList}
use Rattle.script_read.specs.declared.script.Command.{Command}
use Rattle.script_read.specs.declared.script.SeriesItem.{SeriesItem}
use Rattle.script_read.specs.declared.script.SeriesLine.{SeriesLine}
use Rattle.test_runner.specs.declared.fault.LoadRefusal.TheVariants.{Unplaced}
use Rattle.test_runner.specs.declared.fault.RunnerFault.{RunnerFault}
use Rattle.test_runner.specs.declared.fault.RunnerFault.TheVariants.{Range, Refused}
use Rattle.test_runner.proofs.Putting.{Put, Splits, next_of}

-- a value outside the limits ends a run
slots_end : (later : XFrac → List Slot) (r : Result XFrac NumFault) → IsErr r → slots_from later r ≡ Outside ∷ []
slots_end later (Ok next) bad = search rules
slots_end later (Err fault) bad = refl

tried : (r : Result AllSeries RunnerFault) (f g h : Put) → ((s : AllSeries) → f s ≡ then_try (g s) h) → then_try r f ≡ then_try (then_try r g) h
tried (Ok s) f g h same = same s
tried (Err fault) f g h same = refl

module _ (line : ℕ) (labels : LabelList) (interval : Ms) where
  abbrev put : ℕ → List Slot → Put
  put place slots = slots_put line labels interval place slots

  abbrev put_at : ℕ → Slot → Put
  put_at place slot = slot_put line labels (pos place *ℤ interval.0) slot

  -- gaps are skipped
  pub gaps : (n place : ℕ) (series : AllSeries) → put place (replicate n Empty) series ≡ Ok series
  gaps zero place series = refl
  gaps (suc n) place series = gaps n (place + 1) series

  -- a sample within the limit of times, and one beyond it
  pub slot_filled : (at : Ms) (t : ℤ) (held : Held) → at.0 ≡ t → is_beyond t ≡ false → (series : AllSeries) → slot_put line labels t (Filled held) series ≡ sample_put line labels at held series
  slot_filled at t held is within series = rw within (ap (λ (u : ℤ). sample_put line labels (record { 0 = u }) held series) (sym is))

  pub slot_beyond : (t : ℤ) (held : Held) → is_beyond t ≡ true → (series : AllSeries) → slot_put line labels t (Filled held) series ≡ Err (Range line)
  slot_beyond t held beyond series = rw beyond refl

  -- slots are put, and those behind them
  pub slots_join : (xs ys : List Slot) (place : ℕ) → Splits (put place (xs ++ ys)) (put place xs) (put (place + length xs) ys)
  slots_join [] ys place = λ series. let e : place ≡ place + 0 = omega arith in ap (λ p. put p ys series) e
  slots_join (x ∷ xs) ys place = λ series.
      let e : place + 1 + length xs ≡ place + suc (length xs) = omega arith in
      tried (put_at place x series) (put (place + 1) (xs ++ ys)) (put (place + 1) xs) (put (place + suc (length xs)) ys)
      (λ s. slots_join xs ys (place + 1) s ∙ ap (λ p. then_try (put (place + 1) xs s) (put p ys)) e)

  -- the first item of those that are left
  pub items_split : (items : List SeriesItem) (i : ℕ) (item : SeriesItem) → i < length items → item ≡ get_or items i item → (place next : ℕ) → next ≡ place + length (slots_of item)
      → Splits (put place (line_slots (drop i items))) (put place (slots_of item)) (put next (line_slots (drop (i + 1) items)))
  items_split items i item lt is place next behind = λ series.
      ap (λ (l : List SeriesItem). put place (line_slots l) series) (next_of items i item lt is)
      ∙ slots_join (slots_of item) (line_slots (drop (i + 1) items)) place series
      ∙ ap (λ p. then_try (put place (slots_of item) series) (put p (line_slots (drop (i + 1) items)))) (sym behind)

  module _ (value by : XFrac) (n place : ℕ) where
    -- the first value of a run, with others behind it or none
    pub run_more : (k : ℕ) → n ≡ suc k → Splits (put place (run_slots n value by)) (put_at place (Filled (Value value))) (put (place + 1) (slots_from (λ next. run_slots k next by) (arithmetic Add value by)))
    run_more k e = λ series. rw e refl

    pub run_last : n ≡ 0 → (series : AllSeries) → put place (run_slots n value by) series ≡ put place (Filled (Value value) ∷ []) series
    run_last e series = rw e refl

  pub run_goes : (later : XFrac → List Slot) (r : Result XFrac NumFault) (next : XFrac) (place : ℕ) → r ≡ Ok next → (series : AllSeries) → put place (slots_from later r) series ≡ put place (later next) series
  run_goes later r next place is series = rw is refl

  pub run_overflows : (later : XFrac → List Slot) (r : Result XFrac NumFault) (place : ℕ) → IsErr r → (series : AllSeries) → put place (slots_from later r) series ≡ Err (Range line)
  run_overflows later r place bad series = ap (λ slots. put place slots series) (slots_end later r bad)

-- how many slots a run has
pub run_longer : (value by next : XFrac) (n k : ℕ) → n ≡ suc k → arithmetic Add value by ≡ Ok next → length (run_slots n value by) ≡ suc (length (run_slots k next by))
run_longer value by next n k e sum = rw (e, sum) refl

-- ---- lines with a place, and without one

module _ (declared : List LabelList) (interval : Ms) (line : SeriesLine) where
  pub placed_put : is_placed declared line.labels ≡ true → (series : AllSeries) → line_put declared interval line series ≡ items_put interval line series
  placed_put placed series = rw placed refl

  pub unplaced_put : is_placed declared line.labels ≡ false → (series : AllSeries) → line_put declared interval line series ≡ Err (Refused (Unplaced line.line))
  unplaced_put without series = rw without refl

-- ---- the first line or command of those that are left

pub lines_split : (declared : List LabelList) (interval : Ms) (lines : List SeriesLine) (i : ℕ) (line : SeriesLine) → i < length lines → line ≡ get_or lines i line
    → Splits (lines_put declared interval (drop i lines)) (line_put declared interval line) (lines_put declared interval (drop (i + 1) lines))
lines_split declared interval lines i line lt is = λ s. ap (λ (ls : List SeriesLine). lines_put declared interval ls s) (next_of lines i line lt is)

pub commands_split : (declared : List LabelList) (commands : List Command) (i : ℕ) (command : Command) → i < length commands → command ≡ get_or commands i command
    → Splits (left_by_all declared (drop i commands)) (left_by declared command.what) (left_by_all declared (drop (i + 1) commands))
commands_split declared commands i command lt is = λ s. ap (λ (cs : List Command). left_by_all declared cs s) (next_of commands i command lt is)

-- a run's last value is one slot
pub run_ends : (value by : XFrac) (n : ℕ) → n ≡ 0 → length (run_slots n value by) ≡ 1
run_ends value by n e = rw e refl
