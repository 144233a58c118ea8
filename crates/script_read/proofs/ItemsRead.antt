-- An item is read as what its form says.
use Rattle.std.proofs.Common.{◌≡◌, ◌<◌, ℕ, ◌+◌, Bool, true, false, not, cond, List, [], ◌∷◌, ◌++◌, length, drop, position, Some, None, option_map, Result, Ok, refl, ap, sym, ◌∙◌, subst, arith, append-nil, append_assoc, length-append}
use Rattle.std.proofs.Math.Seq.{take-append_seam, drop-append_seam, drop-append-add}
use Rattle.std.specs.Prelude.{◌==◌, bytes_eq, codes}
use Rattle.std.specs.List.{list_all, position_or_len}
use Rattle.std.proofs.lemmas.Bool.{le-ltb, lt-ltb}
use Rattle.std.proofs.lemmas.List.Folds.{list_all-append}
use Rattle.xfrac.specs.Arithmetic.{whole_number}
use Rattle.xfrac.specs.Forming.{negated}
use Rattle.xfrac.specs.declared.value.XFrac.{XFrac}
use Rattle.script_read.specs.Items.{count_spelled, is_exponent, is_sign, item_spelled, item_unmarked, run_spelled, run_values, step_place, step_signed, values_spelled, gap_spelled}
use Rattle.script_read.specs.Outcomes.{then_give, then_try}
use Rattle.script_read.specs.SeriesForms.{IsItem, IsStep, one_gap, more_gaps, stale_marker, number, same, stepped, up, down}
use Rattle.script_read.specs.Words.{number_spelled}
use Rattle.script_read.specs.declared.fault.LineFault.{LineFault}
use Rattle.script_read.specs.declared.script.SeriesItem.{SeriesItem}
use Rattle.script_read.specs.declared.script.SeriesItem.TheVariants.{Gap, Stale, Run}
use Rattle.script_read.proofs.Fronts.{and_both, front_len}
use Rattle.script_read.proofs.Spelled.{Ends, NumbersAreTold, ends_some, number_ends, scan_first, scan_stepped, scan_times, scan_unstepped}
use Rattle.script_read.proofs.Takes.{same_bytes}

abbrev is_times : ℕ → Bool
is_times byte = byte == 120

abbrev lacks_times : List ℕ → Bool
lacks_times text = list_all (λ byte. not (byte == 120)) text

-- ---- where an `x` stands

times_nowhere : (text : List ℕ) → lacks_times text ≡ true → position is_times text ≡ None
times_nowhere text h =
    let front : position_or_len is_times (text ++ []) ≡ length text = front_len (λ byte. not (byte == 120)) text [] h refl in
    let all : position_or_len is_times text ≡ length text = ap (position_or_len is_times) (sym (append-nil text)) ∙ front in
    ap (λ b. cond b (Some (position_or_len is_times text)) None) (le-ltb (position_or_len is_times text) (length text) (omega (arith, all)))

times_there : (values count : List ℕ) → lacks_times values ≡ true → position is_times (values ++ (120 ∷ count)) ≡ Some (length values)
times_there values count h =
    let word = values ++ (120 ∷ count) in
    let front : position_or_len is_times word ≡ length values = front_len (λ byte. not (byte == 120)) values (120 ∷ count) h refl in
    let within : position_or_len is_times word < length word = omega (arith, front, length-append values (120 ∷ count)) in
    ap (λ b. cond b (Some (position_or_len is_times word)) None) (lt-ltb (position_or_len is_times word) (length word) within) ∙ ap Some front

-- ---- words that aren't `stale` and begin with no underscore

unstale : (word : List ℕ) → (word ≡ codes "stale" → ⊥) → item_spelled word ≡ item_unmarked word
unstale word other = by (bytes_eq word (codes "stale")) refl
  where
    by : (b : Bool) → bytes_eq word (codes "stale") ≡ b → item_spelled word ≡ item_unmarked word
    by true e = absurd (other (same_bytes word (codes "stale") e))
    by false e = ap (λ b. cond b (Ok Stale) (item_unmarked word)) e

abbrev valued : List ℕ → Result SeriesItem LineFault
valued word = values_spelled (position (λ byte. byte == 120) word) word

unscored : (first : ℕ) (rest : List ℕ) → (first == 95) ≡ false → item_unmarked (first ∷ rest) ≡ valued (first ∷ rest)
unscored first rest h = ap (λ b. cond b (gap_spelled rest) (valued (first ∷ rest))) h

stale_ends : Ends 101 (codes "stale") → ⊥
stale_ends h =
    let end : Some 101 ≡ Some h.end = h.scanned in
    let same : 101 ≡ h.end = cc in
    let marked : true ≡ false = ap is_exponent same ∙ h.unmarked in
    absurd (cc)

values_read : (first : ℕ) (rest text : List ℕ) → (first == 95) ≡ false → ((first ∷ rest) ++ text ≡ codes "stale" → ⊥) → item_spelled ((first ∷ rest) ++ text) ≡ valued ((first ∷ rest) ++ text)
values_read first rest text h other = unstale ((first ∷ rest) ++ text) other ∙ unscored first (rest ++ text) h

-- a word with an `x` isn't `stale`
times_unstale : (values count : List ℕ) → lacks_times values ≡ true → values ++ (120 ∷ count) ≡ codes "stale" → ⊥
times_unstale values count h e =
    let there = times_there values count h in
    let none : Some (length values) ≡ None = sym there ∙ ap (position is_times) e in
    absurd (cc)

-- ---- runs

run_of : (first : ℕ) (rest count : List ℕ) → (first == 95) ≡ false → lacks_times (first ∷ rest) ≡ true → item_spelled ((first ∷ rest) ++ (120 ∷ count)) ≡ run_spelled (first ∷ rest) count
run_of first rest count h lacks =
    let values = first ∷ rest in
    let word = values ++ (120 ∷ count) in
    values_read first rest (120 ∷ count) h (times_unstale values count lacks)
    ∙ ap (λ place. values_spelled place word) (times_there values count lacks)
    ∙ ap (λ l. run_spelled l (drop (length values + 1) word)) (take-append_seam values (120 ∷ count))
    ∙ ap (run_spelled values) (drop-append-add values (120 ∷ count) 1)

runs_read : (values count : List ℕ) (run : XFrac × XFrac) (more : ℕ) → run_values (step_place values) values ≡ Ok run → count_spelled count ≡ Ok more → run_spelled values count ≡ Ok (Run run.0 run.1 more)
runs_read values count run more h k =
    ap (λ r. then_try r (λ (run : XFrac × XFrac). then_give (count_spelled count) (λ more. Run run.0 run.1 more))) h ∙ ap (λ r. then_give r (λ more. Run run.0 run.1 more)) k

module _ (told : NumbersAreTold) where
  same_read : (first count : List ℕ) (a : XFrac) (n : ℕ) → number_spelled first ≡ Ok a → count_spelled count ≡ Ok n → item_spelled (first ++ (120 ∷ count)) ≡ Ok (Run a (whole_number 0) n)
  same_read [] count a n h k = absurd (ends_some [] (number_ends told [] a h) refl)
  same_read (first ∷ rest) count a n h k =
      let e = number_ends told (first ∷ rest) a h in
      let none : step_place (first ∷ rest) ≡ None = ap (option_map (λ place. place + 1)) (scan_unstepped first rest e.end (scan_first 101 first rest e.end e.scanned).1) in
      run_of first rest count (scan_first 101 first rest e.end e.scanned).0 (scan_times 101 (first ∷ rest) e.end e.scanned)
      ∙ runs_read (first ∷ rest) count (a, whole_number 0) n (ap (λ place. run_values place (first ∷ rest)) none ∙ ap (λ r. then_give r (λ first. (first, whole_number 0))) h) k

  -- a sign and a number
  stepped_read : (first count spelled : List ℕ) (sign : ℕ) (a b c : XFrac) (n : ℕ) → is_sign sign ≡ true → (sign == 120) ≡ false → number_spelled first ≡ Ok a → number_spelled spelled ≡ Ok c
      → step_signed (sign ∷ spelled) ≡ Ok b → count_spelled count ≡ Ok n → item_spelled ((first ++ (sign ∷ spelled)) ++ (120 ∷ count)) ≡ Ok (Run a b n)
  stepped_read [] count spelled sign a b c n s x h g m k = absurd (ends_some [] (number_ends told [] a h) refl)
  stepped_read (first ∷ rest) count spelled sign a b c n s x h g m k =
      let e = number_ends told (first ∷ rest) a h in
      let f = number_ends told spelled c g in
      let front = first ∷ rest in
      let values = front ++ (sign ∷ spelled) in
      let lacks : lacks_times values ≡ true =
      list_all-append (λ byte. not (byte == 120)) front (sign ∷ spelled) ∙ and_both (lacks_times front) (lacks_times (sign ∷ spelled)) (scan_times 101 front e.end e.scanned)
      (and_both (not (sign == 120)) (lacks_times spelled) (ap not x) (scan_times 101 spelled f.end f.scanned)) in
      let length_is : length rest + 1 ≡ length front = omega arith in
      let place : step_place values ≡ Some (length front) =
      ap (option_map (λ place. place + 1)) (scan_stepped first rest e.end sign spelled (scan_first 101 first rest e.end e.scanned).1 e.unmarked s) ∙ ap Some length_is in
      let run : run_values (step_place values) values ≡ Ok (a, b) =
      ap (λ p. run_values p values) place
      ∙ ap (λ l. then_try (number_spelled l) (λ first. then_give (step_signed (drop (length front) values)) (λ by. pair_of first by))) (take-append_seam front (sign ∷ spelled))
      ∙ ap (λ r. then_try r (λ first. then_give (step_signed (drop (length front) values)) (λ by. pair_of first by))) h
      ∙ ap (λ l. then_give (step_signed l) (pair_of a)) (drop-append_seam front (sign ∷ spelled))
      ∙ ap (λ r. then_give r (pair_of a)) m in
      run_of first (rest ++ (sign ∷ spelled)) count (scan_first 101 first rest e.end e.scanned).0 lacks ∙ runs_read values count (a, b) n run k
    where
      pair_of : XFrac → XFrac → XFrac × XFrac
      pair_of x y = (x, y)

  step_read : (first count step : List ℕ) (a b : XFrac) (n : ℕ) → number_spelled first ≡ Ok a → IsStep step b → count_spelled count ≡ Ok n → item_spelled ((first ++ step) ++ (120 ∷ count)) ≡ Ok (Run a b n)
  step_read first count _ a _ n h (up spelled by k) m = stepped_read first count spelled 43 a by by n refl refl h k k m
  step_read first count _ a _ n h (down spelled by k) m = stepped_read first count spelled 45 a (negated by) by n refl refl h k (ap (λ r. then_give r negated) k) m

  -- ---- items

  number_read : (word : List ℕ) (a : XFrac) → number_spelled word ≡ Ok a → item_spelled word ≡ Ok (Run a (whole_number 0) 0)
  number_read [] a h = absurd (ends_some [] (number_ends told [] a h) refl)
  number_read (first ∷ rest) a h =
      let word = first ∷ rest in
      let e = number_ends told word a h in
      unstale word (λ k. stale_ends (subst (Ends 101) k e))
      ∙ unscored first rest (scan_first 101 first rest e.end e.scanned).0
      ∙ ap (λ place. values_spelled place word) (times_nowhere word (scan_times 101 word e.end e.scanned))
      ∙ ap (λ r. then_give r (λ first. Run first (whole_number 0) 0)) h

  pub item_read : (word : List ℕ) (item : SeriesItem) → IsItem word item → item_spelled word ≡ Ok item
  item_read _ _ one_gap = refl
  item_read _ _ (more_gaps count word n k is) = ap item_spelled is ∙ ap (λ r. then_give r Gap) k
  item_read _ _ stale_marker = refl
  item_read _ _ (number word a h) = number_read word a h
  item_read _ _ (same first count word a n h k is) = ap item_spelled is ∙ same_read first count a n h k
  item_read _ _ (stepped first step count word a b n h s k is) =
      ap item_spelled (is ∙ sym (append_assoc first step (codes "x" ++ count))) ∙ step_read first count step a b n h s k
