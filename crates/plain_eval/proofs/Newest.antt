-- The samples of a range as they are read from its edge on, and the series as they are found by their numbers.
use Rattle.std.proofs.Common.{◌≡◌, ℕ, zero, suc, ◌<◌, Bool, true, false, List, [], ◌∷◌, ◌++◌, length, Option, None, Some, refl, sym, ap, ◌∙◌, arith, append_assoc, append-nil, get_or, map}
use Rattle.std.specs.Prelude.{ℤ, ◌<ℤ◌, Contains, int_lt, int_le, not, slice_get, if◌then◌else◌, ◌&&◌}
use Rattle.std.specs.List.{AllByRecursion, cons_option, filter_map}
use Rattle.std.specs.List.Sorted.{IsStrictlySortedBy}
use Rattle.std.specs.Option.{option_and_then, option_to_list}
use Rattle.std.specs.Ordering.{int_cmp}
use Rattle.std.specs.Cmp.{int_ranked}
use Rattle.std.specs.declared.cmp.Ordering.TheVariants.{Less}
use Rattle.std.proofs.lemmas.Int.{ints}
use Rattle.std.proofs.lemmas.List.Elements.{All-contains_itself, recursion_from_All}
use Rattle.label_set.specs.declared.rules.Rule.{Rule}
use Rattle.sample_store.specs.Samples.{AllSeries, IsRising, IsSelected, Samples, chosen, later_than}
use Rattle.ticks.specs.Edges.{before, is_from, is_from-later}
use Rattle.ticks.specs.declared.moment.Ms.{Ms}
use Rattle.xfrac.specs.declared.value.Held.{Held}
use Rattle.xfrac.specs.declared.value.XFrac.{XFrac}
use Rattle.promql_meaning.specs.Selecting.{between, fresh_sample, passing}
use Rattle.plain_eval.specs.Numbered.{fresh_until, until}

-- ---- the samples up to a time

-- the samples at the front, up to the first one that is later
abbrev pub front_until : ℤ → Samples → Samples
front_until m [] = []
front_until m (s ∷ samples) = if int_lt m s.0.0 then [] else s ∷ front_until m samples

pub later_less : (a b : ℤ) → int_cmp a b ≡ Less → (m : ℤ) → int_lt m a ≡ true → int_lt m b ≡ true
later_less a b less m later = let h : a <ℤ b = int_ranked a b Less (sym less) in grind (arith, ints, h, later)

pub rising_tail : (s : Ms × Held) (samples : Samples) → IsRising (s ∷ samples) → IsRising samples
unfolding IsStrictlySortedBy
rising_tail s samples rising = rising.1

-- behind a later sample all are later
pub none_until : (m : ℤ) (s : Ms × Held) (samples : Samples) → IsRising (s ∷ samples) → int_lt m s.0.0 ≡ true → until m samples ≡ []
unfolding IsStrictlySortedBy
none_until m s [] rising later = refl
none_until m s (next ∷ samples) rising later =
    let h : int_lt m next.0.0 ≡ true = later_less s.0.0 next.0.0 rising.0.0 m later in
    rw h (none_until m next samples rising.1 h)

pub fronts : (m : ℤ) (samples : Samples) → IsRising samples → front_until m samples ≡ until m samples
fronts m [] rising = refl
fronts m (s ∷ samples) rising =
    elim (int_lt m s.0.0) as (λ b. int_lt m s.0.0 ≡ b → (if b then [] else s ∷ front_until m samples) ≡ (if not b then s ∷ until m samples else until m samples)) [
      | true ↦ λ h. sym (none_until m s samples rising h)
      | false ↦ λ h. ap (λ ss. s ∷ ss) (fronts m samples (rising_tail s samples rising))
    ] refl

past : (m time t : ℤ) → t ≡ time → m <ℤ time → int_lt m t ≡ true
past m time t is later = rw is (grind (arith, ints, later))

not_past : (m time t : ℤ) → t ≡ time → int_lt m time ≡ false → int_lt m t ≡ false
not_past m time t is h = rw is h

-- a later sample ends them
pub stops : (m time : ℤ) (s : Ms × Held) (samples rest : Samples) → samples ≡ s ∷ rest → s.0.0 ≡ time → m <ℤ time → front_until m samples ≡ []
stops m time s samples rest is here later =
    let h : int_lt m s.0.0 ≡ true = past m time s.0.0 here later in
    rw (is, h) refl

-- ---- the samples that are no markers

-- a column of the samples that are read: their times or their values
module _ {A : Type 0} (column : Ms × XFrac → A) where
  -- what is still to be read
  abbrev pub ahead : ℤ → Samples → List A
  ahead m samples = map column (filter_map fresh_sample (front_until m samples))

  -- what has been read, where no sample up to the time is left
  pub closes : (m : ℤ) (read : List A) (rest all : Samples) → front_until m rest ≡ [] → read ++ ahead m rest ≡ ahead m all → IsRising all → read ≡ map column (fresh_until m all)
  closes m read rest all none told rising =
      sym (append-nil read) ∙ ap (λ ss. read ++ map column (filter_map fresh_sample ss)) (sym none) ∙ told ∙ ap (λ ss. map column (filter_map fresh_sample ss)) (fronts m all rising)

  one_first : (o : Option (Ms × XFrac)) (rest : List (Ms × XFrac)) → map column (cons_option o rest) ≡ map column (option_to_list o) ++ map column rest
  one_first None rest = refl
  one_first (Some s) rest = refl

  -- one sample more
  pub read_more : (m : ℤ) (s : Ms × Held) (samples rest : Samples) (old new all : List A) → samples ≡ s ∷ rest → int_lt m s.0.0 ≡ false → new ≡ old ++ map column (option_to_list (fresh_sample s))
      → old ++ ahead m samples ≡ all → new ++ ahead m rest ≡ all
  read_more m s samples rest old new all is within made told =
      let front : front_until m samples ≡ s ∷ front_until m rest = ap (front_until m) is ∙ ap (λ b. if b then [] else s ∷ front_until m rest) within in
      ap (λ xs. xs ++ ahead m rest) made ∙ append_assoc old (map column (option_to_list (fresh_sample s))) (ahead m rest)
      ∙ ap (λ xs. old ++ xs) (sym (one_first (fresh_sample s) (filter_map fresh_sample (front_until m rest))) ∙ ap (λ ss. map column (filter_map fresh_sample ss)) (sym front))
      ∙ told

-- ---- a range

pub le_not : (a b : ℤ) → int_le a b ≡ not (int_lt b a)
le_not a b = elim (int_lt b a) as (λ c. int_lt b a ≡ c → int_le a b ≡ not c) [
  | true ↦ λ h. grind (arith, ints, h)
  | false ↦ λ h. grind (arith, ints, h)
] refl

-- the samples of a range are those behind its edge, or on it where it is closed, up to its moment
pub of_range : (closed : Bool) (edge m : ℤ) (samples : Samples) → until m (later_than (record { 0 = before closed edge }) samples) ≡ between closed edge m samples
of_range closed edge m [] = refl
of_range closed edge m (s ∷ samples) =
    let rest = of_range closed edge m samples in
    let last : Ms = record { 0 = before closed edge } in
    ap (λ b. until m (if b then s ∷ later_than last samples else later_than last samples)) (sym (is_from-later closed edge s.0.0))
    ∙ elim (is_from closed edge s.0.0) as (λ b. until m (if b then s ∷ later_than last samples else later_than last samples)
    ≡ (if b && int_le s.0.0 m then s ∷ between closed edge m samples else between closed edge m samples))
    [ true ↦ rw (le_not s.0.0 m, rest) refl | false ↦ rest ]

-- ---- the series of numbers

fused : {A B : Type 0} (make : A → Option B) (all : List A) (numbers : List ℕ)
    → filter_map (λ n. option_and_then make (slice_get all n)) numbers ≡ filter_map make (filter_map (slice_get all) numbers)
fused make all [] = refl
fused {A} {B} make all (n ∷ numbers) =
    let rest = fused make all numbers in
    elim (slice_get all n) as (λ (o : Option A). cons_option (option_and_then make o) (filter_map (λ k. option_and_then make (slice_get all k)) numbers)
    ≡ filter_map make (cons_option o (filter_map (slice_get all) numbers)))
    [ None ↦ rest | Some a ↦ ap (cons_option (make a)) rest ]

-- what is made of the series with some numbers
pub made_of : {A B : Type 0} (make : A → Option B) (all found : List A) (numbers : List ℕ) → filter_map (slice_get all) numbers ≡ found
    → filter_map (λ n. option_and_then make (slice_get all n)) numbers ≡ filter_map make found
made_of make all found numbers is = fused make all numbers ∙ ap (filter_map make) is

each_within : (bound : ℕ) (numbers : List ℕ) → ((s : ℕ) → Contains numbers s → s < bound) → AllByRecursion (λ (n : ℕ). n < bound) numbers
each_within bound numbers within =
    recursion_from_All (λ (n : ℕ). n < bound) numbers (λ k d w. within (get_or numbers k d) (All-contains_itself numbers k d w))

-- each number of a selection is that of a series
pub all_within : (kept : List (Bool × List ℕ)) (rules : List Rule) (all : AllSeries) (places : List ℕ) → IsSelected kept rules all places → AllByRecursion (λ (n : ℕ). n < length all) places
all_within kept rules all places selected = each_within (length all) places (λ s c. ((selected.exact s).0 c).0)

-- there are as many series as numbers of series
as_many : {A : Type 0} (all : List A) (numbers : List ℕ) → AllByRecursion (λ (n : ℕ). n < length all) numbers → length (filter_map (slice_get all) numbers) ≡ length numbers
as_many all [] within = refl
as_many {A} all (n ∷ numbers) within =
    let rest = as_many all numbers within.1 in
    elim (slice_get all n) as (λ (o : Option A). slice_get all n ≡ o → length (cons_option o (filter_map (slice_get all) numbers)) ≡ suc (length numbers)) [
      | None ↦ λ is. absurd (there all n within.0 is)
      | Some a ↦ λ is. ap suc rest
    ] refl
  where
    there : (xs : List A) (k : ℕ) → k < length xs → slice_get xs k ≡ None → ⊥
    there [] k h is = omega (arith, h)
    there (x ∷ xs) zero h is = cc
    there (x ∷ xs) (suc k) h is = there xs k (let l : k < length xs = omega (arith, h) in l) is

-- as many numbers are selected as series pass
pub as_many_pass : (kept : List (Bool × List ℕ)) (rules : List Rule) (all : AllSeries) (places : List ℕ) → IsSelected kept rules all places → filter_map (slice_get all) places ≡ chosen kept rules all
    → length places ≡ length (passing all kept rules)
as_many_pass kept rules all places selected is = sym (as_many all places (all_within kept rules all places selected)) ∙ ap length is
