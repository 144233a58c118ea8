-- How far counters rise over filters and leaves.
use Rattle.std.proofs.Common.{◌≡◌, ◌∙◌, ◌<◌, ◌≤◌, ◌+◌, ◌*◌, ℕ, zero, suc, arith, Bool, true, false, List, [], ◌∷◌, ◌++◌, length, map, take, drop, get_or, length-append, refl, sym, ap, subst, true≢false, if◌then◌else◌}
use Rattle.std.specs.Prelude.{◌||◌}
use Rattle.std.specs.List.{AllByRecursion, list_any}
use Rattle.std.proofs.lemmas.List.{drop_more, take_more}
use Rattle.std.proofs.lemmas.List.Sums.{sum_by-cons}
use Rattle.holders.specs.Joins.{both_of}
use Rattle.label_set.specs.declared.rules.Rule.{Rule}
use Rattle.sample_store.specs.Samples.{AllSeries, chosen, looked_at}
use Rattle.ticks.specs.Works.{Counts}
use Rattle.plan_bases.specs.Bases.{AreSeries, Holds, HoldsEach, HoldsLeaf, Kept, Lists, Stays}
use Rattle.plan_bases.specs.Leaves.{bare, filtered}
use Rattle.plan_bases.specs.Looks.{LooksAt, distinct_behind, filter_tests, leaf_tests, leaves_look_behind, selectors_look}
use Rattle.plan_bases.specs.RuleEquality.{rules_decide, rules_eq}
use Rattle.plan_bases.specs.declared.leaves.Leaf.{Leaf}
use Rattle.plan_bases.proofs.Narrowing.{counted}

-- ---- counters

pub looks_nothing : (before after : Counts) (most : ℕ) → after ≡ before → LooksAt before after most
looks_nothing before after most e =
    let same = ap (λ (c : Counts). c.tested) e in
    record { tested = omega (arith, same); fetched = ap (λ (c : Counts). c.fetched) e; probed = ap (λ (c : Counts). c.probed) e }

pub looks_less : (before after : Counts) (some most : ℕ) → some ≤ most → LooksAt before after some → LooksAt before after most
looks_less before after some most l looks = record { tested = (let t = looks.tested in omega (arith, t, l)); fetched = looks.fetched; probed = looks.probed }

pub looks_both : (before now after : Counts) (first second most : ℕ) → LooksAt before now first → LooksAt now after second → first + second ≤ most → LooksAt before after most
looks_both before now after first second most one other l = record {
  tested = (let t = one.tested in let u = other.tested in omega (arith, t, u, l));
  fetched = other.fetched ∙ one.fetched;
  probed = other.probed ∙ one.probed;
}

-- ---- filters

-- a filter selects by the joined rules where that looks at fewer series than it has tests over its selector, and makes these tests else
module _ (kept : Kept) (samples : AllSeries) (under more joined : List Rule) (series : List ℕ) (is : joined ≡ under ++ more) (are : AreSeries kept samples under series)
    (looks tests : ℕ) (found : looks ≡ looked_at joined samples) (all : tests ≡ length series * length more) where
  found_as : looks ≡ looked_at (under ++ more) samples
  found_as = found ∙ ap (λ (rules : List Rule). looked_at rules samples) is

  tests_as : tests ≡ length (chosen kept under samples) * length more
  tests_as = all ∙ ap (λ (n : ℕ). n * length more) (counted kept samples under series are)

  pub selects : looks < tests → looked_at joined samples ≡ filter_tests kept samples under more
  selects less = let l = found_as in let t = tests_as in omega (arith, found, l, t, less)

  pub tests_each : (looks < tests → ⊥) → tests ≡ filter_tests kept samples under more
  tests_each off = let l = found_as in let t = tests_as in let least : tests ≤ looks = omega (arith, off) in omega (arith, l, t, least)

-- ---- what is there

pub hold_still : (kept : Kept) (before after : Lists) (rules : List Rule) → Stays before after → Holds kept before rules → Holds kept after rules
hold_still kept before after rules stays holds = λ have. stays rules (holds have)

pub hold_each_still : (kept : Kept) (before after : Lists) (under : List Rule) (filters : List (List Rule)) → Stays before after → HoldsEach kept before under filters → HoldsEach kept after under filters
hold_each_still kept before after under [] stays h = hold_still kept before after under stays h
hold_each_still kept before after under (more ∷ filters) stays h = (hold_still kept before after under stays h.0, hold_each_still kept before after (under ++ more) filters stays h.1)

pub hold_all_still : (kept : Kept) (before after : Lists) (leaves : List Leaf) → Stays before after → AllByRecursion (HoldsLeaf kept before) leaves → AllByRecursion (HoldsLeaf kept after) leaves
hold_all_still kept before after [] stays h = tt
hold_all_still kept before after (leaf ∷ leaves) stays h = (hold_each_still kept before after leaf.base leaf.filters stays h.0, hold_all_still kept before after leaves stays h.1)

-- the first of some filters, and those behind it
pub each_of : (kept : Kept) (lists : Lists) (under : List Rule) (filters : List (List Rule)) (more : List Rule) → 1 ≤ length filters → more ≡ get_or filters 0 more → Holds kept lists under
    → HoldsEach kept lists (under ++ more) (drop 1 filters) → HoldsEach kept lists under filters
each_of kept lists under [] more l is h rest = absurd (omega (arith, l))
each_of kept lists under (f ∷ filters) more l is h rest = (h, subst (λ (m : List Rule). HoldsEach kept lists (under ++ m) filters) is rest)

-- the selector of a leaf is there, where the leaf is
base_holds : (kept : Kept) (lists : Lists) (under : List Rule) (filters : List (List Rule)) → HoldsEach kept lists under filters → Holds kept lists under
base_holds kept lists under [] h = h
base_holds kept lists under (more ∷ filters) h = h.0

pub bases_hold : (kept : Kept) (lists : Lists) (leaves : List Leaf) → AllByRecursion (HoldsLeaf kept lists) leaves → AllByRecursion (Holds kept lists) (map (λ (leaf : Leaf). leaf.base) leaves)
bases_hold kept lists [] h = tt
bases_hold kept lists (leaf ∷ leaves) h = (base_holds kept lists leaf.base leaf.filters h.0, bases_hold kept lists leaves h.1)

-- rules that were seen are there
seen_holds : (kept : Kept) (lists : Lists) (rules : List Rule) (seen : List (List Rule)) → AllByRecursion (Holds kept lists) seen → list_any (rules_eq rules) seen ≡ true → Holds kept lists rules
seen_holds kept lists rules [] h e = absurd (true≢false (sym e))
seen_holds kept lists rules (s ∷ seen) h e = by (rules_eq rules s) refl e (λ any. seen_holds kept lists rules seen h.1 any)
  where
    by : (b : Bool) → rules_eq rules s ≡ b → (b || list_any (rules_eq rules) seen) ≡ true → (list_any (rules_eq rules) seen ≡ true → Holds kept lists rules) → Holds kept lists rules
    by true is any rest = subst (Holds kept lists) (sym ((rules_decide rules s).0 is)) h.0
    by false is any rest = rest any

-- ---- leaves

module _ (kept : Kept) (samples : AllSeries) where
  abbrev rest_look : List (List Rule) → List Leaf → ℕ
  rest_look seen leaves = leaves_look_behind kept samples seen leaves

  -- one leaf more, whose selector was seen or not
  leaf_seen : (seen : List (List Rule)) (leaf : Leaf) (leaves : List Leaf) → list_any (rules_eq leaf.base) seen ≡ true
      → rest_look seen (leaf ∷ leaves) ≡ leaf_tests kept samples leaf + rest_look (seen ++ leaf.base ∷ []) leaves
  leaf_seen seen leaf leaves e =
      let tests = sum_by-cons (leaf_tests kept samples) leaf leaves in
      let rest : List (List Rule) = distinct_behind (seen ++ leaf.base ∷ []) (map (λ (one : Leaf). one.base) leaves) in
      let bases : selectors_look samples (if list_any (rules_eq leaf.base) seen then rest else leaf.base ∷ rest) ≡ selectors_look samples rest = ap (λ (b : Bool). selectors_look samples (if b then rest else leaf.base ∷ rest)) e in
      omega (arith, tests, bases)

  leaf_new : (seen : List (List Rule)) (leaf : Leaf) (leaves : List Leaf) → list_any (rules_eq leaf.base) seen ≡ false
      → rest_look seen (leaf ∷ leaves) ≡ (looked_at leaf.base samples + leaf_tests kept samples leaf) + rest_look (seen ++ leaf.base ∷ []) leaves
  leaf_new seen leaf leaves e =
      let tests = sum_by-cons (leaf_tests kept samples) leaf leaves in
      let rest : List (List Rule) = distinct_behind (seen ++ leaf.base ∷ []) (map (λ (one : Leaf). one.base) leaves) in
      let bases : selectors_look samples (if list_any (rules_eq leaf.base) seen then rest else leaf.base ∷ rest) ≡ selectors_look samples (leaf.base ∷ rest) = ap (λ (b : Bool). selectors_look samples (if b then rest else leaf.base ∷ rest)) e in
      let more = sum_by-cons (λ (rules : List Rule). looked_at rules samples) leaf.base rest in
      omega (arith, tests, bases, more)

  -- a turn over the leaves: counters rise by what this leaf takes, and what the rest may take is left
  pub turn : (seen : List (List Rule)) (leaf : Leaf) (leaves : List Leaf) (lists : Lists) (start now after : Counts) (most : ℕ) → AllByRecursion (Holds kept lists) seen
      → (Holds kept lists leaf.base → LooksAt now after (leaf_tests kept samples leaf)) → LooksAt now after (looked_at leaf.base samples + leaf_tests kept samples leaf)
      → now.tested + rest_look seen (leaf ∷ leaves) ≤ start.tested + most → after.tested + rest_look (seen ++ leaf.base ∷ []) leaves ≤ start.tested + most
  turn seen leaf leaves lists start now after most holds known looks within = by (list_any (rules_eq leaf.base) seen) refl
    where
      by : (b : Bool) → list_any (rules_eq leaf.base) seen ≡ b → after.tested + rest_look (seen ++ leaf.base ∷ []) leaves ≤ start.tested + most
      by true e =
          let there = known (seen_holds kept lists leaf.base seen holds e) in
          let t = there.tested in
          let all = leaf_seen seen leaf leaves e in
          omega (arith, t, all, within)
      by false e =
          let t = looks.tested in
          let all = leaf_new seen leaf leaves e in
          omega (arith, t, all, within)

-- ---- selectors that are merged

one_seen : (b : Bool) → (b || false) ≡ true → b ≡ true
one_seen true e = refl
one_seen false e = e

module _ (kept : Kept) (samples : AllSeries) (under more : List Rule) where
  abbrev merged : ℕ
  merged = leaves_look_behind kept samples [] (bare under ∷ filtered (bare under) more ∷ [])

  abbrev written : ℕ
  written = leaves_look_behind kept samples [] (bare under ∷ bare (under ++ more) ∷ [])

  merged_is : merged ≡ looked_at under samples + filter_tests kept samples under more
  merged_is =
      let again : list_any (rules_eq under) (under ∷ []) ≡ true = ap (λ (b : Bool). b || false) ((rules_decide under under).1 refl) in
      let first = leaf_new kept samples [] (bare under) (filtered (bare under) more ∷ []) refl in
      let second = leaf_seen kept samples (under ∷ []) (filtered (bare under) more) [] again in
      omega (arith, first, second)

  written_is : (b : Bool) → list_any (rules_eq (under ++ more)) (under ∷ []) ≡ b → written ≡ looked_at under samples + (if b then 0 else looked_at (under ++ more) samples)
  written_is true seen =
      let first = leaf_new kept samples [] (bare under) (bare (under ++ more) ∷ []) refl in
      let second = leaf_seen kept samples (under ∷ []) (bare (under ++ more)) [] seen in
      omega (arith, first, second)
  written_is false new =
      let first = leaf_new kept samples [] (bare under) (bare (under ++ more) ∷ []) refl in
      let second = leaf_new kept samples (under ∷ []) (bare (under ++ more)) [] new in
      omega (arith, first, second)

  -- a filter without rules tests nothing
  none_more : under ++ more ≡ under → filter_tests kept samples under more ≡ 0
  none_more e =
      let lengths = ap length e in
      let sum = length-append under more in
      let none : length more ≡ 0 = omega (arith, lengths, sum) in
      let tests : length (chosen kept under samples) * length more ≡ length (chosen kept under samples) * 0 = ap (λ (n : ℕ). length (chosen kept under samples) * n) none in
      omega (arith, tests)

  pub merged_no_more : merged ≤ written
  merged_no_more = by (list_any (rules_eq (under ++ more)) (under ∷ [])) refl
    where
      by : (b : Bool) → list_any (rules_eq (under ++ more)) (under ∷ []) ≡ b → merged ≤ written
      by true seen =
          let none = none_more ((rules_decide (under ++ more) under).0 (one_seen (rules_eq (under ++ more) under) seen)) in
          let m = merged_is in
          let w = written_is true seen in
          omega (arith, none, m, w)
      by false new =
          let m = merged_is in
          let w = written_is false new in
          omega (arith, m, w)

-- ---- leaves, one after another

pub take_whole : {X : Type 0} (xs : List X) (n : ℕ) → length xs ≤ n → take n xs ≡ xs
take_whole [] zero l = refl
take_whole [] (suc n) l = refl
take_whole (x ∷ xs) zero l = absurd (omega (arith, l))
take_whole (x ∷ xs) (suc n) l = ap (λ ys. x ∷ ys) (take_whole xs n (omega (arith, l)))

bases_more : (leaves : List Leaf) (leaf : Leaf) → map (λ (one : Leaf). one.base) (leaves ++ leaf ∷ []) ≡ map (λ (one : Leaf). one.base) leaves ++ leaf.base ∷ []
bases_more [] leaf = refl
bases_more (first ∷ leaves) leaf = ap (λ lists. first.base ∷ lists) (bases_more leaves leaf)

module _ (kept : Kept) (samples : AllSeries) (leaves : List Leaf) (i : ℕ) (leaf : Leaf) (within : i < length leaves) (is : leaf ≡ get_or leaves i leaf) where
  take_at : take (i + 1) leaves ≡ take i leaves ++ leaf ∷ []
  take_at = take_more leaves i leaf within ∙ ap (λ (one : Leaf). take i leaves ++ one ∷ []) (sym is)

  drop_at : drop i leaves ≡ leaf ∷ drop (i + 1) leaves
  drop_at = drop_more leaves i leaf within ∙ ap (λ (one : Leaf). one ∷ drop (i + 1) leaves) (sym is)

  bases_at : map (λ (one : Leaf). one.base) (take (i + 1) leaves) ≡ map (λ (one : Leaf). one.base) (take i leaves) ++ leaf.base ∷ []
  bases_at = ap (map (λ (one : Leaf). one.base)) take_at ∙ bases_more (take i leaves) leaf

  pub all_held : (before after : Lists) → Stays before after → AllByRecursion (HoldsLeaf kept before) (take i leaves) → HoldsLeaf kept after leaf → AllByRecursion (HoldsLeaf kept after) (take (i + 1) leaves)
  all_held before after stays h one =
      subst (AllByRecursion (HoldsLeaf kept after)) (sym take_at) (both_of (HoldsLeaf kept after) (take i leaves) (leaf ∷ []) (hold_all_still kept before after (take i leaves) stays h) (one, tt))

  pub all_turn : (lists : Lists) (start now after : Counts) (most : ℕ) → AllByRecursion (HoldsLeaf kept lists) (take i leaves)
      → (Holds kept lists leaf.base → LooksAt now after (leaf_tests kept samples leaf)) → LooksAt now after (looked_at leaf.base samples + leaf_tests kept samples leaf)
      → now.tested + leaves_look_behind kept samples (map (λ (one : Leaf). one.base) (take i leaves)) (drop i leaves) ≤ start.tested + most
      → after.tested + leaves_look_behind kept samples (map (λ (one : Leaf). one.base) (take (i + 1) leaves)) (drop (i + 1) leaves) ≤ start.tested + most
  all_turn lists start now after most holds known looks so =
      let seen : List (List Rule) = map (λ (one : Leaf). one.base) (take i leaves) in
      let here : now.tested + leaves_look_behind kept samples seen (leaf ∷ drop (i + 1) leaves) ≤ start.tested + most =
      subst (λ (rest : List Leaf). now.tested + leaves_look_behind kept samples seen rest ≤ start.tested + most) drop_at so in
      subst (λ (lists : List (List Rule)). after.tested + leaves_look_behind kept samples lists (drop (i + 1) leaves) ≤ start.tested + most) (sym bases_at)
      (turn kept samples seen leaf (drop (i + 1) leaves) lists start now after most (bases_hold kept lists (take i leaves) holds) known looks here)
