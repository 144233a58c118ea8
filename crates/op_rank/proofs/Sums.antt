-- Numbers under labels, and the rows that they sum up to.
use Rattle.std.proofs.Common.{◌≡◌, ◌∙◌, ℕ, ◌+◌, Bool, true, false, List, [], ◌∷◌, map, refl, sym, ap, subst, arith}
use Rattle.std.specs.Prelude.{◌||◌, if◌then◌else◌}
use Rattle.std.specs.BTreeMap.{is_at}
use Rattle.std.specs.List.{list_any}
use Rattle.std.specs.List.Sorted.{IsStrictlySortedBy}
use Rattle.std.specs.Map.{keys_of}
use Rattle.std.proofs.lemmas.Cmp.{tied_itself}
use Rattle.label_set.specs.LabelOrder.{labels_cmp_ties, labels_cmp_total}
use Rattle.label_set.specs.Labels.{labels_cmp}
use Rattle.step_table.specs.Groups.{Names}
use Rattle.step_table.specs.KeySets.{sorted_set}
use Rattle.step_table.specs.Shuffles.{Shuffled, none, kept, swapped, joined}
use Rattle.step_table.specs.Shuffling.{mapped_shuffled}
use Rattle.step_table.specs.Unions.{set_of}
use Rattle.step_table.specs.WellFormed.{IsTable}
use Rattle.step_table.specs.declared.step.Row.{Row}
use Rattle.xfrac.specs.Arithmetic.{whole_number}
use Rattle.op_rank.proofs.FirstsMade.{at_same}
use Rattle.op_rank.proofs.QuantilesMade.{AreDistinct, same_set, set_distinct}

abbrev pub Numbered : Type 0
Numbered = List (Names × ℕ)

-- the sum of the numbers under labels
abbrev pub total : Names → Numbered → ℕ
total n [] = 0
total n (e ∷ es) = (if is_at (labels_cmp n) e.0 then e.1 else 0) + total n es

abbrev pub has : Names → Numbered → Bool
has n es = list_any (is_at (labels_cmp n)) (keys_of es)

-- two lists have the same labels, and under each the same sum
pub record SameSums (xs ys : Numbered) : Type 0 where
  pub named : (n : Names) → has n xs ≡ has n ys
  pub sums : (n : Names) → total n xs ≡ total n ys

pub alike : (xs : Numbered) → SameSums xs xs
alike xs = record { named = λ n. refl; sums = λ n. refl }

pub alike_then : (xs ys zs : Numbered) → SameSums xs ys → SameSums ys zs → SameSums xs zs
alike_then xs ys zs s t = record { named = λ n. s.named n ∙ t.named n; sums = λ n. s.sums n ∙ t.sums n }

pub alike_back : (xs ys : Numbered) → SameSums xs ys → SameSums ys xs
alike_back xs ys s = record { named = λ n. sym (s.named n); sums = λ n. sym (s.sums n) }

pub behind_one : (e : Names × ℕ) (xs ys : Numbered) → SameSums xs ys → SameSums (e ∷ xs) (e ∷ ys)
behind_one e xs ys s = record {
  named = λ n. ap (λ (b : Bool). is_at (labels_cmp n) e.0 || b) (s.named n);
  sums = λ n. ap (λ (k : ℕ). (if is_at (labels_cmp n) e.0 then e.1 else 0) + k) (s.sums n);
}

-- two numbers under the same labels are one
pub two_as_one : (m : Names) (a b c : ℕ) (xs : Numbered) → a + b ≡ c → SameSums ((m, a) ∷ (m, b) ∷ xs) ((m, c) ∷ xs)
two_as_one m a b c xs e = record {
  named = λ n. twice (is_at (labels_cmp n) m) (has n xs);
  sums = λ n. both (is_at (labels_cmp n) m) (total n xs);
}
  where
    twice : (s t : Bool) → (s || (s || t)) ≡ (s || t)
    twice true t = refl
    twice false t = refl

    both : (t : Bool) (k : ℕ) → (if t then a else 0) + ((if t then b else 0) + k) ≡ (if t then c else 0) + k
    both true k = omega (arith, e)
    both false k = omega arith

pub in_another_order : (xs ys : Numbered) → Shuffled xs ys → SameSums xs ys
in_another_order _ _ none = alike []
in_another_order _ _ (kept x xs ys s) = behind_one x xs ys (in_another_order xs ys s)
in_another_order _ _ (swapped x y xs) = record {
  named = λ n. either (is_at (labels_cmp n) x.0) (is_at (labels_cmp n) y.0) (has n xs);
  sums = λ n. turned (if is_at (labels_cmp n) x.0 then x.1 else 0) (if is_at (labels_cmp n) y.0 then y.1 else 0) (total n xs);
}
  where
    either : (a b c : Bool) → (a || (b || c)) ≡ (b || (a || c))
    either true true c = refl
    either true false c = refl
    either false b c = refl

    turned : (a b c : ℕ) → a + (b + c) ≡ b + (a + c)
    turned a b c = omega arith
in_another_order _ _ (joined xs ys zs s t) = alike_then xs ys zs (in_another_order xs ys s) (in_another_order ys zs t)

-- ---- rows

abbrev pub sum_row : Numbered → Names → Row
sum_row all n = record { labels = n; value = whole_number (total n all) }

-- a row for all labels, with their sum
abbrev pub sum_rows : Numbered → List Row
sum_rows all = map (sum_row all) (set_of labels_cmp (keys_of all))

abbrev pub number_row : Names × ℕ → Row
number_row e = record { labels = e.0; value = whole_number e.1 }

pub same_rows : (xs ys : Numbered) → SameSums xs ys → sum_rows xs ≡ sum_rows ys
same_rows xs ys s = ap (map (sum_row xs)) (same_set labels_cmp_total labels_cmp_ties (keys_of xs) (keys_of ys) s.named) ∙ each (set_of labels_cmp (keys_of ys))
  where
    each : (ns : List Names) → map (sum_row xs) ns ≡ map (sum_row ys) ns
    each [] = refl
    each (n ∷ ns) = λ j. record { labels = n; value = whole_number (s.sums n j) } ∷ each ns j

pub rows_are_table : (all : Numbered) → IsTable (sum_rows all)
rows_are_table all = subst (IsStrictlySortedBy labels_cmp) (sym (labels (set_of labels_cmp (keys_of all)))) (sorted_set labels_cmp_total labels_cmp_ties (keys_of all))
  where
    labels : (ns : List Names) → map (λ (row : Row). row.labels) (map (sum_row all) ns) ≡ ns
    labels [] = refl
    labels (n ∷ ns) = ap (λ (r : List Names). n ∷ r) (labels ns)

none_under : (n : Names) (es : Numbered) → has n es ≡ false → total n es ≡ 0
none_under n [] h = refl
none_under n (e ∷ es) h = pick (is_at (labels_cmp n) e.0) h (none_under n es)
  where
    pick : (b : Bool) → (b || has n es) ≡ false → (has n es ≡ false → total n es ≡ 0) → (if b then e.1 else 0) + total n es ≡ 0
    pick true h rest = absurd (cc)
    pick false h rest = let none : total n es ≡ 0 = rest h in omega (arith, none)

other_rows : (e : Names × ℕ) (all : Numbered) (ns : List Names) → list_any (is_at (labels_cmp e.0)) ns ≡ false → map (sum_row all) ns ≡ map (sum_row (e ∷ all)) ns
other_rows e all [] h = refl
other_rows e all (n ∷ ns) h =
    let apart = away (is_at (labels_cmp e.0) n) (list_any (is_at (labels_cmp e.0)) ns) h in
    let same : total n all ≡ total n (e ∷ all) = skipped (is_at (labels_cmp n) e.0) (total n all) (other (is_at (labels_cmp n) e.0) refl apart.0) in
    λ j. record { labels = n; value = whole_number (same j) } ∷ other_rows e all ns apart.1 j
  where
    away : (a b : Bool) → (a || b) ≡ false → (a ≡ false) × (b ≡ false)
    away true b h = absurd (cc)
    away false b h = (refl, h)

    skipped : (b : Bool) (k : ℕ) → b ≡ false → k ≡ (if b then e.1 else 0) + k
    skipped true k h = absurd (cc)
    skipped false k h = omega arith

    other : (b : Bool) → is_at (labels_cmp n) e.0 ≡ b → is_at (labels_cmp e.0) n ≡ false → is_at (labels_cmp n) e.0 ≡ false
    other false f h = f
    other true f h =
        let same : n ≡ e.0 = at_same n e.0 f in
        let own : is_at (labels_cmp n) n ≡ true = rw (tied_itself labels_cmp_total n) refl in
        let yes : is_at (labels_cmp e.0) n ≡ true = subst (λ (z : Names). is_at (labels_cmp z) n ≡ true) same own in
        absurd (cc)

-- numbers under labels of which no two are equal are their own sums
pub own_rows : (all : Numbered) → AreDistinct labels_cmp_total labels_cmp_ties (keys_of all) → map number_row all ≡ map (sum_row all) (keys_of all)
own_rows [] d = refl
own_rows (e ∷ all) d =
    let here : is_at (labels_cmp e.0) e.0 ≡ true = rw (tied_itself labels_cmp_total e.0) refl in
    let own : e.1 ≡ total e.0 (e ∷ all) = sum e.1 (total e.0 all) (none_under e.0 all d.0) ∙ ap (λ (b : Bool). (if b then e.1 else 0) + total e.0 all) (sym here) in
    (λ j. record { labels = e.0; value = whole_number (own j) } ∷ own_rows all d.1 j) ∙ ap (λ (r : List Row). sum_row (e ∷ all) e.0 ∷ r) (other_rows e all (keys_of all) d.0)
  where
    sum : (a b : ℕ) → b ≡ 0 → a ≡ a + b
    sum a b z = omega (arith, z)

pub rows_of_sums : (all : Numbered) → AreDistinct labels_cmp_total labels_cmp_ties (keys_of all) → Shuffled (map number_row all) (sum_rows all)
rows_of_sums all d =
    subst (λ (z : List Row). Shuffled z (sum_rows all)) (sym (own_rows all d))
    (mapped_shuffled (sum_row all) (keys_of all) (set_of labels_cmp (keys_of all)) (set_distinct labels_cmp_total labels_cmp_ties (keys_of all) d))
