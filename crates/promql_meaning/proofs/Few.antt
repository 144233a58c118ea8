-- Of each group topk and bottomk keep at most k rows: the last of those that are kept has the others before it.
use Rattle.std.proofs.Common.{◌≡◌, ◌∙◌, ℕ, zero, suc, ◌+◌, ◌<◌, ◌≤◌, Bool, true, false, cond, List, [], ◌∷◌, length, refl, sym, ap, subst, arith, ◌⊎◌, inl, inr}
use Rattle.std.specs.Prelude.{◌&&◌, nat_lt, filter, count_by, map, ⊤}
use Rattle.std.specs.BTreeMap.{is_at}
use Rattle.std.specs.List.{AllByRecursion, Contains}
use Rattle.std.specs.List.Sorted.{IsStrictlySortedBy}
use Rattle.std.specs.Ordering.{is_lt, ordering_reverse, ordering_then}
use Rattle.std.specs.declared.cmp.Ordering.{Ordering}
use Rattle.std.specs.declared.cmp.Ordering.TheVariants.{Less, Equal, Greater}
use Rattle.std.proofs.lemmas.Bool.{ltb-true, ltb-false}
use Rattle.std.proofs.lemmas.List.Sums.{length-filter, sum_by-cons}
use Rattle.label_set.specs.Labels.{labels_cmp}
use Rattle.label_set.specs.LabelOrder.{labels_cmp_ties}
use Rattle.label_set.specs.declared.rules.Grouping.{Grouping}
use Rattle.xfrac.specs.Laws.{IsNumber, EqualIsSame, LessIsTransitive, OrderIsReversed}
use Rattle.step_table.specs.Groups.{Names}
use Rattle.step_table.specs.WellFormed.{IsTable}
use Rattle.step_table.specs.declared.step.Row.{Row}
use Rattle.promql_meaning.specs.RankLaws.{LeftOutAreBehind, RanksAreFew, is_of_group}
use Rattle.promql_meaning.specs.Ranks.{comes_before, first_rows, is_ahead, is_ranked, kept_labels, row_order, value_order}
use Rattle.promql_meaning.proofs.Weak.{rows_total, tidied_order, tidied_same}

-- ---- the last of a list whose items are apart

module _ {X : Type 0} (p : X → Bool) where
  count-cons : (x : X) (xs : List X) → count_by p (x ∷ xs) ≡ cond (p x) 1 0 + count_by p xs
  count-cons x xs = sum_by-cons (λ y. cond (p y) 1 0) x xs

  -- where all pass, as many pass as there are
  count_all : (xs : List X) → AllByRecursion (λ x. p x ≡ true) xs → length xs ≤ count_by p xs
  count_all [] a = omega arith
  count_all (x ∷ xs) a =
      let first : count_by p (x ∷ xs) ≡ 1 + count_by p xs = count-cons x xs ∙ ap (λ b. cond b 1 0 + count_by p xs) a.0 in
      let rest : length xs ≤ count_by p xs = count_all xs a.1 in
      omega (arith, first, rest)

  -- no more pass of a part than of the whole
  count_part : (q : X → Bool) (xs : List X) → count_by p (filter q xs) ≤ count_by p xs
  count_part q [] = omega arith
  count_part q (x ∷ xs) = by (q x) (count_part q xs)
    where
      by : (b : Bool) → count_by p (filter q xs) ≤ count_by p xs → count_by p (cond b (x ∷ filter q xs) (filter q xs)) ≤ count_by p (x ∷ xs)
      by true rest =
          let left : count_by p (x ∷ filter q xs) ≡ cond (p x) 1 0 + count_by p (filter q xs) = count-cons x (filter q xs) in
          let right : count_by p (x ∷ xs) ≡ cond (p x) 1 0 + count_by p xs = count-cons x xs in
          omega (arith, left, right, rest)
      by false rest =
          let right : count_by p (x ∷ xs) ≡ cond (p x) 1 0 + count_by p xs = count-cons x xs in
          omega (arith, right, rest)

-- what passes one test passes the other
count_more : {X : Type 0} (p q : X → Bool) (xs : List X) → AllByRecursion (λ x. p x ≡ true → q x ≡ true) xs → count_by p xs ≤ count_by q xs
count_more p q [] a = omega arith
count_more p q (x ∷ xs) a = by (p x) refl (q x) refl (count_more p q xs a.1)
  where
    by : (b : Bool) → p x ≡ b → (c : Bool) → q x ≡ c → count_by p xs ≤ count_by q xs → count_by p (x ∷ xs) ≤ count_by q (x ∷ xs)
    by false h c k rest =
        let left : count_by p (x ∷ xs) ≡ 0 + count_by p xs = count-cons p x xs ∙ ap (λ d. cond d 1 0 + count_by p xs) h in
        let right : count_by q (x ∷ xs) ≡ cond (q x) 1 0 + count_by q xs = count-cons q x xs in
        omega (arith, left, right, rest)
    by true h true k rest =
        let left : count_by p (x ∷ xs) ≡ 1 + count_by p xs = count-cons p x xs ∙ ap (λ d. cond d 1 0 + count_by p xs) h in
        let right : count_by q (x ∷ xs) ≡ 1 + count_by q xs = count-cons q x xs ∙ ap (λ d. cond d 1 0 + count_by q xs) k in
        omega (arith, left, right, rest)
    by true h false k rest = let e : q x ≡ true = a.0 h in absurd (cc)

module _ {X : Type 0} (lt : X → X → Bool) (trans : (a b c : X) → lt a b ≡ true → lt b c ≡ true → lt a c ≡ true) where
  abbrev Apart : List X → Type 0
  Apart [] = ⊤
  Apart (x ∷ xs) = AllByRecursion (λ y. (lt x y ≡ true) ⊎ (lt y x ≡ true)) xs × Apart xs

  -- all others come before it
  record Last (xs : List X) : Type 1 where
    one : X
    holds : (Q : X → Type 0) → AllByRecursion Q xs → Q one
    before : AllByRecursion (λ y. (lt y one ≡ true) ⊎ (y ≡ one)) xs
    behind : length xs ≤ 1 + count_by (λ y. lt y one) xs

  all_before : (x one : X) (ys : List X) → lt one x ≡ true → AllByRecursion (λ y. (lt y one ≡ true) ⊎ (y ≡ one)) ys → AllByRecursion (λ y. lt y x ≡ true) ys
  all_before x one [] h a = tt
  all_before x one (y ∷ ys) h a = (elim a.0 [ inl e ↦ trans y one x e h | inr e ↦ subst (λ z. lt z x ≡ true) (sym e) h ], all_before x one ys h a.1)

  as_before : (x : X) (ys : List X) → AllByRecursion (λ y. lt y x ≡ true) ys → AllByRecursion (λ y. (lt y x ≡ true) ⊎ (y ≡ x)) ys
  as_before x [] a = tt
  as_before x (y ∷ ys) a = (inl a.0, as_before x ys a.1)

  last_of : (x : X) (xs : List X) → Apart (x ∷ xs) → Last (x ∷ xs)
  last_of x [] a = record { one = x; holds = λ Q all. all.0; before = (inr refl, tt); behind = omega arith }
  last_of x (y ∷ ys) a = by (last_of y ys a.1)
    where
      by : Last (y ∷ ys) → Last (x ∷ y ∷ ys)
      by rest = elim (rest.holds (λ z. (lt x z ≡ true) ⊎ (lt z x ≡ true)) a.0) [
        | inl e ↦
            let more : count_by (λ z. lt z rest.one) (x ∷ y ∷ ys) ≡ 1 + count_by (λ z. lt z rest.one) (y ∷ ys) =
            count-cons (λ z. lt z rest.one) x (y ∷ ys) ∙ ap (λ b. cond b 1 0 + count_by (λ z. lt z rest.one) (y ∷ ys)) e in
            let few : length (y ∷ ys) ≤ 1 + count_by (λ z. lt z rest.one) (y ∷ ys) = rest.behind in
            record { one = rest.one; holds = λ Q all. rest.holds Q all.1; before = (inl e, rest.before); behind = omega (arith, more, few) }
        | inr e ↦
            let all = all_before x rest.one (y ∷ ys) e rest.before in
            let many : length (y ∷ ys) ≤ count_by (λ z. lt z x) (y ∷ ys) = count_all (λ z. lt z x) (y ∷ ys) all in
            let more : count_by (λ z. lt z x) (x ∷ y ∷ ys) ≡ cond (lt x x) 1 0 + count_by (λ z. lt z x) (y ∷ ys) = count-cons (λ z. lt z x) x (y ∷ ys) in
            record { one = x; holds = λ Q all. all.0; before = (inr refl, as_before x (y ∷ ys) all); behind = omega (arith, more, many) }
      ]

-- ---- lists of those that pass

module _ {X : Type 0} (p : X → Bool) where
  all_kept : (Q : X → Type 0) (xs : List X) → AllByRecursion Q xs → AllByRecursion Q (filter p xs)
  all_kept Q [] a = tt
  all_kept Q (x ∷ xs) a = by (p x) (all_kept Q xs a.1)
    where
      by : (b : Bool) → AllByRecursion Q (filter p xs) → AllByRecursion Q (cond b (x ∷ filter p xs) (filter p xs))
      by true rest = (a.0, rest)
      by false rest = rest

  all_pass : (xs : List X) → AllByRecursion (λ x. p x ≡ true) (filter p xs)
  all_pass [] = tt
  all_pass (x ∷ xs) = by (p x) refl (all_pass xs)
    where
      by : (b : Bool) → p x ≡ b → AllByRecursion (λ y. p y ≡ true) (filter p xs) → AllByRecursion (λ y. p y ≡ true) (cond b (x ∷ filter p xs) (filter p xs))
      by true h rest = (h, rest)
      by false h rest = rest

  apart_kept : (lt : X → X → Bool) (trans : (a b c : X) → lt a b ≡ true → lt b c ≡ true → lt a c ≡ true) (xs : List X) → Apart lt trans xs → Apart lt trans (filter p xs)
  apart_kept lt trans [] a = tt
  apart_kept lt trans (x ∷ xs) a = by (p x) (apart_kept lt trans xs a.1)
    where
      by : (b : Bool) → Apart lt trans (filter p xs) → Apart lt trans (cond b (x ∷ filter p xs) (filter p xs))
      by true rest = (all_kept (λ y. (lt x y ≡ true) ⊎ (lt y x ≡ true)) xs a.0, rest)
      by false rest = rest

-- ---- rows

not_tied : (v l : Ordering) → l ≡ Less → ordering_then v l ≡ Equal → ⊥
not_tied Less l h e = cc
not_tied Equal l h e = cc
not_tied Greater l h e = cc

module _ (equal : EqualIsSame) (reversed : OrderIsReversed) (transitive : LessIsTransitive) (down : Bool) where
  abbrev below : Row → Row → Bool
  below a b = is_lt (tidied_order down a b)

  less_of : (o : Ordering) → is_lt o ≡ true → o ≡ Less
  less_of Less h = refl
  less_of Equal h = absurd (cc)
  less_of Greater h = absurd (cc)

  below_carries : (a b c : Row) → below a b ≡ true → below b c ≡ true → below a c ≡ true
  below_carries a b c h k = ap is_lt ((rows_total equal reversed transitive down).trans a b c (less_of _ h) (less_of _ k))

  one_below : (a b : Row) → IsNumber a.value → IsNumber b.value → labels_cmp a.labels b.labels ≡ Less → (below a b ≡ true) ⊎ (below b a ≡ true)
  one_below a b na nb h = by (row_order down a b) refl
    where
      by : (o : Ordering) → row_order down a b ≡ o → (below a b ≡ true) ⊎ (below b a ≡ true)
      by Less e = inl (ap is_lt (tidied_same down a b na nb ∙ e))
      by Equal e = absurd (not_tied (value_order down a.value b.value) (labels_cmp a.labels b.labels) h e)
      by Greater e = inr (ap is_lt ((rows_total equal reversed transitive down).antisymm b a ∙ ap ordering_reverse (tidied_same down a b na nb ∙ e)))

  rows_apart : (a : Row) (rows : List Row) → IsNumber a.value → AllByRecursion (λ (row : Row). IsNumber row.value) rows → AllByRecursion (λ z. labels_cmp a.labels z ≡ Less) (map (λ (row : Row). row.labels) rows)
      → AllByRecursion (λ b. (below a b ≡ true) ⊎ (below b a ≡ true)) rows
  rows_apart a [] n ns all = tt
  rows_apart a (b ∷ rows) n ns all = (one_below a b n ns.0 all.0, rows_apart a rows n ns.1 all.1)

  table_apart : (rows : List Row) → AllByRecursion (λ (row : Row). IsNumber row.value) rows → IsTable rows → Apart below below_carries rows
  unfolding IsStrictlySortedBy
  table_apart [] ns t = tt
  table_apart (a ∷ rows) ns t = (rows_apart a rows ns.0 ns.1 t.0, table_apart rows ns.1 t.1)

  module _ (by : Grouping) (names : Names) where
    same_group : (a b : Row) → is_of_group by names a ≡ true → is_of_group by names b ≡ true → is_at (labels_cmp (kept_labels by a.labels)) (kept_labels by b.labels) ≡ true
    same_group a b h k = subst (λ ns. is_at (labels_cmp ns) (kept_labels by b.labels) ≡ true) (tied (labels_cmp names (kept_labels by a.labels)) refl h) k
      where
        tied : (o : Ordering) → labels_cmp names (kept_labels by a.labels) ≡ o → is_at (labels_cmp names) (kept_labels by a.labels) ≡ true → names ≡ kept_labels by a.labels
        tied Equal e t = labels_cmp_ties names (kept_labels by a.labels) e
        tied Less e t = absurd (cc)
        tied Greater e t = absurd (cc)

    -- of the kept rows of the group all that are below one are ahead of it
    are_ahead : (one : Row) (rows : List Row) → IsNumber one.value → is_of_group by names one ≡ true → AllByRecursion (λ (row : Row). IsNumber row.value) rows → AllByRecursion (λ row. is_of_group by names row ≡ true) rows
        → AllByRecursion (λ row. below row one ≡ true → is_ahead down by one row ≡ true) rows
    are_ahead one [] n g ns gs = tt
    are_ahead one (row ∷ rows) n g ns gs = (
      λ h.
          let before : comes_before down row one ≡ true = ap is_lt (sym (tidied_same down row one ns.0 n)) ∙ h in
          ap (λ b. b && comes_before down row one) (same_group one row g gs.0) ∙ before,
      are_ahead one rows n g ns.1 gs.1,
    )

    few_left : (k : ℕ) (rows kept : List Row) → AllByRecursion (λ row. nat_lt (count_by (is_ahead down by row) rows) k ≡ true) kept → AllByRecursion (λ (row : Row). IsNumber row.value) kept
        → AllByRecursion (λ row. is_of_group by names row ≡ true) kept → Apart below below_carries kept → ((q : Row → Bool) → count_by q kept ≤ count_by q rows) → length kept ≤ k
    few_left k rows [] firsts ns gs apart part = omega arith
    few_left k rows (x ∷ xs) firsts ns gs apart part =
        let last = last_of below below_carries x xs apart in
        let one : Row = last.one in
        let first : nat_lt (count_by (is_ahead down by one) rows) k ≡ true = last.holds (λ row. nat_lt (count_by (is_ahead down by row) rows) k ≡ true) firsts in
        let less : count_by (is_ahead down by one) rows < k = ltb-true (count_by (is_ahead down by one) rows) k first in
        let ahead : count_by (λ row. below row one) (x ∷ xs) ≤ count_by (is_ahead down by one) (x ∷ xs) =
        count_more (λ row. below row one) (is_ahead down by one) (x ∷ xs)
        (are_ahead one (x ∷ xs) (last.holds (λ (row : Row). IsNumber row.value) ns) (last.holds (λ row. is_of_group by names row ≡ true) gs) ns gs) in
        let all : count_by (is_ahead down by one) (x ∷ xs) ≤ count_by (is_ahead down by one) rows = part (is_ahead down by one) in
        let behind : length (x ∷ xs) ≤ 1 + count_by (λ row. below row one) (x ∷ xs) = last.behind in
        omega (arith, less, ahead, all, behind)

pub few : EqualIsSame → OrderIsReversed → LessIsTransitive → RanksAreFew
few equal reversed transitive down by k rows names table numbers =
    let firsts = first_rows down by k rows in
    let group = is_of_group by names in
    let kept = filter group firsts in
    let some : length kept ≤ k =
    few_left equal reversed transitive down by names k rows kept
    (all_kept group (λ row. is_ranked down by k rows row ≡ true) firsts (all_pass (is_ranked down by k rows) rows))
    (all_kept group (λ (row : Row). IsNumber row.value) firsts (all_kept (is_ranked down by k rows) (λ (row : Row). IsNumber row.value) rows numbers))
    (all_pass group firsts)
    (apart_kept group (below equal reversed transitive down) (below_carries equal reversed transitive down) firsts
    (apart_kept (is_ranked down by k rows) (below equal reversed transitive down) (below_carries equal reversed transitive down) rows (table_apart equal reversed transitive down rows numbers table)))
    (λ q. let a : count_by q kept ≤ count_by q firsts = count_part q group firsts in let b : count_by q firsts ≤ count_by q rows = count_part q (is_ranked down by k rows) rows in omega (arith, a, b)) in
    let same : length kept ≡ count_by group firsts = length-filter group firsts in
    omega (arith, some, same)

-- ---- who is left out

there_kept : {X : Type 0} (p : X → Bool) (xs : List X) (x : X) → p x ≡ true → Contains xs x → Contains (filter p xs) x
there_kept p [] x h (k, w, is) = absurd (omega (arith, w))
there_kept p (y ∷ ys) x h (zero, w, is) = by (p y) refl
  where
    by : (b : Bool) → p y ≡ b → Contains (cond b (y ∷ filter p ys) (filter p ys)) x
    by true e = (0, omega arith, is)
    by false e = let f : p y ≡ true = ap p is ∙ h in absurd (cc)
there_kept p (y ∷ ys) x h (suc k, w, is) = by (p y) (there_kept p ys x h (k, omega (arith, w), is))
  where
    by : (b : Bool) → Contains (filter p ys) x → Contains (cond b (y ∷ filter p ys) (filter p ys)) x
    by true (i, v, at) = (suc i, omega (arith, v), at)
    by false rest = rest

pub left_out : LeftOutAreBehind
left_out down by k rows row there absent = which (nat_lt (count_by (is_ahead down by row) rows) k) refl
  where
    which : (b : Bool) → nat_lt (count_by (is_ahead down by row) rows) k ≡ b → k ≤ count_by (is_ahead down by row) rows
    which true h = absurd (absent (there_kept (is_ranked down by k rows) rows row h there))
    which false h = ltb-false (count_by (is_ahead down by row) rows) k h
