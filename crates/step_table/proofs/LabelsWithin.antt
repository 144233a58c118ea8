-- Labels that pairs of new names are put among: they pass a limit exactly where one of the pairs is refused.
use Rattle.std.proofs.Common.{◌≡◌, ◌∙◌, ℕ, suc, ◌+◌, ◌<◌, ◌≤◌, Bool, true, false, cond, List, [], ◌∷◌, length, filter, refl, sym, ap, subst, arith, None, Some}
use Rattle.std.specs.Prelude.{◌||◌, ◌≢◌, nat_lt, not, is_some, if◌then◌else◌}
use Rattle.std.specs.BTreeMap.{insert_entry, is_at}
use Rattle.std.specs.Cmp.Lexicographic.{nat_list_cmp_total}
use Rattle.std.specs.List.{AllByRecursion, list_any}
use Rattle.std.specs.List.Sorted.{IsStrictlySortedBy}
use Rattle.std.specs.Map.{keys_of}
use Rattle.std.specs.Ordering.{is_eq, match_ordering, ordering_reverse}
use Rattle.std.specs.declared.cmp.Ordering.TheVariants.{Less, Equal, Greater}
use Rattle.std.proofs.lemmas.Bool.{le-ltb, lt-ltb, ltb-false, ltb-true}
use Rattle.std.proofs.lemmas.List.Kept.{IsStrictlySortedBy-filter}
use Rattle.label_set.specs.Entries.{keys_filter, recursion_filter}
use Rattle.label_set.specs.Labels.{IsLabelSet, byte_cmp, is_named, keep, metric_name, room_refusal, value_at, with_pair, without}
use Rattle.label_set.specs.declared.labels.LabelRefusal.TheVariants.{Duplicate, TooLong, TooMany}
use Rattle.label_set.specs.declared.rules.Pairing.{Pairing}
use Rattle.xfrac.specs.declared.value.PairOp.{PairOp}
use Rattle.step_table.specs.Groups.{Names}
use Rattle.step_table.specs.LabelLimits.{AreWithin, PairLabelsAreWithin, is_beyond, pass_limits, unless_beyond, with_pairs}
use Rattle.step_table.specs.Operators.{all_put, drops_name, is_grouped, matched_labels, unnamed}
use Rattle.step_table.proofs.Grouped.{lookup_put, same_name}

-- ---- one pair of a new name

module _ (name value : List ℕ) where
  not_new : (p : List ℕ × List ℕ) (labels : Names) → byte_cmp name p.0 ≡ Equal → value_at (p ∷ labels) name ≡ None → {A : Type 0} → A
  not_new p labels h none = let there : value_at (p ∷ labels) name ≡ Some p.1 = ap (λ o. cond (is_eq o) (Some p.1) (value_at labels name)) h in absurd (cc)

  behind : (p : List ℕ × List ℕ) (labels : Names) → byte_cmp name p.0 ≡ Greater → value_at (p ∷ labels) name ≡ None → value_at labels name ≡ None
  behind p labels h none = sym (ap (λ o. cond (is_eq o) (Some p.1) (value_at labels name)) h) ∙ none

  one_more : (labels : Names) → value_at labels name ≡ None → length (insert_entry byte_cmp labels name value) ≡ suc (length labels)
  one_more [] none = refl
  one_more (p ∷ labels) none =
      elim (byte_cmp name p.0) as (λ o. byte_cmp name p.0 ≡ o → length (match_ordering o ((name, value) ∷ p ∷ labels) ((p.0, value) ∷ labels) (p ∷ insert_entry byte_cmp labels name value)) ≡ suc (suc (length labels))) [
        | Less ↦ λ h. refl
        | Equal ↦ λ h. not_new p labels h none
        | Greater ↦ λ h. ap suc (one_more labels (behind p labels h none))
      ] refl

  swapped : (a b c : Bool) → (a || (b || c)) ≡ (b || (a || c))
  swapped true true c = refl
  swapped true false c = refl
  swapped false b c = refl

  beyond_more : (labels : Names) → value_at labels name ≡ None → list_any is_beyond (insert_entry byte_cmp labels name value) ≡ (is_beyond (name, value) || list_any is_beyond labels)
  beyond_more [] none = refl
  beyond_more (p ∷ labels) none =
      elim (byte_cmp name p.0) as (λ o. byte_cmp name p.0 ≡ o → list_any is_beyond (match_ordering o ((name, value) ∷ p ∷ labels) ((p.0, value) ∷ labels) (p ∷ insert_entry byte_cmp labels name value)) ≡ (is_beyond (name, value) || (is_beyond p || list_any is_beyond labels))) [
        | Less ↦ λ h. refl
        | Equal ↦ λ h. not_new p labels h none
        | Greater ↦ λ h. ap (λ b. is_beyond p || b) (beyond_more labels (behind p labels h none)) ∙ swapped (is_beyond p) (is_beyond (name, value)) (list_any is_beyond labels)
      ] refl

-- ---- pairs of new names, in their order

abbrev AreNew : Names → Names → Type 0
AreNew there pairs = AllByRecursion (λ k. value_at there k ≡ None) (keys_of pairs)

still_new : (name value : List ℕ) (there pairs : Names) → AllByRecursion (λ k. byte_cmp name k ≡ Less) (keys_of pairs) → AreNew there pairs → AreNew (insert_entry byte_cmp there name value) pairs
still_new name value there [] up new = tt
still_new name value there (p ∷ pairs) up new =
    let after : byte_cmp p.0 name ≡ Greater = nat_list_cmp_total.antisymm p.0 name ∙ ap ordering_reverse up.0 in
    (lookup_put p.0 name value there ∙ ap (λ o. cond (is_eq o) (Some value) (value_at there p.0)) after ∙ new.0, still_new name value there pairs up.1 new.1)

or_true : (a : Bool) → (a || true) ≡ true
or_true true = refl
or_true false = refl

or_assoc : (a b c : Bool) → ((a || b) || c) ≡ (b || (a || c))
or_assoc true true c = refl
or_assoc true false c = refl
or_assoc false b c = refl

-- whether labels and pairs together pass a limit
abbrev too_much : Names → Names → Bool
too_much there pairs = list_any is_beyond pairs || nat_lt 64 (length there + length pairs)

whole_beyond : (there pairs : Names) → IsStrictlySortedBy byte_cmp (keys_of pairs) → AreNew there pairs → list_any is_beyond there ≡ false → pass_limits (with_pairs there pairs) ≡ too_much there pairs
unfolding IsStrictlySortedBy
whole_beyond there pairs up new fine = ap (λ b. b || nat_lt 64 (length (with_pairs there pairs))) (texts there pairs up new ∙ ap (λ b. b || list_any is_beyond pairs) fine) ∙ ap (λ n. list_any is_beyond pairs || nat_lt 64 n) (many there pairs up new)
  where
    texts : (there pairs : Names) → IsStrictlySortedBy byte_cmp (keys_of pairs) → AreNew there pairs → list_any is_beyond (with_pairs there pairs) ≡ (list_any is_beyond there || list_any is_beyond pairs)
    texts there [] up new = sym (or_false (list_any is_beyond there))
      where
        or_false : (a : Bool) → (a || false) ≡ a
        or_false true = refl
        or_false false = refl
    texts there (p ∷ pairs) up new =
        texts (insert_entry byte_cmp there p.0 p.1) pairs up.1 (still_new p.0 p.1 there pairs up.0 new.1)
        ∙ ap (λ b. b || list_any is_beyond pairs) (beyond_more p.0 p.1 there new.0)
        ∙ or_assoc (is_beyond p) (list_any is_beyond there) (list_any is_beyond pairs)

    many : (there pairs : Names) → IsStrictlySortedBy byte_cmp (keys_of pairs) → AreNew there pairs → length (with_pairs there pairs) ≡ length there + length pairs
    many there [] up new = omega arith
    many there (p ∷ pairs) up new =
        let rest : length (with_pairs (insert_entry byte_cmp there p.0 p.1) pairs) ≡ length (insert_entry byte_cmp there p.0 p.1) + length pairs = many (insert_entry byte_cmp there p.0 p.1) pairs up.1 (still_new p.0 p.1 there pairs up.0 new.1) in
        let more : length (insert_entry byte_cmp there p.0 p.1) ≡ suc (length there) = one_more p.0 p.1 there new.0 in
        rest ∙ (let sum : length (insert_entry byte_cmp there p.0 p.1) + length pairs ≡ length there + suc (length pairs) = omega (arith, more) in sum)

-- a pair whose texts are within the limits
one_put : (there : Names) (name : List ℕ) (c : ℕ) (value : List ℕ) (pairs : Names) → value_at there name ≡ None → length there ≤ 64
    → (length (insert_entry byte_cmp there name (c ∷ value)) ≤ 64
    → all_put (insert_entry byte_cmp there name (c ∷ value)) pairs ≡ (if too_much (insert_entry byte_cmp there name (c ∷ value)) pairs then None else Some (with_pairs (insert_entry byte_cmp there name (c ∷ value)) pairs)))
    → (if is_some (if is_some (value_at there name) then Some Duplicate else room_refusal there (c ∷ value)) then None else all_put (with_pair there name (c ∷ value)) pairs)
    ≡ (if list_any is_beyond pairs || nat_lt 64 (length there + suc (length pairs)) then None else Some (with_pairs (insert_entry byte_cmp there name (c ∷ value)) pairs))
one_put there name c value pairs new few rest =
    ap (λ o. if is_some (if is_some o then Some Duplicate else room_refusal there (c ∷ value)) then None else all_put (with_pair there name (c ∷ value)) pairs) new
    ∙ room (nat_lt (length there) 64) refl
  where
    longer : length (insert_entry byte_cmp there name (c ∷ value)) ≡ suc (length there)
    longer = one_more name (c ∷ value) there new

    room : (z : Bool) → nat_lt (length there) 64 ≡ z → (if is_some (if z then None else Some TooMany) then None else all_put (with_pair there name (c ∷ value)) pairs)
        ≡ (if list_any is_beyond pairs || nat_lt 64 (length there + suc (length pairs)) then None else Some (with_pairs (insert_entry byte_cmp there name (c ∷ value)) pairs))
    room true h =
        let less : length there < 64 = ltb-true (length there) 64 h in
        let more : length (insert_entry byte_cmp there name (c ∷ value)) + length pairs ≡ length there + suc (length pairs) = let l : length (insert_entry byte_cmp there name (c ∷ value)) ≡ suc (length there) = longer in omega (arith, l) in
        let fewer : length (insert_entry byte_cmp there name (c ∷ value)) ≤ 64 = let l : length (insert_entry byte_cmp there name (c ∷ value)) ≡ suc (length there) = longer in omega (arith, l, less) in
        rest fewer ∙ ap (λ n. if list_any is_beyond pairs || nat_lt 64 n then None else Some (with_pairs (insert_entry byte_cmp there name (c ∷ value)) pairs)) more
    room false h =
        let full : 64 ≤ length there = ltb-false (length there) 64 h in
        let beyond : nat_lt 64 (length there + suc (length pairs)) ≡ true = lt-ltb 64 (length there + suc (length pairs)) (omega (arith, full)) in
        ap (λ t. if t then None else Some (with_pairs (insert_entry byte_cmp there name (c ∷ value)) pairs)) (sym (or_true (list_any is_beyond pairs)) ∙ ap (λ t. list_any is_beyond pairs || t) (sym beyond))

-- what comes of pairs
pairs_put : (there pairs : Names) → IsStrictlySortedBy byte_cmp (keys_of pairs) → AllByRecursion (λ (p : List ℕ × List ℕ). p.1 ≢ []) pairs → AreNew there pairs → length there ≤ 64
    → all_put there pairs ≡ (if too_much there pairs then None else Some (with_pairs there pairs))
unfolding IsStrictlySortedBy
pairs_put there [] up filled new few =
    let at_end : nat_lt 64 (length there + 0) ≡ false = le-ltb 64 (length there + 0) (omega (arith, few)) in
    ap (λ b. if b then None else Some there) (sym at_end)
pairs_put there (([], value) ∷ pairs) up filled new few = refl
pairs_put there ((b ∷ name, []) ∷ pairs) up filled new few = absurd (filled.0 refl)
pairs_put there ((b ∷ name, c ∷ value) ∷ pairs) up filled new few =
    by (nat_lt 4096 (length (b ∷ name))) (nat_lt 4096 (length (c ∷ value)))
    (one_put there (b ∷ name) c value pairs new.0 few (pairs_put (insert_entry byte_cmp there (b ∷ name) (c ∷ value)) pairs up.1 filled.1 (still_new (b ∷ name) (c ∷ value) there pairs up.0 new.1)))
  where
    by : (x y : Bool) → (if is_some (if is_some (value_at there (b ∷ name)) then Some Duplicate else room_refusal there (c ∷ value)) then None else all_put (with_pair there (b ∷ name) (c ∷ value)) pairs)
        ≡ (if list_any is_beyond pairs || nat_lt 64 (length there + suc (length pairs)) then None else Some (with_pairs (insert_entry byte_cmp there (b ∷ name) (c ∷ value)) pairs))
        → (if is_some (if x then Some TooLong else if y then Some TooLong else if is_some (value_at there (b ∷ name)) then Some Duplicate else room_refusal there (c ∷ value)) then None else all_put (with_pair there (b ∷ name) (c ∷ value)) pairs)
        ≡ (if ((x || y) || list_any is_beyond pairs) || nat_lt 64 (length there + suc (length pairs)) then None else Some (with_pairs (insert_entry byte_cmp there (b ∷ name) (c ∷ value)) pairs))
    by true y is = refl
    by false true is = refl
    by false false is = is

-- ---- labels of which some are left

module _ (p : List ℕ × List ℕ → Bool) where
  none_beyond : (labels : Names) → list_any is_beyond labels ≡ false → list_any is_beyond (filter p labels) ≡ false
  none_beyond [] none = refl
  none_beyond (l ∷ labels) none = by (is_beyond l) refl (p l) (none_beyond labels)
    where
      by : (b : Bool) → is_beyond l ≡ b → (k : Bool) → (list_any is_beyond labels ≡ false → list_any is_beyond (filter p labels) ≡ false) → list_any is_beyond (cond k (l ∷ filter p labels) (filter p labels)) ≡ false
      by true h k rest = let e : (true || list_any is_beyond labels) ≡ false = ap (λ x. x || list_any is_beyond labels) (sym h) ∙ none in absurd (cc)
      by false h true rest = ap (λ x. x || list_any is_beyond (filter p labels)) h ∙ rest (ap (λ x. x || list_any is_beyond labels) (sym h) ∙ none)
      by false h false rest = rest (ap (λ x. x || list_any is_beyond labels) (sym h) ∙ none)

  no_more : (labels : Names) → length (filter p labels) ≤ length labels
  no_more [] = omega arith
  no_more (l ∷ labels) = by (p l) (no_more labels)
    where
      by : (k : Bool) → length (filter p labels) ≤ length labels → length (cond k (l ∷ filter p labels) (filter p labels)) ≤ suc (length labels)
      by true rest = omega (arith, rest)
      by false rest = omega (arith, rest)

-- the labels whose names are listed, or not listed
left_set : (q : List ℕ → Bool) (labels : Names) → IsLabelSet labels → IsLabelSet (filter (λ (l : List ℕ × List ℕ). q l.0) labels)
left_set q labels set = record {
  ordered = subst (IsStrictlySortedBy byte_cmp) (sym (keys_filter q labels)) (IsStrictlySortedBy-filter byte_cmp q (keys_of labels) set.ordered);
  filled = recursion_filter _ (λ (l : List ℕ × List ℕ). q l.0) labels set.filled;
  few =
      let fewer : length (filter (λ (l : List ℕ × List ℕ). q l.0) labels) ≤ length labels = no_more (λ (l : List ℕ × List ℕ). q l.0) labels in
      let few : length labels ≤ 64 = set.few in
      omega (arith, fewer, few);
}

pub left_within : (q : List ℕ → Bool) (labels : Names) → AreWithin labels → AreWithin (filter (λ (l : List ℕ × List ℕ). q l.0) labels)
left_within q labels within = record {
  set = left_set q labels within.set;
  texts = none_beyond (λ (l : List ℕ × List ℕ). q l.0) labels within.texts;
}

pub pass_none : (labels : Names) → AreWithin labels → pass_limits labels ≡ false
pass_none labels within =
    let few : length labels ≤ 64 = within.set.few in
    ap (λ b. b || nat_lt 64 (length labels)) within.texts ∙ le-ltb 64 (length labels) few

-- ---- the labels of a pair

module _ (extra : List (List ℕ)) where
  -- what is left of the many side has no value under a listed name
  none_left : (name : List ℕ) → is_named extra name ≡ true → (many : Names) → value_at (without extra many) name ≡ None
  none_left name listed [] = refl
  none_left name listed (p ∷ many) = by (is_named extra p.0) (is_at (byte_cmp name) p.0) refl refl (none_left name listed many)
    where
      by : (b m : Bool) → is_named extra p.0 ≡ b → is_at (byte_cmp name) p.0 ≡ m → value_at (without extra many) name ≡ None → value_at (cond (not b) (p ∷ without extra many) (without extra many)) name ≡ None
      by true m h e rest = rest
      by false true h e rest = let other : is_named extra name ≡ false = ap (is_named extra) (same_name name p.0 e) ∙ h in absurd (cc)
      by false false h e rest = ap (λ x. cond x (Some p.1) (value_at (without extra many) name)) e ∙ rest

  listed_new : (many one : Names) → AreNew (without extra many) (keep extra one)
  listed_new many [] = tt
  listed_new many (p ∷ one) = by (is_named extra p.0) refl (listed_new many one)
    where
      by : (b : Bool) → is_named extra p.0 ≡ b → AreNew (without extra many) (keep extra one) → AreNew (without extra many) (cond b (p ∷ keep extra one) (keep extra one))
      by true h rest = (none_left p.0 h many, rest)
      by false h rest = rest

  grouped_within : (many one : Names) → AreWithin many → IsLabelSet one → all_put (without extra many) (keep extra one) ≡ unless_beyond (with_pairs (without extra many) (keep extra one))
  grouped_within many one within set =
      let left : AreWithin (without extra many) = left_within (λ name. not (is_named extra name)) many within in
      let kept : IsLabelSet (keep extra one) = left_set (is_named extra) one set in
      let new : AreNew (without extra many) (keep extra one) = listed_new many one in
      pairs_put (without extra many) (keep extra one) kept.ordered kept.filled new left.set.few
      ∙ ap (λ b. if b then None else Some (with_pairs (without extra many) (keep extra one))) (sym (whole_beyond (without extra many) (keep extra one) kept.ordered new left.texts))

unnamed_within : (op : PairOp) (labels : Names) → AreWithin labels → AreWithin (unnamed op labels)
unnamed_within op labels within = pick (drops_name op)
  where
    pick : (b : Bool) → AreWithin (if b then without (metric_name ∷ []) labels else labels)
    pick true = left_within (λ name. not (is_named (metric_name ∷ []) name)) labels within
    pick false = within

matched_within : (p : Pairing) (labels : Names) → AreWithin labels → AreWithin (matched_labels p labels)
matched_within p labels within = pick p.on
  where
    pick : (on : Bool) → AreWithin (if on then keep p.names labels else without p.names labels)
    pick true = left_within (is_named p.names) labels within
    pick false = left_within (λ name. not (is_named p.names name)) labels within

pub pair_within : PairLabelsAreWithin
pair_within op p many one within set = pick (is_grouped p.card)
  where
    left : AreWithin (unnamed op many)
    left = unnamed_within op many within

    pick : (b : Bool) → (if b then all_put (without p.extra (unnamed op many)) (keep p.extra one) else Some (matched_labels p (unnamed op many)))
        ≡ unless_beyond (if b then with_pairs (without p.extra (unnamed op many)) (keep p.extra one) else matched_labels p (unnamed op many))
    pick true = grouped_within p.extra (unnamed op many) one left set
    pick false = ap (λ b. if b then None else Some (matched_labels p (unnamed op many))) (sym (pass_none (matched_labels p (unnamed op many)) (matched_within p (unnamed op many) left)))
