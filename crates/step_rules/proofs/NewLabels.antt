-- A value that is set under a name: its labels pass a limit exactly where it is refused.
use Rattle.std.proofs.Common.{◌≡◌, ◌∙◌, ℕ, suc, ◌<◌, ◌≤◌, Bool, true, false, cond, List, [], ◌∷◌, length, map, filter, refl, sym, ap, subst, arith, None, Some}
use Rattle.std.specs.Prelude.{◌||◌, nat_lt, not, is_some, if◌then◌else◌}
use Rattle.std.specs.BTreeMap.{insert_entry, is_at}
use Rattle.std.specs.Cmp.Lexicographic.{nat_list_cmp_total}
use Rattle.std.specs.List.{list_any}
use Rattle.std.specs.List.Sorted.{IsStrictlySortedBy}
use Rattle.std.specs.Map.{keys_of}
use Rattle.std.specs.Ordering.{match_ordering}
use Rattle.std.specs.declared.cmp.Ordering.TheVariants.{Less, Equal, Greater}
use Rattle.std.proofs.lemmas.Bool.{le-ltb, lt-ltb, ltb-false, ltb-true}
use Rattle.std.proofs.lemmas.List.Kept.{IsStrictlySortedBy-filter}
use Rattle.std.proofs.lemmas.Map.{lookup-none}
use Rattle.std.proofs.lemmas.Map.Entries.{none_below_head}
use Rattle.std.proofs.lemmas.Map.Lookups.{exact_bytes}
use Rattle.frac_text.specs.Spellings.{spelling}
use Rattle.label_set.specs.Entries.{keys_filter, recursion_filter}
use Rattle.label_set.specs.Labels.{byte_cmp, is_named, keep, metric_name, room_refusal, set_refusal, value_at, value_of, with_value, without}
use Rattle.label_set.specs.declared.labels.LabelRefusal.TheVariants.{TooLong, TooMany}
use Rattle.label_set.specs.declared.rules.Grouping.{Grouping}
use Rattle.step_table.specs.Groups.{Names}
use Rattle.promql_meaning.specs.Countings.{is_left_out, with_label}
use Rattle.step_table.specs.LabelLimits.{AreWithin, is_beyond, pass_limits, unless_beyond}
use Rattle.promql_meaning.specs.Ranks.{kept_labels}
use Rattle.promql_meaning.specs.Relabels.{separated}
use Rattle.promql_meaning.specs.Templates.{expanded}
use Rattle.step_rules.specs.NewLabels.{CountedLabelsAreWithin, JoinedLabelsAreWithin, ReplacedLabelsAreWithin, SetLabelsAreWithin}

-- ---- labels with one value more

or_false : (a : Bool) → (a || false) ≡ a
or_false true = refl
or_false false = refl

-- a pair that is put among pairs within the limits alone tells whether one is beyond
beyond_put : (name value : List ℕ) (labels : Names) → list_any is_beyond labels ≡ false → list_any is_beyond (insert_entry byte_cmp labels name value) ≡ is_beyond (name, value)
beyond_put name value [] none = or_false (is_beyond (name, value))
beyond_put name value (p ∷ labels) none =
    let parts = neither (is_beyond p) (list_any is_beyond labels) none in
    elim (byte_cmp name p.0) as (λ o. byte_cmp name p.0 ≡ o → list_any is_beyond (match_ordering o ((name, value) ∷ p ∷ labels) ((p.0, value) ∷ labels) (p ∷ insert_entry byte_cmp labels name value)) ≡ is_beyond (name, value)) [
      | Less ↦ λ h. ap (λ b. is_beyond (name, value) || b) none ∙ or_false (is_beyond (name, value))
      | Equal ↦ λ h.
          let same : name ≡ p.0 = exact_bytes name p.0 h in
          ap (λ b. is_beyond (p.0, value) || b) parts.1 ∙ or_false (is_beyond (p.0, value)) ∙ ap (λ n. is_beyond (n, value)) (sym same)
      | Greater ↦ λ h. ap (λ b. b || list_any is_beyond (insert_entry byte_cmp labels name value)) parts.0 ∙ beyond_put name value labels parts.1
    ] refl
  where
    neither : (a b : Bool) → (a || b) ≡ false → (a ≡ false) × (b ≡ false)
    neither false b h = (refl, h)
    neither true b h = absurd (cc)

-- they are one more, unless the name is there
count_put : (name value : List ℕ) (labels : Names) → IsStrictlySortedBy byte_cmp (keys_of labels)
    → length (insert_entry byte_cmp labels name value) ≡ (if is_some (value_at labels name) then length labels else suc (length labels))
unfolding IsStrictlySortedBy
count_put name value [] up = refl
count_put name value (p ∷ labels) up =
    elim (byte_cmp name p.0) as (λ o. byte_cmp name p.0 ≡ o → length (match_ordering o ((name, value) ∷ p ∷ labels) ((p.0, value) ∷ labels) (p ∷ insert_entry byte_cmp labels name value))
    ≡ (if is_some (value_at (p ∷ labels) name) then length (p ∷ labels) else suc (length (p ∷ labels)))) [
      | Less ↦ λ h.
          let none : value_at (p ∷ labels) name ≡ None = lookup-none (is_at (byte_cmp name)) (p ∷ labels) (none_below_head nat_list_cmp_total name p labels up h) in
          ap (λ o. if is_some o then length (p ∷ labels) else suc (length (p ∷ labels))) (sym none)
      | Equal ↦ λ h.
          let there : value_at (p ∷ labels) name ≡ Some p.1 = ap (λ b. cond b (Some p.1) (value_at labels name)) (let q : is_at (byte_cmp name) p.0 ≡ true = rw h refl in q) in
          ap (λ o. if is_some o then length (p ∷ labels) else suc (length (p ∷ labels))) (sym there)
      | Greater ↦ λ h.
          let there : value_at (p ∷ labels) name ≡ value_at labels name = ap (λ b. cond b (Some p.1) (value_at labels name)) (let q : is_at (byte_cmp name) p.0 ≡ false = rw h refl in q) in
          ap suc (count_put name value labels up.1) ∙ one_more (is_some (value_at labels name)) (length labels)
          ∙ ap (λ o. if is_some o then length (p ∷ labels) else suc (length (p ∷ labels))) (sym there)
    ] refl
  where
    one_more : (b : Bool) (n : ℕ) → suc (if b then n else suc n) ≡ (if b then suc n else suc (suc n))
    one_more true n = refl
    one_more false n = refl

-- how many there are against the limit
room : (there : Bool) (n : ℕ) → n ≤ 64 → (if there then false else not (nat_lt n 64)) ≡ nat_lt 64 (if there then n else suc n)
room true n few = sym (le-ltb 64 n few)
room false n few = by (nat_lt n 64) refl
  where
    by : (b : Bool) → nat_lt n 64 ≡ b → not b ≡ nat_lt 64 (suc n)
    by true h = let less : n < 64 = ltb-true n 64 h in sym (le-ltb 64 (suc n) (omega (arith, less)))
    by false h = let more : 64 ≤ n = ltb-false n 64 h in sym (lt-ltb 64 (suc n) (omega (arith, more)))

-- a value that isn't empty is refused exactly where the labels with it pass a limit
refused : (labels : Names) (name : List ℕ) (c : ℕ) (value : List ℕ) → AreWithin labels → is_some (set_refusal labels name (c ∷ value)) ≡ pass_limits (insert_entry byte_cmp labels name (c ∷ value))
refused labels name c value within =
    by_name name (count_put name (c ∷ value) labels within.set.ordered)
    ∙ ap (λ b. b || nat_lt 64 (length (insert_entry byte_cmp labels name (c ∷ value)))) (sym (beyond_put name (c ∷ value) labels within.texts))
  where
    many : (there : Bool) → is_some (if there then None else room_refusal labels (c ∷ value)) ≡ nat_lt 64 (if there then length labels else suc (length labels))
    many true = room true (length labels) within.set.few
    many false = as_room (nat_lt (length labels) 64) ∙ room false (length labels) within.set.few
      where
        as_room : (b : Bool) → is_some (if b then None else Some TooMany) ≡ not b
        as_room true = refl
        as_room false = refl

    texts : (x y : Bool) (there : Bool) → is_some (if x then Some TooLong else if y then Some TooLong else if there then None else room_refusal labels (c ∷ value))
        ≡ ((x || y) || nat_lt 64 (if there then length labels else suc (length labels)))
    texts true y there = refl
    texts false true there = refl
    texts false false there = many there

    by_name : (n : List ℕ) → length (insert_entry byte_cmp labels n (c ∷ value)) ≡ (if is_some (value_at labels n) then length labels else suc (length labels))
        → is_some (set_refusal labels n (c ∷ value)) ≡ (is_beyond (n, c ∷ value) || nat_lt 64 (length (insert_entry byte_cmp labels n (c ∷ value))))
    by_name [] count = refl
    by_name (b ∷ n) count =
        texts (nat_lt 4096 (length (b ∷ n))) (nat_lt 4096 (length (c ∷ value))) (is_some (value_at labels (b ∷ n)))
        ∙ ap (λ k. is_beyond (b ∷ n, c ∷ value) || nat_lt 64 k) (sym count)

-- ---- labels of which some are left

module _ (p : List ℕ × List ℕ → Bool) where
  none_beyond : (labels : Names) → list_any is_beyond labels ≡ false → list_any is_beyond (filter p labels) ≡ false
  none_beyond [] none = refl
  none_beyond (l ∷ labels) none = by (is_beyond l) refl (p l) (none_beyond labels)
    where
      by : (b : Bool) → is_beyond l ≡ b → (k : Bool) → (list_any is_beyond labels ≡ false → list_any is_beyond (filter p labels) ≡ false) → list_any is_beyond (cond k (l ∷ filter p labels) (filter p labels)) ≡ false
      by true h k rest = let e : (true || list_any is_beyond labels) ≡ false = ap (λ x. x || list_any is_beyond labels) (sym h) ∙ none in absurd (cc)
      by false h true rest = ap (λ x. x || list_any is_beyond (filter p labels)) h ∙ rest (ap (λ x. x || list_any is_beyond labels) (sym h) ∙ none)
      by false h false rest = rest (ap (λ x. x || list_any is_beyond labels) (sym h) ∙ none)

  no_more : (labels : Names) → length (filter p labels) ≤ length labels
  no_more [] = omega arith
  no_more (l ∷ labels) = by (p l) (no_more labels)
    where
      by : (k : Bool) → length (filter p labels) ≤ length labels → length (cond k (l ∷ filter p labels) (filter p labels)) ≤ suc (length labels)
      by true rest = omega (arith, rest)
      by false rest = omega (arith, rest)

  -- they pass no limit
  left_pass : (labels : Names) → AreWithin labels → pass_limits (filter p labels) ≡ false
  left_pass labels within =
      let fewer : length (filter p labels) ≤ length labels = no_more labels in
      let few : length labels ≤ 64 = within.set.few in
      ap (λ b. b || nat_lt 64 (length (filter p labels))) (none_beyond labels within.texts) ∙ le-ltb 64 (length (filter p labels)) (omega (arith, fewer, few))

-- the labels whose names are listed, or not listed, are within the limits too
left_within : (q : List ℕ → Bool) (labels : Names) → AreWithin labels → AreWithin (filter (λ (l : List ℕ × List ℕ). q l.0) labels)
left_within q labels within = record {
  set = record {
    ordered = subst (IsStrictlySortedBy byte_cmp) (sym (keys_filter q labels)) (IsStrictlySortedBy-filter byte_cmp q (keys_of labels) within.set.ordered);
    filled = recursion_filter _ (λ (l : List ℕ × List ℕ). q l.0) labels within.set.filled;
    few =
        let fewer : length (filter (λ (l : List ℕ × List ℕ). q l.0) labels) ≤ length labels = no_more (λ (l : List ℕ × List ℕ). q l.0) labels in
        let few : length labels ≤ 64 = within.set.few in
        omega (arith, fewer, few);
  };
  texts = none_beyond (λ (l : List ℕ × List ℕ). q l.0) labels within.texts;
}

kept_within : (by : Grouping) (labels : Names) → AreWithin labels → AreWithin (kept_labels by labels)
kept_within by labels within = pick (not by.without)
  where
    pick : (on : Bool) → AreWithin (if on then keep by.names labels else without (metric_name ∷ by.names) labels)
    pick true = left_within (is_named by.names) labels within
    pick false = left_within (λ name. not (is_named (metric_name ∷ by.names) name)) labels within

unbeyond : (labels : Names) → pass_limits labels ≡ false → Some labels ≡ unless_beyond labels
unbeyond labels none = ap (λ b. if b then None else Some labels) (sym none)

-- ---- the laws

pub set_within : SetLabelsAreWithin
set_within labels name [] within = unbeyond (without (name ∷ []) labels) (left_pass (λ (l : List ℕ × List ℕ). not (is_named (name ∷ []) l.0)) labels within)
set_within labels name (c ∷ value) within = ap (λ b. if b then None else Some (insert_entry byte_cmp labels name (c ∷ value))) (refused labels name c value within)

pub replaced_within : ReplacedLabelsAreWithin
replaced_within target template source pattern spans labels within found =
    rw found (set_within labels target (expanded spans (value_of labels source) template) within)

pub joined_within : JoinedLabelsAreWithin
joined_within target separator sources labels within = set_within labels target (separated separator (map (value_of labels) sources)) within

pub counted_within : CountedLabelsAreWithin
counted_within by label row within = pick (is_left_out by label)
  where
    kept : AreWithin (kept_labels by row.labels)
    kept = kept_within by row.labels within

    no_limit : pass_limits (kept_labels by row.labels) ≡ false
    no_limit =
        let few : length (kept_labels by row.labels) ≤ 64 = kept.set.few in
        ap (λ b. b || nat_lt 64 (length (kept_labels by row.labels))) kept.texts ∙ le-ltb 64 (length (kept_labels by row.labels)) few

    pick : (out : Bool) → (if out then Some (kept_labels by row.labels) else with_label (kept_labels by row.labels) label (spelling row.value))
        ≡ unless_beyond (if out then kept_labels by row.labels else with_value (kept_labels by row.labels) label (spelling row.value))
    pick true = unbeyond (kept_labels by row.labels) no_limit
    pick false = set_within (kept_labels by row.labels) label (spelling row.value) kept
