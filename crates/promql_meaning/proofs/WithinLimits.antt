-- Pairs that are put in the order of their names, one after another: none where their whole set passes a limit.
use Rattle.std.proofs.Common.{◌≡◌, ◌∙◌, ℕ, suc, ◌+◌, ◌<◌, ◌≤◌, Bool, true, false, cond, List, [], ◌∷◌, ◌++◌, length, refl, sym, ap, subst, arith, Option, None, Some, append_assoc, append-nil, length-append}
use Rattle.std.specs.Prelude.{◌||◌, ◌==◌, ◌≢◌, filter, map, nat_lt, is_some, not, if◌then◌else◌, ⊤}
use Rattle.std.specs.BTreeMap.{insert_entry}
use Rattle.std.specs.Cmp.Lexicographic.{nat_list_cmp_total}
use Rattle.std.specs.List.{AllByRecursion, cons_option, filter_map, last_or, list_any}
use Rattle.std.specs.List.Sorted.{IsStrictlySortedBy}
use Rattle.std.specs.Map.{keys_of}
use Rattle.std.specs.Option.{option_and_then, option_map}
use Rattle.std.specs.Ordering.{is_eq, ordering_reverse}
use Rattle.std.specs.declared.cmp.Ordering.TheVariants.{Less, Greater}
use Rattle.std.proofs.lemmas.Bool.{le-ltb, lt-ltb, ltb-false, ltb-true}
use Rattle.std.proofs.lemmas.List.Kept.{IsStrictlySortedBy-filter}
use Rattle.std.proofs.lemmas.Map.Lookups.{exact_bytes}
use Rattle.label_set.specs.Entries.{keys_filter, recursion_filter}
use Rattle.label_set.specs.Labels.{byte_cmp, is_named, metric_name, room_refusal, value_at, with_pair}
use Rattle.label_set.specs.declared.labels.LabelRefusal.TheVariants.{Duplicate, TooLong, TooMany}
use Rattle.label_set.specs.declared.rules.Rule.{Rule}
use Rattle.label_set.specs.declared.rules.RuleKind.{RuleKind}
use Rattle.label_set.specs.declared.rules.RuleKind.TheVariants.{Eq, Ne, Re, Nre}
use Rattle.step_table.specs.Groups.{Names}
use Rattle.step_table.specs.KeySets.{sorted_set}
use Rattle.step_table.specs.Operators.{all_put}
use Rattle.step_table.specs.Unions.{set_of}
use Rattle.promql_meaning.specs.Absences.{absent_pair, absent_pairs, absent_value, equal_text, is_equality, kinds_on, unless_empty}
use Rattle.step_table.specs.LabelLimits.{is_beyond}
use Rattle.promql_meaning.specs.LimitLaws.{AbsentLabelsAreWithin}

-- ---- a name behind all that are there

abbrev IsBehind : Names → List ℕ → Type 0
IsBehind there name = AllByRecursion (λ k. byte_cmp name k ≡ Greater) (keys_of there)

none_there : (name : List ℕ) (there : Names) → IsBehind there name → value_at there name ≡ None
none_there name [] a = refl
none_there name (p ∷ there) a = ap (λ o. cond (is_eq o) (Some p.1) (value_at there name)) a.0 ∙ none_there name there a.1

put_last : (name value : List ℕ) (there : Names) → IsBehind there name → insert_entry byte_cmp there name value ≡ there ++ (name, value) ∷ []
put_last name value [] a = refl
put_last name value (p ∷ there) a = rw a.0 (ap (λ ps. p ∷ ps) (put_last name value there a.1))

one_behind : (name value other : List ℕ) (there : Names) → IsBehind there other → byte_cmp name other ≡ Less → IsBehind (there ++ (name, value) ∷ []) other
one_behind name value other [] a h = (nat_list_cmp_total.antisymm other name ∙ ap ordering_reverse h, tt)
one_behind name value other (p ∷ there) a h = (a.0, one_behind name value other there a.1 h)

all_behind : (name value : List ℕ) (there more : Names) → AllByRecursion (λ k. byte_cmp name k ≡ Less) (keys_of more) → AllByRecursion (IsBehind there) (keys_of more) → AllByRecursion (IsBehind (there ++ (name, value) ∷ [])) (keys_of more)
all_behind name value there [] up a = tt
all_behind name value there (q ∷ more) up a = (one_behind name value q.0 there a.0 up.0, all_behind name value there more up.1 a.1)

or_true : (a : Bool) → (a || true) ≡ true
or_true true = refl
or_true false = refl

-- ---- pairs in the order of their names

abbrev whole : Names → Names → Option Names
whole there pairs = if list_any is_beyond pairs || nat_lt 64 (length there + length pairs) then None else Some (there ++ pairs)

-- a pair whose texts are within the limits
within : (there : Names) (name : List ℕ) (c : ℕ) (value : List ℕ) (pairs : Names) → IsBehind there name → length there ≤ 64
    → (length (there ++ (name, c ∷ value) ∷ []) ≤ 64 → all_put (there ++ (name, c ∷ value) ∷ []) pairs ≡ whole (there ++ (name, c ∷ value) ∷ []) pairs)
    → (if is_some (if is_some (value_at there name) then Some Duplicate else room_refusal there (c ∷ value)) then None else all_put (with_pair there name (c ∷ value)) pairs)
    ≡ (if list_any is_beyond pairs || nat_lt 64 (length there + suc (length pairs)) then None else Some (there ++ (name, c ∷ value) ∷ pairs))
within there name c value pairs behind few rest =
    ap (λ o. if is_some (if is_some o then Some Duplicate else room_refusal there (c ∷ value)) then None else all_put (with_pair there name (c ∷ value)) pairs) (none_there name there behind)
    ∙ room (nat_lt (length there) 64) refl
  where
    longer : length (there ++ (name, c ∷ value) ∷ []) ≡ length there + 1
    longer = length-append there ((name, c ∷ value) ∷ [])

    room : (z : Bool) → nat_lt (length there) 64 ≡ z → (if is_some (if z then None else Some TooMany) then None else all_put (with_pair there name (c ∷ value)) pairs)
        ≡ (if list_any is_beyond pairs || nat_lt 64 (length there + suc (length pairs)) then None else Some (there ++ (name, c ∷ value) ∷ pairs))
    room true h =
        let less : length there < 64 = ltb-true (length there) 64 h in
        let more : length (there ++ (name, c ∷ value) ∷ []) + length pairs ≡ length there + suc (length pairs) = let l : length (there ++ (name, c ∷ value) ∷ []) ≡ length there + 1 = longer in omega (arith, l) in
        let fewer : length (there ++ (name, c ∷ value) ∷ []) ≤ 64 = let l : length (there ++ (name, c ∷ value) ∷ []) ≡ length there + 1 = longer in omega (arith, l, less) in
        ap (λ ps. all_put ps pairs) (put_last name (c ∷ value) there behind) ∙ rest fewer
        ∙ ap (λ n. if list_any is_beyond pairs || nat_lt 64 n then None else Some ((there ++ (name, c ∷ value) ∷ []) ++ pairs)) more
        ∙ ap (λ (ps : Names). if list_any is_beyond pairs || nat_lt 64 (length there + suc (length pairs)) then None else Some ps) (append_assoc there ((name, c ∷ value) ∷ []) pairs)
    room false h =
        let many : 64 ≤ length there = ltb-false (length there) 64 h in
        let beyond : nat_lt 64 (length there + suc (length pairs)) ≡ true = lt-ltb 64 (length there + suc (length pairs)) (omega (arith, many)) in
        ap (λ t. if t then None else Some (there ++ (name, c ∷ value) ∷ pairs)) (sym (or_true (list_any is_beyond pairs)) ∙ ap (λ t. list_any is_beyond pairs || t) (sym beyond))

-- what comes of pairs
pub put_all : (there pairs : Names) → IsStrictlySortedBy byte_cmp (keys_of pairs) → AllByRecursion (λ (p : List ℕ × List ℕ). p.1 ≢ []) pairs → AllByRecursion (IsBehind there) (keys_of pairs) → length there ≤ 64
    → all_put there pairs ≡ whole there pairs
unfolding IsStrictlySortedBy
put_all there [] up filled behind few =
    let at_end : nat_lt 64 (length there + 0) ≡ false = le-ltb 64 (length there + 0) (omega (arith, few)) in
    ap Some (sym (append-nil there)) ∙ ap (λ b. if b then None else Some (there ++ [])) (sym at_end)
put_all there (([], value) ∷ pairs) up filled behind few = refl
put_all there ((b ∷ name, []) ∷ pairs) up filled behind few = absurd (filled.0 refl)
put_all there ((b ∷ name, c ∷ value) ∷ pairs) up filled behind few =
    by (nat_lt 4096 (length (b ∷ name))) (nat_lt 4096 (length (c ∷ value)))
    (within there (b ∷ name) c value pairs behind.0 few (put_all (there ++ (b ∷ name, c ∷ value) ∷ []) pairs up.1 filled.1 (all_behind (b ∷ name) (c ∷ value) there pairs up.0 behind.1)))
  where
    by : (x y : Bool) → (if is_some (if is_some (value_at there (b ∷ name)) then Some Duplicate else room_refusal there (c ∷ value)) then None else all_put (with_pair there (b ∷ name) (c ∷ value)) pairs)
        ≡ (if list_any is_beyond pairs || nat_lt 64 (length there + suc (length pairs)) then None else Some (there ++ (b ∷ name, c ∷ value) ∷ pairs))
        → (if is_some (if x then Some TooLong else if y then Some TooLong else if is_some (value_at there (b ∷ name)) then Some Duplicate else room_refusal there (c ∷ value)) then None else all_put (with_pair there (b ∷ name) (c ∷ value)) pairs)
        ≡ (if ((x || y) || list_any is_beyond pairs) || nat_lt 64 (length there + suc (length pairs)) then None else Some (there ++ (b ∷ name, c ∷ value) ∷ pairs))
    by true y is = refl
    by false true is = refl
    by false false is = is

-- ---- the pairs of what is absent

abbrev IsFilled : Option (List ℕ) → Type 0
IsFilled None = ⊤
IsFilled (Some value) = value ≢ []

text_filled : (text : List ℕ) → IsFilled (unless_empty text)
text_filled [] = tt
text_filled (b ∷ text) = λ e. absurd (cc)

last_filled : (o : Option RuleKind) → IsFilled (option_and_then equal_text o)
last_filled None = tt
last_filled (Some (Eq text)) = text_filled text
last_filled (Some (Ne text)) = tt
last_filled (Some (Re id)) = tt
last_filled (Some (Nre id)) = tt

value_filled : (kinds : List RuleKind) → IsFilled (absent_value kinds)
value_filled kinds = by (length (filter is_equality kinds) == 1)
  where
    by : (b : Bool) → IsFilled (if b then option_and_then equal_text (last_or None kinds) else None)
    by true = last_filled (last_or None kinds)
    by false = tt

module _ (rules : List Rule) where
  abbrev told : List (List ℕ) → Names
  told labels = filter_map (absent_pair rules) labels

  told_filled : (labels : List (List ℕ)) → AllByRecursion (λ (p : List ℕ × List ℕ). p.1 ≢ []) (told labels)
  told_filled [] = tt
  told_filled (label ∷ labels) = by (absent_value (kinds_on rules label)) (value_filled (kinds_on rules label)) (told_filled labels)
    where
      by : (o : Option (List ℕ)) → IsFilled o → AllByRecursion (λ (p : List ℕ × List ℕ). p.1 ≢ []) (told labels)
          → AllByRecursion (λ (p : List ℕ × List ℕ). p.1 ≢ []) (cons_option (option_map (λ (value : List ℕ). (label, value)) o) (told labels))
      by None f rest = rest
      by (Some value) f rest = (f, rest)

  told_above : (name : List ℕ) (labels : List (List ℕ)) → AllByRecursion (λ k. byte_cmp name k ≡ Less) labels → AllByRecursion (λ k. byte_cmp name k ≡ Less) (keys_of (told labels))
  told_above name [] a = tt
  told_above name (label ∷ labels) a = by (absent_value (kinds_on rules label)) (told_above name labels a.1)
    where
      by : (o : Option (List ℕ)) → AllByRecursion (λ k. byte_cmp name k ≡ Less) (keys_of (told labels))
          → AllByRecursion (λ k. byte_cmp name k ≡ Less) (keys_of (cons_option (option_map (λ (value : List ℕ). (label, value)) o) (told labels)))
      by None rest = rest
      by (Some value) rest = (a.0, rest)

  told_sorted : (labels : List (List ℕ)) → IsStrictlySortedBy byte_cmp labels → IsStrictlySortedBy byte_cmp (keys_of (told labels))
  unfolding IsStrictlySortedBy
  told_sorted [] up = tt
  told_sorted (label ∷ labels) up = by (absent_value (kinds_on rules label)) (told_above label labels up.0) (told_sorted labels up.1)
    where
      by : (o : Option (List ℕ)) → AllByRecursion (λ k. byte_cmp label k ≡ Less) (keys_of (told labels)) → IsStrictlySortedBy byte_cmp (keys_of (told labels))
          → IsStrictlySortedBy byte_cmp (keys_of (cons_option (option_map (λ (value : List ℕ). (label, value)) o) (told labels)))
      by None above rest = rest
      by (Some value) above rest = (above, rest)

nothing_there : (names : List (List ℕ)) → AllByRecursion (IsBehind []) names
nothing_there [] = tt
nothing_there (name ∷ names) = (tt, nothing_there names)

pub absent_within : AbsentLabelsAreWithin
absent_within rules =
    let labels : List (List ℕ) = set_of byte_cmp (map (λ (rule : Rule). rule.label) rules) in
    let pairs : Names = absent_pairs rules in
    let up : IsStrictlySortedBy byte_cmp (keys_of (told rules labels)) = told_sorted rules labels (sorted_set nat_list_cmp_total exact_bytes (map (λ (rule : Rule). rule.label) rules)) in
    let sorted : IsStrictlySortedBy byte_cmp (keys_of pairs) =
    subst (IsStrictlySortedBy byte_cmp) (sym (keys_filter (λ name. not (is_named (metric_name ∷ []) name)) (told rules labels)))
    (IsStrictlySortedBy-filter byte_cmp (λ name. not (is_named (metric_name ∷ []) name)) (keys_of (told rules labels)) up) in
    let filled : AllByRecursion (λ (p : List ℕ × List ℕ). p.1 ≢ []) pairs =
    recursion_filter (λ (p : List ℕ × List ℕ). p.1 ≢ []) (λ (p : List ℕ × List ℕ). not (is_named (metric_name ∷ []) p.0)) (told rules labels) (told_filled rules labels) in
    let many : 0 + length pairs ≡ length pairs = omega arith in
    put_all [] pairs sorted filled (nothing_there (keys_of pairs)) (omega arith) ∙ ap (λ n. if list_any is_beyond pairs || nat_lt 64 n then None else Some pairs) many
