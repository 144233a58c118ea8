-- What an engine of parted samples holds is the part that has its declared labels.
use Rattle.std.proofs.Common.{◌≡◌, ◌∙◌, ℕ, Bool, true, false, cond, List, [], ◌∷◌, length, refl, sym, ap, subst, arith, Some, None}
use Rattle.std.specs.Prelude.{Option, filter, if◌then◌else◌}
use Rattle.std.specs.declared.cmp.Ordering.{Ordering}
use Rattle.std.specs.declared.cmp.Ordering.TheVariants.{Less, Equal, Greater}
use Rattle.std.specs.Ordering.{ordering_reverse}
use Rattle.std.specs.BTreeMap.{is_at}
use Rattle.std.specs.List.{AllByRecursion}
use Rattle.std.specs.List.Sorted.{IsStrictlySortedBy}
use Rattle.std.specs.Map.{keys_of, lookup}
use Rattle.std.proofs.lemmas.Cmp.{tied_itself}
use Rattle.std.proofs.lemmas.List.Kept.{IsStrictlySortedBy-filter}
use Rattle.std.proofs.lemmas.List.Elements.{recursion_from_All}
use Rattle.std.proofs.lemmas.Map.Entries.{lookup-filter-keys}
use Rattle.std.proofs.lemmas.Map.Views.{All-keys_from_lookup}
use Rattle.label_set.specs.Entries.{keys_filter, recursion_map}
use Rattle.label_set.specs.LabelOrder.{by_labels, by_labels_sorted, labels_cmp_ties, labels_cmp_total, labels_eq_at, labels_eq_equivalence}
use Rattle.label_set.specs.Labels.{is_named, labels_cmp, metric_name}
use Rattle.step_table.specs.Groups.{Names}
use Rattle.promql_meaning.specs.Selecting.{AllSeries, Samples}
use Rattle.parting_laws.specs.Parted.{Engine, HoldsItsOwn, Parted, declared_names, samples_under, takers, takes}
use Rattle.parting_laws.specs.PartLaws.{EnginesHoldParts, EnginesIgnoreName, IgnoresName, IsPartOf, NoEngineHasNone}
use Rattle.parting_laws.proofs.Chosen.{mapped_along, of_mapped}
use Rattle.parting_laws.proofs.Declared.{declared_left, not_among}
use Rattle.parting_laws.proofs.Puts.{lookup_put, same_key}

-- ---- look-ups in the order of labels

same_names : (m n : Names) → is_at (labels_cmp m) n ≡ true → m ≡ n
same_names m n e = same_key labels_cmp labels_cmp_ties m n e

-- series in the order of their labels hold under any labels what they held
lookup_by_labels : (q : Names) (series : AllSeries) → lookup (is_at (labels_cmp q)) (by_labels series) ≡ lookup (is_at (labels_cmp q)) series
lookup_by_labels q [] = refl
lookup_by_labels q (s ∷ series) = lookup_put labels_cmp labels_cmp_ties q s.0 s.1 (by_labels series) ∙ ap (λ o. cond (is_at (labels_cmp q) s.0) (Some s.1) o) (lookup_by_labels q series)

under_at : (q : Names) (series : AllSeries) → lookup (is_at (labels_cmp q)) series ≡ samples_under series q
under_at q series = λ i. lookup (λ (n : Names). labels_eq_at q n i) series

-- ---- series in order with equal look-ups are the same

none_past : (q : Names) (es : AllSeries) → AllByRecursion (λ k. labels_cmp q k ≡ Less) (keys_of es) → lookup (is_at (labels_cmp q)) es ≡ None
none_past q [] a = refl
none_past q (e ∷ es) a = rw a.0 (none_past q es a.1)

none_before : (q : Names) (e : Names × Samples) (es : AllSeries) → labels_cmp q e.0 ≡ Less → AllByRecursion (λ k. labels_cmp e.0 k ≡ Less) (keys_of es) → lookup (is_at (labels_cmp q)) (e ∷ es) ≡ None
none_before q e es l a = none_past q (e ∷ es) (l, recursion_map (λ k. labels_cmp e.0 k ≡ Less) (λ k. labels_cmp q k ≡ Less) (λ k m. labels_cmp_total.trans q e.0 k l m) (keys_of es) a)

first_at : (e : Names × Samples) (es : AllSeries) → lookup (is_at (labels_cmp e.0)) (e ∷ es) ≡ Some e.1
first_at e es = rw (tied_itself labels_cmp_total e.0) refl

tails : (k : Names) (v w : Samples) (xs ys : AllSeries) → AllByRecursion (λ z. labels_cmp k z ≡ Less) (keys_of xs) → AllByRecursion (λ z. labels_cmp k z ≡ Less) (keys_of ys)
    → ((q : Names) → lookup (is_at (labels_cmp q)) ((k, v) ∷ xs) ≡ lookup (is_at (labels_cmp q)) ((k, w) ∷ ys)) → (q : Names) → lookup (is_at (labels_cmp q)) xs ≡ lookup (is_at (labels_cmp q)) ys
tails k v w xs ys a b e q = by (is_at (labels_cmp q) k) refl (e q)
  where
    by : (r : Bool) → is_at (labels_cmp q) k ≡ r → cond r (Some v) (lookup (is_at (labels_cmp q)) xs) ≡ cond r (Some w) (lookup (is_at (labels_cmp q)) ys) → lookup (is_at (labels_cmp q)) xs ≡ lookup (is_at (labels_cmp q)) ys
    by true h f = subst (λ (z : Names). lookup (is_at (labels_cmp z)) xs ≡ lookup (is_at (labels_cmp z)) ys) (sym (same_names q k h)) (none_past k xs a ∙ sym (none_past k ys b))
    by false h f = f

same_series : (xs ys : AllSeries) → IsStrictlySortedBy labels_cmp (keys_of xs) → IsStrictlySortedBy labels_cmp (keys_of ys) → ((q : Names) → lookup (is_at (labels_cmp q)) xs ≡ lookup (is_at (labels_cmp q)) ys) → xs ≡ ys
unfolding IsStrictlySortedBy
same_series [] [] s t e = refl
same_series [] (y ∷ ys) s t e = let f : None ≡ Some y.1 = e y.0 ∙ first_at y ys in absurd (cc)
same_series (x ∷ xs) [] s t e = let f : None ≡ Some x.1 = sym (e x.0) ∙ first_at x xs in absurd (cc)
same_series (x ∷ xs) (y ∷ ys) s t e = by (labels_cmp x.0 y.0) refl (same_series xs ys s.1 t.1)
  where
    by : (r : Ordering) → labels_cmp x.0 y.0 ≡ r → (((q : Names) → lookup (is_at (labels_cmp q)) xs ≡ lookup (is_at (labels_cmp q)) ys) → xs ≡ ys) → x ∷ xs ≡ y ∷ ys
    by Less h rest = let f : Some x.1 ≡ None = sym (first_at x xs) ∙ e x.0 ∙ none_before x.0 y ys h t.0 in absurd (cc)
    by Equal h rest =
        let same : x.0 ≡ y.0 = labels_cmp_ties x.0 y.0 h in
        let value : Some x.1 ≡ Some y.1 = sym (first_at x xs) ∙ e x.0 ∙ ap (λ (z : Names). lookup (is_at (labels_cmp z)) (y ∷ ys)) same ∙ first_at y ys in
        let value' : x.1 ≡ y.1 = cc in
        let behind : AllByRecursion (λ z. labels_cmp x.0 z ≡ Less) (keys_of ys) = subst (λ (k : Names). AllByRecursion (λ z. labels_cmp k z ≡ Less) (keys_of ys)) (sym same) t.0 in
        let others : xs ≡ ys = rest (tails x.0 x.1 y.1 xs ys s.0 behind (λ q. e q ∙ ap (λ (k : Names). lookup (is_at (labels_cmp q)) ((k, y.1) ∷ ys)) (sym same))) in
        λ i. (same i, value' i) ∷ others i
    by Greater h rest =
        let less : labels_cmp y.0 x.0 ≡ Less = labels_cmp_total.antisymm y.0 x.0 ∙ ap ordering_reverse h in
        let f : None ≡ Some y.1 = sym (none_before y.0 x xs less s.0) ∙ e y.0 ∙ first_at y ys in absurd (cc)

-- ---- a part

module _ (test : Names → Bool) (samples held : AllSeries) where
  abbrev own : Names × Samples → Bool
  own series = test series.0

  filtered_at : (q : Names) → lookup (is_at (labels_cmp q)) (filter own (by_labels samples)) ≡ (if test q then samples_under samples q else None)
  filtered_at q =
      lookup-filter-keys (is_at (labels_cmp q)) test (test q) (λ n h. ap test (sym (same_names q n h))) (by_labels samples)
      ∙ ap (λ (o : Option Samples). cond (test q) o None) (lookup_by_labels q samples ∙ under_at q samples)

  pub is_part : ((labels : Names) → samples_under held labels ≡ (if test labels then samples_under samples labels else None)) → IsPartOf test samples held
  is_part h =
      same_series (by_labels held) (filter own (by_labels samples))
      (by_labels_sorted held)
      (subst (IsStrictlySortedBy labels_cmp) (sym (keys_filter test (by_labels samples))) (IsStrictlySortedBy-filter labels_cmp test (keys_of (by_labels samples)) (by_labels_sorted samples)))
      (λ q. lookup_by_labels q held ∙ under_at q held ∙ h q ∙ sym (filtered_at q))

-- ---- engines

pub engines_hold : EnginesHoldParts
engines_hold engines samples parted =
    mapped_along (HoldsItsOwn samples) (λ (engine : Engine). IsPartOf (takes engine) samples engine.samples) (λ engine h. is_part (takes engine) samples engine.samples h) engines parted.held

-- the names of each engine's declared labels
names_declared : (engines : List Engine) (samples : AllSeries) → Parted engines samples → AllByRecursion (λ (engine : Engine). keys_of engine.declared ≡ declared_names engines) engines
names_declared engines samples parted = of_mapped (λ (labels : Names). keys_of labels ≡ declared_names engines) (λ (engine : Engine). engine.declared) engines parted.declared.names

pub each_looks : (engines : List Engine) (samples : AllSeries) (Q : List (List ℕ) → Engine → Type 0) → ((engine : Engine) → Q (keys_of engine.declared) engine) → Parted engines samples → AllByRecursion (Q (declared_names engines)) engines
each_looks engines samples Q h parted =
    mapped_along (λ (engine : Engine). keys_of engine.declared ≡ declared_names engines) (Q (declared_names engines)) (λ engine e. subst (λ (names : List (List ℕ)). Q names engine) e (h engine)) engines (names_declared engines samples parted)

pub engines_ignore : EnginesIgnoreName
engines_ignore engines samples parted =
    mapped_along (λ (engine : Engine). keys_of engine.declared ≡ declared_names engines) (λ (engine : Engine). IgnoresName (takes engine))
    (λ engine e labels. declared_left (metric_name ∷ []) engine.declared labels (subst (AllByRecursion (λ (n : List ℕ). is_named (metric_name ∷ []) n ≡ false)) (sym e) (not_among metric_name (declared_names engines) parted.declared.unnamed)))
    engines (names_declared engines samples parted)

-- each series is one engine's
pub each_one : (engines : List Engine) (samples : AllSeries) → Parted engines samples → AllByRecursion (λ (s : Names × Samples). length (takers engines s.0) ≡ 1) samples
each_one engines samples parted =
    of_mapped (λ (labels : Names). length (takers engines labels) ≡ 1) (λ (s : Names × Samples). s.0) samples
    (recursion_from_All (λ (labels : Names). length (takers engines labels) ≡ 1) (keys_of samples) (All-keys_from_lookup labels_eq_equivalence (λ (labels : Names). length (takers engines labels) ≡ 1) samples (λ labels is. parted.one labels is)))

pub no_engine : NoEngineHasNone
no_engine samples parted = by samples (each_one [] samples parted)
  where
    by : (all : AllSeries) → AllByRecursion (λ (s : Names × Samples). length (takers [] s.0) ≡ 1) all → all ≡ []
    by [] a = refl
    by (s ∷ all) a = let none : 0 ≡ 1 = a.0 in absurd (omega (arith, none))
