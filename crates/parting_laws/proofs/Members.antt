-- Samples that engines have as members are parted.
use Rattle.std.proofs.Common.{◌≡◌, ◌∙◌, ◌≤◌, ℕ, Bool, true, false, cond, List, [], ◌∷◌, length, refl, sym, ap, subst, arith, Some, None}
use Rattle.std.specs.Prelude.{◌≢◌, Contains, Option, IsSome, filter, if◌then◌else◌}
use Rattle.std.specs.BTreeMap.{is_at}
use Rattle.std.specs.Cmp.{IsEquivalence}
use Rattle.std.specs.Cmp.Lexicographic.{nat_list_cmp_total}
use Rattle.std.specs.List.{AllByRecursion}
use Rattle.std.specs.Map.{keys_of, lookup}
use Rattle.std.proofs.lemmas.Cmp.{eq_by_cmp_equiv}
use Rattle.std.proofs.lemmas.List.Elements.{All-contains, All-contains_itself, All-from_recursion, recursion_from_All}
use Rattle.std.proofs.lemmas.Map.Keys.{IsDistinct-from_sorted}
use Rattle.std.proofs.lemmas.Map.Lookups.{exact_bytes}
use Rattle.std.proofs.lemmas.Map.Views.{Contains-from_lookup, Contains-keys_from_lookup, IsSome-lookup_from_Contains, lookup-from_Contains}
use Rattle.std.proofs.lemmas.Slice.Eq.{bytes_eq-Decides}
use Rattle.label_set.specs.LabelEquality.{labels_decide, labels_eq}
use Rattle.label_set.specs.LabelOrder.{labels_eq_equivalence}
use Rattle.label_set.specs.Labels.{IsLabelSet, byte_cmp, value_at, value_of}
use Rattle.step_table.specs.Groups.{Names}
use Rattle.promql_meaning.specs.Selecting.{AllSeries, Samples}
use Rattle.parting_laws.specs.PartLaws.{MembersArePart}
use Rattle.parting_laws.specs.Parted.{Engine, HasLabels, HaveMembers, HoldsItsOwn, declared_to, has_declared, has_pair, samples_under, takers, takes}
use Rattle.parting_laws.proofs.Chosen.{both_along, both_true, mapped_along, of_mapped}
use Rattle.parting_laws.proofs.Growing.{one_takes}
use Rattle.parting_laws.proofs.Puts.{same_key}

abbrev name_eq : List ℕ → List ℕ → Bool
name_eq a b = is_at (byte_cmp a) b

-- ---- members

contained : {X : Type 0} (xs : List X) → AllByRecursion (λ (x : X). Contains xs x) xs
contained xs = recursion_from_All (Contains xs) xs (All-contains_itself xs)

keys_contained : {X : Type 0} (es : List (Names × X)) → AllByRecursion (λ (e : Names × X). Contains (keys_of es) e.0) es
keys_contained {X = X} es = of_mapped (λ (n : Names). Contains (keys_of es) n) (λ (e : Names × X). e.0) es (contained (keys_of es))

nothing_passes : {X : Type 0} (p : X → Bool) (xs : List X) → filter p xs ≡ [] → AllByRecursion (λ (x : X). p x ≡ false) xs
nothing_passes p [] h = tt
nothing_passes {X = X} p (x ∷ xs) h = by (p x) refl h (λ k. nothing_passes p xs k)
  where
    by : (b : Bool) → p x ≡ b → cond b (x ∷ filter p xs) (filter p xs) ≡ [] → (filter p xs ≡ [] → AllByRecursion (λ (y : X). p y ≡ false) xs) → AllByRecursion (λ (y : X). p y ≡ false) (x ∷ xs)
    by true e g rest = absurd (cc)
    by false e g rest = (e, rest g)

-- ---- pairs of labels

pair_had : (labels : Names) (pair : List ℕ × List ℕ) → pair.1 ≢ [] → has_pair labels pair ≡ true → Contains labels pair
pair_had labels pair filled e = by (value_at labels pair.0) refl ((bytes_eq-Decides (value_of labels pair.0) pair.1).0 e)
  where
    by : (o : Option (List ℕ)) → value_at labels pair.0 ≡ o → value_of labels pair.0 ≡ pair.1 → Contains labels pair
    by None f g = let none : value_of labels pair.0 ≡ [] = rw f refl in absurd (filled (sym g ∙ none))
    by (Some v) f g =
        let is : value_of labels pair.0 ≡ v = rw f refl in
        let there : lookup (name_eq pair.0) labels ≡ Some pair.1 = f ∙ ap Some (sym is ∙ g) in
        Contains-from_lookup {eq = name_eq} (λ x y h. same_key byte_cmp exact_bytes x y h) pair.0 pair.1 labels there

has_each : (labels declared : Names) → has_declared declared labels ≡ true → AllByRecursion (λ (pair : List ℕ × List ℕ). has_pair labels pair ≡ true) declared
has_each labels [] e = tt
has_each labels (pair ∷ declared) e = let two = both_true (has_pair labels pair) (has_declared declared labels) e in (two.0, has_each labels declared two.1)

all_had : (labels declared : Names) → AllByRecursion (λ (pair : List ℕ × List ℕ). has_pair labels pair ≡ true) declared → has_declared declared labels ≡ true
all_had labels [] a = refl
all_had labels (pair ∷ declared) a = rw a.0 (all_had labels declared a.1)

pub had_labels : (labels declared : Names) → IsLabelSet declared → has_declared declared labels ≡ true → HasLabels declared labels
had_labels labels declared set e pair there =
    pair_had labels pair (All-contains (λ (p : List ℕ × List ℕ). p.1 ≢ []) declared pair (All-from_recursion (λ (p : List ℕ × List ℕ). p.1 ≢ []) declared set.filled) there)
    (All-contains (λ (p : List ℕ × List ℕ). has_pair labels p ≡ true) declared pair (All-from_recursion (λ (p : List ℕ × List ℕ). has_pair labels p ≡ true) declared (has_each labels declared e)) there)

names_equal : IsEquivalence name_eq
names_equal = eq_by_cmp_equiv nat_list_cmp_total

pair_of : (labels : Names) (pair : List ℕ × List ℕ) → IsLabelSet labels → Contains labels pair → has_pair labels pair ≡ true
pair_of labels pair set there =
    let found : value_at labels pair.0 ≡ Some pair.1 = lookup-from_Contains {eq = name_eq} names_equal pair.0 pair.1 labels (IsDistinct-from_sorted byte_cmp (keys_of labels) set.ordered) there in
    let is : value_of labels pair.0 ≡ pair.1 = rw found refl in
    (bytes_eq-Decides (value_of labels pair.0) pair.1).1 is

pub labels_had : (labels declared : Names) → IsLabelSet labels → HasLabels declared labels → has_declared declared labels ≡ true
labels_had labels declared set h =
    all_had labels declared
    (mapped_along (λ (pair : List ℕ × List ℕ). Contains declared pair) (λ (pair : List ℕ × List ℕ). has_pair labels pair ≡ true) (λ pair there. pair_of labels pair set (h pair there)) declared (contained declared))

-- ---- series by members

abbrev no_samples : Option Samples
no_samples = None

exact : (m n : Names) → labels_eq m n ≡ true → m ≡ n
exact m n e = (labels_decide m n (labels_eq m n) refl).0 e

module _ (engines : List Engine) (samples : AllSeries) (sets : AllByRecursion IsLabelSet (declared_to engines)) (names : AllByRecursion IsLabelSet (keys_of samples)) (members : HaveMembers engines samples) where
  -- the labels of a series are a label set
  set_under : (labels : Names) → IsSome (samples_under samples labels) → IsLabelSet labels
  set_under labels is = All-contains IsLabelSet (keys_of samples) labels (All-from_recursion IsLabelSet (keys_of samples) names) (Contains-keys_from_lookup exact labels samples is)

  some_is : (o : Option Samples) (v : Samples) → o ≡ Some v → IsSome o
  some_is o v e = subst IsSome (sym e) refl

  engine_holds : (engine : Engine) → Contains engines engine → IsLabelSet engine.declared → HoldsItsOwn samples engine
  engine_holds engine there set labels = by (takes engine labels) refl (samples_under samples labels) refl (samples_under engine.samples labels) refl
    where
      -- what the engine has under labels is a series that has its labels
      held_is : (w : Samples) → samples_under engine.samples labels ≡ Some w → Contains samples (labels, w) × HasLabels engine.declared labels
      held_is w e = (members.held engine (labels, w) there).0 (Contains-from_lookup exact labels w engine.samples e)

      series_is : (w : Samples) → samples_under engine.samples labels ≡ Some w → IsSome (samples_under samples labels)
      series_is w e =
          IsSome-lookup_from_Contains labels_eq_equivalence labels samples
          (All-contains (λ (s : Names × Samples). Contains (keys_of samples) s.0) samples (labels, w) (All-from_recursion (λ (s : Names × Samples). Contains (keys_of samples) s.0) samples (keys_contained samples)) (held_is w e).0)

      by : (b : Bool) → takes engine labels ≡ b → (o : Option Samples) → samples_under samples labels ≡ o → (p : Option Samples) → samples_under engine.samples labels ≡ p → p ≡ (if b then o else None)
      by true e (Some v) f p g =
          let series : Contains samples (labels, v) = Contains-from_lookup exact labels v samples f in
          let own : Contains engine.samples (labels, v) = (members.held engine (labels, v) there).1 (series, had_labels labels engine.declared set e) in
          sym g ∙ lookup-from_Contains labels_eq_equivalence labels v engine.samples (members.once engine there) own
      by true e None f None g = refl
      by true e None f (Some w) g = let none : IsSome no_samples = subst IsSome f (series_is w g) in absurd (cc)
      by false e o f None g = refl
      by false e o f (Some w) g = let here : takes engine labels ≡ true = labels_had labels engine.declared (set_under labels (series_is w g)) (held_is w g).1 in absurd (cc)

  some_takes : (engine : Engine) (labels : Names) (all : List Engine) → takes engine labels ≡ true → Contains all engine → 1 ≤ length (takers all labels)
  some_takes engine labels all e there = by (takers all labels) refl
    where
      by : (r : List Engine) → takers all labels ≡ r → 1 ≤ length (takers all labels)
      by [] h = let off : takes engine labels ≡ false = All-contains (λ (x : Engine). takes x labels ≡ false) all engine (All-from_recursion (λ (x : Engine). takes x labels ≡ false) all (nothing_passes (λ (x : Engine). takes x labels) all h)) there in absurd (cc)
      by (x ∷ r) h = rw h (omega arith)

  one_of : (labels : Names) → IsSome (samples_under samples labels) → length (takers engines labels) ≡ 1
  one_of labels is = by (samples_under samples labels) refl is
    where
      by : (o : Option Samples) → samples_under samples labels ≡ o → IsSome o → length (takers engines labels) ≡ 1
      by None e h = absurd (cc)
      by (Some v) e h =
          let at = members.placed (labels, v) (Contains-from_lookup exact labels v samples e) in
          let own : takes at.0 labels ≡ true = labels_had labels at.0.declared (set_under labels is) at.2 in
          let least : 1 ≤ length (takers engines labels) = some_takes at.0 labels engines own at.1 in
          let most : length (takers engines labels) ≤ 1 = one_takes engines labels members.declared in
          omega arith

  each_holds : AllByRecursion (HoldsItsOwn samples) engines
  each_holds =
      mapped_along (λ (engine : Engine). Contains engines engine × IsLabelSet engine.declared) (HoldsItsOwn samples) (λ engine h. engine_holds engine h.0 h.1) engines
      (both_along (λ (engine : Engine). Contains engines engine) (λ (engine : Engine). IsLabelSet engine.declared) engines (contained engines) (of_mapped IsLabelSet (λ (engine : Engine). engine.declared) engines sets))

pub members_part : MembersArePart
members_part engines samples sets names members = record { declared = members.declared; one = one_of engines samples sets names members; held = each_holds engines samples sets names members }
