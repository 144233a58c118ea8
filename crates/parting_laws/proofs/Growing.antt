-- Samples that are parted stay so where some are put at their engine.
use Rattle.std.proofs.Common.{◌≡◌, ◌∙◌, ◌≤◌, ℕ, Bool, true, false, cond, List, [], ◌∷◌, ◌++◌, length, refl, sym, ap, subst, arith, Some, None}
use Rattle.std.specs.Prelude.{Option, IsSome, filter, if◌then◌else◌}
use Rattle.std.specs.List.{AllByRecursion, IsDistinct}
use Rattle.std.specs.Map.{keys_of}
use Rattle.std.proofs.lemmas.List.{length-map}
use Rattle.std.proofs.lemmas.Slice.Eq.{bytes_eq-Decides}
use Rattle.label_set.specs.LabelEquality.{labels_decide, labels_eq}
use Rattle.label_set.specs.Labels.{value_of}
use Rattle.step_table.specs.Groups.{Names}
use Rattle.promql_meaning.specs.Selecting.{AllSeries, Samples}
use Rattle.parting_laws.specs.PartLaws.{NothingIsParted, OneTakes, PutsStayParted}
use Rattle.parting_laws.specs.Parted.{Engine, HoldsItsOwn, IsPut, MayBeDeclared, Parted, declared_to, has_declared, has_pair, names_of_first, samples_under, takers, takes, with_samples}
use Rattle.parting_laws.proofs.Chosen.{both_true, filter_mapped, mapped_along}

-- ---- one engine takes labels

-- labels of the same names that others have are the same
same_declared : (labels d f : Names) → keys_of d ≡ keys_of f → has_declared d labels ≡ true → has_declared f labels ≡ true → d ≡ f
same_declared labels [] [] e h k = refl
same_declared labels [] (p ∷ f) e h k = absurd (cc)
same_declared labels (p ∷ d) [] e h k = absurd (cc)
same_declared labels (p ∷ d) (q ∷ f) e h k =
    let left = both_true (has_pair labels p) (has_declared d labels) h in
    let right = both_true (has_pair labels q) (has_declared f labels) k in
    let name : p.0 ≡ q.0 = cc in
    let names : keys_of d ≡ keys_of f = cc in
    let value : p.1 ≡ q.1 = sym ((bytes_eq-Decides (value_of labels p.0) p.1).0 left.0) ∙ ap (value_of labels) name ∙ (bytes_eq-Decides (value_of labels q.0) q.1).0 right.0 in
    let rest : d ≡ f = same_declared labels d f names left.1 right.1 in
    λ i. (name i, value i) ∷ rest i

none_other : (labels d : Names) (names : List (List ℕ)) (all : List Names) → keys_of d ≡ names → has_declared d labels ≡ true → AllByRecursion (λ (f : Names). keys_of f ≡ names) all → AllByRecursion (λ (f : Names). labels_eq d f ≡ false) all
    → filter (λ (f : Names). has_declared f labels) all ≡ []
none_other labels d names [] e h a b = refl
none_other labels d names (f ∷ all) e h a b = by (has_declared f labels) refl (none_other labels d names all e h a.1 b.1)
  where
    by : (r : Bool) → has_declared f labels ≡ r → filter (λ (f : Names). has_declared f labels) all ≡ [] → cond r (f ∷ filter (λ (f : Names). has_declared f labels) all) (filter (λ (f : Names). has_declared f labels) all) ≡ []
    by true k rest = let same : labels_eq d f ≡ true = (labels_decide d f (labels_eq d f) refl).1 (same_declared labels d f (e ∙ sym a.0) h k) in let other : labels_eq d f ≡ false = b.0 in absurd (cc)
    by false k rest = rest

one_takes_of : (labels : Names) (names : List (List ℕ)) (all : List Names) → AllByRecursion (λ (f : Names). keys_of f ≡ names) all → IsDistinct labels_eq all → length (filter (λ (f : Names). has_declared f labels) all) ≤ 1
unfolding IsDistinct
one_takes_of labels names [] a d = omega arith
one_takes_of labels names (f ∷ all) a d = by (has_declared f labels) refl (one_takes_of labels names all a.1 d.1)
  where
    by : (r : Bool) → has_declared f labels ≡ r → length (filter (λ (f : Names). has_declared f labels) all) ≤ 1 → length (cond r (f ∷ filter (λ (f : Names). has_declared f labels) all) (filter (λ (f : Names). has_declared f labels) all)) ≤ 1
    by true h rest = let none : length (filter (λ (f : Names). has_declared f labels) all) ≡ 0 = ap length (none_other labels f names all a.0 h a.1 d.0) in omega (arith, none)
    by false h rest = rest

takers_are : (engines : List Engine) (labels : Names) → length (takers engines labels) ≡ length (filter (λ (f : Names). has_declared f labels) (declared_to engines))
takers_are engines labels = sym (ap length (filter_mapped (λ (f : Names). has_declared f labels) (λ (engine : Engine). engine.declared) engines) ∙ length-map (takers engines labels) (λ (engine : Engine). engine.declared))

pub one_takes : OneTakes
one_takes engines labels may = subst (λ (n : ℕ). n ≤ 1) (sym (takers_are engines labels)) (one_takes_of labels (names_of_first (declared_to engines)) (declared_to engines) may.names may.values)

-- ---- nothing

abbrev no_samples : Option Samples
no_samples = None

pub nothing_parted : NothingIsParted
nothing_parted engines may none = record {
  declared = may;
  one = λ labels is. absurd (cc);
  held = mapped_along (λ (engine : Engine). engine.samples ≡ []) (HoldsItsOwn []) (λ engine e labels. ap (λ (s : AllSeries). samples_under s labels) e ∙ by (takes engine labels)) engines none;
}
  where
    by : (b : Bool) → no_samples ≡ (if b then no_samples else no_samples)
    by true = refl
    by false = refl

-- ---- samples that are put

module _ (front back : List Engine) (engine : Engine) (before after held : AllSeries) (labels : Names) (samples : Samples)
    (parted : Parted (front ++ engine ∷ back) before) (own : takes engine labels ≡ true) (put : IsPut before labels samples after) (put_there : IsPut engine.samples labels samples held) where
  abbrev old : List Engine
  old = front ++ engine ∷ back

  abbrev new : List Engine
  new = front ++ with_samples held engine ∷ back

  declared_same : (es : List Engine) → declared_to (es ++ engine ∷ back) ≡ declared_to (es ++ with_samples held engine ∷ back)
  declared_same [] = refl
  declared_same (e ∷ es) = ap (λ (all : List Names). e.declared ∷ all) (declared_same es)

  takers_same : (other : Names) → length (takers new other) ≡ length (takers old other)
  takers_same other = takers_are new other ∙ ap (λ (all : List Names). length (filter (λ (f : Names). has_declared f other) all)) (sym (declared_same front)) ∙ sym (takers_are old other)

  some_takes : (es : List Engine) → 1 ≤ length (takers (es ++ engine ∷ back) labels)
  some_takes [] = rw own (omega arith)
  some_takes (e ∷ es) = by (takes e labels) (some_takes es)
    where
      by : (b : Bool) → 1 ≤ length (takers (es ++ engine ∷ back) labels) → 1 ≤ length (cond b (e ∷ takers (es ++ engine ∷ back) labels) (takers (es ++ engine ∷ back) labels))
      by true rest = omega arith
      by false rest = rest

  is_one : length (takers old labels) ≡ 1
  is_one = let most : length (takers old labels) ≤ 1 = one_takes old labels parted.declared in let least : 1 ≤ length (takers old labels) = some_takes front in omega arith

  -- so no other engine takes these labels
  none_takes : (es : List Engine) → length (takers es labels) ≡ 0 → AllByRecursion (λ (e : Engine). takes e labels ≡ false) es
  none_takes [] h = tt
  none_takes (e ∷ es) h = by (takes e labels) refl h (λ k. none_takes es k)
    where
      by : (b : Bool) → takes e labels ≡ b → length (cond b (e ∷ takers es labels) (takers es labels)) ≡ 0 → (length (takers es labels) ≡ 0 → AllByRecursion (λ (f : Engine). takes f labels ≡ false) es) → AllByRecursion (λ (f : Engine). takes f labels ≡ false) (e ∷ es)
      by true f k rest = absurd (omega arith)
      by false f k rest = (f, rest k)

  others_apart : (es : List Engine) → length (takers (es ++ engine ∷ back) labels) ≡ 1 → AllByRecursion (λ (e : Engine). takes e labels ≡ false) es × AllByRecursion (λ (e : Engine). takes e labels ≡ false) back
  others_apart [] h = (tt, none_takes back (let k : length (cond true (engine ∷ takers back labels) (takers back labels)) ≡ 1 = rw own at h in omega arith))
  others_apart (e ∷ es) h = by (takes e labels) refl h (λ k. others_apart es k) (some_takes es)
    where
      by : (b : Bool) → takes e labels ≡ b → length (cond b (e ∷ takers (es ++ engine ∷ back) labels) (takers (es ++ engine ∷ back) labels)) ≡ 1
          → (length (takers (es ++ engine ∷ back) labels) ≡ 1 → AllByRecursion (λ (e : Engine). takes e labels ≡ false) es × AllByRecursion (λ (e : Engine). takes e labels ≡ false) back) → 1 ≤ length (takers (es ++ engine ∷ back) labels)
          → AllByRecursion (λ (f : Engine). takes f labels ≡ false) (e ∷ es) × AllByRecursion (λ (f : Engine). takes f labels ≡ false) back
      by true f k rest some = absurd (omega arith)
      by false f k rest some = let r = rest k in ((f, r.0), r.1)

  same_labels : (other : Names) → labels_eq labels other ≡ true → labels ≡ other
  same_labels other e = (labels_decide labels other (labels_eq labels other) refl).0 e

  -- an engine that doesn't take these labels holds what it held
  other_holds : (e : Engine) → takes e labels ≡ false → HoldsItsOwn before e → HoldsItsOwn after e
  other_holds e apart h other = h other ∙ by (labels_eq labels other) refl (put other)
    where
      by : (b : Bool) → labels_eq labels other ≡ b → samples_under after other ≡ (if b then Some samples else samples_under before other) → (if takes e other then samples_under before other else None) ≡ (if takes e other then samples_under after other else None)
      by true f g = let not_own : takes e other ≡ false = ap (takes e) (sym (same_labels other f)) ∙ apart in rw not_own refl
      by false f g = ap (λ (o : Option Samples). if takes e other then o else None) (sym g)

  own_holds : HoldsItsOwn before engine → HoldsItsOwn after (with_samples held engine)
  own_holds h other = by (labels_eq labels other) refl (put other) (put_there other)
    where
      by : (b : Bool) → labels_eq labels other ≡ b → samples_under after other ≡ (if b then Some samples else samples_under before other) → samples_under held other ≡ (if b then Some samples else samples_under engine.samples other)
          → samples_under held other ≡ (if takes engine other then samples_under after other else None)
      by true f g k = let mine : takes engine other ≡ true = ap (takes engine) (sym (same_labels other f)) ∙ own in k ∙ sym g ∙ rw mine refl
      by false f g k = k ∙ h other ∙ ap (λ (o : Option Samples). if takes engine other then o else None) (sym g)

  all_hold : (es : List Engine) → AllByRecursion (HoldsItsOwn before) (es ++ engine ∷ back) → AllByRecursion (λ (e : Engine). takes e labels ≡ false) es → AllByRecursion (λ (e : Engine). takes e labels ≡ false) back
      → AllByRecursion (HoldsItsOwn after) (es ++ with_samples held engine ∷ back)
  all_hold [] h a b = (own_holds h.0, rest back h.1 b)
    where
      rest : (es : List Engine) → AllByRecursion (HoldsItsOwn before) es → AllByRecursion (λ (e : Engine). takes e labels ≡ false) es → AllByRecursion (HoldsItsOwn after) es
      rest [] k c = tt
      rest (e ∷ es) k c = (other_holds e c.0 k.0, rest es k.1 c.1)
  all_hold (e ∷ es) h a b = (other_holds e a.0 h.0, all_hold es h.1 a.1 b)

  grown : Parted new after
  grown =
      let apart = others_apart front is_one in
      record {
        declared = subst MayBeDeclared (declared_same front) parted.declared;
        one = λ other is. takers_same other ∙ by other (labels_eq labels other) refl (put other) is;
        held = all_hold front parted.held apart.0 apart.1;
      }
    where
      by : (other : Names) (b : Bool) → labels_eq labels other ≡ b → samples_under after other ≡ (if b then Some samples else samples_under before other) → IsSome (samples_under after other) → length (takers old other) ≡ 1
      by other true f g is = ap (λ (n : Names). length (takers old n)) (sym (same_labels other f)) ∙ is_one
      by other false f g is = parted.one other (subst IsSome g is)

pub puts_parted : PutsStayParted
puts_parted front back engine before after held labels samples parted own put put_there = grown front back engine before after held labels samples parted own put put_there
