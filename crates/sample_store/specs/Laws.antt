-- Laws of what a store holds: the order of times, when two samples are the same, and what one more sample changes.
use Rattle.std.proofs.Common.{◌≡◌, Bool, [], ◌∷◌, Option, Some, unwrap_or, cond, refl, sym, ap, ◌∙◌}
use Rattle.std.specs.Prelude.{ℕ, ℤ, true, false}
use Rattle.std.specs.Bool.{Decides}
use Rattle.std.specs.BTreeMap.{insert_entry}
use Rattle.std.specs.Cmp.{IsTotalOrder, int_cmp_total, int_ranked}
use Rattle.std.specs.Map.{lookup}
use Rattle.std.specs.declared.cmp.Ordering.TheVariants.{Equal}
use Rattle.std.proofs.lemmas.Cmp.{on_total}
use Rattle.std.proofs.lemmas.Bool.Decides.{Decides-and, Decides-eqb, Decides-int_eq, Decides-like}
use Rattle.label_set.specs.LabelEquality.{labels_eq, labels_decide}
use Rattle.ticks.specs.declared.moment.Ms.{Ms}
use Rattle.xfrac.specs.declared.value.Held.{Held}
use Rattle.xfrac.specs.declared.value.Held.TheVariants.{Value, Stale}
use Rattle.xfrac.specs.declared.value.XFrac.{XFrac}
use Rattle.xfrac.specs.declared.value.XFrac.TheVariants.{Fin, PosInf, NegInf, NaN}
use Rattle.sample_store.specs.Samples.{AllSeries, Names, Samples, is_same, is_same_number, put_entry, samples_of, time_cmp, with_sample}

-- ---- times

pub time_cmp_total : IsTotalOrder time_cmp
time_cmp_total = on_total (λ (t : Ms). t.0) int_cmp_total

ms-same : (a b : Ms) → a.0 ≡ b.0 → a ≡ b
ms-same a b e = ap (λ (z : ℤ). record { 0 = z }) e

-- times that tie are the same
pub time_cmp_ties : (a b : Ms) → time_cmp a b ≡ Equal → a ≡ b
time_cmp_ties a b e = ms-same a b (int_ranked a.0 b.0 Equal (sym e))

-- ---- samples

fraction-same : (f g : ℤ × ℕ) → f.0 ≡ g.0 → f.1 ≡ g.1 → Fin f ≡ Fin g
fraction-same f g n d = ap (λ (z : ℤ). Fin (z, f.1)) n ∙ ap (λ (z : ℕ). Fin (g.0, z)) d

fraction-parts : (f g : ℤ × ℕ) → Fin f ≡ Fin g → (f.0 ≡ g.0) × (f.1 ≡ g.1)
fraction-parts f g h = let e : f ≡ g = cc in (ap (λ (z : ℤ × ℕ). z.0) e, ap (λ (z : ℤ × ℕ). z.1) e)

not-true : false ≡ true → ⊥
not-true h = cc

number-same : (x y : XFrac) → Decides (is_same_number x y) (x ≡ y)
number-same (Fin f) (Fin g) = Decides-like _ (λ h. fraction-same f g h.0 h.1) (fraction-parts f g) (Decides-and _ _ (Decides-int_eq f.0 g.0) (Decides-eqb f.1 g.1))
number-same PosInf PosInf = (λ h. refl, λ h. refl)
number-same NegInf NegInf = (λ h. refl, λ h. refl)
number-same NaN NaN = (λ h. refl, λ h. refl)
number-same x y = (λ h. absurd (not-true h), λ h. absurd (cc))

pub held_same : (a b : Held) → Decides (is_same a b) (a ≡ b)
held_same (Value x) (Value y) = Decides-like _ (ap Value) (λ h. cc) (number-same x y)
held_same Stale Stale = (λ h. refl, λ h. refl)
held_same a b = (λ h. absurd (not-true h), λ h. absurd (cc))

-- ---- one more sample

labels_itself : (names : Names) → labels_eq names names ≡ true
labels_itself names = (labels_decide names names (labels_eq names names) refl).1 refl

labels_apart : (a b : Names) → (a ≡ b → ⊥) → labels_eq a b ≡ false
labels_apart a b ne = by (labels_eq a b) refl
  where
    by : (r : Bool) → labels_eq a b ≡ r → labels_eq a b ≡ false
    by false e = e
    by true e = absurd (ne ((labels_decide a b (labels_eq a b) refl).0 e))

found_put : (series : AllSeries) (names : Names) (more : Samples) → lookup (labels_eq names) (put_entry labels_eq series names more) ≡ Some more
found_put [] names more = rw (labels_itself names) refl
found_put (s ∷ series) names more = by (labels_eq names s.0) refl (found_put series names more)
  where
    by : (r : Bool) → labels_eq names s.0 ≡ r → lookup (labels_eq names) (put_entry labels_eq series names more) ≡ Some more
        → lookup (labels_eq names) (cond r ((s.0, more) ∷ series) (s ∷ put_entry labels_eq series names more)) ≡ Some more
    by true e rest = rw e refl
    by false e rest = rw e rest

found_beside : (series : AllSeries) (names other : Names) (more : Samples) → (names ≡ other → ⊥) → lookup (labels_eq other) (put_entry labels_eq series names more) ≡ lookup (labels_eq other) series
found_beside [] names other more ne = rw (labels_apart other names (λ e. ne (sym e))) refl
found_beside (s ∷ series) names other more ne = by (labels_eq names s.0) refl (found_beside series names other more ne)
  where
    by : (r : Bool) → labels_eq names s.0 ≡ r → lookup (labels_eq other) (put_entry labels_eq series names more) ≡ lookup (labels_eq other) series
        → lookup (labels_eq other) (cond r ((s.0, more) ∷ series) (s ∷ put_entry labels_eq series names more)) ≡ lookup (labels_eq other) (s ∷ series)
    by true e rest =
        let same : names ≡ s.0 = (labels_decide names s.0 (labels_eq names s.0) refl).0 e in
        rw (labels_apart other s.0 (λ is. ne (same ∙ sym is))) refl
    by false e rest = ap (cond (labels_eq other s.0) (Some s.1)) rest

-- its series gains it, and the others stay
pub samples_now : (series : AllSeries) (names : Names) (at : Ms) (held : Held) → samples_of (with_sample series names at held) names ≡ insert_entry time_cmp (samples_of series names) at held
samples_now series names at held = ap (λ (o : Option Samples). unwrap_or o []) (found_put series names (insert_entry time_cmp (samples_of series names) at held))

pub others_now : (series : AllSeries) (names other : Names) (at : Ms) (held : Held) → (names ≡ other → ⊥) → samples_of (with_sample series names at held) other ≡ samples_of series other
others_now series names other at held ne = ap (λ (o : Option Samples). unwrap_or o []) (found_beside series names other (insert_entry time_cmp (samples_of series names) at held) ne)
