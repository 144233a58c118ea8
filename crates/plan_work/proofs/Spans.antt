-- A longer span costs no less.
use Rattle.std.proofs.Common.{◌≡◌, ◌∙◌, ℕ, ◌+◌, ◌≤◌, Bool, true, false, [], ◌∷◌, length, refl, sym, ap, arith}
use Rattle.std.specs.Prelude.{ℤ, ◌<ℤ◌, ◌≤ℤ◌, ◌&&◌, int_lt, int_le, if◌then◌else◌}
use Rattle.std.specs.Ordering.{int_eq}
use Rattle.std.proofs.lemmas.Int.{ints}
use Rattle.promql_meaning.specs.Selecting.{Samples}
use Rattle.series_marks.specs.Reads.{has_at, in_span, span_bound}
use Rattle.plan_work.specs.PlanLaws.{SpansRise}

module _ (first last from to : ℤ) (early : from ≤ℤ first) (late : last ≤ℤ to) where
  -- a sample in the one span is in the other
  inside : (x : ℤ) → (int_lt first x && int_le x last) ≡ true → (int_lt from x && int_le x to) ≡ true
  inside x h = grind (arith, ints, h, early, late)

  pub no_fewer : (samples : Samples) → length (in_span first last samples) ≤ length (in_span from to samples)
  no_fewer [] = omega arith
  no_fewer (x ∷ samples) = by (int_lt first x.0.0 && int_le x.0.0 last) (int_lt from x.0.0 && int_le x.0.0 to) refl refl (no_fewer samples)
    where
      by : (b c : Bool) → (int_lt first x.0.0 && int_le x.0.0 last) ≡ b → (int_lt from x.0.0 && int_le x.0.0 to) ≡ c → length (in_span first last samples) ≤ length (in_span from to samples)
          → length (in_span first last (x ∷ samples)) ≤ length (in_span from to (x ∷ samples))
      by true true p q h = rw (p, q) (omega arith)
      by true false p q h = absurd (clash (sym q ∙ inside x.0.0 p))
        where
          clash : false ≡ true → ⊥
          clash e = cc
      by false true p q h = rw (p, q) (omega arith)
      by false false p q h = rw (p, q) h

  -- one that stands at the later end is in the longer span alone
  pub one_more : (samples : Samples) → last <ℤ to → from <ℤ to → has_at to samples ≡ true → length (in_span first last samples) + 1 ≤ length (in_span from to samples)
  one_more [] l f h = absurd (cc)
  one_more (x ∷ samples) l f h = at_end (λ rest. one_more samples l f rest) (int_eq x.0.0 to) refl
    where
      outside : int_eq x.0.0 to ≡ true → (int_lt first x.0.0 && int_le x.0.0 last) ≡ false
      outside e = grind (arith, ints, e, l)

      within : int_eq x.0.0 to ≡ true → (int_lt from x.0.0 && int_le x.0.0 to) ≡ true
      within e = grind (arith, ints, e, f)

      by : (b c : Bool) → (int_lt first x.0.0 && int_le x.0.0 last) ≡ b → (int_lt from x.0.0 && int_le x.0.0 to) ≡ c → length (in_span first last samples) + 1 ≤ length (in_span from to samples)
          → length (in_span first last (x ∷ samples)) + 1 ≤ length (in_span from to (x ∷ samples))
      by true true p q k = rw (p, q) (omega arith)
      by true false p q k = absurd (clash (sym q ∙ inside x.0.0 p))
        where
          clash : false ≡ true → ⊥
          clash e = cc
      by false true p q k = rw (p, q) (omega arith)
      by false false p q k = rw (p, q) k

      at_end : (has_at to samples ≡ true → length (in_span first last samples) + 1 ≤ length (in_span from to samples)) → (b : Bool) → int_eq x.0.0 to ≡ b → length (in_span first last (x ∷ samples)) + 1 ≤ length (in_span from to (x ∷ samples))
      at_end behind true e = let o = outside e in let w = within e in let n = no_fewer samples in rw (o, w) (omega arith)
      at_end behind false e =
          let rest : has_at to samples ≡ true = rw e at h in
          by (int_lt first x.0.0 && int_le x.0.0 last) (int_lt from x.0.0 && int_le x.0.0 to) refl refl (behind rest)

pub spans_rise : SpansRise
spans_rise first last from to samples early late forward = by (int_lt last to) refl
  where
    same_end : int_lt last to ≡ false → last ≡ to
    same_end e = grind (arith, ints, e, late)

    few : (n m : ℕ) (a b : Bool) → n ≤ m → a ≡ b → n + (if a then 0 else 1) ≤ m + (if b then 0 else 1)
    few n m true true h e = omega arith
    few n m false false h e = omega arith
    few n m true false h e = absurd (cc)
    few n m false true h e = absurd (cc)

    longer : (n m : ℕ) (a b : Bool) → n ≤ m → (b ≡ true → n + 1 ≤ m) → n + (if a then 0 else 1) ≤ m + (if b then 0 else 1)
    longer n m true true h k = omega arith
    longer n m true false h k = omega arith
    longer n m false true h k = let l = k refl in omega arith
    longer n m false false h k = omega arith

    fewer : length (in_span first last samples) ≤ length (in_span from to samples)
    fewer = no_fewer first last from to early late samples

    by : (b : Bool) → int_lt last to ≡ b → span_bound first last samples ≤ span_bound from to samples
    by true e =
        let later : last <ℤ to = grind (arith, ints, e) in
        longer (length (in_span first last samples)) (length (in_span from to samples)) (has_at last samples) (has_at to samples) fewer (λ h. one_more first last from to early late samples later forward h)
    by false e = few (length (in_span first last samples)) (length (in_span from to samples)) (has_at last samples) (has_at to samples) fewer (ap (λ (m : ℤ). has_at m samples) (same_end e))
