use Rattle.std.proofs.Common.{◌≡◌, ◌<◌, ◌*◌, ◌↔◌, ◌+◌, Bool, true, false, arith, sym, ◌∙◌, refl}
use Rattle.std.specs.Prelude.{unsigned_abs, not}
use Rattle.std.proofs.lemmas.Bool.Decides.{same_from_decides}
use mathlib.Core.Bool.{beq}
use Rattle.xfrac.specs.Near.{are_near}
use Rattle.xfrac.proofs.Nearness.{near_alike, far_apart, near_itself}
use Rattle.xfrac.proofs.closeness.near_fractions.Goals as goal

same_test : (x y : Bool) → not (beq x y) ≡ false → x ≡ y
same_test true true h = refl
same_test false false h = refl
same_test true false h = absurd (cc)
same_test false true h = absurd (cc)

other_test : (x y : Bool) → not (beq x y) ≡ true → x ≡ y → ⊥
other_test true true h e = absurd (cc)
other_test false false h e = absurd (cc)
other_test true false h e = absurd (cc)
other_test false true h e = absurd (cc)

same_from_iff : {P Q : Type 0} → (x y : Bool) → ((x ≡ true) ↔ P) → ((y ≡ true) ↔ Q) → (P → Q) → (Q → P) → x ≡ y
same_from_iff true true f g h k = refl
same_from_iff false false f g h k = refl
same_from_iff true false f g h k = sym (g.1 (h (f.0 refl)))
same_from_iff false true f g h k = f.1 (k (g.0 refl))

pub returns-then-is_same : goal.returns-then-is_same
returns-then-is_same c = sym (near_itself c.args.a.now c.args.b.now (c.is_same.ensures.same.0 c.if-is_same.true))

pub returns-then-is_negative : goal.returns-then-is_negative
returns-then-is_negative c =
    let some : 0 < unsigned_abs c.args.a.now.0 + unsigned_abs c.args.b.now.0 = omega (arith, c.magnitude-m.ensures.value, c.magnitude-n.ensures.value, c.else-m-eq0.either) in
    sym (far_apart c.args.a.now.0 c.args.b.now.0 c.args.a.now.1 c.args.b.now.1
    (omega (arith, c.denominator-d.ensures.value, c.denominator-d.ensures.positive))
    (omega (arith, c.denominator-e.ensures.value, c.denominator-e.ensures.positive))
    (λ h k. other_test _ _ c.if-is_negative.true (same_from_iff _ _ c.is_negative.ensures c.is_negative-2.ensures h k))
    some)

pub returns : goal.returns
returns c =
    let some : 0 < unsigned_abs c.args.a.now.0 + unsigned_abs c.args.b.now.0 = omega (arith, c.magnitude-m.ensures.value, c.magnitude-n.ensures.value, c.else-m-eq0.either) in
    let same : c.is_negative.result ≡ c.is_negative-2.result = same_test _ _ c.if-is_negative.false in
    let test : (are_near c.args.a.now c.args.b.now ≡ true) ↔ ((unsigned_abs c.args.a.now.0 * 999999 * c.args.b.now.1 < unsigned_abs c.args.b.now.0 * 1000001 * c.args.a.now.1) × (unsigned_abs c.args.b.now.0 * 999999 * c.args.a.now.1 < unsigned_abs c.args.a.now.0 * 1000001 * c.args.b.now.1)) =
    near_alike c.args.a.now.0 c.args.b.now.0 c.args.a.now.1 c.args.b.now.1
    (omega (arith, c.denominator-d.ensures.value, c.denominator-d.ensures.positive))
    (omega (arith, c.denominator-e.ensures.value, c.denominator-e.ensures.positive))
    (λ h. c.is_negative-2.ensures.0 (sym same ∙ c.is_negative.ensures.1 h))
    (λ h. c.is_negative.ensures.0 (same ∙ c.is_negative-2.ensures.1 h))
    some in
    same_from_decides _ _ (simp (c.magnitude-m.ensures.value, c.denominator-d.ensures.value, c.magnitude-n.ensures.value, c.denominator-e.ensures.value) at c.near_magnitudes.ensures) test
