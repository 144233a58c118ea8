use Rattle.std.proofs.Common.{◌<◌, ◌*◌, ◌↔◌, ◌≡◌, ◌/◌, ◌%◌, arith, ap, refl}
use Rattle.std.proofs.lemmas.Bool.{false≢true}
use Rattle.std.proofs.Math.Nat.{mul-lt-mul_of_pos_left}
use Rattle.std.proofs.lemmas.Bool.Decides.{nat_tests}
use Rattle.xfrac.proofs.Ratios.{less_by_whole_parts, less_by_rests}
use Rattle.xfrac.proofs.ratio.+is_less_by_parts.Goals as goal

pub returns-then-left-right : goal.returns-then-left-right
returns-then-left-right t c =
    let up : c.args.a / c.args.b < c.args.c / c.args.d → c.args.a * c.args.d < c.args.c * c.args.b = less_by_whole_parts _ _ _ _ c.requires.left c.requires.right in
    let down : c.args.c / c.args.d < c.args.a / c.args.b → c.args.c * c.args.b < c.args.a * c.args.d = less_by_whole_parts _ _ _ _ c.requires.right c.requires.left in
    (grind (arith, nat_tests, up), grind (arith, nat_tests, down))

pub returns-then-right_rest-eq0 : goal.returns-then-right_rest-eq0
returns-then-right_rest-eq0 t c =
    let h : (c.args.a * c.args.d < c.args.c * c.args.b) ↔ (c.args.d * (c.args.a % c.args.b) < c.args.b * (c.args.c % c.args.d)) = less_by_rests _ _ _ _ c.if-left-right.false in
    let nothing : c.args.b * (c.args.c % c.args.d) ≡ c.args.b * 0 = ap (λ s. c.args.b * s) c.if-right_rest-eq0.true in
    (λ e. absurd (false≢true e), λ l. absurd (omega (arith, h.0 l, nothing)))

pub returns-then-left_rest-eq0 : goal.returns-then-left_rest-eq0
returns-then-left_rest-eq0 t c =
    let h : (c.args.a * c.args.d < c.args.c * c.args.b) ↔ (c.args.d * (c.args.a % c.args.b) < c.args.b * (c.args.c % c.args.d)) = less_by_rests _ _ _ _ c.if-left-right.false in
    let nothing : c.args.d * (c.args.a % c.args.b) ≡ c.args.d * 0 = ap (λ s. c.args.d * s) c.if-left_rest-eq0.true in
    let rest : 0 < c.args.c % c.args.d = omega arith in
    let positive : c.args.b * 0 < c.args.b * (c.args.c % c.args.d) = mul-lt-mul_of_pos_left rest c.requires.left in
    (λ e. h.1 (omega arith), λ l. refl)

pub returns : goal.returns
returns t c =
    let h : (c.args.a * c.args.d < c.args.c * c.args.b) ↔ (c.args.d * (c.args.a % c.args.b) < c.args.b * (c.args.c % c.args.d)) = less_by_rests _ _ _ _ c.if-left-right.false in
    (λ e. h.1 (c.is_less_by_parts.ensures.0 e), λ l. c.is_less_by_parts.ensures.1 (h.0 l))
