use Rattle.std.proofs.Common.{◌<◌, ◌/◌, ◌^◌, w64, sym, subst, refl, arith}
use Rattle.std.specs.Int.{IsGcd, trailing_zeros}
use Rattle.std.proofs.lemmas.Nat.Gcd.{IsGcd-from_zero, IsGcd-swap}
use Rattle.xfrac.proofs.Twos.{one_turn, odd_least, odd_left}
use Rattle.xfrac.proofs.divisors.odd_common_divisor.Goals as goal

pub loop-x-preserved : goal.loop-x-preserved
loop-x-preserved c =
    let small : c.loop-x.x < 2 ^ 64 = omega arith in
    record {
      odd = odd_least (c.loop-x.x / 2 ^ trailing_zeros w64 c.loop-x.x) c.loop-x.y _ c.min-y.ensures (odd_left c.loop-x.x (omega arith) small) c.loop-x.invariant.odd;
      same = one_turn c.args.a c.args.b c.loop-x.x c.loop-x.y _ _ c.loop-x-test.true small c.loop-x.invariant.odd c.abs_diff-x.ensures c.min-y.ensures c.loop-x.invariant.same;
    }

pub returns : goal.returns
returns c =
    c.loop-x.invariant.same c.loop-x.y (subst (λ z. IsGcd z c.loop-x.y c.loop-x.y) (sym c.loop-x-test.false) (IsGcd-swap c.loop-x.y 0 c.loop-x.y (IsGcd-from_zero c.loop-x.y 0 refl)))
