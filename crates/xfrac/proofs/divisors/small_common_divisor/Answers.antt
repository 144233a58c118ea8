use Rattle.std.proofs.Common.{◌<◌, ◌^◌, w64, arith}
use Rattle.std.specs.Int.{trailing_zeros}
use Rattle.std.proofs.lemmas.Nat.Gcd.{IsGcd-swap}
use Rattle.xfrac.proofs.Twos.{twos_divide, odd_left, shared_twos}
use Rattle.xfrac.proofs.divisors.small_common_divisor.Goals as goal

pub odd_common_divisor-requires : goal.odd_common_divisor-requires
odd_common_divisor-requires c =
    let a_small : c.args.a < 2 ^ 64 = omega arith in
    let b_small : c.args.b < 2 ^ 64 = omega arith in
    odd_left c.args.a (omega arith) a_small

pub odd_common_divisor-requires-else-twos-other_twos : goal.odd_common_divisor-requires-else-twos-other_twos
odd_common_divisor-requires-else-twos-other_twos c =
    let a_small : c.args.a < 2 ^ 64 = omega arith in
    let b_small : c.args.b < 2 ^ 64 = omega arith in
    odd_left c.args.b c.requires b_small

pub returns-then-twos-other_twos : goal.returns-then-twos-other_twos
returns-then-twos-other_twos c =
    let a_small : c.args.a < 2 ^ 64 = omega arith in
    let b_small : c.args.b < 2 ^ 64 = omega arith in
    IsGcd-swap c.args.b c.args.a _
    (shared_twos c.args.a c.args.b (trailing_zeros w64 c.args.a) _ (omega arith) a_small (twos_divide c.args.a (trailing_zeros w64 c.args.a) (omega arith) a_small (omega arith))
    (twos_divide c.args.b (trailing_zeros w64 c.args.a) c.requires b_small c.if-twos-other_twos.true) c.odd_common_divisor.ensures)

pub returns-else-twos-other_twos : goal.returns-else-twos-other_twos
returns-else-twos-other_twos c =
    let a_small : c.args.a < 2 ^ 64 = omega arith in
    let b_small : c.args.b < 2 ^ 64 = omega arith in
    shared_twos c.args.b c.args.a (trailing_zeros w64 c.args.b) _ c.requires b_small (twos_divide c.args.b (trailing_zeros w64 c.args.b) c.requires b_small (omega arith))
    (twos_divide c.args.a (trailing_zeros w64 c.args.b) (omega arith) a_small (omega (arith, c.if-twos-other_twos.false))) c.odd_common_divisor-else-twos-other_twos.ensures
