use Rattle.std.proofs.Common.{◌≡◌, ◌∙◌, rules}
use Rattle.std.specs.Ordering.{int_cmp}
use Rattle.xfrac.proofs.Comparing.{wholes_by_numerators}
use Rattle.xfrac.proofs.order.cmp_wholes.Goals as goal

pub returns : goal.returns
returns c =
    let e : c.cmp.result ≡ int_cmp c.args.a.now.0 c.args.b.now.0 = search rules in
    e ∙ wholes_by_numerators c.args.a.now c.args.b.now c.requires.left c.requires.right
