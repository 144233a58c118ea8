use Rattle.std.proofs.Common.{◌*◌, ap, ◌∙◌, sym}
use Rattle.std.specs.Ordering.{nat_cmp}
use Rattle.xfrac.proofs.Comparing.{same_scaled}
use Rattle.xfrac.proofs.ratio.order.Goals as goal

pub returns-then-b-d : goal.returns-then-b-d
returns-then-b-d c =
    c.cmp.ensures ∙ same_scaled c.args.a c.args.c c.args.d c.requires.right ∙ ap (λ z. nat_cmp (c.args.a * c.args.d) (c.args.c * z)) (sym c.if-b-d.true)
