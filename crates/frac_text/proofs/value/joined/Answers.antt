use Rattle.std.proofs.Common.{arith, sym, ◌≡◌, None, ◌∙◌}
use Rattle.frac_text.proofs.Lowest.{joined_outside}
use Rattle.frac_text.proofs.value.joined.Goals as goal

pub returns-in_err-product : goal.returns-in_err-product
returns-in_err-product c =
    let gone : c.from_residual.result ≡ None = grind arith in
    gone ∙ sym (joined_outside c.args.whole c.args.rest.n c.args.rest.d (omega arith) c.requires.apart (omega (arith, c.in_err-product.ensures)))

pub returns-then-product-gt-LIMIT : goal.returns-then-product-gt-LIMIT
returns-then-product-gt-LIMIT c = sym (joined_outside c.args.whole c.args.rest.n c.args.rest.d (omega arith) c.requires.apart (omega (arith, c.in_ok-product.ensures)))
