use Rattle.std.proofs.Common.{arith, None}
use Rattle.std.proofs.lemmas.Str.Pattern.{strip_prefix_char}
use Rattle.frac_text.proofs.Signs.{plain_text}
use Rattle.frac_text.proofs.time.split_sign.Goals as goal

pub returns-in-None-strip_prefix-clause-sign : goal.returns-in-None-strip_prefix-clause-sign
returns-in-None-strip_prefix-clause-sign c =
    (plain_text c.args.text.now (strip_prefix_char 45 c.args.text.now None c.in-None.ensures.cases (omega arith)) (strip_prefix_char 43 c.args.text.now None c.in-None-strip_prefix.ensures.cases (omega arith))).0

pub returns-in-None-strip_prefix-clause-amount : goal.returns-in-None-strip_prefix-clause-amount
returns-in-None-strip_prefix-clause-amount c =
    (plain_text c.args.text.now (strip_prefix_char 45 c.args.text.now None c.in-None.ensures.cases (omega arith)) (strip_prefix_char 43 c.args.text.now None c.in-None-strip_prefix.ensures.cases (omega arith))).1
