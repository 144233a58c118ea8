use Rattle.frac_text.proofs.Ends.{ends_exact}
use Rattle.frac_text.proofs.write.ends.Goals as goal

pub returns : goal.returns
returns c =
    ends_exact c.args.r c.args.d _ _ c.requires.positive c.requires.within c.requires.lowest c.without_twos.ensures c.without_fives.ensures
