use Rattle.std.proofs.Common.{◌∙◌, ap, sym, arith, length, ◌-◌, Option}
use Rattle.std.specs.Prelude.{pos}
use Rattle.plan_tree.specs.declared.turns.Fed.{Fed}
use Rattle.plan_tree.specs.Feeds.{fed_on}
use Rattle.plan_tree.proofs.Going.{fed_none, fed_some}
use Rattle.plan_tree.proofs.turns.fed_with.Goals as goal

pub returns-in-None : goal.returns-in-None
returns-in-None c =
    sym (ap (λ (o : Option Fed). fed_on o c.args.at.now) c.in-None.is
    ∙ fed_none c.args.at.now (length c.args.at.now - 1) (record { 0 = pos 0 }) (let h = c.requires in omega arith))

pub returns-in-Some : goal.returns-in-Some
returns-in-Some c =
    sym (ap (λ (o : Option Fed). fed_on o c.args.at.now) c.in-Some.is
    ∙ fed_some c.in-Some.fed c.args.at.now (length c.args.at.now - 1) (record { 0 = pos 0 }) (let h = c.requires in omega arith))
