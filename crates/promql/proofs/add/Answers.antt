use Rattle.std.proofs.Common.{◌≡◌, ◌++◌, List, [], ◌∷◌, map, subst, sym}
use Rattle.promql_tool.specs.Boxes.{AreFresh}
use Rattle.promql.proofs.Boxes.{fresh_more}
use Rattle.promql.proofs.add.Goals as goal

pub returns-clause-fresh : goal.returns-clause-fresh
returns-clause-fresh g c =
    subst (λ (bs : List _). AreFresh (map (λ b. (goal.Engine-dyn g (b.vtable, b.value)).seen b.value) bs)) (sym c.in_ok-push.ensures.items)
    (fresh_more (λ b. (goal.Engine-dyn g (b.vtable, b.value)).seen b.value) c.args.engines.now.items c.args.one c.requires.before c.requires.one)
