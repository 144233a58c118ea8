use Rattle.std.proofs.Common.{ap, refl, subst, sym}
use Rattle.plan_tree.specs.declared.node.Node.TheVariants as node
use Rattle.remote_api.specs.Strays.{AsksInTimes}
use Rattle.ticks.specs.declared.walk.Walk.{Walk}
use Rattle.gather_tree_tests.proofs.Askables.{in_times}
use Rattle.gather_tree_tests.proofs.Requests.{both_rise, fitting_more, many_more}
use Rattle.gather_tree_tests.proofs.gathers.gather.Goals as goal

pub add-requires-clause-times : goal.add-requires-clause-times
add-requires-clause-times c =
    subst (λ (w : Walk). AsksInTimes (record { walk = w; kind = c.in_ok-part.part.kind; moment = _; range = _ })) (sym c.in_ok-copy.ensures)
    (in_times c.args.walk.now c.in_ok-part.part.kind c.in_ok-part.part.expr _ _ c.requires.nearby c.in_ok-part.ensures)

pub add-requires-clause-rising : goal.add-requires-clause-rising
add-requires-clause-rising c = both_rise _ c.in_ok-numbers.ensures

pub returns-clause-leaf : goal.returns-clause-leaf
returns-clause-leaf c = ap node.Gather c.in_ok-place.ensures.place

pub returns-clause-more : goal.returns-clause-more
returns-clause-more c = many_more c.args.exchange.now c.add.new.self _ c.in_ok-place.ensures.added

pub returns-clause-fitting : goal.returns-clause-fitting
returns-clause-fitting c = fitting_more c.args.walk.now c.args.exchange.now c.add.new.self _ c.in_ok-place.ensures.added c.requires.fitting
    (record { askable = c.in_ok-part.ensures; walk_is = c.in_ok-copy.ensures; engines_are = c.in_ok-numbers.ensures })
