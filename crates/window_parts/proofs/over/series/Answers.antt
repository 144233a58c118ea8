use Rattle.std.proofs.Common.{Option, arith, false, subst}
use Rattle.std.specs.Prelude.{IsSomeAnd}
use Rattle.std.proofs.lemmas.Result.{err_from_is_err_and}
use Rattle.plan_bases.specs.LeafLaws.{leaf_holds}
use Rattle.plan_bases.specs.Leaves.{IsLeafOf}
use Rattle.plan_parts.specs.Requested.{asked_with}
use Rattle.promql_meaning.specs.Selecting.{Asked, asked_over}
use Rattle.window_parts.specs.Over.{IsArgument, IsArgumentBuilt, IsRangeOf, IsSelectorWithin}
use Rattle.window_parts.specs.declared.selectors.RangeSelector.{RangeSelector}
use Rattle.window_parts.proofs.Handed.{handed_on, none_and}
use Rattle.window_parts.proofs.Made.{ok_at, some_at}
use Rattle.window_parts.proofs.over.series.Goals as goal

pub returns-clause-part : goal.returns-clause-part
returns-clause-part c = λ kept engines before now p arguments right e argued.
    let asked = asked_with c.args.bases.now.samples kept c.args.span.now engines in
    let walk = c.args.course.now.walk in
    let windows = c.args.windows.now in
    let given = ok_at (IsArgument asked walk before now arguments) c.args.argument c.in_ok-argument.argument c.in_ok-argument.was argued in
    let range = some_at (λ (s : RangeSelector). (asked : Asked) → IsRangeOf asked windows s) _ c.in-Some.selector c.in-Some.is c.in_ok-selector.ensures.range asked in
    c.over_selector.ensures.part kept engines before now p windows arguments right e range (c.in_ok-scalar.ensures.part asked walk before now arguments given)

pub returns-in_err-argument-clause-total : goal.returns-in_err-argument-clause-total
returns-in_err-argument-clause-total c = λ kept n given kinds few near plan none holds takes built.
    let p = err_from_is_err_and c.from_residual.result c.from_residual.ensures.1 in
    handed_on false _ _ _ p.1 p.2 (subst (IsArgumentBuilt kinds) c.in_err-argument.was built)

pub returns-in_err-scalar-clause-total : goal.returns-in_err-scalar-clause-total
returns-in_err-scalar-clause-total c = λ kept n given kinds few near plan none holds takes built.
    let p = err_from_is_err_and c.from_residual-in_err-scalar.result c.from_residual-in_err-scalar.ensures.1 in
    handed_on false _ _ _ p.1 p.2 (c.in_err-scalar.ensures.total given kinds takes (subst (IsArgumentBuilt kinds) c.in_ok-argument.was built))

pub returns-in_default-clause-total : goal.returns-in_default-clause-total
returns-in_default-clause-total c = λ kept n given kinds few near plan none holds takes built.
    absurd (none_and (IsSelectorWithin kept) c.in_ok-selector.field-0 c.in_default.not-Some (c.in_ok-selector.ensures.total kept plan none))

pub returns-clause-total : goal.returns-clause-total
returns-clause-total c = λ kept n given kinds few near plan none holds takes built.
    let within : IsSelectorWithin kept c.in-Some.selector = subst (λ (o : Option RangeSelector). IsSomeAnd o (IsSelectorWithin kept)) c.in-Some.is (c.in_ok-selector.ensures.total kept plan none) in
    let leaf : IsLeafOf c.args.windows.now c.in-Some.selector.rules = some_at (λ (s : RangeSelector). IsLeafOf c.args.windows.now s.rules) _ c.in-Some.selector c.in-Some.is c.in_ok-selector.ensures.leaf in
    c.over_selector.ensures.total kept n few near within (leaf_holds kept c.args.bases.now.lists c.args.windows.now c.in-Some.selector.rules leaf holds within.rules)
