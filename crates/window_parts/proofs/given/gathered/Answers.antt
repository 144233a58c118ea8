use Rattle.std.proofs.Common.{Option, false, subst}
use Rattle.std.specs.Prelude.{IsSomeAnd}
use Rattle.std.proofs.lemmas.Result.{err_from_is_err_and}
use Rattle.plan_parts.specs.Requested.{asked_with}
use Rattle.window_parts.specs.Engines.{IsGatherUnder, IsGatheringWithin}
use Rattle.window_parts.specs.Over.{IsArgument, IsArgumentBuilt}
use Rattle.window_parts.specs.declared.asked.Gathering.{Gathering}
use Rattle.window_parts.proofs.Handed.{handed_on, none_and}
use Rattle.window_parts.proofs.Made.{ok_at, some_at}
use Rattle.window_parts.proofs.given.gathered.Goals as goal

pub returns-clause-part : goal.returns-clause-part
returns-clause-part c = λ samples engines before p arguments e argued.
    let between = c.args.exchange.now.requests in
    let asked = asked_with samples c.args.patterns.now c.args.span.now engines in
    let walk = c.args.course.now.walk in
    let windows = c.args.windows.now in
    let given = ok_at (IsArgument asked walk before between arguments) c.args.argument c.in_ok-argument.argument c.in_ok-argument.was argued in
    let under = some_at (λ (g : Gathering). IsGatherUnder g.part g.asked g.rules windows) _ c.in-Some.gathering c.in-Some.is c.in_ok-gathering.ensures.gather in
    c.over_gather.ensures.part samples engines before p windows arguments e under (c.in_ok-scalar.ensures.part asked walk before between arguments given)

pub returns-in_err-argument-clause-total : goal.returns-in_err-argument-clause-total
returns-in_err-argument-clause-total c = λ n given kinds few near plan there takes built.
    let p = err_from_is_err_and c.from_residual.result c.from_residual.ensures.1 in
    handed_on false _ _ _ p.1 p.2 (subst (IsArgumentBuilt kinds) c.in_err-argument.was built)

pub returns-in_err-scalar-clause-total : goal.returns-in_err-scalar-clause-total
returns-in_err-scalar-clause-total c = λ n given kinds few near plan there takes built.
    let p = err_from_is_err_and c.from_residual-in_err-scalar.result c.from_residual-in_err-scalar.ensures.1 in
    handed_on false _ _ _ p.1 p.2 (c.in_err-scalar.ensures.total given kinds takes (subst (IsArgumentBuilt kinds) c.in_ok-argument.was built))

pub returns-in_default-clause-total : goal.returns-in_default-clause-total
returns-in_default-clause-total c = λ n given kinds few near plan there takes built.
    let kept = c.args.patterns.now in
    absurd (none_and (IsGatheringWithin kept) c.in_ok-gathering.field-0 c.in_default.not-Some (c.in_ok-gathering.ensures.total kept plan there))

pub returns-clause-total : goal.returns-clause-total
returns-clause-total c = λ n given kinds few near plan there takes built.
    let kept = c.args.patterns.now in
    let within : IsGatheringWithin kept c.in-Some.gathering = subst (λ (o : Option Gathering). IsSomeAnd o (IsGatheringWithin kept)) c.in-Some.is (c.in_ok-gathering.ensures.total kept plan there) in
    c.over_gather.ensures.total n few near within
