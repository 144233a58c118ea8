use Rattle.std.proofs.Common.{◌≡◌, ◌∙◌, Option, None, Some, refl, sym, subst}
use Rattle.std.specs.Prelude.{⊤}
use Rattle.exchange.specs.declared.fault.RunFault.{RunFault}
use Rattle.ticks.specs.declared.grid.Grid.{Grid}
use Rattle.plan_tree.specs.Chains.{HasBegun, MayBegin, MayGo}
use Rattle.plan_tree.proofs.Numbers.{map_length}
use Rattle.plan_tree.proofs.Opened.{has_begun, has_gone, may_begin}
use Rattle.plan_tree.proofs.Runs.{done_none, gone_fault}
use Rattle.plan_tree.proofs.tree.Tree.begin.Goals as goal

pub open-requires : goal.open-requires
open-requires g c =
    let r = c.requires.2 in
    (may_begin c.requires.0 c.args.patterns.now c.requires.1 _ c.in-Some.span c.args.self.now c.in-Some.is r.may).may

pub returns-in-None-clause-begun : goal.returns-in-None-clause-begun
returns-in-None-clause-begun g c store known ready = has_gone store c.args.patterns.now known _ c.args.self.now c.in-None.is ready.may

pub returns-in-None-clause-run : goal.returns-in-None-clause-run
returns-in-None-clause-run g c = (done_none _).gone

pub returns-in_err-open-in-Some-clause-run : goal.returns-in_err-open-in-Some-clause-run
returns-in_err-open-in-Some-clause-run g c =
    let e = c.open.ensures in
    gone_fault {S = ⊤} _ c.from_residual.result _ _ c.from_residual.ensures.1 (record { many = map_length (λ b. (goal.Engine-dyn g (b.vtable, b.value)).seen b.value) c.open.new.engines c.args.engines.now e.len; grown = e.grown; calm = tt; fault = c.in_err-open-in-Some.ensures.fault })

pub returns-in_ok-open-in-Some-clause-run : goal.returns-in_ok-open-in-Some-clause-run
returns-in_ok-open-in-Some-clause-run g c =
    let e = c.open.ensures in
    record { many = map_length (λ b. (goal.Engine-dyn g (b.vtable, b.value)).seen b.value) c.open.new.engines c.args.engines.now e.len; grown = e.grown; calm = e.calm; fault = tt }

pub returns-in_ok-open-in-Some-clause-begun : goal.returns-in_ok-open-in-Some-clause-begun
returns-in_ok-open-in-Some-clause-begun g c store known ready =
    let e = c.open.ensures in
    let many = map_length (λ b. (goal.Engine-dyn g (b.vtable, b.value)).seen b.value) c.open.new.engines c.args.engines.now e.len in
    let m = may_begin store c.args.patterns.now known _ c.in-Some.span c.args.self.now c.in-Some.is ready.may in
    let laws = c.steps_are_well_formed.ensures in
    has_begun c.walks_are_listed.ensures.no_other c.unions_are_sets.ensures.set laws.settled laws.taken store c.args.patterns.now known _ _ c.in-Some.span c.args.self.now _ e.owed.0 m e.owed.1 (c.in_ok-open-in-Some.ensures.stand e.owed.0 e.owed.1) c.in_ok-open-in-Some.ensures.gathers many e.grown refl refl refl
