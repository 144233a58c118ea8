use Rattle.std.proofs.Common.{length, map, subst, sym, take}
use Rattle.promql_meaning.specs.declared.answer.Outcome.{Outcome}
use Rattle.query_engine.specs.Engines.{AreSoundAndTell}
use Rattle.query_engine.specs.Evaluating.{ComesTo, IsRefused}
use Rattle.query_engine.proofs.Lost.{alone_calm, alone_faulted, alone_leaves, alone_never, calm_whole}
use Rattle.query_engine.proofs.Streamed.{ok_at, then_judged}
use Rattle.query_engine.proofs.evaluating.evaluate.Goals as goal

pub returns-then-is_empty-clause-outcome_alone : goal.returns-then-is_empty-clause-outcome_alone
returns-then-is_empty-clause-outcome_alone g c = λ none.
    then_judged c.or_memory.result c.or_memory.ensures.same
    (λ o was. ok_at (ComesTo c.args.text.now c.args.store.now c.args.grid.now c.args.instant c.args.options.now.closed) c.over_store.result o was c.over_store.ensures.outcome)

pub returns-then-is_empty-clause-idle : goal.returns-then-is_empty-clause-idle
returns-then-is_empty-clause-idle g c = λ none.
    then_judged c.or_memory.result c.or_memory.ensures.same (λ o was. ok_at (λ (x : Outcome). IsRefused x → _) c.over_store.result o was c.over_store.ensures.idle)

pub returns-then-is_empty-clause-kept : goal.returns-then-is_empty-clause-kept
returns-then-is_empty-clause-kept g c =
    alone_leaves c.args.declared.now (map (λ b. (goal.Engine-dyn g (b.vtable, b.value)).seen b.value) c.args.engines.now.items) c.or_memory.result c.or_memory.ensures.memory

pub returns-then-is_empty-clause-faulted : goal.returns-then-is_empty-clause-faulted
returns-then-is_empty-clause-faulted g c =
    alone_faulted c.args.declared.now (map (λ b. (goal.Engine-dyn g (b.vtable, b.value)).seen b.value) c.args.engines.now.items) c.or_memory.result c.or_memory.ensures.memory

pub returns-then-is_empty-clause-never : goal.returns-then-is_empty-clause-never
returns-then-is_empty-clause-never g c = λ good.
    alone_never c.args.declared.now (map (λ b. (goal.Engine-dyn g (b.vtable, b.value)).seen b.value) c.args.engines.now.items) c.or_memory.result c.or_memory.ensures.memory

pub returns-clause-never : goal.returns-clause-never
returns-clause-never g c = λ good.
    c.over_declared.ensures.never (subst (λ bs. AreSoundAndTell (take (length c.args.declared.now) (map (λ b. (goal.Engine-dyn g (b.vtable, b.value)).seen b.value) bs))) (sym c.as_mut_slice.ensures.value) good)

pub returns-then-is_empty-clause-calm : goal.returns-then-is_empty-clause-calm
returns-then-is_empty-clause-calm g c =
    alone_calm c.args.declared.now (map (λ b. (goal.Engine-dyn g (b.vtable, b.value)).seen b.value) c.args.engines.now.items) c.or_memory.result

pub returns-clause-calm : goal.returns-clause-calm
returns-clause-calm g c =
    calm_whole (λ b. (goal.Engine-dyn g (b.vtable, b.value)).seen b.value) _ c.args.engines.now.items c.as_mut_slice.result.now c.over_declared.new.engines _ c.over_declared.result c.args.declared.now c.over_declared.new.declared
    c.as_mut_slice.ensures.value c.as_mut_slice.ensures.len c.over_declared.ensures.kept c.over_declared.ensures.calm
