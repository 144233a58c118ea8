use Rattle.std.proofs.Common.{rules, ◌≡◌, inl, refl, subst, sym}
use denote.Param.Object.{read_made}
use denote.Param.Table.{Table}
use mir.Syntax.{Dict}
use Rattle.promql_tool.specs.Boxes.{IsFresh}
use Rattle.remote_api.specs.Seen.{EngineSeen}
use Rattle.remote_api.specs.declared.engine.Engine.{Ghosts}
use Rattle.program_tests.specs.contracts.gathered.add.{dyn-1-ghosts}
use Rattle.program_tests.proofs.gathered.run_counted.OwnLists.{own-1, lawful-own-1}
use Rattle.program_tests.proofs.gathered.run_counted.Goals as goal

-- what is seen of a box is what is seen of the engine that was put into it
pub add-requires-clause-one : goal.add-requires-clause-one
add-requires-clause-one g c =
    let T : Table (λ X. Ghosts X) Dict = (dyn-1-ghosts (own-1, lawful-own-1)).0 in
    subst IsFresh (sym (read_made {G = λ X. Ghosts X} {C = Dict} T (T.entry (inl tt)) (inl tt) refl EngineSeen (λ j v. j.1.seen v) _ _ _ c.into_dyn_box.ensures.1))
    (record { faults = refl; strays = refl; undeclared = search rules; empty = search rules })
