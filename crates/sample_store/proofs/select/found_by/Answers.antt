use Rattle.std.proofs.Common.{rules, ◌≡◌, Some, List, ℕ, map, subst, sym}
use Rattle.std.specs.Prelude.{IfOk}
use Rattle.sample_store.specs.Samples.{IsListed, Names}
use Rattle.sample_store.proofs.Listed.{shortest_listed}
use Rattle.sample_store.proofs.Selects.{named}
use Rattle.sample_store.proofs.Suffices.{suffices}
use Rattle.sample_store.proofs.select.found_by.Goals as goal

pub passing_in-requires-clause-listed : goal.passing_in-requires-clause-listed
passing_in-requires-clause-listed g c =
    let is : c.in_ok-list.field-0 ≡ Some c.in-Some.list = search rules in
    shortest_listed c.args.rules.now c.args.series.now.entries c.in_ok-list.field-0 c.in-Some.list is c.in_ok-list.ensures

pub returns-in-Some-clause-found : goal.returns-in-Some-clause-found
returns-in-Some-clause-found g c =
    let series = c.args.series.now.entries in
    let list = c.in-Some.list in
    let is : c.in_ok-list.field-0 ≡ Some list = search rules in
    let listed : IsListed c.args.rules.now series list.rule list.numbers.now = shortest_listed c.args.rules.now series c.in_ok-list.field-0 list is c.in_ok-list.ensures in
    subst (λ (z : List (Names × ℕ)). IfOk c.passing_in.result (λ v. map named v.items ≡ z)) (sym (suffices c.args.patterns.now c.args.rules.now series list.rule list.numbers.now listed)) c.passing_in.ensures.found
