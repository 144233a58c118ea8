use Rattle.std.proofs.Common.{rules, ◌≡◌, ◌∙◌, sym, true}
use Rattle.std.specs.Prelude.{◌==◌}
use Rattle.sample_store.proofs.Taken.{taken_off}
use Rattle.sample_store.proofs.postings.take_off.Goals as goal

pub returns : goal.returns
returns c =
    let ends : (c.in-Some.last.now == c.args.place) ≡ true = search rules in
    taken_off c.args.place c.in-Some.last.now c.args.list.now c.in-Some.field-0-1.now c.pop.new.self c.pop.result (sym c.as_slice.ensures ∙ c.in-Some.ensures.cases.0) ends c.pop.ensures
