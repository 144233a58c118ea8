use Rattle.std.proofs.Common.{rules, ◌≡◌, ◌∙◌, ◌-◌, ◌+◌, Some, slice_get, length, refl, arith}
use Rattle.std.proofs.lemmas.Option.{slice_get_read}
use Rattle.sample_store.proofs.Turns.{few_turned, length_set, down_turned}
use Rattle.sample_store.proofs.counts.turn_down.Goals as goal

pub loop-j-preserved : goal.loop-j-preserved
loop-j-preserved c =
    let xs = c.loop-j.kept.items in
    let i = c.loop-j.invariant in
    let j = c.loop-j.j - 1 in
    let next : c.loop-j.j ≡ c.loop-j.j - 1 + 1 = omega arith in
    let there : slice_get xs j ≡ Some c.index.result.now = slice_get_read xs (length xs) j c.index.result.now refl (search rules) (search rules) in
    record {
      ahead = omega arith;
      far = omega arith;
      same = down_turned c.args.total xs c.args.kept.now.items c.args.edge j c.index.result.now there i.few c.loop-j.j next i.same;
      many = length_set xs j _ ∙ i.many;
      few = few_turned c.args.total xs c.args.kept.now.items c.args.edge j c.index.result.now there i.few;
    }
