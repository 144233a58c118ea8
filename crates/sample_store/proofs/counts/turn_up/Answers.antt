use Rattle.std.proofs.Common.{rules, ◌≡◌, ◌∙◌, Some, slice_get, length, refl}
use Rattle.std.proofs.lemmas.Option.{slice_get_read}
use Rattle.sample_store.proofs.Turns.{few_turned, length_set, up_turned}
use Rattle.sample_store.proofs.counts.turn_up.Goals as goal

pub loop-j-preserved : goal.loop-j-preserved
loop-j-preserved c =
    let xs = c.loop-j.kept.items in
    let i = c.loop-j.invariant in
    let there : slice_get xs c.loop-j.j ≡ Some c.index.result.now = slice_get_read xs (length xs) c.loop-j.j c.index.result.now refl (search rules) (search rules) in
    record {
      same = up_turned c.args.total xs c.args.kept.now.items c.args.edge c.loop-j.j c.index.result.now there i.few i.same;
      many = length_set xs c.loop-j.j _ ∙ i.many;
      few = few_turned c.args.total xs c.args.kept.now.items c.args.edge c.loop-j.j c.index.result.now there i.few;
    }
