use Rattle.std.proofs.Common.{◌≡◌, ◌≢◌, ◌≤◌, [], length, sym, subst, arith}
use Rattle.std.proofs.lemmas.Grind.{common_steps}
use Rattle.std.specs.BTreeMap.{insert_entry}
use Rattle.label_set.specs.Labels.{IsLabelSet, byte_cmp}
use Rattle.label_set.proofs.LabelLemmas.{IsLabelSet-insert}
use Rattle.label_set.proofs.labels.Labels.put.Goals as goal

pub invariant_of-self-2 : goal.invariant_of-self-2
invariant_of-self-2 c =
    let e : c.insert.new.self ≡ insert_entry byte_cmp c.self.inside.pairs c.args.name.now c.args.value.now = grind (arith, common_steps) in
    let filled : c.args.value.now ≢ [] = grind (arith, common_steps) in
    let few : length c.insert.new.self ≤ 64 = grind (arith, common_steps) in
    subst IsLabelSet (sym e) (IsLabelSet-insert _ _ _ c.self.invariant filled (subst (λ ps. length ps ≤ 64) e few))
