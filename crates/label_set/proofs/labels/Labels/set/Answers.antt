use Rattle.std.proofs.Common.{◌≡◌, ◌∙◌, None, rules}
use Rattle.std.proofs.lemmas.Result.{on_ok_weaker}
use Rattle.label_set.specs.Labels.{value_at}
use Rattle.label_set.proofs.LabelLemmas.{with_pair_missing}
use Rattle.label_set.proofs.labels.Labels.set.Goals as goal

pub returns-in-Err-clause-ok : goal.returns-in-Err-clause-ok
returns-in-Err-clause-ok c =
    let missing : value_at c.args.self.now c.args.name.now ≡ None = search rules in
    let e = with_pair_missing c.args.self.now c.args.name.now c.args.value.now missing in
    on_ok_weaker c.put.result (λ h. h ∙ e) c.put.ensures.ok
