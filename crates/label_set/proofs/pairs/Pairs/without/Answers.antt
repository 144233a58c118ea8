use Rattle.std.proofs.Common.{◌+◌, ◌++◌, ◌≤◌, length, ap, ◌∙◌, rules}
use Rattle.std.specs.Prelude.{slice_range}
use Rattle.label_set.proofs.PairSteps.{without_part}
use Rattle.label_set.proofs.pairs.Pairs.without.Goals as goal

pub returns : goal.returns
returns c =
    let ps = c.args.self.now in
    let end : length ps ≤ c.len-end.result = search rules in
    let behind = slice_range ps (c.args.i + 1) c.len-end.result in
    c.in_ok-extend-2.ensures
    ∙ ap (λ qs. qs ++ behind) (c.in_ok-extend.ensures ∙ ap (λ qs. qs ++ slice_range ps 0 c.args.i) c.new-pairs.ensures)
    ∙ without_part ps c.args.i c.len-end.result end
