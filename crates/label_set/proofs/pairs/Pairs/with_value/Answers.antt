use Rattle.std.proofs.Common.{◌+◌, ◌++◌, ◌≤◌, ◌∷◌, [], ℕ, List, length, ap, sym, ◌∙◌, rules}
use Rattle.std.specs.Prelude.{slice_range, slice_set}
use Rattle.std.proofs.lemmas.Option.{same_Some}
use Rattle.label_set.proofs.PairSteps.{changed_part}
use Rattle.label_set.proofs.pairs.Pairs.with_value.Goals as goal

pub returns : goal.returns
returns c = λ p at.
    let ps = c.args.self.now in
    let value = c.args.value.now in
    let end : length ps ≤ c.len-end.result = search rules in
    let behind = slice_range ps (c.args.i + 1) c.len-end.result in
    let here = same_Some _ p (sym c.pair.ensures ∙ at) in
    c.in_ok-extend-2.ensures
    ∙ ap (λ qs. qs ++ behind) (c.in_ok-push.ensures.ok ∙ ap (λ qs. qs ++ (c.pair.result.0.now, value) ∷ []) (c.in_ok-extend.ensures ∙ ap (λ qs. qs ++ slice_range ps 0 c.args.i) c.new-pairs.ensures))
    ∙ changed_part ps c.args.i c.len-end.result (c.pair.result.0.now, value) c.requires end
    ∙ ap (λ (q : List ℕ × List ℕ). slice_set ps c.args.i (q.0, value)) here
