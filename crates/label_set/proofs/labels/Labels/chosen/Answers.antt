use Rattle.std.proofs.Common.{◌≡◌, ◌<◌, ℕ, List, Bool, true, false, not, filter, length, get_or, sym, subst, ap, ◌∙◌, ◌++◌, ◌∷◌, [], rules, arith}
use mathlib.Core.Bool.{beq}
use Rattle.std.proofs.lemmas.Grind.{common_steps}
use Rattle.std.proofs.lemmas.Option.{get_or_from_slice_get, slice_get-get_or, slice_get_within}
use Rattle.label_set.specs.Labels.{IsLabelSet, is_chosen, is_named, with_metric}
use Rattle.label_set.specs.Entries.{filter_step_in, filter_step_out}
use Rattle.label_set.proofs.LabelLemmas.{IsLabelSet-filter}
use Rattle.label_set.proofs.Marks.{chosen-is}
use Rattle.label_set.proofs.labels.Labels.chosen.Goals as goal

is_not : (b r : Bool) → not b ≡ r → b ≡ not r
is_not true r e = ap not e
is_not false r e = ap not e

pub loop-place-preserved-then-marked-listed : goal.loop-place-preserved-then-marked-listed
loop-place-preserved-then-marked-listed c =
    let names = with_metric c.args.metric c.args.names.now in
    let ps = c.self.inside.pairs in
    let i = c.loop-place.place in
    let within : i < length ps = search rules in
    let pair = get_or ps i ([], []) in
    let at = slice_get-get_or ps i ([], []) within in
    let here = sym (get_or_from_slice_get ps i pair pair at) in
    let mark = c.marks_of-marks.ensures.at i pair at in
    let other = is_not (beq (get_or c.marks_of-marks.result i false) c.args.listed) true c.if-marked-listed.true in
    let out : is_chosen c.args.listed names pair.0 ≡ false = chosen-is c.args.listed (is_named names pair.0) false (rw mark at other) in
    c.loop-place.invariant ∙ sym (filter_step_out (λ (p : List ℕ × List ℕ). is_chosen c.args.listed names p.0) ps i pair within here out)

pub loop-place-preserved : goal.loop-place-preserved
loop-place-preserved c =
    let names = with_metric c.args.metric c.args.names.now in
    let ps = c.self.inside.pairs in
    let i = c.loop-place.place in
    let pair : List ℕ × List ℕ = (c.pair.result.0.now, c.pair.result.1.now) in
    let within = slice_get_within ps i pair c.pair.ensures in
    let here = sym (get_or_from_slice_get ps i pair pair c.pair.ensures) in
    let mark = c.marks_of-marks.ensures.at i pair c.pair.ensures in
    let same = is_not (beq (get_or c.marks_of-marks.result i false) c.args.listed) false c.if-marked-listed.false in
    let in_it : is_chosen c.args.listed names pair.0 ≡ true = chosen-is c.args.listed (is_named names pair.0) true (rw mark at same) in
    c.in_ok-push.ensures.ok
    ∙ ap (λ qs. qs ++ pair ∷ []) c.loop-place.invariant
    ∙ sym (filter_step_in (λ (p : List ℕ × List ℕ). is_chosen c.args.listed names p.0) ps i pair within here in_it)

pub invariant_of-result : goal.invariant_of-result
invariant_of-result c =
    let e : c.loop-place.pairs ≡ filter (λ p. is_chosen c.args.listed (with_metric c.args.metric c.args.names.now) p.0) c.self.inside.pairs = grind (arith, common_steps) in
    subst IsLabelSet (sym e) (IsLabelSet-filter (is_chosen c.args.listed (with_metric c.args.metric c.args.names.now)) _ c.self.invariant)
