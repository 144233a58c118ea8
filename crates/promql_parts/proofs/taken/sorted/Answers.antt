use Rattle.std.proofs.Common.{◌≡◌, ◌<◌, ℕ, ◌+◌, refl, ap, ◌∙◌, sym, Bool, true, false, cond, List, get_or, length, take}
use Rattle.std.proofs.lemmas.List.Folds.{list_any_more}
use Rattle.std.proofs.lemmas.Map.Text.{is_eq-slice_cmp}
use Rattle.std.specs.BTreeMap.{is_at}
use Rattle.std.specs.Cmp.Lexicographic.{slice_cmp}
use Rattle.std.specs.Ordering.{nat_cmp}
use Rattle.std.specs.Prelude.{◌||◌, bytes_eq}
use Rattle.promql_parts.specs.Labels.{is_among}
use Rattle.promql_parts.proofs.taken.sorted.Goals as goal

or_is : (x y : Bool) → cond y true x ≡ (x || y)
or_is true true = refl
or_is true false = refl
or_is false true = refl
or_is false false = refl

one_more : (labels : List (List ℕ)) (i : ℕ) (key q : List ℕ) (before : Bool) → i < length labels → key ≡ get_or labels i key → before ≡ is_among (take i labels) q
    → cond (is_at (slice_cmp nat_cmp key) q) true before ≡ is_among (take (i + 1) labels) q
one_more labels i key q before lt is same =
    ap (λ b. cond b true before) (is_eq-slice_cmp key q) ∙ ap (λ k. cond (bytes_eq k q) true before) is ∙ or_is before (bytes_eq (get_or labels i key) q)
    ∙ ap (λ b. b || bytes_eq (get_or labels i key) q) same ∙ sym (list_any_more (λ other. bytes_eq other q) labels i key lt)

pub loop-label-preserved : goal.loop-label-preserved
loop-label-preserved c q =
    let e = c.in_ok-copy.ensures in
    c.in_ok-insert.ensures.updates.0 q
    ∙ one_more c.args.labels.now c.loop-label.label-index _ q _ c.loop-label-test.true (e ∙ c.label-item.is ∙ ap (get_or c.args.labels.now c.loop-label.label-index) (sym e)) (c.loop-label.invariant q)
