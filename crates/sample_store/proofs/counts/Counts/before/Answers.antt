use Rattle.std.proofs.Common.{rules, ◌≡◌, ◌∙◌, ◌∷◌, ◌-◌, ◌<◌, ◌≤◌, Some, slice_get, length, refl, ap, sym, arith}
use Rattle.std.proofs.lemmas.Option.{slice_get_read}
use Rattle.sample_store.specs.Counts.{Counted}
use Rattle.sample_store.proofs.Turns.{few_at, get_back, get_front, get_next, kept_within}
use Rattle.sample_store.proofs.counts.Counts.before.Goals as goal

pub returns-then-k-self : goal.returns-then-k-self
returns-then-k-self c =
    let xs = c.self.inside.kept.items in
    let k = c.args.k in
    let some : 0 < k = omega arith in
    let there : slice_get xs (k - 1) ≡ Some c.index-kept.result.now = slice_get_read xs (length xs) (k - 1) c.index-kept.result.now refl (search rules) (search rules) in
    ap (λ (z : Counted). slice_get (0 ∷ z.starts) k) (sym c.self.view_is)
    ∙ get_next 0 _ k _ some (get_front c.self.inside.edge c.self.inside.total xs (k - 1) c.index-kept.result.now there (omega arith))

pub overflow_sub-result : goal.overflow_sub-result
overflow_sub-result c =
    let xs = c.self.inside.kept.items in
    let k = c.args.k in
    let some : 0 < k = omega arith in
    let many : k ≤ length xs = kept_within c.self.inside.edge c.self.inside.total xs c.args.self.now c.self.view_is k c.requires in
    let there : slice_get xs (k - 1) ≡ Some c.index-kept.result.now = slice_get_read xs (length xs) (k - 1) c.index-kept.result.now refl (omega arith) (search rules) in
    few_at c.self.inside.total xs (k - 1) c.index-kept.result.now c.self.invariant.few there

pub returns : goal.returns
returns c =
    let xs = c.self.inside.kept.items in
    let k = c.args.k in
    let some : 0 < k = omega arith in
    let many : k ≤ length xs = kept_within c.self.inside.edge c.self.inside.total xs c.args.self.now c.self.view_is k c.requires in
    let there : slice_get xs (k - 1) ≡ Some c.index-kept.result.now = slice_get_read xs (length xs) (k - 1) c.index-kept.result.now refl (omega arith) (search rules) in
    ap (λ (z : Counted). slice_get (0 ∷ z.starts) k) (sym c.self.view_is)
    ∙ get_next 0 _ k _ some (get_back c.self.inside.edge c.self.inside.total xs (k - 1) c.index-kept.result.now there (omega arith))
