use Rattle.std.proofs.Common.{◌∙◌, ℕ, List, [], ◌++◌, ap, ap₂}
use Rattle.std.specs.Prelude.{◌+◌, ◌*◌, min}
use Rattle.plan_bases.specs.Looks.{leaves_look_behind}
use Rattle.plan_bases.specs.declared.leaves.Leaf.{Leaf}
use Rattle.sample_store.specs.Samples.{looked_at}
use Rattle.work_rows.proofs.Looked.{narrow_looks, two_chosen, wide_looks}
use Rattle.work_rows.proofs.Read.{merged}
use Rattle.work_rows.specs.Samples.{instant}
use Rattle.work_rows.specs.Tests.{beside, more_rules, wide_rules}
use Rattle.work_rows.proofs.laws.merged_selectors_test_three.Goals as goal

pub returns : goal.returns
returns c = λ kept narrow wide others op pairing none lone.
    ap (λ (leaves : List Leaf). leaves_look_behind kept (beside narrow wide others) [] leaves) (merged op pairing wide_rules more_rules instant)
    ∙ ap₂ (λ (m n : ℕ). 0 + m + (0 + (min (n * 1) (looked_at (wide_rules ++ more_rules) (beside narrow wide others)) + 0) + 0)) (wide_looks narrow wide others none) (two_chosen kept narrow wide others none)
    ∙ ap (λ (n : ℕ). 0 + 2 + (0 + (min 2 n + 0) + 0)) (narrow_looks narrow wide others none lone)
