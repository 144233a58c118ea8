use Rattle.std.proofs.Common.{◌∙◌, ℕ, List, [], ◌++◌, ap, ap₂}
use Rattle.std.specs.Prelude.{◌+◌}
use Rattle.plan_bases.specs.Looks.{leaves_look_behind}
use Rattle.plan_bases.specs.declared.leaves.Leaf.{Leaf}
use Rattle.work_rows.proofs.Looked.{narrow_looks, wide_looks}
use Rattle.work_rows.proofs.Read.{written}
use Rattle.work_rows.specs.Samples.{instant}
use Rattle.work_rows.specs.Tests.{beside, more_rules, wide_rules}
use Rattle.work_rows.proofs.laws.written_selectors_test_three.Goals as goal

pub returns : goal.returns
returns c = λ kept narrow wide others op pairing none lone.
    ap (λ (leaves : List Leaf). leaves_look_behind kept (beside narrow wide others) [] leaves) (written op pairing (wide_rules ++ more_rules) wide_rules instant)
    ∙ ap₂ (λ (m n : ℕ). 0 + m + n + 0) (narrow_looks narrow wide others none lone) (wide_looks narrow wide others none)
