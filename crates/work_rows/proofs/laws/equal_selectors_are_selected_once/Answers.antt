use Rattle.std.proofs.Common.{◌∙◌, ℕ, List, [], ap}
use Rattle.std.specs.Prelude.{◌+◌}
use Rattle.plan_bases.specs.Looks.{leaves_look_behind}
use Rattle.plan_bases.specs.declared.leaves.Leaf.{Leaf}
use Rattle.work_rows.proofs.Looked.{wide_looks}
use Rattle.work_rows.proofs.Read.{twice}
use Rattle.work_rows.specs.Samples.{instant}
use Rattle.work_rows.specs.Tests.{beside, wide_rules}
use Rattle.work_rows.proofs.laws.equal_selectors_are_selected_once.Goals as goal

pub returns : goal.returns
returns c = λ kept narrow wide others op pairing none.
    ap (λ (leaves : List Leaf). leaves_look_behind kept (beside narrow wide others) [] leaves) (twice op pairing wide_rules instant)
    ∙ ap (λ (n : ℕ). 0 + n + 0) (wide_looks narrow wide others none)
