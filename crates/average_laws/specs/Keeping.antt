-- Rewrites after which each ratio of a plan is an average. (This project's own.)
use Rattle.logical_plan.specs.declared.nodes.Plan.{Plan}
use Rattle.average_laws.specs.Ratios.{HasAverages}

-- where each ratio of a plan is an average, each of what becomes of it is one
abbrev pub KeepsAverages : (Plan → Plan) → Type 0
KeepsAverages rewrite = (p : Plan) → HasAverages p → HasAverages (rewrite p)
