-- The instants that a tree is fed, one feed after another. (This project's own.)
use Rattle.std.specs.Prelude.{◌<ℤ◌, ℤ, List, [], ◌∷◌, Option, None, Some, ⊤}
use Rattle.plan_tree.specs.declared.turns.Fed.{Fed}
use Rattle.series_marks.specs.Reaches.{edge_at, moment_of}
use Rattle.series_marks.specs.Reads.{Reached}
use Rattle.ticks.specs.declared.moment.Ms.{Ms}
use Rattle.ticks.specs.declared.walk.WalkMoment.{WalkMoment}

-- an instant is behind those that were fed
abbrev pub IsBehind : Option Fed → ℤ → Type 0
IsBehind None t = ⊤
IsBehind (Some fed) t = fed.last.0 <ℤ t

-- what was fed together with one instant more
abbrev pub fed_next : Option Fed → Ms → Option Fed
fed_next None t = Some (record { first = t; last = t })
fed_next (Some fed) t = Some (record { first = fed.first; last = t })

-- and with more
abbrev pub fed_on : Option Fed → List Ms → Option Fed
fed_on fed [] = fed
fed_on fed (t ∷ at) = fed_on (fed_next fed t) at

-- instants that rise behind those that were fed
abbrev pub Goes : Option Fed → List Ms → Type 0
Goes fed [] = ⊤
Goes fed (t ∷ at) = IsBehind fed t.0 × Goes (fed_next fed t) at

-- what a tree was fed that is fed one instant alone, at the first feed
abbrev pub once : Ms → Option Fed → Option Fed
once first None = None
once first (Some fed) = Some (record { first = first; last = first })

-- where a kernel over the store has come to by what was fed: the last time before the window of the first instant, which reaches
-- back by a length, and the moment of the last one
abbrev pub reached_of : ℤ → WalkMoment → Option Fed → Reached
reached_of back moment None = None
reached_of back moment (Some fed) = Some (edge_at back moment fed.first, moment_of moment fed.last)

-- the last of the instants that were fed
abbrev pub last_of : Option Fed → Option Ms
last_of None = None
last_of (Some fed) = Some fed.last
