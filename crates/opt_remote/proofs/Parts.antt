-- Engines are asked for selectors alone, and each time for all that are asked.
use Rattle.std.proofs.Common.{ℕ, List, [], ◌∷◌, refl}
use Rattle.holders.specs.Joins.{back_of, both_of, front_of}
use Rattle.logical_plan.specs.declared.nodes.PlanNode.TheOpen.{PlanNode-F}
use Rattle.logical_plan.specs.PlanRules.{selector_of}
use Rattle.opt_remote.specs.Laws.{AllAreAsked}
use Rattle.opt_remote.specs.Parts.{AreAskedOf, IsAskedOf, IsSelector, Part, all_parts, node_parts}
use Rattle.opt_remote.proofs.Follows.{Child, Follows, after_of, afters, before_of, befores, instant, ranged, timestamp}
use Rattle.opt_remote.proofs.Rebuilt.{every}

module _ (engines : List ℕ) where
  -- parts of all of these engines stay such parts
  abbrev Stay : List Part → List Part → Type 0
  Stay before after = AreAskedOf engines before → AreAskedOf engines after

  abbrev C : Type 0
  C = Child (List Part) Stay

  all_stay : (cs : List C) → Stay (all_parts (befores cs)) (all_parts (afters cs))
  all_stay [] asked = asked
  all_stay (c ∷ cs) asked =
      both_of (IsAskedOf engines) c.after (all_parts (afters cs)) (c.kept (front_of (IsAskedOf engines) c.before (all_parts (befores cs)) asked))
      (all_stay cs (back_of (IsAskedOf engines) c.before (all_parts (befores cs)) asked))

  levels : (y : PlanNode-F (List Part) C) → Stay (node_parts (before_of y)) (node_parts (after_of y))
  levels (PlanNode-F.Number value) = all_stay []
  levels PlanNode-F.Time = all_stay []
  levels (PlanNode-F.Select rules moment stamped) = all_stay []
  levels (PlanNode-F.Range rules moment range) = all_stay []
  levels (PlanNode-F.Subquery c range step moment) = all_stay (c ∷ [])
  levels (PlanNode-F.Element f c cs) = all_stay (c ∷ cs)
  levels (PlanNode-F.Stamp c) = all_stay (c ∷ [])
  levels (PlanNode-F.Window f c cs) = all_stay (c ∷ cs)
  levels (PlanNode-F.Absent labels c) = all_stay (c ∷ [])
  levels (PlanNode-F.Buckets c d) = all_stay (c ∷ d ∷ [])
  levels (PlanNode-F.Relabel rule c) = all_stay (c ∷ [])
  levels (PlanNode-F.Sort down c) = all_stay (c ∷ [])
  levels (PlanNode-F.ScalarOf c) = all_stay (c ∷ [])
  levels (PlanNode-F.VectorOf c) = all_stay (c ∷ [])
  levels (PlanNode-F.Group f grouping cs label) = all_stay cs
  levels (PlanNode-F.Pair op c d pairing) = all_stay (c ∷ d ∷ [])
  levels (PlanNode-F.Set op c d pairing) = all_stay (c ∷ d ∷ [])
  levels (PlanNode-F.Filter c rules) = all_stay (c ∷ [])
  levels (PlanNode-F.Ratio c d) = all_stay (c ∷ d ∷ [])
  levels (PlanNode-F.Once c) = all_stay (c ∷ [])
  levels (PlanNode-F.Gather expr kind numbers) = λ asked. asked

  parts_follow : Follows (List Part) (List Part) node_parts (λ p. p.node) Stay engines
  parts_follow = record {
    itself = λ parts asked. asked;
    joined = λ a b c f g asked. g (f asked);
    levels = λ at y. levels y;
    rows = λ at rules moment asked. (record { selector = IsSelector.rows (instant at rules moment) (selector_of rules moment) refl; all = refl }, tt);
    times = λ at within rules moment asked. (record { selector = IsSelector.times (timestamp at within rules moment) (instant within rules moment) (selector_of rules moment) refl refl; all = refl }, tt);
    windows = λ at rules moment range asked. (record { selector = IsSelector.windows (ranged at rules moment range) (selector_of rules moment) range refl; all = refl }, tt);
    onces = λ at within rules moment asked. tt;
  }

pub all_are_asked : AllAreAsked
all_are_asked engines kept p = every node_parts (λ p. p.node) (Stay engines) engines (parts_follow engines) kept p
