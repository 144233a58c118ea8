use Rattle.std.proofs.Common.{rules, ℤ, pos, ◌≡◌, ◌-ℤ◌, arith, subst, sym}
use Rattle.std.proofs.lemmas.Int.{ints}
use Rattle.ticks.specs.Steps.{HasNoStep, IsMultiple, IsReach, IsStepAfter}
use Rattle.ticks.specs.Edges.{before-near, from-later, later-from}
use Rattle.ticks.specs.Walks.{IsFirstInWindow}
use Rattle.ticks.proofs.Walks.{at-edge}
use Rattle.ticks.proofs.walk.multiple_after.Goals as goal

less-none : (z : ℤ) → z -ℤ pos 0 ≡ z
less-none z = omega (arith, ints)

pub step_after-requires-clause-low : goal.step_after-requires-clause-low
step_after-requires-clause-low c =
    let t = c.requires.times in
    let near = before-near c.args.closed (c.args.moment -ℤ c.args.range.0) in
    let last = at-edge c.args.closed _ _ (c.args.moment -ℤ c.args.range.0) c.last_before-before.ensures.last (omega (arith, ints, t.begins.low, t.begins.high, t.ends.low, t.ends.high)) in
    let l : IsReach c.later_of.result =
    let second = c.later_of.ensures.second in
    let within = c.later_of.ensures.within (c.args.moment) (omega (arith, ints)) (omega (arith, ints, last, near, c.requires.range)) in
    record { low = omega (arith, ints, second, last, near, t.begins.low, t.ends.high, t.begins.high, t.ends.low); high = omega (arith, ints, within, t.ends.high) } in
    search (rules, l)

pub returns-in-None-clause-none : goal.returns-in-None-clause-none
returns-in-None-clause-none c = record {
  none = λ u w later.
      let n : HasNoStep (pos 0) c.args.step.0 c.later_of.result c.args.moment = search rules in
      let t = c.requires.times in
      let from = from-later c.args.closed (c.args.moment -ℤ c.args.range.0) u w.from_edge in
      let near = before-near c.args.closed (c.args.moment -ℤ c.args.range.0) in
      let last = at-edge c.args.closed _ _ (c.args.moment -ℤ c.args.range.0) c.last_before-before.ensures.last (omega (arith, ints, t.begins.low, t.begins.high, t.ends.low, t.ends.high)) in
      let below = c.later_of.ensures.below u (omega (arith, ints, later)) (omega (arith, ints, from, last, near, t.begins.low, t.begins.high, t.ends.low, t.ends.high)) in
      n.none u (subst (IsMultiple c.args.step.0) (sym (less-none u)) w.on_step) below w.to_moment;
}

pub returns-in-Some-clause-found : goal.returns-in-Some-clause-found
returns-in-Some-clause-found c =
    let t = c.requires.times in
    let near = before-near c.args.closed (c.args.moment -ℤ c.args.range.0) in
    let last = at-edge c.args.closed _ _ (c.args.moment -ℤ c.args.range.0) c.last_before-before.ensures.last (omega (arith, ints, t.begins.low, t.begins.high, t.ends.low, t.ends.high)) in
    let s : IsStepAfter (pos 0) c.args.step.0 c.later_of.result c.in-Some.at = search rules in
    let second = c.later_of.ensures.second in
    let first = c.later_of.ensures.first in
    let found : IsFirstInWindow c.args.closed c.args.moment c.args.range.0 c.args.step.0 c.args.t.0 c.in-Some.at = record {
      in_window = record {
        from_edge = later-from c.args.closed (c.args.moment -ℤ c.args.range.0) c.in-Some.at (omega (arith, ints, second, last, near, s.above, t.begins.low, t.begins.high, t.ends.low, t.ends.high));
        to_moment = omega (arith, ints, c.in-Some.ensures.within);
        on_step = subst (IsMultiple c.args.step.0) (less-none c.in-Some.at) s.on_step;
      };
      later = omega (arith, ints, first, s.above);
      least = λ u m later edge.
          let from = from-later c.args.closed (c.args.moment -ℤ c.args.range.0) u edge in
          s.least u (subst (IsMultiple c.args.step.0) (sym (less-none u)) m)
          (c.later_of.ensures.below u (omega (arith, ints, later)) (omega (arith, ints, from, last, near, t.begins.low, t.begins.high, t.ends.low, t.ends.high)));
    } in
    search (rules, found)
