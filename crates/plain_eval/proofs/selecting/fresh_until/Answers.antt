use Rattle.std.proofs.Common.{◌≡◌, false, refl, ap, arith, rules}
use Rattle.std.specs.Prelude.{◌<ℤ◌, int_lt}
use Rattle.std.proofs.lemmas.Int.{ints}
use Rattle.plain_eval.proofs.Newest.{front_until, read_more, stops, closes}
use Rattle.plain_eval.proofs.selecting.fresh_until.Goals as goal

pub loop-time-preserved : goal.loop-time-preserved
loop-time-preserved g c =
    let within : int_lt c.args.m.0 c.in-Some.time.0 ≡ false = grind (arith, ints) in
    record {
      times = read_more (λ s. s.0) c.args.m.0 (c.in-Some.time, c.in-Some.held) c.loop-time.ahead.rest c.next.new.self.rest _ _ _ c.in-Some.ensures.sample within c.in_ok-add_sample.ensures.times c.loop-time.invariant.times;
      values = read_more (λ s. s.1) c.args.m.0 (c.in-Some.time, c.in-Some.held) c.loop-time.ahead.rest c.next.new.self.rest _ _ _ c.in-Some.ensures.sample within c.in_ok-add_sample.ensures.values c.loop-time.invariant.values;
    }

pub returns-then-time-m : goal.returns-then-time-m
returns-then-time-m g c =
    let later : c.args.m.0 <ℤ c.in-Some.time.0 = search rules in
    let none = stops c.args.m.0 c.in-Some.time.0 _ _ _ c.in-Some.ensures.sample refl later in
    record {
      times = closes (λ s. s.0) c.args.m.0 _ c.loop-time.ahead.rest c.args.cursor.rest none c.loop-time.invariant.times c.requires;
      values = closes (λ s. s.1) c.args.m.0 _ c.loop-time.ahead.rest c.args.cursor.rest none c.loop-time.invariant.values c.requires;
    }

pub returns : goal.returns
returns g c =
    let none = ap (front_until c.args.m.0) c.in_default.ensures.sample.0 in
    record {
      times = closes (λ s. s.0) c.args.m.0 _ c.loop-time.ahead.rest c.args.cursor.rest none c.loop-time.invariant.times c.requires;
      values = closes (λ s. s.1) c.args.m.0 _ c.loop-time.ahead.rest c.args.cursor.rest none c.loop-time.invariant.values c.requires;
    }
