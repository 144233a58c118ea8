use Rattle.std.proofs.Common.{◌≡◌, ◌++◌, length}
use Rattle.plain_eval.proofs.Newest.{ahead}
use Rattle.plain_eval.proofs.selecting.fresh_until.Given as goal

abbrev pub invariant-loop-time : goal.invariant-loop-time
invariant-loop-time g l = record {
  times : l.read.times ++ ahead (λ s. s.0) l.m.0 l.ahead.rest ≡ ahead (λ s. s.0) l.m.0 l.fn.cursor.rest;
  values : l.read.values ++ ahead (λ s. s.1) l.m.0 l.ahead.rest ≡ ahead (λ s. s.1) l.m.0 l.fn.cursor.rest;
}

abbrev pub decreases-loop-time : goal.decreases-loop-time
decreases-loop-time g l = length l.ahead.rest
