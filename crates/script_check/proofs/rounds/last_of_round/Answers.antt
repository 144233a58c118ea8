use Rattle.std.proofs.Common.{◌≡◌, ◌+◌, ℕ, Option, arith, option_map, subst}
use Rattle.script_check.specs.Rounds.{AreMatched}
use Rattle.script_check.specs.Series.{LabelList}
use Rattle.script_check.proofs.Matches.{if_there}
use Rattle.script_check.proofs.rounds.last_of_round.Goals as goal

pub returns : goal.returns
returns c =
    let wanted = c.args.wanted.now in
    let got = c.args.got.now in
    let all : c.loop-k.k ≡ c.args.many = omega (arith, c.loop-k-test.false, c.loop-k.auto.k-end) in
    if_there (λ (o : Option LabelList). (done : ℕ) → AreMatched wanted got (option_map (λ b. b.now) c.args.last) done → AreMatched wanted got o (done + c.args.many)) c.loop-k.before
    (λ done a. subst (λ (k : ℕ). AreMatched wanted got (option_map (λ b. b.now) c.loop-k.before) (done + k)) all (c.loop-k.invariant done a))
