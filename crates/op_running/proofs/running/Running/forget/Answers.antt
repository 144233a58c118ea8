use Rattle.std.proofs.Common.{◌≡◌, ◌∙◌, ◌-◌, ℕ, length, take, ap, arith, rules}
use Rattle.op_running.proofs.Tails.{keeps_left}
use Rattle.op_running.proofs.running.Running.forget.Goals as goal

pub returns-then-gone-front : goal.returns-then-gone-front
returns-then-gone-front g c = λ xs n k.
    let kept = c.args.self.now in
    let front : c.len-front.result ≡ length kept.tails.items = search rules in
    keeps_left g.S.Summary.is_of kept.tails.items c.truncate.new.self.items kept.behind kept.counted c.args.gone xs (omega arith)
    (c.truncate.ensures.items ∙ ap (λ (m : ℕ). take (m - c.args.gone) kept.tails.items) front) k
