use Rattle.std.proofs.Common.{◌≡◌, ◌∙◌, ◌+◌, ◌-◌, ◌++◌, ◌∷◌, [], suc, drop, length, sym, ap, subst, arith, length-append}
use Rattle.op_running.proofs.Tails.{drop_at, tails_more}
use Rattle.op_running.proofs.running.push_tails.Goals as goal

pub loop-i-preserved : goal.loop-i-preserved
loop-i-preserved g c =
    let values = c.args.values.now in
    let was = c.loop-i.tails.items in
    let i = c.loop-i.i - 1 in
    let now = c.push.new.self.items in
    let v = c.index-values-i.result in
    let inv = c.loop-i.invariant in
    let up : suc i ≡ c.loop-i.i = let h = c.loop-i-test.true in omega arith in
    let more : now ≡ was ++ c.joined-tail.result ∷ [] = c.in_ok-push.ensures.items in
    let many : length now ≡ length was + 1 = ap length more ∙ length-append was (c.joined-tail.result ∷ []) in
    let at : drop i values ≡ v ∷ drop c.loop-i.i values = drop_at i values v (let h = inv.many in omega arith) c.index-values-i.is ∙ ap (λ k. v ∷ drop k values) up in
    let tail = subst (g.S.Summary.is_of c.joined-tail.result) (sym at) (c.joined-tail.ensures (v ∷ []) (drop c.loop-i.i values) (c.more.ensures [] c.none.ensures) inv.tail) in
    record {
      many = let h = inv.many in omega arith;
      tail = tail;
      tails = tails_more g.S.Summary.is_of was now c.joined-tail.result values i more (let h = inv.many in omega arith) tail inv.tails;
    }
