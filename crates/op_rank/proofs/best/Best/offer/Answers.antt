use Rattle.std.proofs.Common.{◌≡◌, ◌∙◌, ◌≤◌, ◌-◌, ◌++◌, ◌∷◌, [], List, Some, length, slice_get, sym, subst}
use Rattle.op_rank.specs.Best.{HoldsBest}
use Rattle.op_rank.specs.Contenders.{before}
use Rattle.op_rank.specs.declared.best.Contender.{Contender}
use Rattle.op_rank.proofs.BestKept.{keeps_one_more, left_out_keeps, more_keeps}
use Rattle.op_rank.proofs.Firsts.{before_is_weak}
use Rattle.op_rank.proofs.best.Best.offer.Goals as goal

pub returns-then-is_behind : goal.returns-then-is_behind
returns-then-is_behind c = λ all keeps.
    let order = c.order_is_total.ensures in
    let w = c.args.wanted in
    let weak = before_is_weak order.equal order.reversed order.transitive w.down in
    let same = c.as_slice.ensures.value in
    left_out_keeps (before w.down) weak w.count all c.args.self.now.kept.items c.args.one
    (subst (λ (xs : List Contender). w.count ≤ length xs) same (c.is_behind.ensures.many c.if-is_behind.true))
    (λ last e. c.is_behind.ensures.behind last c.if-is_behind.true (subst (λ (xs : List Contender). slice_get xs (w.count - 1) ≡ Some last) (sym same) e)) keeps

pub returns-then-not-is_time : goal.returns-then-not-is_time
returns-then-not-is_time c = λ all keeps.
    let order = c.order_is_total.ensures in
    let w = c.args.wanted in
    let weak = before_is_weak order.equal order.reversed order.transitive w.down in
    more_keeps (before w.down) weak w.count all c.args.self.now.kept.items c.push.new.self.items c.args.one c.in_ok-push.ensures.items
    (λ e. let time = c.is_time.ensures.first (c.len.ensures ∙ c.push.new.self.ok.0 ∙ e) in absurd (cc)) keeps

pub returns : goal.returns
returns c = λ all keeps.
    let order = c.order_is_total.ensures in
    let w = c.args.wanted in
    let weak = before_is_weak order.equal order.reversed order.transitive w.down in
    let more = keeps_one_more (before w.down) weak w.count all c.args.self.now.kept.items c.args.one keeps.0 in
    c.cut.ensures.keeps (all ++ c.args.one ∷ []) (subst (HoldsBest (before w.down) w.count (all ++ c.args.one ∷ [])) (sym c.in_ok-push.ensures.items) more)
