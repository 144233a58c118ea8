use Rattle.std.proofs.Common.{◌≡◌, ◌∙◌, sym, ap, subst}
use Rattle.step_batch.specs.LentWindows.{AreWindows, WindowsAt}
use Rattle.op_subquery.specs.Rings.{IsNoEarlier, Kernel, WasFed, span_at}
use Rattle.op_subquery.specs.declared.span.Span.{Span}
use Rattle.op_subquery.proofs.Fed.{goes_on, lends, went_by}
use Rattle.op_subquery.proofs.points.Points.advance.Goals as goal

pub hand_on-requires : goal.hand_on-requires
hand_on-requires c =
    let k = c.self.inside in
    let old : Kernel = record { range = k.range; step = k.step; moment = k.moment; last = k.last; reached = k.reached; waiting = k.waiting; windows = k.windows; raised = k.raised } in
    let seen : old ≡ c.args.self.now = c.self.view_is in
    let fed : WasFed old c.requires.fed.0 = subst (λ (z : Kernel). WasFed z c.requires.fed.0) (sym seen) c.requires.fed.1 in
    (fed.held, fed.coming, fed.are_held)

pub returns-clause-fed : goal.returns-clause-fed
returns-clause-fed c = λ steps fed.
    let k = c.self.inside in
    let at = c.args.at in
    let span : Span = c.of-span.result in
    let old : Kernel = record { range = k.range; step = k.step; moment = k.moment; last = k.last; reached = k.reached; waiting = k.waiting; windows = k.windows; raised = k.raised } in
    let seen : old ≡ c.args.self.now = c.self.view_is in
    let is : span ≡ span_at k.moment k.range at = c.of-span.ensures in
    let on : IsNoEarlier old.reached span = subst (IsNoEarlier k.reached) (sym is) (subst (λ (z : Kernel). IsNoEarlier z.reached (span_at z.moment z.range at)) (sym seen) c.requires.on) in
    let are : AreWindows c.hand_on.new.windows.rows = subst (λ (w : WindowsAt). AreWindows w.rows) c.lend.ensures c.len.ensures.lent in
    goes_on old _ span at
    (went_by old span at c.hand_on.new.self c.hand_on.new.windows c.forget.new.self c.renew.new.self c.unite.new.self c.hand_on.new.raised c.forget-2.new.self c.in_ok-marks.marks
    c.in_ok-hand_on.ensures are c.forget.ensures c.forget-2.ensures c.renew.ensures c.in_ok-marks.ensures c.in_ok-unite.ensures.ok)
    on steps (subst (λ (z : Kernel). WasFed z steps) (sym seen) fed)

pub returns-clause-lent : goal.returns-clause-lent
returns-clause-lent c = λ steps fed.
    let k = c.self.inside in
    let at = c.args.at in
    let span : Span = c.of-span.result in
    let old : Kernel = record { range = k.range; step = k.step; moment = k.moment; last = k.last; reached = k.reached; waiting = k.waiting; windows = k.windows; raised = k.raised } in
    let seen : old ≡ c.args.self.now = c.self.view_is in
    let is : span ≡ span_at k.moment k.range at = c.of-span.ensures in
    let on : IsNoEarlier old.reached span = subst (IsNoEarlier k.reached) (sym is) (subst (λ (z : Kernel). IsNoEarlier z.reached (span_at z.moment z.range at)) (sym seen) c.requires.on) in
    let are : AreWindows c.hand_on.new.windows.rows = subst (λ (w : WindowsAt). AreWindows w.rows) c.lend.ensures c.len.ensures.lent in
    lends old _ span at
    (went_by old span at c.hand_on.new.self c.hand_on.new.windows c.forget.new.self c.renew.new.self c.unite.new.self c.hand_on.new.raised c.forget-2.new.self c.in_ok-marks.marks
    c.in_ok-hand_on.ensures are c.forget.ensures c.forget-2.ensures c.renew.ensures c.in_ok-marks.ensures c.in_ok-unite.ensures.ok)
    on steps (subst (λ (z : Kernel). WasFed z steps) (sym seen) fed) c.args.self.now.moment c.args.self.now.range (is ∙ ap (λ (z : Kernel). span_at z.moment z.range at) seen)
