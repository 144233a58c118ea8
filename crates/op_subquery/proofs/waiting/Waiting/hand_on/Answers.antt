use Rattle.std.proofs.Common.{◌≡◌, ◌∙◌, ◌++◌, List, map, sym, ap, subst}
use Rattle.step_batch.specs.Lent.{Lent}
use Rattle.step_table.specs.Groups.{Names}
use Rattle.op_subquery.specs.Kept.{KeptStep, due, kept_of, later}
use Rattle.op_subquery.specs.Rings.{AreHeld}
use Rattle.op_subquery.proofs.waiting.Waiting.hand_on.Goals as goal

pub returns : goal.returns
returns c = λ held coming are.
    let m = c.args.moment.0 in
    let inside = c.self.inside in
    let same : c.labels.result.now ≡ inside.labels.labels = c.labels.ensures.labels ∙ ap (λ (l : Lent). l.labels) c.lend-labels.ensures in
    let seen : map (kept_of c.labels.result.now) inside.steps.items ≡ c.args.self.now = ap (λ (l : List Names). map (kept_of l) inside.steps.items) same ∙ c.self.view_is in
    subst (λ (l : List Names). AreHeld c.hand_each.new.windows.rows c.hand_each.new.raised (map (kept_of l) c.hand_each.new.steps.items) (held ++ due m coming) (later m coming)) same
    (c.in_ok-hand_each.ensures.held held coming (subst (λ (ks : List KeptStep). AreHeld c.args.windows.now.rows c.args.raised.now ks held coming) (sym seen) are))
