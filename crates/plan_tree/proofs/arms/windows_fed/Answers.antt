use Rattle.std.proofs.Common.{◌∙◌, [], ◌∷◌, Option, sym, subst}
use Rattle.op_labels.specs.Rules.{Relabelling}
use Rattle.step_batch.specs.LentWindows.{WindowsAt}
use Rattle.plan_tree.specs.Feeding.{IsLending}
use Rattle.plan_tree.specs.Nodes.{AreGiven, CanPass, lent_by, rules_in, windows_at}
use Rattle.plan_tree.proofs.Leaves.{on_ok}
use Rattle.plan_tree.proofs.Runs.{fault_memory}
use Rattle.plan_tree.proofs.Windowed.{given_pass, lent_none, lent_some}
use Rattle.plan_tree.proofs.arms.windows_fed.Goals as goal

-- ---- without a filter

pub given_fed-requires-clause-given : goal.given_fed-requires-clause-given
given_fed-requires-clause-given g c = subst (λ (w : WindowsAt). AreGiven c.args.kernel.now w) (sym c.windows_from.ensures) c.requires.given

pub given_fed-requires-clause-lends : goal.given_fed-requires-clause-lends
given_fed-requires-clause-lends g c = subst (λ (w : WindowsAt). IsLending (g.O.Outside.places c.args.outside.now) (w.at ∷ []) c.args.scalar.now) (sym c.windows_from.ensures) c.requires.lends

pub returns-in-None-clause-lent : goal.returns-in-None-clause-lent
returns-in-None-clause-lent g c =
    let P = g.O.Outside.places c.args.outside.now in
    let k = c.args.kernel.now in
    on_ok c.given_fed.result c.given_fed.ensures.lent (λ e f h.
    lent_none k.f k.moment k.range c.args.patterns.now c.args.passed.now c.in-None.is (windows_at P c.args.place) c.windows_from.result c.windows_from.ensures f (lent_by P c.args.scalar.now) c.given_fed.new.kernel.buffer (e f) h)

-- ---- with one

pub windows_passed-requires-clause-can : goal.windows_passed-requires-clause-can
windows_passed-requires-clause-can g c = subst (λ (o : Option Relabelling). CanPass c.args.patterns.now o) c.in-Some.is c.requires.pass

pub returns-in_err-windows_passed-in-Some-clause-memory : goal.returns-in_err-windows_passed-in-Some-clause-memory
returns-in_err-windows_passed-in-Some-clause-memory g c = fault_memory c.from_residual.result _ c.from_residual.ensures.1 c.in_err-windows_passed-in-Some.ensures.memory

pub given_fed-requires-in-Some-clause-given : goal.given_fed-requires-in-Some-clause-given
given_fed-requires-in-Some-clause-given g c =
    let P = g.O.Outside.places c.args.outside.now in
    subst (λ (w : WindowsAt). AreGiven c.args.kernel.now w) (sym (c.lend_windows.ensures ∙ c.in_ok-windows_passed-in-Some.ensures.windows))
    (given_pass c.args.kernel.now c.args.patterns.now (rules_in c.in-Some.filter.rule) (windows_at P c.args.place) c.requires.given)

pub given_fed-requires-in-Some-clause-lends : goal.given_fed-requires-in-Some-clause-lends
given_fed-requires-in-Some-clause-lends g c =
    subst (λ (w : WindowsAt). IsLending (g.O.Outside.places c.args.outside.now) (w.at ∷ []) c.args.scalar.now) (sym (c.lend_windows.ensures ∙ c.in_ok-windows_passed-in-Some.ensures.windows)) c.requires.lends

pub returns-in_ok-windows_passed-in-Some-clause-lent : goal.returns-in_ok-windows_passed-in-Some-clause-lent
returns-in_ok-windows_passed-in-Some-clause-lent g c =
    let P = g.O.Outside.places c.args.outside.now in
    let k = c.args.kernel.now in
    on_ok c.given_fed-in-Some.result c.given_fed-in-Some.ensures.lent (λ e f h.
    lent_some k.f k.moment k.range c.args.patterns.now c.args.passed.now c.in-Some.filter c.in-Some.is (windows_at P c.args.place) c.lend_windows.result (c.lend_windows.ensures ∙ c.in_ok-windows_passed-in-Some.ensures.windows)
    f (lent_by P c.args.scalar.now) c.given_fed-in-Some.new.kernel.buffer (e f) h)
