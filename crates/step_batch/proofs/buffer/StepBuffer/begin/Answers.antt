use Rattle.std.proofs.Common.{sym, subst}
use Rattle.step_batch.specs.Lent.{IsLater, Lent}
use Rattle.step_batch.proofs.Lasts.{free_begun, later_begun, lent_begun, none_begun}
use Rattle.step_batch.proofs.buffer.StepBuffer.begin.Goals as goal

pub invariant_of-self-2 : goal.invariant_of-self-2
invariant_of-self-2 c =
    lent_begun c.self.inside.labels.keys c.self.inside.steps c.begin.new.self c.args.at c.self.invariant
    (subst (λ (l : Lent). IsLater l c.args.at) (sym c.self.view_is) c.requires) c.in_ok-begin.ensures.ok

pub returns-clause-free : goal.returns-clause-free
returns-clause-free c = free_begun c.self.inside.labels.keys c.self.inside.steps c.begin.new.self c.args.at c.in_ok-begin.ensures.ok

pub returns-clause-later : goal.returns-clause-later
returns-clause-later c = λ u h. later_begun c.self.inside.steps c.begin.new.self c.args.at u c.in_ok-begin.ensures.ok h

pub returns-clause-none : goal.returns-clause-none
returns-clause-none c = λ q. none_begun c.self.inside.steps c.begin.new.self c.args.at c.in_ok-begin.ensures.ok q
