use Rattle.std.proofs.Common.{◌≡◌, ◌∙◌, Bool, false, rules, subst, sym, true}
use Rattle.std.specs.Prelude.{IsTrue}
use Rattle.op_window.specs.Rules.{takes_scalar}
use Rattle.window_parts.specs.Over.{IsArgument, IsOfKinds}
use Rattle.window_parts.proofs.Made.{none_argued, ok_then, read, unread}
use Rattle.window_parts.proofs.Taking.{none_taken, one_taken}
use Rattle.window_parts.proofs.scalars.scalar_for.Goals as goal

pub returns-else-takes_scalar-clause-part : goal.returns-else-takes_scalar-clause-part
returns-else-takes_scalar-clause-part c = ok_then c.number.result c.number.ensures.part (λ part number asked walk before now arguments i.
    let none : takes_scalar c.args.f ≡ false = search rules in
    let same = none_argued asked walk before now arguments (subst (IsArgument asked walk before now arguments) c.in-None.is i) in
    unread c.nodes_add_up.ensures.none asked walk before now c.args.f arguments part c.whole.result none number same)

pub returns-else-not-part-clause-part : goal.returns-else-not-part-clause-part
returns-else-not-part-clause-part c = λ asked walk before now arguments i.
    let one : IsTrue c.in-Some.part.scalar = search rules in
    read asked walk before now c.args.f arguments c.in-Some.part one (subst (IsArgument asked walk before now arguments) c.in-Some.is i)

not_both : (b : Bool) → b ≡ true → b ≡ false → ⊥
not_both b h k = let none : true ≡ false = sym h ∙ k in absurd (cc)

pub returns-then-takes_scalar-clause-total : goal.returns-then-takes_scalar-clause-total
returns-then-takes_scalar-clause-total c = λ given kinds takes of.
    let some : takes_scalar c.args.f ≡ true = search rules in
    absurd (not_both (takes_scalar c.args.f) some (none_taken c.args.f given kinds takes (subst (IsOfKinds kinds) c.in-None.is of)))

pub returns-then-not-takes_scalar-clause-total : goal.returns-then-not-takes_scalar-clause-total
returns-then-not-takes_scalar-clause-total c = λ given kinds takes of.
    let none : takes_scalar c.args.f ≡ false = search rules in
    let taken = one_taken c.args.f given kinds c.in-Some.part takes (subst (IsOfKinds kinds) c.in-Some.is of) in
    absurd (not_both (takes_scalar c.args.f) taken.0 none)

pub returns-then-not-part-clause-total : goal.returns-then-not-part-clause-total
returns-then-not-part-clause-total c = λ given kinds takes of.
    let none : c.in-Some.part.scalar ≡ false = search rules in
    let taken = one_taken c.args.f given kinds c.in-Some.part takes (subst (IsOfKinds kinds) c.in-Some.is of) in
    absurd (not_both c.in-Some.part.scalar taken.1 none)

pub returns-else-not-part-clause-total : goal.returns-else-not-part-clause-total
returns-else-not-part-clause-total c = λ given kinds takes of.
    (one_taken c.args.f given kinds c.in-Some.part takes (subst (IsOfKinds kinds) c.in-Some.is of)).1
