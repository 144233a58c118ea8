use Rattle.std.proofs.Common.{◌≡◌, ◌∙◌, ◌<◌, ◌≤◌, List, [], Option, None, Some, ap, arith, length, refl, slice_get, subst, sym}
use Rattle.std.specs.Prelude.{IfSome, IsOkUnless, IsSomeAnd, Result}
use Rattle.std.proofs.lemmas.Result.{err_from_is_err_and}
use Rattle.exchange.specs.Exchanging.{Exchanging}
use Rattle.exchange.specs.declared.request.Request.{Request}
use Rattle.plan_parts.specs.Courses.{Courses, IsCourseNear}
use Rattle.plan_parts.specs.Requested.{AreMeant, asked_with}
use Rattle.plan_parts.specs.declared.unbuilt.Unbuilt.{Unbuilt}
use Rattle.plan_parts.specs.declared.unbuilt.Unbuilt.TheVariants.{Memory}
use Rattle.plan_tree.specs.declared.tree.Tree.{Tree}
use Rattle.plan_tree.specs.Nodes.{shape_of}
use Rattle.plan_work.specs.TreeBounds.{StaysWithin}
use Rattle.ticks.specs.Walks.{IsInstant}
use Rattle.ticks.specs.declared.walk.Walk.{Walk}
use Rattle.phys_plan.specs.Asks.{HaveEngines}
use Rattle.phys_plan.proofs.Built.{none_there, part_over}
use Rattle.phys_plan.proofs.Unasked.{none_asked}
use Rattle.phys_plan.proofs.Refused.{none_and}
use Rattle.phys_plan.proofs.Windowed.{whole_grows}
use Rattle.op_labels.specs.Rules.{Kept}
use Rattle.plan_bases.specs.Bases.{AreRight}
use Rattle.phys_plan.specs.Growth.{CanGrow}
use Rattle.phys_plan.proofs.building.build.Goals as goal

pub returns-clause-ready : goal.returns-clause-ready
returns-clause-ready g c = λ none_asked es.
    let asked = asked_with c.args.store.now c.args.patterns.now c.args.span.now [] in
    let p = c.args.p.now in
    let now = c.grown.new.exchange.requests in
    let copied : c.in_ok-walk.walk ≡ c.in-Some.course.walk = c.in_ok-walk.ensures ∙ c.walk.ensures.walk in
    let none : c.new-exchange.result.requests ≡ [] = ap (λ (x : Exchanging). x.requests) c.new-exchange.ensures in
    let part = part_over c.args.store.now c.in_ok-bases.bases.samples c.args.patterns.now c.of-2.new.patterns c.args.span.now [] c.in-Some.course.walk c.in_ok-walk.walk c.new-exchange.result.requests now p c.in_ok-part.part
    c.in_ok-bases.ensures.store c.of-2.ensures.same copied none (c.in_ok-part.ensures.part []) in
    c.planted.ensures.ready asked p (sym c.planted.ensures.requests ∙ none_asked) part es

pub returns-clause-asks : goal.returns-clause-asks
returns-clause-asks g c = λ some known es begun inside are_known.
    let asked = asked_with c.args.store.now c.args.patterns.now c.args.span.now [] in
    let p = c.args.p.now in
    let now = c.grown.new.exchange.requests in
    let copied : c.in_ok-walk.walk ≡ c.in-Some.course.walk = c.in_ok-walk.ensures ∙ c.walk.ensures.walk in
    let none : c.new-exchange.result.requests ≡ [] = ap (λ (x : Exchanging). x.requests) c.new-exchange.ensures in
    let part = part_over c.args.store.now c.in_ok-bases.bases.samples c.args.patterns.now c.of-2.new.patterns c.args.span.now [] c.in-Some.course.walk c.in_ok-walk.walk c.new-exchange.result.requests now p c.in_ok-part.part
    c.in_ok-bases.ensures.store c.of-2.ensures.same copied none (c.in_ok-part.ensures.part []) in
    let same = c.planted.ensures.requests in
    c.planted.ensures.asks asked p (subst (λ (rs : List Request). 0 < length rs) same some) (record { kept_are = refl; starts = refl; ends = refl }) part known es begun (subst (λ (rs : List Request). HaveEngines rs es) same inside) are_known

pub returns-clause-named : goal.returns-clause-named
returns-clause-named g c = λ k r at.
    let now = c.grown.new.exchange.requests in
    let same = c.planted.ensures.requests in
    let none : c.new-exchange.result.requests ≡ [] = ap (λ (x : Exchanging). x.requests) c.new-exchange.ensures in
    (c.in_ok-part.ensures.part []).named k r (subst (λ (rs : List Request). slice_get rs k ≡ Some r) same at) (subst (λ (rs : List Request). length rs ≤ k) (sym none) (omega arith))

pub returns-clause-alone : goal.returns-clause-alone
returns-clause-alone g c = λ served.
    let now = c.grown.new.exchange.requests in
    let same = c.planted.ensures.requests in
    let none : c.new-exchange.result.requests ≡ [] = ap (λ (x : Exchanging). x.requests) c.new-exchange.ensures in
    none_there c.planted.result.exchange.requests (λ k r at.
    none_asked c.args.patterns.now ((c.in_ok-part.ensures.part []).named k r (subst (λ (rs : List Request). slice_get rs k ≡ Some r) same at) (subst (λ (rs : List Request). length rs ≤ k) (sym none) (omega arith))) served)

pub returns-clause-gives : goal.returns-clause-gives
returns-clause-gives g c = λ engines gathers meant stay t on.
    let asked = asked_with c.args.store.now c.args.patterns.now c.args.span.now engines in
    let p = c.args.p.now in
    let walk = c.args.walk.now in
    let now = c.grown.new.exchange.requests in
    let given : c.in-Some.course.walk ≡ walk = subst (λ (o : Option Courses). IfSome o (λ (course : Courses). course.walk ≡ walk)) c.in-Some.is c.in_ok-course.ensures.walk in
    let copied : c.in_ok-walk.walk ≡ c.in-Some.course.walk = c.in_ok-walk.ensures ∙ c.walk.ensures.walk in
    let none : c.new-exchange.result.requests ≡ [] = ap (λ (x : Exchanging). x.requests) c.new-exchange.ensures in
    let part = part_over c.args.store.now c.in_ok-bases.bases.samples c.args.patterns.now c.of-2.new.patterns c.args.span.now engines c.in-Some.course.walk c.in_ok-walk.walk c.new-exchange.result.requests now p c.in_ok-part.part
    c.in_ok-bases.ensures.store c.of-2.ensures.same copied none (c.in_ok-part.ensures.part engines) in
    let same = c.planted.ensures.requests in
    c.planted.ensures.gives asked p part gathers (subst (λ (rs : List Request). AreMeant asked rs gathers) same meant) stay t (subst (λ (w : Walk). IsInstant w t) (sym (copied ∙ given)) on)

pub returns-clause-fresh : goal.returns-clause-fresh
returns-clause-fresh g c =
    let asked = asked_with c.args.store.now c.args.patterns.now c.args.span.now [] in
    let p = c.args.p.now in
    let now = c.grown.new.exchange.requests in
    let copied : c.in_ok-walk.walk ≡ c.in-Some.course.walk = c.in_ok-walk.ensures ∙ c.walk.ensures.walk in
    let none : c.new-exchange.result.requests ≡ [] = ap (λ (x : Exchanging). x.requests) c.new-exchange.ensures in
    c.planted.ensures.fresh asked p (part_over c.args.store.now c.in_ok-bases.bases.samples c.args.patterns.now c.of-2.new.patterns c.args.span.now [] c.in-Some.course.walk c.in_ok-walk.walk c.new-exchange.result.requests now p c.in_ok-part.part
    c.in_ok-bases.ensures.store c.of-2.ensures.same copied none (c.in_ok-part.ensures.part []))

pub returns-clause-within : goal.returns-clause-within
returns-clause-within g c =
    let asked = asked_with c.args.store.now c.args.patterns.now c.args.span.now [] in
    let p = c.args.p.now in
    let walk = c.args.walk.now in
    let now = c.grown.new.exchange.requests in
    let given : c.in-Some.course.walk ≡ walk = subst (λ (o : Option Courses). IfSome o (λ (course : Courses). course.walk ≡ walk)) c.in-Some.is c.in_ok-course.ensures.walk in
    let copied : c.in_ok-walk.walk ≡ c.in-Some.course.walk = c.in_ok-walk.ensures ∙ c.walk.ensures.walk in
    let none : c.new-exchange.result.requests ≡ [] = ap (λ (x : Exchanging). x.requests) c.new-exchange.ensures in
    subst (λ (w : Walk). StaysWithin asked w p (shape_of c.planted.result.node)) (copied ∙ given)
    (c.planted.ensures.within asked p (part_over c.args.store.now c.in_ok-bases.bases.samples c.args.patterns.now c.of-2.new.patterns c.args.span.now [] c.in-Some.course.walk c.in_ok-walk.walk c.new-exchange.result.requests now p c.in_ok-part.part
    c.in_ok-bases.ensures.store c.of-2.ensures.same copied none (c.in_ok-part.ensures.part [])))

pub returns-in_err-course-clause-total : goal.returns-in_err-course-clause-total
returns-in_err-course-clause-total g c = λ tree asked.
    let r = c.from_residual in
    let p = err_from_is_err_and r.result r.ensures.1 in
    subst (λ (built : Result Tree Unbuilt). IsOkUnless built Memory) (sym p.1) p.2

pub returns-in_default-clause-total : goal.returns-in_default-clause-total
returns-in_default-clause-total g c = λ tree asked. absurd (none_and (IsCourseNear 0) c.in_ok-course.field-0 c.in_default.not-Some (c.in_ok-course.ensures.near asked))

pub grown-requires : goal.grown-requires
grown-requires g c = subst (λ (kept : Kept). AreRight kept c.in_ok-bases.bases.samples c.in_ok-bases.bases.lists) (sym c.of-2.ensures.same) c.in_ok-bases.ensures.right

pub planted-requires-clause-unopened : goal.planted-requires-clause-unopened
planted-requires-clause-unopened g c = c.grown.ensures.places ∙ ap (λ (x : Exchanging). x.places) c.new-exchange.ensures

pub returns-in_err-bases-clause-total : goal.returns-in_err-bases-clause-total
returns-in_err-bases-clause-total g c = λ tree asked.
    let r = c.from_residual-in_err-bases in
    let p = err_from_is_err_and r.result r.ensures.1 in
    subst (λ (built : Result Tree Unbuilt). IsOkUnless built Memory) (sym p.1) p.2

pub returns-in_err-walk-clause-total : goal.returns-in_err-walk-clause-total
returns-in_err-walk-clause-total g c = λ tree asked.
    let r = c.from_residual-in_err-walk in
    let p = err_from_is_err_and r.result r.ensures.1 in
    subst (λ (built : Result Tree Unbuilt). IsOkUnless built Memory) (sym p.1) p.2

pub returns-in_err-part-clause-total : goal.returns-in_err-part-clause-total
returns-in_err-part-clause-total g c = λ tree asked.
    let near : IsCourseNear 0 c.in-Some.course = subst (λ (o : Option Courses). IsSomeAnd o (IsCourseNear 0)) c.in-Some.is (c.in_ok-course.ensures.near asked) in
    let lists = c.in_ok-bases.bases.lists in
    let grows = whole_grows c.args.patterns.now lists c.args.p.now c.in_ok-bases.ensures.holds tree in
    let e = c.in_err-part.ensures.total 0 near (subst (λ (kept : Kept). CanGrow kept lists 0 c.args.p.now) (sym c.of-2.ensures.same) grows) in
    let r = c.from_residual-in_err-part in
    let p = err_from_is_err_and r.result r.ensures.1 in
    subst (λ (built : Result Tree Unbuilt). IsOkUnless built Memory) (sym p.1) (p.2 ∙ e)
