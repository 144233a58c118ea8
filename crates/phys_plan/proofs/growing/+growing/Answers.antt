use Rattle.std.proofs.Common.{◌∙◌, Bool, List, length, None, Some, ap, arith, refl, subst, sym, ℕ, ◌≡◌, ◌<◌, ◌≤◌, ◌+◌, true, false, [], ◌∷◌, map}
use Rattle.label_set.specs.declared.rules.Relabel.TheVariants.{Filter}
use Rattle.label_set.specs.declared.rules.Rule.{Rule}
use Rattle.logical_plan.specs.declared.nodes.Plan.{Plan}
use Rattle.logical_plan.specs.declared.nodes.PlanNode.TheVariants as node
use Rattle.promql_meaning.specs.Selecting.{Asked}
use Rattle.plan_parts.specs.Parts.{IsPartOf, IsBuilt, IsReadable, IsSelectorOf}
use Rattle.plan_parts.specs.declared.selectors.InstantSelector.{InstantSelector}
use Rattle.plan_bases.specs.LeafLaws.{leaf_holds, selector_holds}
use Rattle.plan_bases.specs.Leaves.{IsLeafOf}
use Rattle.phys_plan.proofs.Arms.{ok_then, some_at}
use Rattle.std.specs.Prelude.{slice_index_or, Result}
use Rattle.std.proofs.lemmas.Result.{err_from_is_err_and}
use Rattle.label_set.specs.declared.rules.Relabel.{Relabel}
use Rattle.logical_plan.specs.PlanTypes.{is_group, kinds_of}
use Rattle.logical_plan.specs.Validity.{measured}
use Rattle.logical_plan.specs.declared.nodes.PlanNode.TheOpen.{PlanNode-F}
use Rattle.match_rule.specs.Patterns.{HaveTheirPatterns}
use Rattle.op_labels.specs.Rules.{HasPatterns, Kept}
use Rattle.promql_ast.specs.declared.tree.Moment.{Moment}
use Rattle.promql_type.specs.Kinds.{is_scalar}
use Rattle.ticks.specs.declared.moment.Ms.{Ms}
use Rattle.plan_serving.specs.Serving.{serving_over as serving}
use Rattle.window_parts.specs.Engines.{IsGathered}
use Rattle.window_parts.specs.Over.{IsArgument, IsArgumentBuilt, IsOfKinds, IsRangePlan}
use Rattle.phys_plan.specs.Growth.{IsChange, IsRetyping, IsTwofold}
use Rattle.phys_plan.proofs.Arguments.{element_arguments, none_of, one_at, one_of, two_at, two_of, window_arguments, window_inner}
use Rattle.phys_plan.proofs.Growths.{N, T, as_kind, few-Element, few-Group, few-Window, grows-Absent, grows-Buckets, grows-Element, grows-Element-one, grows-Element-two, grows-Filter, grows-Group, grows-Group-two, grows-Once, grows-Pair, grows-Ratio, grows-Relabel, grows-ScalarOf, grows-Set, grows-Sort, grows-Stamp, grows-VectorOf, grows-Window, no_windows, scalar-Buckets, takes-Element, takes-Group, takes-Window, typing-Absent, typing-Buckets, typing-Element, typing-Group, typing-Number, typing-Once, typing-Pair, typing-Range, typing-Ratio, typing-Relabel, typing-ScalarOf, typing-Select, typing-Set, typing-Sort, typing-Stamp, typing-Subquery, typing-Time, typing-VectorOf, typing-Window, vector-Filter, typing-Gather}
use Rattle.phys_plan.proofs.Refused.{no_change, no_retyping, no_twofold, none_some}
use Rattle.phys_plan.proofs.Windowed.{filter_kept, gather_few, gather_kept, gather_rows, gather_selector, gather_served, gather_vector, gather_within, inner_holds, range_plan, relabel_kept, select_few, select_kept, select_within, subquery_grows, subquery_within, window_few, windows_range}
use Rattle.exchange.specs.declared.request.Request.{Request}
use Rattle.plan_parts.specs.Requested.{asked_with}
use Rattle.plan_parts.specs.declared.parts.Part.{Part}
use Rattle.plan_parts.specs.declared.unbuilt.Unbuilt.{Unbuilt}
use Rattle.ticks.specs.declared.grid.Grid.{Grid}
use Rattle.ticks.specs.declared.walk.Walk.{Walk}
use Rattle.phys_plan.proofs.growing.+growing.Goals as goal

-- ---- parts

pub grown-returns-in-Number-clause-part : goal.grown-returns-in-Number-clause-part
grown-returns-in-Number-clause-part t c = λ engines.
    let store = c.args.site.now.bases.now.samples in
    let span = c.args.site.now.span.now in
    let asked = asked_with store c.args.patterns.now span engines in
    let walk = c.args.course.now.walk in
    let p = c.args.p.now in
    let before = c.args.exchange.now.requests in
    ok_then c.number.result c.number.ensures.part (λ part is. is asked walk before p c.in-Number.is)

pub grown-returns-in-Time-clause-part : goal.grown-returns-in-Time-clause-part
grown-returns-in-Time-clause-part t c = λ engines.
    let store = c.args.site.now.bases.now.samples in
    let span = c.args.site.now.span.now in
    let asked = asked_with store c.args.patterns.now span engines in
    let walk = c.args.course.now.walk in
    let p = c.args.p.now in
    let before = c.args.exchange.now.requests in
    ok_then c.time.result c.time.ensures.part (λ part is. is asked walk before p c.in-Time.is)

pub grown-returns-in-Select-clause-part : goal.grown-returns-in-Select-clause-part
grown-returns-in-Select-clause-part t c = λ engines.
    let store = c.args.site.now.bases.now.samples in
    let span = c.args.site.now.span.now in
    let asked = asked_with store c.args.patterns.now span engines in
    let walk = c.args.course.now.walk in
    let p = c.args.p.now in
    let before = c.args.exchange.now.requests in
    c.select.ensures.part c.args.patterns.now engines before p c.requires c.in-Select.is

pub grown-returns-in-Gather-clause-part : goal.grown-returns-in-Gather-clause-part
grown-returns-in-Gather-clause-part t c = λ engines.
    let store = c.args.site.now.bases.now.samples in
    let span = c.args.site.now.span.now in
    let asked = asked_with store c.args.patterns.now span engines in
    let walk = c.args.course.now.walk in
    let p = c.args.p.now in
    let before = c.args.exchange.now.requests in
    ok_then c.gather.result c.gather.ensures.part (λ part is. is store engines p c.in-Gather.is)

pub over_one-returns-in-Stamp-clause-part : goal.over_one-returns-in-Stamp-clause-part
over_one-returns-in-Stamp-clause-part t c = λ engines.
    let store = c.args.site.now.bases.now.samples in
    let span = c.args.site.now.span.now in
    let asked = asked_with store c.args.patterns.now span engines in
    let walk = c.args.course.now.walk in
    let p = c.args.p.now in
    let before = c.args.exchange.now.requests in
    let e = c.in-Stamp.is ∙ ap (λ (q : Plan). node.Stamp q) (sym c.get.ensures) in
    c.stamped.ensures.part asked walk before c.grown-rows.new.exchange.requests p c.get.result.now refl e (c.grown-rows.ensures.part engines)

pub over_one-returns-in_ok-labels-in-Absent-clause-part : goal.over_one-returns-in_ok-labels-in-Absent-clause-part
over_one-returns-in_ok-labels-in-Absent-clause-part t c = λ engines.
    let store = c.args.site.now.bases.now.samples in
    let span = c.args.site.now.span.now in
    let asked = asked_with store c.args.patterns.now span engines in
    let walk = c.args.course.now.walk in
    let p = c.args.p.now in
    let before = c.args.exchange.now.requests in
    let e = c.in-Absent.is ∙ (λ i. node.Absent (sym c.in_ok-labels-in-Absent.ensures i) (sym c.get-in-Absent.ensures i)) in
    c.absent.ensures.part asked walk before c.grown-rows-in-Absent.new.exchange.requests p c.get-in-Absent.result.now refl e (c.grown-rows-in-Absent.ensures.part engines)

pub over_one-returns-in_ok-rule-in-Relabel-clause-part : goal.over_one-returns-in_ok-rule-in-Relabel-clause-part
over_one-returns-in_ok-rule-in-Relabel-clause-part t c = λ engines.
    let store = c.args.site.now.bases.now.samples in
    let span = c.args.site.now.span.now in
    let asked = asked_with store c.args.patterns.now span engines in
    let walk = c.args.course.now.walk in
    let p = c.args.p.now in
    let before = c.args.exchange.now.requests in
    let e = c.in-Relabel.is ∙ (λ i. node.Relabel (sym c.in_ok-rule-in-Relabel.ensures i) (sym c.get-in-Relabel.ensures i)) in
    c.relabelled.ensures.relabel asked walk before c.grown-rows-in-Relabel.new.exchange.requests p c.get-in-Relabel.result.now refl e (c.grown-rows-in-Relabel.ensures.part engines)

pub over_one-returns-in_ok-copy-in-Filter-clause-part : goal.over_one-returns-in_ok-copy-in-Filter-clause-part
over_one-returns-in_ok-copy-in-Filter-clause-part t c = λ engines.
    let store = c.args.site.now.bases.now.samples in
    let span = c.args.site.now.span.now in
    let asked = asked_with store c.args.patterns.now span engines in
    let walk = c.args.course.now.walk in
    let p = c.args.p.now in
    let before = c.args.exchange.now.requests in
    let e = c.in-Filter.is ∙ ap (λ (q : Plan). node.Filter q c.in-Filter.rules) (sym c.get-in-Filter.ensures) in
    let copied = ap (λ (rules : List Rule). Filter rules) c.in_ok-copy-in-Filter.ensures in
    c.relabelled-in-Filter.ensures.filter asked walk before c.grown-rows-in-Filter.new.exchange.requests p c.get-in-Filter.result.now c.in-Filter.rules refl copied e (c.grown-rows-in-Filter.ensures.part engines)

pub retyped-returns-in-ScalarOf-clause-part : goal.retyped-returns-in-ScalarOf-clause-part
retyped-returns-in-ScalarOf-clause-part t c = λ engines.
    let store = c.args.site.now.bases.now.samples in
    let span = c.args.site.now.span.now in
    let asked = asked_with store c.args.patterns.now span engines in
    let walk = c.args.course.now.walk in
    let p = c.args.p.now in
    let before = c.args.exchange.now.requests in
    let e = c.in-ScalarOf.is ∙ ap (λ (q : Plan). node.ScalarOf q) (sym c.get.ensures) in
    c.as_scalar.ensures.part asked walk before c.grown-rows.new.exchange.requests p c.get.result.now refl e (c.grown-rows.ensures.part engines)

pub retyped-returns-in-Sort-clause-part : goal.retyped-returns-in-Sort-clause-part
retyped-returns-in-Sort-clause-part t c = λ engines.
    let store = c.args.site.now.bases.now.samples in
    let span = c.args.site.now.span.now in
    let asked = asked_with store c.args.patterns.now span engines in
    let walk = c.args.course.now.walk in
    let p = c.args.p.now in
    let before = c.args.exchange.now.requests in
    let e = c.in-Sort.is ∙ ap (λ (q : Plan). node.Sort c.in-Sort.down q) (sym c.get-in-Sort.ensures) in
    c.as_vector.ensures.sort asked walk before c.grown-rows-in-Sort.new.exchange.requests p c.get-in-Sort.result.now c.in-Sort.down e (c.grown-rows-in-Sort.ensures.part engines)

pub retyped-returns-in-VectorOf-clause-part : goal.retyped-returns-in-VectorOf-clause-part
retyped-returns-in-VectorOf-clause-part t c = λ engines.
    let store = c.args.site.now.bases.now.samples in
    let span = c.args.site.now.span.now in
    let asked = asked_with store c.args.patterns.now span engines in
    let walk = c.args.course.now.walk in
    let p = c.args.p.now in
    let before = c.args.exchange.now.requests in
    let e = c.in-VectorOf.is ∙ ap (λ (q : Plan). node.VectorOf q) (sym c.get-in-VectorOf.ensures) in
    c.as_vector-in-VectorOf.ensures.vector asked walk before c.grown-rows-in-VectorOf.new.exchange.requests p c.get-in-VectorOf.result.now e (c.grown-rows-in-VectorOf.ensures.part engines)

pub over_two-returns-in-Buckets-clause-part : goal.over_two-returns-in-Buckets-clause-part
over_two-returns-in-Buckets-clause-part t c = λ engines.
    let store = c.args.site.now.bases.now.samples in
    let span = c.args.site.now.span.now in
    let asked = asked_with store c.args.patterns.now span engines in
    let walk = c.args.course.now.walk in
    let p = c.args.p.now in
    let before = c.args.exchange.now.requests in
    let between = c.grown-rows.new.exchange.requests in
    let now = c.grown-beside.new.exchange.requests in
    let e = c.in-Buckets.is ∙ (λ i. node.Buckets (sym c.get-in-Buckets.ensures i) (sym c.get.ensures i)) in
    let later = c.grown-beside.ensures.part engines in
    c.quantiles.ensures.part asked walk before between now p c.get.result.now c.get-in-Buckets.result.now e (c.grown-rows.ensures.part engines) later

pub over_two-returns-in_ok-pairing-in-Pair-clause-part : goal.over_two-returns-in_ok-pairing-in-Pair-clause-part
over_two-returns-in_ok-pairing-in-Pair-clause-part t c = λ engines.
    let store = c.args.site.now.bases.now.samples in
    let span = c.args.site.now.span.now in
    let asked = asked_with store c.args.patterns.now span engines in
    let walk = c.args.course.now.walk in
    let p = c.args.p.now in
    let before = c.args.exchange.now.requests in
    let between = c.grown-rows-in-Pair.new.exchange.requests in
    let now = c.grown-beside-in-Pair.new.exchange.requests in
    let e = c.in-Pair.is ∙ (λ i. node.Pair c.in-Pair.op (sym c.get-in-Pair.ensures i) (sym c.get-in-Pair-2.ensures i) (sym c.in_ok-pairing-in-Pair.ensures i)) in
    let later = c.grown-beside-in-Pair.ensures.part engines in
    c.paired.ensures.part asked walk before between now p c.get-in-Pair.result.now c.get-in-Pair-2.result.now e (c.grown-rows-in-Pair.ensures.part engines) later

pub over_two-returns-in_ok-pairing-in-Set-clause-part : goal.over_two-returns-in_ok-pairing-in-Set-clause-part
over_two-returns-in_ok-pairing-in-Set-clause-part t c = λ engines.
    let store = c.args.site.now.bases.now.samples in
    let span = c.args.site.now.span.now in
    let asked = asked_with store c.args.patterns.now span engines in
    let walk = c.args.course.now.walk in
    let p = c.args.p.now in
    let before = c.args.exchange.now.requests in
    let between = c.grown-rows-in-Set.new.exchange.requests in
    let now = c.grown-beside-in-Set.new.exchange.requests in
    let e = c.in-Set.is ∙ (λ i. node.Set c.in-Set.op (sym c.get-in-Set.ensures i) (sym c.get-in-Set-2.ensures i) (sym c.in_ok-pairing-in-Set.ensures i)) in
    let later = c.grown-beside-in-Set.ensures.part engines in
    c.combined.ensures.part asked walk before between now p c.get-in-Set.result.now c.get-in-Set-2.result.now e (c.grown-rows-in-Set.ensures.part engines) later

pub over_two-returns-in-Ratio-clause-part : goal.over_two-returns-in-Ratio-clause-part
over_two-returns-in-Ratio-clause-part t c = λ engines.
    let store = c.args.site.now.bases.now.samples in
    let span = c.args.site.now.span.now in
    let asked = asked_with store c.args.patterns.now span engines in
    let walk = c.args.course.now.walk in
    let p = c.args.p.now in
    let before = c.args.exchange.now.requests in
    let between = c.grown-rows-in-Ratio.new.exchange.requests in
    let now = c.grown-beside-in-Ratio.new.exchange.requests in
    let e = c.in-Ratio.is ∙ (λ i. node.Ratio (sym c.get-in-Ratio.ensures i) (sym c.get-in-Ratio-2.ensures i)) in
    let later = c.grown-beside-in-Ratio.ensures.part engines in
    c.divided.ensures.part asked walk before between now p c.get-in-Ratio.result.now c.get-in-Ratio-2.result.now e (c.grown-rows-in-Ratio.ensures.part engines) later

pub over_series-returns-clause-part : goal.over_series-returns-clause-part
over_series-returns-clause-part t c = λ engines.
    let store = c.args.site.now.bases.now.samples in
    let span = c.args.site.now.span.now in
    let asked = asked_with store c.args.patterns.now span engines in
    let walk = c.args.course.now.walk in
    let p = c.args.p.now in
    let before = c.args.exchange.now.requests in
    let f = c.in-Window.f in
    let arguments = c.in-Window.field-2 in
    let now = c.only_argument-beside.new.exchange.requests in
    let given = (c.only_argument-beside.ensures.part engines f c.in-Window.windows arguments c.in-Window.is) in
    let is = c.in-Window.is ∙ ap (λ (windows : Plan). node.Window f windows arguments) (sym c.get.ensures) in
    (c.series.ensures.part c.args.patterns.now engines before now p arguments c.requires is given)

pub over_gathers-returns-clause-part : goal.over_gathers-returns-clause-part
over_gathers-returns-clause-part t c = λ engines.
    let store = c.args.site.now.bases.now.samples in
    let p = c.args.p.now in
    let before = c.args.exchange.now.requests in
    let f = c.in-Window.f in
    let arguments = c.in-Window.field-2 in
    let given = (c.only_argument-beside.ensures.part engines f c.in-Window.windows arguments c.in-Window.is) in
    let is = c.in-Window.is ∙ ap (λ (windows : Plan). node.Window f windows arguments) (sym c.get.ensures) in
    (c.gathered.ensures.part store engines before p arguments is given)

pub over_points-returns-clause-part : goal.over_points-returns-clause-part
over_points-returns-clause-part t c = λ engines.
    let store = c.args.site.now.bases.now.samples in
    let span = c.args.site.now.span.now in
    let asked = asked_with store c.args.patterns.now span engines in
    let walk = c.args.course.now.walk in
    let p = c.args.p.now in
    let before = c.args.exchange.now.requests in
    let f = c.in-Window.f in
    let windows = c.in-Window.windows in
    let arguments = c.in-Window.field-2 in
    let below = c.in_ok-below.below in
    let inner = c.in-Subquery.inner in
    let between = c.grown-rows.new.exchange.requests in
    let now = c.only_argument-beside.new.exchange.requests in
    let is = sym (ap (λ (q : Plan). q.node) c.get.ensures) ∙ c.in-Subquery.is in
    let rows = subst (λ (q : Plan). IsPartOf asked below.course.walk before between q c.grown-rows.result) c.get-2.ensures (c.grown-rows.ensures.part engines) in
    let beside = (c.only_argument-beside.ensures.part engines f windows arguments c.in-Window.is) in
    c.points.ensures.part asked before between now p windows inner c.in-Subquery.moment c.in-Subquery.range c.in-Subquery.step arguments c.in-Window.is is (c.in_ok-below.ensures.inside store c.args.patterns.now engines) rows beside

pub element-returns-in-empty-clause-part : goal.element-returns-in-empty-clause-part
element-returns-in-empty-clause-part t c = λ engines.
    let store = c.args.site.now.bases.now.samples in
    let span = c.args.site.now.span.now in
    let asked = asked_with store c.args.patterns.now span engines in
    let walk = c.args.course.now.walk in
    let p = c.args.p.now in
    let before = c.args.exchange.now.requests in
    let f = c.in-Element.f in
    let inner = c.get.result.now in
    let none = none_of c.as_slice.result.now c.in-Element.arguments c.as_slice.ensures c.in-empty.len_below in
    let e : p.node ≡ node.Element f inner [] = c.in-Element.is ∙ (λ i. node.Element f (sym c.get.ensures i) (none i)) in
    c.applied.ensures.part asked walk before c.grown-rows.new.exchange.requests p inner refl e (c.grown-rows.ensures.part engines)

pub beside_one-returns-in-len1-clause-part : goal.beside_one-returns-in-len1-clause-part
beside_one-returns-in-len1-clause-part t c = λ engines.
    let store = c.args.site.now.bases.now.samples in
    let span = c.args.site.now.span.now in
    let asked = asked_with store c.args.patterns.now span engines in
    let walk = c.args.course.now.walk in
    let p = c.args.p.now in
    let before = c.args.exchange.now.requests in
    let f = c.in-Element.f in
    let inner = c.get.result.now in
    let a = c.a-item.result in
    let between = c.grown-rows.new.exchange.requests in
    let now = c.grown-beside.new.exchange.requests in
    let one = one_of c.as_slice.result.now c.in-Element.arguments a c.as_slice.ensures c.a-item.is c.in-len1.len_at_least c.in-len1.len_below in
    let e : p.node ≡ node.Element f inner (a ∷ []) = c.in-Element.is ∙ (λ i. node.Element f (sym c.get.ensures i) (one i)) in
    let beside = c.grown-beside.ensures.part engines in
    c.applied_with.ensures.part asked walk before between now p inner a e (c.grown-rows.ensures.part engines) beside

pub beside_two-returns-in-len2-clause-part : goal.beside_two-returns-in-len2-clause-part
beside_two-returns-in-len2-clause-part t c = λ engines.
    let store = c.args.site.now.bases.now.samples in
    let span = c.args.site.now.span.now in
    let asked = asked_with store c.args.patterns.now span engines in
    let walk = c.args.course.now.walk in
    let p = c.args.p.now in
    let before = c.args.exchange.now.requests in
    let f = c.in-Element.f in
    let inner = c.get.result.now in
    let a = c.a-item.result in
    let b = c.b-item.result in
    let one = c.grown-rows.new.exchange.requests in
    let both = c.grown-low.new.exchange.requests in
    let now = c.grown-high.new.exchange.requests in
    let two = two_of c.as_slice.result.now c.in-Element.arguments a b c.as_slice.ensures c.a-item.is c.b-item.is c.in-len2.len_at_least c.in-len2.len_below in
    let e : p.node ≡ node.Element f inner (a ∷ b ∷ []) = c.in-Element.is ∙ (λ i. node.Element f (sym c.get.ensures i) (two i)) in
    let low = c.grown-low.ensures.part engines in
    let high = c.grown-high.ensures.part engines in
    c.clamped.ensures.part asked walk before one both now p inner a b e (c.grown-rows.ensures.part engines) low high

pub group-returns-in-len1-clause-part : goal.group-returns-in-len1-clause-part
group-returns-in-len1-clause-part t c = λ engines.
    let store = c.args.site.now.bases.now.samples in
    let span = c.args.site.now.span.now in
    let asked = asked_with store c.args.patterns.now span engines in
    let walk = c.args.course.now.walk in
    let p = c.args.p.now in
    let before = c.args.exchange.now.requests in
    let f = c.in-Group.f in
    let a = c.a-item.result in
    let one = one_of c.as_slice.result.now c.in-Group.arguments a c.as_slice.ensures c.a-item.is c.in-len1.len_at_least c.in-len1.len_below in
    let e : p.node ≡ node.Group f c.in_ok-by.by (a ∷ []) c.in_ok-label.label = c.in-Group.is ∙ (λ i. node.Group f (sym c.in_ok-by.ensures i) (one i) (sym c.in_ok-label.ensures i)) in
    c.grouped.ensures.part asked walk before c.grown-rows.new.exchange.requests p a refl e (c.grown-rows.ensures.part engines)

pub group-returns-in-len2-clause-part : goal.group-returns-in-len2-clause-part
group-returns-in-len2-clause-part t c = λ engines.
    let store = c.args.site.now.bases.now.samples in
    let span = c.args.site.now.span.now in
    let asked = asked_with store c.args.patterns.now span engines in
    let walk = c.args.course.now.walk in
    let p = c.args.p.now in
    let before = c.args.exchange.now.requests in
    let f = c.in-Group.f in
    let a = c.a-item-then-this-lt3.result in
    let b = c.b-item.result in
    let between = c.grown-parameter.new.exchange.requests in
    let now = c.grown-rows-in-len2.new.exchange.requests in
    let two = two_of c.as_slice.result.now c.in-Group.arguments a b c.as_slice.ensures c.a-item-then-this-lt3.is c.b-item.is c.in-len2.len_at_least c.in-len2.len_below in
    let e : p.node ≡ node.Group f c.in_ok-by.by (a ∷ b ∷ []) c.in_ok-label.label = c.in-Group.is ∙ (λ i. node.Group f (sym c.in_ok-by.ensures i) (two i) (sym c.in_ok-label.ensures i)) in
    let rows = (c.grown-rows-in-len2.ensures.part engines) in
    c.ranked.ensures.part asked walk before between now p a b e rows (c.grown-parameter.ensures.part engines)

pub once-returns-clause-part : goal.once-returns-clause-part
once-returns-clause-part t c = λ engines.
    let store = c.args.site.now.bases.now.samples in
    let span = c.args.site.now.span.now in
    let asked = asked_with store c.args.patterns.now span engines in
    let walk = c.args.course.now.walk in
    let p = c.args.p.now in
    let before = c.args.exchange.now.requests in
    let inner = c.get.result.now in
    let e = c.in-Once.is ∙ ap (λ (q : Plan). node.Once q) (sym c.get.ensures) in
    c.repeated.ensures.part asked walk c.in-Some.below.walk before c.grown-child.new.exchange.requests p inner c.first-first.ensures.begins c.in-Some.ensures.walk e (c.grown-child.ensures.part engines)

pub only_argument-returns-in-empty-clause-part : goal.only_argument-returns-in-empty-clause-part
only_argument-returns-in-empty-clause-part t c = λ engines f inner arguments is.
    let store = c.args.site.now.bases.now.samples in
    let span = c.args.site.now.span.now in
    let asked = asked_with store c.args.patterns.now span engines in
    let walk = c.args.course.now.walk in
    let p = c.args.p.now in
    let before = c.args.exchange.now.requests in
    let own = c.in-Window.arguments in
    let none = none_of c.as_slice.result.now own c.as_slice.ensures c.in-empty.len_below in
    let same = window_arguments f c.in-Window.field-0 inner c.in-Window.field-1 arguments own (sym is ∙ c.in-Window.is) in
    subst (λ (xs : List Plan). IsArgument asked walk before before xs None) (sym (same ∙ none)) refl

pub only_argument-returns-in_ok-grown-in-len1-clause-part : goal.only_argument-returns-in_ok-grown-in-len1-clause-part
only_argument-returns-in_ok-grown-in-len1-clause-part t c = λ engines f inner arguments is.
    let store = c.args.site.now.bases.now.samples in
    let span = c.args.site.now.span.now in
    let asked = asked_with store c.args.patterns.now span engines in
    let walk = c.args.course.now.walk in
    let p = c.args.p.now in
    let before = c.args.exchange.now.requests in
    let own = c.in-Window.arguments in
    let a = c.a-item.result in
    let now = c.grown.new.exchange.requests in
    let one = one_of c.as_slice.result.now own a c.as_slice.ensures c.a-item.is c.in-len1.len_at_least c.in-len1.len_below in
    let same = window_arguments f c.in-Window.field-0 inner c.in-Window.field-1 arguments own (sym is ∙ c.in-Window.is) in
    subst (λ (xs : List Plan). IsArgument asked walk before now xs (Some c.in_ok-grown-in-len1.field-0)) (sym (same ∙ one)) (c.in_ok-grown-in-len1.ensures.part engines)

pub filtered-returns-in-Some-clause-part : goal.filtered-returns-in-Some-clause-part
filtered-returns-in-Some-clause-part t c = λ engines.
    let asked = asked_with c.args.site.now.bases.now.samples c.args.patterns.now c.args.site.now.span.now engines in
    let leaf = c.in-Some.leaf in
    let is : IsSelectorOf asked c.args.p.now leaf.rules leaf.moment false = some_at (λ (s : InstantSelector). (asked : Asked) → IsSelectorOf asked c.args.p.now s.rules s.moment false) _ leaf c.in-Some.is c.in_ok-leaf.ensures.selector asked in
    c.select.ensures.leaf c.args.patterns.now engines c.args.exchange.now.requests c.args.p.now c.requires is

-- ---- all plans that kernels serve

pub grown-returns-in-Number-clause-total : goal.grown-returns-in-Number-clause-total
grown-returns-in-Number-clause-total t c = λ n near can.
    let p = c.args.p.now in
    as_kind p (N (PlanNode-F.Number c.in-Number.value)) c.number.result (typing-Number p c.in-Number.value c.in-Number.is) c.number.ensures.total

pub grown-returns-in-Time-clause-total : goal.grown-returns-in-Time-clause-total
grown-returns-in-Time-clause-total t c = λ n near can.
    let p = c.args.p.now in
    as_kind p (N PlanNode-F.Time) c.time.result (typing-Time p c.in-Time.is) c.time.ensures.total

pub grown-returns-in-Select-clause-total : goal.grown-returns-in-Select-clause-total
grown-returns-in-Select-clause-total t c = λ n near can.
    let p = c.args.p.now in
    let s = c.in-Select in
    as_kind p (N (PlanNode-F.Select s.rules s.moment s.stamped)) c.select.result (typing-Select p s.rules s.moment s.stamped s.is)
    (c.select.ensures.total n (select_few c.args.patterns.now c.args.site.now.bases.now.lists n p s.rules s.moment s.stamped s.is can) near
    (selector_holds c.args.patterns.now c.args.site.now.bases.now.lists p s.rules s.moment s.stamped s.is can.holds (select_kept c.args.patterns.now c.args.site.now.bases.now.lists n p s.rules s.moment s.stamped s.is can))
    (select_within c.args.patterns.now c.args.site.now.bases.now.lists n p s.rules s.moment s.stamped s.is can))

pub grown-returns-in-Once-clause-total : goal.grown-returns-in-Once-clause-total
grown-returns-in-Once-clause-total t c = λ n near can.
    c.once.ensures.total c.in-Once.field-0 c.in-Once.is n near can

pub grown-returns-in-Element-clause-total : goal.grown-returns-in-Element-clause-total
grown-returns-in-Element-clause-total t c = λ n near can.
    c.element.ensures.total c.in-Element.field-0 c.in-Element.field-1 c.in-Element.field-2 c.in-Element.is n near can

pub grown-returns-in-Window-clause-total : goal.grown-returns-in-Window-clause-total
grown-returns-in-Window-clause-total t c = λ n near can.
    c.window.ensures.total c.in-Window.field-0 c.in-Window.field-1 c.in-Window.field-2 c.in-Window.is n near can

pub grown-returns-in-Group-clause-total : goal.grown-returns-in-Group-clause-total
grown-returns-in-Group-clause-total t c = λ n near can.
    c.group.ensures.total c.in-Group.field-0 c.in-Group.field-1 c.in-Group.field-2 c.in-Group.field-3 c.in-Group.is n near can

pub grown-returns-in-Buckets-clause-total : goal.grown-returns-in-Buckets-clause-total
grown-returns-in-Buckets-clause-total t c = λ n near can.
    c.over_two.ensures.total (IsTwofold.of_buckets c.in-Buckets.field-0 c.in-Buckets.field-1 c.in-Buckets.is) n near can

pub grown-returns-in-Pair-clause-total : goal.grown-returns-in-Pair-clause-total
grown-returns-in-Pair-clause-total t c = λ n near can.
    c.over_two-in-Pair.ensures.total (IsTwofold.of_pair c.in-Pair.field-0 c.in-Pair.field-1 c.in-Pair.field-2 c.in-Pair.field-3 c.in-Pair.is) n near can

pub grown-returns-in-Set-clause-total : goal.grown-returns-in-Set-clause-total
grown-returns-in-Set-clause-total t c = λ n near can.
    c.over_two-in-Set.ensures.total (IsTwofold.of_set c.in-Set.field-0 c.in-Set.field-1 c.in-Set.field-2 c.in-Set.field-3 c.in-Set.is) n near can

pub grown-returns-in-Ratio-clause-total : goal.grown-returns-in-Ratio-clause-total
grown-returns-in-Ratio-clause-total t c = λ n near can.
    c.over_two-in-Ratio.ensures.total (IsTwofold.of_ratio c.in-Ratio.sum c.in-Ratio.count c.in-Ratio.is) n near can

pub grown-returns-in-ScalarOf-clause-total : goal.grown-returns-in-ScalarOf-clause-total
grown-returns-in-ScalarOf-clause-total t c = λ n near can.
    c.retyped.ensures.total (IsRetyping.of_scalar c.in-ScalarOf.field-0 c.in-ScalarOf.is) n near can

pub grown-returns-in-Sort-clause-total : goal.grown-returns-in-Sort-clause-total
grown-returns-in-Sort-clause-total t c = λ n near can.
    c.retyped-in-Sort.ensures.total (IsRetyping.of_sort c.in-Sort.down c.in-Sort.inner c.in-Sort.is) n near can

pub grown-returns-in-VectorOf-clause-total : goal.grown-returns-in-VectorOf-clause-total
grown-returns-in-VectorOf-clause-total t c = λ n near can.
    c.retyped-in-VectorOf.ensures.total (IsRetyping.of_vector c.in-VectorOf.field-0 c.in-VectorOf.is) n near can

pub grown-returns-in-Stamp-clause-total : goal.grown-returns-in-Stamp-clause-total
grown-returns-in-Stamp-clause-total t c = λ n near can.
    c.over_one.ensures.total (IsChange.of_stamp c.in-Stamp.field-0 c.in-Stamp.is) n near can

pub grown-returns-in-Absent-clause-total : goal.grown-returns-in-Absent-clause-total
grown-returns-in-Absent-clause-total t c = λ n near can.
    c.over_one-in-Absent.ensures.total (IsChange.of_absent c.in-Absent.labels c.in-Absent.inner c.in-Absent.is) n near can

pub grown-returns-in-Relabel-clause-total : goal.grown-returns-in-Relabel-clause-total
grown-returns-in-Relabel-clause-total t c = λ n near can.
    c.over_one-in-Relabel.ensures.total (IsChange.of_relabel c.in-Relabel.field-0 c.in-Relabel.field-1 c.in-Relabel.is) n near can

pub grown-returns-in-Filter-clause-total : goal.grown-returns-in-Filter-clause-total
grown-returns-in-Filter-clause-total t c = λ n near can.
    c.filtered.ensures.total c.in-Filter.base c.in-Filter.rules c.in-Filter.is n near can

pub filtered-returns-in-Some-clause-total : goal.filtered-returns-in-Some-clause-total
filtered-returns-in-Some-clause-total t c = λ base rules e n near can.
    let p = c.args.p.now in
    let kept = c.args.patterns.now in
    let lists = c.args.site.now.bases.now.lists in
    let leaf = c.in-Some.leaf in
    let is : IsLeafOf p leaf.rules = some_at (λ (s : InstantSelector). IsLeafOf p s.rules) _ leaf c.in-Some.is c.in_ok-leaf.ensures.leaf in
    let deep : 0 < (measured p).depth = some_at (λ (s : InstantSelector). 0 < (measured p).depth) _ leaf c.in-Some.is c.in_ok-leaf.ensures.deep in
    let readable : IsReadable kept leaf.rules leaf.moment = some_at (λ (s : InstantSelector). IsReadable kept s.rules s.moment) _ leaf c.in-Some.is (c.in_ok-leaf.ensures.total kept can.placed.served.rules can.placed.within) in
    subst (λ (b : Bool). IsBuilt b c.select.result) (sym (vector-Filter kept lists n p base rules e can))
    (c.select.ensures.total n (let room = can.placed.room in omega (arith, room, deep)) near (leaf_holds kept lists p leaf.rules is can.holds readable.0) readable.1)

pub filtered-returns-in_err-leaf-clause-total : goal.filtered-returns-in_err-leaf-clause-total
filtered-returns-in_err-leaf-clause-total t c = λ base rules e n near can.
    let r = c.from_residual in
    let p = err_from_is_err_and r.result r.ensures.1 in
    subst (IsBuilt (is_scalar (T c.args.p.now).kind)) (sym p.1) p.2

pub filtered-returns-in-None-clause-total : goal.filtered-returns-in-None-clause-total
filtered-returns-in-None-clause-total t c = λ base rules e n near can. c.over_one.ensures.total (IsChange.of_filter base rules e) n near can

pub grown-returns-in-Range-clause-total : goal.grown-returns-in-Range-clause-total
grown-returns-in-Range-clause-total t c = λ n near can.
    let p = c.args.p.now in
    let r = c.in-Range in
    absurd (no_windows p (N (PlanNode-F.Range r.rules r.moment r.range)) (typing-Range p r.rules r.moment r.range r.is) refl can.number)

pub grown-returns-in-Subquery-clause-total : goal.grown-returns-in-Subquery-clause-total
grown-returns-in-Subquery-clause-total t c = λ n near can.
    let p = c.args.p.now in
    let s = c.in-Subquery in
    absurd (no_windows p (N (PlanNode-F.Subquery (T s.inner) s.range s.step s.moment)) (typing-Subquery p s.inner s.range s.step s.moment s.is) refl can.number)

pub grown-returns-in-Gather-clause-total : goal.grown-returns-in-Gather-clause-total
grown-returns-in-Gather-clause-total t c = λ n near can.
    let it = c.in-Gather in
    let p = c.args.p.now in
    let kept = c.args.patterns.now in
    let lists = c.args.site.now.bases.now.lists in
    let served = gather_served kept lists n p it.expr it.kind it.asked it.is can in
    let rows = gather_rows kept lists n p it.expr it.kind it.asked it.is can in
    let s = gather_selector it.kind it.expr rows in
    as_kind p (N (PlanNode-F.Gather it.expr it.kind it.asked)) c.gather.result (typing-Gather p it.expr it.kind it.asked it.is)
    (subst (λ (b : Bool). IsBuilt b c.gather.result) (sym (gather_vector it.kind it.expr rows)) (c.gather.ensures.total n s.0 (gather_few kept lists n p it.expr it.kind it.asked it.is can) near s.1 served.1 (gather_kept kept lists n p it.expr it.kind it.asked it.is can s.0 s.1) (gather_within kept lists n p it.expr it.kind it.asked it.is can s.0 s.1)))

pub over_one-returns-in-Stamp-clause-total : goal.over_one-returns-in-Stamp-clause-total
over_one-returns-in-Stamp-clause-total t c = λ change n near can.
    let p = c.args.p.now in
    let inner = c.get.result.now in
    let e = c.in-Stamp.is ∙ ap (λ (q : Plan). node.Stamp q) (sym c.get.ensures) in
    let rows = c.grown-rows.ensures.total n near (grows-Stamp c.args.patterns.now c.args.site.now.bases.now.lists n p inner e can) in
    as_kind p (N (PlanNode-F.Stamp (T inner))) c.stamped.result (typing-Stamp p inner e) (c.stamped.ensures.total (is_scalar (T inner).kind) rows)

pub over_one-returns-in_ok-labels-in-Absent-clause-total : goal.over_one-returns-in_ok-labels-in-Absent-clause-total
over_one-returns-in_ok-labels-in-Absent-clause-total t c = λ change n near can.
    let p = c.args.p.now in
    let inner = c.get-in-Absent.result.now in
    let e = c.in-Absent.is ∙ ap (λ (q : Plan). node.Absent c.in-Absent.labels q) (sym c.get-in-Absent.ensures) in
    let rows = c.grown-rows-in-Absent.ensures.total n near (grows-Absent c.args.patterns.now c.args.site.now.bases.now.lists n p c.in-Absent.labels inner e can) in
    as_kind p (N (PlanNode-F.Absent c.in-Absent.labels (T inner))) c.absent.result (typing-Absent p c.in-Absent.labels inner e) (c.absent.ensures.total (is_scalar (T inner).kind) rows)

pub over_one-returns-in_ok-rule-in-Relabel-clause-total : goal.over_one-returns-in_ok-rule-in-Relabel-clause-total
over_one-returns-in_ok-rule-in-Relabel-clause-total t c = λ change n near can.
    let p = c.args.p.now in
    let inner = c.get-in-Relabel.result.now in
    let rule = c.in-Relabel.rule in
    let e = c.in-Relabel.is ∙ ap (λ (q : Plan). node.Relabel rule q) (sym c.get-in-Relabel.ensures) in
    let rows = c.grown-rows-in-Relabel.ensures.total n near (grows-Relabel c.args.patterns.now c.args.site.now.bases.now.lists n p rule inner e can) in
    let these = relabel_kept c.args.patterns.now c.args.site.now.bases.now.lists n p rule inner e can in
    as_kind p (N (PlanNode-F.Relabel rule (T inner))) c.relabelled.result (typing-Relabel p rule inner e)
    (c.relabelled.ensures.total (is_scalar (T inner).kind) (subst (λ (r : Relabel). HasPatterns c.args.patterns.now r) (sym c.in_ok-rule-in-Relabel.ensures) these) rows)

pub over_one-returns-in_ok-copy-in-Filter-clause-total : goal.over_one-returns-in_ok-copy-in-Filter-clause-total
over_one-returns-in_ok-copy-in-Filter-clause-total t c = λ change n near can.
    let p = c.args.p.now in
    let base = c.get-in-Filter.result.now in
    let rules = c.in-Filter.rules in
    let e = c.in-Filter.is ∙ ap (λ (q : Plan). node.Filter q rules) (sym c.get-in-Filter.ensures) in
    let rows = c.grown-rows-in-Filter.ensures.total n near (grows-Filter c.args.patterns.now c.args.site.now.bases.now.lists n p base rules e can) in
    let these = filter_kept c.args.patterns.now c.args.site.now.bases.now.lists n p base rules e can in
    subst (λ (b : Bool). IsBuilt b c.relabelled-in-Filter.result) (sym (vector-Filter c.args.patterns.now c.args.site.now.bases.now.lists n p base rules e can))
    (c.relabelled-in-Filter.ensures.total (is_scalar (T base).kind) (subst (λ (r : List Rule). HaveTheirPatterns c.args.patterns.now r) (sym c.in_ok-copy-in-Filter.ensures) these) rows)

pub retyped-returns-in-ScalarOf-clause-total : goal.retyped-returns-in-ScalarOf-clause-total
retyped-returns-in-ScalarOf-clause-total t c = λ retyping n near can.
    let p = c.args.p.now in
    let inner = c.get.result.now in
    let e = c.in-ScalarOf.is ∙ ap (λ (q : Plan). node.ScalarOf q) (sym c.get.ensures) in
    let rows = c.grown-rows.ensures.total n near (grows-ScalarOf c.args.patterns.now c.args.site.now.bases.now.lists n p inner e can) in
    as_kind p (N (PlanNode-F.ScalarOf (T inner))) c.as_scalar.result (typing-ScalarOf p inner e) (c.as_scalar.ensures.total (is_scalar (T inner).kind) rows)

pub retyped-returns-in-Sort-clause-total : goal.retyped-returns-in-Sort-clause-total
retyped-returns-in-Sort-clause-total t c = λ retyping n near can.
    let p = c.args.p.now in
    let inner = c.get-in-Sort.result.now in
    let e = c.in-Sort.is ∙ ap (λ (q : Plan). node.Sort c.in-Sort.down q) (sym c.get-in-Sort.ensures) in
    let rows = c.grown-rows-in-Sort.ensures.total n near (grows-Sort c.args.patterns.now c.args.site.now.bases.now.lists n p c.in-Sort.down inner e can) in
    as_kind p (N (PlanNode-F.Sort c.in-Sort.down (T inner))) c.as_vector.result (typing-Sort p c.in-Sort.down inner e) (c.as_vector.ensures.total (is_scalar (T inner).kind) rows)

pub retyped-returns-in-VectorOf-clause-total : goal.retyped-returns-in-VectorOf-clause-total
retyped-returns-in-VectorOf-clause-total t c = λ retyping n near can.
    let p = c.args.p.now in
    let inner = c.get-in-VectorOf.result.now in
    let e = c.in-VectorOf.is ∙ ap (λ (q : Plan). node.VectorOf q) (sym c.get-in-VectorOf.ensures) in
    let rows = c.grown-rows-in-VectorOf.ensures.total n near (grows-VectorOf c.args.patterns.now c.args.site.now.bases.now.lists n p inner e can) in
    as_kind p (N (PlanNode-F.VectorOf (T inner))) c.as_vector-in-VectorOf.result (typing-VectorOf p inner e) (c.as_vector-in-VectorOf.ensures.total (is_scalar (T inner).kind) rows)

pub over_two-returns-in-Buckets-clause-total : goal.over_two-returns-in-Buckets-clause-total
over_two-returns-in-Buckets-clause-total t c = λ twofold n near can.
    let p = c.args.p.now in
    let one = c.get.result.now in
    let other = c.get-in-Buckets.result.now in
    let e = c.in-Buckets.is ∙ (λ i. node.Buckets (sym c.get-in-Buckets.ensures i) (sym c.get.ensures i)) in
    let both = grows-Buckets c.args.patterns.now c.args.site.now.bases.now.lists n p other one e can in
    let rows = c.grown-rows.ensures.total n near both.1 in
    let beside = c.grown-beside.ensures.total n near both.0 in
    as_kind p (N (PlanNode-F.Buckets (T other) (T one))) c.quantiles.result (typing-Buckets p other one e) (c.quantiles.ensures.total (is_scalar (T one).kind) rows (subst (λ (b : Bool). IsBuilt b c.grown-beside.result) (scalar-Buckets c.args.patterns.now c.args.site.now.bases.now.lists n p other one e can) beside))

pub over_two-returns-in_ok-pairing-in-Pair-clause-total : goal.over_two-returns-in_ok-pairing-in-Pair-clause-total
over_two-returns-in_ok-pairing-in-Pair-clause-total t c = λ twofold n near can.
    let p = c.args.p.now in
    let one = c.get-in-Pair.result.now in
    let other = c.get-in-Pair-2.result.now in
    let e = c.in-Pair.is ∙ (λ i. node.Pair c.in-Pair.op (sym c.get-in-Pair.ensures i) (sym c.get-in-Pair-2.ensures i) c.in-Pair.pairing) in
    let both = grows-Pair c.args.patterns.now c.args.site.now.bases.now.lists n p c.in-Pair.op one other c.in-Pair.pairing e can in
    let rows = c.grown-rows-in-Pair.ensures.total n near both.0 in
    let beside = c.grown-beside-in-Pair.ensures.total n near both.1 in
    as_kind p (N (PlanNode-F.Pair c.in-Pair.op (T one) (T other) c.in-Pair.pairing)) c.paired.result (typing-Pair p c.in-Pair.op one other c.in-Pair.pairing e) (c.paired.ensures.total (T one).kind (T other).kind rows beside)

pub over_two-returns-in_ok-pairing-in-Set-clause-total : goal.over_two-returns-in_ok-pairing-in-Set-clause-total
over_two-returns-in_ok-pairing-in-Set-clause-total t c = λ twofold n near can.
    let p = c.args.p.now in
    let one = c.get-in-Set.result.now in
    let other = c.get-in-Set-2.result.now in
    let e = c.in-Set.is ∙ (λ i. node.Set c.in-Set.op (sym c.get-in-Set.ensures i) (sym c.get-in-Set-2.ensures i) c.in-Set.pairing) in
    let both = grows-Set c.args.patterns.now c.args.site.now.bases.now.lists n p c.in-Set.op one other c.in-Set.pairing e can in
    let rows = c.grown-rows-in-Set.ensures.total n near both.0 in
    let beside = c.grown-beside-in-Set.ensures.total n near both.1 in
    as_kind p (N (PlanNode-F.Set c.in-Set.op (T one) (T other) c.in-Set.pairing)) c.combined.result (typing-Set p c.in-Set.op one other c.in-Set.pairing e) (c.combined.ensures.total (is_scalar (T one).kind) (is_scalar (T other).kind) rows beside)

pub over_two-returns-in-Ratio-clause-total : goal.over_two-returns-in-Ratio-clause-total
over_two-returns-in-Ratio-clause-total t c = λ twofold n near can.
    let p = c.args.p.now in
    let one = c.get-in-Ratio.result.now in
    let other = c.get-in-Ratio-2.result.now in
    let e = c.in-Ratio.is ∙ (λ i. node.Ratio (sym c.get-in-Ratio.ensures i) (sym c.get-in-Ratio-2.ensures i)) in
    let both = grows-Ratio c.args.patterns.now c.args.site.now.bases.now.lists n p one other e can in
    let rows = c.grown-rows-in-Ratio.ensures.total n near both.0 in
    let beside = c.grown-beside-in-Ratio.ensures.total n near both.1 in
    as_kind p (N (PlanNode-F.Ratio (T one) (T other))) c.divided.result (typing-Ratio p one other e) (c.divided.ensures.total (is_scalar (T one).kind) (is_scalar (T other).kind) rows beside)

pub element-returns-in-empty-clause-total : goal.element-returns-in-empty-clause-total
element-returns-in-empty-clause-total t c = λ f' inner' arguments is n near can.
    let p = c.args.p.now in
    let f = c.in-Element.f in
    let inner = c.get.result.now in
    let none = none_of c.as_slice.result.now c.in-Element.arguments c.as_slice.ensures c.in-empty.len_below in
    let e : p.node ≡ node.Element f inner [] = c.in-Element.is ∙ (λ i. node.Element f (sym c.get.ensures i) (none i)) in
    let rows = c.grown-rows.ensures.total n near (grows-Element c.args.patterns.now c.args.site.now.bases.now.lists n p f inner e can) in
    as_kind p (N (PlanNode-F.Element f (T inner) [])) c.applied.result (typing-Element p f inner [] e)
    (c.applied.ensures.total (T inner).kind (takes-Element c.args.patterns.now c.args.site.now.bases.now.lists n p f inner [] e can) rows)

pub element-returns-in-len1-clause-total : goal.element-returns-in-len1-clause-total
element-returns-in-len1-clause-total t c = λ f inner arguments is n near can.
    let p = c.args.p.now in
    let s = c.as_slice.result.now in
    let it = c.in-Element in
    let one = one_at s it.arguments p c.as_slice.ensures c.in-len1.len_at_least c.in-len1.len_below in
    c.beside_one.ensures.total it.f it.inner (slice_index_or s 0 p) (it.is ∙ ap (node.Element it.f it.inner) one) n near can

pub element-returns-in-len2-clause-total : goal.element-returns-in-len2-clause-total
element-returns-in-len2-clause-total t c = λ f inner arguments is n near can.
    let p = c.args.p.now in
    let s = c.as_slice.result.now in
    let it = c.in-Element in
    let two = two_at s it.arguments p c.as_slice.ensures c.in-len2.len_at_least c.in-len2.len_below in
    c.beside_two.ensures.total it.f it.inner (slice_index_or s 0 p) (slice_index_or s 1 p) (it.is ∙ ap (node.Element it.f it.inner) two) n near can

pub element-returns-in_default-as_slice-clause-total : goal.element-returns-in_default-as_slice-clause-total
element-returns-in_default-as_slice-clause-total t c = λ f inner arguments is n near can.
    let it = c.in-Element in
    let few = few-Element c.args.patterns.now c.args.site.now.bases.now.lists n c.args.p.now it.f it.inner it.arguments it.is can in
    let count = ap length c.as_slice.ensures in
    let many = c.in_default-as_slice.len_at_least in
    absurd (omega arith)

pub beside_one-returns-in-len1-clause-total : goal.beside_one-returns-in-len1-clause-total
beside_one-returns-in-len1-clause-total t c = λ f' inner' a' is n near can.
    let p = c.args.p.now in
    let f = c.in-Element.f in
    let inner = c.get.result.now in
    let a = c.a-item.result in
    let one = one_of c.as_slice.result.now c.in-Element.arguments a c.as_slice.ensures c.a-item.is c.in-len1.len_at_least c.in-len1.len_below in
    let e : p.node ≡ node.Element f inner (a ∷ []) = c.in-Element.is ∙ (λ i. node.Element f (sym c.get.ensures i) (one i)) in
    let both = grows-Element-one c.args.patterns.now c.args.site.now.bases.now.lists n p f inner a e can in
    let rows = c.grown-rows.ensures.total n near both.0 in
    let beside = c.grown-beside.ensures.total n near both.1 in
    as_kind p (N (PlanNode-F.Element f (T inner) (T a ∷ []))) c.applied_with.result (typing-Element p f inner (a ∷ []) e)
    (c.applied_with.ensures.total (T inner).kind (T a).kind (takes-Element c.args.patterns.now c.args.site.now.bases.now.lists n p f inner (a ∷ []) e can) rows beside)

pub beside_two-returns-in-len2-clause-total : goal.beside_two-returns-in-len2-clause-total
beside_two-returns-in-len2-clause-total t c = λ f' inner' a' b' is n near can.
    let p = c.args.p.now in
    let f = c.in-Element.f in
    let inner = c.get.result.now in
    let a = c.a-item.result in
    let b = c.b-item.result in
    let two = two_of c.as_slice.result.now c.in-Element.arguments a b c.as_slice.ensures c.a-item.is c.b-item.is c.in-len2.len_at_least c.in-len2.len_below in
    let e : p.node ≡ node.Element f inner (a ∷ b ∷ []) = c.in-Element.is ∙ (λ i. node.Element f (sym c.get.ensures i) (two i)) in
    let all = grows-Element-two c.args.patterns.now c.args.site.now.bases.now.lists n p f inner a b e can in
    let rows = c.grown-rows.ensures.total n near all.0 in
    let low = c.grown-low.ensures.total n near all.1 in
    let high = c.grown-high.ensures.total n near all.2 in
    as_kind p (N (PlanNode-F.Element f (T inner) (T a ∷ T b ∷ []))) c.clamped.result (typing-Element p f inner (a ∷ b ∷ []) e)
    (c.clamped.ensures.total (T inner).kind (T a).kind (T b).kind (takes-Element c.args.patterns.now c.args.site.now.bases.now.lists n p f inner (a ∷ b ∷ []) e can) rows low high)

pub window-returns-in-Subquery-clause-total : goal.window-returns-in-Subquery-clause-total
window-returns-in-Subquery-clause-total t c = λ f inner arguments e n near can.
    let s = c.in-Subquery in
    let windows = c.in-Window.windows in
    let i = sym (ap (λ (q : Plan). q.node) c.get.ensures) ∙ s.is in
    c.over_points.ensures.total c.in-Window.field-0 windows c.in-Window.field-2 s.inner s.range s.step s.moment c.in-Window.is i n near can

pub window-returns-in_default-node-clause-total : goal.window-returns-in_default-node-clause-total
window-returns-in_default-node-clause-total t c = λ f inner arguments e n near can.
    let p = c.args.p.now in
    let w = c.in-Window in
    let none : (q : Plan) (range step : Ms) (moment : Moment) → w.windows.node ≡ node.Subquery q range step moment → ⊥ =
    λ q range step moment i. c.in_default-node.not-Subquery q range step moment (ap (λ (q : Plan). q.node) c.get.ensures ∙ i) in
    c.over_ranges.ensures.total w.field-0 w.windows w.field-2 w.is (windows_range c.args.patterns.now c.args.site.now.bases.now.lists n p w.field-0 w.windows w.field-2 w.is can none) n near can

pub over_ranges-returns-then-is_gathered-clause-total : goal.over_ranges-returns-then-is_gathered-clause-total
over_ranges-returns-then-is_gathered-clause-total t c = λ f inner arguments e ranges n near can.
    let w = c.in-Window in
    let same = window_inner f w.field-0 inner w.windows arguments w.field-2 (sym e ∙ w.is) in
    let there : IsGathered w.windows = subst IsGathered c.get.ensures (c.if-is_gathered.ensures.0 refl) in
    c.over_gathers.ensures.total w.field-0 w.windows w.field-2 w.is (subst (λ (q : Plan). (serving q).ranges ≡ true) same ranges) there n near can

pub over_ranges-returns-clause-total : goal.over_ranges-returns-clause-total
over_ranges-returns-clause-total t c = λ f inner arguments e ranges n near can.
    let w = c.in-Window in
    let same = window_inner f w.field-0 inner w.windows arguments w.field-2 (sym e ∙ w.is) in
    let none : IsGathered w.windows → ⊥ = λ g. (let no : false ≡ true = c.if-is_gathered.ensures.1 (subst IsGathered (sym c.get.ensures) g) in absurd (cc)) in
    c.over_series.ensures.total w.field-0 w.windows w.field-2 w.is (subst (λ (q : Plan). (serving q).ranges ≡ true) same ranges) none n near can

pub over_series-returns-clause-total : goal.over_series-returns-clause-total
over_series-returns-clause-total t c = λ f' inner' arguments' e' ranges' none' n near can.
    let p = c.args.p.now in
    let f = c.in-Window.f in
    let windows = c.get.result.now in
    let arguments = c.in-Window.field-2 in
    let kept = c.args.patterns.now in
    let lists = c.args.site.now.bases.now.lists in
    let e = c.in-Window.is ∙ ap (λ (q : Plan). node.Window f q arguments) (sym c.get.ensures) in
    let beside = c.only_argument-beside.ensures.total n f c.in-Window.windows arguments c.in-Window.is near can in
    let j : node.Window f' inner' arguments' ≡ node.Window f c.in-Window.windows arguments = sym e' ∙ c.in-Window.is in
    let same = window_inner f' f inner' c.in-Window.windows arguments' arguments j in
    let ranges : (serving windows).ranges ≡ true = subst (λ (q : Plan). (serving q).ranges ≡ true) (same ∙ sym c.get.ensures) ranges' in
    let none : IsGathered windows → ⊥ = λ g. none' (subst IsGathered (c.get.ensures ∙ sym same) g) in
    let plan = range_plan kept lists n p f windows arguments e can ranges in
    as_kind p (N (PlanNode-F.Window f (T windows) (map T arguments))) c.series.result (typing-Window p f windows arguments e)
    (c.series.ensures.total kept n (T windows).kind (kinds_of (map T arguments)) (window_few kept lists n p f windows arguments e can) near plan none (inner_holds kept lists n p f windows arguments e can) (takes-Window kept lists n p f windows arguments e can) beside)

pub over_gathers-returns-clause-total : goal.over_gathers-returns-clause-total
over_gathers-returns-clause-total t c = λ f' inner' arguments' e' ranges' there' n near can.
    let p = c.args.p.now in
    let f = c.in-Window.f in
    let windows = c.get.result.now in
    let arguments = c.in-Window.field-2 in
    let kept = c.args.patterns.now in
    let lists = c.args.site.now.bases.now.lists in
    let e = c.in-Window.is ∙ ap (λ (q : Plan). node.Window f q arguments) (sym c.get.ensures) in
    let beside = c.only_argument-beside.ensures.total n f c.in-Window.windows arguments c.in-Window.is near can in
    let j : node.Window f' inner' arguments' ≡ node.Window f c.in-Window.windows arguments = sym e' ∙ c.in-Window.is in
    let same = window_inner f' f inner' c.in-Window.windows arguments' arguments j in
    let ranges : (serving windows).ranges ≡ true = subst (λ (q : Plan). (serving q).ranges ≡ true) (same ∙ sym c.get.ensures) ranges' in
    let there : IsGathered windows = subst IsGathered (same ∙ sym c.get.ensures) there' in
    let plan = range_plan kept lists n p f windows arguments e can ranges in
    as_kind p (N (PlanNode-F.Window f (T windows) (map T arguments))) c.gathered.result (typing-Window p f windows arguments e)
    (c.gathered.ensures.total n (T windows).kind (kinds_of (map T arguments)) (window_few kept lists n p f windows arguments e can) near plan there (takes-Window kept lists n p f windows arguments e can) beside)

pub over_points-returns-clause-total : goal.over_points-returns-clause-total
over_points-returns-clause-total t c = λ f' inner' arguments' q' range' step' moment' e' i' n near can.
    let p = c.args.p.now in
    let f = c.in-Window.f in
    let windows = c.in-Window.windows in
    let arguments = c.in-Window.field-2 in
    let kept = c.args.patterns.now in
    let lists = c.args.site.now.bases.now.lists in
    let s = c.in-Subquery in
    let q = c.get-2.result.now in
    let e = c.in-Window.is in
    let i = sym (ap (λ (q : Plan). q.node) c.get.ensures) ∙ s.is ∙ ap (λ (r : Plan). node.Subquery r s.range s.step s.moment) (sym c.get-2.ensures) in
    let limits = subquery_within kept lists n p f windows arguments e can q s.range s.step s.moment i in
    let below = c.in_ok-below.ensures.total n (window_few kept lists n p f windows arguments e can) near limits.0 limits.1 limits.2 in
    let rows = c.grown-rows.ensures.total (n + 1) below (subquery_grows kept lists n p f windows arguments e can q s.range s.step s.moment i) in
    let beside = c.only_argument-beside.ensures.total n f windows arguments e near can in
    as_kind p (N (PlanNode-F.Window f (T windows) (map T arguments))) c.points.result (typing-Window p f windows arguments e)
    (c.points.ensures.total (is_scalar (T q).kind) (T windows).kind (kinds_of (map T arguments)) (takes-Window kept lists n p f windows arguments e can) rows beside)

pub only_argument-returns-in-empty-clause-total : goal.only_argument-returns-in-empty-clause-total
only_argument-returns-in-empty-clause-total t c = λ n f inner arguments is near can.
    let own = c.in-Window.arguments in
    let none = none_of c.as_slice.result.now own c.as_slice.ensures c.in-empty.len_below in
    let same = window_arguments f c.in-Window.field-0 inner c.in-Window.field-1 arguments own (sym is ∙ c.in-Window.is) in
    subst (λ (xs : List Plan). IsOfKinds (kinds_of (map T xs)) None) (sym (same ∙ none)) tt

pub only_argument-returns-in_ok-grown-in-len1-clause-total : goal.only_argument-returns-in_ok-grown-in-len1-clause-total
only_argument-returns-in_ok-grown-in-len1-clause-total t c = λ n f inner arguments is near can.
    let own = c.in-Window.arguments in
    let a = c.a-item.result in
    let one = one_of c.as_slice.result.now own a c.as_slice.ensures c.a-item.is c.in-len1.len_at_least c.in-len1.len_below in
    let same = window_arguments f c.in-Window.field-0 inner c.in-Window.field-1 arguments own (sym is ∙ c.in-Window.is) in
    let e = c.in-Window.is ∙ ap (node.Window c.in-Window.field-0 c.in-Window.field-1) one in
    let grows = grows-Window c.args.patterns.now c.args.site.now.bases.now.lists n c.args.p.now c.in-Window.field-0 c.in-Window.field-1 a e can in
    subst (λ (xs : List Plan). IsOfKinds (kinds_of (map T xs)) (Some c.in_ok-grown-in-len1.field-0)) (sym (same ∙ one)) (c.in_ok-grown-in-len1.ensures.total n near grows)

pub only_argument-returns-in_err-grown-in-len1-clause-total : goal.only_argument-returns-in_err-grown-in-len1-clause-total
only_argument-returns-in_err-grown-in-len1-clause-total t c = λ n f inner arguments is near can.
    let own = c.in-Window.arguments in
    let a = c.a-item.result in
    let one = one_of c.as_slice.result.now own a c.as_slice.ensures c.a-item.is c.in-len1.len_at_least c.in-len1.len_below in
    let e = c.in-Window.is ∙ ap (node.Window c.in-Window.field-0 c.in-Window.field-1) one in
    let grows = grows-Window c.args.patterns.now c.args.site.now.bases.now.lists n c.args.p.now c.in-Window.field-0 c.in-Window.field-1 a e can in
    let r = c.from_residual in
    let p = err_from_is_err_and r.result r.ensures.1 in
    subst (IsArgumentBuilt (kinds_of (map T arguments))) (sym p.1) (p.2 ∙ c.in_err-grown-in-len1.ensures.total n near grows)

pub only_argument-returns-in_default-as_slice-clause-total : goal.only_argument-returns-in_default-as_slice-clause-total
only_argument-returns-in_default-as_slice-clause-total t c = λ n f inner arguments is near can.
    let it = c.in-Window in
    let few = few-Window c.args.patterns.now c.args.site.now.bases.now.lists n c.args.p.now it.field-0 it.field-1 it.arguments it.is can in
    let count = ap length c.as_slice.ensures in
    let many = c.in_default-as_slice.len_at_least in
    absurd (omega arith)

pub group-returns-in-len1-clause-total : goal.group-returns-in-len1-clause-total
group-returns-in-len1-clause-total t c = λ f' by' arguments' label' is n near can.
    let p = c.args.p.now in
    let f = c.in-Group.f in
    let by = c.in-Group.by in
    let label = c.in-Group.label in
    let a = c.a-item.result in
    let one = one_of c.as_slice.result.now c.in-Group.arguments a c.as_slice.ensures c.a-item.is c.in-len1.len_at_least c.in-len1.len_below in
    let e : p.node ≡ node.Group f by (a ∷ []) label = c.in-Group.is ∙ ap (λ (xs : List Plan). node.Group f by xs label) one in
    let rows = c.grown-rows.ensures.total n near (grows-Group c.args.patterns.now c.args.site.now.bases.now.lists n p f by a label e can) in
    let takes = takes-Group c.args.patterns.now c.args.site.now.bases.now.lists n p f by (a ∷ []) label e can in
    as_kind p (N (PlanNode-F.Group f by (T a ∷ []) label)) c.grouped.result (typing-Group p f by (a ∷ []) label e)
    (c.grouped.ensures.total (T a).kind (subst (λ (l : List ℕ). is_group f ((T a).kind ∷ []) l ≡ true) (sym c.in_ok-label.ensures) takes) rows)

pub group-returns-in-len2-clause-total : goal.group-returns-in-len2-clause-total
group-returns-in-len2-clause-total t c = λ f' by' arguments' label' is n near can.
    let p = c.args.p.now in
    let f = c.in-Group.f in
    let by = c.in-Group.by in
    let label = c.in-Group.label in
    let a = c.a-item-then-this-lt3.result in
    let b = c.b-item.result in
    let two = two_of c.as_slice.result.now c.in-Group.arguments a b c.as_slice.ensures c.a-item-then-this-lt3.is c.b-item.is c.in-len2.len_at_least c.in-len2.len_below in
    let e : p.node ≡ node.Group f by (a ∷ b ∷ []) label = c.in-Group.is ∙ ap (λ (xs : List Plan). node.Group f by xs label) two in
    let both = grows-Group-two c.args.patterns.now c.args.site.now.bases.now.lists n p f by a b label e can in
    let parameter = c.grown-parameter.ensures.total n near both.0 in
    let rows = c.grown-rows-in-len2.ensures.total n near both.1 in
    let takes = takes-Group c.args.patterns.now c.args.site.now.bases.now.lists n p f by (a ∷ b ∷ []) label e can in
    as_kind p (N (PlanNode-F.Group f by (T a ∷ T b ∷ []) label)) c.ranked.result (typing-Group p f by (a ∷ b ∷ []) label e)
    (c.ranked.ensures.total (T b).kind (T a).kind (subst (λ (l : List ℕ). is_group f ((T a).kind ∷ (T b).kind ∷ []) l ≡ true) (sym c.in_ok-label.ensures) takes) rows parameter)

pub group-returns-in-empty-clause-total : goal.group-returns-in-empty-clause-total
group-returns-in-empty-clause-total t c = λ f by arguments label is n near can.
    let it = c.in-Group in
    let few = few-Group c.args.patterns.now c.args.site.now.bases.now.lists n c.args.p.now it.f it.by it.arguments it.label it.is can in
    let count = ap length c.as_slice.ensures in
    let none = c.in-empty.len_below in
    absurd (omega arith)

pub group-returns-in_default-as_slice-clause-total : goal.group-returns-in_default-as_slice-clause-total
group-returns-in_default-as_slice-clause-total t c = λ f by arguments label is n near can.
    let it = c.in-Group in
    let few = few-Group c.args.patterns.now c.args.site.now.bases.now.lists n c.args.p.now it.f it.by it.arguments it.label it.is can in
    let count = ap length c.as_slice.ensures in
    let many = c.in_default-as_slice.len_at_least in
    absurd (omega arith)

pub once-returns-clause-total : goal.once-returns-clause-total
once-returns-clause-total t c = λ inner' is n near can.
    let p = c.args.p.now in
    let inner = c.get.result.now in
    let e = c.in-Once.is ∙ ap (λ (q : Plan). node.Once q) (sym c.get.ensures) in
    let below = c.in-Some.ensures.near n (c.first-first.ensures.near n near) in
    let child = c.grown-child.ensures.total n below (grows-Once c.args.patterns.now c.args.site.now.bases.now.lists n p inner e can) in
    as_kind p (T inner) c.repeated.result (typing-Once p inner e) (c.repeated.ensures.total (is_scalar (T inner).kind) child)

pub over_one-returns-in_err-labels-in-Absent-clause-total : goal.over_one-returns-in_err-labels-in-Absent-clause-total
over_one-returns-in_err-labels-in-Absent-clause-total t c = λ change n near can.
    let r = c.from_residual in
    let p = err_from_is_err_and r.result r.ensures.1 in
    subst (IsBuilt (is_scalar (T c.args.p.now).kind)) (sym p.1) p.2

pub over_one-returns-in_err-rule-in-Relabel-clause-total : goal.over_one-returns-in_err-rule-in-Relabel-clause-total
over_one-returns-in_err-rule-in-Relabel-clause-total t c = λ change n near can.
    let r = c.from_residual-in_err-rule-in-Relabel in
    let p = err_from_is_err_and r.result r.ensures.1 in
    subst (IsBuilt (is_scalar (T c.args.p.now).kind)) (sym p.1) p.2

pub over_one-returns-in_err-copy-in-Filter-clause-total : goal.over_one-returns-in_err-copy-in-Filter-clause-total
over_one-returns-in_err-copy-in-Filter-clause-total t c = λ change n near can.
    let r = c.from_residual-in_err-copy-in-Filter in
    let p = err_from_is_err_and r.result r.ensures.1 in
    subst (IsBuilt (is_scalar (T c.args.p.now).kind)) (sym p.1) p.2

pub over_two-returns-in_err-pairing-in-Pair-clause-total : goal.over_two-returns-in_err-pairing-in-Pair-clause-total
over_two-returns-in_err-pairing-in-Pair-clause-total t c = λ twofold n near can.
    let r = c.from_residual in
    let p = err_from_is_err_and r.result r.ensures.1 in
    subst (IsBuilt (is_scalar (T c.args.p.now).kind)) (sym p.1) p.2

pub over_two-returns-in_err-pairing-in-Set-clause-total : goal.over_two-returns-in_err-pairing-in-Set-clause-total
over_two-returns-in_err-pairing-in-Set-clause-total t c = λ twofold n near can.
    let r = c.from_residual-in_err-pairing-in-Set in
    let p = err_from_is_err_and r.result r.ensures.1 in
    subst (IsBuilt (is_scalar (T c.args.p.now).kind)) (sym p.1) p.2

-- ---- other nodes

pub over_one-returns-in_default-clause-total : goal.over_one-returns-in_default-clause-total
over_one-returns-in_default-clause-total t c = λ change n near can.
    let other = c.in_default in
    absurd (no_change c.args.p.now other.not-Stamp other.not-Absent other.not-Relabel other.not-Filter change)

pub retyped-returns-in_default-clause-total : goal.retyped-returns-in_default-clause-total
retyped-returns-in_default-clause-total t c = λ retyping n near can.
    let other = c.in_default in
    absurd (no_retyping c.args.p.now other.not-ScalarOf other.not-Sort other.not-VectorOf retyping)

pub over_two-returns-in_default-clause-total : goal.over_two-returns-in_default-clause-total
over_two-returns-in_default-clause-total t c = λ twofold n near can.
    let other = c.in_default in
    absurd (no_twofold c.args.p.now other.not-Buckets other.not-Pair other.not-Set other.not-Ratio twofold)

pub element-returns-in_default-clause-total : goal.element-returns-in_default-clause-total
element-returns-in_default-clause-total t c = λ f inner arguments is n near can. absurd (c.in_default.not-Element f inner arguments is)

pub beside_one-returns-in_default-clause-total : goal.beside_one-returns-in_default-clause-total
beside_one-returns-in_default-clause-total t c = λ f inner a is n near can. absurd (c.in_default.not-Element f inner (a ∷ []) is)

pub beside_two-returns-in_default-clause-total : goal.beside_two-returns-in_default-clause-total
beside_two-returns-in_default-clause-total t c = λ f inner a b is n near can. absurd (c.in_default.not-Element f inner (a ∷ b ∷ []) is)

pub window-returns-in_default-clause-total : goal.window-returns-in_default-clause-total
window-returns-in_default-clause-total t c = λ f inner arguments is n near can. absurd (c.in_default.not-Window f inner arguments is)

pub over_series-returns-in_default-clause-total : goal.over_series-returns-in_default-clause-total
over_series-returns-in_default-clause-total t c = λ f inner arguments is ranges none n near can. absurd (c.in_default.not-Window f inner arguments is)

pub over_ranges-returns-in_default-clause-total : goal.over_ranges-returns-in_default-clause-total
over_ranges-returns-in_default-clause-total t c = λ f inner arguments is ranges n near can. absurd (c.in_default.not-Window f inner arguments is)

pub over_gathers-returns-in_default-clause-total : goal.over_gathers-returns-in_default-clause-total
over_gathers-returns-in_default-clause-total t c = λ f inner arguments is ranges there n near can. absurd (c.in_default.not-Window f inner arguments is)

pub over_points-returns-in_default-clause-total : goal.over_points-returns-in_default-clause-total
over_points-returns-in_default-clause-total t c = λ f inner arguments q range step moment is i n near can. absurd (c.in_default.not-Window f inner arguments is)

pub only_argument-returns-in_default-clause-total : goal.only_argument-returns-in_default-clause-total
only_argument-returns-in_default-clause-total t c = λ n f inner arguments is near can. absurd (c.in_default.not-Window f inner arguments is)

pub group-returns-in_default-clause-total : goal.group-returns-in_default-clause-total
group-returns-in_default-clause-total t c = λ f by arguments label is n near can. absurd (c.in_default.not-Group f by arguments label is)

pub once-returns-in_default-clause-total : goal.once-returns-in_default-clause-total
once-returns-in_default-clause-total t c = λ inner is n near can. absurd (c.in_default.not-Once inner is)

-- ---- nodes with other arguments

pub beside_one-returns-in-empty-clause-total : goal.beside_one-returns-in-empty-clause-total
beside_one-returns-in-empty-clause-total t c = λ f inner a is n near can.
    let it = c.in-Element in
    let same = element_arguments f it.f inner it.inner (a ∷ []) it.arguments (sym is ∙ it.is) in
    let count = ap length c.as_slice.ensures in
    let wanted = ap length same in
    let other = c.in-empty.len_below in
    absurd (omega arith)

pub beside_one-returns-in_default-as_slice-clause-total : goal.beside_one-returns-in_default-as_slice-clause-total
beside_one-returns-in_default-as_slice-clause-total t c = λ f inner a is n near can.
    let it = c.in-Element in
    let same = element_arguments f it.f inner it.inner (a ∷ []) it.arguments (sym is ∙ it.is) in
    let count = ap length c.as_slice.ensures in
    let wanted = ap length same in
    let other = c.in_default-as_slice.len_at_least in
    absurd (omega arith)

pub beside_two-returns-in-empty-clause-total : goal.beside_two-returns-in-empty-clause-total
beside_two-returns-in-empty-clause-total t c = λ f inner a b is n near can.
    let it = c.in-Element in
    let same = element_arguments f it.f inner it.inner (a ∷ b ∷ []) it.arguments (sym is ∙ it.is) in
    let count = ap length c.as_slice.ensures in
    let wanted = ap length same in
    let other = c.in-empty.len_below in
    absurd (omega arith)

pub beside_two-returns-in-len1-clause-total : goal.beside_two-returns-in-len1-clause-total
beside_two-returns-in-len1-clause-total t c = λ f inner a b is n near can.
    let it = c.in-Element in
    let same = element_arguments f it.f inner it.inner (a ∷ b ∷ []) it.arguments (sym is ∙ it.is) in
    let count = ap length c.as_slice.ensures in
    let wanted = ap length same in
    let other = c.in-len1.len_below in
    absurd (omega arith)

pub beside_two-returns-in_default-as_slice-clause-total : goal.beside_two-returns-in_default-as_slice-clause-total
beside_two-returns-in_default-as_slice-clause-total t c = λ f inner a b is n near can.
    let it = c.in-Element in
    let same = element_arguments f it.f inner it.inner (a ∷ b ∷ []) it.arguments (sym is ∙ it.is) in
    let count = ap length c.as_slice.ensures in
    let wanted = ap length same in
    let other = c.in_default-as_slice.len_at_least in
    absurd (omega arith)

-- ---- other windows, and instants beyond the times

pub over_points-returns-in_default-node-clause-total : goal.over_points-returns-in_default-node-clause-total
over_points-returns-in_default-node-clause-total t c = λ f inner arguments q range step moment is i n near can.
    let it = c.in-Window in
    let same = window_inner f it.f inner it.windows arguments it.field-2 (sym is ∙ it.is) in
    absurd (c.in_default-node.not-Subquery q range step moment (ap (λ (r : Plan). r.node) (c.get.ensures ∙ sym same) ∙ i))

pub once-returns-in_default-at-clause-total : goal.once-returns-in_default-at-clause-total
once-returns-in_default-at-clause-total t c = λ inner is n near can.
    absurd (none_some c.at.result c.in_default-at.not-Some (c.at.ensures.there c.first-first.ensures.time))

-- ---- want of memory

pub over_points-returns-in_err-below-clause-total : goal.over_points-returns-in_err-below-clause-total
over_points-returns-in_err-below-clause-total t c = λ f' inner' arguments' q' range' step' moment' e' i' n near can.
    let p = c.args.p.now in
    let f = c.in-Window.f in
    let windows = c.in-Window.windows in
    let arguments = c.in-Window.field-2 in
    let kept = c.args.patterns.now in
    let lists = c.args.site.now.bases.now.lists in
    let s = c.in-Subquery in
    let e = c.in-Window.is in
    let i = sym (ap (λ (q : Plan). q.node) c.get.ensures) ∙ s.is in
    let limits = subquery_within kept lists n p f windows arguments e can s.inner s.range s.step s.moment i in
    let short = c.in_err-below.ensures.total n (window_few kept lists n p f windows arguments e can) near limits.0 limits.1 limits.2 in
    let r = c.from_residual in
    let h = err_from_is_err_and r.result r.ensures.1 in
    subst (IsBuilt (is_scalar (T p).kind)) (sym h.1) (h.2 ∙ short)

pub group-returns-in_err-by-clause-total : goal.group-returns-in_err-by-clause-total
group-returns-in_err-by-clause-total t c = λ f by arguments label is n near can.
    let r = c.from_residual in
    let p = err_from_is_err_and r.result r.ensures.1 in
    subst (IsBuilt (is_scalar (T c.args.p.now).kind)) (sym p.1) p.2

pub group-returns-in_err-label-clause-total : goal.group-returns-in_err-label-clause-total
group-returns-in_err-label-clause-total t c = λ f by arguments label is n near can.
    let r = c.from_residual-in_err-label in
    let p = err_from_is_err_and r.result r.ensures.1 in
    subst (IsBuilt (is_scalar (T c.args.p.now).kind)) (sym p.1) p.2
