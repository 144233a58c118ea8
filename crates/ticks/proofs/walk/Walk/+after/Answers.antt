use Rattle.std.proofs.Common.{rules, Some, is_some, ap, ◌≡◌, ◌∙◌, arith, subst, sym, to_z, of_z, w64}
use Rattle.ticks.specs.declared.walk.Walk.TheViews.{the_lemmas}
use Rattle.ticks.specs.Walks.{HasTimes, IsBarren, LeadsToTimes, moment_at}
use Rattle.ticks.proofs.Walks.{started, moved, falls, times-of, found-instant, found-least, all-barren, fixed-barren, none-holds, HasLooked}
use Rattle.ticks.proofs.walk.Walk.+after.Goals as goal

pub after-instant-requires : goal.after-instant-requires
after-instant-requires t c =
    let h = times-of c.args.self.now c.in-Multiples.outer c.in-Multiples.moment c.in-Multiples.range c.in-Multiples.step c.args.t.0 c.in-Multiples.is c.requires.times in
    let d = c.decreases in
    let a = c.get.ensures in
    let i = c.in-Multiples.is in
    (search (rules, the_lemmas), subst LeadsToTimes (sym c.get.ensures) h.0)

pub loop-instant-init : goal.loop-instant-init
loop-instant-init t c =
    let h = times-of c.args.self.now c.in-Multiples.outer c.in-Multiples.moment c.in-Multiples.range c.in-Multiples.step c.args.t.0 c.in-Multiples.is c.requires.times in
    let e = c.after-instant.ensures in
    started c.in-Multiples.outer c.in-Multiples.moment c.in-Multiples.range.0 c.in-Multiples.step.0 c.args.t.0 c.get.result.now c.get.ensures c.start.result
    c.after-instant.result h.0 c.start.ensures e.instant e.least e.none

pub at-requires : goal.at-requires
at-requires t c =
    let h = times-of c.args.self.now c.in-Multiples.outer c.in-Multiples.moment c.in-Multiples.range c.in-Multiples.step c.args.t.0 c.in-Multiples.is c.requires.times in
    let looked : HasLooked c.in-Multiples.outer c.in-Multiples.moment c.in-Multiples.range.0 c.in-Multiples.step.0 c.args.t.0 (Some c.in-Some.at) =
    subst (λ z. HasLooked c.in-Multiples.outer c.in-Multiples.moment c.in-Multiples.range.0 c.in-Multiples.step.0 c.args.t.0 z) c.in-Some.is c.loop-instant.invariant in
    (h.3 c.in-Some.at.0 looked.outer_instant).ends

pub multiple_after-found-requires-clause-times : goal.multiple_after-found-requires-clause-times
multiple_after-found-requires-clause-times t c =
    let h = times-of c.args.self.now c.in-Multiples.outer c.in-Multiples.moment c.in-Multiples.range c.in-Multiples.step c.args.t.0 c.in-Multiples.is c.requires.times in
    let looked : HasLooked c.in-Multiples.outer c.in-Multiples.moment c.in-Multiples.range.0 c.in-Multiples.step.0 c.args.t.0 (Some c.in-Some.at) =
    subst (λ z. HasLooked c.in-Multiples.outer c.in-Multiples.moment c.in-Multiples.range.0 c.in-Multiples.step.0 c.args.t.0 z) c.in-Some.is c.loop-instant.invariant in
    let times : HasTimes c.at.result c.in-Multiples.range.0 =
    subst (λ z. HasTimes z c.in-Multiples.range.0) (sym c.at.ensures) (h.3 c.in-Some.at.0 looked.outer_instant) in
    search (rules, times)

pub multiple_after-found-requires-clause-step : goal.multiple_after-found-requires-clause-step
multiple_after-found-requires-clause-step t c =
    (times-of c.args.self.now c.in-Multiples.outer c.in-Multiples.moment c.in-Multiples.range c.in-Multiples.step c.args.t.0 c.in-Multiples.is c.requires.times).2

pub multiple_after-found-requires-clause-range : goal.multiple_after-found-requires-clause-range
multiple_after-found-requires-clause-range t c =
    (times-of c.args.self.now c.in-Multiples.outer c.in-Multiples.moment c.in-Multiples.range c.in-Multiples.step c.args.t.0 c.in-Multiples.is c.requires.times).1

pub returns-then-is_some-clause-instant : goal.returns-then-is_some-clause-instant
returns-then-is_some-clause-instant t c =
    let looked : HasLooked c.in-Multiples.outer c.in-Multiples.moment c.in-Multiples.range.0 c.in-Multiples.step.0 c.args.t.0 (Some c.in-Some.at) =
    subst (λ z. HasLooked c.in-Multiples.outer c.in-Multiples.moment c.in-Multiples.range.0 c.in-Multiples.step.0 c.args.t.0 z) c.in-Some.is c.loop-instant.invariant in
    let e : to_z w64 (of_z w64 c.at.result) ≡ moment_at c.in-Multiples.moment c.in-Some.at.0 = search (rules, c.at.ensures) in
    found-instant c.args.self.now c.in-Multiples.outer c.in-Multiples.moment c.in-Multiples.range c.in-Multiples.step c.args.t.0 c.in-Multiples.is c.in-Some.at _ e
    c.multiple_after-found.result looked c.multiple_after-found.ensures.found

pub returns-then-is_some-clause-least : goal.returns-then-is_some-clause-least
returns-then-is_some-clause-least t c =
    let looked : HasLooked c.in-Multiples.outer c.in-Multiples.moment c.in-Multiples.range.0 c.in-Multiples.step.0 c.args.t.0 (Some c.in-Some.at) =
    subst (λ z. HasLooked c.in-Multiples.outer c.in-Multiples.moment c.in-Multiples.range.0 c.in-Multiples.step.0 c.args.t.0 z) c.in-Some.is c.loop-instant.invariant in
    let e : to_z w64 (of_z w64 c.at.result) ≡ moment_at c.in-Multiples.moment c.in-Some.at.0 = search (rules, c.at.ensures) in
    found-least c.args.self.now c.in-Multiples.outer c.in-Multiples.moment c.in-Multiples.range c.in-Multiples.step c.args.t.0 c.in-Multiples.is c.in-Some.at _ e
    c.multiple_after-found.result looked c.multiple_after-found.ensures.found

pub returns-then-is_some-2-clause-none : goal.returns-then-is_some-2-clause-none
returns-then-is_some-2-clause-none t c =
    let here : IsBarren c.in-Multiples.moment.closed (moment_at c.in-Multiples.moment c.in-Some.at.0) c.in-Multiples.range.0 c.in-Multiples.step.0 c.args.t.0 =
    subst (λ z. IsBarren c.in-Multiples.moment.closed z c.in-Multiples.range.0 c.in-Multiples.step.0 c.args.t.0) (let d : to_z w64 (of_z w64 c.at.result) ≡ moment_at c.in-Multiples.moment c.in-Some.at.0 = search (rules, c.at.ensures) in d)
    (none-holds c.multiple_after-found.result _ (sym c.is_some.ensures ∙ c.if-is_some.false) c.multiple_after-found.ensures.none) in
    fixed-barren c.args.self.now c.in-Multiples.outer c.in-Multiples.moment c.in-Multiples.range c.in-Multiples.step c.args.t.0 c.in-Multiples.is c.in-Some.at
    (sym c.is_some-in-Some.ensures ∙ c.if-is_some-2.true) here

pub after-instant-requires-in-Some : goal.after-instant-requires-in-Some
after-instant-requires-in-Some t c =
    let h = times-of c.args.self.now c.in-Multiples.outer c.in-Multiples.moment c.in-Multiples.range c.in-Multiples.step c.args.t.0 c.in-Multiples.is c.requires.times in
    let d = c.decreases in
    let a = c.get-in-Some.ensures in
    let i = c.in-Multiples.is in
    (grind (arith, the_lemmas), subst LeadsToTimes (sym c.get-in-Some.ensures) h.0)

pub loop-instant-smaller : goal.loop-instant-smaller
loop-instant-smaller t c =
    let h = times-of c.args.self.now c.in-Multiples.outer c.in-Multiples.moment c.in-Multiples.range c.in-Multiples.step c.args.t.0 c.in-Multiples.is c.requires.times in
    let looked : HasLooked c.in-Multiples.outer c.in-Multiples.moment c.in-Multiples.range.0 c.in-Multiples.step.0 c.args.t.0 (Some c.in-Some.at) =
    subst (λ z. HasLooked c.in-Multiples.outer c.in-Multiples.moment c.in-Multiples.range.0 c.in-Multiples.step.0 c.args.t.0 z) c.in-Some.is c.loop-instant.invariant in
    let e = c.after-instant-in-Some.ensures in
    let f = falls c.in-Multiples.outer c.in-Multiples.moment c.in-Multiples.range.0 c.in-Multiples.step.0 c.args.t.0 c.get-in-Some.result.now c.get-in-Some.ensures h.0
    c.in-Some.at c.after-instant-in-Some.result looked e.instant e.later in
    search (rules, f)

pub loop-instant-preserved : goal.loop-instant-preserved
loop-instant-preserved t c =
    let looked : HasLooked c.in-Multiples.outer c.in-Multiples.moment c.in-Multiples.range.0 c.in-Multiples.step.0 c.args.t.0 (Some c.in-Some.at) =
    subst (λ z. HasLooked c.in-Multiples.outer c.in-Multiples.moment c.in-Multiples.range.0 c.in-Multiples.step.0 c.args.t.0 z) c.in-Some.is c.loop-instant.invariant in
    let e = c.after-instant-in-Some.ensures in
    let here : IsBarren c.in-Multiples.moment.closed (moment_at c.in-Multiples.moment c.in-Some.at.0) c.in-Multiples.range.0 c.in-Multiples.step.0 c.args.t.0 =
    subst (λ z. IsBarren c.in-Multiples.moment.closed z c.in-Multiples.range.0 c.in-Multiples.step.0 c.args.t.0) (let d : to_z w64 (of_z w64 c.at.result) ≡ moment_at c.in-Multiples.moment c.in-Some.at.0 = search (rules, c.at.ensures) in d)
    (none-holds c.multiple_after-found.result _ (sym c.is_some.ensures ∙ c.if-is_some.false) c.multiple_after-found.ensures.none) in
    moved c.in-Multiples.outer c.in-Multiples.moment c.in-Multiples.range.0 c.in-Multiples.step.0 c.args.t.0 c.get-in-Some.result.now c.get-in-Some.ensures
    c.in-Some.at c.after-instant-in-Some.result looked here e.instant e.least e.none

pub returns-in_default-clause-none : goal.returns-in_default-clause-none
returns-in_default-clause-none t c =
    all-barren c.args.self.now c.in-Multiples.outer c.in-Multiples.moment c.in-Multiples.range c.in-Multiples.step c.args.t.0 c.in-Multiples.is
    c.loop-instant.instant (ap is_some c.in_default.is) c.loop-instant.invariant
