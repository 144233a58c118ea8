use Rattle.std.proofs.Common.{◌≡◌, ◌∙◌, [], Option, None, Some, ap, false, refl, subst, sym, true}
use Rattle.std.specs.Prelude.{IfNone, IsTrue}
use Rattle.exchange.specs.Requests.{AreRising}
use Rattle.match_rule.specs.Patterns.{HaveTheirPatterns}
use Rattle.plan_parts.specs.Courses.{IsLength, IsMomentWithin}
use Rattle.plan_serving.specs.Asking.{RangeAsked, asked_range, is_rising}
use Rattle.window_parts.proofs.Askable.{same_range}
use Rattle.window_parts.proofs.Handed.{not_asked}
use Rattle.window_parts.proofs.given.windows_of.Goals as goal

pub returns-clause-askable : goal.returns-clause-askable
returns-clause-askable c =
    let s = c.in-Some.selector in
    let moment = c.settled-moment.ensures.moment [] c.args.patterns.now in
    record {
      asked = record { selector = s.now; range = c.in-Some.range };
      asks = c.in-Some.ensures.some;
      reaches = refl;
      rising = subst AreRising c.as_slice.ensures (c.if-not-are_rising.ensures.rising refl);
      rules = subst (HaveTheirPatterns c.args.patterns.now) c.as_slice-2.ensures (c.if-not-are_rules_kept.ensures.0 refl);
      timed = record { fixed = moment.fixed; offset = moment.offset };
      closed = c.settled-moment.ensures.closed;
      forward = c.if-not-are_within.ensures.forward refl;
      times = c.if-not-are_within.ensures.times refl;
    }

pub returns-in_default-clause-total : goal.returns-in_default-clause-total
returns-in_default-clause-total c = λ n few near w.
    let g = c.args.gathering.now in
    absurd (not_asked c.range_asked.result (asked_range g.part.kind g.part.expr) w.asked c.in_default.not-Some c.range_asked.ensures.none w.asks)

pub returns-then-not-are_rising-clause-total : goal.returns-then-not-are_rising-clause-total
returns-then-not-are_rising-clause-total c = λ n few near w.
    let none : false ≡ true = c.if-not-are_rising.ensures.told ∙ ap is_rising c.as_slice.ensures ∙ w.rising in absurd (cc)

pub returns-then-not-are_rules_kept-clause-total : goal.returns-then-not-are_rules_kept-clause-total
returns-then-not-are_rules_kept-clause-total c = λ n few near w.
    let same = same_range w.asked (record { selector = c.in-Some.selector.now; range = c.in-Some.range }) (sym w.asks ∙ c.in-Some.ensures.some) in
    let own = subst (λ (a : RangeAsked). HaveTheirPatterns c.args.patterns.now a.selector.rules) same w.rules in
    let none : false ≡ true = c.if-not-are_rules_kept.ensures.1 (subst (HaveTheirPatterns c.args.patterns.now) (sym c.as_slice-2.ensures) own) in absurd (cc)

pub returns-then-not-are_within-clause-total : goal.returns-then-not-are_within-clause-total
returns-then-not-are_within-clause-total c = λ n few near w.
    let same = same_range w.asked (record { selector = c.in-Some.selector.now; range = c.in-Some.range }) (sym w.asks ∙ c.in-Some.ensures.some) in
    let timed = subst (λ (a : RangeAsked). IsMomentWithin a.selector.moment) same w.timed in
    let long = subst (λ (a : RangeAsked). IsLength a.range) same w.long in
    let none : false ≡ true = c.if-not-are_within.ensures.near n few (record { near = near; timed = c.settled-moment.ensures.near timed; long = long }) in absurd (cc)
