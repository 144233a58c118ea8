use Rattle.std.proofs.Common.{sym, subst}
use Rattle.ticks.specs.Walks.{LeadsToTimes}
use Rattle.engine_local.proofs.Asking.{window_asked}
use Rattle.engine_local.proofs.Instants.{listing_of, made_fresh}
use Rattle.engine_local.proofs.own.OwnAsk.new.Goals as goal

pub invariant_of-result : goal.invariant_of-result
invariant_of-result c =
    let law = c.walks_are_listed.ensures in
    let ask = c.in_ok-ask_of in
    record { listing = listing_of law.one law.no_other ask.field-0.walk (subst LeadsToTimes (sym ask.ensures.walk) c.requires.times) }

pub returns : goal.returns
returns c =
    let law = c.walks_are_listed.ensures in
    let ask = c.in_ok-ask_of in
    let walk = c.args.walk.now in
    let first = c.first.ensures in
    made_fresh law.one c.args.part.now walk c.args.span.now c.args.patterns.now c.requires.times _ ask.field-0 _ c.first.result _ c.in_ok-copy.ensures
    (record {
      walk_is = ask.ensures.walk;
      kind_is = ask.ensures.kind;
      window = window_asked c.args.span.now c.args.patterns.now c.args.part.now ask.field-0 c.requires.form ask.ensures.window;
    })
    c.in_ok-copied.ensures
    (λ all listed. law.first walk all c.first.result listed (record { instant = first.instant; least = first.least; none = first.none }))
