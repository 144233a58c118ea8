use Rattle.std.proofs.Common.{◌≡◌, ◌∙◌, [], None, Some, ap, sym}
use Rattle.std.specs.Prelude.{int_lt, unwrap_or, if◌then◌else◌}
use Rattle.std.specs.Option.{option_and_then, option_map}
use Rattle.ticks.specs.declared.moment.Ms.{Ms}
use Rattle.xfrac.specs.declared.value.Held.{Held}
use Rattle.sample_store.specs.Samples.{Names, Samples, samples_at}
use Rattle.promql_meaning.specs.Selecting.{fresh_sample, newest}
use Rattle.plain_eval.proofs.Latest.{latest_none, latest_one}
use Rattle.plain_eval.proofs.selecting.newest.Goals as goal

pub returns-in-Some-clause-newest : goal.returns-in-Some-clause-newest
returns-in-Some-clause-newest g c = λ one is.
    let S = samples_at c.args.store.now c.args.s in
    let same : S ≡ one.1 = ap (λ o. unwrap_or (option_map (λ (s : Names × Samples). s.1) o) []) is in
    let x : Ms × Held = (c.in-Some.time, c.in-Some.held) in
    c.fresh_behind.ensures
    ∙ ap (λ (edge : Ms). option_and_then fresh_sample (if int_lt edge.0 c.in-Some.time.0 then Some x else None)) c.before_range.ensures
    ∙ sym (latest_one c.args.closed c.args.m S _ _ c.seek-cursor.ensures.sorted c.seek-cursor.ensures.stands c.seek-cursor.ensures.ahead x c.in-Some.ensures.sample)
    ∙ ap (newest c.args.closed c.args.m.0) same

pub returns-in-None-clause-newest : goal.returns-in-None-clause-newest
returns-in-None-clause-newest g c = λ one is.
    let S = samples_at c.args.store.now c.args.s in
    let same : S ≡ one.1 = ap (λ o. unwrap_or (option_map (λ (s : Names × Samples). s.1) o) []) is in
    sym (latest_none c.args.closed c.args.m S _ _ c.seek-cursor.ensures.sorted c.seek-cursor.ensures.stands c.seek-cursor.ensures.ahead c.in-None.ensures.sample) ∙ ap (newest c.args.closed c.args.m.0) same
