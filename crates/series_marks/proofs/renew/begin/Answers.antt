use Rattle.std.proofs.Common.{◌≡◌, ◌∙◌, ◌+◌, ◌++◌, ◌≤◌, None, drop, if◌then◌else◌, length, sym, ap, subst, arith}
use Rattle.std.specs.Option.{option_to_list}
use Rattle.sample_store.specs.Samples.{Samples, later_than, samples_at}
use Rattle.ticks.specs.declared.moment.Ms.{Ms}
use Rattle.series_marks.specs.declared.mark.Mark.{Mark}
use Rattle.series_marks.specs.Marked.{is_mark}
use Rattle.series_marks.specs.Counted.{picked_first}
use Rattle.series_marks.specs.Reads.{after, ahead_of, head_of, later_of, until}
use Rattle.series_marks.proofs.Newest.{after_reach, newest_among, newest_is}
use Rattle.series_marks.proofs.Stores.{after_edge, few_behind, rest_behind}
use Rattle.series_marks.proofs.renew.begin.Goals as goal

pub returns-clause-mark : goal.returns-clause-mark
returns-clause-mark g c =
    let S = samples_at c.args.store.now c.args.s in
    let e = c.args.edge in
    let m = c.args.m in
    let B = c.seek-cursor.result.before in
    let R = c.seek-cursor.result.rest in
    let last = c.newest_behind-last.result in
    let ahead = c.next_unless-ahead.result in
    let place = c.place-place.result in
    let at : R ≡ after (later_of e m).0 S = c.seek-cursor.ensures.ahead ∙ ap (λ (t : Ms). later_than t S) c.later.ensures ∙ after_edge (later_of e m) S c.requires.rises in
    let new = c.next_unless-ahead.new.cursor in
    let whole : new.before ++ new.rest ≡ S = c.next_unless-ahead.ensures.whole ∙ c.seek-cursor.ensures.stands in
    let behind : new.rest ≡ drop place S = rest_behind S place new.before new.rest whole (sym c.place-place.ensures) in
    let rest : option_to_list ahead ++ drop place S ≡ R = ap (λ (t : Samples). option_to_list ahead ++ t) (sym behind) ∙ c.next_unless-ahead.ensures.rest in
    is_mark e.0 m.0 S (record { place = place; last = last; ahead = ahead }) (newest_is e m S B R c.requires.rises c.seek-cursor.ensures.stands at last c.newest_behind-last.ensures.last) (rest ∙ at ∙ sym (after_reach e m S))
    (c.next_unless-ahead.ensures.ahead ∙ ap (λ b. if b then None else head_of R) c.stands_at.ensures ∙ ap (ahead_of m.0 last) (sym rest)) (few_behind S place new.before new.rest whole c.place-place.ensures)

pub returns-clause-read : goal.returns-clause-read
returns-clause-read g c =
    let S = samples_at c.args.store.now c.args.s in
    let T = after c.args.edge.0 S in
    let is = returns-clause-mark g c in
    let last : length (option_to_list c.newest_behind-last.result) ≤ length (until c.args.m.0 T) =
    subst (λ (o : _). length (option_to_list o) ≤ length (until c.args.m.0 T)) (sym (ap (λ (k : Mark). k.last) is)) (newest_among c.args.m.0 T) in
    let ahead = ap (λ (k : Mark). length (option_to_list k.ahead)) is in
    let one = c.newest_behind-last.ensures.fetched in
    let two = c.next_unless-ahead.ensures.fetched in
    let none = c.seek-cursor.ensures.fetched in
    omega (arith, last, ahead, one, two, none)

pub returns-clause-counted : goal.returns-clause-counted
returns-clause-counted g c =
    let S = samples_at c.args.store.now c.args.s in
    let is = returns-clause-mark g c in
    let one = c.newest_behind-last.ensures.fetched in
    let none = c.seek-cursor.ensures.fetched in
    picked_first c.args.edge.0 c.args.m.0 S c.next_unless-ahead.new.work.fetched c.newest_behind-last.new.work.fetched c.args.work.now.fetched (length (option_to_list c.newest_behind-last.result)) (length (option_to_list c.next_unless-ahead.result))
    (omega (arith, one, none)) c.next_unless-ahead.ensures.fetched (ap (λ (k : Mark). length (option_to_list k.last)) is) (ap (λ (k : Mark). length (option_to_list k.ahead)) is)
