use Rattle.std.proofs.Common.{◌≡◌, ◌∙◌, ◌+◌, ◌∷◌, length, drop, true, sym, ap, arith, rules}
use Rattle.std.specs.Prelude.{◌<ℤ◌, ◌≤ℤ◌}
use Rattle.sample_store.specs.Samples.{Samples, samples_at}
use Rattle.series_marks.specs.Passing.{after_goes, after_past, after_there, drop_next, drop_within, last_goes, rises_next}
use Rattle.series_marks.specs.Reads.{Sample, stands_at, until}
use Rattle.series_marks.specs.Walked.{last_there}
use Rattle.op_window.proofs.Fills.{filled_end, filled_more, one_more, until_goes, until_past, until_there}
use Rattle.op_window.proofs.fill.fill_on.Goals as goal

pub returns-in-None-clause-filled : goal.returns-in-None-clause-filled
returns-in-None-clause-filled g c = filled_end c.loop-m.slices c.args.slices.now (until c.args.m.0 c.loop-m.rest.rest) (until c.args.m.0 (drop c.args.place (samples_at c.args.store.now c.args.s))) (ap (until c.args.m.0) c.in-None.ensures.sample.0) c.loop-m.invariant.filled

pub returns-then-time-m-clause-filled : goal.returns-then-time-m-clause-filled
returns-then-time-m-clause-filled g c =
    let late : c.args.m.0 <ℤ c.in-Some.time.0 = search rules in
    let x : Sample = (c.in-Some.time, c.in-Some.held) in
    filled_end c.loop-m.slices c.args.slices.now (until c.args.m.0 c.loop-m.rest.rest) (until c.args.m.0 (drop c.args.place (samples_at c.args.store.now c.args.s))) (until_past c.args.m.0 x c.next.new.self.rest c.loop-m.rest.rest c.in-Some.ensures.sample late) c.loop-m.invariant.filled

pub returns-clause-filled : goal.returns-clause-filled
returns-clause-filled g c =
    let h : stands_at c.args.m.0 c.loop-m.last ≡ true = search rules in
    filled_end c.loop-m.slices c.args.slices.now (until c.args.m.0 c.loop-m.rest.rest) (until c.args.m.0 (drop c.args.place (samples_at c.args.store.now c.args.s))) (until_there c.args.m.0 c.loop-m.rest.rest c.loop-m.last h c.loop-m.invariant.rises) c.loop-m.invariant.filled

pub returns-then-time-m-clause-coming : goal.returns-then-time-m-clause-coming
returns-then-time-m-clause-coming g c =
    let S = samples_at c.args.store.now c.args.s in
    let i = c.loop-m.invariant in
    let next = c.in-Some.ensures.sample in
    let late : c.args.m.0 <ℤ c.in-Some.time.0 = search rules in
    let x : Sample = (c.in-Some.time, c.in-Some.held) in
    let place : c.place-place-then-time-m.result ≡ length c.loop-m.rest.before + 1 = c.place-place-then-time-m.ensures ∙ one_more c.loop-m.rest.before c.next.new.self.before x c.in-Some.ensures.before in
    ap (λ (xs : Samples). x ∷ xs) (sym (drop_next S (length c.loop-m.rest.before) c.place-place-then-time-m.result x c.next.new.self.rest place (sym i.stands ∙ next)))
    ∙ sym next ∙ sym (after_past c.args.m.0 x c.next.new.self.rest c.loop-m.rest.rest next late) ∙ i.coming

pub loop-m-preserved : goal.loop-m-preserved
loop-m-preserved g c =
    let S = samples_at c.args.store.now c.args.s in
    let i = c.loop-m.invariant in
    let next = c.in-Some.ensures.sample in
    let x : Sample = (c.in-Some.time, c.in-Some.held) in
    let xs = c.next.new.self.rest in
    let soon : c.in-Some.time.0 ≤ℤ c.args.m.0 = search rules in
    let at = sym i.stands ∙ next in
    let within = drop_within S (length c.loop-m.rest.before) x xs at in
    let more : length c.next.new.self.before ≡ length c.loop-m.rest.before + 1 = one_more c.loop-m.rest.before c.next.new.self.before x c.in-Some.ensures.before in
    let read = c.in-Some.ensures.fetched in
    let goes : until c.args.m.0 c.loop-m.rest.rest ≡ x ∷ until c.args.m.0 xs = until_goes c.args.m.0 x xs c.loop-m.rest.rest next soon in
    let few : length (until c.args.m.0 c.loop-m.rest.rest) ≡ length (until c.args.m.0 xs) + 1 = ap length goes ∙ omega arith in
    record {
      stands = drop_next S (length c.loop-m.rest.before) (length c.next.new.self.before) x xs more at;
      within = omega arith;
      rises = rises_next c.loop-m.last x xs c.loop-m.rest.rest next i.rises;
      last = sym (last_goes c.args.m.0 x xs c.loop-m.rest.rest c.loop-m.last next soon) ∙ i.last;
      coming = sym (after_goes c.args.m.0 x xs c.loop-m.rest.rest next soon) ∙ i.coming;
      probed = c.next.ensures.probed ∙ i.probed;
      tested = c.next.ensures.tested ∙ i.tested;
      read = let r = i.read in omega arith;
      few = let r = i.few in omega arith;
      filled = filled_more c.loop-m.slices c.put_fresh.new.slices x (until c.args.m.0 xs) (until c.args.m.0 c.loop-m.rest.rest) _ c.in_ok-put_fresh-in-Some.ensures goes i.filled;
    }

pub returns-clause-last : goal.returns-clause-last
returns-clause-last g c =
    let h : stands_at c.args.m.0 c.loop-m.last ≡ true = search rules in
    sym (last_there c.args.m.0 c.loop-m.rest.rest c.loop-m.last h c.loop-m.invariant.rises) ∙ c.loop-m.invariant.last

pub returns-clause-coming : goal.returns-clause-coming
returns-clause-coming g c =
    let S = samples_at c.args.store.now c.args.s in
    let h : stands_at c.args.m.0 c.loop-m.last ≡ true = search rules in
    ap (λ p. drop p S) c.place-place-2.ensures ∙ sym c.loop-m.invariant.stands ∙ sym (after_there c.args.m.0 c.loop-m.rest.rest c.loop-m.last h c.loop-m.invariant.rises) ∙ c.loop-m.invariant.coming
