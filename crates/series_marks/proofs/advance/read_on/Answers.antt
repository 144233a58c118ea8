use Rattle.std.proofs.Common.{◌≡◌, ◌∙◌, ◌+◌, ◌≤◌, ◌∷◌, length, drop, true, sym, ap, arith, rules}
use Rattle.std.specs.Prelude.{◌<ℤ◌, ◌≤ℤ◌}
use Rattle.series_marks.specs.Reads.{Sample, stands_at}
use Rattle.sample_store.specs.Samples.{samples_at}
use Rattle.series_marks.proofs.Stores.{one_more}
use Rattle.series_marks.specs.Walked.{last_there}
use Rattle.series_marks.specs.Passing.{after_past, last_goes, after_goes, after_there, rises_next, drop_next, drop_within}
use Rattle.series_marks.proofs.advance.read_on.Goals as goal

pub returns-then-time-m-clause-coming : goal.returns-then-time-m-clause-coming
returns-then-time-m-clause-coming g c =
    let S = samples_at c.args.store.now c.args.s in
    let i = c.loop-m.invariant in
    let next = c.in-Some.ensures.sample in
    let late : c.args.m.0 <ℤ c.in-Some.time.0 = search rules in
    let x : Sample = (c.in-Some.time, c.in-Some.held) in
    let place : c.place-place-then-time-m.result ≡ length c.loop-m.rest.before + 1 = c.place-place-then-time-m.ensures ∙ one_more c.loop-m.rest.before c.next.new.self.before x c.in-Some.ensures.before in
    ap (λ xs. x ∷ xs) (sym (drop_next S (length c.loop-m.rest.before) c.place-place-then-time-m.result x c.next.new.self.rest place (sym i.stands ∙ next)))
    ∙ sym next ∙ sym (after_past c.args.m.0 x c.next.new.self.rest c.loop-m.rest.rest next late) ∙ i.coming

pub loop-m-preserved : goal.loop-m-preserved
loop-m-preserved g c =
    let S = samples_at c.args.store.now c.args.s in
    let i = c.loop-m.invariant in
    let next = c.in-Some.ensures.sample in
    let x : Sample = (c.in-Some.time, c.in-Some.held) in
    let xs = c.next.new.self.rest in
    let soon : c.in-Some.time.0 ≤ℤ c.args.m.0 = search rules in
    let at = sym i.stands ∙ next in
    let within = drop_within S (length c.loop-m.rest.before) x xs at in
    let more : length c.next.new.self.before ≡ length c.loop-m.rest.before + 1 = one_more c.loop-m.rest.before c.next.new.self.before x c.in-Some.ensures.before in
    let read = c.in-Some.ensures.fetched in
    record {
      stands = drop_next S (length c.loop-m.rest.before) (length c.next.new.self.before) x xs more at;
      within = omega arith;
      rises = rises_next c.loop-m.last x xs c.loop-m.rest.rest next i.rises;
      last = sym (last_goes c.args.m.0 x xs c.loop-m.rest.rest c.loop-m.last next soon) ∙ i.last;
      coming = sym (after_goes c.args.m.0 x xs c.loop-m.rest.rest next soon) ∙ i.coming;
      probed = c.next.ensures.probed ∙ i.probed;
      tested = c.next.ensures.tested ∙ i.tested;
      read = let r = i.read in omega arith;
    }

pub returns-clause-last : goal.returns-clause-last
returns-clause-last g c =
    let h : stands_at c.args.m.0 c.loop-m.last ≡ true = search rules in
    sym (last_there c.args.m.0 c.loop-m.rest.rest c.loop-m.last h c.loop-m.invariant.rises) ∙ c.loop-m.invariant.last

pub returns-clause-coming : goal.returns-clause-coming
returns-clause-coming g c =
    let S = samples_at c.args.store.now c.args.s in
    let h : stands_at c.args.m.0 c.loop-m.last ≡ true = search rules in
    ap (λ p. drop p S) c.place-place-2.ensures ∙ sym c.loop-m.invariant.stands ∙ sym (after_there c.args.m.0 c.loop-m.rest.rest c.loop-m.last h c.loop-m.invariant.rises) ∙ c.loop-m.invariant.coming
