use Rattle.std.proofs.Common.{◌≡◌, ◌∙◌, ◌+◌, ◌++◌, ◌<◌, ℕ, Some, get_or, length, slice_set, take, drop, map, refl, ap, subst, arith, rules}
use Rattle.std.specs.Prelude.{List, slice_get}
use Rattle.std.proofs.lemmas.List.{take_all}
use Rattle.std.proofs.lemmas.Option.{slice_get_read}
use Rattle.sample_store.specs.Samples.{samples_at}
use Rattle.series_marks.specs.Counted.{sums_more}
use Rattle.series_marks.specs.Reaches.{reads_of}
use Rattle.series_marks.specs.Reads.{edge_of, probes_of, read_of}
use Rattle.series_marks.specs.Spent.{probes_few, probes_left, probes_more, reads_more, reads_so_far}
use Rattle.op_window.specs.Sliding.{walked_at}
use Rattle.op_window.specs.declared.renew.SeriesWindow.{SeriesWindow}
use Rattle.op_window.proofs.Lists.{changed_length, changed_there, some_same, still_there}
use Rattle.op_window.proofs.walked.renew_all.Goals as goal

pub loop-i-init : goal.loop-i-init
loop-i-init g c = record {
  walked = c.requires.was;
  fetched = omega arith;
  counted = omega arith;
  probed = omega arith;
  tested = refl;
}

pub index_mut-requires : goal.index_mut-requires
index_mut-requires g c =
    let xs = c.args.series.now in
    let store = c.args.store.now in
    let span = c.args.span in
    let F : ℕ → SeriesWindow = λ s. walked_at span.closed span.range.0 (Some (edge_of c.args.reached span.edge, span.moment)) (samples_at store s) in
    let G : ℕ → SeriesWindow = λ s. walked_at span.closed span.range.0 c.args.reached (samples_at store s) in
    let e : length c.loop-i.walked.items ≡ length xs = ap length c.loop-i.invariant.walked ∙ changed_length F G xs c.loop-i.i in
    let l : c.loop-i.i < length xs = c.loop-i-test.true in
    omega arith

pub renewed-requires-clause-was : goal.renewed-requires-clause-was
renewed-requires-clause-was g c =
    let xs = c.args.series.now in
    let store = c.args.store.now in
    let span = c.args.span in
    let i = c.loop-i.i in
    let F : ℕ → SeriesWindow = λ s. walked_at span.closed span.range.0 (Some (edge_of c.args.reached span.edge, span.moment)) (samples_at store s) in
    let G : ℕ → SeriesWindow = λ s. walked_at span.closed span.range.0 c.args.reached (samples_at store s) in
    let ws = c.loop-i.walked.items in
    let e : length ws ≡ length xs = ap length c.loop-i.invariant.walked ∙ changed_length F G xs i in
    let l : i < length xs = c.loop-i-test.true in
    let within : i < length ws = omega arith in
    some_same (slice_get ws i) c.index_mut.result.now (G (get_or xs i 0)) (slice_get_read ws (length ws) i c.index_mut.result.now refl within (search rules))
    (ap (λ (zs : List SeriesWindow). slice_get zs i) c.loop-i.invariant.walked ∙ still_there F G xs i l)

pub loop-i-preserved : goal.loop-i-preserved
loop-i-preserved g c =
    let xs = c.args.series.now in
    let store = c.args.store.now in
    let span = c.args.span in
    let i = c.loop-i.i in
    let F : ℕ → SeriesWindow = λ s. walked_at span.closed span.range.0 (Some (edge_of c.args.reached span.edge, span.moment)) (samples_at store s) in
    let G : ℕ → SeriesWindow = λ s. walked_at span.closed span.range.0 c.args.reached (samples_at store s) in
    let now = c.renewed.new.window in
    let is : now ≡ F (get_or xs i 0) = c.in_ok-renewed.ensures.now in
    let was = map F (take i xs) ++ map G (drop i xs) in
    record {
      walked = ap (λ (ws : List SeriesWindow). slice_set ws i now) c.loop-i.invariant.walked ∙ ap (λ (w : SeriesWindow). slice_set was i w) is ∙ changed_there F G xs i c.loop-i-test.true;
      fetched = reads_more store c.args.reached span.edge span.moment xs i c.renewed.new.work.fetched c.loop-i.work.fetched c.args.work.now.fetched c.loop-i-test.true c.loop-i.invariant.fetched c.renewed.ensures.read;
      counted = sums_more (λ (s : ℕ). read_of c.args.reached (samples_at store s)) (λ (s : ℕ). read_of (Some (edge_of c.args.reached span.edge, span.moment)) (samples_at store s)) xs i c.renewed.new.work.fetched c.loop-i.work.fetched
          c.args.work.now.fetched c.loop-i-test.true c.loop-i.invariant.counted c.in_ok-renewed.ensures.counted;
      probed = probes_more (probes_of c.args.reached) 64 c.renewed.new.work.probed c.loop-i.work.probed c.args.work.now.probed i (length xs) c.loop-i-test.true (probes_few c.args.reached) c.loop-i.invariant.probed c.renewed.ensures.probed;
      tested = c.renewed.ensures.tested ∙ c.loop-i.invariant.tested;
    }

pub returns-in_err-renewed-clause-fetched : goal.returns-in_err-renewed-clause-fetched
returns-in_err-renewed-clause-fetched g c =
    let xs = c.args.series.now in
    let store = c.args.store.now in
    let span = c.args.span in
    let i = c.loop-i.i in
    reads_so_far store c.args.reached span.edge span.moment xs (i + 1) c.renewed.new.work.fetched c.args.work.now.fetched c.requires.later
    (reads_more store c.args.reached span.edge span.moment xs i c.renewed.new.work.fetched c.loop-i.work.fetched c.args.work.now.fetched c.loop-i-test.true c.loop-i.invariant.fetched c.renewed.ensures.read)

pub returns-in_err-renewed-clause-probed : goal.returns-in_err-renewed-clause-probed
returns-in_err-renewed-clause-probed g c =
    probes_left c.args.reached c.renewed.new.work.probed c.args.work.now.probed (c.loop-i.i + 1) (length c.args.series.now) (let h : c.loop-i.i < length c.args.series.now = c.loop-i-test.true in omega arith)
    (probes_more (probes_of c.args.reached) 64 c.renewed.new.work.probed c.loop-i.work.probed c.args.work.now.probed c.loop-i.i (length c.args.series.now) c.loop-i-test.true (probes_few c.args.reached) c.loop-i.invariant.probed c.renewed.ensures.probed)

pub returns-clause-counted : goal.returns-clause-counted
returns-clause-counted g c =
    let xs = c.args.series.now in
    let store = c.args.store.now in
    let span = c.args.span in
    subst (λ (zs : List ℕ). c.loop-i.work.fetched + reads_of c.args.reached store zs ≡ c.args.work.now.fetched + reads_of (Some (edge_of c.args.reached span.edge, span.moment)) store zs) (take_all c.loop-i.i xs c.loop-i-test.false) c.loop-i.invariant.counted
