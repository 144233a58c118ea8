use Rattle.std.proofs.Common.{◌≡◌, ◌∙◌, ◌+◌, ◌++◌, ◌∷◌, [], ◌<◌, ℕ, Some, get_or, length, slice_set, take, drop, map, sym, ap, subst, refl, arith}
use Rattle.std.specs.Prelude.{List, Option, slice_get}
use Rattle.std.specs.Option.{option_to_list}
use Rattle.std.specs.List.{filter_map}
use Rattle.std.proofs.lemmas.List.{take_all}
use Rattle.sample_store.specs.Samples.{Names, labels_at, samples_at}
use Rattle.series_marks.specs.Reads.{Reached, edge_of, mark_of, probes_of}
use Rattle.series_marks.specs.declared.mark.Mark.{Mark}
use Rattle.step_batch.specs.Lent.{no_marks, step_of}
use Rattle.xfrac.specs.declared.value.XFrac.{XFrac}
use Rattle.op_select.specs.Newest.{entry_shown, entry_under, shown}
use Rattle.series_marks.specs.Counted.{sums_more}
use Rattle.series_marks.specs.Picks.{picked_of, picks_of}
use Rattle.series_marks.specs.Spent.{probes_few, probes_left, probes_more, reads_more, reads_so_far}
use Rattle.op_select.proofs.More.{entries_more, marks_more}
use Rattle.op_select.proofs.Naming.{name_there, names_length}
use Rattle.op_select.proofs.rows.put_rows.Goals as goal

pub loop-i-init : goal.loop-i-init
loop-i-init g c = record {
  marks = c.requires.marks;
  fetched = omega arith;
  counted = λ first b. omega arith;
  labels = refl;
  free = c.requires.begun;
  later = λ u h. h;
  lent = λ front at h. h;
  probed = omega arith;
  tested = refl;
}

pub put_shown-requires-clause-there : goal.put_shown-requires-clause-there
put_shown-requires-clause-there g c =
    let xs = c.args.series.now in
    let e : length c.loop-i.buffer.labels ≡ length xs = ap length (c.loop-i.invariant.labels ∙ c.requires.labels) ∙ names_length c.args.store.now xs in
    let l : c.loop-i.i < length xs = c.loop-i-test.true in
    omega arith

pub loop-i-preserved : goal.loop-i-preserved
loop-i-preserved g c =
    let xs = c.args.series.now in
    let store = c.args.store.now in
    let i = c.loop-i.i in
    let new : Reached = Some (edge_of c.args.reached c.args.edge, c.args.m) in
    let F : ℕ → Mark = λ s. mark_of new (samples_at store s) in
    let G : ℕ → Mark = λ s. mark_of c.args.reached (samples_at store s) in
    let is : c.renewed-mark.result ≡ F (get_or xs i 0) = c.renewed-mark.ensures.mark in
    record {
      marks = c.replace.ensures.now ∙ ap (λ ms. slice_set ms i c.renewed-mark.result) c.loop-i.invariant.marks ∙ ap (λ k. slice_set (map F (take i xs) ++ map G (drop i xs)) i k) is
          ∙ marks_more F G xs i c.loop-i-test.true;
      fetched = reads_more store c.args.reached c.args.edge c.args.m xs i c.renewed-mark.new.work.fetched c.loop-i.work.fetched c.args.work.now.fetched c.loop-i-test.true c.loop-i.invariant.fetched (let e = c.renewed-mark.ensures.read in omega arith);
      counted = λ first b.
          sums_more (λ (s : ℕ). picked_of first c.args.reached (samples_at store s)) (λ (s : ℕ). picked_of first new (samples_at store s)) xs i c.renewed-mark.new.work.fetched c.loop-i.work.fetched c.args.work.now.fetched c.loop-i-test.true
          (c.loop-i.invariant.counted first b) (c.renewed-mark.ensures.counted first b);
      labels = c.in_ok-put_shown.ensures.labels ∙ c.loop-i.invariant.labels;
      free = c.in_ok-put_shown.ensures.free;
      later = λ u h. c.in_ok-put_shown.ensures.later u (c.loop-i.invariant.later u h);
      lent = λ front at h.
          c.in_ok-put_shown.ensures.stages (labels_at store (get_or xs i 0)) front at (filter_map (entry_shown store c.args.stamped new c.args.edge.0) (take i xs))
          (ap (λ (ls : List Names). slice_get ls i) (c.loop-i.invariant.labels ∙ c.requires.labels) ∙ name_there store xs i c.loop-i-test.true) (c.loop-i.invariant.lent front at h)
          ∙ ap (λ (es : List (Names × XFrac)). front ++ record { at = at; step = step_of es no_marks } ∷ [])
          (ap (λ (o : Option XFrac). filter_map (entry_shown store c.args.stamped new c.args.edge.0) (take i xs) ++ option_to_list (entry_under (labels_at store (get_or xs i 0)) o))
          (c.shown.ensures ∙ ap (λ (k : Mark). shown c.args.stamped c.args.edge.0 k.last) is)
          ∙ sym (entries_more (entry_shown store c.args.stamped new c.args.edge.0) xs i 0 c.loop-i-test.true));
      probed = probes_more (probes_of c.args.reached) 64 c.renewed-mark.new.work.probed c.loop-i.work.probed c.args.work.now.probed i (length xs) c.loop-i-test.true (probes_few c.args.reached) c.loop-i.invariant.probed c.renewed-mark.ensures.probed;
      tested = c.renewed-mark.ensures.tested ∙ c.loop-i.invariant.tested;
    }

pub returns-in_err-put_shown-clause-fetched : goal.returns-in_err-put_shown-clause-fetched
returns-in_err-put_shown-clause-fetched g c =
    let xs = c.args.series.now in
    let store = c.args.store.now in
    let i = c.loop-i.i in
    reads_so_far store c.args.reached c.args.edge c.args.m xs (i + 1) c.renewed-mark.new.work.fetched c.args.work.now.fetched c.requires.soon
    (reads_more store c.args.reached c.args.edge c.args.m xs i c.renewed-mark.new.work.fetched c.loop-i.work.fetched c.args.work.now.fetched c.loop-i-test.true c.loop-i.invariant.fetched (let e = c.renewed-mark.ensures.read in omega arith))

pub returns-in_err-put_shown-clause-probed : goal.returns-in_err-put_shown-clause-probed
returns-in_err-put_shown-clause-probed g c =
    probes_left c.args.reached c.renewed-mark.new.work.probed c.args.work.now.probed (c.loop-i.i + 1) (length c.args.series.now) (let h : c.loop-i.i < length c.args.series.now = c.loop-i-test.true in omega arith)
    (probes_more (probes_of c.args.reached) 64 c.renewed-mark.new.work.probed c.loop-i.work.probed c.args.work.now.probed c.loop-i.i (length c.args.series.now) c.loop-i-test.true (probes_few c.args.reached) c.loop-i.invariant.probed c.renewed-mark.ensures.probed)

pub returns-clause-counted : goal.returns-clause-counted
returns-clause-counted g c = λ first b.
    let xs = c.args.series.now in
    let store = c.args.store.now in
    subst (λ (zs : List ℕ). c.loop-i.work.fetched + picks_of first c.args.reached store zs ≡ c.args.work.now.fetched + picks_of first (Some (edge_of c.args.reached c.args.edge, c.args.m)) store zs)
    (take_all c.loop-i.i xs c.loop-i-test.false) (c.loop-i.invariant.counted first b)
