use Rattle.std.proofs.Common.{◌≡◌, ◌∙◌, ◌+◌, ◌<◌, ◌≤◌, ◌++◌, ◌∷◌, [], ℕ, List, None, Some, ap, append_assoc, drop, length, refl, slice_get, subst, sym, take}
use Rattle.std.specs.Prelude.{map}
use Rattle.std.specs.List.{AllByRecursion}
use Rattle.promql_meaning.specs.declared.answer.Point.{Point}
use Rattle.promql_meaning.specs.Results.{first_stop, stop_at}
use Rattle.step_batch.specs.Lent.{SlotsRise, stage_of}
use Rattle.step_batch.specs.declared.steps.PlacedStep.{PlacedStep}
use Rattle.step_put.specs.Puts.{AreAt}
use Rattle.step_table.specs.Groups.{Names}
use Rattle.step_table.specs.Timed.{StepAt}
use Rattle.result_rows.specs.Taken.{HasTaken, kept_of, names_of, points_under}
use Rattle.result_rows.proofs.Counted.{points_same, rows_counted, step_is}
use Rattle.result_rows.proofs.Placing.{places_below, same_count}
use Rattle.result_rows.proofs.Taking.{few, next_taken, split_at, stops_here, taken_more}
use Rattle.result_rows.proofs.Under.{count_names}
use Rattle.result_rows.proofs.found.take_each.Goals as goal

pub returns-in-Some-clause-stop : goal.returns-in-Some-clause-stop
returns-in-Some-clause-stop c = λ steps has.
    let lent = c.args.batch.now in
    let f : PlacedStep → StepAt = stage_of lent.labels in
    let s : PlacedStep = record { at = c.at-at.result; slots = c.slots-slots.result.now; marks = c.marks-marks.result.now } in
    let here : slice_get lent.steps c.loop-i.i ≡ Some s = step_is (slice_get lent.steps c.loop-i.i) s.at s.slots s.marks c.at-at.ensures c.slots-slots.ensures.slots c.marks-marks.ensures in
    let stops : stop_at c.loop-i.found.rows (f s) ≡ Some c.in-Some.outcome =
    c.in_ok-outcome.ensures (f s).step refl (rows_counted c.lent_steps_are_tables.ensures.rows lent s c.len-i-end.ensures.lent c.slots-slots.ensures.rising) ∙ c.in-Some.is in
    let before = map f (take c.loop-i.i lent.steps) in
    let behind = map f (drop (c.loop-i.i + 1) lent.steps) in
    ap (λ (ss : List StepAt). first_stop 0 (steps ++ ss)) (split_at f lent.steps c.loop-i.i s here) ∙ ap (first_stop 0) (sym (append_assoc steps before (f s ∷ behind)))
    ∙ stops_here (kept_of c.loop-i.found) (steps ++ before) (f s) (c.loop-i.invariant.taken steps has) behind c.in-Some.outcome stops

pub take_step-requires-clause-few : goal.take_step-requires-clause-few
take_step-requires-clause-few c =
    let lent = c.args.batch.now in
    let f : PlacedStep → StepAt = stage_of lent.labels in
    let s : PlacedStep = record { at = c.at-at.result; slots = c.slots-slots.result.now; marks = c.marks-marks.result.now } in
    let counted = rows_counted c.lent_steps_are_tables.ensures.rows lent s c.len-i-end.ensures.lent c.slots-slots.ensures.rising in
    let none : stop_at c.loop-i.found.rows (f s) ≡ None = c.in_ok-outcome.ensures (f s).step refl counted ∙ c.in_default.is in
    subst (λ (n : ℕ). c.loop-i.found.rows + n ≤ 4000000) counted (few c.loop-i.found.rows (f s) none)

pub take_step-requires-clause-within : goal.take_step-requires-clause-within
take_step-requires-clause-within c =
    subst (λ (n : ℕ). SlotsRise 0 n c.slots-slots.result.now) (sym (same_count (names_of c.args.found.now.series.items) c.args.batch.now.labels c.args.places.now c.requires.placed)) c.slots-slots.ensures.rising

pub take_step-requires-clause-there : goal.take_step-requires-clause-there
take_step-requires-clause-there c =
    let names = names_of c.args.found.now.series.items in
    let now = c.loop-i.found.series.items in
    let same : length names ≡ length now = ap length (sym c.loop-i.invariant.names) ∙ count_names now in
    subst (λ (n : ℕ). AllByRecursion (λ (place : ℕ). place < n) c.args.places.now) same (places_below names c.args.batch.now.labels c.args.places.now c.requires.placed)

pub loop-i-preserved : goal.loop-i-preserved
loop-i-preserved c =
    let lent = c.args.batch.now in
    let f : PlacedStep → StepAt = stage_of lent.labels in
    let s : PlacedStep = record { at = c.at-at.result; slots = c.slots-slots.result.now; marks = c.marks-marks.result.now } in
    let here : slice_get lent.steps c.loop-i.i ≡ Some s = step_is (slice_get lent.steps c.loop-i.i) s.at s.slots s.marks c.at-at.ensures c.slots-slots.ensures.slots c.marks-marks.ensures in
    let laws = c.lent_steps_are_tables.ensures in
    let counted = rows_counted laws.rows lent s c.len-i-end.ensures.lent c.slots-slots.ensures.rising in
    let none : stop_at c.loop-i.found.rows (f s) ≡ None = c.in_ok-outcome.ensures (f s).step refl counted ∙ c.in_default.is in
    let names = c.loop-i.invariant.names in
    let placed = subst (λ (ns : List Names). AreAt ns lent.labels c.args.places.now) (sym names) c.requires.placed in
    let old = kept_of c.loop-i.found in
    let new = kept_of c.take_step.new.found in
    let taken = map f (take c.loop-i.i lent.steps) in
    record {
      few = c.take_step.ensures.few;
      names = c.take_step.ensures.names ∙ names;
      taken = λ steps has.
          subst (HasTaken new) (append_assoc steps taken (f s ∷ []) ∙ ap (λ (ss : List StepAt). steps ++ ss) (sym (next_taken f lent.steps c.loop-i.i s here)))
          (taken_more old (steps ++ taken) (f s) (c.loop-i.invariant.taken steps has) new none
          (λ q. c.in_ok-take_step.ensures.points lent.labels placed q
          ∙ ap (λ (ps : List Point). points_under q old.series ++ ps) (points_same laws.table laws.rows lent s c.len-i-end.ensures.lent c.slots-slots.ensures.rising q))
          c.in_ok-take_step.ensures.marks (c.in_ok-take_step.ensures.rows ∙ ap (λ (n : ℕ). old.rows + n) (sym counted)));
    }
