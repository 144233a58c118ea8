use Rattle.std.proofs.Common.{◌≡◌, ◌∙◌, ◌++◌, map, ap}
use Rattle.std.specs.List.{filter_map}
use Rattle.step_table.specs.Groups.{lone_items, shared_names, shared_of}
use Rattle.step_table.specs.Matching.{clash_mark, crowded, duplicates, faults_of, left_rows, matches, pair_marks, uncrowded}
use Rattle.step_table.specs.OneSides.{match_in}
use Rattle.step_table.specs.Outcomes.{keyed}
use Rattle.step_table.specs.Unions.{with_fatal}
use Rattle.step_table.specs.declared.marks.Mark.TheVariants.{DuplicateOneSide, ImplicitManyToOne}
use Rattle.step_table.proofs.Partners.{matches_in_groups}
use Rattle.step_table.proofs.matching.match_sides.Goals as goal

module _ (c : goal.In_ok-add_fatal) where
  pairs_are : c.in_ok-pairs.pairs ≡ matches c.args.op c.args.p.now c.args.many.now c.args.ones.now
  pairs_are = c.in_ok-pairs.ensures ∙ ap (λ groups. filter_map (match_in c.args.op c.args.p.now groups) c.args.many.now) c.in_ok-one_side.ensures ∙ matches_in_groups c.args.op c.args.p.now c.args.many.now c.args.ones.now

  left_are : c.in_ok-left.left ≡ left_rows (matches c.args.op c.args.p.now c.args.many.now c.args.ones.now)
  left_are = c.in_ok-left.ensures.rows ∙ ap left_rows pairs_are

  rows_are : c.in_ok-by_labels.field-0 ≡ keyed (uncrowded c.args.p.now.card (left_rows (matches c.args.op c.args.p.now c.args.many.now c.args.ones.now)))
  rows_are = c.in_ok-by_labels.ensures ∙ ap keyed (c.in_ok-rows.ensures.rows ∙ ap (uncrowded c.args.p.now.card) left_are)

  shared_are : c.in_ok-shared_signatures.field-0 ≡ duplicates c.args.p.now c.args.ones.now
  shared_are = c.in_ok-shared_signatures.ensures ∙ ap (λ groups. filter_map shared_of groups) c.in_ok-one_side.ensures

  first_marks : c.left_rows.new.fatal ≡ map DuplicateOneSide (duplicates c.args.p.now c.args.ones.now) ++ faults_of (matches c.args.op c.args.p.now c.args.many.now c.args.ones.now)
  first_marks = c.in_ok-left.ensures.marks ∙ ap (λ marks. marks ++ faults_of c.in_ok-pairs.pairs) (c.in_ok-fatal.ensures ∙ ap (map DuplicateOneSide) shared_are) ∙ ap (λ pairs. map DuplicateOneSide (duplicates c.args.p.now c.args.ones.now) ++ faults_of pairs) pairs_are

  more_marks : c.uncrowded_rows.new.fatal ≡ (map DuplicateOneSide (duplicates c.args.p.now c.args.ones.now) ++ faults_of (matches c.args.op c.args.p.now c.args.many.now c.args.ones.now)) ++ map ImplicitManyToOne (crowded c.args.p.now.card (left_rows (matches c.args.op c.args.p.now c.args.many.now c.args.ones.now)))
  more_marks = c.in_ok-rows.ensures.marks ∙ ap (λ marks. marks ++ map ImplicitManyToOne (crowded c.args.p.now.card c.in_ok-left.left)) first_marks
      ∙ ap (λ left. (map DuplicateOneSide (duplicates c.args.p.now c.args.ones.now) ++ faults_of (matches c.args.op c.args.p.now c.args.many.now c.args.ones.now)) ++ map ImplicitManyToOne (crowded c.args.p.now.card left)) left_are

  all_marks : c.push_clashes.new.fatal ≡ pair_marks c.args.op c.args.p.now c.args.many.now c.args.ones.now
  all_marks = c.in_ok-push_clashes.ensures ∙ ap (λ marks. marks ++ map (clash_mark c.args.p.now.card) c.in_ok-parted.parted.shared) more_marks
      ∙ ap (λ shared. ((map DuplicateOneSide (duplicates c.args.p.now c.args.ones.now) ++ faults_of (matches c.args.op c.args.p.now c.args.many.now c.args.ones.now)) ++ map ImplicitManyToOne (crowded c.args.p.now.card (left_rows (matches c.args.op c.args.p.now c.args.many.now c.args.ones.now)))) ++ map (clash_mark c.args.p.now.card) shared)
      (c.in_ok-parted.ensures.shared ∙ ap shared_names rows_are)

pub returns-clause-rows : goal.returns-clause-rows
returns-clause-rows c = c.in_ok-parted.ensures.lone ∙ ap lone_items (rows_are c)

pub returns-clause-marks : goal.returns-clause-marks
returns-clause-marks c = c.in_ok-add_fatal.ensures.ok ∙ ap (with_fatal c.args.marks) (all_marks c)
