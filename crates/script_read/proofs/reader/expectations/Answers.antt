use Rattle.std.proofs.Common.{◌≡◌, ◌++◌, drop, map, subst, sym, ◌∙◌}
use Rattle.std.proofs.lemmas.Result.{err_from_is_err_and}
use Rattle.std.specs.BTreeSet.{contains}
use Rattle.label_set.specs.Labels.{labels_cmp}
use Rattle.script_read.specs.Expects.{mode_wants}
use Rattle.script_read.specs.Outcomes.{PatternList}
use Rattle.script_read.specs.Reading.{body_line, expected_after}
use Rattle.script_read.specs.Results.{AreSeen, rows_in}
use Rattle.script_read.specs.Views.{moments_asked, numbered}
use Rattle.script_read.proofs.Bodies.{expected_more, line_kept, line_made, line_refused, line_there}
use Rattle.script_read.proofs.Growing.{gathered, gathers_all, gathers_line}
use Rattle.script_read.proofs.reader.expectations.Goals as goal

pub returns-in_err-at_line-clause-refused : goal.returns-in_err-at_line-clause-refused
returns-in_err-at_line-clause-refused c =
    let line = c.line-item.result in
    let body = c.args.body.now in
    let p = err_from_is_err_and c.from_residual-in_err-at_line.result c.from_residual-in_err-at_line.ensures.1 in
    rw (p.1, p.2) (line_refused c.add_line.new.searches (map numbered body) (numbered line) c.add_line.result c.in_err-at_line.field-0.0
    (line_there body c.loop-line.line-index line c.loop-line-test.true c.line-item.is) (sym c.in_err-at_line.ensures) c.add_line.ensures.refused)

pub returns-in_err-at_line-clause-grows : goal.returns-in_err-at_line-clause-grows
returns-in_err-at_line-clause-grows c =
    let line = c.line-item.result in
    let body = c.args.body.now in
    gathers_all (map numbered body) _ _ _ c.loop-line.invariant.grows
    (gathers_line (map numbered body) (numbered line) _ _ (line_there body c.loop-line.line-index line c.loop-line-test.true c.line-item.is) c.add_line.ensures.grows)

pub loop-line-preserved : goal.loop-line-preserved
loop-line-preserved c =
    let line = c.line-item.result in
    let body = c.args.body.now in
    let i = c.loop-line.line-index in
    let m = moments_asked c.args.asked.now in
    let e = c.loop-line.expected in
    let now = c.add_line.new.expected in
    let kept = c.add_line.new.searches in
    let grows = c.add_line.ensures.grows in
    let made = line_made line.number c.add_line.result c.in_ok-at_line.field-0 now kept (λ more. body_line more m e line.text.now) (sym c.in_ok-at_line.ensures) c.add_line.ensures.added in
    record {
      said = λ more. sym (expected_more body i line c.loop-line-test.true c.line-item.is (kept ++ more) m e now (made more))
          ∙ subst (λ (all : PatternList). expected_after all m e (map numbered (drop i body)) ≡ expected_after all m (mode_wants c.args.asked.now.mode) (map numbered body))
          (gathered c.loop-line.searches kept grows.more more grows.behind) (c.loop-line.invariant.said (grows.more ++ more));
      seen = line_kept line.number c.add_line.result c.in_ok-at_line.field-0 (λ _. AreSeen (contains labels_cmp c.add_line.new.seen) (rows_in now.result)) (sym c.in_ok-at_line.ensures) c.add_line.ensures.seen;
      grows = gathers_all (map numbered body) _ _ _ c.loop-line.invariant.grows (gathers_line (map numbered body) (numbered line) _ _ (line_there body i line c.loop-line-test.true c.line-item.is) grows);
    }
