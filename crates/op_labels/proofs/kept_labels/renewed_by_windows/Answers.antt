use Rattle.std.proofs.Common.{◌≡◌, ◌∙◌, ◌+◌, ◌≤◌, ◌++◌, ◌∷◌, List, arith, length, take, drop, sym, ap, subst}
use Rattle.step_batch.specs.LentWindows.{names_of}
use Rattle.step_table.specs.Groups.{Names}
use Rattle.step_table.specs.declared.windows.WindowRow.{WindowRow}
use Rattle.op_labels.specs.Rules.{AreMade, HasPatterns, Kept, relabel_of}
use Rattle.op_labels.proofs.Keeping.{mapped_count, mixed_next, mixed_reaches, mixed_past}
use Rattle.op_labels.proofs.Passing.{window_named}
use Rattle.op_labels.proofs.kept_labels.renewed_by_windows.Goals as goal

pub renewed_at-requires : goal.renewed_at-requires
renewed_at-requires c =
    let was = c.loop-i.invariant in
    let rule = relabel_of c.args.change.now in
    let kept = c.loop-i.kept in
    let rows = c.args.windows.now.rows in
    let count = mapped_count (λ (w : WindowRow). w.labels) rows in
    record {
      patterns = subst (λ (z : Kept). HasPatterns z rule) (sym was.same) c.requires.patterns;
      made = subst (λ (z : Kept). AreMade z rule kept.fed.items kept.made.items kept.fates.items) (sym was.same) was.made;
      next = subst (λ (z : List Names). c.loop-i.i ≤ length z) (sym was.fed) (mixed_reaches (names_of rows) c.args.before.fed.items c.loop-i.i (omega (arith, count, c.len-i-end.ensures.len, c.loop-i-test.true)));
    }

pub loop-i-preserved : goal.loop-i-preserved
loop-i-preserved c =
    let i = c.loop-i.i in
    let was = c.loop-i.invariant in
    let rows = c.args.windows.now.rows in
    let one = c.labels.result.now in
    let rule = relabel_of c.args.change.now in
    let now = c.in_ok-kept.kept in
    let count = mapped_count (λ (w : WindowRow). w.labels) rows in
    record {
      fed = mixed_next (names_of rows) c.args.before.fed.items now.fed.items i one (omega (arith, count, c.len-i-end.ensures.len, c.loop-i-test.true)) (window_named rows i one c.labels.ensures)
          (c.in_ok-kept.ensures.fed ∙ ap (λ (z : List Names). take i z ++ one ∷ drop (i + 1) z) was.fed);
      made = subst (λ (z : Kept). AreMade z rule now.fed.items now.made.items now.fates.items) was.same c.in_ok-kept.ensures.made;
      same = c.renewed_at.ensures.same ∙ was.same;
    }

pub returns-clause-fed : goal.returns-clause-fed
returns-clause-fed c =
    let i = c.loop-i.i in
    let rows = c.args.windows.now.rows in
    let count = mapped_count (λ (w : WindowRow). w.labels) rows in
    let l : length (names_of rows) ≤ i = omega (arith, count, c.len-i-end.ensures.len, c.loop-i-test.false) in
    c.loop-i.invariant.fed ∙ mixed_past (names_of rows) c.args.before.fed.items i l c.requires.within
