use Rattle.std.proofs.Common.{◌∙◌, sym, ap, subst}
use Rattle.label_set.specs.declared.rules.Relabel.{Relabel}
use Rattle.op_labels.specs.Rules.{HasPatterns, IsFilter, filtered_windows}
use Rattle.step_batch.specs.LentWindows.{WindowsAt}
use Rattle.plan_tree.specs.Nodes.{rules_in}
use Rattle.plan_tree.proofs.Runs.{own_memory, ran}
use Rattle.plan_tree.proofs.Windowed.{filter_is}
use Rattle.plan_tree.proofs.arms.windows_passed.Goals as goal

pub returns-clause-can : goal.returns-clause-can
returns-clause-can g c =
    let e = c.feed_windows.ensures in
    record {
      made = e.made;
      patterns = subst (λ (r : Relabel). HasPatterns c.args.patterns.now r) (sym e.rule) c.requires.can.patterns;
      filter = subst (λ (r : Relabel). IsFilter r) (sym e.rule) c.requires.can.filter;
    }

pub returns-clause-windows : goal.returns-clause-windows
returns-clause-windows g c =
    ran c.feed_windows.result c.or_memory.result c.or_memory.ensures c.feed_windows.ensures.windows (λ e.
    let rule = c.args.filter.now.rule in
    e (rules_in rule) (filter_is rule c.requires.can.filter) ∙ ap (λ (w : WindowsAt). filtered_windows c.args.patterns.now (rules_in rule) w) c.windows_from.ensures)

pub returns-clause-memory : goal.returns-clause-memory
returns-clause-memory g c = own_memory c.feed_windows.result c.or_memory.result c.or_memory.ensures
