use Rattle.std.proofs.Common.{◌≡◌, ◌++◌, ◌-◌, List, arith, drop, length, length-drop, sym, subst, take}
use Rattle.std.specs.Prelude.{OnOk}
use Rattle.std.proofs.lemmas.Grind.{common_steps}
use Rattle.label_set.specs.declared.rules.Rule.{Rule}
use Rattle.plan_bases.specs.Bases.{AreRight, Holds, HoldsEach, Kept}
use Rattle.plan_bases.proofs.Counting.{each_of, hold_still, take_whole}
use Rattle.plan_bases.proofs.Putting.{on_ok_both, on_ok_then}
use Rattle.plan_bases.proofs.lists.SeriesLists.+filter_each.Goals as goal

pub filter_each-requires : goal.filter_each-requires
filter_each-requires g t c κs within =
    let step = c.in_ok-rules-in-len1-up in
    let right = subst (λ (kept : Kept). AreRight kept c.args.store.now c.filter.new.self) (sym c.filter.ensures.same) step.ensures.right in
    let under : Holds c.filter.new.patterns c.filter.new.self step.rules =
    coe 1 0 (i. Holds (c.filter.ensures.same i) c.filter.new.self (step.ensures.rules i)) step.ensures.holds in
    (grind (arith, common_steps, c.decreases, c.in-len1-up.len_at_least), (within, (right, under)))

pub returns-in_ok-rules-in-len1-up-clause-right : goal.returns-in_ok-rules-in-len1-up-clause-right
returns-in_ok-rules-in-len1-up-clause-right g t c =
    subst (λ (kept : Kept). OnOk c.filter_each.result (AreRight kept c.args.store.now c.filter_each.new.self)) c.filter.ensures.same c.filter_each.ensures.right

pub returns-in_ok-rules-in-len1-up-clause-stays : goal.returns-in_ok-rules-in-len1-up-clause-stays
returns-in_ok-rules-in-len1-up-clause-stays g t c =
    on_ok_then c.filter_each.result c.filter_each.ensures.stays (λ stays rules there. stays rules (c.in_ok-rules-in-len1-up.ensures.stays rules there))

pub returns-in_ok-rules-in-len1-up-clause-holds : goal.returns-in_ok-rules-in-len1-up-clause-holds
returns-in_ok-rules-in-len1-up-clause-holds g t c =
    let kept = c.args.patterns.now in
    let under = c.args.under.now in
    let filters = c.args.filters.now in
    let more = c.more-item.result in
    let new = c.filter_each.new.self in
    let step = c.in_ok-rules-in-len1-up in
    let rest : take (length filters - 1) (drop 1 filters) ≡ drop 1 filters = take_whole (drop 1 filters) (length filters - 1) (omega (arith, length-drop 1 filters)) in
    on_ok_both c.filter_each.result c.filter_each.ensures.stays c.filter_each.ensures.holds (λ stays each.
    each_of kept new under filters more c.in-len1-up.len_at_least c.more-item.is (hold_still kept c.filter.new.self new under stays (hold_still kept c.args.self.now c.filter.new.self under step.ensures.stays c.requires.under))
    (coe 0 1 (i. HoldsEach (c.filter.ensures.same i) new (step.ensures.rules i) (rest i)) each))
