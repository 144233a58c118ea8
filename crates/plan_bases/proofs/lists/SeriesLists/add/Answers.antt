use Rattle.std.proofs.Common.{◌≡◌, refl, sym, subst}
use Rattle.std.specs.Prelude.{OnOk}
use Rattle.plan_bases.specs.Bases.{AreRight, Kept}
use Rattle.plan_bases.proofs.Putting.{on_ok_then}
use Rattle.plan_bases.proofs.lists.SeriesLists.add.Goals as goal

pub filter_each-requires-clause-right : goal.filter_each-requires-clause-right
filter_each-requires-clause-right g c = subst (λ (kept : Kept). AreRight kept c.args.store.now c.select.new.self) (sym c.select.ensures.same) c.in_ok-select.ensures.right

pub returns-clause-right : goal.returns-clause-right
returns-clause-right g c = subst (λ (kept : Kept). OnOk c.filter_each.result (AreRight kept c.args.store.now c.filter_each.new.self)) c.select.ensures.same c.filter_each.ensures.right

pub returns-clause-stays : goal.returns-clause-stays
returns-clause-stays g c = on_ok_then c.filter_each.result c.filter_each.ensures.stays (λ stays rules there. stays rules (c.in_ok-select.ensures.stays rules there))
