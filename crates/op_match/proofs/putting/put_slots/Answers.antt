use Rattle.std.proofs.Common.{◌≡◌, ◌∙◌, ◌++◌, ◌∷◌, [], List, length, sym, ap, subst}
use Rattle.step_batch.specs.Lent.{Lent, SlotsRise, entries_of, stages, step_of}
use Rattle.step_table.specs.Groups.{Names}
use Rattle.step_table.specs.declared.marks.Marks.{Marks}
use Rattle.step_table.specs.Orders.{mark_cmp}
use Rattle.step_table.specs.Unions.{set_of}
use Rattle.op_match.proofs.LastStep.{unite_first, unite_last}
use Rattle.op_match.proofs.putting.put_slots.Goals as goal

pub put_values-requires-clause-begun : goal.put_values-requires-clause-begun
put_values-requires-clause-begun c = c.in_ok-unite.ensures.free 0 c.in_ok-begin.ensures.free

pub put_values-requires-clause-rising : goal.put_values-requires-clause-rising
put_values-requires-clause-rising c =
    subst (λ (ls : List Names). SlotsRise 0 (length ls) c.args.slots.now) (sym (c.unite.ensures.labels ∙ ap (λ (z : Lent). z.labels) c.in_ok-begin.ensures.ok)) c.requires.rising

pub returns-clause-lent : goal.returns-clause-lent
returns-clause-lent c =
    let old = c.args.rows.now in
    let marks = c.args.marks.now in
    let same : c.unite.new.self.labels ≡ old.labels = c.unite.ensures.labels ∙ ap (λ (z : Lent). z.labels) c.in_ok-begin.ensures.ok in
    let first = unite_first (stages old) (stages c.begin.new.self) (stages c.unite.new.self) c.args.at marks c.in_ok-begin.ensures.stages c.in_ok-unite.ensures.stages in
    let values = c.in_ok-put_values.ensures.lent (stages old) c.args.at marks first ∙ ap (λ (ls : List Names). stages old ++ record { at = c.args.at; step = step_of (entries_of ls c.args.slots.now) marks } ∷ []) same in
    let more : Marks = record { fatal = c.in_ok-as_set.field-0; notes = c.new.result } in
    let more_is : more ≡ record { fatal = set_of mark_cmp c.args.fatal; notes = [] } = λ i. record { fatal = c.in_ok-as_set.ensures i; notes = c.new.ensures i } in
    unite_last (stages old) (stages c.put_values.new.rows) (stages c.unite-2.new.self) c.args.at marks more (entries_of old.labels c.args.slots.now) c.args.fatal values c.in_ok-unite-2.ensures.stages more_is
