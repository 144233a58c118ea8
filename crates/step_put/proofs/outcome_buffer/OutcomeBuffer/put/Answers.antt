use Rattle.std.proofs.Common.{◌∙◌, ℕ, List, None, length, sym, ap, subst}
use Rattle.std.specs.Prelude.{IsTrue}
use Rattle.std.specs.List.Sorted.{IsStrictlyIncreasing}
use Rattle.step_put.specs.Placed.{Made, PlacesRise, do_rise, left_of, slots_made}
use Rattle.step_put.proofs.Keeping.{at_count}
use Rattle.step_put.proofs.outcome_buffer.OutcomeBuffer.put.Goals as goal

pub is_apart-requires-clause-increasing : goal.is_apart-requires-clause-increasing
is_apart-requires-clause-increasing c = λ h. subst IsStrictlyIncreasing (sym c.places.ensures) (c.self.invariant.1 h)

pub is_apart-requires-clause-within : goal.is_apart-requires-clause-within
is_apart-requires-clause-within c =
    let n = c.self.inside.placing in
    subst (λ (m : ℕ). PlacesRise 0 m c.args.placed.now)
    (sym (ap length c.places.ensures ∙ at_count (left_of n.left) c.self.inside.buffer.labels n.fed n.places c.self.invariant.0 ∙ ap (λ (z : Made). length z.fed) c.self.view_is)) c.requires.rising

pub put_rising-requires-clause-rising : goal.put_rising-requires-clause-rising
put_rising-requires-clause-rising c = subst (λ (ps : List ℕ). IsTrue (do_rise None (slots_made ps c.args.placed.now))) c.places.ensures (c.is_apart.ensures c.if-is_apart.true)
