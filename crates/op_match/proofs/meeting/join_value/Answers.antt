use Rattle.std.proofs.Common.{subst, refl}
use Rattle.step_table.specs.Operators.{pair_labels}
use Rattle.op_match.specs.Places.{IsAt}
use Rattle.op_match.specs.declared.meeting.Found.{Found}
use Rattle.op_match.proofs.Finding.{limit_added, value_added}
use Rattle.op_match.proofs.meeting.join_value.Goals as goal

pub returns-in_ok-push-in-Some-2-clause-added : goal.returns-in_ok-push-in-Some-2-clause-added
returns-in_ok-push-in-Some-2-clause-added c = λ set names m o h hm ho.
    let op = c.args.matching.now.op in
    let p = c.args.matching.now.pairing in
    let new : Found = record { slots = c.push.new.self; numbers = c.push-in-Some.new.self; fatal = c.args.found.now.fatal } in
    let at = subst (IsAt c.own_place.new.rows.labels (pair_labels op p m o)) c.in-Some.is (c.in_ok-own.ensures.own m o hm ho) in
    value_added set c.args.rows.now.labels c.own_place.new.rows.labels c.args.found.now new names c.args.number c.args.value (pair_labels op p m o) c.in-Some.place at c.in_ok-own.ensures.after.stays h c.in_ok-push-in-Some.ensures.items c.in_ok-push-in-Some-2.ensures.items refl

pub returns-in_ok-push-in-None-clause-added : goal.returns-in_ok-push-in-None-clause-added
returns-in_ok-push-in-None-clause-added c = λ set names m o h hm ho.
    let op = c.args.matching.now.op in
    let p = c.args.matching.now.pairing in
    let new : Found = record { slots = c.args.found.now.slots; numbers = c.args.found.now.numbers; fatal = c.push-in-None.new.self } in
    let at = subst (IsAt c.own_place.new.rows.labels (pair_labels op p m o)) c.in-None.is (c.in_ok-own.ensures.own m o hm ho) in
    limit_added set c.args.rows.now.labels c.own_place.new.rows.labels c.args.found.now new names c.args.value (pair_labels op p m o) at c.in_ok-own.ensures.after.stays refl refl c.in_ok-push-in-None.ensures.ok
