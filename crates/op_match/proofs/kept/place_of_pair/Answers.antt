use Rattle.std.proofs.Common.{◌∙◌, List, Option, ap, get_or, sym, subst}
use Rattle.std.specs.Prelude.{slice_get}
use Rattle.step_table.specs.Groups.{Names}
use Rattle.step_table.specs.Operators.{pair_labels}
use Rattle.op_match.specs.Places.{AreKept, IsAt, names_fed}
use Rattle.op_match.specs.declared.kept.Kept.{Kept}
use Rattle.op_match.proofs.Keeping.{kept_is, keeps_on, keeps_set, name_there, named}
use Rattle.op_match.proofs.Lists.{there}
use Rattle.op_match.proofs.kept.place_of_pair.Goals as goal

pub returns-in-Some-clause-place : goal.returns-in-Some-clause-place
returns-in-Some-clause-place c = λ h n q a b.
    kept_is c.args.op c.args.p.now c.args.rows.now.labels (names_fed c.args.many.now) (names_fed c.args.ones.now) c.args.kept.now c.args.m c.args.o c.in-Some.pair n q h
    (ap (λ (ks : List (Option Kept)). slice_get ks c.args.m) (sym c.as_slice.ensures) ∙ c.in-Some.ensures.there) c.in-Some.ensures.one a b

pub returns-in_err-own-clause-kept : goal.returns-in_err-own-clause-kept
returns-in_err-own-clause-kept c = λ h. keeps_on c.args.op c.args.p.now c.args.rows.now.labels c.place_of.new.rows.labels (names_fed c.args.many.now) (names_fed c.args.many.now) (names_fed c.args.ones.now) (names_fed c.args.ones.now) c.args.kept.now
    c.place_of.ensures.stays (λ j x e. e) (λ j x e. e) h

pub returns-clause-place : goal.returns-clause-place
returns-clause-place c = λ h n q a b.
    let m = named c.args.many.now c.args.m c.index-many-m.result n c.requires.many_there a in
    let o = named c.args.ones.now c.args.o c.index-ones-o.result q c.requires.one_there b in
    subst (λ (ls : Option Names). IsAt c.place_of.new.rows.labels ls c.in_ok-own.own) (c.in_ok-labels.ensures ∙ (λ i. pair_labels c.args.op c.args.p.now (m i) (o i))) c.in_ok-own.ensures.place

pub returns-clause-kept : goal.returns-clause-kept
returns-clause-kept c = λ h.
    let many = get_or c.args.many.now c.args.m c.index-many-m.result in
    let one = get_or c.args.ones.now c.args.o c.index-ones-o.result in
    let k : Kept = record { one = c.args.o; own = c.in_ok-own.own } in
    subst (AreKept c.args.op c.args.p.now c.place_of.new.rows.labels (names_fed c.args.many.now) (names_fed c.args.ones.now)) (sym c.replace.ensures.now)
    (keeps_set c.args.op c.args.p.now c.place_of.new.rows.labels (names_fed c.args.many.now) (names_fed c.args.ones.now) c.args.kept.now c.args.m k many.labels one.labels
    (name_there c.args.many.now c.args.m many (there c.args.many.now c.args.m c.index-many-m.result c.requires.many_there)) (name_there c.args.ones.now c.args.o one (there c.args.ones.now c.args.o c.index-ones-o.result c.requires.one_there))
    (subst (λ (ls : Option Names). IsAt c.place_of.new.rows.labels ls c.in_ok-own.own) c.in_ok-labels.ensures c.in_ok-own.ensures.place)
    (keeps_on c.args.op c.args.p.now c.args.rows.now.labels c.place_of.new.rows.labels (names_fed c.args.many.now) (names_fed c.args.many.now) (names_fed c.args.ones.now) (names_fed c.args.ones.now) c.args.kept.now c.place_of.ensures.stays (λ j x e. e) (λ j x e. e) h))
