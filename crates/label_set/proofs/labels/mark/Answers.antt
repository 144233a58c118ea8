use Rattle.std.proofs.Common.{◌≡◌, ◌<◌, None, Some, length, slice_get, ℕ, List, rules}
use Rattle.std.specs.Option.{option_map}
use Rattle.label_set.specs.Labels.{value_at}
use Rattle.label_set.proofs.Marks.{marked-missing, marked-there}
use Rattle.label_set.proofs.labels.mark.Goals as goal

pub returns-in-Ok : goal.returns-in-Ok
returns-in-Ok c = λ names m.
    let key : option_map (λ (p : List ℕ × List ℕ). p.0) (slice_get c.args.pairs.now c.in-Ok.place) ≡ Some c.args.name.now = c.in-Ok.ensures.2 in
    let within : c.in-Ok.place < length c.args.marks.now = search rules in
    marked-there c.args.pairs.now names c.args.name.now c.args.marks.now c.requires c.in-Ok.place within key m

pub returns-in_default : goal.returns-in_default
returns-in_default c = λ names m.
    let none : value_at c.args.pairs.now c.args.name.now ≡ None = search rules in
    marked-missing c.args.pairs.now names c.args.name.now c.args.marks.now none m
