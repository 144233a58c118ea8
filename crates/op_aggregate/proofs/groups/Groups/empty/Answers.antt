use Rattle.std.proofs.Common.{◌<◌, ◌∙◌, ℕ, length, refl, sym, ap, subst}
use Rattle.std.specs.List.{AllByRecursion}
use Rattle.op_aggregate.specs.Places.{has_place}
use Rattle.op_aggregate.proofs.Grouping.{all_emptied, filled_within}
use Rattle.op_aggregate.proofs.groups.Groups.empty.Goals as goal

pub empty_at-requires : goal.empty_at-requires
empty_at-requires c = subst (AllByRecursion (λ (p : ℕ). p < length c.args.self.now.all.items)) (sym c.as_slice.ensures.value) (filled_within c.requires.0 c.args.self.now c.requires.1)

pub returns-clause-empty : goal.returns-clause-empty
returns-clause-empty c =
    let e = c.empty_at.ensures in
    let same = c.as_slice.ensures.value in
    all_emptied c.requires.0 c.args.self.now _ c.requires.1 refl e.many c.clear.ensures.items
    (λ q h. e.emptied q (ap (has_place q) same ∙ h))
    (λ q h. e.others q (ap (has_place q) same ∙ h))
