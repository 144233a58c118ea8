use Rattle.std.proofs.Common.{ℕ, List, subst, sym}
use Rattle.match_rule.specs.Building.{IsSearchedBy}
use Rattle.match_rule.proofs.kept.Kept.with.Goals as goal

pub is_passed-empty-requires : goal.is_passed-empty-requires
is_passed-empty-requires c = subst (λ (t : List ℕ). IsSearchedBy c.args.whole t c.args.matcher) (sym c.as_str.ensures) c.requires
