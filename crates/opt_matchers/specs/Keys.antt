-- Rules beside the texts of their patterns. (This project's own.)
use Rattle.std.specs.Prelude.{◌≡◌, ℕ, Bool, List}
use Rattle.std.specs.Ordering.{is_lt}
use Rattle.std.specs.declared.cmp.Ordering.{Ordering}
use Rattle.opt_matchers.specs.RuleOrder.{compared, order_with, pattern_of}
use Rattle.opt_matchers.specs.declared.keys.Keyed.{Keyed}

abbrev pub IsKeyed : List (Bool × List ℕ) → Keyed → Type 0
IsKeyed kept k = k.pattern.now ≡ pattern_of kept k.rule.kind

abbrev pub keyed_text : Keyed → List ℕ
keyed_text k = compared k.pattern.now k.rule.kind

abbrev pub keyed_order : Keyed → Keyed → Ordering
keyed_order a b = order_with a.pattern.now b.pattern.now a.rule b.rule

abbrev pub keyed_below : Keyed → Keyed → Bool
keyed_below a b = is_lt (keyed_order a b)
