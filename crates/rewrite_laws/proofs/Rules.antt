-- What is known of each rule of a plan is known of each rule that a rewrite brings.
use Rattle.std.proofs.Common.{◌≡◌, ◌∙◌, ℕ, List, [], ◌∷◌, ◌++◌, ap, refl, subst, sym, Bool, true, false, cond}
use Rattle.std.specs.Prelude.{Option, None, Some, ⊤, fold, not, if◌then◌else◌}
use Rattle.std.specs.List.{AllByRecursion, find}
use Rattle.std.specs.Option.{option_map}
use Rattle.holders.specs.Joins.{both_of}
use Rattle.label_set.specs.Entries.{recursion_filter}
use Rattle.label_set.specs.declared.rules.Rule.{Rule}
use Rattle.promql_ast.specs.declared.tree.Moment.{Moment}
use Rattle.ticks.specs.declared.moment.Ms.{Ms}
use Rattle.window_fn.specs.Aggregates.{inserted}
use Rattle.plan_rewrite.specs.RuleLists.{has_rule, lacking}
use Rattle.opt_matchers.specs.Handing.{is_on_metric, other_rules, with_rule, with_rules_of}
use Rattle.opt_matchers.specs.RuleOrder.{comes_before, ordered_rules}
use Rattle.opt_selects.specs.Bases.{base_among, is_base}
use Rattle.opt_selects.specs.Selectors.{ordered, precedes, selectors}
use Rattle.logical_plan.specs.declared.nodes.Plan.{Plan}
use Rattle.rewrite_laws.proofs.Follows.{Any, AreGood, all_any}

-- each of some has a property
abbrev pub Each : {X : Type 0} → List X → (X → Type 0) → Type 0
Each xs P = AllByRecursion P xs

module _ {X : Type 0} (below : X → X → Bool) where
  inserted_each : (xs : List X) (x : X) (P : X → Type 0) → Each xs P → P x → Each (inserted below xs x) P
  inserted_each [] x P all p = (p, tt)
  inserted_each (y ∷ ys) x P all p = by (below x y) (inserted_each ys x P all.1 p)
    where
      by : (b : Bool) → Each (inserted below ys x) P → Each (if b then x ∷ y ∷ ys else y ∷ inserted below ys x) P
      by true rest = (p, all)
      by false rest = (all.0, rest)

  sorted_each : (so xs : List X) (P : X → Type 0) → Each so P → Each xs P → Each (fold (inserted below) so xs) P
  sorted_each so [] P done all = done
  sorted_each so (x ∷ xs) P done all = sorted_each (inserted below so x) xs P (inserted_each so x P done all.0) all.1

module _ (Good : Rule → Type 0) where
  pub ordered_good : (kept : List (Bool × List ℕ)) (rules : List Rule) → AreGood Good rules → AreGood Good (ordered_rules kept rules)
  ordered_good kept rules good = sorted_each (comes_before kept) [] rules Good tt good

  more_good : (rules : List Rule) (rule : Rule) → AreGood Good rules → Good rule → AreGood Good (with_rule rules rule)
  more_good rules rule good one = by (has_rule rules rule)
    where
      by : (b : Bool) → AreGood Good (if b then rules else rules ++ rule ∷ [])
      by true = good
      by false = both_of Good rules (rule ∷ []) good (one, tt)

  joined_good : (rules others : List Rule) → AreGood Good rules → AreGood Good others → AreGood Good (fold with_rule rules others)
  joined_good rules [] good all = good
  joined_good rules (rule ∷ others) good all = joined_good (with_rule rules rule) others (more_good rules rule good all.0) all.1

  pub handed_good : (rules others : List Rule) → AreGood Good rules → AreGood Good others → AreGood Good (with_rules_of rules others)
  handed_good rules others good all = joined_good rules (other_rules others) good (recursion_filter Good (λ (rule : Rule). not (is_on_metric rule)) others all)

  pub lacking_good : (base rules : List Rule) → AreGood Good rules → AreGood Good (lacking base rules)
  lacking_good base rules good = recursion_filter Good (λ (rule : Rule). not (has_rule base rule)) rules good

  -- ---- bases

  abbrev pub IsGoodBase : Option (List Rule) → Type 0
  IsGoodBase None = ⊤
  IsGoodBase (Some base) = AreGood Good base

  base_of : (rules : List Rule) (moment : Moment) (range : Option Ms) (found : _) (o : Option (List Rule)) → base_among found rules moment range ≡ o → Each found (λ f. AreGood Good f.rules)
      → IsGoodBase o
  base_of rules moment range [] o is all = subst IsGoodBase is tt
  base_of rules moment range (a ∷ found) o is all = by (is_base rules moment range a) refl (λ e. base_of rules moment range found o e all.1)
    where
      by : (b : Bool) → is_base rules moment range a ≡ b → (base_among found rules moment range ≡ o → IsGoodBase o) → IsGoodBase o
      by true same rest = subst IsGoodBase (ap (λ (c : Bool). option_map (λ f. f.rules) (cond c (Some a) (find (is_base rules moment range) found))) (sym same) ∙ is) all.0
      by false same rest = rest (ap (λ (c : Bool). option_map (λ f. f.rules) (cond c (Some a) (find (is_base rules moment range) found))) (sym same) ∙ is)

  -- the base among a plan's selectors has rules of theirs
  pub base_good : (p : Plan) (rules : List Rule) (moment : Moment) (range : Option Ms) → Each (selectors p) (λ f. AreGood Good f.rules) → IsGoodBase (base_among (ordered (selectors p)) rules moment range)
  base_good p rules moment range all =
      base_of rules moment range (ordered (selectors p)) (base_among (ordered (selectors p)) rules moment range) refl (sorted_each precedes [] (selectors p) (λ f. AreGood Good f.rules) tt all)

each_any : {X : Type 0} (xs : List X) (rules : X → List Rule) → Each xs (λ x. AreGood Any (rules x))
each_any [] rules = tt
each_any (x ∷ xs) rules = (all_any (rules x), each_any xs rules)

pub any_found : (p : Plan) → Each (selectors p) (λ f. AreGood Any f.rules)
any_found p = each_any (selectors p) (λ f. f.rules)
