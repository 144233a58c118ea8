-- Parts that engines are asked for, under filters: which plans are such, and what they give.
use Rattle.std.proofs.Common.{◌≡◌, ◌∙◌, ℕ, Bool, true, false, cond, List, [], ◌∷◌, ◌++◌, Option, None, Some, refl, sym, ap, subst}
use Rattle.std.specs.Prelude.{◌&&◌, ℤ, filter}
use Rattle.std.proofs.lemmas.List.Folds.{list_all-append}
use Rattle.exchange.specs.declared.request.Request.{Request}
use Rattle.label_set.specs.Labels.{value_of}
use Rattle.label_set.specs.declared.rules.Rule.{Rule}
use Rattle.logical_plan.specs.Gathers.{gathered}
use Rattle.logical_plan.specs.Lowering.{planned}
use Rattle.logical_plan.specs.PlanFolds.{of-Filter, of-Gather}
use Rattle.logical_plan.specs.PlanMeaning.{Meant, node_meant, plan_meaning, plan_meant}
use Rattle.logical_plan.specs.PlanRules.{filtered}
use Rattle.logical_plan.specs.declared.nodes.Plan.{Plan}
use Rattle.logical_plan.specs.declared.nodes.PlanNode.{PlanNode}
use Rattle.logical_plan.specs.declared.nodes.PlanNode.TheVariants as node
use Rattle.logical_plan.specs.declared.nodes.PlanNode.TheOpen.{PlanNode-F}
use Rattle.logical_plan.specs.declared.nodes.PlanNode.TheViews.{out-PlanNode, outs-Filter, outs-Gather}
use Rattle.match_rule.specs.Patterns.{kind_passes, labels_pass}
use Rattle.op_labels.specs.Rules.{Kept}
use Rattle.plan_parts.specs.Parts.{IsAskedIn, IsChild}
use Rattle.plan_tree.specs.Shapes.{passing}
use Rattle.promql_ast.specs.declared.tree.Expr.{Expr}
use Rattle.promql_meaning.specs.Filters.{passing_windows}
use Rattle.promql_meaning.specs.Selecting.{Asked}
use Rattle.promql_meaning.specs.declared.given.Given.{Given}
use Rattle.promql_meaning.specs.declared.given.Given.TheVariants as given
use Rattle.promql_meaning.specs.declared.given.Windows.{Windows}
use Rattle.remote_api.specs.declared.asks.Part.{Part}
use Rattle.step_batch.specs.LentWindows.{WindowsAt}
use Rattle.step_table.specs.Groups.{Names}
use Rattle.step_table.specs.declared.cells.PartKind.{PartKind}
use Rattle.step_table.specs.declared.windows.WindowRow.{WindowRow}
use Rattle.window_parts.specs.Engines.{IsGatherUnder, IsGathered, with_rules}

-- ---- which plans

out_gather : (expr : Expr) (kind : PartKind) (engines : List ℕ) → out-PlanNode (node.Gather expr kind engines) ≡ PlanNode-F.Gather expr kind engines
out_gather expr kind engines = rw outs-Gather refl

out_filter : (base : Plan) (rules : List Rule) → out-PlanNode (node.Filter base rules) ≡ PlanNode-F.Filter base rules
out_filter base rules = rw outs-Filter refl

gather_or_filter : (expr : Expr) (kind : PartKind) (engines : List ℕ) (base : Plan) (rules : List Rule) → node.Gather expr kind engines ≡ node.Filter base rules → ⊥
gather_or_filter expr kind engines base rules e =
    let none : PlanNode-F.Gather expr kind engines ≡ PlanNode-F.Filter base rules = sym (out_gather expr kind engines) ∙ ap out-PlanNode e ∙ out_filter base rules in absurd (cc)

same_base : (a b : Plan) (rules more : List Rule) → node.Filter a rules ≡ node.Filter b more → a ≡ b
same_base a b rules more e =
    let same : PlanNode-F.Filter a rules ≡ PlanNode-F.Filter b more = sym (out_filter a rules) ∙ ap out-PlanNode e ∙ out_filter b more in cc

-- what a filter stands over
pub below_filter : (base : Plan) (rules : List Rule) {p : Plan} → IsGathered p → p.node ≡ node.Filter base rules → IsGathered base
below_filter base rules (IsGathered.itself p expr kind engines i) = λ e. absurd (gather_or_filter expr kind engines base rules (sym i ∙ e))
below_filter base rules (IsGathered.under p other more i below) = λ e. subst IsGathered (same_base other base more rules (sym i ∙ e)) below

-- other plans are none
pub not_gathered : {p : Plan} → IsGathered p → ((expr : Expr) (kind : PartKind) (engines : List ℕ) → p.node ≡ node.Gather expr kind engines → ⊥) → ((base : Plan) (rules : List Rule) → p.node ≡ node.Filter base rules → ⊥) → ⊥
not_gathered (IsGathered.itself p expr kind engines i) = λ gather filters. gather expr kind engines i
not_gathered (IsGathered.under p base rules i below) = λ gather filters. filters base rules i

-- the request for the part is asked for in the plan
pub asked_under : (r : Request) {rules : Option (List Rule)} {p : Plan} → IsGatherUnder r.part r.engines rules p → IsAskedIn r p
asked_under r (IsGatherUnder.itself rules p i none) = IsAskedIn.itself p i
asked_under r (IsGatherUnder.under rules own p base more i same below) = IsAskedIn.under base p (IsChild.of_filter more i) (asked_under r below)

-- ---- what passes filters

module _ {X : Type 0} (p q both : X → Bool) (same : (x : X) → both x ≡ (p x && q x)) where
  filter_twice : (xs : List X) → filter q (filter p xs) ≡ filter both xs
  filter_twice [] = refl
  filter_twice (x ∷ xs) = by (p x) (q x) refl refl (filter_twice xs) ∙ ap (λ (b : Bool). cond b (x ∷ filter both xs) (filter both xs)) (sym (same x))
    where
      by : (a b : Bool) → p x ≡ a → q x ≡ b → filter q (filter p xs) ≡ filter both xs → filter q (cond a (x ∷ filter p xs) (filter p xs)) ≡ cond (a && b) (x ∷ filter both xs) (filter both xs)
      by true true e f rest = ap (λ (c : Bool). cond c (x ∷ filter q (filter p xs)) (filter q (filter p xs))) f ∙ ap (λ (ys : List X). x ∷ ys) rest
      by true false e f rest = ap (λ (c : Bool). cond c (x ∷ filter q (filter p xs)) (filter q (filter p xs))) f ∙ rest
      by false b e f rest = rest

module _ (kept : Kept) (rules more : List Rule) where
  pass_both : (names : Names) → labels_pass kept (rules ++ more) names ≡ (labels_pass kept rules names && labels_pass kept more names)
  pass_both names = list_all-append (λ (rule : Rule). kind_passes kept rule.kind (value_of names rule.label)) rules more

  windows_twice : (rows : List WindowRow) → passing_windows kept more (passing_windows kept rules rows) ≡ passing_windows kept (rules ++ more) rows
  windows_twice rows =
      filter_twice (λ (row : WindowRow). labels_pass kept rules row.labels) (λ (row : WindowRow). labels_pass kept more row.labels)
      (λ (row : WindowRow). labels_pass kept (rules ++ more) row.labels) (λ row. pass_both row.labels) rows

-- windows that are lent, at a moment and of a range
abbrev pub lent_as : Windows → WindowsAt → Windows
lent_as none ws = record none { rules = []; rows = ws.rows; marks = ws.marks }

pass_more : (kept : Kept) (own : Option (List Rule)) (more : List Rule) (none : Windows) (ws : WindowsAt)
    → filtered kept more (given.Windows (lent_as none (passing kept own ws))) ≡ given.Windows (lent_as none (passing kept (Some (with_rules own more)) ws))
pass_more kept None more none ws = refl
pass_more kept (Some rules) more none ws = ap (λ (rows : List WindowRow). given.Windows (record none { rules = []; rows = rows; marks = ws.marks })) (windows_twice kept rules more ws.rows)

-- ---- what is given

module _ (asked : Asked) where
  abbrev M : Plan → Meant
  M = plan_meant asked

  there : (p : Plan) (n : PlanNode) → p.node ≡ n → M p ≡ M (planned p.at n)
  there p n e = ap (λ (m : PlanNode). M (planned p.at m)) e

  gives_at : (x y : Meant) → x ≡ y → (t : ℤ) → x.gives t ≡ y.gives t
  gives_at x y e t = ap (λ (m : Meant). m.gives t) e

  -- where engines give windows, the plan gives those that pass its filters
  pub under_gives : (part : Part) (engines : List ℕ) {rules : Option (List Rule)} {p : Plan} → IsGatherUnder part engines rules p → (t : ℤ) (none : Windows) (ws : WindowsAt)
      → gathered asked part.expr part.kind engines t ≡ given.Windows (lent_as none ws) → plan_meaning asked p t ≡ given.Windows (lent_as none (passing asked.kept rules ws))
  under_gives part engines (IsGatherUnder.itself rules p i same) = λ t none ws is.
      gives_at _ _ (there p (node.Gather part.expr part.kind engines) i ∙ of-Gather (node_meant asked) (λ q. q.node) p.at part.expr part.kind engines) t
      ∙ is
      ∙ ap (λ (o : Option (List Rule)). given.Windows (lent_as none (passing asked.kept o ws))) (sym same)
  under_gives part engines (IsGatherUnder.under rules own p base more i same below) = λ t none ws is.
      gives_at _ _ (there p (node.Filter base more) i ∙ of-Filter (node_meant asked) (λ q. q.node) p.at base more) t
      ∙ ap (filtered asked.kept more) (under_gives part engines below t none ws is)
      ∙ pass_more asked.kept own more none ws
      ∙ ap (λ (o : Option (List Rule)). given.Windows (lent_as none (passing asked.kept o ws))) (sym same)
