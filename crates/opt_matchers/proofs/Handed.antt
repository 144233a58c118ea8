-- Selectors that hand each other rules mean together what they meant.
use Rattle.std.proofs.Common.{◌≡◌, ◌∙◌, ℕ, List, [], ◌∷◌, ◌++◌, ap, ap₂, sym, refl, subst, Some, None, Bool, true, false, cond}
use Rattle.std.specs.Prelude.{Option, ◌&&◌, not, filter, fold, unwrap_or}
use Rattle.std.specs.BTreeMap.{is_at}
use Rattle.std.specs.List.{AllByRecursion, list_all}
use Rattle.std.proofs.lemmas.Map.Text.{is_eq-slice_cmp}
use Rattle.std.proofs.lemmas.Slice.Eq.{bytes_eq-Decides}
use Rattle.label_set.specs.Labels.{byte_cmp, metric_name, value_at, value_of}
use Rattle.label_set.specs.declared.rules.Card.{Card}
use Rattle.label_set.specs.declared.rules.Card.TheVariants.{GroupLeft, GroupRight, OneToOne}
use Rattle.label_set.specs.declared.rules.Pairing.{Pairing}
use Rattle.label_set.specs.declared.rules.Rule.{Rule}
use Rattle.label_set.specs.declared.rules.RuleKind.{RuleKind}
use Rattle.label_set.specs.declared.rules.RuleKind.TheVariants.{Eq, Ne, Re, Nre}
use Rattle.match_rule.specs.Patterns.{kind_passes}
use Rattle.promql_meaning.specs.Filters.{MoreRulesFilterRows}
use Rattle.promql_meaning.specs.Selecting.{Asked}
use Rattle.step_table.specs.Groups.{Names}
use Rattle.xfrac.specs.declared.value.ArithOp.{ArithOp}
use Rattle.xfrac.specs.declared.value.PairOp.TheVariants.{Arith, Filter, Flag}
use Rattle.logical_plan.specs.declared.nodes.Plan.{Plan}
use Rattle.logical_plan.specs.declared.nodes.PlanNode.{PlanNode}
use Rattle.logical_plan.specs.declared.nodes.PlanNode.TheVariants as node
use Rattle.logical_plan.specs.declared.nodes.PlanNode.TheOpen.{PlanNode-F}
use Rattle.logical_plan.specs.declared.nodes.PlanNode.TheViews.{out-PlanNode}
use Rattle.logical_plan.specs.declared.nodes.PlanNode.TheFolds.{fold_out-Plan, fold_out-PlanNode, map-PlanNode}
use Rattle.logical_plan.specs.PlanFolds.{of-Select}
use Rattle.logical_plan.specs.PlanMeaning.{Meant, node_meant, plan_meant}
use Rattle.plan_rewrite.specs.NodeMeanings.{at_pair, rolled_means}
use Rattle.plan_rewrite.specs.Rebuilding.{KeepsMeaning, node_of}
use Rattle.plan_rewrite.specs.RuleLaws.{added, kept_passes, member}
use Rattle.plan_rewrite.specs.RuleLists.{AreTogether, has_rule}
use Rattle.opt_matchers.specs.Handing.{HaveLabelSets, Operand, hand_rules, handed_over, is_none_named, is_on_metric, is_one_name, is_one_to_one, is_plain, names_it, names_metric, operand, operand_at, other_rules, pair_of, selecting, with_rule, with_rules_of}
use Rattle.opt_matchers.proofs.Partners.{wordless}
use Rattle.opt_matchers.proofs.Propagates.{AreHanded, AskName, both_keep}

-- ---- the name that rules ask for

abbrev passes : Asked → Names → Rule → Bool
passes asked names rule = kind_passes asked.kept rule.kind (value_of names rule.label)

all_on_metric : (rules : List Rule) → AllByRecursion (λ (rule : Rule). rule.label ≡ metric_name) (filter is_on_metric rules)
all_on_metric [] = tt
all_on_metric (r ∷ rules) = by (is_on_metric r) refl (all_on_metric rules)
  where
    by : (b : Bool) → is_on_metric r ≡ b → AllByRecursion (λ (rule : Rule). rule.label ≡ metric_name) (filter is_on_metric rules)
        → AllByRecursion (λ (rule : Rule). rule.label ≡ metric_name) (cond b (r ∷ filter is_on_metric rules) (filter is_on_metric rules))
    by true is rest = ((bytes_eq-Decides r.label metric_name).0 is, rest)
    by false is rest = rest

has_value : (found : Option (List ℕ)) (b : ℕ) (text : List ℕ) → unwrap_or found [] ≡ b ∷ text → found ≡ Some (b ∷ text)
has_value None b text e = absurd (cc)
has_value (Some value) b text e = ap Some e

both_left : (a b : Bool) → (a && b) ≡ true → a ≡ true
both_left true b e = refl
both_left false b e = absurd (cc)

both_right : (a b : Bool) → (a && b) ≡ true → b ≡ true
both_right true b e = e
both_right false b e = absurd (cc)

named : (asked : Asked) (kind : RuleKind) → names_it kind ≡ true → (name : List ℕ) × ((names : Names) → kind_passes asked.kept kind (value_of names metric_name) ≡ true → value_at names metric_name ≡ Some name)
named asked (Eq []) e = absurd (cc)
named asked (Eq (b ∷ text)) e = (b ∷ text, λ names p. has_value (value_at names metric_name) b text ((bytes_eq-Decides (value_of names metric_name) (b ∷ text)).0 p))
named asked (Ne text) e = absurd (cc)
named asked (Re id) e = absurd (cc)
named asked (Nre id) e = absurd (cc)

asks_name : (asked : Asked) (rules : List Rule) → names_metric rules ≡ true → (name : List ℕ) × AskName asked rules name
asks_name asked rules e = by (filter is_on_metric rules) refl e (all_on_metric rules)
  where
    by : (found : List Rule) → filter is_on_metric rules ≡ found → is_one_name found ≡ true → AllByRecursion (λ (rule : Rule). rule.label ≡ metric_name) (filter is_on_metric rules) → (name : List ℕ) × AskName asked rules name
    by [] is e all = absurd (cc)
    by (r ∷ []) is e all =
        let label : r.label ≡ metric_name = (subst (AllByRecursion (λ (rule : Rule). rule.label ≡ metric_name)) is all).0 in
        let name = named asked r.kind e in (
          name.0,
          λ names p.
              let passing : list_all (passes asked names) (r ∷ []) ≡ true = ap (list_all (passes asked names)) (sym is) ∙ kept_passes (passes asked names) is_on_metric rules p in
              name.1 names (ap (λ l. kind_passes asked.kept r.kind (value_of names l)) (sym label) ∙ both_left (passes asked names r) true passing),
        )
    by (r ∷ s ∷ found) is e all = absurd (cc)

-- ---- the rules that are handed

module _ (p : Rule → Bool) where
  with_one : (rules : List Rule) (rule : Rule) → list_all p (with_rule rules rule) ≡ (list_all p rules && p rule)
  with_one rules rule = by (has_rule rules rule) refl
    where
      there : (b : Bool) → list_all p rules ≡ b → has_rule rules rule ≡ true → list_all p rules ≡ (list_all p rules && p rule)
      there true all is = all ∙ sym (ap₂ ◌&&◌ all (member p rules rule is all))
      there false all is = all ∙ sym (ap (λ b. b && p rule) all)

      alone : (b : Bool) → (b && true) ≡ b
      alone true = refl
      alone false = refl

      by : (b : Bool) → has_rule rules rule ≡ b → list_all p (cond b rules (rules ++ rule ∷ [])) ≡ (list_all p rules && p rule)
      by true is = there (list_all p rules) refl is
      by false is = added p rules (rule ∷ []) ∙ ap (λ b. list_all p rules && b) (alone (p rule))

  grouped : (x y z : Bool) → ((x && y) && z) ≡ (x && (y && z))
  grouped true y z = refl
  grouped false y z = refl

  with_all : (rules others : List Rule) → list_all p (fold with_rule rules others) ≡ (list_all p rules && list_all p others)
  with_all rules [] = ended (list_all p rules)
    where
      ended : (b : Bool) → b ≡ (b && true)
      ended true = refl
      ended false = refl
  with_all rules (r ∷ others) = with_all (with_rule rules r) others ∙ ap (λ b. b && list_all p others) (with_one rules r) ∙ grouped (list_all p rules) (p r) (list_all p others)

handed_together : (asked : Asked) (rules others : List Rule) → AreTogether asked (with_rules_of rules others) rules (other_rules others)
handed_together asked rules others names = with_all (passes asked names) rules (other_rules others)

others_kept : (rules : List Rule) → AllByRecursion (λ (rule : Rule). is_at (byte_cmp rule.label) metric_name ≡ false) (other_rules rules)
others_kept [] = tt
others_kept (r ∷ rules) = by (is_on_metric r) refl (others_kept rules)
  where
    by : (b : Bool) → is_on_metric r ≡ b → AllByRecursion (λ (rule : Rule). is_at (byte_cmp rule.label) metric_name ≡ false) (other_rules rules)
        → AllByRecursion (λ (rule : Rule). is_at (byte_cmp rule.label) metric_name ≡ false) (cond (not b) (r ∷ other_rules rules) (other_rules rules))
    by true is rest = rest
    by false is rest = (is_eq-slice_cmp r.label metric_name ∙ is, rest)

are_handed : (asked : Asked) (rules : List Rule) → AreHanded asked rules (other_rules rules)
are_handed asked rules = record {
  others = others_kept rules;
  part = λ names e. kept_passes (passes asked names) (λ (rule : Rule). not (is_on_metric rule)) rules e;
}

-- ---- the sides

plain_is : (on : Bool) (names : List (List ℕ)) (card : Card) (extra : List (List ℕ)) → (not on && is_none_named names && is_one_to_one card) ≡ true
    → (record { on = on; names = names; card = card; extra = extra }) ≡ wordless extra
plain_is false [] OneToOne extra e = refl
plain_is false [] GroupLeft extra e = absurd (cc)
plain_is false [] GroupRight extra e = absurd (cc)
plain_is false (n ∷ names) card extra e = absurd (cc)
plain_is true names card extra e = absurd (cc)

module _ (asked : Asked) where
  operand_means : (p : Plan) (a : Operand) → operand p ≡ Some a → plan_meant asked p ≡ node_meant asked (PlanNode-F.Select a.rules a.moment false)
  operand_means p a e =
      fold_out-Plan Meant Meant (node_meant asked) (λ p. p.node) p ∙ fold_out-PlanNode Meant Meant (node_meant asked) (λ p. p.node) p.node ∙ by (out-PlanNode p.node) e
    where
      by : (y : PlanNode-F PlanNode Plan) → operand_at p.at y ≡ Some a
          → node_meant asked (map-PlanNode PlanNode Plan Meant Meant (node_of asked) (plan_meant asked) y) ≡ node_meant asked (PlanNode-F.Select a.rules a.moment false)
      by (PlanNode-F.Select rules moment false) e =
          let same : record { at = p.at; rules = rules; moment = moment } ≡ a = cc in
          ap (λ (o : Operand). node_meant asked (PlanNode-F.Select o.rules o.moment false)) same
      by (PlanNode-F.Number value) e = absurd (cc)
      by PlanNode-F.Time e = absurd (cc)
      by (PlanNode-F.Select rules moment true) e = absurd (cc)
      by (PlanNode-F.Range rules moment range) e = absurd (cc)
      by (PlanNode-F.Subquery inner range step moment) e = absurd (cc)
      by (PlanNode-F.Element f inner arguments) e = absurd (cc)
      by (PlanNode-F.Stamp inner) e = absurd (cc)
      by (PlanNode-F.Window f inner arguments) e = absurd (cc)
      by (PlanNode-F.Absent labels inner) e = absurd (cc)
      by (PlanNode-F.Buckets quantile inner) e = absurd (cc)
      by (PlanNode-F.Relabel rule inner) e = absurd (cc)
      by (PlanNode-F.Sort down inner) e = absurd (cc)
      by (PlanNode-F.ScalarOf inner) e = absurd (cc)
      by (PlanNode-F.VectorOf inner) e = absurd (cc)
      by (PlanNode-F.Group f grouping arguments label) e = absurd (cc)
      by (PlanNode-F.Pair op left right pairing) e = absurd (cc)
      by (PlanNode-F.Set op left right pairing) e = absurd (cc)
      by (PlanNode-F.Filter base rules) e = absurd (cc)
      by (PlanNode-F.Ratio sum count) e = absurd (cc)
      by (PlanNode-F.Once inner) e = absurd (cc)
      by (PlanNode-F.Gather expr kind engines) e = absurd (cc)

  module _ (rows_pass : MoreRulesFilterRows) (sets : HaveLabelSets asked) where
    module _ (op : ArithOp) (left right : Plan) (pairing : Pairing) where
      abbrev whole : Meant
      whole = node_meant asked (PlanNode-F.Pair (Arith op) (plan_meant asked left) (plan_meant asked right) pairing)

      stays : node_of asked (node.Pair (Arith op) left right pairing) ≡ whole
      stays = at_pair asked (Arith op) left right pairing

      both_means : (a b : Operand) → is_plain pairing ≡ true → operand left ≡ Some a → operand right ≡ Some b → names_metric a.rules ≡ true → names_metric b.rules ≡ true
          → node_of asked (node.Pair (Arith op) (selecting a (with_rules_of a.rules b.rules)) (selecting b (with_rules_of b.rules a.rules)) pairing) ≡ whole
      both_means a b plain is_a is_b names_a names_b =
          let words : pairing ≡ wordless pairing.extra = plain_is pairing.on pairing.names pairing.card pairing.extra plain in
          let name = asks_name asked b.rules names_b in
          ap (λ (p : Pairing). node_of asked (node.Pair (Arith op) (selecting a (with_rules_of a.rules b.rules)) (selecting b (with_rules_of b.rules a.rules)) p)) words
          ∙ sym (both_keep rows_pass asked a.at b.at (Arith op) pairing.extra a.rules b.rules (other_rules b.rules) (other_rules a.rules) (with_rules_of a.rules b.rules) (with_rules_of b.rules a.rules)
          a.moment b.moment name.0 sets name.1 (handed_together asked a.rules b.rules) (handed_together asked b.rules a.rules) (are_handed asked b.rules) (are_handed asked a.rules))
          ∙ at_pair asked (Arith op) (selecting a a.rules) (selecting b b.rules) (wordless pairing.extra)
          ∙ ap₂ (λ x y. node_meant asked (PlanNode-F.Pair (Arith op) x y (wordless pairing.extra)))
          (of-Select (node_meant asked) (λ p. p.node) a.at a.rules a.moment false ∙ sym (operand_means left a is_a))
          (of-Select (node_meant asked) (λ p. p.node) b.at b.rules b.moment false ∙ sym (operand_means right b is_b))
          ∙ ap (λ (p : Pairing). node_meant asked (PlanNode-F.Pair (Arith op) (plan_meant asked left) (plan_meant asked right) p)) (sym words)

      named_means : (a b : Operand) (n : Bool) → is_plain pairing ≡ true → operand left ≡ Some a → operand right ≡ Some b → (names_metric a.rules && names_metric b.rules) ≡ n
          → node_of asked (pair_of (Arith op) left right pairing (cond n (Some (selecting a (with_rules_of a.rules b.rules), selecting b (with_rules_of b.rules a.rules))) None)) ≡ whole
      named_means a b true plain is_a is_b e = both_means a b plain is_a is_b (both_left (names_metric a.rules) (names_metric b.rules) e) (both_right (names_metric a.rules) (names_metric b.rules) e)
      named_means a b false plain is_a is_b e = stays

      sides_mean : (x y : Option Operand) → is_plain pairing ≡ true → operand left ≡ x → operand right ≡ y → node_of asked (pair_of (Arith op) left right pairing (handed_over x y)) ≡ whole
      sides_mean (Some a) (Some b) plain is_a is_b = named_means a b (names_metric a.rules && names_metric b.rules) plain is_a is_b refl
      sides_mean (Some a) None plain is_a is_b = stays
      sides_mean None y plain is_a is_b = stays

      pair_means : (b : Bool) → is_plain pairing ≡ b → node_of asked (pair_of (Arith op) left right pairing (cond b (handed_over (operand left) (operand right)) None)) ≡ whole
      pair_means true e = sides_mean (operand left) (operand right) e refl refl
      pair_means false e = stays

  pub rules_handed : MoreRulesFilterRows → HaveLabelSets asked → KeepsMeaning asked hand_rules
  rules_handed rows_pass sets at (PlanNode-F.Pair (Arith op) left right pairing) =
      pair_means rows_pass sets op left right pairing (is_plain pairing) refl ∙ sym (rolled_means asked (PlanNode-F.Pair (Arith op) left right pairing))
  rules_handed rows_pass sets at (PlanNode-F.Pair (Filter c) left right pairing) = refl
  rules_handed rows_pass sets at (PlanNode-F.Pair (Flag c) left right pairing) = refl
  rules_handed rows_pass sets at (PlanNode-F.Number value) = refl
  rules_handed rows_pass sets at PlanNode-F.Time = refl
  rules_handed rows_pass sets at (PlanNode-F.Range rules moment range) = refl
  rules_handed rows_pass sets at (PlanNode-F.Subquery inner range step moment) = refl
  rules_handed rows_pass sets at (PlanNode-F.Element f inner arguments) = refl
  rules_handed rows_pass sets at (PlanNode-F.Stamp inner) = refl
  rules_handed rows_pass sets at (PlanNode-F.Window f inner arguments) = refl
  rules_handed rows_pass sets at (PlanNode-F.Absent labels inner) = refl
  rules_handed rows_pass sets at (PlanNode-F.Buckets quantile inner) = refl
  rules_handed rows_pass sets at (PlanNode-F.Relabel rule inner) = refl
  rules_handed rows_pass sets at (PlanNode-F.Sort down inner) = refl
  rules_handed rows_pass sets at (PlanNode-F.ScalarOf inner) = refl
  rules_handed rows_pass sets at (PlanNode-F.VectorOf inner) = refl
  rules_handed rows_pass sets at (PlanNode-F.Group f by arguments label) = refl
  rules_handed rows_pass sets at (PlanNode-F.Set op left right pairing) = refl
  rules_handed rows_pass sets at (PlanNode-F.Filter base rules) = refl
  rules_handed rows_pass sets at (PlanNode-F.Ratio sum count) = refl
  rules_handed rows_pass sets at (PlanNode-F.Once inner) = refl
  rules_handed rows_pass sets at (PlanNode-F.Gather expr kind engines) = refl
  rules_handed rows_pass sets at (PlanNode-F.Select rules moment stamped) = refl
