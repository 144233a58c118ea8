-- Expressions without selectors mean the same over any samples, and scalars give scalars.
use Rattle.std.proofs.Common.{◌≡◌, ℕ, Bool, true, false, List, [], ◌∷◌, ◌++◌, map, refl, sym, ap, subst}
use Rattle.std.specs.Prelude.{ℤ}
use Rattle.std.specs.List.{AllByRecursion}
use Rattle.func_table.specs.declared.table.Func.{Func}
use Rattle.func_table.specs.declared.table.Func.TheVariants as func
use Rattle.promql_ast.specs.declared.tree.Expr.{Expr}
use Rattle.promql_ast.specs.declared.tree.Node.{Node}
use Rattle.promql_ast.specs.declared.tree.Node.TheOpen.{Node-F}
use Rattle.promql_ast.specs.declared.tree.Node.TheViews.{roll-Expr, roll-Node}
use Rattle.promql_ast.specs.declared.tree.Node.TheFolds.{fold-Node, fold-roll-Expr, fold-roll-Node, ind-Expr, map-Node}
use Rattle.step_table.specs.Alike.{has_some}
use Rattle.step_table.specs.Sets.{combined}
use Rattle.step_table.specs.declared.step.Step.{Step}
use Rattle.xfrac.specs.declared.value.PairOp.{PairOp}
use Rattle.label_set.specs.declared.rules.Pairing.{Pairing}
use Rattle.label_set.specs.declared.rules.Rule.{Rule}
use Rattle.promql_meaning.specs.Givens.{no_marks, step_of}
use Rattle.promql_meaning.specs.Meaning.{aggregation, called, given_at, meaning, negation, node_meaning, operation}
use Rattle.promql_meaning.specs.Results.{call_gives_scalar, gives_scalar, node_gives_scalar}
use Rattle.promql_meaning.specs.Selecting.{AllSeries, Asked, moment_of, newest_rows, passing, window_rows}
use Rattle.promql_meaning.specs.Subqueries.{points_of}
use Rattle.promql_meaning.specs.declared.given.Given.{Given}
use Rattle.promql_meaning.specs.declared.given.Given.TheVariants as given
use Rattle.parting_laws.specs.LocalLaws.{ConstantsStay, SelectionsDecide, all_rules, node_rules, rules_in}
use Rattle.parting_laws.specs.PartLaws.{over}
use Rattle.parting_laws.proofs.Chosen.{both_true}

abbrev pub IsScalar : Given → Type 0
IsScalar (given.Scalar step) = Unit {0}
IsScalar (given.Vector step) = ⊥
IsScalar (given.Selected selection) = ⊥
IsScalar (given.Windows windows) = ⊥
IsScalar (given.Words text) = ⊥

front_of : {X : Type 0} (P : X → Type 0) (xs ys : List X) → AllByRecursion P (xs ++ ys) → AllByRecursion P xs
front_of P [] ys a = tt
front_of P (x ∷ xs) ys a = (a.0, front_of P xs ys a.1)

rest_of : {X : Type 0} (P : X → Type 0) (xs ys : List X) → AllByRecursion P (xs ++ ys) → AllByRecursion P ys
rest_of P [] ys a = a
rest_of P (x ∷ xs) ys a = rest_of P xs ys a.1

negated : (g : Given) → IsScalar g → IsScalar (negation g)
negated (given.Scalar step) h = tt
negated (given.Vector step) h = absurd h
negated (given.Selected selection) h = absurd h
negated (given.Windows windows) h = absurd h
negated (given.Words text) h = absurd h

operated : (op : PairOp) (pairing : Pairing) (l r : Given) → IsScalar l → IsScalar r → IsScalar (operation op pairing l r)
operated op pairing (given.Scalar l) (given.Scalar r) h k = tt
operated op pairing (given.Scalar l) (given.Vector r) h k = absurd k
operated op pairing (given.Scalar l) (given.Selected r) h k = absurd k
operated op pairing (given.Scalar l) (given.Windows r) h k = absurd k
operated op pairing (given.Scalar l) (given.Words r) h k = absurd k
operated op pairing (given.Vector l) r h k = absurd h
operated op pairing (given.Selected l) r h k = absurd h
operated op pairing (given.Windows l) r h k = absurd h
operated op pairing (given.Words l) r h k = absurd h

called_scalar : (f : Func) (gs : List Given) (t : ℤ) → call_gives_scalar f ≡ true → IsScalar (called f gs t)
called_scalar (func.Element f) gs t h = absurd (cc)
called_scalar (func.Window f) gs t h = absurd (cc)
called_scalar func.Absent gs t h = absurd (cc)
called_scalar func.AbsentOver gs t h = absurd (cc)
called_scalar func.HistogramQuantile gs t h = absurd (cc)
called_scalar func.LabelJoin gs t h = absurd (cc)
called_scalar func.LabelReplace gs t h = absurd (cc)
called_scalar func.Scalar gs t h = tt
called_scalar func.Sort gs t h = absurd (cc)
called_scalar func.SortDesc gs t h = absurd (cc)
called_scalar func.Time gs t h = tt
called_scalar func.Timestamp gs t h = absurd (cc)
called_scalar func.Vector gs t h = absurd (cc)

module _ (asked : Asked) (a b : AllSeries) where
  -- a selector selects the same series of both
  abbrev IsSame : List Rule → Type 0
  IsSame rules = passing a asked.kept rules ≡ passing b asked.kept rules

  abbrev AreSame : List (List Rule) → Type 0
  AreSame all = AllByRecursion IsSame all

  -- where selectors select the same it means the same, and a scalar gives one
  abbrev Fits : Expr → Type 0
  Fits e = (AreSame (rules_in e) → (t : ℤ) → meaning (over a asked) e t ≡ meaning (over b asked) e t) × (gives_scalar e ≡ true → (t : ℤ) → IsScalar (meaning (over b asked) e t))

  abbrev meaning_in : AllSeries → Node → ℤ → Given
  meaning_in s = fold-Node (ℤ → Given) (ℤ → Given) (node_meaning (over s asked)) (λ e. e.node)

  abbrev in_node : Node → List (List Rule)
  in_node = fold-Node (List (List Rule)) (List (List Rule)) node_rules (λ e. e.node)

  abbrev scalar_in : Node → Bool
  scalar_in = fold-Node Bool Bool node_gives_scalar (λ e. e.node)

  abbrev NodeFits : Node → Type 0
  NodeFits node = (AreSame (in_node node) → (t : ℤ) → meaning_in a node t ≡ meaning_in b node t) × (scalar_in node ≡ true → (t : ℤ) → IsScalar (meaning_in b node t))

  abbrev Fitting : Type 0
  Fitting = Node-F ((n : Node) × NodeFits n) ((e : Expr) × Fits e)

  abbrev plain : Fitting → Node-F Node Expr
  plain = map-Node ((n : Node) × NodeFits n) ((e : Expr) × Fits e) Node Expr (λ n. n.0) (λ e. e.0)

  abbrev Fitted : Type 0
  Fitted = (e : Expr) × Fits e

  abbrev exprs : List Fitted → List Expr
  exprs items = map (λ (item : Fitted). item.0) items

  abbrev node_of : AllSeries → Fitting → ℤ → Given
  node_of s y = node_meaning (over s asked) (map-Node Node Expr (ℤ → Given) (ℤ → Given) (meaning_in s) (meaning (over s asked)) (plain y))

  arguments_same : (items : List Fitted) (t : ℤ) → AreSame (all_rules (map rules_in (exprs items))) → given_at (map (meaning (over a asked)) (exprs items)) t ≡ given_at (map (meaning (over b asked)) (exprs items)) t
  arguments_same [] t h = refl
  arguments_same (item ∷ items) t h =
      let here = item.1.0 (front_of IsSame (rules_in item.0) (all_rules (map rules_in (exprs items))) h) t in
      let rest = arguments_same items t (rest_of IsSame (rules_in item.0) (all_rules (map rules_in (exprs items))) h) in
      λ i. here i ∷ rest i

  level_same : (y : Fitting) → AreSame (node_rules (map-Node Node Expr (List (List Rule)) (List (List Rule)) in_node rules_in (plain y))) → (t : ℤ) → node_of a y t ≡ node_of b y t
  level_same (Node-F.Number value) h t = refl
  level_same (Node-F.Words text) h t = refl
  level_same (Node-F.Paren e) h t = e.1.0 h t
  level_same (Node-F.Negate e) h t = ap negation (e.1.0 h t)
  level_same (Node-F.Select selector) h t = ap (λ (series : AllSeries). given.Selected (record { rules = selector.rules; rows = newest_rows selector.moment.closed (moment_of asked selector.moment t) series })) h.0
  level_same (Node-F.Range selector range) h t =
      ap (λ (series : AllSeries). given.Windows (record { moment = record { 0 = moment_of asked selector.moment t }; range = range; rules = selector.rules; rows = window_rows selector.moment.closed (moment_of asked selector.moment t) range.0 series; marks = no_marks })) h.0
  level_same (Node-F.Subquery e range step moment) h t = ap (λ (inner : ℤ → Step). given.Windows (points_of moment.closed inner range step (moment_of asked moment t))) (λ i u. step_of (e.1.0 h u i))
  level_same (Node-F.Call f items) h t = ap (λ gs. called f gs t) (arguments_same items t h)
  level_same (Node-F.Aggregate f by items) h t = ap (λ gs. given.Vector (aggregation f by gs)) (arguments_same items t h)
  level_same (Node-F.Pair op l r pairing) h t =
      let left = l.1.0 (front_of IsSame (rules_in l.0) (rules_in r.0) h) t in
      let right = r.1.0 (rest_of IsSame (rules_in l.0) (rules_in r.0) h) t in
      λ i. operation op pairing (left i) (right i)
  level_same (Node-F.Set op l r pairing) h t =
      let left = l.1.0 (front_of IsSame (rules_in l.0) (rules_in r.0) h) t in
      let right = r.1.0 (rest_of IsSame (rules_in l.0) (rules_in r.0) h) t in
      λ i. given.Vector (combined (step_of (left i)) (step_of (right i)) op pairing)

  level_scalar : (y : Fitting) → node_gives_scalar (map-Node Node Expr Bool Bool scalar_in gives_scalar (plain y)) ≡ true → (t : ℤ) → IsScalar (node_of b y t)
  level_scalar (Node-F.Number value) h t = tt
  level_scalar (Node-F.Words text) h t = absurd (cc)
  level_scalar (Node-F.Paren e) h t = e.1.1 h t
  level_scalar (Node-F.Negate e) h t = negated (meaning (over b asked) e.0 t) (e.1.1 h t)
  level_scalar (Node-F.Select selector) h t = absurd (cc)
  level_scalar (Node-F.Range selector range) h t = absurd (cc)
  level_scalar (Node-F.Subquery e range step moment) h t = absurd (cc)
  level_scalar (Node-F.Call f items) h t = called_scalar f (given_at (map (meaning (over b asked)) (exprs items)) t) t h
  level_scalar (Node-F.Aggregate f by items) h t = absurd (cc)
  level_scalar (Node-F.Pair op l r pairing) h t =
      let two = both_true (gives_scalar l.0) (gives_scalar r.0) h in
      operated op pairing (meaning (over b asked) l.0 t) (meaning (over b asked) r.0 t) (l.1.1 two.0 t) (r.1.1 two.1 t)
  level_scalar (Node-F.Set op l r pairing) h t = absurd (cc)

  node_fits : (y : Fitting) → NodeFits (roll-Node (plain y))
  node_fits y =
      let means = λ (s : AllSeries). fold-roll-Node (ℤ → Given) (ℤ → Given) (node_meaning (over s asked)) (λ e. e.node) (plain y) in (
        λ h t. subst (λ (f : ℤ → Given). f t ≡ meaning_in b (roll-Node (plain y)) t) (sym (means a))
            (subst (λ (f : ℤ → Given). node_of a y t ≡ f t) (sym (means b)) (level_same y (subst AreSame (fold-roll-Node (List (List Rule)) (List (List Rule)) node_rules (λ e. e.node) (plain y)) h) t)),
        λ h t. subst (λ (f : ℤ → Given). IsScalar (f t)) (sym (means b)) (level_scalar y (subst (λ r. r ≡ true) (fold-roll-Node Bool Bool node_gives_scalar (λ e. e.node) (plain y)) h) t),
      )

  expr_fits : (at : ℕ) (node : Node) → NodeFits node → Fits (roll-Expr (record { at = at; node = node }))
  expr_fits at node is =
      let means = λ (s : AllSeries). fold-roll-Expr (ℤ → Given) (ℤ → Given) (node_meaning (over s asked)) (λ e. e.node) (record { at = at; node = node }) in (
        λ h t. subst (λ (f : ℤ → Given). f t ≡ meaning (over b asked) (roll-Expr (record { at = at; node = node })) t) (sym (means a))
            (subst (λ (f : ℤ → Given). meaning_in a node t ≡ f t) (sym (means b)) (is.0 (subst AreSame (fold-roll-Expr (List (List Rule)) (List (List Rule)) node_rules (λ e. e.node) (record { at = at; node = node })) h) t)),
        λ h t. subst (λ (f : ℤ → Given). IsScalar (f t)) (sym (means b)) (is.1 (subst (λ r. r ≡ true) (fold-roll-Expr Bool Bool node_gives_scalar (λ e. e.node) (record { at = at; node = node })) h) t),
      )

  all_fit : (e : Expr) → Fits e
  all_fit = ind-Expr NodeFits Fits (λ x y is. subst (λ z. NodeFits (roll-Node z)) is (node_fits y)) (λ x y is. subst (λ z. Fits (roll-Expr z)) is (expr_fits y.at y.node.0 y.node.1))

pub selections_decide : SelectionsDecide
selections_decide asked a b e t h = (all_fit asked a b e).0 h t

pub constants_stay : ConstantsStay
constants_stay asked samples e t h = selections_decide asked samples asked.samples e t (by (rules_in e) h)
  where
    by : (all : List (List Rule)) → has_some all ≡ false → AllByRecursion (λ (rules : List Rule). passing samples asked.kept rules ≡ passing asked.samples asked.kept rules) all
    by [] k = tt
    by (rules ∷ all) k = absurd (cc)

-- a scalar's step
pub scalar_given : (asked : Asked) (e : Expr) (t : ℤ) → gives_scalar e ≡ true → (step : Step) × (meaning asked e t ≡ given.Scalar step)
scalar_given asked e t h = by (meaning asked e t) ((all_fit asked [] asked.samples e).1 h t)
  where
    by : (g : Given) → IsScalar g → (step : Step) × (g ≡ given.Scalar step)
    by (given.Scalar step) k = (step, refl)
    by (given.Vector step) k = absurd k
    by (given.Selected selection) k = absurd k
    by (given.Windows windows) k = absurd k
    by (given.Words text) k = absurd k
