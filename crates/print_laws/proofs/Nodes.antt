-- The canonical text of each kind of node, and the node without its place.
use Rattle.std.proofs.Common.{◌≡◌, ◌∙◌, ℕ, ◌++◌, Bool, true, false, List, [], map, refl, ap, sym, append_assoc, codes}
use Rattle.std.specs.Prelude.{if◌then◌else◌}
use Rattle.func_table.specs.Naming.{aggregate_name, function_name}
use Rattle.func_table.specs.declared.table.Aggregate.{Aggregate}
use Rattle.func_table.specs.declared.table.Func.{Func}
use Rattle.label_set.specs.LabelText.{quoted}
use Rattle.label_set.specs.declared.rules.Grouping.{Grouping}
use Rattle.label_set.specs.declared.rules.Pairing.{Pairing}
use Rattle.func_table.specs.declared.table.SetOp.{SetOp}
use Rattle.xfrac.specs.declared.value.ArithOp.{ArithOp}
use Rattle.xfrac.specs.declared.value.CompareOp.{CompareOp}
use Rattle.promql_ast.specs.Folds.{fold-Aggregate, fold-Call, fold-Negate, fold-Number, fold-Pair, fold-Paren, fold-Range, fold-Select, fold-Set, fold-Subquery, fold-Words}
use Rattle.promql_ast.specs.declared.tree.Expr.{Expr}
use Rattle.promql_ast.specs.declared.tree.Moment.{Moment}
use Rattle.promql_ast.specs.declared.tree.Selector.{Selector}
use Rattle.promql_ast.specs.declared.tree.Node.TheVariants.{Number, Words, Paren, Negate, Select, Range, Subquery, Call, Aggregate as Aggregated, Pair, Set}
use Rattle.promql_parse.specs.Build.{node_of, tree}
use Rattle.promql_parts.specs.Operators.{is_comparison}
use Rattle.promql_parts.specs.Patterned.{Kept}
use Rattle.promql_parts.specs.Steps.{true_false}
use Rattle.promql_parts.specs.declared.operator.BinaryOp.{BinaryOp}
use Rattle.promql_parts.specs.declared.operator.BinaryOp.TheVariants as ops
use Rattle.promql_parts.specs.declared.operator.Matching.{Matching}
use Rattle.promql_print.specs.Canonical.{blank, canonical, node_text, number_text, range_text, select_text, steps_text}
use Rattle.promql_print.specs.Labels.{in_parens}
use Rattle.promql_print.specs.Operators.{arithmetic_sign, comparison_sign, grouping_words, pairing_words, set_word, tells_grouping}
use Rattle.ticks.specs.declared.moment.Ms.{Ms}
use Rattle.xfrac.specs.declared.value.PairOp.TheVariants as pairs
use Rattle.xfrac.specs.declared.value.XFrac.{XFrac}
use Rattle.print_laws.proofs.OperatorsRead.{matching_text, sign_text}
use Rattle.print_laws.specs.Same.{at_the_start, same_node, unplaced}

-- ---- texts

plain_sides : (sign pairing right : List ℕ) → sign ++ (pairing ++ (codes " " ++ right)) ≡ (sign ++ ([] ++ pairing)) ++ (codes " " ++ right)
plain_sides sign pairing right = sym (append_assoc sign pairing (codes " " ++ right))

flag_sides : (sign pairing right : List ℕ) → (sign ++ codes " bool") ++ (pairing ++ (codes " " ++ right)) ≡ (sign ++ (codes " bool" ++ pairing)) ++ (codes " " ++ right)
flag_sides sign pairing right =
    append_assoc sign (codes " bool") (pairing ++ (codes " " ++ right)) ∙ sym (append_assoc sign (codes " bool" ++ pairing) (codes " " ++ right))

abbrev sides : Kept → Expr → Expr → List ℕ → List ℕ
sides kept l r words = canonical kept l ++ (codes " " ++ (words ++ (codes " " ++ canonical kept r)))

module _ (kept : Kept) (at : ℕ) where
  pub number_is : (value : XFrac) → canonical kept (tree at (Number value)) ≡ number_text value
  number_is value = fold-Number (node_text kept) (λ e. e.node) (tree at (Number value)) value refl

  pub words_are : (text : List ℕ) → canonical kept (tree at (Words text)) ≡ quoted text
  words_are text = fold-Words (node_text kept) (λ e. e.node) (tree at (Words text)) text refl

  pub paren_is : (e : Expr) → canonical kept (tree at (Paren e)) ≡ codes "(" ++ (canonical kept e ++ codes ")")
  paren_is e = fold-Paren (node_text kept) (λ e. e.node) (tree at (Paren e)) e refl

  pub negate_is : (e : Expr) → canonical kept (tree at (Negate e)) ≡ codes "-" ++ canonical kept e
  negate_is e = fold-Negate (node_text kept) (λ e. e.node) (tree at (Negate e)) e refl

  pub select_is : (s : Selector) → canonical kept (tree at (Select s)) ≡ select_text kept s.rules s.moment
  select_is s = fold-Select (node_text kept) (λ e. e.node) (tree at (Select s)) s refl

  pub range_is : (s : Selector) (range : Ms) → canonical kept (tree at (Range s range)) ≡ range_text kept s.rules range s.moment
  range_is s range = fold-Range (node_text kept) (λ e. e.node) (tree at (Range s range)) s range refl

  pub subquery_is : (e : Expr) (range step : Ms) (moment : Moment) → canonical kept (tree at (Subquery e range step moment)) ≡ canonical kept e ++ steps_text range step moment
  subquery_is e range step moment = fold-Subquery (node_text kept) (λ e. e.node) (tree at (Subquery e range step moment)) e range step moment refl

  pub call_is : (f : Func) (es : List Expr) → canonical kept (tree at (Call f es)) ≡ function_name f ++ in_parens (map (canonical kept) es)
  call_is f es = fold-Call (node_text kept) (λ e. e.node) (tree at (Call f es)) f es refl

  pub aggregate_is : (f : Aggregate) (grouping : Grouping) (es : List Expr)
      → canonical kept (tree at (Aggregated f grouping es)) ≡ aggregate_name f ++ (grouping_words grouping ++ (blank (tells_grouping grouping) ++ in_parens (map (canonical kept) es)))
  aggregate_is f grouping es = fold-Aggregate (node_text kept) (λ e. e.node) (tree at (Aggregated f grouping es)) f grouping es refl

  arith_is : (op : ArithOp) (flag : Bool) (pairing : Pairing) (l r : Expr) → (flag ≡ true → false ≡ true)
      → canonical kept (tree at (Pair (pairs.Arith op) l r pairing)) ≡ sides kept l r (arithmetic_sign op ++ matching_text (record { flag = flag; pairing = pairing }))
  arith_is op true pairing l r fits = true_false (sym (fits refl))
  arith_is op false pairing l r fits =
      fold-Pair (node_text kept) (λ e. e.node) (tree at (Pair (pairs.Arith op) l r pairing)) (pairs.Arith op) l r pairing refl
      ∙ ap (λ xs. canonical kept l ++ (codes " " ++ xs)) (plain_sides (arithmetic_sign op) (pairing_words pairing) (canonical kept r))

  compare_is : (op : CompareOp) (flag : Bool) (pairing : Pairing) (l r : Expr)
      → canonical kept (tree at (Pair (if flag then pairs.Flag op else pairs.Filter op) l r pairing)) ≡ sides kept l r (comparison_sign op ++ matching_text (record { flag = flag; pairing = pairing }))
  compare_is op true pairing l r =
      fold-Pair (node_text kept) (λ e. e.node) (tree at (Pair (pairs.Flag op) l r pairing)) (pairs.Flag op) l r pairing refl
      ∙ ap (λ xs. canonical kept l ++ (codes " " ++ xs)) (flag_sides (comparison_sign op) (pairing_words pairing) (canonical kept r))
  compare_is op false pairing l r =
      fold-Pair (node_text kept) (λ e. e.node) (tree at (Pair (pairs.Filter op) l r pairing)) (pairs.Filter op) l r pairing refl
      ∙ ap (λ xs. canonical kept l ++ (codes " " ++ xs)) (plain_sides (comparison_sign op) (pairing_words pairing) (canonical kept r))

  set_is : (op : SetOp) (flag : Bool) (pairing : Pairing) (l r : Expr) → (flag ≡ true → false ≡ true)
      → canonical kept (tree at (Set op l r pairing)) ≡ sides kept l r (set_word op ++ matching_text (record { flag = flag; pairing = pairing }))
  set_is op true pairing l r fits = true_false (sym (fits refl))
  set_is op false pairing l r fits =
      fold-Set (node_text kept) (λ e. e.node) (tree at (Set op l r pairing)) op l r pairing refl
      ∙ ap (λ xs. canonical kept l ++ (codes " " ++ xs)) (plain_sides (set_word op) (pairing_words pairing) (canonical kept r))

  pub sides_are : (op : BinaryOp) (m : Matching) (l r : Expr) → (m.flag ≡ true → is_comparison op ≡ true)
      → canonical kept (tree at (node_of op m l r)) ≡ canonical kept l ++ (codes " " ++ ((sign_text op ++ matching_text m) ++ (codes " " ++ canonical kept r)))
  sides_are (ops.Arith op) m l r fits = arith_is op m.flag m.pairing l r fits
  sides_are (ops.Compare op) m l r fits = compare_is op m.flag m.pairing l r
  sides_are (ops.Set op) m l r fits = set_is op m.flag m.pairing l r fits

-- ---- without the place

module _ (at : ℕ) where
  pub bare_number : (value : XFrac) → unplaced (tree at (Number value)) ≡ tree 0 (Number value)
  bare_number value = fold-Number same_node at_the_start (tree at (Number value)) value refl

  pub bare_words : (text : List ℕ) → unplaced (tree at (Words text)) ≡ tree 0 (Words text)
  bare_words text = fold-Words same_node at_the_start (tree at (Words text)) text refl

  pub bare_paren : (e : Expr) → unplaced (tree at (Paren e)) ≡ tree 0 (Paren (unplaced e))
  bare_paren e = fold-Paren same_node at_the_start (tree at (Paren e)) e refl

  pub bare_negate : (e : Expr) → unplaced (tree at (Negate e)) ≡ tree 0 (Negate (unplaced e))
  bare_negate e = fold-Negate same_node at_the_start (tree at (Negate e)) e refl

  pub bare_select : (s : Selector) → unplaced (tree at (Select s)) ≡ tree 0 (Select s)
  bare_select s = fold-Select same_node at_the_start (tree at (Select s)) s refl

  pub bare_range : (s : Selector) (range : Ms) → unplaced (tree at (Range s range)) ≡ tree 0 (Range s range)
  bare_range s range = fold-Range same_node at_the_start (tree at (Range s range)) s range refl

  pub bare_subquery : (e : Expr) (range step : Ms) (moment : Moment) → unplaced (tree at (Subquery e range step moment)) ≡ tree 0 (Subquery (unplaced e) range step moment)
  bare_subquery e range step moment = fold-Subquery same_node at_the_start (tree at (Subquery e range step moment)) e range step moment refl

  pub bare_call : (f : Func) (es : List Expr) → unplaced (tree at (Call f es)) ≡ tree 0 (Call f (map unplaced es))
  bare_call f es = fold-Call same_node at_the_start (tree at (Call f es)) f es refl

  pub bare_aggregate : (f : Aggregate) (grouping : Grouping) (es : List Expr) → unplaced (tree at (Aggregated f grouping es)) ≡ tree 0 (Aggregated f grouping (map unplaced es))
  bare_aggregate f grouping es = fold-Aggregate same_node at_the_start (tree at (Aggregated f grouping es)) f grouping es refl

  pub bare_sides : (op : BinaryOp) (m : Matching) (l r : Expr) → unplaced (tree at (node_of op m l r)) ≡ tree 0 (node_of op m (unplaced l) (unplaced r))
  bare_sides (ops.Arith op) m l r = fold-Pair same_node at_the_start (tree at (node_of (ops.Arith op) m l r)) _ l r m.pairing refl
  bare_sides (ops.Compare op) m l r = fold-Pair same_node at_the_start (tree at (node_of (ops.Compare op) m l r)) _ l r m.pairing refl
  bare_sides (ops.Set op) m l r = fold-Set same_node at_the_start (tree at (node_of (ops.Set op) m l r)) op l r m.pairing refl
