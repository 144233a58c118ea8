-- Trees as they are made: one of more than 128 nodes on its longest path is cut.
use Rattle.std.proofs.Common.{◌≡◌, ◌<◌, ◌≤◌, ℕ, ◌+◌, max, refl, ap, ap₂, ◌∙◌, sym, ⊎_elim, List, [], ◌∷◌, ◌++◌, arith}
use Rattle.std.specs.Prelude.{nat_lt, if◌then◌else◌}
use Rattle.std.proofs.lemmas.Bool.{cases_lt, lt-ltb, le-ltb}
use Rattle.func_table.specs.declared.table.Aggregate.{Aggregate}
use Rattle.func_table.specs.declared.table.Func.{Func}
use Rattle.label_set.specs.declared.rules.Grouping.{Grouping}
use Rattle.promql_ast.specs.declared.tree.Expr.{Expr}
use Rattle.promql_ast.specs.declared.tree.Moment.{Moment}
use Rattle.promql_ast.specs.declared.tree.Node.{Node}
use Rattle.promql_ast.specs.declared.tree.Node.TheVariants.{Paren, Negate, Subquery, Call, Aggregate as Aggregated}
use Rattle.promql_parse.specs.Build.{add, aggregate, binary, call, negate, node_of, over, paren, stepped, tree}
use Rattle.promql_parse.specs.declared.build.Arguments.{Arguments}
use Rattle.promql_parse.specs.declared.build.Arguments.TheVariants as arguments
use Rattle.promql_parse.specs.declared.build.Built.{Built}
use Rattle.promql_parse.specs.declared.build.Built.TheVariants.{Whole, Deep}
use Rattle.promql_parts.specs.declared.operator.BinaryOp.{BinaryOp}
use Rattle.promql_parts.specs.declared.operator.Matching.{Matching}
use Rattle.ticks.specs.declared.moment.Ms.{Ms}

abbrev pub cut : Expr → ℕ → Built
cut e depth = if nat_lt 128 depth then Deep else Whole e depth

abbrev pub cut_arguments : List Expr → ℕ → Arguments
cut_arguments es depth = if nat_lt 128 depth then arguments.Deep else arguments.Whole es depth

pub is_cut : (e : Expr) (d : ℕ) → 128 < d → cut e d ≡ Deep
is_cut e d lt = rw (lt-ltb 128 d lt)

pub is_whole : (e : Expr) (d : ℕ) → d ≤ 128 → cut e d ≡ Whole e d
is_whole e d le = rw (le-ltb 128 d le)

cut_over : (d at : ℕ) (node : Node) → d ≤ 128 → over d at node ≡ cut (tree at node) (d + 1)
cut_over d at node le =
    ⊎_elim (λ lt. rw (lt-ltb d 128 lt) (sym (is_whole (tree at node) (d + 1) (omega arith))))
    (λ ge. rw (le-ltb d 128 ge) (sym (is_cut (tree at node) (d + 1) (omega arith)))) (cases_lt d 128)

pub cut_paren : (e : Expr) (d at : ℕ) → paren at (cut e d) ≡ cut (tree at (Paren e)) (d + 1)
cut_paren e d at =
    ⊎_elim (λ lt. ap (paren at) (is_cut e d lt) ∙ sym (is_cut (tree at (Paren e)) (d + 1) (omega arith))) (λ le. ap (paren at) (is_whole e d le) ∙ cut_over d at (Paren e) le)
    (cases_lt 128 d)

pub cut_negate : (e : Expr) (d at : ℕ) → negate at (cut e d) ≡ cut (tree at (Negate e)) (d + 1)
cut_negate e d at =
    ⊎_elim (λ lt. ap (negate at) (is_cut e d lt) ∙ sym (is_cut (tree at (Negate e)) (d + 1) (omega arith))) (λ le. ap (negate at) (is_whole e d le) ∙ cut_over d at (Negate e) le)
    (cases_lt 128 d)

pub cut_stepped : (e : Expr) (d at : ℕ) (range step : Ms) (moment : Moment) → stepped at (cut e d) range step moment ≡ cut (tree at (Subquery e range step moment)) (d + 1)
cut_stepped e d at range step moment =
    ⊎_elim (λ lt. ap (λ b. stepped at b range step moment) (is_cut e d lt) ∙ sym (is_cut (tree at (Subquery e range step moment)) (d + 1) (omega arith)))
    (λ le. ap (λ b. stepped at b range step moment) (is_whole e d le) ∙ cut_over d at (Subquery e range step moment) le) (cases_lt 128 d)

right_deep : (op : BinaryOp) (m : Matching) (b : Built) → binary op m b Deep ≡ Deep
right_deep op m Deep = refl
right_deep op m (Whole e d) = refl

pub cut_binary : (op : BinaryOp) (k : Matching) (l r : Expr) (m n : ℕ) → binary op k (cut l m) (cut r n) ≡ cut (tree l.at (node_of op k l r)) (max m n + 1)
cut_binary op k l r m n =
    ⊎_elim (λ lt. ap (λ b. binary op k b (cut r n)) (is_cut l m lt) ∙ sym (is_cut (tree l.at (node_of op k l r)) (max m n + 1) (omega arith)))
    (λ le. ⊎_elim (λ gt. ap (binary op k (cut l m)) (is_cut r n gt) ∙ right_deep op k (cut l m) ∙ sym (is_cut (tree l.at (node_of op k l r)) (max m n + 1) (omega arith)))
    (λ less. ap₂ (binary op k) (is_whole l m le) (is_whole r n less) ∙ cut_over (max m n) l.at (node_of op k l r) (omega arith)) (cases_lt 128 n)) (cases_lt 128 m)

is_cut_arguments : (es : List Expr) (d : ℕ) → 128 < d → cut_arguments es d ≡ arguments.Deep
is_cut_arguments es d lt = rw (lt-ltb 128 d lt)

is_whole_arguments : (es : List Expr) (d : ℕ) → d ≤ 128 → cut_arguments es d ≡ arguments.Whole es d
is_whole_arguments es d le = rw (le-ltb 128 d le)

add_deep : (a : Arguments) → add a Deep ≡ arguments.Deep
add_deep arguments.Deep = refl
add_deep (arguments.Whole es d) = refl

pub cut_add : (es : List Expr) (e : Expr) (m d : ℕ) → add (cut_arguments es m) (cut e d) ≡ cut_arguments (es ++ e ∷ []) (max m d)
cut_add es e m d =
    ⊎_elim (λ lt. ap (λ a. add a (cut e d)) (is_cut_arguments es m lt) ∙ sym (is_cut_arguments (es ++ e ∷ []) (max m d) (omega arith)))
    (λ le. ⊎_elim (λ gt. ap (add (cut_arguments es m)) (is_cut e d gt) ∙ add_deep (cut_arguments es m) ∙ sym (is_cut_arguments (es ++ e ∷ []) (max m d) (omega arith)))
    (λ less. ap₂ add (is_whole_arguments es m le) (is_whole e d less) ∙ sym (is_whole_arguments (es ++ e ∷ []) (max m d) (omega arith))) (cases_lt 128 d)) (cases_lt 128 m)

pub cut_call : (f : Func) (es : List Expr) (d at : ℕ) → call at f (cut_arguments es d) ≡ cut (tree at (Call f es)) (d + 1)
cut_call f es d at =
    ⊎_elim (λ lt. ap (call at f) (is_cut_arguments es d lt) ∙ sym (is_cut (tree at (Call f es)) (d + 1) (omega arith)))
    (λ le. ap (call at f) (is_whole_arguments es d le) ∙ cut_over d at (Call f es) le) (cases_lt 128 d)

pub cut_aggregate : (f : Aggregate) (g : Grouping) (es : List Expr) (d at : ℕ) → aggregate at f g (cut_arguments es d) ≡ cut (tree at (Aggregated f g es)) (d + 1)
cut_aggregate f g es d at =
    ⊎_elim (λ lt. ap (aggregate at f g) (is_cut_arguments es d lt) ∙ sym (is_cut (tree at (Aggregated f g es)) (d + 1) (omega arith)))
    (λ le. ap (aggregate at f g) (is_whole_arguments es d le) ∙ cut_over d at (Aggregated f g es) le) (cases_lt 128 d)
