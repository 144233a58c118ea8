-- From the typed tree or the plan of an expression to what is printed of it.
use Rattle.std.proofs.Common.{◌≡◌, ◌∙◌, ℕ, Bool, false, List, ◌++◌, Option, Result, Ok, Err, IfOk, OnErr, ap, refl, subst, sym}
use Rattle.std.specs.Prelude.{codes}
use Rattle.std.proofs.lemmas.Result.{IfOk-weaker}
use Rattle.edge_io.specs.Written.{WroteFront}
use Rattle.edge_io.specs.declared.sink.SinkFail.{SinkFail}
use Rattle.logical_plan.specs.declared.nodes.Plan.{Plan}
use Rattle.plan_rewrites.specs.declared.choosing.Choices.{Choices as Rewrites}
use Rattle.promql_ast.specs.Edged.{edged}
use Rattle.promql_ast.specs.EdgedFolds.{fold_unmoved, with_edge}
use Rattle.promql_ast.specs.declared.refusal.QueryRefusal.{QueryRefusal}
use Rattle.promql_ast.specs.declared.tree.Expr.{Expr}
use Rattle.promql_ast.specs.declared.tree.Node.TheOpen.{Node-F}
use Rattle.promql_print.specs.Canonical.{canonical, node_text}
use Rattle.promql_type.specs.Replacements.{Kept}
use Rattle.promql_type.specs.TypedTrees.{tree_of}
use Rattle.promql_type.specs.declared.typed_tree.Typed.{Typed}
use Rattle.query_engine.specs.Evaluating.{IsRefusedWith, StandsFor}
use Rattle.query_engine.specs.Planning.{HasPlan}
use Rattle.query_engine.specs.Readiness.{IsReadyTree}
use Rattle.tool_words.specs.declared.asked.Optimisers.{Optimisers}
use Rattle.promql_tool.specs.Ends.{Reports}
use Rattle.promql_tool.specs.Printed.{Explained, Formatted, plan_report, planned, refused, refused_report, rewrites_in, taken, tree_report, unplanned}
use Rattle.promql_tool.specs.Runs.{Ends, IsCutReport, Partly, page_report}
use Rattle.promql_tool.specs.Texts.{Report}
use Rattle.promql_tool.specs.declared.print.Status.{Status}
use Rattle.promql_tool.specs.declared.printing.Page.{Page}

-- the left edge of windows stands in no text
unmoved : (kept : Kept) (closed : Bool) (y : Node-F (List ℕ) (List ℕ)) → node_text kept (with_edge closed y) ≡ node_text kept y
unmoved kept closed (Node-F.Number value) = refl
unmoved kept closed (Node-F.Words text) = refl
unmoved kept closed (Node-F.Paren inner) = refl
unmoved kept closed (Node-F.Negate inner) = refl
unmoved kept closed (Node-F.Select selector) = refl
unmoved kept closed (Node-F.Range selector range) = refl
unmoved kept closed (Node-F.Subquery inner range step moment) = refl
unmoved kept closed (Node-F.Call f arguments) = refl
unmoved kept closed (Node-F.Aggregate f grouping arguments) = refl
unmoved kept closed (Node-F.Pair op left right pairing) = refl
unmoved kept closed (Node-F.Set op left right pairing) = refl

canonical_unmoved : (kept : Kept) (closed : Bool) (tree : Expr) → canonical kept (edged closed tree) ≡ canonical kept tree
canonical_unmoved kept closed = fold_unmoved closed (node_text kept) (λ e. e.node) (unmoved kept closed)

module _ (expr : List ℕ) where
  -- the tree that is printed has the text of the one that the expression stands for
  taken_so : (kept : Kept) (closed : Bool) (open_tree tree : Expr) (report : Report) → StandsFor expr kept open_tree → tree ≡ edged closed open_tree → report ≡ tree_report kept tree → Formatted expr report
  taken_so kept closed open_tree tree report stands edge is =
      let same : canonical kept tree ≡ canonical kept open_tree = ap (canonical kept) edge ∙ canonical_unmoved kept closed open_tree in
      subst (Formatted expr) (sym (is ∙ ap (λ (text : List ℕ). record { text = text ++ codes "\n"; status = 0 }) same)) (taken kept open_tree stands)

  pub tree_formatted : {E : Type 0} (kept : Kept) (closed : Bool) (typed : Typed) (r : Result Page E) → IsReadyTree expr closed kept typed
      → IfOk r (λ page. page_report page ≡ tree_report kept (tree_of typed)) → IfOk r (λ page. Formatted expr (page_report page))
  tree_formatted kept closed typed r ready made =
      IfOk-weaker r _ _ (λ page is. taken_so kept closed ready.open_tree (tree_of typed) (page_report page) ready.stands ready.edge is) made

  pub refusal_formatted : {E : Type 0} (refusal : QueryRefusal) (r : Result Page E) → IsRefusedWith expr refusal → IfOk r (λ page. page_report page ≡ refused_report refusal)
      → IfOk r (λ page. Formatted expr (page_report page))
  refusal_formatted refusal r why made = IfOk-weaker r _ _ (λ page is. subst (Formatted expr) (sym is) (refused refusal why)) made

  module _ (engines : ℕ) (optimisers : Optimisers) where
    pub plan_explained : {E : Type 0} (kept : Kept) (rewrites : Rewrites) (closed : Bool) (plan : Plan) (r : Result Page E) → rewrites ≡ rewrites_in optimisers → closed ≡ false → HasPlan expr engines rewrites closed kept plan
        → IfOk r (λ page. page_report page ≡ plan_report kept plan) → IfOk r (λ page. Explained engines (rewrites_in optimisers) expr (page_report page))
    plan_explained kept rewrites closed plan r chosen open_edge has made =
        let own = subst (λ (c : Bool). HasPlan expr engines (rewrites_in optimisers) c kept plan) open_edge (subst (λ (w : Rewrites). HasPlan expr engines w closed kept plan) chosen has) in
        IfOk-weaker r _ _ (λ page is. subst (Explained engines (rewrites_in optimisers) expr) (sym is) (planned kept plan own)) made

    pub refusal_explained : {E : Type 0} (refusal : QueryRefusal) (r : Result Page E) → IsRefusedWith expr refusal → IfOk r (λ page. page_report page ≡ refused_report refusal)
        → IfOk r (λ page. Explained engines (rewrites_in optimisers) expr (page_report page))
    refusal_explained refusal r why made = IfOk-weaker r _ _ (λ page is. subst (Explained engines (rewrites_in optimisers) expr) (sym is) (unplanned refusal why)) made

-- a page was printed, or a front of it
pub page_ends : (IsSuch : Report → Type 0) (report : Report) (before now : Option (List ℕ)) (r : Result Status SinkFail) → IsSuch report → IfOk r (λ status. Reports before now status.0 report)
    → OnErr r (WroteFront before now report.text) → Ends IsSuch (IsCutReport IsSuch before now) before now r
page_ends IsSuch report before now (Ok status) such ok err = (report, such, ok)
page_ends IsSuch report before now (Err cause) such ok err = Partly report such err
