-- What comes of reading a text and of checking its tree.
use Rattle.std.proofs.Common.{◌≡◌, ◌∙◌, ◌≤◌, ◌++◌, ℕ, Bool, List, [], Some, ap, refl, sym, subst}
use Rattle.std.specs.Prelude.{Result, Ok, Err, IfErr, IfOk, OnOk}
use Rattle.frac_text.specs.Times.{time_limit}
use Rattle.logical_plan.specs.Validity.{CheckedTreesAreWithinLimits}
use Rattle.match_rule.specs.Gains.{Gains}
use Rattle.match_rule.specs.Patterns.{HaveTheirPatterns}
use Rattle.promql_ast.specs.Depth.{depth}
use Rattle.promql_ast.specs.Edged.{edged}
use Rattle.promql_ast.specs.EdgedFolds.{edged_depth, edged_within}
use Rattle.promql_ast.specs.Parts.{AreWithin, parts_of}
use Rattle.promql_ast.specs.declared.refusal.QueryRefusal.{QueryRefusal}
use Rattle.promql_ast.specs.declared.tree.Expr.{Expr}
use Rattle.promql_parse.specs.Parsing.{Parses}
use Rattle.promql_type.specs.Answers.{IsLeastRefusal, MayFault, listed, refusals_of}
use Rattle.promql_type.specs.Edges.{EdgesAreJudgedAlike, EdgesAreRefusedAlike, EdgesStayTyped}
use Rattle.promql_type.specs.Judging.{Judgement, judged}
use Rattle.promql_type.specs.declared.replace.Replacement.{Replacement}
use Rattle.promql_type.specs.Refusals.{least}
use Rattle.promql_type.specs.Replacements.{AreBuilt, AreKept, AreTaken, Kept}
use Rattle.promql_type.specs.Settled.{settled}
use Rattle.promql_type.specs.TypedTrees.{placed_of, tree_of}
use Rattle.promql_type.specs.declared.typed_tree.TypeFault.{TypeFault}
use Rattle.promql_type.specs.declared.typed_tree.TypeFault.TheVariants.{Refused, Memory}
use Rattle.promql_type.specs.declared.typed_tree.Typed.{Typed}
use Rattle.query_engine.specs.Evaluating.{IsRefusedWith, untyped}
use Rattle.query_engine.specs.Readiness.{IsReadyTree}
use Rattle.query_engine.proofs.Stays.{parts_stay}
use Rattle.ticks.specs.Durations.{hundred_years}

-- what the tree with an edge is checked for, of the tree without
module _ (closed : Bool) (tree : Expr) (judged_alike : EdgesAreJudgedAlike) (refused_alike : EdgesAreRefusedAlike) where
  same_patterns : (judged (edged closed tree)).replacements ≡ (judged tree).replacements
  same_patterns = ap (λ (j : Judgement). j.replacements) (judged_alike closed tree)

  pub same_least : (read kept : Kept) (refusal : QueryRefusal) → IsLeastRefusal (edged closed tree) read kept refusal → IsLeastRefusal tree read kept refusal
  same_least read kept refusal l = record {
    pattern = l.pattern;
    built = subst (λ (rs : List Replacement). AreBuilt read rs kept l.pattern) same_patterns l.built;
    least_is = subst (λ (rs : List QueryRefusal). least (rs ++ listed l.pattern) ≡ Some refusal) (refused_alike closed tree) l.least_is;
  }

module _ (text : List ℕ) (closed : Bool) (read kept : Kept) (tree : Expr) (parses : Parses text [] read (Ok tree)) (judged_alike : EdgesAreJudgedAlike) (refused_alike : EdgesAreRefusedAlike)
    (typed_alike : EdgesStayTyped) (limited : CheckedTreesAreWithinLimits) where
  -- what the parts of the tree are known for stays known of the tree with an edge, while more patterns are kept
  within_still : AreWithin (HaveTheirPatterns read) hundred_years time_limit (parts_of tree) → Gains read kept → AreWithin (HaveTheirPatterns kept) hundred_years time_limit (parts_of (edged closed tree))
  within_still within gains =
      parts_stay read kept gains hundred_years time_limit (parts_of (edged closed tree)) (edged_within (HaveTheirPatterns read) hundred_years time_limit closed tree within)

  pub ready : (result : Result Typed TypeFault) → AreWithin (HaveTheirPatterns read) hundred_years time_limit (parts_of tree) → depth tree ≤ 128 → Gains read kept
      → IfOk result (λ t. tree_of t ≡ settled (edged closed tree)) → OnOk result (refusals_of (edged closed tree) ≡ []) → OnOk result (AreTaken read (judged (edged closed tree)).replacements kept)
      → IfOk result (λ t. AreKept kept (judged (tree_of t)).replacements (placed_of t)) → IfOk result (λ t. parts_of (tree_of t) ≡ parts_of (edged closed tree))
      → IfOk result (λ t. depth (tree_of t) ≡ depth (edged closed tree)) → IfOk result (IsReadyTree text closed kept)
  ready (Ok t) within few gains typed taken built placed parts deep = record {
    open_tree = settled tree;
    stands = record {
      read = read;
      tree = tree;
      parses = parses;
      taken = sym (refused_alike closed tree) ∙ taken;
      built = subst (λ rs. AreTaken read rs kept) (same_patterns closed tree judged_alike refused_alike) built;
      typed = refl;
    };
    edge = typed ∙ typed_alike closed tree;
    within = subst (λ ps. AreWithin (HaveTheirPatterns kept) hundred_years time_limit ps) (sym parts) (within_still within gains);
    limits = limited kept hundred_years time_limit (edged closed tree) (tree_of t) typed taken parts deep (within_still within gains) (subst (λ n. n ≤ 128) (sym (edged_depth closed tree)) few);
    placed = placed;
  }
  ready (Err fault) within few gains typed taken built placed parts deep = tt

  pub refused : (result : Result Typed TypeFault) → IfErr result (MayFault (IsLeastRefusal (edged closed tree) read kept)) → IfErr result (MayFault (IsRefusedWith text))
  refused (Ok t) least = tt
  refused (Err (Refused refusal)) least = untyped read kept tree refusal parses (same_least closed tree judged_alike refused_alike read kept refusal least)
  refused (Err Memory) least = tt

  -- the same of what was handed on in its place
  pub ready_of : (given : Expr) → given ≡ edged closed tree → (result : Result Typed TypeFault) → AreWithin (HaveTheirPatterns read) hundred_years time_limit (parts_of tree) → depth tree ≤ 128
      → Gains read kept → IfOk result (λ t. tree_of t ≡ settled given) → OnOk result (refusals_of given ≡ []) → OnOk result (AreTaken read (judged given).replacements kept)
      → IfOk result (λ t. AreKept kept (judged (tree_of t)).replacements (placed_of t)) → IfOk result (λ t. parts_of (tree_of t) ≡ parts_of given)
      → IfOk result (λ t. depth (tree_of t) ≡ depth given) → IfOk result (IsReadyTree text closed kept)
  ready_of given e result within few gains typed taken built placed parts deep =
      ready result within few gains (subst (λ (g : Expr). IfOk result (λ t. tree_of t ≡ settled g)) e typed) (subst (λ (g : Expr). OnOk result (refusals_of g ≡ [])) e taken)
      (subst (λ (g : Expr). OnOk result (AreTaken read (judged g).replacements kept)) e built) placed (subst (λ (g : Expr). IfOk result (λ t. parts_of (tree_of t) ≡ parts_of g)) e parts)
      (subst (λ (g : Expr). IfOk result (λ t. depth (tree_of t) ≡ depth g)) e deep)

  pub refused_of : (given : Expr) → given ≡ edged closed tree → (result : Result Typed TypeFault) → IfErr result (MayFault (IsLeastRefusal given read kept)) → IfErr result (MayFault (IsRefusedWith text))
  refused_of given e result least = refused result (subst (λ (g : Expr). IfErr result (MayFault (IsLeastRefusal g read kept))) e least)
