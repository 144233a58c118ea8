use Rattle.std.proofs.Common.{rules, ◌∙◌, ◌≡◌, List, [], ◌∷◌, ap, sym, subst}
use Rattle.std.specs.Prelude.{Some}
use Rattle.promql_ast.specs.Depth.{depth}
use Rattle.promql_ast.specs.Parts.{parts_of}
use Rattle.promql_type.specs.declared.replace.Replacement.{Replacement}
use Rattle.promql_type.specs.Answers.{MayFault, refusals_of}
use Rattle.promql_type.specs.Judging.{judged}
use Rattle.promql_type.specs.Refusals.{lesser}
use Rattle.promql_type.specs.Replacements.{AreKept, IsFirstRefused}
use Rattle.promql_type.specs.TypedTrees.{tree_of}
use Rattle.promql_type.proofs.Leasts.{least_append}
use Rattle.promql_type.proofs.Settles.{settled_is_judged}
use Rattle.promql_type.proofs.Taken.{least_none}
use Rattle.promql_type.proofs.Unpaired.{settled_depth, settled_parts}
use Rattle.promql_type.proofs.checking.check.Goals as goal

pub typed-requires : goal.typed-requires
typed-requires c = least_none (refusals_of c.args.expr) (sym c.own_refusal-own.ensures ∙ c.in-None.is)

pub returns-clause-taken : goal.returns-clause-taken
returns-clause-taken c = least_none (refusals_of c.args.expr) (sym c.own_refusal-own.ensures ∙ c.in-None.is)

pub returns-clause-placed : goal.returns-clause-placed
returns-clause-placed c =
    let wanted : c.as_slice.result.now ≡ (judged c.args.expr).replacements = search rules in
    let same : (judged (tree_of c.in_ok-typed-in-None.field-0)).replacements ≡ (judged c.args.expr).replacements =
    ap (λ j. j.replacements) (ap judged c.in_ok-typed-in-None.ensures.tree ∙ settled_is_judged c.args.expr) in
    subst (λ ps. AreKept c.build.new.kept (judged (tree_of c.in_ok-typed-in-None.field-0)).replacements ps) (sym c.in_ok-typed-in-None.ensures.placed)
    (subst (λ (rs : List Replacement). AreKept c.build.new.kept rs c.in-Ok.placed) (wanted ∙ sym same) c.in-Ok.ensures.placed)

pub returns-clause-parts : goal.returns-clause-parts
returns-clause-parts c = ap parts_of c.in_ok-typed-in-None.ensures.tree ∙ settled_parts c.args.expr

pub returns-clause-depth : goal.returns-clause-depth
returns-clause-depth c = ap depth c.in_ok-typed-in-None.ensures.tree ∙ settled_depth c.args.expr

pub returns-in-Err-Refused-clause-refused : goal.returns-in-Err-Refused-clause-refused
returns-in-Err-Refused-clause-refused c =
    let wanted : c.as_slice.result.now ≡ (judged c.args.expr).replacements = search rules in
    let chosen : lesser c.own_refusal-own.result (Some c.in-Err-Refused.pattern) ≡ Some c.sooner.result = search (rules, c.sooner.ensures, c.in-Err-Refused.pattern-is) in
    record {
      pattern = Some c.in-Err-Refused.pattern;
      built = subst (λ (rs : List Replacement). IsFirstRefused c.args.patterns.now rs c.build.new.kept c.in-Err-Refused.pattern) wanted
          (subst (MayFault (IsFirstRefused c.args.patterns.now c.as_slice.result.now c.build.new.kept)) c.in-Err-Refused.field-0-is c.in-Err-Refused.ensures.refused);
      least_is = least_append (refusals_of c.args.expr) (c.in-Err-Refused.pattern ∷ []) ∙ ap (λ o. lesser o (Some c.in-Err-Refused.pattern)) (sym c.own_refusal-own.ensures) ∙ chosen;
    }
