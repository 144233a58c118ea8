-- What a ready call, subquery or selector has of what it asks for.
use Rattle.std.proofs.Common.{◌≡◌, ◌∙◌, Bool, List, [], ◌∷◌, map, ap, sym, subst}
use Rattle.std.specs.Prelude.{ℤ, pos, ◌-ℤ◌, ◌<ℤ◌}
use Rattle.std.specs.List.{AllByRecursion}
use Rattle.func_table.specs.declared.table.Func.{Func}
use Rattle.func_table.specs.declared.table.Func.TheVariants.{LabelReplace}
use Rattle.ticks.specs.Walks.{IsTime}
use Rattle.ticks.specs.declared.moment.Ms.{Ms}
use Rattle.promql_ast.specs.declared.tree.Moment.{Moment}
use Rattle.promql_ast.specs.declared.tree.Expr.{Expr}
use Rattle.promql_ast.specs.declared.tree.Node.TheVariants.{Subquery, Call}
use Rattle.promql_meaning.specs.declared.given.Given.{Given}
use Rattle.promql_meaning.specs.Conditions.{AreMet, needs_of}
use Rattle.promql_meaning.specs.Meaning.{given_at, meaning, words_at}
use Rattle.promql_meaning.specs.Selecting.{Asked, moment_of}
use Rattle.promql_meaning.specs.Subqueries.{as_times, multiples}
use Rattle.plain_eval.specs.Frames.{IsFramed}
use Rattle.plain_eval.specs.Ready.{IsKeptWhole, IsReady}
use Rattle.plain_eval.proofs.Children.{met_Subquery, ready_Call, ready_Subquery}
use Rattle.plain_eval.proofs.Framed.{arguments_framed}
use Rattle.plain_eval.proofs.Patterned.{pattern_of_call}

-- ---- calls

module _ (asked : Asked) where
  all_met : (items : List Expr) (t : ℤ) → AllByRecursion (λ e. IsReady asked e t) items → AllByRecursion (λ e. AreMet asked (needs_of asked e t)) items
  all_met [] t ready = tt
  all_met (e ∷ items) t ready = (ready.0.met, all_met items t ready.1)

  pub call_framed : (e : Expr) (f : Func) (items : List Expr) (t : ℤ) (givens : List Given) → e.node ≡ Call f items → IsReady asked e t → givens ≡ given_at (map (meaning asked) items) t
      → AllByRecursion (IsFramed t) givens
  call_framed e f items t givens is ready all =
      subst (λ gs. AllByRecursion (IsFramed t) gs) (sym all) (arguments_framed asked items t (all_met items t (ready_Call asked e f items t is ready)))

  pub call_kept : (e : Expr) (f : Func) (items : List Expr) (t : ℤ) (givens : List Given) → e.node ≡ Call f items → IsReady asked e t → givens ≡ given_at (map (meaning asked) items) t
      → f ≡ LabelReplace → IsKeptWhole asked.kept (words_at givens 4)
  call_kept e f items t givens is ready all label =
      subst (λ gs. IsKeptWhole asked.kept (words_at gs 4)) (sym all) (pattern_of_call asked e items t (is ∙ ap (λ g. Call g items) label) ready)

  -- ---- subqueries

  -- the times of a subquery at a moment, and its positive step
  pub record HasTimes (closed : Bool) (m range step : ℤ) : Type 0 where
    pub edge : IsTime (m -ℤ range)
    pub by : IsTime step
    pub positive : pos 0 <ℤ step
    pub all : AllByRecursion IsTime (multiples closed m range step)

  pub subquery_moment : (e inner : Expr) (range step : Ms) (moment : Moment) (t : ℤ) → e.node ≡ Subquery inner range step moment → IsReady asked e t → IsTime (moment_of asked moment t)
  subquery_moment e inner range step moment t is ready = (met_Subquery asked e inner range step moment t is ready).1.0.1.1.1.0

  pub subquery_times : (e inner : Expr) (range step : Ms) (moment : Moment) (t m : ℤ) → e.node ≡ Subquery inner range step moment → IsReady asked e t → m ≡ moment_of asked moment t → HasTimes moment.closed m range.0 step.0
  subquery_times e inner range step moment t m is ready here =
      let met = met_Subquery asked e inner range step moment t is ready in
      let times = met.1.0 in
      subst (λ u. HasTimes moment.closed u range.0 step.0) (sym here) (record { edge = times.1.1.1.1.0; by = times.1.0; positive = met.0; all = met.1.1.0 })

  pub subquery_ready : (e inner : Expr) (range step : Ms) (moment : Moment) (t m : ℤ) (us : List Ms) → e.node ≡ Subquery inner range step moment → IsReady asked e t → m ≡ moment_of asked moment t
      → us ≡ as_times (multiples moment.closed m range.0 step.0) → AllByRecursion (λ (u : Ms). IsReady asked inner u.0) us
  subquery_ready e inner range step moment t m us is ready here times =
      subst (λ vs. AllByRecursion (λ (u : Ms). IsReady asked inner u.0) vs) (sym (times ∙ ap (λ v. as_times (multiples moment.closed v range.0 step.0)) here)) (ready_Subquery asked e inner range step moment t is ready)
