-- Two asks of one part under which the same deliveries are strays.
use Rattle.std.proofs.Common.{◌≡◌, ◌∙◌, List, [], ◌∷◌, refl, sym, ap, Some, None}
use Rattle.std.specs.Prelude.{Option, ◌&&◌, if◌then◌else◌}
use Rattle.promql_ast.specs.declared.tree.Expr.{Expr}
use Rattle.promql_ast.specs.declared.tree.Node.TheVariants.{Range}
use Rattle.promql_ast.specs.declared.tree.Selector.{Selector}
use Rattle.promql_meaning.specs.Selecting.{asked_over}
use Rattle.promql_meaning.specs.WalkMoments.{fixed_time}
use Rattle.remote_api.specs.Seen.{IsAskOf, IsWindowOf}
use Rattle.remote_api.specs.Strays.{has_kind, is_cell_of, is_distinct, is_well, or_wrong_cell, out_of_step, wrong_cell}
use Rattle.remote_api.specs.declared.asks.Ask.{Ask}
use Rattle.remote_api.specs.declared.frame.Stray.{Stray}
use Rattle.remote_api.specs.declared.frame.Stray.TheVariants.{WrongCell}
use Rattle.step_table.specs.declared.cells.Cell.{Cell}
use Rattle.step_table.specs.declared.cells.CellRow.{CellRow}
use Rattle.step_table.specs.declared.cells.PartKind.{PartKind}
use Rattle.step_table.specs.declared.cells.PartKind.TheVariants as part_kind
use Rattle.step_table.specs.declared.cells.StepCells.{StepCells}
use Rattle.ticks.specs.declared.grid.Grid.{Grid}
use Rattle.ticks.specs.declared.moment.Ms.{Ms}
use Rattle.ticks.specs.declared.walk.WalkMoment.{WalkMoment}
use Rattle.exchange.specs.Requests.{ask_of}
use Rattle.exchange.specs.Standing.{JudgeAlike}
use Rattle.exchange.specs.declared.request.Request.{Request}
use Rattle.exchange.proofs.Lists.{all_same}

-- ---- windows are those of the expression

moment_same : (a b : WalkMoment) → a.fixed ≡ b.fixed → a.offset ≡ b.offset → a.closed ≡ b.closed → a ≡ b
moment_same a b p q r = (λ i. record { fixed = p i; offset = q i; closed = r i })

ask_same : (a b : Ask) → a.walk ≡ b.walk → a.kind ≡ b.kind → a.moment ≡ b.moment → a.range ≡ b.range → a ≡ b
ask_same a b p q r s = (λ i. record { walk = p i; kind = q i; moment = r i; range = s i })

selector_same : (s t : Selector) (m n : Ms) → Range s m ≡ Range t n → s ≡ t
selector_same s t m n e = cc

range_same : (s t : Selector) (m n : Ms) → Range s m ≡ Range t n → m ≡ n
range_same s t m n e = cc

windows_same : (span : Grid) (expr : Expr) (a b : Ask) → a.walk ≡ b.walk → a.kind ≡ b.kind → IsWindowOf span expr a → IsWindowOf span expr b → a ≡ b
windows_same span expr a b walk kind x y =
    let g = asked_over [] [] span in
    let e = sym x.selects ∙ y.selects in
    let s : x.selector ≡ y.selector = selector_same x.selector y.selector a.range b.range e in
    let fixed : a.moment.fixed ≡ b.moment.fixed = x.moment.fixed ∙ ap (λ (z : Selector). fixed_time g.start g.end z.moment.fixed) s ∙ sym y.moment.fixed in
    let offset : a.moment.offset ≡ b.moment.offset = x.moment.offset ∙ ap (λ (z : Selector). z.moment.offset) s ∙ sym y.moment.offset in
    let closed : a.moment.closed ≡ b.moment.closed = x.closed ∙ ap (λ (z : Selector). z.moment.closed) s ∙ sym y.closed in
    ask_same a b walk kind (moment_same a.moment b.moment fixed offset closed) (range_same x.selector y.selector a.range b.range e)

-- ---- cells

cell_same : (kind : PartKind) (a b : Ask) (at : Ms) (c : Cell) → (kind ≡ part_kind.Windows → a ≡ b) → is_cell_of kind a at c ≡ is_cell_of kind b at c
cell_same part_kind.Rows a b at c h = refl
cell_same part_kind.Windows a b at c h = ap (λ (x : Ask). is_cell_of part_kind.Windows x at c) (h refl)
cell_same (part_kind.Partial f by) a b at c h = refl

module _ (a b : Ask) (kind : a.kind ≡ b.kind) (windows : a.kind ≡ part_kind.Windows → a ≡ b) where
  kind_same : (at : Ms) (c : Cell) → has_kind a at c ≡ has_kind b at c
  kind_same at c = cell_same a.kind a b at c windows ∙ ap (λ k. is_cell_of k b at c) kind

  well_same : (step : StepCells) → is_well a step ≡ is_well b step
  well_same step = ap (λ x. x && is_distinct step.rows) (all_same (λ (row : CellRow). has_kind a step.at row.cell) (λ (row : CellRow). has_kind b step.at row.cell) step.rows (λ row. kind_same step.at row.cell))

  wrong_same : (steps : List StepCells) → wrong_cell a steps ≡ wrong_cell b steps
  wrong_same [] = refl
  wrong_same (step ∷ steps) = (λ i. if well_same step i then wrong_same steps i else Some (WrongCell step.at))

  or_wrong_same : (steps : List StepCells) (o : Option Stray) → or_wrong_cell a steps o ≡ or_wrong_cell b steps o
  or_wrong_same steps (Some s) = refl
  or_wrong_same steps None = wrong_same steps

  judge_alike : JudgeAlike a b
  judge_alike times [] = refl
  judge_alike times (step ∷ steps) = or_wrong_same (step ∷ steps) (out_of_step times (step ∷ steps))

-- an ask that an engine keeps, and that of the request
pub asks_alike : (span : Grid) (r : Request) (one : Ask) → IsAskOf r.part r.walk span one → (r.part.kind ≡ part_kind.Windows → IsWindowOf span r.part.expr (ask_of r)) → JudgeAlike one (ask_of r)
asks_alike span r one is window =
    judge_alike one (ask_of r) is.kind_is
    (λ w. let k = sym is.kind_is ∙ w in windows_same span r.part.expr one (ask_of r) is.walk_is is.kind_is (is.window k) (window k))
