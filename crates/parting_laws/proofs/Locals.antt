-- Expressions that are parted as the samples are.
use Rattle.std.proofs.Common.{◌≡◌, ◌∙◌, ℕ, Bool, true, false, cond, List, [], ◌∷◌, map, refl, sym, ap, subst, ⊎_elim}
use Rattle.std.specs.Prelude.{ℤ}
use Rattle.std.specs.List.{AllByRecursion}
use Rattle.func_table.specs.declared.table.Element.{Element}
use Rattle.func_table.specs.declared.table.Element.TheVariants as element
use Rattle.func_table.specs.declared.table.Func.TheVariants as func
use Rattle.label_set.specs.Labels.{is_named, metric_name, value_of}
use Rattle.label_set.specs.declared.rules.Pairing.{Pairing}
use Rattle.promql_ast.specs.Folds.{fold-Call, fold-Negate, fold-Pair, fold-Paren, fold-Range, fold-Select}
use Rattle.promql_ast.specs.declared.tree.Expr.{Expr}
use Rattle.xfrac.specs.declared.value.PairOp.{PairOp}
use Rattle.xfrac.specs.declared.value.XFrac.{XFrac}
use Rattle.step_table.specs.Groups.{Names}
use Rattle.step_table.specs.Laws.{UnionHasMarks, UnionHasNotes}
use Rattle.step_table.specs.Operators.{drops_name}
use Rattle.step_table.specs.declared.outcomes.Outcome.{Outcome}
use Rattle.step_table.specs.declared.step.Row.{Row}
use Rattle.step_table.specs.declared.step.Step.{Step}
use Rattle.step_table.specs.declared.windows.WindowRow.{WindowRow}
use Rattle.promql_meaning.specs.Elements.{at_instant, element_outcome, instant_outcome, mapped, nameless, operated_rows, operator_outcome, stamp_outcome, stamps, timestamps}
use Rattle.promql_meaning.specs.Givens.{barren, step_of, with_scalar}
use Rattle.promql_meaning.specs.Meaning.{applied, called, completed, given_at, meaning, negation, node_meaning, operation, rounding, step_at, zero_number}
use Rattle.promql_meaning.specs.Selecting.{AllSeries, Asked, moment_of, selected, selected_windows}
use Rattle.promql_meaning.specs.declared.given.Given.{Given}
use Rattle.promql_meaning.specs.declared.given.Given.TheVariants as given
use Rattle.promql_meaning.specs.declared.given.Stamped.{Stamped}
use Rattle.promql_meaning.specs.declared.given.Windows.{Windows}
use Rattle.parting_laws.specs.LocalLaws.{ElementsAreParted, HaveNoSelector, LeftScalarsAreParted, ParensAreParted, RangesAreParted, RightScalarsAreParted, SelectorsAreParted, SignsAreParted, SortsAreParted, TimestampsAreParted}
use Rattle.parting_laws.specs.PartLaws.{IgnoresName, IsPartOf, over}
use Rattle.parting_laws.specs.Portions.{ArePortions, GivenParts, IsOfOne, IsParted, LooksAt, Portion, StepParts, samples_in, windows_in}
use Rattle.parting_laws.specs.Portions as portions_of
use Rattle.parting_laws.proofs.Chosen.{everywhere, mapped_along}
use Rattle.parting_laws.proofs.Constants.{constants_stay, scalar_given}
use Rattle.parting_laws.proofs.Declared.{not_among, value_left}
use Rattle.parting_laws.proofs.Made.{Keeps, row_labels}
use Rattle.parting_laws.proofs.MarksParted.{nothing}
use Rattle.parting_laws.proofs.Selectors.{selected_one, selected_part, stamped_labels, stamps_keep, windows_one, windows_part}
use Rattle.parting_laws.proofs.StepsParted.{IsNoScalar, barren_parts, made_parts, no_marks_parted, row_parts, scalar_parts, scalars_parts, test_of, vector_of}

-- ---- tests that don't look at the metric's name

same_values : (names : List (List ℕ)) (labels : Names) → AllByRecursion (λ (n : List ℕ). is_named (metric_name ∷ []) n ≡ false) names → AllByRecursion (λ (n : List ℕ). value_of (nameless labels) n ≡ value_of labels n) names
same_values names labels a = mapped_along (λ (n : List ℕ). is_named (metric_name ∷ []) n ≡ false) (λ (n : List ℕ). value_of (nameless labels) n ≡ value_of labels n) (λ n e. value_left (metric_name ∷ []) n labels e) names a

pub ignore_name : (names : List (List ℕ)) (portions : List Portion) (samples : AllSeries) → ArePortions names portions samples → AllByRecursion (λ (p : Portion). IgnoresName p.test) portions
ignore_name names portions samples ok =
    mapped_along (λ (p : Portion). LooksAt names p.test) (λ (p : Portion). IgnoresName p.test) (λ p looks labels. looks (nameless labels) labels (same_values names labels (not_among metric_name names ok.unnamed))) portions ok.looks

module _ (portions : List Portion) (ignore : AllByRecursion (λ (p : Portion). IgnoresName p.test) portions) where
  -- an outcome under the labels of its row, or under these without the name, keeps the portion
  pub nameless_keeps : (outcome : Row → Outcome) → ((row : Row) → (outcome row).labels ≡ nameless row.labels) → AllByRecursion (λ (p : Portion). Keeps row_labels outcome p.test) portions
  nameless_keeps outcome is = mapped_along (λ (p : Portion). IgnoresName p.test) (λ (p : Portion). Keeps row_labels outcome p.test) (λ p h row v e. ap p.test (is row) ∙ h row.labels) portions ignore

  operator_keeps : (op : PairOp) (left : Bool) (scalar : XFrac) → AllByRecursion (λ (p : Portion). Keeps row_labels (operator_outcome op left scalar) p.test) portions
  operator_keeps op left scalar = mapped_along (λ (p : Portion). IgnoresName p.test) (λ (p : Portion). Keeps row_labels (operator_outcome op left scalar) p.test) (λ p h row v e. by p h row (drops_name op)) portions ignore
    where
      by : (p : Portion) → IgnoresName p.test → (row : Row) (b : Bool) → p.test (cond b (nameless row.labels) row.labels) ≡ p.test row.labels
      by p h row true = h row.labels
      by p h row false = refl

-- ---- what is asked over

-- what the meaning of an expression is, at each of what is asked, is parted where that is
pub along : (portions : List Portion) (asked : Asked) (f g : Asked → Given) → ((a : Asked) → f a ≡ g a) → GivenParts portions (g asked) (λ p. g (over p.samples asked)) → GivenParts portions (f asked) (λ p. f (over p.samples asked))
along portions asked f g e parts = subst (λ (h : Asked → Given). GivenParts portions (h asked) (λ p. h (over p.samples asked))) (λ i a. sym (e a) i) parts

-- ---- selectors

pub selectors_parted : SelectorsAreParted
selectors_parted names e selector is asked portions t ok =
    along portions asked (λ a. meaning a e t) (λ a. given.Selected (record { rules = selector.rules; rows = selected a selector t }))
    (λ a. ap (λ (f : ℤ → Given). f t) (fold-Select (node_meaning a) (λ e. e.node) e selector is))
    (portions_of.selected selector.rules (selected asked selector t) refl
    (mapped_along (λ (p : Portion). IsPartOf p.test asked.samples p.samples) (λ (p : Portion). given.Selected (record { rules = selector.rules; rows = selected (over p.samples asked) selector t }) ≡ given.Selected (record { rules = selector.rules; rows = samples_in p (selected asked selector t) }))
    (λ p h. ap (λ (rows : List Stamped). given.Selected (record { rules = selector.rules; rows = rows })) (selected_part p.test asked p.samples selector t h)) portions ok.held)
    (selected_one test_of portions asked selector t ok.one))

pub ranges_parted : RangesAreParted
ranges_parted names e selector range is asked portions t ok =
    let given_of : Asked → Windows = λ a. record { moment = record { 0 = moment_of a selector.moment t }; range = range; rules = selector.rules; rows = selected_windows a selector range.0 t; marks = nothing } in
    along portions asked (λ a. meaning a e t) (λ a. given.Windows (given_of a))
    (λ a. ap (λ (f : ℤ → Given). f t) (fold-Range (node_meaning a) (λ e. e.node) e selector range is))
    (portions_of.windows (given_of asked) (λ p. nothing) refl
    (mapped_along (λ (p : Portion). IsPartOf p.test asked.samples p.samples) (λ (p : Portion). given.Windows (given_of (over p.samples asked)) ≡ given.Windows (record (given_of asked) { rows = windows_in p (selected_windows asked selector range.0 t); marks = nothing }))
    (λ p h. ap (λ (rows : List WindowRow). given.Windows (record (given_of asked) { rows = rows; marks = nothing })) (windows_part p.test asked p.samples selector range.0 t h)) portions ok.held)
    (windows_one test_of portions asked selector range.0 t ok.one)
    (no_marks_parted portions))

pub parens_parted : ParensAreParted
parens_parted names e inner is parted asked portions t ok =
    along portions asked (λ a. meaning a e t) (λ a. meaning a inner t) (λ a. ap (λ (f : ℤ → Given). f t) (fold-Paren (node_meaning a) (λ e. e.node) e inner is)) (parted asked portions t ok)

-- arguments in which no selector stands are the same over any samples
pub others_same : (asked : Asked) (samples : AllSeries) (t : ℤ) (others : List Expr) → HaveNoSelector others → given_at (map (meaning (over samples asked)) others) t ≡ given_at (map (meaning asked) others) t
others_same asked samples t [] h = refl
others_same asked samples t (e ∷ others) h = λ i. constants_stay asked samples e t h.0 i ∷ others_same asked samples t others h.1 i

-- a function of what a parted expression gives, and of arguments that are the same over any samples
pub with_others : (e inner : Expr) (others : List Expr) (F : List Given → Given → Given) (asked : Asked) (portions : List Portion) (t : ℤ)
    → ((a : Asked) → meaning a e t ≡ F (given_at (map (meaning a) others) t) (meaning a inner t)) → HaveNoSelector others
    → GivenParts portions (F (given_at (map (meaning asked) others) t) (meaning asked inner t)) (λ p. F (given_at (map (meaning asked) others) t) (meaning (over p.samples asked) inner t))
    → GivenParts portions (meaning asked e t) (λ p. meaning (over p.samples asked) e t)
with_others e inner others F asked portions t means none parts =
    along portions asked (λ a. meaning a e t) (λ a. F (given_at (map (meaning a) others) t) (meaning a inner t)) means
    (subst (λ (h : Portion → Given). GivenParts portions (F (given_at (map (meaning asked) others) t) (meaning asked inner t)) h)
    (λ i p. F (sym (others_same asked p.samples t others none) i) (meaning (over p.samples asked) inner t)) parts)

module _ (unions : UnionHasMarks) (note_unions : UnionHasNotes) where
  -- ---- functions of one step

  module _ (names : List (List ℕ)) (asked : Asked) (portions : List Portion) (ok : ArePortions names portions asked.samples) where
    abbrev Kept : (Step → Step) → Type 0
    Kept S = (step : Step) (steps : Portion → Step) → StepParts portions step steps → StepParts portions (S step) (λ p. S (steps p))

    mapped_kept : (f : Element) (first second : XFrac) → Kept (mapped f first second)
    mapped_kept f first second =
        row_parts portions unions (element_outcome f first second) (nameless_keeps portions (ignore_name names portions asked.samples ok) (element_outcome f first second) (λ row. refl))

    operated_kept : (op : PairOp) (left : Bool) (scalar : Step) → Kept (λ step. with_scalar (operated_rows op left) scalar step)
    operated_kept op left scalar =
        scalar_parts portions unions note_unions ok.some (operated_rows op left)
        (λ a. row_parts portions unions (operator_outcome op left a) (operator_keeps portions (ignore_name names portions asked.samples ok) op left a)) scalar

    abbrev applied_step : Element → List Given → ℤ → Step → Step
    applied_step f gs t step = applied f (completed f (given.Vector step ∷ gs) t)

    applied_kept : (f : Element) (gs : List Given) (t : ℤ) → Kept (applied_step f gs t)
    applied_kept element.Round gs t = scalar_parts portions unions note_unions ok.some (λ to. mapped element.Round to zero_number) (λ a. mapped_kept element.Round a zero_number) (rounding (given.Vector (mapped element.Round zero_number zero_number (record { table = record { rows = [] }; marks = nothing })) ∷ gs))
    applied_kept element.Clamp gs t = scalars_parts portions unions note_unions ok.some (mapped element.Clamp) (λ a b. mapped_kept element.Clamp a b) (step_at (given.Words [] ∷ gs) 1) (step_at (given.Words [] ∷ gs) 2)
    applied_kept element.ClampMin gs t = scalar_parts portions unions note_unions ok.some (λ low. mapped element.ClampMin low zero_number) (λ a. mapped_kept element.ClampMin a zero_number) (step_at (given.Words [] ∷ gs) 1)
    applied_kept element.ClampMax gs t = scalar_parts portions unions note_unions ok.some (λ high. mapped element.ClampMax high zero_number) (λ a. mapped_kept element.ClampMax a zero_number) (step_at (given.Words [] ∷ gs) 1)
    applied_kept element.Abs gs t = mapped_kept element.Abs zero_number zero_number
    applied_kept element.Ceil gs t = mapped_kept element.Ceil zero_number zero_number
    applied_kept element.Floor gs t = mapped_kept element.Floor zero_number zero_number
    applied_kept element.Sgn gs t = mapped_kept element.Sgn zero_number zero_number
    applied_kept element.Neg gs t = mapped_kept element.Neg zero_number zero_number
    applied_kept (element.Calendar part) gs t = mapped_kept (element.Calendar part) zero_number zero_number

    applied_by_step : (f : Element) (g : Given) (gs : List Given) (t : ℤ) → applied f (completed f (g ∷ gs) t) ≡ applied_step f gs t (step_of g)
    applied_by_step element.Round g gs t = refl
    applied_by_step element.Clamp g gs t = refl
    applied_by_step element.ClampMin g gs t = refl
    applied_by_step element.ClampMax g gs t = refl
    applied_by_step element.Abs g gs t = refl
    applied_by_step element.Ceil g gs t = refl
    applied_by_step element.Floor g gs t = refl
    applied_by_step element.Sgn g gs t = refl
    applied_by_step element.Neg g gs t = refl
    applied_by_step (element.Calendar part) g gs t = refl

  negated_by_step : (g : Given) → IsNoScalar g → negation g ≡ given.Vector (mapped element.Neg zero_number zero_number (step_of g))
  negated_by_step (given.Scalar step) h = absurd h
  negated_by_step (given.Vector step) h = refl
  negated_by_step (given.Selected selection) h = refl
  negated_by_step (given.Windows w) h = refl
  negated_by_step (given.Words text) h = refl

  right_by_step : (op : PairOp) (pairing : Pairing) (scalar : Step) (g : Given) → IsNoScalar g → operation op pairing g (given.Scalar scalar) ≡ given.Vector (with_scalar (operated_rows op false) scalar (step_of g))
  right_by_step op pairing scalar (given.Scalar step) h = absurd h
  right_by_step op pairing scalar (given.Vector step) h = refl
  right_by_step op pairing scalar (given.Selected selection) h = refl
  right_by_step op pairing scalar (given.Windows w) h = refl
  right_by_step op pairing scalar (given.Words text) h = refl

  left_by_step : (op : PairOp) (pairing : Pairing) (scalar : Step) (g : Given) → IsNoScalar g → operation op pairing (given.Scalar scalar) g ≡ given.Vector (with_scalar (operated_rows op true) scalar (step_of g))
  left_by_step op pairing scalar (given.Scalar step) h = absurd h
  left_by_step op pairing scalar (given.Vector step) h = refl
  left_by_step op pairing scalar (given.Selected selection) h = refl
  left_by_step op pairing scalar (given.Windows w) h = refl
  left_by_step op pairing scalar (given.Words text) h = refl

  pub signs_parted : SignsAreParted
  signs_parted names e inner is parted asked portions t ok =
      along portions asked (λ a. meaning a e t) (λ a. negation (meaning a inner t)) (λ a. ap (λ (f : ℤ → Given). f t) (fold-Negate (node_meaning a) (λ e. e.node) e inner is))
      (vector_of portions negation (mapped element.Neg zero_number zero_number) negated_by_step (mapped_kept names asked portions ok element.Neg zero_number zero_number) (meaning asked inner t) (λ p. meaning (over p.samples asked) inner t) (parted asked portions t ok))

  pub elements_parted : ElementsAreParted
  elements_parted names e inner f others is none parted asked portions t ok =
      let gs : List Given = given_at (map (meaning asked) others) t in
      with_others e inner others (λ hs g. called (func.Element f) (g ∷ hs) t) asked portions t (λ a. ap (λ (m : ℤ → Given). m t) (fold-Call (node_meaning a) (λ e. e.node) e (func.Element f) (inner ∷ others) is)) none
      (vector_of portions (λ g. called (func.Element f) (g ∷ gs) t) (applied_step names asked portions ok f gs t) (λ g h. ap given.Vector (applied_by_step names asked portions ok f g gs t)) (applied_kept names asked portions ok f gs t)
      (meaning asked inner t) (λ p. meaning (over p.samples asked) inner t) (parted asked portions t ok))

  pub right_parted : RightScalarsAreParted
  right_parted names e left right op pairing is constant parted asked portions t ok =
      let scalar = scalar_given asked right t constant.scalar in
      let same : (p : Portion) → meaning (over p.samples asked) right t ≡ given.Scalar scalar.0 = λ p. constants_stay asked p.samples right t constant.constant ∙ scalar.1 in
      along portions asked (λ a. meaning a e t) (λ a. operation op pairing (meaning a left t) (meaning a right t)) (λ a. ap (λ (f : ℤ → Given). f t) (fold-Pair (node_meaning a) (λ e. e.node) e op left right pairing is))
      (subst (λ (h : Given). GivenParts portions (operation op pairing (meaning asked left t) h) (λ p. operation op pairing (meaning (over p.samples asked) left t) (meaning (over p.samples asked) right t))) (sym scalar.1)
      (subst (λ (h : Portion → Given). GivenParts portions (operation op pairing (meaning asked left t) (given.Scalar scalar.0)) (λ p. operation op pairing (meaning (over p.samples asked) left t) (h p))) (λ i p. sym (same p) i)
      (vector_of portions (λ g. operation op pairing g (given.Scalar scalar.0)) (λ step. with_scalar (operated_rows op false) scalar.0 step) (right_by_step op pairing scalar.0) (operated_kept names asked portions ok op false scalar.0)
      (meaning asked left t) (λ p. meaning (over p.samples asked) left t) (parted asked portions t ok))))

  pub left_parted : LeftScalarsAreParted
  left_parted names e left right op pairing is constant parted asked portions t ok =
      let scalar = scalar_given asked left t constant.scalar in
      let same : (p : Portion) → meaning (over p.samples asked) left t ≡ given.Scalar scalar.0 = λ p. constants_stay asked p.samples left t constant.constant ∙ scalar.1 in
      along portions asked (λ a. meaning a e t) (λ a. operation op pairing (meaning a left t) (meaning a right t)) (λ a. ap (λ (f : ℤ → Given). f t) (fold-Pair (node_meaning a) (λ e. e.node) e op left right pairing is))
      (subst (λ (h : Given). GivenParts portions (operation op pairing h (meaning asked right t)) (λ p. operation op pairing (meaning (over p.samples asked) left t) (meaning (over p.samples asked) right t))) (sym scalar.1)
      (subst (λ (h : Portion → Given). GivenParts portions (operation op pairing (given.Scalar scalar.0) (meaning asked right t)) (λ p. operation op pairing (h p) (meaning (over p.samples asked) right t))) (λ i p. sym (same p) i)
      (vector_of portions (λ g. operation op pairing (given.Scalar scalar.0) g) (λ step. with_scalar (operated_rows op true) scalar.0 step) (left_by_step op pairing scalar.0) (operated_kept names asked portions ok op true scalar.0)
      (meaning asked right t) (λ p. meaning (over p.samples asked) right t) (parted asked portions t ok))))

  -- ---- sort and timestamp

  sort_by : (names : List (List ℕ)) (e inner : Expr) (asked : Asked) (portions : List Portion) (t : ℤ) → ((a : Asked) → meaning a e t ≡ given.Vector (step_of (meaning a inner t)))
      → GivenParts portions (meaning asked inner t) (λ p. meaning (over p.samples asked) inner t) → GivenParts portions (meaning asked e t) (λ p. meaning (over p.samples asked) e t)
  sort_by names e inner asked portions t means parts =
      along portions asked (λ a. meaning a e t) (λ a. given.Vector (step_of (meaning a inner t))) means
      (vector_of portions (λ g. given.Vector (step_of g)) (λ step. step) (λ g h. refl) (λ step steps k. k) (meaning asked inner t) (λ p. meaning (over p.samples asked) inner t) parts)

  pub sorts_parted : SortsAreParted
  sorts_parted names e inner is parted asked portions t ok =
      sort_by names e inner asked portions t
      (λ a. ⊎_elim
      (λ h. ap (λ (f : ℤ → Given). f t) (fold-Call (node_meaning a) (λ e. e.node) e func.Sort (inner ∷ []) h))
      (λ h. ap (λ (f : ℤ → Given). f t) (fold-Call (node_meaning a) (λ e. e.node) e func.SortDesc (inner ∷ []) h))
      is)
      (parted asked portions t ok)

  instants_kept : (names : List (List ℕ)) (asked : Asked) (portions : List Portion) (t : ℤ) → ArePortions names portions asked.samples → (step : Step) (steps : Portion → Step) → StepParts portions step steps → StepParts portions (at_instant t step) (λ p. at_instant t (steps p))
  instants_kept names asked portions t ok = row_parts portions unions (instant_outcome t) (nameless_keeps portions (ignore_name names portions asked.samples ok) (instant_outcome t) (λ row. refl))

  timed_parts : (names : List (List ℕ)) (asked : Asked) (portions : List Portion) (t : ℤ) → ArePortions names portions asked.samples → (whole : Given) (pieces : Portion → Given) → GivenParts portions whole pieces
      → GivenParts portions (given.Vector (timestamps whole t)) (λ p. given.Vector (timestamps (pieces p) t))
  timed_parts names asked portions t ok whole pieces (portions_of.selected rules rows is each one) =
      let ignore = ignore_name names portions asked.samples ok in
      portions_of.vector (stamps rows) (λ p. stamps (samples_in p rows)) (ap (λ (g : Given). given.Vector (timestamps g t)) is)
      (mapped_along (λ (p : Portion). pieces p ≡ given.Selected (record { rules = rules; rows = samples_in p rows })) (λ (p : Portion). given.Vector (timestamps (pieces p) t) ≡ given.Vector (stamps (samples_in p rows))) (λ p q. ap (λ (g : Given). given.Vector (timestamps g t)) q) portions each)
      (made_parts portions unions stamped_labels stamp_outcome nothing (λ p. nothing) rows (λ p. samples_in p rows) (everywhere (λ (p : Portion). samples_in p rows ≡ samples_in p rows) (λ p. refl) portions) one
      (mapped_along (λ (p : Portion). IgnoresName p.test) (λ (p : Portion). Keeps stamped_labels stamp_outcome p.test) (λ p h. stamps_keep p.test h) portions ignore) (no_marks_parted portions))
  timed_parts names asked portions t ok whole pieces (portions_of.windows w marks is each one have) =
      portions_of.vector (at_instant t (barren nothing)) (λ p. at_instant t (barren nothing)) (ap (λ (g : Given). given.Vector (timestamps g t)) is)
      (mapped_along (λ (p : Portion). pieces p ≡ given.Windows (record w { rows = windows_in p w.rows; marks = marks p })) (λ (p : Portion). given.Vector (timestamps (pieces p) t) ≡ given.Vector (at_instant t (barren nothing))) (λ p q. ap (λ (g : Given). given.Vector (timestamps g t)) q) portions each)
      (instants_kept names asked portions t ok (barren nothing) (λ p. barren nothing) (barren_parts portions nothing (λ p. nothing) (no_marks_parted portions)))
  timed_parts names asked portions t ok whole pieces (portions_of.vector step steps is each parts) =
      portions_of.vector (at_instant t step) (λ p. at_instant t (steps p)) (ap (λ (g : Given). given.Vector (timestamps g t)) is)
      (mapped_along (λ (p : Portion). pieces p ≡ given.Vector (steps p)) (λ (p : Portion). given.Vector (timestamps (pieces p) t) ≡ given.Vector (at_instant t (steps p))) (λ p q. ap (λ (g : Given). given.Vector (timestamps g t)) q) portions each)
      (instants_kept names asked portions t ok step steps parts)

  pub timestamps_parted : TimestampsAreParted
  timestamps_parted names e inner is parted asked portions t ok =
      along portions asked (λ a. meaning a e t) (λ a. given.Vector (timestamps (meaning a inner t) t)) (λ a. ap (λ (f : ℤ → Given). f t) (fold-Call (node_meaning a) (λ e. e.node) e func.Timestamp (inner ∷ []) is))
      (timed_parts names asked portions t ok (meaning asked inner t) (λ p. meaning (over p.samples asked) inner t) (parted asked portions t ok))
