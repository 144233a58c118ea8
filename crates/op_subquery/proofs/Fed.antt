-- What a kernel was fed, as it is fed more and goes on.
use Rattle.std.proofs.Common.{◌≡◌, ◌∙◌, List, [], ◌∷◌, ◌++◌, map, refl, sym, ap, subst, append_assoc, Option, None, Some}
use Rattle.std.specs.Prelude.{ℤ, ◌≤ℤ◌}
use Rattle.std.specs.List.{AllByRecursion}
use Rattle.std.specs.List.Sorted.{IsStrictlySortedBy}
use Rattle.promql_meaning.specs.Givens.{no_marks}
use Rattle.step_batch.specs.Laws.{LentRowsAreThoseOfSlots}
use Rattle.step_batch.specs.Lent.{IsLent, Lent, stages}
use Rattle.step_batch.specs.LentWindows.{AreWindows, WindowsAt, behind, with_more_marks}
use Rattle.step_table.specs.Groups.{items_of}
use Rattle.step_table.specs.Timed.{StepAt, marks_of_steps, rows_of_steps}
use Rattle.step_table.specs.Unions.{united}
use Rattle.step_table.specs.WellFormed.{AreSets}
use Rattle.step_table.specs.declared.marks.Marks.{Marks}
use Rattle.step_table.specs.declared.windows.WindowRow.{WindowRow}
use Rattle.ticks.specs.Listed.{AreRising}
use Rattle.ticks.specs.declared.moment.Ms.{Ms}
use Rattle.ticks.specs.declared.walk.WalkMoment.{WalkMoment}
use Rattle.op_subquery.specs.Kept.{AreKept, AreWindowsOf, KeptStep, columns_of, due, instants_of, kept_in, later, steps_in}
use Rattle.op_subquery.specs.Raised.{AreRaised, Raised}
use Rattle.op_subquery.specs.Rings.{AreHeld, AreLent, CanFeed, IsBehind, IsGone, IsNoEarlier, IsReached, Kernel, WasFed, last_instant, last_kept, span_at, windows_at}
use Rattle.op_subquery.specs.declared.span.Span.{Span}
use Rattle.op_subquery.proofs.Feeding.{all_more, fed_last, fed_rise, kept_append, lent_kept, stages_sets}
use Rattle.op_subquery.proofs.Lending.{all_due, back_rises, coming_later, front_rises, gone_on, in_window, later_all, meant_under, parts, reached_on, windows_later}

-- ---- nothing yet

none_raised : AreRaised (record { fatal = []; notes = [] }) []
unfolding IsStrictlySortedBy
none_raised = record { fatal = record { sorted = tt; each = λ k. refl }; notes = record { sorted = tt; each = λ k. refl } }

pub fed_nothing : (k : Kernel) → k.last ≡ None → k.waiting ≡ [] → k.windows.rows ≡ [] → k.raised ≡ record { fatal = []; notes = [] } → WasFed k []
fed_nothing k last waiting rows raised = record {
  gone = [];
  held = [];
  coming = [];
  parts = refl;
  are_gone = tt;
  are_reached = tt;
  are_held = record {
    rows = subst (λ (z : List WindowRow). AreWindowsOf z []) (sym rows) (λ q. refl);
    raised = subst (λ (z : Raised). AreRaised z []) (sym raised) none_raised;
    waiting = subst (λ (z : List KeptStep). AreKept z []) (sym waiting) tt;
    rising = tt;
  };
  rising = tt;
  last = last;
  sets = tt;
}

-- ---- more

pub feed_more : LentRowsAreThoseOfSlots → (old new : Kernel) (lent : Lent) → IsLent lent → CanFeed old lent → new.reached ≡ old.reached → new.waiting ≡ old.waiting ++ map (kept_in lent.labels) lent.steps
    → new.windows ≡ old.windows → new.raised ≡ old.raised → new.last ≡ last_kept old.last lent.steps → (fed : List StepAt) → WasFed old fed → WasFed new (fed ++ stages lent)
feed_more law old new lent is can reached waiting windows raised last fed w =
    let more = stages lent in
    let all : fed ++ more ≡ w.gone ++ (w.held ++ (w.coming ++ more)) =
    ap (λ (z : List StepAt). z ++ more) w.parts ∙ append_assoc w.gone (w.held ++ w.coming) more ∙ ap (λ (z : List StepAt). w.gone ++ z) (append_assoc w.held w.coming more) in
    let behind_it : IsBehind (last_instant fed) lent.steps = subst (λ (o : Option Ms). IsBehind o lent.steps) w.last can.later in
    let rising : AreRising (instants_of (fed ++ more)) = fed_rise lent.labels fed lent.steps w.rising is.rising behind_it in
    record {
      gone = w.gone;
      held = w.held;
      coming = w.coming ++ more;
      parts = all;
      are_gone = subst (λ (o : Option Span). AllByRecursion (IsGone o) w.gone) (sym reached) w.are_gone;
      are_reached = subst (λ (o : Option Span). AllByRecursion (IsReached o) w.held) (sym reached) w.are_reached;
      are_held = record {
        rows = subst (λ (z : WindowsAt). AreWindowsOf z.rows w.held) (sym windows) w.are_held.rows;
        raised = subst (λ (z : Raised). AreRaised z w.held) (sym raised) w.are_held.raised;
        waiting = subst (λ (z : List KeptStep). AreKept z (w.coming ++ more)) (sym waiting) (kept_append old.waiting (map (kept_in lent.labels) lent.steps) w.coming more w.are_held.waiting (lent_kept law lent is));
        rising = back_rises w.gone (w.held ++ (w.coming ++ more)) (subst (λ (z : List StepAt). AreRising (instants_of z)) all rising);
      };
      rising = rising;
      last = last ∙ ap (λ (o : Option Ms). last_kept o lent.steps) w.last ∙ fed_last lent.labels fed lent.steps;
      sets = all_more (λ (s : StepAt). AreSets s.step.marks) fed more w.sets (stages_sets lent.labels lent.steps can.sets);
    }

-- ---- going on

all_front : (P : StepAt → Type 0) (xs ys : List StepAt) → AllByRecursion P (xs ++ ys) → AllByRecursion P xs
all_front P [] ys a = tt
all_front P (x ∷ xs) ys a = (a.0, all_front P xs ys a.1)

all_back : (P : StepAt → Type 0) (xs ys : List StepAt) → AllByRecursion P (xs ++ ys) → AllByRecursion P ys
all_back P [] ys a = a
all_back P (x ∷ xs) ys a = all_back P xs ys a.1

-- what is handed on, forgotten and lent on the way to a window
pub record Went (old new : Kernel) (span : Span) (at : Ms) : Type 0 where
  pub rows : List WindowRow
  pub raised : Raised
  pub marks : Marks
  pub handed : (held coming : List StepAt) → AreHeld old.windows.rows old.raised old.waiting held coming → AreHeld rows raised new.waiting (held ++ due span.moment.0 coming) (later span.moment.0 coming)
  pub are : AreWindows rows
  pub forgot : (steps : List StepAt) → AreRising (instants_of steps) → AreRaised raised steps → AreRaised new.raised (later span.edge.0 steps)
  pub stand : (steps : List StepAt) → AllByRecursion (λ (s : StepAt). AreSets s.step.marks) steps → AreRaised new.raised steps → marks ≡ marks_of_steps no_marks steps
  pub windows : new.windows ≡ record { at = at; rows = behind span.edge.0 rows; marks = united no_marks marks }
  pub reached : new.reached ≡ Some span
  pub last : new.last ≡ old.last

-- the calls on that way
pub went_by : (old : Kernel) (span : Span) (at : Ms) (waiting : List KeptStep) (handed forgotten renewed lent : WindowsAt) (raised stay : Raised) (marks : Marks)
    → ((held coming : List StepAt) → AreHeld old.windows.rows old.raised old.waiting held coming → AreHeld handed.rows raised waiting (held ++ due span.moment.0 coming) (later span.moment.0 coming))
    → AreWindows handed.rows → forgotten ≡ record { at = handed.at; rows = behind span.edge.0 handed.rows; marks = handed.marks }
    → ((steps : List StepAt) → AreRising (instants_of steps) → AreRaised raised steps → AreRaised stay (later span.edge.0 steps))
    → renewed ≡ record { at = at; rows = forgotten.rows; marks = no_marks }
    → ((steps : List StepAt) → AllByRecursion (λ (s : StepAt). AreSets s.step.marks) steps → AreRaised stay steps → marks ≡ marks_of_steps no_marks steps)
    → lent ≡ with_more_marks renewed marks
    → Went old (record { range = old.range; step = old.step; moment = old.moment; last = old.last; reached = Some span; waiting = waiting; windows = lent; raised = stay }) span at
went_by old span at waiting handed forgotten renewed lent raised stay marks hand are forget forgot renew stand unite = record {
  rows = handed.rows;
  raised = raised;
  marks = marks;
  handed = hand;
  are = are;
  forgot = forgot;
  stand = stand;
  windows = unite ∙ ap (λ (w : WindowsAt). with_more_marks w marks) renew ∙ ap (λ (w : WindowsAt). record { at = at; rows = w.rows; marks = united no_marks marks }) forget;
  reached = refl;
  last = refl;
}

module _ (old new : Kernel) (span : Span) (at : Ms) (went : Went old new span at) (on : IsNoEarlier old.reached span) (fed : List StepAt) (w : WasFed old fed) where
  abbrev edge : ℤ
  edge = span.edge.0

  abbrev m : ℤ
  m = span.moment.0

  abbrev held : List StepAt
  held = w.held ++ due m w.coming

  abbrev coming : List StepAt
  coming = later m w.coming

  all : fed ≡ w.gone ++ (held ++ coming)
  all = w.parts ∙ ap (λ (z : List StepAt). w.gone ++ (w.held ++ z)) (parts m w.coming) ∙ ap (λ (z : List StepAt). w.gone ++ z) (sym (append_assoc w.held (due m w.coming) (later m w.coming)))

  handed : AreHeld went.rows went.raised new.waiting held coming
  handed = went.handed w.held w.coming w.are_held

  held_rise : AreRising (instants_of held)
  held_rise = front_rises held coming handed.rising

  up_to : AllByRecursion (λ (s : StepAt). s.at.0 ≤ℤ m) held
  up_to = all_more (λ (s : StepAt). s.at.0 ≤ℤ m) w.held (due m w.coming) (reached_on old.reached span w.held on w.are_reached) (all_due m w.coming)

  early : AllByRecursion (λ (s : StepAt). s.at.0 ≤ℤ edge) w.gone
  early = gone_on old.reached span w.gone on w.are_gone

  rest : held ++ coming ≡ due edge held ++ (later edge held ++ coming)
  rest = ap (λ (z : List StepAt). z ++ coming) (parts edge held) ∙ append_assoc (due edge held) (later edge held) coming

  sets : AllByRecursion (λ (s : StepAt). AreSets s.step.marks) held
  sets = all_front (λ (s : StepAt). AreSets s.step.marks) held coming (all_back (λ (s : StepAt). AreSets s.step.marks) w.gone (held ++ coming) (subst (AllByRecursion (λ (s : StepAt). AreSets s.step.marks)) all w.sets))

  stays : AreWindowsOf new.windows.rows (later edge held)
  stays = subst (λ (z : WindowsAt). AreWindowsOf z.rows (later edge held)) (sym went.windows) (windows_later edge went.rows held went.are held_rise handed.rows)

  raised_stay : AreRaised new.raised (later edge held)
  raised_stay = went.forgot held held_rise handed.raised

  in_it : later edge held ≡ steps_in edge m fed
  in_it = in_window edge m w.gone held coming early up_to held_rise (coming_later m w.held w.coming w.are_held.rising) ∙ ap (steps_in edge m) (sym all)

  pub goes_on : WasFed new fed
  goes_on = record {
    gone = w.gone ++ due edge held;
    held = later edge held;
    coming = coming;
    parts = all ∙ ap (λ (z : List StepAt). w.gone ++ z) rest ∙ sym (append_assoc w.gone (due edge held) (later edge held ++ coming));
    are_gone = subst (λ (o : Option Span). AllByRecursion (IsGone o) (w.gone ++ due edge held)) (sym went.reached) (all_more (λ (s : StepAt). s.at.0 ≤ℤ edge) w.gone (due edge held) early (all_due edge held));
    are_reached = subst (λ (o : Option Span). AllByRecursion (IsReached o) (later edge held)) (sym went.reached) (later_all (λ (s : StepAt). s.at.0 ≤ℤ m) edge held up_to);
    are_held = record {
      rows = stays;
      raised = raised_stay;
      waiting = handed.waiting;
      rising = back_rises (due edge held) (later edge held ++ coming) (subst (λ (z : List StepAt). AreRising (instants_of z)) rest handed.rising);
    };
    rising = w.rising;
    last = went.last ∙ w.last;
    sets = w.sets;
  }

  pub lends : (moment : WalkMoment) (range : Ms) → span ≡ span_at moment range at → AreLent new.windows at (windows_at moment range fed at)
  lends moment range e = record {
    at = ap (λ (z : WindowsAt). z.at) went.windows;
    rows = λ q. stays q ∙ ap (λ (steps : List StepAt). columns_of (items_of (rows_of_steps steps) q)) window ∙ sym (meant_under q (rows_of_steps (steps_in (span_at moment range at).edge.0 (span_at moment range at).moment.0 fed)));
    marks = ap (λ (z : WindowsAt). z.marks) went.windows ∙ went.stand (later edge held) (later_all (λ (s : StepAt). AreSets s.step.marks) edge held sets) raised_stay ∙ ap (marks_of_steps no_marks) window;
  } where
    window : later edge held ≡ steps_in (span_at moment range at).edge.0 (span_at moment range at).moment.0 fed
    window = in_it ∙ ap (λ (z : Span). steps_in z.edge.0 z.moment.0 fed) e
