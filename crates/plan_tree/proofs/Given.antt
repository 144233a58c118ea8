-- What gathers give of engines that tell what they hold.
use Rattle.std.proofs.Common.{◌≡◌, ◌∙◌, ℕ, zero, suc, ◌<◌, List, [], ◌∷◌, length, map, slice_get, refl, sym, ap, subst, Option, None, Some}
use Rattle.std.specs.Prelude.{ℤ}
use Rattle.std.specs.List.{cons_option, filter_map}
use Rattle.exchange.specs.Asked.{AreOwed, IsOwed, owed_by, owed_over}
use Rattle.exchange.specs.Standing.{Progress}
use Rattle.exchange.specs.declared.request.Request.{Request}
use Rattle.op_gather.specs.Histories.{steps_at}
use Rattle.op_labels.specs.Rules.{Kept}
use Rattle.promql_meaning.specs.Meaning.{meaning}
use Rattle.promql_meaning.specs.Selecting.{asked_over}
use Rattle.remote_api.specs.Seen.{EngineSeen, Holding, owed}
use Rattle.remote_api.specs.declared.asks.Part.{Part}
use Rattle.step_cells.specs.Owed.{cells}
use Rattle.step_table.specs.declared.cells.StepCells.{StepCells}
use Rattle.ticks.specs.declared.grid.Grid.{Grid}
use Rattle.ticks.specs.declared.moment.Ms.{Ms}
use Rattle.plan_tree.specs.Asking.{cells_held, cells_of, gathered_at, gathered_by}
use Rattle.plan_tree.specs.Gathering.{joined_of}
use Rattle.plan_tree.proofs.Numbers.{get_within, some_same, within_get}

get_of : {X Y : Type 0} (f : X → Y) (xs : List X) (n : ℕ) (x : X) → slice_get xs n ≡ Some x → slice_get (map f xs) n ≡ Some (f x)
get_of f [] n x e = absurd (cc)
get_of f (y ∷ xs) zero x e = ap (λ z. Some (f z)) (some_same y x e)
get_of f (y ∷ xs) (suc n) x e = get_of f xs n x e

module _ (span : Grid) (kept : Kept) (part : Part) (times : List Ms) (n : ℕ) (t : Ms) (at : slice_get times n ≡ Some t) where
  owed_held : (o : Option Holding) → slice_get (owed_over span kept part times o) n ≡ cells_held span kept part t o
  owed_held None = refl
  owed_held (Some h) = get_of (λ (u : Ms). cells part.kind u (meaning (asked_over h.samples kept span) part.expr u.0)) times n t at

  owed_of : (o : Option EngineSeen) → slice_get (owed_by span kept part times o) n ≡ cells_of span kept part t o
  owed_of None = refl
  owed_of (Some e) = owed_held e.holding

  pub owed_given : (es : List EngineSeen) (engines : List ℕ) → steps_at n (map (λ (i : ℕ). owed_by span kept part times (slice_get es i)) engines) ≡ filter_map (λ (i : ℕ). cells_of span kept part t (slice_get es i)) engines
  owed_given es [] = refl
  owed_given es (i ∷ engines) = (λ j. cons_option (owed_of (slice_get es i) j) (owed_given es engines j))

-- what a request's gather gives is what its engines owe, joined
pub gathers_give : (span : Grid) (kept : Kept) (es : List EngineSeen) (requests : List Request) (ps : List Progress) → AreOwed span kept es requests ps → (k n : ℕ) (p : Progress) (t : Ms) → slice_get ps k ≡ Some p → slice_get p.all n ≡ Some t
    → gathered_by span kept es requests k t.0 ≡ joined_of p.kind t (steps_at n p.owed)
gathers_give span kept es requests ps owes k n p t p_at t_at =
    let found = within_get requests k (subst (λ m. k < m) owes.as_many (get_within ps k p p_at)) in
    let r = found.0 in
    let o = owes.each k r p found.1 p_at in
    ap (λ (q : Option Request). gathered_at span kept es q t) found.1
    ∙ (λ j. joined_of (sym o.kind j) t (sym (owed_given span kept r.part p.all n t t_at es r.engines) j))
    ∙ ap (λ l. joined_of p.kind t (steps_at n l)) (sym o.owed)
