-- What an ask makes of what is seen of the engine.
use Rattle.std.proofs.Common.{◌≡◌, ◌∙◌, ℕ, ◌+◌, ◌≤◌, true, [], ◌∷◌, ◌++◌, length, drop, refl, sym, ap, subst, Some, Ok, Err, arith}
use Rattle.std.specs.Prelude.{ℤ, Option, slice_get}
use Rattle.std.proofs.lemmas.List.{length-map, map-append}
use Rattle.promql_ast.specs.declared.tree.Expr.{Expr}
use Rattle.promql_ast.specs.declared.tree.Node.TheOpen.{Node-F}
use Rattle.promql_ast.specs.declared.tree.Node.TheVariants.{Range}
use Rattle.promql_ast.specs.declared.tree.Node.TheViews.{out-Node, outs-Range}
use Rattle.promql_ast.specs.declared.tree.Selector.{Selector}
use Rattle.promql_meaning.specs.Conditions.{AreMet, needs_of}
use Rattle.promql_meaning.specs.Selecting.{AllSeries, Asked, asked_over}
use Rattle.promql_meaning.specs.WalkMoments.{IsMomentOf}
use Rattle.promql_type.specs.Replacements.{Kept}
use Rattle.remote_api.specs.Seen.{EngineSeen, HasAsked, HasForm, IsAskOf, IsAsked, IsWindowOf, MayAsk, owed}
use Rattle.remote_api.specs.Strays.{AsksInTimes, HasWindow}
use Rattle.remote_api.specs.declared.asks.Ask.{Ask}
use Rattle.remote_api.specs.declared.asks.Part.{Part}
use Rattle.remote_api.specs.declared.engine.EngineFail.TheVariants as fail
use Rattle.step_table.specs.declared.cells.PartKind.TheVariants as part_kind
use Rattle.step_table.specs.Groups.{Names}
use Rattle.ticks.specs.Listed.{IsListed, ListsAreOne}
use Rattle.ticks.specs.Walks.{HasTimes, IsInstant, LeadsToTimes, moment_at}
use Rattle.ticks.specs.declared.grid.Grid.{Grid}
use Rattle.ticks.specs.declared.moment.Ms.{Ms}
use Rattle.ticks.specs.declared.walk.Walk.{Walk}
use Rattle.ticks.specs.declared.walk.WalkMoment.{WalkMoment}
use Rattle.engine_local.specs.Local.{IsAllowed, IsFresh, Local, seen_ask, seen_of, times_of}
use Rattle.engine_local.specs.declared.own.OwnAsk.{OwnAsk}
use Rattle.engine_local.specs.Windows.{IsWindow}
use Rattle.engine_local.proofs.Calls.{no_error, no_failure, no_faults}
use Rattle.engine_local.proofs.Pulls.{with_asks}

-- ---- a range selector has one selector and one range

module _ (s s' : Selector) (r r' : Ms) (same : Range s r ≡ Range s' r') where
  range_in : {A B : Type 0} → Node-F A B → Ms
  range_in (Node-F.Range selector range) = range
  range_in _ = r

  selector_in : {A B : Type 0} → Node-F A B → Selector
  selector_in (Node-F.Range selector range) = selector
  selector_in _ = s

  pub same_range : r ≡ r'
  unfolding range_in
  same_range = sym (rw outs-Range refl) ∙ ap (λ n. range_in (out-Node n)) same ∙ rw outs-Range refl

  pub same_selector : s ≡ s'
  unfolding selector_in
  same_selector = sym (rw outs-Range refl) ∙ ap (λ n. selector_in (out-Node n)) same ∙ rw outs-Range refl

-- ---- the windows of a range selector

pub window_asked : (span : Grid) (kept : Kept) (part : Part) (ask : Ask) → HasForm kept part.expr part.kind
    → ((selector : Selector) (range : Ms) → part.expr.node ≡ Range selector range → IsWindow span selector range ask.moment ask.range)
    → part.kind ≡ part_kind.Windows → IsWindowOf span part.expr ask
window_asked span kept part ask form window kind =
    let f = subst (HasForm kept part.expr) kind form in
    let w = window f.0 f.1 f.2 in
    record { selector = f.0; selects = f.2 ∙ ap (λ (r : Ms). Range f.0 r) (sym w.range_is); moment = w.moment_is; closed = w.closed }

-- ---- two asks of a part have the same windows

same_moment : (asked : Asked) (s : Selector) (m n : WalkMoment) → IsMomentOf asked s.moment m → IsMomentOf asked s.moment n → (t : ℤ) → moment_at m t ≡ moment_at n t
same_moment asked s m n a b t =
    ap (λ (w : WalkMoment). moment_at w t) (λ i. record { fixed = (a.fixed ∙ sym b.fixed) i; offset = (a.offset ∙ sym b.offset) i; closed = m.closed })

same_window : (span : Grid) (e : Expr) (a b : Ask) (at : Ms) → IsWindowOf span e a → IsWindowOf span e b → HasWindow b at → HasWindow a at
same_window span e a b at x y h =
    let nodes = sym x.selects ∙ y.selects in
    let range = same_range x.selector y.selector a.range b.range nodes in
    let selector = same_selector x.selector y.selector a.range b.range nodes in
    let own = subst (λ (s : Selector). IsMomentOf (asked_over [] [] span) s.moment a.moment) selector x.moment in
    subst (λ (m : ℤ). HasTimes m a.range.0) (sym (same_moment (asked_over [] [] span) y.selector a.moment b.moment own y.moment at.0))
    (subst (λ (r : Ms). HasTimes (moment_at b.moment at.0) r.0) (sym range) h)

module _ (part : Part) (walk : Walk) (span : Grid) (kept : Kept) (one : OwnAsk) (fresh : IsFresh part walk span kept one) where
  abbrev ask : Ask
  ask = one.ask

  within : (other : Ask) → IsAskOf part walk span other → AsksInTimes other → AsksInTimes ask
  within other is times =
      let walks : other.walk ≡ ask.walk = is.walk_is ∙ sym fresh.ask.walk_is in
      record {
        walk = subst LeadsToTimes walks times.walk;
        windows = λ kind at here.
            let windows = sym fresh.ask.kind_is ∙ kind in
            same_window span part.expr ask other at (fresh.ask.window windows) (is.window windows)
            (times.windows (is.kind_is ∙ windows) at (subst (λ (w : Walk). IsInstant w at.0) (sym walks) here));
      }

  pub fresh_allowed : (e : EngineSeen) → MayAsk part walk span kept e → IsAllowed one
  fresh_allowed e may = record {
    times = subst (λ (w : Walk). IsListed w (times_of one)) (sym fresh.ask.walk_is) fresh.times;
    within = within may.times.0 may.times.1 may.times.2;
    kind = fresh.ask.kind_is ∙ ap (λ (p : Part). p.kind) (sym fresh.part_is);
    window = subst (λ (p : Part). p.kind ≡ part_kind.Windows → IsWindowOf one.span p.expr one.ask) (sym fresh.part_is)
        (subst (λ (g : Grid). part.kind ≡ part_kind.Windows → IsWindowOf g part.expr one.ask) (sym fresh.span_is) fresh.ask.window);
    form = subst (λ (p : Part). HasForm one.kept p.expr p.kind) (sym fresh.part_is) (subst (λ (k : Kept). HasForm k part.expr part.kind) (sym fresh.kept_are) may.form);
    needs = λ t here.
        subst (λ (a : Asked). AreMet a (needs_of a one.part.expr t.0)) (λ i. asked_over [] (sym fresh.kept_are i) (sym fresh.span_is i))
        (subst (λ (p : Part). AreMet (asked_over [] kept span) (needs_of (asked_over [] kept span) p.expr t.0)) (sym fresh.part_is)
        (may.needs t (subst (λ (w : Walk). IsInstant w t.0) fresh.ask.walk_is here)));
    given = subst (λ (n : ℕ). n ≤ length (times_of one)) (sym fresh.given) (omega arith);
    next = fresh.next ∙ ap (slice_get (times_of one)) (sym fresh.given);
  }

  pub fresh_asked : (samples : AllSeries) (declared : Option Names) → ListsAreOne → IsAsked part walk span kept (Some (record { declared = declared; samples = samples })) (seen_ask samples one)
  fresh_asked samples declared lists = record {
    part_is = fresh.part_is;
    ask = fresh.ask;
    kept_are = fresh.kept_are;
    given = fresh.given;
    left = λ times listed. λ i. owed (asked_over samples (fresh.kept_are i) (fresh.span_is i)) (fresh.part_is i) (drop (fresh.given i) (lists walk (times_of one) times fresh.times listed i));
  }

  pub asked : (e : Local) → ListsAreOne → HasAsked part walk span kept (Ok (length e.asks)) (seen_of e) (seen_of (with_asks (e.asks ++ one ∷ []) e))
  asked e lists = record {
    faults = no_faults _ e (with_asks (e.asks ++ one ∷ []) e) (no_error (length e.asks) fail.Failed);
    holding = refl;
    strays = record { strays = refl; stray = refl };
    asked = (
      sym (length-map e.asks (seen_ask e.samples)),
      seen_ask e.samples one,
      map-append (seen_ask e.samples) e.asks (one ∷ []),
      fresh_asked e.samples e.declared lists,
    );
    going = refl;
    failed = λ p. absurd (no_error (length e.asks) fail.Failed p);
    spent = λ p. absurd (no_error (length e.asks) fail.Memory p);
  }

-- want of memory spends the asks
pub spent_asked : (part : Part) (walk : Walk) (span : Grid) (kept : Kept) (e : Local) → HasAsked part walk span kept (Err fail.Memory) (seen_of e) (seen_of (record e { spent = true }))
spent_asked part walk span kept e = record {
  faults = no_faults _ e (record e { spent = true }) no_failure;
  holding = refl;
  strays = record { strays = refl; stray = refl };
  asked = tt;
  going = tt;
  failed = λ p. absurd (no_failure p);
  spent = λ _. refl;
}
