-- What a pull makes of what is seen of the engine.
use Rattle.std.proofs.Common.{◌≡◌, ◌∙◌, ℕ, ◌+◌, ◌≤◌, List, [], length, map, drop, slice_get, slice_set, refl, sym, ap, subst, Some, None, Ok, Err, true, ◌<◌, ◌^◌, arith}
use Rattle.std.specs.Prelude.{Bool, false, not, Option, IsSome, is_some}
use Rattle.std.proofs.lemmas.List.{drop-drop, drop-map, length-map, map-set}
use Rattle.remote_api.specs.Seen.{AskSeen, CountsStray, GivesOwed, HasGiven, HasPulled, MayPull, after_steps, owed}
use Rattle.remote_api.specs.Strays.{early_end, stray_of, wrong_cell}
use Rattle.remote_api.specs.declared.frame.Stray.{Stray}
use Rattle.remote_api.specs.declared.engine.EngineFail.TheVariants as fail
use Rattle.remote_api.specs.declared.engine.Pulled.TheVariants as pulled
use Rattle.step_table.specs.declared.cells.StepCells.{StepCells}
use Rattle.promql_meaning.specs.Meaning.{meaning}
use Rattle.promql_meaning.specs.Selecting.{AllSeries}
use Rattle.step_cells.specs.Owed.{cells}
use Rattle.promql_type.specs.Replacements.{Kept}
use Rattle.ticks.specs.Listed.{IsListed, ListsAreOne}
use Rattle.ticks.specs.Near.{InstantsAreTimes}
use Rattle.ticks.specs.declared.moment.Ms.{Ms}
use Rattle.engine_local.specs.Local.{IsAllowed, Local, asked_of, seen_ask, seen_of, times_of, went_on}
use Rattle.engine_local.specs.declared.own.OwnAsk.{OwnAsk}
use Rattle.engine_local.proofs.Calls.{no_error, no_failure, no_faults}
use Rattle.engine_local.proofs.Instants.{few_instants}
use Rattle.engine_local.proofs.Lists.{all_dropped, drop_length, made_at, past, same_set, taken_most}
use Rattle.engine_local.proofs.Well.{no_stray}

-- ---- one ask

-- the own ask at a place that may be pulled
pub record Found (asks : List OwnAsk) (place : ℕ) (kept : Kept) : Type 0 where
  pub one : OwnAsk
  pub here : slice_get asks place ≡ Some one
  pub kept_are : one.kept ≡ kept

pub found : (e : Local) (place : ℕ) (kept : Kept) → MayPull place kept (seen_of e) → Found e.asks place kept
found e place kept may =
    let f = made_at (seen_ask e.samples) e.asks place may.1 may.2 in
    record { one = f.0; here = f.1; kept_are = ap (λ (a : AskSeen). a.kept) f.2 ∙ may.3 }

-- the same in a list that is equal
pub found_in : (v e : Local) (place : ℕ) (kept : Kept) → v ≡ e → MayPull place kept (seen_of e) → Found v.asks place kept
found_in v e place kept same may = found v place kept (subst (λ (l : Local). MayPull place kept (seen_of l)) (sym same) may)

left_after : (samples : AllSeries) (one : OwnAsk) (n : ℕ)
    → owed (asked_of samples one) one.part (drop (one.given + n) (times_of one)) ≡ drop n (owed (asked_of samples one) one.part (drop one.given (times_of one)))
left_after samples one n =
    ap (owed (asked_of samples one) one.part) (sym (drop-drop n one.given (times_of one))) ∙ sym (drop-map _ n (drop one.given (times_of one)))

pub ask_after : (samples : AllSeries) (one : OwnAsk) (steps : List StepCells) (next : Option Ms) → seen_ask samples (went_on (length steps) next one) ≡ after_steps steps (seen_ask samples one)
ask_after samples one steps next =
    ap (λ (left : List StepCells). record { part = one.part; ask = one.ask; kept = one.kept; given = one.given + length steps; left = left }) (left_after samples one (length steps))

-- what is given lies within the instants
pub within_times : (samples : AllSeries) (one : OwnAsk) (most : ℕ) (steps : List StepCells) → IsAllowed one → GivesOwed most pulled.Frame steps (seen_ask samples one)
    → one.given + length steps ≤ length (times_of one)
within_times samples one most steps allowed gives =
    let few = taken_most steps (owed (asked_of samples one) one.part (drop one.given (times_of one))) gives.0 in
    let long = length-map (drop one.given (times_of one)) (λ (t : Ms). cells one.part.kind t (meaning (asked_of samples one) one.part.expr t.0)) in
    let whole = drop_length one.given (times_of one) allowed.given in
    omega (arith, few, long, whole)

-- so their number is one that a counter holds
pub few_given : InstantsAreTimes → (samples : AllSeries) (one : OwnAsk) (most : ℕ) (steps : List StepCells) → IsAllowed one → GivesOwed most pulled.Frame steps (seen_ask samples one)
    → one.given + length steps < 2 ^ 64
few_given law samples one most steps allowed gives =
    let within = within_times samples one most steps allowed gives in
    let few = few_instants law one.ask.walk (times_of one) allowed.within.walk allowed.times in
    omega (arith, within, few)

pub allowed_on : (one : OwnAsk) (n : ℕ) (next : Option Ms) → IsAllowed one → one.given + n ≤ length (times_of one) → next ≡ slice_get (times_of one) (one.given + n) → IsAllowed (went_on n next one)
allowed_on one n next allowed within behind = record {
  times = allowed.times;
  within = allowed.within;
  kind = allowed.kind;
  window = allowed.window;
  form = allowed.form;
  needs = allowed.needs;
  given = within;
  next = behind;
}

-- whether an instant comes next, as it is tested
pub none_next : (next : Option Ms) (test : Bool) → is_some next ≡ not test → test ≡ true → next ≡ None
none_next None test is held = refl
none_next (Some t) test is held = let clash : true ≡ false = is ∙ ap not held in absurd (cc)

pub some_next : (next : Option Ms) (test : Bool) → is_some next ≡ not test → test ≡ false → IsSome next
some_next next test is held = is ∙ ap not held

-- ---- the engine

-- the engine with other asks
abbrev pub with_asks : List OwnAsk → Local → Local
with_asks asks e = record e { asks = asks }

module _ (e : Local) (place most : ℕ) (one : OwnAsk) (here : slice_get e.asks place ≡ Some one) (allowed : IsAllowed one) (lists : ListsAreOne) where
  abbrev own : OwnAsk → AskSeen
  own = seen_ask e.samples

  same_ask : (a : AskSeen) → slice_get (map own e.asks) place ≡ Some a → own one ≡ a
  same_ask a there =
      let found = made_at own e.asks place a there in
      let same : one ≡ found.0 = of_some (sym here ∙ found.1) in
      ap own same ∙ found.2
    where
      get : Option OwnAsk → OwnAsk
      get None = one
      get (Some x) = x

      of_some : {x y : OwnAsk} → Some x ≡ Some y → x ≡ y
      of_some h = ap get h

  -- steps that are owed
  pub gave : (steps : List StepCells) (next : Option Ms) → GivesOwed most pulled.Frame steps (own one) → wrong_cell one.ask steps ≡ None
      → HasPulled place most steps (Ok pulled.Frame) (seen_of e) (seen_of (with_asks (slice_set e.asks place (went_on (length steps) next one)) e))
  gave steps next gives well =
      let new = with_asks (slice_set e.asks place (went_on (length steps) next one)) e in
      let left = no_stray (asked_of e.samples one) one.part one.ask (drop one.given (times_of one)) steps gives.0 gives.1 well in
      let none : (all : List Ms) → IsListed one.ask.walk all → stray_of one.ask (drop one.given all) steps ≡ None =
      λ all listed. ap (λ (ts : List Ms). stray_of one.ask (drop one.given ts) steps) (lists one.ask.walk all (times_of one) listed allowed.times) ∙ left in
      record {
        faults = no_faults _ e new (no_error pulled.Frame fail.Failed);
        holding = refl;
        given = λ a there. subst (HasGiven place most pulled.Frame steps (seen_of e) (seen_of new)) (same_ask a there) (record {
          asks = map-set own e.asks place (went_on (length steps) next one) ∙ ap (slice_set (map own e.asks) place) (ask_after e.samples one steps next);
          going = refl;
          gives = gives;
          stray = λ all listed. subst (λ (s : Option Stray). CountsStray s (seen_of e) (seen_of new)) (sym (none all listed)) (record { strays = refl; stray = refl });
          true_to_form = none;
        });
        unstrayed = tt;
        failed = λ p. absurd (no_error pulled.Frame fail.Failed p);
        spent = λ p. absurd (no_error pulled.Frame fail.Memory p);
      }

  -- the end, where none is left
  pub ended : one.next ≡ None → HasPulled place most [] (Ok pulled.End) (seen_of e) (seen_of e)
  ended done =
      let none = all_dropped one.given (times_of one) (past (times_of one) one.given (sym allowed.next ∙ done)) in
      let no_end : (all : List Ms) → IsListed one.ask.walk all → early_end (drop one.given all) ≡ None =
      λ all listed. ap (λ (ts : List Ms). early_end (drop one.given ts)) (lists one.ask.walk all (times_of one) listed allowed.times) ∙ ap early_end none in
      record {
        faults = no_faults _ e e (no_error pulled.End fail.Failed);
        holding = refl;
        given = λ a there. subst (HasGiven place most pulled.End [] (seen_of e) (seen_of e)) (same_ask a there) (record {
          asks = sym (same_set (map own e.asks) place (own one) (there ∙ ap Some (sym (same_ask a there))));
          going = refl;
          gives = (ap (owed (asked_of e.samples one) one.part) none, refl);
          stray = λ all listed. subst (λ (s : Option Stray). CountsStray s (seen_of e) (seen_of e)) (sym (no_end all listed)) (record { strays = refl; stray = refl });
          true_to_form = no_end;
        });
        unstrayed = tt;
        failed = λ p. absurd (no_error pulled.End fail.Failed p);
        spent = λ p. absurd (no_error pulled.End fail.Memory p);
      }

-- want of memory spends the asks
pub spent_pulled : (e : Local) (place most : ℕ) (steps : List StepCells) → HasPulled place most steps (Err fail.Memory) (seen_of e) (seen_of (record e { spent = true }))
spent_pulled e place most steps = record {
  faults = no_faults _ e (record e { spent = true }) no_failure;
  holding = refl;
  given = tt;
  unstrayed = record { strays = refl; stray = refl };
  failed = λ p. absurd (no_failure p);
  spent = λ _. refl;
}
