-- The newest sample of a series is the one right before those that are later.
use Rattle.std.proofs.Common.{◌≡◌, ◌∙◌, Bool, true, false, [], ◌∷◌, ◌++◌, filter, Option, None, Some, refl, sym, ap, subst, append_assoc}
use Rattle.std.specs.Prelude.{ℤ, ◌-ℤ◌, int_lt, int_le, not, if◌then◌else◌, ◌&&◌}
use Rattle.std.specs.List.{last_or}
use Rattle.std.specs.List.Sorted.{IsStrictlySortedBy}
use Rattle.std.specs.Option.{option_and_then}
use Rattle.std.proofs.lemmas.List.{append_cancel_right}
use Rattle.ticks.specs.Edges.{before, is_from-later}
use Rattle.ticks.specs.declared.moment.Ms.{Ms}
use Rattle.xfrac.specs.declared.value.Held.{Held}
use Rattle.sample_store.specs.Samples.{EndsWith, IsRising, Samples, later_than}
use Rattle.promql_meaning.specs.Selecting.{between, fresh_sample, lookback, newest}
use Rattle.plain_eval.specs.Numbered.{until}
use Rattle.plain_eval.proofs.Newest.{later_less, le_not, none_until, rising_tail}

-- those up to a time, and those that are later
parts : (m : Ms) (samples : Samples) → IsRising samples → until m.0 samples ++ later_than m samples ≡ samples
parts m [] rising = refl
parts m (s ∷ samples) rising =
    let rest = parts m samples (rising_tail s samples rising) in
    elim (int_lt m.0 s.0.0) as (λ b. int_lt m.0 s.0.0 ≡ b → (if not b then s ∷ until m.0 samples else until m.0 samples) ++ (if b then s ∷ later_than m samples else later_than m samples) ≡ s ∷ samples) [
      | true ↦ λ h.
          let none = none_until m.0 s samples rising h in
          ap (λ ss. ss ++ s ∷ later_than m samples) none ∙ ap (λ ss. s ∷ ss) (ap (λ ss. ss ++ later_than m samples) (sym none) ∙ rest)
      | false ↦ λ h. ap (λ ss. s ∷ ss) rest
    ] refl

-- a range is what lies behind its edge among the samples up to its moment
between_until : (closed : Bool) (edge m : ℤ) (samples : Samples) → between closed edge m samples ≡ filter (λ (s : Ms × Held). int_lt (before closed edge) s.0.0) (until m samples)
between_until closed edge m [] = refl
between_until closed edge m (s ∷ samples) =
    let B = between closed edge m samples in
    let F = filter (λ (t : Ms × Held). int_lt (before closed edge) t.0.0) (until m samples) in
    let on = int_lt (before closed edge) s.0.0 in
    let rest : B ≡ F = between_until closed edge m samples in
    let late : (if on && false then s ∷ B else B) ≡ F = elim on as (λ q. (if q && false then s ∷ B else B) ≡ F) [ true ↦ rest | false ↦ rest ] in
    let soon : (if on && true then s ∷ B else B) ≡ (if on then s ∷ F else F) =
    elim on as (λ q. (if q && true then s ∷ B else B) ≡ (if q then s ∷ F else F)) [ true ↦ ap (λ ss. s ∷ ss) rest | false ↦ rest ] in
    ap (λ q. if q && int_le s.0.0 m then s ∷ B else B) (is_from-later closed edge s.0.0)
    ∙ ap (λ c. if on && c then s ∷ B else B) (le_not s.0.0 m)
    ∙ elim (int_lt m s.0.0) as (λ b. (if on && not b then s ∷ B else B) ≡ filter (λ (t : Ms × Held). int_lt (before closed edge) t.0.0) (if not b then s ∷ until m samples else until m samples))
    [ true ↦ late | false ↦ soon ]

-- what comes behind a sample that is later than an edge is later too
passes : (edge : ℤ) (f : Ms × Held) (front : Samples) (x : Ms × Held) (rest : Samples) → IsRising (f ∷ (front ++ x ∷ rest)) → int_lt edge f.0.0 ≡ true → int_lt edge x.0.0 ≡ true
unfolding IsStrictlySortedBy
passes edge f [] x rest rising h = later_less f.0.0 x.0.0 rising.0.0 edge h
passes edge f (g ∷ front) x rest rising h = passes edge g front x rest rising.1 (later_less f.0.0 g.0.0 rising.0.0 edge h)

-- the last of those behind an edge is the last one, where it lies behind it
last_behind_edge : (edge : ℤ) (front : Samples) (x : Ms × Held) (rest : Samples) (d : Option (Ms × Held)) → IsRising (front ++ x ∷ rest)
    → last_or d (filter (λ (s : Ms × Held). int_lt edge s.0.0) (front ++ x ∷ [])) ≡ (if int_lt edge x.0.0 then Some x else d)
last_behind_edge edge [] x rest d rising =
    elim (int_lt edge x.0.0) as (λ b. last_or d (if b then x ∷ [] else []) ≡ (if b then Some x else d)) [ true ↦ refl | false ↦ refl ]
last_behind_edge edge (f ∷ front) x rest d rising =
    let F = filter (λ (s : Ms × Held). int_lt edge s.0.0) (front ++ x ∷ []) in
    let tail : IsRising (front ++ x ∷ rest) = rising_tail f (front ++ x ∷ rest) rising in
    elim (int_lt edge f.0.0) as (λ b. int_lt edge f.0.0 ≡ b → last_or d (if b then f ∷ F else F) ≡ (if int_lt edge x.0.0 then Some x else d)) [
      | true ↦ λ h.
          let on : int_lt edge x.0.0 ≡ true = passes edge f front x rest rising h in
          last_behind_edge edge front x rest (Some f) tail ∙ ap (λ b. if b then Some x else Some f) on ∙ sym (ap (λ b. if b then Some x else d) on)
      | false ↦ λ h. last_behind_edge edge front x rest d tail
    ] refl

-- what a cursor stands behind is what is up to its time
before_is : (m : Ms) (samples before rest : Samples) → IsRising samples → before ++ rest ≡ samples → rest ≡ later_than m samples → before ≡ until m.0 samples
before_is m samples before rest rising whole later =
    append_cancel_right before (until m.0 samples) rest (whole ∙ sym (parts m samples rising) ∙ ap (λ ss. until m.0 samples ++ ss) (sym later))

module _ (closed : Bool) (m : Ms) (samples before_it rest : Samples) (rising : IsRising samples) (whole : before_it ++ rest ≡ samples) (later : rest ≡ later_than m samples) where
  abbrev edge : ℤ
  edge = before closed (m.0 -ℤ lookback)

  pub latest_none : before_it ≡ [] → newest closed m.0 samples ≡ None
  latest_none none =
      let up : until m.0 samples ≡ [] = sym (before_is m samples before_it rest rising whole later) ∙ none in
      ap (λ ss. option_and_then fresh_sample (last_or None ss)) (between_until closed (m.0 -ℤ lookback) m.0 samples ∙ ap (filter (λ (s : Ms × Held). int_lt edge s.0.0)) up)

  pub latest_one : (x : Ms × Held) → EndsWith before_it x → newest closed m.0 samples ≡ option_and_then fresh_sample (if int_lt edge x.0.0 then Some x else None)
  latest_one x ends =
      let up : until m.0 samples ≡ ends.0 ++ x ∷ [] = sym (before_is m samples before_it rest rising whole later) ∙ ends.1 in
      let all : samples ≡ ends.0 ++ x ∷ rest = sym whole ∙ ap (λ ss. ss ++ rest) ends.1 ∙ append_assoc ends.0 (x ∷ []) rest in
      ap (λ ss. option_and_then fresh_sample (last_or None ss)) (between_until closed (m.0 -ℤ lookback) m.0 samples ∙ ap (filter (λ (s : Ms × Held). int_lt edge s.0.0)) up)
      ∙ ap (option_and_then fresh_sample) (last_behind_edge edge ends.0 x rest None (subst IsRising all rising))
