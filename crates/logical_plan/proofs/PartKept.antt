-- The text of a pattern that is kept for whole values is kept as one.
use Rattle.std.proofs.Common.{◌≡◌, ◌∙◌, ◌<◌, ℕ, zero, suc, ◌+◌, cond, not, List, [], ◌∷◌, ◌++◌, length, ap, ap₂, sym, refl, subst, Some, None, Bool, true, false, arith}
use Rattle.std.proofs.lemmas.Bool.{false≢true, ltb-true}
use Rattle.std.proofs.lemmas.Slice.Eq.{bytes_eq-Decides}
use Rattle.std.specs.Prelude.{nat_lt, Option, slice_get, Contains}
use Rattle.std.specs.List.{AllByRecursion}
use Rattle.std.specs.Option.{option_map}
use Rattle.label_set.specs.declared.rules.PatternId.{PatternId}
use Rattle.match_rule.specs.Patterns.{is_kept, is_pattern, number_of}
use Rattle.promql_ast.specs.declared.refusal.QueryRefusal.{QueryRefusal}
use Rattle.promql_ast.specs.declared.refusal.QueryRefusal.TheVariants as refusal
use Rattle.promql_ast.specs.declared.tree.Expr.{Expr}
use Rattle.promql_type.specs.Answers.{IsLeastRefusal, listed, refusals_of}
use Rattle.promql_type.specs.Judging.{judged}
use Rattle.promql_type.specs.Refusals.{least}
use Rattle.promql_type.specs.Replacements.{AreBuilt, HasCause, IsFirstRefused, Kept, kept_with}
use Rattle.promql_type.specs.TypedTrees.{pattern_at}
use Rattle.promql_type.specs.declared.replace.Placed.{Placed}
use Rattle.promql_type.specs.declared.replace.Replacement.{Replacement}
use Rattle.logical_plan.specs.Lowering.{pattern_or}
use Rattle.logical_plan.specs.PartExprs.{IsKeptWhole}
use Rattle.logical_plan.specs.PlanRules.{pattern_text, text_or_empty}
use Rattle.logical_plan.specs.Validity.{HasOnePattern}
use Rattle.logical_plan.proofs.Fronts.{front}
use Rattle.logical_plan.proofs.Limits.{IsFound}
use Rattle.std.proofs.lemmas.Bool.{eqb-true, eq-eqb}
use Rattle.std.specs.Prelude.{◌==◌, if◌then◌else◌}

-- ---- patterns that are kept

abbrev Pattern : Type 0
Pattern = Bool × List ℕ

less_test : (m n : ℕ) → m < n → nat_lt m n ≡ true
less_test m n less = grind (arith, less)

same_pattern : (p : Pattern) → is_pattern p p ≡ true
same_pattern (true, text) = (bytes_eq-Decides text text).1 refl
same_pattern (false, text) = (bytes_eq-Decides text text).1 refl

abbrev value_or : Option Pattern → Pattern → Pattern
value_or None other = other
value_or (Some p) other = p

kept_step : (b : Bool) (n l : ℕ) → (b ≡ false → nat_lt n l ≡ true) → nat_lt (cond (not b) (1 + n) 0) (suc l) ≡ true
kept_step true n l later = less_test 0 (suc l) (omega arith)
kept_step false n l later = let less : n < l = ltb-true n l (later refl) in less_test (1 + n) (suc l) (omega (arith, less))

-- a pattern that stands under a number is kept
stands : (q : Pattern) (ps : Kept) (k : ℕ) → slice_get ps k ≡ Some q → is_kept q ps ≡ true
stands q [] k there = absurd (cc)
stands q (p ∷ ps) zero there =
    let same : is_pattern q p ≡ true = ap (λ o. is_pattern q (value_or o q)) there ∙ same_pattern q in
    kept_step (is_pattern q p) (number_of q ps) (length ps) (λ off. absurd (false≢true (sym off ∙ same)))
stands q (p ∷ ps) (suc k) there = kept_step (is_pattern q p) (number_of q ps) (length ps) (λ off. stands q ps k there)

whole_text : (kept : Kept) (o : Option Pattern) (k : ℕ) → slice_get kept k ≡ o → option_map (λ p. p.0) o ≡ Some true → is_kept (true, text_or_empty o) kept ≡ true
whole_text kept None k there whole = absurd (cc)
whole_text kept (Some p) k there whole =
    let flag : p.0 ≡ true = ap (λ (o : Option Bool). flag_or o) whole in
    subst (λ b. is_kept (b, p.1) kept ≡ true) flag (stands (p.0, p.1) kept k there)
  where
    flag_or : Option Bool → Bool
    flag_or None = false
    flag_or (Some b) = b

pub kept_text : (kept : Kept) (replaced : ℕ × PatternId) → IsKeptWhole kept replaced → is_kept (true, pattern_text kept replaced.1) kept ≡ true
kept_text kept replaced whole = whole_text kept (slice_get kept replaced.1.0) replaced.1.0 refl whole

-- ---- no refusal of a tree whose patterns are kept

module _ (kept : Kept) where
  abbrev pub IsText : Replacement → Type 0
  IsText r = is_kept (true, r.text) kept ≡ true

  kept_once : (b : Bool) (p : Pattern) → b ≡ true → (if b then kept else kept ++ p ∷ []) ≡ kept
  kept_once true p is = refl
  kept_once false p is = absurd (false≢true is)

  nothing_gained : (rs : List Replacement) → AllByRecursion IsText rs → kept_with kept rs ≡ kept
  nothing_gained [] all = refl
  nothing_gained (r ∷ rs) all = ap (λ (ks : Kept). kept_with ks rs) (kept_once (is_kept (true, r.text) kept) (true, r.text) all.0) ∙ nothing_gained rs all.1

  first_behind : (front : List Replacement) (r : Replacement) (rest : List Replacement) → AllByRecursion IsText (front ++ r ∷ rest) → IsText r
  first_behind [] r rest all = all.0
  first_behind (s ∷ front) r rest all = first_behind front r rest all.1

  no_cause : (r : Replacement) (x : QueryRefusal) → IsText r → HasCause kept r x → ⊥
  no_cause r (refusal.BadPattern at) text cause = absurd (false≢true (sym cause.2 ∙ text))
  no_cause r (refusal.TooManyPatterns at) text cause = absurd (false≢true (sym cause.2 ∙ text))
  no_cause r (refusal.TooLong at) text cause = absurd cause
  no_cause r (refusal.BadToken at) text cause = absurd cause
  no_cause r (refusal.Unterminated at) text cause = absurd cause
  no_cause r (refusal.BadEscape at) text cause = absurd cause
  no_cause r (refusal.BadNumber at) text cause = absurd cause
  no_cause r (refusal.NumberRange at) text cause = absurd cause
  no_cause r (refusal.LeadingZero at) text cause = absurd cause
  no_cause r (refusal.BadDuration at) text cause = absurd cause
  no_cause r (refusal.DurationRange at) text cause = absurd cause
  no_cause r (refusal.Expected at) text cause = absurd cause
  no_cause r (refusal.TooDeep at) text cause = absurd cause
  no_cause r (refusal.EmptySelector at) text cause = absurd cause
  no_cause r (refusal.LabelTwice at) text cause = absurd cause
  no_cause r (refusal.NameTwice at) text cause = absurd cause
  no_cause r (refusal.BadTemplate at) text cause = absurd cause
  no_cause r (refusal.BadLabelName at) text cause = absurd cause
  no_cause r (refusal.WrongType at) text cause = absurd cause
  no_cause r (refusal.WrongArity at) text cause = absurd cause
  no_cause r (refusal.NeedsBool at) text cause = absurd cause
  no_cause r (refusal.SetOnScalar at) text cause = absurd cause
  no_cause r (refusal.RangeResult at) text cause = absurd cause
  no_cause r (refusal.StringResult at) text cause = absurd cause
  no_cause r (refusal.TooManyPoints at) text cause = absurd cause
  no_cause r (refusal.UnknownFunction at name) text cause = absurd cause
  no_cause r (refusal.RefusedFunction at name) text cause = absurd cause

  first_kept : (rs : List Replacement) (after : Kept) (x : QueryRefusal) → AllByRecursion IsText rs → IsFirstRefused kept rs after x → ⊥
  first_kept rs after x all refused =
      let whole = subst (AllByRecursion IsText) refused.split all in
      let same : after ≡ kept = refused.taken.kept ∙ nothing_gained refused.front (front IsText refused.front (refused.string ∷ refused.behind) whole) in
      no_cause refused.string x (first_behind refused.front refused.string refused.behind whole) (subst (λ (ks : Kept). HasCause ks refused.string x) same refused.cause)

  no_built : (rs : List Replacement) (after : Kept) (o : Option QueryRefusal) → AllByRecursion IsText rs → AreBuilt kept rs after o → o ≡ None
  no_built rs after None all built = refl
  no_built rs after (Some x) all built = absurd (first_kept rs after x all built)

  pub never_refused : (e : Expr) → refusals_of e ≡ [] → AllByRecursion IsText (judged e).replacements → (after : Kept) (x : QueryRefusal) → IsLeastRefusal e kept after x → ⊥
  never_refused e none all after x refused =
      let nothing : refused.pattern ≡ None = no_built (judged e).replacements after refused.pattern all refused.built in
      none_is_some x (ap₂ (λ rs o. least (rs ++ listed o)) (sym none) (sym nothing) ∙ refused.least_is)
    where
      none_is_some : (x : QueryRefusal) → None ≡ Some x → ⊥
      none_is_some x is = absurd (cc)

-- ---- patterns at the places of plans

abbrev pub placed_from : List (ℕ × PatternId) → List Placed
placed_from [] = []
placed_from (r ∷ rs) = record { at = r.0; id = r.1 } ∷ placed_from rs

before : {A : Type 0} (x y : A) (xs : List A) → Contains xs y → Contains (x ∷ xs) y
before x y xs c = (suc c.0, omega (arith, c.1), c.2)

-- the first pattern at the place of a node is its own, where nodes of one place have one pattern
found_first : (rs : List (ℕ × PatternId)) (r : ℕ × PatternId) → Contains rs r → ((s : ℕ × PatternId) → Contains rs s → s.0 ≡ r.0 → s.1 ≡ r.1)
    → pattern_or (pattern_at (placed_from rs) r.0) ≡ r.1
found_first [] r c alike = absurd (omega (arith, c.1))
found_first (s ∷ rs) r c alike = by (s.0 == r.0) refl (λ d. found_first rs r d (λ x e. alike x (before s x rs e)))
  where
    IsLater : Type 0
    IsLater = Contains rs r → pattern_or (pattern_at (placed_from rs) r.0) ≡ r.1

    later : (c : Contains (s ∷ rs) r) → (s.0 == r.0) ≡ false → IsLater → pattern_or (pattern_at (placed_from rs) r.0) ≡ r.1
    later (zero, lt, same) off rest = absurd (false≢true (sym off ∙ eq-eqb s.0 r.0 (ap (λ (x : ℕ × PatternId). x.0) same)))
    later (suc k, lt, same) off rest = rest (k, omega (arith, lt), same)

    by : (b : Bool) → (s.0 == r.0) ≡ b → IsLater → pattern_or (if b then Some s.1 else pattern_at (placed_from rs) r.0) ≡ r.1
    by true on rest = alike s (zero, omega arith, refl) (eqb-true s.0 r.0 on)
    by false off rest = later c off rest

each : {A : Type 0} (P : A → Type 0) (xs : List A) → ((x : A) → Contains xs x → P x) → AllByRecursion P xs
each P [] holds = tt
each P (x ∷ xs) holds = (holds x (zero, omega arith, refl), each P xs (λ y c. holds y (before x y xs c)))

pub patterns_found : (replaced : List (ℕ × PatternId)) → HasOnePattern replaced → AllByRecursion (IsFound (placed_from replaced)) replaced
patterns_found replaced one =
    each (IsFound (placed_from replaced)) replaced (λ r c. sym (found_first replaced r c (λ s d same. one s r d c same)))
