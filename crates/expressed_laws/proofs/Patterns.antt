-- The patterns of a plan at the places of its label_replace nodes.
use Rattle.std.proofs.Common.{◌≡◌, ◌∙◌, ℕ, zero, suc, List, [], ◌∷◌, ap, sym, refl, Some, Bool, true, false, arith}
use Rattle.std.proofs.lemmas.Bool.{eqb-true, eq-eqb, false≢true}
use Rattle.std.specs.Prelude.{◌==◌, if◌then◌else◌, Contains}
use Rattle.std.specs.List.{AllByRecursion}
use Rattle.label_set.specs.declared.rules.PatternId.{PatternId}
use Rattle.promql_type.specs.TypedTrees.{pattern_at}
use Rattle.promql_type.specs.declared.replace.Placed.{Placed}
use Rattle.logical_plan.specs.Lowering.{pattern_or}
use Rattle.logical_plan.specs.Validity.{HasOnePattern}

-- the pattern of a label_replace node is the one that is found at its place
abbrev pub IsFound : List Placed → ℕ × PatternId → Type 0
IsFound placed r = r.1 ≡ pattern_or (pattern_at placed r.0)

abbrev pub placed_from : List (ℕ × PatternId) → List Placed
placed_from [] = []
placed_from (r ∷ rs) = record { at = r.0; id = r.1 } ∷ placed_from rs

before : {A : Type 0} (x y : A) (xs : List A) → Contains xs y → Contains (x ∷ xs) y
before x y xs c = (suc c.0, omega (arith, c.1), c.2)

-- the first pattern at the place of a node is its own, where nodes of one place have one pattern
found_first : (rs : List (ℕ × PatternId)) (r : ℕ × PatternId) → Contains rs r → ((s : ℕ × PatternId) → Contains rs s → s.0 ≡ r.0 → s.1 ≡ r.1)
    → pattern_or (pattern_at (placed_from rs) r.0) ≡ r.1
found_first [] r c alike = absurd (omega (arith, c.1))
found_first (s ∷ rs) r c alike = by (s.0 == r.0) refl (λ d. found_first rs r d (λ x e. alike x (before s x rs e)))
  where
    IsLater : Type 0
    IsLater = Contains rs r → pattern_or (pattern_at (placed_from rs) r.0) ≡ r.1

    later : (c : Contains (s ∷ rs) r) → (s.0 == r.0) ≡ false → IsLater → pattern_or (pattern_at (placed_from rs) r.0) ≡ r.1
    later (zero, lt, same) off rest = absurd (false≢true (sym off ∙ eq-eqb s.0 r.0 (ap (λ (x : ℕ × PatternId). x.0) same)))
    later (suc k, lt, same) off rest = rest (k, omega (arith, lt), same)

    by : (b : Bool) → (s.0 == r.0) ≡ b → IsLater → pattern_or (if b then Some s.1 else pattern_at (placed_from rs) r.0) ≡ r.1
    by true on rest = alike s (zero, omega arith, refl) (eqb-true s.0 r.0 on)
    by false off rest = later c off rest

pub each : {A : Type 0} (P : A → Type 0) (xs : List A) → ((x : A) → Contains xs x → P x) → AllByRecursion P xs
each P [] holds = tt
each P (x ∷ xs) holds = (holds x (zero, omega arith, refl), each P xs (λ y c. holds y (before x y xs c)))

pub patterns_found : (replaced : List (ℕ × PatternId)) → HasOnePattern replaced → AllByRecursion (IsFound (placed_from replaced)) replaced
patterns_found replaced one =
    each (IsFound (placed_from replaced)) replaced (λ r c. sym (found_first replaced r c (λ s d same. one s r d c same)))
