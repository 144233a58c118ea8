-- The patterns that checking a tree keeps are found at the places of its label_replace calls.
use Rattle.std.proofs.Common.{◌≡◌, ◌∙◌, zero, suc, List, [], ◌∷◌, map, ap, sym, refl, subst, Bool, true, false, arith}
use Rattle.std.proofs.lemmas.Bool.{eqb-true, eq-eqb, true≢false}
use Rattle.std.specs.Prelude.{◌==◌, if◌then◌else◌, Some, Contains}
use Rattle.std.specs.List.{AllByRecursion}
use Rattle.promql_type.specs.Fits.{TypedTreesFit}
use Rattle.promql_type.specs.Judging.{judged}
use Rattle.promql_type.specs.Replacements.{AreKept, Kept}
use Rattle.promql_type.specs.TypedTrees.{pattern_at}
use Rattle.promql_type.specs.declared.replace.Placed.{Placed}
use Rattle.promql_type.specs.declared.replace.Replacement.{Replacement}
use Rattle.logical_plan.specs.Lowering.{HasItsPlace, Replacing, pattern_or}
use Rattle.logical_plan.specs.Placements.{KeptPatternsArePlaced}
use Rattle.logical_plan.specs.PlanRules.{pattern_text, text_or_empty}
use Rattle.logical_plan.proofs.Typings.{lowered_calls, replacing}

behind : {A : Type 0} (x y : A) (xs : List A) → Contains xs y → Contains (x ∷ xs) y
behind x y xs c = (suc c.0, omega (arith, c.1), c.2)

all_by : {A : Type 0} (P : A → Type 0) (xs : List A) → ((x : A) → Contains xs x → P x) → AllByRecursion P xs
all_by P [] holds = tt
all_by P (x ∷ xs) holds = (holds x (zero, omega arith, refl), all_by P xs (λ y c. holds y (behind x y xs c)))

-- the first pattern at the place of one of several calls has its text, where the calls at that place have one text
found : (kept : Kept) (rs : List Replacement) (ps : List Placed) (r : Replacement) → AreKept kept rs ps → Contains rs r
    → ((s : Replacement) → Contains rs s → s.at ≡ r.at → s.text ≡ r.text) → pattern_text kept (pattern_or (pattern_at ps r.at)) ≡ r.text
found kept [] [] r are c alike = absurd (omega (arith, c.1))
found kept [] (p ∷ ps) r are c alike = absurd are
found kept (s ∷ rs) [] r are c alike = absurd are
found kept (s ∷ rs) (p ∷ ps) r are c alike = by (p.at == r.at) refl (λ d. found kept rs ps r are.2 d (λ x d. alike x (behind s x rs d)))
  where
    IsLater : Type 0
    IsLater = Contains rs r → pattern_text kept (pattern_or (pattern_at ps r.at)) ≡ r.text

    later : (c : Contains (s ∷ rs) r) → (p.at == r.at) ≡ false → IsLater → pattern_text kept (pattern_or (pattern_at ps r.at)) ≡ r.text
    later (zero, lt, same) off rest = absurd (true≢false (sym (eq-eqb p.at r.at (are.0 ∙ ap (λ (x : Replacement). x.at) same)) ∙ off))
    later (suc k, lt, same) off rest = rest (k, omega (arith, lt), same)

    by : (b : Bool) → (p.at == r.at) ≡ b → IsLater → pattern_text kept (pattern_or (if b then Some p.id else pattern_at ps r.at)) ≡ r.text
    by true on rest = ap text_or_empty are.1 ∙ alike s (zero, omega arith, refl) (sym are.0 ∙ eqb-true p.at r.at on)
    by false off rest = later c off rest

all_replacing : (P : Replacing → Type 0) (rs : List Replacement) → AllByRecursion (λ r. P (replacing r)) rs → AllByRecursion P (map replacing rs)
all_replacing P [] all = tt
all_replacing P (r ∷ rs) all = (all.0, all_replacing P rs all.1)

pub kept_are_placed : TypedTreesFit → KeptPatternsArePlaced
kept_are_placed fit kept placed e none are apart =
    subst (AllByRecursion (HasItsPlace kept placed)) (sym (lowered_calls fit placed e none))
    (all_replacing (HasItsPlace kept placed) (judged e).replacements
    (all_by (λ r. HasItsPlace kept placed (replacing r)) (judged e).replacements
    (λ r c. found kept (judged e).replacements placed r are c (λ s d same. apart s r d c same))))
