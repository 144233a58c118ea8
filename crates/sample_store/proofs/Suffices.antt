-- The series that pass are those of one list that pass.
use Rattle.std.proofs.Common.{◌≡◌, ◌∙◌, ℕ, zero, suc, ◌+◌, List, [], ◌∷◌, Some, slice_get, ap, ap₂, sym, refl, subst, arith, Bool, true, false}
use Rattle.std.specs.Prelude.{if◌then◌else◌}
use Rattle.std.specs.List.{list_all}
use Rattle.label_set.specs.Labels.{value_of}
use Rattle.label_set.specs.declared.rules.Rule.{Rule}
use Rattle.label_set.specs.declared.rules.RuleKind.TheVariants.{Eq}
use Rattle.match_rule.specs.Patterns.{kind_passes, labels_pass}
use Rattle.sample_store.proofs.Places.{left_true, right_true}
use Rattle.sample_store.specs.Samples.{AllSeries, IsListed, Names, Pair, has_pair, labels_at, numbers_with, passing, passing_at}

all_at : (p : Rule → Bool) (rules : List Rule) (i : ℕ) (rule : Rule) → slice_get rules i ≡ Some rule → list_all p rules ≡ true → p rule ≡ true
all_at p [] i rule h e = absurd (cc)
all_at p (x ∷ xs) zero rule h e = let f : x ≡ rule = cc in subst (λ z. p z ≡ true) f (left_true (p x) (list_all p xs) e)
all_at p (x ∷ xs) (suc i) rule h e = all_at p xs i rule h (right_true (p x) (list_all p xs) e)

module _ (kept : List (Bool × List ℕ)) (rules : List Rule) (label text : List ℕ) (place : ℕ) (asks : slice_get rules place ≡ Some (record { label = label; kind = Eq text })) where
  abbrev pair : Pair
  pair = (label, text)

  must_have : (names : Names) → labels_pass kept rules names ≡ true → has_pair pair names ≡ true
  must_have names passes =
      all_at (λ (rule : Rule). kind_passes kept rule.kind (value_of names rule.label)) rules place (record { label = label; kind = Eq text }) asks passes

  abbrev kept_if : ℕ → Names → List (Names × ℕ) → List (Names × ℕ)
  kept_if n names more = if labels_pass kept rules names then (names, n) ∷ more else more

  from : (all : AllSeries) (n : ℕ) (series : AllSeries) → ((k : ℕ) → labels_at all (n + k) ≡ labels_at series k)
      → passing kept rules n series ≡ passing_at kept rules all (numbers_with pair n series)
  from all n [] at = refl
  from all n (s ∷ series) at =
      by (has_pair pair s.0) (labels_pass kept rules s.0) refl refl
      (from all (n + 1) series (λ k. let e : n + 1 + k ≡ n + suc k = omega arith in ap (labels_at all) e ∙ at (suc k)))
    where
      here : labels_at all n ≡ s.0
      here = let e : n ≡ n + 0 = omega arith in ap (labels_at all) e ∙ at 0

      by : (h p : Bool) → has_pair pair s.0 ≡ h → labels_pass kept rules s.0 ≡ p
          → passing kept rules (n + 1) series ≡ passing_at kept rules all (numbers_with pair (n + 1) series)
          → passing kept rules n (s ∷ series) ≡ passing_at kept rules all (numbers_with pair n (s ∷ series))
      by true p has passes rest = rw has (ap₂ (kept_if n) (sym here) rest)
      by false false has passes rest = rw has (rw passes rest)
      by false true has passes rest = let t = must_have s.0 passes in absurd (cc)

-- the series that pass are those of a pair that pass, where the rules ask for it
pub suffices : (kept : List (Bool × List ℕ)) (rules : List Rule) (series : AllSeries) (place : ℕ) (numbers : List ℕ) → IsListed rules series place numbers
    → passing kept rules 0 series ≡ passing_at kept rules series numbers
suffices kept rules series place numbers l =
    from kept rules l.label l.text place l.asks series 0 series (λ k. let e : 0 + k ≡ k = omega arith in ap (labels_at series) e)
    ∙ ap (passing_at kept rules series) (sym l.exact)
