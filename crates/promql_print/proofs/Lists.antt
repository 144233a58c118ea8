-- One more part of a printed list, and the text that stands under a number.
use Rattle.std.proofs.Common.{None, Some, ◌≡◌, ◌+◌, ℕ, Bool, true, List, ◌∷◌, ◌++◌, slice_get, drop, map, ap, sym, ◌∙◌, append_assoc, Option}
use Rattle.std.specs.Prelude.{option_map}
use Rattle.std.proofs.lemmas.List.{drop_more}
use Rattle.std.proofs.lemmas.Option.{get_or_from_slice_get, slice_get_within}
use Rattle.label_set.specs.declared.rules.PatternId.{PatternId}
use Rattle.promql_print.specs.Labels.{comma, parted, pattern_text, text_or_empty}

-- the text that stands under a number
text_found : (found : Option (Bool × List ℕ)) (text : List ℕ) → option_map (λ (p : Bool × List ℕ). p.1) found ≡ Some text → text ≡ text_or_empty found
text_found (Some p) text e = cc
text_found None text e = absurd (cc)

pub text_is : (kept : List (Bool × List ℕ)) (id : PatternId) (text : List ℕ) → option_map (λ (p : Bool × List ℕ). p.1) (slice_get kept id.0) ≡ Some text → text ≡ pattern_text kept id
text_is kept id text e = text_found (slice_get kept id.0) text e

-- one part more of a list that is printed from a place on
module _ {A : Type 0} (text : A → List ℕ) (xs : List A) (i : ℕ) (x : A) (at : slice_get xs i ≡ Some x) where
  rest_is : drop i xs ≡ x ∷ drop (i + 1) xs
  rest_is = drop_more xs i x (slice_get_within xs i x at) ∙ ap (λ y. y ∷ drop (i + 1) xs) (get_or_from_slice_get xs i x x at)

  one_more : (started : Bool) → parted started (map text (drop i xs)) ≡ comma started ++ (text x ++ parted true (map text (drop (i + 1) xs)))
  one_more started = ap (λ ys. parted started (map text ys)) rest_is

  pub prints : (out : List ℕ) (started : Bool) → ((out ++ comma started) ++ text x) ++ parted true (map text (drop (i + 1) xs)) ≡ out ++ parted started (map text (drop i xs))
  prints out started =
      append_assoc (out ++ comma started) (text x) (parted true (map text (drop (i + 1) xs)))
      ∙ append_assoc out (comma started) (text x ++ parted true (map text (drop (i + 1) xs)))
      ∙ ap (λ ys. out ++ ys) (sym (one_more started))
