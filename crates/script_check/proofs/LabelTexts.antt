-- The texts of labels, piece by piece.
use Rattle.std.proofs.Common.{rules, cond, unwrap_or, Option, None, Some, ◌≡◌, ◌≢◌, ◌+◌, ◌==◌, ℕ, Bool, true, false, List, [], ◌∷◌, ◌++◌, slice_get, drop, map, refl, sym, ap, ◌∙◌, if◌then◌else◌, length}
use Rattle.std.specs.List.{AllByRecursion}
use Rattle.std.specs.Map.{lookup}
use Rattle.std.proofs.lemmas.List.{drop_more}
use Rattle.std.proofs.lemmas.Option.{get_or_from_slice_get, slice_get_within}
use Rattle.label_set.specs.Labels.{is_named, metric_name, without}
use Rattle.label_set.specs.LabelText.{comma_list, label_text}

abbrev pub parts : List (List ℕ × List ℕ) → List (List ℕ)
parts ps = map label_text (without (metric_name ∷ []) ps)

module _ (started : Bool) (ps : List (List ℕ × List ℕ)) (i : ℕ) (x : List ℕ × List ℕ) (at : slice_get ps i ≡ Some x) where
  more : comma_list started (parts (drop i ps)) ≡ comma_list started (parts (x ∷ drop (i + 1) ps))
  more = ap (λ qs. comma_list started (parts qs)) (drop_more ps i x (slice_get_within ps i x at) ∙ ap (λ y. y ∷ drop (i + 1) ps) (get_or_from_slice_get ps i x x at))

  pub skips : is_named (metric_name ∷ []) x.0 ≡ true → comma_list started (parts (drop i ps)) ≡ comma_list started (parts (drop (i + 1) ps))
  skips e = more ∙ rw e refl

  pub prints : is_named (metric_name ∷ []) x.0 ≡ false → comma_list started (parts (drop i ps)) ≡ ((if started then 44 ∷ [] else []) ++ label_text x) ++ comma_list true (parts (drop (i + 1) ps))
  prints e = more ∙ rw e refl

-- ---- no parts

pub nil_of_empty : (text : List ℕ) → (length text == 0) ≡ true → text ≡ []
nil_of_empty [] e = refl
nil_of_empty (b ∷ text) e = search (rules, e)

pub nothing_of : (qs : List (List ℕ × List ℕ)) (rest : List ℕ) → [] ≡ comma_list false (map label_text qs) ++ rest → map label_text qs ≡ []
nothing_of [] rest e = refl
nothing_of (([], value) ∷ qs) rest e = search (rules, e)
nothing_of ((b ∷ name, value) ∷ qs) rest e = search (rules, e)

-- ---- the metric's name

module _ (test : List ℕ → Bool) where
  pub none_at_none : (ps : List (List ℕ × List ℕ)) → length ps ≡ 0 → lookup test ps ≡ None
  none_at_none [] e = refl
  none_at_none (p ∷ ps) e = search (rules, e)

  pub none_where_empty : (ps : List (List ℕ × List ℕ)) → AllByRecursion (λ p. p.1 ≢ []) ps → unwrap_or (lookup test ps) [] ≡ [] → lookup test ps ≡ None
  none_where_empty [] filled e = refl
  none_where_empty (p ∷ ps) filled e = (elim (test p.0) as (λ b. unwrap_or (cond b (Some p.1) (lookup test ps)) [] ≡ [] → cond b (Some p.1) (lookup test ps) ≡ None) [
    | true ↦ (λ none. absurd (filled.0 none))
    | false ↦ (λ none. none_where_empty ps filled.1 none)
  ]) e

pub some_where_filled : (o : Option (List ℕ)) (value : List ℕ) → value ≡ unwrap_or o [] → value ≢ [] → o ≡ Some value
some_where_filled None value e filled = absurd (filled e)
some_where_filled (Some held) value e filled = ap Some (sym e)
