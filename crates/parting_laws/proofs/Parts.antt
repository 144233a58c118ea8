-- Items that are parted by their labels: each is in exactly one part.
use Rattle.std.proofs.Common.{◌≡◌, ◌∙◌, Bool, true, false, cond, List, [], ◌∷◌, ◌++◌, length, refl, sym, ap, subst, arith}
use Rattle.std.specs.Prelude.{◌||◌, filter}
use Rattle.std.specs.List.{AllByRecursion, list_any}
use Rattle.std.proofs.lemmas.List.Folds.{list_any-append}
use Rattle.step_table.specs.Groups.{Names}
use Rattle.step_table.specs.Shuffles.{Shuffled, none, kept, joined}
use Rattle.step_table.specs.Shuffling.{any_shuffled, front_kept, itself, to_back}

module _ {P : Type 0} (test : P → Names → Bool) where
  -- labels are those of exactly one part
  abbrev pub IsOfOne : List P → Names → Type 0
  IsOfOne ps names = length (filter (λ (p : P). test p names) ps) ≡ 1

  -- labels that every part takes for others are of one part where those are
  tested_alike : (ps : List P) (m n : Names) → AllByRecursion (λ (p : P). test p m ≡ test p n) ps → filter (λ (p : P). test p m) ps ≡ filter (λ (p : P). test p n) ps
  tested_alike [] m n a = refl
  tested_alike (p ∷ ps) m n a = λ i. cond (a.0 i) (p ∷ tested_alike ps m n a.1 i) (tested_alike ps m n a.1 i)

  pub of_one_alike : (ps : List P) (m n : Names) → AllByRecursion (λ (p : P). test p m ≡ test p n) ps → IsOfOne ps n → IsOfOne ps m
  of_one_alike ps m n a e = ap length (tested_alike ps m n a) ∙ e

  module _ {X : Type 0} (labels : X → Names) where
    -- the items of a part, and those of all parts, one part behind the other
    abbrev pub in_part : P → List X → List X
    in_part p xs = filter (λ (x : X). test p (labels x)) xs

    abbrev pub of_parts : List P → List X → List X
    of_parts [] xs = []
    of_parts (p ∷ ps) xs = in_part p xs ++ of_parts ps xs

    in_none : (ps : List P) (x : X) (xs : List X) → length (filter (λ (p : P). test p (labels x)) ps) ≡ 0 → of_parts ps (x ∷ xs) ≡ of_parts ps xs
    in_none [] x xs e = refl
    in_none (p ∷ ps) x xs e =
        elim (test p (labels x)) as (λ b. length (cond b (p ∷ filter (λ (q : P). test q (labels x)) ps) (filter (λ (q : P). test q (labels x)) ps)) ≡ 0 → cond b (x ∷ in_part p xs) (in_part p xs) ++ of_parts ps (x ∷ xs) ≡ in_part p xs ++ of_parts ps xs) [
          | true ↦ λ h. absurd (omega arith)
          | false ↦ λ h. ap (λ r. in_part p xs ++ r) (in_none ps x xs h)
        ] e

    with_one : (ps : List P) (x : X) (xs : List X) → IsOfOne ps (labels x) → Shuffled (x ∷ of_parts ps xs) (of_parts ps (x ∷ xs))
    with_one [] x xs e = absurd (omega arith)
    with_one (p ∷ ps) x xs e =
        elim (test p (labels x)) as (λ b. length (cond b (p ∷ filter (λ (q : P). test q (labels x)) ps) (filter (λ (q : P). test q (labels x)) ps)) ≡ 1 → Shuffled (x ∷ (in_part p xs ++ of_parts ps xs)) (cond b (x ∷ in_part p xs) (in_part p xs) ++ of_parts ps (x ∷ xs))) [
          | true ↦ λ h.
              let no_other : length (filter (λ (q : P). test q (labels x)) ps) ≡ 0 = omega arith in
              subst (λ (r : List X). Shuffled (x ∷ (in_part p xs ++ of_parts ps xs)) (x ∷ (in_part p xs ++ r))) (sym (in_none ps x xs no_other)) (itself (x ∷ (in_part p xs ++ of_parts ps xs)))
          | false ↦ λ h.
              joined (x ∷ (in_part p xs ++ of_parts ps xs)) (in_part p xs ++ x ∷ of_parts ps xs) (in_part p xs ++ of_parts ps (x ∷ xs))
              (to_back x (in_part p xs) (of_parts ps xs)) (front_kept (in_part p xs) (x ∷ of_parts ps xs) (of_parts ps (x ∷ xs)) (with_one ps x xs h))
        ] e

    of_nothing : (ps : List P) → of_parts ps [] ≡ []
    of_nothing [] = refl
    of_nothing (p ∷ ps) = of_nothing ps

    -- the items of all parts are all items, in another order
    pub all_parted : (ps : List P) (xs : List X) → AllByRecursion (λ (x : X). IsOfOne ps (labels x)) xs → Shuffled xs (of_parts ps xs)
    all_parted ps [] a = subst (λ (r : List X). Shuffled [] r) (sym (of_nothing ps)) none
    all_parted ps (x ∷ xs) a = joined (x ∷ xs) (x ∷ of_parts ps xs) (of_parts ps (x ∷ xs)) (kept x xs (of_parts ps xs) (all_parted ps xs a.1)) (with_one ps x xs a.0)

    any_of_parts : (g : X → Bool) (ps : List P) (xs : List X) → list_any g (of_parts ps xs) ≡ list_any (λ (p : P). list_any g (in_part p xs)) ps
    any_of_parts g [] xs = refl
    any_of_parts g (p ∷ ps) xs = list_any-append g (in_part p xs) (of_parts ps xs) ∙ ap (λ b. list_any g (in_part p xs) || b) (any_of_parts g ps xs)

    -- a test that an item of a part passes is one that an item passes
    pub any_parted : (g : X → Bool) (ps : List P) (xs : List X) → AllByRecursion (λ (x : X). IsOfOne ps (labels x)) xs → list_any (λ (p : P). list_any g (in_part p xs)) ps ≡ list_any g xs
    any_parted g ps xs a = sym (any_of_parts g ps xs) ∙ sym (any_shuffled g xs (of_parts ps xs) (all_parted ps xs a))
