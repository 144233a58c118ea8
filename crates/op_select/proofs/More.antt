-- One more series at an instant.
use Rattle.std.proofs.Common.{◌≡◌, ◌∙◌, ℕ, zero, suc, ◌+◌, ◌<◌, List, [], ◌∷◌, ◌++◌, length, get_or, slice_set, take, drop, map, Option, None, Some, refl, ap, arith}
use Rattle.std.specs.List.{cons_option, filter_map}
use Rattle.std.specs.Option.{option_to_list}
use Rattle.series_marks.specs.Reads.{blank}
use Rattle.series_marks.specs.declared.mark.Mark.{Mark}

pub marks_more : (F G : ℕ → Mark) (xs : List ℕ) (i : ℕ) → i < length xs
    → slice_set (map F (take i xs) ++ map G (drop i xs)) i (F (get_or xs i 0)) ≡ map F (take (i + 1) xs) ++ map G (drop (i + 1) xs)
marks_more F G [] i h = absurd (omega arith)
marks_more F G (x ∷ xs) zero h = refl
marks_more F G (x ∷ xs) (suc i) h = let e : suc i + 1 ≡ suc (i + 1) = omega arith in rw e (ap (λ r. F x ∷ r) (marks_more F G xs i (omega arith)))

pub entries_more : {A B : Type 0} (f : A → Option B) (xs : List A) (i : ℕ) (d : A) → i < length xs → filter_map f (take (i + 1) xs) ≡ filter_map f (take i xs) ++ option_to_list (f (get_or xs i d))
entries_more f [] i d h = absurd (omega arith)
entries_more {A} {B} f (x ∷ xs) zero d h = elim (f x) as (λ (o : Option B). cons_option o [] ≡ option_to_list o) [ None ↦ refl | Some b ↦ refl ]
entries_more {A} {B} f (x ∷ xs) (suc i) d h =
    let e : suc i + 1 ≡ suc (i + 1) = omega arith in
    rw e (ap (cons_option (f x)) (entries_more f xs i d (omega arith)) ∙ behind (f x) (filter_map f (take i xs)) (option_to_list (f (get_or xs i d))))
  where
    behind : (o : Option B) (ys zs : List B) → cons_option o (ys ++ zs) ≡ cons_option o ys ++ zs
    behind None ys zs = refl
    behind (Some b) ys zs = refl

pub all_alike : {A B : Type 0} (f g : A → Option B) (xs : List A) → ((x : A) → f x ≡ g x) → filter_map f xs ≡ filter_map g xs
all_alike f g [] h = refl
all_alike f g (x ∷ xs) h = ap (λ o. cons_option o (filter_map f xs)) (h x) ∙ ap (cons_option (g x)) (all_alike f g xs h)

pub blanks_more : (xs : List ℕ) (i : ℕ) → i < length xs → map (λ (s : ℕ). blank) (take i xs) ++ blank ∷ [] ≡ map (λ (s : ℕ). blank) (take (i + 1) xs)
blanks_more [] i l = absurd (omega arith)
blanks_more (x ∷ xs) zero l = refl
blanks_more (x ∷ xs) (suc i) l = let e : suc i + 1 ≡ suc (i + 1) = omega arith in rw e (ap (λ (r : List Mark). blank ∷ r) (blanks_more xs i (omega arith)))
