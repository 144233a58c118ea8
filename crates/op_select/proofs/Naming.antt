-- The labels of series by their places in a list.
use Rattle.std.proofs.Common.{◌≡◌, ◌∙◌, ℕ, zero, suc, ◌+◌, ◌<◌, true, false, List, [], ◌∷◌, ◌++◌, length, get_or, slice_get, take, Some, refl, sym, ap, arith}
use Rattle.std.specs.List.{AllByRecursion, IsDistinct, list_any}
use Rattle.std.specs.Map.{keys_of}
use Rattle.indexmap.specs.IndexSet.{insert_key}
use Rattle.label_set.specs.LabelEquality.{labels_decide, labels_eq}
use Rattle.sample_store.specs.Samples.{AllSeries, Names, labels_at}
use Rattle.std.proofs.lemmas.Map.Keys.{IsDistinct-head, IsDistinct-tail}
use Rattle.series_marks.specs.Reaches.{AreThere}
use Rattle.op_select.specs.Newest.{AreOnce, names_of}

key_at : (store : AllSeries) (s : ℕ) → s < length store → slice_get (keys_of store) s ≡ Some (labels_at store s)
key_at [] s l = absurd (omega arith)
key_at (one ∷ store) zero l = refl
key_at (one ∷ store) (suc s) l = key_at store s (omega arith)

never : true ≡ false → ⊥
never e = cc

told_apart : (l n : Names) (ls : List Names) (j : ℕ) → AllByRecursion (λ y. labels_eq l y ≡ false) ls → slice_get ls j ≡ Some n → l ≡ n → ⊥
told_apart l n [] j a h e = absurd (cc)
told_apart l n (m ∷ ls) zero a h e =
    let same : m ≡ n = cc in
    let alike : labels_eq l m ≡ true = (labels_decide l m (labels_eq l m) refl).1 (e ∙ sym same) in
    never (sym alike ∙ a.0)
told_apart l n (m ∷ ls) (suc j) a h e = told_apart l n ls j a.1 h e

one_place : (ls : List Names) (i j : ℕ) (n : Names) → IsDistinct labels_eq ls → slice_get ls i ≡ Some n → slice_get ls j ≡ Some n → i ≡ j
one_place [] i j n d f g = absurd (cc)
one_place (l ∷ ls) zero zero n d f g = refl
one_place (l ∷ ls) zero (suc j) n d f g = let same : l ≡ n = cc in absurd (told_apart l n ls j (IsDistinct-head labels_eq l ls d) g same)
one_place (l ∷ ls) (suc i) zero n d f g = let same : l ≡ n = cc in absurd (told_apart l n ls i (IsDistinct-head labels_eq l ls d) f same)
one_place (l ∷ ls) (suc i) (suc j) n d f g = ap suc (one_place ls i j n (IsDistinct-tail labels_eq l ls d) f g)

apart : (store : AllSeries) (s u : ℕ) → IsDistinct labels_eq (keys_of store) → s < length store → u < length store → (s ≡ u → ⊥) → labels_eq (labels_at store s) (labels_at store u) ≡ false
apart store s u d l k ne = elim (labels_eq (labels_at store s) (labels_at store u)) as (λ b. labels_eq (labels_at store s) (labels_at store u) ≡ b → b ≡ false) [
  | true ↦ λ e. absurd (ne (one_place (keys_of store) s u (labels_at store s) d (key_at store s l) (key_at store u k ∙ ap Some (sym ((labels_decide (labels_at store s) (labels_at store u) (labels_eq (labels_at store s) (labels_at store u)) refl).0 e)))))
  | false ↦ λ e. refl
] refl

not_named : (store : AllSeries) (s : ℕ) (us : List ℕ) → IsDistinct labels_eq (keys_of store) → s < length store → AreThere store us → AllByRecursion (λ (u : ℕ). s ≡ u → ⊥) us → list_any (labels_eq (labels_at store s)) (names_of store us) ≡ false
not_named store s [] d l a n = refl
not_named store s (u ∷ us) d l a n = let e = apart store s u d l a.0 n.0 in rw e (not_named store s us d l a.1 n.1)

at_of : (P : ℕ → Type 0) (xs : List ℕ) (i : ℕ) → i < length xs → AllByRecursion P xs → P (get_or xs i 0)
at_of P [] i l a = absurd (omega arith)
at_of P (x ∷ xs) zero l a = a.0
at_of P (x ∷ xs) (suc i) l a = at_of P xs i (omega arith) a.1

take_of : (P : ℕ → Type 0) (xs : List ℕ) (i : ℕ) → AllByRecursion P xs → AllByRecursion P (take i xs)
take_of P xs zero a = tt
take_of P [] (suc i) a = tt
take_of P (x ∷ xs) (suc i) a = (a.0, take_of P xs i a.1)

once_before : (xs : List ℕ) (i : ℕ) → AreOnce xs → i < length xs → AllByRecursion (λ (u : ℕ). get_or xs i 0 ≡ u → ⊥) (take i xs)
once_before [] i o l = absurd (omega arith)
once_before (x ∷ xs) zero o l = tt
once_before (x ∷ xs) (suc i) o l = (λ e. at_of (λ (u : ℕ). x ≡ u → ⊥) xs i (omega arith) o.0 (sym e), once_before xs i o.1 (omega arith))

names_more : (store : AllSeries) (xs : List ℕ) (i : ℕ) → i < length xs → names_of store (take (i + 1) xs) ≡ names_of store (take i xs) ++ labels_at store (get_or xs i 0) ∷ []
names_more store [] i l = absurd (omega arith)
names_more store (x ∷ xs) zero l = refl
names_more store (x ∷ xs) (suc i) l = let e : suc i + 1 ≡ suc (i + 1) = omega arith in rw e (ap (λ (r : List Names). labels_at store x ∷ r) (names_more store xs i (omega arith)))

pub one_named : (store : AllSeries) (xs : List ℕ) (i : ℕ) (names : Names) → IsDistinct labels_eq (keys_of store) → AreThere store xs → AreOnce xs → i < length xs → names ≡ labels_at store (get_or xs i 0)
    → insert_key labels_eq (names_of store (take i xs)) names ≡ names_of store (take (i + 1) xs)
one_named store xs i names d a o l e =
    let none = not_named store (get_or xs i 0) (take i xs) d (at_of (λ (s : ℕ). s < length store) xs i l a) (take_of (λ (s : ℕ). s < length store) xs i a) (once_before xs i o l) in
    ap (insert_key labels_eq (names_of store (take i xs))) e ∙ (rw none (sym (names_more store xs i l)))

pub name_there : (store : AllSeries) (xs : List ℕ) (i : ℕ) → i < length xs → slice_get (names_of store xs) i ≡ Some (labels_at store (get_or xs i 0))
name_there store [] i l = absurd (omega arith)
name_there store (x ∷ xs) zero l = refl
name_there store (x ∷ xs) (suc i) l = name_there store xs i (omega arith)

pub names_length : (store : AllSeries) (xs : List ℕ) → length (names_of store xs) ≡ length xs
names_length store [] = refl
names_length store (x ∷ xs) = ap suc (names_length store xs)
