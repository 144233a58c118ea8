-- One turn of a loop over two lists of pairs, and its end.
use Rattle.std.proofs.Common.{◌≡◌, ◌<◌, ◌≤◌, ◌+◌, ℕ, true, false, List, [], ◌∷◌, ◌++◌, Some, length, take, drop, slice_get, refl, sym, ap, ◌∙◌, ◌&&◌, suc, arith, length-drop, ◌⊎◌, inl, inr, cond}
use Rattle.std.specs.Prelude.{bytes_eq}
use Rattle.std.specs.List.{flat_map, fold}
use Rattle.std.specs.Prelude.{remove, slice_range, slice_set}
use Rattle.std.proofs.lemmas.List.Edits.{between_more, sets-eq}
use Rattle.std.proofs.lemmas.Slice.{between_from_start, between_to_end}
use Rattle.std.specs.Ordering.{MatchOrdering, is_lt, is_ne, nat_cmp, ord_min, ordering_then}
use Rattle.std.specs.declared.cmp.Ordering.{Ordering}
use Rattle.std.specs.declared.cmp.Ordering.TheVariants.{Less, Equal, Greater}
use Rattle.std.proofs.lemmas.Cmp.{ranked}
use Rattle.std.proofs.lemmas.List.{drop_all, drop_more, take_more, flat_map_more}
use Rattle.std.proofs.lemmas.List.Sums.{fold-append}
use Rattle.std.proofs.lemmas.Option.{get_or_from_slice_get, slice_get_within}
use Rattle.label_set.specs.Labels.{labels_cmp, pair_cmp}
use Rattle.label_set.specs.LabelEquality.{labels_eq}

module _ {X : Type 0} (xs : List X) (i : ℕ) (x : X) (at : slice_get xs i ≡ Some x) where
  pub drop_at_get : drop i xs ≡ x ∷ drop (i + 1) xs
  drop_at_get = drop_more xs i x (slice_get_within xs i x at) ∙ ap (λ y. y ∷ drop (i + 1) xs) (get_or_from_slice_get xs i x x at)

  pub take_at_get : take (i + 1) xs ≡ take i xs ++ x ∷ []
  take_at_get = take_more xs i x (slice_get_within xs i x at) ∙ ap (λ y. take i xs ++ y ∷ []) (get_or_from_slice_get xs i x x at)

module _ (ps qs : List (List ℕ × List ℕ)) (i : ℕ) (p q : List ℕ × List ℕ) (first : slice_get ps i ≡ Some p) (second : slice_get qs i ≡ Some q) where
  pub eq_step : labels_eq (drop i ps) (drop i qs) ≡ ((bytes_eq p.0 q.0 && bytes_eq p.1 q.1) && labels_eq (drop (i + 1) ps) (drop (i + 1) qs))
  eq_step = λ k. labels_eq (drop_at_get ps i p first k) (drop_at_get qs i q second k)

  pub cmp_step : labels_cmp (drop i ps) (drop i qs) ≡ ordering_then (pair_cmp p q) (labels_cmp (drop (i + 1) ps) (drop (i + 1) qs))
  cmp_step = λ k. labels_cmp (drop_at_get ps i p first k) (drop_at_get qs i q second k)

pub eq_end : (ps qs : List (List ℕ × List ℕ)) (i : ℕ) → length ps ≤ i → length qs ≤ i → labels_eq (drop i ps) (drop i qs) ≡ true
eq_end ps qs i l m = λ k. labels_eq (drop_all i ps l k) (drop_all i qs m k)

less_is : (m n : ℕ) → m < n → (o : Ordering) → MatchOrdering o (m < n) (m ≡ n) (n < m) → o ≡ Less
less_is m n l Less k = refl
less_is m n l Equal k = absurd (omega arith)
less_is m n l Greater k = absurd (omega arith)

greater_is : (m n : ℕ) → n < m → (o : Ordering) → MatchOrdering o (m < n) (m ≡ n) (n < m) → o ≡ Greater
greater_is m n l Less k = absurd (omega arith)
greater_is m n l Equal k = absurd (omega arith)
greater_is m n l Greater k = refl

equal_is : (m n : ℕ) → m ≡ n → (o : Ordering) → MatchOrdering o (m < n) (m ≡ n) (n < m) → o ≡ Equal
equal_is m n l Less k = absurd (omega arith)
equal_is m n l Equal k = refl
equal_is m n l Greater k = absurd (omega arith)

shorter : (rs : List (List ℕ × List ℕ)) (m n : ℕ) → length rs + m ≡ n → labels_cmp [] rs ≡ nat_cmp m n
shorter [] m n e = sym (equal_is m n (omega arith) (nat_cmp m n) (ranked m n (nat_cmp m n) refl))
shorter (r ∷ rs) m n e = sym (less_is m n (omega arith) (nat_cmp m n) (ranked m n (nat_cmp m n) refl))

longer : (rs : List (List ℕ × List ℕ)) (m n : ℕ) → length rs + n ≡ m → labels_cmp rs [] ≡ nat_cmp m n
longer [] m n e = sym (equal_is m n (omega arith) (nat_cmp m n) (ranked m n (nat_cmp m n) refl))
longer (r ∷ rs) m n e = sym (greater_is m n (omega arith) (nat_cmp m n) (ranked m n (nat_cmp m n) refl))

lesser_is : (a b m : ℕ) → m ≡ ord_min nat_cmp a b → ((m ≡ a) × (a ≤ b)) ⊎ ((m ≡ b) × (b ≤ a))
lesser_is a b m e = by (nat_cmp b a) (ranked b a (nat_cmp b a) refl) e
  where
    by : (o : Ordering) → MatchOrdering o (b < a) (b ≡ a) (a < b) → m ≡ cond (is_lt o) b a → ((m ≡ a) × (a ≤ b)) ⊎ ((m ≡ b) × (b ≤ a))
    by Less k e = inr (e, omega arith)
    by Equal k e = inl (e, omega arith)
    by Greater k e = inl (e, omega arith)

-- where one list has ended, the lengths decide
pub cmp_end : (ps qs : List (List ℕ × List ℕ)) (i m : ℕ) → i ≡ m → m ≡ ord_min nat_cmp (length ps) (length qs) → labels_cmp (drop i ps) (drop i qs) ≡ nat_cmp (length ps) (length qs)
cmp_end ps qs i m e least = by (lesser_is (length ps) (length qs) m least)
  where
    by : ((m ≡ length ps) × (length ps ≤ length qs)) ⊎ ((m ≡ length qs) × (length qs ≤ length ps)) → labels_cmp (drop i ps) (drop i qs) ≡ nat_cmp (length ps) (length qs)
    by (inl h) =
        let n = h.0 in let l = h.1 in
        ap (λ rs. labels_cmp rs (drop i qs)) (drop_all i ps (omega (arith, e, n))) ∙ shorter (drop i qs) (length ps) (length qs) (omega (arith, length-drop i qs, e, n, l))
    by (inr h) =
        let n = h.0 in let l = h.1 in
        ap (λ rs. labels_cmp (drop i ps) rs) (drop_all i qs (omega (arith, e, n))) ∙ longer (drop i ps) (length ps) (length qs) (omega (arith, length-drop i ps, e, n, l))

-- an order that is not equal decides
pub then_decided : (o rest : Ordering) → is_ne o ≡ true → ordering_then o rest ≡ o
then_decided Less rest e = refl
then_decided Equal rest e = absurd (cc)
then_decided Greater rest e = refl

pub then_tied : (o rest : Ordering) → is_ne o ≡ false → ordering_then o rest ≡ rest
then_tied Less rest e = absurd (cc)
then_tied Equal rest e = refl
then_tied Greater rest e = absurd (cc)

-- one more pair that is fed
feed_step : {S : Type 0} (write : S → List ℕ → S) (F : List ℕ × List ℕ → List (List ℕ)) (s : S) (ps : List (List ℕ × List ℕ)) (i : ℕ) (p : List ℕ × List ℕ) → slice_get ps i ≡ Some p
    → fold write s (flat_map F (take (i + 1) ps)) ≡ fold write (fold write s (flat_map F (take i ps))) (F p)
feed_step write F s ps i p at =
    ap (λ qs. fold write s (flat_map F qs)) (take_at_get ps i p at)
    ∙ ap (fold write s) (sym (flat_map_more F [] (take i ps) p))
    ∙ fold-append write s (flat_map F (take i ps)) (F p)

pub fed_more : {S : Type 0} (write : S → List ℕ → S) (F : List ℕ × List ℕ → List (List ℕ)) (s now next : S) (ps : List (List ℕ × List ℕ)) (i : ℕ) (p : List ℕ × List ℕ) → slice_get ps i ≡ Some p
    → now ≡ fold write s (flat_map F (take i ps)) → next ≡ fold write now (F p) → next ≡ fold write s (flat_map F (take (i + 1) ps))
fed_more write F s now next ps i p at e f = f ∙ ap (λ t. fold write t (F p)) e ∙ sym (feed_step write F s ps i p at)

module _ {X : Type 0} where
  -- one more item of a part
  pub part_more : (xs : List X) (from i : ℕ) (x : X) → from ≤ i → slice_get xs i ≡ Some x → slice_range xs from (i + 1) ≡ slice_range xs from i ++ x ∷ []
  part_more xs from i x l at = between_more xs from i x l (slice_get_within xs i x at) ∙ ap (λ y. slice_range xs from i ++ y ∷ []) (get_or_from_slice_get xs i x x at)

  -- the parts round a place
  pub without_part : (xs : List X) (i end : ℕ) → length xs ≤ end → slice_range xs 0 i ++ slice_range xs (i + 1) end ≡ remove xs i
  without_part xs i end l =
      let e : i + 1 ≡ suc i = omega arith in
      (λ k. between_from_start xs i k ++ between_to_end xs (i + 1) end l k) ∙ ap (λ n. take i xs ++ drop n xs) e

  pub changed_part : (xs : List X) (i end : ℕ) (x : X) → i < length xs → length xs ≤ end → (slice_range xs 0 i ++ x ∷ []) ++ slice_range xs (i + 1) end ≡ slice_set xs i x
  changed_part xs i end x w l =
      (λ k. (between_from_start xs i k ++ x ∷ []) ++ between_to_end xs (i + 1) end l k) ∙ sym (sets-eq (x ∷ []) xs i (omega arith))
