-- Insertion of all items of a list makes a sorted list of them.
use Rattle.std.proofs.Common.{◌≡◌, zero, suc, ◌+◌, Bool, true, false, cond, List, [], ◌∷◌, ◌++◌, get_or, fold, refl, sym, subst, append-nil, arith}
use Rattle.std.specs.List.{All}
use Rattle.std.specs.List.Sorted.{IsPermutation, IsSortedBy}
use Rattle.std.proofs.lemmas.List.Elements.{All-head, All-tail, All-nil}
use Rattle.std.proofs.lemmas.List.Sorted.{IsPermutation-refl, IsPermutation-trans, IsPermutation-cons, IsPermutation-middle, IsPermutation-append_left}
use Rattle.xfrac.specs.Laws.{IsNumber, EqualIsSame, LessIsTransitive, OrderIsReversed}
use Rattle.window_fn.specs.Aggregates.{inserted, is_before}
use Rattle.window_fn.specs.Laws.{AscendingIsRanked}
use Rattle.window_fn.proofs.Insertion.{IsStrictOrder, Rises, insertion_is_orderless, rises-tail}
use Rattle.window_fn.proofs.Ranking.{before_is_strict}

module _ {A : Type 0} (lt : A → A → Bool) where
  moved_in : (ys : List A) (x : A) → IsPermutation (x ∷ ys) (inserted lt ys x)
  moved_in [] x = IsPermutation-refl (x ∷ [])
  moved_in (y ∷ ys) x =
      elim (lt x y) as (λ b. IsPermutation (x ∷ y ∷ ys) (cond b (x ∷ y ∷ ys) (y ∷ inserted lt ys x))) [
        | true ↦ IsPermutation-refl (x ∷ y ∷ ys)
        | false ↦ IsPermutation-trans (x ∷ y ∷ ys) (y ∷ x ∷ ys) (y ∷ inserted lt ys x) (IsPermutation-middle (x ∷ []) y ys) (IsPermutation-cons y (x ∷ ys) (inserted lt ys x) (moved_in ys x))
      ]

  pub all_moved : (xs done : List A) → IsPermutation (done ++ xs) (fold (inserted lt) done xs)
  all_moved [] done = subst (λ l. IsPermutation l done) (sym (append-nil done)) (IsPermutation-refl done)
  all_moved (x ∷ xs) done =
      IsPermutation-trans (done ++ x ∷ xs) (x ∷ (done ++ xs)) (fold (inserted lt) (inserted lt done x) xs) (IsPermutation-middle done x xs)
      (IsPermutation-trans (x ∷ (done ++ xs)) (inserted lt done x ++ xs) (fold (inserted lt) (inserted lt done x) xs) (IsPermutation-append_left xs (x ∷ done) (inserted lt done x) (moved_in done x)) (all_moved xs (inserted lt done x)))

  onto : (y x : A) (ys : List A) → lt x y ≡ false → Rises lt (y ∷ ys) → Rises lt (inserted lt ys x) → Rises lt (y ∷ inserted lt ys x)
  onto y x [] h up r = (h, tt)
  onto y x (z ∷ zs) h up r =
      elim (lt x z) as (λ b. Rises lt (cond b (x ∷ z ∷ zs) (z ∷ inserted lt zs x)) → Rises lt (y ∷ cond b (x ∷ z ∷ zs) (z ∷ inserted lt zs x))) [
        | true ↦ λ s. (h, s)
        | false ↦ λ s. (up.0, s)
      ] r

  sorted_from : (xs : List A) → Rises lt xs → IsSortedBy lt xs
  sorted_from [] up k d low high = absurd (omega arith)
  sorted_from (x ∷ []) up k d low high = absurd (omega arith)
  sorted_from (x ∷ y ∷ ys) up zero d low high = up.0
  sorted_from (x ∷ y ∷ ys) up (suc k) d low high =
      let behind : suc (k + 1) ≡ suc k + 1 = omega arith in
      subst (λ n. lt (get_or (x ∷ y ∷ ys) n d) (get_or (y ∷ ys) k d) ≡ false) behind (sorted_from (y ∷ ys) up.1 k d (omega arith) (omega arith))

  module _ (P : A → Type 0) (o : IsStrictOrder P lt) where
    rises_more : (ys : List A) (x : A) → P x → All P ys → Rises lt ys → Rises lt (inserted lt ys x)
    rises_more [] x px all up = tt
    rises_more (y ∷ ys) x px all up =
        elim (lt x y) as (λ b. lt x y ≡ b → Rises lt (cond b (x ∷ y ∷ ys) (y ∷ inserted lt ys x))) [
          | true ↦ λ e. (o.one_way x y px (All-head P y ys all) e, up)
          | false ↦ λ e. onto y x ys e up (rises_more ys x px (All-tail P y ys all) (rises-tail lt y ys up))
        ] refl

    all_rise : (xs done : List A) → All P xs → All P done → Rises lt done → Rises lt (fold (inserted lt) done xs)
    all_rise [] done all has up = up
    all_rise (x ∷ xs) done all has up =
        let px = All-head P x xs all in
        all_rise xs (inserted lt done x) (All-tail P x xs all) ((insertion_is_orderless P lt o).keeps done x has px) (rises_more done x px has up)

    pub sorted_all : (xs : List A) → All P xs → IsSortedBy lt (fold (inserted lt) [] xs)
    sorted_all xs all = sorted_from (fold (inserted lt) [] xs) (all_rise xs [] all (All-nil P) tt)

pub ascending_ranked : EqualIsSame → OrderIsReversed → LessIsTransitive → AscendingIsRanked
ascending_ranked equal reversed transitive values numbers = record {
  same = all_moved is_before values [];
  rising = sorted_all is_before IsNumber (before_is_strict equal reversed transitive) values numbers;
}
