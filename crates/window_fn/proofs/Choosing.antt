-- The least and the greatest of some values, and what doesn't depend on their order.
use Rattle.std.proofs.Common.{◌≡◌, ◌∙◌, ℕ, Bool, true, false, cond, List, [], length, Option, Ok, refl, sym, ap, subst}
use Rattle.std.specs.List.{All}
use Rattle.std.specs.Option.{ok_or, option_and_then}
use Rattle.std.specs.Ordering.{is_gt, is_lt, ordering_reverse}
use Rattle.std.specs.declared.cmp.Ordering.{Ordering}
use Rattle.std.specs.declared.cmp.Ordering.TheVariants.{Less, Equal, Greater}
use Rattle.std.proofs.lemmas.List.Elements.{All-nil, All-weaker}
use Rattle.std.specs.List.Sorted.{IsPermutation}
use Rattle.std.proofs.lemmas.List.Sorted.{length_permutation}
use Rattle.xfrac.specs.Arithmetic.{quotient, whole_number}
use Rattle.xfrac.specs.AnySize.{AnySumIgnoresOrder, EqualLowestIsSame, InLowestTerms, LessOfAnyIsTransitive, LowestHasDenominator}
use Rattle.xfrac.specs.Kinds.{is_not_a_number}
use Rattle.xfrac.specs.Laws.{IsNumber, EqualIsSame, LessIsTransitive, OrderIsReversed, SumIgnoresOrder}
use Rattle.xfrac.specs.NumberLaws.{HasDenominator}
use Rattle.xfrac.specs.Order.{compares, total_order}
use Rattle.xfrac.specs.Sums.{sum_of}
use Rattle.xfrac.specs.declared.value.CompareOp.TheVariants.{Lt, Gt}
use Rattle.xfrac.specs.declared.value.NumFault.TheVariants.{Overflow}
use Rattle.xfrac.specs.declared.value.XFrac.{XFrac}
use Rattle.xfrac.specs.declared.value.XFrac.TheVariants.{Fin, PosInf, NegInf, NaN}
use Rattle.window_fn.specs.Aggregates.{ascending, greater, inserted, interpolated, is_before, lesser, overflow_alone, quantile_of}
use Rattle.window_fn.specs.Laws.{AreAggregatedAlike, OrderDoesntMatter, OrderOfAnyDoesntMatter}
use Rattle.window_fn.proofs.Insertion.{IsStrictOrder, insertion_is_orderless}
use Rattle.window_fn.proofs.Permuting.{IsOrderless, fold-permutation}
use Rattle.window_fn.proofs.Ranking.{IsOrdered, before_in_order, equal_is, less_is, lowest_ordered, numbers_ordered, ranked-one_way}

-- the later of two items in an order
abbrev pub picked : {A : Type 0} → (A → A → Bool) → A → A → A
picked lt m x = cond (lt m x) x m

module _ {A : Type 0} (P : A → Type 0) (lt : A → A → Bool) (o : IsStrictOrder P lt) where
  keeps : (b : Bool) (m x : A) → P m → P x → P (cond b x m)
  keeps true m x pm px = px
  keeps false m x pm px = pm

  -- both are later than what there was
  both_later : (x y : A) → P x → P y → (b c : Bool) → lt x y ≡ b → lt y x ≡ c → cond b y x ≡ cond c x y
  both_later x y px py true true e f = let g : lt y x ≡ false = o.one_way x y px py e in absurd (cc)
  both_later x y px py true false e f = refl
  both_later x y px py false true e f = refl
  both_later x y px py false false e f = o.same x y px py e f

  -- one alone is
  one_later : (m x y : A) → P m → P x → P y → lt m x ≡ true → lt m y ≡ false → (b : Bool) → lt x y ≡ b → cond b y x ≡ x
  one_later m x y pm px py e f true g = let h : lt m y ≡ true = o.carries m x y pm px py e g in absurd (cc)
  one_later m x y pm px py e f false g = refl

  either : (m x y : A) → P m → P x → P y → (b c : Bool) → lt m x ≡ b → lt m y ≡ c → picked lt (cond b x m) y ≡ picked lt (cond c y m) x
  either m x y pm px py true true e f = both_later x y px py (lt x y) (lt y x) refl refl
  either m x y pm px py true false e f = one_later m x y pm px py e f (lt x y) refl ∙ sym (ap (λ b. cond b x m) e)
  either m x y pm px py false true e f = ap (λ b. cond b y m) f ∙ sym (one_later m y x pm py px f e (lt y x) refl)
  either m x y pm px py false false e f = ap (λ b. cond b y m) f ∙ sym (ap (λ b. cond b x m) e)

  picking_is_orderless : IsOrderless P P (picked lt)
  picking_is_orderless = record {
    keeps = λ m x pm px. keeps (lt m x) m x pm px;
    either = λ m x y pm px py. either m x y pm px py (lt m x) (lt m y) refl refl;
  }

-- ---- the greatest goes by the order that has NaN first, the least by the other one

turned : (o r : Ordering) → r ≡ ordering_reverse o → is_gt r ≡ is_lt o
turned Less r e = ap is_gt e
turned Equal r e = ap is_gt e
turned Greater r e = ap is_gt e

pub greater_picks : OrderIsReversed → (m x : XFrac) → greater m x ≡ picked is_before m x
greater_picks reversed NaN NaN = refl
greater_picks reversed NaN (Fin b) = refl
greater_picks reversed NaN PosInf = refl
greater_picks reversed NaN NegInf = refl
greater_picks reversed (Fin a) NaN = refl
greater_picks reversed (Fin a) (Fin b) =
    ap (λ t. cond t (Fin b) (Fin a)) (turned (total_order (Fin a) (Fin b)) (total_order (Fin b) (Fin a)) (reversed (Fin a) (Fin b)))
greater_picks reversed (Fin a) PosInf = refl
greater_picks reversed (Fin a) NegInf = refl
greater_picks reversed PosInf NaN = refl
greater_picks reversed PosInf (Fin b) = refl
greater_picks reversed PosInf PosInf = refl
greater_picks reversed PosInf NegInf = refl
greater_picks reversed NegInf NaN = refl
greater_picks reversed NegInf (Fin b) = refl
greater_picks reversed NegInf PosInf = refl
greater_picks reversed NegInf NegInf = refl

abbrev pub is_after : XFrac → XFrac → Bool
is_after m x = is_lt (total_order x m)

pub lesser_picks : (m x : XFrac) → lesser m x ≡ picked is_after m x
lesser_picks NaN NaN = refl
lesser_picks NaN (Fin b) = refl
lesser_picks NaN PosInf = refl
lesser_picks NaN NegInf = refl
lesser_picks (Fin a) NaN = refl
lesser_picks (Fin a) (Fin b) = refl
lesser_picks (Fin a) PosInf = refl
lesser_picks (Fin a) NegInf = refl
lesser_picks PosInf NaN = refl
lesser_picks PosInf (Fin b) = refl
lesser_picks PosInf PosInf = refl
lesser_picks PosInf NegInf = refl
lesser_picks NegInf NaN = refl
lesser_picks NegInf (Fin b) = refl
lesser_picks NegInf PosInf = refl
lesser_picks NegInf NegInf = refl

after_in_order : (P : XFrac → Type 0) → IsOrdered P → OrderIsReversed → IsStrictOrder P is_after
after_in_order P o reversed = record {
  one_way = λ x y px py h. ranked-one_way false false (total_order y x) (total_order x y) (reversed y x) h;
  carries = λ x y z px py pz h k. ap is_lt (o.less z y x pz py px (less_is (total_order z y) k) (less_is (total_order y x) h));
  same = λ x y px py h k. o.equal x y px py (equal_is (total_order x y) (total_order y x) (reversed x y) k h);
}

pub after_is_strict : EqualIsSame → OrderIsReversed → LessIsTransitive → IsStrictOrder IsNumber is_after
after_is_strict equal reversed transitive = after_in_order IsNumber (numbers_ordered equal transitive) reversed

orderless_like : {A : Type 0} (P : A → Type 0) (f g : A → A → A) → ((m x : A) → f m x ≡ g m x) → IsOrderless P P g → IsOrderless P P f
orderless_like P f g same o = record {
  keeps = λ m x pm px. subst P (sym (same m x)) (o.keeps m x pm px);
  either = λ m x y pm px py.
      (ap (λ w. f w y) (same m x) ∙ same (g m x) y) ∙ (o.either m x y pm px py ∙ (sym (same (g m y) x) ∙ ap (λ w. f w x) (sym (same m y))));
}

-- ---- all that doesn't depend on the order

mean_from : (s t : Option XFrac) (m n : ℕ) → s ≡ t → m ≡ n → option_and_then (λ v. quotient v (whole_number m)) s ≡ option_and_then (λ v. quotient v (whole_number n)) t
mean_from s t m n e f = ap (λ o. option_and_then (λ v. quotient v (whole_number m)) o) e ∙ ap (λ k. option_and_then (λ v. quotient v (whole_number k)) t) f

quantile_alike : (q : XFrac) (xs ys : List XFrac) → ascending ys ≡ ascending xs → quantile_of q ys ≡ quantile_of q xs
quantile_alike q xs ys e =
    ap (λ l. cond (is_not_a_number q) (Ok NaN) (cond (compares Lt q (whole_number 0)) (Ok NegInf) (cond (compares Gt q (whole_number 1)) (Ok PosInf) (overflow_alone (interpolated q l))))) e

-- of values of a kind whose order is strict, and whose sums don't depend on their order, nothing does
ordered_alike : (P : XFrac → Type 0) → P NaN → IsOrdered P → OrderIsReversed → ((xs ys : List XFrac) → All P xs → IsPermutation xs ys → sum_of ys ≡ sum_of xs) → (xs ys : List XFrac) → All P xs → IsPermutation xs ys → AreAggregatedAlike xs ys
ordered_alike P none o reversed sums xs ys all moved =
    let before = before_in_order P o reversed in
    let after = after_in_order P o reversed in
    let sum = sums xs ys all moved in
    let long = length_permutation xs ys moved in
    let sorted = fold-permutation P (All P) (inserted is_before) (insertion_is_orderless P is_before before) xs ys [] (All-nil P) all moved in
    record {
      sum = ap (λ v. ok_or v Overflow) sum;
      avg = ap (λ v. ok_or v Overflow) (mean_from (sum_of ys) (sum_of xs) (length ys) (length xs) sum long);
      count = ap whole_number long;
      max = fold-permutation P P greater (orderless_like P greater (picked is_before) (greater_picks reversed) (picking_is_orderless P is_before before)) xs ys NaN none all moved;
      min = fold-permutation P P lesser (orderless_like P lesser (picked is_after) lesser_picks (picking_is_orderless P is_after after)) xs ys NaN none all moved;
      quantiles = λ q. quantile_alike q xs ys sorted;
    }

pub aggregated_alike : EqualIsSame → OrderIsReversed → LessIsTransitive → SumIgnoresOrder → OrderDoesntMatter
aggregated_alike equal reversed transitive sums = ordered_alike IsNumber tt (numbers_ordered equal transitive) reversed sums

pub any_alike : EqualLowestIsSame → OrderIsReversed → LessOfAnyIsTransitive → LowestHasDenominator → AnySumIgnoresOrder → OrderOfAnyDoesntMatter
any_alike equal reversed transitive has sums =
    ordered_alike InLowestTerms tt (lowest_ordered equal has transitive) reversed
    (λ xs ys all moved. sums xs ys (All-weaker InLowestTerms HasDenominator has xs all) moved)
