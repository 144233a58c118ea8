-- The order that values are sorted by: NaN before all others.
use Rattle.std.proofs.Common.{◌≡◌, Bool, true, false, cond, refl, ap}
use Rattle.std.specs.Ordering.{is_lt, ordering_reverse}
use Rattle.std.specs.declared.cmp.Ordering.{Ordering}
use Rattle.std.specs.declared.cmp.Ordering.TheVariants.{Less, Equal, Greater}
use Rattle.xfrac.specs.AnySize.{EqualLowestIsSame, InLowestTerms, LessOfAnyIsTransitive, LowestHasDenominator}
use Rattle.xfrac.specs.Kinds.{is_not_a_number}
use Rattle.xfrac.specs.Laws.{IsNumber, EqualIsSame, OrderIsReversed, LessIsTransitive}
use Rattle.xfrac.specs.Order.{total_order}
use Rattle.xfrac.specs.declared.value.XFrac.{XFrac}
use Rattle.xfrac.specs.declared.value.XFrac.TheVariants.{Fin, PosInf, NegInf, NaN}
use Rattle.window_fn.specs.Aggregates.{is_before}
use Rattle.window_fn.proofs.Insertion.{IsStrictOrder}

-- ---- by whether the values are NaN, and how they stand else

abbrev ranked : Bool → Bool → Ordering → Ordering
ranked a b o = cond a (cond b Equal Less) (cond b Greater o)

pub less_is : (o : Ordering) → is_lt o ≡ true → o ≡ Less
less_is Less h = refl
less_is Equal h = absurd (cc)
less_is Greater h = absurd (cc)

pub ranked-one_way : (a b : Bool) (o r : Ordering) → r ≡ ordering_reverse o → is_lt (ranked a b o) ≡ true → is_lt (ranked b a r) ≡ false
ranked-one_way true true o r e h = absurd (cc)
ranked-one_way true false o r e h = refl
ranked-one_way false true o r e h = absurd (cc)
ranked-one_way false false Less r e h = ap is_lt e
ranked-one_way false false Equal r e h = absurd (cc)
ranked-one_way false false Greater r e h = absurd (cc)

ranked-carries : (a b c : Bool) (o p q : Ordering) → (o ≡ Less → p ≡ Less → q ≡ Less) → is_lt (ranked a b o) ≡ true → is_lt (ranked b c p) ≡ true → is_lt (ranked a c q) ≡ true
ranked-carries true true c o p q f h k = absurd (cc)
ranked-carries true false true o p q f h k = absurd (cc)
ranked-carries true false false o p q f h k = refl
ranked-carries false true c o p q f h k = absurd (cc)
ranked-carries false false true o p q f h k = absurd (cc)
ranked-carries false false false o p q f h k = ap is_lt (f (less_is o h) (less_is p k))

pub ranked-chain : (a b c : Bool) (o p q : Ordering) → (is_lt o ≡ false → is_lt p ≡ false → is_lt q ≡ false) → is_lt (ranked a b o) ≡ false → is_lt (ranked b c p) ≡ false → is_lt (ranked a c q) ≡ false
ranked-chain true true true o p q f h k = refl
ranked-chain true true false o p q f h k = absurd (cc)
ranked-chain true false c o p q f h k = absurd (cc)
ranked-chain false true true o p q f h k = refl
ranked-chain false true false o p q f h k = absurd (cc)
ranked-chain false false true o p q f h k = refl
ranked-chain false false false o p q f h k = f h k

-- ---- of numbers

pub equal_is : (o r : Ordering) → r ≡ ordering_reverse o → is_lt o ≡ false → is_lt r ≡ false → o ≡ Equal
equal_is Less r e h k = absurd (cc)
equal_is Equal r e h k = refl
equal_is Greater r e h k = let less : is_lt r ≡ true = ap is_lt e in absurd (cc)

same_by_tests : (x y : XFrac) → (total_order x y ≡ Equal → x ≡ y) → total_order y x ≡ ordering_reverse (total_order x y) → is_before x y ≡ false → is_before y x ≡ false → x ≡ y
same_by_tests NaN NaN f r h k = refl
same_by_tests NaN (Fin b) f r h k = absurd (cc)
same_by_tests NaN PosInf f r h k = absurd (cc)
same_by_tests NaN NegInf f r h k = absurd (cc)
same_by_tests (Fin a) NaN f r h k = absurd (cc)
same_by_tests PosInf NaN f r h k = absurd (cc)
same_by_tests NegInf NaN f r h k = absurd (cc)
same_by_tests (Fin a) (Fin b) f r h k = f (equal_is (total_order (Fin a) (Fin b)) (total_order (Fin b) (Fin a)) r h k)
same_by_tests (Fin a) PosInf f r h k = absurd (cc)
same_by_tests (Fin a) NegInf f r h k = absurd (cc)
same_by_tests PosInf (Fin b) f r h k = absurd (cc)
same_by_tests PosInf PosInf f r h k = refl
same_by_tests PosInf NegInf f r h k = absurd (cc)
same_by_tests NegInf (Fin b) f r h k = absurd (cc)
same_by_tests NegInf PosInf f r h k = absurd (cc)
same_by_tests NegInf NegInf f r h k = refl

-- on values of a kind the total order is strict, as it is on numbers and on fractions in lowest terms
pub record IsOrdered (P : XFrac → Type 0) : Type 0 where
  pub equal : (a b : XFrac) → P a → P b → total_order a b ≡ Equal → a ≡ b
  pub less : (a b c : XFrac) → P a → P b → P c → total_order a b ≡ Less → total_order b c ≡ Less → total_order a c ≡ Less

pub numbers_ordered : EqualIsSame → LessIsTransitive → IsOrdered IsNumber
numbers_ordered equal transitive = record { equal = equal; less = transitive }

pub lowest_ordered : EqualLowestIsSame → LowestHasDenominator → LessOfAnyIsTransitive → IsOrdered InLowestTerms
lowest_ordered equal has transitive = record { equal = equal; less = λ a b c pa pb pc. transitive a b c (has a pa) (has b pb) (has c pc) }

pub before_in_order : (P : XFrac → Type 0) → IsOrdered P → OrderIsReversed → IsStrictOrder P is_before
before_in_order P o reversed = record {
  one_way = λ x y px py h. ranked-one_way (is_not_a_number x) (is_not_a_number y) (total_order x y) (total_order y x) (reversed x y) h;
  carries = λ x y z px py pz h k. ranked-carries (is_not_a_number x) (is_not_a_number y) (is_not_a_number z) (total_order x y) (total_order y z) (total_order x z) (o.less x y z px py pz) h k;
  same = λ x y px py h k. same_by_tests x y (o.equal x y px py) (reversed x y) h k;
}

pub before_is_strict : EqualIsSame → OrderIsReversed → LessIsTransitive → IsStrictOrder IsNumber is_before
before_is_strict equal reversed transitive = before_in_order IsNumber (numbers_ordered equal transitive) reversed
