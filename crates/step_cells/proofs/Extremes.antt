-- The least and the greatest of values don't depend on how they are parted.
use Rattle.std.proofs.Common.{◌≡◌, ◌∙◌, Bool, true, false, cond, List, [], ◌∷◌, ◌++◌, map, refl, sym, ap, ◌||◌}
use Rattle.std.specs.Prelude.{fold, not}
use Rattle.std.specs.List.{AllByRecursion}
use Rattle.std.specs.Ordering.{is_lt, is_gt, ordering_reverse}
use Rattle.std.specs.declared.cmp.Ordering.{Ordering}
use Rattle.std.specs.declared.cmp.Ordering.TheVariants.{Less, Equal, Greater}
use Rattle.std.proofs.lemmas.List.Sums.{fold-append}
use Rattle.holders.specs.Joins.{back_of, front_of}
use Rattle.window_fn.specs.Aggregates.{greater, greatest, least, lesser}
use Rattle.xfrac.specs.AnySize.{EqualLowestIsSame, InLowestTerms, LessOfAnyIsTransitive, LowestHasDenominator}
use Rattle.xfrac.specs.Kinds.{is_not_a_number}
use Rattle.xfrac.specs.Laws.{IsNumber, OrderIsReversed}
use Rattle.xfrac.specs.Order.{compares, total_order}
use Rattle.xfrac.specs.declared.value.CompareOp.TheVariants.{Gt, Lt}
use Rattle.xfrac.specs.declared.value.XFrac.{XFrac}
use Rattle.xfrac.specs.declared.value.XFrac.TheVariants.{Fin, PosInf, NegInf, NaN}
use Rattle.promql_meaning.specs.NumberOrder.{flipped}
use Rattle.promql_meaning.specs.Ranks.{value_order}
use Rattle.step_cells.proofs.Merges.{AllLowest, AreNumbers, Extremes, flat}

-- a fold keeps what its operation keeps
folded : {X : Type 0} (P : X → Type 0) (f : X → X → X) → ((a b : X) → P a → P b → P (f a b)) → (a : X) (xs : List X) → P a → AllByRecursion P xs → P (fold f a xs)
folded P f closed a [] p n = p
folded P f closed a (x ∷ xs) p n = folded P f closed (f a x) xs (closed a x p n.0) n.1

-- ---- folds of an operation that is associative and commutative, with a neutral value

module _ {X : Type 0} (P : X → Type 0) (f : X → X → X) (e : X) (none : P e) (closed : (a b : X) → P a → P b → P (f a b)) (assoc : (a b c : X) → P a → P b → P c → f (f a b) c ≡ f a (f b c))
    (comm : (a b : X) → P a → P b → f a b ≡ f b a) (neutral : (a : X) → P a → f a e ≡ a) where
  along : (a : X) (xs : List X) → P a → AllByRecursion P xs → P (fold f a xs)
  along = folded P f closed

  fold_from : (a : X) (xs : List X) → P a → AllByRecursion P xs → fold f a xs ≡ f a (fold f e xs)
  fold_from a [] p n = sym (neutral a p)
  fold_from a (x ∷ xs) p n =
      fold_from (f a x) xs (closed a x p n.0) n.1 ∙ assoc a x (fold f e xs) p n.0 (along e xs none n.1)
      ∙ ap (f a) (sym (fold_from (f e x) xs (closed e x none n.0) n.1 ∙ ap (λ y. f y (fold f e xs)) (comm e x none n.0 ∙ neutral x n.0)))

  pub fold_join : (xs ys : List X) → AllByRecursion P xs → AllByRecursion P ys → fold f e (xs ++ ys) ≡ f (fold f e xs) (fold f e ys)
  fold_join xs ys n m = fold-append f e xs ys ∙ fold_from (fold f e xs) ys (along e xs none n) m

  fold_one : (x : X) (xs : List X) → P x → AllByRecursion P xs → fold f e (x ∷ xs) ≡ f x (fold f e xs)
  fold_one x xs p n = fold_from (f e x) xs (closed e x none p) n ∙ ap (λ y. f y (fold f e xs)) (comm e x none p ∙ neutral x p)

  all_folded : (parts : List (List X)) → AllByRecursion P (flat parts) → AllByRecursion P (map (fold f e) parts)
  all_folded [] n = tt
  all_folded (p ∷ parts) n = (along e p none (front_of P p (flat parts) n), all_folded parts (back_of P p (flat parts) n))

  pub fold_parts : (parts : List (List X)) → AllByRecursion P (flat parts) → fold f e (map (fold f e) parts) ≡ fold f e (flat parts)
  fold_parts [] n = refl
  fold_parts (p ∷ parts) n =
      let np : AllByRecursion P p = front_of P p (flat parts) n in
      let nr : AllByRecursion P (flat parts) = back_of P p (flat parts) n in
      fold_one (fold f e p) (map (fold f e) parts) (along e p none np) (all_folded parts nr) ∙ ap (f (fold f e p)) (fold_parts parts nr) ∙ sym (fold_join p (flat parts) np nr)

-- ---- the lesser of two by an order

module _ {X : Type 0} (R : X → X → Ordering) (P : X → Type 0) (antisymm : (a b : X) → R a b ≡ ordering_reverse (R b a)) (trans : (a b c : X) → P a → P b → P c → R a b ≡ Less → R b c ≡ Less → R a c ≡ Less)
    (ties : (a b : X) → P a → P b → R a b ≡ Equal → a ≡ b) where
  abbrev pub pick : X → X → X
  pick a b = cond (is_lt (R b a)) b a

  pub pick_comm : (a b : X) → P a → P b → pick a b ≡ pick b a
  pick_comm a b p q = by (R b a) refl
    where
      by : (r : Ordering) → R b a ≡ r → pick a b ≡ pick b a
      by Less h = let g : R a b ≡ Greater = antisymm a b ∙ ap ordering_reverse h in rw (h, g) refl
      by Equal h = let g : R a b ≡ Equal = antisymm a b ∙ ap ordering_reverse h in rw (h, g) (ties a b p q g)
      by Greater h = let g : R a b ≡ Less = antisymm a b ∙ ap ordering_reverse h in rw (h, g) refl

  pub pick_assoc : (a b c : X) → P a → P b → P c → pick (pick a b) c ≡ pick a (pick b c)
  pick_assoc a b c pa pb pc = by (R b a) refl (R c b) refl
    where
      by : (x : Ordering) → R b a ≡ x → (y : Ordering) → R c b ≡ y → cond (is_lt (R c (cond (is_lt x) b a))) c (cond (is_lt x) b a) ≡ cond (is_lt (R (cond (is_lt y) c b) a)) (cond (is_lt y) c b) a
      by Less h Less k = let g : R c a ≡ Less = trans c b a pc pb pa k h in rw (k, g) refl
      by Less h Equal k = rw (k, h) refl
      by Less h Greater k = rw (k, h) refl
      by Equal h Less k = refl
      by Equal h Equal k = let same : b ≡ a = ties b a pb pa h in let g : R c a ≡ Equal = ap (R c) (sym same) ∙ k in rw (g, h) refl
      by Equal h Greater k = let same : b ≡ a = ties b a pb pa h in let g : R c a ≡ Greater = ap (R c) (sym same) ∙ k in rw (g, h) refl
      by Greater h Less k = refl
      by Greater h Equal k = let same : c ≡ b = ties c b pc pb k in let g : R c a ≡ Greater = ap (λ z. R z a) same ∙ h in rw (g, h) refl
      by Greater h Greater k =
          let u : R b c ≡ Less = antisymm b c ∙ ap ordering_reverse k in
          let v : R a b ≡ Less = antisymm a b ∙ ap ordering_reverse h in
          let w : R a c ≡ Less = trans a b c pa pb pc v u in
          let g : R c a ≡ Greater = antisymm c a ∙ ap ordering_reverse w in
          rw (g, h) refl

-- ---- the order of values in lowest terms, NaN last

nan_not_less : (x y : XFrac) → is_not_a_number x ≡ true → total_order x y ≡ Less → ⊥
nan_not_less NaN (Fin g) n h = cc
nan_not_less NaN PosInf n h = cc
nan_not_less NaN NegInf n h = cc
nan_not_less NaN NaN n h = cc
nan_not_less (Fin f) y n h = cc
nan_not_less PosInf y n h = cc
nan_not_less NegInf y n h = cc

below_nan : (x z : XFrac) → is_not_a_number x ≡ false → is_not_a_number z ≡ true → total_order x z ≡ Less
below_nan (Fin f) NaN n h = refl
below_nan PosInf NaN n h = refl
below_nan NegInf NaN n h = refl
below_nan NaN z n h = absurd (cc)
below_nan x (Fin g) n h = absurd (cc)
below_nan x PosInf n h = absurd (cc)
below_nan x NegInf n h = absurd (cc)

values_turned : OrderIsReversed → (down : Bool) (a b : XFrac) → value_order down a b ≡ ordering_reverse (value_order down b a)
values_turned reversed true a b = flipped (is_not_a_number a) (is_not_a_number b) (total_order a b) (total_order b a) (reversed b a) (reversed a b)
values_turned reversed false a b = reversed b a

either_equal : (b : Bool) (o p : Ordering) (X : Type 0) → (o ≡ Equal → X) → (p ≡ Equal → X) → cond b p o ≡ Equal → X
either_equal true o p X f g h = g h
either_equal false o p X f g h = f h

values_tie : EqualLowestIsSame → (down : Bool) (a b : XFrac) → InLowestTerms a → InLowestTerms b → value_order down a b ≡ Equal → a ≡ b
values_tie equal true a b p q h = either_equal (not (is_not_a_number a || is_not_a_number b)) (total_order a b) (total_order b a) (a ≡ b) (equal a b p q) (λ e. sym (equal b a q p e)) h
values_tie equal false a b p q h = equal a b p q h

module _ (transitive : LessOfAnyIsTransitive) (has : LowestHasDenominator) where
  less_carries : (a b c : XFrac) → InLowestTerms a → InLowestTerms b → InLowestTerms c → total_order a b ≡ Less → total_order b c ≡ Less → total_order a c ≡ Less
  less_carries a b c p q r = transitive a b c (has a p) (has b q) (has c r)

  down_carries : (a b c : XFrac) → InLowestTerms a → InLowestTerms b → InLowestTerms c → (x y z : Bool) → is_not_a_number a ≡ x → is_not_a_number b ≡ y → is_not_a_number c ≡ z
      → cond (not (x || y)) (total_order b a) (total_order a b) ≡ Less → cond (not (y || z)) (total_order c b) (total_order b c) ≡ Less → cond (not (x || z)) (total_order c a) (total_order a c) ≡ Less
  down_carries a b c p q r true y z ea eb ec h k = absurd (nan_not_less a b ea h)
  down_carries a b c p q r false true z ea eb ec h k = absurd (nan_not_less b c eb k)
  down_carries a b c p q r false false true ea eb ec h k = below_nan a c ea ec
  down_carries a b c p q r false false false ea eb ec h k = less_carries c b a r q p k h

  values_carry : (down : Bool) (a b c : XFrac) → InLowestTerms a → InLowestTerms b → InLowestTerms c → value_order down a b ≡ Less → value_order down b c ≡ Less → value_order down a c ≡ Less
  values_carry true a b c p q r h k = down_carries a b c p q r (is_not_a_number a) (is_not_a_number b) (is_not_a_number c) refl refl refl h k
  values_carry false a b c p q r h k = less_carries a b c p q r h k

-- ---- the least and the greatest

lesser_nan : (a : XFrac) → lesser a NaN ≡ a
lesser_nan (Fin f) = refl
lesser_nan PosInf = refl
lesser_nan NegInf = refl
lesser_nan NaN = refl

greater_nan : (a : XFrac) → greater a NaN ≡ a
greater_nan (Fin f) = refl
greater_nan PosInf = refl
greater_nan NegInf = refl
greater_nan NaN = refl

chosen : (P : XFrac → Type 0) (b : Bool) (x y : XFrac) → P x → P y → P (cond b x y)
chosen P true x y p q = p
chosen P false x y p q = q

lesser_keeps : (P : XFrac → Type 0) (a b : XFrac) → P a → P b → P (lesser a b)
lesser_keeps P a b p q = chosen P (is_not_a_number a || compares Lt b a) b a q p

greater_keeps : (P : XFrac → Type 0) (a b : XFrac) → P a → P b → P (greater a b)
greater_keeps P a b p q = chosen P (is_not_a_number a || compares Gt b a) b a q p

pub least_number : (xs : List XFrac) → AreNumbers xs → IsNumber (least xs)
least_number xs n = folded IsNumber lesser (lesser_keeps IsNumber) NaN xs tt n

pub greatest_number : (xs : List XFrac) → AreNumbers xs → IsNumber (greatest xs)
greatest_number xs n = folded IsNumber greater (greater_keeps IsNumber) NaN xs tt n

lesser_by : (a b : XFrac) → lesser a b ≡ cond (is_lt (value_order false b a)) b a
lesser_by (Fin f) (Fin g) = refl
lesser_by (Fin f) PosInf = refl
lesser_by (Fin f) NegInf = refl
lesser_by (Fin f) NaN = refl
lesser_by PosInf (Fin g) = refl
lesser_by PosInf PosInf = refl
lesser_by PosInf NegInf = refl
lesser_by PosInf NaN = refl
lesser_by NegInf (Fin g) = refl
lesser_by NegInf PosInf = refl
lesser_by NegInf NegInf = refl
lesser_by NegInf NaN = refl
lesser_by NaN (Fin g) = refl
lesser_by NaN PosInf = refl
lesser_by NaN NegInf = refl
lesser_by NaN NaN = refl

turned_test : (o : Ordering) → is_gt (ordering_reverse o) ≡ is_lt o
turned_test Less = refl
turned_test Equal = refl
turned_test Greater = refl

module _ (equal : EqualLowestIsSame) (reversed : OrderIsReversed) (transitive : LessOfAnyIsTransitive) (has : LowestHasDenominator) where
  greater_by : (a b : XFrac) → greater a b ≡ cond (is_lt (value_order true b a)) b a
  greater_by (Fin f) (Fin g) = ap (λ t. cond t (Fin g) (Fin f)) (ap is_gt (reversed (Fin f) (Fin g)) ∙ turned_test (total_order (Fin f) (Fin g)))
  greater_by (Fin f) PosInf = refl
  greater_by (Fin f) NegInf = refl
  greater_by (Fin f) NaN = refl
  greater_by PosInf (Fin g) = refl
  greater_by PosInf PosInf = refl
  greater_by PosInf NegInf = refl
  greater_by PosInf NaN = refl
  greater_by NegInf (Fin g) = refl
  greater_by NegInf PosInf = refl
  greater_by NegInf NegInf = refl
  greater_by NegInf NaN = refl
  greater_by NaN (Fin g) = refl
  greater_by NaN PosInf = refl
  greater_by NaN NegInf = refl
  greater_by NaN NaN = refl

  abbrev chooser : Bool → XFrac → XFrac → XFrac
  chooser down a b = cond (is_lt (value_order down b a)) b a

  -- an operation that chooses by the order
  module _ (down : Bool) (f : XFrac → XFrac → XFrac) (closed : (a b : XFrac) → InLowestTerms a → InLowestTerms b → InLowestTerms (f a b)) (is : (a b : XFrac) → f a b ≡ cond (is_lt (value_order down b a)) b a) (nan : (a : XFrac) → f a NaN ≡ a) where
    assoc : (a b c : XFrac) → InLowestTerms a → InLowestTerms b → InLowestTerms c → f (f a b) c ≡ f a (f b c)
    assoc a b c p q r =
        is (f a b) c ∙ ap (λ z. chooser down z c) (is a b)
        ∙ pick_assoc (value_order down) InLowestTerms (values_turned reversed down) (values_carry transitive has down) (values_tie equal down) a b c p q r
        ∙ sym (is a (f b c) ∙ ap (chooser down a) (is b c))

    commutes : (a b : XFrac) → InLowestTerms a → InLowestTerms b → f a b ≡ f b a
    commutes a b p q = is a b ∙ pick_comm (value_order down) InLowestTerms (values_turned reversed down) (values_carry transitive has down) (values_tie equal down) a b p q ∙ sym (is b a)

    pub chosen_parts : (parts : List (List XFrac)) → AllLowest (flat parts) → fold f NaN (map (fold f NaN) parts) ≡ fold f NaN (flat parts)
    chosen_parts = fold_parts InLowestTerms f NaN tt closed assoc commutes (λ a p. nan a)

  pub extremes : Extremes
  extremes =
      record {
        least_parts = chosen_parts false lesser (lesser_keeps InLowestTerms) lesser_by lesser_nan;
        greatest_parts = chosen_parts true greater (greater_keeps InLowestTerms) greater_by greater_nan;
      }
