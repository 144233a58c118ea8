-- The least and the greatest value of two lists.
use Rattle.std.proofs.Common.{◌≡◌, ◌∙◌, Bool, true, false, cond, List, [], ◌∷◌, ◌++◌, fold, refl, sym, ap, subst}
use Rattle.std.specs.List.{All}
use Rattle.std.specs.Ordering.{is_gt, is_lt, ordering_reverse}
use Rattle.std.specs.declared.cmp.Ordering.{Ordering}
use Rattle.std.specs.declared.cmp.Ordering.TheVariants.{Less, Equal, Greater}
use Rattle.std.proofs.lemmas.List.Elements.{All-head, All-tail}
use Rattle.xfrac.specs.Kinds.{is_not_a_number}
use Rattle.xfrac.specs.Laws.{EqualIsSame, IsNumber, LessIsTransitive, OrderIsReversed}
use Rattle.xfrac.specs.Order.{total_order}
use Rattle.xfrac.specs.declared.value.XFrac.{XFrac}
use Rattle.xfrac.specs.declared.value.XFrac.TheVariants.{Fin, PosInf, NegInf, NaN}
use Rattle.window_fn.specs.Aggregates.{greater, greatest, least, lesser}

-- ---- folds of a choice that doesn't depend on brackets

module _ {A : Type 0} (P : A → Type 0) (f : A → A → A) (e : A) where
  -- a choice among numbers, with one that gives way to each
  pub record IsChoice : Type 0 where
    pub keeps : (m x : A) → P m → P x → P (f m x)
    pub blank : P e
    pub left : (x : A) → f e x ≡ x
    pub right : (m : A) → f m e ≡ m
    pub brackets : (m x y : A) → P m → P x → P y → f (f m x) y ≡ f m (f x y)

module _ {A : Type 0} (P : A → Type 0) (f : A → A → A) (e : A) (c : IsChoice P f e) where
  fold_keeps : (xs : List A) (m : A) → P m → All P xs → P (fold f m xs)
  fold_keeps [] m pm all = pm
  fold_keeps (x ∷ xs) m pm all = fold_keeps xs (f m x) (c.keeps m x pm (All-head P x xs all)) (All-tail P x xs all)

  fold_from : (xs : List A) (m : A) → P m → All P xs → fold f m xs ≡ f m (fold f e xs)
  fold_from [] m pm all = sym (c.right m)
  fold_from (x ∷ xs) m pm all =
      let px = All-head P x xs all in
      let rest = All-tail P x xs all in
      fold_from xs (f m x) (c.keeps m x pm px) rest
      ∙ c.brackets m x (fold f e xs) pm px (fold_keeps xs e c.blank rest)
      ∙ ap (f m) (sym (fold_from xs x px rest) ∙ ap (λ (z : A). fold f z xs) (sym (c.left x)))

  fold_joined : (xs ys : List A) (m : A) → fold f m (xs ++ ys) ≡ fold f (fold f m xs) ys
  fold_joined [] ys m = refl
  fold_joined (x ∷ xs) ys m = fold_joined xs ys (f m x)

  pub fold_both : (xs ys : List A) → All P xs → All P ys → fold f e (xs ++ ys) ≡ f (fold f e xs) (fold f e ys)
  fold_both xs ys p q = fold_joined xs ys e ∙ fold_from ys (fold f e xs) (fold_keeps xs e c.blank p) q

-- ---- the later of two in a strict order

abbrev pick : {A : Type 0} → (A → A → Bool) → A → A → A
pick lt m x = cond (lt m x) x m

module _ {A : Type 0} (P : A → Type 0) (lt : A → A → Bool) where
  record IsStrict : Type 0 where
    one_way : (x y : A) → P x → P y → lt x y ≡ true → lt y x ≡ false
    carries : (x y z : A) → P x → P y → P z → lt x y ≡ true → lt y z ≡ true → lt x z ≡ true
    same : (x y : A) → P x → P y → lt x y ≡ false → lt y x ≡ false → x ≡ y

pick_keeps : {A : Type 0} (P : A → Type 0) (b : Bool) (m x : A) → P m → P x → P (cond b x m)
pick_keeps P true m x pm px = px
pick_keeps P false m x pm px = pm

module _ {A : Type 0} (P : A → Type 0) (lt : A → A → Bool) (o : IsStrict P lt) where
  never_later : (m x y : A) → P m → P x → P y → lt m x ≡ false → lt x y ≡ false → (b c : Bool) → lt m y ≡ b → lt x m ≡ c → lt m y ≡ false
  never_later m x y pm px py h k false c e f = e
  never_later m x y pm px py h k true true e f = let g : lt x y ≡ true = o.carries x m y px pm py f e in absurd (cc)
  never_later m x y pm px py h k true false e f = let g : m ≡ x = o.same m x pm px h f in let i : lt x y ≡ true = subst (λ (z : A). lt z y ≡ true) g e in absurd (cc)

  picks : (m x y : A) → P m → P x → P y → (b c : Bool) → lt m x ≡ b → lt x y ≡ c → pick lt (cond b x m) y ≡ pick lt m (cond c y x)
  picks m x y pm px py true true e f = let g : lt m y ≡ true = o.carries m x y pm px py e f in ap (λ b. cond b y x) f ∙ sym (ap (λ b. cond b y m) g)
  picks m x y pm px py true false e f = ap (λ b. cond b y x) f ∙ sym (ap (λ b. cond b x m) e)
  picks m x y pm px py false true e f = refl
  picks m x y pm px py false false e f = ap (λ b. cond b y m) (never_later m x y pm px py e f (lt m y) (lt x m) refl refl) ∙ sym (ap (λ b. cond b x m) e)

module _ {A : Type 0} (P : A → Type 0) (lt : A → A → Bool) (o : IsStrict P lt) where
  turned_strict : IsStrict P (λ (x y : A). lt y x)
  turned_strict = record {
    one_way = λ x y px py h. o.one_way y x py px h;
    carries = λ x y z px py pz h k. o.carries z y x pz py px k h;
    same = λ x y px py h k. o.same x y px py k h;
  }

-- ---- the order of numbers

never_both : (o r : Ordering) → r ≡ ordering_reverse o → is_lt o ≡ true → is_lt r ≡ false
never_both Less r e h = ap is_lt e
never_both Equal r e h = ap is_lt e
never_both Greater r e h = absurd (cc)

is_less : (o : Ordering) → is_lt o ≡ true → o ≡ Less
is_less Less h = refl
is_less Equal h = absurd (cc)
is_less Greater h = absurd (cc)

is_equal : (o r : Ordering) → r ≡ ordering_reverse o → is_lt o ≡ false → is_lt r ≡ false → o ≡ Equal
is_equal Less r e h k = absurd (cc)
is_equal Equal r e h k = refl
is_equal Greater r e h k = let g : is_lt r ≡ true = ap is_lt e in absurd (cc)

turned : (o r : Ordering) → r ≡ ordering_reverse o → is_gt r ≡ is_lt o
turned Less r e = ap is_gt e
turned Equal r e = ap is_gt e
turned Greater r e = ap is_gt e

abbrev below : XFrac → XFrac → Bool
below a b = is_lt (total_order a b)

below_is_strict : EqualIsSame → OrderIsReversed → LessIsTransitive → IsStrict IsNumber below
below_is_strict equal reversed transitive = record {
  one_way = λ x y px py h. never_both (total_order x y) (total_order y x) (reversed x y) h;
  carries = λ x y z px py pz h k. ap is_lt (transitive x y z px py pz (is_less (total_order x y) h) (is_less (total_order y z) k));
  same = λ x y px py h k. equal x y px py (is_equal (total_order x y) (total_order y x) (reversed x y) h k);
}

-- ---- choices among numbers to which NaN gives way

is_nan : (v : XFrac) → is_not_a_number v ≡ true → v ≡ NaN
is_nan (Fin f) h = absurd (cc)
is_nan PosInf h = absurd (cc)
is_nan NegInf h = absurd (cc)
is_nan NaN h = refl

module _ (f : XFrac → XFrac → XFrac) (lt : XFrac → XFrac → Bool) (o : IsStrict IsNumber lt) (left : (x : XFrac) → f NaN x ≡ x) (right : (m : XFrac) → f m NaN ≡ m)
    (real : (m x : XFrac) → is_not_a_number m ≡ false → is_not_a_number x ≡ false → f m x ≡ pick lt m x) where
  keeps_number : (m x : XFrac) → IsNumber m → IsNumber x → (a b : Bool) → is_not_a_number m ≡ a → is_not_a_number x ≡ b → IsNumber (f m x)
  keeps_number m x pm px true b e g = subst IsNumber (sym (ap (λ (z : XFrac). f z x) (is_nan m e) ∙ left x)) px
  keeps_number m x pm px false true e g = subst IsNumber (sym (ap (f m) (is_nan x g) ∙ right m)) pm
  keeps_number m x pm px false false e g = subst IsNumber (sym (real m x e g)) (pick_keeps IsNumber (lt m x) m x pm px)

  reals : (m x y : XFrac) → IsNumber m → IsNumber x → IsNumber y → is_not_a_number m ≡ false → is_not_a_number x ≡ false → is_not_a_number y ≡ false → f (f m x) y ≡ f m (f x y)
  reals m x y pm px py a b c =
      let front : is_not_a_number (pick lt m x) ≡ false = pick_keeps (λ (v : XFrac). is_not_a_number v ≡ false) (lt m x) m x a b in
      let behind : is_not_a_number (pick lt x y) ≡ false = pick_keeps (λ (v : XFrac). is_not_a_number v ≡ false) (lt x y) x y b c in
      ap (λ (z : XFrac). f z y) (real m x a b) ∙ real (pick lt m x) y front c ∙ picks IsNumber lt o m x y pm px py (lt m x) (lt x y) refl refl
      ∙ sym (real m (pick lt x y) a behind) ∙ ap (f m) (sym (real x y b c))

  bracketed : (m x y : XFrac) → IsNumber m → IsNumber x → IsNumber y → (a b c : Bool) → is_not_a_number m ≡ a → is_not_a_number x ≡ b → is_not_a_number y ≡ c → f (f m x) y ≡ f m (f x y)
  bracketed m x y pm px py true b c e g h = let n = is_nan m e in ap (λ (z : XFrac). f (f z x) y) n ∙ ap (λ (z : XFrac). f z y) (left x) ∙ sym (left (f x y)) ∙ sym (ap (λ (z : XFrac). f z (f x y)) n)
  bracketed m x y pm px py false true c e g h = let n = is_nan x g in ap (λ (z : XFrac). f (f m z) y) n ∙ ap (λ (z : XFrac). f z y) (right m) ∙ ap (f m) (sym (left y)) ∙ sym (ap (λ (z : XFrac). f m (f z y)) n)
  bracketed m x y pm px py false false true e g h = let n = is_nan y h in ap (λ (z : XFrac). f (f m x) z) n ∙ right (f m x) ∙ ap (f m) (sym (right x)) ∙ sym (ap (λ (z : XFrac). f m (f x z)) n)
  bracketed m x y pm px py false false false e g h = reals m x y pm px py e g h

  number_choice : IsChoice IsNumber f NaN
  number_choice = record {
    keeps = λ m x pm px. keeps_number m x pm px (is_not_a_number m) (is_not_a_number x) refl refl;
    blank = tt;
    left = left;
    right = right;
    brackets = λ m x y pm px py. bracketed m x y pm px py (is_not_a_number m) (is_not_a_number x) (is_not_a_number y) refl refl refl;
  }

-- ---- the lesser and the greater of two

lesser_right : (m : XFrac) → lesser m NaN ≡ m
lesser_right (Fin f) = refl
lesser_right PosInf = refl
lesser_right NegInf = refl
lesser_right NaN = refl

greater_right : (m : XFrac) → greater m NaN ≡ m
greater_right (Fin f) = refl
greater_right PosInf = refl
greater_right NegInf = refl
greater_right NaN = refl

lesser_real : (m x : XFrac) → is_not_a_number m ≡ false → is_not_a_number x ≡ false → lesser m x ≡ pick (λ (a b : XFrac). below b a) m x
lesser_real m x e g = rw (e, g) refl

greater_real : OrderIsReversed → (m x : XFrac) → is_not_a_number m ≡ false → is_not_a_number x ≡ false → greater m x ≡ pick below m x
greater_real reversed m x e g = rw (e, g) (ap (λ t. cond t x m) (turned (total_order m x) (total_order x m) (reversed m x)))

pub least_both : EqualIsSame → OrderIsReversed → LessIsTransitive → (xs ys : List XFrac) → All IsNumber xs → All IsNumber ys → least (xs ++ ys) ≡ lesser (least xs) (least ys)
least_both equal reversed transitive xs ys p q =
    fold_both IsNumber lesser NaN (number_choice lesser (λ (a b : XFrac). below b a) (turned_strict IsNumber below (below_is_strict equal reversed transitive)) (λ x. refl) lesser_right lesser_real) xs ys p q

pub greatest_both : EqualIsSame → OrderIsReversed → LessIsTransitive → (xs ys : List XFrac) → All IsNumber xs → All IsNumber ys → greatest (xs ++ ys) ≡ greater (greatest xs) (greatest ys)
greatest_both equal reversed transitive xs ys p q =
    fold_both IsNumber greater NaN (number_choice greater below (below_is_strict equal reversed transitive) (λ x. refl) greater_right (greater_real reversed)) xs ys p q
