-- Insertion into a sorted list, by any order that tells all items of a kind apart.
use Rattle.std.proofs.Common.{◌≡◌, ◌∙◌, Bool, true, false, cond, List, [], ◌∷◌, fold, refl, sym, ap, subst}
use Rattle.std.specs.List.{All}
use Rattle.std.proofs.lemmas.List.Elements.{All-head, All-tail, All-cons, All-nil}
use Rattle.window_fn.specs.Aggregates.{inserted}
use Rattle.std.specs.Prelude.{⊤}
use Rattle.window_fn.proofs.Permuting.{IsOrderless, fold-last}

-- one way, carried over, and two that are in neither way are one
pub record IsStrictOrder {A : Type 0} (P : A → Type 0) (lt : A → A → Bool) : Type 0 where
  pub one_way : (x y : A) → P x → P y → lt x y ≡ true → lt y x ≡ false
  pub carries : (x y z : A) → P x → P y → P z → lt x y ≡ true → lt y z ≡ true → lt x z ≡ true
  pub same : (x y : A) → P x → P y → lt x y ≡ false → lt y x ≡ false → x ≡ y

-- none is below the one before it
abbrev pub Rises : {A : Type 0} → (A → A → Bool) → List A → Type 0
Rises lt [] = ⊤
Rises lt (x ∷ []) = ⊤
Rises lt (x ∷ y ∷ ys) = (lt y x ≡ false) × Rises lt (y ∷ ys)

pub rises-tail : {A : Type 0} (lt : A → A → Bool) (x : A) (xs : List A) → Rises lt (x ∷ xs) → Rises lt xs
rises-tail lt x [] up = tt
rises-tail lt x (y ∷ ys) up = up.1

module _ {A : Type 0} (P : A → Type 0) (lt : A → A → Bool) (o : IsStrictOrder P lt) where
  here : (x y : A) (ys : List A) → lt x y ≡ true → inserted lt (y ∷ ys) x ≡ x ∷ y ∷ ys
  here x y ys e = simp e

  later : (x y : A) (ys : List A) → lt x y ≡ false → inserted lt (y ∷ ys) x ≡ y ∷ inserted lt ys x
  later x y ys e = simp e

  keeps_kind : (b : Bool) (x y : A) (ys zs : List A) → P x → P y → All P ys → All P zs → All P (cond b (x ∷ y ∷ ys) (y ∷ zs))
  keeps_kind true x y ys zs px py all more = All-cons P x (y ∷ ys) px (All-cons P y ys py all)
  keeps_kind false x y ys zs px py all more = All-cons P y zs py more

  all_inserted : (ys : List A) (x : A) → All P ys → P x → All P (inserted lt ys x)
  all_inserted [] x all px = All-cons P x [] px (All-nil P)
  all_inserted (y ∷ ys) x all px =
      keeps_kind (lt x y) x y ys (inserted lt ys x) px (All-head P y ys all) (All-tail P y ys all) (all_inserted ys x (All-tail P y ys all) px)

  past_one : (z : A) (zs : List A) (x y : A) → P x → P y → P z → lt x y ≡ true → inserted lt (inserted lt zs x) y ≡ inserted lt (inserted lt zs y) x →
      (b c : Bool) → lt x z ≡ b → lt y z ≡ c → inserted lt (inserted lt (z ∷ zs) x) y ≡ inserted lt (inserted lt (z ∷ zs) y) x
  past_one z zs x y px py pz e rest true true ex ey =
      ap (λ l. inserted lt l y) (here x z zs ex) ∙ (later y x (z ∷ zs) (o.one_way x y px py e)
      ∙ (ap (λ l. x ∷ l) (here y z zs ey) ∙ (sym (here x y (z ∷ zs) e) ∙ ap (λ l. inserted lt l x) (sym (here y z zs ey)))))
  past_one z zs x y px py pz e rest true false ex ey =
      ap (λ l. inserted lt l y) (here x z zs ex) ∙ (later y x (z ∷ zs) (o.one_way x y px py e)
      ∙ (ap (λ l. x ∷ l) (later y z zs ey) ∙ (sym (here x z (inserted lt zs y) ex) ∙ ap (λ l. inserted lt l x) (sym (later y z zs ey)))))
  past_one z zs x y px py pz e rest false true ex ey = let xz : lt x z ≡ true = o.carries x y z px py pz e ey in absurd (cc)
  past_one z zs x y px py pz e rest false false ex ey =
      ap (λ l. inserted lt l y) (later x z zs ex) ∙ (later y z (inserted lt zs x) ey
      ∙ (ap (λ l. z ∷ l) rest ∙ (sym (later x z (inserted lt zs y) ex) ∙ ap (λ l. inserted lt l x) (sym (later y z zs ey)))))

  -- of two in order the lesser first or last comes to the same
  in_order : (zs : List A) (x y : A) → All P zs → P x → P y → lt x y ≡ true → inserted lt (inserted lt zs x) y ≡ inserted lt (inserted lt zs y) x
  in_order [] x y all px py e = later y x [] (o.one_way x y px py e) ∙ sym (here x y [] e)
  in_order (z ∷ zs) x y all px py e =
      past_one z zs x y px py (All-head P z zs all) e (in_order zs x y (All-tail P z zs all) px py e) (lt x z) (lt y z) refl refl

  either_way : (zs : List A) (x y : A) → All P zs → P x → P y → (b c : Bool) → lt x y ≡ b → lt y x ≡ c → inserted lt (inserted lt zs x) y ≡ inserted lt (inserted lt zs y) x
  either_way zs x y all px py true c e f = in_order zs x y all px py e
  either_way zs x y all px py false true e f = sym (in_order zs y x all py px f)
  either_way zs x y all px py false false e f = subst (λ w. inserted lt (inserted lt zs x) w ≡ inserted lt (inserted lt zs w) x) (o.same x y px py e f) refl

  pub insertion_is_orderless : IsOrderless P (All P) (inserted lt)
  insertion_is_orderless = record {
    keeps = λ b x q p. all_inserted b x q p;
    either = λ b x y q px py. either_way b x y q px py (lt x y) (lt y x) refl refl;
  }

  rises-same : (x y : A) (ys : List A) → x ≡ y → Rises lt (y ∷ ys) → Rises lt (x ∷ ys)
  rises-same x y ys e up = subst (λ w. Rises lt (w ∷ ys)) (sym e) up

  at_front : (y : A) (ys : List A) (x : A) → P x → P y → lt y x ≡ false → (x ≡ y → inserted lt ys x ≡ x ∷ ys) → (b : Bool) → lt x y ≡ b → inserted lt (y ∷ ys) x ≡ x ∷ y ∷ ys
  at_front y ys x px py up rest true e = here x y ys e
  at_front y ys x px py up rest false e =
      let same : x ≡ y = o.same x y px py e up in
      later x y ys e ∙ (ap (λ l. y ∷ l) (rest same) ∙ (ap (λ w. w ∷ x ∷ ys) (sym same) ∙ ap (λ w. x ∷ w ∷ ys) same))

  -- an item that none of a sorted list is below goes to its front
  inserted-first : (ys : List A) (x : A) → P x → All P ys → Rises lt (x ∷ ys) → inserted lt ys x ≡ x ∷ ys
  inserted-first [] x px all up = refl
  inserted-first (y ∷ ys) x px all up =
      at_front y ys x px (All-head P y ys all) up.0 (λ e. inserted-first ys x px (All-tail P y ys all) (rises-same x y ys e up.1)) (lt x y) refl

  pub sorted_stays : (xs : List A) → All P xs → Rises lt xs → fold (inserted lt) [] xs ≡ xs
  sorted_stays [] all up = refl
  sorted_stays (x ∷ xs) all up =
      let px = All-head P x xs all in
      let rest = All-tail P x xs all in
      fold-last P (All P) (inserted lt) insertion_is_orderless xs x [] (All-nil P) px rest
      ∙ (ap (λ l. inserted lt l x) (sorted_stays xs rest (rises-tail lt x xs up)) ∙ inserted-first xs x px rest up)
