-- The latest of some items in an order is one of them, and none is later.
use Rattle.std.proofs.Common.{◌≡◌, Bool, true, false, cond, List, [], ◌∷◌, fold, refl, sym, ap, subst}
use Rattle.std.specs.List.{All, Contains}
use Rattle.std.proofs.lemmas.List.Elements.{All-head, All-tail, All-cons, All-nil, All-contains_itself}
use Rattle.xfrac.specs.Laws.{IsNumber, EqualIsSame, LessIsTransitive, OrderIsReversed}
use Rattle.xfrac.specs.declared.value.XFrac.{XFrac}
use Rattle.window_fn.specs.Aggregates.{greatest, is_before, least}
use Rattle.window_fn.specs.Laws.{GreatestIsGreatest, LeastIsLeast}
use Rattle.window_fn.proofs.Choosing.{after_is_strict, greater_picks, is_after, lesser_picks, picked}
use Rattle.window_fn.proofs.Insertion.{IsStrictOrder}
use Rattle.window_fn.proofs.Ranking.{before_is_strict}

module _ {A : Type 0} (lt : A → A → Bool) where
  pick_keeps : (Q : A → Type 0) (b : Bool) (m x : A) → Q m → Q x → Q (cond b x m)
  pick_keeps Q true m x qm qx = qx
  pick_keeps Q false m x qm qx = qm

  fold_keeps : (Q : A → Type 0) (xs : List A) (m : A) → Q m → All Q xs → Q (fold (picked lt) m xs)
  fold_keeps Q [] m qm all = qm
  fold_keeps Q (x ∷ xs) m qm all = fold_keeps Q xs (picked lt m x) (pick_keeps Q (lt m x) m x qm (All-head Q x xs all)) (All-tail Q x xs all)

  -- the latest is one of the items
  pub latest_is_one : (x : A) (xs : List A) → Contains (x ∷ xs) (fold (picked lt) x xs)
  latest_is_one x xs =
      let Q : A → Type 0 = Contains (x ∷ xs) in
      let all : All Q (x ∷ xs) = All-contains_itself (x ∷ xs) in
      fold_keeps Q xs x (All-head Q x xs all) (All-tail Q x xs all)

  module _ (P : A → Type 0) (o : IsStrictOrder P lt) where
    not_itself : (x : A) → P x → (b : Bool) → lt x x ≡ b → lt x x ≡ false
    not_itself x px true e = o.one_way x x px px e
    not_itself x px false e = e

    not_between : (m x w : A) → P m → P x → P w → lt m w ≡ false → lt m x ≡ true → (b : Bool) → lt x w ≡ b → lt x w ≡ false
    not_between m x w pm px pw h e true f = let g : lt m w ≡ true = o.carries m x w pm px pw e f in absurd (cc)
    not_between m x w pm px pw h e false f = f

    no_later : (m x w : A) → P m → P x → P w → lt m w ≡ false → (b : Bool) → lt m x ≡ b → lt (cond b x m) w ≡ false
    no_later m x w pm px pw h true e = not_between m x w pm px pw h e (lt x w) refl
    no_later m x w pm px pw h false e = h

    not_picked : (m x : A) → P m → P x → (b : Bool) → lt m x ≡ b → lt (cond b x m) x ≡ false
    not_picked m x pm px true e = not_itself x px (lt x x) refl
    not_picked m x pm px false e = e

    stays : (xs : List A) (m w : A) → P m → P w → All P xs → lt m w ≡ false → lt (fold (picked lt) m xs) w ≡ false
    stays [] m w pm pw all h = h
    stays (x ∷ xs) m w pm pw all h =
        let px = All-head P x xs all in
        stays xs (picked lt m x) w (pick_keeps P (lt m x) m x pm px) pw (All-tail P x xs all) (no_later m x w pm px pw h (lt m x) refl)

    none_later : (xs : List A) (m : A) → P m → All P xs → All (λ w. lt (fold (picked lt) m xs) w ≡ false) xs
    none_later [] m pm all = All-nil (λ w. lt m w ≡ false)
    none_later (x ∷ xs) m pm all =
        let px = All-head P x xs all in
        let pp = pick_keeps P (lt m x) m x pm px in
        All-cons (λ w. lt (fold (picked lt) (picked lt m x) xs) w ≡ false) x xs
        (stays xs (picked lt m x) x pp px (All-tail P x xs all) (not_picked m x pm px (lt m x) refl)) (none_later xs (picked lt m x) pp (All-tail P x xs all))

    -- none of the items is later than the latest
    pub none_is_later : (x : A) (xs : List A) → All P (x ∷ xs) → All (λ w. lt (fold (picked lt) x xs) w ≡ false) (x ∷ xs)
    none_is_later x xs all =
        let px = All-head P x xs all in
        All-cons (λ w. lt (fold (picked lt) x xs) w ≡ false) x xs (stays xs x x px px (All-tail P x xs all) (not_itself x px (lt x x) refl)) (none_later xs x px (All-tail P x xs all))

pub greatest_is : EqualIsSame → OrderIsReversed → LessIsTransitive → GreatestIsGreatest
greatest_is equal reversed transitive value values numbers =
    let e : greatest (value ∷ values) ≡ fold (picked is_before) value values = ap (λ (f : XFrac → XFrac → XFrac). fold f value values) (λ i m x. greater_picks reversed m x i) in
    record {
      one = subst (Contains (value ∷ values)) (sym e) (latest_is_one is_before value values);
      none_after = subst (λ most. All (λ w. is_before most w ≡ false) (value ∷ values)) (sym e) (none_is_later is_before IsNumber (before_is_strict equal reversed transitive) value values numbers);
    }

pub least_is : EqualIsSame → OrderIsReversed → LessIsTransitive → LeastIsLeast
least_is equal reversed transitive value values numbers =
    let e : least (value ∷ values) ≡ fold (picked is_after) value values = ap (λ (f : XFrac → XFrac → XFrac). fold f value values) (λ i m x. lesser_picks m x i) in
    record {
      one = subst (Contains (value ∷ values)) (sym e) (latest_is_one is_after value values);
      none_below = subst (λ least. All (λ w. is_after least w ≡ false) (value ∷ values)) (sym e) (none_is_later is_after IsNumber (after_is_strict equal reversed transitive) value values numbers);
    }
