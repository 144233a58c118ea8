-- What a counter lost among values that are lengthened and joined.
use Rattle.std.proofs.Common.{◌≡◌, ◌∙◌, ℕ, zero, suc, get_or, ◌+◌, ◌<◌, ◌≤◌, ◌^◌, Bool, true, false, List, [], ◌∷◌, ◌++◌, length, map, filter, Option, Some, None, IfSome, refl, sym, ap, subst, arith, append_assoc, append-nil, length-append}
use Rattle.std.specs.Prelude.{if◌then◌else◌}
use Rattle.std.specs.List.{zip}
use Rattle.std.proofs.lemmas.List.Elements.{All-append, All-cons, All-nil}
use Rattle.xfrac.specs.Laws.{IsNumber}
use Rattle.xfrac.specs.Order.{compares}
use Rattle.xfrac.specs.Sums.{Totals}
use Rattle.xfrac.specs.declared.value.CompareOp.TheVariants.{Lt}
use Rattle.xfrac.specs.declared.value.XFrac.{XFrac}
use Rattle.window_fn.specs.Increases.{lost}
use Rattle.window_fn.specs.Totals.{IsSumOf}
use Rattle.op_running.specs.Kept.{HaveRoom, IsLossOf, ends_of, last_from, seam}
use Rattle.op_running.specs.declared.losses.Loss.{Loss}
use Rattle.op_running.proofs.Sums.{few_both, few_most}

-- ---- what is lost

lost_next : (x y : XFrac) (ys : List XFrac) → lost (x ∷ y ∷ ys) ≡ seam x y ++ lost (y ∷ ys)
lost_next x y ys =
    let rest = filter (λ (p : XFrac × XFrac). compares Lt p.1 p.0) (zip (y ∷ ys) ys) in
    elim (compares Lt y x) as (λ (b : Bool). map (λ (p : XFrac × XFrac). p.0) (if b then (x, y) ∷ rest else rest) ≡ (if b then x ∷ [] else []) ++ map (λ (p : XFrac × XFrac). p.0) rest) [ true ↦ refl | false ↦ refl ]

lost_both : (x : XFrac) (xs : List XFrac) (y : XFrac) (ys : List XFrac) → lost (x ∷ xs ++ y ∷ ys) ≡ lost (x ∷ xs) ++ (seam (last_from x xs) y ++ lost (y ∷ ys))
lost_both x [] y ys = lost_next x y ys
lost_both x (z ∷ zs) y ys =
    lost_next x z (zs ++ y ∷ ys) ∙ ap (λ (r : List XFrac). seam x z ++ r) (lost_both z zs y ys)
    ∙ sym (append_assoc (seam x z) (lost (z ∷ zs)) (seam (last_from z zs) y ++ lost (y ∷ ys)))
    ∙ ap (λ (r : List XFrac). r ++ (seam (last_from z zs) y ++ lost (y ∷ ys))) (sym (lost_next x z zs))

last_both : (x : XFrac) (xs : List XFrac) (y : XFrac) (ys : List XFrac) → last_from x (xs ++ y ∷ ys) ≡ last_from y ys
last_both x [] y ys = refl
last_both x (z ∷ zs) y ys = last_both z zs y ys

one_most : (x y : XFrac) → length (seam x y) ≤ 1
one_most x y = elim (compares Lt y x) as (λ (b : Bool). length (if b then x ∷ [] else []) ≤ 1) [ true ↦ omega arith | false ↦ omega arith ]

length_lost : (x : XFrac) (xs : List XFrac) → length (lost (x ∷ xs)) ≤ length xs
length_lost x [] = omega arith
length_lost x (y ∷ ys) =
    let a = length_lost y ys in
    let b = one_most x y in
    let e : length (lost (x ∷ y ∷ ys)) ≡ length (seam x y) + length (lost (y ∷ ys)) = ap length (lost_next x y ys) ∙ length-append (seam x y) (lost (y ∷ ys)) in
    omega arith

length_all : (xs : List XFrac) → length (lost xs) ≤ length xs
length_all [] = omega arith
length_all (x ∷ xs) = let h = length_lost x xs in omega arith

one_pair : (p q : XFrac × XFrac) → Some p ≡ Some q → p ≡ q
one_pair p q e = cc

abbrev front : XFrac × XFrac → XFrac
front p = p.0

abbrev back : XFrac × XFrac → XFrac
back p = p.1

pub get_any : (xs : List XFrac) (i : ℕ) (d e : XFrac) → i < length xs → get_or xs i d ≡ get_or xs i e
get_any [] i d e h = absurd (omega arith)
get_any (x ∷ xs) zero d e h = refl
get_any (x ∷ xs) (suc i) d e h = get_any xs i d e (omega arith)

-- ---- what is kept

pub room : (k : Loss) (xs : List XFrac) → IsLossOf k xs → length xs < 2 ^ 65 → IfSome k.lost (λ t. t.count + 1 < 2 ^ 96)
room k xs h l = few_most k.lost (lost xs) h.is_lost (let m = length_all xs in omega arith)

pub more_first : (k : Loss) (v : XFrac) (xs : List XFrac) → IsNumber v → k.ends ≡ None → IsLossOf k xs → IsLossOf (record { ends = Some (v, v); lost = k.lost }) (xs ++ v ∷ [])
more_first k v [] n e h = record { numbers = All-cons IsNumber v [] n (All-nil IsNumber); is_ends = refl; is_lost = h.is_lost }
more_first k v (x ∷ xs) n e h = let f : None ≡ ends_of (x ∷ xs) = sym e ∙ h.is_ends in absurd (cc)

pub more_last : (k : Loss) (v a b : XFrac) (xs : List XFrac) (sum : Option Totals) → IsNumber v → k.ends ≡ Some (a, b) → ((ys : List XFrac) → IsSumOf k.lost ys → IsSumOf sum (ys ++ seam b v)) → IsLossOf k xs
    → IsLossOf (record { ends = Some (a, v); lost = sum }) (xs ++ v ∷ [])
more_last k v a b [] sum n e s h = let f : Some (a, b) ≡ ends_of [] = sym e ∙ h.is_ends in absurd (cc)
more_last k v a b (x ∷ xs) sum n e s h =
    let f : Some (a, b) ≡ Some (x, last_from x xs) = sym e ∙ h.is_ends in
    let first : a ≡ x = ap front (one_pair (a, b) (x, last_from x xs) f) in
    let last : b ≡ last_from x xs = ap back (one_pair (a, b) (x, last_from x xs) f) in
    record {
      numbers = All-append IsNumber (x ∷ xs) (v ∷ []) h.numbers (All-cons IsNumber v [] n (All-nil IsNumber));
      is_ends = ap (λ (z : XFrac). Some (z, v)) first ∙ ap (λ (z : XFrac). Some (x, z)) (sym (last_both x xs v []));
      is_lost = subst (IsSumOf sum)
          (ap (λ (z : XFrac). lost (x ∷ xs) ++ seam z v) last ∙ ap (λ (r : List XFrac). lost (x ∷ xs) ++ r) (sym (append-nil (seam (last_from x xs) v))) ∙ sym (lost_both x xs v []))
          (s (lost (x ∷ xs)) h.is_lost);
    }

pub none_first : (k b : Loss) (xs ys : List XFrac) → k.ends ≡ None → IsLossOf k xs → IsLossOf b ys → IsLossOf b (xs ++ ys)
none_first k b [] ys e h i = i
none_first k b (x ∷ xs) ys e h i = let f : None ≡ ends_of (x ∷ xs) = sym e ∙ h.is_ends in absurd (cc)

pub none_last : (k b : Loss) (xs ys : List XFrac) → b.ends ≡ None → IsLossOf k xs → IsLossOf b ys → IsLossOf k (xs ++ ys)
none_last k b xs [] e h i = subst (IsLossOf k) (sym (append-nil xs)) h
none_last k b xs (y ∷ ys) e h i = let f : None ≡ ends_of (y ∷ ys) = sym e ∙ i.is_ends in absurd (cc)

-- both, with what is lost where they meet
pub both_lost : (k b : Loss) (f l n e : XFrac) (xs ys : List XFrac) (s t : Option Totals) → k.ends ≡ Some (f, l) → b.ends ≡ Some (n, e) → ((us : List XFrac) → IsSumOf k.lost us → IsSumOf s (us ++ seam l n))
    → ((us vs : List XFrac) → IsSumOf s us → IsSumOf b.lost vs → IsSumOf t (us ++ vs)) → IsLossOf k xs → IsLossOf b ys → IsLossOf (record { ends = Some (f, e); lost = t }) (xs ++ ys)
both_lost k b f l n e [] ys s t p q g j h i = let u : Some (f, l) ≡ ends_of [] = sym p ∙ h.is_ends in absurd (cc)
both_lost k b f l n e (x ∷ xs) [] s t p q g j h i = let u : Some (n, e) ≡ ends_of [] = sym q ∙ i.is_ends in absurd (cc)
both_lost k b f l n e (x ∷ xs) (y ∷ ys) s t p q g j h i =
    let u : Some (f, l) ≡ Some (x, last_from x xs) = sym p ∙ h.is_ends in
    let v : Some (n, e) ≡ Some (y, last_from y ys) = sym q ∙ i.is_ends in
    let first : f ≡ x = ap front (one_pair (f, l) (x, last_from x xs) u) in
    let last : l ≡ last_from x xs = ap back (one_pair (f, l) (x, last_from x xs) u) in
    let next : n ≡ y = ap front (one_pair (n, e) (y, last_from y ys) v) in
    let end : e ≡ last_from y ys = ap back (one_pair (n, e) (y, last_from y ys) v) in
    record {
      numbers = All-append IsNumber (x ∷ xs) (y ∷ ys) h.numbers i.numbers;
      is_ends = ap (λ (z : XFrac). Some (z, e)) first ∙ ap (λ (z : XFrac). Some (x, z)) (end ∙ sym (last_both x xs y ys));
      is_lost = subst (IsSumOf t)
          (ap (λ (z : XFrac). (lost (x ∷ xs) ++ seam z n) ++ lost (y ∷ ys)) last ∙ ap (λ (z : XFrac). (lost (x ∷ xs) ++ seam (last_from x xs) z) ++ lost (y ∷ ys)) next
          ∙ append_assoc (lost (x ∷ xs)) (seam (last_from x xs) y) (lost (y ∷ ys)) ∙ sym (lost_both x xs y ys))
          (j (lost (x ∷ xs) ++ seam l n) (lost (y ∷ ys)) (g (lost (x ∷ xs)) h.is_lost) i.is_lost);
    }

pub room_both : (k b : Loss) (l n : XFrac) (xs ys : List XFrac) (s : Option Totals) → ((us : List XFrac) → IsSumOf k.lost us → IsSumOf s (us ++ seam l n)) → IsLossOf k xs → IsLossOf b ys → length xs + length ys < 2 ^ 65 → HaveRoom s b.lost
room_both k b l n xs ys s g h i long =
    let a = length_all xs in
    let c = length_all ys in
    let d = one_most l n in
    let e = length-append (lost xs) (seam l n) in
    few_both s b.lost (lost xs ++ seam l n) (lost ys) (g (lost xs) h.is_lost) i.is_lost (omega arith)

-- ---- the change of a counter

pub room_change : (k : Loss) (plain : Option Totals) (a b : XFrac) (xs : List XFrac) → IsSumOf plain (a ∷ b ∷ []) → IsLossOf k xs → length xs < 2 ^ 64 → HaveRoom plain k.lost
room_change k plain a b xs p h l = let m = length_all xs in few_both plain k.lost (a ∷ b ∷ []) (lost xs) p h.is_lost (omega arith)
