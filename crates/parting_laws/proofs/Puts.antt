-- Look-ups among entries in order, one of which is put.
use Rattle.std.proofs.Common.{◌≡◌, ◌∙◌, Bool, true, false, cond, List, [], ◌∷◌, refl, sym, ap, Some}
use Rattle.std.specs.Prelude.{Option}
use Rattle.std.specs.declared.cmp.Ordering.{Ordering}
use Rattle.std.specs.declared.cmp.Ordering.TheVariants.{Less, Equal, Greater}
use Rattle.std.specs.Ordering.{is_eq, match_ordering}
use Rattle.std.specs.BTreeMap.{insert_entry, is_at}
use Rattle.std.specs.Map.{lookup}

pub is_equal : (r : Ordering) → is_eq r ≡ true → r ≡ Equal
is_equal Less e = absurd (cc)
is_equal Equal e = refl
is_equal Greater e = absurd (cc)

put_same : {X : Type 0} (b : Bool) (v w : X) (o : Option X) → cond b (Some v) o ≡ cond b (Some v) (cond b (Some w) o)
put_same true v w o = refl
put_same false v w o = refl

pub same_key : {K : Type 0} (R : K → K → Ordering) (ties : (x y : K) → R x y ≡ Equal → x ≡ y) (m n : K) → is_at (R m) n ≡ true → m ≡ n
same_key R ties m n e = ties m n (is_equal (R m n) e)

module _ {K X : Type 0} (R : K → K → Ordering) (ties : (x y : K) → R x y ≡ Equal → x ≡ y) where
  put_apart : (q k n : K) (v w : X) (o : Option X) (b c : Bool) → is_at (R q) k ≡ b → is_at (R q) n ≡ c → R k n ≡ Greater → cond c (Some w) (cond b (Some v) o) ≡ cond b (Some v) (cond c (Some w) o)
  put_apart q k n v w o true true e f g =
      let tied : R k n ≡ Equal = ap (λ z. R z n) (sym (same_key R ties q k e)) ∙ is_equal (R q n) f in
      absurd (cc)
  put_apart q k n v w o true false e f g = refl
  put_apart q k n v w o false true e f g = refl
  put_apart q k n v w o false false e f g = refl

  pub lookup_put : (q k : K) (v : X) (es : List (K × X)) → lookup (is_at (R q)) (insert_entry R es k v) ≡ cond (is_at (R q) k) (Some v) (lookup (is_at (R q)) es)
  lookup_put q k v [] = refl
  lookup_put q k v (e ∷ es) =
      elim (R k e.0) as (λ r. R k e.0 ≡ r → lookup (is_at (R q)) (match_ordering r ((k, v) ∷ e ∷ es) ((e.0, v) ∷ es) (e ∷ insert_entry R es k v)) ≡ cond (is_at (R q) k) (Some v) (cond (is_at (R q) e.0) (Some e.1) (lookup (is_at (R q)) es))) [
        | Less ↦ λ h. refl
        | Equal ↦ λ h.
            let same : k ≡ e.0 = ties k e.0 h in
            put_same (is_at (R q) e.0) v e.1 (lookup (is_at (R q)) es) ∙ ap (λ (z : K). cond (is_at (R q) z) (Some v) (cond (is_at (R q) e.0) (Some e.1) (lookup (is_at (R q)) es))) (sym same)
        | Greater ↦ λ h.
            ap (λ o. cond (is_at (R q) e.0) (Some e.1) o) (lookup_put q k v es) ∙ put_apart q k e.0 v e.1 (lookup (is_at (R q)) es) (is_at (R q) k) (is_at (R q) e.0) refl refl h
      ] refl
