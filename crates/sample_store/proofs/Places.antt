-- A list that is found by its pair, and one that is written in its place.
use Rattle.std.proofs.Common.{◌≡◌, ◌∙◌, ℕ, zero, suc, List, [], ◌∷◌, ◌++◌, ap, ap₂, sym, refl, subst, Bool, true, false, cond, Some, slice_get, true≢false}
use Rattle.std.specs.Prelude.{Result, Ok, Err, OnOk, OnErr, ◌&&◌, bytes_eq, unwrap_or, if◌then◌else◌}
use Rattle.std.specs.Option.{option_map}
use Rattle.std.specs.List.{AllByRecursion, IsDistinct}
use Rattle.std.specs.Map.{keys_of, lookup, lookup_key}
use Rattle.std.proofs.lemmas.Map.Keys.{IsDistinct-head, IsDistinct-tail}
use Rattle.std.proofs.lemmas.Slice.Eq.{bytes_eq-Decides}
use Rattle.indexmap.specs.Layout.{set_value_at}
use Rattle.sample_store.specs.Listing.{list_at}
use Rattle.sample_store.specs.Samples.{Pair, Postings, pair_eq, posted, put_entry}

-- ---- pairs

pub left_true : (a b : Bool) → (a && b) ≡ true → a ≡ true
left_true true b e = refl
left_true false b e = e

pub right_true : (a b : Bool) → (a && b) ≡ true → b ≡ true
right_true true b e = e
right_true false b e = absurd (cc)

pub pair_same : (q p : Pair) → pair_eq q p ≡ true → q ≡ p
pair_same q p e =
    let h = (bytes_eq-Decides q.0 p.0).0 (left_true (bytes_eq q.0 p.0) (bytes_eq q.1 p.1) e) in
    let k = (bytes_eq-Decides q.1 p.1).0 (right_true (bytes_eq q.0 p.0) (bytes_eq q.1 p.1) e) in
    λ i. (h i, k i)

pub pair_itself : (p : Pair) → pair_eq p p ≡ true
pair_itself p = ap₂ (λ a b. a && b) ((bytes_eq-Decides p.0 p.0).1 refl) ((bytes_eq-Decides p.1 p.1).1 refl)

-- ---- lists by keys

pub set_same : (lists : Postings) (i : ℕ) (k : Pair) (v : List ℕ) → slice_get lists i ≡ Some (k, v) → set_value_at lists i v ≡ lists
set_same [] i k v h = refl
set_same (x ∷ xs) zero k v h = let e : x ≡ (k, v) = cc in ap (λ (z : Pair × List ℕ). (x.0, z.1) ∷ xs) (sym e)
set_same (x ∷ xs) (suc i) k v h = ap (λ z. x ∷ z) (set_same xs i k v h)

pub left_same : {E : Type 0} (r : Result (Unit {0}) E) (lists : Postings) (i : ℕ) (k : Pair) (v new : List ℕ) → slice_get lists i ≡ Some (k, v) → OnErr r (new ≡ v) → OnErr r (set_value_at lists i new ≡ lists)
left_same (Ok u) lists i k v new h e = tt
left_same (Err f) lists i k v new h e = ap (set_value_at lists i) e ∙ set_same lists i k v h

-- a key that is found passes the test
pub found-passes : {V : Type 0} (test : Pair → Bool) (es : List (Pair × V)) (k : Pair) → lookup_key test es ≡ Some k → test k ≡ true
found-passes test [] k h = absurd (cc)
found-passes {V} test (e ∷ es) k h = by (test e.0) refl h (found-passes test es k)
  where
    by : (b : Bool) → test e.0 ≡ b → cond b (Some e.0) (lookup_key test es) ≡ Some k → (lookup_key test es ≡ Some k → test k ≡ true) → test k ≡ true
    by true p h rest = let same : e.0 ≡ k = cc in subst (λ z. test z ≡ true) same p
    by false p h rest = rest h

module _ (eq : Pair → Pair → Bool) (same : (q p : Pair) → eq q p ≡ true → q ≡ p) (itself : (p : Pair) → eq p p ≡ true) where
  pub look_put : (lists : Postings) (k q : Pair) (v : List ℕ) → lookup (eq q) (put_entry eq lists k v) ≡ cond (eq q k) (Some v) (lookup (eq q) lists)
  look_put [] k q v = refl
  look_put (e ∷ lists) k q v = by (eq k e.0) (eq q e.0) (eq q k) refl refl refl (look_put lists k q v)
    where
      by : (a b c : Bool) → eq k e.0 ≡ a → eq q e.0 ≡ b → eq q k ≡ c
          → lookup (eq q) (put_entry eq lists k v) ≡ cond (eq q k) (Some v) (lookup (eq q) lists)
          → lookup (eq q) (put_entry eq (e ∷ lists) k v) ≡ cond (eq q k) (Some v) (lookup (eq q) (e ∷ lists))
      by true true c ke qe qk rest = let t : eq q k ≡ true = ap (λ z. eq z k) (same q e.0 qe ∙ sym (same k e.0 ke)) ∙ itself k in rw ke (rw qe (rw t refl))
      by true false true ke qe qk rest = let t : eq q e.0 ≡ true = ap (λ z. eq z e.0) (same q k qk) ∙ ke in absurd (cc)
      by true false false ke qe qk rest = rw ke (rw qe (rw qk refl))
      by false true true ke qe qk rest = let t : eq k e.0 ≡ true = ap (λ z. eq z e.0) (sym (same q k qk)) ∙ qe in absurd (cc)
      by false true false ke qe qk rest = rw ke (rw qe (rw qk refl))
      by false false c ke qe qk rest = rw ke (rw qe rest)

  apart : (lists : Postings) (i : ℕ) (key k : Pair) (v : List ℕ) → AllByRecursion (λ y. eq k y ≡ false) (keys_of lists) → slice_get lists i ≡ Some (key, v) → eq k key ≡ false
  apart [] i key k v a h = absurd (cc)
  apart (x ∷ xs) zero key k v a h = let e : x.0 ≡ key = (let f : x ≡ (key, v) = cc in ap (λ (z : Pair × List ℕ). z.0) f) in subst (λ z. eq k z ≡ false) e a.0
  apart (x ∷ xs) (suc i) key k v a h = apart xs i key k v a.1 h

  back : (m n : Pair) → eq m n ≡ false → eq n m ≡ false
  back m n e = by (eq n m) refl
    where
      by : (b : Bool) → eq n m ≡ b → eq n m ≡ false
      by false f = f
      by true f = let t : eq m n ≡ true = ap (λ z. eq z n) (sym (same n m f)) ∙ itself n in absurd (true≢false (sym t ∙ e))

  pub written : (lists : Postings) (i : ℕ) (key : Pair) (v new : List ℕ) → IsDistinct eq (keys_of lists) → slice_get lists i ≡ Some (key, v) → put_entry eq lists key new ≡ set_value_at lists i new
  written [] i key v new d h = absurd (cc)
  written (x ∷ xs) zero key v new d h =
      let e : x.0 ≡ key = (let f : x ≡ (key, v) = cc in ap (λ (z : Pair × List ℕ). z.0) f) in
      ap (λ b. if b then (x.0, new) ∷ xs else x ∷ put_entry eq xs key new) (ap (λ z. eq z x.0) (sym e) ∙ itself x.0)
  written (x ∷ xs) (suc i) key v new d h =
      ap (λ b. if b then (x.0, new) ∷ xs else x ∷ put_entry eq xs key new) (back x.0 key (apart xs i key x.0 v (IsDistinct-head eq x.0 (keys_of xs) d) h))
      ∙ ap (λ z. x ∷ z) (written xs i key v new (IsDistinct-tail eq x.0 (keys_of xs) d) h)

  pub read : (lists : Postings) (i : ℕ) (key : Pair) (v : List ℕ) → IsDistinct eq (keys_of lists) → slice_get lists i ≡ Some (key, v) → lookup (eq key) lists ≡ Some v
  read [] i key v d h = absurd (cc)
  read (x ∷ xs) zero key v d h =
      let f : x ≡ (key, v) = cc in
      ap (λ b. cond b (Some x.1) (lookup (eq key) xs)) (ap (λ z. eq z x.0) (sym (ap (λ (z : Pair × List ℕ). z.0) f)) ∙ itself x.0) ∙ ap (λ (z : Pair × List ℕ). Some z.1) f
  read (x ∷ xs) (suc i) key v d h =
      ap (λ b. cond b (Some x.1) (lookup (eq key) xs)) (back x.0 key (apart xs i key x.0 v (IsDistinct-head eq x.0 (keys_of xs) d) h))
      ∙ read xs i key v (IsDistinct-tail eq x.0 (keys_of xs) d) h

pub noted_there : {E : Type 0} (r : Result (Unit {0}) E) (lists new : Postings) (i : ℕ) (key kept : Pair) (v : List ℕ) (place : ℕ) → IsDistinct pair_eq (keys_of lists)
    → Some kept ≡ lookup_key (pair_eq key) lists → slice_get lists i ≡ Some (kept, v)
    → OnOk r (new ≡ set_value_at lists i (list_at lists i ++ place ∷ []))
    → OnOk r (new ≡ put_entry pair_eq lists key (posted lists key ++ place ∷ []))
noted_there (Err e) lists new i key kept v place d k h n = tt
noted_there (Ok u) lists new i key kept v place d k h n =
    let same : key ≡ kept = pair_same key kept (found-passes (pair_eq key) lists kept (sym k)) in
    n ∙ ap (λ o. set_value_at lists i (unwrap_or (option_map (λ (one : Pair × List ℕ). one.1) o) [] ++ place ∷ [])) h
    ∙ sym (written pair_eq pair_same pair_itself lists i kept v (v ++ place ∷ []) d h)
    ∙ ap (λ o. put_entry pair_eq lists kept (unwrap_or o [] ++ place ∷ [])) (sym (read pair_eq pair_same pair_itself lists i kept v d h))
    ∙ ap (λ z. put_entry pair_eq lists z (posted lists z ++ place ∷ [])) (sym same)
