-- What holds of rising samples that are walked over up to a moment, for proofs.
use Rattle.std.proofs.Common.{◌≡◌, ◌∙◌, zero, suc, ◌+◌, ◌<◌, ◌≤◌, Bool, true, false, cond, [], ◌∷◌, length, Option, None, Some, refl, sym, ap, arith}
use Rattle.std.specs.Prelude.{ℤ, ◌<ℤ◌, ◌≤ℤ◌, ◌&&◌, ◌||◌, int_le, int_lt, nat_eq, if◌then◌else◌, ⊤}
use Rattle.std.specs.Cmp.{int_ranked}
use Rattle.std.specs.List.{AllByRecursion, last_or}
use Rattle.std.specs.List.Sorted.{IsStrictlySortedBy}
use Rattle.std.specs.Option.{option_to_list}
use Rattle.std.specs.Ordering.{int_eq}
use Rattle.std.specs.declared.cmp.Ordering.TheVariants.{Less}
use Rattle.std.proofs.lemmas.Int.{ints}
use Rattle.sample_store.specs.Samples.{AllSeries, IsRising, Names, Samples}
use Rattle.series_marks.specs.Reads.{AreRising, Rises, Sample, after, ahead_of, has_at, head_of, in_span, last_of, read_at, span_bound, stands_at, until}

-- ---- two times

pub after_after : (a b : ℤ) (xs : Samples) → a ≤ℤ b → after b (after a xs) ≡ after b xs
after_after a b [] h = refl
after_after a b (x ∷ xs) h = elim (int_lt a x.0.0) as (λ c. int_lt a x.0.0 ≡ c → after b (if c then x ∷ xs else after a xs) ≡ after b (x ∷ xs)) [
  | true ↦ λ e. refl
  | false ↦ λ e. let d : int_lt b x.0.0 ≡ false = grind (arith, ints, h, e) in rw d (after_after a b xs h)
] refl

-- ---- times rise behind a time

pub rises_last : (m : ℤ) (xs : Samples) (l : Option Sample) → Rises l xs → Rises (last_of m xs l) (after m xs)
rises_last m [] l r = r
rises_last m (x ∷ xs) l r = elim (int_lt m x.0.0) as (λ c. Rises (if c then l else last_of m xs (Some x)) (if c then x ∷ xs else after m xs)) [
  | true ↦ r
  | false ↦ rises_last m xs (Some x) (next l r)
]
  where
    next : (l : Option Sample) → Rises l (x ∷ xs) → Rises (Some x) xs
    next None r = r
    next (Some p) r = r.1

pub rises_from : (l : Option Sample) (x : Sample) (xs : Samples) → Rises l (x ∷ xs) → Rises None (x ∷ xs)
rises_from None x xs r = r
rises_from (Some p) x xs r = r.1

rises_none : (l : Option Sample) (xs : Samples) → Rises l xs → Rises None xs
rises_none l [] r = tt
rises_none l (x ∷ xs) r = rises_from l x xs r

pub rises_after : (m : ℤ) (xs : Samples) → Rises None xs → Rises None (after m xs)
rises_after m xs r = rises_none (last_of m xs None) (after m xs) (rises_last m xs None r)

rises_behind : (x : Sample) (xs : Samples) → IsRising (x ∷ xs) → Rises (Some x) xs
unfolding IsStrictlySortedBy
rises_behind x [] s = tt
rises_behind x (y ∷ ys) s = (int_ranked x.0.0 y.0.0 Less (sym s.0.0), rises_behind y ys s.1)

rises_of : (xs : Samples) → IsRising xs → Rises None xs
rises_of [] s = tt
rises_of (x ∷ xs) s = rises_behind x xs s

pub all_rise : (store : AllSeries) → AllByRecursion (λ (one : Names × Samples). IsRising one.1) store → AreRising store
all_rise [] a s = tt
all_rise (one ∷ store) a zero = rises_of one.1 a.0
all_rise (one ∷ store) a (suc s) = all_rise store a.1 s

pub rises_next : (x : Sample) (xs : Samples) → Rises (Some x) xs → Rises None xs
rises_next x [] r = tt
rises_next x (y ∷ ys) r = r.1

-- ---- the last sample up to a time

abbrev pub UpTo : ℤ → Option Sample → Type 0
UpTo m None = ⊤
UpTo m (Some x) = x.0.0 ≤ℤ m

pub last_up : (m : ℤ) (xs : Samples) (l : Option Sample) → UpTo m l → UpTo m (last_of m xs l)
last_up m [] l u = u
last_up m (x ∷ xs) l u = elim (int_lt m x.0.0) as (λ c. int_lt m x.0.0 ≡ c → UpTo m (if c then l else last_of m xs (Some x))) [
  | true ↦ λ e. u
  | false ↦ λ e. last_up m xs (Some x) (grind (arith, ints, e))
] refl

pub eq_lt : (x m y : ℤ) → int_eq x m ≡ true → x <ℤ y → int_lt m y ≡ true
eq_lt x m y e h = grind (arith, ints, e, h)

pub last_there : (m : ℤ) (xs : Samples) (l : Option Sample) → stands_at m l ≡ true → Rises l xs → last_of m xs l ≡ l
last_there m xs None h r = absurd (absurd_bool h)
  where
    absurd_bool : false ≡ true → ⊥
    absurd_bool e = cc
last_there m [] (Some x) h r = refl
last_there m (y ∷ ys) (Some x) h r = let e = eq_lt x.0.0 m y.0.0 h r.0 in rw e refl

-- ---- the samples of a span

-- behind a sample that is later than a time all are
none_up : (d m : ℤ) (x : Sample) (xs : Samples) → Rises (Some x) xs → int_lt m x.0.0 ≡ true → in_span d m xs ≡ []
none_up d m x [] r h = refl
none_up d m x (y ∷ ys) r h =
    let e : int_lt m y.0.0 ≡ true = grind (arith, ints, h, r.0) in
    let f : int_le y.0.0 m ≡ false = grind (arith, ints, e) in
    let rest = none_up d m y ys r.1 e in
    elim (int_lt d y.0.0) as (λ b. cond (b && int_le y.0.0 m) (y ∷ in_span d m ys) (in_span d m ys) ≡ []) [ true ↦ rw f rest | false ↦ rest ]

one_up : (d m : ℤ) (x : Sample) (xs : Samples) → Rises (Some x) xs → int_lt d x.0.0 ≡ true → until m xs ≡ in_span d m xs → until m (x ∷ xs) ≡ in_span d m (x ∷ xs)
one_up d m x xs r h rest = elim (int_lt m x.0.0) as (λ b. int_lt m x.0.0 ≡ b → (if b then [] else x ∷ until m xs) ≡ cond (int_lt d x.0.0 && int_le x.0.0 m) (x ∷ in_span d m xs) (in_span d m xs)) [
  | true ↦ λ e. let f : int_le x.0.0 m ≡ false = grind (arith, ints, e) in rw (h, f) (sym (none_up d m x xs r e))
  | false ↦ λ e. let f : int_le x.0.0 m ≡ true = grind (arith, ints, e) in rw (h, f) (ap (λ (zs : Samples). x ∷ zs) rest)
] refl

all_up : (d m : ℤ) (x : Sample) (xs : Samples) → Rises (Some x) xs → int_lt d x.0.0 ≡ true → until m xs ≡ in_span d m xs
all_up d m x [] r h = refl
all_up d m x (y ∷ ys) r h = let e : int_lt d y.0.0 ≡ true = grind (arith, ints, h, r.0) in one_up d m y ys r.1 e (all_up d m y ys r.1 e)

pub span_is : (d m : ℤ) (S : Samples) → Rises None S → until m (after d S) ≡ in_span d m S
span_is d m [] r = refl
span_is d m (x ∷ xs) r = elim (int_lt d x.0.0) as (λ b. int_lt d x.0.0 ≡ b → until m (if b then x ∷ xs else after d xs) ≡ cond (b && int_le x.0.0 m) (x ∷ in_span d m xs) (in_span d m xs)) [
  | true ↦ λ h. one_up d m x xs r h (all_up d m x xs r h) ∙ ap (λ (b : Bool). cond (b && int_le x.0.0 m) (x ∷ in_span d m xs) (in_span d m xs)) h
  | false ↦ λ h. span_is d m xs (rises_next x xs r)
] refl

pub last_front : (m : ℤ) (T : Samples) (l : Option Sample) → last_of m T l ≡ last_or l (until m T)
last_front m [] l = refl
last_front m (x ∷ xs) l = elim (int_lt m x.0.0) as (λ b. (if b then l else last_of m xs (Some x)) ≡ last_or l (if b then [] else x ∷ until m xs)) [ true ↦ refl | false ↦ last_front m xs (Some x) ]

-- what stands at a time behind an edge is among the samples behind the edge
has_after : (e m : ℤ) (S : Samples) → e <ℤ m → has_at m (after e S) ≡ has_at m S
has_after e m [] h = refl
has_after e m (x ∷ xs) h = elim (int_lt e x.0.0) as (λ b. int_lt e x.0.0 ≡ b → has_at m (if b then x ∷ xs else after e xs) ≡ has_at m (x ∷ xs)) [
  | true ↦ λ k. refl
  | false ↦ λ k. let f : int_eq x.0.0 m ≡ false = grind (arith, ints, k, h) in rw f (has_after e m xs h)
] refl

-- ---- how many are read

none_later : (m : ℤ) (x : Sample) (xs : Samples) → Rises (Some x) xs → int_lt x.0.0 m ≡ false → has_at m xs ≡ false
none_later m x [] r h = refl
none_later m x (y ∷ ys) r h =
    let e : int_eq y.0.0 m ≡ false = grind (arith, ints, h, r.0) in
    let f : int_lt y.0.0 m ≡ false = grind (arith, ints, h, r.0) in
    rw e (none_later m y ys r.1 f)

stood : (m : ℤ) (T : Samples) (l : Option Sample) → Rises l T → has_at m T ≡ true → stands_at m (last_of m T l) ≡ true
stood m [] l r h = absurd (no h)
  where
    no : false ≡ true → ⊥
    no e = cc
stood m (x ∷ xs) l r h = elim (int_eq x.0.0 m) as (λ b. int_eq x.0.0 m ≡ b → (b || has_at m xs) ≡ true → stands_at m (last_of m (x ∷ xs) l) ≡ true) [
  | true ↦ λ e _. let f : int_lt m x.0.0 ≡ false = grind (arith, ints, e) in rw (f, last_there m xs (Some x) e (tail l r)) e
  | false ↦ λ e s. elim (int_lt m x.0.0) as (λ b. int_lt m x.0.0 ≡ b → stands_at m (if b then l else last_of m xs (Some x)) ≡ true) [
    | true ↦ λ f. let g : int_lt x.0.0 m ≡ false = grind (arith, ints, f) in let k = none_later m x xs (tail l r) g in absurd (both (sym k ∙ s))
    | false ↦ λ f. stood m xs (Some x) (tail l r) s
  ] refl
] refl h
  where
    tail : (l : Option Sample) → Rises l (x ∷ xs) → Rises (Some x) xs
    tail None r = r
    tail (Some p) r = r.1

    both : false ≡ true → ⊥
    both e = cc

few : (b : Bool) (T : Samples) → length (option_to_list (if b then None else head_of T)) ≤ 1
few true T = omega arith
few false [] = omega arith
few false (x ∷ xs) = omega arith

pub reads_within : (e m : ℤ) (S : Samples) → Rises None S → e <ℤ m → read_at e m S ≤ span_bound e m S
reads_within e m S r h =
    let T = after e S in
    let L = last_of m T None in
    let span : length (until m T) ≡ length (in_span e m S) = ap length (span_is e m S r) in
    let same : has_at m T ≡ has_at m S = has_after e m S h in
    elim (has_at m S) as (λ b. has_at m S ≡ b → length (until m T) + length (option_to_list (ahead_of m L (after m T))) ≤ length (in_span e m S) + (if b then 0 else 1)) [
      | true ↦ λ k. let s = stood m T None (rises_after e S r) (same ∙ k) in rw s (omega arith)
      | false ↦ λ k. let n = few (stands_at m L) (after m T) in omega arith
    ] refl

-- ---- a later moment

until_more : (a b : ℤ) (T : Samples) → a ≤ℤ b → length (until a T) ≤ length (until b T)
until_more a b [] h = omega arith
until_more a b (x ∷ xs) h = elim (int_lt a x.0.0) as (λ c. int_lt a x.0.0 ≡ c → length (if c then [] else x ∷ until a xs) ≤ length (until b (x ∷ xs))) [
  | true ↦ λ e. omega arith
  | false ↦ λ e. let f : int_lt b x.0.0 ≡ false = grind (arith, ints, e, h) in let k = until_more a b xs h in rw f (omega arith)
] refl

record IsSame (a b : ℤ) (T : Samples) (l : Option Sample) : Type 0 where
  pub last : last_of a T l ≡ last_of b T l
  pub rest : after a T ≡ after b T

same_until : (a b : ℤ) (T : Samples) (l : Option Sample) → a ≤ℤ b → length (until a T) ≡ length (until b T) → IsSame a b T l
same_until a b [] l h e = record { last = refl; rest = refl }
same_until a b (x ∷ xs) l h e = elim (int_lt a x.0.0) as (λ c. int_lt a x.0.0 ≡ c → length (if c then [] else x ∷ until a xs) ≡ length (until b (x ∷ xs)) → IsSame a b (x ∷ xs) l) [
  | true ↦ λ p q. elim (int_lt b x.0.0) as (λ d. int_lt b x.0.0 ≡ d → 0 ≡ length (if d then [] else x ∷ until b xs) → IsSame a b (x ∷ xs) l) [
    | true ↦ λ u v. record { last = rw (p, u) refl; rest = rw (p, u) refl }
    | false ↦ λ u v. absurd (omega arith)
  ] refl q
  | false ↦ λ p q. let f : int_lt b x.0.0 ≡ false = grind (arith, ints, p, h) in
      let k = same_until a b xs (Some x) h (let w : suc (length (until a xs)) ≡ suc (length (until b xs)) = rw f at q in omega arith) in
      record { last = rw (p, f) k.last; rest = rw (p, f) k.rest }
] refl e

ahead_more : (a b : ℤ) (L : Option Sample) (U : Samples) → a ≤ℤ b → UpTo a L → length (option_to_list (ahead_of a L U)) ≤ length (option_to_list (ahead_of b L U))
ahead_more a b None U h u = omega arith
ahead_more a b (Some x) U h u = elim (int_eq x.0.0 a) as (λ c. int_eq x.0.0 a ≡ c → length (option_to_list (if c then None else head_of U)) ≤ length (option_to_list (ahead_of b (Some x) U))) [
  | true ↦ λ e. omega arith
  | false ↦ λ e. let f : int_eq x.0.0 b ≡ false = grind (arith, ints, e, u, h) in rw f (omega arith)
] refl

reads_both : (a b : ℤ) (T : Samples) → a ≤ℤ b → (same : Bool) → nat_eq (length (until a T)) (length (until b T)) ≡ same
    → length (until a T) + length (option_to_list (ahead_of a (last_of a T None) (after a T))) ≤ length (until b T) + length (option_to_list (ahead_of b (last_of b T None) (after b T)))
reads_both a b T h true e =
    let n : length (until a T) ≡ length (until b T) = grind (arith, e) in
    let k = same_until a b T None h n in
    let m = ahead_more a b (last_of a T None) (after a T) h (last_up a T None tt) in
    let w : length (option_to_list (ahead_of b (last_of a T None) (after a T))) ≡ length (option_to_list (ahead_of b (last_of b T None) (after b T))) =
    ap (λ l. length (option_to_list (ahead_of b l (after a T)))) k.last ∙ ap (λ u. length (option_to_list (ahead_of b (last_of b T None) u))) k.rest in
    omega arith
reads_both a b T h false e =
    let n = until_more a b T h in
    let k = few (stands_at a (last_of a T None)) (after a T) in
    let d : length (until a T) < length (until b T) = grind (arith, e, n) in
    omega arith

pub reads_later : (e a b : ℤ) (S : Samples) → a ≤ℤ b → read_at e a S ≤ read_at e b S
reads_later e a b S h = reads_both a b (after e S) h (nat_eq (length (until a (after e S))) (length (until b (after e S)))) refl
