-- A timeline in chunks is the list of their samples.
use Rattle.std.proofs.Common.{◌≡◌, ℕ, zero, suc, ◌+◌, ◌<◌, ◌≤◌, List, [], ◌∷◌, ◌++◌, length, take, drop, insert, slice_set, Option, None, Some, slice_get, refl, sym, ap, subst, ◌∙◌, arith, cond, ◌-◌}
use Rattle.std.specs.Prelude.{ℤ, ◌<ℤ◌, ◌≤ℤ◌, Result, Ok, Err, MatchOption, nat_le, if◌then◌else◌}
use Rattle.std.specs.List.{AllByRecursion}
use Rattle.std.specs.Option.{option_map}
use Rattle.std.specs.List.Sorted.{IsStrictlySortedBy}
use Rattle.std.specs.BTreeMap.{insert_entry, is_at}
use Rattle.std.specs.Map.{keys_of}
use Rattle.std.specs.Ordering.{match_ordering, is_eq}
use Rattle.std.specs.Cmp.{int_ranked}
use Rattle.std.specs.declared.cmp.Ordering.{Ordering}
use Rattle.std.specs.declared.cmp.Ordering.TheVariants.{Less, Equal, Greater}
use Rattle.std.proofs.lemmas.Int.{ints}
use Rattle.ticks.specs.declared.moment.Ms.{Ms}
use Rattle.xfrac.specs.declared.value.Held.{Held}
use Rattle.label_set.specs.Entries.{sorted_insert}
use Rattle.sample_store.specs.Chunks.{AreFilled, IsChunkOf, flat}
use Rattle.sample_store.specs.Samples.{IsRising, Puts, Samples, held_in, refusal_beside, refusal_in, time_cmp}
use Rattle.sample_store.specs.declared.refusal.StoreRefusal.{StoreRefusal}
use Rattle.sample_store.specs.declared.refusal.StoreRefusal.TheVariants.{Memory, TooManySamples}
use Rattle.sample_store.proofs.Halves.{is-greater, is-less}
use Rattle.sample_store.specs.Laws.{time_cmp_total}

int_lt_le : {x y z : ℤ} → x <ℤ y → y ≤ℤ z → x <ℤ z
int_lt_le a b = grind (arith, ints, a, b)

int_lt_lt : {x y z : ℤ} → x <ℤ y → y <ℤ z → x <ℤ z
int_lt_lt a b = grind (arith, ints, a, b)

one-some : {a b : Ms} → Some a ≡ Some b → a ≡ b
one-some e = cc

pub length-append : (xs ys : Samples) → length (xs ++ ys) ≡ length xs + length ys
length-append [] ys = omega arith
length-append (x ∷ xs) ys = let h = length-append xs ys in omega (arith, h)

-- the samples before and behind a time are no part of what stands at it, nor of where it goes
module _ (at : Ms) where
  held-behind-none : (bs : Samples) → AllByRecursion (λ s. at.0 <ℤ s.0.0) bs → held_in bs at ≡ None
  held-behind-none [] b = refl
  held-behind-none (x ∷ xs) b = ap (λ o. cond (is_eq o) (Some x.1) (held_in xs at)) (is-less at.0 x.0.0 b.0) ∙ held-behind-none xs b.1

  held-behind : (cs bs : Samples) → AllByRecursion (λ s. at.0 <ℤ s.0.0) bs → held_in (cs ++ bs) at ≡ held_in cs at
  held-behind [] bs b = held-behind-none bs b
  held-behind (x ∷ xs) bs b = ap (λ o. cond (is_at (time_cmp at) x.0) (Some x.1) o) (held-behind xs bs b)

  held-before : (xs ys : Samples) → AllByRecursion (λ s. s.0.0 <ℤ at.0) xs → held_in (xs ++ ys) at ≡ held_in ys at
  held-before [] ys a = refl
  held-before (x ∷ xs) ys a = ap (λ o. cond (is_eq o) (Some x.1) (held_in (xs ++ ys) at)) (is-greater at.0 x.0.0 a.0) ∙ held-before xs ys a.1

  insert-before : (held : Held) (xs ys : Samples) → AllByRecursion (λ s. s.0.0 <ℤ at.0) xs → insert_entry time_cmp (xs ++ ys) at held ≡ xs ++ insert_entry time_cmp ys at held
  insert-before held [] ys a = refl
  insert-before held (x ∷ xs) ys a =
      ap (λ o. match_ordering o ((at, held) ∷ x ∷ (xs ++ ys)) ((x.0, held) ∷ (xs ++ ys)) (x ∷ insert_entry time_cmp (xs ++ ys) at held)) (is-greater at.0 x.0.0 a.0)
      ∙ ap (λ z. x ∷ z) (insert-before held xs ys a.1)

  insert-behind-none : (held : Held) (bs : Samples) → AllByRecursion (λ s. at.0 <ℤ s.0.0) bs → insert_entry time_cmp bs at held ≡ (at, held) ∷ bs
  insert-behind-none held [] b = refl
  insert-behind-none held (x ∷ xs) b = ap (λ o. match_ordering o ((at, held) ∷ x ∷ xs) ((x.0, held) ∷ xs) (x ∷ insert_entry time_cmp xs at held)) (is-less at.0 x.0.0 b.0)

  insert-behind : (held : Held) (cs bs : Samples) → AllByRecursion (λ s. at.0 <ℤ s.0.0) bs → insert_entry time_cmp (cs ++ bs) at held ≡ insert_entry time_cmp cs at held ++ bs
  insert-behind held [] bs b = insert-behind-none held bs b
  insert-behind held (x ∷ xs) bs b =
      ap (λ z. match_ordering (time_cmp at x.0) ((at, held) ∷ x ∷ (xs ++ bs)) ((x.0, held) ∷ (xs ++ bs)) (x ∷ z)) (insert-behind held xs bs b)
      ∙ by (time_cmp at x.0)
    where
      by : (o : Ordering) → match_ordering o ((at, held) ∷ x ∷ (xs ++ bs)) ((x.0, held) ∷ (xs ++ bs)) (x ∷ (insert_entry time_cmp xs at held ++ bs))
          ≡ match_ordering o ((at, held) ∷ x ∷ xs) ((x.0, held) ∷ xs) (x ∷ insert_entry time_cmp xs at held) ++ bs
      by Less = refl
      by Equal = refl
      by Greater = refl

-- what is said of a chunk is said of all samples
module _ (early bs : Samples) (at : Ms) (held : Held) (count : ℕ) (before : AllByRecursion (λ s. s.0.0 <ℤ at.0) early) (behind : AllByRecursion (λ s. at.0 <ℤ s.0.0) bs) where
  held-lift : (c : Samples) → held_in (early ++ (c ++ bs)) at ≡ held_in c at
  held-lift c = held-before at early (c ++ bs) before ∙ held-behind at c bs behind

  refusal-lift : (c : Samples) → refusal_in (early ++ (c ++ bs)) at held count ≡ refusal_in c at held count
  refusal-lift c = ap (λ (o : Option Held). refusal_beside o (if nat_le 2000000 count then Some TooManySamples else None) held) (held-lift c)

  insert-lift : (c : Samples) → insert_entry time_cmp (early ++ (c ++ bs)) at held ≡ early ++ (insert_entry time_cmp c at held ++ bs)
  insert-lift c = insert-before at held early (c ++ bs) before ∙ ap (λ z. early ++ z) (insert-behind at held c bs behind)

  pub puts-lift : (c new : Samples) (r : Result ℕ StoreRefusal) → IsRising (early ++ (c ++ bs)) → Puts c new at held count r → Puts (early ++ (c ++ bs)) (early ++ (new ++ bs)) at held count r
  puts-lift c new (Ok total) rising p =
      let is : early ++ (new ++ bs) ≡ insert_entry time_cmp (early ++ (c ++ bs)) at held = ap (λ z. early ++ (z ++ bs)) p.1 ∙ sym (insert-lift c) in
      let l = p.2 in
      let l1 = length-append early (c ++ bs) in let l2 = length-append c bs in let l3 = length-append early (new ++ bs) in let l4 = length-append new bs in
      (refusal-lift c ∙ p.0, is, omega (arith, l, l1, l2, l3, l4), p.3, subst IsRising (sym is) (sorted_insert time_cmp time_cmp_total at held (early ++ (c ++ bs)) rising), p.5)
  puts-lift c new (Err e) rising p = (
    ap (λ z. early ++ (z ++ bs)) p.0,
    subst (λ (z : Option StoreRefusal). MatchOption z ((e ≡ Memory) × (held_in (early ++ (c ++ bs)) at ≡ None)) (λ r. e ≡ r)) (sym (refusal-lift c))
        (subst (λ (z : Option Held). MatchOption (refusal_in c at held count) ((e ≡ Memory) × (z ≡ None)) (λ r. e ≡ r)) (sym (held-lift c)) p.1),
  )

-- a list in chunks at one of them
pub flat-at : (chunks : List Samples) (k : ℕ) (c : Samples) → slice_get chunks k ≡ Some c → flat chunks ≡ flat (take k chunks) ++ (c ++ flat (drop (k + 1) chunks))
flat-at [] k c h = absurd (cc)
flat-at (x ∷ xs) zero c h = let e : x ≡ c = cc in ap (λ z. z ++ flat xs) e
flat-at (x ∷ xs) (suc k) c h =
    let e : suc k + 1 ≡ suc (k + 1) = omega arith in
    ap (λ z. x ++ z) (flat-at xs k c h) ∙ sym (append-again x (flat (take k xs)) (c ++ flat (drop (k + 1) xs))) ∙ ap (λ n. (x ++ flat (take k xs)) ++ (c ++ flat (drop n (x ∷ xs)))) (sym e)
  where
    append-again : (xs ys zs : Samples) → (xs ++ ys) ++ zs ≡ xs ++ (ys ++ zs)
    append-again [] ys zs = refl
    append-again (x ∷ xs) ys zs = ap (λ k. x ∷ k) (append-again xs ys zs)

pub flat-set : (chunks : List Samples) (k : ℕ) (c new : Samples) → slice_get chunks k ≡ Some c → flat (slice_set chunks k new) ≡ flat (take k chunks) ++ (new ++ flat (drop (k + 1) chunks))
flat-set [] k c new h = absurd (cc)
flat-set (x ∷ xs) zero c new h = refl
flat-set (x ∷ xs) (suc k) c new h =
    let e : suc k + 1 ≡ suc (k + 1) = omega arith in
    ap (λ z. x ++ z) (flat-set xs k c new h) ∙ sym (append-again x (flat (take k xs)) (new ++ flat (drop (k + 1) xs))) ∙ ap (λ n. (x ++ flat (take k xs)) ++ (new ++ flat (drop n (x ∷ xs)))) (sym e)
  where
    append-again : (xs ys zs : Samples) → (xs ++ ys) ++ zs ≡ xs ++ (ys ++ zs)
    append-again [] ys zs = refl
    append-again (x ∷ xs) ys zs = ap (λ k. x ∷ k) (append-again xs ys zs)

pub set-same : (chunks : List Samples) (k : ℕ) (c : Samples) → slice_get chunks k ≡ Some c → slice_set chunks k c ≡ chunks
set-same [] k c h = absurd (cc)
set-same (x ∷ xs) zero c h = let e : c ≡ x = cc in ap (λ z. z ∷ xs) e
set-same (x ∷ xs) (suc k) c h = ap (λ z. x ∷ z) (set-same xs k c h)

pub filled-set : (chunks : List Samples) (k : ℕ) (new : Samples) → AreFilled chunks → 0 < length new → AreFilled (slice_set chunks k new)
filled-set [] k new f l = tt
filled-set (x ∷ xs) zero new f l = (l, f.1)
filled-set (x ∷ xs) (suc k) new f l = (f.0, filled-set xs k new f.1 l)

-- parts of rising samples rise
all-left : (P : Ms → Type 0) (xs ys : Samples) → AllByRecursion P (keys_of (xs ++ ys)) → AllByRecursion P (keys_of xs)
all-left P [] ys a = tt
all-left P (x ∷ xs) ys a = (a.0, all-left P xs ys a.1)

pub rising-left : (xs ys : Samples) → IsRising (xs ++ ys) → IsRising xs
unfolding IsStrictlySortedBy
rising-left [] ys r = tt
rising-left (x ∷ xs) ys r = (all-left (λ t. time_cmp x.0 t ≡ Less) xs ys r.0, rising-left xs ys r.1)

pub rising-right : (xs ys : Samples) → IsRising (xs ++ ys) → IsRising ys
unfolding IsStrictlySortedBy
rising-right [] ys r = r
rising-right (x ∷ xs) ys r = rising-right xs ys r.1

pub rising-within : (xs c ys : Samples) → IsRising (xs ++ (c ++ ys)) → IsRising c
rising-within xs c ys r = rising-left c ys (rising-right xs (c ++ ys) r)

-- a chunk in two is the same list
pub flat-parted : (chunks : List Samples) (k n : ℕ) (c : Samples) → slice_get chunks k ≡ Some c → flat (insert (slice_set chunks k (take n c)) (k + 1) (drop n c)) ≡ flat chunks
flat-parted [] k n c h = absurd (cc)
flat-parted (x ∷ xs) zero n c h =
    let e : x ≡ c = cc in
    sym (append-again (take n c) (drop n c) (flat xs)) ∙ ap (λ z. z ++ flat xs) (halves c n ∙ sym e)
  where
    append-again : (xs ys zs : Samples) → (xs ++ ys) ++ zs ≡ xs ++ (ys ++ zs)
    append-again [] ys zs = refl
    append-again (x ∷ xs) ys zs = ap (λ k. x ∷ k) (append-again xs ys zs)

    halves : (xs : Samples) (n : ℕ) → take n xs ++ drop n xs ≡ xs
    halves xs zero = refl
    halves [] (suc n) = refl
    halves (x ∷ xs) (suc n) = ap (λ z. x ∷ z) (halves xs n)
flat-parted (x ∷ xs) (suc k) n c h =
    let e : suc k + 1 ≡ suc (k + 1) = omega arith in
    ap (λ m. flat (insert (slice_set (x ∷ xs) (suc k) (take n c)) m (drop n c))) e ∙ ap (λ z. x ++ z) (flat-parted xs k n c h)

pub longer : (at : Ms) (held : Held) (xs : Samples) → 0 < length (insert_entry time_cmp xs at held)
longer at held [] = omega arith
longer at held (x ∷ xs) = by (time_cmp at x.0)
  where
    by : (o : Ordering) → 0 < length (match_ordering o ((at, held) ∷ x ∷ xs) ((x.0, held) ∷ xs) (x ∷ insert_entry time_cmp xs at held))
    by Less = omega arith
    by Equal = omega arith
    by Greater = omega arith

-- a chunk that took a sample isn't empty
pub put-longer : (c new : Samples) (at : Ms) (held : Held) (count : ℕ) (r : Result ℕ StoreRefusal) → 0 < length c → Puts c new at held count r → 0 < length new
put-longer c new at held count (Ok total) l p = subst (λ (z : Samples). 0 < length z) (sym p.1) (longer at held c)
put-longer c new at held count (Err e) l p = subst (λ (z : Samples). 0 < length z) (sym p.0) l

pub filled-at : (chunks : List Samples) (k : ℕ) (c : Samples) → AreFilled chunks → slice_get chunks k ≡ Some c → 0 < length c
filled-at [] k c f h = absurd (cc)
filled-at (x ∷ xs) zero c f h = let e : x ≡ c = cc in subst (λ (z : Samples). 0 < length z) e f.0
filled-at (x ∷ xs) (suc k) c f h = filled-at xs k c f.1 h

filled-insert : (chunks : List Samples) (k : ℕ) (c : Samples) → AreFilled chunks → 0 < length c → AreFilled (insert chunks k c)
filled-insert [] zero c f l = (l, tt)
filled-insert [] (suc k) c f l = (l, tt)
filled-insert (x ∷ xs) zero c f l = (l, f)
filled-insert (x ∷ xs) (suc k) c f l = (f.0, filled-insert xs k c f.1 l)

length-taken : (n : ℕ) (c : Samples) → 0 < n → n < length c → 0 < length (take n c)
length-taken zero c h l = absurd (omega (arith, h))
length-taken (suc n) [] h l = absurd (omega (arith, l))
length-taken (suc n) (x ∷ xs) h l = omega arith

length-dropped : (n : ℕ) (c : Samples) → n < length c → 0 < length (drop n c)
length-dropped zero c l = l
length-dropped (suc n) [] l = absurd (omega (arith, l))
length-dropped (suc n) (x ∷ xs) l = length-dropped n xs (let k : n < length xs = omega (arith, l) in k)

pub filled-parted : (chunks : List Samples) (k n : ℕ) (c : Samples) → AreFilled chunks → 0 < n → n < length c → AreFilled (insert (slice_set chunks k (take n c)) (k + 1) (drop n c))
filled-parted chunks k n c f h l = filled-insert (slice_set chunks k (take n c)) (k + 1) (drop n c) (filled-set chunks k (take n c) f (length-taken n c h l)) (length-dropped n c l)

-- what a search among chunks knows
pub record IsParted (chunks : List Samples) (at : Ms) (low high : ℕ) : Type 0 where
  pub some : 1 ≤ low
  pub ordered : low ≤ high
  pub within : high ≤ length chunks
  pub early : AllByRecursion (λ s. s.0.0 <ℤ at.0) (flat (take (low - 1) chunks))
  pub late : AllByRecursion (λ s. at.0 <ℤ s.0.0) (flat (drop high chunks))

-- samples before one that isn't later than a time are earlier than it
all-early : (xs : Samples) (s : Ms × Held) (ys : Samples) (at : Ms) → IsRising (xs ++ s ∷ ys) → s.0.0 ≤ℤ at.0 → AllByRecursion (λ z. z.0.0 <ℤ at.0) xs
unfolding IsStrictlySortedBy
all-early [] s ys at r h = tt
all-early (x ∷ xs) s ys at r h = (let e = int_ranked x.0.0 s.0.0 Less (sym (first xs r.0)) in int_lt_le e h, all-early xs s ys at r.1 h)
  where
    first : (zs : Samples) → AllByRecursion (λ y. time_cmp x.0 y ≡ Less) (keys_of (zs ++ s ∷ ys)) → time_cmp x.0 s.0 ≡ Less
    first [] a = a.0
    first (z ∷ zs) a = first zs a.1

-- samples from one on that is later than a time are later than it
all-late : (s : Ms × Held) (ys : Samples) (at : Ms) → IsRising (s ∷ ys) → at.0 <ℤ s.0.0 → AllByRecursion (λ z. at.0 <ℤ z.0.0) (s ∷ ys)
unfolding IsStrictlySortedBy
all-late s ys at r h = (h, over ys r.0)
  where
    over : (zs : Samples) → AllByRecursion (λ y. time_cmp s.0 y ≡ Less) (keys_of zs) → AllByRecursion (λ z. at.0 <ℤ z.0.0) zs
    over [] a = tt
    over (z ∷ zs) a = (let e = int_ranked s.0.0 z.0.0 Less (sym a.0) in int_lt_lt h e, over zs a.1)

there-is : (chunks : List Samples) (k : ℕ) → k < length chunks → (c : Samples) × (slice_get chunks k ≡ Some c)
there-is [] k h = absurd (omega (arith, h))
there-is (x ∷ xs) zero h = (x, refl)
there-is (x ∷ xs) (suc k) h = there-is xs k (let l : k < length xs = omega (arith, h) in l)

first-of : (c : Samples) → 0 < length c → (s : Ms × Held) × (ys : Samples) × (c ≡ s ∷ ys)
first-of [] h = absurd (omega (arith, h))
first-of (s ∷ ys) h = (s, ys, refl)

pub none-left : (chunks : List Samples) (n : ℕ) → length chunks ≤ n → drop n chunks ≡ []
none-left [] zero h = refl
none-left [] (suc n) h = refl
none-left (x ∷ xs) zero h = absurd (omega (arith, h))
none-left (x ∷ xs) (suc n) h = none-left xs n (let l : length xs ≤ n = omega (arith, h) in l)

pub flat-from : (chunks : List Samples) (n : ℕ) (c : Samples) → slice_get chunks n ≡ Some c → flat (drop n chunks) ≡ c ++ flat (drop (n + 1) chunks)
flat-from [] n c h = absurd (cc)
flat-from (x ∷ xs) zero c h = let e : x ≡ c = cc in ap (λ z. z ++ flat xs) e
flat-from (x ∷ xs) (suc n) c h = let e : suc n + 1 ≡ suc (n + 1) = omega arith in flat-from xs n c h ∙ ap (λ m. c ++ flat (drop m (x ∷ xs))) (sym e)

pub flat-cut : (chunks : List Samples) (n : ℕ) → flat chunks ≡ flat (take n chunks) ++ flat (drop n chunks)
flat-cut chunks zero = refl
flat-cut [] (suc n) = refl
flat-cut (x ∷ xs) (suc n) = ap (λ z. x ++ z) (flat-cut xs n) ∙ sym (append-again x (flat (take n xs)) (flat (drop n xs)))
  where
    append-again : (xs ys zs : Samples) → (xs ++ ys) ++ zs ≡ xs ++ (ys ++ zs)
    append-again [] ys zs = refl
    append-again (x ∷ xs) ys zs = ap (λ k. x ∷ k) (append-again xs ys zs)

module _ (chunks : List Samples) (at : Ms) (rising : IsRising (flat chunks)) (filled : AreFilled chunks) where
  before-chunk : (k : ℕ) (c : Samples) → slice_get chunks k ≡ Some c → ((t : Ms) → option_map (λ (s : Ms × Held). s.0) (slice_get c 0) ≡ Some t → t.0 ≤ℤ at.0)
      → AllByRecursion (λ s. s.0.0 <ℤ at.0) (flat (take k chunks))
  before-chunk k c h l =
      let f = first-of c (filled-at chunks k c filled h) in
      let r : IsRising (flat (take k chunks) ++ (f.0 ∷ (f.1 ++ flat (drop (k + 1) chunks)))) = subst (λ z. IsRising (flat (take k chunks) ++ (z ++ flat (drop (k + 1) chunks)))) f.2 (subst IsRising (flat-at chunks k c h) rising) in
      all-early (flat (take k chunks)) f.0 (f.1 ++ flat (drop (k + 1) chunks)) at r (l f.0.0 (ap (λ (z : Samples). option_map (λ (s : Ms × Held). s.0) (slice_get z 0)) f.2))

  behind-chunk : (n : ℕ) (c : Samples) → slice_get chunks n ≡ Some c → ((t : Ms) → option_map (λ (s : Ms × Held). s.0) (slice_get c 0) ≡ Some t → at.0 <ℤ t.0)
      → AllByRecursion (λ s. at.0 <ℤ s.0.0) (flat (drop n chunks))
  behind-chunk n c h l =
      let f = first-of c (filled-at chunks n c filled h) in
      let e : flat (drop n chunks) ≡ f.0 ∷ (f.1 ++ flat (drop (n + 1) chunks)) = flat-from chunks n c h ∙ ap (λ (z : Samples). z ++ flat (drop (n + 1) chunks)) f.2 in
      let r : IsRising (f.0 ∷ (f.1 ++ flat (drop (n + 1) chunks))) = subst IsRising e (rising-right (flat (take n chunks)) (flat (drop n chunks)) (subst IsRising (flat-cut chunks n) rising)) in
      subst (AllByRecursion (λ s. at.0 <ℤ s.0.0)) (sym e) (all-late f.0 (f.1 ++ flat (drop (n + 1) chunks)) at r (l f.0.0 (ap (λ (z : Samples). option_map (λ (s : Ms × Held). s.0) (slice_get z 0)) f.2)))

  pub parted-whole : 0 < length chunks → IsParted chunks at 1 (length chunks)
  parted-whole h = record {
    some = omega arith;
    ordered = omega (arith, h);
    within = omega arith;
    early = tt;
    late = subst (λ z. AllByRecursion (λ s. at.0 <ℤ s.0.0) (flat z)) (sym (none-left chunks (length chunks) (omega arith))) tt;
  }

  pub parted-lower : (low high m : ℕ) (c : Samples) (t : Ms) → IsParted chunks at low high → low ≤ m → m < high → slice_get chunks m ≡ Some c → option_map (λ (s : Ms × Held). s.0) (slice_get c 0) ≡ Some t → at.0 <ℤ t.0 → IsParted chunks at low m
  parted-lower low high m c t p l g h i f =
      let w = p.within in
      record { some = p.some; ordered = l; within = omega (arith, w, g); early = p.early; late = behind-chunk m c h (λ u e. subst (λ (z : Ms). at.0 <ℤ z.0) (one-some (sym i ∙ e)) f) }

  pub parted-upper : (low high m : ℕ) (c : Samples) (t : Ms) → IsParted chunks at low high → m < high → slice_get chunks m ≡ Some c → option_map (λ (s : Ms × Held). s.0) (slice_get c 0) ≡ Some t → t.0 ≤ℤ at.0 → IsParted chunks at (m + 1) high
  parted-upper low high m c t p g h i f =
      let e : m + 1 - 1 ≡ m = omega arith in
      record {
        some = omega arith;
        ordered = omega (arith, g);
        within = p.within;
        early = subst (λ z. AllByRecursion (λ s. s.0.0 <ℤ at.0) (flat (take z chunks))) (sym e) (before-chunk m c h (λ u d. subst (λ (z : Ms). z.0 ≤ℤ at.0) (one-some (sym i ∙ d)) f));
        late = p.late;
      }

  pub chunk-found : (low high : ℕ) → IsParted chunks at low high → high ≤ low → IsChunkOf chunks at (low - 1)
  chunk-found low high p h =
      let w = p.within in let o = p.ordered in let s = p.some in
      let n : high ≡ low - 1 + 1 = omega (arith, h, o, s) in
      record { within = omega (arith, w, o, s); before = p.early; behind = subst (λ z. AllByRecursion (λ s. at.0 <ℤ s.0.0) (flat (drop z chunks))) n p.late }

pub rising_none : (xs : Samples) → xs ≡ [] → IsRising xs
unfolding IsStrictlySortedBy
rising_none xs e = subst IsRising (sym e) tt
