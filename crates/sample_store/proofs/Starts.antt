-- How many samples lie before each chunk, where one takes more samples or is parted.
use Rattle.std.proofs.Common.{◌≡◌, ℕ, zero, suc, ◌+◌, ◌<◌, ◌≤◌, List, [], ◌∷◌, ◌++◌, length, take, drop, insert, slice_set, slice_get, Some, refl, sym, ap, subst, ◌∙◌, arith}
use Rattle.std.specs.Prelude.{Result, Ok, Err}
use Rattle.ticks.specs.declared.moment.Ms.{Ms}
use Rattle.xfrac.specs.declared.value.Held.{Held}
use Rattle.sample_store.specs.Chunks.{AreFilled, AreInChunks, counted, flat, starts_from}
use Rattle.sample_store.specs.Counts.{Counted, raised}
use Rattle.sample_store.specs.Samples.{Puts, Samples}
use Rattle.sample_store.specs.declared.refusal.StoreRefusal.{StoreRefusal}
use Rattle.sample_store.proofs.Chunks.{filled-parted, filled-set, flat-at, flat-parted, flat-set, length-append}

start-of : (n : ℕ) (chunks : List Samples) (k b : ℕ) → slice_get (starts_from n chunks) k ≡ Some b → b ≡ n + length (flat (take k chunks))
start-of n [] k b h = absurd (cc)
start-of n (c ∷ cs) zero b h = let e : n ≡ b = cc in omega (arith, e)
start-of n (c ∷ cs) (suc k) b h = let e = start-of (n + length c) cs k b h in let a = length-append c (flat (take k cs)) in omega (arith, e, a)

-- the counts tell how many samples lie before a chunk
pub start_is : (chunks : List Samples) (counts : Counted) (k b : ℕ) → AreInChunks chunks counts → k < length chunks → slice_get (0 ∷ counts.starts) k ≡ Some b → b ≡ length (flat (take k chunks))
start_is [] counts k b a l h = absurd (omega (arith, l))
start_is (c ∷ cs) counts k b a l h =
    let e = start-of 0 (c ∷ cs) k b (ap (λ (z : Counted). slice_get (0 ∷ z.starts) k) (sym a.are) ∙ h) in omega (arith, e)

length-starts : (n : ℕ) (chunks : List Samples) → length (starts_from n chunks) ≡ length chunks
length-starts n [] = refl
length-starts n (c ∷ cs) = ap suc (length-starts (n + length c) cs)

pub starts_within : (chunks : List Samples) (counts : Counted) (k : ℕ) → AreInChunks chunks counts → k < length chunks → k ≤ length counts.starts
starts_within [] counts k a l = absurd (omega (arith, l))
starts_within (c ∷ cs) counts k a l = let e = ap (λ (z : Counted). length z.starts) a.are in let f = length-starts (0 + length c) cs in omega (arith, e, f, l)

pub total_is : (chunks : List Samples) (counts : Counted) → AreInChunks chunks counts → counts.total ≡ length (flat chunks)
total_is chunks counts a = ap (λ (z : Counted). z.total) a.are

-- ---- more samples in a chunk

shifted : (n more m : ℕ) (chunks : List Samples) → m ≡ n + more → starts_from m chunks ≡ raised zero more (starts_from n chunks)
shifted n more m [] e = refl
shifted n more m (c ∷ cs) e =
    let next : m + length c ≡ (n + length c) + more = omega (arith, e) in
    ap (λ z. z ∷ starts_from (m + length c) cs) e ∙ ap (λ z. (n + more) ∷ z) (shifted (n + length c) more (m + length c) cs next)

starts-set : (n : ℕ) (chunks : List Samples) (k more : ℕ) (c new : Samples) → slice_get chunks k ≡ Some c → length new ≡ length c + more → starts_from n (slice_set chunks k new) ≡ raised (suc k) more (starts_from n chunks)
starts-set n [] k more c new h l = absurd (cc)
starts-set n (x ∷ xs) zero more c new h l =
    let e : length c ≡ length x = (let f : c ≡ x = cc in ap length f) in
    ap (λ z. n ∷ z) (shifted (n + length x) more (n + length new) xs (omega (arith, e, l)))
starts-set n (x ∷ xs) (suc k) more c new h l = ap (λ z. n ∷ z) (starts-set (n + length x) xs k more c new h l)

drop-raised : (k more : ℕ) (ns : List ℕ) → drop 1 (raised (suc k) more ns) ≡ raised k more (drop 1 ns)
drop-raised k more [] = refl
drop-raised k more (n ∷ ns) = refl

pub counted_more : (chunks : List Samples) (k more : ℕ) (c new : Samples) → slice_get chunks k ≡ Some c → length new ≡ length c + more
    → ◌≡◌ {A = Counted} (record { total = length (flat chunks) + more; starts = raised k more (drop 1 (starts_from 0 chunks)) }) (counted (slice_set chunks k new))
counted_more chunks k more c new h l =
    let a = ap length (flat-at chunks k c h) in let b = ap length (flat-set chunks k c new h) in
    let a1 = length-append (flat (take k chunks)) (c ++ flat (drop (k + 1) chunks)) in let a2 = length-append c (flat (drop (k + 1) chunks)) in
    let b1 = length-append (flat (take k chunks)) (new ++ flat (drop (k + 1) chunks)) in let b2 = length-append new (flat (drop (k + 1) chunks)) in
    let total : length (flat chunks) + more ≡ length (flat (slice_set chunks k new)) = omega (arith, a, b, a1, a2, b1, b2, l) in
    let starts : raised k more (drop 1 (starts_from 0 chunks)) ≡ drop 1 (starts_from 0 (slice_set chunks k new)) = sym (ap (drop 1) (starts-set 0 chunks k more c new h l) ∙ drop-raised k more (starts_from 0 chunks)) in
    λ i. record { total = total i; starts = starts i }

-- ---- a chunk in two

insert-first : (ns : List ℕ) (b : ℕ) → insert ns zero b ≡ b ∷ ns
insert-first [] b = refl
insert-first (n ∷ ns) b = refl

halves : (xs : Samples) (n : ℕ) → take n xs ++ drop n xs ≡ xs
halves xs zero = refl
halves [] (suc n) = refl
halves (x ∷ xs) (suc n) = ap (λ z. x ∷ z) (halves xs n)

taken : (xs : Samples) (n : ℕ) → n ≤ length xs → length (take n xs) ≡ n
taken xs zero h = refl
taken [] (suc n) h = absurd (omega (arith, h))
taken (x ∷ xs) (suc n) h = ap suc (taken xs n (let k : n ≤ length xs = omega (arith, h) in k))

starts-parted : (n : ℕ) (chunks : List Samples) (k m b : ℕ) (c : Samples) → slice_get chunks k ≡ Some c → m ≤ length c → b ≡ n + length (flat (take k chunks)) + m
    → starts_from n (insert (slice_set chunks k (take m c)) (suc k) (drop m c)) ≡ insert (starts_from n chunks) (suc k) b
starts-parted n [] k m b c h l is = absurd (cc)
starts-parted n (x ∷ xs) zero m b c h l is =
    let t = taken c m l in
    let w = ap length (halves c m) in let a = length-append (take m c) (drop m c) in
    let same : length c ≡ length x = (let f : c ≡ x = cc in ap length f) in
    let one : n + length (take m c) ≡ b = omega (arith, t, is) in
    let two : (n + length (take m c)) + length (drop m c) ≡ n + length x = omega (arith, w, a, same) in
    ap (λ z. n ∷ z) (first xs ∙ ap (λ z. z ∷ starts_from ((n + length (take m c)) + length (drop m c)) xs) one ∙ ap (λ z. b ∷ starts_from z xs) two ∙ sym (insert-first (starts_from (n + length x) xs) b))
  where
    first : (ys : List Samples) → starts_from (n + length (take m c)) (insert ys zero (drop m c)) ≡ (n + length (take m c)) ∷ starts_from ((n + length (take m c)) + length (drop m c)) ys
    first [] = refl
    first (y ∷ ys) = refl
starts-parted n (x ∷ xs) (suc k) m b c h l is =
    let a = length-append x (flat (take k xs)) in
    ap (λ z. n ∷ z) (starts-parted (n + length x) xs k m b c h l (omega (arith, is, a)))

drop-insert : (n : ℕ) (chunks : List Samples) (k b : ℕ) → 0 < length chunks → drop 1 (insert (starts_from n chunks) (suc k) b) ≡ insert (drop 1 (starts_from n chunks)) k b
drop-insert n [] k b h = absurd (omega (arith, h))
drop-insert n (c ∷ cs) k b h = refl

pub counted_parted : (chunks : List Samples) (k m b : ℕ) (c : Samples) → slice_get chunks k ≡ Some c → m ≤ length c → k < length chunks → b ≡ length (flat (take k chunks)) + m
    → ◌≡◌ {A = Counted} (record { total = length (flat chunks); starts = insert (drop 1 (starts_from 0 chunks)) k b }) (counted (insert (slice_set chunks k (take m c)) (k + 1) (drop m c)))
counted_parted chunks k m b c h l w is =
    let next : suc k ≡ k + 1 = omega arith in
    let total : length (flat chunks) ≡ length (flat (insert (slice_set chunks k (take m c)) (k + 1) (drop m c))) = ap length (sym (flat-parted chunks k m c h)) in
    let starts : insert (drop 1 (starts_from 0 chunks)) k b ≡ drop 1 (starts_from 0 (insert (slice_set chunks k (take m c)) (k + 1) (drop m c))) =
    sym (ap (λ j. drop 1 (starts_from 0 (insert (slice_set chunks k (take m c)) j (drop m c)))) (sym next) ∙ ap (drop 1) (starts-parted 0 chunks k m b c h l (omega (arith, is))) ∙ drop-insert 0 chunks k b (omega (arith, w))) in
    λ i. record { total = total i; starts = starts i }

-- ---- what the counts tell, where they are those of chunks

module _ (chunks : List Samples) (counts : Counted) (told : AreInChunks chunks counts) where
  -- a chunk that took more samples
  pub told_more : (k more : ℕ) (c new : Samples) (now : Counted) → slice_get chunks k ≡ Some c → 0 < length new → length new ≡ length c + more
      → now ≡ record { total = counts.total + more; starts = raised k more counts.starts } → AreInChunks (slice_set chunks k new) now
  told_more k more c new now there some l is = record {
    filled = filled-set chunks k new told.filled some;
    are = is ∙ ap (λ (z : Counted). record { total = z.total + more; starts = raised k more z.starts }) told.are ∙ counted_more chunks k more c new there l;
  }

  -- a chunk in two
  pub told_parted : (k m b : ℕ) (c : Samples) (now : Counted) → slice_get chunks k ≡ Some c → 0 < m → m < length c → k < length chunks → b ≡ length (flat (take k chunks)) + m
      → now ≡ record { total = counts.total; starts = insert counts.starts k b } → AreInChunks (insert (slice_set chunks k (take m c)) (k + 1) (drop m c)) now
  told_parted k m b c now there some l w e is = record {
    filled = filled-parted chunks k m c told.filled some l;
    are = is ∙ ap (λ (z : Counted). record { total = z.total; starts = insert z.starts k b }) told.are ∙ counted_parted chunks k m b c there (omega (arith, l)) w e;
  }

-- no chunk yet, and the first one of one sample
pub told_none : (chunks : List Samples) (counts : Counted) → chunks ≡ [] → counts ≡ record { total = 0; starts = [] } → AreInChunks chunks counts
told_none chunks counts none is = record { filled = subst AreFilled (sym none) tt; are = is ∙ ap counted (sym none) }

pub told_first : (chunks now : List Samples) (counts after : Counted) (first : Samples) → AreInChunks chunks counts → chunks ≡ [] → now ≡ chunks ++ first ∷ [] → length first ≡ 1
    → after ≡ record { total = counts.total + 1; starts = raised 0 1 counts.starts } → AreInChunks now after
told_first chunks now counts after first told none is one e =
    let all : now ≡ first ∷ [] = is ∙ ap (λ z. z ++ first ∷ []) none in
    let a = length-append first [] in
    let total : 0 + 1 ≡ length (first ++ []) = omega (arith, a, one) in
    let these : after ≡ counted (first ∷ []) = e ∙ ap (λ (z : Counted). record { total = z.total + 1; starts = raised 0 1 z.starts }) (told.are ∙ ap counted none) ∙ (λ i. record { total = total i; starts = [] }) in
    subst (λ z. AreInChunks z after) (sym all) (record { filled = (omega (arith, one), tt); are = these })

-- ---- bounds

-- a sample more is counted by the answer
pub put_few : (old new : Samples) (at : Ms) (held : Held) (count : ℕ) (r : Result ℕ StoreRefusal) → Puts old new at held count r → length old ≤ count → count ≤ 2000000 → length new ≤ 2000000
put_few old new at held count (Ok total) p among few = let l = p.2 in let t = p.3 in omega (arith, among, few, l, t)
put_few old new at held count (Err e) p among few = let l = ap length p.0 in omega (arith, among, few, l)

pub put_grows : (old new : Samples) (at : Ms) (held : Held) (count : ℕ) (r : Result ℕ StoreRefusal) → Puts old new at held count r → length old ≤ length new
put_grows old new at held count (Ok total) p = let l = p.2 in let t = p.5 in omega (arith, l, t)
put_grows old new at held count (Err e) p = let l = ap length p.0 in omega (arith, l)

-- the samples up to a place in a chunk are among all
pub part_within : (chunks : List Samples) (k n b : ℕ) (c : Samples) → slice_get chunks k ≡ Some c → n ≤ length c → b ≡ length (flat (take k chunks)) → b + n ≤ length (flat chunks)
part_within chunks k n b c there h is =
    let a = ap length (flat-at chunks k c there) in
    let a1 = length-append (flat (take k chunks)) (c ++ flat (drop (k + 1) chunks)) in let a2 = length-append c (flat (drop (k + 1) chunks)) in
    omega (arith, h, is, a, a1, a2)
