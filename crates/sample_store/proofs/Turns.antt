-- Kept counts as they are seen.
use Rattle.std.proofs.Common.{◌≡◌, ℕ, zero, suc, ◌+◌, ◌-◌, ◌<◌, ◌≤◌, List, [], ◌∷◌, length, insert, slice_set, slice_get, Some, refl, sym, ap, subst, ◌∙◌, arith}
use Rattle.std.specs.List.{AllByRecursion}
use Rattle.label_set.specs.Entries.{recursion_map}
use Rattle.sample_store.specs.Counts.{Counted, raised, seen}

pub length_seen : (edge total : ℕ) (ns : List ℕ) → length (seen edge total ns) ≡ length ns
length_seen edge total [] = refl
length_seen zero total (n ∷ ns) = ap suc (length_seen zero total ns)
length_seen (suc edge) total (n ∷ ns) = ap suc (length_seen edge total ns)

pub length_set : (ns : List ℕ) (k m : ℕ) → length (slice_set ns k m) ≡ length ns
length_set [] k m = refl
length_set (n ∷ ns) zero m = refl
length_set (n ∷ ns) (suc k) m = ap suc (length_set ns k m)

pub all_set : (total : ℕ) (ns : List ℕ) (k m : ℕ) → AllByRecursion (λ n. n ≤ total) ns → m ≤ total → AllByRecursion (λ n. n ≤ total) (slice_set ns k m)
all_set total [] k m a l = tt
all_set total (n ∷ ns) zero m a l = (l, a.1)
all_set total (n ∷ ns) (suc k) m a l = (a.0, all_set total ns k m a.1 l)

-- each number is within the total
pub few_at : (total : ℕ) (ns : List ℕ) (k n : ℕ) → AllByRecursion (λ n. n ≤ total) ns → slice_get ns k ≡ Some n → n ≤ total
few_at total [] k n a h = absurd (cc)
few_at total (x ∷ xs) zero n a h = let e : x ≡ n = cc in let l = a.0 in omega (arith, e, l)
few_at total (x ∷ xs) (suc k) n a h = few_at total xs k n a.1 h

-- a number on the edge, kept the other way, is seen as before with the edge behind it
turned_up : (edge total : ℕ) (ns : List ℕ) (n : ℕ) → slice_get ns edge ≡ Some n → seen (suc edge) total (slice_set ns edge (total - n)) ≡ seen edge total ns
turned_up edge total [] n h = absurd (cc)
turned_up zero total (x ∷ xs) n h = let e : n ≡ x = cc in ap (λ m. (total - m) ∷ seen zero total xs) e
turned_up (suc edge) total (x ∷ xs) n h = ap (λ z. x ∷ z) (turned_up edge total xs n h)

pub turn_one_up : (edge next total : ℕ) (ns : List ℕ) (n : ℕ) → next ≡ edge + 1 → slice_get ns edge ≡ Some n → seen next total (slice_set ns edge (total - n)) ≡ seen edge total ns
turn_one_up edge next total ns n is h = let e : next ≡ suc edge = omega (arith, is) in ap (λ k. seen k total (slice_set ns edge (total - n))) e ∙ turned_up edge total ns n h

turned_down : (edge total : ℕ) (ns : List ℕ) (n : ℕ) → n ≤ total → slice_get ns edge ≡ Some n → seen edge total (slice_set ns edge (total - n)) ≡ seen (suc edge) total ns
turned_down edge total [] n l h = absurd (cc)
turned_down zero total (x ∷ xs) n l h = let e : n ≡ x = cc in let back : total - (total - n) ≡ x = omega (arith, e, l) in ap (λ m. m ∷ seen zero total xs) back
turned_down (suc edge) total (x ∷ xs) n l h = ap (λ z. x ∷ z) (turned_down edge total xs n l h)

-- a number before the edge, kept the other way, is seen as before with the edge before it
pub turn_one_down : (edge next total : ℕ) (ns : List ℕ) (n : ℕ) → next ≡ edge + 1 → n ≤ total → slice_get ns edge ≡ Some n → seen edge total (slice_set ns edge (total - n)) ≡ seen next total ns
turn_one_down edge next total ns n is l h = let e : suc edge ≡ next = omega (arith, is) in turned_down edge total ns n l h ∙ ap (λ k. seen k total ns) e

pub get_front : (edge total : ℕ) (ns : List ℕ) (j n : ℕ) → slice_get ns j ≡ Some n → j < edge → slice_get (seen edge total ns) j ≡ Some n
get_front edge total [] j n h l = absurd (cc)
get_front zero total (x ∷ xs) j n h l = absurd (omega (arith, l))
get_front (suc edge) total (x ∷ xs) zero n h l = h
get_front (suc edge) total (x ∷ xs) (suc j) n h l = get_front edge total xs j n h (let k : j < edge = omega (arith, l) in k)

pub get_back : (edge total : ℕ) (ns : List ℕ) (j n : ℕ) → slice_get ns j ≡ Some n → edge ≤ j → slice_get (seen edge total ns) j ≡ Some (total - n)
get_back edge total [] j n h l = absurd (cc)
get_back zero total (x ∷ xs) zero n h l = let e : x ≡ n = cc in ap (λ m. Some (total - m)) e
get_back zero total (x ∷ xs) (suc j) n h l = get_back zero total xs j n h (omega arith)
get_back (suc edge) total (x ∷ xs) zero n h l = absurd (omega (arith, l))
get_back (suc edge) total (x ∷ xs) (suc j) n h l = get_back edge total xs j n h (let k : edge ≤ j = omega (arith, l) in k)

-- with the edge before them numbers rise by the total alone
pub raised_seen : (k total more : ℕ) (ns : List ℕ) → AllByRecursion (λ n. n ≤ total) ns → seen k (total + more) ns ≡ raised k more (seen k total ns)
raised_seen k total more [] a = refl
raised_seen zero total more (n ∷ ns) a =
    let l = a.0 in
    let e : (total + more) - n ≡ (total - n) + more = omega (arith, l) in
    ap (λ m. m ∷ seen zero (total + more) ns) e ∙ ap (λ z. ((total - n) + more) ∷ z) (raised_seen zero total more ns a.1)
raised_seen (suc k) total more (n ∷ ns) a = ap (λ z. n ∷ z) (raised_seen k total more ns a.1)

pub few_more : (total more : ℕ) (ns : List ℕ) → AllByRecursion (λ n. n ≤ total) ns → AllByRecursion (λ n. n ≤ total + more) ns
few_more total more ns a = recursion_map (λ n. n ≤ total) (λ n. n ≤ total + more) (λ n l. omega (arith, l)) ns a

pub inserted_seen : (k total before : ℕ) (ns : List ℕ) → k ≤ length ns → before ≤ total → seen k total (insert ns k (total - before)) ≡ insert (seen k total ns) k before
inserted_seen zero total before [] h l = let back : total - (total - before) ≡ before = omega (arith, l) in ap (λ m. m ∷ []) back
inserted_seen zero total before (n ∷ ns) h l = let back : total - (total - before) ≡ before = omega (arith, l) in ap (λ m. m ∷ (total - n) ∷ seen zero total ns) back
inserted_seen (suc k) total before [] h l = absurd (omega (arith, h))
inserted_seen (suc k) total before (n ∷ ns) h l = ap (λ z. n ∷ z) (inserted_seen k total before ns (let j : k ≤ length ns = omega (arith, h) in j) l)

pub few_insert : (total : ℕ) (ns : List ℕ) (k m : ℕ) → AllByRecursion (λ n. n ≤ total) ns → m ≤ total → AllByRecursion (λ n. n ≤ total) (insert ns k m)
few_insert total [] zero m a l = (l, tt)
few_insert total [] (suc k) m a l = (l, tt)
few_insert total (n ∷ ns) zero m a l = (l, a)
few_insert total (n ∷ ns) (suc k) m a l = (a.0, few_insert total ns k m a.1 l)

-- a number behind another
pub get_next : (m : ℕ) (ns : List ℕ) (k n : ℕ) → 0 < k → slice_get ns (k - 1) ≡ Some n → slice_get (m ∷ ns) k ≡ Some n
get_next m ns zero n l h = absurd (omega (arith, l))
get_next m ns (suc k) n l h = let e : k ≡ suc k - 1 = omega arith in ap (slice_get ns) e ∙ h

-- one more turn, up and down
module _ (total : ℕ) (now then : List ℕ) (edge j n : ℕ) (there : slice_get now j ≡ Some n) (few : AllByRecursion (λ m. m ≤ total) now) where
  pub few_turned : AllByRecursion (λ m. m ≤ total) (slice_set now j (total - n))
  few_turned = all_set total now j (total - n) few (omega arith)

  pub up_turned : seen j total now ≡ seen edge total then → seen (j + 1) total (slice_set now j (total - n)) ≡ seen edge total then
  up_turned same = turn_one_up j (j + 1) total now n refl there ∙ same

  pub down_turned : (next : ℕ) → next ≡ j + 1 → seen next total now ≡ seen edge total then → seen j total (slice_set now j (total - n)) ≡ seen edge total then
  down_turned next is same = turn_one_down j next total now n is (few_at total now j n few there) there ∙ same

-- what is seen has as many numbers as are kept
seen-within : (edge total k : ℕ) (ns : List ℕ) → k ≤ length (seen edge total ns) → k ≤ length ns
seen-within edge total k ns h = let e = length_seen edge total ns in omega (arith, e, h)

-- counts that are kept so, and what they are with the edge elsewhere
module _ (edge total : ℕ) (ns : List ℕ) (old : Counted) (is : ◌≡◌ {A = Counted} (record { total = total; starts = seen edge total ns }) old) where
  pub kept_within : (k : ℕ) → k ≤ length old.starts → k ≤ length ns
  kept_within k h = seen-within edge total k ns (subst (λ (z : Counted). k ≤ length z.starts) (sym is) h)

  module _ (k : ℕ) (turned : List ℕ) (same : seen k total turned ≡ seen edge total ns) (few : AllByRecursion (λ n. n ≤ total) turned) where
    pub raise_is : (more : ℕ) → ◌≡◌ {A = Counted} (record { total = total + more; starts = seen k (total + more) turned }) (record { total = old.total + more; starts = raised k more old.starts })
    raise_is more =
        let t : total + more ≡ old.total + more = ap (λ (z : Counted). z.total + more) is in
        let s : seen k (total + more) turned ≡ raised k more old.starts = raised_seen k total more turned few ∙ ap (raised k more) (same ∙ ap (λ (z : Counted). z.starts) is) in
        λ i. record { total = t i; starts = s i }

    pub insert_is : (before : ℕ) (now : List ℕ) → k ≤ length turned → before ≤ old.total → now ≡ insert turned k (total - before)
        → ◌≡◌ {A = Counted} (record { total = total; starts = seen k total now }) (record { total = old.total; starts = insert old.starts k before })
    insert_is before now within l put =
        let t : total ≡ old.total = ap (λ (z : Counted). z.total) is in
        let s : seen k total now ≡ insert old.starts k before =
        ap (seen k total) put ∙ inserted_seen k total before turned within (omega (arith, l, t)) ∙ ap (λ z. insert z k before) (same ∙ ap (λ (z : Counted). z.starts) is) in
        λ i. record { total = t i; starts = s i }
