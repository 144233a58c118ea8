-- Runs of equal values, as they are found and counted one after another.
use Rattle.std.proofs.Common.{◌≡◌, ◌∙◌, ℕ, zero, suc, ◌+◌, ◌<◌, ◌≤◌, Bool, true, false, List, [], ◌∷◌, ◌++◌, length, get_or, slice_get, take, drop, map, refl, sym, ap, subst, arith, Option, Some, None, append_assoc, append-nil}
use Rattle.std.specs.Prelude.{◌||◌, replicate}
use Rattle.std.specs.List.{All, AllByRecursion, cons_option, list_any}
use Rattle.std.specs.List.Sorted.{IsNonDecreasingBy, IsPermutation}
use Rattle.std.specs.Option.{option_map}
use Rattle.std.proofs.lemmas.List.Elements.{All-from_recursion, filter_map-append, recursion_from_All}
use Rattle.std.proofs.lemmas.List.Sorted.{All-permutation}
use Rattle.step_batch.specs.Lent.{SlotsRise}
use Rattle.step_batch.specs.declared.steps.Slot.{Slot}
use Rattle.step_table.specs.Groups.{Names}
use Rattle.step_table.specs.Shuffles.{Shuffled, none, kept, swapped, joined}
use Rattle.step_table.specs.Shuffling.{from_permutation}
use Rattle.op_rank.specs.Entries.{entry_of}
use Rattle.op_rank.specs.ValueCounts.{CountsRise, IsCounted, counts_under, has_lost, is_lost, labels_of, rolled_out, rows_in, rows_in_runs, run_under, runs_under}
use Rattle.op_rank.specs.declared.entries.Entry.{Entry}
use Rattle.op_rank.specs.declared.value_counts.Count.{Count}
use Rattle.op_rank.specs.declared.value_counts.Run.{Run}
use Rattle.op_rank.specs.declared.value_labels.Counting.{Counting}
use Rattle.op_rank.proofs.QuantilesMade.{name}

-- ---- lists

pub drop_here : {A : Type 0} (xs : List A) (i : ℕ) (x : A) → i < length xs → x ≡ get_or xs i x → drop i xs ≡ x ∷ drop (i + 1) xs
drop_here [] i x l e = absurd (omega arith)
drop_here (y ∷ xs) zero x l e = ap (λ z. z ∷ xs) (sym e)
drop_here (y ∷ xs) (suc i) x l e = let n : suc i + 1 ≡ suc (i + 1) = omega arith in rw n (drop_here xs i x (omega arith) e)

pub take_here : {A : Type 0} (xs : List A) (i : ℕ) (x : A) → i < length xs → x ≡ get_or xs i x → take (i + 1) xs ≡ take i xs ++ x ∷ []
take_here [] i x l e = absurd (omega arith)
take_here (y ∷ xs) zero x l e = ap (λ z. z ∷ []) (sym e)
take_here (y ∷ xs) (suc i) x l e = let n : suc i + 1 ≡ suc (i + 1) = omega arith in rw n (ap (λ r. y ∷ r) (take_here xs i x (omega arith) e))

all_more : {A : Type 0} (P : A → Type 0) (xs : List A) (x : A) → AllByRecursion P xs → P x → AllByRecursion P (xs ++ x ∷ [])
all_more P [] x a p = (p, tt)
all_more P (y ∷ xs) x a p = (a.0, all_more P xs x a.1 p)

pub get_same : {A : Type 0} (xs : List A) (i : ℕ) (d e : A) → i < length xs → get_or xs i d ≡ get_or xs i e
get_same [] i d e l = absurd (omega arith)
get_same (x ∷ xs) zero d e l = refl
get_same (x ∷ xs) (suc i) d e l = get_same xs i d e (omega arith)

-- ---- runs that are found

-- the runs and so many more of the entry that comes next, if there is one, stand before what is left
abbrev pub ArePending : List Run → ℕ → List Entry → List Entry → Type 0
ArePending runs rows [] all = rolled_out runs ≡ all
ArePending runs rows (e ∷ rest) all = rolled_out runs ++ (replicate rows e ++ e ∷ rest) ≡ all

begun : (runs : List Run) (rest all : List Entry) → rolled_out runs ++ rest ≡ all → ArePending runs 0 rest all
begun runs [] all e = sym (append-nil (rolled_out runs)) ∙ e
begun runs (x ∷ rest) all e = e

pub none_pending : (runs : List Run) (all : List Entry) → runs ≡ [] → ArePending runs 0 all all
none_pending runs all e = begun runs all all (ap (λ (z : List Run). rolled_out z ++ all) e)

pub all_found : (runs : List Run) (rows i : ℕ) (es all : List Entry) → length es ≤ i → ArePending runs rows (drop i es) all → rolled_out runs ≡ all
all_found runs rows zero [] all l p = p
all_found runs rows (suc i) [] all l p = p
all_found runs rows zero (e ∷ es) all l p = absurd (omega arith)
all_found runs rows (suc i) (e ∷ es) all l p = all_found runs rows i es all (omega arith) p

one_more : (n : ℕ) (e : Entry) (rest : List Entry) → replicate n e ++ e ∷ rest ≡ replicate (n + 1) e ++ rest
one_more zero e rest = refl
one_more (suc n) e rest = let m : suc n + 1 ≡ suc (n + 1) = omega arith in rw m (ap (λ (r : List Entry). e ∷ r) (one_more n e rest))

unsome : {A : Type 0} (a b : A) → Some a ≡ Some b → a ≡ b
unsome a b e = cc

get_here : {A : Type 0} (xs : List A) (i : ℕ) (x : A) → i < length xs → x ≡ get_or xs i x → slice_get xs i ≡ Some x
get_here [] i x l e = absurd (omega arith)
get_here (y ∷ xs) zero x l e = ap (λ z. Some z) (sym e)
get_here (y ∷ xs) (suc i) x l e = get_here xs i x (omega arith) e

there_is : {A : Type 0} (xs : List A) (i : ℕ) (x : A) → slice_get xs i ≡ Some x → drop i xs ≡ x ∷ drop (i + 1) xs
there_is [] i x e = absurd (cc)
there_is (y ∷ xs) zero x e = ap (λ z. z ∷ xs) (unsome y x e)
there_is (y ∷ xs) (suc i) x e = let n : suc i + 1 ≡ suc (i + 1) = omega arith in rw n (there_is xs i x e)

pub run_goes_on : (runs : List Run) (rows i : ℕ) (es all : List Entry) (e : Entry) → i < length es → e ≡ get_or es i e → slice_get es (i + 1) ≡ slice_get es i → ArePending runs rows (drop i es) all → ArePending runs (rows + 1) (drop (i + 1) es) all
run_goes_on runs rows i es all e l h s p =
    let here = drop_here es i e l h in
    let next : drop (i + 1) es ≡ e ∷ drop (i + 1 + 1) es = there_is es (i + 1) e (s ∙ get_here es i e l h) in
    let was : rolled_out runs ++ (replicate rows e ++ e ∷ drop (i + 1) es) ≡ all = subst (λ (z : List Entry). ArePending runs rows z all) here p in
    let now : rolled_out runs ++ (replicate (rows + 1) e ++ e ∷ drop (i + 1 + 1) es) ≡ all =
    ap (λ (z : List Entry). rolled_out runs ++ (replicate (rows + 1) e ++ z)) (sym next) ∙ ap (λ (z : List Entry). rolled_out runs ++ z) (sym (one_more rows e (drop (i + 1) es))) ∙ was in
    subst (λ (z : List Entry). ArePending runs (rows + 1) z all) (sym next) now

rolled_more : (runs : List Run) (r : Run) → rolled_out (runs ++ r ∷ []) ≡ rolled_out runs ++ replicate r.rows r.entry
rolled_more [] r = append-nil (replicate r.rows r.entry)
rolled_more (x ∷ runs) r = ap (λ (z : List Entry). replicate x.rows x.entry ++ z) (rolled_more runs r) ∙ sym (append_assoc (replicate x.rows x.entry) (rolled_out runs) (replicate r.rows r.entry))

pub run_ends : (runs new : List Run) (rows i : ℕ) (es all : List Entry) (e : Entry) → i < length es → e ≡ get_or es i e → new ≡ runs ++ record { entry = e; rows = rows + 1 } ∷ [] → ArePending runs rows (drop i es) all → ArePending new 0 (drop (i + 1) es) all
run_ends runs new rows i es all e l h n p =
    let r : Run = record { entry = e; rows = rows + 1 } in
    let was : rolled_out runs ++ (replicate rows e ++ e ∷ drop (i + 1) es) ≡ all = subst (λ (z : List Entry). ArePending runs rows z all) (drop_here es i e l h) p in
    begun new (drop (i + 1) es) all
    (ap (λ (z : List Run). rolled_out z ++ drop (i + 1) es) n ∙ ap (λ (z : List Entry). z ++ drop (i + 1) es) (rolled_more runs r) ∙ append_assoc (rolled_out runs) (replicate (rows + 1) e) (drop (i + 1) es)
    ∙ ap (λ (z : List Entry). rolled_out runs ++ z) (sym (one_more rows e (drop (i + 1) es))) ∙ was)

pub rows_more : (runs new : List Run) (e : Entry) (rows : ℕ) → new ≡ runs ++ record { entry = e; rows = rows } ∷ [] → rows_in_runs new ≡ rows_in_runs runs + rows
rows_more runs new e rows n = ap rows_in_runs n ∙ counted runs
  where
    counted : (some : List Run) → rows_in_runs (some ++ record { entry = e; rows = rows } ∷ []) ≡ rows_in_runs some + rows
    counted [] = omega arith
    counted (r ∷ some) = let rest = counted some in omega (arith, rest)

pub some_more : (runs new : List Run) (e : Entry) (rows : ℕ) → 0 < rows → new ≡ runs ++ record { entry = e; rows = rows } ∷ [] → AllByRecursion (λ (r : Run). 0 < r.rows) runs → AllByRecursion (λ (r : Run). 0 < r.rows) new
some_more runs new e rows p n a = subst (AllByRecursion (λ (r : Run). 0 < r.rows)) (sym n) (all_more (λ (r : Run). 0 < r.rows) runs (record { entry = e; rows = rows }) a p)

-- ---- what all entries of runs have

part : {A : Type 0} (P : A → Type 0) (xs ys : List A) → AllByRecursion P (xs ++ ys) → AllByRecursion P xs × AllByRecursion P ys
part P [] ys a = (tt, a)
part P (x ∷ xs) ys a = let r = part P xs ys a.1 in ((a.0, r.0), r.1)

pub entries_of_runs : (P : Entry → Type 0) (runs : List Run) → AllByRecursion (λ (r : Run). 0 < r.rows) runs → AllByRecursion P (rolled_out runs) → AllByRecursion (λ (r : Run). P r.entry) runs
entries_of_runs P [] s a = tt
entries_of_runs P (r ∷ runs) s a =
    let both = part P (replicate r.rows r.entry) (rolled_out runs) a in
    (one r.rows s.0 both.0, entries_of_runs P runs s.1 both.1)
  where
    one : (k : ℕ) → 0 < k → AllByRecursion P (replicate k r.entry) → P r.entry
    one zero p a = absurd (omega (arith, p))
    one (suc k) p a = a.0

pub all_moved : (P : Entry → Type 0) (xs ys : List Entry) → IsPermutation xs ys → AllByRecursion P xs → AllByRecursion P ys
all_moved P xs ys p a = recursion_from_All P ys (All-permutation P xs ys p (All-from_recursion P xs a))

pub run_here : (P : Run → Type 0) (runs : List Run) (i : ℕ) (r : Run) → i < length runs → r ≡ get_or runs i r → AllByRecursion P runs → P r
run_here P [] i r l e a = absurd (omega arith)
run_here P (x ∷ runs) zero r l e a = subst P (sym e) a.0
run_here P (x ∷ runs) (suc i) r l e a = run_here P runs i r (omega arith) e a.1

-- ---- counts

module _ (old new : List Names) (k : (j : ℕ) (names : Names) → slice_get old j ≡ Some names → slice_get new j ≡ Some names) where
  there : (ls : List Names) (p : ℕ) → p < length ls → slice_get ls p ≡ Some (get_or ls p [])
  there [] p l = absurd (omega arith)
  there (x ∷ ls) zero l = refl
  there (x ∷ ls) (suc p) l = there ls p (omega arith)

  is_in : (ls : List Names) (p : ℕ) (n : Names) → slice_get ls p ≡ Some n → (p < length ls) × (get_or ls p [] ≡ n)
  is_in [] p n e = absurd (cc)
  is_in (x ∷ ls) zero n e = (omega arith, unsome x n e)
  is_in (x ∷ ls) (suc p) n e = let r = is_in ls p n e in (omega (arith, r.0), r.1)

  counts_kept : (counts : List Count) → AllByRecursion (λ (n : Count). n.place < length old) counts → counts_under new counts ≡ counts_under old counts
  counts_kept [] w = refl
  counts_kept (n ∷ counts) w =
      let same : get_or new n.place [] ≡ get_or old n.place [] = (is_in new n.place (get_or old n.place []) (k n.place (get_or old n.place []) (there old n.place w.0))).1 in
      λ j. (same j, n.rows) ∷ counts_kept counts w.1 j

  within_kept : (counts : List Count) → AllByRecursion (λ (n : Count). n.place < length old) counts → AllByRecursion (λ (n : Count). n.place < length new) counts
  within_kept [] w = tt
  within_kept (n ∷ counts) w = ((is_in new n.place (get_or old n.place []) (k n.place (get_or old n.place []) (there old n.place w.0))).0, within_kept counts w.1)

  under_more : (counts : List Count) (n : Count) → counts_under new (counts ++ n ∷ []) ≡ counts_under new counts ++ (name new n.place, n.rows) ∷ []
  under_more [] n = refl
  under_more (m ∷ counts) n = ap (λ (r : List (Names × ℕ)). (name new m.place, m.rows) ∷ r) (under_more counts n)

  rows_in_more : (counts : List Count) (n : Count) → rows_in (counts ++ n ∷ []) ≡ rows_in counts + n.rows
  rows_in_more [] n = omega arith
  rows_in_more (m ∷ counts) n = let rest = rows_in_more counts n in omega (arith, rest)

  -- what holds of counts once one more run is counted
  pub record AreCounted (c : Counting) (runs : List Run) (counts : List Count) : Type 0 where
    pub under : counts_under new counts ≡ runs_under c runs
    pub within : AllByRecursion (λ (n : Count). n.place < length new) counts
    pub few : rows_in counts ≤ rows_in_runs runs

  pub one_counted : (c : Counting) (runs : List Run) (r : Run) (was now : List Count) → counts_under old was ≡ runs_under c runs → AllByRecursion (λ (n : Count). n.place < length old) was → rows_in was ≤ rows_in_runs runs
      → IsCounted new (labels_of c r.entry) r.rows was now → AreCounted c (runs ++ r ∷ []) now
  one_counted c runs r was now u w f i = pick (labels_of c r.entry) refl i
    where
      front : counts_under new was ≡ runs_under c runs
      front = counts_kept was w ∙ u

      rows : rows_in_runs (runs ++ r ∷ []) ≡ rows_in_runs runs + r.rows
      rows = rows_more runs (runs ++ r ∷ []) r.entry r.rows refl

      last : (o : Option Names) → labels_of c r.entry ≡ o → runs_under c (runs ++ r ∷ []) ≡ runs_under c runs ++ cons_option (option_map (λ (n : Names). (n, r.rows)) o) []
      last o e = filter_map-append (run_under c) runs (r ∷ []) ∙ ap (λ (z : Option Names). runs_under c runs ++ cons_option (option_map (λ (n : Names). (n, r.rows)) z) []) e

      pick : (o : Option Names) → labels_of c r.entry ≡ o → IsCounted new o r.rows was now → AreCounted c (runs ++ r ∷ []) now
      pick None e i = record {
        under = ap (counts_under new) i ∙ front ∙ sym (append-nil (runs_under c runs)) ∙ sym (last None e);
        within = subst (AllByRecursion (λ (n : Count). n.place < length new)) (sym i) (within_kept was w);
        few = let same : rows_in now ≡ rows_in was = ap rows_in i in omega (arith, same, rows, f);
      }
      pick (Some names) e i =
          let n : Count = record { place = i.0; rows = r.rows } in
          let at = is_in new i.0 names i.1 in
          record {
            under = ap (counts_under new) i.2 ∙ under_more was n ∙ (λ j. front j ++ (at.1 j, r.rows) ∷ []) ∙ sym (last (Some names) e);
            within = subst (AllByRecursion (λ (m : Count). m.place < length new)) (sym i.2) (all_more (λ (m : Count). m.place < length new) was n (within_kept was w) at.0);
            few = let same : rows_in now ≡ rows_in was + r.rows = ap rows_in i.2 ∙ rows_in_more was n in omega (arith, same, rows, f);
          }

pub lost_more : (c : Counting) (runs : List Run) (r : Run) (lost missed now : Bool) → now ≡ (lost || missed) → missed ≡ is_lost c r → lost ≡ has_lost c runs → now ≡ has_lost c (runs ++ r ∷ [])
lost_more c runs r lost missed now n m l = n ∙ (λ j. l j || m j) ∙ sym (any runs)
  where
    or_false : (b : Bool) → (b || false) ≡ b
    or_false true = refl
    or_false false = refl

    assoc : (a b d : Bool) → (a || (b || d)) ≡ ((a || b) || d)
    assoc true b d = refl
    assoc false b d = refl

    any : (some : List Run) → list_any (is_lost c) (some ++ r ∷ []) ≡ (list_any (is_lost c) some || is_lost c r)
    any [] = or_false (is_lost c r)
    any (x ∷ some) = ap (λ (b : Bool). is_lost c x || b) (any some) ∙ assoc (is_lost c x) (list_any (is_lost c) some) (is_lost c r)

not_below : (n : Count) (counts : List Count) → ((j : ℕ) (d : Count) → j < length counts → n.place ≤ (get_or counts j d).place) → AllByRecursion (λ (m : Count). n.place ≤ m.place) counts
not_below n [] f = tt
not_below n (m ∷ counts) f = (f 0 n (omega arith), not_below n counts (λ j d l. f (suc j) d (omega arith)))

pub places_rise : (counts : List Count) → IsNonDecreasingBy (λ (n : Count). n.place) counts → CountsRise counts
places_rise [] f = tt
places_rise (n ∷ counts) f = (not_below n counts (λ j d l. f 0 (suc j) d (omega arith) (omega arith)), places_rise counts (λ i j d l m. f (suc i) (suc j) d (omega arith) (omega arith)))

rows_shuffled : (xs ys : List Count) → Shuffled xs ys → rows_in xs ≡ rows_in ys
rows_shuffled _ _ none = refl
rows_shuffled _ _ (kept x xs ys s) = ap (λ (k : ℕ). x.rows + k) (rows_shuffled xs ys s)
rows_shuffled _ _ (swapped x y xs) = omega arith
rows_shuffled _ _ (joined xs ys zs s t) = rows_shuffled xs ys s ∙ rows_shuffled ys zs t

pub same_count : (xs ys : List Count) → IsPermutation xs ys → rows_in xs ≡ rows_in ys
same_count xs ys p = rows_shuffled xs ys (from_permutation xs ys p)

pub counts_within : (high : ℕ) (xs ys : List Count) → IsPermutation xs ys → AllByRecursion (λ (n : Count). n.place < high) xs → AllByRecursion (λ (n : Count). n.place < high) ys
counts_within high xs ys p a = recursion_from_All (λ (n : Count). n.place < high) ys (All-permutation (λ (n : Count). n.place < high) xs ys p (All-from_recursion (λ (n : Count). n.place < high) xs a))

-- ---- a step

pub listed_within : (high low : ℕ) (places : List ℕ) (slots : List Slot) → All (λ (p : ℕ). p < high) places → SlotsRise low (length places) slots → AllByRecursion (λ (e : Entry). e.group < high) (map (entry_of places) slots)
listed_within high low places [] w r = tt
listed_within high low places (s ∷ slots) w r = (w s.place 0 r.1, listed_within high (s.place + 1) places slots w r.2)

-- the groups of runs are those of the entries that are sorted
pub runs_within : (high : ℕ) (places : List ℕ) (slots : List Slot) (listed sorted : List Entry) (runs : List Run) → All (λ (p : ℕ). p < high) places → SlotsRise 0 (length places) slots → listed ≡ map (entry_of places) slots → IsPermutation listed sorted
    → rolled_out runs ≡ sorted → AllByRecursion (λ (r : Run). 0 < r.rows) runs → AllByRecursion (λ (r : Run). r.entry.group < high) runs
runs_within high places slots listed sorted runs w r l p e s =
    let all : AllByRecursion (λ (x : Entry). x.group < high) listed = subst (AllByRecursion (λ (x : Entry). x.group < high)) (sym l) (listed_within high 0 places slots w r) in
    entries_of_runs (λ (x : Entry). x.group < high) runs s (subst (AllByRecursion (λ (x : Entry). x.group < high)) (sym e) (all_moved (λ (x : Entry). x.group < high) listed sorted p all))
