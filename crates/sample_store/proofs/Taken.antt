-- A number that was put behind some lists and is taken off again leaves what they tell as it was.
use Rattle.std.proofs.Common.{◌≡◌, ◌∙◌, Bool, true, false, ℕ, zero, suc, ◌+◌, ◌<◌, ◌≤◌, List, [], ◌∷◌, ◌++◌, length, take, Option, Some, None, slice_get, ap, sym, refl, subst, arith, cond, append-nil, true≢false}
use Rattle.std.specs.Prelude.{◌==◌, ◌||◌, MatchOption, unwrap_or, if◌then◌else◌}
use Rattle.std.specs.List.{AllByRecursion}
use Rattle.std.specs.Map.{lookup}
use Rattle.std.proofs.lemmas.Bool.Decides.{nat_tests}
use Rattle.indexmap.specs.Layout.{set_value_at}
use Rattle.label_set.specs.Labels.{IsLabelSet}
use Rattle.sample_store.specs.Listing.{list_at, noted, noted_one, swept, taken_back}
use Rattle.sample_store.specs.Samples.{AllSeries, ArePostings, Names, Pair, Postings, numbers_with, pair_eq, posted}
use Rattle.sample_store.proofs.Grows.{AreOnce, among, found_all, once_set, one_if}
use Rattle.sample_store.proofs.Listed.{all_below}

-- ---- one list

itself : (n : ℕ) → (n == n) ≡ true
itself n = grind (arith, nat_tests)

other : (n place : ℕ) → n < place → (n == place) ≡ false
other n place h = grind (arith, nat_tests)

off-end : (place : ℕ) (xs : List ℕ) → taken_back place (xs ++ place ∷ []) ≡ xs
off-end place [] = ap (λ b. if b then [] else place ∷ []) (itself place)
off-end place (x ∷ []) = ap (λ z. x ∷ z) (off-end place [])
off-end place (x ∷ y ∷ ys) = ap (λ z. x ∷ z) (off-end place (y ∷ ys))

-- the number at the end is another one
all-kept : (place : ℕ) (xs : List ℕ) → AllByRecursion (λ (k : ℕ). k < place) xs → taken_back place xs ≡ xs
all-kept place [] a = refl
all-kept place (x ∷ []) a = ap (λ b. if b then [] else x ∷ []) (other x place a.0)
all-kept place (x ∷ y ∷ ys) a = ap (λ z. x ∷ z) (all-kept place (y ∷ ys) a.1)

pub back_as_was : (place : ℕ) (xs : List ℕ) (b : Bool) → AllByRecursion (λ (k : ℕ). k < place) xs → taken_back place (xs ++ one_if b place) ≡ xs
back_as_was place xs true a = off-end place xs
back_as_was place xs false a = ap (taken_back place) (append-nil xs) ∙ all-kept place xs a

-- what the code does to one list
pub none_off : (place : ℕ) (xs : List ℕ) → length xs ≡ 0 → xs ≡ taken_back place xs
none_off place [] h = refl
none_off place (x ∷ xs) h = absurd (omega (arith, h))

other-kept : (place last : ℕ) (rest : List ℕ) → (last == place) ≡ false → taken_back place (rest ++ last ∷ []) ≡ rest ++ last ∷ []
other-kept place last [] d = ap (λ b. if b then [] else last ∷ []) d
other-kept place last (x ∷ []) d = ap (λ z. x ∷ z) (other-kept place last [] d)
other-kept place last (x ∷ y ∷ ys) d = ap (λ z. x ∷ z) (other-kept place last (y ∷ ys) d)

pub end_kept : (place last : ℕ) (xs rest : List ℕ) → xs ≡ rest ++ last ∷ [] → (last == place) ≡ false → xs ≡ taken_back place xs
end_kept place last xs rest e d = e ∙ sym (ap (taken_back place) e ∙ other-kept place last rest d)

abbrev end-of : List ℕ → ℕ
end-of [] = 0
end-of (x ∷ []) = x
end-of (x ∷ y ∷ ys) = end-of (y ∷ ys)

end-is : (xs : List ℕ) (x : ℕ) → end-of (xs ++ x ∷ []) ≡ x
end-is [] x = refl
end-is (y ∷ []) x = refl
end-is (y ∷ z ∷ zs) x = end-is (z ∷ zs) x

same-number : (m n : ℕ) → (m == n) ≡ true → m ≡ n
same-number m n h = grind (arith, nat_tests)

pub taken_off : (place last : ℕ) (xs rest ys : List ℕ) (r : Option ℕ) → xs ≡ rest ++ last ∷ [] → (last == place) ≡ true
    → MatchOption r ((xs ≡ []) × (ys ≡ [])) (λ popped. xs ≡ ys ++ popped ∷ []) → ys ≡ taken_back place xs
taken_off place last xs rest ys None e d m = m.1 ∙ sym (ap (taken_back place) m.0)
taken_off place last xs rest ys (Some popped) e d m =
    let same : popped ≡ place = sym (end-is ys popped) ∙ ap end-of (sym m ∙ e) ∙ end-is rest last ∙ same-number last place d in
    sym (ap (taken_back place) m ∙ ap (λ z. taken_back place (ys ++ z ∷ [])) same ∙ off-end place ys)

-- ---- all lists

pub swept_step : (place i : ℕ) (lists : Postings) → i < length lists
    → set_value_at (swept place i lists) i (taken_back place (list_at (swept place i lists) i)) ≡ swept place (i + 1) lists
swept_step place i [] h = absurd (omega (arith, h))
swept_step place zero (x ∷ xs) h = refl
swept_step place (suc i) (x ∷ xs) h =
    let j : suc (i + 1) ≡ suc i + 1 = omega arith in
    let now : Postings = (x.0, taken_back place x.1) ∷ set_value_at (swept place i xs) i (taken_back place (list_at (swept place i xs) i)) in
    subst (λ z. now ≡ swept place z (x ∷ xs)) j (ap (λ z. (x.0, taken_back place x.1) ∷ z) (swept_step place i xs (omega (arith, h))))

pub length_swept : (place i : ℕ) (lists : Postings) → length (swept place i lists) ≡ length lists
length_swept place zero lists = refl
length_swept place (suc i) [] = refl
length_swept place (suc i) (x ∷ xs) = ap suc (length_swept place i xs)

swept-under : (place : ℕ) (key : Pair) (lists : Postings) → posted (swept place (length lists) lists) key ≡ taken_back place (posted lists key)
swept-under place key [] = refl
swept-under place key (x ∷ xs) = by (pair_eq key x.0) (swept-under place key xs)
  where
    by : (b : Bool) → posted (swept place (length xs) xs) key ≡ taken_back place (posted xs key)
        → unwrap_or (cond b (Some (taken_back place x.1)) (lookup (pair_eq key) (swept place (length xs) xs))) [] ≡ taken_back place (unwrap_or (cond b (Some x.1) (lookup (pair_eq key) xs)) [])
    by true rest = refl
    by false rest = rest

-- ---- the pairs of a series, as far as their lists were reached

among-take : (q : Pair) (k : ℕ) (ps : Names) → among q ps ≡ false → among q (take k ps) ≡ false
among-take q zero ps h = refl
among-take q (suc k) [] h = refl
among-take q (suc k) (p ∷ ps) h = by (pair_eq q p) refl h (among-take q k ps)
  where
    by : (b : Bool) → pair_eq q p ≡ b → (b || among q ps) ≡ false → (among q ps ≡ false → among q (take k ps) ≡ false) → (pair_eq q p || among q (take k ps)) ≡ false
    by true e h rest = absurd (true≢false h)
    by false e h rest = rw e (rest h)

once-take : (k : ℕ) (ps : Names) → AreOnce ps → AreOnce (take k ps)
once-take zero ps o = tt
once-take (suc k) [] o = tt
once-take (suc k) (p ∷ ps) o = (among-take p k ps o.0, once-take k ps o.1)

pub noted_step : (lists : Postings) (names : Names) (i : ℕ) (pair : Pair) (place : ℕ) → slice_get names i ≡ Some pair
    → noted_one (noted lists (take i names) place) pair place ≡ noted lists (take (i + 1) names) place
noted_step lists [] i pair place h = absurd (cc)
noted_step lists (p ∷ ps) zero pair place h = let e : p ≡ pair = cc in ap (λ z. noted_one lists z place) (sym e)
noted_step lists (p ∷ ps) (suc i) pair place h =
    let j : suc (i + 1) ≡ suc i + 1 = omega arith in
    subst (λ z. noted_one (noted lists (take (suc i) (p ∷ ps)) place) pair place ≡ noted lists (take z (p ∷ ps)) place) j (noted_step (noted_one lists p place) ps i pair place h)

pub take_whole : (names : Names) (k : ℕ) → length names ≤ k → take k names ≡ names
take_whole [] zero h = refl
take_whole [] (suc k) h = refl
take_whole (p ∷ ps) zero h = absurd (omega (arith, h))
take_whole (p ∷ ps) (suc k) h = ap (λ z. p ∷ z) (take_whole ps k (omega (arith, h)))

-- the lists tell again what they told before a series that didn't come
pub restored : (series : AllSeries) (lists more back : Postings) (names : Names) (k : ℕ) → IsLabelSet names → ArePostings series lists
    → more ≡ noted lists (take k names) (length series) → back ≡ swept (length series) (length more) more → ArePostings series back
restored series lists more back names k set are e f = record {
  exact = λ pair ne.
      ap (λ z. posted z pair) f
      ∙ swept-under (length series) pair more
      ∙ ap (λ z. taken_back (length series) (posted z pair)) e
      ∙ ap (taken_back (length series)) (found_all lists (take k names) pair (length series) (once-take k names (once_set names set)) ∙ ap (λ z. z ++ one_if (among pair (take k names)) (length series)) (are.exact pair ne))
      ∙ back_as_was (length series) (numbers_with pair 0 series) (among pair (take k names)) (all_below pair series);
}

pub restored_whole : (series : AllSeries) (lists more back : Postings) (names : Names) → IsLabelSet names → ArePostings series lists
    → more ≡ noted lists names (length series) → back ≡ swept (length series) (length more) more → ArePostings series back
restored_whole series lists more back names set are e f =
    restored series lists more back names (length names) set are (e ∙ ap (λ z. noted lists z (length series)) (sym (take_whole names (length names) (omega arith)))) f

-- ---- the turns of the code

pub noted_next : (lists now next : Postings) (names : Names) (i place : ℕ) → i < length names → now ≡ noted lists (take i names) place
    → ((pair : Pair) → slice_get names i ≡ Some pair → next ≡ noted_one now pair place) → next ≡ noted lists (take (i + 1) names) place
noted_next lists now next names i place h e f =
    let p = at-place names i h in
    f p.0 p.1 ∙ ap (λ z. noted_one z p.0 place) e ∙ noted_step lists names i p.0 place p.1
  where
    at-place : (ps : Names) (k : ℕ) → k < length ps → (pair : Pair) × (slice_get ps k ≡ Some pair)
    at-place [] k h = absurd (omega (arith, h))
    at-place (p ∷ ps) zero h = (p, refl)
    at-place (p ∷ ps) (suc k) h = at-place ps k (omega (arith, h))

pub swept_within : (place i : ℕ) (lists now : Postings) → now ≡ swept place i lists → i < length lists → i < length now
swept_within place i lists now e h = subst (λ z. i < z) (sym (ap length e ∙ length_swept place i lists)) h

pub swept_next : (place i : ℕ) (lists now next : Postings) → now ≡ swept place i lists → i < length lists → next ≡ set_value_at now i (taken_back place (list_at now i))
    → next ≡ swept place (i + 1) lists
swept_next place i lists now next e h f = f ∙ ap (λ z. set_value_at z i (taken_back place (list_at z i))) e ∙ swept_step place i lists h

pub restored_at : (series : AllSeries) (lists more back : Postings) (names : Names) (place k : ℕ) → place ≡ length series → IsLabelSet names → ArePostings series lists
    → more ≡ noted lists (take k names) place → back ≡ swept place (length more) more → ArePostings series back
restored_at series lists more back names place k p set are e f =
    restored series lists more back names k set are (e ∙ ap (noted lists (take k names)) p) (f ∙ ap (λ z. swept z (length more) more) p)

pub restored_whole_at : (series : AllSeries) (lists more back : Postings) (names : Names) (place : ℕ) → place ≡ length series → IsLabelSet names → ArePostings series lists
    → more ≡ noted lists names place → back ≡ swept place (length more) more → ArePostings series back
restored_whole_at series lists more back names place p set are e f =
    restored_whole series lists more back names set are (e ∙ ap (noted lists names) p) (f ∙ ap (λ z. swept z (length more) more) p)
