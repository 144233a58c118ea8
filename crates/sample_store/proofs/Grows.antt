-- A new series goes behind the lists of its pairs.
use Rattle.std.proofs.Common.{◌≡◌, ◌≢◌, ◌∙◌, ℕ, suc, ◌+◌, List, [], ◌∷◌, ◌++◌, length, ap, ap₂, sym, refl, subst, arith, Bool, true, false, cond, Some, None, append_assoc, append-nil}
use Rattle.std.specs.Prelude.{◌||◌, bytes_eq, unwrap_or, if◌then◌else◌}
use Rattle.std.specs.List.{AllByRecursion}
use Rattle.std.specs.List.Sorted.{IsStrictlySortedBy}
use Rattle.std.specs.Map.{keys_of, lookup}
use Rattle.std.specs.Ordering.{is_eq}
use Rattle.std.specs.declared.cmp.Ordering.{Ordering}
use Rattle.std.specs.declared.cmp.Ordering.TheVariants.{Less, Equal, Greater}
use Rattle.std.proofs.lemmas.Map.Text.{is_eq-slice_cmp}
use Rattle.std.proofs.lemmas.Slice.Eq.{bytes_eq-Decides}
use Rattle.label_set.specs.LabelEquality.{labels_eq}
use Rattle.label_set.specs.Labels.{IsLabelSet, byte_cmp}
use Rattle.sample_store.proofs.Places.{look_put, pair_itself, pair_same}
use Rattle.sample_store.proofs.Stores.{put-new}
use Rattle.sample_store.specs.Listing.{noted, noted_one}
use Rattle.sample_store.specs.Samples.{AllSeries, ArePostings, Names, Pair, Postings, Samples, has_pair, numbers_with, pair_eq, posted, put_entry}

-- ---- one list

found_one : (lists : Postings) (p q : Pair) (place : ℕ) → posted (noted_one lists p place) q ≡ posted lists q ++ (if pair_eq q p then place ∷ [] else [])
found_one lists p q place = ap (λ o. unwrap_or o []) (look_put pair_eq pair_same pair_itself lists p q (posted lists p ++ place ∷ [])) ∙ by (pair_eq q p) refl
  where
    by : (b : Bool) → pair_eq q p ≡ b → unwrap_or (cond b (Some (posted lists p ++ place ∷ [])) (lookup (pair_eq q) lists)) [] ≡ posted lists q ++ (if b then place ∷ [] else [])
    by true e = ap (λ z. unwrap_or (lookup (pair_eq z) lists) [] ++ place ∷ []) (sym (pair_same q p e))
    by false e = sym (append-nil (posted lists q))

-- ---- all lists of a label set

abbrev pub among : Pair → Names → Bool
among q [] = false
among q (p ∷ ps) = pair_eq q p || among q ps

abbrev pub one_if : Bool → ℕ → List ℕ
one_if b place = if b then place ∷ [] else []

-- no pair stands twice
abbrev pub AreOnce : Names → Type 0
AreOnce [] = Unit {0}
AreOnce (p ∷ ps) = (among p ps ≡ false) × AreOnce ps

pub found_all : (lists : Postings) (ps : Names) (q : Pair) (place : ℕ) → AreOnce ps → posted (noted lists ps place) q ≡ posted lists q ++ one_if (among q ps) place
found_all lists [] q place o = sym (append-nil (posted lists q))
found_all lists (p ∷ ps) q place o =
    found_all (noted_one lists p place) ps q place o.1
    ∙ ap (λ z. z ++ one_if (among q ps) place) (found_one lists p q place)
    ∙ append_assoc (posted lists q) (one_if (pair_eq q p) place) (one_if (among q ps) place)
    ∙ ap (λ z. posted lists q ++ z) (by (pair_eq q p) refl)
  where
    by : (b : Bool) → pair_eq q p ≡ b → one_if b place ++ one_if (among q ps) place ≡ one_if (b || among q ps) place
    by false e = refl
    by true e =
        let same : among q ps ≡ false = ap (λ (z : Pair). among z ps) (pair_same q p e) ∙ o.0 in
        ap (λ b. place ∷ one_if b place) same

-- ---- the pairs of a label set

names_same : (x y : List ℕ) → bytes_eq x y ≡ true → x ≡ y
names_same x y e = (bytes_eq-Decides x y).0 e

pub names_apart : (x y : List ℕ) → byte_cmp x y ≡ Less → bytes_eq x y ≡ false
names_apart x y e = sym (is_eq-slice_cmp x y) ∙ ap is_eq e

-- behind a name come others
later_apart : (q p : Pair) (ps : Names) → AllByRecursion (λ k. byte_cmp p.0 k ≡ Less) (keys_of ps) → bytes_eq q.0 p.0 ≡ true → among q ps ≡ false
later_apart q p [] a e = refl
later_apart q p (r ∷ ps) a e =
    let apart : bytes_eq q.0 r.0 ≡ false = names_apart q.0 r.0 (ap (λ z. byte_cmp z r.0) (names_same q.0 p.0 e) ∙ a.0) in
    rw apart (later_apart q p ps a.1 e)

once : (names : Names) → IsStrictlySortedBy byte_cmp (keys_of names) → AreOnce names
unfolding IsStrictlySortedBy
once [] s = tt
once (p ∷ ps) s = (later_apart p p ps s.0 ((bytes_eq-Decides p.0 p.0).1 refl), once ps s.1)

pub same_back : (x y : List ℕ) → bytes_eq x y ≡ bytes_eq y x
same_back x y = by (bytes_eq x y) (bytes_eq y x) refl refl
  where
    by : (a b : Bool) → bytes_eq x y ≡ a → bytes_eq y x ≡ b → bytes_eq x y ≡ bytes_eq y x
    by true true e f = e ∙ sym f
    by false false e f = e ∙ sym f
    by true false e f = let t = (bytes_eq-Decides y x).1 (sym (names_same x y e)) in absurd (cc)
    by false true e f = let t = (bytes_eq-Decides x y).1 (sym (names_same y x f)) in absurd (cc)

no_empty : (text : List ℕ) → text ≢ [] → bytes_eq [] text ≡ false
no_empty [] ne = absurd (ne refl)
no_empty (b ∷ text) ne = refl

pub or_nothing : (b : Bool) → (b || false) ≡ b
or_nothing true = refl
or_nothing false = refl

among_is : (q : Pair) (ps : Names) → q.1 ≢ [] → IsStrictlySortedBy byte_cmp (keys_of ps) → among q ps ≡ has_pair q ps
unfolding IsStrictlySortedBy
among_is q [] ne s = sym (no_empty q.1 ne)
among_is q (p ∷ ps) ne s = by (byte_cmp q.0 p.0) refl (among_is q ps ne s.1)
  where
    by : (o : Ordering) → byte_cmp q.0 p.0 ≡ o → among q ps ≡ has_pair q ps → among q (p ∷ ps) ≡ has_pair q (p ∷ ps)
    by Equal is rest =
        let same : bytes_eq q.0 p.0 ≡ true = sym (is_eq-slice_cmp q.0 p.0) ∙ ap is_eq is in
        rw same (rw is (ap (λ b. bytes_eq q.1 p.1 || b) (later_apart q p ps s.0 same) ∙ or_nothing (bytes_eq q.1 p.1) ∙ same_back q.1 p.1))
    by Less is rest =
        let apart : bytes_eq q.0 p.0 ≡ false = names_apart q.0 p.0 is in
        rw apart (rw is rest)
    by Greater is rest =
        let apart : bytes_eq q.0 p.0 ≡ false = sym (is_eq-slice_cmp q.0 p.0) ∙ ap is_eq is in
        rw apart (rw is rest)

-- ---- the numbers

grown : (pair : Pair) (n : ℕ) (series : AllSeries) (names : Names) (samples : Samples)
    → numbers_with pair n (series ++ (names, samples) ∷ []) ≡ numbers_with pair n series ++ one_if (has_pair pair names) (n + length series)
grown pair n [] names samples = let e : n ≡ n + 0 = omega arith in ap (λ z. if has_pair pair names then z ∷ [] else []) e
grown pair n (s ∷ series) names samples = by (has_pair pair s.0) refl (grown pair (n + 1) series names samples)
  where
    by : (b : Bool) → has_pair pair s.0 ≡ b
        → numbers_with pair (n + 1) (series ++ (names, samples) ∷ []) ≡ numbers_with pair (n + 1) series ++ one_if (has_pair pair names) (n + 1 + length series)
        → numbers_with pair n ((s ∷ series) ++ (names, samples) ∷ []) ≡ numbers_with pair n (s ∷ series) ++ one_if (has_pair pair names) (n + length (s ∷ series))
    by true e rest = let k : n + 1 + length series ≡ n + suc (length series) = omega arith in rw e (ap (λ more. n ∷ more) (rest ∙ ap (λ z. numbers_with pair (n + 1) series ++ one_if (has_pair pair names) z) k))
    by false e rest = let k : n + 1 + length series ≡ n + suc (length series) = omega arith in rw e (rest ∙ ap (λ z. numbers_with pair (n + 1) series ++ one_if (has_pair pair names) z) k)

-- the pairs of a label set stand once
pub once_set : (names : Names) → IsLabelSet names → AreOnce names
once_set names set = once names set.ordered

pub grows : (series : AllSeries) (lists : Postings) (names : Names) (samples : Samples) → IsLabelSet names → ArePostings series lists
    → ArePostings (series ++ (names, samples) ∷ []) (noted lists names (length series))
grows series lists names samples set are = record {
  exact = λ pair ne.
      found_all lists names pair (length series) (once names set.ordered)
      ∙ ap₂ (λ x b. x ++ one_if b (length series)) (are.exact pair ne) (among_is pair names ne set.ordered)
      ∙ sym (grown pair 0 series names samples ∙ ap (λ z. numbers_with pair 0 series ++ one_if (has_pair pair names) z) (let e : 0 + length series ≡ length series = omega arith in e));
}

-- the same where a series is put in by its labels
pub grows_put : (series new : AllSeries) (lists more : Postings) (names : Names) (samples : Samples) → IsLabelSet names → ArePostings series lists → lookup (labels_eq names) series ≡ None
    → new ≡ put_entry labels_eq series names samples → more ≡ noted lists names (length series) → ArePostings new more
grows_put series new lists more names samples set are absent e f =
    subst (ArePostings new) (sym f) (subst (λ z. ArePostings z (noted lists names (length series))) (sym (e ∙ put-new series names samples absent)) (grows series lists names samples set are))
