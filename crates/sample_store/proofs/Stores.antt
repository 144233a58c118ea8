-- A store stays a store when it gains a series or a sample.
use Rattle.std.proofs.Common.{◌≡◌, Bool, true, false, ℕ, zero, suc, ◌+◌, ◌<◌, List, [], ◌∷◌, length, Option, None, Some, unwrap_or, slice_get, slice_set, insert, refl, sym, ap, subst, ◌∙◌, arith, ◌++◌, cond, true≢false}
use Rattle.std.proofs.lemmas.List.Kept.{IsStrictlySortedBy-filter}
use Rattle.std.proofs.lemmas.Option.{slice_get_within}
use Rattle.std.specs.Prelude.{◌&&◌, ◌≤◌, nat_le, is_none, filter, int_lt, if◌then◌else◌, Result, Ok, Err, IsOk, IsOkUnless, MatchOption, OnOk, OnErr}
use Rattle.std.proofs.lemmas.Bool.Decides.{nat_tests}
use Rattle.std.specs.List.{AllByRecursion, IsDistinct}
use Rattle.std.specs.List.Sorted.{IsStrictlySortedBy}
use Rattle.std.specs.BTreeMap.{insert_entry}
use Rattle.indexmap.specs.IndexMap.{insert_entry as put_entry}
use Rattle.indexmap.specs.Layout.{set_value_at}
use Rattle.label_set.specs.LabelEquality.{labels_eq, labels_decide}
use Rattle.label_set.specs.Labels.{IsLabelSet}
use Rattle.std.specs.Map.{keys_of, lookup, lookup_key}
use Rattle.std.specs.Option.{option_map}
use Rattle.std.specs.Ordering.{is_eq, match_ordering}
use Rattle.std.specs.declared.cmp.Ordering.{Ordering}
use Rattle.std.specs.declared.cmp.Ordering.TheVariants.{Less, Equal, Greater}
use Rattle.label_set.specs.Entries.{recursion_map, sorted_insert}
use Rattle.ticks.specs.declared.moment.Ms.{Ms}
use Rattle.xfrac.specs.declared.value.Held.{Held}
use Rattle.sample_store.specs.Samples.{AllSeries, ArePostings, Pair, Postings, has_pair, numbers_with, IsFoundAt, IsRising, Puts, PutsAt, Appends, IsRoomIn, IsStore, IsTimeAt, IsTimeGapAt, Names, Samples, IsNumberOf, held_in, is_same, labels_at, later_than, samples_at, limit_broken, refusal_beside, refusal_in, refusal_of, sample_count, samples_of, time_cmp, with_sample}
use Rattle.sample_store.specs.declared.refusal.StoreRefusal.{StoreRefusal}
use Rattle.sample_store.specs.declared.refusal.StoreRefusal.TheVariants.{Conflict, TooManySamples, TooManySeries, Memory}
use Rattle.sample_store.proofs.Columns.{length_inserted}
use Rattle.sample_store.specs.Laws.{time_cmp_total}
use Rattle.sample_store.specs.Laws.{held_same}

pub store_empty : (series : AllSeries) (lists : Postings) → series ≡ [] → lists ≡ [] → IsStore series 0 lists
unfolding IsDistinct
store_empty series lists e f = subst (λ z. IsStore z 0 lists) (sym e) (subst (λ z. IsStore [] 0 z) (sym f) (record { labelled = tt; distinct = tt; rising = tt; counted = refl; few_series = omega arith; few_samples = omega arith; listed = record { exact = λ pair ne. refl } }))

rising-one : (at : Ms) (held : Held) → IsRising ((at, held) ∷ [])
unfolding IsStrictlySortedBy
rising-one at held = (tt, tt)

-- by `==` labels are equal exactly where they are the same
eq-same : (names : Names) → labels_eq names names ≡ true
eq-same names = (labels_decide names names (labels_eq names names) refl).1 refl

-- the first of a list is not equal to a later one
apart : (k : Names) (series : AllSeries) (i : ℕ) (names : Names) (samples : Samples) → AllByRecursion (λ y. labels_eq k y ≡ false) (keys_of series)
    → slice_get series i ≡ Some (names, samples) → labels_eq names k ≡ false
apart k [] i names samples a h = absurd (cc)
apart k (x ∷ xs) zero names samples a h =
    let e : x.0 ≡ names = (let f : x ≡ (names, samples) = cc in ap (λ (z : Names × Samples). z.0) f) in
    let g : labels_eq k names ≡ false = subst (λ z. labels_eq k z ≡ false) e a.0 in
    by (labels_eq names k) refl g
  where
    by : (b : Bool) → labels_eq names k ≡ b → labels_eq k names ≡ false → labels_eq names k ≡ false
    by false e g = e
    by true e g = let same : names ≡ k = (labels_decide names k (labels_eq names k) refl).0 e in absurd (true≢false (sym (eq-same k) ∙ subst (λ z. labels_eq k z ≡ false) same g))
apart k (x ∷ xs) (suc i) names samples a h = apart k xs i names samples a.1 h

known-at : (series : AllSeries) (i : ℕ) (names : Names) (samples : Samples) → IsDistinct labels_eq (keys_of series) → slice_get series i ≡ Some (names, samples)
    → lookup (labels_eq names) series ≡ Some samples
unfolding IsDistinct
known-at [] i names samples d h = absurd (cc)
known-at (x ∷ xs) zero names samples d h =
    let f : x ≡ (names, samples) = cc in
    subst (λ (z : Names × Samples). cond (labels_eq names z.0) (Some z.1) (lookup (labels_eq names) xs) ≡ Some samples) (sym f)
    (ap (λ b. cond b (Some samples) (lookup (labels_eq names) xs)) (eq-same names))
known-at (x ∷ xs) (suc i) names samples d h =
    ap (λ b. cond b (Some x.1) (lookup (labels_eq names) xs)) (apart x.0 xs i names samples d.0 h) ∙ known-at xs i names samples d.1 h

changed-at : (series : AllSeries) (i : ℕ) (names : Names) (samples more : Samples) → IsDistinct labels_eq (keys_of series) → slice_get series i ≡ Some (names, samples)
    → put_entry labels_eq series names more ≡ set_value_at series i more
unfolding IsDistinct
changed-at [] i names samples more d h = absurd (cc)
changed-at (x ∷ xs) zero names samples more d h =
    let e : x.0 ≡ names = (let f : x ≡ (names, samples) = cc in ap (λ (z : Names × Samples). z.0) f) in
    ap (λ b. if b then (x.0, more) ∷ xs else x ∷ put_entry labels_eq xs names more) (ap (labels_eq names) e ∙ eq-same names)
changed-at (x ∷ xs) (suc i) names samples more d h =
    ap (λ b. if b then (x.0, more) ∷ xs else x ∷ put_entry labels_eq xs names more) (apart x.0 xs i names samples d.0 h) ∙ ap (λ zs. x ∷ zs) (changed-at xs i names samples more d.1 h)

pub found-at : (series : AllSeries) (i : ℕ) (names : Names) (samples : Samples) → IsDistinct labels_eq (keys_of series) → slice_get series i ≡ Some (names, samples)
    → IsFoundAt series names i
found-at series i names samples d h = record { samples = samples; there = h; known = known-at series i names samples d h; changed = λ more. changed-at series i names samples more d h }

count-set : (series : AllSeries) (i : ℕ) (names : Names) (old new : Samples) → slice_get series i ≡ Some (names, old)
    → sample_count (set_value_at series i new) + length old ≡ sample_count series + length new
count-set [] i names old new h = absurd (cc)
count-set (x ∷ xs) zero names old new h = let e : length x.1 ≡ length old = (let f : x ≡ (names, old) = cc in ap (λ (z : Names × Samples). length z.1) f) in omega (arith, e)
count-set (x ∷ xs) (suc i) names old new h = let g = count-set xs i names old new h in omega (arith, g)

length-set : (series : AllSeries) (i : ℕ) (new : Samples) → length (set_value_at series i new) ≡ length series
length-set [] i s = refl
length-set (x ∷ xs) zero s = refl
length-set (x ∷ xs) (suc i) s = ap suc (length-set xs i s)

keys-set : (series : AllSeries) (i : ℕ) (new : Samples) → keys_of (set_value_at series i new) ≡ keys_of series
keys-set [] i new = refl
keys-set (x ∷ xs) zero new = refl
keys-set (x ∷ xs) (suc i) new = ap (λ ks. x.0 ∷ ks) (keys-set xs i new)

pub rising-at : (series : AllSeries) (i : ℕ) (names : Names) (old : Samples) → AllByRecursion (λ z. IsRising z.1) series → slice_get series i ≡ Some (names, old) → IsRising old
rising-at [] i names old a h = absurd (cc)
rising-at (x ∷ xs) zero names old a h = let e : x ≡ (names, old) = cc in subst (λ (z : Names × Samples). IsRising z.1) e a.0
rising-at (x ∷ xs) (suc i) names old a h = rising-at xs i names old a.1 h

rising-set : (series : AllSeries) (i : ℕ) (s : Samples) → AllByRecursion (λ z. IsRising z.1) series → IsRising s → AllByRecursion (λ z. IsRising z.1) (set_value_at series i s)
rising-set [] i s a r = tt
rising-set (x ∷ xs) zero s a r = (r, a.1)
rising-set (x ∷ xs) (suc i) s a r = (a.0, rising-set xs i s a.1 r)

set-same : {X : Type 0} (xs : List X) (i : ℕ) (x : X) → slice_get xs i ≡ Some x → slice_set xs i x ≡ xs
set-same [] i x h = refl
set-same (y ∷ ys) zero x h = let e : y ≡ x = cc in ap (λ z. z ∷ ys) (sym e)
set-same (y ∷ ys) (suc i) x h = ap (λ zs. y ∷ zs) (set-same ys i x h)

pub room-same : (samples : Samples) (at : Ms) (place : ℕ) (held kept : Held) (count : ℕ) (f : IsTimeAt samples at place) → kept ≡ f.held → kept ≡ held
    → IsRoomIn samples at held count None
room-same samples at place held kept count f k h =
    let e : f.held ≡ held = sym k ∙ h in
    (f.known ∙ ap Some e, f.changed held ∙ subst (λ (z : Held). slice_set samples place (at, z) ≡ samples) e (set-same samples place (at, f.held) f.there))

-- another value than the one that stands there is refused
pub other-refused : (samples : Samples) (at : Ms) (place : ℕ) (held kept : Held) (count : ℕ) (f : IsTimeAt samples at place) → kept ≡ f.held → is_same kept held ≡ false
    → refusal_in samples at held count ≡ Some (Conflict kept held)
other-refused samples at place held kept count f k h =
    ap (λ (o : Option Held). refusal_beside o (if nat_le 2000000 count then Some TooManySamples else None) held) (f.known ∙ ap Some (sym k))
    ∙ ap (λ (b : Bool). if b then None else Some (Conflict kept held)) h

at-least : (n m : ℕ) → n ≤ m → nat_le n m ≡ true
at-least n m h = grind (arith, nat_tests)

below : (n m : ℕ) → m < n → nat_le n m ≡ false
below n m h = grind (arith, nat_tests)

-- beside nothing, a sample beyond the limit is refused
pub full-refused : (samples : Samples) (at : Ms) (place : ℕ) (held : Held) (count : ℕ) → IsTimeGapAt samples at place → 2000000 ≤ count
    → refusal_in samples at held count ≡ Some TooManySamples
full-refused samples at place held count g l =
    ap (λ (o : Option Held). refusal_beside o (if nat_le 2000000 count then Some TooManySamples else None) held) g.absent
    ∙ ap (λ (b : Bool). if b then Some TooManySamples else None) (at-least 2000000 count l)

-- where there is room, nothing is refused
room-free : (samples : Samples) (at : Ms) (held : Held) (count : ℕ) (r : Option ℕ) → IsRoomIn samples at held count r → refusal_in samples at held count ≡ None
room-free samples at held count None h =
    ap (λ (o : Option Held). refusal_beside o (if nat_le 2000000 count then Some TooManySamples else None) held) h.0
    ∙ ap (λ (b : Bool). if b then None else Some (Conflict held held)) ((held_same held held).1 refl)
room-free samples at held count (Some i) h =
    ap (λ (o : Option Held). refusal_beside o (if nat_le 2000000 count then Some TooManySamples else None) held) h.0.absent
    ∙ ap (λ (b : Bool). if b then Some TooManySamples else None) (below 2000000 count h.1)

-- a sample that is put into a series gives what the answer says
pub puts-some : (samples new : Samples) (at : Ms) (held : Held) (count i : ℕ) → IsRising samples → IsRoomIn samples at held count (Some i) → new ≡ insert samples i (at, held) → Puts samples new at held count (Ok (count + 1))
puts-some samples new at held count i r h e =
    let is : new ≡ insert_entry time_cmp samples at held = e ∙ sym (h.0.added held) in
    let few : count < 2000000 = h.1 in
    let l : length new ≡ length samples + 1 = ap length e ∙ length_inserted samples i (at, held) in
    (room-free samples at held count (Some i) h, is, omega (arith, l), omega (arith, few), subst IsRising (sym is) (sorted_insert time_cmp time_cmp_total at held samples r), omega arith)

-- a key that is found passes the test
pub found-passes : {V : Type 0} (test : Names → Bool) (es : List (Names × V)) (k : Names) → lookup_key test es ≡ Some k → test k ≡ true
found-passes test [] k h = absurd (cc)
found-passes {V} test (e ∷ es) k h = by (test e.0) refl h (found-passes test es k)
  where
    by : (b : Bool) → test e.0 ≡ b → cond b (Some e.0) (lookup_key test es) ≡ Some k → (lookup_key test es ≡ Some k → test k ≡ true) → test k ≡ true
    by true p h rest = let same : e.0 ≡ k = cc in subst (λ z. test z ≡ true) same p
    by false p h rest = rest h

-- a series that is found by its labels
pub found-key : (series : AllSeries) (i : ℕ) (names kept : Names) (samples : Samples) → IsDistinct labels_eq (keys_of series) → lookup_key (labels_eq names) series ≡ Some kept
    → slice_get series i ≡ Some (kept, samples) → IsFoundAt series names i
found-key series i names kept samples d k h =
    let same : names ≡ kept = (labels_decide names kept (labels_eq names kept) refl).0 (found-passes (labels_eq names) series kept k) in
    subst (λ z. IsFoundAt series z i) (sym same) (found-at series i kept samples d h)

-- a series whose key was read
pub found-read : (series : AllSeries) (i : ℕ) (names kept : Names) → IsDistinct labels_eq (keys_of series) → option_map (λ (one : Names × Samples). one.0) (slice_get series i) ≡ Some kept → kept ≡ names
    → IsFoundAt series names i
found-read series i names kept d h e = by (slice_get series i) refl h
  where
    by : (o : Option (Names × Samples)) → slice_get series i ≡ o → option_map (λ (one : Names × Samples). one.0) o ≡ Some kept → IsFoundAt series names i
    by None p h = absurd (cc)
    by (Some one) p h =
        let same : one.0 ≡ names = (let f : one.0 ≡ kept = cc in f ∙ e) in
        subst (λ z. IsFoundAt series z i) same (found-at series i one.0 one.1 d p)

pub put-new : (series : AllSeries) (names : Names) (more : Samples) → lookup (labels_eq names) series ≡ None → put_entry labels_eq series names more ≡ series ++ (names, more) ∷ []
put-new [] names more h = refl
put-new (x ∷ xs) names more h = by (labels_eq names x.0) refl h (put-new xs names more)
  where
    by : (b : Bool) → labels_eq names x.0 ≡ b → cond b (Some x.1) (lookup (labels_eq names) xs) ≡ None → (lookup (labels_eq names) xs ≡ None → put_entry labels_eq xs names more ≡ xs ++ (names, more) ∷ []) → (if b then (x.0, more) ∷ xs else x ∷ put_entry labels_eq xs names more) ≡ x ∷ (xs ++ (names, more) ∷ [])
    by true p h rest = absurd (cc)
    by false p h rest = ap (λ zs. x ∷ zs) (rest h)

count-more : (series : AllSeries) (one : Names × Samples) → sample_count (series ++ one ∷ []) ≡ sample_count series + length one.1
count-more [] one = omega arith
count-more (x ∷ xs) one = let h = count-more xs one in omega (arith, h)

length-more : (series : AllSeries) (one : Names × Samples) → length (series ++ one ∷ []) ≡ length series + 1
length-more [] one = refl
length-more (x ∷ xs) one = let h = length-more xs one in omega (arith, h)

rising-more : (series : AllSeries) (one : Names × Samples) → AllByRecursion (λ z. IsRising z.1) series → IsRising one.1 → AllByRecursion (λ z. IsRising z.1) (series ++ one ∷ [])
rising-more [] one a r = (r, tt)
rising-more (x ∷ xs) one a r = (a.0, rising-more xs one a.1 r)

labelled-more : (series : AllSeries) (one : Names × Samples) → AllByRecursion (λ z. IsLabelSet z.0) series → IsLabelSet one.0 → AllByRecursion (λ z. IsLabelSet z.0) (series ++ one ∷ [])
labelled-more [] one a l = (l, tt)
labelled-more (x ∷ xs) one a l = (a.0, labelled-more xs one a.1 l)

labelled-set : (series : AllSeries) (i : ℕ) (samples : Samples) → AllByRecursion (λ z. IsLabelSet z.0) series → AllByRecursion (λ z. IsLabelSet z.0) (set_value_at series i samples)
labelled-set [] i samples a = tt
labelled-set (x ∷ xs) zero samples a = (a.0, a.1)
labelled-set (x ∷ xs) (suc i) samples a = (a.0, labelled-set xs i samples a.1)

pub store-series : (series new : AllSeries) (count : ℕ) (lists more : Postings) (names kept : Names) (at : Ms) (held : Held) (samples : Samples) → IsStore series count lists → lookup (labels_eq names) series ≡ None
    → IsLabelSet names → ◌≡◌ {A = Names × Samples} (kept, samples) (names, (at, held) ∷ []) → new ≡ put_entry labels_eq series kept samples → IsDistinct labels_eq (keys_of new) → length series < 100000 → count < 2000000 → ArePostings new more → IsStore new (count + 1) more
store-series series new count lists more names kept at held samples s absent told one e d few fewer listed =
    let one0 : kept ≡ names = ap (λ (z : Names × Samples). z.0) one in
    let one1 : samples ≡ (at, held) ∷ [] = ap (λ (z : Names × Samples). z.1) one in
    let is : new ≡ series ++ (kept, samples) ∷ [] = e ∙ put-new series kept samples (subst (λ z. lookup (labels_eq z) series ≡ None) (sym one0) absent) in
    record {
      labelled = subst (AllByRecursion (λ z. IsLabelSet z.0)) (sym is) (labelled-more series (kept, samples) s.labelled (subst IsLabelSet (sym one0) told));
      distinct = d;
      rising = subst (AllByRecursion (λ z. IsRising z.1)) (sym is) (rising-more series (kept, samples) s.rising (subst IsRising (sym one1) (rising-one at held)));
      counted =
          let h = ap sample_count is ∙ count-more series (kept, samples) in
          let l : length samples ≡ 1 = ap length one1 in
          let c = s.counted in
          omega (arith, h, c, l);
      few_series = let h = ap length is ∙ length-more series (kept, samples) in omega (arith, h, few);
      few_samples = omega (arith, fewer);
      listed = listed;
    }

-- a store without a series that didn't come, whose lists tell the same
pub store_relisted : (series new : AllSeries) (count : ℕ) (lists more : Postings) → IsStore series count lists → new ≡ series → ArePostings new more → IsStore new count more
store_relisted series new count lists more s e a = subst (λ z. IsStore z count more) (sym e)
    (record { labelled = s.labelled; distinct = s.distinct; rising = s.rising; counted = s.counted; few_series = s.few_series; few_samples = s.few_samples; listed = subst (λ z. ArePostings z more) e a })

numbers-set : (pair : Pair) (n : ℕ) (series : AllSeries) (i : ℕ) (samples : Samples) → numbers_with pair n (set_value_at series i samples) ≡ numbers_with pair n series
numbers-set pair n [] i samples = refl
numbers-set pair n (x ∷ xs) zero samples = refl
numbers-set pair n (x ∷ xs) (suc i) samples = ap (λ ns. if has_pair pair x.0 then n ∷ ns else ns) (numbers-set pair (n + 1) xs i samples)

-- a store in which a series took a sample
pub store-put : (series new : AllSeries) (place count total : ℕ) (lists : Postings) (at : Ms) (held : Held) → IsStore series count lists → PutsAt series new place at held count (Ok total) → IsStore new total lists
store-put series new place count total lists at held s p = subst (λ z. IsStore z total lists) (sym p.changed) (record {
  labelled = labelled-set series place p.after s.labelled;
  distinct = subst (IsDistinct labels_eq) (sym (keys-set series place p.after)) s.distinct;
  rising = rising-set series place p.after s.rising p.puts.4;
  counted =
      let g = count-set series place p.names p.before p.after p.there in
      let c = s.counted in
      let t = p.puts.2 in
      omega (arith, g, c, t);
  few_series = let l = length-set series place p.after in let f = s.few_series in omega (arith, l, f);
  few_samples = p.puts.3;
  listed = record { exact = λ pair ne. s.listed.exact pair ne ∙ sym (numbers-set pair 0 series place p.after) };
})

set-back : (series : AllSeries) (i : ℕ) (names : Names) (samples : Samples) → slice_get series i ≡ Some (names, samples) → set_value_at series i samples ≡ series
set-back [] i names samples h = refl
set-back (x ∷ xs) zero names samples h = let e : x.1 ≡ samples = (let f : x ≡ (names, samples) = cc in ap (λ (z : Names × Samples). z.1) f) in ap (λ z. (x.0, z) ∷ xs) (sym e)
set-back (x ∷ xs) (suc i) names samples h = ap (λ zs. x ∷ zs) (set-back xs i names samples h)

pub left-as-was : (series new : AllSeries) (place count : ℕ) (at : Ms) (held : Held) (e : StoreRefusal) → PutsAt series new place at held count (Err e) → new ≡ series
left-as-was series new place count at held e p = p.changed ∙ ap (set_value_at series place) p.puts.0 ∙ set-back series place p.names p.before p.there

module _ (series : AllSeries) (names : Names) (at : Ms) (held : Held) (place count : ℕ) (lists : Postings) (s : IsStore series count lists) (f : IsFoundAt series names place) where
  samples-are : samples_of series names ≡ f.samples
  samples-are = ap (λ o. unwrap_or o []) f.known

  refusal-is : refusal_of series names at held ≡ refusal_in f.samples at held count
  refusal-is =
      ap (λ (z : Samples). refusal_beside (held_in z at) (limit_broken series names) held) samples-are
      ∙ ap (λ (o : Option Samples).
      refusal_beside (held_in f.samples at)
      (if is_none o && nat_le 100000 (length series) then Some TooManySeries else if nat_le 2000000 (sample_count series) then Some TooManySamples else None) held) f.known
      ∙ ap (λ (n : ℕ). refusal_beside (held_in f.samples at) (if nat_le 2000000 n then Some TooManySamples else None) held) (sym s.counted)

  with-is : with_sample series names at held ≡ set_value_at series place (insert_entry time_cmp f.samples at held)
  with-is = f.changed (insert_entry time_cmp (samples_of series names) at held) ∙ ap (λ (z : Samples). set_value_at series place (insert_entry time_cmp z at held)) samples-are

  before-is : (kept : Names) (before : Samples) → slice_get series place ≡ Some (kept, before) → before ≡ f.samples
  before-is kept before h = let t = f.there in let e : (kept, before) ≡ (names, f.samples) = cc in ap (λ (z : Names × Samples). z.1) e

  pub appends-ok : (new : AllSeries) (total : ℕ) → PutsAt series new place at held count (Ok total) → Appends series new names at held (Ok tt)
  appends-ok new total p =
      let same = before-is p.names p.before p.there in (
        refusal-is ∙ subst (λ (z : Samples). refusal_in z at held count ≡ None) same p.puts.0,
        p.changed ∙ ap (set_value_at series place) (subst (λ (z : Samples). p.after ≡ insert_entry time_cmp z at held) same p.puts.1) ∙ sym with-is,
      )

  pub appends-err : (new : AllSeries) (e : StoreRefusal) → PutsAt series new place at held count (Err e) → Appends series new names at held (Err e)
  appends-err new e p =
      let same = before-is p.names p.before p.there in (
        left-as-was series new place count at held e p,
        subst (λ (z : Option StoreRefusal). MatchOption z ((e ≡ Memory) × (held_in (samples_of series names) at ≡ None)) (λ r. e ≡ r)) (sym refusal-is)
            (subst (λ (z : Samples). MatchOption (refusal_in f.samples at held count) ((e ≡ Memory) × (held_in z at ≡ None)) (λ r. e ≡ r)) (sym samples-are)
            (subst (λ (z : Samples). MatchOption (refusal_in z at held count) ((e ≡ Memory) × (held_in z at ≡ None)) (λ r. e ≡ r)) same p.puts.1)),
      )

-- a series that took a sample keeps its labels, and so do all others
pub labels_set : (series : AllSeries) (i : ℕ) (more : Samples) (k : ℕ) → labels_at (set_value_at series i more) k ≡ labels_at series k
labels_set [] i more k = refl
labels_set (x ∷ xs) zero more zero = refl
labels_set (x ∷ xs) zero more (suc k) = refl
labels_set (x ∷ xs) (suc i) more zero = refl
labels_set (x ∷ xs) (suc i) more (suc k) = labels_set xs i more k

labels_there : (series : AllSeries) (place : ℕ) (names : Names) (samples : Samples) → slice_get series place ≡ Some (names, samples) → labels_at series place ≡ names
labels_there series place names samples h = ap (λ (o : Option (Names × Samples)). unwrap_or (option_map (λ (one : Names × Samples). one.0) o) []) h

module _ (series new : AllSeries) (place count : ℕ) (at : Ms) (held : Held) (lists : Postings) (s : IsStore series count lists) where
  pub into_ok : (total : ℕ) → PutsAt series new place at held count (Ok total) → Appends series new (labels_at series place) at held (Ok tt)
  into_ok total p =
      subst (λ (z : Names). Appends series new z at held (Ok tt)) (sym (labels_there series place p.names p.before p.there))
      (appends-ok series p.names at held place count lists s (found-at series place p.names p.before s.distinct p.there) new total p)

  pub into_err : (e : StoreRefusal) → PutsAt series new place at held count (Err e) → Appends series new (labels_at series place) at held (Err e)
  into_err e p =
      subst (λ (z : Names). Appends series new z at held (Err e)) (sym (labels_there series place p.names p.before p.there))
      (appends-err series p.names at held place count lists s (found-at series place p.names p.before s.distinct p.there) new e p)

pub many_as_was : (series new : AllSeries) (place count : ℕ) (at : Ms) (held : Held) (r : Result ℕ StoreRefusal) → PutsAt series new place at held count r → length new ≡ length series
many_as_was series new place count at held r p = ap length p.changed ∙ length-set series place p.after

pub named_as_was : (series new : AllSeries) (place count : ℕ) (at : Ms) (held : Held) (r : Result ℕ StoreRefusal) → PutsAt series new place at held count r → (k : ℕ) → labels_at new k ≡ labels_at series k
named_as_was series new place count at held r p k = ap (λ (z : AllSeries). labels_at z k) p.changed ∙ labels_set series place p.after k

-- a series that was found has its number
pub number_found : (series : AllSeries) (names : Names) (place : ℕ) → IsFoundAt series names place → IsNumberOf series names place
number_found series names place f = (slice_get_within series place (names, f.samples) f.there, labels_there series place names f.samples f.there)

-- what the answer of the store says, clause by clause
told-ok : (o : Option StoreRefusal) (r : Result (Unit {0}) StoreRefusal) (u : Unit {0}) → r ≡ Ok u → o ≡ None → MatchOption o (IsOkUnless r Memory) (λ (z : StoreRefusal). r ≡ Err z)
told-ok None r u e h = subst (λ (z : Result (Unit {0}) StoreRefusal). IsOkUnless z Memory) (sym e) tt
told-ok (Some z) r u e h = absurd (cc)

told-err : (o : Option StoreRefusal) (P : Type 0) (r : Result (Unit {0}) StoreRefusal) (e : StoreRefusal) → r ≡ Err e → MatchOption o ((e ≡ Memory) × P) (λ z. e ≡ z) → MatchOption o (IsOkUnless r Memory) (λ (z : StoreRefusal). r ≡ Err z)
told-err None P r e is h = subst (λ (z : Result (Unit {0}) StoreRefusal). IsOkUnless z Memory) (sym is) h.0
told-err (Some z) P r e is h = is ∙ ap Err h

told-taken : (o : Option StoreRefusal) (there : Option Held) (held : Held) (e : StoreRefusal) → o ≡ None → there ≡ Some held → MatchOption o ((e ≡ Memory) × (there ≡ None)) (λ z. e ≡ z) → ⊥
told-taken None there held e n h m = let g = m.1 in absurd (cc)
told-taken (Some z) there held e n h m = absurd (cc)

module _ (old new : AllSeries) (names : Names) (at : Ms) (held : Held) where
  pub told_refused : (r : Result (Unit {0}) StoreRefusal) → Appends old new names at held r → MatchOption (refusal_of old names at held) (IsOkUnless r Memory) (λ (e : StoreRefusal). r ≡ Err e)
  told_refused (Ok u) a = told-ok (refusal_of old names at held) (Ok u) u refl a.0
  told_refused (Err e) a = told-err (refusal_of old names at held) (held_in (samples_of old names) at ≡ None) (Err e) e refl a.1

  -- what is there already is no reason for a refusal
  free-there : held_in (samples_of old names) at ≡ Some held → refusal_of old names at held ≡ None
  free-there h =
      ap (λ (o : Option Held). refusal_beside o (limit_broken old names) held) h
      ∙ ap (λ (b : Bool). if b then None else Some (Conflict held held)) ((held_same held held).1 refl)

  pub told_there : (r : Result (Unit {0}) StoreRefusal) → Appends old new names at held r → held_in (samples_of old names) at ≡ Some held → IsOk r
  told_there (Ok u) a h = refl
  told_there (Err e) a h = absurd (told-taken (refusal_of old names at held) (held_in (samples_of old names) at) held e (free-there h) h a.1)

  pub told_done : (r : Result (Unit {0}) StoreRefusal) → Appends old new names at held r → OnOk r (new ≡ with_sample old names at held)
  told_done (Ok u) a = a.1
  told_done (Err e) a = tt

  pub told_left : (r : Result (Unit {0}) StoreRefusal) → Appends old new names at held r → OnErr r (new ≡ old)
  told_left (Ok u) a = tt
  told_left (Err e) a = a.0

-- the samples that are later than a time rise as all do
keys-later : (after : Ms) (samples : Samples) → keys_of (later_than after samples) ≡ filter (λ (t : Ms). int_lt after.0 t.0) (keys_of samples)
keys-later after [] = refl
keys-later after (s ∷ samples) =
    elim (int_lt after.0 s.0.0) as (λ b. keys_of (if b then s ∷ later_than after samples else later_than after samples)
    ≡ (if b then s.0 ∷ filter (λ (t : Ms). int_lt after.0 t.0) (keys_of samples) else filter (λ (t : Ms). int_lt after.0 t.0) (keys_of samples)))
    [ true ↦ ap (λ ts. s.0 ∷ ts) (keys-later after samples) | false ↦ keys-later after samples ]

pub rising_later : (after : Ms) (samples : Samples) → IsRising samples → IsRising (later_than after samples)
rising_later after samples rising =
    subst (IsStrictlySortedBy time_cmp) (sym (keys-later after samples)) (IsStrictlySortedBy-filter time_cmp (λ (t : Ms). int_lt after.0 t.0) (keys_of samples) rising)

pub one-there : (series : AllSeries) (i : ℕ) (samples : Samples) → option_map (λ (one : Names × Samples). one.1) (slice_get series i) ≡ Some samples → (names : Names) × (slice_get series i ≡ Some (names, samples))
one-there series i samples h = by (slice_get series i) refl h
  where
    by : (o : Option (Names × Samples)) → slice_get series i ≡ o → option_map (λ (one : Names × Samples). one.1) o ≡ Some samples → (names : Names) × (slice_get series i ≡ Some (names, samples))
    by None e h = absurd (cc)
    by (Some one) e h = let f : one.1 ≡ samples = cc in (one.0, e ∙ (λ j. Some (one.0, f j)))

pub below-count : (series : AllSeries) (i : ℕ) (names : Names) (samples : Samples) → slice_get series i ≡ Some (names, samples) → length samples ≤ sample_count series
below-count [] i names samples h = absurd (cc)
below-count (x ∷ xs) zero names samples h = let e : length x.1 ≡ length samples = (let f : x ≡ (names, samples) = cc in ap (λ (z : Names × Samples). length z.1) f) in omega (arith, e)
below-count (x ∷ xs) (suc i) names samples h = let g = below-count xs i names samples h in omega (arith, g)

-- the samples of a series that is there
pub total_samples : (series : AllSeries) (s : ℕ) (samples : Samples) → option_map (λ (one : Names × Samples). one.1) (slice_get series s) ≡ Some samples → samples_at series s ≡ samples
total_samples series s samples there = ap (λ (o : Option Samples). unwrap_or o []) there

pub total_labels : (series : AllSeries) (s : ℕ) (names : Names) → option_map (λ (one : Names × Samples). one.0) (slice_get series s) ≡ Some names → names ≡ labels_at series s
total_labels series s names there = sym (ap (λ (o : Option Names). unwrap_or o []) there)

-- what a cursor stands between, where its parts are the samples of a series
pub total_whole : (series : AllSeries) (s : ℕ) (before rest samples : Samples) → option_map (λ (one : Names × Samples). one.1) (slice_get series s) ≡ Some samples → before ++ rest ≡ samples → before ++ rest ≡ samples_at series s
total_whole series s before rest samples there whole = whole ∙ sym (total_samples series s samples there)

pub total_later : (series : AllSeries) (s : ℕ) (after : Ms) (rest samples : Samples) → option_map (λ (one : Names × Samples). one.1) (slice_get series s) ≡ Some samples → rest ≡ later_than after samples → rest ≡ later_than after (samples_at series s)
total_later series s after rest samples there later = later ∙ ap (later_than after) (sym (total_samples series s samples there))

pub total_rising : (series : AllSeries) (s : ℕ) (samples : Samples) → option_map (λ (one : Names × Samples). one.1) (slice_get series s) ≡ Some samples → IsRising samples → IsRising (samples_at series s)
total_rising series s samples there rising = subst IsRising (sym (total_samples series s samples there)) rising

pub few_there : (series : AllSeries) (count i : ℕ) (lists : Postings) (samples : Samples) → IsStore series count lists → option_map (λ (one : Names × Samples). one.1) (slice_get series i) ≡ Some samples → length samples ≤ 2000000
few_there series count i lists samples s h = let o = one-there series i samples h in let b = below-count series i o.0 samples o.1 in let c = s.counted in let f = s.few_samples in omega (arith, b, c, f)

pub rising_there : (series : AllSeries) (count i : ℕ) (lists : Postings) (samples : Samples) → IsStore series count lists → option_map (λ (one : Names × Samples). one.1) (slice_get series i) ≡ Some samples → IsRising samples
rising_there series count i lists samples s h = let o = one-there series i samples h in rising-at series i o.0 samples s.rising o.1

-- ---- an equal sample changes nothing

not_behind : (at : Ms) (samples : Samples) (held : Held) → AllByRecursion (λ t. time_cmp at t ≡ Less) (keys_of samples) → held_in samples at ≡ Some held → ⊥
not_behind at [] held a h = absurd (cc)
not_behind at (s ∷ samples) held a h = not_behind at samples held a.1 (subst (λ (o : Ordering). cond (is_eq o) (Some s.1) (held_in samples at) ≡ Some held) a.0 h)

insert_same : (at : Ms) (samples : Samples) (held : Held) → IsRising samples → held_in samples at ≡ Some held → insert_entry time_cmp samples at held ≡ samples
unfolding IsStrictlySortedBy
insert_same at [] held r h = absurd (cc)
insert_same at (s ∷ samples) held r h = by (time_cmp at s.0) refl h (insert_same at samples held r.1)
  where
    by : (o : Ordering) → time_cmp at s.0 ≡ o → cond (is_eq o) (Some s.1) (held_in samples at) ≡ Some held → (held_in samples at ≡ Some held → insert_entry time_cmp samples at held ≡ samples)
        → match_ordering o ((at, held) ∷ s ∷ samples) ((s.0, held) ∷ samples) (s ∷ insert_entry time_cmp samples at held) ≡ s ∷ samples
    by Less e k rest = absurd (not_behind at samples held (recursion_map (λ y. time_cmp s.0 y ≡ Less) (λ y. time_cmp at y ≡ Less) (λ y l. time_cmp_total.trans at s.0 y e l) (keys_of samples) r.0) k)
    by Equal e k rest = let same : s.1 ≡ held = cc in ap (λ (x : Held). (s.0, x) ∷ samples) (sym same)
    by Greater e k rest = ap (λ (z : Samples). s ∷ z) (rest k)

put_same : (series : AllSeries) (names : Names) (samples : Samples) → lookup (labels_eq names) series ≡ Some samples → put_entry labels_eq series names samples ≡ series
put_same [] names samples h = absurd (cc)
put_same (x ∷ xs) names samples h = by (labels_eq names x.0) h (put_same xs names samples)
  where
    by : (b : Bool) → cond b (Some x.1) (lookup (labels_eq names) xs) ≡ Some samples → (lookup (labels_eq names) xs ≡ Some samples → put_entry labels_eq xs names samples ≡ xs)
        → (if b then (x.0, samples) ∷ xs else x ∷ put_entry labels_eq xs names samples) ≡ x ∷ xs
    by true k rest = let same : x.1 ≡ samples = cc in ap (λ (z : Samples). (x.0, z) ∷ xs) (sym same)
    by false k rest = ap (λ (z : AllSeries). x ∷ z) (rest k)

rising_found : (series : AllSeries) (names : Names) (samples : Samples) → AllByRecursion (λ z. IsRising z.1) series → lookup (labels_eq names) series ≡ Some samples → IsRising samples
rising_found [] names samples a h = absurd (cc)
rising_found (x ∷ xs) names samples a h = by (labels_eq names x.0) h (rising_found xs names samples a.1)
  where
    by : (b : Bool) → cond b (Some x.1) (lookup (labels_eq names) xs) ≡ Some samples → (lookup (labels_eq names) xs ≡ Some samples → IsRising samples) → IsRising samples
    by true k rest = let same : x.1 ≡ samples = cc in subst IsRising same a.0
    by false k rest = rest k

with_same : (series : AllSeries) (names : Names) (at : Ms) (held : Held) → AllByRecursion (λ z. IsRising z.1) series → held_in (samples_of series names) at ≡ Some held → with_sample series names at held ≡ series
with_same series names at held a h = by (lookup (labels_eq names) series) refl h
  where
    by : (o : Option Samples) → lookup (labels_eq names) series ≡ o → held_in (unwrap_or o []) at ≡ Some held → with_sample series names at held ≡ series
    by None e k = absurd (cc)
    by (Some samples) e k =
        let more : insert_entry time_cmp samples at held ≡ samples = insert_same at samples held (rising_found series names samples a e) k in
        ap (λ (o : Option Samples). put_entry labels_eq series names (insert_entry time_cmp (unwrap_or o []) at held)) e
        ∙ ap (put_entry labels_eq series names) more
        ∙ put_same series names samples e

pub told_same : (old new : AllSeries) (names : Names) (at : Ms) (held : Held) (r : Result (Unit {0}) StoreRefusal) → AllByRecursion (λ z. IsRising z.1) old
    → Appends old new names at held r → held_in (samples_of old names) at ≡ Some held → new ≡ old
told_same old new names at held (Ok u) rising a h = a.1 ∙ with_same old names at held rising h
told_same old new names at held (Err e) rising a h = a.0
