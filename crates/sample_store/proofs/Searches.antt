-- Where a sample at a time stands among those of a series, or would stand, as a binary search over their times finds it.
use Rattle.std.proofs.Common.{◌≡◌, ℕ, zero, suc, ◌<◌, ◌≤◌, List, [], ◌∷◌, length, Result, Ok, Err, Some, slice_get, get_or, inl, inr, eq-or-lt_of_le, refl, sym, ap, subst, ◌∙◌, arith}
use Rattle.std.specs.Prelude.{MatchResult}
use Rattle.std.specs.List.{zip}
use Rattle.std.specs.List.Sorted.{IsBinarySearchResult, IsNonDecreasingBy, IsSearchInRange}
use Rattle.std.specs.Map.{keys_of}
use Rattle.std.specs.Option.{option_map}
use Rattle.std.specs.Ordering.{ordering_index, ordering_reverse}
use Rattle.std.specs.declared.cmp.Ordering.{Ordering}
use Rattle.std.specs.declared.cmp.Ordering.TheVariants.{Less, Equal, Greater}
use Rattle.std.proofs.lemmas.Map.Entries.{lookup_at_gap}
use Rattle.std.proofs.lemmas.Option.{slice_get_within}
use Rattle.ticks.specs.declared.moment.Ms.{Ms}
use Rattle.xfrac.specs.declared.value.Held.{Held}
use Rattle.label_set.specs.Entries.{at_above_earlier, insert_at_gap, insert_at_place, later_key, lookup_at_place}
use Rattle.sample_store.specs.Laws.{time_cmp_total, time_cmp_ties}
use Rattle.sample_store.specs.Samples.{IsRising, IsTimeAt, IsTimeGapAt, Samples, time_cmp}

pub keys_zipped : (times : List Ms) (values : List Held) → length times ≡ length values → keys_of (zip times values) ≡ times
keys_zipped [] values e = refl
keys_zipped (t ∷ ts) [] e = absurd (omega arith)
keys_zipped (t ∷ ts) (v ∷ vs) e = ap (λ z. t ∷ z) (keys_zipped ts vs (omega arith))

length_keys : (samples : Samples) → length (keys_of samples) ≡ length samples
length_keys [] = refl
length_keys (s ∷ samples) = ap suc (length_keys samples)

key_get : (samples : Samples) (i : ℕ) (e : Ms × Held) (d : Ms) → slice_get samples i ≡ Some e → get_or (keys_of samples) i d ≡ e.0
key_get [] i e d h = absurd (cc)
key_get (s ∷ samples) zero e d h = let same : s ≡ e = cc in ap (λ (z : Ms × Held). z.0) same
key_get (s ∷ samples) (suc i) e d h = key_get samples i e d h

there_at : (samples : Samples) (i : ℕ) → i < length samples → (e : Ms × Held) × (slice_get samples i ≡ Some e)
there_at [] i w = absurd (omega (arith, w))
there_at (s ∷ samples) zero w = (s, refl)
there_at (s ∷ samples) (suc i) w = there_at samples i (let v : i < length samples = omega (arith, w) in v)

module _ (samples : Samples) (at : Ms) (rising : IsRising samples) where
  -- a sample stands at the time
  at_place : (i : ℕ) (e : Ms × Held) → i < length samples → slice_get samples i ≡ Some e → time_cmp at e.0 ≡ Equal → IsTimeAt samples at i
  at_place i e within there same =
      let key : at ≡ e.0 = time_cmp_ties at e.0 same in
      let above = at_above_earlier time_cmp time_cmp_total at samples rising i e there same in
      let is : (f : Ms × Held) → slice_get samples i ≡ Some f → (time_cmp at f.0 ≡ Equal) × (f.0 ≡ at) =
      λ f k. let g : e ≡ f = cc in subst (λ (z : Ms × Held). (time_cmp at z.0 ≡ Equal) × (z.0 ≡ at)) g (same, sym key) in
      record {
        within = within;
        held = e.1;
        there = there ∙ ap (λ (t : Ms). Some (t, e.1)) (sym key);
        known = lookup_at_place time_cmp at samples i within above (λ f h. (is f h).0) ∙ ap (option_map (λ (f : Ms × Held). f.1)) there;
        changed = λ more. insert_at_place time_cmp at more samples i within above is;
      }

  -- or would stand between two others
  at_gap : (i : ℕ) → i ≤ length samples → ((j : ℕ) (e : Ms × Held) → j < i → slice_get samples j ≡ Some e → time_cmp at e.0 ≡ Greater)
      → ((e : Ms × Held) → slice_get samples i ≡ Some e → time_cmp at e.0 ≡ Less) → IsTimeGapAt samples at i
  at_gap i within before after = record {
    within = within;
    absent = lookup_at_gap time_cmp_total at samples i rising before after;
    added = λ v. insert_at_gap time_cmp at v samples i within before after;
  }

  turned : (a b : Ms) (o : Ordering) → time_cmp a b ≡ o → time_cmp b a ≡ ordering_reverse o
  turned a b o h = time_cmp_total.antisymm b a ∙ ap ordering_reverse h

  index_most : (o : Ordering) → ordering_index o ≤ 2
  index_most Less = omega arith
  index_most Equal = omega arith
  index_most Greater = omega arith

  index_rises : (a b : Ms) → time_cmp a b ≡ Less → ordering_index (time_cmp a at) ≤ ordering_index (time_cmp b at)
  index_rises a b less = by (time_cmp b at) refl
    where
      none : (o : Ordering) → time_cmp a at ≡ Less → ordering_index (time_cmp a at) ≤ ordering_index o
      none o h = let e : ordering_index (time_cmp a at) ≡ 0 = ap ordering_index h in omega (arith, e)

      by : (o : Ordering) → time_cmp b at ≡ o → ordering_index (time_cmp a at) ≤ ordering_index o
      by Less h = none Less (time_cmp_total.trans a b at less h)
      by Equal h = none Equal (subst (λ (z : Ms). time_cmp a z ≡ Less) (time_cmp_ties b at h) less)
      by Greater h = index_most (time_cmp a at)

  index_sorted : IsNonDecreasingBy (λ y. ordering_index (time_cmp y at)) (keys_of samples)
  index_sorted i j d l w =
      let m : j < length samples = (let e = length_keys samples in omega (arith, e, w)) in
      let a = there_at samples i (let n : i < length samples = omega (arith, l, m) in n) in
      let b = there_at samples j m in
      let f : (t u : Ms) → Type 0 = λ t u. ordering_index (time_cmp t at) ≤ ordering_index (time_cmp u at) in
      subst (λ (u : Ms). f (get_or (keys_of samples) i d) u) (sym (key_get samples j b.0 d b.1))
      (subst (λ (t : Ms). f t b.0.0) (sym (key_get samples i a.0 d a.1))
      (elim (eq-or-lt_of_le l) [
        | inl same ↦ let g : a.0 ≡ b.0 = (let p = a.1 in let q = b.1 in cc) in subst (λ (z : Ms × Held). f a.0.0 z.0) g (omega arith)
        | inr less ↦ index_rises a.0.0 b.0.0 (later_key time_cmp samples i j a.0 b.0 rising less a.1 b.1)
      ]))

  pub searched : (r : Result ℕ ℕ) → IsSearchInRange r (length (keys_of samples)) → IsBinarySearchResult (λ y. time_cmp y at) (keys_of samples) r → MatchResult r (IsTimeAt samples at) (IsTimeGapAt samples at)
  searched (Ok i) w h =
      let within : i < length samples = (let e = length_keys samples in omega (arith, e, w)) in
      let t = there_at samples i within in
      let same : time_cmp t.0.0 at ≡ Equal = subst (λ (k : Ms). time_cmp k at ≡ Equal) (key_get samples i t.0 at t.1) (h at) in
      at_place i t.0 within t.1 (turned t.0.0 at Equal same)
  searched (Err i) w h =
      let within : i ≤ length samples = (let e = length_keys samples in omega (arith, e, w)) in
      let p = h index_sorted in
      at_gap i within
      (λ j e l g. turned e.0 at Less (subst (λ (k : Ms). time_cmp k at ≡ Less) (key_get samples j e at g) (p.0 j at (omega arith) l)))
      (λ e g.
      let m : i < length (keys_of samples) = (let n = slice_get_within samples i e g in let k = length_keys samples in omega (arith, n, k)) in
      turned e.0 at Greater (subst (λ (k : Ms). time_cmp k at ≡ Greater) (key_get samples i e at g) (p.1 i at (omega arith) m)))
