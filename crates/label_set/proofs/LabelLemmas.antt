-- Labels stay labels, and a search among them tells where a name is.
use Rattle.std.proofs.Common.{◌≡◌, ◌≢◌, ◌<◌, ◌≤◌, ℕ, Bool, true, false, cond, List, [], ◌∷◌, filter, length, refl, sym, subst, ap, ◌∙◌, ◌||◌, Option, None, Some, slice_get, slice_set, remove, not, ◌+◌, suc, take, drop, arith, length-append, length-drop, length-take}
use Rattle.std.specs.Prelude.{bytes_eq}
use Rattle.std.specs.BTreeMap.{insert_entry, is_at}
use Rattle.std.specs.Map.{keys_of}
use Rattle.std.specs.Option.{option_map}
use Rattle.std.specs.List.Sorted.{IsStrictlySortedBy}
use Rattle.std.specs.Ordering.{is_eq}
use Rattle.std.specs.declared.cmp.Ordering.TheVariants.{Equal}
use Rattle.std.specs.Cmp.Lexicographic.{nat_list_cmp_total, texts_ties}
use Rattle.std.proofs.lemmas.List.{length-set}
use Rattle.std.proofs.lemmas.List.Kept.{IsStrictlySortedBy-filter}
use Rattle.std.proofs.lemmas.Cmp.{tied_itself}
use Rattle.std.proofs.lemmas.Slice.Eq.{bytes_eq-Decides}
use Rattle.label_set.specs.Labels.{IsLabelSet, byte_cmp, is_named, value_at, with_pair, with_value, without}
use Rattle.label_set.specs.Entries.{all_insert, at_above_earlier, at_below_later, filter_takes_out, insert_at_place, keys_filter, recursion_filter, sorted_insert}

pub IsLabelSet-nil : (ps : List (List ℕ × List ℕ)) → ps ≡ [] → IsLabelSet ps
unfolding IsStrictlySortedBy
IsLabelSet-nil ps e = rw e (record { ordered = tt; filled = tt; few = omega arith })

pub IsLabelSet-insert : (ps : List (List ℕ × List ℕ)) (name value : List ℕ) → IsLabelSet ps → value ≢ [] → length (insert_entry byte_cmp ps name value) ≤ 64
    → IsLabelSet (insert_entry byte_cmp ps name value)
IsLabelSet-insert ps name value h n few = record {
  ordered = sorted_insert byte_cmp nat_list_cmp_total name value ps h.ordered;
  filled = all_insert byte_cmp (λ p. p.1 ≢ []) name value ps n (λ e _. n) h.filled;
  few = few;
}

length-filter_le : {X : Type 0} (test : X → Bool) (xs : List X) → length (filter test xs) ≤ length xs
length-filter_le test [] = omega arith
length-filter_le test (x ∷ xs) =
    let l = length-filter_le test xs in
    elim (test x) as (λ b. length (cond b (x ∷ filter test xs) (filter test xs)) ≤ length (x ∷ xs)) [ true ↦ omega (arith, l) | false ↦ omega (arith, l) ]

pub IsLabelSet-filter : (test : List ℕ → Bool) (ps : List (List ℕ × List ℕ)) → IsLabelSet ps → IsLabelSet (filter (λ p. test p.0) ps)
IsLabelSet-filter test ps h = record {
  ordered = rw (keys_filter test ps) (IsStrictlySortedBy-filter byte_cmp test (keys_of ps) h.ordered);
  filled = recursion_filter (λ p. p.1 ≢ []) (λ p. test p.0) ps h.filled;
  few = let l = length-filter_le (λ (p : List ℕ × List ℕ). test p.0) ps in let few : length ps ≤ 64 = h.few in omega (arith, l);
}

pub byte_cmp_equal : (x y : List ℕ) → byte_cmp x y ≡ Equal → y ≡ x
byte_cmp_equal x y e = let same : x ≡ y = (bytes_eq-Decides x y).0 (texts_ties x y ∙ ap is_eq e) in cc

or_false : (b : Bool) → (b || false) ≡ b
or_false true = refl
or_false false = refl

pub is_named_one : (name x : List ℕ) → is_named (name ∷ []) x ≡ is_at (byte_cmp name) x
is_named_one name x = or_false (bytes_eq name x) ∙ texts_ties name x

module _ (ps : List (List ℕ × List ℕ)) (name : List ℕ) (h : IsLabelSet ps) (i : ℕ) (w : i < length ps) where
  equal_at : (a : List ℕ × List ℕ) → slice_get ps i ≡ Some a → option_map (λ p. p.0) (slice_get ps i) ≡ Some name → byte_cmp name a.0 ≡ Equal
  equal_at a at k = let same : name ≡ a.0 = cc in subst (λ (n : List ℕ). byte_cmp name n ≡ Equal) same (tied_itself nat_list_cmp_total name)

  -- the pairs but for that of a name are those but for the one at its place
  pub without_at : option_map (λ p. p.0) (slice_get ps i) ≡ Some name → without (name ∷ []) ps ≡ remove ps i
  without_at k = go (slice_get ps i) refl
    where
      go : (o : Option (List ℕ × List ℕ)) → slice_get ps i ≡ o → without (name ∷ []) ps ≡ remove ps i
      go None e = absurd (let no : None ≡ Some name = cc in cc)
      go (Some a) e =
          let tie = equal_at a e k in
          let here : (p : List ℕ × List ℕ) → slice_get ps i ≡ Some p → byte_cmp name p.0 ≡ Equal = λ p g. equal_at p g k in
          filter_takes_out byte_cmp (is_named (name ∷ [])) name (is_named_one name) ps i w
          (at_above_earlier byte_cmp nat_list_cmp_total name ps h.ordered i a e tie)
          here
          (at_below_later byte_cmp nat_list_cmp_total name ps h.ordered i a e tie)

  -- a value under a name that is there is put into the pair at its place
  pub insert_at : (v : List ℕ) → option_map (λ p. p.0) (slice_get ps i) ≡ Some name → insert_entry byte_cmp ps name v ≡ slice_set ps i (name, v)
  insert_at v k = go (slice_get ps i) refl
    where
      go : (o : Option (List ℕ × List ℕ)) → slice_get ps i ≡ o → insert_entry byte_cmp ps name v ≡ slice_set ps i (name, v)
      go None e = absurd (let no : None ≡ Some name = cc in cc)
      go (Some a) e =
          let here : (p : List ℕ × List ℕ) → slice_get ps i ≡ Some p → (byte_cmp name p.0 ≡ Equal) × (p.0 ≡ name) = λ p g. let q = equal_at p g k in (q, byte_cmp_equal name p.0 q) in
          insert_at_place byte_cmp name v ps i w (at_above_earlier byte_cmp nat_list_cmp_total name ps h.ordered i a e (equal_at a e k)) here

missing_step : (p : List ℕ × List ℕ) (ps : List (List ℕ × List ℕ)) (name : List ℕ) → value_at (p ∷ ps) name ≡ None → (value_at ps name ≡ None → without (name ∷ []) ps ≡ ps) → without (name ∷ []) (p ∷ ps) ≡ p ∷ ps
missing_step p ps name e rest = go (is_at (byte_cmp name) p.0) refl
  where
    go : (b : Bool) → is_at (byte_cmp name) p.0 ≡ b → without (name ∷ []) (p ∷ ps) ≡ p ∷ ps
    go true q = absurd (let no : Some p.1 ≡ None = rw q at e in cc)
    go false q = rw (is_named_one name p.0 ∙ q) (ap (λ qs. p ∷ qs) (rest (rw q at e)))

-- where a name is not there, taking it out leaves the pairs
pub without_missing : (ps : List (List ℕ × List ℕ)) (name : List ℕ) → value_at ps name ≡ None → without (name ∷ []) ps ≡ ps
without_missing [] name e = refl
without_missing (p ∷ ps) name e = missing_step p ps name e (without_missing ps name)

module _ (ps : List (List ℕ × List ℕ)) (h : IsLabelSet ps) (i : ℕ) (w : i < length ps) (a : List ℕ × List ℕ) (at : slice_get ps i ≡ Some a) where
  key_at : option_map (λ p. p.0) (slice_get ps i) ≡ Some a.0
  key_at = rw at refl

  pub IsLabelSet-remove : IsLabelSet (remove ps i)
  IsLabelSet-remove = subst IsLabelSet (without_at ps a.0 h i w key_at) (IsLabelSet-filter (λ n. not (is_named (a.0 ∷ []) n)) ps h)

  pub IsLabelSet-set : (v : List ℕ) → v ≢ [] → IsLabelSet (slice_set ps i (a.0, v))
  IsLabelSet-set v n =
      let e = insert_at ps a.0 h i w v key_at in
      let few : length (insert_entry byte_cmp ps a.0 v) ≤ 64 = rw (e, length-set ps i (a.0, v)) h.few in
      subst IsLabelSet e (IsLabelSet-insert ps a.0 v h n few)

  -- the same name at that place
  pub name_at : (name : List ℕ) → option_map (λ p. p.0) (slice_get ps i) ≡ Some name → a.0 ≡ name
  name_at name k = let e : option_map (λ p. p.0) (slice_get ps i) ≡ Some a.0 = key_at in cc

pub with_value_filled : (ps : List (List ℕ × List ℕ)) (name v : List ℕ) → v ≢ [] → with_value ps name v ≡ insert_entry byte_cmp ps name v
with_value_filled ps name [] n = absurd (n refl)
with_value_filled ps name (c ∷ v) n = refl

-- where a name is not there, setting a value puts it
pub with_pair_missing : (ps : List (List ℕ × List ℕ)) (name v : List ℕ) → value_at ps name ≡ None → with_pair ps name v ≡ with_value ps name v
with_pair_missing ps name [] e = sym (without_missing ps name e)
with_pair_missing ps name (c ∷ v) e = refl

pub length_without_at : (ps : List (List ℕ × List ℕ)) (name : List ℕ) (i : ℕ) → IsLabelSet ps → i < length ps → option_map (λ p. p.0) (slice_get ps i) ≡ Some name → length ps ≡ length (without (name ∷ []) ps) + 1
length_without_at ps name i h w k = rw (without_at ps name h i w k) (omega (arith, length-append (take i ps) (drop (suc i) ps), length-take i ps, length-drop (suc i) ps))
