-- The numbers of a selection stand for the series that pass, in the order of their labels.
use Rattle.std.proofs.Common.{◌≡◌, Bool, true, false, ℕ, zero, suc, ◌<◌, List, [], ◌∷◌, length, map, Option, None, Some, Contains, cond, filter, inl, inr, refl, sym, ap, subst, ◌∙◌, arith, get_or, true≢false}
use Rattle.std.specs.Prelude.{◌⊎◌, slice_get, unwrap_or}
use Rattle.std.specs.Option.{option_map}
use Rattle.std.specs.BTreeMap.{insert_entry}
use Rattle.std.specs.List.{AllByRecursion, IsDistinct, cons_option, filter_map}
use Rattle.std.specs.List.Sorted.{IsStrictlySortedBy}
use Rattle.std.specs.Map.{keys_of}
use Rattle.std.specs.Ordering.{match_ordering, ordering_reverse}
use Rattle.std.specs.Cmp.{IsTotalOrder}
use Rattle.std.specs.declared.cmp.Ordering.{Ordering}
use Rattle.std.specs.declared.cmp.Ordering.TheVariants.{Less, Equal, Greater}
use Rattle.std.proofs.lemmas.List.Elements.{Contains-get_or}
use Rattle.std.proofs.lemmas.List.Kept.{IsStrictlySortedBy-filter}
use Rattle.std.proofs.lemmas.Map.Keys.{IsDistinct-head, IsDistinct-tail}
use Rattle.std.proofs.lemmas.Option.{get_or_from_slice_get, slice_get_within}
use Rattle.label_set.specs.Labels.{labels_cmp}
use Rattle.label_set.specs.LabelOrder.{by_labels, by_labels_sorted, labels_cmp_total, labels_cmp_ties}
use Rattle.label_set.specs.LabelEquality.{labels_eq, labels_decide}
use Rattle.label_set.specs.declared.rules.Rule.{Rule}
use Rattle.match_rule.specs.Patterns.{labels_pass}
use Rattle.label_set.specs.Entries.{keys_filter, later_key}
use Rattle.sample_store.specs.Samples.{AllSeries, IsSelected, Names, Samples, chosen, labels_at}

-- ---- an item stands in a list

abbrev Has : {X : Type 0} → List X → X → Type 0
Has xs x = (i : ℕ) × (slice_get xs i ≡ Some x)

-- entries in order that have the same members are the same
module _ {K : Type 0} (R : K → K → Ordering) (o : IsTotalOrder R) where
  not_both : (a b : K) → R a b ≡ Less → R b a ≡ Less → ⊥
  not_both a b h k = let e : Less ≡ Greater = sym h ∙ o.antisymm a b ∙ ap ordering_reverse k in absurd (cc)

module _ {K X : Type 0} (R : K → K → Ordering) (o : IsTotalOrder R) where
  firsts : (x y : K × X) (xs ys : List (K × X)) → IsStrictlySortedBy R (keys_of (x ∷ xs)) → IsStrictlySortedBy R (keys_of (y ∷ ys))
      → (i j : ℕ) → slice_get (y ∷ ys) i ≡ Some x → slice_get (x ∷ xs) j ≡ Some y → x ≡ y
  firsts x y xs ys s t zero j h k = let e : x ≡ y = cc in e
  firsts x y xs ys s t (suc i) zero h k = let e : x ≡ y = cc in e
  firsts x y xs ys s t (suc i) (suc j) h k =
      absurd (not_both R o y.0 x.0 (later_key R (y ∷ ys) 0 (suc i) y x t (omega arith) refl h) (later_key R (x ∷ xs) 0 (suc j) x y s (omega arith) refl k))

  tail_has : (a b : K × X) (us vs : List (K × X)) → IsStrictlySortedBy R (keys_of (a ∷ us)) → a ≡ b → (z : K × X) (i j : ℕ) → slice_get us i ≡ Some z → slice_get (b ∷ vs) j ≡ Some z → Has vs z
  tail_has a b us vs s e z i zero h k =
      let same : a ≡ z = cc in
      let less : R a.0 z.0 ≡ Less = later_key R (a ∷ us) 0 (suc i) a z s (omega arith) refl h in
      let less_self : R a.0 a.0 ≡ Less = subst (λ (y : K × X). R a.0 y.0 ≡ Less) (sym same) less in
      absurd (not_both R o a.0 a.0 less_self less_self)
  tail_has a b us vs s e z i (suc j) h k = (j, k)

  behind : (e : K × X) (es : List (K × X)) → IsStrictlySortedBy R (keys_of (e ∷ es)) → IsStrictlySortedBy R (keys_of es)
  unfolding IsStrictlySortedBy
  behind e es s = s.1

  pub same_entries : (xs ys : List (K × X)) → IsStrictlySortedBy R (keys_of xs) → IsStrictlySortedBy R (keys_of ys)
      → ((e : K × X) → Has xs e → Has ys e) → ((e : K × X) → Has ys e → Has xs e) → xs ≡ ys
  same_entries [] [] s t f g = refl
  same_entries [] (y ∷ ys) s t f g = let h = (g y (0, refl)).1 in absurd (cc)
  same_entries (x ∷ xs) [] s t f g = let h = (f x (0, refl)).1 in absurd (cc)
  same_entries (x ∷ xs) (y ∷ ys) s t f g =
      let p = f x (0, refl) in
      let q = g y (0, refl) in
      let e : x ≡ y = firsts x y xs ys s t p.0 q.0 p.1 q.1 in
      let rest = same_entries xs ys (behind x xs s) (behind y ys t)
      (λ z h. let k = f z (suc h.0, h.1) in tail_has x y xs ys s e z h.0 k.0 h.1 k.1)
      (λ z h. let k = g z (suc h.0, h.1) in tail_has y x ys xs t (sym e) z h.0 k.0 h.1 k.1) in
      λ i. e i ∷ rest i

-- ---- the members of an insertion

module _ {X : Type 0} (k : Names) (v : X) where
  abbrev put : List (Names × X) → List (Names × X)
  put es = insert_entry labels_cmp es k v

  inserted : (es : List (Names × X)) (x : Names × X) (i : ℕ) → slice_get (put es) i ≡ Some x → (x ≡ (k, v)) ⊎ Has es x
  inserted [] x zero h = inl (cc)
  inserted [] x (suc i) h = absurd (cc)
  inserted (e ∷ es) x i h = by (labels_cmp k e.0) refl (inserted es x) i h
    where
      by : (r : Ordering) → labels_cmp k e.0 ≡ r → ((j : ℕ) → slice_get (put es) j ≡ Some x → (x ≡ (k, v)) ⊎ Has es x) → (i : ℕ) → slice_get (match_ordering r ((k, v) ∷ e ∷ es) ((e.0, v) ∷ es) (e ∷ put es)) i ≡ Some x → (x ≡ (k, v)) ⊎ Has (e ∷ es) x
      by Less p rest zero h = inl (cc)
      by Less p rest (suc i) h = inr (i, h)
      by Equal p rest zero h = let same : k ≡ e.0 = labels_cmp_ties k e.0 p in let this : x ≡ (e.0, v) = cc in inl (this ∙ ap (λ (z : Names). (z, v)) (sym same))
      by Equal p rest (suc i) h = inr (suc i, h)
      by Greater p rest zero h = inr (0, h)
      by Greater p rest (suc i) h = elim (rest i h) [
        | inl e ↦ inl e
        | inr m ↦ inr (suc m.0, m.1)
      ]

  has_new : (es : List (Names × X)) → Has (put es) (k, v)
  has_new [] = (0, refl)
  has_new (e ∷ es) = by (labels_cmp k e.0) refl (has_new es)
    where
      by : (r : Ordering) → labels_cmp k e.0 ≡ r → Has (put es) (k, v) → Has (match_ordering r ((k, v) ∷ e ∷ es) ((e.0, v) ∷ es) (e ∷ put es)) (k, v)
      by Less p m = (0, refl)
      by Equal p m = (0, ap (λ (z : Names). Some (z, v)) (sym (labels_cmp_ties k e.0 p)))
      by Greater p m = (suc m.0, m.1)

  has_old : (es : List (Names × X)) (x : Names × X) (i : ℕ) → (labels_cmp k x.0 ≡ Equal → ⊥) → slice_get es i ≡ Some x → Has (put es) x
  has_old [] x i apart h = absurd (cc)
  has_old (e ∷ es) x i apart h = by (labels_cmp k e.0) refl (λ j g. has_old es x j apart g) i h
    where
      by : (r : Ordering) → labels_cmp k e.0 ≡ r → ((j : ℕ) → slice_get es j ≡ Some x → Has (put es) x) → (i : ℕ) → slice_get (e ∷ es) i ≡ Some x → Has (match_ordering r ((k, v) ∷ e ∷ es) ((e.0, v) ∷ es) (e ∷ put es)) x
      by Less p rest i h = (suc i, h)
      by Equal p rest zero h = let same : e ≡ x = cc in absurd (apart (subst (λ (z : Names × X). labels_cmp k z.0 ≡ Equal) same p))
      by Equal p rest (suc i) h = (suc i, h)
      by Greater p rest zero h = (0, h)
      by Greater p rest (suc i) h = let m = rest i h in (suc m.0, m.1)

labels_eq_self : (m : Names) → labels_eq m m ≡ true
labels_eq_self m = (labels_decide m m (labels_eq m m) refl).1 refl

apart_at : (m : Names) (series : AllSeries) (i : ℕ) (x : Names × Samples) → AllByRecursion (λ y. labels_eq m y ≡ false) (keys_of series) → slice_get series i ≡ Some x → labels_cmp m x.0 ≡ Equal → ⊥
apart_at m [] i x a h p = absurd (cc)
apart_at m (s ∷ series) zero x a h p =
    let here : s ≡ x = cc in
    let same : m ≡ x.0 = labels_cmp_ties m x.0 p in
    let off : labels_eq m m ≡ false = subst (λ (z : Names). labels_eq m z ≡ false) (ap (λ (z : Names × Samples). z.0) here ∙ sym same) a.0 in
    true≢false (sym (labels_eq_self m) ∙ off)
apart_at m (s ∷ series) (suc i) x a h p = apart_at m series i x a.1 h p

-- series in the order of their labels are the same series
has_all : (series : AllSeries) (x : Names × Samples) (i : ℕ) → slice_get (by_labels series) i ≡ Some x → Has series x
has_all [] x i h = absurd (cc)
has_all (s ∷ series) x i h = elim (inserted s.0 s.1 (by_labels series) x i h) [
  | inl e ↦ (0, ap Some (sym e))
  | inr m ↦ let n = has_all series x m.0 m.1 in (suc n.0, n.1)
]

has_by : (series : AllSeries) (x : Names × Samples) (i : ℕ) → IsDistinct labels_eq (keys_of series) → slice_get series i ≡ Some x → Has (by_labels series) x
has_by [] x i d h = absurd (cc)
has_by (s ∷ series) x zero d h = let same : s ≡ x = cc in subst (Has (by_labels (s ∷ series))) same (has_new s.0 s.1 (by_labels series))
has_by (s ∷ series) x (suc i) d h =
    let m = has_by series x i (IsDistinct-tail labels_eq s.0 (keys_of series) d) h in
    has_old s.0 s.1 (by_labels series) x m.0 (apart_at s.0 series i x (IsDistinct-head labels_eq s.0 (keys_of series) d) h) m.1

-- ---- the members of a filter

module _ {X : Type 0} (test : X → Bool) where
  filter_has : (xs : List X) (x : X) (i : ℕ) → slice_get (filter test xs) i ≡ Some x → Has xs x × (test x ≡ true)
  filter_has [] x i h = absurd (cc)
  filter_has (y ∷ ys) x i h = by (test y) refl (filter_has ys x) i h
    where
      by : (b : Bool) → test y ≡ b → ((j : ℕ) → slice_get (filter test ys) j ≡ Some x → Has ys x × (test x ≡ true)) → (i : ℕ) → slice_get (cond b (y ∷ filter test ys) (filter test ys)) i ≡ Some x → Has (y ∷ ys) x × (test x ≡ true)
      by true e rest zero h = let same : y ≡ x = cc in ((0, h), subst (λ (z : X). test z ≡ true) same e)
      by true e rest (suc i) h = let m = rest i h in ((suc m.0.0, m.0.1), m.1)
      by false e rest i h = let m = rest i h in ((suc m.0.0, m.0.1), m.1)

  has_filter : (xs : List X) (x : X) (i : ℕ) → test x ≡ true → slice_get xs i ≡ Some x → Has (filter test xs) x
  has_filter [] x i t h = absurd (cc)
  has_filter (y ∷ ys) x i t h = by (test y) refl (λ j g. has_filter ys x j t g) i h
    where
      by : (b : Bool) → test y ≡ b → ((j : ℕ) → slice_get ys j ≡ Some x → Has (filter test ys) x) → (i : ℕ) → slice_get (y ∷ ys) i ≡ Some x → Has (cond b (y ∷ filter test ys) (filter test ys)) x
      by true e rest zero h = (0, h)
      by true e rest (suc i) h = let m = rest i h in (suc m.0, m.1)
      by false e rest zero h = let same : y ≡ x = cc in absurd (true≢false (sym t ∙ subst (λ (z : X). test z ≡ false) same e))
      by false e rest (suc i) h = rest i h

-- ---- the series that some numbers stand for

module _ (series : AllSeries) where
  abbrev those : List ℕ → AllSeries
  those places = filter_map (slice_get series) places

  record IsNumbered (places : List ℕ) (x : Names × Samples) : Type 0 where
    pub place : ℕ
    pub number : ℕ
    pub among : slice_get places place ≡ Some number
    pub there : slice_get series number ≡ Some x

  those_has : (places : List ℕ) (x : Names × Samples) (i : ℕ) → slice_get (those places) i ≡ Some x → IsNumbered places x
  those_has [] x i h = absurd (cc)
  those_has (n ∷ places) x i h = by (slice_get series n) refl (those_has places x) i h
    where
      later : IsNumbered places x → IsNumbered (n ∷ places) x
      later m = record { place = suc m.place; number = m.number; among = m.among; there = m.there }

      by : (o : Option (Names × Samples)) → slice_get series n ≡ o → ((j : ℕ) → slice_get (those places) j ≡ Some x → IsNumbered places x) → (i : ℕ) → slice_get (cons_option o (those places)) i ≡ Some x → IsNumbered (n ∷ places) x
      by None e rest i h = later (rest i h)
      by (Some y) e rest zero h = record { place = 0; number = n; among = refl; there = e ∙ h }
      by (Some y) e rest (suc i) h = later (rest i h)

  has_those : (places : List ℕ) (x : Names × Samples) (j n : ℕ) → slice_get places j ≡ Some n → slice_get series n ≡ Some x → Has (those places) x
  has_those [] x j n h t = absurd (cc)
  has_those (m ∷ places) x zero n h t = let same : m ≡ n = cc in subst (λ (o : Option (Names × Samples)). Has (cons_option o (those places)) x) (sym (ap (slice_get series) same ∙ t)) (0, refl)
  has_those (m ∷ places) x (suc j) n h t = by (slice_get series m) (has_those places x j n h t)
    where
      by : (o : Option (Names × Samples)) → Has (those places) x → Has (cons_option o (those places)) x
      by None r = r
      by (Some y) r = (suc r.0, r.1)

  -- their labels, where each number is there
  those_named : (places : List ℕ) → ((j n : ℕ) → slice_get places j ≡ Some n → n < length series) → keys_of (those places) ≡ map (labels_at series) places
  those_named [] w = refl
  those_named (n ∷ places) w = by (slice_get series n) refl (those_named places (λ j m h. w (suc j) m h))
    where
      by : (o : Option (Names × Samples)) → slice_get series n ≡ o → keys_of (those places) ≡ map (labels_at series) places
          → keys_of (cons_option o (those places)) ≡ unwrap_or (option_map (λ (one : Names × Samples). one.0) o) [] ∷ map (labels_at series) places
      by None e rest = absurd (missing series n (w 0 n refl) e)
        where
          missing : (all : AllSeries) (k : ℕ) → k < length all → slice_get all k ≡ None → ⊥
          missing [] k l g = absurd (omega (arith, l))
          missing (s ∷ all) zero l g = cc
          missing (s ∷ all) (suc k) l g = missing all k (let m : k < length all = omega (arith, l) in m) g
      by (Some y) e rest = ap (λ ks. y.0 ∷ ks) rest

named_there : (series : AllSeries) (n : ℕ) (x : Names × Samples) → slice_get series n ≡ Some x → labels_at series n ≡ x.0
named_there series n x h = ap (λ (o : Option (Names × Samples)). unwrap_or (option_map (λ (one : Names × Samples). one.0) o) []) h

contains_at : (places : List ℕ) (j n : ℕ) → slice_get places j ≡ Some n → Contains places n
contains_at places j n h = subst (Contains places) (get_or_from_slice_get places j n 0 h) (Contains-get_or places j 0 (slice_get_within places j n h))

at_contained : (places : List ℕ) (n : ℕ) → Contains places n → Has places n
at_contained places n h = (h.0, held places h.0 h.1 h.2)
  where
    held : (xs : List ℕ) (k : ℕ) → k < length xs → get_or xs k n ≡ n → slice_get xs k ≡ Some n
    held [] k l g = absurd (omega (arith, l))
    held (x ∷ xs) zero l g = ap Some g
    held (x ∷ xs) (suc k) l g = held xs k (let m : k < length xs = omega (arith, l) in m) g

pub chosen_by : (kept : List (Bool × List ℕ)) (rules : List Rule) (series : AllSeries) (places : List ℕ) → IsDistinct labels_eq (keys_of series) → IsSelected kept rules series places
    → filter_map (slice_get series) places ≡ chosen kept rules series
chosen_by kept rules series places d s =
    let test : Names × Samples → Bool = λ x. labels_pass kept rules x.0 in
    let within : (j n : ℕ) → slice_get places j ≡ Some n → n < length series = λ j n h. ((s.exact n).0 (contains_at places j n h)).0 in
    same_entries labels_cmp labels_cmp_total (filter_map (slice_get series) places) (chosen kept rules series)
    (subst (IsStrictlySortedBy labels_cmp) (sym (those_named series places within)) s.rising)
    (subst (IsStrictlySortedBy labels_cmp) (sym (keys_filter (labels_pass kept rules) (by_labels series))) (IsStrictlySortedBy-filter labels_cmp (labels_pass kept rules) (keys_of (by_labels series)) (by_labels_sorted series)))
    (λ x h.
    let m = those_has series places x h.0 h.1 in
    let p = ((s.exact m.number).0 (contains_at places m.place m.number m.among)).1 in
    let b = has_by series x m.number d m.there in
    has_filter test (by_labels series) x b.0 (subst (λ (z : Names). labels_pass kept rules z ≡ true) (named_there series m.number x m.there) p) b.1)
    (λ x h.
    let m = filter_has test (by_labels series) x h.0 h.1 in
    let n = has_all series x m.0.0 m.0.1 in
    let p : labels_pass kept rules (labels_at series n.0) ≡ true = subst (λ (z : Names). labels_pass kept rules z ≡ true) (sym (named_there series n.0 x n.1)) m.1 in
    let j = at_contained places n.0 ((s.exact n.0).1 (slice_get_within series n.0 x n.1, p)) in
    has_those series places x j.0 n.0 j.1 n.1)
