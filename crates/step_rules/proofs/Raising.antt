-- Counts that are raised to the greatest so far.
use Rattle.std.proofs.Common.{◌≡◌, ◌∙◌, Bool, true, false, cond, List, [], ◌∷◌, ◌++◌, map, refl, sym, ap, append-nil}
use Rattle.std.specs.Prelude.{◌||◌}
use Rattle.std.specs.Cmp.{IsStrictWeakOrder}
use Rattle.std.specs.List.{AllByRecursion, list_any}
use Rattle.std.specs.Ordering.{is_lt}
use Rattle.std.proofs.lemmas.List.Elements.{All-head, All-tail}
use Rattle.std.proofs.lemmas.List.MinMax.{ranks_by}
use Rattle.xfrac.specs.Laws.{EqualIsSame, LessIsTransitive, OrderIsReversed}
use Rattle.xfrac.specs.Order.{compares, total_order}
use Rattle.xfrac.specs.declared.value.CompareOp.TheVariants.{Lt}
use Rattle.xfrac.specs.declared.value.XFrac.{XFrac}
use Rattle.xfrac.specs.declared.value.XFrac.TheVariants.{Fin, PosInf, NegInf, NaN}
use Rattle.promql_meaning.specs.declared.buckets.Bucket.{Bucket}
use Rattle.promql_meaning.specs.Buckets.{at_least, falls, raised}
use Rattle.promql_meaning.specs.NumberOrder.{tidy, tidy-same, tidy_order, values_total}
use Rattle.step_rules.specs.Counts.{AreCounts, IsCount, count_above}

-- the counts raised to an earlier one and to those before each
abbrev pub rise : XFrac → List Bucket → List Bucket
rise most [] = []
rise most (b ∷ buckets) = record { bound = b.bound; count = count_above most b.count } ∷ rise (count_above most b.count) buckets

-- a count is below an earlier one or one before it
abbrev pub sinks : XFrac → List Bucket → Bool
sinks most [] = false
sinks most (b ∷ buckets) = compares Lt b.count most || sinks (count_above most b.count) buckets

abbrev lower : XFrac → XFrac → Bool
lower a b = is_lt (tidy_order false a b)

lower_is : (a b : XFrac) → IsCount a → IsCount b → compares Lt a b ≡ lower a b
lower_is (Fin a) (Fin b) ca cb =
    ap (λ v. is_lt (total_order v (Fin b))) (sym (tidy-same (Fin a) ca.number)) ∙ ap (λ v. is_lt (total_order (tidy (Fin a)) v)) (sym (tidy-same (Fin b) cb.number))
lower_is (Fin a) PosInf ca cb = absurd (let f = cb.finite in cc)
lower_is (Fin a) NegInf ca cb = absurd (let f = cb.finite in cc)
lower_is (Fin a) NaN ca cb = absurd (let f = cb.finite in cc)
lower_is PosInf b ca cb = absurd (let f = ca.finite in cc)
lower_is NegInf b ca cb = absurd (let f = ca.finite in cc)
lower_is NaN b ca cb = absurd (let f = ca.finite in cc)

module _ (equal : EqualIsSame) (reversed : OrderIsReversed) (transitive : LessIsTransitive) where
  weak : IsStrictWeakOrder lower
  weak = ranks_by (values_total equal reversed transitive false) (λ (v : XFrac). v)

  pub over : (a b c : XFrac) → IsCount a → IsCount b → IsCount c → compares Lt a b ≡ false → compares Lt b c ≡ false → compares Lt a c ≡ false
  over a b c ca cb ce h k = lower_is a c ca ce ∙ weak.chain a b c (sym (lower_is a b ca cb) ∙ h) (sym (lower_is b c cb ce) ∙ k)

  pub one_way : (a b : XFrac) → IsCount a → IsCount b → compares Lt a b ≡ true → compares Lt b a ≡ false
  one_way a b ca cb h = lower_is b a cb ca ∙ weak.one_way a b (sym (lower_is a b ca cb) ∙ h)

  -- less carries over
  less : (a b c : XFrac) → IsCount a → IsCount b → IsCount c → compares Lt a b ≡ true → compares Lt b c ≡ true → compares Lt a c ≡ true
  less a b c ca cb ce h k = by (compares Lt a c) refl
    where
      by : (t : Bool) → compares Lt a c ≡ t → compares Lt a c ≡ true
      by true e = e
      by false e = let no : compares Lt a b ≡ false = over a c b ca ce cb e (one_way b c cb ce k) in absurd (cc)

  above_count : (m c : XFrac) → IsCount m → IsCount c → IsCount (count_above m c)
  above_count m c cm cd = elim (compares Lt c m) as (λ t. IsCount (cond t m c)) [ true ↦ cm | false ↦ cd ]

  -- raising twice is raising to the greater
  twice : (m c : XFrac) (b : Bucket) → IsCount m → IsCount c → IsCount b.count → at_least m (at_least c b) ≡ at_least (count_above m c) b
  twice m c b cm cd cb = by (compares Lt c m) (compares Lt b.count c) (compares Lt b.count m) refl refl refl
    where
      to : XFrac → Bucket
      to v = record { bound = b.bound; count = v }

      by : (s t u : Bool) → compares Lt c m ≡ s → compares Lt b.count c ≡ t → compares Lt b.count m ≡ u → at_least m (at_least c b) ≡ at_least (count_above m c) b
      by true true u es et eu =
          let um : compares Lt b.count m ≡ true = less b.count c m cb cd cm et es in
          ap (λ x. to (cond (compares Lt (cond x c b.count) m) m (cond x c b.count))) et ∙ ap (λ x. to (cond x m c)) es
          ∙ sym (ap (λ x. to (cond (compares Lt b.count (cond x m c)) (cond x m c) b.count)) es ∙ ap (λ x. to (cond x m b.count)) um)
      by true false u es et eu =
          ap (λ x. to (cond (compares Lt (cond x c b.count) m) m (cond x c b.count))) et
          ∙ sym (ap (λ x. to (cond (compares Lt b.count (cond x m c)) (cond x m c) b.count)) es)
      by false true u es et eu =
          ap (λ x. to (cond (compares Lt (cond x c b.count) m) m (cond x c b.count))) et ∙ ap (λ x. to (cond x m c)) es
          ∙ sym (ap (λ x. to (cond (compares Lt b.count (cond x m c)) (cond x m c) b.count)) es ∙ ap (λ x. to (cond x c b.count)) et)
      by false false true es et eu = let no : compares Lt b.count m ≡ false = over b.count c m cb cd cm et es in absurd (cc)
      by false false false es et eu =
          ap (λ x. to (cond (compares Lt (cond x c b.count) m) m (cond x c b.count))) et ∙ ap (λ x. to (cond x m b.count)) eu
          ∙ sym (ap (λ x. to (cond (compares Lt b.count (cond x m c)) (cond x m c) b.count)) es ∙ ap (λ x. to (cond x c b.count)) et)

  abbrev Counts : List Bucket → Type 0
  Counts bs = AllByRecursion (λ (b : Bucket). IsCount b.count) bs

  counts_raised : (c : XFrac) (bs : List Bucket) → IsCount c → Counts bs → Counts (map (at_least c) bs)
  counts_raised c [] cd all = tt
  counts_raised c (b ∷ bs) cd all = (above_count c b.count cd all.0, counts_raised c bs cd all.1)

  raised_counts : (bs : List Bucket) → Counts bs → Counts (raised bs)
  raised_counts [] all = tt
  raised_counts (b ∷ bs) all = (all.0, counts_raised b.count (raised bs) all.0 (raised_counts bs all.1))

  each_twice : (m c : XFrac) (bs : List Bucket) → IsCount m → IsCount c → Counts bs → map (at_least m) (map (at_least c) bs) ≡ map (at_least (count_above m c)) bs
  each_twice m c [] cm cd all = refl
  each_twice m c (b ∷ bs) cm cd all =
      let first = twice m c b cm cd all.0 in
      let rest = each_twice m c bs cm cd all.1 in
      ap (λ x. x ∷ map (at_least m) (map (at_least c) bs)) first ∙ ap (λ xs. at_least (count_above m c) b ∷ xs) rest

  rise_is : (m : XFrac) (bs : List Bucket) → IsCount m → Counts bs → rise m bs ≡ map (at_least m) (raised bs)
  rise_is m [] cm all = refl
  rise_is m (b ∷ bs) cm all =
      ap (λ xs. at_least m b ∷ xs) (rise_is (count_above m b.count) bs (above_count m b.count cm all.0) all.1 ∙ sym (each_twice m b.count (raised bs) cm all.0 (raised_counts bs all.1)))

  from_first : (bs : List Bucket) → Counts bs → rise NegInf bs ≡ raised bs
  from_first [] all = refl
  from_first (b ∷ bs) all =
      ap (λ c. record { bound = b.bound; count = c } ∷ rise c bs) (first_count b.count all.0) ∙ ap (λ xs. b ∷ xs) (rise_is b.count bs all.0 all.1)
    where
      first_count : (c : XFrac) → IsCount c → count_above NegInf c ≡ c
      first_count (Fin f) k = refl
      first_count PosInf k = absurd (let f = k.finite in cc)
      first_count NegInf k = absurd (let f = k.finite in cc)
      first_count NaN k = absurd (let f = k.finite in cc)

  -- ---- whether one is raised

  abbrev any_below : XFrac → List Bucket → Bool
  any_below m bs = list_any (λ (c : Bucket). compares Lt c.count m) bs

  -- what is below the lesser is below the greater
  more_below : (m c : XFrac) (bs : List Bucket) → IsCount m → IsCount c → Counts bs → compares Lt c m ≡ false → (any_below m bs || any_below c bs) ≡ any_below c bs
  more_below m c [] cm cd all h = refl
  more_below m c (b ∷ bs) cm cd all h =
      let rest = more_below m c bs cm cd all.1 h in by (compares Lt b.count m) (compares Lt b.count c) refl refl rest
    where
      by : (s t : Bool) → compares Lt b.count m ≡ s → compares Lt b.count c ≡ t → (any_below m bs || any_below c bs) ≡ any_below c bs → (any_below m (b ∷ bs) || any_below c (b ∷ bs)) ≡ any_below c (b ∷ bs)
      by s true es et rest = ap (λ x. (any_below m (b ∷ bs) || (x || any_below c bs))) et ∙ or_true (any_below m (b ∷ bs)) ∙ sym (ap (λ x. x || any_below c bs) et)
        where
          or_true : (x : Bool) → (x || true) ≡ true
          or_true true = refl
          or_true false = refl
      by true false es et rest = let no : compares Lt b.count m ≡ false = over b.count c m all.0 cd cm et h in absurd (cc)
      by false false es et rest = ap (λ x. ((x || any_below m bs) || any_below c (b ∷ bs))) es ∙ ap (λ x. (any_below m bs || (x || any_below c bs))) et ∙ rest ∙ sym (ap (λ x. x || any_below c bs) et)

  falls_cons : (b : Bucket) (bs : List Bucket) → falls (b ∷ bs) ≡ (any_below b.count bs || falls bs)
  falls_cons b bs = elim (any_below b.count bs) as (λ t. cond t true (falls bs) ≡ (t || falls bs)) [ true ↦ refl | false ↦ refl ]

  sinks_is : (m : XFrac) (bs : List Bucket) → IsCount m → Counts bs → sinks m bs ≡ (any_below m bs || falls bs)
  sinks_is m [] cm all = refl
  sinks_is m (b ∷ bs) cm all = by (sinks_is b.count bs all.0 all.1) (compares Lt b.count m) refl
    where
      assoc : (x y z : Bool) → (x || (y || z)) ≡ ((x || y) || z)
      assoc true y z = refl
      assoc false y z = refl

      by : sinks b.count bs ≡ (any_below b.count bs || falls bs) → (t : Bool) → compares Lt b.count m ≡ t → sinks m (b ∷ bs) ≡ (any_below m (b ∷ bs) || falls (b ∷ bs))
      by rest true e = ap (λ x. x || sinks (count_above m b.count) bs) e ∙ sym (ap (λ x. ((x || any_below m bs) || falls (b ∷ bs))) e)
      by rest false e =
          ap (λ x. x || sinks (cond x m b.count) bs) e ∙ rest
          ∙ sym (ap (λ x. ((x || any_below m bs) || falls (b ∷ bs))) e ∙ ap (λ f. any_below m bs || f) (falls_cons b bs) ∙ assoc (any_below m bs) (any_below b.count bs) (falls bs)
          ∙ ap (λ x. x || falls bs) (more_below m b.count bs cm all.0 all.1 e))

  from_none : (bs : List Bucket) → Counts bs → sinks NegInf bs ≡ falls bs
  from_none [] all = refl
  from_none (b ∷ bs) all = first b.count all.0 ∙ sinks_is b.count bs all.0 all.1 ∙ sym (falls_cons b bs)
    where
      first : (c : XFrac) → IsCount c → (compares Lt c NegInf || sinks (count_above NegInf c) bs) ≡ sinks c bs
      first (Fin f) k = refl
      first PosInf k = absurd (let f = k.finite in cc)
      first NegInf k = absurd (let f = k.finite in cc)
      first NaN k = absurd (let f = k.finite in cc)

  counts_from : (bs : List Bucket) → AreCounts bs → Counts bs
  counts_from [] a = tt
  counts_from (b ∷ bs) a = (All-head (λ (b : Bucket). IsCount b.count) b bs a, counts_from bs (All-tail (λ (b : Bucket). IsCount b.count) b bs a))

  pub rise_all : (bs : List Bucket) → AreCounts bs → rise NegInf bs ≡ raised bs
  rise_all bs a = from_first bs (counts_from bs a)

  pub sinks_all : (bs : List Bucket) → AreCounts bs → sinks NegInf bs ≡ falls bs
  sinks_all bs a = from_none bs (counts_from bs a)

  -- what was made, and whether one was raised, where no bucket is left
  pub all_risen : (bs start left made : List Bucket) (most : XFrac) → AreCounts bs → start ≡ bs → left ≡ [] → made ++ rise most left ≡ rise NegInf start → made ≡ raised bs
  all_risen bs start left made most a is none told = sym (append-nil made) ∙ ap (λ l. made ++ rise most l) (sym none) ∙ told ∙ ap (rise NegInf) is ∙ rise_all bs a

  pub all_sunk : (bs start left : List Bucket) (fixed : Bool) (most : XFrac) → AreCounts bs → start ≡ bs → left ≡ [] → (fixed || sinks most left) ≡ sinks NegInf start → fixed ≡ falls bs
  all_sunk bs start left fixed most a is none told = sym (by fixed) ∙ ap (λ l. fixed || sinks most l) (sym none) ∙ told ∙ ap (sinks NegInf) is ∙ sinks_all bs a
    where
      by : (f : Bool) → (f || false) ≡ f
      by true = refl
      by false = refl
