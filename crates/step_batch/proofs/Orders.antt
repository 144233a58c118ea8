-- Entries in the order of labels: one more of them, in whatever order they come, and values that are changed.
use Rattle.std.proofs.Common.{◌≡◌, ◌∙◌, Bool, true, false, cond, List, [], ◌∷◌, ◌++◌, refl, sym, ap, subst, Some, None, Option, append_assoc, append-nil}
use Rattle.std.specs.Prelude.{fold}
use Rattle.std.specs.declared.cmp.Ordering.TheVariants.{Less, Equal, Greater}
use Rattle.std.specs.Ordering.{is_eq, match_ordering, ordering_reverse}
use Rattle.std.specs.BTreeMap.{insert_entry, is_at}
use Rattle.std.specs.List.{AllByRecursion}
use Rattle.std.specs.List.Sorted.{IsStrictlySortedBy}
use Rattle.std.specs.Map.{keys_of, lookup}
use Rattle.std.proofs.lemmas.List.{map-append}
use Rattle.std.proofs.lemmas.List.Sums.{fold-append}
use Rattle.std.proofs.lemmas.Cmp.{tied_itself}
use Rattle.label_set.specs.Entries.{recursion_map, sorted_insert}
use Rattle.label_set.specs.Labels.{labels_cmp}
use Rattle.label_set.specs.LabelOrder.{labels_cmp_total, labels_cmp_ties}
use Rattle.step_table.specs.Groups.{Names}
use Rattle.step_table.specs.KeySets.{all_before}
use Rattle.step_batch.specs.Tables.{in_order, put_into}

never : false ≡ true → ⊥
never f = cc

same_at : (q k : Names) → is_at (labels_cmp q) k ≡ true → q ≡ k
same_at q k e = elim (labels_cmp q k) as (λ r. labels_cmp q k ≡ r → is_eq r ≡ true → q ≡ k) [
  | Less ↦ λ h f. absurd (never f)
  | Equal ↦ λ h f. labels_cmp_ties q k h
  | Greater ↦ λ h f. absurd (never f)
] refl e

itself : (k : Names) → labels_cmp k k ≡ Equal
itself k = tied_itself labels_cmp_total k

apart_greater : (k n : Names) → labels_cmp k n ≡ Greater → k ≡ n → ⊥
apart_greater k n h e = let t : labels_cmp n n ≡ Greater = subst (λ (z : Names). labels_cmp z n ≡ Greater) e h in let u : labels_cmp n n ≡ Equal = itself n in absurd (cc)

module _ {A : Type 0} where
  -- ---- entries that are in order already

  insert_last : (es : List (Names × A)) (k : Names) (v : A) → AllByRecursion (λ q. labels_cmp q k ≡ Less) (keys_of es) → insert_entry labels_cmp es k v ≡ es ++ (k, v) ∷ []
  insert_last [] k v a = refl
  insert_last (e ∷ es) k v a = let above : labels_cmp k e.0 ≡ Greater = labels_cmp_total.antisymm k e.0 ∙ ap ordering_reverse a.0 in rw above (ap (λ (r : List (Names × A)). e ∷ r) (insert_last es k v a.1))

  keys_append : (front es : List (Names × A)) → keys_of (front ++ es) ≡ keys_of front ++ keys_of es
  keys_append front es = map-append (λ (e : Names × A). e.0) front es

  fold_on : (done es : List (Names × A)) → IsStrictlySortedBy labels_cmp (keys_of (done ++ es)) → fold put_into done es ≡ done ++ es
  fold_on done [] s = sym (append-nil done)
  fold_on done (e ∷ es) s =
      let parts : IsStrictlySortedBy labels_cmp (keys_of done ++ e.0 ∷ keys_of es) = subst (IsStrictlySortedBy labels_cmp) (keys_append done (e ∷ es)) s in
      ap (λ (d : List (Names × A)). fold put_into d es) (insert_last done e.0 e.1 (all_before labels_cmp_total (keys_of done) e.0 (keys_of es) parts))
      ∙ fold_on (done ++ e ∷ []) es (subst (λ (all : List (Names × A)). IsStrictlySortedBy labels_cmp (keys_of all)) (sym (append_assoc done (e ∷ []) es)) s)
      ∙ append_assoc done (e ∷ []) es

  pub sorted_in_order : (es : List (Names × A)) → IsStrictlySortedBy labels_cmp (keys_of es) → in_order es ≡ es
  sorted_in_order es s = fold_on [] es s

  pub in_order_more : (es : List (Names × A)) (e : Names × A) → in_order (es ++ e ∷ []) ≡ put_into (in_order es) e
  in_order_more es e = fold-append put_into [] es (e ∷ [])

  -- ---- they are always in order

  fold_sorted : (done es : List (Names × A)) → IsStrictlySortedBy labels_cmp (keys_of done) → IsStrictlySortedBy labels_cmp (keys_of (fold put_into done es))
  fold_sorted done [] s = s
  fold_sorted done (e ∷ es) s = fold_sorted (put_into done e) es (sorted_insert labels_cmp labels_cmp_total e.0 e.1 done s)

  pub order_sorted : (es : List (Names × A)) → IsStrictlySortedBy labels_cmp (keys_of (in_order es))
  unfolding IsStrictlySortedBy
  order_sorted es = fold_sorted [] es tt

  -- ---- two entries, in either order

  put_same : (m : Bool) (v w : A) (o : Option A) → cond m (Some v) o ≡ cond m (Some v) (cond m (Some w) o)
  put_same true v w o = refl
  put_same false v w o = refl

  put_apart : (q k n : Names) (v w : A) (o : Option A) (b c : Bool) → is_at (labels_cmp q) k ≡ b → is_at (labels_cmp q) n ≡ c → (k ≡ n → ⊥) → cond c (Some w) (cond b (Some v) o) ≡ cond b (Some v) (cond c (Some w) o)
  put_apart q k n v w o true true e f ne = absurd (ne (sym (same_at q k e) ∙ same_at q n f))
  put_apart q k n v w o true false e f ne = refl
  put_apart q k n v w o false true e f ne = refl
  put_apart q k n v w o false false e f ne = refl

  pub lookup_put : (q k : Names) (v : A) (es : List (Names × A)) → lookup (is_at (labels_cmp q)) (insert_entry labels_cmp es k v) ≡ cond (is_at (labels_cmp q) k) (Some v) (lookup (is_at (labels_cmp q)) es)
  lookup_put q k v [] = refl
  lookup_put q k v (p ∷ es) =
      elim (labels_cmp k p.0) as (λ r. labels_cmp k p.0 ≡ r → lookup (is_at (labels_cmp q)) (match_ordering r ((k, v) ∷ p ∷ es) ((p.0, v) ∷ es) (p ∷ insert_entry labels_cmp es k v)) ≡ cond (is_at (labels_cmp q) k) (Some v) (cond (is_at (labels_cmp q) p.0) (Some p.1) (lookup (is_at (labels_cmp q)) es))) [
        | Less ↦ λ h. refl
        | Equal ↦ λ h.
            let same : k ≡ p.0 = labels_cmp_ties k p.0 h in
            put_same (is_at (labels_cmp q) p.0) v p.1 (lookup (is_at (labels_cmp q)) es) ∙ ap (λ (z : Names). cond (is_at (labels_cmp q) z) (Some v) (cond (is_at (labels_cmp q) p.0) (Some p.1) (lookup (is_at (labels_cmp q)) es))) (sym same)
        | Greater ↦ λ h.
            ap (λ (o : Option A). cond (is_at (labels_cmp q) p.0) (Some p.1) o) (lookup_put q k v es) ∙ put_apart q k p.0 v p.1 (lookup (is_at (labels_cmp q)) es) (is_at (labels_cmp q) k) (is_at (labels_cmp q) p.0) refl refl (apart_greater k p.0 h)
      ] refl

  none_past : (q : Names) (es : List (Names × A)) → AllByRecursion (λ k. labels_cmp q k ≡ Less) (keys_of es) → lookup (is_at (labels_cmp q)) es ≡ None
  none_past q [] a = refl
  none_past q (p ∷ es) a = rw a.0 (none_past q es a.1)

  below_all : (q k : Names) (es : List (Names × A)) → labels_cmp q k ≡ Less → AllByRecursion (λ y. labels_cmp k y ≡ Less) (keys_of es) → AllByRecursion (λ y. labels_cmp q y ≡ Less) (keys_of es)
  below_all q k es l a = recursion_map (λ y. labels_cmp k y ≡ Less) (λ y. labels_cmp q y ≡ Less) (λ y m. labels_cmp_total.trans q k y l m) (keys_of es) a

  tails_alike : (a b : Names × A) (xs bs : List (Names × A)) → a.0 ≡ b.0 → IsStrictlySortedBy labels_cmp (keys_of (a ∷ xs)) → IsStrictlySortedBy labels_cmp (keys_of (b ∷ bs))
      → ((q : Names) → lookup (is_at (labels_cmp q)) (a ∷ xs) ≡ lookup (is_at (labels_cmp q)) (b ∷ bs)) → (q : Names) → lookup (is_at (labels_cmp q)) xs ≡ lookup (is_at (labels_cmp q)) bs
  unfolding IsStrictlySortedBy
  tails_alike a b xs bs e s t h q =
      elim (labels_cmp q a.0) as (λ r. labels_cmp q a.0 ≡ r → lookup (is_at (labels_cmp q)) xs ≡ lookup (is_at (labels_cmp q)) bs) [
        | Less ↦ λ l. none_past q xs (below_all q a.0 xs l s.0) ∙ sym (none_past q bs (below_all q b.0 bs (subst (λ (z : Names). labels_cmp q z ≡ Less) e l) t.0))
        | Equal ↦ λ l.
            let same : q ≡ a.0 = labels_cmp_ties q a.0 l in
            none_past q xs (subst (λ (z : Names). AllByRecursion (λ y. labels_cmp z y ≡ Less) (keys_of xs)) (sym same) s.0)
            ∙ sym (none_past q bs (subst (λ (z : Names). AllByRecursion (λ y. labels_cmp z y ≡ Less) (keys_of bs)) (sym (same ∙ e)) t.0))
        | Greater ↦ λ l.
            let m : labels_cmp q b.0 ≡ Greater = subst (λ (z : Names). labels_cmp q z ≡ Greater) e l in
            let k : cond (is_eq (labels_cmp q a.0)) (Some a.1) (lookup (is_at (labels_cmp q)) xs) ≡ cond (is_eq (labels_cmp q b.0)) (Some b.1) (lookup (is_at (labels_cmp q)) bs) = h q in
            rw (l, m) at k
      ] refl

  -- tables that read alike are one
  pub same_reads : (xs bs : List (Names × A)) → IsStrictlySortedBy labels_cmp (keys_of xs) → IsStrictlySortedBy labels_cmp (keys_of bs) → ((q : Names) → lookup (is_at (labels_cmp q)) xs ≡ lookup (is_at (labels_cmp q)) bs) → xs ≡ bs
  unfolding IsStrictlySortedBy
  same_reads [] [] s t h = refl
  same_reads [] (b ∷ bs) s t h = let k : None ≡ cond (is_eq (labels_cmp b.0 b.0)) (Some b.1) (lookup (is_at (labels_cmp b.0)) bs) = h b.0 in let u = itself b.0 in let w : None ≡ Some b.1 = rw u at k in absurd (cc)
  same_reads (a ∷ xs) [] s t h = let k : cond (is_eq (labels_cmp a.0 a.0)) (Some a.1) (lookup (is_at (labels_cmp a.0)) xs) ≡ None = h a.0 in let u = itself a.0 in let w : Some a.1 ≡ None = rw u at k in absurd (cc)
  same_reads (a ∷ xs) (b ∷ bs) s t h =
      let k : cond (is_eq (labels_cmp a.0 a.0)) (Some a.1) (lookup (is_at (labels_cmp a.0)) xs) ≡ cond (is_eq (labels_cmp a.0 b.0)) (Some b.1) (lookup (is_at (labels_cmp a.0)) bs) = h a.0 in
      let m : cond (is_eq (labels_cmp b.0 a.0)) (Some a.1) (lookup (is_at (labels_cmp b.0)) xs) ≡ cond (is_eq (labels_cmp b.0 b.0)) (Some b.1) (lookup (is_at (labels_cmp b.0)) bs) = h b.0 in
      let u = itself a.0 in
      let v = itself b.0 in
      elim (labels_cmp a.0 b.0) as (λ r. labels_cmp a.0 b.0 ≡ r → a ∷ xs ≡ b ∷ bs) [
        | Less ↦ λ l.
            let none : lookup (is_at (labels_cmp a.0)) bs ≡ None = none_past a.0 bs (below_all a.0 b.0 bs l t.0) in
            let w : Some a.1 ≡ None = (rw (u, l) at k) ∙ none in
            absurd (cc)
        | Equal ↦ λ l.
            let e : a.0 ≡ b.0 = labels_cmp_ties a.0 b.0 l in
            let w : Some a.1 ≡ Some b.1 = rw (u, l) at k in
            let x : a.1 ≡ b.1 = cc in
            let y : xs ≡ bs = same_reads xs bs s.1 t.1 (tails_alike a b xs bs e s t h) in
            ap (λ (z : Names). (z, a.1) ∷ xs) e ∙ ap (λ (z : A). (b.0, z) ∷ xs) x ∙ ap (λ (z : List (Names × A)). b ∷ z) y
        | Greater ↦ λ g.
            let l : labels_cmp b.0 a.0 ≡ Less = labels_cmp_total.antisymm b.0 a.0 ∙ ap ordering_reverse g in
            let none : lookup (is_at (labels_cmp b.0)) xs ≡ None = none_past b.0 xs (below_all b.0 a.0 xs l s.0) in
            let w : None ≡ Some b.1 = sym none ∙ (rw (v, l) at m) in
            absurd (cc)
      ] refl

  swapped : (es : List (Names × A)) (x y : Names × A) → IsStrictlySortedBy labels_cmp (keys_of es) → (x.0 ≡ y.0 → ⊥) → put_into (put_into es x) y ≡ put_into (put_into es y) x
  swapped es x y s ne =
      same_reads (put_into (put_into es x) y) (put_into (put_into es y) x)
      (sorted_insert labels_cmp labels_cmp_total y.0 y.1 (put_into es x) (sorted_insert labels_cmp labels_cmp_total x.0 x.1 es s))
      (sorted_insert labels_cmp labels_cmp_total x.0 x.1 (put_into es y) (sorted_insert labels_cmp labels_cmp_total y.0 y.1 es s))
      (λ q.
      lookup_put q y.0 y.1 (put_into es x) ∙ ap (cond (is_at (labels_cmp q) y.0) (Some y.1)) (lookup_put q x.0 x.1 es)
      ∙ put_apart q x.0 y.0 x.1 y.1 (lookup (is_at (labels_cmp q)) es) (is_at (labels_cmp q) x.0) (is_at (labels_cmp q) y.0) refl refl ne
      ∙ sym (lookup_put q x.0 x.1 (put_into es y) ∙ ap (cond (is_at (labels_cmp q) x.0) (Some x.1)) (lookup_put q y.0 y.1 es)))

  -- an entry in the midst may come last, where no later one has its labels
  pub fold_swap : (done es : List (Names × A)) (x : Names × A) → IsStrictlySortedBy labels_cmp (keys_of done) → AllByRecursion (λ (e : Names × A). x.0 ≡ e.0 → ⊥) es → fold put_into (put_into done x) es ≡ put_into (fold put_into done es) x
  fold_swap done [] x s a = refl
  fold_swap done (e ∷ es) x s a =
      ap (λ (d : List (Names × A)). fold put_into d es) (swapped done x e s a.0) ∙ fold_swap (put_into done e) es x (sorted_insert labels_cmp labels_cmp_total e.0 e.1 done s) a.1

  fold_midst : (done front es : List (Names × A)) (x : Names × A) → IsStrictlySortedBy labels_cmp (keys_of done) → AllByRecursion (λ (e : Names × A). x.0 ≡ e.0 → ⊥) es → fold put_into done (front ++ x ∷ es) ≡ put_into (fold put_into done (front ++ es)) x
  fold_midst done [] es x s a = fold_swap done es x s a
  fold_midst done (e ∷ front) es x s a = fold_midst (put_into done e) front es x (sorted_insert labels_cmp labels_cmp_total e.0 e.1 done s) a

  pub in_order_midst : (front es : List (Names × A)) (x : Names × A) → AllByRecursion (λ (e : Names × A). x.0 ≡ e.0 → ⊥) es → in_order (front ++ x ∷ es) ≡ put_into (in_order (front ++ es)) x
  unfolding IsStrictlySortedBy
  in_order_midst front es x a = fold_midst [] front es x tt a
