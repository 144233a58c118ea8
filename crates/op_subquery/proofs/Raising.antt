-- Marks beside the last instants at which they were raised.
use Rattle.std.proofs.Common.{◌≡◌, ◌∙◌, ◌+◌, ◌<◌, ◌≤◌, ℕ, zero, suc, Bool, true, false, cond, List, [], ◌∷◌, ◌++◌, length, get_or, drop, refl, sym, ap, subst, arith, Option, None, Some}
use Rattle.std.specs.Prelude.{◌||◌, ℤ, ◌<ℤ◌, ◌≤ℤ◌, int_lt, is_some, if◌then◌else◌}
use Rattle.std.specs.BTreeMap.{insert_entry, is_at}
use Rattle.std.specs.Cmp.{IsTotalOrder, eq_by_cmp_equiv}
use Rattle.std.specs.declared.cmp.Ordering.{Ordering}
use Rattle.std.specs.declared.cmp.Ordering.TheVariants.{Less, Equal, Greater}
use Rattle.std.specs.List.{AllByRecursion, list_any}
use Rattle.std.specs.List.Sorted.{IsStrictlySortedBy}
use Rattle.std.specs.Map.{keys_of, lookup}
use Rattle.std.specs.Ordering.{is_eq, match_ordering}
use Rattle.std.proofs.lemmas.Cmp.{tied_itself}
use Rattle.std.proofs.lemmas.Int.{ints}
use Rattle.std.proofs.lemmas.Map.Entries.{lookup-filter-values, option_filter}
use Rattle.std.proofs.lemmas.Map.Keys.{IsDistinct-from_sorted}
use Rattle.label_set.specs.Entries.{recursion_map, sorted_insert}
use Rattle.step_table.specs.Alike.{same_sets}
use Rattle.step_table.specs.Timed.{StepAt}
use Rattle.ticks.specs.Listed.{AreRising}
use Rattle.ticks.specs.declared.moment.Ms.{Ms}
use Rattle.op_subquery.specs.Kept.{instants_of, later}
use Rattle.op_subquery.specs.Raised.{AreLast, last_raised, or_else, raised_all, raised_at, without_early}

or_none : (o : Option Ms) → or_else o None ≡ o
or_none None = refl
or_none (Some t) = refl

or_again : (o p q : Option Ms) → or_else (or_else o p) q ≡ or_else o (or_else p q)
or_again None p q = refl
or_again (Some t) p q = refl

module _ {K : Type 0} (R : K → K → Ordering) (marks : StepAt → List K) (k : K) where
  last_more : (steps : List StepAt) (s : StepAt) → last_raised R marks k (steps ++ s ∷ []) ≡ or_else (raised_at R marks k s) (last_raised R marks k steps)
  last_more [] s = sym (or_none (raised_at R marks k s))
  last_more (t ∷ steps) s = ap (λ o. or_else o (raised_at R marks k t)) (last_more steps s) ∙ or_again (raised_at R marks k s) (last_raised R marks k steps) (raised_at R marks k t)

  -- ---- steps that go

  abbrev is_later : ℤ → Ms → Bool
  is_later edge t = int_lt edge t.0

  raised_stays : (edge : ℤ) (s : StepAt) → edge <ℤ s.at.0 → option_filter (is_later edge) (raised_at R marks k s) ≡ raised_at R marks k s
  raised_stays edge s h =
      let f : int_lt edge s.at.0 ≡ true = grind (arith, ints, h) in
      elim (list_any (is_at (R k)) (marks s)) as (λ b. option_filter (is_later edge) (if b then Some s.at else None) ≡ (if b then Some s.at else None)) [ true ↦ rw f refl | false ↦ refl ]

  raised_goes : (edge : ℤ) (s : StepAt) → s.at.0 ≤ℤ edge → option_filter (is_later edge) (raised_at R marks k s) ≡ None
  raised_goes edge s h =
      let f : int_lt edge s.at.0 ≡ false = grind (arith, ints, h) in
      elim (list_any (is_at (R k)) (marks s)) as (λ b. option_filter (is_later edge) (if b then Some s.at else None) ≡ None) [ true ↦ rw f refl | false ↦ refl ]

  both_stay : (edge : ℤ) (o p : Option Ms) → option_filter (is_later edge) o ≡ o → option_filter (is_later edge) p ≡ p → option_filter (is_later edge) (or_else o p) ≡ or_else o p
  both_stay edge None p h i = i
  both_stay edge (Some t) p h i = h

  all_stay : (edge : ℤ) (steps : List StepAt) → AllByRecursion (λ (t : Ms). edge <ℤ t.0) (instants_of steps) → option_filter (is_later edge) (last_raised R marks k steps) ≡ last_raised R marks k steps
  all_stay edge [] a = refl
  all_stay edge (s ∷ steps) a = both_stay edge (last_raised R marks k steps) (raised_at R marks k s) (all_stay edge steps a.1) (raised_stays edge s a.0)

  first_goes : (edge : ℤ) (o p : Option Ms) → option_filter (is_later edge) p ≡ None → option_filter (is_later edge) (or_else o p) ≡ option_filter (is_later edge) o
  first_goes edge None p h = h
  first_goes edge (Some t) p h = refl

  last_later : (edge : ℤ) (steps : List StepAt) → AreRising (instants_of steps) → option_filter (is_later edge) (last_raised R marks k steps) ≡ last_raised R marks k (later edge steps)
  last_later edge [] r = refl
  last_later edge (s ∷ steps) r =
      elim (int_lt edge s.at.0) as (λ b. int_lt edge s.at.0 ≡ b → option_filter (is_later edge) (or_else (last_raised R marks k steps) (raised_at R marks k s)) ≡ last_raised R marks k (if b then s ∷ steps else later edge steps)) [
        | true ↦ λ h.
            let here : edge <ℤ s.at.0 = grind (arith, ints, h) in
            all_stay edge (s ∷ steps) (here, recursion_map (λ (u : Ms). s.at.0 <ℤ u.0) (λ (u : Ms). edge <ℤ u.0) (λ u l. omega (arith, ints, here, l)) (instants_of steps) r.0)
        | false ↦ λ h.
            let here : s.at.0 ≤ℤ edge = grind (arith, ints, h) in
            first_goes edge (last_raised R marks k steps) (raised_at R marks k s) (raised_goes edge s here) ∙ last_later edge steps r.1
      ] refl

  -- ---- which marks are raised

  some_or : (o p : Option Ms) → is_some (or_else o p) ≡ (is_some p || is_some o)
  some_or None None = refl
  some_or None (Some t) = refl
  some_or (Some t) None = refl
  some_or (Some t) (Some u) = refl

  some_raised : (s : StepAt) → is_some (raised_at R marks k s) ≡ list_any (is_at (R k)) (marks s)
  some_raised s = elim (list_any (is_at (R k)) (marks s)) as (λ b. is_some (if b then Some s.at else None) ≡ b) [ true ↦ refl | false ↦ refl ]

  pub some_more : (s : StepAt) (steps : List StepAt) → is_some (last_raised R marks k (s ∷ steps)) ≡ (list_any (is_at (R k)) (marks s) || is_some (last_raised R marks k steps))
  some_more s steps = some_or (last_raised R marks k steps) (raised_at R marks k s) ∙ ap (λ b. b || is_some (last_raised R marks k steps)) (some_raised s)

  pub any_key : (last : List (K × Ms)) → list_any (is_at (R k)) (keys_of last) ≡ is_some (lookup (is_at (R k)) last)
  any_key [] = refl
  any_key (e ∷ last) = elim (is_at (R k) e.0) as (λ b. (b || list_any (is_at (R k)) (keys_of last)) ≡ is_some (cond b (Some e.1) (lookup (is_at (R k)) last))) [ true ↦ refl | false ↦ any_key last ]

module _ {K : Type 0} {R : K → K → Ordering} (o : IsTotalOrder R) (ties : (x y : K) → R x y ≡ Equal → x ≡ y) where
  not_both : (q k x : K) (b c : Bool) (v w : Option Ms) (rest : Option Ms) → is_at (R q) k ≡ b → is_at (R q) x ≡ c → R k x ≡ Greater → cond c w (cond b v rest) ≡ cond b v (cond c w rest)
  not_both q k x true true v w rest h i g =
      let e : q ≡ k = tied q k h in
      let f : q ≡ x = tied q x i in
      let same : R k k ≡ Greater = ap (R k) (sym e ∙ f) ∙ g in
      let itself : R k k ≡ Equal = tied_itself o k in
      absurd (cc)
    where
      tied : (x y : K) → is_at (R x) y ≡ true → x ≡ y
      tied x y e = elim (R x y) as (λ r. R x y ≡ r → is_eq r ≡ true → x ≡ y) [ Less ↦ λ h k. absurd (cc) | Equal ↦ λ h k. ties x y h | Greater ↦ λ h k. absurd (cc) ] refl e
  not_both q k x true false v w rest h i g = refl
  not_both q k x false c v w rest h i g = refl

  lookup_put : (k q : K) (v : Ms) (es : List (K × Ms)) → lookup (is_at (R q)) (insert_entry R es k v) ≡ cond (is_at (R q) k) (Some v) (lookup (is_at (R q)) es)
  lookup_put k q v [] = refl
  lookup_put k q v (e ∷ es) =
      elim (R k e.0) as (λ r. R k e.0 ≡ r → lookup (is_at (R q)) (match_ordering r ((k, v) ∷ e ∷ es) ((e.0, v) ∷ es) (e ∷ insert_entry R es k v)) ≡ cond (is_at (R q) k) (Some v) (cond (is_at (R q) e.0) (Some e.1) (lookup (is_at (R q)) es))) [
        | Less ↦ λ h. refl
        | Equal ↦ λ h. subst (λ (x : K). cond (is_at (R q) e.0) (Some v) (lookup (is_at (R q)) es) ≡ cond (is_at (R q) x) (Some v) (cond (is_at (R q) e.0) (Some e.1) (lookup (is_at (R q)) es))) (sym (ties k e.0 h)) (covered (is_at (R q) e.0))
        | Greater ↦ λ h. ap (λ r. cond (is_at (R q) e.0) (Some e.1) r) (lookup_put k q v es) ∙ not_both q k e.0 (is_at (R q) k) (is_at (R q) e.0) (Some v) (Some e.1) (lookup (is_at (R q)) es) refl refl h
      ] refl
    where
      covered : (b : Bool) → cond b (Some v) (lookup (is_at (R q)) es) ≡ cond b (Some v) (cond b (Some e.1) (lookup (is_at (R q)) es))
      covered true = refl
      covered false = refl

  lookup_all : (marks : List K) (at : Ms) (q : K) (last : List (K × Ms)) → lookup (is_at (R q)) (raised_all R last marks at) ≡ (if list_any (is_at (R q)) marks then Some at else lookup (is_at (R q)) last)
  lookup_all [] at q last = refl
  lookup_all (k ∷ marks) at q last =
      lookup_all marks at q (insert_entry R last k at)
      ∙ ap (λ r. if list_any (is_at (R q)) marks then Some at else r) (lookup_put k q at last)
      ∙ either_way (list_any (is_at (R q)) marks) (is_at (R q) k)
    where
      either_way : (b c : Bool) → (if b then Some at else (cond c (Some at) (lookup (is_at (R q)) last))) ≡ (if c || b then Some at else lookup (is_at (R q)) last)
      either_way true true = refl
      either_way true false = refl
      either_way false true = refl
      either_way false false = refl

  sorted_all : (marks : List K) (at : Ms) (last : List (K × Ms)) → IsStrictlySortedBy R (keys_of last) → IsStrictlySortedBy R (keys_of (raised_all R last marks at))
  sorted_all [] at last s = s
  sorted_all (k ∷ marks) at last s = sorted_all marks at (insert_entry R last k at) (sorted_insert R o k at last s)

  -- the marks of one more step
  pub last_with : (marks : StepAt → List K) (last : List (K × Ms)) (steps : List StepAt) (s : StepAt) → AreLast R marks last steps → AreLast R marks (raised_all R last (marks s) s.at) (steps ++ s ∷ [])
  last_with marks last steps s is = record {
    sorted = sorted_all (marks s) s.at last is.sorted;
    each = λ k. lookup_all (marks s) s.at k last ∙ ap (λ r. if list_any (is_at (R k)) (marks s) then Some s.at else r) (is.each k)
        ∙ chosen (list_any (is_at (R k)) (marks s)) s.at (last_raised R marks k steps) ∙ sym (last_more R marks k steps s);
  } where
    chosen : (b : Bool) (t : Ms) (r : Option Ms) → (if b then Some t else r) ≡ or_else (if b then Some t else None) r
    chosen true t r = refl
    chosen false t r = refl

  keys_below : (P : K → Type 0) (edge : ℤ) (last : List (K × Ms)) → AllByRecursion P (keys_of last) → AllByRecursion P (keys_of (without_early edge last))
  keys_below P edge [] a = tt
  keys_below P edge (e ∷ last) a =
      elim (int_lt edge e.1.0) as (λ b. AllByRecursion P (keys_of (cond b (e ∷ without_early edge last) (without_early edge last)))) [ true ↦ (a.0, keys_below P edge last a.1) | false ↦ keys_below P edge last a.1 ]

  sorted_without : (edge : ℤ) (last : List (K × Ms)) → IsStrictlySortedBy R (keys_of last) → IsStrictlySortedBy R (keys_of (without_early edge last))
  unfolding IsStrictlySortedBy
  sorted_without edge [] s = s
  sorted_without edge (e ∷ last) s =
      elim (int_lt edge e.1.0) as (λ b. IsStrictlySortedBy R (keys_of (cond b (e ∷ without_early edge last) (without_early edge last)))) [ true ↦ (keys_below (λ y. R e.0 y ≡ Less) edge last s.0, sorted_without edge last s.1) | false ↦ sorted_without edge last s.1 ]

  -- the marks of the steps that stay
  pub last_without : (marks : StepAt → List K) (last : List (K × Ms)) (edge : ℤ) (steps : List StepAt) → AreRising (instants_of steps) → AreLast R marks last steps → AreLast R marks (without_early edge last) (later edge steps)
  last_without marks last edge steps r is = record {
    sorted = sorted_without edge last is.sorted;
    each = λ k. lookup-filter-values (eq_by_cmp_equiv o) (λ (t : Ms). int_lt edge t.0) k last (IsDistinct-from_sorted R (keys_of last) is.sorted) ∙ ap (option_filter (λ (t : Ms). int_lt edge t.0)) (is.each k) ∙ last_later R marks k edge steps r;
  }

  -- the set with the marks that are raised
  pub raised_are : (marks : StepAt → List K) (last : List (K × Ms)) (steps : List StepAt) (set : List K) → AreLast R marks last steps → IsStrictlySortedBy R set → ((k : K) → list_any (is_at (R k)) set ≡ is_some (last_raised R marks k steps)) → keys_of last ≡ set
  raised_are marks last steps set is s e = same_sets o ties (keys_of last) set is.sorted s (λ k. any_key R marks k last ∙ ap is_some (is.each k) ∙ sym (e k))

-- ---- items from a place on

pub drop_item : {A : Type 0} (xs : List A) (i : ℕ) (x : A) → i < length xs → x ≡ get_or xs i x → drop i xs ≡ x ∷ drop (i + 1) xs
drop_item [] i x l e = absurd (omega arith)
drop_item (y ∷ xs) zero x l e = ap (λ z. z ∷ xs) (sym e)
drop_item (y ∷ xs) (suc i) x l e = let n : suc i + 1 ≡ suc (i + 1) = omega arith in rw n (drop_item xs i x (omega arith) e)

pub drop_past : {A : Type 0} (xs : List A) (i : ℕ) → length xs ≤ i → drop i xs ≡ []
drop_past [] zero l = refl
drop_past [] (suc i) l = refl
drop_past (x ∷ xs) zero l = absurd (omega (arith, l))
drop_past (x ∷ xs) (suc i) l = drop_past xs i (omega (arith, l))
