-- Slots that are listed by numbers in groups, those that are kept of each group, and those that are marked.
use Rattle.std.proofs.Common.{◌≡◌, ◌∙◌, ℕ, zero, suc, ◌+◌, ◌<◌, ◌≤◌, Bool, true, false, cond, List, [], ◌∷◌, ◌++◌, length, get_or, take, map, refl, sym, ap, subst, arith, append_assoc, append-nil}
use Rattle.std.specs.Prelude.{◌&&◌, ◌||◌, ◌==◌, nat_lt, count_by, filter, if◌then◌else◌}
use Rattle.std.proofs.Math.ListN.{replicate, set}
use Rattle.std.specs.Cmp.{IsTotalOrder}
use Rattle.std.specs.List.{All, AllByRecursion, IsDistinct, list_any}
use Rattle.std.specs.Ordering.{MatchOrdering, eq_by_cmp, is_eq, is_lt, nat_cmp, ordering_then}
use Rattle.std.specs.declared.cmp.Ordering.{Ordering}
use Rattle.std.specs.declared.cmp.Ordering.TheVariants.{Less, Equal, Greater}
use Rattle.std.proofs.lemmas.Bool.{eqb-true, eq-eqb, ne_eqb, le-ltb, ltb-false, ltb-true}
use Rattle.std.proofs.lemmas.Cmp.{ranked}
use Rattle.std.proofs.lemmas.List.{get_or-replicate, get_or-set_other, get_or-set_same, length-replicate, map-append}
use Rattle.std.proofs.lemmas.List.Elements.{All-from_recursion, recursion_from_All}
use Rattle.std.proofs.lemmas.List.Sorted.{All-permutation, list_any-IsPermutation}
use Rattle.promql_meaning.specs.Ranks.{value_order}
use Rattle.step_batch.specs.Lent.{SlotsRise}
use Rattle.step_batch.specs.declared.steps.Slot.{Slot}
use Rattle.step_put.specs.declared.placed.PlacedOutcome.{PlacedOutcome}
use Rattle.xfrac.specs.Laws.{IsNumber}
use Rattle.op_rank.specs.Best.{AreBest, HoldsBest, Keeps}
use Rattle.op_rank.specs.Contenders.{AreApart, AreNumbers, as_made, before, chosen, contender_of, contenders_in, goes_ahead, has_at, is_chosen, is_in_some, kept_in, marked, number_at, tidied, tidied_order}
use Rattle.op_rank.specs.declared.best.Best.{Best}
use Rattle.op_rank.specs.declared.best.Contender.{Contender}
use Rattle.op_rank.proofs.BestAre.{any_of_two, is_best, parts_of}
use Rattle.op_rank.proofs.BestKept.{keeps_none}
use Rattle.op_rank.proofs.Firsts.{count-cons, tidied_same}

-- ---- slots

pub place_within : (low n : ℕ) (slots : List Slot) (i : ℕ) (slot : Slot) → i < length slots → slot ≡ get_or slots i slot → SlotsRise low n slots → slot.place < n
place_within low n [] i slot l e r = absurd (omega arith)
place_within low n (s ∷ slots) zero slot l e r = subst (λ (z : Slot). z.place < n) (sym e) r.1
place_within low n (s ∷ slots) (suc i) slot l e r = place_within (s.place + 1) n slots i slot (omega arith) e r.2

module _ (groups ranks : List ℕ) (group : ℕ) where
  -- the slots of a group, one more
  pub in_more : (at : ℕ) (slots : List Slot) (i : ℕ) (slot : Slot) → i < length slots → slot ≡ get_or slots i slot
      → contenders_in groups ranks group at (take (i + 1) slots) ≡ contenders_in groups ranks group at (take i slots) ++ (if group == number_at groups slot then contender_of ranks (at + i) slot ∷ [] else [])
  in_more at [] i slot l e = absurd (omega arith)
  in_more at (s ∷ slots) zero slot l e =
      let same : at + 0 ≡ at = omega arith in
      λ j. if group == number_at groups (sym e j) then contender_of ranks (sym same j) (sym e j) ∷ [] else []
  in_more at (s ∷ slots) (suc i) slot l e =
      let n : suc i + 1 ≡ suc (i + 1) = omega arith in
      let m : (at + 1) + i ≡ at + suc i = omega arith in
      rw n (ap (λ (r : List Contender). if group == number_at groups s then contender_of ranks at s ∷ r else r) (in_more (at + 1) slots i slot (omega arith) e
      ∙ ap (λ (a : ℕ). contenders_in groups ranks group (at + 1) (take i slots) ++ (if group == number_at groups slot then contender_of ranks a slot ∷ [] else [])) m)
      ∙ inside (group == number_at groups s) (contenders_in groups ranks group (at + 1) (take i slots)) (if group == number_at groups slot then contender_of ranks (at + suc i) slot ∷ [] else []))
    where
      inside : (b : Bool) (front back : List Contender) → (if b then contender_of ranks at s ∷ (front ++ back) else front ++ back) ≡ (if b then contender_of ranks at s ∷ front else front) ++ back
      inside true front back = refl
      inside false front back = refl

  -- contenders are numbered from one on
  all_within : (at n : ℕ) (slots : List Slot) → at + length slots ≤ n → AllByRecursion (λ (c : Contender). c.at < n) (contenders_in groups ranks group at slots)
  all_within at n [] l = tt
  all_within at n (s ∷ slots) l = with_or_without (group == number_at groups s) (omega arith) (all_within (at + 1) n slots (omega arith))
    where
      with_or_without : (b : Bool) → at < n → AllByRecursion (λ (c : Contender). c.at < n) (contenders_in groups ranks group (at + 1) slots)
          → AllByRecursion (λ (c : Contender). c.at < n) (if b then contender_of ranks at s ∷ contenders_in groups ranks group (at + 1) slots else contenders_in groups ranks group (at + 1) slots)
      with_or_without true h rest = (h, rest)
      with_or_without false h rest = rest

  none_at : (n at : ℕ) (slots : List Slot) → n < at → has_at n (contenders_in groups ranks group at slots) ≡ false
  none_at n at [] l = refl
  none_at n at (s ∷ slots) l = with_or_without (group == number_at groups s) (ne_eqb at n (λ e. absurd (omega arith))) (none_at n (at + 1) slots (omega arith))
    where
      with_or_without : (b : Bool) → (at == n) ≡ false → has_at n (contenders_in groups ranks group (at + 1) slots) ≡ false
          → has_at n (if b then contender_of ranks at s ∷ contenders_in groups ranks group (at + 1) slots else contenders_in groups ranks group (at + 1) slots) ≡ false
      with_or_without true h rest = ap (λ (b : Bool). b || has_at n (contenders_in groups ranks group (at + 1) slots)) h ∙ rest
      with_or_without false h rest = rest

  -- a slot's number stands among the contenders of its own group
  number_in : (n at i : ℕ) (slots : List Slot) (d : Slot) → n ≡ at + i → i < length slots → has_at n (contenders_in groups ranks group at slots) ≡ (group == number_at groups (get_or slots i d))
  number_in n at i [] d e l = absurd (omega arith)
  number_in n at zero (s ∷ slots) d e l = with_or_without (group == number_at groups s) (eq-eqb at n (omega arith)) (none_at n (at + 1) slots (omega arith))
    where
      with_or_without : (b : Bool) → (at == n) ≡ true → has_at n (contenders_in groups ranks group (at + 1) slots) ≡ false
          → has_at n (if b then contender_of ranks at s ∷ contenders_in groups ranks group (at + 1) slots else contenders_in groups ranks group (at + 1) slots) ≡ b
      with_or_without true h rest = ap (λ (b : Bool). b || has_at n (contenders_in groups ranks group (at + 1) slots)) h
      with_or_without false h rest = rest
  number_in n at (suc i) (s ∷ slots) d e l = with_or_without (group == number_at groups s) (ne_eqb at n (λ h. absurd (omega arith))) (number_in n (at + 1) i slots d (omega arith) (omega arith))
    where
      with_or_without : (b : Bool) → (at == n) ≡ false → has_at n (contenders_in groups ranks group (at + 1) slots) ≡ (group == number_at groups (get_or slots i d))
          → has_at n (if b then contender_of ranks at s ∷ contenders_in groups ranks group (at + 1) slots else contenders_in groups ranks group (at + 1) slots) ≡ (group == number_at groups (get_or slots i d))
      with_or_without true h rest = ap (λ (b : Bool). b || has_at n (contenders_in groups ranks group (at + 1) slots)) h ∙ rest
      with_or_without false h rest = rest

  -- it alone has its number
  alone_behind : (n at : ℕ) (c : Contender) (slots : List Slot) → n < at → AllByRecursion (λ (o : Contender). (o.at == n) ≡ true → o ≡ c) (contenders_in groups ranks group at slots)
  alone_behind n at c [] l = tt
  alone_behind n at c (s ∷ slots) l = with_or_without (group == number_at groups s) (ne_eqb at n (λ e. absurd (omega arith))) (alone_behind n (at + 1) c slots (omega arith))
    where
      with_or_without : (b : Bool) → (at == n) ≡ false → AllByRecursion (λ (o : Contender). (o.at == n) ≡ true → o ≡ c) (contenders_in groups ranks group (at + 1) slots)
          → AllByRecursion (λ (o : Contender). (o.at == n) ≡ true → o ≡ c) (if b then contender_of ranks at s ∷ contenders_in groups ranks group (at + 1) slots else contenders_in groups ranks group (at + 1) slots)
      with_or_without true h rest = ((λ t. absurd (cc)), rest)
      with_or_without false h rest = rest

  alone_at : (n at i : ℕ) (slots : List Slot) (d : Slot) → n ≡ at + i → i < length slots → AllByRecursion (λ (o : Contender). (o.at == n) ≡ true → o ≡ contender_of ranks n (get_or slots i d)) (contenders_in groups ranks group at slots)
  alone_at n at i [] d e l = absurd (omega arith)
  alone_at n at zero (s ∷ slots) d e l = with_or_without (group == number_at groups s) (omega arith) (alone_behind n (at + 1) (contender_of ranks n s) slots (omega arith))
    where
      with_or_without : (b : Bool) → at ≡ n → AllByRecursion (λ (o : Contender). (o.at == n) ≡ true → o ≡ contender_of ranks n s) (contenders_in groups ranks group (at + 1) slots)
          → AllByRecursion (λ (o : Contender). (o.at == n) ≡ true → o ≡ contender_of ranks n s) (if b then contender_of ranks at s ∷ contenders_in groups ranks group (at + 1) slots else contenders_in groups ranks group (at + 1) slots)
      with_or_without true h rest = ((λ t. ap (λ (a : ℕ). contender_of ranks a s) h), rest)
      with_or_without false h rest = rest
  alone_at n at (suc i) (s ∷ slots) d e l = with_or_without (group == number_at groups s) (ne_eqb at n (λ h. absurd (omega arith))) (alone_at n (at + 1) i slots d (omega arith) (omega arith))
    where
      with_or_without : (b : Bool) → (at == n) ≡ false → AllByRecursion (λ (o : Contender). (o.at == n) ≡ true → o ≡ contender_of ranks n (get_or slots i d)) (contenders_in groups ranks group (at + 1) slots)
          → AllByRecursion (λ (o : Contender). (o.at == n) ≡ true → o ≡ contender_of ranks n (get_or slots i d)) (if b then contender_of ranks at s ∷ contenders_in groups ranks group (at + 1) slots else contenders_in groups ranks group (at + 1) slots)
      with_or_without true h rest = ((λ t. absurd (cc)), rest)
      with_or_without false h rest = rest

-- ---- ranks are apart

same_of_tie : (a b : ℕ) → nat_cmp a b ≡ Equal → a ≡ b
same_of_tie a b h = pick (nat_cmp a b) h (ranked a b (nat_cmp a b) refl)
  where
    pick : (o : Ordering) → o ≡ Equal → MatchOrdering o (a < b) (a ≡ b) (b < a) → a ≡ b
    pick Less h m = absurd (cc)
    pick Equal h m = m
    pick Greater h m = absurd (cc)

second_tie : (o p : Ordering) → ordering_then o p ≡ Equal → p ≡ Equal
second_tie Less p h = absurd (cc)
second_tie Equal p h = h
second_tie Greater p h = absurd (cc)

tie_of_rank : (down : Bool) (a b : Contender) → tidied_order down a b ≡ Equal → a.rank ≡ b.rank
unfolding tidied_order
tie_of_rank down a b h = same_of_tie a.rank b.rank (second_tie (value_order down (tidied a).value (tidied b).value) (nat_cmp a.rank b.rank) h)

no_tie : (down : Bool) (a b : Contender) → (a.rank ≡ b.rank → ⊥) → is_eq (tidied_order down a b) ≡ false
no_tie down a b f = pick (tidied_order down a b) refl
  where
    pick : (o : Ordering) → tidied_order down a b ≡ o → is_eq o ≡ false
    pick Less e = refl
    pick Equal e = absurd (f (tie_of_rank down a b e))
    pick Greater e = refl

module _ (down : Bool) (groups ranks : List ℕ) (group : ℕ) (apart : AreApart ranks) where
  none_tied : (c : Contender) (slot : Slot) (low at : ℕ) (slots : List Slot) → c.rank ≡ number_at ranks slot → slot.place < low → low ≤ length ranks → SlotsRise low (length ranks) slots
      → AllByRecursion (λ (o : Contender). eq_by_cmp (tidied_order down) c o ≡ false) (contenders_in groups ranks group at slots)
  none_tied c slot low at [] e l m r = tt
  none_tied c slot low at (s ∷ slots) e l m r =
      let here : slot.place < length ranks = omega arith in
      let there : s.place < length ranks = r.1 in
      let far : slot.place < s.place = omega (arith, r.0) in
      let beyond : s.place + 1 ≤ length ranks = omega arith in
      with_or_without (group == number_at groups s)
      (no_tie down c (contender_of ranks at s) (λ t. let same : slot.place ≡ s.place = apart slot.place s.place here there (sym e ∙ t) in absurd (omega arith)))
      (none_tied c slot (s.place + 1) (at + 1) slots e (omega arith) beyond r.2)
    where
      with_or_without : (b : Bool) → eq_by_cmp (tidied_order down) c (contender_of ranks at s) ≡ false → AllByRecursion (λ (o : Contender). eq_by_cmp (tidied_order down) c o ≡ false) (contenders_in groups ranks group (at + 1) slots)
          → AllByRecursion (λ (o : Contender). eq_by_cmp (tidied_order down) c o ≡ false) (if b then contender_of ranks at s ∷ contenders_in groups ranks group (at + 1) slots else contenders_in groups ranks group (at + 1) slots)
      with_or_without true h rest = (h, rest)
      with_or_without false h rest = rest

  listed_apart : (low at : ℕ) (slots : List Slot) → SlotsRise low (length ranks) slots → IsDistinct (eq_by_cmp (tidied_order down)) (contenders_in groups ranks group at slots)
  unfolding IsDistinct
  listed_apart low at [] r = tt
  listed_apart low at (s ∷ slots) r =
      let beyond : s.place + 1 ≤ length ranks = omega (arith, r.1) in
      with_or_without (group == number_at groups s) (none_tied (contender_of ranks at s) s (s.place + 1) (at + 1) slots refl (omega arith) beyond r.2) (listed_apart (s.place + 1) (at + 1) slots r.2)
    where
      with_or_without : (b : Bool) → AllByRecursion (λ (o : Contender). eq_by_cmp (tidied_order down) (contender_of ranks at s) o ≡ false) (contenders_in groups ranks group (at + 1) slots)
          → IsDistinct (eq_by_cmp (tidied_order down)) (contenders_in groups ranks group (at + 1) slots)
          → IsDistinct (eq_by_cmp (tidied_order down)) (if b then contender_of ranks at s ∷ contenders_in groups ranks group (at + 1) slots else contenders_in groups ranks group (at + 1) slots)
      with_or_without true h rest = (h, rest)
      with_or_without false h rest = rest

-- ---- what is kept of each group

pub kept_here : (best : List Best) (i : ℕ) (b : Best) → i < length best → b ≡ get_or best i b → kept_in best i ≡ b.kept.items
kept_here [] i b l e = absurd (omega arith)
kept_here (x ∷ best) zero b l e = ap (λ (y : Best). y.kept.items) (sym e)
kept_here (x ∷ best) (suc i) b l e = kept_here best i b (omega arith) e

pub kept_set : (best : List Best) (i : ℕ) (b : Best) → i < length best → kept_in (set best i b) i ≡ b.kept.items
kept_set [] i b l = absurd (omega arith)
kept_set (x ∷ best) zero b l = refl
kept_set (x ∷ best) (suc i) b l = kept_set best i b (omega arith)

pub kept_other : (best : List Best) (i j : ℕ) (b : Best) → (i ≡ j → ⊥) → kept_in (set best i b) j ≡ kept_in best j
kept_other [] i j b f = refl
kept_other (x ∷ best) zero zero b f = absurd (f refl)
kept_other (x ∷ best) zero (suc j) b f = refl
kept_other (x ∷ best) (suc i) zero b f = refl
kept_other (x ∷ best) (suc i) (suc j) b f = kept_other best i j b (λ e. f (ap suc e))

pub kept_past : (best : List Best) (i : ℕ) → length best ≤ i → kept_in best i ≡ []
kept_past [] i l = refl
kept_past (x ∷ best) zero l = absurd (omega arith)
kept_past (x ∷ best) (suc i) l = kept_past best i (omega arith)

none_kept : (best : List Best) (i : ℕ) → AllByRecursion (λ (b : Best). b.kept.items ≡ []) best → kept_in best i ≡ []
none_kept [] i a = refl
none_kept (b ∷ best) zero a = a.0
none_kept (b ∷ best) (suc i) a = none_kept best i a.1

pub begun : (down : Bool) (k : ℕ) (groups ranks : List ℕ) (best : List Best) → 0 < k → AllByRecursion (λ (b : Best). b.kept.items ≡ []) best
    → (group : ℕ) → Keeps (before down) k (contenders_in groups ranks group 0 []) (kept_in best group)
begun down k groups ranks best some a group = subst (Keeps (before down) k []) (sym (none_kept best group a)) (keeps_none (before down) k some)

-- a slot is offered to its group
pub offered : (down : Bool) (k : ℕ) (groups ranks : List ℕ) (slots : List Slot) (i : ℕ) (slot : Slot) (best : List Best) (old new : Best) (place : ℕ) → i < length slots → slot ≡ get_or slots i slot → place ≡ number_at groups slot
    → place < length best → old ≡ get_or best place old
    → ((all : List Contender) → Keeps (before down) k all old.kept.items → Keeps (before down) k (all ++ contender_of ranks i slot ∷ []) new.kept.items)
    → ((group : ℕ) → Keeps (before down) k (contenders_in groups ranks group 0 (take i slots)) (kept_in best group))
    → (group : ℕ) → Keeps (before down) k (contenders_in groups ranks group 0 (take (i + 1) slots)) (kept_in (set best place new) group)
offered down k groups ranks slots i slot best old new place l e p there is step kept group =
    subst (λ (cs : List Contender). Keeps (before down) k cs (kept_in (set best place new) group))
    (sym (in_more groups ranks group 0 slots i slot l e ∙ ap (λ (a : ℕ). Now ++ (if group == number_at groups slot then contender_of ranks a slot ∷ [] else [])) none_more)) (by (group == number_at groups slot) refl)
  where
    Now : List Contender
    Now = contenders_in groups ranks group 0 (take i slots)

    none_more : 0 + i ≡ i
    none_more = omega arith

    by : (b : Bool) → (group == number_at groups slot) ≡ b → Keeps (before down) k (Now ++ (if b then contender_of ranks i slot ∷ [] else [])) (kept_in (set best place new) group)
    by true h =
        let same : group ≡ place = eqb-true group (number_at groups slot) h ∙ sym p in
        let was : kept_in best group ≡ old.kept.items = ap (kept_in best) same ∙ kept_here best place old there is in
        let is_now : kept_in (set best place new) group ≡ new.kept.items = ap (kept_in (set best place new)) same ∙ kept_set best place new there in
        subst (Keeps (before down) k (Now ++ contender_of ranks i slot ∷ [])) (sym is_now) (step Now (subst (Keeps (before down) k Now) was (kept group)))
    by false h =
        let other : kept_in (set best place new) group ≡ kept_in best group = kept_other best place group new (λ q. let t : (group == number_at groups slot) ≡ true = eq-eqb group (number_at groups slot) (sym q ∙ p) in absurd (cc)) in
        subst (λ (cs : List Contender). Keeps (before down) k cs (kept_in (set best place new) group)) (sym (append-nil Now)) (subst (Keeps (before down) k Now) (sym other) (kept group))

-- ---- each group in turn

pub emptied : (best : List Best) → ((group : ℕ) → kept_in best group ≡ []) → AllByRecursion (λ (b : Best). b.kept.items ≡ []) best
emptied [] f = tt
emptied (b ∷ best) f = (f 0, emptied best (λ g. f (suc g)))

-- where one group more is empty
pub emptied_more : (best : List Best) (i : ℕ) (new : Best) → i < length best → new.kept.items ≡ [] → ((group : ℕ) → group < i → kept_in best group ≡ []) → (group : ℕ) → group < i + 1 → kept_in (set best i new) group ≡ []
emptied_more best i new l e f group less = by (group == i) refl
  where
    below : (n m : ℕ) → n < m + 1 → (m ≡ n → ⊥) → n < m
    below n m l f = pick (nat_lt n m) refl
      where
        pick : (b : Bool) → nat_lt n m ≡ b → n < m
        pick true h = ltb-true n m h
        pick false h = let more : m ≤ n = ltb-false n m h in absurd (f (omega arith))

    by : (b : Bool) → (group == i) ≡ b → kept_in (set best i new) group ≡ []
    by true h = ap (kept_in (set best i new)) (eqb-true group i h) ∙ kept_set best i new l ∙ e
    by false h =
        let apart : i ≡ group → ⊥ = λ q. let t : (group == i) ≡ true = eq-eqb group i (sym q) in absurd (cc) in
        kept_other best i group new apart ∙ f group (below group i less apart)

pub emptied_all : (best : List Best) (i : ℕ) → length best ≤ i → ((group : ℕ) → group < i → kept_in best group ≡ []) → AllByRecursion (λ (b : Best). b.kept.items ≡ []) best
emptied_all best i l f = emptied best (λ group. by group (nat_lt group i) refl)
  where
    by : (group : ℕ) (b : Bool) → nat_lt group i ≡ b → kept_in best group ≡ []
    by group true h = f group (ltb-true group i h)
    by group false h = let far : i ≤ group = ltb-false group i h in kept_past best group (omega arith)

module _ (down : Bool) (k : ℕ) (old now : List Best) (i : ℕ) (done : (group : ℕ) (all : List Contender) → Keeps (before down) k all (kept_in old group) → group < i → AreBest (before down) k all (kept_in now group))
    (left : (group : ℕ) → i ≤ group → kept_in now group ≡ kept_in old group) where
  -- where one group more is settled
  pub settled_more : (b new : Best) → i < length now → b ≡ get_or now i b → ((all : List Contender) → HoldsBest (before down) k all b.kept.items → AreBest (before down) k all new.kept.items)
      → (group : ℕ) (all : List Contender) → Keeps (before down) k all (kept_in old group) → group < i + 1 → AreBest (before down) k all (kept_in (set now i new) group)
  settled_more b new l e step group all keeps less = by (group == i) refl
    where
      below : (n m : ℕ) → n < m + 1 → (m ≡ n → ⊥) → n < m
      below n m l f = pick (nat_lt n m) refl
        where
          pick : (b : Bool) → nat_lt n m ≡ b → n < m
          pick true h = ltb-true n m h
          pick false h = let more : m ≤ n = ltb-false n m h in absurd (f (omega arith))

      by : (t : Bool) → (group == i) ≡ t → AreBest (before down) k all (kept_in (set now i new) group)
      by true h =
          let same : group ≡ i = eqb-true group i h in
          let was : kept_in old group ≡ b.kept.items = sym (left group (omega arith)) ∙ ap (kept_in now) same ∙ kept_here now i b l e in
          let is_now : kept_in (set now i new) group ≡ new.kept.items = ap (kept_in (set now i new)) same ∙ kept_set now i new l in
          subst (AreBest (before down) k all) (sym is_now) (step all (subst (HoldsBest (before down) k all) was keeps.0))
      by false h =
          let apart : i ≡ group → ⊥ = λ q. let t : (group == i) ≡ true = eq-eqb group i (sym q) in absurd (cc) in
          subst (AreBest (before down) k all) (sym (kept_other now i group new apart)) (done group all keeps (below group i less apart))

  pub left_more : (new : Best) (group : ℕ) → i + 1 ≤ group → kept_in (set now i new) group ≡ kept_in old group
  left_more new group l = kept_other now i group new (λ q. absurd (omega arith)) ∙ left group (omega arith)

  pub settled_all : length now ≤ i → (group : ℕ) (all : List Contender) → Keeps (before down) k all (kept_in old group) → AreBest (before down) k all (kept_in now group)
  settled_all l group all keeps = by (nat_lt group i) refl
    where
      by : (t : Bool) → nat_lt group i ≡ t → AreBest (before down) k all (kept_in now group)
      by true h = done group all keeps (ltb-true group i h)
      by false h =
          let far : i ≤ group = ltb-false group i h in
          let none : kept_in now group ≡ [] = kept_past now group (omega arith) in
          subst (AreBest (before down) k all) (sym none) (subst (HoldsBest (before down) k all) (sym (left group far) ∙ none) keeps.0, omega arith)

pub all_take_more : {X : Type 0} (P : X → Type 0) (xs : List X) (i : ℕ) (x : X) → i < length xs → x ≡ get_or xs i x → AllByRecursion P (take i xs) → P x → AllByRecursion P (take (i + 1) xs)
all_take_more P [] i x l e a p = absurd (omega arith)
all_take_more P (y ∷ xs) zero x l e a p = (subst P e p, tt)
all_take_more P (y ∷ xs) (suc i) x l e a p =
    let n : suc i + 1 ≡ suc (i + 1) = omega arith in
    subst (λ (m : ℕ). AllByRecursion P (take m (y ∷ xs))) (sym n) (a.0, all_take_more P xs i x (omega arith) e a.1 p)

pub item_all : {X : Type 0} (P : X → Type 0) (xs : List X) (i : ℕ) (x : X) → i < length xs → x ≡ get_or xs i x → AllByRecursion P xs → P x
item_all P [] i x l e a = absurd (omega arith)
item_all P (y ∷ xs) zero x l e a = subst P (sym e) a.0
item_all P (y ∷ xs) (suc i) x l e a = item_all P xs i x (omega arith) e a.1

-- places stay below what is no less
pub within_more : (n m : ℕ) (places : List ℕ) → n ≤ m → All (λ (p : ℕ). p < n) places → All (λ (p : ℕ). p < m) places
within_more n m places l a = All-from_recursion (λ (p : ℕ). p < m) places (each places (recursion_from_All (λ (p : ℕ). p < n) places a))
  where
    each : (ps : List ℕ) → AllByRecursion (λ (p : ℕ). p < n) ps → AllByRecursion (λ (p : ℕ). p < m) ps
    each [] b = tt
    each (p ∷ ps) b = (omega (arith, l, b.0), each ps b.1)

pub place_below : (n : ℕ) (places : List ℕ) (slot : Slot) (place : ℕ) → slot.place < length places → place ≡ number_at places slot → All (λ (p : ℕ). p < n) places → place < n
place_below n places slot place l e a = subst (λ (p : ℕ). p < n) (sym e) (by places slot.place l (recursion_from_All (λ (p : ℕ). p < n) places a))
  where
    by : (ps : List ℕ) (i : ℕ) → i < length ps → AllByRecursion (λ (p : ℕ). p < n) ps → get_or ps i 0 < n
    by [] i l b = absurd (omega arith)
    by (p ∷ ps) zero l b = b.0
    by (p ∷ ps) (suc i) l b = by ps i (omega arith) b.1

-- ---- marks

each_group : (P : Contender → Type 0) (best : List Best) → ((group : ℕ) → AllByRecursion P (kept_in best group)) → AllByRecursion (λ (b : Best). AllByRecursion P b.kept.items) best
each_group P [] f = tt
each_group P (b ∷ best) f = (f 0, each_group P best (λ g. f (suc g)))

pub marks_within : (down : Bool) (k : ℕ) (groups ranks : List ℕ) (n : ℕ) (slots : List Slot) (best : List Best) → n ≡ length slots
    → ((group : ℕ) → AreBest (before down) k (contenders_in groups ranks group 0 slots) (kept_in best group)) → AllByRecursion (λ (b : Best). AllByRecursion (λ (c : Contender). c.at < n) b.kept.items) best
marks_within down k groups ranks n slots best e are = each_group (λ (c : Contender). c.at < n) best (λ group.
    let all = contenders_in groups ranks group 0 slots in
    let parted = (are group).0.parted in
    (parts_of (λ (c : Contender). c.at < n) (kept_in best group) (are group).0.left_out
    (recursion_from_All (λ (c : Contender). c.at < n) (kept_in best group ++ (are group).0.left_out)
    (All-permutation (λ (c : Contender). c.at < n) all (kept_in best group ++ (are group).0.left_out) parted (All-from_recursion (λ (c : Contender). c.at < n) all (all_within groups ranks group 0 n slots (omega arith)))))).0)

some_more : {X : Type 0} (p : X → Bool) (xs : List X) (i : ℕ) (x : X) → i < length xs → x ≡ get_or xs i x → list_any p (take (i + 1) xs) ≡ (list_any p (take i xs) || p x)
some_more p [] i x l e = absurd (omega arith)
some_more p (y ∷ xs) zero x l e = or_false (p y) ∙ ap p (sym e)
  where
    or_false : (b : Bool) → (b || false) ≡ b
    or_false true = refl
    or_false false = refl
some_more p (y ∷ xs) (suc i) x l e =
    let n : suc i + 1 ≡ suc (i + 1) = omega arith in
    rw n (ap (λ (b : Bool). p y || b) (some_more p xs i x (omega arith) e) ∙ or_assoc (p y) (list_any p (take i xs)) (p x))
  where
    or_assoc : (a b c : Bool) → (a || (b || c)) ≡ ((a || b) || c)
    or_assoc true b c = refl
    or_assoc false b c = refl

-- one more is marked
pub marked_one_more : (some : List Contender) (i at : ℕ) (c : Contender) (old : Bool) (marks : List Bool) → i < length some → c ≡ get_or some i c → c.at < length marks
    → get_or marks at false ≡ (old || has_at at (take i some)) → get_or (set marks c.at true) at false ≡ (old || has_at at (take (i + 1) some))
marked_one_more some i at c old marks l e w m = by (c.at == at) refl
  where
    or_true : (a b : Bool) → (a || (b || true)) ≡ true
    or_true true b = refl
    or_true false true = refl
    or_true false false = refl

    or_false : (b : Bool) → (b || false) ≡ b
    or_false true = refl
    or_false false = refl

    more : (b : Bool) → (c.at == at) ≡ b → (old || has_at at (take (i + 1) some)) ≡ (old || (has_at at (take i some) || b))
    more b h = ap (λ (r : Bool). old || r) (some_more (λ (o : Contender). o.at == at) some i c l e ∙ ap (λ (r : Bool). has_at at (take i some) || r) h)

    by : (b : Bool) → (c.at == at) ≡ b → get_or (set marks c.at true) at false ≡ (old || has_at at (take (i + 1) some))
    by true h =
        let same : c.at ≡ at = eqb-true c.at at h in
        subst (λ (n : ℕ). get_or (set marks c.at true) n false ≡ true) same (get_or-set_same marks c.at true false w) ∙ sym (more true h ∙ or_true old (has_at at (take i some)))
    by false h =
        get_or-set_other marks c.at at true false (λ s. let t : (c.at == at) ≡ true = eq-eqb c.at at (sym s) in absurd (cc)) ∙ m
        ∙ sym (more false h ∙ ap (λ (r : Bool). old || r) (or_false (has_at at (take i some))))

-- and those of one more group
pub group_marked : (best : List Best) (i at : ℕ) (b : Best) (old now new : Bool) → i < length best → b ≡ get_or best i b → now ≡ (old || is_in_some at (take i best)) → new ≡ (now || has_at at b.kept.items)
    → new ≡ (old || is_in_some at (take (i + 1) best))
group_marked best i at b old now new l e h m =
    m ∙ ap (λ (r : Bool). r || has_at at b.kept.items) h ∙ assoc old (is_in_some at (take i best)) (has_at at b.kept.items) ∙ ap (λ (r : Bool). old || r) (sym (some_more (λ (x : Best). has_at at x.kept.items) best i b l e))
  where
    assoc : (a b c : Bool) → ((a || b) || c) ≡ (a || (b || c))
    assoc true b c = refl
    assoc false b c = refl

-- the slots with marks, one more
marked_more : (marks : List Bool) (slots : List Slot) (i : ℕ) (mark : Bool) (slot : Slot) → i < length marks → i < length slots → get_or marks i false ≡ mark → slot ≡ get_or slots i slot
    → marked (take (i + 1) marks) (take (i + 1) slots) ≡ marked (take i marks) (take i slots) ++ (if mark then slot ∷ [] else [])
marked_more [] slots i mark slot l m e h = absurd (omega arith)
marked_more (b ∷ marks) [] i mark slot l m e h = absurd (omega arith)
marked_more (b ∷ marks) (s ∷ slots) zero mark slot l m e h = λ j. if e j then (sym h j) ∷ [] else []
marked_more (b ∷ marks) (s ∷ slots) (suc i) mark slot l m e h =
    let n : suc i + 1 ≡ suc (i + 1) = omega arith in
    rw n (ap (λ (r : List Slot). if b then s ∷ r else r) (marked_more marks slots i mark slot (omega arith) (omega arith) e h) ∙ inside b)
  where
    inside : (b : Bool) → (if b then s ∷ (marked (take i marks) (take i slots) ++ (if mark then slot ∷ [] else [])) else (marked (take i marks) (take i slots) ++ (if mark then slot ∷ [] else [])))
        ≡ (if b then s ∷ marked (take i marks) (take i slots) else marked (take i marks) (take i slots)) ++ (if mark then slot ∷ [] else [])
    inside true = refl
    inside false = refl

pub item_there : {X : Type 0} (xs : List X) (i : ℕ) → i < length xs → (x : X) × (x ≡ get_or xs i x)
item_there [] i l = absurd (omega arith)
item_there (x ∷ xs) zero l = (x, refl)
item_there (x ∷ xs) (suc i) l = item_there xs i (omega arith)

pub slot_left : (marks : List Bool) (slots : List Slot) (i : ℕ) (before now : List PlacedOutcome) → length marks ≡ length slots → i < length slots → get_or marks i false ≡ false → now ≡ before ++ map as_made (marked (take i marks) (take i slots))
    → now ≡ before ++ map as_made (marked (take (i + 1) marks) (take (i + 1) slots))
slot_left marks slots i before now n l e h =
    let slot = item_there slots i l in
    h ∙ ap (λ (r : List Slot). before ++ map as_made r) (sym (append-nil (marked (take i marks) (take i slots))) ∙ sym (marked_more marks slots i false slot.0 (omega (arith, n)) l e slot.1))

pub slot_taken : (marks : List Bool) (slots : List Slot) (i : ℕ) (slot : Slot) (before now new : List PlacedOutcome) → length marks ≡ length slots → i < length slots → get_or marks i false ≡ true → slot ≡ get_or slots i slot
    → now ≡ before ++ map as_made (marked (take i marks) (take i slots)) → new ≡ now ++ as_made slot ∷ [] → new ≡ before ++ map as_made (marked (take (i + 1) marks) (take (i + 1) slots))
slot_taken marks slots i slot before now new n l e there h w =
    w ∙ ap (λ (r : List PlacedOutcome). r ++ as_made slot ∷ []) h ∙ append_assoc before (map as_made (marked (take i marks) (take i slots))) (as_made slot ∷ [])
    ∙ ap (λ (r : List PlacedOutcome). before ++ r) (sym (map-append as_made (marked (take i marks) (take i slots)) (slot ∷ [])))
    ∙ ap (λ (r : List Slot). before ++ map as_made r) (sym (marked_more marks slots i true slot (omega (arith, n)) l e there))

-- ---- those that are marked are those that are chosen

none_in : (at : ℕ) (best : List Best) → ((group : ℕ) → has_at at (kept_in best group) ≡ false) → is_in_some at best ≡ false
none_in at [] f = refl
none_in at (b ∷ best) f = ap (λ (r : Bool). r || is_in_some at best) (f 0) ∙ none_in at best (λ g. f (suc g))

only_in : (at : ℕ) (best : List Best) (group : ℕ) → ((other : ℕ) → (other ≡ group → ⊥) → has_at at (kept_in best other) ≡ false) → is_in_some at best ≡ has_at at (kept_in best group)
only_in at [] group f = refl
only_in at (b ∷ best) zero f = ap (λ (r : Bool). has_at at b.kept.items || r) (none_in at best (λ g. f (suc g) (λ e. absurd (omega arith)))) ∙ or_false (has_at at b.kept.items)
  where
    or_false : (b : Bool) → (b || false) ≡ b
    or_false true = refl
    or_false false = refl
only_in at (b ∷ best) (suc group) f = ap (λ (r : Bool). r || is_in_some at best) (f 0 (λ e. absurd (omega arith))) ∙ only_in at best group (λ g h. f (suc g) (λ e. h (omega arith)))

marks_are : (q : Slot → Bool) (marks : List Bool) (slots : List Slot) → length marks ≡ length slots → ((i : ℕ) (d : Slot) → i < length slots → get_or marks i false ≡ q (get_or slots i d)) → marked marks slots ≡ filter q slots
marks_are q [] [] e f = refl
marks_are q [] (s ∷ slots) e f = absurd (omega arith)
marks_are q (b ∷ marks) [] e f = absurd (omega arith)
marks_are q (b ∷ marks) (s ∷ slots) e f =
    let here : b ≡ q s = f 0 s (omega arith) in
    λ j. if here j then s ∷ marks_are q marks slots (omega arith) (λ i d l. f (suc i) d (omega arith)) j else marks_are q marks slots (omega arith) (λ i d l. f (suc i) d (omega arith)) j

count_listed : (down : Bool) (groups ranks : List ℕ) (n : ℕ) (slot : Slot) (at : ℕ) (slots : List Slot) → IsNumber slot.value → AreNumbers slots
    → count_by (λ (o : Contender). before down o (contender_of ranks n slot)) (contenders_in groups ranks (number_at groups slot) at slots) ≡ count_by (goes_ahead down groups ranks slot) slots
count_listed down groups ranks n slot at [] own ns = refl
count_listed down groups ranks n slot at (s ∷ slots) own ns =
    with_or_without (number_at groups slot == number_at groups s) (contenders_in groups ranks (number_at groups slot) (at + 1) slots)
    ∙ ap (λ (o : Ordering). cond ((number_at groups slot == number_at groups s) && is_lt o) 1 0 + count_by comes (contenders_in groups ranks (number_at groups slot) (at + 1) slots)) (tidied_same down (contender_of ranks at s) (contender_of ranks n slot) ns.0 own)
    ∙ ap (λ (m : ℕ). cond (goes_ahead down groups ranks slot s) 1 0 + m) (count_listed down groups ranks n slot (at + 1) slots own ns.1) ∙ sym (count-cons (goes_ahead down groups ranks slot) s slots)
  where
    comes : Contender → Bool
    comes o = before down o (contender_of ranks n slot)

    with_or_without : (b : Bool) (rest : List Contender) → count_by comes (if b then contender_of ranks at s ∷ rest else rest) ≡ cond (b && comes (contender_of ranks at s)) 1 0 + count_by comes rest
    with_or_without true rest = count-cons comes (contender_of ranks at s) rest
    with_or_without false rest = sym (let none : 0 + count_by comes rest ≡ count_by comes rest = omega arith in none)

number_of : (slots : List Slot) (i : ℕ) (d : Slot) → i < length slots → AreNumbers slots → IsNumber (get_or slots i d).value
number_of [] i d l ns = absurd (omega arith)
number_of (s ∷ slots) zero d l ns = ns.0
number_of (s ∷ slots) (suc i) d l ns = number_of slots i d (omega arith) ns.1

module _ (down : Bool) (total : IsTotalOrder (tidied_order down)) (groups ranks : List ℕ) (k : ℕ) (slots : List Slot) (best : List Best) (apart : AreApart ranks) (rise : SlotsRise 0 (length ranks) slots) (numbers : AreNumbers slots)
    (are : (group : ℕ) → AreBest (before down) k (contenders_in groups ranks group 0 slots) (kept_in best group)) where
  taken_is_chosen : (i : ℕ) (d : Slot) → i < length slots → is_in_some i best ≡ is_chosen down groups ranks k slots (get_or slots i d)
  taken_is_chosen i d l =
      only_in i best own others
      ∙ is_best (tidied_order down) total k all (contender_of ranks i slot) (λ (c : Contender). c.at == i) (kept_in best own) (are own) (listed_apart down groups ranks own apart 0 0 slots rise)
      (number_in groups ranks own i 0 i slots d (omega arith) l ∙ eq-eqb own own refl) (alone_at groups ranks own i 0 i slots d (omega arith) l)
      ∙ ap (λ (n : ℕ). nat_lt n k) (count_listed down groups ranks i slot 0 slots (number_of slots i d l numbers) numbers)
    where
      slot : Slot
      slot = get_or slots i d

      own : ℕ
      own = number_at groups slot

      all : List Contender
      all = contenders_in groups ranks own 0 slots

      first_false : (a b : Bool) → (a || b) ≡ false → a ≡ false
      first_false true b h = absurd (cc)
      first_false false b h = refl

      others : (other : ℕ) → (other ≡ own → ⊥) → has_at i (kept_in best other) ≡ false
      others other f =
          let p : Contender → Bool = λ c. c.at == i in
          let out : has_at i (contenders_in groups ranks other 0 slots) ≡ false = number_in groups ranks other i 0 i slots d (omega arith) l ∙ ne_eqb other own f in
          let left = (are other).0.left_out in
          first_false (has_at i (kept_in best other)) (has_at i left)
          (sym (any_of_two (λ (c : Contender). c.at == i) (kept_in best other) left) ∙ sym (list_any-IsPermutation (λ (c : Contender). c.at == i) (contenders_in groups ranks other 0 slots) (kept_in best other ++ left) (are other).0.parted) ∙ out)

  pub choice_is : (seen : List Best) (blank marks told : List Bool) (made after : List PlacedOutcome) → seen ≡ best → blank ≡ replicate (length slots) false → length marks ≡ length blank
      → ((at : ℕ) → get_or marks at false ≡ (get_or blank at false || is_in_some at seen)) → told ≡ marks → made ≡ [] → after ≡ made ++ map as_made (marked told slots) → after ≡ map as_made (chosen down groups ranks k slots)
  choice_is seen blank marks told made after s b n m t z a =
      a ∙ (λ j. z j ++ map as_made (marked (t j) slots))
      ∙ ap (map as_made) (marks_are (is_chosen down groups ranks k slots) marks slots (n ∙ ap length b ∙ length-replicate (length slots) false)
      (λ i d l. m i ∙ (λ j. (ap (λ (bs : List Bool). get_or bs i false) b ∙ get_or-replicate (length slots) i false false l) j || is_in_some i (s j)) ∙ taken_is_chosen i d l))

pub none_chosen : (down : Bool) (groups ranks : List ℕ) (k : ℕ) (slots : List Slot) → k ≡ 0 → map as_made (chosen down groups ranks k slots) ≡ []
none_chosen down groups ranks k slots e = ap (map as_made) (each slots)
  where
    each : (some : List Slot) → filter (is_chosen down groups ranks k slots) some ≡ []
    each [] = refl
    each (s ∷ some) =
        let out : is_chosen down groups ranks k slots s ≡ false = le-ltb (count_by (goes_ahead down groups ranks s) slots) k (omega arith) in
        ap (λ (b : Bool). cond b (s ∷ filter (is_chosen down groups ranks k slots) some) (filter (is_chosen down groups ranks k slots) some)) out ∙ each some

pub whole_front : {X : Type 0} (xs : List X) (i : ℕ) → length xs ≤ i → take i xs ≡ xs
whole_front [] zero l = refl
whole_front [] (suc i) l = refl
whole_front (x ∷ xs) zero l = absurd (omega arith)
whole_front (x ∷ xs) (suc i) l = ap (λ r. x ∷ r) (whole_front xs i (omega arith))

pub rising_ranks : (n m : ℕ) (slots : List Slot) → m ≡ n → SlotsRise 0 n slots → SlotsRise 0 m slots
rising_ranks n m slots e r = subst (λ (k : ℕ). SlotsRise 0 k slots) (sym e) r
