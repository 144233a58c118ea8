-- Values that are sorted by the places of their groups: each group's stand together.
use Rattle.std.proofs.Common.{◌≡◌, ◌∙◌, ℕ, zero, suc, ◌+◌, ◌<◌, ◌≤◌, Bool, true, false, List, [], ◌∷◌, ◌++◌, length, get_or, take, map, refl, sym, ap, subst, arith, append-nil}
use Rattle.std.specs.Prelude.{◌==◌, nat_lt, not, if◌then◌else◌}
use Rattle.std.specs.List.{AllByRecursion}
use Rattle.std.specs.List.Sorted.{IsNonDecreasingBy, IsPermutation}
use Rattle.std.proofs.lemmas.Bool.{eqb-false, eqb-true, eq-eqb, ltb-false, ltb-true, ne_eqb}
use Rattle.std.proofs.lemmas.List.{map-append}
use Rattle.std.proofs.lemmas.List.Elements.{All-from_recursion, recursion_from_All}
use Rattle.std.proofs.lemmas.List.Sorted.{All-permutation}
use Rattle.step_batch.specs.declared.steps.Slot.{Slot}
use Rattle.step_put.specs.declared.placed.PlacedOutcome.{PlacedOutcome}
use Rattle.step_table.specs.Operators.{some_value}
use Rattle.window_fn.specs.Aggregates.{quantile_of}
use Rattle.xfrac.specs.Laws.{IsNumber}
use Rattle.xfrac.specs.declared.value.XFrac.{XFrac}
use Rattle.op_rank.specs.Entries.{AreNumberEntries, entry_of}
use Rattle.op_rank.specs.Quantiles.{GroupsRise, ended, group_made, is_end, is_end_at, made_until, values_in}
use Rattle.op_rank.specs.declared.entries.Entry.{Entry}

pub strictly_above : (a b : ℕ) → a ≤ b → (b == a) ≡ false → a < b
strictly_above a b l e = pick (nat_lt a b) refl
  where
    pick : (t : Bool) → nat_lt a b ≡ t → a < b
    pick true h = ltb-true a b h
    pick false h = let m : b ≤ a = ltb-false a b h in absurd (eqb-false b a e (omega arith))

-- ---- what is listed

pub listed_more : (groups : List ℕ) (slots : List Slot) (i : ℕ) (slot : Slot) → i < length slots → slot ≡ get_or slots i slot → map (entry_of groups) (take (i + 1) slots) ≡ map (entry_of groups) (take i slots) ++ entry_of groups slot ∷ []
listed_more groups [] i slot l e = absurd (omega arith)
listed_more groups (s ∷ slots) zero slot l e = ap (λ (z : Slot). entry_of groups z ∷ []) (sym e)
listed_more groups (s ∷ slots) (suc i) slot l e =
    let n : suc i + 1 ≡ suc (i + 1) = omega arith in
    rw n (ap (λ (r : List Entry). entry_of groups s ∷ r) (listed_more groups slots i slot (omega arith) e))

all_more : {X : Type 0} (P : X → Type 0) (xs : List X) (x : X) → AllByRecursion P xs → P x → AllByRecursion P (xs ++ x ∷ [])
all_more P [] x a p = (p, tt)
all_more P (y ∷ xs) x a p = (a.0, all_more P xs x a.1 p)

pub numbers_more : (old new : List Entry) (e : Entry) → AreNumberEntries old → IsNumber e.value → new ≡ old ++ e ∷ [] → AreNumberEntries new
numbers_more old new e a n w = subst AreNumberEntries (sym w) (all_more (λ (x : Entry). IsNumber x.value) old e a n)

pub numbers_moved : (xs ys : List Entry) → IsPermutation xs ys → AreNumberEntries xs → AreNumberEntries ys
numbers_moved xs ys p a = recursion_from_All (λ (x : Entry). IsNumber x.value) ys (All-permutation (λ (x : Entry). IsNumber x.value) xs ys p (All-from_recursion (λ (x : Entry). IsNumber x.value) xs a))

not_below : (e : Entry) (es : List Entry) → ((j : ℕ) (d : Entry) → j < length es → e.group ≤ (get_or es j d).group) → AllByRecursion (λ (o : Entry). e.group ≤ o.group) es
not_below e [] f = tt
not_below e (o ∷ es) f = (f 0 e (omega arith), not_below e es (λ j d l. f (suc j) d (omega arith)))

pub groups_rise : (es : List Entry) → IsNonDecreasingBy (λ (e : Entry). e.group) es → GroupsRise es
groups_rise [] f = tt
groups_rise (e ∷ es) f = (not_below e es (λ j d l. f 0 (suc j) d (omega arith) (omega arith)), groups_rise es (λ i j d l m. f (suc i) (suc j) d (omega arith) (omega arith)))

-- ---- values of a group

values_append : (g : ℕ) (xs ys : List Entry) → values_in g (xs ++ ys) ≡ values_in g xs ++ values_in g ys
values_append g [] ys = refl
values_append g (x ∷ xs) ys = ap (λ (r : List XFrac). if g == x.group then x.value ∷ r else r) (values_append g xs ys) ∙ inside (g == x.group)
  where
    inside : (b : Bool) → (if b then x.value ∷ (values_in g xs ++ values_in g ys) else values_in g xs ++ values_in g ys) ≡ (if b then x.value ∷ values_in g xs else values_in g xs) ++ values_in g ys
    inside true = refl
    inside false = refl

values_none : (g : ℕ) (xs : List Entry) → AllByRecursion (λ (o : Entry). (g == o.group) ≡ false) xs → values_in g xs ≡ []
values_none g [] a = refl
values_none g (x ∷ xs) a = ap (λ (b : Bool). if b then x.value ∷ values_in g xs else values_in g xs) a.0 ∙ values_none g xs a.1

take_more : (es : List Entry) (i : ℕ) (e : Entry) → i < length es → e ≡ get_or es i e → take (i + 1) es ≡ take i es ++ e ∷ []
take_more [] i e l h = absurd (omega arith)
take_more (x ∷ es) zero e l h = ap (λ (z : Entry). z ∷ []) (sym h)
take_more (x ∷ es) (suc i) e l h = let n : suc i + 1 ≡ suc (i + 1) = omega arith in rw n (ap (λ (r : List Entry). x ∷ r) (take_more es i e (omega arith) h))

own_more : (es : List Entry) (i : ℕ) (e : Entry) → i < length es → e ≡ get_or es i e → values_in e.group (take (i + 1) es) ≡ values_in e.group (take i es) ++ e.value ∷ []
own_more es i e l h =
    ap (values_in e.group) (take_more es i e l h) ∙ values_append e.group (take i es) (e ∷ [])
    ∙ ap (λ (b : Bool). values_in e.group (take i es) ++ (if b then e.value ∷ [] else [])) (eq-eqb e.group e.group refl)

-- the values so far are those of the group of the entry that comes next, if there is one
abbrev pub AreOpen : List Entry → ℕ → List XFrac → Type 0
AreOpen es i values = (e : Entry) → i < length es → e ≡ get_or es i e → values ≡ values_in e.group (take i es)

pub open_none : (es : List Entry) (values : List XFrac) → values ≡ [] → AreOpen es 0 values
open_none es values v e l h = v

pub open_more : (es : List Entry) (i : ℕ) (e : Entry) (values more : List XFrac) → i < length es → e ≡ get_or es i e → AreOpen es i values → more ≡ values ++ e.value ∷ [] → more ≡ values_in e.group (take (i + 1) es)
open_more es i e values more l h o m = m ∙ ap (λ (r : List XFrac). r ++ e.value ∷ []) (o e l h) ∙ sym (own_more es i e l h)

end_next : (es : List Entry) (i : ℕ) (e o : Entry) → i < length es → e ≡ get_or es i e → i + 1 < length es → o ≡ get_or es (i + 1) o → is_end_at i es ≡ not (o.group == e.group)
end_next [] i e o l h m k = absurd (omega arith)
end_next (x ∷ []) i e o l h m k = absurd (omega arith)
end_next (x ∷ y ∷ es) zero e o l h m k = λ j. not ((sym k j).group == (sym h j).group)
end_next (x ∷ y ∷ es) (suc i) e o l h m k = let n : suc i + 1 ≡ suc (i + 1) = omega arith in end_next (y ∷ es) i e o (omega arith) h (omega arith) (subst (λ (q : ℕ). o ≡ get_or (x ∷ y ∷ es) q o) n k)

pub end_last : (es : List Entry) (i : ℕ) → i + 1 ≡ length es → is_end_at i es ≡ true
end_last [] i e = absurd (omega arith)
end_last (x ∷ []) zero e = refl
end_last (x ∷ []) (suc i) e = absurd (omega arith)
end_last (x ∷ y ∷ es) zero e = absurd (omega arith)
end_last (x ∷ y ∷ es) (suc i) e = end_last (y ∷ es) i (omega arith)

pub end_is : (es : List Entry) (i : ℕ) (e o : Entry) (same : Bool) → i < length es → i + 1 < length es → e ≡ get_or es i e → o ≡ get_or es (i + 1) o → same ≡ (o.group == e.group) → not same ≡ is_end_at i es
end_is es i e o same l d h k s = ap not s ∙ sym (end_next es i e o l h d k)

pub open_kept : (es : List Entry) (i : ℕ) (e : Entry) (more : List XFrac) → i < length es → e ≡ get_or es i e → is_end_at i es ≡ false → more ≡ values_in e.group (take (i + 1) es) → AreOpen es (i + 1) more
open_kept es i e more l h n m o k there =
    let same : not (o.group == e.group) ≡ false = sym (end_next es i e o l h k there) ∙ n in
    let one : o.group ≡ e.group = eqb-true o.group e.group (unnot (o.group == e.group) same) in
    m ∙ ap (λ (g : ℕ). values_in g (take (i + 1) es)) (sym one)
  where
    unnot : (b : Bool) → not b ≡ false → b ≡ true
    unnot true h = refl
    unnot false h = absurd (cc)

-- ---- groups that end

behind : (es : List Entry) (i : ℕ) (e o : Entry) → GroupsRise es → i < length es → e ≡ get_or es i e → i + 1 < length es → o ≡ get_or es (i + 1) o → AllByRecursion (λ (x : Entry). x.group ≤ e.group) (take (i + 1) es) × (e.group ≤ o.group)
behind [] i e o r l h m k = absurd (omega arith)
behind (x ∷ []) i e o r l h m k = absurd (omega arith)
behind (x ∷ y ∷ es) zero e o r l h m k =
    ((subst (λ (z : Entry). x.group ≤ z.group) (sym h) (omega arith), tt), subst (λ (z : Entry). z.group ≤ o.group) (sym h) (subst (λ (z : Entry). x.group ≤ z.group) (sym k) r.0.0))
behind (x ∷ y ∷ es) (suc i) e o r l h m k =
    let n : suc i + 1 ≡ suc (i + 1) = omega arith in
    let rest = behind (y ∷ es) i e o r.1 (omega arith) h (omega arith) (subst (λ (q : ℕ). o ≡ get_or (x ∷ y ∷ es) q o) n k) in
    let first : x.group ≤ e.group = at (y ∷ es) i r.0 (omega arith) h in
    rw n ((first, rest.0), rest.1)
  where
    at : (ys : List Entry) (j : ℕ) → AllByRecursion (λ (z : Entry). x.group ≤ z.group) ys → j < length ys → e ≡ get_or ys j e → x.group ≤ e.group
    at [] j a l h = absurd (omega arith)
    at (z ∷ ys) zero a l h = subst (λ (w : Entry). x.group ≤ w.group) (sym h) a.0
    at (z ∷ ys) (suc j) a l h = at ys j a.1 (omega arith) h

none_of : (g : ℕ) (low : ℕ) (xs : List Entry) → low < g → AllByRecursion (λ (x : Entry). x.group ≤ low) xs → AllByRecursion (λ (x : Entry). (g == x.group) ≡ false) xs
none_of g low [] l a = tt
none_of g low (x ∷ xs) l a = let m : x.group ≤ low = a.0 in (ne_eqb g x.group (λ e. absurd (omega arith)), none_of g low xs l a.1)

pub open_ended : (es : List Entry) (i : ℕ) (e : Entry) (values : List XFrac) → GroupsRise es → i < length es → e ≡ get_or es i e → is_end_at i es ≡ true → values ≡ [] → AreOpen es (i + 1) values
open_ended es i e values r l h n v o k there =
    let parts = behind es i e o r l h k there in
    let apart : not (o.group == e.group) ≡ true = sym (end_next es i e o l h k there) ∙ n in
    let other : (o.group == e.group) ≡ false = unnot (o.group == e.group) apart in
    let less : e.group < o.group = strictly_above e.group o.group parts.1 other in
    v ∙ sym (values_none o.group (take (i + 1) es) (none_of o.group e.group (take (i + 1) es) less parts.0))
  where
    unnot : (b : Bool) → not b ≡ true → b ≡ false
    unnot true h = absurd (cc)
    unnot false h = refl

-- the values of a group that ends are all of its values
whole_group : (es : List Entry) (i : ℕ) (e : Entry) → GroupsRise es → i < length es → e ≡ get_or es i e → is_end_at i es ≡ true → values_in e.group (take (i + 1) es) ≡ values_in e.group es
whole_group [] i e r l h n = absurd (omega arith)
whole_group (x ∷ []) zero e r l h n = refl
whole_group (x ∷ []) (suc i) e r l h n = absurd (omega arith)
whole_group (x ∷ y ∷ es) zero e r l h n =
    let apart : (y.group == x.group) ≡ false = unnot (y.group == x.group) n in
    let less : x.group < y.group = strictly_above x.group y.group r.0.0 apart in
    ap (λ (rest : List XFrac). if e.group == x.group then x.value ∷ rest else rest) (sym (values_none e.group (y ∷ es) (subst (λ (z : Entry). AllByRecursion (λ (o : Entry). (z.group == o.group) ≡ false) (y ∷ es)) (sym h) (beyond x.group y (y ∷ es) less (omega arith, r.1.0)))))
  where
    unnot : (b : Bool) → not b ≡ true → b ≡ false
    unnot true h = absurd (cc)
    unnot false h = refl

    beyond : (g : ℕ) (z : Entry) (os : List Entry) → g < z.group → AllByRecursion (λ (o : Entry). z.group ≤ o.group) os → AllByRecursion (λ (o : Entry). (g == o.group) ≡ false) os
    beyond g z [] l a = tt
    beyond g z (o ∷ os) l a = let m : z.group ≤ o.group = a.0 in (ne_eqb g o.group (λ q. absurd (omega arith)), beyond g z os l a.1)
whole_group (x ∷ y ∷ es) (suc i) e r l h n =
    let m : suc i + 1 ≡ suc (i + 1) = omega arith in
    rw m (ap (λ (rest : List XFrac). if e.group == x.group then x.value ∷ rest else rest) (whole_group (y ∷ es) i e r.1 (omega arith) h n))

ended_more : (es : List Entry) (i : ℕ) (e : Entry) → i < length es → e ≡ get_or es i e → ended (i + 1) es ≡ ended i es ++ (if is_end_at i es then e.group ∷ [] else [])
ended_more [] i e l h = absurd (omega arith)
ended_more (x ∷ es) zero e l h = ap (λ (z : Entry). if is_end x es then z.group ∷ [] else []) (sym h)
ended_more (x ∷ es) (suc i) e l h =
    let n : suc i + 1 ≡ suc (i + 1) = omega arith in
    rw n (ap (λ (r : List ℕ). if is_end x es then x.group ∷ r else r) (ended_more es i e (omega arith) h) ∙ inside (is_end x es))
  where
    inside : (b : Bool) → (if b then x.group ∷ (ended i es ++ (if is_end_at i es then e.group ∷ [] else [])) else ended i es ++ (if is_end_at i es then e.group ∷ [] else []))
        ≡ (if b then x.group ∷ ended i es else ended i es) ++ (if is_end_at i es then e.group ∷ [] else [])
    inside true = refl
    inside false = refl

pub made_kept : (q : XFrac) (es : List Entry) (i : ℕ) (e : Entry) (placed : List PlacedOutcome) → i < length es → e ≡ get_or es i e → is_end_at i es ≡ false → placed ≡ made_until q i es → placed ≡ made_until q (i + 1) es
made_kept q es i e placed l h n p =
    p ∙ ap (map (group_made q es)) (sym (append-nil (ended i es)) ∙ ap (λ (b : Bool). ended i es ++ (if b then e.group ∷ [] else [])) (sym n) ∙ sym (ended_more es i e l h))

pub made_more : (q : XFrac) (es : List Entry) (i : ℕ) (e : Entry) (values : List XFrac) (old new : List PlacedOutcome) → GroupsRise es → i < length es → e ≡ get_or es i e → is_end_at i es ≡ true → values ≡ values_in e.group (take (i + 1) es)
    → old ≡ made_until q i es → new ≡ old ++ record { place = e.group; value = some_value (quantile_of q values) } ∷ [] → new ≡ made_until q (i + 1) es
made_more q es i e values old new r l h n v o w =
    let all : values ≡ values_in e.group es = v ∙ whole_group es i e r l h n in
    w ∙ (λ j. o j ++ record { place = e.group; value = some_value (quantile_of q (all j)) } ∷ [])
    ∙ sym (map-append (group_made q es) (ended i es) (e.group ∷ []))
    ∙ ap (map (group_made q es)) (ap (λ (b : Bool). ended i es ++ (if b then e.group ∷ [] else [])) (sym n) ∙ sym (ended_more es i e l h))

-- ---- the groups that end rise

pub ends_from : (low : ℕ) (i : ℕ) (es : List Entry) → AllByRecursion (λ (o : Entry). low ≤ o.group) es → AllByRecursion (λ (g : ℕ). low ≤ g) (ended i es)
ends_from low zero es a = tt
ends_from low (suc i) [] a = tt
ends_from low (suc i) (e ∷ es) a = pick (is_end e es) (ends_from low i es a.1)
  where
    pick : (b : Bool) → AllByRecursion (λ (g : ℕ). low ≤ g) (ended i es) → AllByRecursion (λ (g : ℕ). low ≤ g) (if b then e.group ∷ ended i es else ended i es)
    pick true rest = (a.0, rest)
    pick false rest = rest

pub has_value : (old new : List XFrac) (v : XFrac) → new ≡ old ++ v ∷ [] → 0 < length new
has_value old new v e = subst (λ (xs : List XFrac). 0 < length xs) (sym e) (some old)
  where
    some : (xs : List XFrac) → 0 < length (xs ++ v ∷ [])
    some [] = omega arith
    some (x ∷ xs) = omega arith

pub made_whole : (q : XFrac) (i : ℕ) (es : List Entry) → length es ≤ i → i ≤ length es → made_until q i es ≡ made_until q (length es) es
made_whole q i es l m = let same : i ≡ length es = omega arith in ap (λ (n : ℕ). made_until q n es) same
