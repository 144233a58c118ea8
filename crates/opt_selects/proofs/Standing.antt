-- The first selector that passes is found at the least place under the numbers of its rules.
use Rattle.std.proofs.Common.{◌≡◌, ◌∙◌, ℕ, zero, suc, ◌<◌, ◌≤◌, List, [], ◌∷◌, ◌++◌, length, get_or, ap, sym, refl, subst, Some, Bool, true, false, cond, arith, inl, inr, ◌⊎◌, Result, Ok, Err, OnOk, ltb-true, ltb-false, eqb-true, eq-eqb, slice_get, ◌≢◌}
use Rattle.std.specs.Prelude.{⊤, ◌&&◌, ◌||◌, ◌%◌, ◌==◌, nat_lt, if◌then◌else◌}
use Rattle.std.specs.List.{find}
use Rattle.std.proofs.lemmas.Bool.{and_from, and_parts, eqb-false, or_left, or_right}
use Rattle.std.proofs.lemmas.Nat.{mod_below}
use Rattle.std.specs.declared.alloc.AllocError.{AllocError}
use Rattle.std.proofs.lemmas.List.{get_or-set_same, get_or-set_other, length-set}
use Rattle.opt_selects.specs.RuleKeys.{has_key, has_keys}
use Rattle.opt_selects.specs.Candidates.{is_placed, is_under, least_of, least_under, passes_at, put_under, row_of}
use Rattle.opt_selects.specs.declared.candidates.Placed.{Placed}

module _ (p : ℕ → Bool) where
  module _ (key : ℕ) where
    abbrev next : Placed → ℕ → ℕ
    next s bound = if s.key == key && nat_lt s.place bound && p s.place then s.place else bound

    next_upto : (s : Placed) (bound : ℕ) → next s bound ≤ bound
    next_upto s bound = by (s.key == key) (nat_lt s.place bound) (p s.place) refl
      where
        by : (a b c : Bool) → nat_lt s.place bound ≡ b → (if a && b && c then s.place else bound) ≤ bound
        by true true true e = let h = ltb-true s.place bound e in omega (arith, h)
        by true true false e = omega arith
        by true false c e = omega arith
        by false b c e = omega arith

    next_least : (s : Placed) (bound : ℕ) → (s.key == key) ≡ true → p s.place ≡ true → next s bound ≤ s.place
    next_least s bound same e =
        subst (λ a. (if a && nat_lt s.place bound && p s.place then s.place else bound) ≤ s.place) (sym same)
        (subst (λ c. (if nat_lt s.place bound && c then s.place else bound) ≤ s.place) (sym e) (by (nat_lt s.place bound) refl))
      where
        by : (b : Bool) → nat_lt s.place bound ≡ b → (if b && true then s.place else bound) ≤ s.place
        by true is = omega arith
        by false is = let h = ltb-false s.place bound is in omega (arith, h)

    next_passes : (most : ℕ) (s : Placed) (bound : ℕ) → (bound ≡ most) ⊎ (p bound ≡ true) → (next s bound ≡ most) ⊎ (p (next s bound) ≡ true)
    next_passes most s bound e = by (s.key == key) (nat_lt s.place bound) (p s.place) refl
      where
        by : (a b c : Bool) → p s.place ≡ c → ((if a && b && c then s.place else bound) ≡ most) ⊎ (p (if a && b && c then s.place else bound) ≡ true)
        by true true true is = inr is
        by true true false is = e
        by true false c is = e
        by false b c is = e

    least_of_upto : (row : List Placed) (bound : ℕ) → least_of p key row bound ≤ bound
    least_of_upto [] bound = omega arith
    least_of_upto (s ∷ row) bound =
        let here = next_upto s bound in
        let rest = least_of_upto row (next s bound) in
        omega (arith, here, rest)

    least_of_least : (row : List Placed) (bound n : ℕ) → is_placed row key n ≡ true → p n ≡ true → least_of p key row bound ≤ n
    least_of_least [] bound n h e = absurd (cc)
    least_of_least (s ∷ row) bound n h e = by (s.key == key && s.place == n) refl h (λ f. least_of_least row (next s bound) n f e)
      where
        by : (b : Bool) → (s.key == key && s.place == n) ≡ b → (b || is_placed row key n) ≡ true → (is_placed row key n ≡ true → least_of p key row (next s bound) ≤ n) → least_of p key row (next s bound) ≤ n
        by true is h rest =
            let same : s.place ≡ n = eqb-true s.place n (and_parts (s.key == key) (s.place == n) is).1 in
            let here : next s bound ≤ s.place = next_least s bound (and_parts (s.key == key) (s.place == n) is).0 (ap p same ∙ e) in
            let upto = least_of_upto row (next s bound) in
            omega (arith, same, here, upto)
        by false is h rest = rest h

    least_of_passes : (most : ℕ) (row : List Placed) (bound : ℕ) → (bound ≡ most) ⊎ (p bound ≡ true) → (least_of p key row bound ≡ most) ⊎ (p (least_of p key row bound) ≡ true)
    least_of_passes most [] bound e = e
    least_of_passes most (s ∷ row) bound e = least_of_passes most row (next s bound) (next_passes most s bound e)

  module _ (rows : List (List Placed)) where
    least_upto : (keys : List ℕ) (bound : ℕ) → least_under p rows keys bound ≤ bound
    least_upto [] bound = omega arith
    least_upto (key ∷ keys) bound =
        let here = least_of_upto key (row_of rows key) bound in
        let rest = least_upto keys (least_of p key (row_of rows key) bound) in
        omega (arith, here, rest)

    least_is_least : (keys : List ℕ) (bound place : ℕ) → is_under rows keys place ≡ true → p place ≡ true → least_under p rows keys bound ≤ place
    least_is_least [] bound place h e = absurd (cc)
    least_is_least (key ∷ keys) bound place h e = by (is_placed (row_of rows key) key place) refl h (λ f. least_is_least keys (least_of p key (row_of rows key) bound) place f e)
      where
        by : (b : Bool) → is_placed (row_of rows key) key place ≡ b → (b || is_under rows keys place) ≡ true → (is_under rows keys place ≡ true → least_under p rows keys (least_of p key (row_of rows key) bound) ≤ place)
            → least_under p rows keys (least_of p key (row_of rows key) bound) ≤ place
        by true is h rest =
            let here = least_of_least key (row_of rows key) bound place is e in
            let upto = least_upto keys (least_of p key (row_of rows key) bound) in
            omega (arith, here, upto)
        by false is h rest = rest h

    least_passes : (most : ℕ) (keys : List ℕ) (bound : ℕ) → (bound ≡ most) ⊎ (p bound ≡ true) → (least_under p rows keys bound ≡ most) ⊎ (p (least_under p rows keys bound) ≡ true)
    least_passes most [] bound e = e
    least_passes most (key ∷ keys) bound e = least_passes most keys (least_of p key (row_of rows key) bound) (least_of_passes key most (row_of rows key) bound e)

module _ (rows : List (List Placed)) (place : ℕ) where
  under_one : (keys : List ℕ) (key : ℕ) → has_key keys key ≡ true → is_placed (row_of rows key) key place ≡ true → is_under rows keys place ≡ true
  under_one [] key h e = absurd (cc)
  under_one (k ∷ keys) key h e = by (k == key) refl h (λ f. under_one keys key f e)
    where
      by : (b : Bool) → (k == key) ≡ b → (b || has_key keys key) ≡ true → (has_key keys key ≡ true → is_under rows keys place ≡ true) → (is_placed (row_of rows k) k place || is_under rows keys place) ≡ true
      by true is h rest = ap (λ z. is_placed (row_of rows z) z place || is_under rows keys place) (eqb-true k key is) ∙ ap (λ b. b || is_under rows keys place) e
      by false is h rest = or_right (is_placed (row_of rows k) k place) (is_under rows keys place) (rest h)

  -- what stands under one of some numbers stands under one of more
  pub under_more : (keys some : List ℕ) → has_keys keys some ≡ true → is_under rows some place ≡ true → is_under rows keys place ≡ true
  under_more keys [] h e = absurd (cc)
  under_more keys (k ∷ some) h e = by (is_placed (row_of rows k) k place) refl e (under_more keys some (and_parts (has_key keys k) (has_keys keys some) h).1)
    where
      by : (b : Bool) → is_placed (row_of rows k) k place ≡ b → (b || is_under rows some place) ≡ true → (is_under rows some place ≡ true → is_under rows keys place ≡ true) → is_under rows keys place ≡ true
      by true is e rest = under_one keys k (and_parts (has_key keys k) (has_keys keys some) h).0 is
      by false is e rest = rest e

-- the first that passes is the one at the least place
find_at : {X : Type 0} (p : X → Bool) (xs : List X) (r : ℕ) → ((n : ℕ) → passes_at p xs n ≡ true → r ≤ n) → (r ≡ length xs) ⊎ (passes_at p xs r ≡ true) → find p xs ≡ slice_get xs r
find_at p [] zero least e = refl
find_at p [] (suc r) least e = refl
find_at p (x ∷ xs) zero least (inr e) = ap (λ b. cond b (Some x) (find p xs)) e
find_at p (x ∷ xs) zero least (inl e) = absurd (omega (arith, e))
find_at p (x ∷ xs) (suc r) least e = by (p x) refl (find_at p xs r (λ n h. let no : suc r ≤ suc n = least (suc n) h in omega (arith, no)) (shorter e))
  where
    shorter : (suc r ≡ suc (length xs)) ⊎ (passes_at p xs r ≡ true) → (r ≡ length xs) ⊎ (passes_at p xs r ≡ true)
    shorter (inl e) = inl (omega (arith, e))
    shorter (inr e) = inr e

    by : (b : Bool) → p x ≡ b → find p xs ≡ slice_get xs r → cond b (Some x) (find p xs) ≡ slice_get xs r
    by true is rest = let no : suc r ≤ 0 = least 0 is in absurd (omega (arith, no))
    by false is rest = rest

-- among selectors of which those that pass stand under some numbers, the least place under these has the first that passes
pub first_found : {X : Type 0} (p : X → Bool) (xs : List X) (rows : List (List Placed)) (keys : List ℕ) → ((n : ℕ) → passes_at p xs n ≡ true → is_under rows keys n ≡ true)
    → slice_get xs (least_under (passes_at p xs) rows keys (length xs)) ≡ find p xs
first_found p xs rows keys stand =
    sym (find_at p xs (least_under (passes_at p xs) rows keys (length xs)) (λ n h. least_is_least (passes_at p xs) rows keys (length xs) n (stand n h) h)
    (least_passes (passes_at p xs) rows (length xs) keys (length xs) (inl refl)))

-- what stood in a row still does when one more place is put there
has_more : (row : List Placed) (k n : ℕ) (t : Placed) → is_placed row k n ≡ true → is_placed (row ++ t ∷ []) k n ≡ true
has_more [] k n t h = absurd (cc)
has_more (s ∷ row) k n t h = by (s.key == k && s.place == n) h (has_more row k n t)
  where
    by : (b : Bool) → (b || is_placed row k n) ≡ true → (is_placed row k n ≡ true → is_placed (row ++ t ∷ []) k n ≡ true) → (b || is_placed (row ++ t ∷ []) k n) ≡ true
    by true h rest = refl
    by false h rest = rest h

has_last : (row : List Placed) (t : Placed) → is_placed (row ++ t ∷ []) t.key t.place ≡ true
has_last [] t = or_left (t.key == t.key && t.place == t.place) false (and_from (t.key == t.key) (t.place == t.place) (eq-eqb t.key t.key refl) (eq-eqb t.place t.place refl))
has_last (s ∷ row) t = or_right (s.key == t.key && s.place == t.place) (is_placed (row ++ t ∷ []) t.key t.place) (has_last row t)

module _ (rows : List (List Placed)) (key place : ℕ) (room : key % length rows < length rows) where
  abbrev one : Placed
  one = record { key = key; place = place }

  same_rows : length (put_under rows key place) ≡ length rows
  same_rows = length-set rows (key % length rows) (row_of rows key ++ one ∷ [])

  stays_at : (k n : ℕ) → is_placed (row_of rows k) k n ≡ true → is_placed (row_of (put_under rows key place) k) k n ≡ true
  stays_at k n h = ap (λ many. is_placed (get_or (put_under rows key place) (k % many) []) k n) same_rows ∙ by (k % length rows == key % length rows) refl
    where
      by : (b : Bool) → (k % length rows == key % length rows) ≡ b → is_placed (get_or (put_under rows key place) (k % length rows) []) k n ≡ true
      by true is =
          let same : k % length rows ≡ key % length rows = eqb-true _ _ is in
          ap (λ i. is_placed (get_or (put_under rows key place) i []) k n) same
          ∙ ap (λ row. is_placed row k n) (get_or-set_same rows (key % length rows) (row_of rows key ++ one ∷ []) [] room)
          ∙ has_more (row_of rows key) k n one (ap (λ i. is_placed (get_or rows i []) k n) (sym same) ∙ h)
      by false is = ap (λ row. is_placed row k n) (get_or-set_other rows (key % length rows) (k % length rows) (row_of rows key ++ one ∷ []) [] (eqb-false _ _ is)) ∙ h

  pub stays_under : (keys : List ℕ) (n : ℕ) → is_under rows keys n ≡ true → is_under (put_under rows key place) keys n ≡ true
  stays_under [] n h = absurd (cc)
  stays_under (k ∷ keys) n h = by (is_placed (row_of rows k) k n) refl h (stays_under keys n)
    where
      by : (b : Bool) → is_placed (row_of rows k) k n ≡ b → (b || is_under rows keys n) ≡ true → (is_under rows keys n ≡ true → is_under (put_under rows key place) keys n ≡ true)
          → (is_placed (row_of (put_under rows key place) k) k n || is_under (put_under rows key place) keys n) ≡ true
      by true is h rest = or_left (is_placed (row_of (put_under rows key place) k) k n) (is_under (put_under rows key place) keys n) (stays_at k n is)
      by false is h rest = or_right (is_placed (row_of (put_under rows key place) k) k n) (is_under (put_under rows key place) keys n) (rest h)

  put_there : is_placed (row_of (put_under rows key place) key) key place ≡ true
  put_there =
      ap (λ many. is_placed (get_or (put_under rows key place) (key % many) []) key place) same_rows
      ∙ ap (λ row. is_placed row key place) (get_or-set_same rows (key % length rows) (row_of rows key ++ one ∷ []) [] room)
      ∙ has_last (row_of rows key) one

  pub put_stands : (keys : List ℕ) → has_key keys key ≡ true → is_under (put_under rows key place) keys place ≡ true
  put_stands keys h = under_one (put_under rows key place) place keys key h put_there

pub key_at : (keys : List ℕ) (i : ℕ) → i < length keys → has_key keys (get_or keys i 0) ≡ true
key_at [] i h = absurd (omega (arith, h))
key_at (k ∷ keys) zero h = ap (λ b. b || has_key keys k) (eq-eqb k k refl)
key_at (k ∷ keys) (suc i) h = or_right (k == get_or keys i 0) (has_key keys (get_or keys i 0)) (key_at keys i (omega (arith, h)))

module _ (answer : Result ⊤ AllocError) (rows after : List (List Placed)) (key place : ℕ) (some : 0 < length rows) where
  room : key % length rows < length rows
  room = mod_below key (length rows) some

  pub put_keeps_many : OnOk answer (after ≡ put_under rows key place) → OnOk answer (length after ≡ length rows)
  put_keeps_many e = by answer e
    where
      by : (r : Result ⊤ AllocError) → OnOk r (after ≡ put_under rows key place) → OnOk r (length after ≡ length rows)
      by (Ok x) e = ap length e ∙ same_rows rows key place room
      by (Err x) e = tt

  pub put_keeps : OnOk answer (after ≡ put_under rows key place) → OnOk answer ((keys : List ℕ) (n : ℕ) → is_under rows keys n ≡ true → is_under after keys n ≡ true)
  put_keeps e = by answer e
    where
      by : (r : Result ⊤ AllocError) → OnOk r (after ≡ put_under rows key place) → OnOk r ((keys : List ℕ) (n : ℕ) → is_under rows keys n ≡ true → is_under after keys n ≡ true)
      by (Ok x) e = λ keys n h. ap (λ z. is_under z keys n) e ∙ stays_under rows key place room keys n h
      by (Err x) e = tt

  pub put_is_there : (keys : List ℕ) (i : ℕ) → i < length keys → key ≡ get_or keys i 0 → OnOk answer (after ≡ put_under rows key place) → OnOk answer (keys ≢ [] → is_under after keys place ≡ true)
  put_is_there keys i within is e = by answer e
    where
      by : (r : Result ⊤ AllocError) → OnOk r (after ≡ put_under rows key place) → OnOk r (keys ≢ [] → is_under after keys place ≡ true)
      by (Ok x) e = λ more. ap (λ z. is_under z keys place) e ∙ put_stands rows key place room keys (ap (has_key keys) is ∙ key_at keys i within)
      by (Err x) e = tt
