-- The labels of a grouped pair, name by name.
use Rattle.std.proofs.Common.{◌≡◌, ◌∙◌, ℕ, Bool, true, false, cond, List, [], ◌∷◌, refl, sym, ap, subst, Some, None, Option}
use Rattle.std.specs.Prelude.{is_some, not, unwrap_or, if◌then◌else◌}
use Rattle.std.specs.declared.cmp.Ordering.TheVariants.{Less, Equal, Greater}
use Rattle.std.specs.Ordering.{match_ordering}
use Rattle.std.specs.BTreeMap.{insert_entry, is_at}
use Rattle.std.specs.List.{AllByRecursion}
use Rattle.std.specs.List.Sorted.{IsStrictlySortedBy}
use Rattle.std.specs.Map.{keys_of, lookup}
use Rattle.std.specs.Prelude.{◌≢◌}
use Rattle.std.proofs.lemmas.Map.Lookups.{exact_bytes}
use Rattle.std.proofs.lemmas.Option.{same_Some}
use Rattle.label_set.specs.Labels.{byte_cmp, is_named, keep, put_refusal, value_at, value_of, with_pair, without}
use Rattle.step_table.specs.Groups.{Names}
use Rattle.step_table.specs.Laws.{GroupListTakesOver}
use Rattle.step_table.specs.Operators.{all_put}
use Rattle.step_table.proofs.LoneRows.{equal_from_is}

pub same_name : (name n : List ℕ) → is_at (byte_cmp name) n ≡ true → name ≡ n
same_name name n e = exact_bytes name n (equal_from_is (byte_cmp name n) e)

-- ---- a value that is put

put_same : (m : Bool) (v w : List ℕ) (o : Option (List ℕ)) → cond m (Some v) o ≡ cond m (Some v) (cond m (Some w) o)
put_same true v w o = refl
put_same false v w o = refl

put_apart : (name k n v w : List ℕ) (o : Option (List ℕ)) (b c : Bool) → is_at (byte_cmp name) k ≡ b → is_at (byte_cmp name) n ≡ c → byte_cmp k n ≡ Greater → cond c (Some w) (cond b (Some v) o) ≡ cond b (Some v) (cond c (Some w) o)
put_apart name k n v w o true true e f g =
    let tied : byte_cmp k n ≡ Equal = ap (λ z. byte_cmp z n) (sym (same_name name k e)) ∙ equal_from_is (byte_cmp name n) f in
    absurd (cc)
put_apart name k n v w o true false e f g = refl
put_apart name k n v w o false true e f g = refl
put_apart name k n v w o false false e f g = refl

pub lookup_put : (name k v : List ℕ) (ps : Names) → lookup (is_at (byte_cmp name)) (insert_entry byte_cmp ps k v) ≡ cond (is_at (byte_cmp name) k) (Some v) (lookup (is_at (byte_cmp name)) ps)
lookup_put name k v [] = refl
lookup_put name k v (p ∷ ps) =
    elim (byte_cmp k p.0) as (λ r. byte_cmp k p.0 ≡ r → lookup (is_at (byte_cmp name)) (match_ordering r ((k, v) ∷ p ∷ ps) ((p.0, v) ∷ ps) (p ∷ insert_entry byte_cmp ps k v)) ≡ cond (is_at (byte_cmp name) k) (Some v) (cond (is_at (byte_cmp name) p.0) (Some p.1) (lookup (is_at (byte_cmp name)) ps))) [
      | Less ↦ λ h. refl
      | Equal ↦ λ h.
          let same : k ≡ p.0 = exact_bytes k p.0 h in
          put_same (is_at (byte_cmp name) p.0) v p.1 (lookup (is_at (byte_cmp name)) ps) ∙ ap (λ z. cond (is_at (byte_cmp name) z) (Some v) (cond (is_at (byte_cmp name) p.0) (Some p.1) (lookup (is_at (byte_cmp name)) ps))) (sym same)
      | Greater ↦ λ h.
          ap (λ o. cond (is_at (byte_cmp name) p.0) (Some p.1) o) (lookup_put name k v ps) ∙ put_apart name k p.0 v p.1 (lookup (is_at (byte_cmp name)) ps) (is_at (byte_cmp name) k) (is_at (byte_cmp name) p.0) refl refl h
    ] refl

none_past : (name : List ℕ) (ps : Names) → AllByRecursion (λ k. byte_cmp name k ≡ Less) (keys_of ps) → lookup (is_at (byte_cmp name)) ps ≡ None
none_past name [] a = refl
none_past name (p ∷ ps) a = rw a.0 (none_past name ps a.1)

-- ---- what is taken of two values

-- the value of a listed name where it is found, and else what was there
abbrev taken : Bool → Option (List ℕ) → List ℕ → List ℕ
taken true (Some v) w = v
taken true None w = w
taken false o w = w

nothing_taken : (b : Bool) (w : List ℕ) → w ≡ taken b None w
nothing_taken true w = refl
nothing_taken false w = refl

not_taken : (b : Bool) (o : Option (List ℕ)) (w : List ℕ) → b ≡ false → taken b o w ≡ w
not_taken true o w e = absurd (cc)
not_taken false o w e = refl

is_taken : (b : Bool) (v w : List ℕ) → b ≡ true → taken b (Some v) w ≡ v
is_taken true v w e = refl
is_taken false v w e = absurd (cc)

put_goes_on : (b : Bool) (o : Option Names) (labels : Names) → (if b then None else o) ≡ Some labels → o ≡ Some labels
put_goes_on true o labels e = absurd (cc)
put_goes_on false o labels e = e

over_left : (b : Bool) (o : Option (List ℕ)) (w : List ℕ) → taken b o (if b then [] else w) ≡ (if b then unwrap_or o [] else w)
over_left true None w = refl
over_left true (Some v) w = refl
over_left false o w = refl

abbrev empty : List ℕ
empty = []

none_if : (b : Bool) → empty ≡ (if b then empty else empty)
none_if true = refl
none_if false = refl

module _ (extra : List (List ℕ)) (name : List ℕ) where
  -- ---- what is left of the many side

  left_by : (n v : List ℕ) (ps : Names) (b m : Bool) → is_named extra n ≡ b → is_at (byte_cmp name) n ≡ m → value_of (without extra ps) name ≡ (if is_named extra name then [] else value_of ps name)
      → value_of (cond (not b) ((n, v) ∷ without extra ps) (without extra ps)) name ≡ (if is_named extra name then [] else unwrap_or (cond m (Some v) (value_at ps name)) [])
  left_by n v ps true true e f h = let g : is_named extra name ≡ true = ap (is_named extra) (same_name name n f) ∙ e in rw g (rw g at h)
  left_by n v ps true false e f h = h
  left_by n v ps false true e f h = let g : is_named extra name ≡ false = ap (is_named extra) (same_name name n f) ∙ e in rw (f, g) refl
  left_by n v ps false false e f h = rw f h

  left_over : (many : Names) → value_of (without extra many) name ≡ (if is_named extra name then [] else value_of many name)
  left_over [] = none_if (is_named extra name)
  left_over (p ∷ many) = left_by p.0 p.1 many (is_named extra p.0) (is_at (byte_cmp name) p.0) refl refl (left_over many)

  -- ---- what is taken over

  -- a name that isn't listed
  unlisted : (n v : List ℕ) (o : Option (List ℕ)) (w : List ℕ) (m : Bool) → is_named extra n ≡ false → is_at (byte_cmp name) n ≡ m → taken (is_named extra name) o w ≡ taken (is_named extra name) (cond m (Some v) o) w
  unlisted n v o w true e f = let g : is_named extra name ≡ false = ap (is_named extra) (same_name name n f) ∙ e in not_taken (is_named extra name) o w g ∙ sym (not_taken (is_named extra name) (Some v) w g)
  unlisted n v o w false e f = refl

  -- a name that is listed
  listed : (n v : List ℕ) (o b : Option (List ℕ)) (m : Bool) → is_named extra n ≡ true → is_at (byte_cmp name) n ≡ m → (name ≡ n → o ≡ None) → taken (is_named extra name) o (unwrap_or (cond m (Some v) b) []) ≡ taken (is_named extra name) (cond m (Some v) o) (unwrap_or b [])
  listed n v o b true e f absent =
      let same : name ≡ n = same_name name n f in
      ap (λ z. taken (is_named extra name) z v) (absent same) ∙ sym (nothing_taken (is_named extra name) v) ∙ sym (is_taken (is_named extra name) v (unwrap_or b []) (ap (is_named extra) same ∙ e))
  listed n v o b false e f absent = refl

  put_value : (base : Names) (n v : List ℕ) → v ≢ [] → value_of (with_pair base n v) name ≡ unwrap_or (cond (is_at (byte_cmp name) n) (Some v) (value_at base name)) []
  put_value base n [] some = absurd (some refl)
  put_value base n (c ∷ v) some = ap (λ o. unwrap_or o []) (lookup_put name n (c ∷ v) base)

  taken_over : (one base labels : Names) → AllByRecursion (λ p. p.1 ≢ []) one → IsStrictlySortedBy byte_cmp (keys_of one) → all_put base (keep extra one) ≡ Some labels → value_of labels name ≡ taken (is_named extra name) (value_at one name) (value_of base name)
  unfolding IsStrictlySortedBy
  taken_over [] base labels filled s e = ap (λ l. value_of l name) (sym (same_Some base labels e)) ∙ nothing_taken (is_named extra name) (value_of base name)
  taken_over (p ∷ one) base labels filled s e =
      elim (is_named extra p.0) as (λ b. is_named extra p.0 ≡ b → all_put base (cond b (p ∷ keep extra one) (keep extra one)) ≡ Some labels → value_of labels name ≡ taken (is_named extra name) (value_at (p ∷ one) name) (value_of base name)) [
        | true ↦ λ h f.
            taken_over one (with_pair base p.0 p.1) labels filled.1 s.1 (put_goes_on (is_some (put_refusal base p.0 p.1)) (all_put (with_pair base p.0 p.1) (keep extra one)) labels f)
            ∙ ap (taken (is_named extra name) (value_at one name)) (put_value base p.0 p.1 filled.0)
            ∙ listed p.0 p.1 (value_at one name) (value_at base name) (is_at (byte_cmp name) p.0) h refl
            (λ same. none_past name one (subst (λ z. AllByRecursion (λ k. byte_cmp z k ≡ Less) (keys_of one)) (sym same) s.0))
        | false ↦ λ h f. taken_over one base labels filled.1 s.1 f ∙ unlisted p.0 p.1 (value_at one name) (value_of base name) (is_at (byte_cmp name) p.0) h refl
      ] refl e

pub group_list_taken_over : GroupListTakesOver
group_list_taken_over extra many one labels name set e =
    taken_over extra name one (without extra many) labels set.filled set.ordered e
    ∙ ap (taken (is_named extra name) (value_at one name)) (left_over extra name many)
    ∙ over_left (is_named extra name) (value_at one name) (value_of many name)
