-- One more name whose pair is marked, and one more pair that is chosen by its mark.
use Rattle.std.proofs.Common.{◌≡◌, ◌<◌, ◌≤◌, ◌⊎◌, ℕ, Bool, true, false, not, List, [], ◌∷◌, ◌++◌, ◌||◌, Option, None, Some, length, slice_get, refl, sym, ap, subst, ◌∙◌, zero, suc, inl, inr, eq-or-lt_of_le, if◌then◌else◌, arith}
use mathlib.Core.Bool.{beq}
use Rattle.std.specs.Prelude.{bytes_eq}
use Rattle.std.specs.BTreeMap.{is_at}
use Rattle.std.specs.Cmp.Lexicographic.{nat_list_cmp_total}
use Rattle.std.specs.Option.{option_map}
use Rattle.std.specs.Ordering.{is_eq}
use Rattle.std.specs.declared.cmp.Ordering.TheVariants.{Less, Equal}
use Rattle.std.proofs.Math.ListN.{replicate, set}
use Rattle.std.proofs.lemmas.Bool.{cases_eq}
use Rattle.std.proofs.lemmas.Cmp.{tied_itself}
use Rattle.std.proofs.lemmas.Option.{slice_get_within}
use Rattle.std.proofs.lemmas.List.{get_or-replicate, get_or-set_same, get_or-set_other}
use Rattle.std.proofs.lemmas.List.Folds.{list_any-append}
use Rattle.label_set.specs.Labels.{IsLabelSet, IsMarked, byte_cmp, is_named, value_at}
use Rattle.label_set.specs.Entries.{later_key}
use Rattle.label_set.proofs.LabelLemmas.{byte_cmp_equal, is_named_one}

or_true : (b : Bool) → (b || true) ≡ true
or_true true = refl
or_true false = refl

or_false : (b : Bool) → (b || false) ≡ b
or_false true = refl
or_false false = refl

-- the name that comes last is another one
is_named_other : (names : List (List ℕ)) (name x : List ℕ) → is_named (name ∷ []) x ≡ false → is_named (names ++ name ∷ []) x ≡ is_named names x
is_named_other names name x e = list_any-append (λ n. bytes_eq n x) names (name ∷ []) ∙ ap (λ b. is_named names x || b) e ∙ or_false (is_named names x)

-- the name that comes last is this one
is_named_last : (names : List (List ℕ)) (name x : List ℕ) → is_named (name ∷ []) x ≡ true → is_named (names ++ name ∷ []) x ≡ true
is_named_last names name x e = list_any-append (λ n. bytes_eq n x) names (name ∷ []) ∙ ap (λ b. is_named names x || b) e ∙ or_true (is_named names x)

-- names apart in their order are two
not_named : (name x : List ℕ) → (byte_cmp name x ≡ Equal → ⊥) → is_named (name ∷ []) x ≡ false
not_named name x apart = is_named_one name x ∙ by_order (byte_cmp name x) refl
  where
    by_order : (o : _) → byte_cmp name x ≡ o → is_eq o ≡ false
    by_order Less e = refl
    by_order Equal e = absurd (apart e)
    by_order _ e = refl

less_apart : (x y : List ℕ) → byte_cmp x y ≡ Less → y ≡ x → ⊥
less_apart x y less same = let tie = tied_itself nat_list_cmp_total x in let l : byte_cmp x x ≡ Less = subst (λ z. byte_cmp x z ≡ Less) same less in cc

missing_rest : (q : List ℕ × List ℕ) (qs : List (List ℕ × List ℕ)) (name : List ℕ) → value_at (q ∷ qs) name ≡ None → (is_at (byte_cmp name) q.0 ≡ false) × (value_at qs name ≡ None)
missing_rest q qs name e = go (is_at (byte_cmp name) q.0) refl
  where
    go : (b : Bool) → is_at (byte_cmp name) q.0 ≡ b → (is_at (byte_cmp name) q.0 ≡ false) × (value_at qs name ≡ None)
    go true t = absurd (let no : Some q.1 ≡ None = rw t at e in cc)
    go false t = (t, rw t at e)

-- where a name is missing, no pair has it
absent : (qs : List (List ℕ × List ℕ)) (name : List ℕ) (j : ℕ) (p : List ℕ × List ℕ) → value_at qs name ≡ None → slice_get qs j ≡ Some p → is_at (byte_cmp name) p.0 ≡ false
absent [] name j p none g = absurd (cc)
absent (q ∷ qs) name zero p none g =
    let same : q ≡ p = cc in
    subst (λ (r : List ℕ × List ℕ). is_at (byte_cmp name) r.0 ≡ false) same (missing_rest q qs name none).0
absent (q ∷ qs) name (suc j) p none g = absent qs name j p (missing_rest q qs name none).1 g

lt_or_le : (j i : ℕ) → (j < i) ⊎ (i ≤ j)
lt_or_le j zero = inr (omega arith)
lt_or_le zero (suc i) = inl (omega arith)
lt_or_le (suc j) (suc i) = elim (lt_or_le j i) [ inl less ↦ inl (omega arith) | inr from ↦ inr (omega arith) ]

-- two places have two names
apart : (ps : List (List ℕ × List ℕ)) → IsLabelSet ps → (i j : ℕ) (a p : List ℕ × List ℕ) → (j ≡ i → ⊥) → slice_get ps i ≡ Some a → slice_get ps j ≡ Some p → p.0 ≡ a.0 → ⊥
apart ps h i j a p other at g same = elim (lt_or_le j i) [
  | inl before ↦ less_apart p.0 a.0 (later_key byte_cmp ps j i p a h.ordered before g at) (sym same)
  | inr from ↦ elim (eq-or-lt_of_le from) [
    | inl equal ↦ other (sym equal)
    | inr after ↦ less_apart a.0 p.0 (later_key byte_cmp ps i j a p h.ordered after at g) same
  ]
]

-- at first nothing is marked
pub marked-nothing : (ps : List (List ℕ × List ℕ)) → IsLabelSet ps → IsMarked [] ps (replicate 64 false)
marked-nothing ps h = record {
  at = λ j p g. get_or-replicate 64 j false false (let w : j < length ps = slice_get_within ps j p g in let few : length ps ≤ 64 = h.few in omega arith);
}

module _ (ps : List (List ℕ × List ℕ)) (names : List (List ℕ)) (name : List ℕ) (marks : List Bool) where
  pub marked-missing : value_at ps name ≡ None → IsMarked names ps marks → IsMarked (names ++ name ∷ []) ps marks
  marked-missing none m = record { at = λ j p g. m.at j p g ∙ sym (is_named_other names name p.0 (is_named_one name p.0 ∙ absent ps name j p none g)) }

  pub marked-found : IsLabelSet ps → (i : ℕ) → i < length marks → (a : List ℕ × List ℕ) → slice_get ps i ≡ Some a → a.0 ≡ name
      → IsMarked names ps marks → IsMarked (names ++ name ∷ []) ps (set marks i true)
  marked-found h i w a at is m = record {
    at = λ j p g. elim (cases_eq j i) [
      | inl same ↦
          let here : p ≡ a = (let there : slice_get ps i ≡ Some p = subst (λ k. slice_get ps k ≡ Some p) same g in cc) in
          let named : is_named (name ∷ []) p.0 ≡ true = rw (here, is) (is_named_one name name ∙ ap is_eq (tied_itself nat_list_cmp_total name)) in
          rw same (get_or-set_same marks i true false w ∙ sym (is_named_last names name p.0 named))
      | inr other ↦
          let two : is_named (name ∷ []) p.0 ≡ false = not_named name p.0 (λ tie. apart ps h i j a p other at g (byte_cmp_equal name p.0 tie ∙ sym is)) in
          get_or-set_other marks i j true false other ∙ m.at j p g ∙ sym (is_named_other names name p.0 two)
    ];
  }

-- the choice of a name by its mark
pub chosen-is : (listed marked r : Bool) → beq marked listed ≡ r → (if listed then marked else not marked) ≡ r
chosen-is true true r e = e
chosen-is true false r e = e
chosen-is false true r e = e
chosen-is false false r e = e

module _ (ps : List (List ℕ × List ℕ)) (names : List (List ℕ)) (name : List ℕ) (marks : List Bool) where
  pub marked-there : IsLabelSet ps → (i : ℕ) → i < length marks → option_map (λ p. p.0) (slice_get ps i) ≡ Some name
      → IsMarked names ps marks → IsMarked (names ++ name ∷ []) ps (set marks i true)
  marked-there h i w key m = by_pair (slice_get ps i) refl
    where
      by_pair : (o : Option (List ℕ × List ℕ)) → slice_get ps i ≡ o → IsMarked (names ++ name ∷ []) ps (set marks i true)
      by_pair None e = absurd (let no : None ≡ Some name = rw e at key in cc)
      by_pair (Some a) e = marked-found ps names name marks h i w a e (let is : Some a.0 ≡ Some name = rw e at key in cc) m
