-- Labels and what they are matched by: without the metric's name they tell the labels, where the name is told.
use Rattle.std.proofs.Common.{◌≡◌, ◌∙◌, ℕ, List, [], ◌∷◌, ap, ap₂, sym, refl, subst, Some, None, Bool, true, false, cond}
use Rattle.std.specs.Prelude.{◌||◌, ◌&&◌, bytes_eq, unwrap_or}
use Rattle.std.specs.List.{AllByRecursion}
use Rattle.std.specs.List.Sorted.{IsStrictlySortedBy}
use Rattle.std.specs.BTreeMap.{insert_entry, is_at}
use Rattle.std.specs.Map.{keys_of}
use Rattle.std.specs.Ordering.{is_eq}
use Rattle.std.specs.Cmp.Lexicographic.{nat_list_cmp_total}
use Rattle.std.specs.declared.cmp.Ordering.{Ordering}
use Rattle.std.specs.declared.cmp.Ordering.TheVariants.{Less, Equal, Greater}
use Rattle.std.proofs.lemmas.Map.Text.{is_eq-slice_cmp}
use Rattle.std.proofs.lemmas.Slice.Eq.{bytes_eq-Decides}
use Rattle.label_set.specs.Entries.{recursion_map}
use Rattle.label_set.specs.Labels.{IsLabelSet, byte_cmp, is_named, value_at, without}
use Rattle.label_set.specs.declared.rules.Rule.{Rule}
use Rattle.match_rule.specs.Patterns.{kind_passes, labels_pass}
use Rattle.step_table.specs.Groups.{Names}

-- the name's place among sorted names
named_by : (n k : List ℕ) → is_named (n ∷ []) k ≡ is_eq (byte_cmp n k)
named_by n k = or_nothing (bytes_eq n k) ∙ sym (is_eq-slice_cmp n k)
  where
    or_nothing : (b : Bool) → (b || false) ≡ b
    or_nothing true = refl
    or_nothing false = refl

same_name : (n k : List ℕ) → byte_cmp n k ≡ Equal → n ≡ k
same_name n k e = (bytes_eq-Decides n k).0 (sym (is_eq-slice_cmp n k) ∙ ap is_eq e)

module _ (n : List ℕ) where
  abbrev rest_of : Names → Names
  rest_of ps = without (n ∷ []) ps

  none_named : (ps : Names) → AllByRecursion (λ k. byte_cmp n k ≡ Less) (keys_of ps) → rest_of ps ≡ ps
  none_named [] a = refl
  none_named (p ∷ ps) a = rw (named_by n p.0) (rw a.0 (ap (λ more. p ∷ more) (none_named ps a.1)))

  none_found : (ps : Names) → AllByRecursion (λ k. byte_cmp n k ≡ Less) (keys_of ps) → value_at ps n ≡ None
  none_found [] a = refl
  none_found (p ∷ ps) a = rw a.0 (none_found ps a.1)

  before_all : (v : List ℕ) (ps : Names) → AllByRecursion (λ k. byte_cmp n k ≡ Less) (keys_of ps) → insert_entry byte_cmp ps n v ≡ (n, v) ∷ ps
  before_all v [] a = refl
  before_all v (p ∷ ps) a = rw a.0 refl

  put_back : (v : List ℕ) (ps : Names) → IsStrictlySortedBy byte_cmp (keys_of ps) → value_at ps n ≡ Some v → insert_entry byte_cmp (rest_of ps) n v ≡ ps
  unfolding IsStrictlySortedBy
  put_back v [] s found = absurd (cc)
  put_back v (p ∷ ps) s found = by (byte_cmp n p.0) refl (put_back v ps s.1)
    where
      later : byte_cmp n p.0 ≡ Less → AllByRecursion (λ k. byte_cmp n k ≡ Less) (keys_of ps)
      later is = recursion_map (λ k. byte_cmp p.0 k ≡ Less) (λ k. byte_cmp n k ≡ Less) (λ k l. nat_list_cmp_total.trans n p.0 k is l) (keys_of ps) s.0

      by : (o : Ordering) → byte_cmp n p.0 ≡ o → (value_at ps n ≡ Some v → insert_entry byte_cmp (rest_of ps) n v ≡ ps) → insert_entry byte_cmp (rest_of (p ∷ ps)) n v ≡ p ∷ ps
      by Equal is rest =
          let e = same_name n p.0 is in
          let value : Some p.1 ≡ Some v = ap (λ o. cond (is_eq o) (Some p.1) (value_at ps n)) (sym is) ∙ found in
          let same : p.1 ≡ v = cc in
          let behind = subst (λ z. AllByRecursion (λ k. byte_cmp z k ≡ Less) (keys_of ps)) (sym e) s.0 in
          rw (named_by n p.0) (rw is (ap (λ z. insert_entry byte_cmp z n v) (none_named ps behind) ∙ before_all v ps behind ∙ ap₂ (λ a b. (a, b) ∷ ps) e (sym same)))
      by Greater is rest =
          let value : value_at ps n ≡ Some v = ap (λ o. cond (is_eq o) (Some p.1) (value_at ps n)) (sym is) ∙ found in
          rw (named_by n p.0) (rw is (rw is (ap (λ more. p ∷ more) (rest value))))
      by Less is rest = let none = none_found (p ∷ ps) (is, later is) in absurd (cc)

  -- the values of other labels stay
  other_value : (k : List ℕ) → is_at (byte_cmp k) n ≡ false → (ps : Names) → value_at (rest_of ps) k ≡ value_at ps k
  other_value k apart [] = refl
  other_value k apart (p ∷ ps) = by (byte_cmp n p.0) refl (other_value k apart ps)
    where
      by : (o : Ordering) → byte_cmp n p.0 ≡ o → value_at (rest_of ps) k ≡ value_at ps k → value_at (rest_of (p ∷ ps)) k ≡ value_at (p ∷ ps) k
      by Equal is rest = rw (named_by n p.0) (rw is (rest ∙ sym (ap (λ b. cond b (Some p.1) (value_at ps k)) (ap (λ z. is_at (byte_cmp k) z) (sym (same_name n p.0 is)) ∙ apart))))
      by Less is rest = rw (named_by n p.0) (rw is (ap (λ o. cond (is_at (byte_cmp k) p.0) (Some p.1) o) rest))
      by Greater is rest = rw (named_by n p.0) (rw is (ap (λ o. cond (is_at (byte_cmp k) p.0) (Some p.1) o) rest))

  pub same_labels : (v : List ℕ) (ps qs : Names) → IsLabelSet ps → IsLabelSet qs → value_at ps n ≡ Some v → value_at qs n ≡ Some v → rest_of ps ≡ rest_of qs → ps ≡ qs
  same_labels v ps qs a b x y e = sym (put_back v ps a.ordered x) ∙ ap (λ z. insert_entry byte_cmp z n v) e ∙ put_back v qs b.ordered y

  pub pass_same : (kept : List (Bool × List ℕ)) (rules : List Rule) (ps qs : Names) → AllByRecursion (λ (rule : Rule). is_at (byte_cmp rule.label) n ≡ false) rules → rest_of ps ≡ rest_of qs
      → labels_pass kept rules ps ≡ labels_pass kept rules qs
  pass_same kept [] ps qs a e = refl
  pass_same kept (rule ∷ rules) ps qs a e =
      ap₂ (λ x y. kind_passes kept rule.kind (unwrap_or x []) && y) (sym (other_value rule.label a.0 ps) ∙ ap (λ z. value_at z rule.label) e ∙ other_value rule.label a.0 qs)
      (pass_same kept rules ps qs a.1 e)
