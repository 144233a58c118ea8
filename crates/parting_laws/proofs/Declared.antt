-- Declared labels, and labels of which some are taken out.
use Rattle.std.proofs.Common.{◌≡◌, ◌∙◌, ℕ, Bool, true, false, List, [], ◌∷◌, refl, sym, ap}
use Rattle.std.specs.Prelude.{◌&&◌, ◌||◌, not, unwrap_or, bytes_eq}
use Rattle.std.specs.BTreeMap.{is_at}
use Rattle.std.specs.List.{AllByRecursion}
use Rattle.std.specs.Map.{keys_of}
use Rattle.std.proofs.lemmas.Map.Entries.{lookup-filter-keys}
use Rattle.std.proofs.lemmas.Map.Lookups.{exact_bytes}
use Rattle.std.proofs.lemmas.Slice.Eq.{bytes_eq-Decides}
use Rattle.label_set.specs.Labels.{byte_cmp, is_named, value_of, without}
use Rattle.step_table.specs.Groups.{Names}
use Rattle.parting_laws.specs.Parted.{has_declared}
use Rattle.parting_laws.proofs.Puts.{same_key}

-- a name that isn't taken out keeps its value
pub value_left : (gone : List (List ℕ)) (name : List ℕ) (labels : Names) → is_named gone name ≡ false → value_of (without gone labels) name ≡ value_of labels name
value_left gone name labels e =
    ap (λ o. unwrap_or o [])
    (lookup-filter-keys (is_at (byte_cmp name)) (λ (n : List ℕ). not (is_named gone n)) true
    (λ n h. let same : name ≡ n = same_key byte_cmp exact_bytes name n h in ap (λ (m : List ℕ). not (is_named gone m)) (sym same) ∙ ap not e) labels)

-- declared labels of which none is taken out are had as before
pub declared_left : (gone : List (List ℕ)) (declared labels : Names) → AllByRecursion (λ (name : List ℕ). is_named gone name ≡ false) (keys_of declared) → has_declared declared (without gone labels) ≡ has_declared declared labels
declared_left gone [] labels a = refl
declared_left gone (pair ∷ declared) labels a =
    λ i. bytes_eq (value_left gone pair.0 labels a.0 i) pair.1 && declared_left gone declared labels a.1 i

bytes_turned : (a b : List ℕ) → bytes_eq a b ≡ false → bytes_eq b a ≡ false
bytes_turned a b e = by (bytes_eq b a) refl
  where
    by : (r : Bool) → bytes_eq b a ≡ r → r ≡ false
    by true f = let back : bytes_eq a b ≡ true = (bytes_eq-Decides a b).1 (sym ((bytes_eq-Decides b a).0 f)) in absurd (cc)
    by false f = refl

parts_false : (b c : Bool) → (b || c) ≡ false → (b ≡ false) × (c ≡ false)
parts_false true c e = absurd (cc)
parts_false false c e = (refl, e)

-- a name that isn't among some is taken out without any of these
pub not_among : (name : List ℕ) (names : List (List ℕ)) → is_named names name ≡ false → AllByRecursion (λ (n : List ℕ). is_named (name ∷ []) n ≡ false) names
not_among name [] e = tt
not_among name (n ∷ names) e =
    let both = parts_false (bytes_eq n name) (is_named names name) e in
    (ap (λ b. b || false) (bytes_turned n name both.0), not_among name names both.1)
