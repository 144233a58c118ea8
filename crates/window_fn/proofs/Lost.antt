-- The pairs of neighbours, and what a counter lost at its resets, with one more pair.
use Rattle.std.proofs.Common.{◌≡◌, ◌∙◌, ℕ, ◌+◌, ◌-◌, ◌<◌, ◌≤◌, Bool, true, false, cond, List, [], ◌∷◌, ◌++◌, length, get_or, take, drop, map, filter, refl, sym, ap, arith}
use Rattle.std.proofs.lemmas.List.{take_more, take_all, get_or-drop, length-drop, length-take, map-append, length-map}
use Rattle.std.proofs.lemmas.List.Elements.{filter-append}
use Rattle.std.proofs.lemmas.List.Sums.{length-filter, count_by-le-length}
use Rattle.std.proofs.lemmas.Slice.Zip.{get_or-zip, length-zip}
use Rattle.xfrac.specs.Order.{compares}
use Rattle.xfrac.specs.declared.value.CompareOp.TheVariants.{Lt}
use Rattle.xfrac.specs.declared.value.XFrac.{XFrac}
use Rattle.window_fn.specs.Points.{neighbours}

-- one more pair, where the defaults are never read
pub neighbours-more : (values : List XFrac) (i : ℕ) (d e : XFrac) → 1 ≤ i → i < length values →
    take (i + 1 - 1) (neighbours values) ≡ take (i - 1) (neighbours values) ++ (get_or values (i - 1) d, get_or values i e) ∷ []
neighbours-more values i d e some l =
    let rest : length (drop 1 values) ≡ length values - 1 = length-drop 1 values in
    let next : i + 1 - 1 ≡ i - 1 + 1 = omega arith in
    let behind : 1 + (i - 1) ≡ i = omega arith in
    let pair : get_or (neighbours values) (i - 1) (d, e) ≡ (get_or values (i - 1) d, get_or values i e) =
    get_or-zip values (drop 1 values) (i - 1) (d, e) (omega arith) (omega arith)
    ∙ ap (λ y. (get_or values (i - 1) d, y)) (get_or-drop 1 values (i - 1) e ∙ ap (λ k. get_or values k e) behind) in
    ap (λ k. take k (neighbours values)) next
    ∙ (take_more (neighbours values) (i - 1) (d, e) (omega (arith, length-zip values (drop 1 values)))
    ∙ ap (λ p. take (i - 1) (neighbours values) ++ p ∷ []) pair)

abbrev pub lost_of : List (XFrac × XFrac) → List XFrac
lost_of pairs = map (λ p. p.0) (filter (λ p. compares Lt p.1 p.0) pairs)

one_pair : (b : Bool) (x y : XFrac) → compares Lt y x ≡ b → lost_of ((x, y) ∷ []) ≡ cond b (x ∷ []) []
one_pair true x y e = simp e
one_pair false x y e = simp e

lost-append : (ps qs : List (XFrac × XFrac)) → lost_of (ps ++ qs) ≡ lost_of ps ++ lost_of qs
lost-append ps qs = ap (map (λ p. p.0)) (filter-append (λ p. compares Lt p.1 p.0) ps qs) ∙ map-append (λ p. p.0) (filter (λ p. compares Lt p.1 p.0) ps) _

pub lost-more : (values : List XFrac) (i : ℕ) (x y : XFrac) → 1 ≤ i → i < length values → x ≡ get_or values (i - 1) x → y ≡ get_or values i y →
    lost_of (take (i + 1 - 1) (neighbours values)) ≡ lost_of (take (i - 1) (neighbours values)) ++ cond (compares Lt y x) (x ∷ []) []
lost-more values i x y some l ex ey =
    ap lost_of (neighbours-more values i x y some l)
    ∙ (ap (λ p. lost_of (take (i - 1) (neighbours values) ++ p ∷ [])) (ap (λ a. (a, get_or values i y)) (sym ex) ∙ ap (λ b. (x, b)) (sym ey))
    ∙ (lost-append (take (i - 1) (neighbours values)) ((x, y) ∷ [])
    ∙ ap (λ r. lost_of (take (i - 1) (neighbours values)) ++ r) (one_pair (compares Lt y x) x y refl)))

-- there are fewer pairs than values
pub few_neighbours : (values : List XFrac) (i : ℕ) → length values ≤ i → take (i - 1) (neighbours values) ≡ neighbours values
few_neighbours values i l = take_all (i - 1) (neighbours values) (omega (arith, length-zip values (drop 1 values), length-drop 1 values))

pub length-lost : (pairs : List (XFrac × XFrac)) (k : ℕ) → length (lost_of (take k pairs)) ≤ k
length-lost pairs k =
    omega (arith, length-map (filter (λ p. compares Lt p.1 p.0) (take k pairs)) (λ p. p.0), length-filter (λ p. compares Lt p.1 p.0) (take k pairs), count_by-le-length (λ p. compares Lt p.1 p.0) (take k pairs), length-take k pairs)
