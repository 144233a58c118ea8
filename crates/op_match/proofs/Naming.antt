-- Labels that are fed, with the numbers of their signatures.
use Rattle.std.proofs.Common.{◌≡◌, ◌∙◌, ◌<◌, ◌≤◌, ◌+◌, ℕ, zero, suc, arith, List, [], ◌∷◌, ◌++◌, length, take, refl, sym, ap, subst, Some}
use Rattle.std.specs.Option.{option_map}
use Rattle.std.specs.Prelude.{slice_get}
use Rattle.std.proofs.Math.ListN.{set}
use Rattle.label_set.specs.Labels.{signature}
use Rattle.label_set.specs.declared.rules.Pairing.{Pairing}
use Rattle.step_table.specs.Groups.{Names}
use Rattle.op_match.specs.Places.{IsNumbered, Stays, names_fed}
use Rattle.op_match.specs.declared.sides.Fed.{Fed}
use Rattle.op_match.proofs.Lists.{each_more, each_set, stays_more, from_front, whole}

abbrev HasNumber : List Names → Pairing → Fed → Type 0
HasNumber set p f = slice_get set f.number ≡ Some (signature p.on p.names f.labels)

pub has_number : (set : List Names) (p : Pairing) (f : Fed) (names : Names) → f.labels ≡ names → slice_get set f.number ≡ Some (signature p.on p.names names) → HasNumber set p f
has_number set p f names e h = h ∙ ap (λ (n : Names). Some (signature p.on p.names n)) (sym e)

pub numbered_kept : (before after : List Names) (p : Pairing) (side : List Fed) → Stays before after → IsNumbered before p side → IsNumbered after p side
numbered_kept before after p side k h i f e = k f.number (signature p.on p.names f.labels) (h i f e)

pub numbered_more : (before after : List Names) (p : Pairing) (side : List Fed) (f : Fed) → Stays before after → HasNumber after p f → IsNumbered before p side → IsNumbered after p (side ++ f ∷ [])
numbered_more before after p side f k h n = each_more (HasNumber after p) side f (numbered_kept before after p side k n) h

pub numbered_set : (before after : List Names) (p : Pairing) (side : List Fed) (i : ℕ) (f : Fed) → Stays before after → HasNumber after p f → IsNumbered before p side → IsNumbered after p (set side i f)
numbered_set before after p side i f k h n = each_set (λ (j : ℕ) (g : Fed). HasNumber after p g) side i f (numbered_kept before after p side k n) h

-- ---- the labels in front

pub names_count : (side : List Fed) → length (names_fed side) ≡ length side
names_count [] = refl
names_count (f ∷ side) = ap suc (names_count side)

pub fed_more : (side : List Fed) (f : Fed) (i : ℕ) (names : Names) → i ≡ length side → f.labels ≡ names → take (i + 1) (names_fed (side ++ f ∷ [])) ≡ take i (names_fed side) ++ names ∷ []
fed_more [] f zero names e n = ap (λ (m : Names). m ∷ []) n
fed_more [] f (suc i) names e n = absurd (cc)
fed_more (g ∷ side) f zero names e n = absurd (cc)
fed_more (g ∷ side) f (suc i) names e n = let l : suc i + 1 ≡ suc (i + 1) = omega arith in let m : i ≡ length side = omega arith in rw l (ap (λ (ns : List Names). g.labels ∷ ns) (fed_more side f i names m n))

pub fed_set : (side : List Fed) (f : Fed) (i : ℕ) (names : Names) → i < length side → f.labels ≡ names → take (i + 1) (names_fed (set side i f)) ≡ take i (names_fed side) ++ names ∷ []
fed_set [] f i names l n = absurd (omega arith)
fed_set (g ∷ side) f zero names l n = ap (λ (m : Names). m ∷ []) n
fed_set (g ∷ side) f (suc i) names l n = let e : suc i + 1 ≡ suc (i + 1) = omega arith in rw e (ap (λ (ns : List Names). g.labels ∷ ns) (fed_set side f i names (omega arith) n))

pub fed_same : (side : List Fed) (i : ℕ) (names : Names) → option_map (λ (f : Fed). f.labels) (slice_get side i) ≡ Some names → take (i + 1) (names_fed side) ≡ take i (names_fed side) ++ names ∷ []
fed_same [] i names n = absurd (cc)
fed_same (g ∷ side) zero names n = let same : g.labels ≡ names = cc in ap (λ (m : Names). m ∷ []) same
fed_same (g ∷ side) (suc i) names n = let e : suc i + 1 ≡ suc (i + 1) = omega arith in rw e (ap (λ (ns : List Names). g.labels ∷ ns) (fed_same side i names n))

pub fed_stays : (side : List Fed) (f : Fed) → Stays (names_fed side) (names_fed (side ++ f ∷ []))
fed_stays side f j names e = subst (λ (ns : List Names). slice_get ns j ≡ Some names) (sym (more side)) (stays_more (names_fed side) f.labels j names e)
  where
    more : (side : List Fed) → names_fed (side ++ f ∷ []) ≡ names_fed side ++ f.labels ∷ []
    more [] = refl
    more (g ∷ side) = ap (λ (ns : List Names). g.labels ∷ ns) (more side)

-- the labels that are fed are a front
pub front_stays : (labels : List Names) (side : List Fed) (i : ℕ) → length labels ≤ i → take i (names_fed side) ≡ take i labels → Stays labels (names_fed side)
front_stays labels side i l e j names h = from_front i (names_fed side) j names (subst (λ (ns : List Names). slice_get ns j ≡ Some names) (sym (e ∙ whole labels i l)) h)
