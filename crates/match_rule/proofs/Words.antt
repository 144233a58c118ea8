-- A word stands in a text, as std's search says.
use Rattle.std.proofs.Common.{◌≡◌, ℕ, Bool, true, false, List, [], ◌∷◌, ◌++◌, ◌&&◌, ◌||◌, ◌==◌, refl, sym, ap, subst}
use Rattle.std.specs.Prelude.{◌⊎◌, MatchBool, None}
use Rattle.std.proofs.Common.{inl, inr}
use Rattle.std.specs.Str.Iter.{HasSubslice}
use Rattle.std.specs.Str.Pattern.{FindsText, HasMatch}
use Rattle.std.proofs.lemmas.Str.Pattern.{contains_text}
use Rattle.std.proofs.lemmas.Bool.Decides.{Decides-eqb}
use Rattle.match_rule.specs.Patterns.{begins_with, stands_in}

both : (a b : Bool) → (a && b) ≡ true → (a ≡ true) × (b ≡ true)
both true b e = (refl, e)
both false b e = absurd (cc)

either : (a b : Bool) → (a || b) ≡ true → (a ≡ true) ⊎ (b ≡ true)
either true b e = inl refl
either false b e = inr e

or_right : (a b : Bool) → b ≡ true → (a || b) ≡ true
or_right true b e = refl
or_right false b e = e

begins_split : (word text : List ℕ) → begins_with word text ≡ true → (b : List ℕ) × (text ≡ word ++ b)
begins_split [] text e = (text, refl)
begins_split (w ∷ word) [] e = absurd (cc)
begins_split (w ∷ word) (c ∷ text) e =
    let parts = both (w == c) (begins_with word text) e in
    let same : w ≡ c = (Decides-eqb w c).0 parts.0 in
    let rest = begins_split word text parts.1 in
    (rest.0, λ i. sym same i ∷ rest.1 i)

split_begins : (word b : List ℕ) → begins_with word (word ++ b) ≡ true
split_begins [] b = refl
split_begins (w ∷ word) b = let same : (w == w) ≡ true = (Decides-eqb w w).1 refl in rw same (split_begins word b)

stands_split : (word text : List ℕ) → stands_in word text ≡ true → HasSubslice text word
stands_split word [] e = let s = begins_split word [] e in ([], s.0, s.1)
stands_split word (c ∷ text) e = by (either (begins_with word (c ∷ text)) (stands_in word text) e) (stands_split word text)
  where
    by : (begins_with word (c ∷ text) ≡ true) ⊎ (stands_in word text ≡ true) → (stands_in word text ≡ true → HasSubslice text word) → HasSubslice (c ∷ text) word
    by (inl here) later = let s = begins_split word (c ∷ text) here in ([], s.0, s.1)
    by (inr behind) later = let s = later behind in (c ∷ s.0, s.1, ap (λ (z : List ℕ). c ∷ z) s.2)

front_stands : (word text : List ℕ) → begins_with word text ≡ true → stands_in word text ≡ true
front_stands word [] e = e
front_stands word (c ∷ text) e = rw e refl

split_stands : (word a b : List ℕ) → stands_in word (a ++ (word ++ b)) ≡ true
split_stands word [] b = front_stands word (word ++ b) (split_begins word b)
split_stands word (x ∷ a) b = or_right (begins_with word (x ∷ (a ++ (word ++ b)))) (stands_in word (a ++ (word ++ b))) (split_stands word a b)

alike : (r s : Bool) → (r ≡ true → s ≡ true) → (s ≡ true → r ≡ true) → r ≡ s
alike true s f g = sym (f refl)
alike false true f g = g refl
alike false false f g = refl

pub contained : (r : Bool) (word text : List ℕ) → MatchBool r (HasMatch (FindsText word) text) (FindsText word text None) → r ≡ stands_in word text
contained r word text h =
    let told = contains_text r word text h in
    alike r (stands_in word text)
    (λ e. let s = told.0 e in subst (λ (z : List ℕ). stands_in word z ≡ true) (sym s.2) (split_stands word s.0 s.1))
    (λ e. told.1 (stands_split word text e))
