-- Spans that are cut from a value.
use Rattle.std.proofs.Common.{◌≡◌, ℕ, zero, suc, List, [], ◌∷◌, ◌++◌, Option, None, Some, IfSome, sym, subst, length, arith, IsUtf8}
use Rattle.std.specs.Prelude.{OnOk, Result, Ok, Err}
use Rattle.std.proofs.lemmas.Str.{IsCharBoundary-start, IsCharBoundary-end}
use Rattle.regex.specs.Strings.{match_haystack, match_span}
use Rattle.regex.specs.declared.string.matcher.Match.{Match}
use Rattle.match_rule.specs.Patterns.{AreCutFrom, IsCutFrom}

pub none_cut : (value : List ℕ) → AreCutFrom value []
none_cut value k s e = absurd (cc)

tail_cut : (value : List ℕ) (o : Option (ℕ × ℕ)) (spans : List (Option (ℕ × ℕ))) → AreCutFrom value (o ∷ spans) → AreCutFrom value spans
tail_cut value o spans h k s e = h (suc k) s e

one_cut : (value : List ℕ) (o : Option (ℕ × ℕ)) → IfSome o (IsCutFrom value) → (s : ℕ × ℕ) → Some o ≡ Some (Some s) → IsCutFrom value s
one_cut value None h s e = absurd (cc)
one_cut value (Some t) h s e = let same : t ≡ s = cc in subst (λ (x : ℕ × ℕ). IsCutFrom value x) same h

pub cut_more : (value : List ℕ) (spans : List (Option (ℕ × ℕ))) (o : Option (ℕ × ℕ)) → AreCutFrom value spans → IfSome o (IsCutFrom value) → AreCutFrom value (spans ++ o ∷ [])
cut_more value [] o h one zero s e = one_cut value o one s e
cut_more value [] o h one (suc k) s e = absurd (cc)
cut_more value (x ∷ spans) o h one zero s e = h zero s e
cut_more value (x ∷ spans) o h one (suc k) s e = cut_more value spans o (tail_cut value x spans h) one k s e

-- the whole value, alone
pub whole_cut : (value : List ℕ) → IsUtf8 value → AreCutFrom value (Some (0, length value) ∷ [])
whole_cut value utf8 = cut_more value [] (Some (0, length value)) (none_cut value) (omega arith, IsCharBoundary-start value utf8, IsCharBoundary-end value)

-- what a match spans
pub match_cut : (hay : List ℕ) (m : Match) (a b : ℕ) → match_haystack m ≡ hay → a ≡ (match_span m).0 → b ≡ (match_span m).1 → IsCutFrom hay (a, b)
match_cut hay m a b here start end = subst (λ (h : List ℕ). IsCutFrom h (a, b)) here (rw (start, end) (m.ordered, m.starts_cleanly, m.ends_cleanly))

pub on_ok_cut : {A E : Type 0} (r : Result A E) (value : List ℕ) (into spans : List (Option (ℕ × ℕ))) → into ≡ spans → AreCutFrom value spans → OnOk r (AreCutFrom value into)
on_ok_cut (Ok a) value into spans is cut = subst (λ (xs : List (Option (ℕ × ℕ))). AreCutFrom value xs) (sym is) cut
on_ok_cut (Err e) value into spans is cut = record {}
