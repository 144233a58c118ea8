-- Spans stay in a text that grows and cut out of it what they cut before; and where a new pair goes.
use Rattle.std.proofs.Common.{◌≡◌, ◌≤◌, ◌-◌, ℕ, List, [], ◌∷◌, ◌++◌, length, map, take, drop, get_or, refl, sym, subst, ap, ◌∙◌, inl, inr, eq-or-lt_of_le, arith, length-append, length-drop}
use Rattle.std.specs.Prelude.{IsUtf8, IsCharBoundary, slice_range, insert, Result, Err, is_ok, if◌then◌else◌}
use Rattle.std.specs.List.{All}
use Rattle.std.proofs.lemmas.List.{get_or_append_left, take-append-le, drop-append-le, drop_at, take_all, take-map, drop-map, map-append}
use Rattle.std.proofs.lemmas.List.Elements.{All-append, All-cons, All-drop, All-head, All-tail, All-take, All-weaker}
use Rattle.std.proofs.lemmas.Str.{IsCharBoundary-at_seam, IsCharBoundary-end}
use Rattle.label_set.specs.declared.pairs.Span.{Span}
use Rattle.label_set.specs.Spans.{IsSpanIn, pair_in}

boundary_grown : (text more : List ℕ) (i : ℕ) → IsUtf8 more → IsCharBoundary text i → IsCharBoundary (text ++ more) i
boundary_grown text more i u h = elim (eq-or-lt_of_le h.0) [
  | inl same ↦ subst (IsCharBoundary (text ++ more)) (sym same) (IsCharBoundary-at_seam (text ++ more) text more refl u)
  | inr less ↦
      let e : get_or (text ++ more) i 0 ≡ get_or text i 0 = get_or_append_left text more 0 i less in
      (omega (arith, length-append text more), λ w k. rw e (h.1 less (rw e at k)))
]

pub span_grown : (text more : List ℕ) (span : Span) → IsUtf8 more → IsSpanIn text span → IsSpanIn (text ++ more) span
span_grown text more span u s = record {
  named = s.named;
  valued = s.valued;
  begins = boundary_grown text more span.start u s.begins;
  parts = boundary_grown text more span.middle u s.parts;
  closes = boundary_grown text more span.end u s.closes;
}

pub spans_grown : (text more : List ℕ) (spans : List Span) → IsUtf8 more → All (IsSpanIn text) spans → All (IsSpanIn (text ++ more)) spans
spans_grown text more spans u a = All-weaker (IsSpanIn text) (IsSpanIn (text ++ more)) (λ span s. span_grown text more span u s) spans a

range_grown : (text more : List ℕ) (i j : ℕ) → i ≤ j → j ≤ length text → slice_range (text ++ more) i j ≡ slice_range text i j
range_grown text more i j l w =
    ap (take (j - i)) (drop-append-le i text more (omega arith)) ∙ take-append-le (j - i) (drop i text) more (omega (arith, length-drop i text))

range_last : (text more : List ℕ) → slice_range (text ++ more) (length text) (length (text ++ more)) ≡ more
range_last text more =
    ap (take (length (text ++ more) - length text)) (drop_at text more (length text) refl)
    ∙ take_all (length (text ++ more) - length text) more (omega (arith, length-append text more))

pub pair_grown : (text more : List ℕ) (span : Span) → IsSpanIn text span → pair_in (text ++ more) span ≡ pair_in text span
pair_grown text more span s =
    let name = range_grown text more span.start span.middle s.named s.parts.0 in
    let value = range_grown text more span.middle span.end s.valued s.closes.0 in
    λ i. (name i, value i)

pub pairs_grown : (text more : List ℕ) (spans : List Span) → All (IsSpanIn text) spans → map (pair_in (text ++ more)) spans ≡ map (pair_in text) spans
pairs_grown text more [] a = refl
pairs_grown text more (span ∷ spans) a =
    let here = pair_grown text more span (All-head (IsSpanIn text) span spans a) in
    let rest = pairs_grown text more spans (All-tail (IsSpanIn text) span spans a) in
    λ i. here i ∷ rest i

module _ (text name value : List ℕ) where
  -- where the next pair will stand
  abbrev pub next_span : Span
  next_span = record { start = length text; middle = length (text ++ name); end = length (text ++ name ++ value) }

  pub next_pair : pair_in (text ++ name ++ value) next_span ≡ (name, value)
  next_pair =
      let first = range_grown (text ++ name) value (length text) (length (text ++ name)) (omega (arith, length-append text name)) (omega arith) ∙ range_last text name in
      let second = range_last (text ++ name) value in
      λ i. (first i, second i)

  pub next_within : IsUtf8 name → IsUtf8 value → IsSpanIn (text ++ name ++ value) next_span
  next_within u v = record {
    named = omega (arith, length-append text name);
    valued = omega (arith, length-append (text ++ name) value);
    begins = boundary_grown (text ++ name) value (length text) v (IsCharBoundary-at_seam (text ++ name) text name refl u);
    parts = IsCharBoundary-at_seam (text ++ name ++ value) (text ++ name) value refl v;
    closes = IsCharBoundary-end (text ++ name ++ value);
  }

module _ {A B : Type 0} (f : A → B) where
  pub map-insert : (xs : List A) (i : ℕ) (x : A) → map f (insert xs i x) ≡ insert (map f xs) i (f x)
  map-insert xs i x =
      map-append f (take i xs) (x ∷ drop i xs)
      ∙ ap (λ ys. ys ++ f x ∷ map f (drop i xs)) (sym (take-map f i xs))
      ∙ ap (λ ys. take i (map f xs) ++ f x ∷ ys) (sym (drop-map f i xs))

pub All-insert : {X : Type 0} (P : X → Type 0) (xs : List X) (i : ℕ) (x : X) → All P xs → P x → All P (insert xs i x)
All-insert P xs i x a p = All-append P (take i xs) (x ∷ drop i xs) (All-take P i xs a) (All-cons P x (drop i xs) p (All-drop P i xs a))

-- a text to which nothing could be put
pub text_kept : {T E : Type 0} (was now more : List ℕ) (r : Result T E) (e : E) → r ≡ Err e → now ≡ (if is_ok r then was ++ more else was) → now ≡ was
text_kept was now more r e p q = rw p at q

module _ (text name value : List ℕ) (spans : List Span) (u : IsUtf8 name) (all : All (IsSpanIn text) spans) where
  pub named_within : (t : List ℕ) → t ≡ text ++ name → All (IsSpanIn t) spans
  named_within t e = subst (λ q. All (IsSpanIn q) spans) (sym e) (spans_grown text name spans u all)

  pub named_view : (t : List ℕ) → t ≡ text ++ name → map (pair_in t) spans ≡ map (pair_in text) spans
  named_view t e = ap (λ q. map (pair_in q) spans) e ∙ pairs_grown text name spans all

  module _ (v : IsUtf8 value) where
    both_within : All (IsSpanIn (text ++ name ++ value)) spans
    both_within = spans_grown (text ++ name) value spans v (spans_grown text name spans u all)

    both_view : map (pair_in (text ++ name ++ value)) spans ≡ map (pair_in text) spans
    both_view = pairs_grown (text ++ name) value spans (spans_grown text name spans u all) ∙ pairs_grown text name spans all

    pub kept_within : (t : List ℕ) (ss : List Span) → t ≡ text ++ name ++ value → ss ≡ spans → All (IsSpanIn t) ss
    kept_within t ss e s = subst (λ q. All (IsSpanIn q) ss) (sym e) (subst (All (IsSpanIn (text ++ name ++ value))) (sym s) both_within)

    pub kept_view : (t : List ℕ) (ss : List Span) → t ≡ text ++ name ++ value → ss ≡ spans → map (pair_in t) ss ≡ map (pair_in text) spans
    kept_view t ss e s = (λ k. map (pair_in (e k)) (s k)) ∙ both_view

    module _ (t : List ℕ) (ss : List Span) (i start middle end : ℕ) (e : t ≡ text ++ name ++ value) (a : start ≡ length text) (b : middle ≡ length (text ++ name)) (d : end ≡ length (text ++ name ++ value))
        (s : ss ≡ insert spans i (record { start = start; middle = middle; end = end })) where
      placed : ss ≡ insert spans i (next_span text name value)
      placed = s ∙ (λ k. insert spans i (record { start = a k; middle = b k; end = d k }))

      pub put_within : All (IsSpanIn t) ss
      put_within =
          subst (λ q. All (IsSpanIn q) ss) (sym e)
          (subst (All (IsSpanIn (text ++ name ++ value))) (sym placed) (All-insert (IsSpanIn (text ++ name ++ value)) spans i (next_span text name value) both_within (next_within text name value u v)))

      pub put_view : map (pair_in t) ss ≡ insert (map (pair_in text) spans) i (name, value)
      put_view =
          (λ k. map (pair_in (e k)) (placed k))
          ∙ map-insert (pair_in (text ++ name ++ value)) spans i (next_span text name value)
          ∙ (λ k. insert (both_view k) i (next_pair text name value k))
