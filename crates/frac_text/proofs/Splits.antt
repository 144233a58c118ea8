-- How a number's text is parted.
use Rattle.std.proofs.Common.{◌≡◌, ℕ, ◌-◌, refl, sym, ap, ◌∙◌, arith, Bool, true, false, cond, ◌==◌, List, [], ◌∷◌, ◌++◌, length, take, length-append, take-append-drop, append_assoc}
use Rattle.std.specs.Char.{is_ascii_digit}
use Rattle.std.proofs.Math.Seq.{take-append_seam}
use Rattle.std.proofs.lemmas.List.Elements.{filter-append}
use Rattle.std.proofs.lemmas.Bool.{eqb-true}
use Rattle.frac_text.specs.Digits.{front, back, digits_in}
use Rattle.frac_text.specs.Decimals.{fraction_of, ending_of}

take_before : (xs ys : List ℕ) → take (length (xs ++ ys) - length ys) (xs ++ ys) ≡ xs
take_before xs ys =
    let e : length (xs ++ ys) - length ys ≡ length xs = omega (arith, length-append xs ys) in
    ap (λ k. take k (xs ++ ys)) e ∙ take-append_seam xs ys

-- what stands between the whole digits and the ending has the fraction's digits
record Between (rest fraction ending : List ℕ) : Type 0 where
  pub bytes : List ℕ
  pub are : rest ≡ bytes ++ ending
  pub same : digits_in bytes ≡ digits_in fraction

between : (grouped : Bool) (rest : List ℕ) → Between rest (fraction_of grouped rest) (ending_of grouped rest)
between grouped [] = record { bytes = []; are = refl; same = refl }
between grouped (first ∷ rest) = by_point (first == 46) refl
  where
    by_point : (b : Bool) → (first == 46) ≡ b → Between (first ∷ rest) (cond b (front grouped rest) []) (cond b (back grouped rest) (first ∷ rest))
    by_point false is = record { bytes = []; are = refl; same = refl }
    by_point true is =
        let point : first ≡ 46 = eqb-true first 46 is in
        record {
          bytes = first ∷ front grouped rest;
          are = ap (λ r. first ∷ r) (sym (take-append-drop _ rest));
          same = ap (λ f. digits_in (f ∷ front grouped rest)) point;
        }

pub significand_digits : (grouped : Bool) (text : List ℕ)
    → digits_in (take (length text - length (ending_of grouped (back grouped text))) text) ≡ digits_in (front grouped text) ++ digits_in (fraction_of grouped (back grouped text))
significand_digits grouped text =
    let b = between grouped (back grouped text) in
    let whole : text ≡ (front grouped text ++ b.bytes) ++ ending_of grouped (back grouped text) =
    sym (take-append-drop _ text) ∙ ap (λ r. front grouped text ++ r) b.are ∙ sym (append_assoc (front grouped text) b.bytes (ending_of grouped (back grouped text))) in
    let before : take (length text - length (ending_of grouped (back grouped text))) text ≡ front grouped text ++ b.bytes =
    ap (λ t. take (length t - length (ending_of grouped (back grouped text))) t) whole ∙ take_before (front grouped text ++ b.bytes) (ending_of grouped (back grouped text)) in
    ap digits_in before ∙ filter-append is_ascii_digit (front grouped text) b.bytes ∙ ap (λ x. digits_in (front grouped text) ++ x) b.same
