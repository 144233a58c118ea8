-- One more number behind the first ones.
use Rattle.std.proofs.Common.{◌≡◌, ℕ, zero, suc, ◌+◌, Bool, cond, List, ◌++◌, [], ◌∷◌, ap, sym, ◌∙◌, append_assoc, append-nil, arith}
use Rattle.std.specs.List.{count_by, flat_map, range_with_len}
use Rattle.std.proofs.lemmas.Grind.{flat_map-append}
use Rattle.std.proofs.lemmas.List.Sums.{sum_by_push}

number_more : (a n k : ℕ) → a + n ≡ k → range_with_len a (suc n) ≡ range_with_len a n ++ k ∷ []
number_more a zero k e = let same : a ≡ k = omega arith in ap (λ i. i ∷ []) same
number_more a (suc n) k e = ap (λ l. a ∷ l) (number_more (a + 1) n k (omega arith))

numbers_more : (n : ℕ) → range_with_len 0 (n + 1) ≡ range_with_len 0 n ++ n ∷ []
numbers_more n = let next : n + 1 ≡ suc n = omega arith in ap (range_with_len 0) next ∙ number_more 0 n n (omega arith)

-- the pieces of the first numbers, and the next number's piece behind them
pub pieces_more : {A : Type 0} (f : ℕ → List A) (n : ℕ) (before now next : List A) → now ≡ before ++ flat_map f (range_with_len 0 n) → next ≡ now ++ f n
    → next ≡ before ++ flat_map f (range_with_len 0 (n + 1))
pieces_more f n before now next so_far last =
    let pieces = flat_map f (range_with_len 0 n) in
    let piece = ap (λ l. pieces ++ l) (sym (append-nil (f n))) ∙ sym (flat_map-append f (range_with_len 0 n) (n ∷ [])) ∙ ap (flat_map f) (sym (numbers_more n)) in
    last ∙ ap (λ l. l ++ f n) so_far ∙ append_assoc before pieces (f n) ∙ ap (λ l. before ++ l) piece

-- how many of the first numbers pass, and one more where the next number does
pub count_more : (p : ℕ → Bool) (n size now : ℕ) (passes : Bool) → p n ≡ passes → size ≡ count_by p (range_with_len 0 n) → now ≡ size + cond passes 1 0
    → now ≡ count_by p (range_with_len 0 (n + 1))
count_more p n size now passes is so_far next =
    let one = ap {B = ℕ} (λ b. cond b 1 0) is in
    let more = ap (count_by p) (numbers_more n) ∙ sum_by_push (λ i. cond (p i) 1 0) (range_with_len 0 n) n in
    omega (arith, one, more)
