-- Numbers that rise from 0, one more.
use Rattle.std.proofs.Common.{◌≡◌, ◌∙◌, ℕ, zero, suc, ◌+◌, List, [], ◌∷◌, ◌++◌, ap, sym, arith}
use Rattle.std.specs.List.{range_with_len}
use Rattle.opt_remote.specs.Gathering.{all_engines}

numbers_more : (a n : ℕ) → range_with_len a (suc n) ≡ range_with_len a n ++ (a + n) ∷ []
numbers_more a zero = ap (λ (z : ℕ). z ∷ []) (let e : a ≡ a + 0 = omega arith in e)
numbers_more a (suc n) =
    let e : (a + 1) + n ≡ a + suc n = omega arith in
    ap (λ (r : List ℕ). a ∷ r) (numbers_more (a + 1) n ∙ ap (λ (z : ℕ). range_with_len (a + 1) n ++ z ∷ []) e)

-- with the number behind the last of so many engines they are those of one more
pub engines_more : (before after : List ℕ) (n : ℕ) → before ≡ all_engines n → after ≡ before ++ n ∷ [] → after ≡ all_engines (n + 1)
engines_more before after n is pushed =
    let same : n ≡ 0 + n = omega arith in
    let more : n + 1 ≡ suc n = omega arith in
    pushed ∙ ap (λ (ns : List ℕ). ns ++ n ∷ []) is ∙ ap (λ (z : ℕ). range_with_len 0 n ++ z ∷ []) same ∙ sym (numbers_more 0 n) ∙ ap (range_with_len 0) (sym more)

pub engines_are : (numbers : List ℕ) (n count : ℕ) → numbers ≡ all_engines n → n ≡ count → numbers ≡ all_engines count
engines_are numbers n count is same = is ∙ ap all_engines same
