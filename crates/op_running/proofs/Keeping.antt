-- What is kept of a window whose samples come and go.
use Rattle.std.proofs.Common.{◌≡◌, ◌∙◌, ℕ, zero, suc, ◌-◌, ◌≤◌, List, [], ◌∷◌, ◌++◌, length, drop, ap, arith}
use Rattle.std.proofs.Math.Seq.{drop-nil}
use Rattle.xfrac.specs.declared.value.XFrac.{XFrac}
use Rattle.op_running.specs.Kept.{IsGreatestOf, IsKept, IsLeastOf, IsLossOf, IsTotalOf}
use Rattle.op_running.specs.declared.window.Kept.{Kept}
use Rattle.op_running.specs.declared.window.Kept.TheVariants as kept
use Rattle.op_running.proofs.Tails.{keeps_more}

-- values that came aren't counted yet
pub kept_more : (k : Kept) (values more : List XFrac) → IsKept k values → IsKept k (values ++ more)
kept_more kept.Nothing values more h = tt
kept_more (kept.Sum r) values more h = keeps_more IsTotalOf r.tails.items r.behind r.counted values more h
kept_more (kept.Least r) values more h = keeps_more IsLeastOf r.tails.items r.behind r.counted values more h
kept_more (kept.Greatest r) values more h = keeps_more IsGreatestOf r.tails.items r.behind r.counted values more h
kept_more (kept.Lost r) values more h = keeps_more IsLossOf r.tails.items r.behind r.counted values more h

no_longer : (n : ℕ) (xs : List XFrac) → length (drop n xs) ≤ length xs
no_longer zero xs = omega arith
no_longer (suc n) [] = omega arith
no_longer (suc n) (x ∷ xs) = let h = no_longer n xs in omega arith

left_behind : (n : ℕ) (xs : List XFrac) → drop (length xs - length (drop n xs)) xs ≡ drop n xs
left_behind zero xs = let e : length xs - length xs ≡ 0 = omega arith in ap (λ (k : ℕ). drop k xs) e
left_behind (suc n) [] = drop-nil (length {A = XFrac} [] - length {A = XFrac} [])
left_behind (suc n) (x ∷ xs) =
    let h = no_longer n xs in
    let e : suc (length xs) - length (drop n xs) ≡ suc (length xs - length (drop n xs)) = omega arith in
    ap (λ (k : ℕ). drop k (x ∷ xs)) e ∙ left_behind n xs

-- how many went is how many fewer are left
pub gone_values : (n : ℕ) (xs ys : List XFrac) → ys ≡ drop n xs → drop (length xs - length ys) xs ≡ ys
gone_values n xs ys e = rw e (left_behind n xs)
