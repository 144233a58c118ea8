-- The instants of turns are those of the walk.
use Rattle.std.proofs.Common.{◌≡◌, ◌∙◌, ℕ, zero, suc, ◌+◌, ◌≤◌, List, [], ◌∷◌, length, slice_get, take, drop, None, Some, refl, sym, ap, arith}
use Rattle.ticks.specs.Listed.{FirstIsHead, IsListed, NextIsBehind}
use Rattle.ticks.specs.declared.moment.Ms.{Ms}
use Rattle.ticks.specs.declared.walk.Walk.{Walk}
use Rattle.plan_tree.specs.declared.turns.Fed.{Fed}
use Rattle.plan_tree.specs.Chains.{Chain, IsComing}
use Rattle.plan_tree.specs.Feeds.{fed_on}
use Rattle.plan_tree.specs.Laws.{TurnsAreTheWalk}
use Rattle.plan_tree.proofs.Copies.{take_all}

from_here : (times : List Ms) (n : ℕ) (t : Ms) → slice_get times n ≡ Some t → drop n times ≡ t ∷ drop (suc n) times
from_here [] n t e = absurd (cc)
from_here (u ∷ times) zero t e = let same : u ≡ t = cc in ap (λ (x : Ms). x ∷ times) same
from_here (u ∷ times) (suc n) t e = from_here times n t e

none_there : (times : List Ms) (n : ℕ) → None ≡ slice_get times n → length times ≤ n
none_there [] n e = omega arith
none_there (u ∷ times) zero e = absurd (cc)
none_there (u ∷ times) (suc n) e = let h = none_there times n e in omega arith

-- behind the instant at a place come those of the next places
behind : NextIsBehind → (walk : Walk) (times : List Ms) (k : ℕ) (fed : Fed) (at : List Ms) → IsListed walk times → slice_get times k ≡ Some fed.last → Chain walk (Some fed) at → at ≡ take (length at) (drop (suc k) times)
behind law walk times k fed [] l e c = refl
behind law walk times k fed (t ∷ at) l e c =
    let n : k + 1 ≡ suc k = omega arith in
    let here : slice_get times (suc k) ≡ Some t = sym (law walk times k fed.last (Some t) l e c.0 ∙ ap (slice_get times) n) in
    let rest = behind law walk times (suc k) (record { first = fed.first; last = t }) at l here c.1 in
    ap (λ (r : List Ms). t ∷ r) rest ∙ sym (ap (take (suc (length at))) (from_here times (suc k) t here))

-- and none comes behind the last place alone
ends_behind : NextIsBehind → (walk : Walk) (times : List Ms) (k : ℕ) (fed : Fed) (at : List Ms) → IsListed walk times → slice_get times k ≡ Some fed.last → Chain walk (Some fed) at → IsComing walk (fed_on (Some fed) at) None
    → length times ≤ suc k + length at
ends_behind law walk times k fed [] l e c n = let h = none_there times (k + 1) (law walk times k fed.last None l e n) in omega arith
ends_behind law walk times k fed (t ∷ at) l e c n =
    let one : k + 1 ≡ suc k = omega arith in
    let here : slice_get times (suc k) ≡ Some t = sym (law walk times k fed.last (Some t) l e c.0 ∙ ap (slice_get times) one) in
    let h = ends_behind law walk times (suc k) (record { first = fed.first; last = t }) at l here c.1 n in
    omega arith

pub turns_are_walked : FirstIsHead → NextIsBehind → TurnsAreTheWalk
turns_are_walked first next walk times [] l c = (refl, λ n. let h = none_there times 0 (first walk times None l n) in take_all 0 times h)
turns_are_walked first next walk times (t ∷ at) l c =
    let here : slice_get times 0 ≡ Some t = sym (first walk times (Some t) l c.0) in
    let rest = behind next walk times 0 (record { first = t; last = t }) at l here c.1 in
    let all : t ∷ at ≡ take (length (t ∷ at)) times = ap (λ (r : List Ms). t ∷ r) rest ∙ sym (ap (take (suc (length at))) (from_here times 0 t here)) in
    (all, λ n. all ∙ take_all (length (t ∷ at)) times (let h = ends_behind next walk times 0 (record { first = t; last = t }) at l here c.1 n in omega arith))
