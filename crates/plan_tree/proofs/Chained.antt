-- Instants of a walk, one after another.
use Rattle.std.proofs.Common.{◌≡◌, ℕ, zero, suc, ◌<◌, ◌≤◌, List, [], ◌∷◌, ◌++◌, length, Option, None, Some, refl, ap, arith, false}
use Rattle.std.specs.Prelude.{ℤ, ◌==◌}
use Rattle.std.specs.List.{AllByRecursion}
use Rattle.ticks.specs.Walks.{IsInstant}
use Rattle.ticks.specs.declared.moment.Ms.{Ms}
use Rattle.ticks.specs.declared.walk.Walk.{Walk}
use Rattle.plan_tree.specs.declared.turns.Fed.{Fed}
use Rattle.plan_tree.specs.Chains.{Chain, IsComing}
use Rattle.plan_tree.specs.Feeds.{Goes, fed_next, fed_on}
use Rattle.plan_tree.specs.Shapes.{Shape, StaysInTimes}

pub chain_more : (walk : Walk) (fed : Option Fed) (at : List Ms) (t : Ms) → Chain walk fed at → IsComing walk (fed_on fed at) (Some t) → Chain walk fed (at ++ t ∷ [])
chain_more walk fed [] t c n = (n, tt)
chain_more walk fed (s ∷ at) t c n = (c.0, chain_more walk (fed_next fed s) at t c.1 n)

pub end_more : (fed : Option Fed) (at : List Ms) (t : Ms) → fed_on fed (at ++ t ∷ []) ≡ fed_next (fed_on fed at) t
end_more fed [] t = refl
end_more fed (s ∷ at) t = end_more (fed_next fed s) at t

length_more : (at : List Ms) (t : Ms) → length (at ++ t ∷ []) ≡ suc (length at)
length_more [] t = refl
length_more (s ∷ at) t = ap suc (length_more at t)

pub few_more : (n : ℕ) (was now : List Ms) (t : Ms) → now ≡ was ++ t ∷ [] → length was < n → length now ≤ n
few_more n was now t e h = let a = ap (λ (ts : List Ms). length ts) e in let b = length_more was t in omega arith

-- instants of a walk rise
pub chain_goes : (walk : Walk) (fed : Option Fed) (at : List Ms) → Chain walk fed at → Goes fed at
chain_goes walk fed [] c = tt
chain_goes walk None (t ∷ at) c = (tt, chain_goes walk (fed_next None t) at c.1)
chain_goes walk (Some fed) (t ∷ at) c = (c.0.later, chain_goes walk (fed_next (Some fed) t) at c.1)

-- what holds at each instant of a walk holds at these
pub chain_stays : (walk : Walk) (fed : Option Fed) (at : List Ms) (shape : Shape) → ((t : ℤ) → IsInstant walk t → StaysInTimes shape t) → Chain walk fed at → AllByRecursion (λ (t : Ms). StaysInTimes shape t.0) at
chain_stays walk fed [] shape s c = tt
chain_stays walk None (t ∷ at) shape s c = (s t.0 c.0.instant, chain_stays walk (fed_next None t) at shape s c.1)
chain_stays walk (Some fed) (t ∷ at) shape s c = (s t.0 c.0.instant, chain_stays walk (fed_next (Some fed) t) at shape s c.1)

pub one_alone : (count most : ℕ) → 0 < count → count ≤ most → most ≤ 1 → count ≡ 1
one_alone count most s f o = omega arith

pub not_none : (count : ℕ) → (count == 0) ≡ false → 0 < count
not_none zero e = absurd (cc)
not_none (suc n) e = omega arith
