-- The instants of the walk of an ask, as a list.
use Rattle.std.proofs.Common.{◌≡◌, ◌∙◌, ℕ, zero, suc, ◌+◌, ◌≤◌, ◌<◌, ◌^◌, List, [], ◌∷◌, length, refl, sym, ap, subst, Some, arith}
use Rattle.std.specs.Prelude.{Option, ℤ, pos, neg_ℤ, ◌+ℤ◌, ◌≤ℤ◌, ◌<ℤ◌, slice_get}
use Rattle.std.specs.List.{AllByRecursion}
use Rattle.std.proofs.lemmas.Int.{ints}
use Rattle.promql_type.specs.Replacements.{Kept}
use Rattle.remote_api.specs.Seen.{IsAskOf}
use Rattle.remote_api.specs.declared.asks.Ask.{Ask}
use Rattle.remote_api.specs.declared.asks.Part.{Part}
use Rattle.ticks.specs.Listed.{AreRising, EachWalkIsListed, IsListed, ListsAreOne}
use Rattle.ticks.specs.Near.{InstantsAreTimes}
use Rattle.ticks.specs.Walks.{IsInstant, LeadsToTimes}
use Rattle.ticks.specs.declared.grid.Grid.{Grid}
use Rattle.ticks.specs.declared.moment.Ms.{Ms}
use Rattle.ticks.specs.declared.walk.Walk.{Walk}
use Rattle.engine_local.specs.Listing.{Listing, Listing-prop}
use Rattle.engine_local.specs.Local.{IsFresh, went_on}
use Rattle.engine_local.specs.declared.own.OwnAsk.{OwnAsk}
use Rattle.engine_local.proofs.Lists.{all_weaker, member_at, members}

-- ---- the list

pub listing_of : EachWalkIsListed → ListsAreOne → (walk : Walk) → LeadsToTimes walk → Listing walk
listing_of each lists walk leads =
    let there = each walk leads in
    record { all = there.0; are = ∣ there.1 ∣₁; only = λ others listed. lists walk others there.0 listed there.1 }

pub are_listed : EachWalkIsListed → (walk : Walk) → LeadsToTimes walk → (listing : Listing walk) → IsListed walk listing.all
are_listed each walk leads listing = let there = each walk leads in subst (IsListed walk) (listing.only there.0 there.1) there.1

-- an ask that goes on keeps its list
pub relisted : (one : OwnAsk) (count : ℕ) (next : Option Ms) (listing : Listing one.ask.walk) → record one { given = one.given + count; next = next; listing = listing } ≡ went_on count next one
relisted one count next listing = λ i. record one { given = one.given + count; next = next; listing = Listing-prop one.ask.walk listing one.listing i }

pub made_fresh : EachWalkIsListed → (part : Part) (walk : Walk) (span : Grid) (kept : Kept) → LeadsToTimes walk
    → (own : Part) (ask : Ask) (texts : Kept) (next : Option Ms) (listing : Listing ask.walk)
    → own ≡ part → IsAskOf part walk span ask → texts ≡ kept → ((all : List Ms) → IsListed walk all → next ≡ slice_get all 0)
    → IsFresh part walk span kept (record { part = own; ask = ask; span = span; kept = texts; given = 0; next = next; listing = listing })
made_fresh each part walk span kept leads own ask texts next listing own_is ask_is texts_are head =
    let listed = subst (λ (w : Walk). IsListed w listing.all) ask_is.walk_is (are_listed each ask.walk (subst LeadsToTimes (sym ask_is.walk_is) leads) listing) in
    record { part_is = own_is; ask = ask_is; span_is = refl; kept_are = texts_are; times = listed; given = refl; next = head listing.all listed }

-- ---- its times

pub instant_at : (walk : Walk) (times : List Ms) (k : ℕ) (t : Ms) → IsListed walk times → slice_get times k ≡ Some t → IsInstant walk t.0
instant_at walk times k t listed here = (listed.instants t).0 (member_at times k t here)

-- no more times rise from one bound to another than lie between them
few_rise : (low high : ℤ) (n : ℕ) (times : List Ms) → high <ℤ (low +ℤ pos n) → AreRising times → AllByRecursion (λ t. low ≤ℤ t.0) times → AllByRecursion (λ t. t.0 ≤ℤ high) times
    → length times ≤ n
few_rise low high n [] short up from to = omega arith
few_rise low high zero (t ∷ times) short up from to = let a = from.0 in let b = to.0 in absurd (omega (arith, ints, a, b, short))
few_rise low high (suc n) (t ∷ times) short up from to =
    let a = from.0 in
    let later = all_weaker (λ (u : Ms). t.0 <ℤ u.0) (λ (u : Ms). (low +ℤ pos 1) ≤ℤ u.0) (λ u h. omega (arith, ints, a, h)) times up.0 in
    let rest = few_rise (low +ℤ pos 1) high n times (omega (arith, ints, short)) up.1 later to.1 in
    omega (arith, rest)

pub few_instants : InstantsAreTimes → (walk : Walk) (times : List Ms) → LeadsToTimes walk → IsListed walk times → length times ≤ 2 ^ 61 + 1
few_instants law walk times leads listed =
    few_rise (neg_ℤ (pos (2 ^ 60))) (pos (2 ^ 60)) (2 ^ 61 + 1) times (omega (arith, ints)) listed.rising
    (members (λ (t : Ms). neg_ℤ (pos (2 ^ 60)) ≤ℤ t.0) times (λ t there. (law walk leads t.0 ((listed.instants t).0 there)).low))
    (members (λ (t : Ms). t.0 ≤ℤ pos (2 ^ 60)) times (λ t there. (law walk leads t.0 ((listed.instants t).0 there)).high))
