-- The list of a walk's instants, as contracts see it beside an ask that keeps only the next one of them. (This project's own.)
use Rattle.std.specs.Prelude.{◌≡◌, List}
use Rattle.std.specs.Coded.{Coded-set, coded_list, Π_prop, →_prop}
use mathlib.Core.HLevel.{is_prop→PathP}
use mathlib.Core.Logic.{∥∥₁_elim, ∥∥₁_prop}
use Rattle.ticks.specs.Listed.{IsListed}
use Rattle.ticks.specs.contracts.moment.Ms as ms
use Rattle.ticks.specs.declared.moment.Ms.{Ms}
use Rattle.ticks.specs.declared.walk.Walk.{Walk}

-- a list of the instants of a walk, which has no other one
pub record Listing (walk : Walk) : Type 0 where
  pub all : List Ms
  pub are : ∥ IsListed walk all ∥₁
  pub only : (others : List Ms) → IsListed walk others → others ≡ all

-- two such lists are one
pub Listing-prop : (walk : Walk) → IsProp (Listing walk)
Listing-prop walk x y = joined (∥∥₁_elim x.are (are_set x.all y.all) (λ listed. y.only x.all listed))
  where
    are_set : IsSet (List Ms)
    are_set = Coded-set (coded_list ms.the_row.coded)

    joined : x.all ≡ y.all → x ≡ y
    joined same = λ i. record {
      all = same i;
      are = is_prop→PathP (λ j. ∥ IsListed walk (same j) ∥₁) (λ j. ∥∥₁_prop) x.are y.are i;
      only = is_prop→PathP (λ j. (others : List Ms) → IsListed walk others → others ≡ same j) (λ j. Π_prop (λ others. →_prop (are_set others (same j)))) x.only y.only i;
    }
