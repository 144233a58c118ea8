-- The counters of a tree, turn by turn.
use Rattle.std.proofs.Common.{◌≡◌, List, Option, sym, subst}
use Rattle.sample_store.specs.Samples.{AllSeries}
use Rattle.series_marks.specs.Reads.{AreRising}
use Rattle.ticks.specs.Works.{Counts}
use Rattle.ticks.specs.declared.moment.Ms.{Ms}
use Rattle.ticks.specs.declared.walk.Walk.{Walk}
use Rattle.plan_tree.specs.declared.tree.Tree.{Tree}
use Rattle.plan_tree.specs.declared.turns.Fed.{Fed}
use Rattle.plan_tree.specs.Chains.{Chain}
use Rattle.plan_tree.specs.Feeds.{fed_on}
use Rattle.plan_tree.specs.Laws.{SpendingIsBounded}
use Rattle.plan_tree.specs.Nodes.{shape_of}
use Rattle.plan_tree.specs.Shapes.{IsFit}
use Rattle.plan_tree.specs.Spending.{HasRead, HasSpent, IsAlong, IsWithinBound}
use Rattle.plan_tree.proofs.Bounds.{rises_on, rises_within}
use Rattle.plan_tree.proofs.Spent.{PartFails, PartSpends, along_on, read_may}

module _ (law : SpendingIsBounded) (store : AllSeries) (rising : AreRising store) (tree : Tree) (fit : IsFit store (shape_of tree.node)) (start : Counts) where
  pub bounded_here : (now : Counts) → HasSpent store tree start now → IsWithinBound store tree.walk (shape_of tree.node) start now
  bounded_here now h times most listed bound =
      rises_within start now h.read most h.rises
      (law store tree.walk tree.fed (shape_of tree.node) h.read most times rising fit h.along (read_may store tree.fed tree.node h.read h.has) listed bound)

  pub bounded_fed : (was now : Counts) (at : List Ms) → Chain tree.walk tree.fed at → PartFails store tree.fed (fed_on tree.fed at) tree.node was now → HasSpent store tree start was → IsWithinBound store tree.walk (shape_of tree.node) start now
  bounded_fed was now at chain feed h times most listed bound =
      let s = feed h.read h.has in
      rises_within start now s.now most (rises_on start was now h.read s.now h.rises s.rises)
      (law store tree.walk (fed_on tree.fed at) (shape_of tree.node) s.now most times rising fit (along_on tree.walk tree.fed at chain h.along) s.may listed bound)

pub spent_fed : (store : AllSeries) (tree new : Tree) (start was now : Counts) (at : List Ms) → Chain tree.walk tree.fed at → new.walk ≡ tree.walk → new.fed ≡ fed_on tree.fed at
    → PartSpends store tree.fed (fed_on tree.fed at) tree.node new.node was now → HasSpent store tree start was → HasSpent store new start now
spent_fed store tree new start was now at chain walk fed feed h =
    let s = feed h.read h.has in
    record {
      along = subst (λ (w : Walk). IsAlong w new.fed) (sym walk) (subst (λ (f : Option Fed). IsAlong tree.walk f) (sym fed) (along_on tree.walk tree.fed at chain h.along));
      read = s.0.now;
      has = subst (λ (f : Option Fed). HasRead store f new.node s.0.now) (sym fed) s.1;
      rises = rises_on start was now h.read s.0.now h.rises s.0.rises;
    }
