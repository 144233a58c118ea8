-- The cell of a group doesn't depend on the order of its values.
use Rattle.std.proofs.Common.{◌≡◌, ◌∙◌, ℕ, ◌+◌, ◌*◌, ◌<◌, List, [], ◌∷◌, ◌++◌, length, refl, sym, ap, Some, None}
use Rattle.std.specs.Prelude.{◌/◌, if◌then◌else◌}
use Rattle.std.specs.List.{All}
use Rattle.std.proofs.Math.Bool.{or_comm}
use Rattle.std.proofs.Math.Nat.{add_comm}
use Rattle.std.proofs.lemmas.List.Elements.{All-weaker, recursion_from_All}
use Rattle.std.proofs.lemmas.List.Sorted.{length_permutation}
use Rattle.std.proofs.lemmas.Nat.Gcd.{dvd_antisymm}
use Rattle.func_table.specs.declared.table.Aggregate.TheVariants.{Sum, Avg, Min, Max, Count, Group, Stdvar, TopK, BottomK, Quantile, CountValues}
use Rattle.xfrac.specs.Divisors.{lcm}
use Rattle.xfrac.specs.AnySize.{AnyPartOverflowsWhole, InLowestTerms, NumberIsLowest}
use Rattle.xfrac.specs.Laws.{IsNumber, JoinedStandsForBoth, LcmIsLeast, LcmIsMultiple}
use Rattle.xfrac.specs.Sums.{Totals, fits, joined as joined_totals_of, totals}
use Rattle.xfrac.specs.declared.value.XFrac.{XFrac}
use Rattle.window_fn.specs.Laws.{OrderDoesntMatter}
use Rattle.step_table.specs.Shuffles.{Shuffled, none, kept, swapped, joined}
use Rattle.step_table.specs.Shuffling.{to_permutation}
use Rattle.step_table.specs.declared.cells.Cell.TheVariants as cell
use Rattle.step_cells.specs.CellLaws.{CellIgnoresOrder}
use Rattle.step_cells.proofs.Merges.{AllLowest, joined_totals, totals_positive}
use Rattle.step_cells.proofs.SameNames.{all_kept}

module _ (both : JoinedStandsForBoth) (overflows : AnyPartOverflowsWhole) (multiple : LcmIsMultiple) (least : LcmIsLeast) where
  lcm_turned : (a b : ℕ) → 0 < a → 0 < b → lcm a b ≡ lcm b a
  lcm_turned a b p q =
      let one = multiple a b p q in
      let other = multiple b a q p in
      dvd_antisymm (least a b (lcm b a) p q other.1 other.0) (least b a (lcm a b) q p one.1 one.0)

  joined_turned : (s t : Totals) → 0 < s.multiple → 0 < t.multiple → joined_totals_of s t ≡ joined_totals_of t s
  joined_turned s t p q =
      let same : lcm s.multiple t.multiple ≡ lcm t.multiple s.multiple = lcm_turned s.multiple t.multiple p q in
      let above = add_comm (s.above * (lcm s.multiple t.multiple / s.multiple)) (t.above * (lcm s.multiple t.multiple / t.multiple)) ∙ ap (λ m. t.above * (m / t.multiple) + s.above * (m / s.multiple)) same in
      let below = add_comm (s.below * (lcm s.multiple t.multiple / s.multiple)) (t.below * (lcm s.multiple t.multiple / t.multiple)) ∙ ap (λ m. t.below * (m / t.multiple) + s.below * (m / s.multiple)) same in
      λ i. record {
        multiple = same i;
        above = above i;
        below = below i;
        has_positive_infinity = or_comm s.has_positive_infinity t.has_positive_infinity i;
        has_negative_infinity = or_comm s.has_negative_infinity t.has_negative_infinity i;
        has_nan = or_comm s.has_nan t.has_nan i;
        count = add_comm s.count t.count i;
      }

  of_two : (xs ys : List XFrac) → AllLowest xs → AllLowest ys → totals (xs ++ ys) ≡ totals (ys ++ xs)
  of_two xs ys a b =
      sym (joined_totals both overflows least xs ys a b)
      ∙ joined_turned (totals xs) (totals ys) (totals_positive both overflows least xs a) (totals_positive both overflows least ys b)
      ∙ joined_totals both overflows least ys xs b a

  totals_shuffled : (xs ys : List XFrac) → Shuffled xs ys → AllLowest xs → totals xs ≡ totals ys
  totals_shuffled _ _ none a = refl
  totals_shuffled _ _ (kept x xs ys s) a =
      sym (joined_totals both overflows least (x ∷ []) xs (a.0, tt) a.1) ∙ ap (joined_totals_of (totals (x ∷ []))) (totals_shuffled xs ys s a.1)
      ∙ joined_totals both overflows least (x ∷ []) ys (a.0, tt) (all_kept InLowestTerms xs ys s a.1)
  totals_shuffled _ _ (swapped x y xs) a =
      sym (joined_totals both overflows least (x ∷ y ∷ []) xs (a.0, (a.1.0, tt)) a.1.1) ∙ ap (λ t. joined_totals_of t (totals xs)) (of_two (x ∷ []) (y ∷ []) (a.0, tt) (a.1.0, tt))
      ∙ joined_totals both overflows least (y ∷ x ∷ []) xs (a.1.0, (a.0, tt)) a.1.1
  totals_shuffled _ _ (joined xs ys zs s t) a = totals_shuffled xs ys s a ∙ totals_shuffled ys zs t (all_kept InLowestTerms xs ys s a)

  sum_alike : NumberIsLowest → (xs ys : List XFrac) → All IsNumber xs → Shuffled xs ys → (if fits (totals xs) then Some (cell.Sum (totals xs)) else None) ≡ (if fits (totals ys) then Some (cell.Sum (totals ys)) else None)
  sum_alike lowest xs ys a s = ap (λ t. if fits t then Some (cell.Sum t) else None) (totals_shuffled xs ys s (recursion_from_All InLowestTerms xs (All-weaker IsNumber InLowestTerms lowest xs a)))

  count_alike : (xs ys : List XFrac) → Shuffled xs ys → Some (cell.Count (length xs)) ≡ Some (cell.Count (length ys))
  count_alike xs ys s = ap (λ n. Some (cell.Count n)) (sym (length_permutation xs ys (to_permutation xs ys s)))

  pub cell_alike : NumberIsLowest → OrderDoesntMatter → CellIgnoresOrder
  cell_alike lowest order Sum xs ys a s = sum_alike lowest xs ys a s
  cell_alike lowest order Avg xs ys a s = sum_alike lowest xs ys a s
  cell_alike lowest order Min xs ys a s = ap (λ v. Some (cell.Value v)) (sym (order xs ys a (to_permutation xs ys s)).min)
  cell_alike lowest order Max xs ys a s = ap (λ v. Some (cell.Value v)) (sym (order xs ys a (to_permutation xs ys s)).max)
  cell_alike lowest order Count xs ys a s = count_alike xs ys s
  cell_alike lowest order Group xs ys a s = count_alike xs ys s
  cell_alike lowest order Stdvar xs ys a s = refl
  cell_alike lowest order TopK xs ys a s = refl
  cell_alike lowest order BottomK xs ys a s = refl
  cell_alike lowest order Quantile xs ys a s = refl
  cell_alike lowest order CountValues xs ys a s = refl
