-- Cells of a group, gone over one after another.
use Rattle.std.proofs.Common.{◌≡◌, ◌∙◌, ℕ, ◌<◌, ◌^◌, true, List, [], ◌∷◌, refl, sym, ap, subst, Some, None, arith}
use Rattle.std.specs.Prelude.{Option, fold, nat_lt, IfSome}
use Rattle.std.specs.List.{AllByRecursion, cons_option, filter_map}
use Rattle.std.proofs.lemmas.Bool.{ltb-true}
use Rattle.func_table.specs.declared.table.Aggregate.{Aggregate}
use Rattle.step_table.specs.declared.cells.Cell.{Cell}
use Rattle.step_table.specs.declared.cells.Cell.TheVariants as cell
use Rattle.xfrac.specs.Sums.{Totals}
use Rattle.remote_api.specs.Strays.{is_group_cell, is_sum_cell}
use Rattle.op_gather.specs.Cells.{CountsUpTo}
use Rattle.op_gather.proofs.Standing.{both_true}

module _ {X A B : Type 0} (f : B → A → B) (g : X → Option A) where
  one_more : (b : B) (o : Option A) (xs : List X) → fold f b (cons_option o (filter_map g xs)) ≡ fold f (fold f b (cons_option o [])) (filter_map g xs)
  one_more b None xs = refl
  one_more b (Some y) xs = refl

  -- what the rest makes of all that was made so far, one item on
  pub goes_on : (left : List X) (x : X) (rest : List X) (b c start : B) → left ≡ x ∷ rest → fold f b (filter_map g left) ≡ start → c ≡ fold f b (filter_map g (x ∷ [])) → fold f c (filter_map g rest) ≡ start
  goes_on left x rest b c start e so_far next =
      ap (λ (z : B). fold f z (filter_map g rest)) next ∙ sym (one_more b (g x) rest) ∙ ap (λ (xs : List X). fold f b (filter_map g xs)) (sym e) ∙ so_far

-- fewer than 2^32 sums, each of fewer than 2^63 numbers
pub room_left : (n : ℕ) (sum : Option Totals) → n < 2 ^ 32 → CountsUpTo n sum → IfSome sum (λ (s : Totals). s.count < 2 ^ 95)
room_left n None l h = tt
room_left n (Some s) l h = omega (arith, l, h)

pub sum_counts : (c : Cell) (sum : Totals) → c ≡ cell.Sum sum → is_sum_cell c ≡ true → (0 < sum.count) × (sum.count < 2 ^ 63)
sum_counts c sum e h =
    let both = both_true (nat_lt 0 sum.count) (nat_lt sum.count (2 ^ 63)) (subst (λ (z : Cell). is_sum_cell z ≡ true) e h) in
    (ltb-true 0 sum.count both.0, ltb-true sum.count (2 ^ 63) both.1)

pub each_as : (f g : Aggregate) (cells : List Cell) → f ≡ g → AllByRecursion (λ (c : Cell). is_group_cell f c ≡ true) cells → AllByRecursion (λ (c : Cell). is_group_cell g c ≡ true) cells
each_as f g cells e a = subst (λ (h : Aggregate). AllByRecursion (λ (c : Cell). is_group_cell h c ≡ true) cells) e a
