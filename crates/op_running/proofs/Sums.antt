-- Sums of two lists.
use Rattle.std.proofs.Common.{◌≡◌, ◌∙◌, ◌+◌, ◌<◌, ◌^◌, List, ◌++◌, length, Option, Some, None, IfSome, ap, subst, arith}
use Rattle.std.proofs.lemmas.List.Elements.{All-append}
use Rattle.std.proofs.lemmas.List.Sorted.{IsPermutation-append_comm}
use Rattle.xfrac.specs.Laws.{IsNumber, PartOverflowsWhole, SumIgnoresOrder}
use Rattle.xfrac.specs.Sums.{StandsFor, Totals, totals}
use Rattle.xfrac.specs.declared.value.XFrac.{XFrac}
use Rattle.window_fn.specs.Totals.{IsSumOf}
use Rattle.op_running.specs.Kept.{HaveRoom}

pub counted : (t : Totals) (xs : List XFrac) → StandsFor t xs → t.count ≡ length xs
unfolding totals
counted t xs kept = ap (λ u. u.count) kept

pub counted_some : (s : Option Totals) (t : Totals) (xs : List XFrac) → s ≡ Some t → IsSumOf s xs → 0 < length xs → 0 < t.count
counted_some s t xs e h l = let k : t.count ≡ length xs = counted t xs (subst (λ (o : Option Totals). IsSumOf o xs) e h).kept in omega arith

-- a sum of few numbers has room for one more
pub few_most : (s : Option Totals) (xs : List XFrac) → IsSumOf s xs → length xs < 2 ^ 65 → IfSome s (λ t. t.count + 1 < 2 ^ 96)
few_most None xs h l = tt
few_most (Some t) xs h l = let e : t.count ≡ length xs = counted t xs h.kept in omega arith

pub few : (s : Option Totals) (xs : List XFrac) → IsSumOf s xs → length xs < 2 ^ 64 → IfSome s (λ t. t.count + 1 < 2 ^ 96)
few s xs h l = few_most s xs h (omega arith)

pub few_both : (a b : Option Totals) (xs ys : List XFrac) → IsSumOf a xs → IsSumOf b ys → length xs + length ys < 2 ^ 66 → HaveRoom a b
few_both None b xs ys p q l = tt
few_both (Some s) None xs ys p q l = tt
few_both (Some s) (Some t) xs ys p q l =
    let e : s.count ≡ length xs = counted s xs p.kept in
    let f : t.count ≡ length ys = counted t ys q.kept in
    omega arith

-- a part that has no sum leaves both without one
pub none_in_front : PartOverflowsWhole → (xs ys : List XFrac) (b : Option Totals) → IsSumOf None xs → IsSumOf b ys → IsSumOf None (xs ++ ys)
none_in_front law xs ys b p q = record {
  numbers = All-append IsNumber xs ys p.numbers q.numbers;
  kept = law xs ys p.numbers q.numbers p.kept;
}

pub none_behind : PartOverflowsWhole → SumIgnoresOrder → (xs ys : List XFrac) (a : Option Totals) → IsSumOf a xs → IsSumOf None ys → IsSumOf None (xs ++ ys)
none_behind law order xs ys a p q = record {
  numbers = All-append IsNumber xs ys p.numbers q.numbers;
  kept = order (ys ++ xs) (xs ++ ys) (All-append IsNumber ys xs q.numbers p.numbers) (IsPermutation-append_comm ys xs) ∙ law ys xs q.numbers p.numbers q.kept;
}
