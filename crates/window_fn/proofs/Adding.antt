-- Sums that are formed as their numbers or answers come.
use Rattle.std.proofs.Common.{◌≡◌, ◌∙◌, ◌+◌, ◌<◌, ◌≤◌, ◌^◌, Bool, true, false, ◌&&◌, List, [], ◌∷◌, ◌++◌, length, Option, Some, None, Result, Ok, Err, is_ok, IfSome, IfNone, ap, sym, refl, subst, arith}
use Rattle.std.specs.Bool.{MatchBool}
use Rattle.std.specs.List.{All, list_all, filter_map}
use Rattle.std.specs.Result.{result_ok}
use Rattle.std.proofs.lemmas.List.Elements.{All-append, All-cons, All-nil, filter_map-append}
use Rattle.std.proofs.lemmas.List.Folds.{list_all-append}
use Rattle.xfrac.specs.Laws.{IsNumber}
use Rattle.xfrac.specs.Sums.{Totals, StandsFor, totals}
use Rattle.xfrac.specs.declared.value.NumFault.{NumFault}
use Rattle.xfrac.specs.declared.value.XFrac.{XFrac}
use Rattle.window_fn.specs.Totals.{KeepsSum, IsSumOf, IsSumOfAnswers}

-- a sum of fewer than 2^64 numbers has room for one more
pub few : (s : Option Totals) (xs : List XFrac) → KeepsSum s xs → length xs < 2 ^ 64 → IfSome s (λ t. t.count + 1 < 2 ^ 96)
unfolding totals
few None xs kept l = tt
few (Some t) xs kept l = let e : t.count ≡ length xs = ap (λ u. u.count) kept in omega arith

length-values : (rs : List (Result XFrac NumFault)) → length (filter_map result_ok rs) ≤ length rs
length-values [] = omega arith
length-values (Ok v ∷ rs) = omega (arith, length-values rs)
length-values (Err e ∷ rs) = omega (arith, length-values rs)

few_of : (b : Bool) (s : Option Totals) (xs : List XFrac) → MatchBool b (KeepsSum s xs) (s ≡ None) → length xs < 2 ^ 64 → IfSome s (λ t. t.count + 1 < 2 ^ 96)
few_of true s xs kept l = few s xs kept l
few_of false s xs kept l = subst (λ o. IfSome o (λ t. t.count + 1 < 2 ^ 96)) (sym kept) tt

pub few_answers : (s : Option Totals) (rs : List (Result XFrac NumFault)) → IsSumOfAnswers s rs → length rs < 2 ^ 64 → IfSome s (λ t. t.count + 1 < 2 ^ 96)
few_answers s rs h l = few_of (list_all is_ok rs) s (filter_map result_ok rs) h.kept (omega (arith, length-values rs))

-- nothing stays nothing
none_of : (s s' : Option Totals) → s ≡ None → IfNone s (s' ≡ None) → s' ≡ None
none_of None s' e h = h
none_of (Some t) s' e h = cc

keeps_value : (b : Bool) (s s' : Option Totals) (v : XFrac) (xs : List XFrac) → All IsNumber xs → ((ys : List XFrac) → IsSumOf s ys → IsSumOf s' (ys ++ v ∷ [])) → IfNone s (s' ≡ None) →
    MatchBool b (KeepsSum s xs) (s ≡ None) → MatchBool (b && true) (KeepsSum s' (xs ++ v ∷ [])) (s' ≡ None)
keeps_value true s s' v xs numbers step none kept = (step xs (record { numbers = numbers; kept = kept })).kept
keeps_value false s s' v xs numbers step none kept = none_of s s' kept none

-- one more answer that is a number
pub one_more_value : (s s' : Option Totals) (v : XFrac) (rs : List (Result XFrac NumFault)) → IsNumber v → ((ys : List XFrac) → IsSumOf s ys → IsSumOf s' (ys ++ v ∷ [])) → IfNone s (s' ≡ None) →
    IsSumOfAnswers s rs → IsSumOfAnswers s' (rs ++ Ok v ∷ [])
one_more_value s s' v rs number step none h =
    let values : filter_map result_ok (rs ++ Ok v ∷ []) ≡ filter_map result_ok rs ++ v ∷ [] = filter_map-append result_ok rs (Ok v ∷ []) in
    let all : list_all is_ok (rs ++ Ok v ∷ []) ≡ (list_all is_ok rs && true) = list_all-append is_ok rs (Ok v ∷ []) in
    record {
      numbers = subst (All IsNumber) (sym values) (All-append IsNumber _ _ h.numbers (All-cons IsNumber v [] number (All-nil IsNumber)));
      kept = subst (λ ys. MatchBool (list_all is_ok (rs ++ Ok v ∷ [])) (KeepsSum s' ys) (s' ≡ None)) (sym values)
          (subst (λ b. MatchBool b (KeepsSum s' (filter_map result_ok rs ++ v ∷ [])) (s' ≡ None)) (sym all)
          (keeps_value (list_all is_ok rs) s s' v (filter_map result_ok rs) h.numbers step none h.kept));
    }

and_false : (b : Bool) → (b && false) ≡ false
and_false true = refl
and_false false = refl

-- one more answer that is a fault
pub one_more_fault : (s : Option Totals) (e : NumFault) (rs : List (Result XFrac NumFault)) → IsSumOfAnswers s rs → IsSumOfAnswers None (rs ++ Err e ∷ [])
one_more_fault s e rs h =
    let values : filter_map result_ok (rs ++ Err e ∷ []) ≡ filter_map result_ok rs ++ [] = filter_map-append result_ok rs (Err e ∷ []) in
    let all : list_all is_ok (rs ++ Err e ∷ []) ≡ false = list_all-append is_ok rs (Err e ∷ []) ∙ and_false (list_all is_ok rs) in
    record {
      numbers = subst (All IsNumber) (sym values) (All-append IsNumber _ _ h.numbers (All-nil IsNumber));
      kept = subst (λ b. MatchBool b (KeepsSum None (filter_map result_ok (rs ++ Err e ∷ []))) (◌≡◌ {A = Option Totals} None None)) (sym all) (refl);
    }

-- what is kept of a sum counts the list
pub counted : (t : Totals) (xs : List XFrac) → StandsFor t xs → t.count ≡ length xs
unfolding totals
counted t xs kept = ap (λ u. u.count) kept
