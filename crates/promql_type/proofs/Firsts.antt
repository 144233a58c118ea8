-- The least of several refusals is one of them, and none comes before it.
use Rattle.std.proofs.Common.{◌≡◌, ℕ, suc, refl, sym, subst, List, [], ◌∷◌, arith, Bool, true, false}
use Rattle.std.specs.Prelude.{Option, Some, None, Contains, MatchOption}
use Rattle.std.specs.List.{AllByRecursion}
use Rattle.promql_ast.specs.declared.refusal.QueryRefusal.{QueryRefusal}
use Rattle.promql_ast.specs.Refusals.{place_of, number_of}
use Rattle.promql_type.specs.Refusals.{IsFirst, comes_first, lesser, least}
use Rattle.promql_type.proofs.Leasts.{first, is_lesser, is_no_lesser, none_first}

never_before_itself : (p n : ℕ) → first p n p n ≡ false
never_before_itself p n = grind arith

one_way : (p n q m : ℕ) → first p n q m ≡ true → first q m p n ≡ false
one_way p n q m is = grind arith

-- what doesn't come before a refusal that doesn't come before another one, doesn't come before that one
none_before_either : (q r : QueryRefusal) → comes_first q r ≡ false → (rs : List QueryRefusal)
    → AllByRecursion (λ s. comes_first s q ≡ false) rs → AllByRecursion (λ s. comes_first s r ≡ false) rs
none_before_either q r is [] all = tt
none_before_either q r is (s ∷ rs) all = (
  none_first (place_of s) (number_of s) (place_of q) (number_of q) (place_of r) (number_of r) all.0 is,
  none_before_either q r is rs all.1,
)

Contains-behind : (r q : QueryRefusal) (rs : List QueryRefusal) → Contains rs q → Contains (r ∷ rs) q
Contains-behind r q rs there = (suc there.0, omega (arith, there.1), there.2)

front_first : (r : QueryRefusal) (rs : List QueryRefusal) → AllByRecursion (λ s. comes_first s r ≡ false) rs → IsFirst (r ∷ rs) r
front_first r rs none = record {
  among = (0, omega arith, refl);
  none_before = (never_before_itself (place_of r) (number_of r), none);
}

module _ (r : QueryRefusal) (rs : List QueryRefusal) where
  picked : (q : QueryRefusal) (b : Bool) → comes_first q r ≡ b → IsFirst rs q → MatchOption (lesser (Some r) (Some q)) ((r ∷ rs) ≡ []) (IsFirst (r ∷ rs))
  picked q true is found =
      subst (λ (o : Option QueryRefusal). MatchOption o ((r ∷ rs) ≡ []) (IsFirst (r ∷ rs))) (sym (is_lesser r q is))
      (record {
        among = Contains-behind r q rs found.among;
        none_before = (one_way (place_of q) (number_of q) (place_of r) (number_of r) is, found.none_before);
      })
  picked q false is found =
      subst (λ (o : Option QueryRefusal). MatchOption o ((r ∷ rs) ≡ []) (IsFirst (r ∷ rs))) (sym (is_no_lesser r q is))
      (front_first r rs (none_before_either q r is rs found.none_before))

  one_more : (o : Option QueryRefusal) → MatchOption o (rs ≡ []) (IsFirst rs) → MatchOption (lesser (Some r) o) ((r ∷ rs) ≡ []) (IsFirst (r ∷ rs))
  one_more None nil = front_first r rs (subst (λ (l : List QueryRefusal). AllByRecursion (λ s. comes_first s r ≡ false) l) (sym nil) tt)
  one_more (Some q) found = picked q (comes_first q r) refl found

pub least_is_first_lem : (rs : List QueryRefusal) → MatchOption (least rs) (rs ≡ []) (IsFirst rs)
least_is_first_lem [] = refl
least_is_first_lem (r ∷ rs) = one_more r rs (least rs) (least_is_first_lem rs)
