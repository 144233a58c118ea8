-- A tree that nothing refuses.
use Rattle.std.proofs.Common.{◌≡◌, ◌∙◌, List, [], ◌∷◌, ◌++◌, length, ap, sym, refl, Bool, true, false, true≢false, arith}
use Rattle.std.specs.Prelude.{Option, Some, None, is_some, if◌then◌else◌}
use Rattle.promql_ast.specs.declared.refusal.QueryRefusal.{QueryRefusal}
use Rattle.promql_type.specs.Refusals.{comes_first, lesser, least}

chosen : (b : Bool) (r s : QueryRefusal) → is_some (if b then Some s else Some r) ≡ true
chosen true r s = refl
chosen false r s = refl

some_lesser : (r : QueryRefusal) (o : Option QueryRefusal) → is_some (lesser (Some r) o) ≡ true
some_lesser r None = refl
some_lesser r (Some s) = chosen (comes_first s r) r s

pub least_none : (xs : List QueryRefusal) → least xs ≡ None → xs ≡ []
least_none [] is = refl
least_none (r ∷ rs) is = absurd (true≢false (sym (some_lesser r (least rs)) ∙ ap is_some is))

pub left_none : (xs ys : List QueryRefusal) → xs ++ ys ≡ [] → xs ≡ []
left_none [] ys is = refl
left_none (r ∷ rs) ys is = absurd (omega (arith, ap length is))

pub right_none : (xs ys : List QueryRefusal) → xs ++ ys ≡ [] → ys ≡ []
right_none [] ys is = is
right_none (r ∷ rs) ys is = absurd (omega (arith, ap length is))
