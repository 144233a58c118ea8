-- A clamp is its two halves.
use Rattle.std.proofs.Common.{◌≡◌, refl, Bool, true, false, Option, None, Some, cond, ◌||◌}
use Rattle.xfrac.specs.Kinds.{is_not_a_number}
use Rattle.xfrac.specs.Order.{compares}
use Rattle.xfrac.specs.declared.value.CompareOp.TheVariants.{Lt, Gt}
use Rattle.xfrac.specs.declared.value.XFrac.TheVariants.{NaN}
use Rattle.value_fn.specs.Elements.{ClampIsBothHalves}

-- both halves and the whole, by any tests
abbrev low_half : {X : Type 0} → (X → Bool) → (X → X → Bool) → X → X → X → X
low_half nan below bad v low = cond (nan v || nan low) bad (cond (below v low) low v)

abbrev high_half : {X : Type 0} → (X → Bool) → (X → X → Bool) → X → X → X → X
high_half nan above bad v high = cond (nan v || nan high) bad (cond (above v high) high v)

abbrev whole : {X : Type 0} → (X → Bool) → (X → X → Bool) → (X → X → Bool) → X → X → X → X → Option X
whole nan below above bad v low high =
    cond (above low high) None (cond (nan v || nan low || nan high) (Some bad) (cond (below v low) (Some low) (cond (above v high) (Some high) (Some v))))

by_tests : {X : Type 0} (nan : X → Bool) (below above : X → X → Bool) (bad v low high : X) (b c d e f : Bool) →
    nan bad ≡ true → above low high ≡ false → nan v ≡ b → nan low ≡ c → nan high ≡ d → below v low ≡ e → above v high ≡ f →
    whole nan below above bad v low high ≡ Some (high_half nan above bad (low_half nan below bad v low) high)
by_tests nan below above bad v low high true c d e f is_bad order nv nl nh less more = simp (order, nv, is_bad)
by_tests nan below above bad v low high false true d e f is_bad order nv nl nh less more = simp (order, nv, nl, is_bad)
by_tests nan below above bad v low high false false true true f is_bad order nv nl nh less more = simp (order, nv, nl, nh, less)
by_tests nan below above bad v low high false false true false f is_bad order nv nl nh less more = simp (order, nv, nl, nh, less)
by_tests nan below above bad v low high false false false true f is_bad order nv nl nh less more = simp (order, nv, nl, nh, less)
by_tests nan below above bad v low high false false false false true is_bad order nv nl nh less more = simp (order, nv, nl, nh, less, more)
by_tests nan below above bad v low high false false false false false is_bad order nv nl nh less more = simp (order, nv, nl, nh, less, more)

pub clamp_halves : ClampIsBothHalves
clamp_halves v low high order =
    by_tests is_not_a_number (compares Lt) (compares Gt) NaN v low high _ _ _ _ _ refl order refl refl refl refl refl
