-- Moments and ranges that are told to be the same are equal.
use Rattle.std.proofs.Common.{◌≡◌, ℤ, ap, refl, Some, None, Bool, true, false}
use Rattle.std.specs.Prelude.{Option, ◌&&◌}
use Rattle.std.specs.Ordering.{int_eq}
use Rattle.std.proofs.lemmas.Bool.{and_parts}
use Rattle.std.proofs.lemmas.Bool.Decides.{Decides-int_eq}
use Rattle.promql_ast.specs.declared.tree.Fixed.{Fixed}
use Rattle.promql_ast.specs.declared.tree.Fixed.TheVariants.{At, Start, End}
use Rattle.promql_ast.specs.declared.tree.Moment.{Moment}
use Rattle.ticks.specs.declared.moment.Ms.{Ms}
use Rattle.opt_selects.specs.Bases.{same_fixed, same_flag, same_moment, same_range}

fixed_same : (a b : Option Fixed) → same_fixed a b ≡ true → a ≡ b
fixed_same None None e = refl
fixed_same (Some (At a)) (Some (At b)) e = ap (λ (t : ℤ). Some (At (record { 0 = t }))) ((Decides-int_eq a.0 b.0).0 e)
fixed_same (Some Start) (Some Start) e = refl
fixed_same (Some End) (Some End) e = refl
fixed_same None (Some b) e = absurd (cc)
fixed_same (Some (At a)) None e = absurd (cc)
fixed_same (Some (At a)) (Some Start) e = absurd (cc)
fixed_same (Some (At a)) (Some End) e = absurd (cc)
fixed_same (Some Start) None e = absurd (cc)
fixed_same (Some Start) (Some (At b)) e = absurd (cc)
fixed_same (Some Start) (Some End) e = absurd (cc)
fixed_same (Some End) None e = absurd (cc)
fixed_same (Some End) (Some (At b)) e = absurd (cc)
fixed_same (Some End) (Some Start) e = absurd (cc)

flag_same : (a b : Bool) → same_flag a b ≡ true → a ≡ b
flag_same true true e = refl
flag_same true false e = absurd (cc)
flag_same false true e = absurd (cc)
flag_same false false e = refl

pub moment_same : (a b : Moment) → same_moment a b ≡ true → a ≡ b
moment_same a b e =
    let front = and_parts (same_fixed a.fixed b.fixed && int_eq a.offset.0 b.offset.0) (same_flag a.closed b.closed) e in
    let times = and_parts (same_fixed a.fixed b.fixed) (int_eq a.offset.0 b.offset.0) front.0 in
    let fixed = fixed_same a.fixed b.fixed times.0 in
    let offset = (Decides-int_eq a.offset.0 b.offset.0).0 times.1 in
    let closed = flag_same a.closed b.closed front.1 in
    λ i. record { fixed = fixed i; offset = record { 0 = offset i }; closed = closed i }

pub range_same : (a b : Option Ms) → same_range a b ≡ true → a ≡ b
range_same None None e = refl
range_same (Some a) (Some b) e = ap (λ (t : ℤ). Some (record { 0 = t })) ((Decides-int_eq a.0 b.0).0 e)
range_same None (Some b) e = absurd (cc)
range_same (Some a) None e = absurd (cc)
