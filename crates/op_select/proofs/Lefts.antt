-- The instants of a feed that are left, one by one.
use Rattle.std.proofs.Common.{◌≡◌, ◌∙◌, ℕ, zero, suc, ◌+◌, ◌<◌, List, [], ◌∷◌, ◌++◌, length, map, drop, get_or, refl, ap, arith}
use Rattle.std.specs.Prelude.{ℤ, ◌<ℤ◌}
use Rattle.series_marks.specs.Reaches.{Follow, reach, reach_all}
use Rattle.series_marks.specs.Reads.{Reached}
use Rattle.step_batch.specs.Lent.{IsLater, Lent}
use Rattle.step_table.specs.Timed.{StepAt}
use Rattle.ticks.specs.declared.moment.Ms.{Ms}
use Rattle.ticks.specs.declared.walk.WalkMoment.{WalkMoment}
use Rattle.op_select.specs.Newest.{InstantsFrom}
use Rattle.op_select.proofs.Instants.{instants_next}

pub reach_left : (back : ℤ) (reached : Reached) (moment : WalkMoment) (at : List Ms) (i : ℕ) (d : Ms) → i < length at
    → reach_all back (reach back reached moment (get_or at i d)) moment (drop (i + 1) at) ≡ reach_all back reached moment (drop i at)
reach_left back reached moment [] i d h = absurd (omega arith)
reach_left back reached moment (t ∷ ts) zero d h = refl
reach_left back reached moment (t ∷ ts) (suc i) d h = let e : suc i + 1 ≡ suc (i + 1) = omega arith in rw e (reach_left back reached moment ts i d (omega arith))

pub follow_left : (back : ℤ) (reached : Reached) (moment : WalkMoment) (at : List Ms) (i : ℕ) (d : Ms) → i < length at → Follow back reached moment (drop i at)
    → Follow back (reach back reached moment (get_or at i d)) moment (drop (i + 1) at)
follow_left back reached moment [] i d h f = absurd (omega arith)
follow_left back reached moment (t ∷ ts) zero d h f = f.1
follow_left back reached moment (t ∷ ts) (suc i) d h f = let e : suc i + 1 ≡ suc (i + 1) = omega arith in rw e (follow_left back reached moment ts i d (omega arith) f)

pub instants_left : (was now : Lent) (at : List Ms) (i : ℕ) (d : Ms) → i < length at → InstantsFrom was (drop i at) → ((u : Ms) → (get_or at i d).0 <ℤ u.0 → IsLater now u) → InstantsFrom now (drop (i + 1) at)
instants_left was now [] i d h f l = absurd (omega arith)
instants_left was now (t ∷ ts) zero d h f l = instants_next now t ts f.1 l
instants_left was now (t ∷ ts) (suc i) d h f l = let e : suc i + 1 ≡ suc (i + 1) = omega arith in rw e (instants_left was now ts i d (omega arith) f l)

snoc : (front rest : List StepAt) (x : StepAt) → (front ++ x ∷ []) ++ rest ≡ front ++ x ∷ rest
snoc [] rest x = refl
snoc (y ∷ front) rest x = ap (λ (zs : List StepAt). y ∷ zs) (snoc front rest x)

pub lent_left : (f : Ms → StepAt) (front now all : List StepAt) (at : List Ms) (i : ℕ) (d : Ms) → i < length at → now ≡ front ++ f (get_or at i d) ∷ [] → front ++ map f (drop i at) ≡ all → now ++ map f (drop (i + 1) at) ≡ all
lent_left f front now all [] i d h e k = absurd (omega arith)
lent_left f front now all (t ∷ ts) zero d h e k = ap (λ (zs : List StepAt). zs ++ map f ts) e ∙ snoc front (map f ts) (f t) ∙ k
lent_left f front now all (t ∷ ts) (suc i) d h e k = let a : suc i + 1 ≡ suc (i + 1) = omega arith in rw a (lent_left f front now all ts i d (omega arith) e k)
