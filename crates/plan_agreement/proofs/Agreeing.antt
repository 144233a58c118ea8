-- What is made of steps that agree agrees, where it keeps the mark Overflow.
use Rattle.std.proofs.Common.{ℕ, zero, suc, List, [], ◌∷◌, ap, ap₂, refl, subst, inl, inr}
use Rattle.std.specs.List.{AllZip}
use Rattle.step_table.specs.Laws.{UnionHasMarks}
use Rattle.step_table.specs.Unions.{united}
use Rattle.step_table.specs.declared.step.Step.{Step}
use Rattle.xfrac.specs.declared.value.XFrac.{XFrac}
use Rattle.promql_meaning.specs.Givens.{barren, no_marks, step_of, with_scalar, with_scalars}
use Rattle.promql_meaning.specs.Meaning.{argument, step_at}
use Rattle.promql_meaning.specs.declared.given.Given.{Given}
use Rattle.promql_meaning.specs.declared.given.Given.TheVariants as given
use Rattle.step_cells.specs.CellLaws.{Agree}
use Rattle.plan_agreement.specs.Agreements.{AgreeGivens, Overflows, equal, ranges, scalars, vectors}
use Rattle.plan_agreement.proofs.Keeping.{scalar_keeps, scalars_keep}
use Rattle.plan_agreement.proofs.Overflows.{Lost, fatal_keeps, notes_keep, united_left, united_right}

-- ---- of one step, of two, of three

pub one_agrees : (F : Step → Step) → ((s : Step) → Lost s → Lost (F s)) → (a b : Step) → Agree a b → Agree (F a) (F b)
one_agrees F keeps a b (inl e) = inl (ap F e)
one_agrees F keeps a b (inr h) = inr (keeps a h.0, keeps b h.1)

pub two_agree : (F : Step → Step → Step) → ((s u : Step) → Lost s → Lost (F s u)) → ((s u : Step) → Lost u → Lost (F s u))
    → (a b c d : Step) → Agree a c → Agree b d → Agree (F a b) (F c d)
two_agree F left right a b c d (inl e) (inl h) = inl (ap₂ F e h)
two_agree F left right a b c d (inl e) (inr h) = inr (right a b h.0, right c d h.1)
two_agree F left right a b c d (inr h) k = inr (left a b h.0, left c d h.1)

pub three_agree : (F : Step → Step → Step → Step) → ((s u v : Step) → Lost s → Lost (F s u v)) → ((s u v : Step) → Lost u → Lost (F s u v)) → ((s u v : Step) → Lost v → Lost (F s u v))
    → (a b c d e f : Step) → Agree a d → Agree b e → Agree c f → Agree (F a b c) (F d e f)
three_agree F first second third a b c d e f (inl h) k l = subst (λ (x : Step). Agree (F a b c) (F x e f)) h (two_agree (F a) (second a) (third a) b c e f k l)
three_agree F first second third a b c d e f (inr h) k l = inr (first a b c h.0, first d e f h.1)

-- what has Overflow where the marks of both parts together have it
module _ (unions : UnionHasMarks) where
  pub united_agree : (F : Step → Step → Step) → ((s u : Step) → Overflows (united s.marks u.marks) → Lost (F s u)) → (a b c d : Step) → Agree a c → Agree b d → Agree (F a b) (F c d)
  united_agree F keeps = two_agree F (λ s u h. keeps s u (united_left unions s.marks u.marks h)) (λ s u h. keeps s u (united_right unions s.marks u.marks h))

  -- a function of a step and of the value of a scalar, or of the values of two
  abbrev pub Stays : (Step → Step) → Type 0
  Stays F = (s : Step) → Lost s → Lost (F s)

  pub scalar_agrees : (f : XFrac → Step → Step) → ((a : XFrac) → Stays (f a)) → (a b c d : Step) → Agree a c → Agree b d → Agree (with_scalar f a b) (with_scalar f c d)
  scalar_agrees f keeps =
      two_agree (with_scalar f)
      (λ s u h. scalar_keeps Overflows (fatal_keeps unions) (notes_keep unions) f keeps s u (united_right unions u.marks s.marks h))
      (λ s u h. scalar_keeps Overflows (fatal_keeps unions) (notes_keep unions) f keeps s u (united_left unions u.marks s.marks h))

  pub scalars_agree : (f : XFrac → XFrac → Step → Step) → ((a b : XFrac) → Stays (f a b)) → (a b c d e g : Step) → Agree a d → Agree b e → Agree c g
      → Agree (with_scalars f a b c) (with_scalars f d e g)
  scalars_agree f keeps =
      three_agree (with_scalars f)
      (λ s u v h. scalars_keep Overflows (fatal_keeps unions) (notes_keep unions) f keeps s u v (united_left unions (united v.marks s.marks) u.marks (united_right unions v.marks s.marks h)))
      (λ s u v h. scalars_keep Overflows (fatal_keeps unions) (notes_keep unions) f keeps s u v (united_right unions (united v.marks s.marks) u.marks h))
      (λ s u v h. scalars_keep Overflows (fatal_keeps unions) (notes_keep unions) f keeps s u v (united_left unions (united v.marks s.marks) u.marks (united_left unions v.marks s.marks h)))

-- ---- of what is given

pub same_given : (g : Given) → AgreeGivens g g
same_given g = equal g g refl

-- the steps of what agrees agree
pub steps_agree : (a b : Given) → AgreeGivens a b → Agree (step_of a) (step_of b)
steps_agree _ _ (equal a b e) = inl (ap step_of e)
steps_agree _ _ (scalars a b h) = h
steps_agree _ _ (vectors a b h) = h
steps_agree _ _ (ranges a b h k) = inl refl

-- ---- of arguments

abbrev pub AllAgree : List Given → List Given → Type 0
AllAgree = AllZip AgreeGivens

pub argument_agrees : (gs hs : List Given) (i : ℕ) → AllAgree gs hs → AgreeGivens (argument gs i) (argument hs i)
argument_agrees [] [] i z = same_given (given.Vector (barren no_marks))
argument_agrees [] (h ∷ hs) i z = absurd z
argument_agrees (g ∷ gs) [] i z = absurd z
argument_agrees (g ∷ gs) (h ∷ hs) zero z = z.0
argument_agrees (g ∷ gs) (h ∷ hs) (suc i) z = argument_agrees gs hs i z.1

pub at_agrees : (gs hs : List Given) (i : ℕ) → AllAgree gs hs → Agree (step_at gs i) (step_at hs i)
at_agrees gs hs i z = steps_agree (argument gs i) (argument hs i) (argument_agrees gs hs i z)
