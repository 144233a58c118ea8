-- An operator by whether its sides are scalars, and by their steps.
use Rattle.std.proofs.Common.{◌≡◌, Bool, true, false, refl}
use Rattle.label_set.specs.declared.rules.Pairing.{Pairing}
use Rattle.step_table.specs.Matching.{paired}
use Rattle.step_table.specs.declared.step.Step.{Step}
use Rattle.xfrac.specs.declared.value.PairOp.{PairOp}
use Rattle.promql_meaning.specs.Elements.{operated_rows}
use Rattle.promql_meaning.specs.Givens.{step_of, with_scalar}
use Rattle.promql_meaning.specs.Meaning.{operation}
use Rattle.promql_meaning.specs.declared.given.Given.{Given}
use Rattle.promql_meaning.specs.declared.given.Given.TheVariants as given

abbrev pub is_scalar : Given → Bool
is_scalar (given.Scalar step) = true
is_scalar (given.Vector step) = false
is_scalar (given.Selected selection) = false
is_scalar (given.Windows w) = false
is_scalar (given.Words text) = false

abbrev pub sides : PairOp → Pairing → Bool → Bool → Step → Step → Given
sides op pairing true true l r = given.Scalar (with_scalar (operated_rows op false) r l)
sides op pairing true false l r = given.Vector (with_scalar (operated_rows op true) l r)
sides op pairing false true l r = given.Vector (with_scalar (operated_rows op false) r l)
sides op pairing false false l r = given.Vector (paired l r op pairing)

pub operation_is : (op : PairOp) (pairing : Pairing) (a b : Given) → operation op pairing a b ≡ sides op pairing (is_scalar a) (is_scalar b) (step_of a) (step_of b)
operation_is op pairing (given.Scalar a) (given.Scalar b) = refl
operation_is op pairing (given.Scalar a) (given.Vector b) = refl
operation_is op pairing (given.Scalar a) (given.Selected b) = refl
operation_is op pairing (given.Scalar a) (given.Windows b) = refl
operation_is op pairing (given.Scalar a) (given.Words b) = refl
operation_is op pairing (given.Vector a) (given.Scalar b) = refl
operation_is op pairing (given.Vector a) (given.Vector b) = refl
operation_is op pairing (given.Vector a) (given.Selected b) = refl
operation_is op pairing (given.Vector a) (given.Windows b) = refl
operation_is op pairing (given.Vector a) (given.Words b) = refl
operation_is op pairing (given.Selected a) (given.Scalar b) = refl
operation_is op pairing (given.Selected a) (given.Vector b) = refl
operation_is op pairing (given.Selected a) (given.Selected b) = refl
operation_is op pairing (given.Selected a) (given.Windows b) = refl
operation_is op pairing (given.Selected a) (given.Words b) = refl
operation_is op pairing (given.Windows a) (given.Scalar b) = refl
operation_is op pairing (given.Windows a) (given.Vector b) = refl
operation_is op pairing (given.Windows a) (given.Selected b) = refl
operation_is op pairing (given.Windows a) (given.Windows b) = refl
operation_is op pairing (given.Windows a) (given.Words b) = refl
operation_is op pairing (given.Words a) (given.Scalar b) = refl
operation_is op pairing (given.Words a) (given.Vector b) = refl
operation_is op pairing (given.Words a) (given.Selected b) = refl
operation_is op pairing (given.Words a) (given.Windows b) = refl
operation_is op pairing (given.Words a) (given.Words b) = refl
