-- What operators take and give, by the Prometheus querying documentation, "Operators".
use Rattle.std.specs.Prelude.{Bool, true, false}
use Rattle.promql_type.specs.declared.kind.Kind.{Kind}
use Rattle.promql_type.specs.declared.kind.Kind.TheVariants.{Scalar, Vector, Windows, Words}

-- an operator or a sign takes numbers and instant vectors
abbrev pub is_number : Kind → Bool
is_number Scalar = true
is_number Vector = true
is_number Windows = false
is_number Words = false

abbrev pub is_scalar : Kind → Bool
is_scalar Scalar = true
is_scalar Vector = false
is_scalar Windows = false
is_scalar Words = false

-- an operator gives a number where both sides are numbers, and else an instant vector
abbrev pub both : Kind → Kind → Kind
both Scalar Scalar = Scalar
both left right = Vector

-- whether what is given is what is wanted
abbrev pub is_kind : Kind → Kind → Bool
is_kind Scalar Scalar = true
is_kind Vector Vector = true
is_kind Windows Windows = true
is_kind Words Words = true
is_kind wanted given = false
