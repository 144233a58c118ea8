-- What samples hold, kept as whole numbers as long as each is one. (This project's own.)
use Rattle.std.specs.Prelude.{ℤ, List, map}
use Rattle.xfrac.specs.declared.value.Held.{Held}
use Rattle.xfrac.specs.declared.value.Held.TheVariants.{Value}
use Rattle.xfrac.specs.declared.value.XFrac.TheVariants.{Fin}
use Rattle.sample_store.specs.declared.values.Kept.{Kept}
use Rattle.sample_store.specs.declared.values.Kept.TheVariants.{Wholes, Mixed}

-- a sample that holds a whole number
abbrev pub whole_held : ℤ → Held
whole_held n = Value (Fin (n, 1))

-- what is held, whichever way it is kept
abbrev pub kept_values : Kept → List Held
kept_values (Wholes ns) = map whole_held ns
kept_values (Mixed hs) = hs
