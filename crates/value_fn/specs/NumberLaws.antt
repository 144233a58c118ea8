-- Which values of element functions are numbers. (This project's own.)
use Rattle.std.specs.Prelude.{IfOk, IfSome}
use Rattle.func_table.specs.declared.table.Element.{Element}
use Rattle.xfrac.specs.Laws.{IsNumber}
use Rattle.xfrac.specs.declared.value.XFrac.{XFrac}
use Rattle.value_fn.specs.Elements.{element_of}

-- the value of an element function of numbers is a number
abbrev pub ElementIsNumber : Type 0
ElementIsNumber =
    (f : Element) (v first second : XFrac) → IsNumber v → IsNumber first → IsNumber second → IfOk (element_of f v first second) (λ row. IfSome row IsNumber)
