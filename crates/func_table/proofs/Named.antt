-- The names of functions and aggregations are those that they are found by.
use Rattle.std.proofs.Common.{◌≡◌, ◌∙◌, ℕ, Bool, true, false, List, [], ◌∷◌, refl, sym, ap}
use Rattle.std.specs.Prelude.{bytes_eq, if◌then◌else◌, Option, None, Some}
use Rattle.std.specs.List.{AllByRecursion}
use Rattle.std.specs.Map.{lookup}
use Rattle.std.specs.Option.{option_map_or}
use Rattle.std.proofs.lemmas.Slice.Eq.{bytes_eq-Decides}
use Rattle.func_table.specs.declared.table.CalendarPart.{CalendarPart}
use Rattle.func_table.specs.declared.table.CalendarPart.TheVariants.{DayOfMonth, DayOfWeek, DayOfYear, DaysInMonth, Hour, Minute, Month, Year}
use Rattle.func_table.specs.declared.table.Element.{Element as ElementFunction}
use Rattle.func_table.specs.declared.table.Element.TheVariants.{Calendar, Abs, Ceil, Floor, Round, Sgn, Neg, Clamp, ClampMin, ClampMax}
use Rattle.func_table.specs.declared.table.Found.TheVariants.{Known, Refused, Unknown}
use Rattle.func_table.specs.declared.table.Func.{Func}
use Rattle.func_table.specs.declared.table.Func.TheVariants.{Element, Window, Absent, AbsentOver, HistogramQuantile, LabelJoin, LabelReplace, Scalar, Sort, SortDesc, Time, Timestamp, Vector}
use Rattle.func_table.specs.declared.table.Window.{Window as WindowFunction}
use Rattle.func_table.specs.declared.table.Window.TheVariants.{Rate, Increase, Delta, Irate, Idelta, Deriv, PredictLinear, Changes, Resets, AvgOver, MinOver, MaxOver, SumOver, CountOver, StdvarOver, QuantileOver, LastOver, PresentOver}
use Rattle.func_table.specs.Names.{found_of, function_of, functions, is_among, refused_names}
use Rattle.func_table.specs.Naming.{FoundNamesAreTheirs, NamesAreFound, calendar_name, element_name, function_name, window_name}

-- ---- each name is found

calendar_found : (part : CalendarPart) → found_of (calendar_name part) ≡ Known (Element (Calendar part))
calendar_found DayOfMonth = refl
calendar_found DayOfWeek = refl
calendar_found DayOfYear = refl
calendar_found DaysInMonth = refl
calendar_found Hour = refl
calendar_found Minute = refl
calendar_found Month = refl
calendar_found Year = refl

element_found : (f : ElementFunction) → (Element f ≡ Element Neg → ⊥) → found_of (element_name f) ≡ Known (Element f)
element_found Abs named = refl
element_found Ceil named = refl
element_found Floor named = refl
element_found Round named = refl
element_found Sgn named = refl
element_found Neg named = absurd (named refl)
element_found Clamp named = refl
element_found ClampMin named = refl
element_found ClampMax named = refl
element_found (Calendar part) named = calendar_found part

window_found : (f : WindowFunction) → found_of (window_name f) ≡ Known (Window f)
window_found Rate = refl
window_found Increase = refl
window_found Delta = refl
window_found Irate = refl
window_found Idelta = refl
window_found Deriv = refl
window_found PredictLinear = refl
window_found Changes = refl
window_found Resets = refl
window_found AvgOver = refl
window_found MinOver = refl
window_found MaxOver = refl
window_found SumOver = refl
window_found CountOver = refl
window_found StdvarOver = refl
window_found QuantileOver = refl
window_found LastOver = refl
window_found PresentOver = refl

pub names_found : NamesAreFound
names_found (Element f) named = element_found f named
names_found (Window f) named = window_found f
names_found Absent named = refl
names_found AbsentOver named = refl
names_found HistogramQuantile named = refl
names_found LabelJoin named = refl
names_found LabelReplace named = refl
names_found Scalar named = refl
names_found Sort named = refl
names_found SortDesc named = refl
names_found Time named = refl
names_found Timestamp named = refl
names_found Vector named = refl

-- ---- and no other

-- a function beside a name has that name
abbrev IsNamed : List ℕ × Func → Type 0
IsNamed entry = entry.0 ≡ function_name entry.1

all_named : AllByRecursion IsNamed functions
all_named = (refl, (refl, (refl, (refl, (refl, (refl, (refl, (refl, (refl, (refl, (refl, (refl, (refl, (refl, (refl, (refl, (refl, (refl, (refl, (refl, (refl, (refl, (refl, (refl, (refl, (refl, (refl, (refl, (refl, (refl, (refl, (refl, (refl, (refl, (refl, (refl, (refl, (refl, (refl, (refl, (refl, (refl, (refl, (refl, (refl, tt)))))))))))))))))))))))))))))))))))))))))))))

-- what is looked up by a name in such a table has it
looked_up : (t : Bool) (name other : List ℕ) (f g : Func) (later : Option Func) → bytes_eq other name ≡ t → other ≡ function_name g → (later ≡ Some f → name ≡ function_name f)
    → (if t then Some g else later) ≡ Some f → name ≡ function_name f
looked_up true name other f g later same named behind e =
    let is : g ≡ f = cc in
    sym ((bytes_eq-Decides other name).0 same) ∙ named ∙ ap function_name is
looked_up false name other f g later same named behind e = behind e

named_by : (table : List (List ℕ × Func)) (name : List ℕ) (f : Func) → AllByRecursion IsNamed table → lookup (λ other. bytes_eq other name) table ≡ Some f → name ≡ function_name f
named_by [] name f all e = absurd (cc)
named_by (entry ∷ table) name f all e =
    looked_up (bytes_eq entry.0 name) name entry.0 f entry.1 (lookup (λ other. bytes_eq other name) table) refl all.0 (named_by table name f all.1) e

-- a name that is known has a function
known : (o : Option Func) (refused : Bool) (f : Func) → option_map_or Known o (if refused then Refused else Unknown) ≡ Known f → o ≡ Some f
known (Some g) refused f e = cc
known None true f e = absurd (cc)
known None false f e = absurd (cc)

pub others_unknown : FoundNamesAreTheirs
others_unknown name f e = named_by functions name f all_named (known (function_of name) (is_among refused_names name) f e)
