-- The refusals of a query: which comes first of two, where each stands, and the name of its kind. The order of the kinds and
-- their names are this project's own.
use Rattle.std.specs.Prelude.{ℕ, List, codes}
use Rattle.promql_ast.specs.declared.refusal.QueryRefusal.{QueryRefusal}
use Rattle.promql_ast.specs.declared.refusal.QueryRefusal.TheVariants.{TooLong, BadToken, Unterminated, BadEscape, BadNumber, NumberRange, LeadingZero, BadDuration, DurationRange, Expected, TooDeep, UnknownFunction, RefusedFunction, EmptySelector, BadPattern, TooManyPatterns, LabelTwice, NameTwice, BadTemplate, BadLabelName, WrongType, WrongArity, NeedsBool, SetOnScalar, RangeResult, StringResult, TooManyPoints}

-- the place that decided it
abbrev pub place_of : QueryRefusal → ℕ
place_of (TooLong at) = at
place_of (BadToken at) = at
place_of (Unterminated at) = at
place_of (BadEscape at) = at
place_of (BadNumber at) = at
place_of (NumberRange at) = at
place_of (LeadingZero at) = at
place_of (BadDuration at) = at
place_of (DurationRange at) = at
place_of (Expected at) = at
place_of (TooDeep at) = at
place_of (UnknownFunction at name) = at
place_of (RefusedFunction at name) = at
place_of (EmptySelector at) = at
place_of (BadPattern at) = at
place_of (TooManyPatterns at) = at
place_of (LabelTwice at) = at
place_of (NameTwice at) = at
place_of (BadTemplate at) = at
place_of (BadLabelName at) = at
place_of (WrongType at) = at
place_of (WrongArity at) = at
place_of (NeedsBool at) = at
place_of (SetOnScalar at) = at
place_of (RangeResult at) = at
place_of (StringResult at) = at
place_of (TooManyPoints at) = at

-- the number of its kind, from 1 to 27
abbrev pub number_of : QueryRefusal → ℕ
number_of (TooLong at) = 1
number_of (BadToken at) = 2
number_of (Unterminated at) = 3
number_of (BadEscape at) = 4
number_of (BadNumber at) = 5
number_of (NumberRange at) = 6
number_of (LeadingZero at) = 7
number_of (BadDuration at) = 8
number_of (DurationRange at) = 9
number_of (Expected at) = 10
number_of (TooDeep at) = 11
number_of (UnknownFunction at name) = 12
number_of (RefusedFunction at name) = 13
number_of (EmptySelector at) = 14
number_of (BadPattern at) = 15
number_of (TooManyPatterns at) = 16
number_of (LabelTwice at) = 17
number_of (NameTwice at) = 18
number_of (BadTemplate at) = 19
number_of (BadLabelName at) = 20
number_of (WrongType at) = 21
number_of (WrongArity at) = 22
number_of (NeedsBool at) = 23
number_of (SetOnScalar at) = 24
number_of (RangeResult at) = 25
number_of (StringResult at) = 26
number_of (TooManyPoints at) = 27

-- the name of its kind
abbrev pub name_of : QueryRefusal → List ℕ
name_of (TooLong at) = codes "TooLong"
name_of (BadToken at) = codes "BadToken"
name_of (Unterminated at) = codes "Unterminated"
name_of (BadEscape at) = codes "BadEscape"
name_of (BadNumber at) = codes "BadNumber"
name_of (NumberRange at) = codes "NumberRange"
name_of (LeadingZero at) = codes "LeadingZero"
name_of (BadDuration at) = codes "BadDuration"
name_of (DurationRange at) = codes "DurationRange"
name_of (Expected at) = codes "Expected"
name_of (TooDeep at) = codes "TooDeep"
name_of (UnknownFunction at function) = codes "UnknownFunction"
name_of (RefusedFunction at function) = codes "RefusedFunction"
name_of (EmptySelector at) = codes "EmptySelector"
name_of (BadPattern at) = codes "BadPattern"
name_of (TooManyPatterns at) = codes "TooManyPatterns"
name_of (LabelTwice at) = codes "LabelTwice"
name_of (NameTwice at) = codes "NameTwice"
name_of (BadTemplate at) = codes "BadTemplate"
name_of (BadLabelName at) = codes "BadLabelName"
name_of (WrongType at) = codes "WrongType"
name_of (WrongArity at) = codes "WrongArity"
name_of (NeedsBool at) = codes "NeedsBool"
name_of (SetOnScalar at) = codes "SetOnScalar"
name_of (RangeResult at) = codes "RangeResult"
name_of (StringResult at) = codes "StringResult"
name_of (TooManyPoints at) = codes "TooManyPoints"
