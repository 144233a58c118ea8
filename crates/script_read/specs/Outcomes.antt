-- Steps that may refuse: the first refusal is the answer. (This project's own.)
use Rattle.std.specs.Prelude.{◌≡◌, ℕ, Bool, List, [], ◌∷◌, ◌++◌, Result, Ok, Err}
use Rattle.script_read.specs.declared.fault.LineFault.{LineFault}
use Rattle.script_read.specs.declared.fault.LineFault.TheVariants.{Memory}
use Rattle.script_read.specs.declared.fault.ReadFault.{ReadFault}
use Rattle.script_read.specs.declared.fault.ReadFault.TheVariants as files

-- an item before others, or the first refusal
abbrev pub onto : {X E : Type 0} → Result X E → Result (List X) E → Result (List X) E
onto (Err refusal) rest = Err refusal
onto (Ok x) (Err refusal) = Err refusal
onto (Ok x) (Ok xs) = Ok (x ∷ xs)

-- items before others that may be refused
abbrev pub in_front : {X E : Type 0} → List X → Result (List X) E → Result (List X) E
in_front front (Err refusal) = Err refusal
in_front front (Ok xs) = Ok (front ++ xs)

-- items and then others, or the first refusal
abbrev pub joined : {X E : Type 0} → Result (List X) E → Result (List X) E → Result (List X) E
joined (Err refusal) rest = Err refusal
joined (Ok xs) rest = in_front xs rest

-- what a step makes of a value, or the refusal
abbrev pub then_give : {X Y E : Type 0} → Result X E → (X → Y) → Result Y E
then_give (Err refusal) make = Err refusal
then_give (Ok x) make = Ok (make x)

-- what each item gives, or the first refusal
abbrev pub each_of : {X Y E : Type 0} → (X → Result Y E) → List X → Result (List Y) E
each_of read [] = Ok []
each_of read (x ∷ xs) = onto (read x) (each_of read xs)

-- what a step that may refuse makes of a value, or the first refusal
abbrev pub then_try : {X Y E : Type 0} → Result X E → (X → Result Y E) → Result Y E
then_try (Err refusal) make = Err refusal
then_try (Ok x) make = make x

-- ---- what calls answer

-- a step of a line failed: with the refusal that is said, or for want of memory
abbrev pub Fails : {X : Type 0} → LineFault → Result X LineFault → Type 0
Fails Memory said = Unit {0}
Fails fault said = said ≡ Err fault

-- the same of a file
abbrev pub Refuses : {X : Type 0} → ReadFault → Result X ReadFault → Type 0
Refuses files.Memory said = Unit {0}
Refuses fault said = said ≡ Err fault

-- what was answered is what is said, unless memory ran out
abbrev pub Says : {X : Type 0} → Result X LineFault → Result X LineFault → Type 0
Says (Ok x) said = said ≡ Ok x
Says (Err fault) said = Fails fault said

-- what stands now is what is said, or the refusal is
abbrev pub Makes : {X Y : Type 0} → Result X LineFault → Y → Result Y LineFault → Type 0
Makes (Ok _) now said = said ≡ Ok now
Makes (Err fault) now said = Fails fault said

-- items were added that are said, or the refusal is
abbrev pub Appends : {X Y : Type 0} → Result X LineFault → List Y → List Y → Result (List Y) LineFault → Type 0
Appends (Ok _) before now said = in_front before said ≡ Ok now
Appends (Err fault) before now said = Fails fault said

-- patterns: each a flag, whether it has to match a whole value, and its text
abbrev pub PatternList : Type 0
PatternList = List (Bool × List ℕ)

-- What was answered is what is said of the patterns that are kept then. What is taken stays so with more patterns.
abbrev pub SaysWith : {X : Type 0} → Result X LineFault → PatternList → (PatternList → Result X LineFault) → Type 0
SaysWith (Ok x) kept said = (more : PatternList) → said (kept ++ more) ≡ Ok x
SaysWith (Err fault) kept said = Fails fault (said kept)

-- what stands now is what is said of the patterns that are kept then
abbrev pub MakesWith : {X Y : Type 0} → Result X LineFault → Y → PatternList → (PatternList → Result Y LineFault) → Type 0
MakesWith (Ok _) now kept said = (more : PatternList) → said (kept ++ more) ≡ Ok now
MakesWith (Err fault) now kept said = Fails fault (said kept)

-- the same of a file
abbrev pub Gives : {X : Type 0} → Result X ReadFault → Result X ReadFault → Type 0
Gives (Ok x) said = said ≡ Ok x
Gives (Err fault) said = Refuses fault said

abbrev pub GivesWith : {X : Type 0} → Result X ReadFault → PatternList → (PatternList → Result X ReadFault) → Type 0
GivesWith (Ok x) kept said = (more : PatternList) → said (kept ++ more) ≡ Ok x
GivesWith (Err fault) kept said = Refuses fault (said kept)
