-- The refusals of a file, and their order. (The promqltest format refuses by a text; these names and their order are this
-- project's own.)
--
-- A file of more than 4,194,304 bytes is too large. Else one that is no UTF-8 is refused at the line of the first byte that
-- breaks the encoding. Else the first line that is refused refuses the file; of several faults in a line the leftmost one
-- is answered.
use Rattle.std.specs.Prelude.{ℕ, List, codes, Result, Ok, Err}
use Rattle.label_set.specs.declared.labels.LabelRefusal.{LabelRefusal}
use Rattle.label_set.specs.declared.labels.LabelRefusal.TheVariants as labels
use Rattle.match_rule.specs.declared.patterns.PatternRefusal.{PatternRefusal}
use Rattle.match_rule.specs.declared.patterns.PatternRefusal.TheVariants as patterns
use Rattle.script_read.specs.declared.fault.LineFault.{LineFault}
use Rattle.script_read.specs.declared.fault.LineFault.TheVariants as lines
use Rattle.script_read.specs.declared.fault.ReadFault.{ReadFault}
use Rattle.script_read.specs.declared.fault.ReadFault.TheVariants.{Refused, Memory}
use Rattle.script_read.specs.declared.script.ScriptRefusal.{ScriptRefusal}
use Rattle.script_read.specs.declared.script.ScriptRefusal.TheVariants.{Malformed, NativeHistogram, NotUtf8, TooLarge, NumberRange, BadPattern, BadLabels}

-- the most bytes of a file
abbrev pub limit : ℕ
limit = 4194304

-- the line of a refusal, 0 where it is the whole file
abbrev pub line_of : ScriptRefusal → ℕ
line_of TooLarge = 0
line_of (Malformed line) = line
line_of (NativeHistogram line) = line
line_of (NotUtf8 line) = line
line_of (NumberRange line) = line
line_of (BadPattern line) = line
line_of (BadLabels line) = line

-- the name of a refusal
abbrev pub name_of : ScriptRefusal → List ℕ
name_of TooLarge = codes "TooLarge"
name_of (Malformed line) = codes "Malformed"
name_of (NativeHistogram line) = codes "NativeHistogram"
name_of (NotUtf8 line) = codes "NotUtf8"
name_of (NumberRange line) = codes "NumberRange"
name_of (BadPattern line) = codes "BadPattern"
name_of (BadLabels line) = codes "BadLabels"

-- a line's fault as the file's
abbrev pub fault_at : ℕ → LineFault → ReadFault
fault_at line lines.Malformed = Refused (Malformed line)
fault_at line lines.NativeHistogram = Refused (NativeHistogram line)
fault_at line lines.NumberRange = Refused (NumberRange line)
fault_at line lines.BadPattern = Refused (BadPattern line)
fault_at line lines.BadLabels = Refused (BadLabels line)
fault_at line lines.Memory = Memory

-- what a line says, or its refusal with its number
abbrev pub at_line : {X : Type 0} → ℕ → Result X LineFault → Result X ReadFault
at_line line (Ok x) = Ok x
at_line line (Err fault) = Err (fault_at line fault)

-- any refusal of labels is BadLabels, and any of a pattern BadPattern
abbrev pub label_fault : LabelRefusal → LineFault
label_fault labels.Memory = lines.Memory
label_fault _ = lines.BadLabels

abbrev pub pattern_fault : PatternRefusal → LineFault
pattern_fault patterns.Memory = lines.Memory
pattern_fault _ = lines.BadPattern
