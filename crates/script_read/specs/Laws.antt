-- Laws of the reading of scripts and the grammar.
use Rattle.std.specs.Prelude.{◌≡◌, ◌≤◌, ◌↔◌, ℕ, List, ◌∷◌, ◌++◌, length, None, Result, Ok, Err}
use Rattle.std.specs.List.{slice_split}
use Rattle.script_read.specs.BlockForms.{IsScript}
use Rattle.script_read.specs.CommandForms.{IsCommand}
use Rattle.script_read.specs.Commands.{Order, heading_of}
use Rattle.script_read.specs.ExpectationForms.{IsExpectation}
use Rattle.script_read.specs.Expects.{Expectation, expectation_of}
use Rattle.script_read.specs.Items.{item_spelled}
use Rattle.script_read.specs.Lines.{Numbered, broken_line, has_no_text, lines_of}
use Rattle.script_read.specs.Outcomes.{PatternList}
use Rattle.script_read.specs.Reading.{Instruction, commands_of, reading}
use Rattle.script_read.specs.Refusals.{fault_at, limit}
use Rattle.script_read.specs.SeriesForms.{IsItem}
use Rattle.script_read.specs.declared.fault.LineFault.{LineFault}
use Rattle.script_read.specs.declared.fault.ReadFault.{ReadFault}
use Rattle.script_read.specs.declared.script.SeriesItem.{SeriesItem}

-- a file that is read is a script by the grammar, with these commands
abbrev pub ReadIsInGrammar : Type 0
ReadIsInGrammar = (kept : PatternList) (bytes : List ℕ) (commands : List Instruction) → reading kept bytes ≡ Ok commands → IsScript kept bytes commands

-- each script of the grammar is read
abbrev pub InGrammarIsRead : Type 0
InGrammarIsRead = (kept : PatternList) (bytes : List ℕ) (commands : List Instruction) → IsScript kept bytes commands → reading kept bytes ≡ Ok commands

-- a file is one script at most
abbrev pub OneScript : Type 0
OneScript = (kept : PatternList) (bytes : List ℕ) (a b : List Instruction) → IsScript kept bytes a → IsScript kept bytes b → a ≡ b

-- ---- refusals

-- the commands of lines
abbrev pub lines_read : PatternList → List Numbered → Result (List Instruction) ReadFault
lines_read kept lines = commands_of kept (slice_split has_no_text lines)

-- A line refuses the lines of a file: those before it are commands, and with it they are refused so, whatever stands behind.
pub record IsFirstRefused (kept : PatternList) (lines : List Numbered) (refusal : ReadFault) : Type 0 where
  pub front : List Numbered
  pub line : Numbered
  pub more : List Numbered
  pub joined : lines ≡ front ++ (line ∷ more)
  pub taken : (commands : List Instruction) × (lines_read kept front ≡ Ok commands)
  pub refused : (others : List Numbered) → lines_read kept (front ++ (line ∷ others)) ≡ Err refusal
  pub told : (fault : LineFault) × (refusal ≡ fault_at line.number fault)

-- a text of at most so many bytes is refused by the first line that is
abbrev pub RefusalIsFirst : Type 0
RefusalIsFirst = (kept : PatternList) (bytes : List ℕ) (refusal : ReadFault) → length bytes ≤ limit → broken_line bytes ≡ None → reading kept bytes ≡ Err refusal
    → IsFirstRefused kept (lines_of bytes) refusal

-- ---- of its parts

abbrev pub CommandsAreInGrammar : Type 0
CommandsAreInGrammar = (text : List ℕ) (order : Order) → (heading_of text ≡ Ok order) ↔ IsCommand text order

abbrev pub ExpectationsAreInGrammar : Type 0
ExpectationsAreInGrammar = (text : List ℕ) (x : Expectation) → (expectation_of text ≡ Ok x) ↔ IsExpectation text x

abbrev pub ItemsAreInGrammar : Type 0
ItemsAreInGrammar = (word : List ℕ) (item : SeriesItem) → (item_spelled word ≡ Ok item) ↔ IsItem word item
