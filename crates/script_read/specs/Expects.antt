-- What is expected of an evaluation, its result aside: `expect ordered`, `expect fail`, `expect warn`, `expect info`,
-- `expect no_warn` and `expect no_info`; behind fail, warn and info may stand `msg:` or `regex:` and a text to the end of the
-- line. (The promqltest format. What may stand beside what is this project's own.)
use Rattle.std.specs.Prelude.{◌≡◌, ◌≤◌, ◌⊎◌, ℕ, Bool, true, false, ◌||◌, not, if◌then◌else◌, List, [], ◌∷◌, ◌++◌, bytes_eq, codes, drop, length, take, Option, None, Some, Result, Ok, Err}
use Rattle.std.specs.List.{Contains}
use Rattle.match_rule.specs.Patterns.{IsRefused, is_kept, is_plain, is_readable, number_of, regex_text}
use Rattle.script_read.specs.Lines.{Numbered, behind_word, first_word, from_blank, is_empty}
use Rattle.script_read.specs.Outcomes.{PatternList, then_give, then_try}
use Rattle.script_read.specs.Words.{text_told}
use Rattle.script_read.specs.declared.expectation.Mode.{Mode}
use Rattle.script_read.specs.declared.expectation.Mode.TheVariants as modes
use Rattle.script_read.specs.declared.fault.LineFault.{LineFault}
use Rattle.script_read.specs.declared.fault.LineFault.TheVariants.{Malformed, BadPattern}
use Rattle.script_read.specs.declared.fault.ReadFault.{ReadFault}
use Rattle.script_read.specs.declared.fault.ReadFault.TheVariants.{Refused}
use Rattle.script_read.specs.declared.script.ScriptRefusal.TheVariants as refusals
use Rattle.script_read.specs.declared.script.Expectations.{Expectations}
use Rattle.script_read.specs.declared.script.Expected.{Expected}
use Rattle.script_read.specs.declared.script.Expected.TheVariants.{Scalar, Rows}
use Rattle.script_read.specs.declared.script.Wanted.{Wanted}
use Rattle.script_read.specs.declared.script.Wanted.TheVariants.{Any, Msg, Regex}

-- ---- what a line says

-- what a failure, a warning or an info note has to be: anything, this text, or a text in which a pattern is found
pub data Tested : Type 0 where
  Anything : Tested
  Message : List ℕ → Tested
  Search : List ℕ → Tested

pub data Expectation : Type 0 where
  InOrder : Expectation
  Failing : Tested → Expectation
  Warning : Tested → Expectation
  Informing : Tested → Expectation
  WithoutWarnings : Expectation
  WithoutInfos : Expectation

-- an expectation begins with the word `expect`, or with one of the two of the older forms
abbrev pub is_expectation : List ℕ → Bool
is_expectation text =
    bytes_eq (first_word text) (codes "expect") || (bytes_eq (first_word text) (codes "expected_fail_message")
    || bytes_eq (first_word text) (codes "expected_fail_regexp"))

-- a text to the end of the line, of at least one byte
abbrev pub filled : List ℕ → Result (List ℕ) LineFault
filled [] = Err Malformed
filled (byte ∷ bytes) = text_told (byte ∷ bytes)

-- a mark at the front of a text
abbrev pub is_marked : List ℕ → List ℕ → Bool
is_marked mark text = bytes_eq (take (length mark) text) mark

abbrev pub behind_mark : List ℕ → List ℕ → List ℕ
behind_mark mark text = from_blank (drop (length mark) text)

-- nothing, or `msg:` or `regex:` and a text
abbrev pub test_of : List ℕ → Result Tested LineFault
test_of text =
    if is_empty text then Ok Anything
    else if is_marked (codes "msg:") text then then_give (filled (behind_mark (codes "msg:") text)) Message
    else if is_marked (codes "regex:") text then then_give (filled (behind_mark (codes "regex:") text)) Search
    else Err Malformed

-- nothing stands behind
abbrev pub alone : Expectation → List ℕ → Result Expectation LineFault
alone expectation [] = Ok expectation
alone expectation (byte ∷ bytes) = Err Malformed

-- `ordered`, `no_warn` and `no_info` stand alone
abbrev pub plain_worded : List ℕ → Option Expectation
plain_worded word =
    if bytes_eq word (codes "ordered") then Some InOrder
    else if bytes_eq word (codes "no_warn") then Some WithoutWarnings
    else if bytes_eq word (codes "no_info") then Some WithoutInfos
    else None

-- a test may follow `fail`, `warn` and `info`
abbrev pub tested_worded : List ℕ → Tested → Result Expectation LineFault
tested_worded word test =
    if bytes_eq word (codes "fail") then Ok (Failing test)
    else if bytes_eq word (codes "warn") then Ok (Warning test)
    else if bytes_eq word (codes "info") then Ok (Informing test)
    else Err Malformed

abbrev pub expected_by : Option Expectation → List ℕ → List ℕ → Result Expectation LineFault
expected_by (Some expectation) word behind = alone expectation behind
expected_by None word behind = then_try (test_of behind) (tested_worded word)

-- behind the word `expect`
abbrev pub expect_of : List ℕ → Result Expectation LineFault
expect_of text = expected_by (plain_worded (first_word text)) (first_word text) (behind_word text)

-- a line's expectation; the older forms are taken as `expect fail msg:` and `expect fail regex:`
abbrev pub expectation_of : List ℕ → Result Expectation LineFault
expectation_of text =
    if bytes_eq (first_word text) (codes "expect") then expect_of (behind_word text)
    else if bytes_eq (first_word text) (codes "expected_fail_message") then then_give (filled (behind_word text)) (λ message. Failing (Message message))
    else if bytes_eq (first_word text) (codes "expected_fail_regexp") then then_give (filled (behind_word text)) (λ pattern. Failing (Search pattern))
    else Err Malformed

-- ---- beside the earlier lines

abbrev pub has_no_result : Expected → Bool
has_no_result (Scalar value) = false
has_no_result (Rows rows) = is_empty rows

-- a failure stands beside no result, warnings and info notes not beside their absence, and an order in an instant alone
abbrev pub fits : Expectations → Bool → Expectation → Bool
fits e instant InOrder = instant
fits e instant (Failing test) = has_no_result e.result
fits e instant (Warning test) = not e.no_warn
fits e instant (Informing test) = not e.no_info
fits e instant WithoutWarnings = is_empty e.warn
fits e instant WithoutInfos = is_empty e.info

-- what a test wants, where these patterns are kept: a pattern by its number; one that isn't among them is refused
abbrev pub wanted_for : PatternList → Tested → Result Wanted LineFault
wanted_for kept Anything = Ok Any
wanted_for kept (Message text) = Ok (Msg text)
wanted_for kept (Search text) = if is_kept (false, text) kept then Ok (Regex (record { 0 = number_of (false, text) kept })) else Err BadPattern

-- one expectation more
abbrev pub with_asked : PatternList → Expectations → Expectation → Result Expectations LineFault
with_asked kept e InOrder = Ok (record e { ordered = true })
with_asked kept e (Failing test) = then_give (wanted_for kept test) (λ wanted. record e { fail = e.fail ++ wanted ∷ [] })
with_asked kept e (Warning test) = then_give (wanted_for kept test) (λ wanted. record e { warn = e.warn ++ wanted ∷ [] })
with_asked kept e (Informing test) = then_give (wanted_for kept test) (λ wanted. record e { info = e.info ++ wanted ∷ [] })
with_asked kept e WithoutWarnings = Ok (record e { no_warn = true })
with_asked kept e WithoutInfos = Ok (record e { no_info = true })

abbrev pub if_fits : PatternList → Expectations → Bool → Expectation → Result Expectations LineFault
if_fits kept e instant expectation = if fits e instant expectation then with_asked kept e expectation else Err Malformed

-- an expectation's line beside the earlier ones: that it doesn't fit is told before its pattern is refused
abbrev pub expectation_added : PatternList → Expectations → Bool → List ℕ → Result Expectations LineFault
expectation_added kept e instant text = then_try (expectation_of text) (if_fits kept e instant)

-- ---- modes

abbrev pub nothing_wanted : Expectations
nothing_wanted = record { fail = []; warn = []; no_warn = false; info = []; no_info = false; ordered = false; result = Rows [] }

-- a mode stands for the line `expect` of its name
abbrev pub mode_wants : Mode → Expectations
mode_wants modes.Plain = nothing_wanted
mode_wants modes.Fail = record nothing_wanted { fail = Any ∷ [] }
mode_wants modes.Warn = record nothing_wanted { warn = Any ∷ [] }
mode_wants modes.Info = record nothing_wanted { info = Any ∷ [] }
mode_wants modes.Ordered = record nothing_wanted { ordered = true }

-- ---- refused patterns

-- a pattern isn't among the kept ones: `regex` refuses it, and not for want of memory, or it can be read and 32 others are kept
abbrev pub IsRefusedSearch : PatternList → List ℕ → Type 0
IsRefusedSearch kept text =
    ((is_plain text ≡ false) × IsRefused (regex_text false text)) ⊎ ((is_readable false text ≡ true) × (is_kept (false, text) kept ≡ false) × (length kept ≡ 32))

-- the pattern that a test, an expectation or a line names
abbrev pub search_tested : Tested → Option (List ℕ)
search_tested (Search pattern) = Some pattern
search_tested _ = None

abbrev pub search_asked : Expectation → Option (List ℕ)
search_asked (Failing test) = search_tested test
search_asked (Warning test) = search_tested test
search_asked (Informing test) = search_tested test
search_asked _ = None

abbrev pub search_in : Result Expectation LineFault → Option (List ℕ)
search_in (Ok expectation) = search_asked expectation
search_in (Err fault) = None

abbrev pub search_on : List ℕ → Option (List ℕ)
search_on text = search_in (expectation_of text)

-- a line that names a pattern has the fault BadPattern only where that one is refused, and another line never has it
abbrev pub RefusesPattern : PatternList → Option (List ℕ) → LineFault → Type 0
RefusesPattern kept (Some pattern) BadPattern = IsRefusedSearch kept pattern
RefusesPattern kept None BadPattern = ⊥
RefusesPattern kept search _ = Unit {0}

-- a file has the refusal BadPattern only where the pattern of that line is refused
abbrev pub RefusesOnLine : PatternList → List Numbered → ReadFault → Type 0
RefusesOnLine kept lines (Refused (refusals.BadPattern n)) =
    (line : Numbered) × Contains lines line × (line.number ≡ n) × RefusesPattern kept (search_on line.text) BadPattern
RefusesOnLine kept lines _ = Unit {0}

-- ---- kept patterns

-- a pattern that is enough in a part of a text, and whose text is this
abbrev pub IsSearch : Option (List ℕ) → Bool × List ℕ → Type 0
IsSearch search pattern = (pattern.0 ≡ false) × (search ≡ Some pattern.1)

-- A line that names this pattern, or none, adds no other one, and no pattern is lost or moved. What is added can be read, and at
-- most 32 are kept then.
pub record GrowsBy (search : Option (List ℕ)) (before now : PatternList) : Type 0 where
  pub more : PatternList
  pub behind : now ≡ before ++ more
  pub named : (pattern : Bool × List ℕ) → Contains more pattern → IsSearch search pattern
  pub readable : (pattern : Bool × List ℕ) → Contains more pattern → is_readable pattern.0 pattern.1 ≡ true
  pub few : length before ≤ 32 → length now ≤ 32

-- Lines add the patterns that they name and no other one, and no pattern is lost or moved. What is added can be read, and at most
-- 32 are kept then.
pub record Gathers (lines : List Numbered) (before now : PatternList) : Type 0 where
  pub more : PatternList
  pub behind : now ≡ before ++ more
  pub named : (pattern : Bool × List ℕ) → Contains more pattern → (line : Numbered) × Contains lines line × IsSearch (search_on line.text) pattern
  pub readable : (pattern : Bool × List ℕ) → Contains more pattern → is_readable pattern.0 pattern.1 ≡ true
  pub few : length before ≤ 32 → length now ≤ 32
