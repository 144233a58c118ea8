-- The forms of blocks and of scripts, one by one. (The promqltest format.)
use Rattle.std.specs.Prelude.{◌≡◌, ◌≢◌, ◌≤◌, ℕ, true, false, List, [], ◌∷◌, ◌++◌, length, IsTrue, None, Ok}
use Rattle.ticks.specs.declared.moment.Ms.{Ms}
use Rattle.xfrac.specs.declared.value.XFrac.{XFrac}
use Rattle.promql_meaning.specs.declared.answer.Point.{Point}
use Rattle.promql_meaning.specs.declared.answer.ResultSeries.{ResultSeries}
use Rattle.script_read.specs.CommandForms.{IsCommand}
use Rattle.script_read.specs.Commands.{Clearing, Loading, Evaluating}
use Rattle.script_read.specs.ExpectationForms.{IsExpectation}
use Rattle.script_read.specs.Expects.{Expectation, fits, is_expectation, mode_wants, with_asked}
use Rattle.script_read.specs.Lines.{Numbered, blocks_of, broken_line, words_of}
use Rattle.ticks.specs.Moments.{Moments, places}
use Rattle.script_read.specs.Outcomes.{PatternList}
use Rattle.script_read.specs.Quotes.{has_histogram, without_comment}
use Rattle.script_read.specs.Reading.{Clears, Loads, Evaluates, Instruction}
use Rattle.script_read.specs.Refusals.{limit}
use Rattle.script_read.specs.Results.{begins_series, labels_in, points_of, stands_in, total_places}
use Rattle.script_read.specs.Series.{LabelList}
use Rattle.script_read.specs.SeriesForms.{IsItem, IsWorded}
use Rattle.script_read.specs.Words.{number_spelled}
use Rattle.script_read.specs.declared.expectation.Mode.{Mode}
use Rattle.script_read.specs.declared.script.Expectations.{Expectations}
use Rattle.script_read.specs.declared.script.Expected.TheVariants.{Scalar, Rows}
use Rattle.script_read.specs.declared.script.SeriesItem.{SeriesItem}
use Rattle.script_read.specs.declared.script.SeriesLine.{SeriesLine}

-- each word is an item
pub data AreItems : List (List ℕ) → List SeriesItem → Type 0 where
  one_item : (word : List ℕ) (item : SeriesItem) → IsItem word item → AreItems (word ∷ []) (item ∷ [])
  more_items : (word : List ℕ) (words : List (List ℕ)) (item : SeriesItem) (items : List SeriesItem) → IsItem word item → AreItems words items
      → AreItems (word ∷ words) (item ∷ items)

-- the lines behind `load`: each a series with labels, and its items
pub data AreLoaded : List Numbered → List SeriesLine → Type 0 where
  no_series : AreLoaded [] []
  series_line : (line : Numbered) (body : List Numbered) (labels : LabelList) (words : List (List ℕ)) (items : List SeriesItem) (later : List SeriesLine)
      → has_histogram (without_comment line.text) ≡ false → labels ≢ [] → IsWorded (without_comment line.text) labels words → AreItems words items
      → AreLoaded body later → AreLoaded (line ∷ body) (record { line = line.number; labels = labels; items = items } ∷ later)

-- the points of a series of a result
pub data ArePoints (m : Moments) : List (List ℕ) → List Point → Type 0 where
  -- one number, at an instant
  one_number : (word : List ℕ) (value : XFrac) → m.instant ≡ true → number_spelled word ≡ Ok value → ArePoints m (word ∷ []) (record { at = m.start; value = value } ∷ [])
  -- items on a grid, without markers of staleness
  on_grid : (words : List (List ℕ)) (items : List SeriesItem) (points : List Point) → m.instant ≡ false → AreItems words items
      → total_places items ≤ places m → points_of m items ≡ Ok points → ArePoints m words points

-- the lines behind `eval`, from what is expected on
pub data AreExpected (kept : PatternList) (m : Moments) : Expectations → List Numbered → Expectations → Type 0 where
  nothing_more : (e : Expectations) → AreExpected kept m e [] e
  -- an expectation that fits the earlier lines
  expectation_line : (e more all : Expectations) (line : Numbered) (body : List Numbered) (x : Expectation) → IsExpectation line.text x
      → IsTrue (fits e m.instant x) → with_asked kept e x ≡ Ok more → AreExpected kept m more body all → AreExpected kept m e (line ∷ body) all
  -- a series of a result, whose labels don't stand already
  row_line : (e all : Expectations) (line : Numbered) (body : List Numbered) (labels : LabelList) (words : List (List ℕ)) (points : List Point)
      (rows : List ResultSeries) → is_expectation line.text ≡ false → IsTrue (begins_series line.text) → e.fail ≡ [] → e.result ≡ Rows rows
      → stands_in (labels_in rows) labels ≡ false → IsWorded line.text labels words → ArePoints m words points
      → AreExpected kept m (record e { result = Rows (rows ++ record { labels = labels; points = points } ∷ []) }) body all
      → AreExpected kept m e (line ∷ body) all
  -- a scalar, the only line of an instant's result
  scalar_line : (e all : Expectations) (line : Numbered) (body : List Numbered) (word : List ℕ) (value : XFrac) → is_expectation line.text ≡ false
      → m.instant ≡ true → e.fail ≡ [] → e.result ≡ Rows [] → begins_series line.text ≡ false → words_of line.text ≡ word ∷ []
      → number_spelled word ≡ Ok value → AreExpected kept m (record e { result = Scalar value }) body all → AreExpected kept m e (line ∷ body) all

-- a block: its first line is a command, and behind `clear` stands the next one
pub data IsBlock (kept : PatternList) : List Numbered → List Instruction → Type 0 where
  no_lines : IsBlock kept [] []
  clear_block : (line : Numbered) (body : List Numbered) (later : List Instruction) → IsCommand line.text Clearing → IsBlock kept body later
      → IsBlock kept (line ∷ body) (record { line = line.number; deed = Clears } ∷ later)
  load_block : (line : Numbered) (body : List Numbered) (interval : Ms) (series : List SeriesLine) → IsCommand line.text (Loading interval)
      → AreLoaded body series → IsBlock kept (line ∷ body) (record { line = line.number; deed = Loads interval series } ∷ [])
  eval_block : (line : Numbered) (body : List Numbered) (mode : Mode) (m : Moments) (text : List ℕ) (expected : Expectations)
      → IsCommand line.text (Evaluating mode m text) → AreExpected kept m (mode_wants mode) body expected
      → IsBlock kept (line ∷ body) (record { line = line.number; deed = Evaluates m text expected } ∷ [])

pub data AreBlocks (kept : PatternList) : List (List Numbered) → List Instruction → Type 0 where
  no_blocks : AreBlocks kept [] []
  more_blocks : (block : List Numbered) (blocks : List (List Numbered)) (front back all : List Instruction) → IsBlock kept block front
      → AreBlocks kept blocks back → all ≡ front ++ back → AreBlocks kept (block ∷ blocks) all

-- a file that is a script
pub record IsScript (kept : PatternList) (bytes : List ℕ) (commands : List Instruction) : Type 0 where
  pub small : length bytes ≤ limit
  pub is_text : broken_line bytes ≡ None
  pub blocks : AreBlocks kept (blocks_of bytes) commands
