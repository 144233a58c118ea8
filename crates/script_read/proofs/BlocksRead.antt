-- A script of the grammar is read as its commands.
use Rattle.std.proofs.Common.{◌≡◌, ◌≤◌, ℕ, ◌+◌, ◌-◌, true, false, cond, List, [], ◌∷◌, ◌++◌, length, Result, Ok, Err, refl, ap, sym, ◌∙◌, arith}
use Rattle.std.proofs.lemmas.Bool.{le-leb, le-ltb, lt-ltb}
use Rattle.xfrac.specs.declared.value.XFrac.{XFrac}
use Rattle.promql_meaning.specs.declared.answer.Point.{Point}
use Rattle.promql_meaning.specs.declared.answer.ResultSeries.{ResultSeries}
use Rattle.script_read.specs.BlockForms.{AreBlocks, AreExpected, AreItems, AreLoaded, ArePoints, IsBlock, IsScript, clear_block, eval_block, expectation_line, load_block, more_blocks, more_items, no_blocks, no_lines, no_series, nothing_more, on_grid, one_item, one_number, row_line, scalar_line, series_line}
use Rattle.script_read.specs.Commands.{Order, Clearing, Loading, Evaluating, heading_of}
use Rattle.script_read.specs.Expects.{Expectation, expectation_added, expectation_of, fits, if_fits, is_expectation, mode_wants, with_asked}
use Rattle.script_read.specs.Items.{item_spelled}
use Rattle.script_read.specs.Lines.{Numbered, blocks_of, broken_line, is_empty, words_behind, words_of}
use Rattle.ticks.specs.Moments.{Moments, places}
use Rattle.script_read.specs.Outcomes.{PatternList, each_of, in_front, joined, onto, then_give, then_try}
use Rattle.script_read.specs.Quotes.{has_histogram, without_comment}
use Rattle.script_read.specs.Reading.{Clears, Evaluates, Instruction, Loads, body_line, command_headed, commands_in, commands_of, expected_after, followed, items_spelled, line_with, reading, series_lines, series_of, text_read}
use Rattle.script_read.specs.Refusals.{at_line, limit}
use Rattle.script_read.specs.Results.{begins_series, cell_spelled, cells_from, cells_spelled, instant_points, labels_in, line_added, number_alone, places_of, points_behind, points_from, points_of, range_points, result_added, room_after, row_added, row_beside, run_points, scalar_added, stands_in, total_places}
use Rattle.script_read.specs.Series.{LabelList, Series, series_at}
use Rattle.script_read.specs.SeriesForms.{IsItem, IsWorded}
use Rattle.script_read.specs.Words.{number_spelled}
use Rattle.script_read.specs.declared.fault.LineFault.TheVariants as lines
use Rattle.script_read.specs.declared.fault.ReadFault.TheVariants.{Refused}
use Rattle.script_read.specs.declared.script.Expectations.{Expectations}
use Rattle.script_read.specs.declared.script.Expected.{Expected}
use Rattle.script_read.specs.declared.script.Expected.TheVariants.{Scalar, Rows}
use Rattle.script_read.specs.declared.script.ScriptRefusal.TheVariants.{TooLarge}
use Rattle.script_read.specs.declared.script.SeriesItem.{SeriesItem}
use Rattle.script_read.specs.declared.script.SeriesItem.TheVariants.{Gap, Stale, Run}
use Rattle.script_read.specs.declared.script.SeriesLine.{SeriesLine}
use Rattle.script_read.proofs.CommandsRead.{heading_read}
use Rattle.script_read.proofs.ExpectationsRead.{expectation_begins, expectation_read}
use Rattle.script_read.proofs.ItemsRead.{item_read}
use Rattle.script_read.proofs.SeriesRead.{worded_read}
use Rattle.script_read.proofs.Spelled.{NumbersAreTold}

-- ---- items

module _ (told : NumbersAreTold) where
  each_read : (words : List (List ℕ)) (items : List SeriesItem) → AreItems words items → each_of item_spelled words ≡ Ok items
  each_read _ _ (one_item word item h) = ap (λ r. onto r (Ok [])) (item_read told word item h)
  each_read _ _ (more_items word words item items h k) =
      ap (λ r. onto r (each_of item_spelled words)) (item_read told word item h) ∙ ap (λ r. onto (Ok item) r) (each_read words items k)

  items_read : (words : List (List ℕ)) (items : List SeriesItem) → AreItems words items → items_spelled words ≡ Ok items
  items_read _ _ (one_item word item h) = each_read (word ∷ []) (item ∷ []) (one_item word item h)
  items_read _ _ (more_items word words item items h k) = each_read (word ∷ words) (item ∷ items) (more_items word words item items h k)

  -- ---- loads

  labelled : (n : ℕ) (labels : LabelList) (behind : List ℕ) (items : List SeriesItem) → (labels ≡ [] → ⊥) → items_spelled (words_behind behind) ≡ Ok items
      → line_with n labels behind ≡ Ok (record { line = n; labels = labels; items = items })
  labelled n [] behind items some h = absurd (some refl)
  labelled n (pair ∷ pairs) behind items some h = ap (λ r. then_give r (λ items. line_of items)) h
    where
      line_of : List SeriesItem → SeriesLine
      line_of items = record { line = n; labels = pair ∷ pairs; items = items }

  line_read : (line : Numbered) (labels : LabelList) (words : List (List ℕ)) (items : List SeriesItem) → has_histogram (without_comment line.text) ≡ false → (labels ≡ [] → ⊥)
      → IsWorded (without_comment line.text) labels words → AreItems words items → series_of line ≡ Ok (record { line = line.number; labels = labels; items = items })
  line_read line labels words items none some worded are =
      let text = without_comment line.text in
      let r = worded_read text labels words worded in
      ap (λ b. at_line line.number (cond b (Err lines.NativeHistogram) (then_try (series_at text) (λ series. line_with line.number series.0 series.1)))) none
      ∙ ap (λ s. at_line line.number (then_try s (λ (series : Series). line_with line.number series.0 series.1))) r.read
      ∙ ap (at_line line.number) (labelled line.number labels r.behind items some (ap items_spelled r.words_are ∙ items_read words items are))

  loaded_read : (body : List Numbered) (series : List SeriesLine) → AreLoaded body series → series_lines body ≡ Ok series
  loaded_read _ _ no_series = refl
  loaded_read _ _ (series_line line body labels words items later none some worded are rest) =
      ap (λ r. onto r (series_lines body)) (line_read line labels words items none some worded are)
      ∙ ap (λ r. onto (Ok (record { line = line.number; labels = labels; items = items })) r) (loaded_read body later rest)

  -- ---- results

  -- an item that fits, and has points
  room_fits : (room rest : ℕ) (item : SeriesItem) → places_of item + rest ≤ room → (item ≡ Stale → ⊥) → (left : ℕ) × (room_after room item ≡ Ok left) × (rest ≤ left)
  room_fits room rest Stale h some = absurd (some refl)
  room_fits room rest (Gap gap) h some =
      (room - gap, ap (λ b. cond b (Ok (room - gap)) (Err lines.Malformed)) (le-leb gap room (omega (arith, h))), omega (arith, h))
  room_fits room rest (Run first by more) h some =
      (room - more - 1, ap (λ b. cond b (Ok (room - more - 1)) (Err lines.Malformed)) (lt-ltb more room (omega (arith, h))), omega (arith, h))

  joined_last : {X E : Type 0} (r s : Result (List X) E) (all : List X) → joined r s ≡ Ok all → (xs : List X) × (s ≡ Ok xs)
  joined_last (Ok xs) (Ok ys) all h = (ys, refl)
  joined_last (Ok xs) (Err e) all h = absurd (cc)
  joined_last (Err e) s all h = absurd (cc)

  unmarked : (m : Moments) (place : ℕ) (item : SeriesItem) (items : List SeriesItem) (points : List Point) → points_from m place (item ∷ items) ≡ Ok points → item ≡ Stale → ⊥
  unmarked m place Stale items points h e = absurd (cc)
  unmarked m place (Gap gap) items points h e = absurd (cc)
  unmarked m place (Run first by more) items points h e = absurd (cc)

  points_behind_item : (m : Moments) (place : ℕ) (item : SeriesItem) (items : List SeriesItem) (points : List Point) → points_from m place (item ∷ items) ≡ Ok points
      → (next : ℕ) × (all : List Point) × (points_from m next items ≡ Ok all)
  points_behind_item m place Stale items points h = absurd (cc)
  points_behind_item m place (Gap gap) items points h = (place + gap, points, h)
  points_behind_item m place (Run first by more) items points h =
      let k = joined_last (run_points m place more first by) (points_from m (place + more + 1) items) points h in
      (place + more + 1, k.0, k.1)

  cell_read : (room left : ℕ) (word : List ℕ) (item : SeriesItem) → IsItem word item → room_after room item ≡ Ok left → cell_spelled room word ≡ Ok (item, left)
  cell_read room left word item h k =
      ap (λ r. then_try r (λ item. then_give (room_after room item) (λ left. cell_of item left))) (item_read told word item h) ∙ ap (λ r. then_give r (cell_of item)) k
    where
      cell_of : SeriesItem → ℕ → SeriesItem × ℕ
      cell_of i l = (i, l)

  cell_first : (room left : ℕ) (word : List ℕ) (words : List (List ℕ)) (item : SeriesItem) (items : List SeriesItem) → cell_spelled room word ≡ Ok (item, left) → cells_from left words ≡ Ok items
      → cells_from room (word ∷ words) ≡ Ok (item ∷ items)
  cell_first room left word words item items h k =
      ap (λ r. then_try r (λ (cell : SeriesItem × ℕ). in_front (cell.0 ∷ []) (cells_from cell.1 words))) h ∙ ap (in_front (item ∷ [])) k

  cells_read : (m : Moments) (room place : ℕ) (words : List (List ℕ)) (items : List SeriesItem) (points : List Point) → AreItems words items → total_places items ≤ room
      → points_from m place items ≡ Ok points → cells_from room words ≡ Ok items
  cells_read m room place _ _ points (one_item word item h) fits p =
      let f = room_fits room 0 item fits (unmarked m place item [] points p) in
      cell_first room f.0 word [] item [] (cell_read room f.0 word item h f.1) refl
  cells_read m room place _ _ points (more_items word words item items h k) fits p =
      let f = room_fits room (total_places items) item fits (unmarked m place item items points p) in
      let n = points_behind_item m place item items points p in
      cell_first room f.0 word words item items (cell_read room f.0 word item h f.1) (cells_read m f.0 n.0 words items n.1 k f.2 n.2)

  some_cells_read : (room : ℕ) (words : List (List ℕ)) (items : List SeriesItem) → AreItems words items → cells_from room words ≡ Ok items → cells_spelled room words ≡ Ok items
  some_cells_read room _ _ (one_item word item h) k = k
  some_cells_read room _ _ (more_items word words item items h rest) k = k

  points_read : (m : Moments) (behind : List ℕ) (words : List (List ℕ)) (points : List Point) → words_behind behind ≡ words → ArePoints m words points → points_behind m behind ≡ Ok points
  points_read m behind _ _ is (one_number word value instant h) =
      ap (λ b. cond b (instant_points m behind) (range_points m behind)) instant
      ∙ ap (λ w. then_give (number_alone w) (point_of m)) is
      ∙ ap (λ r. then_give r (point_of m)) h
    where
      point_of : Moments → XFrac → List Point
      point_of m value = record { at = m.start; value = value } ∷ []
  points_read m behind _ _ is (on_grid words items points ranged are within h) =
      ap (λ b. cond b (instant_points m behind) (range_points m behind)) ranged
      ∙ ap (λ w. then_try (cells_spelled (places m) w) (points_of m)) is
      ∙ ap (λ r. then_try r (points_of m)) (some_cells_read (places m) words items are (cells_read m (places m) 0 words items points are within h))
      ∙ h

  -- ---- the lines behind `eval`

  module _ (kept : PatternList) (m : Moments) (e all : Expectations) (line : Numbered) (body : List Numbered) where
    line_after : (more : Expectations) → body_line kept m e line.text ≡ Ok more → expected_after kept m more body ≡ Ok all → expected_after kept m e (line ∷ body) ≡ Ok all
    line_after more h rest = ap (λ r. then_try (at_line line.number r) (λ now. expected_after kept m now body)) h ∙ rest

    asked_read : (more : Expectations) (x : Expectation) → is_expectation line.text ≡ true → expectation_of line.text ≡ Ok x → fits e m.instant x ≡ true → with_asked kept e x ≡ Ok more
        → body_line kept m e line.text ≡ Ok more
    asked_read more x b h f k =
        ap (λ v. cond v (expectation_added kept e m.instant line.text) (result_added m e line.text)) b
        ∙ ap (λ r. then_try r (if_fits kept e m.instant)) h
        ∙ ap (λ v. cond v (with_asked kept e x) (Err lines.Malformed)) f
        ∙ k

    stated_read : (result : Expected) → is_expectation line.text ≡ false → e.fail ≡ [] → line_added m e.result line.text ≡ Ok result → body_line kept m e line.text ≡ Ok (record e { result = result })
    stated_read result b unfailed h =
        ap (λ v. cond v (expectation_added kept e m.instant line.text) (result_added m e line.text)) b
        ∙ ap (λ l. cond (is_empty l) (then_give (line_added m e.result line.text) with_result) (Err lines.Malformed)) unfailed
        ∙ ap (λ r. then_give r with_result) h
      where
        with_result : Expected → Expectations
        with_result result = record e { result = result }

    row_read : (labels : LabelList) (words : List (List ℕ)) (points : List Point) (rows : List ResultSeries) → begins_series line.text ≡ true → e.result ≡ Rows rows
        → stands_in (labels_in rows) labels ≡ false → IsWorded line.text labels words → ArePoints m words points
        → line_added m e.result line.text ≡ Ok (Rows (rows ++ record { labels = labels; points = points } ∷ []))
    row_read labels words points rows begins is new worded are =
        let r = worded_read line.text labels words worded in
        let with_points : List Point → List ResultSeries = λ points. rows ++ record { labels = labels; points = points } ∷ [] in
        ap (λ b. cond b (row_added m e.result line.text) (scalar_added m.instant e.result line.text)) begins
        ∙ ap (λ s. row_added m s line.text) is
        ∙ ap (λ s. then_give (then_try s (row_beside m rows)) Rows) r.read
        ∙ ap (λ b. then_give (cond b (Err lines.Malformed) (then_give (points_behind m r.behind) with_points)) Rows) new
        ∙ ap (λ s. then_give (then_give s with_points) Rows) (points_read m r.behind words points r.words_are are)

    scalar_read : (word : List ℕ) (value : XFrac) → m.instant ≡ true → e.result ≡ Rows [] → begins_series line.text ≡ false → words_of line.text ≡ word ∷ [] → number_spelled word ≡ Ok value
        → line_added m e.result line.text ≡ Ok (Scalar value)
    scalar_read word value instant is begins words h =
        ap (λ b. cond b (row_added m e.result line.text) (scalar_added m.instant e.result line.text)) begins
        ∙ ap (λ i. scalar_added i e.result line.text) instant
        ∙ ap (λ s. scalar_added true s line.text) is
        ∙ ap (λ w. then_give (number_alone w) Scalar) words
        ∙ ap (λ r. then_give r Scalar) h

  expected_read : (kept : PatternList) (m : Moments) (e : Expectations) (body : List Numbered) (all : Expectations) → AreExpected kept m e body all → expected_after kept m e body ≡ Ok all
  expected_read kept m _ _ _ (nothing_more e) = refl
  expected_read kept m _ _ _ (expectation_line e more all line body x is f asked rest) =
      line_after kept m e all line body more (asked_read kept m e all line body more x (expectation_begins line.text x is) (expectation_read line.text x is) f asked) (expected_read kept m more body all rest)
  expected_read kept m _ _ _ (row_line e all line body labels words points rows plain begins unfailed is new worded are rest) =
      line_after kept m e all line body _ (stated_read kept m e all line body (Rows (rows ++ record { labels = labels; points = points } ∷ [])) plain unfailed (row_read kept m e all line body labels words points rows begins is new worded are))
      (expected_read kept m _ body all rest)
  expected_read kept m _ _ _ (scalar_line e all line body word value plain instant unfailed is begins words h rest) =
      line_after kept m e all line body _ (stated_read kept m e all line body (Scalar value) plain unfailed (scalar_read kept m e all line body word value instant is begins words h)) (expected_read kept m _ body all rest)

  -- ---- blocks

  command_read : (kept : PatternList) (line : Numbered) (body : List Numbered) (order : Order) (command : Instruction) → heading_of line.text ≡ Ok order → command_headed kept line.number body order ≡ Ok command
      → commands_in kept (line ∷ body) ≡ followed (commands_in kept body) command
  command_read kept line body order command h k =
      ap (λ r. then_try (then_try (at_line line.number r) (command_headed kept line.number body)) (followed (commands_in kept body))) h
      ∙ ap (λ r. then_try r (followed (commands_in kept body))) k

  block_read : (kept : PatternList) (block : List Numbered) (commands : List Instruction) → IsBlock kept block commands → commands_in kept block ≡ Ok commands
  block_read kept _ _ no_lines = refl
  block_read kept _ _ (clear_block line body later is rest) =
      let command : Instruction = record { line = line.number; deed = Clears } in
      command_read kept line body Clearing command (heading_read line.text Clearing is) refl ∙ ap (in_front (command ∷ [])) (block_read kept body later rest)
  block_read kept _ _ (load_block line body interval series is h) =
      command_read kept line body (Loading interval) (record { line = line.number; deed = Loads interval series }) (heading_read line.text (Loading interval) is) (ap (λ r. then_give r loads) (loaded_read body series h))
    where
      loads : List SeriesLine → Instruction
      loads series = record { line = line.number; deed = Loads interval series }
  block_read kept _ _ (eval_block line body mode m text expected is h) =
      command_read kept line body (Evaluating mode m text) (record { line = line.number; deed = Evaluates m text expected }) (heading_read line.text (Evaluating mode m text) is)
      (ap (λ r. then_give r evaluates) (expected_read kept m (mode_wants mode) body expected h))
    where
      evaluates : Expectations → Instruction
      evaluates expected = record { line = line.number; deed = Evaluates m text expected }

  blocks_read : (kept : PatternList) (blocks : List (List Numbered)) (commands : List Instruction) → AreBlocks kept blocks commands → commands_of kept blocks ≡ Ok commands
  blocks_read kept _ _ no_blocks = refl
  blocks_read kept _ _ (more_blocks block blocks front back all h k is) =
      ap (λ r. joined r (commands_of kept blocks)) (block_read kept block front h) ∙ ap (in_front front) (blocks_read kept blocks back k) ∙ ap Ok (sym is)

  pub script_read : (kept : PatternList) (bytes : List ℕ) (commands : List Instruction) → IsScript kept bytes commands → reading kept bytes ≡ Ok commands
  script_read kept bytes commands h =
      ap (λ b. cond b (Err (Refused TooLarge)) (text_read kept (broken_line bytes) bytes)) (le-ltb limit (length bytes) h.small)
      ∙ ap (λ broken. text_read kept broken bytes) h.is_text
      ∙ blocks_read kept (blocks_of bytes) commands h.blocks
