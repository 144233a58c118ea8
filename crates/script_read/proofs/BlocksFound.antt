-- A file that is read is a script by the grammar.
use Rattle.std.proofs.Common.{◌≡◌, ◌≤◌, ℕ, Bool, true, false, cond, List, [], ◌∷◌, ◌++◌, length, Option, Some, None, Result, Ok, Err, refl, ap, sym, ◌∙◌, subst, arith}
use Rattle.std.specs.Prelude.{nat_lt}
use Rattle.std.proofs.lemmas.Bool.{ltb-false}
use Rattle.xfrac.specs.declared.value.XFrac.{XFrac}
use Rattle.promql_meaning.specs.declared.answer.Point.{Point}
use Rattle.promql_meaning.specs.declared.answer.ResultSeries.{ResultSeries}
use Rattle.script_read.specs.BlockForms.{AreBlocks, AreExpected, AreItems, AreLoaded, ArePoints, IsBlock, IsScript, clear_block, eval_block, expectation_line, load_block, more_blocks, more_items, no_blocks, no_lines, no_series, nothing_more, on_grid, one_item, one_number, row_line, scalar_line, series_line}
use Rattle.script_read.specs.Commands.{Order, Clearing, Loading, Evaluating, heading_of}
use Rattle.script_read.specs.Expects.{expectation_added, expectation_of, fits, is_expectation, mode_wants, with_asked}
use Rattle.script_read.specs.Items.{item_spelled}
use Rattle.script_read.specs.Lines.{Numbered, blocks_of, broken_line, is_blank, is_empty, words_behind, words_of}
use Rattle.ticks.specs.Moments.{Moments, places}
use Rattle.script_read.specs.Outcomes.{PatternList, each_of, in_front, joined, onto, then_give, then_try}
use Rattle.script_read.specs.Quotes.{has_histogram, without_comment}
use Rattle.script_read.specs.Reading.{Clears, Evaluates, Instruction, Loads, body_line, command_headed, command_of, commands_in, commands_of, expected_after, followed, items_spelled, line_with, reading, series_lines, series_of, series_worded, text_read}
use Rattle.script_read.specs.Refusals.{at_line, limit}
use Rattle.script_read.specs.Results.{begins_series, cell_spelled, cells_from, cells_spelled, instant_points, labels_in, line_added, number_alone, points_behind, points_of, range_points, result_added, room_after, row_added, row_beside, rows_with, scalar_added, stands_in, total_places}
use Rattle.script_read.specs.Series.{LabelList, series_at}
use Rattle.script_read.specs.SeriesForms.{begins_blank}
use Rattle.script_read.specs.Words.{number_spelled}
use Rattle.script_read.specs.declared.fault.LineFault.TheVariants as lines
use Rattle.script_read.specs.declared.fault.ReadFault.{ReadFault}
use Rattle.script_read.specs.declared.fault.ReadFault.TheVariants.{Refused}
use Rattle.script_read.specs.declared.script.Expectations.{Expectations}
use Rattle.script_read.specs.declared.script.Expected.{Expected}
use Rattle.script_read.specs.declared.script.Expected.TheVariants.{Scalar, Rows}
use Rattle.script_read.specs.declared.script.ScriptRefusal.TheVariants.{TooLarge}
use Rattle.script_read.specs.declared.script.SeriesItem.{SeriesItem}
use Rattle.script_read.specs.declared.script.SeriesLine.{SeriesLine}
use Rattle.script_read.proofs.Cells.{given_room}
use Rattle.script_read.proofs.CommandsFound.{heading_found}
use Rattle.script_read.proofs.ExpectationsFound.{expectation_found}
use Rattle.script_read.proofs.ItemsFound.{item_found}
use Rattle.script_read.proofs.SeriesFound.{worded_found}
use Rattle.script_read.proofs.Steps.{at_line_ok}
use Rattle.script_read.proofs.Takes.{by_test, give_ok, if_ok, no_element, same_ok, try_ok, unless_ok}

-- ---- lists

onto_ok : {X E : Type 0} (r : Result X E) (s : Result (List X) E) (all : List X) → onto r s ≡ Ok all → (x : X) × (xs : List X) × (r ≡ Ok x) × (s ≡ Ok xs) × (x ∷ xs ≡ all)
onto_ok (Ok x) (Ok xs) all h = (x, xs, refl, refl, cc)
onto_ok (Ok x) (Err e) all h = absurd (cc)
onto_ok (Err e) s all h = absurd (cc)

pub front_ok : {X E : Type 0} (x : X) (r : Result (List X) E) (all : List X) → in_front (x ∷ []) r ≡ Ok all → (xs : List X) × (r ≡ Ok xs) × (x ∷ xs ≡ all)
front_ok x (Ok xs) all h = (xs, refl, cc)
front_ok x (Err e) all h = absurd (cc)

pub joined_ok : {X E : Type 0} (r s : Result (List X) E) (all : List X) → joined r s ≡ Ok all → (xs : List X) × (ys : List X) × (r ≡ Ok xs) × (s ≡ Ok ys) × (xs ++ ys ≡ all)
joined_ok (Ok xs) (Ok ys) all h = (xs, ys, refl, refl, cc)
joined_ok (Ok xs) (Err e) all h = absurd (cc)
joined_ok (Err e) s all h = absurd (cc)

-- ---- loads

each_found : (word : List ℕ) (words : List (List ℕ)) (items : List SeriesItem) → each_of item_spelled (word ∷ words) ≡ Ok items → AreItems (word ∷ words) items
each_found word [] items h =
    let k = onto_ok (item_spelled word) (Ok []) items h in
    let none : [] ≡ k.1 = same_ok (Ok []) [] k.1 refl k.3 in
    subst (AreItems (word ∷ [])) (ap (λ l. k.0 ∷ l) none ∙ k.4) (one_item word k.0 (item_found word k.0 k.2))
each_found word (next ∷ words) items h =
    let k = onto_ok (item_spelled word) (each_of item_spelled (next ∷ words)) items h in
    subst (AreItems (word ∷ (next ∷ words))) k.4 (more_items word (next ∷ words) k.0 k.1 (item_found word k.0 k.2) (each_found next words k.1 k.3))

items_found : (words : List (List ℕ)) (items : List SeriesItem) → items_spelled words ≡ Ok items → AreItems words items
items_found [] items h = absurd (cc)
items_found (word ∷ words) items h = each_found word words items h

-- words stand behind a blank
some_words : (behind : List ℕ) → (words_behind behind ≡ [] → ⊥) → begins_blank behind ≡ true
some_words [] h = absurd (h refl)
some_words (byte ∷ bytes) h = by (is_blank byte) refl
  where
    by : (b : Bool) → is_blank byte ≡ b → b ≡ true
    by true e = refl
    by false e = absurd (h (ap (λ b. cond b (words_of bytes) []) e))

items_some : (words : List (List ℕ)) (items : List SeriesItem) → items_spelled words ≡ Ok items → words ≡ [] → ⊥
items_some [] items h e = absurd (cc)
items_some (word ∷ words) items h e = cc

line_found : (line : Numbered) (body : List Numbered) (series : SeriesLine) (later : List SeriesLine) (labels : LabelList) (behind : List ℕ) → has_histogram (without_comment line.text) ≡ false
    → series_at (without_comment line.text) ≡ Ok (labels, behind) → line_with line.number labels behind ≡ Ok series → AreLoaded body later → AreLoaded (line ∷ body) (series ∷ later)
line_found line body series later [] behind none found h rest = absurd (cc)
line_found line body series later (pair ∷ pairs) behind none found h rest =
    let labels : LabelList = pair ∷ pairs in
    let g = give_ok (items_spelled (words_behind behind)) (λ items. record { line = line.number; labels = labels; items = items }) series h in
    let worded = worded_found (without_comment line.text) (labels, behind) found (some_words behind (items_some (words_behind behind) g.0 g.1)) in
    subst (λ (s : SeriesLine). AreLoaded (line ∷ body) (s ∷ later)) g.2
    (series_line line body labels (words_behind behind) g.0 later none (λ e. cc) worded (items_found (words_behind behind) g.0 g.1) rest)

loaded_found : (body : List Numbered) (series : List SeriesLine) → series_lines body ≡ Ok series → AreLoaded body series
loaded_found [] series h = subst (AreLoaded []) (same_ok (series_lines []) [] series refl h) no_series
loaded_found (line ∷ body) series h =
    let k = onto_ok (series_of line) (series_lines body) series h in
    let worded = at_line_ok line.number (series_worded line.number line.text) k.0 k.2 in
    let u = unless_ok (has_histogram (without_comment line.text)) (then_try (series_at (without_comment line.text)) (λ found. line_with line.number found.0 found.1)) lines.NativeHistogram k.0 worded in
    let f = try_ok (series_at (without_comment line.text)) (λ found. line_with line.number found.0 found.1) k.0 u.1 in
    subst (AreLoaded (line ∷ body)) k.4 (line_found line body k.0 k.1 f.0.0 f.0.1 u.0 f.1 f.2 (loaded_found body k.1 k.3))

-- ---- results

number_found : (words : List (List ℕ)) (value : XFrac) → number_alone words ≡ Ok value → (word : List ℕ) × (words ≡ word ∷ []) × (number_spelled word ≡ Ok value)
number_found [] value h = absurd (cc)
number_found (word ∷ []) value h = (word, refl, h)
number_found (word ∷ (next ∷ words)) value h = let k = try_ok (number_spelled word) (λ _. Err lines.Malformed) value h in absurd (cc)

-- a cell is an item
cell_item : (room : ℕ) (word : List ℕ) (cell : SeriesItem × ℕ) → cell_spelled room word ≡ Ok cell → item_spelled word ≡ Ok cell.0
cell_item room word cell h =
    let i = try_ok (item_spelled word) _ cell h in
    let g = give_ok (room_after room i.0) (cell_of i.0) cell i.2 in
    i.1 ∙ ap (λ (c : SeriesItem × ℕ). Ok c.0) g.2
  where
    cell_of : SeriesItem → ℕ → SeriesItem × ℕ
    cell_of item left = (item, left)

cells_found : (room : ℕ) (word : List ℕ) (words : List (List ℕ)) (items : List SeriesItem) → cells_from room (word ∷ words) ≡ Ok items → AreItems (word ∷ words) items × (total_places items ≤ room)
cells_found room word [] items h =
    let k = try_ok (cell_spelled room word) (λ cell. in_front (cell.0 ∷ []) (cells_from cell.1 [])) items h in
    let f = front_ok k.0.0 (cells_from k.0.1 []) items k.2 in
    let fit = given_room (item_spelled word) room k.0 k.1 in
    let none : [] ≡ f.0 = same_ok (cells_from k.0.1 []) [] f.0 refl f.1 in
    let all : k.0.0 ∷ [] ≡ items = ap (λ l. k.0.0 ∷ l) none ∙ f.2 in
    (subst (AreItems (word ∷ [])) all (one_item word k.0.0 (item_found word k.0.0 (cell_item room word k.0 k.1))), omega (arith, fit, ap total_places all))
cells_found room word (next ∷ words) items h =
    let k = try_ok (cell_spelled room word) (λ cell. in_front (cell.0 ∷ []) (cells_from cell.1 (next ∷ words))) items h in
    let f = front_ok k.0.0 (cells_from k.0.1 (next ∷ words)) items k.2 in
    let fit = given_room (item_spelled word) room k.0 k.1 in
    let rest = cells_found k.0.1 next words f.0 f.1 in
    (subst (AreItems (word ∷ (next ∷ words))) f.2 (more_items word (next ∷ words) k.0.0 f.0 (item_found word k.0.0 (cell_item room word k.0 k.1)) rest.0), omega (arith, fit, rest.1, ap total_places f.2))

some_cells_found : (room : ℕ) (words : List (List ℕ)) (items : List SeriesItem) → cells_spelled room words ≡ Ok items → AreItems words items × (total_places items ≤ room)
some_cells_found room [] items h = absurd (cc)
some_cells_found room (word ∷ words) items h = cells_found room word words items h

items_words : (words : List (List ℕ)) (items : List SeriesItem) → AreItems words items → words ≡ [] → ⊥
items_words _ _ (one_item word item h) e = cc
items_words _ _ (more_items word words item items h k) e = cc

module _ (m : Moments) (behind : List ℕ) (points : List Point) where
  instant_found : m.instant ≡ true → instant_points m behind ≡ Ok points → ArePoints m (words_behind behind) points × (begins_blank behind ≡ true)
  instant_found instant h =
      let g = give_ok (number_alone (words_behind behind)) (λ value. record { at = m.start; value = value } ∷ []) points h in
      let n = number_found (words_behind behind) g.0 g.1 in
      (subst (λ w. ArePoints m w points) (sym n.1) (subst (ArePoints m (n.0 ∷ [])) g.2 (one_number n.0 g.0 instant n.2)), some_words behind (λ e. none (sym n.1 ∙ e)))
    where
      none : {X : Type 0} {x : X} → x ∷ [] ≡ [] → ⊥
      none e = cc

  range_found : m.instant ≡ false → range_points m behind ≡ Ok points → ArePoints m (words_behind behind) points × (begins_blank behind ≡ true)
  range_found ranged h =
      let k = try_ok (cells_spelled (places m) (words_behind behind)) (points_of m) points h in
      let c = some_cells_found (places m) (words_behind behind) k.0 k.1 in
      (on_grid (words_behind behind) k.0 points ranged c.0 c.1 k.2, some_words behind (items_words (words_behind behind) k.0 c.0))

  points_found : points_behind m behind ≡ Ok points → ArePoints m (words_behind behind) points × (begins_blank behind ≡ true)
  points_found h = by_test m.instant _ _ (Ok points) h (λ e k. instant_found e k) (λ e k. range_found e k)

-- ---- the lines behind `eval`

module _ (kept : PatternList) (m : Moments) (e all : Expectations) (line : Numbered) (body : List Numbered) where
  asked_found : (more : Expectations) → expectation_added kept e m.instant line.text ≡ Ok more → AreExpected kept m more body all → AreExpected kept m e (line ∷ body) all
  asked_found more h rest =
      let x = try_ok (expectation_of line.text) _ more h in
      let f = if_ok (fits e m.instant x.0) (with_asked kept e x.0) lines.Malformed more x.2 in
      expectation_line e more all line body x.0 (expectation_found line.text x.0 x.1) f.0 f.1 rest

  module _ (plain : is_expectation line.text ≡ false) (unfailed : e.fail ≡ []) where
    row_found : (result : Expected) → begins_series line.text ≡ true → (rows : List ResultSeries) → e.result ≡ Rows rows → row_added m (Rows rows) line.text ≡ Ok result
        → AreExpected kept m (record e { result = result }) body all → AreExpected kept m e (line ∷ body) all
    row_found result begins rows is h rest =
        let g = give_ok (rows_with m rows line.text) Rows result h in
        let t = try_ok (series_at line.text) (row_beside m rows) g.0 g.1 in
        let u = unless_ok (stands_in (labels_in rows) t.0.0) (then_give (points_behind m t.0.1) (λ points. rows ++ record { labels = t.0.0; points = points } ∷ [])) lines.Malformed g.0 t.2 in
        let p = give_ok (points_behind m t.0.1) (λ points. rows ++ record { labels = t.0.0; points = points } ∷ []) g.0 u.1 in
        let f = points_found m t.0.1 p.0 p.1 in
        row_line e all line body t.0.0 (words_behind t.0.1) p.0 rows plain begins unfailed is u.0 (worded_found line.text t.0 t.1 f.1) f.0
        (subst (λ (r : Expected). AreExpected kept m (record e { result = r }) body all) (sym g.2 ∙ ap Rows (sym p.2)) rest)

    rows_found : (result : Expected) → begins_series line.text ≡ true → (stated : Expected) → e.result ≡ stated → row_added m stated line.text ≡ Ok result
        → AreExpected kept m (record e { result = result }) body all → AreExpected kept m e (line ∷ body) all
    rows_found result begins (Scalar value) is h rest = absurd (cc)
    rows_found result begins (Rows rows) is h rest = row_found result begins rows is h rest

    scalar_found : (result : Expected) → begins_series line.text ≡ false → (instant : Bool) → m.instant ≡ instant → (stated : Expected) → e.result ≡ stated → scalar_added instant stated line.text ≡ Ok result
        → AreExpected kept m (record e { result = result }) body all → AreExpected kept m e (line ∷ body) all
    scalar_found result begins true instant (Rows []) is h rest =
        let g = give_ok (number_alone (words_of line.text)) Scalar result h in
        let n = number_found (words_of line.text) g.0 g.1 in
        scalar_line e all line body n.0 g.0 plain instant unfailed is begins n.1 n.2 (subst (λ (r : Expected). AreExpected kept m (record e { result = r }) body all) (sym g.2) rest)
    scalar_found result begins true instant (Rows (row ∷ rows)) is h rest = absurd (cc)
    scalar_found result begins true instant (Scalar value) is h rest = absurd (cc)
    scalar_found result begins false instant stated is h rest = absurd (cc)

  result_found : (more : Expectations) → is_expectation line.text ≡ false → result_added m e line.text ≡ Ok more → AreExpected kept m more body all → AreExpected kept m e (line ∷ body) all
  result_found more plain h rest =
      let k = if_ok (is_empty e.fail) (then_give (line_added m e.result line.text) (λ result. record e { result = result })) lines.Malformed more h in
      let g = give_ok (line_added m e.result line.text) (λ result. record e { result = result }) more k.1 in
      let unfailed = no_element e.fail k.0 in
      let after : AreExpected kept m (record e { result = g.0 }) body all = subst (λ (x : Expectations). AreExpected kept m x body all) (sym g.2) rest in
      by_test (begins_series line.text) _ _ (Ok g.0) g.1 (λ b r. rows_found plain unfailed g.0 b e.result refl r after) (λ b r. scalar_found plain unfailed g.0 b m.instant refl e.result refl r after)

expected_found : (kept : PatternList) (m : Moments) (e : Expectations) (body : List Numbered) (all : Expectations) → expected_after kept m e body ≡ Ok all → AreExpected kept m e body all
expected_found kept m e [] all h = subst (AreExpected kept m e []) (same_ok (expected_after kept m e []) e all refl h) (nothing_more e)
expected_found kept m e (line ∷ body) all h =
    let k = try_ok (at_line line.number (body_line kept m e line.text)) (λ more. expected_after kept m more body) all h in
    let said = at_line_ok line.number (body_line kept m e line.text) k.0 k.1 in
    let rest = expected_found kept m k.0 body all k.2 in
    by_test (is_expectation line.text) _ _ (Ok k.0) said (λ _ r. asked_found kept m e all line body k.0 r rest) (λ b r. result_found kept m e all line body k.0 b r rest)

-- ---- blocks

headed_found : (kept : PatternList) (line : Numbered) (body : List Numbered) (later : Result (List Instruction) ReadFault) (command : Instruction) (commands : List Instruction) (order : Order)
    → heading_of line.text ≡ Ok order → command_headed kept line.number body order ≡ Ok command → followed later command ≡ Ok commands
    → ((all : List Instruction) → later ≡ Ok all → IsBlock kept body all) → IsBlock kept (line ∷ body) commands
headed_found kept line body later command commands Clearing is h f rest =
    let same = same_ok (command_headed kept line.number body Clearing) (record { line = line.number; deed = Clears }) command refl h in
    let k = front_ok (record { line = line.number; deed = Clears }) later commands (ap (followed later) same ∙ f) in
    subst (IsBlock kept (line ∷ body)) k.2 (clear_block line body k.0 (heading_found line.text Clearing is) (rest k.0 k.1))
headed_found kept line body later command commands (Loading interval) is h f rest =
    let g = give_ok (series_lines body) (λ series. record { line = line.number; deed = Loads interval series }) command h in
    let all : record { line = line.number; deed = Loads interval g.0 } ∷ [] ≡ commands = same_ok (followed later (record { line = line.number; deed = Loads interval g.0 })) _ commands refl (ap (followed later) g.2 ∙ f) in
    subst (IsBlock kept (line ∷ body)) all (load_block line body interval g.0 (heading_found line.text (Loading interval) is) (loaded_found body g.0 g.1))
headed_found kept line body later command commands (Evaluating mode m text) is h f rest =
    let g = give_ok (expected_after kept m (mode_wants mode) body) (λ expected. record { line = line.number; deed = Evaluates m text expected }) command h in
    let all : record { line = line.number; deed = Evaluates m text g.0 } ∷ [] ≡ commands = same_ok (followed later (record { line = line.number; deed = Evaluates m text g.0 })) _ commands refl (ap (followed later) g.2 ∙ f) in
    subst (IsBlock kept (line ∷ body)) all (eval_block line body mode m text g.0 (heading_found line.text (Evaluating mode m text) is) (expected_found kept m (mode_wants mode) body g.0 g.1))

block_found : (kept : PatternList) (block : List Numbered) (commands : List Instruction) → commands_in kept block ≡ Ok commands → IsBlock kept block commands
block_found kept [] commands h = subst (IsBlock kept []) (same_ok (commands_in kept []) [] commands refl h) no_lines
block_found kept (line ∷ body) commands h =
    let k = try_ok (command_of kept line body) (followed (commands_in kept body)) commands h in
    let o = try_ok (at_line line.number (heading_of line.text)) (command_headed kept line.number body) k.0 k.1 in
    headed_found kept line body (commands_in kept body) k.0 commands o.0 (at_line_ok line.number (heading_of line.text) o.0 o.1) o.2 k.2 (λ all r. block_found kept body all r)

blocks_found : (kept : PatternList) (blocks : List (List Numbered)) (commands : List Instruction) → commands_of kept blocks ≡ Ok commands → AreBlocks kept blocks commands
blocks_found kept [] commands h = subst (AreBlocks kept []) (same_ok (commands_of kept []) [] commands refl h) no_blocks
blocks_found kept (block ∷ blocks) commands h =
    let k = joined_ok (commands_in kept block) (commands_of kept blocks) commands h in
    more_blocks block blocks k.0 k.1 commands (block_found kept block k.0 k.2) (blocks_found kept blocks k.1 k.3) (sym k.4)

pub script_found : (kept : PatternList) (bytes : List ℕ) (commands : List Instruction) → reading kept bytes ≡ Ok commands → IsScript kept bytes commands
script_found kept bytes commands h =
    let u = unless_ok (nat_lt limit (length bytes)) (text_read kept (broken_line bytes) bytes) (Refused TooLarge) commands h in
    by (broken_line bytes) refl (ltb-false limit (length bytes) u.0) u.1
  where
    by : (broken : Option ℕ) → broken_line bytes ≡ broken → length bytes ≤ limit → text_read kept broken bytes ≡ Ok commands → IsScript kept bytes commands
    by None e small k = record { small = small; is_text = e; blocks = blocks_found kept (blocks_of bytes) commands k }
    by (Some line) e small k = absurd (cc)
