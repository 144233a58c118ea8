-- The lines of a file, one after the other: a refusal is that of the first line that is refused.
use Rattle.std.proofs.Common.{◌≡◌, ◌<◌, ℕ, Bool, true, false, cond, List, [], ◌∷◌, ◌++◌, length, Option, Some, None, Result, Ok, Err, refl, ap, sym, ◌∙◌, arith}
use Rattle.std.specs.List.{onto_first, slice_split}
use Rattle.std.proofs.lemmas.List.Splits.{length-slice_split}
use Rattle.script_read.specs.Commands.{Order, Clearing, Loading, Evaluating, heading_of}
use Rattle.script_read.specs.Expects.{mode_wants}
use Rattle.script_read.specs.Laws.{IsFirstRefused, lines_read}
use Rattle.script_read.specs.Lines.{Numbered, has_no_text}
use Rattle.ticks.specs.Moments.{Moments}
use Rattle.script_read.specs.Outcomes.{PatternList, in_front, joined, onto, then_give, then_try}
use Rattle.script_read.specs.Reading.{Clears, Evaluates, Instruction, Loads, body_line, command_headed, commands_in, commands_of, expected_after, followed, series_lines, series_of, series_worded}
use Rattle.script_read.specs.Refusals.{at_line, fault_at}
use Rattle.script_read.specs.declared.fault.LineFault.{LineFault}
use Rattle.script_read.specs.declared.fault.ReadFault.{ReadFault}
use Rattle.script_read.specs.declared.script.Expectations.{Expectations}
use Rattle.script_read.specs.declared.script.SeriesLine.{SeriesLine}
use Rattle.script_read.proofs.Steps.{at_line_err}

-- ---- line by line

-- what the next line has to be
data Place : Type 0 where
  AtCommand : Place
  AtSeries : Place
  AtResult : Moments → Expectations → Place

abbrev place_behind : Order → Place
place_behind Clearing = AtCommand
place_behind (Loading interval) = AtSeries
place_behind (Evaluating mode m text) = AtResult m (mode_wants mode)

module _ (kept : PatternList) where
  abbrev text_step : Place → Numbered → Result Place ReadFault
  text_step AtCommand line = then_give (at_line line.number (heading_of line.text)) place_behind
  text_step AtSeries line = then_give (series_of line) (λ _. AtSeries)
  text_step (AtResult m e) line = then_give (at_line line.number (body_line kept m e line.text)) (AtResult m)

  abbrev step : Place → Numbered → Result Place ReadFault
  step place line = cond (has_no_text line) (Ok AtCommand) (text_step place line)

  abbrev run : Place → List Numbered → Result Place ReadFault
  run place [] = Ok place
  run place (line ∷ lines) = then_try (step place line) (λ next. run next lines)

  -- ---- faults of lines and of blocks

  abbrev fault : {X : Type 0} → Result X ReadFault → Option ReadFault
  fault (Ok x) = None
  fault (Err r) = Some r

  abbrev first_fault : Option ReadFault → Option ReadFault → Option ReadFault
  first_fault None later = later
  first_fault (Some r) later = Some r

  -- what is left of a block
  abbrev part_fault : Place → List Numbered → Option ReadFault
  part_fault AtCommand part = fault (commands_in kept part)
  part_fault AtSeries part = fault (series_lines part)
  part_fault (AtResult m e) part = fault (expected_after kept m e part)

  abbrev whole_fault : Place → List (List Numbered) → Option ReadFault
  whole_fault place [] = None
  whole_fault place (part ∷ parts) = first_fault (part_fault place part) (fault (commands_of kept parts))

  joined_fault : {X : Type 0} (r s : Result (List X) ReadFault) → fault (joined r s) ≡ first_fault (fault r) (fault s)
  joined_fault (Err e) s = refl
  joined_fault (Ok xs) (Err e) = refl
  joined_fault (Ok xs) (Ok ys) = refl

  front_fault : {X : Type 0} (xs : List X) (r : Result (List X) ReadFault) → fault (in_front xs r) ≡ fault r
  front_fault xs (Err e) = refl
  front_fault xs (Ok ys) = refl

  onto_fault : {X : Type 0} (x : X) (r : Result (List X) ReadFault) → fault (onto (Ok x) r) ≡ fault r
  onto_fault x (Err e) = refl
  onto_fault x (Ok xs) = refl

  blocks_fault : (parts : List (List Numbered)) → whole_fault AtCommand parts ≡ fault (commands_of kept parts)
  blocks_fault [] = refl
  blocks_fault (part ∷ parts) = sym (joined_fault (commands_in kept part) (commands_of kept parts))

  none_fault : (place : Place) → part_fault place [] ≡ None
  none_fault AtCommand = refl
  none_fault AtSeries = refl
  none_fault (AtResult m e) = refl

  -- the command at the front of a block
  headed_fault : (line : Numbered) (part : List Numbered) (order : Order)
      → fault (then_try (command_headed kept line.number part order) (followed (commands_in kept part))) ≡ part_fault (place_behind order) part
  headed_fault line part Clearing = front_fault (record { line = line.number; deed = Clears } ∷ []) (commands_in kept part)
  headed_fault line part (Loading interval) = by (series_lines part)
    where
      loads : List SeriesLine → Instruction
      loads series = record { line = line.number; deed = Loads interval series }

      by : (r : Result (List SeriesLine) ReadFault) → fault (then_try (then_give r loads) (followed (commands_in kept part))) ≡ fault r
      by (Ok series) = refl
      by (Err e) = refl
  headed_fault line part (Evaluating mode m text) = by (expected_after kept m (mode_wants mode) part)
    where
      evaluates : Expectations → Instruction
      evaluates expected = record { line = line.number; deed = Evaluates m text expected }

      by : (r : Result Expectations ReadFault) → fault (then_try (then_give r evaluates) (followed (commands_in kept part))) ≡ fault r
      by (Ok expected) = refl
      by (Err e) = refl

  -- a line of a block, and what stands behind it
  block_fault : (lines : List Numbered) (line : Numbered) (part : List Numbered) (parts : List (List Numbered)) → ((place : Place) → fault (run place lines) ≡ whole_fault place (part ∷ parts))
      → (place : Place) → fault (then_try (text_step place line) (λ next. run next lines)) ≡ whole_fault place ((line ∷ part) ∷ parts)
  block_fault lines line part parts ih AtCommand = by (at_line line.number (heading_of line.text))
    where
      by : (r : Result Order ReadFault) → fault (then_try (then_give r place_behind) (λ next. run next lines))
          ≡ first_fault (fault (then_try (then_try r (command_headed kept line.number part)) (followed (commands_in kept part)))) (fault (commands_of kept parts))
      by (Err e) = refl
      by (Ok order) = ih (place_behind order) ∙ ap (λ f. first_fault f (fault (commands_of kept parts))) (sym (headed_fault line part order))
  block_fault lines line part parts ih AtSeries = by (series_of line)
    where
      by : (r : Result SeriesLine ReadFault) → fault (then_try (then_give r (λ _. AtSeries)) (λ next. run next lines)) ≡ first_fault (fault (onto r (series_lines part))) (fault (commands_of kept parts))
      by (Err e) = refl
      by (Ok series) = ih AtSeries ∙ ap (λ f. first_fault f (fault (commands_of kept parts))) (sym (onto_fault series (series_lines part)))
  block_fault lines line part parts ih (AtResult m e) = by (at_line line.number (body_line kept m e line.text))
    where
      by : (r : Result Expectations ReadFault) → fault (then_try (then_give r (AtResult m)) (λ next. run next lines))
          ≡ first_fault (fault (then_try r (λ more. expected_after kept m more part))) (fault (commands_of kept parts))
      by (Err r) = refl
      by (Ok more) = ih (AtResult m more)

  lines_fault : (lines : List Numbered) (place : Place) → fault (run place lines) ≡ whole_fault place (slice_split has_no_text lines)
  lines_fault [] place = ap (λ f. first_fault f None) (sym (none_fault place))
  lines_fault (line ∷ lines) place = by (has_no_text line) (slice_split has_no_text lines) (omega (arith, length-slice_split has_no_text lines)) (lines_fault lines)
    where
      by : (b : Bool) (parts : List (List Numbered)) → 0 < length parts → ((p : Place) → fault (run p lines) ≡ whole_fault p parts)
          → fault (then_try (cond b (Ok AtCommand) (text_step place line)) (λ next. run next lines)) ≡ whole_fault place (cond b ([] ∷ parts) (onto_first line parts))
      by b [] some ih = absurd (omega (arith, some))
      by true (part ∷ parts) some ih = ih AtCommand ∙ blocks_fault (part ∷ parts) ∙ ap (λ f. first_fault f (fault (commands_of kept (part ∷ parts)))) (sym (none_fault place))
      by false (part ∷ parts) some ih = block_fault lines line part parts ih place

  read_fault : (lines : List Numbered) → fault (run AtCommand lines) ≡ fault (lines_read kept lines)
  read_fault lines = lines_fault lines AtCommand ∙ blocks_fault (slice_split has_no_text lines)

  -- ---- the first refused line

  fault_err : {X : Type 0} (s : Result X ReadFault) (r : ReadFault) → fault s ≡ Some r → s ≡ Err r
  fault_err (Ok x) r h = absurd (cc)
  fault_err (Err e) r h = cc

  fault_none : {X : Type 0} (s : Result X ReadFault) → fault s ≡ None → (x : X) × (s ≡ Ok x)
  fault_none (Ok x) h = (x, refl)
  fault_none (Err e) h = absurd (cc)

  record Halts (place : Place) (lines : List Numbered) (r : ReadFault) : Type 0 where
    pub front : List Numbered
    pub line : Numbered
    pub more : List Numbered
    pub there : Place
    pub joined_of : lines ≡ front ++ (line ∷ more)
    pub passed : run place front ≡ Ok there
    pub halted : step there line ≡ Err r

  halts : (place : Place) (lines : List Numbered) (r : ReadFault) → run place lines ≡ Err r → Halts place lines r
  halts place [] r h = absurd (cc)
  halts place (line ∷ lines) r h = by (λ next k. halts next lines r k) (step place line) refl h
    where
      by : ((next : Place) → run next lines ≡ Err r → Halts next lines r) → (s : Result Place ReadFault) → step place line ≡ s → then_try s (λ next. run next lines) ≡ Err r → Halts place (line ∷ lines) r
      by later (Err e) is k = record { front = []; line = line; more = lines; there = place; joined_of = refl; passed = refl; halted = is ∙ k }
      by later (Ok next) is k =
          let m = later next k in
          record {
            front = line ∷ m.front;
            line = m.line;
            more = m.more;
            there = m.there;
            joined_of = ap (λ l. line ∷ l) m.joined_of;
            passed = ap (λ s. then_try s (λ n. run n m.front)) is ∙ m.passed;
            halted = m.halted;
          }

  run_on : (place : Place) (front : List Numbered) (there : Place) (more : List Numbered) → run place front ≡ Ok there → run place (front ++ more) ≡ run there more
  run_on place [] there more h = let same : place ≡ there = cc in ap (λ p. run p more) same
  run_on place (line ∷ front) there more h = by (λ next k. run_on next front there more k) (step place line) refl h
    where
      by : ((next : Place) → run next front ≡ Ok there → run next (front ++ more) ≡ run there more) → (s : Result Place ReadFault) → step place line ≡ s
          → then_try s (λ next. run next front) ≡ Ok there → run place ((line ∷ front) ++ more) ≡ run there more
      by later (Err e) is k = absurd (cc)
      by later (Ok next) is k = ap (λ s. then_try s (λ n. run n (front ++ more))) is ∙ later next k

  give_err : {X Y : Type 0} (s : Result X ReadFault) (make : X → Y) (r : ReadFault) → then_give s make ≡ Err r → s ≡ Err r
  give_err (Ok x) make r h = absurd (cc)
  give_err (Err e) make r h = cc

  line_fault : {X : Type 0} (n : ℕ) (said : Result X LineFault) (r : ReadFault) → at_line n said ≡ Err r → (f : LineFault) × (r ≡ fault_at n f)
  line_fault n said r h = let k = at_line_err n said r h in (k.0, k.2)

  text_fault : (place : Place) (line : Numbered) (r : ReadFault) → text_step place line ≡ Err r → (f : LineFault) × (r ≡ fault_at line.number f)
  text_fault AtCommand line r h = line_fault line.number (heading_of line.text) r (give_err (at_line line.number (heading_of line.text)) place_behind r h)
  text_fault AtSeries line r h = line_fault line.number (series_worded line.number line.text) r (give_err (series_of line) (λ _. AtSeries) r h)
  text_fault (AtResult m e) line r h = line_fault line.number (body_line kept m e line.text) r (give_err (at_line line.number (body_line kept m e line.text)) (AtResult m) r h)

  step_fault : (place : Place) (line : Numbered) (r : ReadFault) → step place line ≡ Err r → (f : LineFault) × (r ≡ fault_at line.number f)
  step_fault place line r h = by (has_no_text line) h
    where
      by : (b : Bool) → cond b (Ok AtCommand) (text_step place line) ≡ Err r → (f : LineFault) × (r ≡ fault_at line.number f)
      by true k = absurd (cc)
      by false k = text_fault place line r k

  pub first_refused : (lines : List Numbered) (r : ReadFault) → lines_read kept lines ≡ Err r → IsFirstRefused kept lines r
  first_refused lines r h =
      let m = halts AtCommand lines r (fault_err (run AtCommand lines) r (read_fault lines ∙ ap fault h)) in
      record {
        front = m.front;
        line = m.line;
        more = m.more;
        joined = m.joined_of;
        taken = fault_none (lines_read kept m.front) (sym (read_fault m.front) ∙ ap fault m.passed);
        refused = λ others. fault_err (lines_read kept (m.front ++ (m.line ∷ others))) r
            (sym (read_fault (m.front ++ (m.line ∷ others))) ∙ ap fault (run_on AtCommand m.front m.there (m.line ∷ others) m.passed ∙ ap (λ s. then_try s (λ n. run n others)) m.halted));
        told = step_fault m.there m.line r m.halted;
      }
