-- The lines of a block, one more at a time, and the commands of a file.
use Rattle.std.proofs.Common.{◌≡◌, ◌<◌, ◌≤◌, ℕ, suc, ◌+◌, ◌-◌, true, false, List, [], ◌∷◌, ◌++◌, Contains, length, get_or, take, drop, map, Bor, Result, Ok, Err, IfErr, IfOk, ap, sym, ◌∙◌, subst, arith, add-one, drop-cons}
use Rattle.std.specs.List.{slice_split}
use Rattle.std.proofs.lemmas.List.{get_or-map, length-map, map-append, take_rest}
use Rattle.script_read.specs.Expects.{RefusesOnLine, RefusesPattern, search_on}
use Rattle.script_read.specs.Lines.{Numbered, has_no_text}
use Rattle.ticks.specs.Moments.{Moments}
use Rattle.script_read.specs.Outcomes.{MakesWith, PatternList, Refuses, Says, each_of, in_front, onto, then_try}
use Rattle.script_read.specs.Reading.{body_line, command_of, commands_in, commands_of, expected_after, followed, is_clear, series_of}
use Rattle.script_read.specs.Refusals.{at_line, fault_at}
use Rattle.script_read.specs.Views.{block_of, instruction, instructions, numbered}
use Rattle.script_read.specs.declared.fault.LineFault.{LineFault}
use Rattle.script_read.specs.declared.fault.ReadFault.{ReadFault}
use Rattle.script_read.specs.declared.fault.ReadFault.TheVariants as files
use Rattle.script_read.specs.declared.line.Line.{Line}
use Rattle.script_read.specs.declared.script.Command.{Command}
use Rattle.script_read.specs.declared.script.Expectations.{Expectations}
use Rattle.script_read.specs.declared.script.SeriesLine.{SeriesLine}
use Rattle.script_read.proofs.Among.{parts_within, within_at}
use Rattle.script_read.proofs.Cells.{front_added}
use Rattle.script_read.proofs.Growing.{gathered}
use Rattle.script_read.proofs.Spares.{refused_line}
use Rattle.script_read.proofs.Steps.{front_front, front_onto, refuses_front, refuses_try}

-- a list from a place on: what stands there, and the rest
cut_at : {X : Type 0} (xs : List X) (i : ℕ) (x : X) → i < length xs → x ≡ get_or xs i x → drop i xs ≡ x ∷ drop (i + 1) xs
cut_at xs i x lt is = rw (add-one, drop-cons xs i x lt) (ap (λ y. y ∷ drop (suc i) xs) (sym is))

module _ (body : List Line) (i : ℕ) (line : Line) (lt : i < length body) (is : line ≡ get_or body i line) where
  lines_cut : map numbered (drop i body) ≡ numbered line ∷ map numbered (drop (i + 1) body)
  lines_cut = ap (map numbered) (cut_at body i line lt is)

  pub line_there : Contains (map numbered body) (numbered line)
  line_there = (i, omega (arith, length-map body numbered), get_or-map numbered body i line (numbered line) lt ∙ ap numbered (sym is))

  pub series_more : (lines : List SeriesLine) (series : SeriesLine) → series_of (numbered line) ≡ Ok series
      → in_front lines (each_of series_of (map numbered (drop i body))) ≡ in_front (lines ++ series ∷ []) (each_of series_of (map numbered (drop (i + 1) body)))
  series_more lines series k =
      ap (λ l. in_front lines (each_of series_of l)) lines_cut
      ∙ ap (λ r. in_front lines (onto r (each_of series_of (map numbered (drop (i + 1) body))))) k
      ∙ front_onto lines series (each_of series_of (map numbered (drop (i + 1) body)))

  pub expected_more : (kept : PatternList) (m : Moments) (e more : Expectations) → body_line kept m e (numbered line).text ≡ Ok more
      → expected_after kept m e (map numbered (drop i body)) ≡ expected_after kept m more (map numbered (drop (i + 1) body))
  expected_more kept m e more k =
      ap (expected_after kept m e) lines_cut
      ∙ ap (λ r. then_try (at_line (numbered line).number r) (λ now. expected_after kept m now (map numbered (drop (i + 1) body)))) k

-- a series that is read, as its line's
pub series_said : (n : ℕ) (r said : Result SeriesLine LineFault) (series : SeriesLine) → at_line n r ≡ Ok series → Says r said → at_line n said ≡ Ok series
series_said n (Ok x) said series h k = ap (at_line n) k ∙ h
series_said n (Err e) said series h k = absurd (cc)

-- what a line that is taken adds
pub line_made : {X : Type 0} (n : ℕ) (r : Result X LineFault) (x : X) (now : Expectations) (kept : PatternList) (said : PatternList → Result Expectations LineFault)
    → at_line n r ≡ Ok x → MakesWith r now kept said → (more : PatternList) → said (kept ++ more) ≡ Ok now
line_made n (Ok y) x now kept said h k = k
line_made n (Err e) x now kept said h k = absurd (cc)

pub line_kept : {X : Type 0} (n : ℕ) (r : Result X LineFault) (x : X) (P : X → Type 0) → at_line n r ≡ Ok x → IfOk r P → P x
line_kept n (Ok y) x P h k = let same : y ≡ x = cc in subst P same k
line_kept n (Err e) x P h k = absurd (cc)

-- a line that is refused, as the file's
pub line_refused : {X : Type 0} (kept : PatternList) (lines : List Numbered) (line : Numbered) (r : Result X LineFault) (e : ReadFault) → Contains lines line
    → at_line line.number r ≡ Err e → IfErr r (RefusesPattern kept (search_on line.text)) → RefusesOnLine kept lines e
line_refused kept lines line (Ok x) e there h k = absurd (cc)
line_refused kept lines line (Err fault) e there h k =
    let same : fault_at line.number fault ≡ e = cc in
    subst (RefusesOnLine kept lines) same (refused_line kept lines line fault there k)

-- ---- commands

instructions_more : (commands : List Command) (command : Command) → instructions (commands ++ command ∷ []) ≡ instructions commands ++ instruction command ∷ []
instructions_more commands command = map-append instruction commands (command ∷ [])

module _ (kept : PatternList) (commands : List Command) (line : Numbered) (body : List Numbered) where
  -- a `clear`, and the commands behind it
  pub clear_more : (command : Command) → command_of kept line body ≡ Ok (instruction command) → is_clear (instruction command).deed ≡ true
      → in_front (instructions commands) (commands_in kept (line ∷ body)) ≡ in_front (instructions (commands ++ command ∷ [])) (commands_in kept body)
  clear_more command is clears =
      rw (is, clears) (front_front (instructions commands) (instruction command ∷ []) (commands_in kept body)
      ∙ ap (λ l. in_front l (commands_in kept body)) (sym (instructions_more commands command)))

  -- another command, with its lines
  pub other_more : (command : Command) → command_of kept line body ≡ Ok (instruction command) → is_clear (instruction command).deed ≡ false
      → in_front (instructions commands) (commands_in kept (line ∷ body)) ≡ Ok (instructions (commands ++ command ∷ []))
  other_more command is clears = rw (is, clears) (ap Ok (sym (instructions_more commands command)))

  pub command_refused : (e : ReadFault) → Refuses e (command_of kept line body) → Refuses e (in_front (instructions commands) (commands_in kept (line ∷ body)))
  command_refused e h = refuses_front e (instructions commands) (commands_in kept (line ∷ body)) (refuses_try e (command_of kept line body) (followed (commands_in kept body)) h)

-- what is refused behind commands
pub behind_refused : {X : Type 0} (e : ReadFault) (front : List X) (said : Result (List X) ReadFault) → Refuses e (in_front front said) → Refuses e said
behind_refused files.Memory front said h = tt
behind_refused (files.Refused r) front (Err d) h = h
behind_refused (files.Refused r) front (Ok xs) h = absurd (cc)

-- the first line of what is left of a block, and the lines behind it
pub first_cut : (rest : List Line) (line : Line) → 1 ≤ length rest → line ≡ get_or rest 0 line → map numbered rest ≡ numbered line ∷ map numbered (take (length rest - 1) (drop 1 rest))
first_cut rest line some is = ap (map numbered) (cut_at rest 0 line (omega (arith, some)) is ∙ ap (λ l. line ∷ l) (sym (take_rest rest 1)))

module _ (before commands : List Command) (block rest : List Numbered) (kept : PatternList)
    (said : (more : PatternList) → in_front (instructions commands) (commands_in (kept ++ more) rest) ≡ in_front (instructions before) (commands_in (kept ++ more) block)) where
  -- what is said of a block is said of what is left of it, with more patterns
  pub left_said : (now last more : PatternList) → now ≡ kept ++ last
      → in_front (instructions commands) (commands_in (now ++ more) rest) ≡ in_front (instructions before) (commands_in (now ++ more) block)
  left_said now last more is =
      subst (λ (all : PatternList). in_front (instructions commands) (commands_in all rest) ≡ in_front (instructions before) (commands_in all block))
      (gathered kept now last more is) (said (last ++ more))

  pub left_refused : (now last : PatternList) (line : Numbered) (body : List Numbered) (e : ReadFault) → now ≡ kept ++ last → rest ≡ line ∷ body
      → Refuses e (command_of now line body) → Refuses e (commands_in now block)
  left_refused now last line body e is cut h =
      behind_refused e (instructions before) (commands_in now block)
      (subst (Refuses e) (ap (λ l. in_front (instructions commands) (commands_in now l)) (sym cut)
      ∙ subst (λ (all : PatternList). in_front (instructions commands) (commands_in all rest) ≡ in_front (instructions before) (commands_in all block)) (sym is) (said last))
      (command_refused now commands line body e h))

-- what stands in the lines behind the first one
pub there_cut : (rest : List Numbered) (line : Numbered) (body : List Numbered) (x : Numbered) → rest ≡ line ∷ body → Contains (line ∷ body) x → Contains rest x
there_cut rest line body x cut at = subst (λ l. Contains l x) (sym cut) at

-- ---- blocks

module _ (blocks : List (Bor (List Line))) (i : ℕ) (block : Bor (List Line)) (lt : i < length blocks) (is : block ≡ get_or blocks i block) where
  blocks_cut : map block_of (drop i blocks) ≡ block_of block ∷ map block_of (drop (i + 1) blocks)
  blocks_cut = ap (map block_of) (cut_at blocks i block lt is)

  pub block_more : (kept : PatternList) (before now : List Command) → in_front (instructions before) (commands_in kept (map numbered block.now)) ≡ Ok (instructions now)
      → in_front (instructions before) (commands_of kept (map block_of (drop i blocks))) ≡ in_front (instructions now) (commands_of kept (map block_of (drop (i + 1) blocks)))
  block_more kept before now h =
      ap (λ l. in_front (instructions before) (commands_of kept l)) blocks_cut
      ∙ front_added (instructions before) (instructions now) (commands_in kept (map numbered block.now)) (commands_of kept (map block_of (drop (i + 1) blocks))) h

  -- its lines are lines of the file
  pub block_within : (all : List Numbered) → map block_of blocks ≡ slice_split has_no_text all → (line : Numbered) → Contains (block_of block) line → Contains all line
  block_within all whole line at =
      within_at all (slice_split has_no_text all) i (block_of block) line (parts_within has_no_text all) (omega (arith, ap length whole, length-map blocks block_of))
      (subst (λ l. Contains l line) (ap block_of is ∙ sym (get_or-map block_of blocks i block (block_of block) lt) ∙ ap (λ l. get_or l i (block_of block)) whole) at)
