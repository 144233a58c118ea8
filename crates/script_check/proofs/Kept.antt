-- The patterns that a script's lines name are kept once it is read.
use Rattle.std.proofs.Common.{◌≡◌, ℕ, Bool, true, false, List, [], ◌∷◌, ◌++◌, length, Option, None, Some, Result, Ok, Err, IfOk, refl, subst, append-nil}
use Rattle.std.specs.Prelude.{if◌then◌else◌, nat_lt}
use Rattle.std.specs.List.{AllByRecursion}
use Rattle.std.proofs.lemmas.Bool.{ltb-true}
use Rattle.match_rule.specs.Patterns.{is_kept, number_of}
use Rattle.script_read.specs.Commands.{Order, Clearing, Loading, Evaluating, heading_of}
use Rattle.script_read.specs.Expects.{Expectation, InOrder, Failing, Warning, Informing, WithoutWarnings, WithoutInfos, Tested, Anything, Message, Search, expectation_added, expectation_of, fits, if_fits, is_expectation, mode_wants, wanted_for, with_asked}
use Rattle.script_read.specs.Lines.{Numbered, blocks_of, broken_line, is_empty}
use Rattle.ticks.specs.Moments.{Moments}
use Rattle.script_read.specs.Outcomes.{GivesWith, in_front, joined, then_give, then_try}
use Rattle.script_read.specs.Reading.{Deed, Loads, Evaluates, Instruction, body_line, command_headed, command_of, commands_in, commands_of, expected_after, followed, is_clear, reading, series_lines, text_read}
use Rattle.script_read.specs.Refusals.{at_line, limit}
use Rattle.script_read.specs.Results.{line_added, result_added}
use Rattle.script_read.specs.Views.{deed_of, instructions, script_seen}
use Rattle.script_read.specs.declared.expectation.Mode.{Mode}
use Rattle.script_read.specs.declared.expectation.Mode.TheVariants as modes
use Rattle.script_read.specs.declared.fault.LineFault.{LineFault}
use Rattle.script_read.specs.declared.fault.LineFault.TheVariants.{Malformed, BadPattern}
use Rattle.script_read.specs.declared.fault.ReadFault.{ReadFault}
use Rattle.script_read.specs.declared.fault.ReadFault.TheVariants.{Refused}
use Rattle.script_read.specs.declared.script.Command.{Command}
use Rattle.script_read.specs.declared.script.Expectations.{Expectations}
use Rattle.script_read.specs.declared.script.Script.{Script}
use Rattle.script_read.specs.declared.script.ScriptRefusal.TheVariants.{TooLarge}
use Rattle.script_read.specs.declared.script.Wanted.{Wanted}
use Rattle.script_read.specs.declared.script.Wanted.TheVariants.{Regex}
use Rattle.script_read.specs.declared.script.What.{What}
use Rattle.script_read.specs.declared.script.What.TheVariants.{Clear, Load, Eval}
use Rattle.script_check.specs.Verdicts.{AreKept, HasItsPatterns, HasPatterns, IsKept, KeepsPatterns, PatternList}

-- ---- steps that may refuse

module _ {X E : Type 0} where
  anything : (r : Result X E) → IfOk r (λ x. Unit {0})
  anything (Ok x) = tt
  anything (Err e) = tt

module _ {X Y E : Type 0} where
  give_ok : (r : Result X E) (f : X → Y) (P : X → Type 0) (Q : Y → Type 0) → ((x : X) → P x → Q (f x)) → IfOk r P → IfOk (then_give r f) Q
  give_ok (Ok x) f P Q k h = k x h
  give_ok (Err e) f P Q k h = tt

  try_ok : (r : Result X E) (f : X → Result Y E) (P : X → Type 0) (Q : Y → Type 0) → ((x : X) → P x → IfOk (f x) Q) → IfOk r P → IfOk (then_try r f) Q
  try_ok (Ok x) f P Q k h = k x h
  try_ok (Err e) f P Q k h = tt

at_line_ok : {X : Type 0} (n : ℕ) (r : Result X LineFault) (P : X → Type 0) → IfOk r P → IfOk (at_line n r) P
at_line_ok n (Ok x) P h = h
at_line_ok n (Err fault) P h = tt

module _ {X : Type 0} (P : X → Type 0) where
  all_more : (xs ys : List X) → AllByRecursion P xs → AllByRecursion P ys → AllByRecursion P (xs ++ ys)
  all_more [] ys h k = k
  all_more (x ∷ xs) ys h k = (h.0, all_more xs ys h.1 k)

  front_ok : {E : Type 0} (xs : List X) (r : Result (List X) E) → AllByRecursion P xs → IfOk r (AllByRecursion P) → IfOk (in_front xs r) (AllByRecursion P)
  front_ok xs (Ok ys) h k = all_more xs ys h k
  front_ok xs (Err e) h k = tt

  joined_ok : {E : Type 0} (r s : Result (List X) E) → IfOk r (AllByRecursion P) → IfOk s (AllByRecursion P) → IfOk (joined r s) (AllByRecursion P)
  joined_ok (Ok xs) s h k = front_ok xs s h k
  joined_ok (Err e) s h k = tt

module _ (kept : PatternList) where
  -- ---- lines

  wanted_kept : (test : Tested) → IfOk (wanted_for kept test) (IsKept kept)
  wanted_kept Anything = tt
  wanted_kept (Message text) = tt
  wanted_kept (Search text) =
      elim (is_kept (false, text) kept) as (λ b. is_kept (false, text) kept ≡ b → IfOk {E = LineFault} (if b then Ok (Regex (record { 0 = number_of (false, text) kept })) else Err BadPattern) (IsKept kept)) [
        | true ↦ λ e. ltb-true _ _ e
        | false ↦ λ _. tt
      ] refl

  more_kept : (lines : List Wanted) (line : Wanted) → AreKept kept lines → IsKept kept line → AreKept kept (lines ++ line ∷ [])
  more_kept lines line h k = all_more (IsKept kept) lines (line ∷ []) h (k, tt)

  asked_kept : (e : Expectations) (x : Expectation) → HasPatterns kept e → IfOk (with_asked kept e x) (HasPatterns kept)
  asked_kept e InOrder h = record { fail = h.fail; warn = h.warn; info = h.info }
  asked_kept e (Failing test) h =
      give_ok (wanted_for kept test) (λ wanted. record e { fail = e.fail ++ wanted ∷ [] }) (IsKept kept) (HasPatterns kept)
      (λ wanted k. record { fail = more_kept e.fail wanted h.fail k; warn = h.warn; info = h.info }) (wanted_kept test)
  asked_kept e (Warning test) h =
      give_ok (wanted_for kept test) (λ wanted. record e { warn = e.warn ++ wanted ∷ [] }) (IsKept kept) (HasPatterns kept)
      (λ wanted k. record { fail = h.fail; warn = more_kept e.warn wanted h.warn k; info = h.info }) (wanted_kept test)
  asked_kept e (Informing test) h =
      give_ok (wanted_for kept test) (λ wanted. record e { info = e.info ++ wanted ∷ [] }) (IsKept kept) (HasPatterns kept)
      (λ wanted k. record { fail = h.fail; warn = h.warn; info = more_kept e.info wanted h.info k }) (wanted_kept test)
  asked_kept e WithoutWarnings h = record { fail = h.fail; warn = h.warn; info = h.info }
  asked_kept e WithoutInfos h = record { fail = h.fail; warn = h.warn; info = h.info }

  fitted_kept : (e : Expectations) (instant : Bool) (x : Expectation) → HasPatterns kept e → IfOk (if_fits kept e instant x) (HasPatterns kept)
  fitted_kept e instant x h = elim (fits e instant x) as (λ b. IfOk (if b then with_asked kept e x else Err Malformed) (HasPatterns kept)) [ true ↦ asked_kept e x h | false ↦ tt ]

  expectation_kept : (e : Expectations) (instant : Bool) (text : List ℕ) → HasPatterns kept e → IfOk (expectation_added kept e instant text) (HasPatterns kept)
  expectation_kept e instant text h =
      try_ok (expectation_of text) (if_fits kept e instant) (λ x. Unit {0}) (HasPatterns kept) (λ x _. fitted_kept e instant x h) (anything (expectation_of text))

  result_kept : (m : Moments) (e : Expectations) (text : List ℕ) → HasPatterns kept e → IfOk (result_added m e text) (HasPatterns kept)
  result_kept m e text h =
      elim (is_empty e.fail) as (λ b. IfOk (if b then then_give (line_added m e.result text) (λ result. record e { result = result }) else Err Malformed) (HasPatterns kept)) [
        | true ↦ give_ok (line_added m e.result text) (λ result. record e { result = result }) (λ x. Unit {0}) (HasPatterns kept) (λ result _. record { fail = h.fail; warn = h.warn; info = h.info }) (anything (line_added m e.result text))
        | false ↦ tt
      ]

  line_kept : (m : Moments) (e : Expectations) (text : List ℕ) → HasPatterns kept e → IfOk (body_line kept m e text) (HasPatterns kept)
  line_kept m e text h =
      elim (is_expectation text) as (λ b. IfOk (if b then expectation_added kept e m.instant text else result_added m e text) (HasPatterns kept)) [
        | true ↦ expectation_kept e m.instant text h
        | false ↦ result_kept m e text h
      ]

  lines_kept : (m : Moments) (body : List Numbered) (e : Expectations) → HasPatterns kept e → IfOk (expected_after kept m e body) (HasPatterns kept)
  lines_kept m [] e h = h
  lines_kept m (line ∷ body) e h =
      try_ok (at_line line.number (body_line kept m e line.text)) (λ more. expected_after kept m more body) (HasPatterns kept) (HasPatterns kept) (lines_kept m body)
      (at_line_ok line.number (body_line kept m e line.text) (HasPatterns kept) (line_kept m e line.text h))

  mode_kept : (mode : Mode) → HasPatterns kept (mode_wants mode)
  mode_kept modes.Plain = record { fail = tt; warn = tt; info = tt }
  mode_kept modes.Fail = record { fail = (tt, tt); warn = tt; info = tt }
  mode_kept modes.Warn = record { fail = tt; warn = (tt, tt); info = tt }
  mode_kept modes.Info = record { fail = tt; warn = tt; info = (tt, tt) }
  mode_kept modes.Ordered = record { fail = tt; warn = tt; info = tt }

  -- ---- commands

  abbrev DeedHas : Deed → Type 0
  DeedHas (Evaluates m text e) = HasPatterns kept e
  DeedHas _ = Unit {0}

  abbrev Has : Instruction → Type 0
  Has i = DeedHas i.deed

  headed_kept : (line : ℕ) (body : List Numbered) (order : Order) → IfOk (command_headed kept line body order) Has
  headed_kept line body Clearing = tt
  headed_kept line body (Loading interval) = give_ok (series_lines body) (λ series. record { line = line; deed = Loads interval series }) (λ x. Unit {0}) Has (λ x _. tt) (anything (series_lines body))
  headed_kept line body (Evaluating mode m text) =
      give_ok (expected_after kept m (mode_wants mode) body) (λ expected. record { line = line; deed = Evaluates m text expected }) (HasPatterns kept) Has (λ e h. h)
      (lines_kept m body (mode_wants mode) (mode_kept mode))

  command_kept : (line : Numbered) (body : List Numbered) → IfOk (command_of kept line body) Has
  command_kept line body =
      try_ok (at_line line.number (heading_of line.text)) (command_headed kept line.number body) (λ x. Unit {0}) Has (λ order _. headed_kept line.number body order) (anything (at_line line.number (heading_of line.text)))

  followed_kept : (later : Result (List Instruction) ReadFault) (command : Instruction) → Has command → IfOk later (AllByRecursion Has) → IfOk (followed later command) (AllByRecursion Has)
  followed_kept later command h k =
      elim (is_clear command.deed) as (λ b. IfOk (if b then in_front (command ∷ []) later else Ok (command ∷ [])) (AllByRecursion Has)) [
        | true ↦ front_ok Has (command ∷ []) later (h, tt) k
        | false ↦ (h, tt)
      ]

  block_kept : (block : List Numbered) → IfOk (commands_in kept block) (AllByRecursion Has)
  block_kept [] = tt
  block_kept (line ∷ body) =
      try_ok (command_of kept line body) (followed (commands_in kept body)) Has (AllByRecursion Has) (λ command h. followed_kept (commands_in kept body) command h (block_kept body)) (command_kept line body)

  blocks_kept : (blocks : List (List Numbered)) → IfOk (commands_of kept blocks) (AllByRecursion Has)
  blocks_kept [] = tt
  blocks_kept (block ∷ blocks) = joined_ok Has (commands_in kept block) (commands_of kept blocks) (block_kept block) (blocks_kept blocks)

  text_kept : (broken : Option ℕ) (bytes : List ℕ) → IfOk (text_read kept broken bytes) (AllByRecursion Has)
  text_kept (Some line) bytes = tt
  text_kept None bytes = blocks_kept (blocks_of bytes)

  reading_kept : (bytes : List ℕ) → IfOk (reading kept bytes) (AllByRecursion Has)
  reading_kept bytes =
      elim (nat_lt limit (length bytes)) as (λ b. IfOk (if b then Err (Refused TooLarge) else text_read kept (broken_line bytes) bytes) (AllByRecursion Has)) [
        | true ↦ tt
        | false ↦ text_kept (broken_line bytes) bytes
      ]

  -- ---- scripts

  what_has : (what : What) → DeedHas (deed_of what) → HasItsPatterns kept what
  what_has Clear h = tt
  what_has (Load interval lines) h = tt
  what_has (Eval grid instant text e) h = h

  commands_have : (commands : List Command) → AllByRecursion Has (instructions commands) → AllByRecursion (λ (command : Command). HasItsPatterns kept command.what) commands
  commands_have [] h = tt
  commands_have (command ∷ commands) h = (what_has command.what h.0, commands_have commands h.1)

pub script_keeps : (r : Result Script ReadFault) (kept : PatternList) (bytes : List ℕ) → GivesWith (then_give r script_seen) kept (λ more. reading more bytes) → IfOk r (KeepsPatterns kept)
script_keeps (Err fault) kept bytes h = tt
script_keeps (Ok script) kept bytes h =
    let said : reading kept bytes ≡ Ok (instructions script.commands) = subst (λ (k : PatternList). reading k bytes ≡ Ok (instructions script.commands)) (append-nil kept) (h []) in
    commands_have kept script.commands (subst (λ (r : Result (List Instruction) ReadFault). IfOk r (AllByRecursion (Has kept))) said (reading_kept kept bytes))
