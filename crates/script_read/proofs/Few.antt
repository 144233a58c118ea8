-- A script has no more commands than lines.
use Rattle.std.proofs.Common.{◌≡◌, ◌<◌, ◌≤◌, ℕ, ◌+◌, ◌^◌, Bool, true, false, cond, List, [], ◌∷◌, ◌++◌, length, Result, Ok, Err, IfOk, None, refl, ap, arith, length-append}
use Rattle.std.specs.List.{onto_first, slice_split}
use Rattle.std.proofs.lemmas.List.{length-map}
use Rattle.std.proofs.lemmas.List.Splits.{length-slice_split}
use Rattle.std.proofs.lemmas.List.Sums.{count_by-le-length}
use Rattle.script_read.specs.Lines.{Numbered, blocks_of, has_no_text, is_line_feed, lines_of, numbered_from}
use Rattle.script_read.specs.Outcomes.{GivesWith, PatternList, in_front, then_give}
use Rattle.script_read.specs.Reading.{Instruction, command_of, commands_in, commands_of, followed, is_clear, text_read}
use Rattle.script_read.specs.Refusals.{limit}
use Rattle.script_read.specs.Views.{instruction, script_seen}
use Rattle.script_read.specs.declared.fault.ReadFault.{ReadFault}
use Rattle.script_read.specs.declared.script.Script.{Script}
use Rattle.script_read.proofs.BlocksFound.{front_ok, joined_ok}
use Rattle.script_read.proofs.Takes.{by_test, same_ok, try_ok}

-- ---- lines

module _ {X : Type 0} where
  -- how many elements parts have
  abbrev within : List (List X) → ℕ
  within [] = 0
  within (part ∷ parts) = length part + within parts

  onto_more : (x : X) (parts : List (List X)) → within (onto_first x parts) ≡ within parts + 1
  onto_more x [] = refl
  onto_more x (part ∷ parts) = omega arith

  parts_few : (p : X → Bool) (xs : List X) → within (slice_split p xs) ≤ length xs
  parts_few p [] = omega arith
  parts_few p (x ∷ xs) =
      let few = parts_few p xs in
      elim (p x) as (λ b. within (cond b ([] ∷ slice_split p xs) (onto_first x (slice_split p xs))) ≤ length (x ∷ xs)) [
        | true ↦ omega (arith, few)
        | false ↦ omega (arith, few, onto_more x (slice_split p xs))
      ]

length_numbered : (n : ℕ) (texts : List (List ℕ)) → length (numbered_from n texts) ≡ length texts
length_numbered n [] = refl
length_numbered n (text ∷ texts) = omega (arith, length_numbered (n + 1) texts)

-- ---- commands

-- a command and later ones
module _ (later : Result (List Instruction) ReadFault) (command : Instruction) (n : ℕ) (all : List Instruction) where
  before_later : in_front (command ∷ []) later ≡ Ok all → ((more : List Instruction) → later ≡ Ok more → length more ≤ n) → length all ≤ n + 1
  before_later h few = let k = front_ok command later all h in omega (arith, few k.0 k.1, ap length k.2)

  abbrev alone : Result (List Instruction) ReadFault
  alone = Ok (command ∷ [])

  none_behind : alone ≡ Ok all → length all ≤ n + 1
  none_behind h = omega (arith, ap length (same_ok alone (command ∷ []) all refl h))

  followed_few : followed later command ≡ Ok all → ((more : List Instruction) → later ≡ Ok more → length more ≤ n) → length all ≤ n + 1
  followed_few h few = by_test (is_clear command.deed) (in_front (command ∷ []) later) alone (Ok all) h (λ _ k. before_later k few) (λ _ k. none_behind k)

block_few : (kept : PatternList) (block : List Numbered) (all : List Instruction) → commands_in kept block ≡ Ok all → length all ≤ length block
block_few kept [] all h = omega (arith, ap length (same_ok (commands_in kept []) [] all refl h))
block_few kept (line ∷ body) all h =
    let k = try_ok (command_of kept line body) (followed (commands_in kept body)) all h in
    omega (arith, followed_few (commands_in kept body) k.0 (length body) all k.2 (λ more r. block_few kept body more r))

blocks_few : (kept : PatternList) (blocks : List (List Numbered)) (all : List Instruction) → commands_of kept blocks ≡ Ok all → length all ≤ within blocks
blocks_few kept [] all h = omega (arith, ap length (same_ok (commands_of kept []) [] all refl h))
blocks_few kept (block ∷ blocks) all h =
    let k = joined_ok (commands_in kept block) (commands_of kept blocks) all h in
    omega (arith, block_few kept block k.0 k.2, blocks_few kept blocks k.1 k.3, ap length k.4, length-append k.0 k.1)

pub commands_few : (r : Result Script ReadFault) (kept : PatternList) (bytes : List ℕ) → length bytes ≤ limit
    → GivesWith (then_give r script_seen) kept (λ more. text_read more None bytes) → IfOk r (λ script. length script.commands < 2 ^ 32)
commands_few (Err fault) kept bytes small said = tt
commands_few (Ok script) kept bytes small said =
    let texts = slice_split is_line_feed bytes in
    omega (
      arith,
      small,
      blocks_few (kept ++ []) (blocks_of bytes) (script_seen script) (said []),
      parts_few has_no_text (lines_of bytes),
      length_numbered 1 texts,
      length-slice_split is_line_feed bytes,
      count_by-le-length is_line_feed bytes,
      length-map script.commands instruction,
    )
