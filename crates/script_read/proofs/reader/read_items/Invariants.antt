use Rattle.std.proofs.Common.{◌≡◌, drop, map}
use Rattle.script_read.specs.Items.{item_spelled}
use Rattle.script_read.specs.Outcomes.{each_of, in_front}
use Rattle.script_read.proofs.reader.read_items.Given as goal

abbrev pub invariant-loop-word : goal.invariant-loop-word
invariant-loop-word l = in_front l.items (each_of item_spelled (map (λ word. word.now) (drop l.word-index l.words))) ≡ each_of item_spelled (map (λ word. word.now) l.words)
