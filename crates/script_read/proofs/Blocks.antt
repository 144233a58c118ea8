-- Blocks of lines, as what they stand for.
use Rattle.std.proofs.Common.{◌≡◌, List, [], ◌∷◌, map, refl, sym, ap, ◌∙◌, Result, Ok, Err, IfOk, Bor, Vec, Global}
use Rattle.std.specs.List.{slice_split}
use Rattle.script_read.specs.Lines.{has_no_text}
use Rattle.script_read.specs.Views.{block_of, numbered}
use Rattle.script_read.specs.declared.line.Line.{Line}
use Rattle.script_read.proofs.Lines.{slice_split-map}

map_blocks : (blocks : List (Bor (List Line))) → map block_of blocks ≡ map (map numbered) (map (λ block. block.now) blocks)
map_blocks [] = refl
map_blocks (block ∷ blocks) = ap (λ l. map numbered block.now ∷ l) (map_blocks blocks)

pub blocks_seen : {E : Type 0} (r : Result (Vec (Bor (List Line)) Global) E) (lines : List Line)
    → IfOk r (λ w. map (λ block. block.now) w.items ≡ slice_split (λ line. has_no_text (numbered line)) lines)
    → IfOk r (λ w. map block_of w.items ≡ slice_split has_no_text (map numbered lines))
blocks_seen (Ok w) lines h = map_blocks w.items ∙ ap (map (map numbered)) h ∙ sym (slice_split-map numbered has_no_text lines)
blocks_seen (Err e) lines h = tt
