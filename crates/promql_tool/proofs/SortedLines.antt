-- Lines that were sorted.
use Rattle.std.proofs.Common.{◌≡◌, ◌<◌, ◌+◌, ℕ, List, [], ◌∷◌, length, map, arith, subst}
use Rattle.std.specs.Prelude.{Vec, IsPermutation, IsSorted}
use Rattle.std.specs.Cmp.Lexicographic.{slice_cmp}
use Rattle.std.specs.Ordering.{nat_cmp}
use Rattle.std.specs.declared.alloc.Global.{Global}
use Rattle.std.specs.declared.cmp.Ordering.{Ordering}
use Rattle.std.proofs.lemmas.List.{get_or-map, length-map}
use Rattle.std.proofs.lemmas.List.Sorted.{IsPermutation-map}
use Rattle.step_table.specs.declared.marks.Note.{Note}
use Rattle.promql_tool.specs.Query.{AreNoteLines, note_line}
use Rattle.promql_tool.specs.Runs.{bytes_of}

-- what is sorted by something of its elements is sorted
sorted_map : {X Y : Type 0} (f : X → Y) (cmp : Y → Y → Ordering) (xs : List X) → IsSorted (λ x y. cmp (f x) (f y)) xs → IsSorted cmp (map f xs)
sorted_map f cmp [] up = λ k d low high. absurd (omega (arith, high))
sorted_map f cmp (x ∷ xs) up = λ k d low high.
    let lt : k + 1 < length (x ∷ xs) = omega (arith, high, length-map (x ∷ xs) f) in
    let first : k < length (x ∷ xs) = omega arith in
    rw (get_or-map f (x ∷ xs) (k + 1) x d lt, get_or-map f (x ∷ xs) k x d first) (up k x low lt)

-- the lines of notes, sorted
pub lines_sorted : (notes : List Note) (lines sorted : List (Vec ℕ Global)) → bytes_of lines ≡ map note_line notes → IsPermutation lines sorted
    → IsSorted (λ (x y : Vec ℕ Global). slice_cmp nat_cmp x.items y.items) sorted → AreNoteLines notes (bytes_of sorted)
lines_sorted notes lines sorted are moves up = record {
  same = subst (λ (all : List (List ℕ)). IsPermutation all (bytes_of sorted)) are (IsPermutation-map (λ (line : Vec ℕ Global). line.items) lines sorted moves);
  rise = sorted_map (λ (line : Vec ℕ Global). line.items) (slice_cmp nat_cmp) sorted up;
}
