use Rattle.std.proofs.Common.{◌≡◌, ◌<◌, ◌∷◌, ◌++◌, [], length, map, take, drop}
use Rattle.std.specs.List.{filter_map}
use Rattle.step_batch.specs.Lent.{IsLater, entry_in, stages, step_of}
use Rattle.step_table.specs.Orders.{mark_cmp}
use Rattle.step_table.specs.Outcomes.{mark_of, row_of}
use Rattle.step_table.specs.Unions.{set_of}
use Rattle.op_aggregate.specs.Places.{groups_made, overflow_if}
use Rattle.op_aggregate.proofs.OneByOne.{AreFree}
use Rattle.op_aggregate.proofs.putting.put_values.Given as goal

abbrev pub invariant-loop-place : goal.invariant-loop-place
invariant-loop-place l =
    let places = l.groups.filled.items in
    record {
      labels : l.buffer.labels ≡ l.fn.buffer.labels;
      begun : 0 < length l.buffer.steps;
      free : AreFree l.buffer.steps (drop l.place-index places);
      later : (u : _) → IsLater l.fn.buffer u → IsLater l.buffer u;
      overflows : overflow_if l.overflows ≡ set_of mark_cmp (filter_map mark_of (groups_made l.groups.f l.fn.buffer.labels l.groups.all.items (take l.place-index places)));
      lent : (front : _) (at : _) (marks : _) → stages l.fn.buffer ≡ front ++ record { at = at; step = step_of [] marks } ∷ []
          → stages l.buffer ≡ front ++ record { at = at; step = step_of (map entry_in (filter_map row_of (groups_made l.groups.f l.fn.buffer.labels l.groups.all.items (take l.place-index places)))) marks } ∷ [];
    }
