use Rattle.std.proofs.Common.{rules, ◌≡◌, ◌∙◌, Some, ap, length, refl, slice_get, slice_set}
use Rattle.std.proofs.lemmas.Option.{slice_get_read}
use Rattle.sample_store.proofs.Chunks.{set-same}
use Rattle.sample_store.proofs.timeline.make_room_at.Goals as goal

pub returns : goal.returns
returns c =
    let xs = c.args.chunks.now.items in
    let k = c.args.k in
    let old = c.index_mut-chunk.result.now in
    let new = c.make_room.new.self in
    let at : slice_get xs k ≡ Some old = slice_get_read xs (length xs) k old refl c.requires (search rules) in
    ap (slice_set xs k) c.make_room.ensures ∙ set-same xs k old at
