use Rattle.std.proofs.Common.{rules, ◌≡◌, ◌<◌, ◌-◌, length, Some, slice_get, refl, sym, subst, arith}
use Rattle.std.proofs.lemmas.Option.{slice_get_read}
use Rattle.sample_store.specs.Chunks.{cursor_at}
use Rattle.sample_store.specs.Samples.{Between, EndsWith}
use Rattle.sample_store.proofs.Chunks.{filled-at}
use Rattle.sample_store.proofs.Cursors.{chunk_there, previous_within, previous_over}
use Rattle.sample_store.proofs.cursor.Cursor.behind.Goals as goal

pub returns-then-i-gt0-clause-sample : goal.returns-then-i-gt0-clause-sample
returns-then-i-gt0-clause-sample c =
    let xs = c.self.inside.chunks.now in
    let k = c.self.inside.chunk in
    let i = c.self.inside.i in
    let d = c.index-chunks-k.result in
    let within : k < length xs = chunk_there xs k i c.self.inside.base c.self.invariant c.if-i-gt0.true in
    let there : slice_get xs k ≡ Some d = slice_get_read xs (length xs) k d refl within (search rules) in
    λ s one. subst (λ (z : Between). EndsWith z.before s) c.self.view_is (previous_within xs k i d s there c.if-i-gt0.true one)

pub returns-clause-sample : goal.returns-clause-sample
returns-clause-sample c =
    let xs = c.self.inside.chunks.now in
    let k = c.self.inside.chunk in
    let i = c.self.inside.i in
    let d = c.index-chunks-earlier.result in
    let some : 0 < k = omega arith in
    let w = c.self.invariant.within in
    let within : k - 1 < length xs = omega (arith, some, w) in
    let there : slice_get xs (k - 1) ≡ Some d = slice_get_read xs (length xs) (k - 1) d refl within (search rules) in
    let front : i ≡ 0 = omega arith in
    λ s last. let one : slice_get d (length d - 1) ≡ Some s = subst (λ n. slice_get d (n - 1) ≡ Some s) c.len.ensures last in
    subst (λ (z : Between). EndsWith z.before s) c.self.view_is
    (subst (λ n. EndsWith (cursor_at xs k n).before s) (sym front) (previous_over xs k d s some there (filled-at xs (k - 1) d c.self.invariant.filled there) one))
