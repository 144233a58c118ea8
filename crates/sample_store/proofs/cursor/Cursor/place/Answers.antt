use Rattle.std.proofs.Common.{arith}
use Rattle.sample_store.proofs.Cursors.{before_few}
use Rattle.sample_store.proofs.cursor.Cursor.place.Goals as goal

pub overflow_add-result : goal.overflow_add-result
overflow_add-result c =
    let few = before_few c.self.inside.chunks.now c.self.inside.chunk c.self.inside.i c.self.inside.base c.self.invariant in
    omega (arith, few)

pub overflow_cast-result : goal.overflow_cast-result
overflow_cast-result c =
    let few = before_few c.self.inside.chunks.now c.self.inside.chunk c.self.inside.i c.self.inside.base c.self.invariant in
    omega (arith, few)
