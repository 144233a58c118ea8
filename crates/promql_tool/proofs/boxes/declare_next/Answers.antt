use Rattle.std.proofs.Common.{◌∙◌, map, sym, ap, arith}
use Rattle.promql_tool.proofs.BoxLists.{map_moved, map_size}
use Rattle.promql_tool.proofs.Declaring.{called_calm, called_keeps, called_lost, called_ok, called_sound}
use Rattle.promql_tool.proofs.boxes.declare_next.Goals as goal

pub returns-in-Ok-clause-one : goal.returns-in-Ok-clause-one
returns-in-Ok-clause-one g c = called_ok c.args.i c.args.labels.now _ _ c.in-Ok.ensures.declared

pub returns-in-Ok-clause-boxes : goal.returns-in-Ok-clause-boxes
returns-in-Ok-clause-boxes g c = called_calm c.args.i c.args.labels.now _ _ (map_size _ _ ∙ c.declare_at.ensures.len ∙ sym (map_size _ _)) c.in-Ok.ensures.declared

pub returns-in-Err-Memory-clause-boxes : goal.returns-in-Err-Memory-clause-boxes
returns-in-Err-Memory-clause-boxes g c = called_keeps c.args.i c.args.labels.now _ _ _ (map_size _ _ ∙ c.declare_at.ensures.len ∙ sym (map_size _ _)) c.in-Err-Memory.ensures.declared

pub returns-in-Err-Failed-clause-boxes : goal.returns-in-Err-Failed-clause-boxes
returns-in-Err-Failed-clause-boxes g c =
    let called = rw c.in-Err-Failed.field-0-is at c.in-Err-Failed.ensures.declared in
    let moved = ap (map _) c.move_last.ensures ∙ map_moved _ c.args.i c.declare_at.new.engines in
    rw c.losing.ensures (called_lost c.args.i c.args.labels.now _ _ _ (omega (arith, c.requires.inside, map_size (λ b. (goal.Engine-dyn g (b.vtable, b.value)).seen b.value) c.args.engines.now))
    (map_size _ _ ∙ c.declare_at.ensures.len ∙ sym (map_size _ _)) called moved)

pub returns-in-Err-Failed-clause-sure : goal.returns-in-Err-Failed-clause-sure
returns-in-Err-Failed-clause-sure g c = λ sound.
    let called = rw c.in-Err-Failed.field-0-is at c.in-Err-Failed.ensures.declared in
    absurd (called_sound c.args.i c.args.labels.now _ _ (omega (arith, c.requires.inside, map_size (λ b. (goal.Engine-dyn g (b.vtable, b.value)).seen b.value) c.args.engines.now)) called sound)
