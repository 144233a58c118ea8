use Rattle.std.proofs.Common.{◌≡◌, length, map}
use Rattle.promql_tool.proofs.Declaring.{DeclaredSo}
use Rattle.promql_tool.proofs.boxes.declare_each.Given as goal

abbrev pub invariant-loop-i : goal.invariant-loop-i
invariant-loop-i g l = (let es = map (λ b. (goal.Engine-dyn g (b.vtable, b.value)).seen b.value) l.initial.engines in let fs = map (λ b. (goal.Engine-dyn g (b.vtable, b.value)).seen b.value) l.engines in record {
  so : DeclaredSo l.i l.declared es fs;
  len : length l.engines ≡ length l.initial.engines;
})
