use Rattle.std.proofs.Common.{◌≡◌, take}
use Rattle.std.specs.List.{All}
use Rattle.xfrac.specs.Laws.{IsNumber}
use Rattle.window_fn.proofs.quantiles.copied.Given as goal

abbrev pub invariant-loop-value : goal.invariant-loop-value
invariant-loop-value l = record {
  so_far : l.copy.items ≡ take l.value-index l.values;
  numbers : All IsNumber (take l.value-index l.values);
}
