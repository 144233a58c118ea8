-- The order of selectors is one.
use Rattle.std.proofs.Common.{length}
use Rattle.std.specs.Cmp.{IsStrictWeakOrder, IsTotalOrder}
use Rattle.std.proofs.lemmas.Cmp.{nat_cmp_total, on_total, then_total}
use Rattle.std.proofs.lemmas.List.MinMax.{ranks_by}
use Rattle.opt_selects.specs.Selectors.{order_of_found, precedes}
use Rattle.opt_selects.specs.declared.found.Found.{Found}

found_total : IsTotalOrder order_of_found
found_total = then_total (on_total (λ (f : Found). length f.rules) nat_cmp_total) (on_total (λ (f : Found). f.at) nat_cmp_total)

pub precedes_weak : IsStrictWeakOrder precedes
precedes_weak = ranks_by found_total (λ (f : Found). f)
