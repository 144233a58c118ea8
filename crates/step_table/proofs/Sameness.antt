-- Marks and notes are equal by `==` exactly where they are the same.
use Rattle.std.proofs.Common.{◌≡◌, Bool, true, ap, subst}
use Rattle.std.specs.Bool.{Decides}
use Rattle.std.specs.Cmp.{IsTotalOrder}
use Rattle.std.specs.Ordering.{eq_by_cmp, is_eq}
use Rattle.std.specs.declared.cmp.Ordering.{Ordering}
use Rattle.std.specs.declared.cmp.Ordering.TheVariants.{Equal}
use Rattle.std.proofs.lemmas.Cmp.{tied_itself}
use Rattle.step_table.specs.OrderLaws.{mark_cmp_total, mark_cmp_ties, note_cmp_total, note_cmp_ties}
use Rattle.step_table.specs.Orders.{mark_cmp, note_cmp}
use Rattle.step_table.specs.declared.marks.Mark.{Mark}
use Rattle.step_table.specs.declared.marks.Note.{Note}
use Rattle.step_table.proofs.LoneRows.{equal_from_is}

ties_decide : {K : Type 0} {R : K → K → Ordering} → IsTotalOrder R → ((x y : K) → R x y ≡ Equal → x ≡ y) → (a b : K) → Decides (is_eq (R a b)) (a ≡ b)
ties_decide {R = R} o ties a b = (λ e. ties a b (equal_from_is (R a b) e), λ e. subst (λ c. is_eq (R a c) ≡ true) e (ap is_eq (tied_itself o a)))

pub mark_decides : (a b : Mark) → Decides (eq_by_cmp mark_cmp a b) (a ≡ b)
mark_decides = ties_decide mark_cmp_total mark_cmp_ties

pub note_decides : (a b : Note) → Decides (eq_by_cmp note_cmp a b) (a ≡ b)
note_decides = ties_decide note_cmp_total note_cmp_ties

pub told : (P : Type 0) (r s : Bool) → s ≡ r → Decides s P → Decides r P
told P r s e d = subst (λ b. Decides b P) e d
