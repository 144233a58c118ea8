-- The note of a name.
use Rattle.std.proofs.Common.{◌≡◌, ℕ, ◌<◌, true, false, List, [], ◌∷◌, length, None, Some, ap, refl, arith}
use Rattle.std.specs.Prelude.{if◌then◌else◌}
use Rattle.step_table.specs.declared.marks.Note.TheVariants.{NotCounter}
use Rattle.promql_meaning.specs.Ranges.{is_counter_name, name_note}

pub none_of_empty : (name : List ℕ) → length name ≡ 0 → name_note name ≡ None
none_of_empty [] is = refl
none_of_empty (b ∷ name) is = absurd (omega (arith, is))

pub none_of_counter : (name : List ℕ) → is_counter_name name ≡ true → name_note name ≡ None
none_of_counter [] is = refl
none_of_counter (b ∷ name) is = ap (λ t. if t then None else Some (NotCounter (b ∷ name))) is

pub one_of_others : (name : List ℕ) → 0 < length name → is_counter_name name ≡ false → name_note name ≡ Some (NotCounter name)
one_of_others [] some is = absurd (omega (arith, some))
one_of_others (b ∷ name) some is = ap (λ t. if t then None else Some (NotCounter (b ∷ name))) is
