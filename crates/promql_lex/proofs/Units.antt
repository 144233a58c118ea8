-- A run has units where the end of a count and a unit's letter stand side by side in it.
use Rattle.std.proofs.Common.{◌≡◌, ◌↔◌, ℕ, Bool, true, false, List, [], ◌∷◌, ◌++◌, refl, ap, subst, sym, inl, inr}
use Rattle.std.specs.Prelude.{◌&&◌}
use Rattle.std.proofs.lemmas.Bool.{and_from, and_parts, or_cases, or_left, or_right}
use Rattle.promql_lex.specs.Laws.{HasUnit}
use Rattle.promql_lex.specs.Numbers.{begins_unit, counts_in_hexadecimal, ends_count, has_unit, has_units}

later : (hexadecimal : Bool) (byte : ℕ) (bytes : List ℕ) → HasUnit hexadecimal bytes → HasUnit hexadecimal (byte ∷ bytes)
later hexadecimal byte bytes (HasUnit.side_by_side front count unit back is ends begins) =
    HasUnit.side_by_side (byte ∷ front) count unit back (ap (λ xs. byte ∷ xs) is) ends begins

found : (hexadecimal : Bool) (last : ℕ) (bytes : List ℕ) → has_unit hexadecimal (ends_count hexadecimal last) bytes ≡ true → HasUnit hexadecimal (last ∷ bytes)
found hexadecimal last [] h = absurd (cc)
found hexadecimal last (byte ∷ bytes) h =
    elim (or_cases (ends_count hexadecimal last && begins_unit hexadecimal byte) (has_unit hexadecimal (ends_count hexadecimal byte) bytes) h) [
      | inl here ↦ let both = and_parts (ends_count hexadecimal last) (begins_unit hexadecimal byte) here in HasUnit.side_by_side [] last byte bytes refl both.0 both.1
      | inr there ↦ later hexadecimal last (byte ∷ bytes) (found hexadecimal byte bytes there)
    ]

found_first : (hexadecimal : Bool) (run : List ℕ) → has_unit hexadecimal false run ≡ true → HasUnit hexadecimal run
found_first hexadecimal [] h = absurd (cc)
found_first hexadecimal (byte ∷ bytes) h = found hexadecimal byte bytes h

seen : (hexadecimal behind : Bool) (front : List ℕ) (count unit : ℕ) (back : List ℕ) → ends_count hexadecimal count ≡ true → begins_unit hexadecimal unit ≡ true
    → has_unit hexadecimal behind (front ++ count ∷ (unit ∷ back)) ≡ true
seen hexadecimal behind [] count unit back ends begins =
    or_right (behind && begins_unit hexadecimal count) _
    (or_left (ends_count hexadecimal count && begins_unit hexadecimal unit) _ (and_from (ends_count hexadecimal count) (begins_unit hexadecimal unit) ends begins))
seen hexadecimal behind (byte ∷ front) count unit back ends begins =
    or_right (behind && begins_unit hexadecimal byte) _ (seen hexadecimal (ends_count hexadecimal byte) front count unit back ends begins)

seen_in : (hexadecimal : Bool) (run : List ℕ) → HasUnit hexadecimal run → has_unit hexadecimal false run ≡ true
seen_in hexadecimal run (HasUnit.side_by_side front count unit back is ends begins) =
    subst (λ xs. has_unit hexadecimal false xs ≡ true) (sym is) (seen hexadecimal false front count unit back ends begins)

pub units_told : (run : List ℕ) → (has_units run ≡ true) ↔ HasUnit (counts_in_hexadecimal run) run
units_told run = (found_first (counts_in_hexadecimal run) run, seen_in (counts_in_hexadecimal run) run)
