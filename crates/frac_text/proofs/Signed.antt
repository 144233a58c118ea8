-- Texts of numbers without a sign.
use Rattle.std.proofs.Common.{◌≡◌, ℕ, ◌<◌, sym, ◌∙◌, arith, false, List, [], ◌∷◌, length, get_or}
use Rattle.std.proofs.lemmas.Bool.{cond-false, ne_eqb}
use Rattle.frac_text.specs.Readings.{plain_answer, script_answer}

pub script_plain : (text : List ℕ) → 0 < length text → (get_or text 0 0 ≡ 45 → ⊥) → (get_or text 0 0 ≡ 43 → ⊥) → plain_answer false text ≡ script_answer text
script_plain [] some a b = absurd (omega (arith, some))
script_plain (first ∷ rest) some a b = sym (cond-false _ _ _ (ne_eqb first 45 a) ∙ cond-false _ _ _ (ne_eqb first 43 b))
