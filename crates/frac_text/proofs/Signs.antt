-- The sign before a time.
use Rattle.std.proofs.Common.{◌≡◌, ℕ, refl, sym, ap, ◌∙◌, true, false, ◌==◌, ◌||◌, List, [], ◌∷◌}
use Rattle.std.proofs.lemmas.Bool.{cond-false, ne_eqb}
use Rattle.frac_text.specs.Times.{amount_of, is_negative}

pub minus_text : (text rest : List ℕ) → text ≡ 45 ∷ rest → (true ≡ is_negative text) × (rest ≡ amount_of text)
minus_text text rest is = (sym (ap is_negative is), sym (ap amount_of is))

pub plus_text : (text rest : List ℕ) → text ≡ 43 ∷ rest → (false ≡ is_negative text) × (rest ≡ amount_of text)
plus_text text rest is = (sym (ap is_negative is), sym (ap amount_of is))

pub plain_text : (text : List ℕ) → ((rest : List ℕ) → text ≡ 45 ∷ rest → ⊥) → ((rest : List ℕ) → text ≡ 43 ∷ rest → ⊥) → (false ≡ is_negative text) × (text ≡ amount_of text)
plain_text [] a b = (refl, refl)
plain_text (first ∷ rest) a b =
    let m = ne_eqb first 45 (λ e. a rest (ap (λ f. f ∷ rest) e)) in
    let p = ne_eqb first 43 (λ e. b rest (ap (λ f. f ∷ rest) e)) in
    let both : (first == 45 || first == 43) ≡ false = ap (λ x. x || first == 43) m ∙ p in
    (sym m, sym (cond-false (first == 45 || first == 43) rest (first ∷ rest) both))
