-- Lines that want nothing of a note but that there is one, and lines that all hold.
use Rattle.std.proofs.Common.{◌≡◌, ℕ, Bool, true, false, not, List, [], ◌∷◌, length, refl, sym, arith}
use Rattle.std.specs.List.{list_all, list_any}
use Rattle.std.proofs.lemmas.Bool.{eqb-true}
use Rattle.script_read.specs.Lines.{is_empty}
use Rattle.script_read.specs.declared.script.Wanted.{Wanted}
use Rattle.script_read.specs.declared.script.Wanted.TheVariants.{Any, Msg, Regex}
use Rattle.script_check.specs.Verdicts.{PatternList, bare_reason, is_bare, meets, noted_holds, notes_reason}

some_element : {X : Type 0} (x : X) (xs : List X) → is_empty (x ∷ xs) ≡ false
some_element x xs = by (is_empty (x ∷ xs)) refl
  where
    by : (b : Bool) → is_empty (x ∷ xs) ≡ b → b ≡ false
    by true h = absurd (omega (arith, eqb-true (length (x ∷ xs)) 0 h))
    by false h = refl

module _ (kept : PatternList) where
  any_text : (text : List ℕ) (texts : List (List ℕ)) (lines : List Wanted) → list_all is_bare lines ≡ true → noted_holds kept lines (text ∷ texts) ≡ true
  any_text text texts [] h = refl
  any_text text texts (Any ∷ lines) h = any_text text texts lines h
  any_text text texts (Msg message ∷ lines) h = absurd (cc)
  any_text text texts (Regex id ∷ lines) h = absurd (cc)

  any_line : (lines : List Wanted) (texts : List (List ℕ)) → list_all (λ text. list_any (meets kept text) (Any ∷ lines)) texts ≡ true
  any_line lines [] = refl
  any_line lines (text ∷ texts) = any_line lines texts

  reasons : (warnings none : Bool) (lines : List Wanted) (texts : List (List ℕ)) → list_all is_bare lines ≡ true → notes_reason kept warnings (Any ∷ lines) none texts ≡ bare_reason warnings none (not (is_empty texts))
  reasons warnings none lines [] h = refl
  reasons warnings true lines (text ∷ texts) h = rw (any_text text texts lines h, some_element text texts) refl
  reasons warnings false lines (text ∷ texts) h = rw (any_text text texts lines h, any_line lines texts, some_element Any lines, some_element text texts) refl

  pub bare_lines : (warnings none : Bool) (lines : List Wanted) (texts : List (List ℕ)) → is_empty lines ≡ false → list_all is_bare lines ≡ true → bare_reason warnings none (not (is_empty texts)) ≡ notes_reason kept warnings lines none texts
  bare_lines warnings none [] texts some h = absurd (cc)
  bare_lines warnings none (Any ∷ lines) texts some h = sym (reasons warnings none lines texts h)
  bare_lines warnings none (Msg message ∷ lines) texts some h = absurd (cc)
  bare_lines warnings none (Regex id ∷ lines) texts some h = absurd (cc)

  -- lines of which each holds, beside notes of which each is wanted
  pub agreed_lines : (warnings none : Bool) (lines : List Wanted) (texts : List (List ℕ)) → is_empty lines ≡ false → noted_holds kept lines texts ≡ true → list_all (λ text. list_any (meets kept text) lines) texts ≡ true
      → bare_reason warnings none true ≡ notes_reason kept warnings lines none texts
  agreed_lines warnings none [] texts some h k = absurd (cc)
  agreed_lines warnings none (line ∷ lines) [] some h k = absurd (cc)
  agreed_lines warnings true (line ∷ lines) (text ∷ texts) some h k = rw (h, some_element text texts) refl
  agreed_lines warnings false (line ∷ lines) (text ∷ texts) some h k = rw (h, k, some_element line lines) refl
