-- The parts of the braces that are left.
use Rattle.std.proofs.Common.{◌≡◌, subst, sym, ◌<◌, ℕ, ◌+◌, Bool, true, false, cond, List, [], ◌∷◌, length, Bor, Option, None, Some, is_none, MatchOption, ap, ◌∙◌, ◌&&◌, refl, arith, Result}
use Rattle.std.specs.List.{slice_split}
use Rattle.std.proofs.lemmas.List.Splits.{length-slice_split}
use Rattle.promql_lex.specs.declared.token.Token.{Token}
use Rattle.promql_lex.specs.declared.token.TokenKind.TheVariants.{Sign}
use Rattle.script_read.specs.Lines.{is_empty}
use Rattle.script_read.specs.Outcomes.{Fails}
use Rattle.script_read.specs.Series.{LabelList, is_comma, labels_with, part_put, without_empty_end}
use Rattle.script_read.specs.declared.fault.LineFault.{LineFault}
use Rattle.script_read.proofs.Steps.{fails_try}

pub a_token : Token
a_token = record { at = 0; end = 0; kind = Sign }

module _ (text : List ℕ) where
  abbrev pub parts_left : Option (Bor (List Token)) → List (List Token)
  parts_left None = []
  parts_left (Some tokens) = slice_split (is_comma text) tokens.now

  some_parts : (part : List Token) (parts : List (List Token)) → 0 < length parts → without_empty_end (part ∷ parts) ≡ part ∷ without_empty_end parts
  some_parts part [] some = absurd (omega (arith, some))
  some_parts part (next ∷ parts) some = refl

  last_part : (part : List Token) → (is_empty part && true) ≡ false → without_empty_end (part ∷ []) ≡ part ∷ []
  last_part part h =
      elim (is_empty part) as (λ v. (v && true) ≡ false → cond v [] (part ∷ []) ≡ part ∷ []) [ true ↦ λ e. absurd (cc) | false ↦ λ _. refl ] h

  -- a part that is no empty end comes before what is left
  pub part_taken : (tokens part : List Token) (rest : Option (Bor (List Token)))
      → MatchOption rest (slice_split (is_comma text) tokens ≡ part ∷ []) (λ left. (slice_split (is_comma text) tokens ≡ part ∷ slice_split (is_comma text) left.now) × (length left.now < length tokens))
      → (is_empty part && is_none rest) ≡ false → without_empty_end (slice_split (is_comma text) tokens) ≡ part ∷ without_empty_end (parts_left rest)
  part_taken tokens part None is some = ap without_empty_end is ∙ last_part part some
  part_taken tokens part (Some left) is some =
      ap without_empty_end is.0 ∙ some_parts part (slice_split (is_comma text) left.now) (omega (arith, length-slice_split (is_comma text) left.now))

  -- a part that is refused refuses what is left
  pub part_refused : (first : Bool) (labels : LabelList) (part : List Token) (parts all : List (List Token)) (said : Result LabelList LineFault) (e : LineFault)
      → Fails e (part_put text first labels part) → all ≡ part ∷ parts → labels_with text first labels all ≡ said → Fails e said
  part_refused first labels part parts all said e h is k =
      subst (Fails e) (ap (labels_with text first labels) (sym is) ∙ k) (fails_try e (part_put text first labels part) (λ more. labels_with text false more parts) h)

abbrev pub tokens_left : Option (Bor (List Token)) → ℕ
tokens_left None = 0
tokens_left (Some tokens) = length tokens.now + 1
