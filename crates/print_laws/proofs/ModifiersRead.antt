-- Ranges, steps, fixed times and offsets behind an operand are read as they are.
use Rattle.std.proofs.Common.{◌≡◌, ℕ, zero, suc, ◌+◌, ◌<◌, ◌≤◌, ◌++◌, true, false, List, [], ◌∷◌, length, refl, sym, subst, arith, codes, ℤ, pos, negsuc, ◌<ℤ◌, ◌≤ℤ◌}
use Rattle.std.specs.Prelude.{Option, Some, None, ⊤}
use Rattle.std.proofs.lemmas.Int.{ints}
use Rattle.frac_text.specs.Times.{time_limit}
use Rattle.promql_ast.specs.Parts.{IsAtMost, IsFixedWithin}
use Rattle.promql_ast.specs.declared.tree.Fixed.{Fixed}
use Rattle.promql_ast.specs.declared.tree.Fixed.TheVariants.{At, Start, End}
use Rattle.promql_lex.specs.declared.word.Word.TheVariants as words
use Rattle.promql_parse.specs.Build.{moment_of}
use Rattle.promql_parse.specs.Grammar.{Operand, Term, takes_modifiers}
use Rattle.promql_parts.specs.Limits.{IsLengthWithin}
use Rattle.promql_parts.specs.Patterned.{Kept}
use Rattle.promql_parts.specs.Productions.{IsLength, OffsetBehind, RangeBrackets, StepBrackets, TimeBehind}
use Rattle.promql_parts.specs.declared.lexeme.Lexeme.{Lexeme}
use Rattle.promql_parts.specs.declared.lexeme.LexemeKind.TheVariants as kinds
use Rattle.promql_parts.specs.declared.lexeme.Sign.TheVariants.{AtSign, Colon, LeftBracket, LeftParen, RightBracket, RightParen}
use Rattle.promql_print.specs.Canonical.{duration_text, fixed_text, offset_text}
use Rattle.ticks.specs.Durations.{hundred_years}
use Rattle.ticks.specs.declared.moment.Ms.{Ms}
use Rattle.print_laws.proofs.Bytes.{IsNamed, ends_name}
use Rattle.print_laws.proofs.Items.{append_nil}
use Rattle.print_laws.proofs.LabelsRead.{begins_name}
use Rattle.print_laws.proofs.Lexed.{Reads, always, blank, joined, lexeme, nothing, weaker}
use Rattle.print_laws.proofs.Marks.{at_sign, colon, left_bracket, left_paren, right_bracket, right_paren, word}
use Rattle.print_laws.proofs.Values.{Spelled, offset_told, seconds_told, span_told, within_is}

-- ---- brackets

-- a length that is a duration of so many milliseconds
count_of : (z : ℤ) → (pos 0 <ℤ z) × (z ≤ℤ pos hundred_years) → (n : ℕ) × (z ≡ pos n) × (0 < n) × (n ≤ hundred_years)
count_of (pos n) is = (n, refl, (let some = is.0 in omega (arith, ints, some)), (let most = is.1 in omega (arith, ints, most)))
count_of (negsuc n) is = absurd (let some = is.0 in omega (arith, ints, some))

abbrev pub IsOffsetWithin : Option Ms → Type 0
IsOffsetWithin None = ⊤
IsOffsetWithin (Some by) = IsAtMost hundred_years by

module _ (spelled : Spelled) (kept : Kept) where
  length_is : (at n : ℕ) → 0 < n → n ≤ hundred_years → IsLength (lexeme at (kinds.Duration (record { 0 = pos n }))) (record { 0 = pos n })
  length_is at n some within = record { n = n; amount = within_is at hundred_years n within; positive = some; is = refl }

  pub range_told : (at : ℕ) (range : Ms) → IsLengthWithin range → (ls : List Lexeme) × RangeBrackets ls range × Reads kept always false false at (codes "[" ++ (duration_text range ++ codes "]")) ls
  range_told at range within = by (count_of range.0 within) where
    by : (n : ℕ) × (range.0 ≡ pos n) × (0 < n) × (n ≤ hundred_years) → (ls : List Lexeme) × RangeBrackets ls range × Reads kept always false false at (codes "[" ++ (duration_text range ++ codes "]")) ls
    by (n, is, some, few) =
        let begin : Lexeme = lexeme at (kinds.Sign LeftBracket) in
        let l : Lexeme = lexeme (at + 1) (kinds.Duration (record { 0 = pos n })) in
        let place : ℕ = at + 1 + length (duration_text (record { 0 = pos n })) in
        let close : Lexeme = lexeme place (kinds.Sign RightBracket) in
        subst (λ (z : ℤ). (ls : List Lexeme) × RangeBrackets ls (record { 0 = z }) × Reads kept always false false at (codes "[" ++ (duration_text (record { 0 = z }) ++ codes "]")) ls) (sym is) (
          begin ∷ (l ∷ (close ∷ [])),
          RangeBrackets.range begin l close (record { 0 = pos n }) refl (length_is (at + 1) n some few) refl,
          joined (left_bracket at) (joined (span_told spelled true (at + 1) n few) (right_bracket place) (λ rest ok. refl)) (λ rest ok. refl),
        )

  pub steps_told : (at : ℕ) (range step : Ms) → IsLengthWithin range → IsLengthWithin step
      → (ls : List Lexeme) × StepBrackets ls range step × Reads kept always false false at (codes "[" ++ (duration_text range ++ (codes ":" ++ (duration_text step ++ codes "]")))) ls
  steps_told at range step within step_within = by (count_of range.0 within) (count_of step.0 step_within) where
    by : (n : ℕ) × (range.0 ≡ pos n) × (0 < n) × (n ≤ hundred_years) → (m : ℕ) × (step.0 ≡ pos m) × (0 < m) × (m ≤ hundred_years)
        → (ls : List Lexeme) × StepBrackets ls range step × Reads kept always false false at (codes "[" ++ (duration_text range ++ (codes ":" ++ (duration_text step ++ codes "]")))) ls
    by (n, is, some, few) (m, step_is, step_some, step_few) =
        let begin : Lexeme = lexeme at (kinds.Sign LeftBracket) in
        let l : Lexeme = lexeme (at + 1) (kinds.Duration (record { 0 = pos n })) in
        let middle : ℕ = at + 1 + length (duration_text (record { 0 = pos n })) in
        let parts : Lexeme = lexeme middle (kinds.Sign Colon) in
        let s : Lexeme = lexeme (middle + 1) (kinds.Duration (record { 0 = pos m })) in
        let place : ℕ = middle + 1 + length (duration_text (record { 0 = pos m })) in
        let close : Lexeme = lexeme place (kinds.Sign RightBracket) in
        subst (λ (z : ℤ). (ls : List Lexeme) × StepBrackets ls (record { 0 = z }) step × Reads kept always false false at (codes "[" ++ (duration_text (record { 0 = z }) ++ (codes ":" ++ (duration_text step ++ codes "]")))) ls) (sym is)
        (subst (λ (z : ℤ). (ls : List Lexeme) × StepBrackets ls (record { 0 = pos n }) (record { 0 = z }) × Reads kept always false false at (codes "[" ++ (duration_text (record { 0 = pos n }) ++ (codes ":" ++ (duration_text (record { 0 = z }) ++ codes "]")))) ls) (sym step_is) (
          begin ∷ (l ∷ (parts ∷ (s ∷ (close ∷ [])))),
          StepBrackets.with_step begin l parts s close (record { 0 = pos n }) (record { 0 = pos m }) refl (length_is (at + 1) n some few) refl (length_is (middle + 1) m step_some step_few) refl,
          joined (left_bracket at)
              (joined (span_told spelled true (at + 1) n few) (joined (colon middle) (joined (span_told spelled true (middle + 1) m step_few) (right_bracket place) (λ rest ok. refl)) (λ rest ok. refl)) (λ rest ok. refl))
              (λ rest ok. refl),
        ))

  -- ---- fixed times

  start_named : IsNamed (codes "start")
  start_named = (begins_name _ refl refl, refl)

  end_named : IsNamed (codes "end")
  end_named = (begins_name _ refl refl, refl)

  offset_named : IsNamed (codes "offset")
  offset_named = (begins_name _ refl refl, refl)

  -- what stands behind `@`, between blanks
  sign_told : (at : ℕ) → Reads kept always false false at (codes " @ ") (lexeme (at + 1) (kinds.Sign AtSign) ∷ [])
  sign_told at = joined (blank {at = at}) (joined (at_sign (at + 1)) blank (λ rest ok. refl)) (λ rest ok. refl)

  pub fixed_told : (at : ℕ) (fixed : Fixed) → IsFixedWithin time_limit (Some fixed) → (ls : List Lexeme) × TimeBehind ls fixed × Reads kept ends_name false false at (fixed_text (Some fixed)) ls
  fixed_told at (At time) within =
      let told = seconds_told spelled {kept = kept} (at + 3) time.0 within in
      let sign : Lexeme = lexeme (at + 1) (kinds.Sign AtSign) in
      (sign ∷ told.ls, TimeBehind.time sign refl told.is, joined (sign_told at) told.reads (λ rest ok. refl))
  fixed_told at Start within =
      let sign : Lexeme = lexeme (at + 1) (kinds.Sign AtSign) in
      let l : Lexeme = lexeme (at + 3) (kinds.Word words.Start (codes "start")) in
      let begin : Lexeme = lexeme (at + 3 + 5) (kinds.Sign LeftParen) in
      let close : Lexeme = lexeme (at + 3 + 5 + 1) (kinds.Sign RightParen) in (
        sign ∷ (l ∷ (begin ∷ (close ∷ []))),
        TimeBehind.start sign l begin close refl (codes "start", refl) refl refl,
        weaker (λ rest ok. refl)
            (joined (sign_told at) (joined (word (at + 3) (codes "start") words.Start start_named refl refl) (joined (left_paren (at + 3 + 5)) (right_paren (at + 3 + 5 + 1)) (λ rest ok. refl)) (λ rest ok. refl)) (λ rest ok. refl)),
      )
  fixed_told at End within =
      let sign : Lexeme = lexeme (at + 1) (kinds.Sign AtSign) in
      let l : Lexeme = lexeme (at + 3) (kinds.Word words.End (codes "end")) in
      let begin : Lexeme = lexeme (at + 3 + 3) (kinds.Sign LeftParen) in
      let close : Lexeme = lexeme (at + 3 + 3 + 1) (kinds.Sign RightParen) in (
        sign ∷ (l ∷ (begin ∷ (close ∷ []))),
        TimeBehind.end sign l begin close refl (codes "end", refl) refl refl,
        weaker (λ rest ok. refl)
            (joined (sign_told at) (joined (word (at + 3) (codes "end") words.End end_named refl refl) (joined (left_paren (at + 3 + 3)) (right_paren (at + 3 + 3 + 1)) (λ rest ok. refl)) (λ rest ok. refl)) (λ rest ok. refl)),
      )

  -- ---- modifiers

  -- an operand with a fixed time behind it, if there is one
  pub with_fixed : (b d place at : ℕ) (term : Term) (xs : List Lexeme) (fixed : Option Fixed) → Operand b term None None xs place d → takes_modifiers term ≡ true → IsFixedWithin time_limit fixed
      → (ls : List Lexeme) × Operand b term None fixed (xs ++ ls) place d × Reads kept ends_name false false at (fixed_text fixed) ls
  with_fixed b d place at term xs None is takes within = ([], subst (λ ls. Operand b term None None ls place d) (sym (append_nil xs)) is, nothing)
  with_fixed b d place at term xs (Some fixed) is takes within =
      let told = fixed_told at fixed within in
      (told.0, Operand.time is takes told.1 refl, told.2)

  abbrev OffsetRead : ℕ → ℕ → ℕ → ℕ → Term → List Lexeme → Option Fixed → Option Ms → Type 0
  OffsetRead b d place at term xs fixed offset =
      (other : Option Ms) × (ls : List Lexeme) × Operand b term other fixed (xs ++ ls) place d × (moment_of other fixed ≡ moment_of offset fixed)
      × Reads kept ends_name false false at (offset_text (moment_of offset fixed).offset.0) ls

  offset_some : (b d place at : ℕ) (term : Term) (xs : List Lexeme) (fixed : Option Fixed) (z : ℤ) → Operand b term None fixed xs place d → takes_modifiers term ≡ true
      → IsAtMost hundred_years (record { 0 = z }) → offset_text z ≡ codes " offset " ++ duration_text (record { 0 = z }) → OffsetRead b d place at term xs fixed (Some (record { 0 = z }))
  offset_some b d place at term xs fixed z is takes within text =
      let told = offset_told spelled {kept = kept} (at + 8) z within in
      let l : Lexeme = lexeme (at + 1) (kinds.Word words.Offset (codes "offset")) in
      let front : Reads kept always false false at (codes " offset ") (l ∷ []) =
      joined (blank {at = at}) (joined (word (at + 1) (codes "offset") words.Offset offset_named refl refl) blank (λ rest ok. refl)) (λ rest ok. refl) in (
        Some (record { 0 = z }),
        l ∷ told.ls,
        Operand.offset is takes (OffsetBehind.offset l (codes "offset", refl) told.is) refl,
        refl,
        subst (λ s. Reads kept ends_name false false at s (l ∷ told.ls)) (sym text) (joined front told.reads (λ rest ok. refl)),
      )

  -- and an offset behind that, unless it is 0
  pub with_offset : (b d place at : ℕ) (term : Term) (xs : List Lexeme) (fixed : Option Fixed) (offset : Option Ms) → Operand b term None fixed xs place d → takes_modifiers term ≡ true
      → IsOffsetWithin offset → OffsetRead b d place at term xs fixed offset
  with_offset b d place at term xs fixed None is takes within = (None, [], subst (λ ls. Operand b term None fixed ls place d) (sym (append_nil xs)) is, refl, nothing)
  with_offset b d place at term xs fixed (Some by) is takes within = by_offset by.0 within where
    by_offset : (z : ℤ) → IsAtMost hundred_years (record { 0 = z }) → OffsetRead b d place at term xs fixed (Some (record { 0 = z }))
    by_offset (pos zero) within = (None, [], subst (λ ls. Operand b term None fixed ls place d) (sym (append_nil xs)) is, refl, nothing)
    by_offset (pos (suc n)) within = offset_some b d place at term xs fixed (pos (suc n)) is takes within refl
    by_offset (negsuc n) within = offset_some b d place at term xs fixed (negsuc n) is takes within refl
