-- Ranges, offsets and times that are read are in the grammar.
use Rattle.std.proofs.Common.{◌≡◌, ◌<◌, ℕ, zero, suc, refl, ap, ◌∙◌, sym, subst, ⊎_elim, Bool, true, false, cond, List, [], ◌∷◌, ◌++◌, drop, arith}
use Rattle.std.specs.Prelude.{◌&&◌, Option, Some, None, Ok}
use Rattle.frac_text.specs.Times.{time_limit}
use Rattle.promql_ast.specs.declared.tree.Fixed.{Fixed}
use Rattle.promql_parts.specs.Laws.{BracketsAreSpans, Found, IsBrackets, OffsetsAreSigned, Sound, TimesStandBehind}
use Rattle.promql_parts.specs.Productions.{IsAmount, IsLength, IsSign, RangeBrackets, Signed, StepBrackets, TimeBehind}
use Rattle.promql_parts.specs.Reads.{Read, ◌>>=◌, begins}
use Rattle.promql_parts.specs.Spans.{amount_at, amount_kind, brackets_at, called_at, instant_at, length_at, ms, positive, preprocessor, preprocessor_at, range_behind, signed_at, step_at, when_kind}
use Rattle.promql_parts.specs.Steps.{after_found, begins_found, bind_ok, chosen, no_ok, no_some, same_ok, same_some, true_false}
use Rattle.promql_parts.specs.declared.lexeme.Lexeme.{Lexeme}
use Rattle.promql_parts.specs.declared.lexeme.LexemeKind.{LexemeKind}
use Rattle.promql_parts.specs.declared.lexeme.LexemeKind.TheVariants as kinds
use Rattle.promql_parts.specs.declared.lexeme.Sign.TheVariants.{LeftParen, RightParen, LeftBracket, RightBracket, Colon, Plus, Minus, AtSign}
use Rattle.promql_lex.specs.declared.word.Word.TheVariants.{Start, End}
use Rattle.promql_parts.specs.declared.span.Brackets.{Brackets}
use Rattle.ticks.specs.declared.moment.Ms.{Ms}
use Rattle.ticks.specs.Durations.{hundred_years}

abbrev OneLength : List Lexeme → Ms → Type 0
OneLength xs length = (l : Lexeme) × (xs ≡ l ∷ []) × IsLength l length

positive_found : (at n : ℕ) (length : Ms) → positive at n ≡ Ok length → (0 < n) × (length ≡ ms false n)
positive_found at zero length read = no_ok _ _ read
positive_found at (suc n) length read = (omega arith, sym (same_ok _ _ read))

module _ (end : ℕ) where
  pub length_found : (ls : List Lexeme) (length : Ms) (rest : List Lexeme) → length_at end ls ≡ Ok (length, rest) → (l : Lexeme) × (ls ≡ l ∷ rest) × IsLength l length
  length_found [] length rest read = no_ok _ _ read
  length_found (l ∷ ls) length rest read =
      let r = bind_ok (amount_kind hundred_years l l.kind >>= positive l.at) _ _ read in
      let ends = same_ok _ _ r.2 in
      let n = bind_ok (amount_kind hundred_years l l.kind) _ _ r.1 in
      let p = positive_found l.at n.0 r.0 n.2 in
      (l, ap (λ x. l ∷ x) (ap (λ x. x.1) ends), record { n = n.0; amount = n.1; positive = p.0; is = sym (ap (λ x. x.0) ends) ∙ p.1 })

  module _ (begin l : Lexeme) (length : Ms) (plain : Bool) (opens : IsSign LeftBracket begin) (is_length : IsLength l length) where
    abbrev BehindLength : List Lexeme → Brackets → Type 0
    BehindLength xs b = IsBrackets begin plain (l ∷ xs) b

    step_found : (colon : Lexeme) → IsSign Colon colon → (ls : List Lexeme) (b : Brackets) (rest : List Lexeme) → step_at end length ls ≡ Ok (b, rest) → Found BehindLength (colon ∷ ls) b rest
    unfolding step_at
    step_found colon is ls b rest read =
        ⊎_elim
        (λ p.
        let u = begins_found RightBracket ls p.0 in
        let ends = same_ok _ _ p.1 in
        record {
          front = colon ∷ u.0 ∷ [];
          split = ap (λ x. colon ∷ x) (u.1 ∙ ap (λ x. u.0 ∷ x) (ap (λ x. x.1) ends));
          is = subst (IsBrackets begin plain (l ∷ colon ∷ u.0 ∷ [])) (ap (λ x. x.0) ends) (StepBrackets.without_step begin l colon u.0 length opens is_length is u.2);
        })
        (λ p.
        let s = bind_ok (length_at end ls) _ _ p.1 in
        let c = bind_ok _ _ _ s.2 in
        let step = length_found ls s.0.0 s.0.1 s.1 in
        let u = after_found end RightBracket s.0.1 c.0 c.1 in
        let ends = same_ok _ _ c.2 in
        record {
          front = colon ∷ step.0 ∷ u.0 ∷ [];
          split = ap (λ x. colon ∷ x) (step.1 ∙ ap (λ x. step.0 ∷ x) (u.1 ∙ ap (λ x. u.0 ∷ x) (ap (λ x. x.1) ends)));
          is = subst (IsBrackets begin plain (l ∷ colon ∷ step.0 ∷ u.0 ∷ [])) (ap (λ x. x.0) ends) (StepBrackets.with_step begin l colon step.0 u.0 length s.0.0 opens is_length is step.2 u.2);
        })
        (chosen (begins RightBracket ls) _ _ _ read)

    plain_true : (x y : Bool) → (x && y) ≡ true → (x ≡ true) × (y ≡ true)
    plain_true true y is = (refl, is)
    plain_true false y is = true_false (sym is)

    range_found : Sound (range_behind plain end length) BehindLength
    range_found ls b rest read =
        ⊎_elim
        (λ p.
        let both = plain_true plain (begins RightBracket ls) p.0 in
        let u = begins_found RightBracket ls both.1 in
        let ends = same_ok _ _ p.1 in
        record {
          front = u.0 ∷ [];
          split = u.1 ∙ ap (λ x. u.0 ∷ x) (ap (λ x. x.1) ends);
          is = subst (IsBrackets begin plain (l ∷ u.0 ∷ [])) (ap (λ x. x.0) ends) (both.0, RangeBrackets.range begin l u.0 length opens is_length u.2);
        })
        (λ p.
        let c = bind_ok _ _ _ p.1 in
        let colon = after_found end Colon ls c.0 c.1 in
        let f = step_found colon.0 colon.2 c.0 b rest c.2 in
        record { front = f.front; split = colon.1 ∙ f.split; is = f.is })
        (chosen (plain && begins RightBracket ls) _ _ _ read)

pub brackets_are_spans : BracketsAreSpans
unfolding brackets_at
brackets_are_spans end plain begin opens ls b rest read =
    let r = bind_ok (length_at end ls) _ _ read in
    let l = length_found end ls r.0.0 r.0.1 r.1 in
    let f = range_found end begin l.0 r.0.0 plain opens l.2 r.0.1 b rest r.2 in
    record { front = l.0 ∷ f.front; split = l.1 ∙ ap (λ x. l.0 ∷ x) f.split; is = f.is }

module _ (most end : ℕ) where
  amount_found : (ls : List Lexeme) (n : ℕ) (rest : List Lexeme) → amount_at most end ls ≡ Ok (n, rest) → (l : Lexeme) × (ls ≡ l ∷ rest) × IsAmount most l n
  amount_found [] n rest read = no_ok _ _ read
  amount_found (l ∷ ls) n rest read =
      let r = bind_ok (amount_kind most l l.kind) _ _ read in
      let ends = same_ok _ _ r.2 in
      (l, ap (λ x. l ∷ x) (ap (λ x. x.1) ends), r.1 ∙ ap Ok (ap (λ x. x.0) ends))

  abbrev by_minus : Bool → Read ℕ → Read Ms
  by_minus minus q = q >>= λ n. Ok (ms minus n.0, n.1)

  -- by the sign in front
  by_sign : (ls : List Lexeme) (minus plus : Bool) → begins Minus ls ≡ minus → begins Plus ls ≡ plus → (time : Ms) (rest : List Lexeme)
      → by_minus minus (amount_at most end (cond minus (drop 1 ls) (cond plus (drop 1 ls) ls))) ≡ Ok (time, rest) → Found (Signed most) ls time rest
  by_sign ls true plus is_minus is_plus time rest read =
      let r = bind_ok (amount_at most end (drop 1 ls)) _ _ read in
      let ends = same_ok _ _ r.2 in
      let l = amount_found (drop 1 ls) r.0.0 r.0.1 r.1 in
      let u = begins_found Minus ls is_minus in
      record {
        front = u.0 ∷ l.0 ∷ [];
        split = u.1 ∙ ap (λ x. u.0 ∷ x) (l.1 ∙ ap (λ x. l.0 ∷ x) (ap (λ x. x.1) ends));
        is = subst (Signed most (u.0 ∷ l.0 ∷ [])) (ap (λ x. x.0) ends) (Signed.minus u.0 l.0 r.0.0 u.2 l.2);
      }
  by_sign ls false true is_minus is_plus time rest read =
      let r = bind_ok (amount_at most end (drop 1 ls)) _ _ read in
      let ends = same_ok _ _ r.2 in
      let l = amount_found (drop 1 ls) r.0.0 r.0.1 r.1 in
      let u = begins_found Plus ls is_plus in
      record {
        front = u.0 ∷ l.0 ∷ [];
        split = u.1 ∙ ap (λ x. u.0 ∷ x) (l.1 ∙ ap (λ x. l.0 ∷ x) (ap (λ x. x.1) ends));
        is = subst (Signed most (u.0 ∷ l.0 ∷ [])) (ap (λ x. x.0) ends) (Signed.plus u.0 l.0 r.0.0 u.2 l.2);
      }
  by_sign ls false false is_minus is_plus time rest read =
      let r = bind_ok (amount_at most end ls) _ _ read in
      let ends = same_ok _ _ r.2 in
      let l = amount_found ls r.0.0 r.0.1 r.1 in
      record {
        front = l.0 ∷ [];
        split = l.1 ∙ ap (λ x. l.0 ∷ x) (ap (λ x. x.1) ends);
        is = subst (Signed most (l.0 ∷ [])) (ap (λ x. x.0) ends) (Signed.unsigned l.0 r.0.0 l.2);
      }

  signed_found : Sound (signed_at most end) (Signed most)
  unfolding signed_at
  signed_found ls time rest read = by_sign ls (begins Minus ls) (begins Plus ls) refl refl time rest read

pub offsets_are_signed : OffsetsAreSigned
offsets_are_signed end = signed_found hundred_years end

module _ (end : ℕ) (sign : Lexeme) (is_at : IsSign AtSign sign) where
  abbrev BehindAt : List Lexeme → Fixed → Type 0
  BehindAt xs time = TimeBehind (sign ∷ xs) time

  pub edge_found : (u : Lexeme) (k : LexemeKind) → u.kind ≡ k → (begin close : Lexeme) → IsSign LeftParen begin → IsSign RightParen close → (time : Fixed) → preprocessor k ≡ Some time
      → BehindAt (u ∷ begin ∷ close ∷ []) time
  edge_found u (kinds.Word Start spelling) is begin close opens closes time found =
      subst (BehindAt (u ∷ begin ∷ close ∷ [])) (same_some _ _ found) (TimeBehind.start sign u begin close is_at (spelling, is) opens closes)
  edge_found u (kinds.Word End spelling) is begin close opens closes time found =
      subst (BehindAt (u ∷ begin ∷ close ∷ [])) (same_some _ _ found) (TimeBehind.end sign u begin close is_at (spelling, is) opens closes)
  edge_found u _ is begin close opens closes time found = no_some _ found

  pub preprocessor_begins : (ls : List Lexeme) (time : Fixed) → preprocessor_at ls ≡ Some time → (u : Lexeme) × (ls ≡ u ∷ drop 1 ls) × (preprocessor u.kind ≡ Some time)
  preprocessor_begins [] time is = no_some _ is
  preprocessor_begins (u ∷ ls) time is = (u, refl, is)

  kind_found : (ls : List Lexeme) (o : Option Fixed) → preprocessor_at ls ≡ o → (time : Fixed) (rest : List Lexeme) → when_kind end o ls ≡ Ok (time, rest) → Found BehindAt ls time rest
  unfolding instant_at called_at
  kind_found ls None is time rest read =
      let r = bind_ok (signed_at time_limit end ls) _ _ read in
      let ends = same_ok _ _ r.2 in
      let f = signed_found time_limit end ls r.0.0 r.0.1 r.1 in
      record { front = f.front; split = f.split ∙ ap (λ x. f.front ++ x) (ap (λ x. x.1) ends); is = subst (BehindAt f.front) (ap (λ x. x.0) ends) (TimeBehind.time sign is_at f.is) }
  kind_found ls (Some edge) is time rest read =
      let a = bind_ok _ _ _ read in
      let c = bind_ok _ _ _ a.2 in
      let u = preprocessor_begins ls edge is in
      let begin = after_found end LeftParen (drop 1 ls) a.0 a.1 in
      let close = after_found end RightParen a.0 c.0 c.1 in
      let ends = same_ok _ _ c.2 in
      record {
        front = u.0 ∷ begin.0 ∷ close.0 ∷ [];
        split = u.1 ∙ ap (λ x. u.0 ∷ x) (begin.1 ∙ ap (λ x. begin.0 ∷ x) (close.1 ∙ ap (λ x. close.0 ∷ x) (ap (λ x. x.1) ends)));
        is = subst (BehindAt (u.0 ∷ begin.0 ∷ close.0 ∷ [])) (ap (λ x. x.0) ends) (edge_found u.0 u.0.kind refl begin.0 close.0 begin.2 close.2 edge u.2);
      }

pub times_stand_behind : TimesStandBehind
times_stand_behind end sign is ls time rest read = kind_found end sign is ls (preprocessor_at ls) refl time rest read
