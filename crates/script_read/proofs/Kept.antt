-- Patterns that are kept keep their numbers.
use Rattle.std.proofs.Common.{◌≡◌, ◌<◌, ◌≤◌, ℕ, ◌+◌, Bool, true, false, not, cond, ltb, List, [], ◌∷◌, ◌++◌, length, arith, refl, ap, sym, ◌∙◌, Ok, eq-eqb, length-append}
use Rattle.std.specs.List.{position_or_len}
use Rattle.std.proofs.lemmas.Bool.{lt-ltb, ltb-true, ltb-false}
use Rattle.std.proofs.lemmas.List.Folds.{position_or_len_push}
use Rattle.std.proofs.lemmas.List.Sums.{prefix_len-le-length}
use Rattle.std.proofs.lemmas.Slice.Eq.{bytes_eq-Decides}
use Rattle.match_rule.specs.Patterns.{is_kept, is_pattern, number_of, with_pattern}
use Rattle.label_set.specs.declared.rules.PatternId.{PatternId}
use Rattle.script_read.specs.Expects.{Search, wanted_for}
use Rattle.script_read.specs.Outcomes.{PatternList}
use Rattle.script_read.specs.declared.script.Wanted.TheVariants.{Regex}

module _ {X : Type 0} (p : X → Bool) where
  -- the first place that passes stays the first one with more behind it
  pub first_stays : (xs ys : List X) → ltb (position_or_len p xs) (length xs) ≡ true → position_or_len p (xs ++ ys) ≡ position_or_len p xs
  first_stays [] ys h = absurd (cc)
  first_stays (x ∷ xs) ys h =
      elim (p x) as (λ b. ltb (cond (not b) (1 + position_or_len p xs) 0) (length (x ∷ xs)) ≡ true
      → cond (not b) (1 + position_or_len p (xs ++ ys)) 0 ≡ cond (not b) (1 + position_or_len p xs) 0) [
        | true ↦ λ _. refl
        | false ↦ λ k. ap (λ n. 1 + n) (first_stays xs ys (lt-ltb _ _ (omega (arith, ltb-true _ _ k))))
      ] h

same_text : (b : Bool) (text : List ℕ) → is_pattern (b, text) (b, text) ≡ true
same_text true text = (bytes_eq-Decides text text).1 refl
same_text false text = (bytes_eq-Decides text text).1 refl

-- a kept pattern has the same number with more behind it
pub wanted_stays : (kept more : PatternList) (text : List ℕ) → is_kept (false, text) kept ≡ true → wanted_for (kept ++ more) (Search text) ≡ Ok (Regex (record { 0 = number_of (false, text) kept }))
wanted_stays kept more text h =
    let same : number_of (false, text) (kept ++ more) ≡ number_of (false, text) kept = first_stays (is_pattern (false, text)) kept more h in
    let within : number_of (false, text) kept < length kept = ltb-true _ _ h in
    let there : is_kept (false, text) (kept ++ more) ≡ true = lt-ltb _ _ (omega (arith, same, length-append kept more)) in
    rw (there, same) refl

-- ---- a pattern that was just searched

kept_by : (text : List ℕ) (before now : PatternList) (id : ℕ) (b : Bool) → is_kept (false, text) before ≡ b → now ≡ cond b before (before ++ (false, text) ∷ [])
    → id ≡ number_of (false, text) before → (is_kept (false, text) now ≡ true) × (number_of (false, text) now ≡ id)
kept_by text before now id true k is at = rw is (k, sym at)
kept_by text before now id false k is at =
    let p : Bool × List ℕ = (false, text) in
    let past : length before ≤ number_of p before = ltb-false _ _ k in
    let most : number_of p before ≤ length before = prefix_len-le-length (λ x. not (is_pattern p x)) before in
    let end : number_of p before ≡ length before = omega arith in
    let pushed = rw (eq-eqb _ _ end, same_text false text) at (position_or_len_push (is_pattern p) before p) in
    let here : number_of p (before ++ p ∷ []) ≡ length before = omega (arith, pushed) in
    let long : length (before ++ p ∷ []) ≡ length before + 1 = length-append before (p ∷ []) in
    rw is (lt-ltb _ _ (omega arith), here ∙ sym end ∙ sym at)

pub kept_after : (text : List ℕ) (before now : PatternList) (id : ℕ) → now ≡ with_pattern (false, text) before → id ≡ number_of (false, text) before
    → (is_kept (false, text) now ≡ true) × (number_of (false, text) now ≡ id)
kept_after text before now id is at = kept_by text before now id (is_kept (false, text) before) refl is at

-- the number that a search answered is the pattern's from then on
pub search_stands : (text : List ℕ) (before now more : PatternList) (id : PatternId) → now ≡ with_pattern (false, text) before → id.0 ≡ number_of (false, text) before
    → wanted_for (now ++ more) (Search text) ≡ Ok (Regex id)
search_stands text before now more id is at =
    let kept = kept_after text before now id.0 is at in
    wanted_stays now more text kept.0 ∙ ap (λ n. Ok (Regex (record { 0 = n }))) kept.1
