-- A line that is read as a command is one by its form.
use Rattle.std.proofs.Common.{◌≡◌, ℕ, true, List, [], ◌∷◌, Result, Ok, Err, Option, Some, None, refl, ap, sym, ◌∙◌, subst}
use Rattle.std.specs.Prelude.{bytes_eq, codes}
use Rattle.std.specs.Str.{is_utf8}
use Rattle.frac_text.specs.Times.{amount_answer}
use Rattle.ticks.specs.Durations.{duration_in}
use Rattle.ticks.specs.declared.moment.Ms.{Ms}
use Rattle.script_read.specs.CommandForms.{IsCommand, clear_line, load_line, eval_instant, eval_range}
use Rattle.script_read.specs.Commands.{Order, Clearing, Loading, Evaluating, after_word, duration_after, eval_heading, eval_mode, evaluated, evaluation_of, heading_of, if_alone, instant_heading, load_heading, moment_at, moments_from, range_heading, range_of, time_after}
use Rattle.script_read.specs.Expects.{filled}
use Rattle.script_read.specs.Lines.{behind_word, first_word}
use Rattle.script_read.specs.Moments.{grid_taken}
use Rattle.ticks.specs.Moments.{Moments, is_grid}
use Rattle.script_read.specs.Outcomes.{then_give, then_try}
use Rattle.script_read.specs.Parted.{IsFilled, Parted, begins_word}
use Rattle.script_read.specs.Words.{interval_spelled, time_spelled}
use Rattle.script_read.specs.declared.expectation.Mode.{Mode}
use Rattle.script_read.specs.declared.expectation.Mode.TheVariants as modes
use Rattle.script_read.specs.declared.fault.LineFault.{LineFault}
use Rattle.script_read.specs.declared.fault.LineFault.TheVariants.{Malformed}
use Rattle.script_read.proofs.FirstWords.{cut_of, word_alone, word_beside, word_then}
use Rattle.script_read.proofs.Takes.{by_test, give_ok, if_ok, same_bytes, same_ok, try_ok}

no_time : time_spelled [] ≡ Err Malformed
unfolding amount_answer duration_in
no_time = refl

time_none : (t : Ms) → time_spelled [] ≡ Ok t → ⊥
time_none t h = let k : Err Malformed ≡ Ok t = sym no_time ∙ h in absurd (cc)

time_some : (word : List ℕ) (t : Ms) → time_spelled word ≡ Ok t → word ≡ [] → ⊥
time_some word t h e = time_none t (subst (λ w. time_spelled w ≡ Ok t) e h)

interval_some : (word : List ℕ) (t : Ms) → interval_spelled word ≡ Ok t → word ≡ [] → ⊥
interval_some word t h e = let time = try_ok (time_spelled word) _ t h in time_some word time.0 time.1 e

pub filled_ok : (text t : List ℕ) → begins_word text ≡ true → filled text ≡ Ok t → IsFilled text × (t ≡ text)
filled_ok [] t b h = absurd (cc)
filled_ok (byte ∷ bytes) t b h =
    let told = if_ok (is_utf8 (byte ∷ bytes)) (Ok (byte ∷ bytes)) Malformed t h in
    (record { some = λ e. cc; begun = b; told = told.0 }, sym (same_ok (Ok (byte ∷ bytes)) (byte ∷ bytes) t refl told.1))

alone_ok : (order o : Order) (behind : List ℕ) → if_alone order behind ≡ Ok o → (behind ≡ []) × (order ≡ o)
alone_ok order o [] h = (refl, same_ok (if_alone order []) order o refl h)
alone_ok order o (byte ∷ bytes) h = absurd (cc)

-- ---- what stands behind words that have to stand there

after_ok : (word text behind : List ℕ) → after_word word text ≡ Ok behind → (first_word text ≡ word) × (behind_word text ≡ behind)
after_ok word text behind h =
    let k = if_ok (bytes_eq (first_word text) word) (Ok (behind_word text)) Malformed behind h in
    (same_bytes (first_word text) word k.0, same_ok (Ok (behind_word text)) (behind_word text) behind refl k.1)

-- a time behind a word
record TimeBehind (read : List ℕ → Result Ms LineFault) (word text : List ℕ) (found : Ms × List ℕ) : Type 0 where
  pub first : first_word text ≡ word
  pub time : read (first_word (behind_word text)) ≡ Ok found.0
  pub rest : behind_word (behind_word text) ≡ found.1

behind_ok : (read : List ℕ → Result Ms LineFault) (word text : List ℕ) (found : Ms × List ℕ)
    → then_try (after_word word text) (λ behind. then_give (read (first_word behind)) (λ time. (time, behind_word behind))) ≡ Ok found → TimeBehind read word text found
behind_ok read word text found h =
    let a = try_ok (after_word word text) _ found h in
    let b = after_ok word text a.0 a.1 in
    let g = give_ok (read (first_word a.0)) (λ time. (time, behind_word a.0)) found a.2 in
    record {
      first = b.0;
      time = ap (λ l. read (first_word l)) b.1 ∙ g.1 ∙ ap (λ (f : Ms × List ℕ). Ok f.0) g.2;
      rest = ap behind_word b.1 ∙ ap (λ (f : Ms × List ℕ). f.1) g.2;
    }

-- a grid that is taken, and an expression
record Taken (mode : Mode) (m : Moments) (text : List ℕ) (order : Order) : Type 0 where
  pub grid : is_grid m ≡ true
  pub text_filled : IsFilled text
  pub is : order ≡ Evaluating mode m text

evaluated_ok : (mode : Mode) (m : Moments) (text : List ℕ) (order : Order) → begins_word text ≡ true → evaluated mode m text ≡ Ok order → Taken mode m text order
evaluated_ok mode m text order b h =
    let t = try_ok (grid_taken m) _ order h in
    let g = if_ok (is_grid m) (Ok m) Malformed t.0 t.1 in
    let e = give_ok (filled text) (Evaluating mode t.0) order t.2 in
    let f = filled_ok text e.0 b e.1 in
    record {
      grid = g.0;
      text_filled = f.0;
      is = sym e.2 ∙ ap (Evaluating mode t.0) f.1 ∙ ap (λ n. Evaluating mode n text) (sym (same_ok (Ok m) m t.0 refl g.1));
    }

-- ---- evaluations

module _ (text word : List ℕ) (first : first_word text ≡ word) (some : word ≡ [] → ⊥) (mode : Mode) (named : eval_mode word ≡ Some mode) (order : Order) where
  instant_found : first_word (behind_word text) ≡ codes "instant" → instant_heading mode (behind_word (behind_word text)) ≡ Ok order → IsCommand text order
  instant_found second h =
      let rest = behind_word (behind_word text) in
      let t = try_ok (time_after (codes "at") rest) _ order h in
      let a = behind_ok time_spelled (codes "at") rest t.0 t.1 in
      let last = behind_word rest in
      let e = evaluated_ok mode (moment_at t.0.0) t.0.1 order (subst (λ l. begins_word l ≡ true) a.rest (cut_of last).begun) t.2 in
      let f : IsFilled (behind_word last) = subst IsFilled (sym a.rest) e.text_filled in
      let parted : Parted (word ∷ (codes "instant" ∷ (codes "at" ∷ (first_word last ∷ [])))) (behind_word last) text =
      word_beside text word first some _ _ (word_beside (behind_word text) (codes "instant") second (λ k. cc) _ _
      (word_beside rest (codes "at") a.first (λ k. cc) _ _ (word_then last (first_word last) refl (time_some (first_word last) t.0.0 a.time)))) in
      subst (IsCommand text) (ap (Evaluating mode (moment_at t.0.0)) a.rest ∙ sym e.is)
      (eval_instant text word (first_word last) (behind_word last) mode t.0.0 parted f named a.time e.grid)

  range_found : first_word (behind_word text) ≡ codes "range" → (mode ≡ modes.Ordered → ⊥) → range_heading mode (behind_word (behind_word text)) ≡ Ok order → IsCommand text order
  range_found second unordered h =
      let rest = behind_word (behind_word text) in
      let t = try_ok (time_after (codes "from") rest) _ order h in
      let a = behind_ok time_spelled (codes "from") rest t.0 t.1 in
      let u = try_ok (time_after (codes "to") t.0.1) _ order t.2 in
      let b = behind_ok time_spelled (codes "to") t.0.1 u.0 u.1 in
      let v = try_ok (duration_after (codes "step") u.0.1) _ order u.2 in
      let c = behind_ok interval_spelled (codes "step") u.0.1 v.0 v.1 in
      let from = behind_word rest in
      let to = behind_word t.0.1 in
      let last = behind_word u.0.1 in
      let m = moments_from t.0.0 u.0.0 v.0.0 in
      let e = evaluated_ok mode m v.0.1 order (subst (λ l. begins_word l ≡ true) c.rest (cut_of last).begun) v.2 in
      let f : IsFilled (behind_word last) = subst IsFilled (sym c.rest) e.text_filled in
      let third : Parted (codes "step" ∷ (first_word last ∷ [])) (behind_word last) u.0.1 =
      word_beside u.0.1 (codes "step") c.first (λ k. cc) _ _ (word_then last (first_word last) refl (interval_some (first_word last) v.0.0 c.time)) in
      let middle : Parted (codes "to" ∷ (first_word to ∷ (codes "step" ∷ (first_word last ∷ [])))) (behind_word last) t.0.1 =
      word_beside t.0.1 (codes "to") b.first (λ k. cc) _ _ (word_beside to (first_word to) refl (time_some (first_word to) u.0.0 b.time) _ _
      (subst (Parted (codes "step" ∷ (first_word last ∷ [])) (behind_word last)) (sym b.rest) third)) in
      let parted : Parted (word ∷ (codes "range" ∷ (codes "from" ∷ (first_word from ∷ (codes "to" ∷ (first_word to ∷ (codes "step" ∷ (first_word last ∷ [])))))))) (behind_word last) text =
      word_beside text word first some _ _ (word_beside (behind_word text) (codes "range") second (λ k. cc) _ _
      (word_beside rest (codes "from") a.first (λ k. cc) _ _ (word_beside from (first_word from) refl (time_some (first_word from) t.0.0 a.time) _ _
      (subst (Parted (codes "to" ∷ (first_word to ∷ (codes "step" ∷ (first_word last ∷ [])))) (behind_word last)) (sym a.rest) middle)))) in
      subst (IsCommand text) (ap (Evaluating mode m) c.rest ∙ sym e.is)
      (eval_range text word (first_word from) (first_word to) (first_word last) (behind_word last) mode t.0.0 u.0.0 v.0.0 parted f named unordered a.time b.time c.time e.grid)

  ranged_found : (n : Mode) → mode ≡ n → first_word (behind_word text) ≡ codes "range" → range_of n (behind_word (behind_word text)) ≡ Ok order → IsCommand text order
  ranged_found modes.Plain is second h = range_found second (λ e. cc) (subst (λ n. range_heading n (behind_word (behind_word text)) ≡ Ok order) (sym is) h)
  ranged_found modes.Fail is second h = range_found second (λ e. cc) (subst (λ n. range_heading n (behind_word (behind_word text)) ≡ Ok order) (sym is) h)
  ranged_found modes.Warn is second h = range_found second (λ e. cc) (subst (λ n. range_heading n (behind_word (behind_word text)) ≡ Ok order) (sym is) h)
  ranged_found modes.Info is second h = range_found second (λ e. cc) (subst (λ n. range_heading n (behind_word (behind_word text)) ≡ Ok order) (sym is) h)
  ranged_found modes.Ordered is second h = absurd (cc)

  eval_found : eval_heading mode (behind_word text) ≡ Ok order → IsCommand text order
  eval_found h =
      let b = behind_word text in
      by_test (bytes_eq (first_word b) (codes "instant")) _ _ (Ok order) h (λ e k. instant_found (same_bytes (first_word b) (codes "instant") e) k) (λ _ l.
      by_test (bytes_eq (first_word b) (codes "range")) _ _ (Ok order) l (λ e k. ranged_found mode refl (same_bytes (first_word b) (codes "range") e) k) (λ _ k. absurd (cc)))

-- ---- commands

mode_some : (word : List ℕ) (mode : Mode) → eval_mode word ≡ Some mode → word ≡ [] → ⊥
mode_some word mode h e = by (subst (λ w. eval_mode w ≡ Some mode) e h)
  where
    by : eval_mode [] ≡ Some mode → ⊥
    by k = cc

module _ (text : List ℕ) (order : Order) where
  evaluation_found : (named : Option Mode) → eval_mode (first_word text) ≡ named → evaluation_of named (behind_word text) ≡ Ok order → IsCommand text order
  evaluation_found None is h = absurd (cc)
  evaluation_found (Some mode) is h = eval_found text (first_word text) refl (mode_some (first_word text) mode is) mode is order h

  load_found : first_word text ≡ codes "load" → load_heading (behind_word text) ≡ Ok order → IsCommand text order
  load_found first h =
      let b = behind_word text in
      let t = try_ok (interval_spelled (first_word b)) _ order h in
      let a = alone_ok (Loading t.0) order (behind_word b) t.2 in
      subst (IsCommand text) a.1 (load_line text (first_word b) t.0
      (word_beside text (codes "load") first (λ k. cc) _ _ (word_alone b (first_word b) refl (interval_some (first_word b) t.0 t.1) a.0)) t.1)

  clear_found : first_word text ≡ codes "clear" → if_alone Clearing (behind_word text) ≡ Ok order → IsCommand text order
  clear_found first h =
      let a = alone_ok Clearing order (behind_word text) h in
      subst (IsCommand text) a.1 (clear_line text (word_alone text (codes "clear") first (λ k. cc) a.0))

  pub heading_found : heading_of text ≡ Ok order → IsCommand text order
  heading_found h =
      let w = first_word text in
      by_test (bytes_eq w (codes "clear")) _ _ (Ok order) h (λ e k. clear_found (same_bytes w (codes "clear") e) k) (λ _ l.
      by_test (bytes_eq w (codes "load")) _ _ (Ok order) l (λ e k. load_found (same_bytes w (codes "load") e) k) (λ _ m.
      by_test (bytes_eq w (codes "load_with_nhcb")) _ _ (Ok order) m (λ _ k. absurd (cc)) (λ _ k. evaluation_found (eval_mode w) refl k)))
