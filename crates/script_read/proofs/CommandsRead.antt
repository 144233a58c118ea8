-- A command is read as what its form says.
use Rattle.std.proofs.Common.{◌≡◌, ℕ, true, cond, List, [], ◌∷◌, Result, Ok, Err, Some, refl, ap, ◌∙◌}
use Rattle.std.specs.Prelude.{bytes_eq, codes}
use Rattle.ticks.specs.declared.moment.Ms.{Ms}
use Rattle.script_read.specs.CommandForms.{IsCommand, clear_line, load_line, eval_instant, eval_range}
use Rattle.script_read.specs.Commands.{Order, Clearing, Loading, Evaluating, after_word, duration_after, eval_heading, eval_mode, evaluated, heading_of, heading_worded, if_alone, instant_heading, moment_at, moments_from, range_heading, range_of, time_after}
use Rattle.script_read.specs.Expects.{filled}
use Rattle.script_read.specs.Lines.{behind_word, first_word}
use Rattle.ticks.specs.Moments.{Moments, is_grid}
use Rattle.script_read.specs.Outcomes.{then_give, then_try}
use Rattle.script_read.specs.Parted.{IsFilled, Parted}
use Rattle.script_read.specs.Words.{interval_spelled, time_spelled}
use Rattle.script_read.specs.declared.expectation.Mode.{Mode}
use Rattle.script_read.specs.declared.expectation.Mode.TheVariants as modes
use Rattle.script_read.specs.declared.fault.LineFault.{LineFault}
use Rattle.script_read.specs.declared.fault.LineFault.TheVariants.{Malformed}
use Rattle.script_read.proofs.FirstWords.{parted_behind, parted_first}
use Rattle.script_read.proofs.Takes.{by_test, bytes_same, same_bytes}

pub filled_is : (text : List ℕ) → IsFilled text → filled text ≡ Ok text
filled_is [] f = absurd (f.some refl)
filled_is (byte ∷ bytes) f = ap (λ b. cond b (Ok (byte ∷ bytes)) (Err Malformed)) f.told

evaluated_is : (mode : Mode) (m : Moments) (text : List ℕ) → is_grid m ≡ true → IsFilled text → evaluated mode m text ≡ Ok (Evaluating mode m text)
evaluated_is mode m text g f =
    ap (λ b. then_try (cond b (Ok m) (Err Malformed)) (λ taken. then_give (filled text) (Evaluating mode taken))) g
    ∙ ap (λ r. then_give r (Evaluating mode m)) (filled_is text f)

-- a time behind a word
module _ (read : List ℕ → Result Ms LineFault) (word text : List ℕ) (time : Ms) (rest : List ℕ) where
  time_is : first_word text ≡ word → read (first_word (behind_word text)) ≡ Ok time → behind_word (behind_word text) ≡ rest
      → then_try {Y = Ms × List ℕ} (after_word word text) (λ behind. then_give (read (first_word behind)) (λ t. (t, behind_word behind))) ≡ Ok (time, rest)
  time_is first is behind =
      ap (λ b. then_try {Y = Ms × List ℕ} (cond b (Ok (behind_word text)) (Err Malformed)) (λ l. then_give (read (first_word l)) (λ t. (t, behind_word l)))) (bytes_same (first_word text) word first)
      ∙ ap (λ r. then_give {Y = Ms × List ℕ} r (λ t. (t, behind_word (behind_word text)))) is
      ∙ ap (λ l. let found : Ms × List ℕ = (time, l) in Ok found) behind

-- ---- the words of an evaluation

module _ (mode : Mode) (behind : List ℕ) where
  heading_as : (word : List ℕ) → eval_mode word ≡ Some mode → heading_worded word behind ≡ eval_heading mode behind
  heading_as word h =
      by_test (bytes_eq word (codes "eval")) _ _ (Some mode) h (λ e k. as_mode (codes "eval") modes.Plain e k refl) (λ _ l.
      by_test (bytes_eq word (codes "eval_fail")) _ _ (Some mode) l (λ e k. as_mode (codes "eval_fail") modes.Fail e k refl) (λ _ m.
      by_test (bytes_eq word (codes "eval_warn")) _ _ (Some mode) m (λ e k. as_mode (codes "eval_warn") modes.Warn e k refl) (λ _ n.
      by_test (bytes_eq word (codes "eval_info")) _ _ (Some mode) n (λ e k. as_mode (codes "eval_info") modes.Info e k refl) (λ _ o.
      by_test (bytes_eq word (codes "eval_ordered")) _ _ (Some mode) o (λ e k. as_mode (codes "eval_ordered") modes.Ordered e k refl) (λ _ k. absurd (cc))))))
    where
      as_mode : (name : List ℕ) (n : Mode) → bytes_eq word name ≡ true → Some n ≡ Some mode → heading_worded name behind ≡ eval_heading n behind → heading_worded word behind ≡ eval_heading mode behind
      as_mode name n e k h =
          let same : n ≡ mode = cc in
          ap (λ w. heading_worded w behind) (same_bytes word name e) ∙ h ∙ ap (λ o. eval_heading o behind) same

range_as : (mode : Mode) (rest : List ℕ) → (mode ≡ modes.Ordered → ⊥) → range_of mode rest ≡ range_heading mode rest
range_as modes.Plain rest unordered = refl
range_as modes.Fail rest unordered = refl
range_as modes.Warn rest unordered = refl
range_as modes.Info rest unordered = refl
range_as modes.Ordered rest unordered = absurd (unordered refl)

module _ (text word : List ℕ) (mode : Mode) (expression : List ℕ) where
  instant_read : (time : List ℕ) (at : Ms) → Parted (word ∷ (codes "instant" ∷ (codes "at" ∷ (time ∷ [])))) expression text → IsFilled expression
      → eval_mode word ≡ Some mode → time_spelled time ≡ Ok at → is_grid (moment_at at) ≡ true → heading_of text ≡ Ok (Evaluating mode (moment_at at) expression)
  instant_read time at h f named is grid =
      let b = behind_word text in
      let c = behind_word b in
      let h1 = parted_behind _ _ _ h in
      let h2 = parted_behind _ _ _ h1 in
      let h3 = parted_behind _ _ _ h2 in
      let first = parted_first _ _ _ h in
      let second = parted_first _ _ _ h1 in
      let third = parted_first _ _ _ h2 in
      let fourth = parted_first _ _ _ h3 in
      ap (λ w. heading_worded w b) first
      ∙ heading_as mode b word named
      ∙ ap (λ v. cond v (instant_heading mode c) (cond (bytes_eq (first_word b) (codes "range")) (range_of mode c) (Err Malformed))) (bytes_same (first_word b) (codes "instant") second)
      ∙ ap (λ r. then_try r (λ at. evaluated mode (moment_at at.0) at.1)) (time_is time_spelled (codes "at") c at expression third (ap time_spelled fourth ∙ is) (parted_behind _ _ _ h3))
      ∙ evaluated_is mode (moment_at at) expression grid f

module _ (text word : List ℕ) (mode : Mode) (first last duration expression : List ℕ) (start end step : Ms) where
  range_read : Parted (word ∷ (codes "range" ∷ (codes "from" ∷ (first ∷ (codes "to" ∷ (last ∷ (codes "step" ∷ (duration ∷ [])))))))) expression text → IsFilled expression
      → eval_mode word ≡ Some mode → (mode ≡ modes.Ordered → ⊥) → time_spelled first ≡ Ok start → time_spelled last ≡ Ok end → interval_spelled duration ≡ Ok step
      → is_grid (moments_from start end step) ≡ true → heading_of text ≡ Ok (Evaluating mode (moments_from start end step) expression)
  range_read h f named unordered ks ke kd grid =
      let b = behind_word text in
      let c = behind_word b in
      let h1 = parted_behind _ _ _ h in
      let h2 = parted_behind _ _ _ h1 in
      let h3 = parted_behind _ _ _ h2 in
      let h4 = parted_behind _ _ _ h3 in
      let h5 = parted_behind _ _ _ h4 in
      let h6 = parted_behind _ _ _ h5 in
      let h7 = parted_behind _ _ _ h6 in
      let to = behind_word (behind_word c) in
      let by = behind_word (behind_word to) in
      ap (λ w. heading_worded w b) (parted_first _ _ _ h)
      ∙ heading_as mode b word named
      ∙ ap (λ w. cond (bytes_eq w (codes "instant")) (instant_heading mode c) (cond (bytes_eq w (codes "range")) (range_of mode c) (Err Malformed))) (parted_first _ _ _ h1)
      ∙ range_as mode c unordered
      ∙ ap (λ r. then_try r (λ start. then_try (time_after (codes "to") start.1) (λ end. then_try (duration_after (codes "step") end.1) (λ step. evaluated mode (moments_from start.0 end.0 step.0) step.1))))
      (time_is time_spelled (codes "from") c start to (parted_first _ _ _ h2) (ap time_spelled (parted_first _ _ _ h3) ∙ ks) refl)
      ∙ ap (λ r. then_try r (λ end. then_try (duration_after (codes "step") end.1) (λ step. evaluated mode (moments_from start end.0 step.0) step.1)))
      (time_is time_spelled (codes "to") to end by (parted_first _ _ _ h4) (ap time_spelled (parted_first _ _ _ h5) ∙ ke) refl)
      ∙ ap (λ r. then_try r (λ step. evaluated mode (moments_from start end step.0) step.1))
      (time_is interval_spelled (codes "step") by step expression (parted_first _ _ _ h6) (ap interval_spelled (parted_first _ _ _ h7) ∙ kd) (parted_behind _ _ _ h7))
      ∙ evaluated_is mode (moments_from start end step) expression grid f

-- ---- commands

load_read : (text duration : List ℕ) (interval : Ms) → Parted (codes "load" ∷ (duration ∷ [])) [] text → interval_spelled duration ≡ Ok interval → heading_of text ≡ Ok (Loading interval)
load_read text duration interval h is =
    let b = behind_word text in
    let h1 = parted_behind _ _ _ h in
    ap (λ w. heading_worded w b) (parted_first _ _ _ h)
    ∙ ap (λ r. then_try r (λ t. if_alone (Loading t) (behind_word b))) (ap interval_spelled (parted_first _ _ _ h1) ∙ is)
    ∙ ap (if_alone (Loading interval)) (parted_behind _ _ _ h1)

clear_read : (text : List ℕ) → Parted (codes "clear" ∷ []) [] text → heading_of text ≡ Ok Clearing
clear_read text h = ap (λ w. heading_worded w (behind_word text)) (parted_first _ _ _ h) ∙ ap (if_alone Clearing) (parted_behind _ _ _ h)

pub heading_read : (text : List ℕ) (order : Order) → IsCommand text order → heading_of text ≡ Ok order
heading_read _ _ (clear_line text h) = clear_read text h
heading_read _ _ (load_line text duration interval h is) = load_read text duration interval h is
heading_read _ _ (eval_instant text word time expression mode at h f named is grid) = instant_read text word mode expression time at h f named is grid
heading_read _ _ (eval_range text word first last duration expression mode start end step h f named unordered ks ke kd grid) =
    range_read text word mode first last duration expression start end step h f named unordered ks ke kd grid
