-- What is read where memory ran out in the midst of a series.
use Rattle.std.proofs.Common.{◌≡◌, ◌∙◌, ◌+◌, ◌≤◌, ℕ, length, None, ap, arith, length-append}
use Rattle.std.specs.Prelude.{Result, OnErr, Ok, Err}
use Rattle.std.specs.Prelude.{ℤ, ◌≤ℤ◌}
use Rattle.std.specs.Option.{option_to_list}
use Rattle.sample_store.specs.Samples.{Samples}
use Rattle.series_marks.specs.Reads.{after, ahead_of, coming, last_of, mark_at, read_at, until}
use Rattle.series_marks.specs.declared.mark.Mark.{Mark}
use Rattle.series_marks.specs.Marked.{coming_mark}
use Rattle.op_window.proofs.Windows.{until_split}

pub begun_most : (e m : ℤ) (S D : Samples) (now was : ℕ) → D ≡ after e S → now ≤ was + length (until m D) → now ≤ was + read_at e m S
begun_most e m S D now was at h = let k : length (until m D) ≡ length (until m (after e S)) = ap (λ (xs : Samples). length (until m xs)) at in omega arith

pub gone_most : (e a b : ℤ) (S : Samples) (mark : Mark) (now was : ℕ) → a ≤ℤ b → mark ≡ mark_at e a S → now + length (option_to_list mark.ahead) ≤ was + length (until b (coming S mark)) → now + read_at e a S ≤ was + read_at e b S
gone_most e a b S mark now was l is h =
    let T = after e S in
    let c : length (until b (coming S mark)) ≡ length (until b (after a T)) = ap (λ (xs : Samples). length (until b xs)) (ap (coming S) is ∙ coming_mark e a S) in
    let k : length (option_to_list mark.ahead) ≡ length (option_to_list (ahead_of a (last_of a T None) (after a T))) = ap (λ (m : Mark). length (option_to_list m.ahead)) is in
    let p : length (until b T) ≡ length (until a T) + length (until b (after a T)) = ap length (until_split a b T l) ∙ length-append (until a T) (until b (after a T)) in
    omega arith

-- what holds anyway holds of an error
pub on_err : {A E P : Type 0} (r : Result A E) → P → OnErr r P
on_err (Ok a) p = tt
on_err (Err e) p = p
