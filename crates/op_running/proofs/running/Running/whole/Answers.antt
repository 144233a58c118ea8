use Rattle.std.proofs.Common.{rules, ◌∙◌, ◌+◌, ◌-◌, ◌<◌, ◌≤◌, List, length, take, drop, sym, ap, subst, arith}
use Rattle.std.specs.Prelude.{slice_get}
use Rattle.std.specs.Option.{option_copied}
use Rattle.std.proofs.lemmas.List.{take-append-drop}
use Rattle.op_running.proofs.Tails.{all_kept, last_kept, length_left, length_taken}
use Rattle.op_running.proofs.running.Running.whole.Goals as goal

pub returns-in-None : goal.returns-in-None
returns-in-None g c =
    let kept = c.args.self.now in
    let values = c.args.values.now in
    let tails = kept.tails.items in
    let same = c.as_slice-tails.ensures.value in
    let all : length values ≤ length tails + kept.counted = let e = ap length same in let h = c.if-tails-self.false in omega arith in
    last_kept g.S.Summary.is_of tails kept.behind kept.counted values all
    (sym (ap option_copied c.in-None.is) ∙ c.last.ensures.value ∙ ap (λ (ts : List g.row.S.Denot). slice_get ts (length ts - 1)) same) c.requires

pub joined-requires : goal.joined-requires
joined-requires g c =
    let kept = c.args.self.now in
    let values = c.args.values.now in
    let tails = kept.tails.items in
    let same = c.as_slice-tails.ensures.value in
    let all : length values ≤ length tails + kept.counted = let e = ap length same in let h = c.if-tails-self.false in omega arith in
    let n = length tails in
    let both = all_kept g.S.Summary.is_of tails kept.behind c.in-Some.tail.now kept.counted values all
    (sym (ap option_copied c.in-Some.is) ∙ c.last.ensures.value ∙ ap (λ (ts : List g.row.S.Denot). slice_get ts (length ts - 1)) same) c.requires in
    let within = c.requires.within in
    let few : length values < 18446744073709551616 = search rules in
    (take n values, drop n values, both.0, both.1, let a = length_taken n values (omega arith) in let b = length_left n values (omega arith) in omega arith)

pub returns-in-Some : goal.returns-in-Some
returns-in-Some g c =
    let kept = c.args.self.now in
    let values = c.args.values.now in
    let tails = kept.tails.items in
    let same = c.as_slice-tails.ensures.value in
    let all : length values ≤ length tails + kept.counted = let e = ap length same in let h = c.if-tails-self.false in omega arith in
    let n = length tails in
    let both = all_kept g.S.Summary.is_of tails kept.behind c.in-Some.tail.now kept.counted values all
    (sym (ap option_copied c.in-Some.is) ∙ c.last.ensures.value ∙ ap (λ (ts : List g.row.S.Denot). slice_get ts (length ts - 1)) same) c.requires in
    subst (g.S.Summary.is_of c.joined.result) (take-append-drop n values) (c.joined.ensures (take n values) (drop n values) both.0 both.1)
