use Rattle.std.proofs.Common.{◌≡◌, ◌+◌, ◌∷◌, ◌∙◌, ap, drop, refl, sym, subst, List, true}
use Rattle.std.specs.List.{list_all}
use Rattle.std.proofs.lemmas.List.{drop_all, drop_more}
use Rattle.script_read.specs.declared.script.Wanted.{Wanted}
use Rattle.script_check.specs.OutcomeTexts.{outcome_text}
use Rattle.script_check.specs.Verdicts.{meets}
use Rattle.script_check.proofs.failure_text.meets_lines.Goals as goal

pub loop-line-preserved : goal.loop-line-preserved
loop-line-preserved c = λ kept h.
    let lines = c.args.lines.now in
    let i = c.loop-line.line-index in
    let line = c.line-item.result in
    let text = outcome_text c.args.outcome.now in
    let parted = drop_more lines i line c.loop-line-test.true ∙ ap (λ (one : Wanted). one ∷ drop (i + 1) lines) (sym c.line-item.is) in
    c.loop-line.invariant kept (subst (λ (ls : List Wanted). list_all (meets kept text) ls ≡ true) (sym parted) (rw (c.if-not-is_met.ensures refl kept) h))

pub returns : goal.returns
returns c = λ _ kept. c.loop-line.invariant kept (subst (λ (ls : List Wanted). list_all (meets kept (outcome_text c.args.outcome.now)) ls ≡ true) (sym (drop_all c.loop-line.line-index c.args.lines.now c.loop-line-test.false)) refl)
