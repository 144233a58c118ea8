use Rattle.std.proofs.Common.{◌≡◌, ◌+◌, ◌∷◌, ◌∙◌, ap, drop, refl, sym, subst, List, true}
use Rattle.std.proofs.lemmas.List.{drop_all, drop_more}
use Rattle.script_read.specs.declared.script.Wanted.{Wanted}
use Rattle.script_check.specs.NoteTexts.{texts_of}
use Rattle.script_check.specs.Verdicts.{noted_holds}
use Rattle.script_check.proofs.Wanting.{one_more_holds}
use Rattle.script_check.proofs.noted.are_noted.Goals as goal

pub loop-line-preserved : goal.loop-line-preserved
loop-line-preserved c = λ kept h.
    let lines = c.args.lines.now in
    let i = c.loop-line.line-index in
    let line = c.line-item.result in
    let texts = texts_of c.args.warnings c.args.notes.now in
    let parted = drop_more lines i line c.loop-line-test.true ∙ ap (λ (one : Wanted). one ∷ drop (i + 1) lines) (sym c.line-item.is) in
    c.loop-line.invariant kept (subst (λ (ls : List Wanted). noted_holds kept ls texts ≡ true) (sym parted) (one_more_holds kept texts line (drop (i + 1) lines) (c.if-not-is_noted.ensures refl kept) h))

pub returns : goal.returns
returns c = λ _ kept. c.loop-line.invariant kept (subst (λ (ls : List Wanted). noted_holds kept ls (texts_of c.args.warnings c.args.notes.now) ≡ true) (sym (drop_all c.loop-line.line-index c.args.lines.now c.loop-line-test.false)) refl)
