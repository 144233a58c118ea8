use Rattle.std.proofs.Common.{◌∙◌, ap, subst, sym, Bool}
use Rattle.script_check.specs.Verdicts.{AreKept, PatternList, bare_reason, notes_in}
use Rattle.script_check.proofs.BareLines.{agreed_lines, bare_lines}
use Rattle.script_check.proofs.judging.judge_notes.Goals as goal

pub returns-then-are_bare-clause-reason : goal.returns-then-are_bare-clause-reason
returns-then-are_bare-clause-reason c =
    let texts = notes_in c.args.warnings c.args.o.now in
    let some = sym c.is_empty.ensures ∙ c.if-is_empty.false in
    c.bare_reason.ensures ∙ ap (λ (noted : Bool). bare_reason c.args.warnings c.args.none noted) c.has_notes-then-are_bare.ensures
    ∙ bare_lines c.args.searches.now c.args.warnings c.args.none c.args.lines.now texts some (sym c.are_bare.ensures ∙ c.if-are_bare.true)

pub returns-then-agree_on_notes-clause-reason : goal.returns-then-agree_on_notes-clause-reason
returns-then-agree_on_notes-clause-reason c =
    let texts = notes_in c.args.warnings c.args.o.now in
    let some = sym c.is_empty.ensures ∙ c.if-is_empty.false in
    let kept = c.args.searches.now in
    let so = c.if-agree_on_notes.true in
    c.bare_reason-then-agree_on_notes.ensures ∙ agreed_lines kept c.args.warnings c.args.none c.args.lines.now texts some (c.agree_on_notes.ensures.noted so kept) (c.agree_on_notes.ensures.silent so kept)

pub is_silent-requires : goal.is_silent-requires
is_silent-requires c = subst (λ (kept : PatternList). AreKept kept c.args.lines.now) (sym c.are_met.ensures.same) c.requires
