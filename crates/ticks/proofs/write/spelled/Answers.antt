use Rattle.std.proofs.Common.{rules, ◌∙◌, ◌++◌, ap, FitsSigned, w64, of_z}
use Rattle.std.proofs.lemmas.Int.{to_z-of_z}
use Rattle.ticks.specs.Spellings.{parts, sign}
use Rattle.ticks.specs.Units.{units}
use Rattle.ticks.proofs.Spelled.{spelling-nonzero}
use Rattle.ticks.proofs.write.spelled.Goals as goal

pub returns : goal.returns
returns c =
    let z = c.args.milliseconds in
    let fits : FitsSigned w64 z = search rules in
    let signed = simp to_z-of_z at c.sign_of.ensures in
    let magnitude = simp to_z-of_z at c.unsigned_abs.ensures.value in
    c.in_ok-add_parts.ensures ∙ ap (λ l. l ++ parts units c.unsigned_abs.result) (c.in_ok-text.ensures.ok ∙ signed)
    ∙ ap (λ n. sign z ++ parts units n) magnitude ∙ spelling-nonzero z (λ none. c.if-milliseconds-eq0.false (ap (of_z w64) none))
