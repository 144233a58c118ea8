use Rattle.std.proofs.Common.{◌∙◌, ap, ap₂, sym}
use Rattle.logical_plan.specs.declared.nodes.Plan.{Plan}
use Rattle.logical_plan.specs.Onces.{once_of}
use Rattle.logical_plan.specs.Steadiness.{both, still_if}
use Rattle.logical_plan.proofs.Knowing.{known_all, known_Element, known_Window}
use Rattle.logical_plan.proofs.steadiness.+knowing.Goals as goal

pub known-returns-in-Element : goal.known-returns-in-Element
known-returns-in-Element t c =
    c.all_known.ensures
    ∙ ap₂ known_all (c.both.ensures ∙ ap₂ both c.constant-in-Element.ensures (c.known.ensures ∙ ap (λ (p : Plan). (once_of p).facts) c.get-in-Element.ensures)) c.as_slice.ensures
    ∙ sym (known_Element c.args.p.now c.in-Element.field-0 c.in-Element.inner c.in-Element.arguments c.in-Element.is)

pub known-returns-in-Window : goal.known-returns-in-Window
known-returns-in-Window t c =
    c.still_if-in-Window.ensures
    ∙ ap₂ still_if c.is_still.ensures (c.all_known-in-Window.ensures
    ∙ ap₂ known_all (c.both-first.ensures ∙ ap₂ both c.constant-in-Window.ensures (c.known-in-Window.ensures ∙ ap (λ (p : Plan). (once_of p).facts) c.get-in-Window.ensures)) c.as_slice-in-Window.ensures)
    ∙ sym (known_Window c.args.p.now c.in-Window.f c.in-Window.inner c.in-Window.arguments c.in-Window.is)
