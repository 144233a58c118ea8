use Rattle.std.proofs.Common.{sym, ap, ◌∙◌, Some, arith}
use Rattle.xfrac.specs.declared.value.XFrac.TheVariants.{Fin}
use Rattle.xfrac.specs.Formed.{formed_outside, formed_within, reduced_parts}
use Rattle.xfrac.proofs.forming.form.Goals as goal

pub returns-then-p-gt-LIMIT : goal.returns-then-p-gt-LIMIT
returns-then-p-gt-LIMIT c =
    sym (formed_outside _ _ _ c.reduce-p.result.0 c.reduce-p.result.1 (ap (λ r. r.0) (sym c.reduce-p.ensures)) (ap (λ r. r.1) (sym c.reduce-p.ensures)) (grind arith))

pub with_parts-requires : goal.with_parts-requires
with_parts-requires c =
    reduced_parts _ _ _ _ c.requires (ap (λ r. r.0) (sym c.reduce-p.ensures)) (ap (λ r. r.1) (sym c.reduce-p.ensures)) (omega arith) (omega arith)

pub returns : goal.returns
returns c =
    ap (λ x. Some (Fin x)) c.with_parts.ensures ∙ sym (formed_within _ _ _ _ _ (ap (λ r. r.0) (sym c.reduce-p.ensures)) (ap (λ r. r.1) (sym c.reduce-p.ensures)) (omega arith) (omega arith))
