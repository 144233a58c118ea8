use Rattle.std.proofs.Common.{◌≡◌, ◌∙◌, false, ap, subst, sym, true, refl}
use Rattle.std.specs.Prelude.{IfOk, Result}
use Rattle.plan_tree.specs.Nodes.{shape_of}
use Rattle.plan_tree.specs.Shapes.{BinaryOf, Shape}
use Rattle.plan_work.specs.TreeBounds.{StaysWithin}
use Rattle.op_small.specs.declared.rule.SmallRule.TheVariants as small
use Rattle.plan_parts.specs.Parts.{IsBinary, IsInstants}
use Rattle.plan_parts.specs.declared.parts.Part.{Part}
use Rattle.plan_parts.specs.declared.unbuilt.Unbuilt.{Unbuilt}
use Rattle.plan_parts.proofs.Grown.{ok_then, same_part}
use Rattle.std.proofs.lemmas.Result.{err_from_is_err_and}
use Rattle.plan_parts.proofs.Handed.{handed_on}
use Rattle.plan_parts.proofs.kinds.beside_number.Goals as goal

pub returns-clause-made : goal.returns-clause-made
returns-clause-made c =
    let rule = c.args.rule in
    let rows = c.args.rows in
    let value = small.Number c.args.value in
    let number = c.in_ok-rows.number in
    let same : rows ≡ c.in_ok-rows.rows = same_part rows c.in_ok-rows.rows c.in_ok-rows.ensures.first in
    let n : IsInstants value number = subst (λ (r : Result Part Unbuilt). IfOk r (IsInstants value)) c.in_ok-rows.ensures.second c.instants-number.ensures.made in
    ok_then c.binary.result c.binary.ensures.made (λ part b'.
    let b = subst (λ (r : Part). IsBinary rule false r number part) (sym same) b' in
    let shape = b.made.shape_is ∙ ap (λ (s : Shape). BinaryOf rule (shape_of rows.tree) s) n.made.shape_is in
    record {
      made = record { shape_is = shape; scalar_is = b.made.scalar_is; plain = b.made.plain };
      can = λ store kept k. b.can store kept k (n.can store kept);
      asks = λ requests times h. b.asks requests times h (n.asks requests times);
      fresh = λ f. b.fresh f n.fresh;
      within = λ asked walk below p o w. subst (λ (s : Shape). StaysWithin asked walk p s) (sym shape) (c.trees_stay_within.ensures.over_number asked walk below p rule value (shape_of rows.tree) o w);
    })

pub returns-in_err-rows-clause-total : goal.returns-in_err-rows-clause-total
returns-in_err-rows-clause-total c = λ is.
    let p = err_from_is_err_and c.from_residual.result c.from_residual.ensures.1 in
    handed_on false _ _ _ p.1 p.2 (c.in_err-rows.ensures.total c.args.rows.scalar true refl c.instants-number.ensures.total)
