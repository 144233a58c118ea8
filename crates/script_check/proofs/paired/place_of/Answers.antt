use Rattle.std.proofs.Common.{◌≡◌, ◌∙◌, arith, length, refl, subst, sym}
use Rattle.std.specs.declared.cmp.Ordering.TheVariants.{Equal}
use Rattle.std.proofs.lemmas.Option.{slice_get_read}
use Rattle.label_set.specs.Labels.{labels_cmp}
use Rattle.promql_meaning.specs.declared.answer.ResultSeries.{ResultSeries}
use Rattle.script_check.proofs.Pairs.{labels_at}
use Rattle.script_check.proofs.paired.place_of.Goals as goal

pub returns-in-Equal-clause-has : goal.returns-in-Equal-clause-has
returns-in-Equal-clause-has c =
    let all = c.args.all.now in
    let at = slice_get_read all (length all) _ c.index-all-middle.result refl (omega (arith, c.loop-low.invariant, c.loop-low-test.true)) c.index-all-middle.is in
    let tied = sym c.cmp.ensures ∙ c.in-Equal.is in
    labels_at all _ c.index-all-middle.result c.args.labels.now at (subst (λ (s : ResultSeries). labels_cmp s.labels c.args.labels.now ≡ Equal) (sym c.index-all-middle.is) tied)
