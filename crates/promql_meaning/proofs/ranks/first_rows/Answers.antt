use Rattle.std.proofs.Common.{◌≡◌, ◌∙◌, true, false, [], ◌∷◌, ◌++◌, take, sym, ap}
use Rattle.std.specs.Prelude.{filter}
use Rattle.label_set.specs.Entries.{filter_step_in, filter_step_out}
use Rattle.promql_meaning.specs.Ranks.{is_ranked}
use Rattle.promql_meaning.proofs.ranks.first_rows.Goals as goal

pub loop-row-preserved-then-not-taken : goal.loop-row-preserved-then-not-taken
loop-row-preserved-then-not-taken c =
    let told = c.in_ok-groups.ensures.told c.args.count c.row-item.result c.is_number.ensures in
    let out : is_ranked c.args.down c.args.by.now c.args.count c.args.rows.now c.row-item.result ≡ false = sym told ∙ sym c.in_ok-taken.ensures ∙ c.if-not-taken.true in
    c.loop-row.invariant ∙ sym (filter_step_out (is_ranked c.args.down c.args.by.now c.args.count c.args.rows.now) c.args.rows.now c.loop-row.row-index c.row-item.result c.loop-row-test.true c.row-item.is out)

pub loop-row-preserved : goal.loop-row-preserved
loop-row-preserved c =
    let told = c.in_ok-groups.ensures.told c.args.count c.row-item.result c.is_number.ensures in
    let kept : is_ranked c.args.down c.args.by.now c.args.count c.args.rows.now c.row-item.result ≡ true = sym told ∙ sym c.in_ok-taken.ensures ∙ c.if-not-taken.false in
    c.in_ok-push.ensures.ok
    ∙ ap (λ out. out ++ c.in_ok-copy.field-0 ∷ []) c.loop-row.invariant
    ∙ ap (λ row. filter (is_ranked c.args.down c.args.by.now c.args.count c.args.rows.now) (take c.loop-row.row-index c.args.rows.now) ++ row ∷ []) c.in_ok-copy.ensures
    ∙ sym (filter_step_in (is_ranked c.args.down c.args.by.now c.args.count c.args.rows.now) c.args.rows.now c.loop-row.row-index c.row-item.result c.loop-row-test.true c.row-item.is kept)
