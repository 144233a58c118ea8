use Rattle.std.proofs.Common.{◌∙◌, ◌+◌, length, refl, sym, arith}
use Rattle.std.proofs.lemmas.Option.{slice_get_read}
use Rattle.std.proofs.lemmas.Result.{err_from_is_err_and}
use Rattle.promql_tool.proofs.BoxLists.{but_since, map_size, sound_since, sound_sooner}
use Rattle.promql_tool.proofs.Declaring.{all_declared, none_declared, one_declared, undeclared}
use Rattle.promql_tool.proofs.boxes.declare_each.Goals as goal

pub declare_next-requires-clause-may : goal.declare_next-requires-clause-may
declare_next-requires-clause-may g c = undeclared c.loop-i.i _ _ _ c.requires.fresh c.loop-i.invariant.so

pub loop-i-init : goal.loop-i-init
loop-i-init g c = record { so = none_declared _ _; len = refl }

pub loop-i-preserved : goal.loop-i-preserved
loop-i-preserved g c = record {
  so = one_declared c.loop-i.i c.args.declared.now c.index-declared-i.result _ _ _ (slice_get_read c.args.declared.now (length c.args.declared.now) c.loop-i.i _ refl c.loop-i-test.true c.index-declared-i.is)
      (omega (arith, c.loop-i-test.true, c.requires.boxes, map_size (λ b. (goal.Engine-dyn g (b.vtable, b.value)).seen b.value) c.args.engines.now)) c.in_ok-declare_next.ensures.boxes.kept.many c.loop-i.invariant.so c.in_ok-declare_next.ensures.one;
  len = sym (map_size _ _) ∙ c.in_ok-declare_next.ensures.boxes.kept.many ∙ map_size _ _ ∙ c.loop-i.invariant.len;
}

pub returns-in_err-declare_next-clause-boxes : goal.returns-in_err-declare_next-clause-boxes
returns-in_err-declare_next-clause-boxes g c =
    let p = err_from_is_err_and c.from_residual.result c.from_residual.ensures.1 in
    rw (p.1, p.2) (but_since _ _ _ _ c.loop-i.invariant.so.kept c.in_err-declare_next.ensures.boxes)

pub returns-in_err-declare_next-clause-sure : goal.returns-in_err-declare_next-clause-sure
returns-in_err-declare_next-clause-sure g c = λ sound.
    let p = err_from_is_err_and c.from_residual.result c.from_residual.ensures.1 in
    rw (p.1, p.2) (c.in_err-declare_next.ensures.sure (sound_since (c.loop-i.i + 1) _ _ c.loop-i.invariant.so.kept (sound_sooner (c.loop-i.i + 1) (length c.args.declared.now) _ (omega (arith, c.loop-i-test.true)) sound)))

pub returns-clause-declared : goal.returns-clause-declared
returns-clause-declared g c = all_declared c.loop-i.i _ _ _ (omega (arith, c.loop-i-test.false)) c.loop-i.invariant.so

pub returns-clause-boxes : goal.returns-clause-boxes
returns-clause-boxes g c = c.loop-i.invariant.so.kept
