use Rattle.std.proofs.Common.{◌∙◌, List, Err, arith, map, refl}
use Rattle.std.specs.Prelude.{⊤}
use Rattle.edge_io.specs.Written.{WroteFront}
use Rattle.test_runner.specs.Steps.{IsJudgementOn, WroteLess, nothing, partly}
use Rattle.test_runner.proofs.Carrying.{cut_by_any}
use Rattle.test_runner.proofs.Engines.{counted, counted_one, cut_so, on_ok, own_never}
use Rattle.test_runner.proofs.Serving.{cut_faulted, cut_leaves, cut_none_loaded, cut_stopped, own_none_loaded, stopped_by}
use Rattle.test_runner.proofs.over.run_evaluation_over.Goals as goal

pub returns-in-Ok-clause-ran : goal.returns-in-Ok-clause-ran
returns-in-Ok-clause-ran g c = λ series held tell. counted (g.S.Sink.written c.args.out.now) (g.S.Sink.written c.write_line.new.out) c.write_line.result (c.in-Ok.ensures.line series held tell) c.write_line.ensures.written c.write_line.ensures.counted

pub returns-in-Ok-clause-one : goal.returns-in-Ok-clause-one
returns-in-Ok-clause-one g c = counted_one c.write_line.result c.in-Ok.line.passed c.write_line.ensures.counted

pub returns-in-Ok-clause-cut : goal.returns-in-Ok-clause-cut
returns-in-Ok-clause-cut g c = λ series held tell.
    cut_so c.write_line.result (WroteFront (g.S.Sink.written c.args.out.now) (g.S.Sink.written c.write_line.new.out) c.in-Ok.line.text.items) (WroteLess c.args.path.now (IsJudgementOn c.args.searches.now series c.args.asked) (g.S.Sink.written c.args.out.now) (g.S.Sink.written c.write_line.new.out))
    (λ front. partly c.in-Ok.line.text.items c.in-Ok.line.passed (c.in-Ok.ensures.line series held tell) front) c.write_line.ensures.cut

pub returns-in-Ok-clause-stopped : goal.returns-in-Ok-clause-stopped
returns-in-Ok-clause-stopped g c = cut_stopped _ c.write_line.result _ c.write_line.ensures.fault

pub returns-in-Ok-clause-own : goal.returns-in-Ok-clause-own
returns-in-Ok-clause-own g c = cut_none_loaded _ c.write_line.result c.write_line.ensures.fault

pub returns-in-Ok-clause-held : goal.returns-in-Ok-clause-held
returns-in-Ok-clause-held g c = on_ok c.write_line.result _ c.in-Ok.ensures.held

pub returns-in-Ok-clause-boxes : goal.returns-in-Ok-clause-boxes
returns-in-Ok-clause-boxes g c = cut_leaves _ _ c.in-Ok.line c.write_line.result c.args.declared.now c.judge_over.new.declared (map (λ b. (goal.Engine-dyn g (b.vtable, b.value)).seen b.value) c.args.engines.now.items) (map (λ b. (goal.Engine-dyn g (b.vtable, b.value)).seen b.value) c.judge_over.new.engines.items) c.write_line.ensures.fault c.in-Ok.ensures.boxes

pub returns-in-Ok-clause-faulted : goal.returns-in-Ok-clause-faulted
returns-in-Ok-clause-faulted g c = cut_faulted _ c.write_line.result (map (λ b. (goal.Engine-dyn g (b.vtable, b.value)).seen b.value) c.args.engines.now.items) (map (λ b. (goal.Engine-dyn g (b.vtable, b.value)).seen b.value) c.judge_over.new.engines.items) c.write_line.ensures.fault

pub returns-in-Ok-clause-calm : goal.returns-in-Ok-clause-calm
returns-in-Ok-clause-calm g c = on_ok c.write_line.result _ c.in-Ok.ensures.calm

pub returns-in-Ok-clause-sure : goal.returns-in-Ok-clause-sure
returns-in-Ok-clause-sure g c = λ tell sound. cut_stopped _ c.write_line.result _ c.write_line.ensures.fault

pub returns-in-Err-clause-cut : goal.returns-in-Err-clause-cut
returns-in-Err-clause-cut g c = λ series held tell. cut_by_any c.in-Err.fault (WroteLess c.args.path.now (IsJudgementOn c.args.searches.now series c.args.asked) (g.S.Sink.written c.args.out.now) (g.S.Sink.written c.args.out.now)) (nothing refl)

pub returns-in-Err-clause-stopped : goal.returns-in-Err-clause-stopped
returns-in-Err-clause-stopped g c = stopped_by ⊤ c.in-Err.fault _ refl

pub returns-in-Err-clause-own : goal.returns-in-Err-clause-own
returns-in-Err-clause-own g c = own_none_loaded c.in-Err.fault c.in-Err.ensures.own

pub returns-in-Err-clause-cause : goal.returns-in-Err-clause-cause
returns-in-Err-clause-cause g c = record { later = omega arith; rose = λ w. absurd (own_never (Err c.in-Err.fault) c.in-Err.ensures.own w) }

pub returns-in-Err-clause-never : goal.returns-in-Err-clause-never
returns-in-Err-clause-never g c = λ sound w. own_never (Err c.in-Err.fault) c.in-Err.ensures.own w

pub returns-in-Err-clause-boxes : goal.returns-in-Err-clause-boxes
returns-in-Err-clause-boxes g c = c.in-Err.ensures.boxes

pub returns-in-Err-clause-faulted : goal.returns-in-Err-clause-faulted
returns-in-Err-clause-faulted g c = c.in-Err.ensures.faulted

pub returns-in-Err-clause-sure : goal.returns-in-Err-clause-sure
returns-in-Err-clause-sure g c = λ tell sound. c.in-Err.ensures.sure tell sound
