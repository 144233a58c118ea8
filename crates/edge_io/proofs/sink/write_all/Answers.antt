use Rattle.std.proofs.Common.{take, drop, sym, ap, ◌∙◌, arith, take-append-drop, take-add}
use Rattle.edge_io.specs.Written.{appended, WroteFront}
use Rattle.edge_io.specs.Fronts.{appended-appended}
use Rattle.holders.specs.Answers.{on_err}
use Rattle.edge_io.proofs.sink.write_all.Goals as goal

pub returns-in_err-done-clause-err : goal.returns-in_err-done-clause-err
returns-in_err-done-clause-err g c =
    let stopped : WroteFront (g.S.Sink.written c.args.sink.now) (g.S.Sink.written c.write.new.self) c.args.piece.now = record {
      front = take c.loop-done.done c.args.piece.now;
      left = drop c.loop-done.done c.args.piece.now;
      parts = take-append-drop c.loop-done.done c.args.piece.now;
      took = c.in_err-done.ensures.nothing ∙ c.loop-done.invariant.took;
    } in
    on_err c.from_residual.result _ stopped

pub loop-done-preserved : goal.loop-done-preserved
loop-done-preserved g c =
    let before = g.S.Sink.written c.args.sink.now in
    let piece = c.args.piece.now in
    record {
      within = omega (arith, c.in_ok-done.ensures.within);
      took = c.in_ok-done.ensures.took ∙ ap (λ w. appended w (take c.in_ok-done.field-0 c.split_at.result.1.now)) c.loop-done.invariant.took
          ∙ ap (λ l. appended (appended before (take c.loop-done.done piece)) (take c.in_ok-done.field-0 l)) c.split_at.ensures.back
          ∙ appended-appended before (take c.loop-done.done piece) (take c.in_ok-done.field-0 (drop c.loop-done.done piece))
          ∙ ap (appended before) (sym (take-add c.loop-done.done c.in_ok-done.field-0 piece));
      later = omega (arith, c.write.ensures.cause.later);
      sound = λ s. c.write.ensures.sound (c.loop-done.invariant.sound s);
    }
