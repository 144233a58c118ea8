use Rattle.std.proofs.Common.{◌∙◌, ap, ap₂, arith, map}
use Rattle.std.proofs.lemmas.Result.{IfOk-weaker}
use Rattle.clap.specs.Faults.{is_simple_and_free}
use Rattle.clap.specs.Simple.{is_simple}
use Rattle.clap.specs.Words.{with_rule}
use Rattle.tool_words.proofs.Built.{options_next, options_end, simple, simple_app}
use Rattle.tool_words.proofs.build.command.Goals as goal

pub loop-name-preserved : goal.loop-name-preserved
loop-name-preserved c = options_next _ _ _ _ c.args.options.now c.loop-name.name-index _ (omega arith)
    (c.in_ok-command.ensures.shape c.option.ensures.local) c.option.ensures.rule c.loop-name.invariant

pub returns-clause-app : goal.returns-clause-app
returns-clause-app c = IfOk-weaker c.arg-2.result _ _
    (λ r h. h.shape c.place.ensures.local ∙ ap₂ with_rule (options_end _ _ c.args.options.now c.loop-name.name-index (omega arith) c.loop-name.invariant) c.place.ensures.rule)
    c.arg-2.ensures

pub returns-clause-simple : goal.returns-clause-simple
returns-clause-simple c = IfOk-weaker c.arg-2.result _ _
    (λ r is. ap is_simple is ∙ simple_app c.args.name.now (map (λ o. o.now) c.args.options.now))
    (returns-clause-app c)

pub returns-clause-free : goal.returns-clause-free
returns-clause-free c = IfOk-weaker c.arg-2.result _ _
    (λ r is. ap is_simple_and_free is ∙ simple c.args.name.now (map (λ o. o.now) c.args.options.now))
    (returns-clause-app c)
