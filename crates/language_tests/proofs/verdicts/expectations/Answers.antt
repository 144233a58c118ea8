use Rattle.std.proofs.Common.{subst}
use Rattle.std.specs.Prelude.{Result, IfOk}
use Rattle.script_check.specs.Verdicts.{KeepsPatterns}
use Rattle.script_read.specs.declared.fault.ReadFault.{ReadFault}
use Rattle.script_read.specs.declared.script.Script.{Script}
use Rattle.language_tests.proofs.verdicts.expectations.Goals as goal

pub returns-in-Ok : goal.returns-in-Ok
returns-in-Ok c =
    let kept = c.read.new.searches in
    let keeps = c.scripts_keep_their_patterns.ensures c.read.result kept _ c.read.ensures.said in
    c.first_expectations.ensures kept (subst (λ (r : Result Script ReadFault). IfOk r (KeepsPatterns kept)) c.in-Ok.is keeps)
