use Rattle.std.proofs.Common.{refl}
use Rattle.promql_parts.proofs.Patterning.{no_string}
use Rattle.promql_parts.specs.Patterned.Becomes.{same, other, pattern}
use Rattle.promql_parts.proofs.pattern.with_pattern.Goals as goal

pub returns-then-not-behind-clause-becomes : goal.returns-then-not-behind-clause-becomes
returns-then-not-behind-clause-becomes c = same c.args.lexeme c.if-not-behind.true

pub returns-in_ok-kind-in-Quoted-clause-becomes : goal.returns-in_ok-kind-in-Quoted-clause-becomes
returns-in_ok-kind-in-Quoted-clause-becomes c = pattern c.args.lexeme _ _ _ c.if-not-behind.false c.in-Quoted.is refl c.in_ok-kind-in-Quoted.ensures.pattern

pub returns-in_default-clause-becomes : goal.returns-in_default-clause-becomes
returns-in_default-clause-becomes c = other c.args.lexeme (no_string c.args.lexeme.kind c.in_default.not-Quoted)
