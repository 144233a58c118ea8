use Rattle.std.proofs.Common.{sym}
use Rattle.std.proofs.lemmas.List.{drop_all}
use Rattle.std.proofs.lemmas.Option.{IfSome_then}
use Rattle.script_check.proofs.pieces.behind_quoted.Goals as goal

pub returns : goal.returns
returns c = IfSome_then c.behind-2.result c.behind-2.ensures (λ rest is. sym (c.loop-byte.invariant rest.now (rw (drop_all c.loop-byte.byte-index c.args.plain.now c.loop-byte-test.false) (sym is))))
