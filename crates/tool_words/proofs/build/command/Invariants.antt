use Rattle.std.specs.Prelude.{◌≡◌, map}
use Rattle.std.specs.List.{fold}
use Rattle.std.proofs.Common.{drop}
use Rattle.clap.specs.Words.{app_of}
use Rattle.tool_words.specs.Commands.{bare_app, with_option}
use Rattle.tool_words.proofs.build.command.Given as goal

abbrev pub invariant-loop-name : goal.invariant-loop-name
invariant-loop-name l = fold with_option (app_of l.command) (drop l.name-index (map (λ o. o.now) l.options)) ≡ fold with_option (bare_app l.fn.name) (map (λ o. o.now) l.options)
