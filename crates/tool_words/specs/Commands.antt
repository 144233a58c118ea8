-- The commands of `clap` that read the words of the program. (This project's own.)
use Rattle.std.specs.Prelude.{List, Some, codes, true}
use Rattle.std.specs.List.{fold}
use Rattle.clap.specs.Words.{App, Rule, Text, new_app, new_rule, with_rule}
use Rattle.clap.specs.Simple.{on_top}
use Rattle.clap.specs.declared.builder.action.ArgAction.TheVariants.{Set, Append}

-- the id of the words that stand for themselves
abbrev pub place_id : Text
place_id = codes "word"

-- an option that takes one text, at most once
abbrev pub option_rule : Text → Rule
option_rule name = record (new_rule name) { long = Some name; action = Some Set }

-- any number of words that stand for themselves
abbrev pub place_rule : Rule
place_rule = record (new_rule place_id) { action = Some Append }

-- a command without any argument, `--help` included
abbrev pub bare_app : Text → App
bare_app name = on_top (λ s. record s { disable_help_flag = true }) (new_app name)

abbrev pub with_option : App → Text → App
with_option a name = with_rule a (option_rule name)

-- the command of a name, with options of these names
abbrev pub app : Text → List Text → App
app name options = with_rule (fold with_option (bare_app name) options) place_rule
