-- What evaluations and commands spend.
use Rattle.std.proofs.Common.{◌≡◌, ℕ, List, [], ◌∷◌, Result, Ok, Err, IfOk, ap, refl, subst, sym}
use Rattle.query_engine.specs.Bounds.{Spends, nothing}
use Rattle.query_engine.specs.Planning.{choices_of}
use Rattle.query_engine.specs.declared.options.Options.{Options}
use Rattle.sample_store.specs.Samples.{AllSeries}
use Rattle.script_read.specs.declared.script.Command.{Command}
use Rattle.script_read.specs.declared.script.What.{What}
use Rattle.script_read.specs.declared.script.What.TheVariants.{Clear, Load, Eval}
use Rattle.ticks.specs.Works.{Counts}
use Rattle.ticks.specs.declared.grid.Grid.{Grid}
use Rattle.test_runner.specs.Loads.{left_by}
use Rattle.test_runner.specs.Spending.{CommandSpends, CommandsSpend, ended, further}
use Rattle.test_runner.specs.Verdicts.{IsNoEvaluation}
use Rattle.test_runner.specs.declared.fault.RunnerFault.{RunnerFault}

-- a batch changes no plan
pub with_batch : (text given : List ℕ) (series : AllSeries) (grid : Grid) (options lowered : Options) (batch : ℕ) (before after : Counts) → given ≡ text → lowered ≡ record options { batch = batch }
    → Spends given series grid (choices_of lowered) lowered.closed before after → Spends text series grid (choices_of options) options.closed before after
with_batch text given series grid options lowered batch before after same is spends =
    subst (λ (t : List ℕ). Spends t series grid (choices_of options) options.closed before after) same
    (subst (λ (o : Options). Spends given series grid (choices_of o) o.closed before after) is spends)

-- a command that is no evaluation
pub change_spends : (options : Options) (series : AllSeries) (what : What) (now : Counts) → IsNoEvaluation what → CommandSpends options series what now now
change_spends options series Clear now none = refl
change_spends options series (Load interval lines) now none = refl
change_spends options series (Eval grid instant text expected) now none = absurd none

-- one that is an evaluation
pub evaluation_spends : (options : Options) (series : AllSeries) (what : What) (asked : What) (before after : Counts) → what ≡ asked → CommandSpends options series asked before after → CommandSpends options series what before after
evaluation_spends options series what asked before after is spends = subst (λ (w : What). CommandSpends options series w before after) (sym is) spends

-- where a command is cut off, so are those behind it
cut_as : (options : Options) (series : AllSeries) (command : Command) (commands : List Command) (what : What) (before after : Counts) → command.what ≡ what → CommandSpends options series what before after
    → CommandsSpend options series (command ∷ commands) before after
cut_as options series command commands Clear before after is same = subst (λ (now : Counts). CommandsSpend options series (command ∷ commands) before now) (sym same) (ended series (command ∷ commands) before)
cut_as options series command commands (Load interval lines) before after is same =
    subst (λ (now : Counts). CommandsSpend options series (command ∷ commands) before now) (sym same) (ended series (command ∷ commands) before)
cut_as options series command commands (Eval grid instant text expected) before after is spends =
    further series series command commands before after after (evaluation_spends options series command.what (Eval grid instant text expected) before after is spends)
    (ap (λ (w : What). left_by [] w series) is) (ended series commands after)

pub cut_there : (options : Options) (series : AllSeries) (command : Command) (commands : List Command) (before after : Counts) → CommandSpends options series command.what before after
    → CommandsSpend options series (command ∷ commands) before after
cut_there options series command commands before after spends = cut_as options series command commands command.what before after refl spends

-- nothing is spent over what loads leave, if they aren't refused
pub nothing_over : (left : Result AllSeries RunnerFault) (text : List ℕ) (grid : Grid) (options : Options) (now : Counts) → IfOk left (λ series. Spends text series grid (choices_of options) options.closed now now)
nothing_over (Ok series) text grid options now = nothing refl
nothing_over (Err fault) text grid options now = tt

-- what is spent over the series that they leave
pub spent_over : (left : Result AllSeries RunnerFault) (series : AllSeries) (text : List ℕ) (grid : Grid) (options : Options) (before after : Counts) → left ≡ Ok series
    → Spends text series grid (choices_of options) options.closed before after → IfOk left (λ s. Spends text s grid (choices_of options) options.closed before after)
spent_over left series text grid options before after is spends =
    subst (λ (r : Result AllSeries RunnerFault). IfOk r (λ s. Spends text s grid (choices_of options) options.closed before after)) (sym is) spends
