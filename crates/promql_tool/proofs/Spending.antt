-- What files and queries spend.
use Rattle.std.proofs.Common.{◌≡◌, ℕ, List, [], Option, Some, Result, Ok, Err, IfErr, IfOk, refl, subst, sym}
use Rattle.query_engine.specs.Bounds.{Spends}
use Rattle.query_engine.specs.Planning.{choices_of}
use Rattle.query_engine.specs.declared.options.Options.{Options}
use Rattle.sample_store.specs.Samples.{AllSeries}
use Rattle.script_read.specs.Outcomes.{PatternList}
use Rattle.script_read.specs.declared.script.Script.{Script}
use Rattle.test_runner.specs.Loads.{samples_left}
use Rattle.test_runner.specs.Spending.{CommandsSpend}
use Rattle.test_runner.specs.declared.fault.RunnerFault.{RunnerFault}
use Rattle.ticks.specs.Works.{Counts}
use Rattle.ticks.specs.declared.grid.Grid.{Grid}
use Rattle.promql_tool.specs.Found.{Just}
use Rattle.promql_tool.specs.Reading.{IsReadAs}
use Rattle.promql_tool.specs.Spending.{FileSpends, QuerySpends, no_answer, no_file, of_answer, of_script}

-- bytes that hold a script spend what it does
pub script_spends : (options : Options) (kept : PatternList) (bytes : List ℕ) (script : Script) (path : List ℕ) (before after : Counts) → IsReadAs kept bytes (Ok script)
    → CommandsSpend options [] script.commands before after → FileSpends options (Just bytes) path before after
script_spends options kept bytes script path before after is_read spends = of_script bytes kept script refl is_read spends

-- where the loads of the script are refused, a query over the bytes spends nothing
query_spends : (options : Options) (kept : PatternList) (bytes : List ℕ) (script : Script) (path expr : List ℕ) (grid : Grid) (before after : Counts) (left : Result AllSeries RunnerFault) → IsReadAs kept bytes (Ok script)
    → samples_left [] script ≡ left → IfErr left (λ _. after ≡ before) → IfOk left (λ series. Spends expr series grid (choices_of options) options.closed before after)
    → QuerySpends options (Just bytes) path expr grid before after
query_spends options kept bytes script path expr grid before after (Ok series) is_read is idle spends = of_answer bytes kept script series refl is_read is spends
query_spends options kept bytes script path expr grid before after (Err fault) is_read is idle spends = no_answer idle

pub script_asked : (options : Options) (kept : PatternList) (bytes : List ℕ) (script : Script) (path expr : List ℕ) (grid : Grid) (before after : Counts) → IsReadAs kept bytes (Ok script)
    → IfErr (samples_left [] script) (λ _. after ≡ before) → IfOk (samples_left [] script) (λ series. Spends expr series grid (choices_of options) options.closed before after)
    → QuerySpends options (Just bytes) path expr grid before after
script_asked options kept bytes script path expr grid before after is_read idle spends = query_spends options kept bytes script path expr grid before after (samples_left [] script) is_read refl idle spends

module _ (options : Options) (f g : List ℕ → Option (List ℕ) → Type 0) (path : List ℕ) (to : (x : Option (List ℕ)) → f path x → g path x) (before after : Counts) where
  -- what a fetch finds in one sense it finds in another
  pub file_so : FileSpends options f path before after → FileSpends options g path before after
  file_so (no_file same) = no_file same
  file_so (of_script bytes kept script is_found is_read spends) = of_script bytes kept script (to (Some bytes) is_found) is_read spends

  pub query_so : (expr : List ℕ) (grid : Grid) → QuerySpends options f path expr grid before after → QuerySpends options g path expr grid before after
  query_so expr grid (no_answer same) = no_answer same
  query_so expr grid (of_answer bytes kept script series is_found is_read is spends) = of_answer bytes kept script series (to (Some bytes) is_found) is_read is spends

-- these bytes alone are found
found_alone : (found : List ℕ → Option (List ℕ) → Type 0) (path bytes : List ℕ) → found path (Some bytes) → (x : Option (List ℕ)) → Just bytes path x → found path x
found_alone found path bytes is_found x is = subst (λ (o : Option (List ℕ)). found path o) (sym is) is_found

-- so a file spends what its bytes do
pub bytes_spend : (options : Options) (found : List ℕ → Option (List ℕ) → Type 0) (path bytes : List ℕ) (before after : Counts) → found path (Some bytes) → FileSpends options (Just bytes) path before after
    → FileSpends options found path before after
bytes_spend options found path bytes before after is_found spends = file_so options (Just bytes) found path (found_alone found path bytes is_found) before after spends

pub bytes_asked : (options : Options) (found : List ℕ → Option (List ℕ) → Type 0) (path bytes expr : List ℕ) (grid : Grid) (before after : Counts) → found path (Some bytes)
    → QuerySpends options (Just bytes) path expr grid before after → QuerySpends options found path expr grid before after
bytes_asked options found path bytes expr grid before after is_found spends = query_so options (Just bytes) found path (found_alone found path bytes is_found) before after expr grid spends
