-- Gathers that may be those of the engines.
use Rattle.std.proofs.Common.{◌≡◌, List, refl, Option, None, Some}
use Rattle.std.specs.Prelude.{ℤ}
use Rattle.std.specs.List.Sorted.{IsStrictlySortedBy}
use Rattle.exchange.specs.declared.place.Place.{Place}
use Rattle.op_labels.specs.Rules.{Kept}
use Rattle.promql_meaning.specs.Givens.{no_marks}
use Rattle.remote_api.specs.Seen.{EngineSeen}
use Rattle.step_table.specs.WellFormed.{AreSets}
use Rattle.plan_tree.specs.Gathering.{Instants, IsOut}
use Rattle.plan_tree.specs.Worlds.{ArePossible, Gathered, Gathers, HasSets, IsGrown, Taken, none_given}

no_sets : AreSets no_marks
unfolding IsStrictlySortedBy
no_sets = record { fatal = tt; notes = tt }

or_nothing : ℤ → Option Gathered → Gathered
or_nothing t None = none_given t
or_nothing t (Some given) = given

-- gathers that give what was taken, and else nothing
pub completed : Taken → Gathers
completed taken place t = or_nothing t (taken place t)

some_given : (t : ℤ) (o : Option Gathered) (given : Gathered) → o ≡ Some given → or_nothing t o ≡ given
unfolding or_nothing
some_given t None given e = absurd (cc)
some_given t (Some g) given e = cc

sets_given : (t : ℤ) (o : Option Gathered) → ((given : Gathered) → o ≡ Some given → HasSets given) → HasSets (or_nothing t o)
unfolding or_nothing
sets_given t None h = record { step = no_sets; windows = no_sets }
sets_given t (Some g) h = h g refl

module _ (all : Instants) (known : Option Gathers) (taken : Taken) (kept : Kept) (es : List EngineSeen) (places : List Place) where
  pub completed_are : IsOut all known taken kept es places → ArePossible taken (completed taken)
  unfolding completed
  completed_are out = record {
    gave = λ place t given e. some_given t (taken place t) given e;
    sets = λ place t. sets_given t (taken place t) (λ given e. (out.were place t given e).sets);
  }

pub possible_before : (before now : Taken) (gathers : Gathers) → IsGrown before now → ArePossible now gathers → ArePossible before gathers
possible_before before now gathers g p = record { gave = λ place t given e. p.gave place t given (g place t given e); sets = p.sets }

pub grown_then : (a b c : Taken) → IsGrown a b → IsGrown b c → IsGrown a c
grown_then a b c g h place t given e = h place t given (g place t given e)

pub grown_none : (a : Taken) → IsGrown a a
grown_none a place t given e = e
