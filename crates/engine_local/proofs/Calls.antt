-- What the calls that ask nothing make of what is seen of the engine.
use Rattle.std.proofs.Common.{◌≡◌, false, List, [], ◌∷◌, map, refl, Some, Ok, Err, arith}
use Rattle.std.specs.Prelude.{IsErrOf}
use Rattle.remote_api.specs.Seen.{HasDeclared, HasFaults, HasLoaded, IsBegun, IsCleared}
use Rattle.remote_api.specs.declared.engine.EngineFail.{EngineFail}
use Rattle.remote_api.specs.declared.engine.EngineFail.TheVariants as fail
use Rattle.sample_store.specs.Samples.{with_sample}
use Rattle.step_table.specs.Groups.{Names}
use Rattle.promql_meaning.specs.Selecting.{AllSeries}
use Rattle.ticks.specs.declared.moment.Ms.{Ms}
use Rattle.xfrac.specs.declared.value.Held.{Held}
use Rattle.engine_local.specs.Local.{Local, seen_ask, seen_of}
use Rattle.engine_local.specs.declared.own.OwnAsk.{OwnAsk}

-- ---- the engine never fails

pub no_faults : (P : Type 0) (old new : Local) → (P → ⊥) → HasFaults P (seen_of old) (seen_of new)
no_faults P old new never = record {
  tells = refl;
  cause = record { later = omega arith; rose = λ p. absurd (never p) };
  sound = λ s. s;
  never = λ _ p. never p;
}

-- want of memory is no fault, and what is done neither
pub no_failure : {T : Type 0} → IsErrOf {T = T} (Err fail.Memory) fail.Failed → ⊥
no_failure h = absurd (cc)

pub no_error : {T : Type 0} (x : T) (e : EngineFail) → IsErrOf (Ok x) e → ⊥
no_error x e h = absurd (cc)

-- ---- labels

pub declared : (e : Local) (labels : Names) → HasDeclared labels (Ok tt) (seen_of e) (seen_of (record e { declared = Some labels }))
declared e labels = record {
  faults = no_faults _ e (record e { declared = Some labels }) (no_error tt fail.Failed);
  declared = refl;
  unchanged = tt;
  asks = record { asks = refl; spent = refl };
  strays = record { strays = refl; stray = refl };
}

pub undeclared : (e : Local) (labels : Names) → HasDeclared labels (Err fail.Memory) (seen_of e) (seen_of e)
undeclared e labels = record {
  faults = no_faults _ e e no_failure;
  declared = tt;
  unchanged = refl;
  asks = record { asks = refl; spent = refl };
  strays = record { strays = refl; stray = refl };
}

-- ---- samples

-- where there is no ask, other samples change none
same_asks : (samples others : AllSeries) (asks : List OwnAsk) → map (seen_ask samples) asks ≡ [] → map (seen_ask others) asks ≡ map (seen_ask samples) asks
same_asks samples others [] none = refl
same_asks samples others (one ∷ asks) none = absurd (cc)

-- the engine with other samples
abbrev pub with_samples : AllSeries → Local → Local
with_samples samples e = record e { samples = samples }

pub loaded : (e : Local) (labels : Names) (at : Ms) (held : Held) → (seen_of e).asks ≡ []
    → HasLoaded labels at held (Ok tt) (seen_of e) (seen_of (with_samples (with_sample e.samples labels at held) e))
loaded e labels at held none = record {
  faults = no_faults _ e (with_samples (with_sample e.samples labels at held) e) (no_error tt fail.Failed);
  loaded = refl;
  unchanged = tt;
  asks = record { asks = same_asks e.samples (with_sample e.samples labels at held) e.asks none; spent = refl };
  strays = record { strays = refl; stray = refl };
}

pub unloaded : (e : Local) (labels : Names) (at : Ms) (held : Held) → HasLoaded labels at held (Err fail.Memory) (seen_of e) (seen_of e)
unloaded e labels at held = record {
  faults = no_faults _ e e no_failure;
  loaded = tt;
  unchanged = refl;
  asks = record { asks = refl; spent = refl };
  strays = record { strays = refl; stray = refl };
}

pub emptied : (e : Local) → (seen_of e).asks ≡ [] → IsCleared (seen_of e) (seen_of (with_samples [] e))
emptied e none = record {
  faults = no_faults ⊥ e (with_samples [] e) (λ p. p);
  holding = refl;
  asks = record { asks = same_asks e.samples [] e.asks none; spent = refl };
  strays = record { strays = refl; stray = refl };
}

-- ---- asks

pub begun : (e : Local) → IsBegun (seen_of e) (seen_of (record e { asks = []; spent = false }))
begun e = record {
  faults = no_faults ⊥ e (record e { asks = []; spent = false }) (λ p. p);
  holding = refl;
  forgotten = refl;
  going = refl;
  strays = record { strays = refl; stray = refl };
}
