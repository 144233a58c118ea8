-- What loads make of an engine of which nothing was asked.
use Rattle.std.proofs.Common.{◌≡◌, ◌∙◌, List, [], ◌∷◌, map, refl, sym, ap, subst, Some, None, Ok, Err}
use Rattle.std.specs.Prelude.{Option, IfSome, MatchOption, IsOkUnless, Result, ⊤}
use Rattle.remote_api.specs.Seen.{HasLabels, HasLoaded, Holding, MayLoad}
use Rattle.engine_local.specs.Local.{Local, seen_ask, seen_of}
use Rattle.promql_meaning.specs.Selecting.{AllSeries}
use Rattle.sample_store.specs.Samples.{refusal_of, with_sample}
use Rattle.sample_store.specs.declared.refusal.StoreRefusal.{StoreRefusal}
use Rattle.step_table.specs.Groups.{Names}
use Rattle.ticks.specs.declared.moment.Ms.{Ms}
use Rattle.xfrac.specs.declared.value.Held.{Held}
use Rattle.written_engines.specs.Loading.{IsLoading}

none_mapped : {X Y : Type 0} (f : X → Y) (xs : List X) → map f xs ≡ [] → xs ≡ []
none_mapped f [] e = refl
none_mapped f (x ∷ xs) e = absurd (cc)

same_some : {X : Type 0} (x y : X) → Some x ≡ Some y → x ≡ y
same_some x y e = cc

still_unasked : (e f : Local) → (seen_of f).asks ≡ (seen_of e).asks → e.asks ≡ [] → f.asks ≡ []
still_unasked e f same none = none_mapped (seen_ask f.samples) f.asks (same ∙ ap (map (seen_ask e.samples)) none)

-- one that is new
pub fresh : (samples : AllSeries) (e : Local) → samples ≡ [] → e.samples ≡ [] → e.declared ≡ None → e.asks ≡ [] → IsLoading samples e
fresh samples e none empty undeclared unasked = record { unasked = unasked; undeclared = undeclared; samples_are = empty ∙ sym none }

-- a store that took a sample didn't refuse it
pub not_refused : (o : Option StoreRefusal) (r : Result ⊤ StoreRefusal) (other : StoreRefusal) → r ≡ Ok tt → MatchOption o (IsOkUnless r other) (λ e. r ≡ Err e) → o ≡ None
not_refused None r other is h = refl
not_refused (Some e) r other is h = absurd (cc)

pub may_load : (names : Names) (at : Ms) (held : Held) (samples : AllSeries) (e : Local) → IsLoading samples e → refusal_of samples names at held ≡ None → MayLoad names at held (seen_of e)
may_load names at held samples e l taken = record {
  unasked = ap (map (seen_ask e.samples)) l.unasked;
  declared = subst (λ (o : Option Names). IfSome o (λ declared. HasLabels declared names)) (sym l.undeclared) tt;
  taken = ap (λ (s : AllSeries). refusal_of s names at held) l.samples_are ∙ taken;
}

pub loaded : (names : Names) (at : Ms) (held : Held) (samples others : AllSeries) (e f : Local) → IsLoading samples e → HasLoaded names at held (Ok tt) (seen_of e) (seen_of f)
    → others ≡ with_sample samples names at held → IsLoading others f
loaded names at held samples others e f l h put =
    let is = same_some _ _ h.loaded in
    record {
      unasked = still_unasked e f h.asks.asks l.unasked;
      undeclared = ap (λ (g : Holding). g.declared) is ∙ l.undeclared;
      samples_are = ap (λ (g : Holding). g.samples) is ∙ (ap (λ (s : AllSeries). with_sample s names at held) l.samples_are ∙ sym put);
    }
