-- The gather that a leaf reads, an instant further.
use Rattle.std.proofs.Common.{◌≡◌, ◌∙◌, ℕ, ◌+◌, List, [], ◌∷◌, slice_get, Option, None, Some, refl, sym, ap, subst}
use Rattle.exchange.specs.declared.place.Place.{Place}
use Rattle.op_labels.specs.Rules.{Kept}
use Rattle.remote_api.specs.Seen.{EngineSeen}
use Rattle.remote_api.specs.declared.asks.Ask.{Ask}
use Rattle.ticks.specs.declared.moment.Ms.{Ms}
use Rattle.plan_tree.specs.declared.turns.Fed.{Fed}
use Rattle.plan_tree.specs.Feeds.{fed_on}
use Rattle.plan_tree.specs.Gathering.{AreDue, CanTake, HasCome, HasTaken, Instants, IsFedUpTo, IsOut}
use Rattle.plan_tree.specs.Worlds.{Gathers, Taken}

-- so many were fed once the one at a place is
up_to_next : (times : List Ms) (n : ℕ) (fed : Option Fed) (t : Ms) (at : List Ms) → at ≡ t ∷ [] → slice_get times n ≡ Some t → IsFedUpTo times (n + 1) (fed_on fed at)
up_to_next times n fed t at one e = subst (λ (ts : List Ms). IsFedUpTo times (n + 1) (fed_on fed ts)) (sym one) (by fed)
  where
    by : (fed : Option Fed) → IsFedUpTo times (n + 1) (fed_on fed (t ∷ []))
    by None = (n, refl, e)
    by (Some f) = (n, refl, e)

module _ (Asks : Ask → Type 0) (kept : Kept) (es : List EngineSeen) (places mid : List Place) (k : ℕ) (all : Instants) (known : Option Gathers) (taken : Taken) (times : List Ms) (fed : Option Fed) (at : List Ms) (u : Ms) (one : at ≡ u ∷ []) (come : HasCome Asks all places times fed k) where
  -- its next instant is due, though others have gone on meanwhile
  abbrev pub next_takes : slice_get mid k ≡ slice_get places k → IsOut all known taken kept es mid → AreDue times fed at → CanTake kept es mid k u
  next_takes same out due = record {
    all = all;
    known = known;
    taken = taken;
    out = out;
    place = come.place;
    here = same ∙ come.here;
    next = come.next ∙ subst (λ (ts : List Ms). AreDue times fed ts) one due come.count come.fed_are;
  }

  -- it has come to that instant
  pub come_next : (now : List Place) (fs : List EngineSeen) → HasTaken come.place taken all known kept fs now k u → HasCome Asks all now times (fed_on fed at) k
  come_next now fs h = record {
    along = come.along;
    place = h.place;
    here = h.here;
    asks = subst Asks (sym h.asks) come.asks;
    count = h.n + 1;
    fed_are = up_to_next times h.n fed u at one (ap (λ ts. slice_get ts h.n) (sym come.along) ∙ h.at);
    next = h.next ∙ ap (λ ts. slice_get ts (h.n + 1)) come.along;
  }

-- what is made of one that may be taken from
abbrev pub Takes : (kept : Kept) (es fs : List EngineSeen) (places now : List Place) (k : ℕ) (u : Ms) → Type 0
Takes kept es fs places now k u = (c : CanTake kept es places k u) → HasTaken c.place c.taken c.all c.known kept fs now k u

pub takes_as : (kept was : Kept) (es fs : List EngineSeen) (places now : List Place) (k : ℕ) (u : Ms) → was ≡ kept → Takes was es fs places now k u → Takes kept es fs places now k u
takes_as kept was es fs places now k u same h = subst (λ (x : Kept). Takes x es fs places now k u) same h
