-- A gather that isn't ready, and one that is.
use Rattle.std.proofs.Common.{◌≡◌, ◌∙◌, ℕ, suc, ◌+◌, ◌<◌, ◌≤◌, ◌^◌, Bool, true, false, List, [], ◌∷◌, ◌++◌, length, map, take, slice_get, refl, sym, ap, subst, arith, Some, length-append}
use Rattle.std.specs.Prelude.{is_some, ◌||◌}
use Rattle.std.specs.List.{list_any}
use Rattle.std.proofs.lemmas.Bool.{false≢true}
use Rattle.std.proofs.lemmas.List.{map-append}
use Rattle.op_gather.specs.Histories.{Gathering, QueueStands, Stands, is_ready, steps_at}
use Rattle.op_gather.specs.Joined.{AreInside, LendsJoined}
use Rattle.op_gather.specs.Laws.{RoomIsLeft}
use Rattle.op_gather.specs.Queues.{has_room}
use Rattle.op_gather.specs.declared.queue.Queue.{Queue}
use Rattle.promql_type.specs.Replacements.{Kept}
use Rattle.remote_api.specs.Seen.{AskSeen, EngineSeen}
use Rattle.remote_api.specs.declared.asks.Ask.{Ask}
use Rattle.step_batch.specs.Lent.{Lent}
use Rattle.step_batch.specs.LentWindows.{WindowsAt}
use Rattle.step_table.specs.declared.cells.PartKind.{PartKind}
use Rattle.step_table.specs.declared.cells.PartKind.TheVariants.{Windows}
use Rattle.step_table.specs.declared.cells.StepCells.{StepCells}
use Rattle.ticks.specs.declared.moment.Ms.{Ms}
use Rattle.exchange.specs.declared.place.Asking.{Asking}
use Rattle.exchange.specs.declared.place.Place.{Place}
use Rattle.exchange.specs.Calls.{Each, Grows}
use Rattle.exchange.specs.Laws.{NothingIsLeft}
use Rattle.exchange.specs.Standing.{AllTell, GivesSteps, Going, PlaceStands, Progress, Tells, gone_on}
use Rattle.exchange.proofs.Keeping.{ask_stays_refl, before_each}
use Rattle.exchange.proofs.Lists.{filter_all, filter_get, filter_same, front_get, get_within, same_at, take_one_more, within_get, zip_at, zip_length}
use Rattle.exchange.proofs.Turning.{as_many, place_kept}

-- ---- which engines have room

pub live_more : (qs : List Queue) (i : ℕ) (live new : List Bool) (b : Bool) → live ≡ map has_room (take i qs) → i < length qs → ((q : Queue) → slice_get qs i ≡ Some q → b ≡ has_room q) → new ≡ live ++ b ∷ [] → new ≡ map has_room (take (i + 1) qs)
live_more qs i live new b e l h f =
    let q = within_get qs i l in
    f ∙ (λ j. e j ++ h q.0 q.1 j ∷ []) ∙ sym (map-append has_room (take i qs) (q.0 ∷ [])) ∙ ap (map has_room) (take_one_more qs i q.0 q.1)

some_live : (qs : List Queue) → list_any has_room qs ≡ true → (i : ℕ) × (slice_get (map has_room qs) i ≡ Some true)
some_live [] e = absurd (false≢true e)
some_live (q ∷ qs) e = by (has_room q) refl e (λ f. some_live qs f)
  where
    by : (b : Bool) → has_room q ≡ b → (b || list_any has_room qs) ≡ true → (list_any has_room qs ≡ true → (i : ℕ) × (slice_get (map has_room qs) i ≡ Some true)) → (i : ℕ) × (slice_get (map has_room (q ∷ qs)) i ≡ Some true)
    by true h f rest = (0, ap Some h)
    by false h f rest = let r = rest f in (suc r.0, r.1)

pub live_there : (kept : Kept) (es : List EngineSeen) (place : Place) (p : Progress) → RoomIsLeft → PlaceStands kept es place p → Going p → is_ready place.gather ≡ false → (i : ℕ) × (slice_get (map has_room place.gather.queues) i ≡ Some true)
live_there kept es place p law s going e =
    let t = within_get p.all p.taken going in
    some_live place.gather.queues (law place.gather p.all s.dones p.taken t.0 s.stands (s.stands.next ∙ t.1) e)

pub as_few : (kept : Kept) (es : List EngineSeen) (place : Place) (p : Progress) → PlaceStands kept es place p → length place.gather.queues < 2 ^ 32
as_few kept es place p s = subst (λ n. n < 2 ^ 32) (as_many kept es place p s) s.few

pub never : (g h : Gathering) → g ≡ h → is_ready h ≡ true → is_ready g ≡ false → ⊥
never g h e r n = false≢true (sym n ∙ ap is_ready e ∙ r)

-- ---- a step that is taken

pub place_taken : (kept : Kept) (old new : Place) (es : List EngineSeen) (p : Progress) (s : PlaceStands kept es old p) → new.asks ≡ old.asks → new.gather.ask ≡ old.gather.ask → new.gather.spent ≡ false
    → Stands new.gather p.all s.dones (p.taken + 1) → PlaceStands kept es new (gone_on p)
place_taken kept old new es p s asks ask going stands = place_kept kept old new es es p (gone_on p) s asks ask going refl refl stands (λ k b at. ask_stays_refl b es)

some_is : {X : Type 0} (xs : List X) (n : ℕ) → n < length xs → is_some (slice_get xs n) ≡ true
some_is xs n l = let x = within_get xs n l in ap is_some x.1

-- where a step was taken, each engine had delivered it
module _ (kept : Kept) (es : List EngineSeen) (place : Place) (p : Progress) (s : PlaceStands kept es place p) (g : Gathering) (after : Stands g p.all s.dones (p.taken + 1)) where
  had : (k : ℕ) (done : List StepCells) → slice_get s.dones k ≡ Some done → p.taken < length done
  had k done d =
      let z : length s.dones ≡ length g.queues = zip_length (QueueStands p.all (p.taken + 1)) s.dones g.queues after.queues in
      let q = within_get g.queues k (subst (λ n. k < n) z (get_within s.dones k done d)) in
      let st = zip_at (QueueStands p.all (p.taken + 1)) s.dones g.queues k done q.0 after.queues d q.1 in
      let m : p.taken + 1 ≤ length done = st.behind in
      omega arith

  own_step : (k : ℕ) (a : Asking) (e : EngineSeen) (done owes : List StepCells) → slice_get place.asks k ≡ Some a → slice_get es a.engine ≡ Some e → Tells e → slice_get s.dones k ≡ Some done → slice_get p.owed k ≡ Some owes → slice_get done p.taken ≡ slice_get owes p.taken
  own_step k a e done owes at here tells d o =
      let x = s.asks k a done owes at d o in
      let same : x.0 ≡ e = same_at es a.engine x.0 e x.1 here in
      sym (front_get done x.2.one.left p.taken (had k done d)) ∙ ap (λ w. slice_get w p.taken) (x.2.told (ap (λ (z : EngineSeen). is_some z.holding) same ∙ tells))

  pub gives : GivesSteps es place.asks p (steps_at p.taken s.dones)
  gives = record {
    as_many = filter_all (λ (done : List StepCells). slice_get done p.taken) s.dones (λ k done d. some_is done p.taken (had k done d)) ∙ s.delivered;
    owed = λ k a e owes at here tells o.
        (let l : k < length s.dones = subst (λ n. k < n) (sym s.delivered) (get_within place.asks k a at) in
        let d = within_get s.dones k l in
        filter_get (λ (done : List StepCells). slice_get done p.taken) s.dones k d.0 (λ j done u. some_is done p.taken (had j done u)) d.1 ∙ own_step k a e d.0 owes at here tells d.1 o);
  }

  pub told_steps : AllTell place.asks es → steps_at p.taken s.dones ≡ steps_at p.taken p.owed
  told_steps tell =
      filter_same (λ (done : List StepCells). slice_get done p.taken) s.dones p.owed (s.delivered ∙ sym s.owing)
      (λ k done owes d o.
      let a = within_get place.asks k (subst (λ n. k < n) s.delivered (get_within s.dones k done d)) in
      let x = s.asks k a.0 done owes a.1 d o in
      own_step k a.0 x.0 done owes a.1 x.1 (tell k a.0 x.0 a.1 x.1) d o)

-- engines that tell do so later on, and told so before
pub still_tell : (asks : List Asking) (es fs : List EngineSeen) → length fs ≡ length es → Each Grows es fs → AllTell asks es → AllTell asks fs
still_tell asks es fs l g tell k a f at here =
    let y = before_each Grows es fs a.engine f l g here in
    ap is_some y.2.holding ∙ tell k a y.0 at y.1

pub gives_before : (asks new : List Asking) (es fs : List EngineSeen) (p : Progress) (steps : List StepCells) → new ≡ asks → Each Grows es fs → GivesSteps fs new p steps → GivesSteps es asks p steps
gives_before asks new es fs p steps same grown g = record {
  as_many = g.as_many ∙ ap length same;
  owed = λ k a e owes at here tells o.
      (let y = grown a.engine e here in
      g.owed k a y.0 owes (ap (λ l. slice_get l k) same ∙ at) y.1 (ap is_some y.2.holding ∙ tells) o);
}

-- ---- nothing is left

no_more : {X : Type 0} (xs : List X) → length xs ≤ 0 → xs ≡ []
no_more [] l = refl
no_more (x ∷ xs) l = absurd (omega arith)

pub nothing_left : NothingIsLeft
nothing_left kept es place p k a e one owes s end at here tells one_at owes_at long =
    let d = within_get s.dones k (subst (λ n. k < n) (sym s.delivered) (get_within place.asks k a at)) in
    let x = s.asks k a d.0 owes at d.1 owes_at in
    let same : x.0 ≡ e = same_at es a.engine x.0 e x.1 here in
    let one_same : x.2.one ≡ one = same_at e.asks a.place x.2.one one (subst (λ (z : EngineSeen). slice_get z.asks a.place ≡ Some x.2.one) same x.2.here) one_at in
    let q = within_get place.gather.queues k (subst (λ n. k < n) (zip_length (QueueStands p.all p.taken) s.dones place.gather.queues s.stands.queues) (get_within s.dones k d.0 d.1)) in
    let st = zip_at (QueueStands p.all p.taken) s.dones place.gather.queues k d.0 q.0 s.stands.queues d.1 q.1 in
    let b : p.taken ≤ length d.0 = st.behind in
    let t : length (d.0 ++ x.2.one.left) ≡ length owes = ap length (x.2.told (ap (λ (z : EngineSeen). is_some z.holding) same ∙ tells)) in
    let m : length (d.0 ++ x.2.one.left) ≡ length d.0 + length x.2.one.left = length-append d.0 x.2.one.left in
    ap (λ (z : AskSeen). z.left) (sym one_same) ∙ no_more x.2.one.left (omega arith)

-- ---- turns that keep the patterns

pub turned : (k l : Kept) (es fs : List EngineSeen) (x y : Place) (p : Progress) → l ≡ k → (PlaceStands l es x p → PlaceStands l fs y p) → PlaceStands k es x p → PlaceStands k fs y p
turned k l es fs x y p e h s = subst (λ z. PlaceStands z fs y p) e (h (subst (λ z. PlaceStands z es x p) (sym e) s))

-- ---- what is lent

pub lends : (kind like : PartKind) (t : Ms) (steps : List StepCells) (lent : Lent) (windows : WindowsAt) → kind ≡ like → LendsJoined kind t steps lent windows → LendsJoined like t steps lent windows
lends kind like t steps lent windows e h = subst (λ k. LendsJoined k t steps lent windows) e h

pub lends_told : (kind like : PartKind) (t : Ms) (steps told : List StepCells) (lent : Lent) (windows : WindowsAt) → kind ≡ like → steps ≡ told → LendsJoined kind t steps lent windows → LendsJoined like t told lent windows
lends_told kind like t steps told lent windows e f h = subst (λ l. LendsJoined like t l lent windows) f (lends kind like t steps lent windows e h)

pub inside_after : (old new : Ask) (windows : WindowsAt) → new ≡ old → (old.kind ≡ Windows → AreInside old windows) → new.kind ≡ Windows → AreInside new windows
inside_after old new windows e h k = subst (λ (z : Ask). AreInside z windows) (sym e) (h (ap (λ (z : Ask). z.kind) (sym e) ∙ k))

pub all_tell : (asks new : List Asking) (es : List EngineSeen) → new ≡ asks → AllTell asks es → AllTell new es
all_tell asks new es e h = subst (λ l. AllTell l es) (sym e) h

pub same_stands : (k l : Kept) (es : List EngineSeen) (x : Place) (p : Progress) → l ≡ k → PlaceStands k es x p → PlaceStands l es x p
same_stands k l es x p e s = subst (λ z. PlaceStands z es x p) (sym e) s
