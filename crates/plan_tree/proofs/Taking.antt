-- An instant more is taken of a gather.
use Rattle.std.proofs.Common.{◌≡◌, ◌∙◌, ℕ, ◌+◌, ◌<◌, ◌⊎◌, ⊎_elim, inl, inr, Bool, true, List, [], ◌∷◌, length, slice_get, slice_set, refl, sym, ap, subst, arith, Some, None}
use Rattle.std.specs.Prelude.{ℤ, ◌<ℤ◌, ◌&&◌, ◌==◌, Ok, Err, Option, Result, OnOk, IfSome, if◌then◌else◌}
use Rattle.std.specs.Bool.{Decides}
use Rattle.std.specs.Ordering.{int_eq}
use Rattle.std.proofs.lemmas.Bool.{cases_eq}
use Rattle.std.proofs.lemmas.Bool.Decides.{Decides-and, Decides-eqb, Decides-int_eq}
use Rattle.std.proofs.lemmas.Int.{ints}
use Rattle.std.proofs.lemmas.List.{length-set}
use Rattle.exchange.specs.Calls.{Each, Grows}
use Rattle.exchange.specs.Standing.{AllStand, AllTell, GivesSteps, LendsAt, MayAdvance, PlaceStands, Progress, gone_on}
use Rattle.exchange.specs.declared.place.Place.{Place}
use Rattle.op_gather.specs.Histories.{steps_at}
use Rattle.op_gather.specs.Joined.{AreInside, LendsJoined}
use Rattle.op_labels.specs.Rules.{Kept}
use Rattle.remote_api.specs.Seen.{EngineSeen}
use Rattle.step_table.specs.Laws.{SettledIsWellFormed, TakenHasSets, UnionIsSet}
use Rattle.step_table.specs.declared.cells.PartKind.{PartKind}
use Rattle.step_table.specs.declared.cells.PartKind.TheVariants as part
use Rattle.step_table.specs.declared.cells.StepCells.{StepCells}
use Rattle.ticks.specs.Listed.{AreRising}
use Rattle.ticks.specs.declared.moment.Ms.{Ms}
use Rattle.plan_tree.specs.Gathering.{CanTake, HasTaken, Instants, IsOut, IsTold, LendsGiven, WasTaken, joined_of}
use Rattle.plan_tree.specs.Worlds.{Gathered, Gathers, HasSets, IsGrown, Taken}
use Rattle.plan_tree.proofs.Joins.{joined_are_sets, joined_same, lends_given, windows_there}
use Rattle.plan_tree.proofs.Numbers.{get_set_other, get_set_same, get_within, pick_cases, pick_here, pick_not, rises_at, same_at, some_same, within_get}
use Rattle.plan_tree.proofs.Runs.{tell_on}

-- ---- one instant more

abbrev is_this : ℕ → ℤ → ℕ → ℤ → Bool
is_this k t j u = (j == k) && int_eq u t

-- what a gather gives at an instant, beside what was taken
abbrev pub with_given : Taken → ℕ → ℤ → Gathered → Taken
with_given taken k t given j u = if is_this k t j u then Some given else taken j u

this : (k : ℕ) (t : ℤ) (j : ℕ) (u : ℤ) → Decides (is_this k t j u) ((j ≡ k) × (u ≡ t))
this k t j u = Decides-and (j == k) (int_eq u t) (Decides-eqb j k) (Decides-int_eq u t)

module _ (taken : Taken) (k : ℕ) (t : ℤ) (given : Gathered) where
  given_here : with_given taken k t given k t ≡ Some given
  given_here = pick_here (is_this k t k t) (Some given) (taken k t) (this k t k t) (refl, refl)

  given_cases : (j : ℕ) (u : ℤ) (other : Gathered) → with_given taken k t given j u ≡ Some other → (((j ≡ k) × (u ≡ t)) × (given ≡ other)) ⊎ (taken j u ≡ Some other)
  given_cases j u other e = pick_cases (is_this k t j u) given other (taken j u) (this k t j u) e

  given_grown : ((other : Gathered) → taken k t ≡ Some other → ⊥) → IsGrown taken (with_given taken k t given)
  given_grown fresh j u other e =
      pick_not (is_this k t j u) (Some given) (taken j u) (this k t j u) (λ (a, b). fresh other ((λ i. taken (sym a i) (sym b i)) ∙ e)) ∙ e

-- what stands at a place of a list in which one item was written
set_cases : {X : Type 0} (xs : List X) (i j : ℕ) (w x : X) → i < length xs → slice_get (slice_set xs i w) j ≡ Some x → ((j ≡ i) × (w ≡ x)) ⊎ (slice_get xs j ≡ Some x)
set_cases xs i j w x l at = ⊎_elim
    (λ e. inl (e, some_same w x (sym (get_set_same xs i w l) ∙ ap (slice_get (slice_set xs i w)) (sym e) ∙ at)))
    (λ n. inr (sym (get_set_other xs i j w n) ∙ at))
    (cases_eq j i)

-- ---- before

module _ (kept : Kept) (es : List EngineSeen) (places : List Place) (k : ℕ) (t : Ms) (c : CanTake kept es places k t) where
  has_progress : (p : Progress) × (slice_get c.out.ps k ≡ Some p)
  has_progress = within_get c.out.ps k (subst (λ n. k < n) (sym c.out.stand.as_many) (get_within places k c.place c.here))

  is_due : (p : Progress) → slice_get c.out.ps k ≡ Some p → slice_get p.all p.taken ≡ Some t
  is_due p at = sym (c.out.stand.stand k c.place p c.here at).stands.next ∙ c.next

  pub may_take : MayAdvance k kept es places
  may_take =
      let at = has_progress in
      record { ps = c.out.ps; all = c.out.stand; p = at.0; p_at = at.1; going = get_within at.0.all at.0.taken t (is_due at.0 at.1) }

-- ---- afterwards

-- nothing was taken yet at an instant that is to come
is_fresh : (ps : List Progress) (k : ℕ) (p : Progress) (t : Ms) (given : Gathered) → slice_get ps k ≡ Some p → AreRising p.all → slice_get p.all p.taken ≡ Some t → WasTaken ps k t.0 given → ⊥
is_fresh ps k p t given at rising due w =
    let same : w.p ≡ p = same_at ps k w.p p w.p_at at in
    let there : slice_get p.all w.among.n ≡ Some (record { 0 = t.0 }) = ap (λ (q : Progress). slice_get q.all w.among.n) (sym same) ∙ w.among.there in
    let early : w.among.n < p.taken = subst (λ (q : Progress). w.among.n < q.taken) same w.among.early in
    let less : t.0 <ℤ t.0 = rises_at p.all w.among.n p.taken (record { 0 = t.0 }) t rising there due early in
    omega (arith, ints, less)

module _ (ps : List Progress) (k : ℕ) (p : Progress) (at : slice_get ps k ≡ Some p) where
  within : k < length ps
  within = get_within ps k p at

  gone_at : slice_get (slice_set ps k (gone_on p)) k ≡ Some (gone_on p)
  gone_at = get_set_same ps k (gone_on p) within

  gone_along : (all : Instants) → ((j : ℕ) (q : Progress) → slice_get ps j ≡ Some q → q.all ≡ all j) → (j : ℕ) (q : Progress) → slice_get (slice_set ps k (gone_on p)) j ≡ Some q → q.all ≡ all j
  gone_along all along j q q_at = ⊎_elim
      (λ (e, same). ap (λ (z : Progress). z.all) (sym same) ∙ along k p at ∙ ap all (sym e))
      (λ was. along j q was)
      (set_cases ps k j (gone_on p) q within q_at)

  was_later : (j : ℕ) (u : ℤ) (given : Gathered) → WasTaken ps j u given → WasTaken (slice_set ps k (gone_on p)) j u given
  was_later j u given w = ⊎_elim
      (λ e.
      let same : w.p ≡ p = same_at ps k w.p p (ap (slice_get ps) (sym e) ∙ w.p_at) at in
      record {
        p = gone_on p;
        p_at = ap (slice_get (slice_set ps k (gone_on p))) e ∙ gone_at;
        among = record {
          n = w.among.n;
          early = (let l : w.among.n < p.taken = subst (λ (q : Progress). w.among.n < q.taken) same w.among.early in omega arith);
          there = ap (λ (q : Progress). slice_get q.all w.among.n) (sym same) ∙ w.among.there;
        };
        sets = w.sets;
      })
      (λ n. record { p = w.p; p_at = get_set_other ps k j (gone_on p) n ∙ w.p_at; among = w.among; sets = w.sets })
      (cases_eq j k)

  module _ (t : Ms) (due : slice_get p.all p.taken ≡ Some t) (given : Gathered) (sets : HasSets given) (taken : Taken) where
    taken_here : WasTaken (slice_set ps k (gone_on p)) k t.0 given
    taken_here = record { p = gone_on p; p_at = gone_at; among = record { n = p.taken; early = omega arith; there = due }; sets = sets }

    were_taken : ((j : ℕ) (u : ℤ) (other : Gathered) → taken j u ≡ Some other → WasTaken ps j u other) → (j : ℕ) (u : ℤ) (other : Gathered) → with_given taken k t.0 given j u ≡ Some other → WasTaken (slice_set ps k (gone_on p)) j u other
    were_taken were j u other e = ⊎_elim
        (λ ((a, b), same). let here = taken_here in subst (λ n. WasTaken (slice_set ps k (gone_on p)) n u other) (sym a) (subst (λ v. WasTaken (slice_set ps k (gone_on p)) k v other) (sym b) (subst (λ s. WasTaken (slice_set ps k (gone_on p)) k t.0 s) same here)))
        (λ was. was_later j u other (were j u other was))
        (given_cases taken k t.0 given j u other e)

    told_more : (es fs : List EngineSeen) → length fs ≡ length es → Each Grows es fs → (gathers : Gathers) → IsTold es ps taken gathers → given ≡ joined_of p.kind t (steps_at p.taken p.owed)
        → IsTold fs (slice_set ps k (gone_on p)) (with_given taken k t.0 given) gathers
    told_more es fs len grown gathers m is = record {
      sets = m.sets;
      tell = λ j i q f q_at f_at. tell_on es fs len grown (λ i e e_at. m.tell k i p e at e_at) i f f_at;
      give = λ j n q u q_at u_at. ⊎_elim
          (λ (e, same). subst (λ (z : Progress). gathers j u.0 ≡ joined_of z.kind u (steps_at n z.owed)) same
          (ap (λ i. gathers i u.0) e ∙ m.give k n p u at (ap (λ (z : Progress). slice_get z.all n) same ∙ u_at)))
          (λ was. m.give j n q u was u_at)
          (set_cases ps k j (gone_on p) q within q_at);
      gave = λ j u other e. ⊎_elim
          (λ ((a, b), same). (λ i. gathers (a i) (b i)) ∙ m.give k p.taken p t at due ∙ sym is ∙ same)
          (λ was. m.gave j u other was)
          (given_cases taken k t.0 given j u other e);
    }

on_known : (known : Option Gathers) (P Q : Gathers → Type 0) → ((g : Gathers) → P g → Q g) → IfSome known P → IfSome known Q
on_known None P Q f h = tt
on_known (Some g) P Q f h = f g h

module _ (union : UnionIsSet) (settle : SettledIsWellFormed) (take_sets : TakenHasSets) (kept : Kept) (es fs : List EngineSeen) (places now : List Place) (k : ℕ) (len : length fs ≡ length es) (grown : Each Grows es fs) where
  -- what an advance tells that was made
  record Advanced : Type 0 where
    stand : (ps : List Progress) (p : Progress) → AllStand kept es places ps → slice_get ps k ≡ Some p → AllStand kept fs now (slice_set ps k (gone_on p))
    lent : (ps : List Progress) (p : Progress) (place : Place) (t : Ms) → AllStand kept es places ps → slice_get ps k ≡ Some p → slice_get places k ≡ Some place → slice_get p.all p.taken ≡ Some t
        → (steps : List StepCells) × GivesSteps es place.asks p steps × LendsAt now k p.kind t steps
    told : (ps : List Progress) (p : Progress) (place : Place) (t : Ms) → AllStand kept es places ps → slice_get ps k ≡ Some p → slice_get places k ≡ Some place → slice_get p.all p.taken ≡ Some t → AllTell place.asks es
        → LendsAt now k p.kind t (steps_at p.taken p.owed)
    inside : (one : Place) → slice_get now k ≡ Some one → one.gather.ask.kind ≡ part.Windows → AreInside one.gather.ask one.gather.windows
    same_ask : (j : ℕ) (place one : Place) → slice_get places j ≡ Some place → slice_get now j ≡ Some one → one.gather.ask ≡ place.gather.ask

  module _ (a : Advanced) (t : Ms) (c : CanTake kept es places k t) where
    has_taken : HasTaken c.place c.taken c.all c.known kept fs now k t
    has_taken =
        let ps = c.out.ps in
        let found = has_progress kept es places k t c in
        let p = found.0 in
        let at : slice_get ps k ≡ Some p = found.1 in
        let due : slice_get p.all p.taken ≡ Some t = is_due kept es places k t c p at in
        let old = c.out.stand.stand k c.place p c.here at in
        let after = a.stand ps p c.out.stand at in
        let lends = a.lent ps p c.place t c.out.stand at c.here due in
        let given = joined_of p.kind t lends.0 in
        let one = lends.2.place in
        let new = after.stand k one (gone_on p) lends.2.place_at (gone_at ps k p at) in
        let is : LendsGiven p.kind t given one.gather.lent one.gather.windows = lends_given t one.gather.lent one.gather.windows p.kind lends.0 lends.2.joined in
        let sets = joined_are_sets union settle take_sets p.kind t lends.0 in
        record {
          now = with_given c.taken k t.0 given;
          grown = given_grown c.taken k t.0 given (λ other e. is_fresh ps k p t other at old.stands.listed.rising due (c.out.were k t.0 other e));
          out = record {
            ps = slice_set ps k (gone_on p);
            stand = after;
            along = gone_along ps k p at c.all c.out.along;
            were = were_taken ps k p at t due given sets c.taken c.out.were;
            told = on_known c.known (IsTold es ps c.taken) (IsTold fs (slice_set ps k (gone_on p)) (with_given c.taken k t.0 given))
                (λ g m.
                let told = a.told ps p c.place t c.out.stand at c.here due (λ n b e b_at e_at. m.tell k b.engine p e at e_at) in
                let same : told.place ≡ one = same_at now k told.place one told.place_at lends.2.place_at in
                let owed : LendsJoined p.kind t (steps_at p.taken p.owed) one.gather.lent one.gather.windows =
                subst (λ (z : Place). LendsJoined p.kind t (steps_at p.taken p.owed) z.gather.lent z.gather.windows) same told.joined in
                told_more ps k p at t due given sets c.taken es fs len grown g m
                (joined_same t one.gather.lent one.gather.windows p.kind lends.0 (steps_at p.taken p.owed) lends.2.joined owed))
                c.out.told;
          };
          place = one;
          here = lends.2.place_at;
          asks = a.same_ask k c.place one c.here lends.2.place_at;
          n = p.taken;
          at = ap (λ ts. slice_get ts p.taken) (sym (c.out.along k p at)) ∙ due;
          next = new.stands.next ∙ ap (λ ts. slice_get ts (p.taken + 1)) (c.out.along k p at);
          lent = λ g possible.
              (let gave : given ≡ g k t.0 = sym (possible.gave k t.0 given (given_here c.taken k t.0 given)) in
              subst (λ (q : PartKind). LendsGiven q t (g k t.0) one.gather.lent one.gather.windows) (sym new.kind) (subst (λ (z : Gathered). LendsGiven p.kind t z one.gather.lent one.gather.windows) gave is));
          windows = λ kind. record {
            at = windows_there t one.gather.lent one.gather.windows p.kind lends.0 (sym new.kind ∙ kind) lends.2.joined;
            inside = a.inside one lends.2.place_at kind;
          };
        }

-- the same of an answer
pub taken_on : {T E : Type 0} (union : UnionIsSet) (settle : SettledIsWellFormed) (take_sets : TakenHasSets) (kept : Kept) (es fs : List EngineSeen) (places now : List Place) (k : ℕ) (len : length fs ≡ length es) (grown : Each Grows es fs) (r : Result T E)
    → ((ps : List Progress) (p : Progress) → AllStand kept es places ps → slice_get ps k ≡ Some p → OnOk r (AllStand kept fs now (slice_set ps k (gone_on p))))
    → ((ps : List Progress) (p : Progress) (place : Place) (t : Ms) → AllStand kept es places ps → slice_get ps k ≡ Some p → slice_get places k ≡ Some place → slice_get p.all p.taken ≡ Some t
    → OnOk r ((steps : List StepCells) × GivesSteps es place.asks p steps × LendsAt now k p.kind t steps))
    → ((ps : List Progress) (p : Progress) (place : Place) (t : Ms) → AllStand kept es places ps → slice_get ps k ≡ Some p → slice_get places k ≡ Some place → slice_get p.all p.taken ≡ Some t → AllTell place.asks es
    → OnOk r (LendsAt now k p.kind t (steps_at p.taken p.owed)))
    → ((one : Place) → slice_get now k ≡ Some one → one.gather.ask.kind ≡ part.Windows → OnOk r (AreInside one.gather.ask one.gather.windows))
    → ((j : ℕ) (place one : Place) → slice_get places j ≡ Some place → slice_get now j ≡ Some one → one.gather.ask ≡ place.gather.ask)
    → OnOk r ((t : Ms) (c : CanTake kept es places k t) → HasTaken c.place c.taken c.all c.known kept fs now k t)
taken_on union settle take_sets kept es fs places now k len grown (Ok x) stand lent told inside same_ask =
    λ t c. has_taken union settle take_sets kept es fs places now k len grown (record { stand = stand; lent = lent; told = told; inside = inside; same_ask = same_ask }) t c
taken_on union settle take_sets kept es fs places now k len grown (Err x) stand lent told inside same_ask = tt
