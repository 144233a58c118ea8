-- What the parts of a tree are fed, and what they lend.
use Rattle.std.proofs.Common.{◌≡◌, ◌∙◌, ℕ, List, [], ◌∷◌, Option, refl, sym, ap, subst, true, false}
use Rattle.std.specs.Prelude.{ℤ, Bool, IsTrue, ◌||◌}
use Rattle.std.specs.List.{AllByRecursion}
use Rattle.exchange.specs.declared.place.Place.{Place}
use Rattle.op_labels.specs.Rules.{Kept}
use Rattle.remote_api.specs.Seen.{EngineSeen}
use Rattle.sample_store.specs.Samples.{AllSeries}
use Rattle.step_batch.specs.Lent.{Lent, stages}
use Rattle.step_table.specs.Timed.{StepAt, steps_over}
use Rattle.ticks.specs.declared.moment.Ms.{Ms}
use Rattle.plan_tree.specs.declared.node.Node.{Node}
use Rattle.plan_tree.specs.declared.turns.Fed.{Fed}
use Rattle.plan_tree.specs.Feeding.{CanFeed, HasFed, HasMade, IsLending, OthersStay}
use Rattle.plan_tree.specs.Gathering.{HaveCome, Instants, IsOut}
use Rattle.plan_tree.specs.Nodes.{CanGo, IsThere, lent_by, shape_of}
use Rattle.plan_tree.specs.Shapes.{AreDistinct, IsFit, Shape, StaysInTimes, is_scalar, is_single, places_of, rule}
use Rattle.plan_tree.specs.Worlds.{Gathers, IsGrown, Taken, World, world}
use Rattle.plan_tree.proofs.Kept.{Agree, Stay, can_kept, come_kept, come_there, lent_kept}
use Rattle.plan_tree.proofs.Possible.{possible_before}

pub all_weaker : {A : Type 0} (P Q : A → Type 0) (xs : List A) → ((x : A) → P x → Q x) → AllByRecursion P xs → AllByRecursion Q xs
all_weaker P Q [] f a = tt
all_weaker P Q (x ∷ xs) f a = (f x a.0, all_weaker P Q xs f a.1)

pub or_left : (a b : Bool) → IsTrue a → IsTrue (a || b)
or_left true b h = h
or_left false b h = absurd (cc)

pub or_right : (a b : Bool) → IsTrue b → IsTrue (a || b)
or_right true b h = refl
or_right false b h = h

-- ---- feeding a part

-- a tree is what it was matched as
pub as_tree : (store : AllSeries) (kept : Kept) (es : List EngineSeen) (places : List Place) (fed : Option Fed) (at : List Ms) (self tree : Node) → self ≡ tree → CanFeed store kept es places fed at self → CanFeed store kept es places fed at tree
as_tree store kept es places fed at self tree is c = subst (λ (n : Node). CanFeed store kept es places fed at n) is c

module _ (store : AllSeries) (kept : Kept) (es : List EngineSeen) (places : List Place) (fed : Option Fed) (at : List Ms) where
  -- a part is fed what its tree is fed
  abbrev pub part_fed : (tree part : Node) → CanFeed store kept es places fed at tree → (IsFit store (shape_of tree) → IsFit store (shape_of part))
      → ((w : World) → CanGo w kept places fed tree → CanGo w kept places fed part) → ((all : Instants) (times : List Ms) → HaveCome all places times fed tree → HaveCome all places times fed part)
      → ((t : ℤ) → StaysInTimes (shape_of tree) t → StaysInTimes (shape_of part) t) → (IsTrue (is_single (shape_of part)) → IsTrue (is_single (shape_of tree)))
      → (AreDistinct (places_of (shape_of tree)) → AreDistinct (places_of (shape_of part))) → CanFeed store kept es places fed at part
  part_fed tree part c fit can come stays single apart = record {
    times = c.times;
    goes_on = record {
      all = c.goes_on.all;
      known = c.goes_on.known;
      taken = c.goes_on.taken;
      out = c.goes_on.out;
      can = λ g p. can (world store g) (c.goes_on.can g p);
      come = come c.goes_on.all c.times c.goes_on.come;
      fit = fit c.goes_on.fit;
      apart = apart c.goes_on.apart;
    };
    due = c.due;
    goes = c.goes;
    stays = all_weaker (λ (t : Ms). StaysInTimes (shape_of tree) t.0) (λ (t : Ms). StaysInTimes (shape_of part) t.0) at (λ t. stays t.0) c.stays;
    single = λ s. c.single (single s);
    some = c.some;
  }

  -- a part is fed after another one
  abbrev pub next_fed : (fs : List EngineSeen) (now : List Place) (part : Node) (c : CanFeed store kept es places fed at part) (taken : Taken) → IsGrown c.goes_on.taken taken → IsOut c.goes_on.all c.goes_on.known taken kept fs now
      → Agree (places_of (shape_of part)) places now → CanFeed store kept fs now fed at part
  next_fed fs now part c taken grown out agree = record {
    times = c.times;
    goes_on = record {
      all = c.goes_on.all;
      known = c.goes_on.known;
      taken = taken;
      out = out;
      can = λ g p. can_kept (world store g) kept places now fed part agree (c.goes_on.can g (possible_before c.goes_on.taken taken g grown p));
      come = come_kept c.goes_on.all places now c.times fed part agree c.goes_on.come;
      fit = c.goes_on.fit;
      apart = c.goes_on.apart;
    };
    due = c.due;
    goes = c.goes;
    stays = c.stays;
    single = c.single;
    some = c.some;
  }

  -- what is handed on is the part, with the patterns as they were
  pub fed_given : (now : Kept) (part given : Node) → given ≡ part → now ≡ kept → CanFeed store kept es places fed at part → CanFeed store now es places fed at given
  fed_given now part given g k c = subst (λ (n : Node). CanFeed store now es places fed at n) (sym g) (subst (λ (x : Kept). CanFeed store x es places fed at part) (sym k) c)

-- ---- a part that was fed

-- what a feed has made of a part
pub record PartFed (store : AllSeries) (kept : Kept) (es fs : List EngineSeen) (places now : List Place) (fed : Option Fed) (at : List Ms) (part new : Node) : Type 0 where
  pub has : HasFed store kept es fs places now fed at part new
  pub shape : shape_of new ≡ shape_of part
  pub stay : Stay (places_of (shape_of part)) places now

pub part_has : (store : AllSeries) (kept was : Kept) (es fs : List EngineSeen) (places now : List Place) (fed : Option Fed) (at : List Ms) (part given new : Node) → given ≡ part → was ≡ kept
    → HasFed store was es fs places now fed at given new → shape_of new ≡ shape_of given → OthersStay (shape_of given) places now → PartFed store kept es fs places now fed at part new
part_has store kept was es fs places now fed at part given new is same h shape stay = record {
  has = subst (λ (n : Node). HasFed store kept es fs places now fed at n new) is (subst (λ (k : Kept). HasFed store k es fs places now fed at given new) same h);
  shape = shape ∙ ap shape_of is;
  stay = subst (λ (n : Node). Stay (places_of (shape_of n)) places now) is stay;
}

-- ---- what a part lends

-- what is read of a part that was fed is what it lends
pub read_steps : (places : List Place) (new read : Node) (xs : List StepAt) → read ≡ new → stages (lent_by places new) ≡ xs → stages (lent_by places read) ≡ xs
read_steps places new read xs seen e = ap (λ (n : Node). stages (lent_by places n)) seen ∙ e

pub read_there : (places : List Place) (new read : Node) → read ≡ new → IsThere places new → IsThere places read
read_there places new read seen h = subst (λ (n : Node). IsThere places n) (sym seen) h

-- and stays that, while others are fed
pub kept_steps : (before now : List Place) (new : Node) (xs : List StepAt) → Agree (places_of (shape_of new)) before now → stages (lent_by before new) ≡ xs → stages (lent_by now new) ≡ xs
kept_steps before now new xs a e = ap (λ (l : Lent). stages l) (lent_kept before now new a) ∙ e

pub read_lending : (w : World) (kept : Kept) (at : List Ms) (places : List Place) (part new read : Node) → shape_of new ≡ shape_of part → read ≡ new → stages (lent_by places new) ≡ steps_over (rule w kept (shape_of part)) at → IsLending places at read
read_lending w kept at places part new read shape seen e = record {
  w = w;
  kept = kept;
  steps = ap (λ (n : Node). stages (lent_by places n)) seen ∙ e ∙ ap (λ (s : Shape). steps_over (rule w kept s) at) (sym (ap shape_of seen ∙ shape));
}

pub read_scalar : (part new read : Node) → shape_of new ≡ shape_of part → read ≡ new → IsTrue (is_scalar (shape_of part)) → IsTrue (is_scalar (shape_of read))
read_scalar part new read shape seen h = subst (λ (s : Shape). IsTrue (is_scalar s)) (sym (ap shape_of seen ∙ shape)) h

pub come_made : (store : AllSeries) (kept : Kept) (es : List EngineSeen) (places : List Place) (all : Instants) (known : Option Gathers) (before : Taken) (times : List Ms) (to : Option Fed) (at : List Ms) (shape : Shape) (new : Node)
    → HasMade store kept es places all known before times to at shape new → IsThere places new
come_made store kept es places all known before times to at shape new m = come_there all places times to new m.come

-- ---- the whole tree

-- it is what it was matched as
pub fed_as : (store : AllSeries) (kept : Kept) (es fs : List EngineSeen) (places now : List Place) (fed : Option Fed) (at : List Ms) (self tree new : Node) → self ≡ tree → HasFed store kept es fs places now fed at tree new → HasFed store kept es fs places now fed at self new
fed_as store kept es fs places now fed at self tree new is h = subst (λ (n : Node). HasFed store kept es fs places now fed at n new) (sym is) h

pub stay_as : (places now : List Place) (part given : Node) → given ≡ part → OthersStay (shape_of given) places now → Stay (places_of (shape_of part)) places now
stay_as places now part given is s = subst (λ (n : Node). Stay (places_of (shape_of n)) places now) is s

pub stay_self : (places now : List Place) (self tree : Node) → self ≡ tree → Stay (places_of (shape_of tree)) places now → OthersStay (shape_of self) places now
stay_self places now self tree is s = subst (λ (n : Node). Stay (places_of (shape_of n)) places now) (sym is) s

pub stay_more : (places mid now : List Place) (first then : Node) → shape_of then ≡ shape_of first → OthersStay (shape_of first) places mid → OthersStay (shape_of then) mid now → OthersStay (shape_of first) places now
stay_more places mid now first then shape a b k n = subst (λ (s : Shape). OthersStay s mid now) shape b k n ∙ a k n
