-- What stays of a tree whose gathers are as they were, and of the gathers of others.
use Rattle.std.proofs.Common.{◌≡◌, ◌∙◌, ℕ, ◌<◌, List, [], ◌∷◌, ◌++◌, length, slice_get, refl, sym, ap, subst, Option, None, Some}
use Rattle.std.specs.Prelude.{Contains}
use Rattle.std.proofs.lemmas.List.Elements.{Contains-append_left, Contains-append_right}
use Rattle.exchange.specs.declared.place.Place.{Place}
use Rattle.remote_api.specs.declared.asks.Ask.{Ask}
use Rattle.op_labels.specs.Rules.{Kept}
use Rattle.step_batch.specs.Lent.{Lent}
use Rattle.ticks.specs.declared.moment.Ms.{Ms}
use Rattle.plan_tree.specs.declared.node.Node.{Node}
use Rattle.plan_tree.specs.declared.node.Node.TheVariants as node
use Rattle.plan_tree.specs.declared.turns.Fed.{Fed}
use Rattle.plan_tree.specs.Feeding.{OthersStay}
use Rattle.plan_tree.specs.Feeds.{once}
use Rattle.plan_tree.specs.Gathering.{AsksSteps, AsksWindows, HasCome, HaveCome, Instants}
use Rattle.plan_tree.specs.Nodes.{CanGo, IsRepeated, IsThere, lent_by, lent_of, shape_of}
use Rattle.plan_tree.specs.Shapes.{AreDistinct, Shape, places_of}
use Rattle.plan_tree.specs.Worlds.{World}
use Rattle.plan_tree.proofs.Numbers.{among_first, among_rest, distinct_apart, get_within, within_get}

-- ---- the gathers at some places

-- they are as they were
abbrev pub Agree : List ℕ → (before now : List Place) → Type 0
Agree mine before now = (k : ℕ) → Contains mine k → slice_get now k ≡ slice_get before k

-- all others are as they were
abbrev pub Stay : List ℕ → (before now : List Place) → Type 0
Stay mine before now = (k : ℕ) → (Contains mine k → ⊥) → slice_get now k ≡ slice_get before k

module _ (xs ys : List ℕ) where
  pub agree_left : (p q : List Place) → Agree (xs ++ ys) p q → Agree xs p q
  agree_left p q a k h = a k (Contains-append_left xs ys k h)

  pub agree_right : (p q : List Place) → Agree (xs ++ ys) p q → Agree ys p q
  agree_right p q a k h = a k (Contains-append_right xs ys k h)

  pub stay_left : (p q : List Place) → Stay xs p q → Stay (xs ++ ys) p q
  stay_left p q s k n = s k (λ h. n (Contains-append_left xs ys k h))

  pub stay_right : (p q : List Place) → Stay ys p q → Stay (xs ++ ys) p q
  stay_right p q s k n = s k (λ h. n (Contains-append_right xs ys k h))

  pub stay_both : (p q r : List Place) → Stay xs p q → Stay ys q r → Stay (xs ++ ys) p r
  stay_both p q r s t k n = stay_right q r t k n ∙ stay_left p q s k n

  -- what others than one of two parts are is as it was for the other part
  pub first_agrees : (p q : List Place) → AreDistinct (xs ++ ys) → Stay ys p q → Agree xs p q
  first_agrees p q d s k h = s k (λ i. distinct_apart xs ys k d h i)

  pub second_agrees : (p q : List Place) → AreDistinct (xs ++ ys) → Stay xs p q → Agree ys p q
  second_agrees p q d s k h = s k (λ i. distinct_apart xs ys k d i h)

pub stay_none : (xs : List ℕ) (p : List Place) → Stay xs p p
stay_none xs p k n = refl

pub agree_then : (xs : List ℕ) (p q r : List Place) → Agree xs p q → Agree xs q r → Agree xs p r
agree_then xs p q r a b k h = b k h ∙ a k h

-- what gathers other than one are is as it was for the others
pub rest_agrees : (xs : List ℕ) (x : ℕ) (p q : List Place) → Agree (x ∷ xs) p q → Agree xs p q
rest_agrees xs x p q a k h = a k (among_rest xs x k h)

-- where one is none of some, these are as they were while it alone changes
pub others_agree : (xs : List ℕ) (x : ℕ) (p q : List Place) → (Contains xs x → ⊥) → ((k : ℕ) → (k ≡ x → ⊥) → slice_get q k ≡ slice_get p k) → Agree xs p q
others_agree xs x p q apart s k h = s k (λ e. apart (subst (λ n. Contains xs n) e h))

-- one more has changed, or is left out
pub stay_next : (xs : List ℕ) (x : ℕ) (p q r : List Place) → Stay xs p q → ((k : ℕ) → (k ≡ x → ⊥) → slice_get r k ≡ slice_get q k) → Stay (x ∷ xs) p r
stay_next xs x p q r s more k n = more k (λ e. n (subst (λ m. Contains (x ∷ xs) m) (sym e) (among_first xs x))) ∙ s k (λ h. n (among_rest xs x k h))

pub stay_rest : (xs : List ℕ) (x : ℕ) (p q : List Place) → Stay xs p q → Stay (x ∷ xs) p q
stay_rest xs x p q s k n = s k (λ h. n (among_rest xs x k h))

pub come_agrees : (Asks : Ask → Type 0) (all : Instants) (before now : List Place) (times : List Ms) (fed : Option Fed) (k : ℕ) → slice_get now k ≡ slice_get before k → HasCome Asks all before times fed k → HasCome Asks all now times fed k
come_agrees Asks all before now times fed k e c = record {
  along = c.along;
  place = c.place;
  here = e ∙ c.here;
  asks = c.asks;
  count = c.count;
  fed_are = c.fed_are;
  next = c.next;
}

-- ---- a tree

pub lent_kept : (before now : List Place) (tree : Node) → Agree (places_of (shape_of tree)) before now → lent_by now tree ≡ lent_by before tree
lent_kept before now (node.Instants kernel none) a = refl
lent_kept before now (node.Select kernel) a = refl
lent_kept before now (node.Series' kernel p scalar) a = refl
lent_kept before now (node.Unary' kernel p rows) a = refl
lent_kept before now (node.Binary' kernel p rows q beside) a = refl
lent_kept before now (node.Clamp' kernel p rows q low r high) a = refl
lent_kept before now (node.Points' kernel fed p inner q scalar) a = refl
lent_kept before now (node.Once' first steps p child) a = refl
lent_kept before now (node.Gather place) a = ap lent_of (a place (among_first [] place))
lent_kept before now (node.Windows' kernel place passed p scalar) a = refl

pub can_kept : (w : World) (kept : Kept) (before now : List Place) (fed : Option Fed) (tree : Node) → Agree (places_of (shape_of tree)) before now → CanGo w kept before fed tree → CanGo w kept now fed tree
can_kept w kept before now fed (node.Instants kernel none) a c = tt
can_kept w kept before now fed (node.Select kernel) a c = c
can_kept w kept before now fed (node.Series' kernel p scalar) a c = (c.0, can_kept w kept before now fed scalar a c.1)
can_kept w kept before now fed (node.Unary' kernel p rows) a c = (c.0, can_kept w kept before now fed rows a c.1)
can_kept w kept before now fed (node.Binary' kernel p rows q beside) a c =
    let xs = places_of (shape_of rows) in let ys = places_of (shape_of beside) in
    (can_kept w kept before now fed rows (agree_left xs ys before now a) c.0, can_kept w kept before now fed beside (agree_right xs ys before now a) c.1)
can_kept w kept before now fed (node.Clamp' kernel p rows q low r high) a c =
    let xs = places_of (shape_of rows) in let ys = places_of (shape_of low) in let zs = places_of (shape_of high) in
    let rest = agree_right xs (ys ++ zs) before now a in
    (can_kept w kept before now fed rows (agree_left xs (ys ++ zs) before now a) c.0, can_kept w kept before now fed low (agree_left ys zs before now rest) c.1, can_kept w kept before now fed high (agree_right ys zs before now rest) c.2)
can_kept w kept before now fed (node.Points' kernel inner_fed p inner q scalar) a c =
    let xs = places_of (shape_of scalar) in let ys = places_of (shape_of inner) in
    (c.0, can_kept w kept before now inner_fed inner (agree_right xs ys before now a) c.1, can_kept w kept before now fed scalar (agree_left xs ys before now a) c.2)
can_kept w kept before now fed (node.Once' first steps p child) a c =
    (can_kept w kept before now (once first fed) child a c.0, subst (λ (l : Lent). IsRepeated w kept first (shape_of child) l steps.labels fed) (sym (lent_kept before now child a)) c.1)
can_kept w kept before now fed (node.Gather place) a c = tt
can_kept w kept before now fed (node.Windows' kernel place passed p scalar) a c = (c.0, can_kept w kept before now fed scalar (rest_agrees (places_of (shape_of scalar)) place before now a) c.1)

pub come_kept : (all : Instants) (before now : List Place) (times : List Ms) (fed : Option Fed) (tree : Node) → Agree (places_of (shape_of tree)) before now → HaveCome all before times fed tree → HaveCome all now times fed tree
come_kept all before now times fed (node.Instants kernel none) a c = tt
come_kept all before now times fed (node.Select kernel) a c = tt
come_kept all before now times fed (node.Series' kernel p scalar) a c = come_kept all before now times fed scalar a c
come_kept all before now times fed (node.Unary' kernel p rows) a c = come_kept all before now times fed rows a c
come_kept all before now times fed (node.Binary' kernel p rows q beside) a c =
    let xs = places_of (shape_of rows) in let ys = places_of (shape_of beside) in
    (come_kept all before now times fed rows (agree_left xs ys before now a) c.0, come_kept all before now times fed beside (agree_right xs ys before now a) c.1)
come_kept all before now times fed (node.Clamp' kernel p rows q low r high) a c =
    let xs = places_of (shape_of rows) in let ys = places_of (shape_of low) in let zs = places_of (shape_of high) in
    let rest = agree_right xs (ys ++ zs) before now a in
    (come_kept all before now times fed rows (agree_left xs (ys ++ zs) before now a) c.0, come_kept all before now times fed low (agree_left ys zs before now rest) c.1, come_kept all before now times fed high (agree_right ys zs before now rest) c.2)
come_kept all before now times fed (node.Points' kernel inner_fed p inner q scalar) a c =
    let xs = places_of (shape_of scalar) in let ys = places_of (shape_of inner) in
    (come_kept all before now times fed scalar (agree_left xs ys before now a) c.0, c.1, c.2, come_kept all before now c.1 inner_fed inner (agree_right xs ys before now a) c.3)
come_kept all before now times fed (node.Once' first steps p child) a c = come_kept all before now (first ∷ []) (once first fed) child a c
come_kept all before now times fed (node.Gather place) a c = come_agrees AsksSteps all before now times fed place (a place (among_first [] place)) c
come_kept all before now times fed (node.Windows' kernel place passed p scalar) a c =
    let xs = places_of (shape_of scalar) in
    (come_agrees (AsksWindows kernel.moment kernel.range) all before now times fed place (a place (among_first xs place)) c.0, come_kept all before now times fed scalar (rest_agrees xs place before now a) c.1)

-- what lends its step at a place finds it there
pub come_there : (all : Instants) (places : List Place) (times : List Ms) (fed : Option Fed) (tree : Node) → HaveCome all places times fed tree → IsThere places tree
come_there all places times fed (node.Instants kernel none) c = tt
come_there all places times fed (node.Select kernel) c = tt
come_there all places times fed (node.Series' kernel p scalar) c = tt
come_there all places times fed (node.Unary' kernel p rows) c = tt
come_there all places times fed (node.Binary' kernel p rows q beside) c = tt
come_there all places times fed (node.Clamp' kernel p rows q low r high) c = tt
come_there all places times fed (node.Points' kernel inner_fed p inner q scalar) c = tt
come_there all places times fed (node.Once' first steps p child) c = tt
come_there all places times fed (node.Gather place) c = get_within places place c.place c.here
come_there all places times fed (node.Windows' kernel place passed p scalar) c = tt

-- the exchange lends the step of the gather at its place
pub lent_there : (places : List Place) (k : ℕ) (lent : Lent) → k < length places → ((place : Place) → slice_get places k ≡ Some place → lent ≡ place.gather.lent) → lent ≡ lent_of (slice_get places k)
lent_there places k lent l h = let at = within_get places k l in h at.0 at.1 ∙ sym (ap lent_of at.1)
