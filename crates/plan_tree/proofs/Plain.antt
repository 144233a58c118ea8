-- A tree without gathers before its walk's first instant.
use Rattle.std.proofs.Common.{◌≡◌, ℕ, List, [], ◌∷◌, ◌++◌, refl, sym, subst, Option, None, Some}
use Rattle.std.specs.Prelude.{ℤ}
use Rattle.exchange.specs.declared.place.Place.{Place}
use Rattle.op_labels.specs.Rules.{Kept}
use Rattle.remote_api.specs.Seen.{EngineSeen}
use Rattle.sample_store.specs.Samples.{AllSeries}
use Rattle.ticks.specs.declared.grid.Grid.{Grid}
use Rattle.ticks.specs.declared.moment.Ms.{Ms}
use Rattle.plan_tree.specs.declared.node.Node.{Node}
use Rattle.plan_tree.specs.declared.node.Node.TheVariants as node
use Rattle.plan_tree.specs.declared.turns.Fed.{Fed}
use Rattle.plan_tree.specs.Chains.{MayGo}
use Rattle.plan_tree.specs.Feeds.{once}
use Rattle.plan_tree.specs.Gathering.{HaveCome, Instants, IsOut}
use Rattle.plan_tree.specs.Laws.{PlainTreesBegin}
use Rattle.plan_tree.specs.Nodes.{CanGo, shape_of}
use Rattle.plan_tree.specs.Shapes.{AreDistinct, places_of}
use Rattle.plan_tree.specs.Spending.{Cost, IsBound, once_at}
use Rattle.plan_tree.specs.Worlds.{Taken, no_gathers, world}
use Rattle.plan_tree.proofs.Joins.{no_sets}

left_none : (xs ys : List ℕ) → xs ++ ys ≡ [] → xs ≡ []
left_none [] ys e = refl
left_none (x ∷ xs) ys e = absurd (cc)

right_none : (xs ys : List ℕ) → xs ++ ys ≡ [] → ys ≡ []
right_none [] ys e = e
right_none (x ∷ xs) ys e = absurd (cc)

-- a tree without gathers has come to all that it was fed
none_come : (store : AllSeries) (at : List Ms) (tree : Node) (most : Cost) (all : Instants) (places : List Place) (times : List Ms) (fed : Option Fed) → places_of (shape_of tree) ≡ [] → IsBound store at (shape_of tree) most
    → HaveCome all places times fed tree
none_come store at (node.Instants kernel none) most all places times fed e b = tt
none_come store at (node.Select kernel) most all places times fed e b = tt
none_come store at (node.Series' kernel p scalar) most all places times fed e (m, n, h, k, is) = none_come store at scalar m all places times fed e h
none_come store at (node.Unary' kernel p rows) most all places times fed e b = none_come store at rows most all places times fed e b
none_come store at (node.Binary' kernel p rows q beside) most all places times fed e (m, n, h, k, is) =
    let xs = places_of (shape_of rows) in let ys = places_of (shape_of beside) in
    (none_come store at rows m all places times fed (left_none xs ys e) h, none_come store at beside n all places times fed (right_none xs ys e) k)
none_come store at (node.Clamp' kernel p rows q low r high) most all places times fed e (m, n, h, (k, l, i, j, are), is) =
    let xs = places_of (shape_of rows) in let ys = places_of (shape_of low) in let zs = places_of (shape_of high) in
    let rest = right_none xs (ys ++ zs) e in (
      none_come store at rows m all places times fed (left_none xs (ys ++ zs) e) h,
      none_come store at low k all places times fed (left_none ys zs rest) i,
      none_come store at high l all places times fed (right_none ys zs rest) j,
    )
none_come store at (node.Points' kernel inner_fed p inner q scalar) most all places times fed e (inside, listed, (m, n, h, k, is)) =
    let xs = places_of (shape_of scalar) in let ys = places_of (shape_of inner) in
    (none_come store at scalar m all places times fed (left_none xs ys e) h, inside, listed, none_come store inside inner n all places inside inner_fed (right_none xs ys e) k)
none_come store at (node.Once' first steps p child) most all places times fed e b = none_come store (once_at first at) child most all places (first ∷ []) (once first fed) e b
none_come store at (node.Gather place) most all places times fed e b = absurd (cc)
none_come store at (node.Windows' kernel place passed p scalar) most all places times fed e b = absurd (cc)

abbrev none_taken : Taken
none_taken place t = None

-- an exchange without gathers stands over all engines
none_out : (all : Instants) (kept : Kept) (es : List EngineSeen) → IsOut all (Some no_gathers) none_taken kept es []
none_out all kept es = record {
  ps = [];
  stand = record {
    as_many = refl;
    stand = λ k place p e f. absurd (cc);
    apart = λ j k m n x y a b e f. absurd (cc);
  };
  along = λ k p e. absurd (cc);
  were = λ k t step e. absurd (cc);
  told = record {
    sets = λ place t. record { step = no_sets; windows = no_sets };
    tell = λ k i p e f. absurd (cc);
    give = λ k n p t f. absurd (cc);
    gave = λ k t step e. absurd (cc);
  };
}

abbrev no_instants : Instants
no_instants k = []

pub plain_begin : PlainTreesBegin
plain_begin store kept es tree times most asking places fed plain may fit stays leads listed bound some single = record {
  times = leads;
  stays = stays;
  fit = fit;
  may = subst (λ (o : Option Grid). MayGo store kept (Some no_gathers) es o tree) (sym asking) (record {
    times = times;
    listed = listed;
    goes_on = record {
      all = no_instants;
      known = Some no_gathers;
      taken = none_taken;
      out = subst (λ (ps : List Place). IsOut no_instants (Some no_gathers) none_taken kept es ps) (sym places) (none_out no_instants kept es);
      can = λ g p. subst (λ (o : Option Fed). CanGo (world store g) kept tree.exchange.places o tree.node) (sym fed) (may g tree.exchange.places);
      come = none_come store times tree.node most no_instants tree.exchange.places times tree.fed plain bound;
      fit = fit;
      apart = subst AreDistinct (sym plain) tt;
    };
    known_are = refl;
  });
  some = some;
  single = single;
}
