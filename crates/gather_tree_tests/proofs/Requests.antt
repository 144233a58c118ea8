-- Requests of an exchange at the instants of one walk.
use Rattle.std.proofs.Common.{◌≡◌, ◌∙◌, ℕ, zero, suc, ◌+◌, ◌<◌, List, [], ◌∷◌, ◌++◌, length, slice_get, refl, sym, ap, subst, Some, arith}
use Rattle.std.specs.Prelude.{IsTrue}
use Rattle.std.specs.List.{AllByRecursion}
use Rattle.exchange.specs.Asked.{MayOpen}
use Rattle.exchange.specs.Exchanging.{Exchanging}
use Rattle.exchange.specs.Requests.{AreRising}
use Rattle.exchange.specs.declared.request.Request.{Request}
use Rattle.plan_tree.specs.Asking.{HasRequest}
use Rattle.plan_tree.specs.Gathering.{gives_steps}
use Rattle.promql_ast.specs.declared.tree.Expr.{Expr}
use Rattle.promql_type.specs.Replacements.{Kept}
use Rattle.remote_api.specs.Seen.{EngineSeen}
use Rattle.step_table.specs.declared.cells.PartKind.{PartKind}
use Rattle.step_table.specs.declared.cells.PartKind.TheVariants as part_kind
use Rattle.ticks.specs.Listed.{IsListed}
use Rattle.ticks.specs.declared.grid.Grid.{Grid as Instants}
use Rattle.ticks.specs.declared.moment.Ms.{Ms}
use Rattle.ticks.specs.declared.walk.Walk.{Walk}
use Rattle.gather_tree_tests.specs.Askable.{IsAskable}
use Rattle.gather_tree_tests.specs.Fitting.{AreFitting, AreIdle, IsFitting, IsNearby, IsNew}
use Rattle.gather_tree_tests.proofs.Askables.{may_request}

-- ---- lists

there : {X : Type 0} (xs : List X) (i : ℕ) → i < length xs → (x : X) × (slice_get xs i ≡ Some x)
there [] i w = absurd (omega (arith, w))
there (x ∷ xs) zero w = (x, refl)
there (x ∷ xs) (suc i) w = there xs i (omega (arith, w))

all_at : {X : Type 0} (P : X → Type 0) (xs : List X) (i : ℕ) (x : X) → slice_get xs i ≡ Some x → AllByRecursion P xs → P x
all_at P [] i x e a = absurd (cc)
all_at P (y ∷ xs) zero x e a = let same : y ≡ x = cc in subst P same a.0
all_at P (y ∷ xs) (suc i) x e a = all_at P xs i x e a.1

all_more : {X : Type 0} (P : X → Type 0) (xs : List X) (x : X) → P x → AllByRecursion P xs → AllByRecursion P (xs ++ x ∷ [])
all_more P [] x p a = (p, tt)
all_more P (y ∷ xs) x p a = (a.0, all_more P xs x p a.1)

length_more : {X : Type 0} (xs : List X) (x : X) → length (xs ++ x ∷ []) ≡ length xs + 1
length_more [] x = refl
length_more (y ∷ xs) x = let h = length_more xs x in omega (arith, h)

-- ---- the numbers of both engines

pub both_rise : (numbers : List ℕ) → numbers ≡ 0 ∷ 1 ∷ [] → AreRising numbers
both_rise numbers is = subst AreRising (sym is) (λ j k m n at of w. rise j k m n at of w)
  where
    below : (k n : ℕ) → slice_get (0 ∷ 1 ∷ []) (suc k) ≡ Some n → n ≡ 1
    below zero n e = cc
    below (suc k) n e = absurd (cc)

    rise : (j k m n : ℕ) → slice_get (0 ∷ 1 ∷ []) j ≡ Some m → slice_get (0 ∷ 1 ∷ []) k ≡ Some n → j < k → m < n
    rise j zero m n at of w = absurd (omega (arith, w))
    rise zero (suc k) m n at of w = let a : 0 ≡ m = cc in let b = below k n of in omega (arith, a, b)
    rise (suc zero) (suc zero) m n at of w = absurd (omega (arith, w))
    rise (suc zero) (suc (suc k)) m n at of w = absurd (cc)
    rise (suc (suc j)) k m n at of w = absurd (cc)

-- ---- requests

pub none_fitting : (walk : Walk) (x : Exchanging) → IsNew x → AreFitting walk x
none_fitting walk x n = record { unopened = n.unopened; each = subst (AllByRecursion (IsFitting walk)) (sym n.none) tt }

-- one request more
pub many_more : (x y : Exchanging) (r : Request) → y ≡ record { most = x.most; requests = x.requests ++ r ∷ []; places = x.places } → length y.requests ≡ length x.requests + 1
many_more x y r is = ap (λ (z : Exchanging). length z.requests) is ∙ length_more x.requests r

pub fitting_more : (walk : Walk) (x y : Exchanging) (r : Request) → y ≡ record { most = x.most; requests = x.requests ++ r ∷ []; places = x.places } → AreFitting walk x → IsFitting walk r → AreFitting walk y
fitting_more walk x y r is f one = subst (AreFitting walk) (sym is) (record { unopened = f.unopened; each = all_more (IsFitting walk) x.requests r one f.each })

steps_given : (kind : PartKind) (e : Expr) → IsAskable kind e → IsTrue (gives_steps kind)
steps_given part_kind.Rows e s = refl
steps_given part_kind.Windows e s = absurd s
steps_given (part_kind.Partial f by) e s = refl

-- each of them is one for steps at the instants of the walk
pub has_request : (walk : Walk) (x : Exchanging) (times : List Ms) (k : ℕ) → k < length x.requests → AreFitting walk x → IsListed walk times → HasRequest x.requests times k
has_request walk x times k w f listed =
    let at = there x.requests k w in
    let one = all_at (IsFitting walk) x.requests k at.0 at.1 f.each in
    record {
      r = at.0;
      r_at = at.1;
      asks = steps_given at.0.part.kind at.0.part.expr one.askable;
      listed = subst (λ (v : Walk). IsListed v times) (sym one.walk_is) listed;
    }

-- and they may be opened over two engines of which nothing was asked
pub may_open : (walk : Walk) (g : Instants) (kept : Kept) (es : List EngineSeen) (x : Exchanging) → IsNearby walk → AreFitting walk x → AreIdle es → MayOpen g kept es x
may_open walk g kept es x n f idle = record {
  unopened = f.unopened;
  unasked = idle.unasked;
  inside = λ k j i r at asked.
      let one = all_at (IsFitting walk) x.requests k r at f.each in
      let few = below j i (sym (ap (λ (ns : List ℕ). slice_get ns j) one.engines_are) ∙ asked) in
      let two = idle.two in
      omega (arith, few, two);
  may = λ k r at. may_request walk g kept r n (all_at (IsFitting walk) x.requests k r at f.each);
}
  where
    below : (j i : ℕ) → slice_get (0 ∷ 1 ∷ []) j ≡ Some i → i < 2
    below zero i e = let same : 0 ≡ i = cc in omega (arith, same)
    below (suc zero) i e = let same : 1 ≡ i = cc in omega (arith, same)
    below (suc (suc j)) i e = absurd (cc)
