-- What is owed of requests, each of whose walks has a list of its instants.
use Rattle.std.proofs.Common.{◌≡◌, ℕ, zero, suc, List, [], ◌∷◌, map, slice_get, refl, ap, subst, Some}
use Rattle.std.specs.List.{AllByRecursion}
use Rattle.promql_type.specs.Replacements.{Kept}
use Rattle.remote_api.specs.Seen.{EngineSeen}
use Rattle.ticks.specs.Listed.{EachWalkIsListed}
use Rattle.ticks.specs.declared.grid.Grid.{Grid}
use Rattle.exchange.specs.declared.request.Request.{Request}
use Rattle.exchange.specs.Asked.{AreOwed, IsOwed, owed_by}
use Rattle.exchange.specs.Requests.{IsRequest}
use Rattle.exchange.specs.Standing.{Progress}
use Rattle.exchange.proofs.Lists.{some_same}

module _ (span : Grid) (kept : Kept) (es : List EngineSeen) (law : EachWalkIsListed) where
  one_owed : (r : Request) → IsRequest r → (p : Progress) × IsOwed span kept es r p
  one_owed r is =
      let l = law r.walk is.times.walk in (
        record { kind = r.part.kind; all = l.0; owed = map (λ (i : ℕ). owed_by span kept r.part l.0 (slice_get es i)) r.engines; taken = 0 },
        record { kind = refl; listed = l.1; owed = refl; taken = refl },
      )

  each_owed : (r : Request) (p : Progress) (rs : List Request) (ps : List Progress) → IsOwed span kept es r p → AreOwed span kept es rs ps
      → (k : ℕ) (q : Request) (o : Progress) → slice_get (r ∷ rs) k ≡ Some q → slice_get (p ∷ ps) k ≡ Some o → IsOwed span kept es q o
  each_owed r p rs ps one rest zero q o q_at o_at = subst (λ z. IsOwed span kept es z o) (some_same r q q_at) (subst (λ z. IsOwed span kept es r z) (some_same p o o_at) one)
  each_owed r p rs ps one rest (suc k) q o q_at o_at = rest.each k q o q_at o_at

  pub all_owed : (requests : List Request) → AllByRecursion IsRequest requests → (ps : List Progress) × AreOwed span kept es requests ps
  all_owed [] a = ([], record { as_many = refl; each = λ k r p r_at p_at. absurd (cc) })
  all_owed (r ∷ rs) a =
      let one = one_owed r a.0 in
      let rest = all_owed rs a.1 in
      (one.0 ∷ rest.0, record { as_many = ap suc rest.1.as_many; each = each_owed r one.0 rs rest.0 one.1 rest.1 })

-- the requests as they are kept, and as contracts see them
pub all_owed_by : (span : Grid) (kept : Kept) (es : List EngineSeen) (own seen : List Request) → EachWalkIsListed → own ≡ seen → AllByRecursion IsRequest own → (ps : List Progress) × AreOwed span kept es seen ps
all_owed_by span kept es own seen law e a = subst (λ z. (ps : List Progress) × AreOwed span kept es z ps) e (all_owed span kept es law own a)
