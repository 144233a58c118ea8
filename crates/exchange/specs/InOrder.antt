-- The order in which requests are asked for: by where their expressions begin in the query. (This project's own.)
use Rattle.std.specs.Prelude.{◌≡◌, ◌≤◌, ◌<◌, ◌==◌, ℕ, suc, nat_lt, List, [], ◌∷◌, Option, Some, filter, fold, length, slice_get, if◌then◌else◌}
use Rattle.exchange.specs.declared.place.Place.{Place}
use Rattle.exchange.specs.declared.request.Request.{Request}

-- ---- a stable sort

module _ {X : Type 0} (at : X → ℕ) where
  -- an item goes behind those that are no later
  abbrev pub put_behind : X → List X → List X
  put_behind x [] = x ∷ []
  put_behind x (y ∷ ys) = if nat_lt (at x) (at y) then x ∷ y ∷ ys else y ∷ put_behind x ys

  -- items from the earliest to the latest, those that are equally early as they stood
  abbrev pub in_order : List X → List X
  in_order xs = fold (λ (sorted : List X) (x : X). put_behind x sorted) [] xs

-- ---- requests

-- the first byte of a request's expression in the query
abbrev pub begins_at : Request → ℕ
begins_at r = r.part.expr.at

-- by their first bytes, those of equal first bytes as they were added
abbrev pub in_order_of_asks : List Request → List Request
in_order_of_asks requests = in_order begins_at requests

-- the first bytes don't fall, and under each first byte the same requests stand in the same order
pub record IsInOrder (requests sorted : List Request) : Type 0 where
  pub rising : (j k : ℕ) (r s : Request) → slice_get sorted j ≡ Some r → slice_get sorted k ≡ Some s → j < k → begins_at r ≤ begins_at s
  pub same : (byte : ℕ) → filter (λ (r : Request). begins_at r == byte) sorted ≡ filter (λ (r : Request). begins_at r == byte) requests

-- what is asked for first is what begins first
abbrev pub AsksAreInOrder : Type 0
AsksAreInOrder = (requests : List Request) → IsInOrder requests (in_order_of_asks requests)

-- ---- places of requests

-- items beside their places, from one on
abbrev pub numbered : {X : Type 0} → ℕ → List X → List (ℕ × X)
numbered n [] = []
numbered n (x ∷ xs) = (n, x) ∷ numbered (suc n) xs

-- the requests in their order, beside the places where they were added
abbrev pub in_turn : List Request → List (ℕ × Request)
in_turn requests = in_order (λ (t : ℕ × Request). begins_at t.1) (numbered 0 requests)

-- the first byte and the place
abbrev pub turn_key : ℕ × Request → ℕ × ℕ
turn_key t = (begins_at t.1, t.0)

-- all places of requests, in the order in which the requests are asked for
pub record IsAskOrder (requests : List Request) (order : List ℕ) : Type 0 where
  pub as_many : length order ≡ length (in_order_of_asks requests)
  pub all : (k : ℕ) → k < length requests → (j : ℕ) × (slice_get order j ≡ Some k)
  pub each : (j k : ℕ) → slice_get order j ≡ Some k → (r : Request) × (slice_get requests k ≡ Some r) × (slice_get (in_order_of_asks requests) j ≡ Some r)

-- what was made in an order stands in the slots that the order names
pub record AreInSlots (order : List ℕ) (made : List Place) (slots : List (Option Place)) : Type 0 where
  pub as_many : length made ≡ length order
  pub each : (i k : ℕ) → slice_get order i ≡ Some k → (j : ℕ) × (place : Place) × (slice_get order j ≡ Some k) × (slice_get made j ≡ Some place) × (slice_get slots k ≡ Some (Some place))
