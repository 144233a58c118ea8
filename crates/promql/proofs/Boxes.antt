-- Boxes of engines that are made one by one.
use Rattle.std.proofs.Common.{◌≡◌, zero, suc, List, [], ◌∷◌, ◌++◌, map, Some, subst}
use Rattle.promql_tool.specs.Boxes.{AreFresh, IsFresh}
use Rattle.remote_api.specs.Seen.{EngineSeen}

some_same : (a b : EngineSeen) → Some a ≡ Some b → a ≡ b
some_same a b e = cc

-- one more box to which nothing was done
pub fresh_more : {B : Type 0} (seen : B → EngineSeen) (bs : List B) (b : B) → AreFresh (map seen bs) → IsFresh (seen b) → AreFresh (map seen (bs ++ b ∷ []))
fresh_more seen [] b before is zero e at = subst IsFresh (some_same (seen b) e at) is
fresh_more seen [] b before is (suc i) e at = absurd (cc)
fresh_more seen (x ∷ bs) b before is zero e at = before zero e at
fresh_more seen (x ∷ bs) b before is (suc i) e at = fresh_more seen bs b (λ k d there. before (suc k) d there) is i e at
