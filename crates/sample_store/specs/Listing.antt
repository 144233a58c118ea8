-- How the lists of numbers change where a series comes, and where it doesn't come in the end. This project's own.
use Rattle.std.specs.Prelude.{◌==◌, ℕ, zero, suc, List, [], ◌∷◌, ◌++◌, unwrap_or, slice_get, if◌then◌else◌}
use Rattle.std.specs.Option.{option_map}
use Rattle.sample_store.specs.Samples.{Names, Pair, Postings, pair_eq, posted, put_entry}

-- the list at a place
abbrev pub list_at : Postings → ℕ → List ℕ
list_at lists i = unwrap_or (option_map (λ (one : Pair × List ℕ). one.1) (slice_get lists i)) []

-- one more number behind the list of a pair, and behind those of several pairs
abbrev pub noted_one : Postings → Pair → ℕ → Postings
noted_one lists pair place = put_entry pair_eq lists pair (posted lists pair ++ place ∷ [])

abbrev pub noted : Postings → Names → ℕ → Postings
noted lists [] place = lists
noted lists (pair ∷ pairs) place = noted (noted_one lists pair place) pairs place

-- a list without a number at its end
abbrev pub taken_back : ℕ → List ℕ → List ℕ
taken_back place [] = []
taken_back place (n ∷ []) = if n == place then [] else n ∷ []
taken_back place (n ∷ m ∷ ns) = n ∷ taken_back place (m ∷ ns)

-- the first so many lists without a number at their ends
abbrev pub swept : ℕ → ℕ → Postings → Postings
swept place zero lists = lists
swept place (suc i) [] = []
swept place (suc i) (one ∷ lists) = (one.0, taken_back place one.1) ∷ swept place i lists
