-- Which files were fetched.
use Rattle.std.proofs.Common.{◌≡◌, ℕ, ◌+◌, ◌<◌, List, [], ◌∷◌, ◌++◌, length, get_or, take, drop, refl, sym, ap, subst, ◌∙◌, take-append-drop}
use Rattle.std.proofs.lemmas.List.{drop_more, take_more}
use Rattle.edge_io.specs.Fetches.{Fetches, FetchesFront}

module _ (L : Type 0) (fetch : L → List ℕ → L → Type 0) where
  -- one more file was fetched
  fetched_more : (paths : List (List ℕ)) (path : List ℕ) (before mid now : L) → Fetches fetch paths before mid → fetch mid path now → Fetches fetch (paths ++ path ∷ []) before now
  fetched_more [] path before mid now same step = (now, subst (λ (l : L). fetch l path now) same step, refl)
  fetched_more (first ∷ paths) path before mid now h step = (h.0, h.1, fetched_more paths path h.0 mid now h.2 step)

  pub fetched_next : (paths : List (List ℕ)) (i : ℕ) (one path : List ℕ) (before mid now : L) → i < length paths → path ≡ one → one ≡ get_or paths i one → Fetches fetch (take i paths) before mid → fetch mid path now
      → Fetches fetch (take (i + 1) paths) before now
  fetched_next paths i one path before mid now lt names is h step =
      subst (λ (all : List (List ℕ)). Fetches fetch all before now) (sym (take_more paths i one lt))
      (subst (λ (p : List ℕ). Fetches fetch (take i paths ++ p ∷ []) before now) (names ∙ is) (fetched_more (take i paths) path before mid now h step))

  -- the files up to this one were fetched
  pub front_fetched : (paths : List (List ℕ)) (i : ℕ) (before now : L) → Fetches fetch (take i paths) before now → FetchesFront fetch paths before now
  front_fetched paths i before now h = record { fetched = take i paths; left = drop i paths; parts = take-append-drop i paths; states = h }

-- the file whose turn it is
pub next_file : (paths : List (List ℕ)) (i : ℕ) (one path : List ℕ) → i < length paths → path ≡ one → one ≡ get_or paths i one → drop i paths ≡ path ∷ drop (i + 1) paths
next_file paths i one path lt names is = drop_more paths i one lt ∙ ap (λ (p : List ℕ). p ∷ drop (i + 1) paths) (sym (names ∙ is))
