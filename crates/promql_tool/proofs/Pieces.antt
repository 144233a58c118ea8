-- A text in pieces.
use Rattle.std.proofs.Common.{◌≡◌, ◌<◌, ℕ, ◌+◌, List, ◌∷◌, ◌++◌, length, take, drop, get_or, sym, ap, ◌∙◌, take-append-drop}
use Rattle.std.proofs.lemmas.List.{drop_more}
use Rattle.std.specs.List.{flat_map}
use Rattle.std.proofs.lemmas.List.Folds.{flat_map-map}
use Rattle.std.proofs.lemmas.List.Concat.{flat_map-append}
use Rattle.std.specs.Prelude.{Vec}
use Rattle.std.specs.declared.alloc.Global.{Global}
use Rattle.promql_tool.specs.Runs.{bytes_of}

-- what the elements give, parted at one of them
pub flat_parted : {X : Type 0} (f : X → List ℕ) (xs : List X) (i : ℕ) (d : X) → i < length xs
    → flat_map f (take i xs) ++ (f (get_or xs i d) ++ flat_map f (drop (i + 1) xs)) ≡ flat_map f xs
flat_parted f xs i d lt =
    sym (flat_map-append f (take i xs) (get_or xs i d ∷ drop (i + 1) xs))
    ∙ ap (flat_map f) (ap (λ l. take i xs ++ l) (sym (drop_more xs i d lt)) ∙ take-append-drop i xs)

-- the lines of lists of bytes, parted at one of them
pub lines_parted : (lines : List (Vec ℕ Global)) (i : ℕ) (d : Vec ℕ Global) → i < length lines
    → flat_map (λ (line : List ℕ). line) (bytes_of (take i lines)) ++ ((get_or lines i d).items ++ flat_map (λ (line : List ℕ). line) (bytes_of (drop (i + 1) lines)))
    ≡ flat_map (λ (line : List ℕ). line) (bytes_of lines)
lines_parted lines i d lt =
    let flat = flat_map-map (λ (line : List ℕ). line) (λ (line : Vec ℕ Global). line.items) in
    rw (flat (take i lines), flat (drop (i + 1) lines), flat lines) (flat_parted (λ (line : Vec ℕ Global). line.items) lines i d lt)
