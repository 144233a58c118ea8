-- A list that is mapped, and what is put in, left out or kept of it.
use Rattle.std.proofs.Common.{◌≡◌, ℕ, zero, suc, List, [], ◌∷◌, length, map, drop, take, insert, refl, ap, ℤ}
use Rattle.sample_store.specs.Values.{whole_held}

pub map_inserted : (ns : List ℤ) (i : ℕ) (n : ℤ) → map whole_held (insert ns i n) ≡ insert (map whole_held ns) i (whole_held n)
map_inserted [] zero n = refl
map_inserted [] (suc i) n = refl
map_inserted (x ∷ ns) zero n = refl
map_inserted (x ∷ ns) (suc i) n = ap (λ z. whole_held x ∷ z) (map_inserted ns i n)

pub map_dropped : (ns : List ℤ) (i : ℕ) → map whole_held (drop i ns) ≡ drop i (map whole_held ns)
map_dropped ns zero = refl
map_dropped [] (suc i) = refl
map_dropped (x ∷ ns) (suc i) = map_dropped ns i

pub map_taken : (ns : List ℤ) (i : ℕ) → map whole_held (take i ns) ≡ take i (map whole_held ns)
map_taken ns zero = refl
map_taken [] (suc i) = refl
map_taken (x ∷ ns) (suc i) = ap (λ z. whole_held x ∷ z) (map_taken ns i)

pub length_mapped : (ns : List ℤ) → length (map whole_held ns) ≡ length ns
length_mapped [] = refl
length_mapped (x ∷ ns) = ap suc (length_mapped ns)
