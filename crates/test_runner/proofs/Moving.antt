-- Lists of engines of which one was moved behind all others.
use Rattle.std.proofs.Common.{◌≡◌, ◌∙◌, ℕ, zero, suc, ◌+◌, ◌-◌, ◌<◌, ◌≤◌, List, [], ◌∷◌, ◌++◌, drop, length, map, take, slice_get, refl, sym, ap, ap₂, subst, arith, Some}
use Rattle.std.specs.Prelude.{remove}
use Rattle.std.specs.List.{AllZip}
use Rattle.exchange.specs.Calls.{Each}
use Rattle.query_engine.specs.Engines.{moved_last}
use Rattle.remote_api.specs.Seen.{EngineSeen}

-- ---- places

pub some_same : {X : Type 0} (a b : X) → Some a ≡ Some b → a ≡ b
some_same a b e = cc

pub get_within : {X : Type 0} (xs : List X) (i : ℕ) (x : X) → slice_get xs i ≡ Some x → i < length xs
get_within [] i x e = absurd (cc)
get_within (y ∷ xs) zero x e = omega arith
get_within (y ∷ xs) (suc i) x e = let l : i < length xs = get_within xs i x e in omega arith

pub within_get : {X : Type 0} (xs : List X) (i : ℕ) → i < length xs → (x : X) × (slice_get xs i ≡ Some x)
within_get [] i l = absurd (omega arith)
within_get (x ∷ xs) zero l = (x, refl)
within_get (x ∷ xs) (suc i) l = within_get xs i (omega arith)

pub map_size : {X Y : Type 0} (f : X → Y) (xs : List X) → length (map f xs) ≡ length xs
map_size f [] = refl
map_size f (x ∷ xs) = ap suc (map_size f xs)

pub map_take : {X Y : Type 0} (f : X → Y) (n : ℕ) (xs : List X) → map f (take n xs) ≡ take n (map f xs)
map_take f zero xs = refl
map_take f (suc n) [] = refl
map_take f (suc n) (x ∷ xs) = ap (λ ys. f x ∷ ys) (map_take f n xs)

pub map_drop : {X Y : Type 0} (f : X → Y) (n : ℕ) (xs : List X) → map f (drop n xs) ≡ drop n (map f xs)
map_drop f zero xs = refl
map_drop f (suc n) [] = refl
map_drop f (suc n) (x ∷ xs) = map_drop f n xs

map_both : {X Y : Type 0} (f : X → Y) (xs ys : List X) → map f (xs ++ ys) ≡ map f xs ++ map f ys
map_both f [] ys = refl
map_both f (x ∷ xs) ys = ap (λ zs. f x ∷ zs) (map_both f xs ys)

-- an item of a front stands there in the whole
pub take_get : {X : Type 0} (xs : List X) (n k : ℕ) (x : X) → slice_get (take n xs) k ≡ Some x → slice_get xs k ≡ Some x
take_get xs zero k x e = absurd (cc)
take_get [] (suc n) k x e = absurd (cc)
take_get (y ∷ xs) (suc n) zero x e = e
take_get (y ∷ xs) (suc n) (suc k) x e = take_get xs n k x e

pub take_inside : {X : Type 0} (xs : List X) (n k : ℕ) (x : X) → slice_get (take n xs) k ≡ Some x → k < n
take_inside xs zero k x e = absurd (cc)
take_inside [] (suc n) k x e = absurd (cc)
take_inside (y ∷ xs) (suc n) zero x e = omega arith
take_inside (y ∷ xs) (suc n) (suc k) x e = let l : k < n = take_inside xs n k x e in omega arith

-- ---- pairs

pub before_each : (R : EngineSeen → EngineSeen → Type 0) (es fs : List EngineSeen) (k : ℕ) (f : EngineSeen) → length fs ≡ length es → Each R es fs → slice_get fs k ≡ Some f → (e : EngineSeen) × (slice_get es k ≡ Some e) × R e f
before_each R es fs k f l g at =
    let n : k < length fs = get_within fs k f at in
    let x = within_get es k (omega (arith, n, l)) in
    let y = g k x.0 x.1 in
    (x.0, x.1, subst (R x.0) (some_same y.0 f (sym y.1 ∙ at)) y.2)

module _ (R : EngineSeen → EngineSeen → Type 0) where
  zip_of : (es fs : List EngineSeen) → length fs ≡ length es → Each R es fs → AllZip R es fs
  zip_of [] [] l h = tt
  zip_of [] (f ∷ fs) l h = absurd (omega (arith, l))
  zip_of (e ∷ es) [] l h = absurd (omega (arith, l))
  zip_of (e ∷ es) (f ∷ fs) l h =
      let o = h 0 e refl in
      (subst (R e) (some_same o.0 f (sym o.1)) o.2, zip_of es fs (omega (arith, l)) (λ i x at. h (suc i) x at))

  each_of : (es fs : List EngineSeen) → AllZip R es fs → Each R es fs
  each_of [] [] z i e at = absurd (cc)
  each_of [] (f ∷ fs) z i e at = absurd (cc)
  each_of (e ∷ es) [] z i x at = absurd z
  each_of (e ∷ es) (f ∷ fs) z zero x at = (f, refl, subst (λ y. R y f) (some_same e x at) z.0)
  each_of (e ∷ es) (f ∷ fs) z (suc i) x at = each_of es fs z.1 i x at

  zip_both : (es fs gs hs : List EngineSeen) → AllZip R es fs → AllZip R gs hs → AllZip R (es ++ gs) (fs ++ hs)
  zip_both [] [] gs hs z y = y
  zip_both [] (f ∷ fs) gs hs z y = absurd z
  zip_both (e ∷ es) [] gs hs z y = absurd z
  zip_both (e ∷ es) (f ∷ fs) gs hs z y = (z.0, zip_both es fs gs hs z.1 y)

  zip_take : (n : ℕ) (es fs : List EngineSeen) → AllZip R es fs → AllZip R (take n es) (take n fs)
  zip_take zero es fs z = tt
  zip_take (suc n) [] [] z = tt
  zip_take (suc n) [] (f ∷ fs) z = absurd z
  zip_take (suc n) (e ∷ es) [] z = absurd z
  zip_take (suc n) (e ∷ es) (f ∷ fs) z = (z.0, zip_take n es fs z.1)

  zip_drop : (n : ℕ) (es fs : List EngineSeen) → AllZip R es fs → AllZip R (drop n es) (drop n fs)
  zip_drop zero es fs z = z
  zip_drop (suc n) [] [] z = tt
  zip_drop (suc n) [] (f ∷ fs) z = absurd z
  zip_drop (suc n) (e ∷ es) [] z = absurd z
  zip_drop (suc n) (e ∷ es) (f ∷ fs) z = zip_drop n es fs z.1

  zip_moved : (i : ℕ) (es fs : List EngineSeen) → AllZip R es fs → AllZip R (moved_last i es) (moved_last i fs)
  zip_moved i es fs z =
      zip_both (remove es i) (remove fs i) (take 1 (drop i es)) (take 1 (drop i fs)) (zip_both (take i es) (take i fs) (drop (suc i) es) (drop (suc i) fs) (zip_take i es fs z) (zip_drop (suc i) es fs z))
      (zip_take 1 (drop i es) (drop i fs) (zip_drop i es fs z))

  -- the same where one of each was moved
  pub each_moved : (i : ℕ) (es fs : List EngineSeen) → length fs ≡ length es → Each R es fs → Each R (moved_last i es) (moved_last i fs)
  each_moved i es fs l h = each_of (moved_last i es) (moved_last i fs) (zip_moved i es fs (zip_of es fs l h))

  zip_size : (es fs : List EngineSeen) → AllZip R es fs → length fs ≡ length es
  zip_size [] [] z = refl
  zip_size [] (f ∷ fs) z = absurd z
  zip_size (e ∷ es) [] z = absurd z
  zip_size (e ∷ es) (f ∷ fs) z = ap suc (zip_size es fs z.1)

  -- as many stand there
  pub moved_many : (i : ℕ) (es fs : List EngineSeen) → length fs ≡ length es → Each R es fs → length (moved_last i fs) ≡ length (moved_last i es)
  moved_many i es fs l h = zip_size (moved_last i es) (moved_last i fs) (zip_moved i es fs (zip_of es fs l h))

-- ---- the one that was moved

one_there : {X : Type 0} (i : ℕ) (xs : List X) (x : X) → slice_get xs i ≡ Some x → take 1 (drop i xs) ≡ x ∷ []
one_there i [] x e = absurd (cc)
one_there zero (y ∷ xs) x e = ap (λ z. z ∷ []) (some_same y x e)
one_there (suc i) (y ∷ xs) x e = one_there i xs x e

removed_size : {X : Type 0} (i : ℕ) (xs : List X) (x : X) → slice_get xs i ≡ Some x → suc (length (remove xs i)) ≡ length xs
removed_size i [] x e = absurd (cc)
removed_size zero (y ∷ xs) x e = refl
removed_size (suc i) (y ∷ xs) x e = ap suc (removed_size i xs x e)

back_get : {X : Type 0} (xs : List X) (x : X) → slice_get (xs ++ x ∷ []) (length xs) ≡ Some x
back_get [] x = refl
back_get (y ∷ xs) x = back_get xs x

-- it stands at the last place
pub moved_there : {X : Type 0} (i n : ℕ) (xs : List X) (x : X) → n ≡ length xs → slice_get xs i ≡ Some x → slice_get (moved_last i xs) (n - 1) ≡ Some x
moved_there {X} i n xs x size e =
    let s : suc (length (remove xs i)) ≡ length xs = removed_size i xs x e in
    let here : n - 1 ≡ length (remove xs i) = omega (arith, s, size) in
    ap₂ (λ (ys : List X) (k : ℕ). slice_get (remove xs i ++ ys) k) (one_there i xs x e) here ∙ back_get (remove xs i) x

both_size : {X : Type 0} (xs ys : List X) → length (xs ++ ys) ≡ length xs + length ys
both_size [] ys = omega arith
both_size (x ∷ xs) ys = let e = both_size xs ys in omega (arith, e)

pub moved_size : {X : Type 0} (i : ℕ) (xs : List X) → i < length xs → length (moved_last i xs) ≡ length xs
moved_size i xs l =
    let x = within_get xs i l in
    let s : suc (length (remove xs i)) ≡ length xs = removed_size i xs x.0 x.1 in
    let one : length (take 1 (drop i xs)) ≡ 1 = ap length (one_there i xs x.0 x.1) in
    let two : length (moved_last i xs) ≡ length (remove xs i) + length (take 1 (drop i xs)) = both_size (remove xs i) (take 1 (drop i xs)) in
    omega (arith, s, one, two)

pub map_moved : {X Y : Type 0} (f : X → Y) (i : ℕ) (xs : List X) → map f (moved_last i xs) ≡ moved_last i (map f xs)
map_moved {X} {Y} f i xs =
    map_both f (remove xs i) (take 1 (drop i xs))
    ∙ ap₂ (λ (a b : List Y). a ++ b) (map_both f (take i xs) (drop (suc i) xs) ∙ ap₂ (λ (a b : List Y). a ++ b) (map_take f i xs) (map_drop f (suc i) xs)) (map_take f 1 (drop i xs) ∙ ap (take 1) (map_drop f i xs))
