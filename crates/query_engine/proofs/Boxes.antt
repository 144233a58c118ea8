-- Lists of engines, place by place.
use Rattle.std.proofs.Common.{◌≡◌, ◌∙◌, ℕ, zero, suc, ◌+◌, ◌-◌, ◌<◌, ◌≤◌, ◌⊎◌, List, [], ◌∷◌, ◌++◌, drop, get_or, length, map, take, slice_get, slice_set, refl, sym, ap, ap₂, subst, arith, Some, ⊎_elim}
use Rattle.std.specs.Prelude.{remove}
use Rattle.std.specs.List.{AllZip}
use Rattle.std.proofs.lemmas.Bool.{cases_eq}
use Rattle.std.proofs.lemmas.List.{map-set}
use Rattle.std.proofs.lemmas.Option.{slice_get_read}
use Rattle.exchange.specs.Calls.{Each, IsCalled}
use Rattle.remote_api.specs.Seen.{EngineSeen, IsBegun}
use Rattle.query_engine.specs.Engines.{moved_last}

-- ---- places

some_same : {X : Type 0} (a b : X) → Some a ≡ Some b → a ≡ b
some_same a b e = cc

pub get_within : {X : Type 0} (xs : List X) (i : ℕ) (x : X) → slice_get xs i ≡ Some x → i < length xs
get_within [] i x e = absurd (cc)
get_within (y ∷ xs) zero x e = omega arith
get_within (y ∷ xs) (suc i) x e = let l : i < length xs = get_within xs i x e in omega arith

pub within_get : {X : Type 0} (xs : List X) (i : ℕ) → i < length xs → (x : X) × (slice_get xs i ≡ Some x)
within_get [] i l = absurd (omega arith)
within_get (x ∷ xs) zero l = (x, refl)
within_get (x ∷ xs) (suc i) l = within_get xs i (omega arith)

get_set_same : {X : Type 0} (xs : List X) (i : ℕ) (w : X) → i < length xs → slice_get (slice_set xs i w) i ≡ Some w
get_set_same [] i w h = absurd (omega arith)
get_set_same (x ∷ xs) zero w h = refl
get_set_same (x ∷ xs) (suc i) w h = get_set_same xs i w (omega arith)

get_set_other : {X : Type 0} (xs : List X) (i j : ℕ) (w : X) → (j ≡ i → ⊥) → slice_get (slice_set xs i w) j ≡ slice_get xs j
get_set_other [] i j w h = refl
get_set_other (x ∷ xs) zero zero w h = absurd (h refl)
get_set_other (x ∷ xs) zero (suc j) w h = refl
get_set_other (x ∷ xs) (suc i) zero w h = refl
get_set_other (x ∷ xs) (suc i) (suc j) w h = get_set_other xs i j w (λ e. h (ap suc e))

get_map : {X Y : Type 0} (f : X → Y) (xs : List X) (k : ℕ) (x : X) → slice_get xs k ≡ Some x → slice_get (map f xs) k ≡ Some (f x)
get_map f [] k x e = absurd (cc)
get_map f (z ∷ xs) zero x e = ap (λ v. Some (f v)) (some_same z x e)
get_map f (z ∷ xs) (suc k) x e = get_map f xs k x e

pub map_size : {X Y : Type 0} (f : X → Y) (xs : List X) → length (map f xs) ≡ length xs
map_size f [] = refl
map_size f (x ∷ xs) = ap suc (map_size f xs)

pub map_take : {X Y : Type 0} (f : X → Y) (n : ℕ) (xs : List X) → map f (take n xs) ≡ take n (map f xs)
map_take f zero xs = refl
map_take f (suc n) [] = refl
map_take f (suc n) (x ∷ xs) = ap (λ ys. f x ∷ ys) (map_take f n xs)

pub map_drop : {X Y : Type 0} (f : X → Y) (n : ℕ) (xs : List X) → map f (drop n xs) ≡ drop n (map f xs)
map_drop f zero xs = refl
map_drop f (suc n) [] = refl
map_drop f (suc n) (x ∷ xs) = map_drop f n xs

map_both : {X Y : Type 0} (f : X → Y) (xs ys : List X) → map f (xs ++ ys) ≡ map f xs ++ map f ys
map_both f [] ys = refl
map_both f (x ∷ xs) ys = ap (λ zs. f x ∷ zs) (map_both f xs ys)

-- an item of a front stands there in the whole
pub take_get : {X : Type 0} (xs : List X) (n k : ℕ) (x : X) → slice_get (take n xs) k ≡ Some x → slice_get xs k ≡ Some x
take_get xs zero k x e = absurd (cc)
take_get [] (suc n) k x e = absurd (cc)
take_get (y ∷ xs) (suc n) zero x e = e
take_get (y ∷ xs) (suc n) (suc k) x e = take_get xs n k x e

pub take_inside : {X : Type 0} (xs : List X) (n k : ℕ) (x : X) → slice_get (take n xs) k ≡ Some x → k < n
take_inside xs zero k x e = absurd (cc)
take_inside [] (suc n) k x e = absurd (cc)
take_inside (y ∷ xs) (suc n) zero x e = omega arith
take_inside (y ∷ xs) (suc n) (suc k) x e = let l : k < n = take_inside xs n k x e in omega arith

pub take_size : {X : Type 0} (n : ℕ) (xs : List X) → n ≤ length xs → length (take n xs) ≡ n
take_size zero xs l = refl
take_size (suc n) [] l = absurd (omega arith)
take_size (suc n) (x ∷ xs) l = ap suc (take_size n xs (omega arith))

pub take_front : {X : Type 0} (ys zs : List X) (n : ℕ) → length ys ≡ n → take n (ys ++ zs) ≡ ys
take_front [] zs zero size = refl
take_front [] zs (suc n) size = absurd (omega (arith, size))
take_front (y ∷ ys) zs zero size = absurd (omega (arith, size))
take_front (y ∷ ys) zs (suc n) size = ap (λ xs. y ∷ xs) (take_front ys zs n (omega (arith, size)))

pub drop_front : {X : Type 0} (ys zs : List X) (n : ℕ) → length ys ≡ n → drop n (ys ++ zs) ≡ zs
drop_front [] zs zero size = refl
drop_front [] zs (suc n) size = absurd (omega (arith, size))
drop_front (y ∷ ys) zs zero size = absurd (omega (arith, size))
drop_front (y ∷ ys) zs (suc n) size = drop_front ys zs n (omega (arith, size))

pub parts_size : {X : Type 0} (n : ℕ) (xs ys : List X) → n ≤ length xs → length ys ≡ n → length (ys ++ drop n xs) ≡ length xs
parts_size zero xs [] l size = refl
parts_size zero xs (y ∷ ys) l size = absurd (omega (arith, size))
parts_size (suc n) xs [] l size = absurd (omega (arith, size))
parts_size (suc n) [] (y ∷ ys) l size = absurd (omega (arith, l))
parts_size (suc n) (x ∷ xs) (y ∷ ys) l size = ap suc (parts_size n xs ys (omega (arith, l)) (omega (arith, size)))

-- ---- calls of one engine

-- what a call of one box makes of all
pub called_one : {B : Type 0} (f : B → EngineSeen) (bs : List B) (i : ℕ) (R : EngineSeen → EngineSeen → Type 0) (b c : B) → i < length bs → b ≡ get_or bs i b → R (f (get_or bs i b)) (f c) → IsCalled i R (map f bs) (map f (slice_set bs i c))
called_one f bs i R b c l e h =
    let here : slice_get (map f bs) i ≡ Some (f b) = get_map f bs i b (slice_get_read bs (length bs) i b refl l e) in
    record {
      others = λ k n. ap (λ l. slice_get l k) (map-set f bs i c) ∙ get_set_other (map f bs) i k (f c) n;
      one = λ x at. (f c, ap (λ l. slice_get l i) (map-set f bs i c) ∙ get_set_same (map f bs) i (f c) (get_within (map f bs) i x at), subst (λ z. R z (f c)) (ap f (sym e) ∙ some_same (f b) x (sym here ∙ at)) h);
    }

-- the first so many engines were begun, and the others are as they were
pub record BegunUpTo (n : ℕ) (es fs : List EngineSeen) : Type 0 where
  pub below : (k : ℕ) (e : EngineSeen) → k < n → slice_get es k ≡ Some e → (f : EngineSeen) × (slice_get fs k ≡ Some f) × IsBegun e f
  pub above : (k : ℕ) → n ≤ k → slice_get fs k ≡ slice_get es k

pub none_begun : (es : List EngineSeen) → BegunUpTo 0 es es
none_begun es = record { below = λ k e l at. absurd (omega (arith, l)); above = λ k l. refl }

pub one_more : (n : ℕ) (es fs gs : List EngineSeen) → BegunUpTo n es fs → IsCalled n IsBegun fs gs → BegunUpTo (n + 1) es gs
one_more n es fs gs begun called = record {
  below = λ k e l at. ⊎_elim
      (λ same. here k e same at)
      (λ other. let o = begun.below k e (omega (arith, l, other)) at in (o.0, called.others k other ∙ o.1, o.2))
      (cases_eq k n);
  above = λ k l. called.others k (λ same. absurd (omega (arith, l, same))) ∙ begun.above k (omega (arith, l));
}
  where
    here : (k : ℕ) (e : EngineSeen) → k ≡ n → slice_get es k ≡ Some e → (f : EngineSeen) × (slice_get gs k ≡ Some f) × IsBegun e f
    here k e same at =
        let o = called.one e (begun.above n (omega arith) ∙ ap (slice_get es) (sym same) ∙ at) in
        (o.0, ap (slice_get gs) same ∙ o.1, o.2)

pub all_begun : (n : ℕ) (es fs : List EngineSeen) → length es ≤ n → BegunUpTo n es fs → Each IsBegun es fs
all_begun n es fs l begun i e at = let inside : i < length es = get_within es i e at in begun.below i e (omega (arith, inside, l)) at

-- ---- pairs

pub before_each : (R : EngineSeen → EngineSeen → Type 0) (es fs : List EngineSeen) (k : ℕ) (f : EngineSeen) → length fs ≡ length es → Each R es fs → slice_get fs k ≡ Some f → (e : EngineSeen) × (slice_get es k ≡ Some e) × R e f
before_each R es fs k f l g at =
    let n : k < length fs = get_within fs k f at in
    let x = within_get es k (omega (arith, n, l)) in
    let y = g k x.0 x.1 in
    (x.0, x.1, subst (R x.0) (some_same y.0 f (sym y.1 ∙ at)) y.2)

module _ (R : EngineSeen → EngineSeen → Type 0) where
  zip_of : (es fs : List EngineSeen) → length fs ≡ length es → Each R es fs → AllZip R es fs
  zip_of [] [] l h = tt
  zip_of [] (f ∷ fs) l h = absurd (omega (arith, l))
  zip_of (e ∷ es) [] l h = absurd (omega (arith, l))
  zip_of (e ∷ es) (f ∷ fs) l h =
      let o = h 0 e refl in
      (subst (R e) (some_same o.0 f (sym o.1)) o.2, zip_of es fs (omega (arith, l)) (λ i x at. h (suc i) x at))

  each_of : (es fs : List EngineSeen) → AllZip R es fs → Each R es fs
  each_of [] [] z i e at = absurd (cc)
  each_of [] (f ∷ fs) z i e at = absurd (cc)
  each_of (e ∷ es) [] z i x at = absurd z
  each_of (e ∷ es) (f ∷ fs) z zero x at = (f, refl, subst (λ y. R y f) (some_same e x at) z.0)
  each_of (e ∷ es) (f ∷ fs) z (suc i) x at = each_of es fs z.1 i x at

  zip_both : (es fs gs hs : List EngineSeen) → AllZip R es fs → AllZip R gs hs → AllZip R (es ++ gs) (fs ++ hs)
  zip_both [] [] gs hs z y = y
  zip_both [] (f ∷ fs) gs hs z y = absurd z
  zip_both (e ∷ es) [] gs hs z y = absurd z
  zip_both (e ∷ es) (f ∷ fs) gs hs z y = (z.0, zip_both es fs gs hs z.1 y)

  zip_take : (n : ℕ) (es fs : List EngineSeen) → AllZip R es fs → AllZip R (take n es) (take n fs)
  zip_take zero es fs z = tt
  zip_take (suc n) [] [] z = tt
  zip_take (suc n) [] (f ∷ fs) z = absurd z
  zip_take (suc n) (e ∷ es) [] z = absurd z
  zip_take (suc n) (e ∷ es) (f ∷ fs) z = (z.0, zip_take n es fs z.1)

  zip_drop : (n : ℕ) (es fs : List EngineSeen) → AllZip R es fs → AllZip R (drop n es) (drop n fs)
  zip_drop zero es fs z = z
  zip_drop (suc n) [] [] z = tt
  zip_drop (suc n) [] (f ∷ fs) z = absurd z
  zip_drop (suc n) (e ∷ es) [] z = absurd z
  zip_drop (suc n) (e ∷ es) (f ∷ fs) z = zip_drop n es fs z.1

  -- the same where one of each was moved
  pub each_moved : (i : ℕ) (es fs : List EngineSeen) → length fs ≡ length es → Each R es fs → Each R (moved_last i es) (moved_last i fs)
  each_moved i es fs l h =
      let z = zip_of es fs l h in
      each_of (moved_last i es) (moved_last i fs)
      (zip_both (remove es i) (remove fs i) (take 1 (drop i es)) (take 1 (drop i fs)) (zip_both (take i es) (take i fs) (drop (suc i) es) (drop (suc i) fs) (zip_take i es fs z) (zip_drop (suc i) es fs z))
      (zip_take 1 (drop i es) (drop i fs) (zip_drop i es fs z)))

  -- what holds of the first so many, where the others are as they were, holds of all
  pub each_whole : ((e : EngineSeen) → R e e) → (n : ℕ) (es fs : List EngineSeen) → Each R (take n es) (take n fs) → drop n fs ≡ drop n es → Each R es fs
  each_whole same zero es fs h rest i e at = (e, ap (λ l. slice_get l i) rest ∙ at, same e)
  each_whole same (suc n) [] fs h rest i e at = absurd (cc)
  each_whole same (suc n) (e ∷ es) [] h rest i x at = let o = h 0 e refl in absurd (none_there o.0 o.1)
    where
      none_there : (f : EngineSeen) → slice_get [] 0 ≡ Some f → ⊥
      none_there f is = cc
  each_whole same (suc n) (e ∷ es) (f ∷ fs) h rest zero x at = let o = h 0 e refl in (f, refl, subst (λ y. R y f) (some_same e x at) (subst (R e) (some_same o.0 f (sym o.1)) o.2))
  each_whole same (suc n) (e ∷ es) (f ∷ fs) h rest (suc i) x at = each_whole same n es fs (λ k y there. h (suc k) y there) rest i x at

-- ---- the one that was moved

one_there : {X : Type 0} (i : ℕ) (xs : List X) (x : X) → slice_get xs i ≡ Some x → take 1 (drop i xs) ≡ x ∷ []
one_there i [] x e = absurd (cc)
one_there zero (y ∷ xs) x e = ap (λ z. z ∷ []) (some_same y x e)
one_there (suc i) (y ∷ xs) x e = one_there i xs x e

removed_size : {X : Type 0} (i : ℕ) (xs : List X) (x : X) → slice_get xs i ≡ Some x → suc (length (remove xs i)) ≡ length xs
removed_size i [] x e = absurd (cc)
removed_size zero (y ∷ xs) x e = refl
removed_size (suc i) (y ∷ xs) x e = ap suc (removed_size i xs x e)

back_get : {X : Type 0} (xs : List X) (x : X) → slice_get (xs ++ x ∷ []) (length xs) ≡ Some x
back_get [] x = refl
back_get (y ∷ xs) x = back_get xs x

-- it stands at the last place
pub moved_there : {X : Type 0} (i n : ℕ) (xs : List X) (x : X) → n ≡ length xs → slice_get xs i ≡ Some x → slice_get (moved_last i xs) (n - 1) ≡ Some x
moved_there {X} i n xs x size e =
    let s : suc (length (remove xs i)) ≡ length xs = removed_size i xs x e in
    let here : n - 1 ≡ length (remove xs i) = omega (arith, s, size) in
    ap₂ (λ (ys : List X) (k : ℕ). slice_get (remove xs i ++ ys) k) (one_there i xs x e) here ∙ back_get (remove xs i) x

both_size : {X : Type 0} (xs ys : List X) → length (xs ++ ys) ≡ length xs + length ys
both_size [] ys = omega arith
both_size (x ∷ xs) ys = let rest : length (xs ++ ys) ≡ length xs + length ys = both_size xs ys in omega (arith, rest)

pub moved_size : {X : Type 0} (i : ℕ) (xs : List X) → i < length xs → length (moved_last i xs) ≡ length xs
moved_size i xs l =
    let x = within_get xs i l in
    let s : suc (length (remove xs i)) ≡ length xs = removed_size i xs x.0 x.1 in
    let one : length (take 1 (drop i xs)) ≡ 1 = ap length (one_there i xs x.0 x.1) in
    let two : length (moved_last i xs) ≡ length (remove xs i) + length (take 1 (drop i xs)) = both_size (remove xs i) (take 1 (drop i xs)) in
    omega (arith, s, one, two)

pub map_moved : {X Y : Type 0} (f : X → Y) (i : ℕ) (xs : List X) → map f (moved_last i xs) ≡ moved_last i (map f xs)
map_moved {X} {Y} f i xs =
    map_both f (remove xs i) (take 1 (drop i xs))
    ∙ ap₂ (λ (a b : List Y). a ++ b) (map_both f (take i xs) (drop (suc i) xs) ∙ ap₂ (λ (a b : List Y). a ++ b) (map_take f i xs) (map_drop f (suc i) xs)) (map_take f 1 (drop i xs) ∙ ap (take 1) (map_drop f i xs))

-- the first of what stands from a place on
pub front_of_rest : {X : Type 0} (i : ℕ) (xs : List X) → i < length xs → (d : X) × (take 1 (drop i xs) ≡ get_or xs i d ∷ [])
front_of_rest i [] l = absurd (omega (arith, l))
front_of_rest zero (x ∷ xs) l = (x, refl)
front_of_rest (suc i) (x ∷ xs) l = front_of_rest i xs (omega (arith, l))
