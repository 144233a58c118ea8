-- Lists of boxes, place by place, and what becomes of them.
use Rattle.std.proofs.Common.{◌≡◌, ◌∙◌, ℕ, zero, suc, ◌+◌, ◌-◌, ◌<◌, ◌≤◌, List, [], ◌∷◌, ◌++◌, drop, get_or, length, length-append, map, take, slice_get, slice_set, refl, sym, ap, ap₂, subst, arith, Option, Some, None}
use Rattle.std.specs.Prelude.{Result, Ok, Err, remove}
use Rattle.std.specs.List.{AllZip}
use Rattle.std.proofs.lemmas.List.{map-set}
use Rattle.std.proofs.lemmas.Option.{slice_get_read}
use Rattle.edge_io.specs.Causes.{Rose}
use Rattle.edge_io.specs.declared.sink.SinkFail.{SinkFail}
use Rattle.edge_io.specs.declared.sink.SinkFail.TheVariants as sinks
use Rattle.exchange.specs.Calls.{Each, IsCalled}
use Rattle.query_engine.specs.Engines.{last_place, moved_last}
use Rattle.test_runner.specs.Boxes.{AreSound}
use Rattle.remote_api.specs.Seen.{EngineSeen, KeepsStrays}
use Rattle.remote_api.specs.declared.frame.Stray.{Stray}
use Rattle.promql_tool.specs.Boxes.{HasLost, IsToBlame, KeepsBoxes, KeepsCalm, Lasts, LeavesBoxes, LeavesBut, LosesNone, cut_by}
use Rattle.promql_tool.specs.declared.fault.Cut.{Cut}
use Rattle.promql_tool.specs.declared.fault.Cut.TheVariants as cut
use Rattle.promql_tool.specs.declared.fault.Lost.{Lost}

-- ---- places

pub some_same : {X : Type 0} (a b : X) → Some a ≡ Some b → a ≡ b
some_same a b e = cc

pub get_within : {X : Type 0} (xs : List X) (i : ℕ) (x : X) → slice_get xs i ≡ Some x → i < length xs
get_within [] i x e = absurd (cc)
get_within (y ∷ xs) zero x e = omega arith
get_within (y ∷ xs) (suc i) x e = let l : i < length xs = get_within xs i x e in omega arith

pub within_get : {X : Type 0} (xs : List X) (i : ℕ) → i < length xs → (x : X) × (slice_get xs i ≡ Some x)
within_get [] i l = absurd (omega arith)
within_get (x ∷ xs) zero l = (x, refl)
within_get (x ∷ xs) (suc i) l = within_get xs i (omega arith)

get_set_same : {X : Type 0} (xs : List X) (i : ℕ) (w : X) → i < length xs → slice_get (slice_set xs i w) i ≡ Some w
get_set_same [] i w h = absurd (omega arith)
get_set_same (x ∷ xs) zero w h = refl
get_set_same (x ∷ xs) (suc i) w h = get_set_same xs i w (omega arith)

get_set_other : {X : Type 0} (xs : List X) (i j : ℕ) (w : X) → (j ≡ i → ⊥) → slice_get (slice_set xs i w) j ≡ slice_get xs j
get_set_other [] i j w h = refl
get_set_other (x ∷ xs) zero zero w h = absurd (h refl)
get_set_other (x ∷ xs) zero (suc j) w h = refl
get_set_other (x ∷ xs) (suc i) zero w h = refl
get_set_other (x ∷ xs) (suc i) (suc j) w h = get_set_other xs i j w (λ e. h (ap suc e))

get_map : {X Y : Type 0} (f : X → Y) (xs : List X) (k : ℕ) (x : X) → slice_get xs k ≡ Some x → slice_get (map f xs) k ≡ Some (f x)
get_map f [] k x e = absurd (cc)
get_map f (z ∷ xs) zero x e = ap (λ v. Some (f v)) (some_same z x e)
get_map f (z ∷ xs) (suc k) x e = get_map f xs k x e

pub map_size : {X Y : Type 0} (f : X → Y) (xs : List X) → length (map f xs) ≡ length xs
map_size f [] = refl
map_size f (x ∷ xs) = ap suc (map_size f xs)

map_take : {X Y : Type 0} (f : X → Y) (n : ℕ) (xs : List X) → map f (take n xs) ≡ take n (map f xs)
map_take f zero xs = refl
map_take f (suc n) [] = refl
map_take f (suc n) (x ∷ xs) = ap (λ ys. f x ∷ ys) (map_take f n xs)

map_drop : {X Y : Type 0} (f : X → Y) (n : ℕ) (xs : List X) → map f (drop n xs) ≡ drop n (map f xs)
map_drop f zero xs = refl
map_drop f (suc n) [] = refl
map_drop f (suc n) (x ∷ xs) = map_drop f n xs

map_both : {X Y : Type 0} (f : X → Y) (xs ys : List X) → map f (xs ++ ys) ≡ map f xs ++ map f ys
map_both f [] ys = refl
map_both f (x ∷ xs) ys = ap (λ zs. f x ∷ zs) (map_both f xs ys)

-- an item of a front stands there in the whole
pub take_get : {X : Type 0} (xs : List X) (n k : ℕ) (x : X) → slice_get (take n xs) k ≡ Some x → slice_get xs k ≡ Some x
take_get xs zero k x e = absurd (cc)
take_get [] (suc n) k x e = absurd (cc)
take_get (y ∷ xs) (suc n) zero x e = e
take_get (y ∷ xs) (suc n) (suc k) x e = take_get xs n k x e

pub take_inside : {X : Type 0} (xs : List X) (n k : ℕ) (x : X) → slice_get (take n xs) k ≡ Some x → k < n
take_inside xs zero k x e = absurd (cc)
take_inside [] (suc n) k x e = absurd (cc)
take_inside (y ∷ xs) (suc n) zero x e = omega arith
take_inside (y ∷ xs) (suc n) (suc k) x e = let l : k < n = take_inside xs n k x e in omega arith

-- and an item of the whole that stands early enough in the front
pub get_taken : {X : Type 0} (xs : List X) (n k : ℕ) (x : X) → k < n → slice_get xs k ≡ Some x → slice_get (take n xs) k ≡ Some x
get_taken xs zero k x l e = absurd (omega (arith, l))
get_taken [] (suc n) k x l e = absurd (cc)
get_taken (y ∷ xs) (suc n) zero x l e = e
get_taken (y ∷ xs) (suc n) (suc k) x l e = get_taken xs n k x (omega (arith, l)) e

-- what a call of one box makes of all
pub called_one : {B : Type 0} (f : B → EngineSeen) (bs : List B) (i : ℕ) (R : EngineSeen → EngineSeen → Type 0) (b c : B) → i < length bs → b ≡ get_or bs i b → R (f (get_or bs i b)) (f c) → IsCalled i R (map f bs) (map f (slice_set bs i c))
called_one f bs i R b c l e h =
    let here : slice_get (map f bs) i ≡ Some (f b) = get_map f bs i b (slice_get_read bs (length bs) i b refl l e) in
    record {
      others = λ k n. ap (λ l. slice_get l k) (map-set f bs i c) ∙ get_set_other (map f bs) i k (f c) n;
      one = λ x at. (f c, ap (λ l. slice_get l i) (map-set f bs i c) ∙ get_set_same (map f bs) i (f c) (get_within (map f bs) i x at), subst (λ z. R z (f c)) (ap f (sym e) ∙ some_same (f b) x (sym here ∙ at)) h);
    }

-- ---- pairs

module _ (R : EngineSeen → EngineSeen → Type 0) where
  zip_of : (es fs : List EngineSeen) → length fs ≡ length es → Each R es fs → AllZip R es fs
  zip_of [] [] l h = tt
  zip_of [] (f ∷ fs) l h = absurd (omega (arith, l))
  zip_of (e ∷ es) [] l h = absurd (omega (arith, l))
  zip_of (e ∷ es) (f ∷ fs) l h =
      let o = h 0 e refl in
      (subst (R e) (some_same o.0 f (sym o.1)) o.2, zip_of es fs (omega (arith, l)) (λ i x at. h (suc i) x at))

  each_of : (es fs : List EngineSeen) → AllZip R es fs → Each R es fs
  each_of [] [] z i e at = absurd (cc)
  each_of [] (f ∷ fs) z i e at = absurd (cc)
  each_of (e ∷ es) [] z i x at = absurd z
  each_of (e ∷ es) (f ∷ fs) z zero x at = (f, refl, subst (λ y. R y f) (some_same e x at) z.0)
  each_of (e ∷ es) (f ∷ fs) z (suc i) x at = each_of es fs z.1 i x at

  zip_both : (es fs gs hs : List EngineSeen) → AllZip R es fs → AllZip R gs hs → AllZip R (es ++ gs) (fs ++ hs)
  zip_both [] [] gs hs z y = y
  zip_both [] (f ∷ fs) gs hs z y = absurd z
  zip_both (e ∷ es) [] gs hs z y = absurd z
  zip_both (e ∷ es) (f ∷ fs) gs hs z y = (z.0, zip_both es fs gs hs z.1 y)

  zip_take : (n : ℕ) (es fs : List EngineSeen) → AllZip R es fs → AllZip R (take n es) (take n fs)
  zip_take zero es fs z = tt
  zip_take (suc n) [] [] z = tt
  zip_take (suc n) [] (f ∷ fs) z = absurd z
  zip_take (suc n) (e ∷ es) [] z = absurd z
  zip_take (suc n) (e ∷ es) (f ∷ fs) z = (z.0, zip_take n es fs z.1)

  zip_drop : (n : ℕ) (es fs : List EngineSeen) → AllZip R es fs → AllZip R (drop n es) (drop n fs)
  zip_drop zero es fs z = z
  zip_drop (suc n) [] [] z = tt
  zip_drop (suc n) [] (f ∷ fs) z = absurd z
  zip_drop (suc n) (e ∷ es) [] z = absurd z
  zip_drop (suc n) (e ∷ es) (f ∷ fs) z = zip_drop n es fs z.1

  -- the same where one of each was moved
  pub each_moved : (i : ℕ) (es fs : List EngineSeen) → length fs ≡ length es → Each R es fs → Each R (moved_last i es) (moved_last i fs)
  each_moved i es fs l h =
      let z = zip_of es fs l h in
      each_of (moved_last i es) (moved_last i fs)
      (zip_both (remove es i) (remove fs i) (take 1 (drop i es)) (take 1 (drop i fs)) (zip_both (take i es) (take i fs) (drop (suc i) es) (drop (suc i) fs) (zip_take i es fs z) (zip_drop (suc i) es fs z))
      (zip_take 1 (drop i es) (drop i fs) (zip_drop i es fs z)))

  -- what stands at a place now stood there before
  pub stood : (es fs : List EngineSeen) (k : ℕ) (f : EngineSeen) → length fs ≡ length es → Each R es fs → slice_get fs k ≡ Some f → (e : EngineSeen) × (slice_get es k ≡ Some e) × R e f
  stood es fs k f l h at =
      let n : k < length fs = get_within fs k f at in
      let x = within_get es k (omega (arith, n, l)) in
      let y = h k x.0 x.1 in
      (x.0, x.1, subst (R x.0) (some_same y.0 f (sym y.1 ∙ at)) y.2)

-- ---- the one that was moved

one_there : {X : Type 0} (i : ℕ) (xs : List X) (x : X) → slice_get xs i ≡ Some x → take 1 (drop i xs) ≡ x ∷ []
one_there i [] x e = absurd (cc)
one_there zero (y ∷ xs) x e = ap (λ z. z ∷ []) (some_same y x e)
one_there (suc i) (y ∷ xs) x e = one_there i xs x e

removed_size : {X : Type 0} (i : ℕ) (xs : List X) (x : X) → slice_get xs i ≡ Some x → suc (length (remove xs i)) ≡ length xs
removed_size i [] x e = absurd (cc)
removed_size zero (y ∷ xs) x e = refl
removed_size (suc i) (y ∷ xs) x e = ap suc (removed_size i xs x e)

back_get : {X : Type 0} (xs : List X) (x : X) → slice_get (xs ++ x ∷ []) (length xs) ≡ Some x
back_get [] x = refl
back_get (y ∷ xs) x = back_get xs x

-- it stands at the last place
pub moved_there : {X : Type 0} (i n : ℕ) (xs : List X) (x : X) → n ≡ length xs → slice_get xs i ≡ Some x → slice_get (moved_last i xs) (n - 1) ≡ Some x
moved_there {X} i n xs x size e =
    let s : suc (length (remove xs i)) ≡ length xs = removed_size i xs x e in
    let here : n - 1 ≡ length (remove xs i) = omega (arith, s, size) in
    ap₂ (λ (ys : List X) (k : ℕ). slice_get (remove xs i ++ ys) k) (one_there i xs x e) here ∙ back_get (remove xs i) x

pub moved_size : {X : Type 0} (i : ℕ) (xs : List X) → i < length xs → length (moved_last i xs) ≡ length xs
moved_size i xs l =
    let x = within_get xs i l in
    let s : suc (length (remove xs i)) ≡ length xs = removed_size i xs x.0 x.1 in
    let one : length (take 1 (drop i xs)) ≡ 1 = ap length (one_there i xs x.0 x.1) in
    let two : length (moved_last i xs) ≡ length (remove xs i) + length (take 1 (drop i xs)) = length-append (remove xs i) (take 1 (drop i xs)) in
    omega (arith, s, one, two)

pub map_moved : {X Y : Type 0} (f : X → Y) (i : ℕ) (xs : List X) → map f (moved_last i xs) ≡ moved_last i (map f xs)
map_moved {X} {Y} f i xs =
    map_both f (remove xs i) (take 1 (drop i xs))
    ∙ ap₂ (λ (a b : List Y). a ++ b) (map_both f (take i xs) (drop (suc i) xs) ∙ ap₂ (λ (a b : List Y). a ++ b) (map_take f i xs) (map_drop f (suc i) xs)) (map_take f 1 (drop i xs) ∙ ap (take 1) (map_drop f i xs))

-- ---- boxes that last

pub lasts_itself : (e : EngineSeen) → Lasts e e
lasts_itself e = record { tells = refl; faults = omega arith; sound = λ s. s }

lasts_on : (e f g : EngineSeen) → Lasts e f → Lasts f g → Lasts e g
lasts_on e f g a b = record { tells = b.tells ∙ a.tells; faults = omega (arith, a.faults, b.faults); sound = λ s. b.sound (a.sound s) }

pub calm_itself : (e : EngineSeen) → KeepsStrays e e
calm_itself e = record { strays = refl; stray = refl }

calm_on : (e f g : EngineSeen) → KeepsStrays e f → KeepsStrays f g → KeepsStrays e g
calm_on e f g a b = record { strays = b.strays ∙ a.strays; stray = b.stray ∙ a.stray }

each_on : (R : EngineSeen → EngineSeen → Type 0) → ((e f g : EngineSeen) → R e f → R f g → R e g) → (es fs gs : List EngineSeen) → Each R es fs → Each R fs gs → Each R es gs
each_on R on es fs gs a b i e at =
    let o = a i e at in
    let p = b i o.0 o.1 in
    (p.0, p.1, on e o.0 p.0 o.2 p.2)

pub kept_on : (es fs gs : List EngineSeen) → KeepsBoxes es fs → KeepsBoxes fs gs → KeepsBoxes es gs
kept_on es fs gs a b = record { many = b.many ∙ a.many; boxes = each_on Lasts lasts_on es fs gs a.boxes b.boxes }

pub still_itself : (es : List EngineSeen) → KeepsCalm es es
still_itself es = record {
  kept = record { many = refl; boxes = λ i e at. (e, at, lasts_itself e) };
  calm = λ i e at. (e, at, calm_itself e);
}

pub kept_itself : (es : List EngineSeen) → KeepsBoxes es es
kept_itself es = (still_itself es).kept

pub still_on : (es fs gs : List EngineSeen) → KeepsCalm es fs → KeepsCalm fs gs → KeepsCalm es gs
still_on es fs gs a b = record { kept = kept_on es fs gs a.kept b.kept; calm = each_on KeepsStrays calm_on es fs gs a.calm b.calm }

-- a count that rose later
pub rose_before : (a b c : ℕ) → a ≤ b → Rose b c → Rose a c
rose_before a b c l r = omega arith

-- a count that rose stays so
pub rose_after : (a b c : ℕ) → Rose a b → b ≤ c → Rose a c
rose_after a b c r l = omega arith

-- who is to blame now is so from before
blamed_since : (last : Option Stray) (es fs gs : List EngineSeen) → length fs ≡ length es → Each Lasts es fs → Each KeepsStrays es fs → IsToBlame last fs gs → IsToBlame last es gs
blamed_since None es fs gs many lasts calm h =
    let o = stood Lasts es fs (last_place fs) h.e many lasts h.e_at in
    let here : last_place fs ≡ last_place es = ap (λ n. n - 1) many in
    record {
      e = o.0;
      f = h.f;
      e_at = ap (slice_get es) (sym here) ∙ o.1;
      f_at = ap (slice_get gs) (sym here) ∙ h.f_at;
      rose = rose_before o.0.faults h.e.faults h.f.faults o.2.faults h.rose;
      unsound = λ s. h.unsound (o.2.sound s);
    }
blamed_since (Some one) es fs gs many lasts calm h =
    let o = stood Lasts es fs (last_place fs) h.e many lasts h.e_at in
    let q = stood KeepsStrays es fs (last_place fs) h.e many calm h.e_at in
    let same : q.0 ≡ o.0 = some_same q.0 o.0 (sym q.1 ∙ o.1) in
    let strays : h.e.strays ≡ o.0.strays = q.2.strays ∙ ap (λ (x : EngineSeen). x.strays) same in
    let here : last_place fs ≡ last_place es = ap (λ n. n - 1) many in
    record {
      e = o.0;
      f = h.f;
      e_at = ap (slice_get es) (sym here) ∙ o.1;
      f_at = ap (slice_get gs) (sym here) ∙ h.f_at;
      rose = rose_before o.0.strays h.e.strays h.f.strays (omega (arith, strays)) h.rose;
      last = h.last;
      untold = λ t. h.untold (o.2.tells ∙ t);
    }

pub lost_since : (es fs gs : List EngineSeen) (lost : Lost) → KeepsCalm es fs → HasLost lost fs gs → HasLost lost es gs
lost_since es fs gs lost a h =
    let kept = a.kept in
    let one : lost.engine < length es = omega (arith, h.one, kept.many) in
    let moved = each_moved Lasts lost.engine es fs kept.many kept.boxes in
    let calm = each_moved KeepsStrays lost.engine es fs kept.many a.calm in
    let many = moved_size lost.engine fs h.one ∙ kept.many ∙ sym (moved_size lost.engine es one) in
    record {
      one = one;
      many = h.many ∙ kept.many;
      boxes = each_on Lasts lasts_on (moved_last lost.engine es) (moved_last lost.engine fs) gs moved h.boxes;
      blamed = blamed_since lost.stray (moved_last lost.engine es) (moved_last lost.engine fs) gs many moved calm h.blamed;
    }

-- what an answer leaves of boxes that were kept before
pub but_since : (es fs gs : List EngineSeen) (why : Cut) → KeepsCalm es fs → LeavesBut why fs gs → LeavesBut why es gs
but_since es fs gs cut.Write a h = kept_on es fs gs a.kept h
but_since es fs gs cut.Memory a h = kept_on es fs gs a.kept h
but_since es fs gs (cut.Lost lost) a h = lost_since es fs gs lost a h

pub leaves_since : {T : Type 0} (es fs gs : List EngineSeen) (r : Result T Cut) → KeepsCalm es fs → LeavesBoxes r fs gs → LeavesBoxes r es gs
leaves_since es fs gs (Ok x) a h = still_on es fs gs a h
leaves_since es fs gs (Err why) a h = but_since es fs gs why a h

-- an answer that names no engine leaves all
pub kept_leaves : {T : Type 0} (es fs : List EngineSeen) (r : Result T Cut) → LosesNone r → KeepsCalm es fs → LeavesBoxes r es fs
kept_leaves es fs (Ok x) none a = a
kept_leaves es fs (Err cut.Write) none a = a.kept
kept_leaves es fs (Err cut.Memory) none a = a.kept
kept_leaves es fs (Err (cut.Lost lost)) none a = absurd none

-- sound boxes stay sound
pub sound_since : (n : ℕ) (es fs : List EngineSeen) → KeepsCalm es fs → AreSound (take n es) → AreSound (take n fs)
sound_since n es fs a sound i f at =
    let o = stood Lasts es fs i f a.kept.many a.kept.boxes (take_get fs n i f at) in
    o.2.sound (sound i o.0 (get_taken es n i o.0 (take_inside fs n i f at) o.1))

-- after a write that failed all boxes stand
pub write_keeps : (cause : SinkFail) (es : List EngineSeen) → LeavesBut (cut_by cause) es es
write_keeps sinks.Failed es = kept_itself es
write_keeps sinks.Memory es = kept_itself es

-- what holds of more boxes holds of fewer
pub sound_sooner : (n m : ℕ) (es : List EngineSeen) → n ≤ m → AreSound (take m es) → AreSound (take n es)
sound_sooner n m es few sound i e at =
    let inside : i < n = take_inside es n i e at in
    sound i e (get_taken es m i e (omega (arith, inside, few)) (take_get es n i e at))
