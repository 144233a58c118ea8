-- A window that slides: what is left of it, and what comes behind it, is the window of the later moment.
use Rattle.std.proofs.Common.{◌≡◌, ◌∙◌, Bool, true, false, [], ◌∷◌, ◌++◌, zero, suc, Option, None, Some, refl, sym, ap, subst, arith}
use Rattle.std.specs.Prelude.{ℤ, pos, ◌-ℤ◌, ◌<ℤ◌, ◌≤ℤ◌, ◌&&◌, int_lt, int_le, if◌then◌else◌}
use Rattle.std.specs.List.{cons_option, filter_map}
use Rattle.std.proofs.lemmas.Int.{ints}
use Rattle.promql_meaning.specs.Selecting.{between, fresh_sample, sample_times, sample_values, window}
use Rattle.sample_store.specs.Samples.{Samples}
use Rattle.series_marks.specs.Reaches.{window_edge}
use Rattle.series_marks.specs.Reads.{Rises, Sample, after, in_span, until}
use Rattle.series_marks.specs.Walked.{after_after, rises_after, rises_next, span_is}
use Rattle.step_batch.specs.Columns.{Columns, columns_behind, columns_from, early}
use Rattle.ticks.specs.Edges.{before, is_from-later}
use Rattle.ticks.specs.declared.moment.Ms.{Ms}
use Rattle.xfrac.specs.declared.value.Held.TheVariants.{Value, Stale}
use Rattle.xfrac.specs.declared.value.XFrac.{XFrac}
use Rattle.op_window.specs.Sliding.{Fresh, behind, columns_of, with_samples}
use Rattle.op_window.proofs.Fills.{columns_both}

-- ---- edges

pub edge_up : (closed : Bool) (range m : ℤ) → pos 0 <ℤ range → window_edge closed range m ≤ℤ m
edge_up false range m h = omega (arith, ints, h)
edge_up true range m h = omega (arith, ints, h)

edge_later : (closed : Bool) (range a b : ℤ) → a ≤ℤ b → window_edge closed range a ≤ℤ window_edge closed range b
edge_later false range a b h = omega (arith, ints, h)
edge_later true range a b h = omega (arith, ints, h)

le_both : (a b c : ℤ) → a ≤ℤ b → b ≤ℤ c → a ≤ℤ c
le_both a b c h k = omega (arith, ints, h, k)

le_same : (a : ℤ) → a ≤ℤ a
le_same a = omega (arith, ints)

-- a window of the meaning is what lies behind the last time before it, up to its moment
between_is : (closed : Bool) (edge m : ℤ) (S : Samples) → between closed edge m S ≡ in_span (before closed edge) m S
between_is closed edge m [] = refl
between_is closed edge m (x ∷ xs) =
    let rest = between_is closed edge m xs in
    ap (λ (q : Bool). if q && int_le x.0.0 m then x ∷ between closed edge m xs else between closed edge m xs) (is_from-later closed edge x.0.0)
    ∙ elim (int_lt (before closed edge) x.0.0 && int_le x.0.0 m) as (λ q. (if q then x ∷ between closed edge m xs else between closed edge m xs) ≡ (if q then x ∷ in_span (before closed edge) m xs else in_span (before closed edge) m xs))
    [ true ↦ ap (λ (ss : Samples). x ∷ ss) rest | false ↦ rest ]

-- ---- two moments

pub until_split : (a b : ℤ) (T : Samples) → a ≤ℤ b → until b T ≡ until a T ++ until b (after a T)
until_split a b [] h = refl
until_split a b (x ∷ xs) h = elim (int_lt a x.0.0) as (λ c. int_lt a x.0.0 ≡ c → until b (x ∷ xs) ≡ (if c then [] else x ∷ until a xs) ++ until b (if c then x ∷ xs else after a xs)) [
  | true ↦ λ e. refl
  | false ↦ λ e. let f : int_lt b x.0.0 ≡ false = grind (arith, ints, h, e) in rw f (ap (λ (zs : Samples). x ∷ zs) (until_split a b xs h))
] refl

after_split : (d d' : ℤ) (Y X : Samples) → d ≤ℤ d' → after d' (after d Y ++ X) ≡ after d' (Y ++ X)
after_split d d' [] X h = refl
after_split d d' (y ∷ Y) X h = elim (int_lt d y.0.0) as (λ c. int_lt d y.0.0 ≡ c → after d' ((if c then y ∷ Y else after d Y) ++ X) ≡ after d' (y ∷ Y ++ X)) [
  | true ↦ λ e. refl
  | false ↦ λ e. let f : int_lt d' y.0.0 ≡ false = grind (arith, ints, h, e) in rw f (after_split d d' Y X h)
] refl

after_until : (d m : ℤ) (X : Samples) → d ≤ℤ m → after d (until m X) ≡ until m (after d X)
after_until d m [] h = refl
after_until d m (x ∷ xs) h = elim (int_lt d x.0.0) as (λ c. int_lt d x.0.0 ≡ c → after d (until m (x ∷ xs)) ≡ until m (if c then x ∷ xs else after d xs)) [
  | true ↦ λ e. elim (int_lt m x.0.0) as (λ k. after d (if k then [] else x ∷ until m xs) ≡ (if k then [] else x ∷ until m xs)) [ true ↦ refl | false ↦ rw e refl ]
  | false ↦ λ e. let f : int_lt m x.0.0 ≡ false = grind (arith, ints, h, e) in rw (f, e) (after_until d m xs h)
] refl

-- ---- markers are left out

joined : (X Y : Samples) → filter_map fresh_sample (X ++ Y) ≡ filter_map fresh_sample X ++ filter_map fresh_sample Y
joined [] Y = refl
joined (x ∷ X) Y = ap (cons_option (fresh_sample x)) (joined X Y) ∙ by (fresh_sample x)
  where
    by : (o : Option (Ms × XFrac)) → cons_option o (filter_map fresh_sample X ++ filter_map fresh_sample Y) ≡ cons_option o (filter_map fresh_sample X) ++ filter_map fresh_sample Y
    by None = refl
    by (Some v) = refl

-- behind a later sample all are later
all_behind : (d : ℤ) (x : Sample) (xs : Samples) → Rises (Some x) xs → int_lt d x.0.0 ≡ true → behind d (filter_map fresh_sample xs) ≡ filter_map fresh_sample xs
all_behind d x [] r h = refl
all_behind d x ((t, Value v) ∷ ys) r h = let e : int_lt d t.0 ≡ true = grind (arith, ints, h, r.0) in rw e refl
all_behind d x ((t, Stale) ∷ ys) r h = let e : int_lt d t.0 ≡ true = grind (arith, ints, h, r.0) in all_behind d (t, Stale) ys r.1 e

head_behind : (d : ℤ) (x : Sample) (xs : Samples) → Rises (Some x) xs → int_lt d x.0.0 ≡ true → behind d (filter_map fresh_sample (x ∷ xs)) ≡ filter_map fresh_sample (x ∷ xs)
head_behind d (t, Value v) xs r h = rw h refl
head_behind d (t, Stale) xs r h = all_behind d (t, Stale) xs r h

skip_behind : (d : ℤ) (x : Sample) (xs : Samples) → int_lt d x.0.0 ≡ false → behind d (filter_map fresh_sample (x ∷ xs)) ≡ behind d (filter_map fresh_sample xs)
skip_behind d (t, Value v) xs h = rw h refl
skip_behind d (t, Stale) xs h = refl

behind_fresh : (d : ℤ) (Z : Samples) → Rises None Z → behind d (filter_map fresh_sample Z) ≡ filter_map fresh_sample (after d Z)
behind_fresh d [] r = refl
behind_fresh d (x ∷ xs) r = elim (int_lt d x.0.0) as (λ c. int_lt d x.0.0 ≡ c → behind d (filter_map fresh_sample (x ∷ xs)) ≡ filter_map fresh_sample (if c then x ∷ xs else after d xs)) [
  | true ↦ λ e. head_behind d x xs r e
  | false ↦ λ e. skip_behind d x xs e ∙ behind_fresh d xs (rises_next x xs r)
] refl

rises_until : (m : ℤ) (l : Option Sample) (T : Samples) → Rises l T → Rises l (until m T)
rises_until m l [] r = r
rises_until m None (x ∷ xs) r = elim (int_lt m x.0.0) as (λ c. Rises None (if c then [] else x ∷ until m xs)) [ true ↦ tt | false ↦ rises_until m (Some x) xs r ]
rises_until m (Some p) (x ∷ xs) r = elim (int_lt m x.0.0) as (λ c. Rises (Some p) (if c then [] else x ∷ until m xs)) [ true ↦ tt | false ↦ (r.0, rises_until m (Some x) xs r.1) ]

rises_cut : (d : ℤ) (Y X : Samples) → Rises None (Y ++ X) → Rises None (after d Y ++ X)
rises_cut d [] X r = r
rises_cut d (y ∷ Y) X r = elim (int_lt d y.0.0) as (λ c. Rises None ((if c then y ∷ Y else after d Y) ++ X)) [ true ↦ r | false ↦ rises_cut d Y X (rises_next y (Y ++ X) r) ]

-- ---- columns

columns_left : (d : ℤ) (K : Fresh) → columns_behind d (columns_of K) ≡ columns_of (behind d K)
columns_left d [] = refl
columns_left d (s ∷ K) = elim (int_lt d s.0.0) as (λ c. columns_from (if c then zero else suc (early d (sample_times K))) (s.0 ∷ sample_times K) (s.1 ∷ sample_values K) ≡ columns_of (if c then s ∷ K else behind d K)) [
  | true ↦ refl
  | false ↦ columns_left d K
]

-- ---- the window

window_after : (closed : Bool) (e m range : ℤ) (S : Samples) → Rises None S → e ≤ℤ window_edge closed range m → pos 0 <ℤ range
    → filter_map fresh_sample (after (window_edge closed range m) (until m (after e S))) ≡ window closed m range S
window_after closed e m range S r h w =
    let d = window_edge closed range m in
    ap (filter_map fresh_sample) (after_until d m (after e S) (edge_up closed range m w) ∙ ap (until m) (after_after e d S h) ∙ span_is d m S r ∙ sym (between_is closed (m -ℤ range) m S))

window_begun : (closed : Bool) (e m range : ℤ) (S : Samples) → Rises None S → e ≤ℤ window_edge closed range m → pos 0 <ℤ range
    → behind (window_edge closed range m) (filter_map fresh_sample (until m (after e S))) ≡ window closed m range S
window_begun closed e m range S r h w = behind_fresh (window_edge closed range m) (until m (after e S)) (rises_until m None (after e S) (rises_after e S r)) ∙ window_after closed e m range S r h w

window_slides : (closed : Bool) (e a b range : ℤ) (S : Samples) → Rises None S → e ≤ℤ window_edge closed range a → a ≤ℤ b → pos 0 <ℤ range
    → behind (window_edge closed range b) (window closed a range S ++ filter_map fresh_sample (until b (after a (after e S)))) ≡ window closed b range S
window_slides closed e a b range S r h l w =
    let T = after e S in
    let t = rises_after e S r in
    let d = window_edge closed range a in
    let d' = window_edge closed range b in
    let dd : d ≤ℤ d' = edge_later closed range a b l in
    let ed : e ≤ℤ d' = le_both e d d' h dd in
    let lasting : Rises None (after d (until a T) ++ until b (after a T)) = rises_cut d (until a T) (until b (after a T)) (subst (Rises None) (until_split a b T l) (rises_until b None T t)) in
    ap (λ (z : Fresh). behind d' (z ++ filter_map fresh_sample (until b (after a T)))) (sym (window_after closed e a range S r h w))
    ∙ ap (behind d') (sym (joined (after d (until a T)) (until b (after a T))))
    ∙ behind_fresh d' (after d (until a T) ++ until b (after a T)) lasting
    ∙ ap (filter_map fresh_sample) (after_split d d' (until a T) (until b (after a T)) dd ∙ ap (after d') (sym (until_split a b T l)))
    ∙ window_after closed e b range S r ed w

-- the same of columns, at the edge that the kernel has
pub window_begun_at : (closed : Bool) (edge m range : ℤ) (S : Samples) (old new : Columns) → Rises None S → edge ≡ window_edge closed range m → pos 0 <ℤ range → old ≡ columns_of []
    → new ≡ with_samples old (filter_map fresh_sample (until m (after edge S))) → columns_behind edge new ≡ columns_of (window closed m range S)
window_begun_at closed edge m range S old new r e w was made =
    let fresh = filter_map fresh_sample (until m (after edge S)) in
    ap (columns_behind edge) (made ∙ ap (λ (c : Columns). with_samples c fresh) was) ∙ columns_left edge fresh
    ∙ ap (λ (z : ℤ). columns_of (behind z fresh)) e
    ∙ ap columns_of (window_begun closed edge m range S r (subst (λ (z : ℤ). z ≤ℤ window_edge closed range m) (sym e) (le_same (window_edge closed range m))) w)

pub window_slides_at : (closed : Bool) (e a b range edge : ℤ) (S : Samples) (old new : Columns) → Rises None S → e ≤ℤ window_edge closed range a → a ≤ℤ b → edge ≡ window_edge closed range b → pos 0 <ℤ range
    → old ≡ columns_of (window closed a range S) → new ≡ with_samples old (filter_map fresh_sample (until b (after a (after e S)))) → columns_behind edge new ≡ columns_of (window closed b range S)
window_slides_at closed e a b range edge S old new r h l is w was made =
    let fresh = filter_map fresh_sample (until b (after a (after e S))) in
    ap (columns_behind edge) (made ∙ ap (λ (c : Columns). with_samples c fresh) was ∙ columns_both (window closed a range S) fresh)
    ∙ columns_left edge (window closed a range S ++ fresh) ∙ ap (λ (z : ℤ). columns_of (behind z (window closed a range S ++ fresh))) is
    ∙ ap columns_of (window_slides closed e a b range S r h l w)
