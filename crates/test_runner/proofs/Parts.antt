-- What engines hold, as their parts are loaded and cleared.
use Rattle.std.proofs.Common.{◌≡◌, ◌∙◌, ℕ, zero, suc, ◌+◌, ◌<◌, ◌≤◌, ◌⊎◌, ◌&&◌, ⊎_elim, Bool, true, false, cond, List, [], ◌∷◌, ◌++◌, length, map, slice_get, Option, None, Some, Result, Ok, Err, IsErr, unwrap_or, refl, sym, ap, subst, arith, leb-true, le-leb}
use Rattle.std.specs.Prelude.{Contains, IfSome, IsOk, IsSome, bytes_eq, is_none, nat_le, slice_index_or, ⊤}
use Rattle.std.specs.BTreeMap.{insert_entry}
use Rattle.std.specs.Cmp.Lexicographic.{texts_ties}
use Rattle.std.specs.List.{AllByRecursion}
use Rattle.std.specs.Map.{lookup}
use Rattle.std.specs.Option.{option_map}
use Rattle.std.specs.Ordering.{is_eq}
use Rattle.std.specs.declared.cmp.Ordering.{Ordering}
use Rattle.std.specs.declared.cmp.Ordering.TheVariants.{Less, Equal, Greater}
use Rattle.std.proofs.lemmas.Bool.{cases_eq}
use Rattle.std.proofs.lemmas.Slice.Eq.{bytes_eq-Decides}
use Rattle.exchange.specs.Calls.{IsCalled}
use Rattle.label_set.specs.LabelEquality.{labels_decide, labels_eq}
use Rattle.label_set.specs.Labels.{IsLabelSet, byte_cmp, value_at, value_of}
use Rattle.parting_laws.specs.PartLaws.{NothingIsParted, PutsStayParted}
use Rattle.parting_laws.specs.Parted.{Engine, HoldsItsOwn, IsPut, MayBeDeclared, Parted, declared_to, has_declared, has_pair, samples_under, takes, with_samples}
use Rattle.remote_api.specs.Seen.{EngineSeen, HasLabels, HasLoaded, Holding, IsBegun, IsCleared, MayLoad, cleared, loaded_with}
use Rattle.sample_store.specs.Samples.{AllSeries, Samples, held_in, limit_broken, put_entry, refusal_beside, refusal_of, sample_count, samples_of, time_cmp, with_sample}
use Rattle.sample_store.specs.declared.refusal.StoreRefusal.{StoreRefusal}
use Rattle.sample_store.specs.declared.refusal.StoreRefusal.TheVariants.{TooManySamples, TooManySeries}
use Rattle.script_read.specs.Series.{LabelList}
use Rattle.ticks.specs.declared.moment.Ms.{Ms}
use Rattle.xfrac.specs.declared.value.Held.{Held}
use Rattle.test_runner.specs.Loading.{HasPut, MayPut}
use Rattle.test_runner.specs.Loads.{engine_of, sample_put, unless_refused}
use Rattle.test_runner.specs.Parts.{AreCalled, AreDeclaredTo, AreNoMore, AreUnasked, HasGone, HaveBoxes, HoldParts, IsHeldBy, MayBeLoaded}
use Rattle.test_runner.specs.declared.fault.RunnerFault.{RunnerFault}
use Rattle.test_runner.proofs.Places.{engine_at}

-- ---- lists

pub some_same : {X : Type 0} (a b : X) → Some a ≡ Some b → a ≡ b
some_same a b e = cc

get_within : {X : Type 0} (xs : List X) (i : ℕ) (x : X) → slice_get xs i ≡ Some x → i < length xs
get_within [] i x e = absurd (cc)
get_within (y ∷ xs) zero x e = omega arith
get_within (y ∷ xs) (suc i) x e = let l : i < length xs = get_within xs i x e in omega arith

within_get : {X : Type 0} (xs : List X) (i : ℕ) → i < length xs → (x : X) × (slice_get xs i ≡ Some x)
within_get [] i l = absurd (omega arith)
within_get (x ∷ xs) zero l = (x, refl)
within_get (x ∷ xs) (suc i) l = within_get xs i (omega arith)

-- what holds of all holds of one
one_holds : {X : Type 0} (P : X → Type 0) (xs : List X) (i : ℕ) (x : X) → AllByRecursion P xs → slice_get xs i ≡ Some x → P x
one_holds P [] i x all e = absurd (cc)
one_holds P (y ∷ xs) zero x all e = subst P (some_same y x e) all.0
one_holds P (y ∷ xs) (suc i) x all e = one_holds P xs i x all.1 e

-- what is made of a thing at a place
map_at : {X Y : Type 0} (f : X → Y) (xs : List X) (i : ℕ) (y : Y) → slice_get (map f xs) i ≡ Some y → (x : X) × (slice_get xs i ≡ Some x) × (f x ≡ y)
map_at f [] i y e = absurd (cc)
map_at f (x ∷ xs) zero y e = (x, refl, some_same (f x) y e)
map_at f (x ∷ xs) (suc i) y e = map_at f xs i y e

get_map : {X Y : Type 0} (f : X → Y) (xs : List X) (i : ℕ) (x : X) → slice_get xs i ≡ Some x → slice_get (map f xs) i ≡ Some (f x)
get_map f [] i x e = absurd (cc)
get_map f (y ∷ xs) zero x e = ap (λ z. Some (f z)) (some_same y x e)
get_map f (y ∷ xs) (suc i) x e = get_map f xs i x e

-- a list around one of its places
record Around {X : Type 0} (xs : List X) (i : ℕ) (x : X) : Type 0 where
  front : List X
  back : List X
  whole : xs ≡ front ++ x ∷ back
  here : (y : X) → slice_get (front ++ y ∷ back) i ≡ Some y
  there : (y : X) (k : ℕ) → (k ≡ i → ⊥) → slice_get (front ++ y ∷ back) k ≡ slice_get xs k

others_first : {X : Type 0} (y z : X) (xs : List X) (k : ℕ) → (k ≡ zero → ⊥) → slice_get (z ∷ xs) k ≡ slice_get (y ∷ xs) k
others_first y z xs zero n = absurd (n refl)
others_first y z xs (suc k) n = refl

others_later : {X : Type 0} (y : X) (xs ys : List X) (i : ℕ) → ((k : ℕ) → (k ≡ i → ⊥) → slice_get ys k ≡ slice_get xs k) → (k : ℕ) → (k ≡ suc i → ⊥) → slice_get (y ∷ ys) k ≡ slice_get (y ∷ xs) k
others_later y xs ys i same zero n = refl
others_later y xs ys i same (suc k) n = same k (λ e. n (ap suc e))

around : {X : Type 0} (xs : List X) (i : ℕ) (x : X) → slice_get xs i ≡ Some x → Around xs i x
around [] i x e = absurd (cc)
around (y ∷ xs) zero x e = record { front = []; back = xs; whole = ap (λ z. z ∷ xs) (some_same y x e); here = λ z. refl; there = λ z k n. others_first y z xs k n }
around (y ∷ xs) (suc i) x e =
    let a = around xs i x e in
    record { front = y ∷ a.front; back = a.back; whole = ap (λ l. y ∷ l) a.whole; here = a.here; there = λ z. others_later y xs (a.front ++ z ∷ a.back) i (a.there z) }

map_around : {X Y : Type 0} (f : X → Y) (front back : List X) (x y : X) → f y ≡ f x → map f (front ++ y ∷ back) ≡ map f (front ++ x ∷ back)
map_around f [] back x y e = ap (λ z. z ∷ map f back) e
map_around f (w ∷ front) back x y e = ap (λ l. f w ∷ l) (map_around f front back x y e)

-- ---- labels

both : (a b : Bool) → a && b ≡ true → (a ≡ true) × (b ≡ true)
both true b e = (refl, e)
both false b e = absurd (cc)

contains_more : {X : Type 0} (y : X) (xs : List X) (x : X) → Contains xs x → Contains (y ∷ xs) x
contains_more y xs x c = (suc c.0, omega (arith, c.1), c.2)

value_held : (labels : LabelList) (name value : List ℕ) → value_of labels name ≡ value → (value ≡ [] → ⊥) → Contains labels (name, value)
value_held [] name value e ne = absurd (ne (sym e))
value_held (p ∷ labels) name value e ne = by (byte_cmp name p.0) refl e (λ h. value_held labels name value h ne)
  where
    by : (r : Ordering) → byte_cmp name p.0 ≡ r → unwrap_or (cond (is_eq r) (Some p.1) (value_at labels name)) [] ≡ value → (value_of labels name ≡ value → Contains labels (name, value)) → Contains (p ∷ labels) (name, value)
    by Equal h s later =
        let same : name ≡ p.0 = (bytes_eq-Decides name p.0).0 (texts_ties name p.0 ∙ ap is_eq h) in
        (0, omega arith, ap (λ (n : List ℕ). (n, p.1)) (sym same) ∙ ap (λ (v : List ℕ). (name, v)) s)
    by Less h s later = contains_more p labels (name, value) (later s)
    by Greater h s later = contains_more p labels (name, value) (later s)

has_labels : (declared labels : LabelList) → AllByRecursion (λ (p : List ℕ × List ℕ). p.1 ≡ [] → ⊥) declared → has_declared declared labels ≡ true → HasLabels declared labels
has_labels declared labels filled has pair c = go declared filled has c.0 c.1 c.2
  where
    go : (d : LabelList) → AllByRecursion (λ (p : List ℕ × List ℕ). p.1 ≡ [] → ⊥) d → has_declared d labels ≡ true → (k : ℕ) → k < length d → slice_index_or d k pair ≡ pair → Contains labels pair
    go [] f h k l s = absurd (omega (arith, l))
    go (p ∷ d) f h zero l s =
        let all = both (has_pair labels p) (has_declared d labels) h in
        subst (λ (q : List ℕ × List ℕ). Contains labels q) s (value_held labels p.0 p.1 ((bytes_eq-Decides (value_of labels p.0) p.1).0 all.0) f.0)
    go (p ∷ d) f h (suc k) l s = go d f.1 (both (has_pair labels p) (has_declared d labels) h).1 k (omega (arith, l)) s

-- ---- one sample more

labels_itself : (names : LabelList) → labels_eq names names ≡ true
labels_itself names = (labels_decide names names (labels_eq names names) refl).1 refl

labels_apart : (a b : LabelList) → (a ≡ b → ⊥) → labels_eq a b ≡ false
labels_apart a b ne = by (labels_eq a b) refl
  where
    by : (r : Bool) → labels_eq a b ≡ r → labels_eq a b ≡ false
    by false e = e
    by true e = absurd (ne ((labels_decide a b (labels_eq a b) refl).0 e))

found_put : (series : AllSeries) (names : LabelList) (more : Samples) → lookup (labels_eq names) (put_entry labels_eq series names more) ≡ Some more
found_put [] names more = rw (labels_itself names) refl
found_put (s ∷ series) names more = by (labels_eq names s.0) refl (found_put series names more)
  where
    by : (r : Bool) → labels_eq names s.0 ≡ r → lookup (labels_eq names) (put_entry labels_eq series names more) ≡ Some more
        → lookup (labels_eq names) (cond r ((s.0, more) ∷ series) (s ∷ put_entry labels_eq series names more)) ≡ Some more
    by true e rest = rw e refl
    by false e rest = rw e rest

found_beside : (series : AllSeries) (names other : LabelList) (more : Samples) → (names ≡ other → ⊥) → lookup (labels_eq other) (put_entry labels_eq series names more) ≡ lookup (labels_eq other) series
found_beside [] names other more ne = rw (labels_apart other names (λ e. ne (sym e))) refl
found_beside (s ∷ series) names other more ne = by (labels_eq names s.0) refl (found_beside series names other more ne)
  where
    by : (r : Bool) → labels_eq names s.0 ≡ r → lookup (labels_eq other) (put_entry labels_eq series names more) ≡ lookup (labels_eq other) series
        → lookup (labels_eq other) (cond r ((s.0, more) ∷ series) (s ∷ put_entry labels_eq series names more)) ≡ lookup (labels_eq other) (s ∷ series)
    by true e rest =
        let same : names ≡ s.0 = (labels_decide names s.0 (labels_eq names s.0) refl).0 e in
        rw (labels_apart other s.0 (λ is. ne (same ∙ sym is))) refl
    by false e rest = ap (cond (labels_eq other s.0) (Some s.1)) rest

put_under : (series : AllSeries) (labels : LabelList) (more : Samples) → IsPut series labels more (put_entry labels_eq series labels more)
put_under series labels more other = by (labels_eq labels other) refl
  where
    by : (r : Bool) → labels_eq labels other ≡ r → samples_under (put_entry labels_eq series labels more) other ≡ cond (labels_eq labels other) (Some more) (samples_under series other)
    by true e =
        let same : labels ≡ other = (labels_decide labels other (labels_eq labels other) refl).0 e in
        rw e (subst (λ (n : LabelList). samples_under (put_entry labels_eq series labels more) n ≡ Some more) same (found_put series labels more))
    by false e =
        let apart : labels ≡ other → ⊥ = λ same. let t : labels_eq labels other ≡ true = (labels_decide labels other (labels_eq labels other) refl).1 same in (cc) in
        rw e (found_beside series labels other more apart)

put_length : (series : AllSeries) (names : LabelList) (more : Samples) → length (put_entry labels_eq series names more) ≡ length series + cond (is_none (samples_under series names)) 1 0
put_length [] names more = refl
put_length (s ∷ series) names more = by (labels_eq names s.0) (put_length series names more)
  where
    by : (r : Bool) → length (put_entry labels_eq series names more) ≡ length series + cond (is_none (samples_under series names)) 1 0
        → length (cond r ((s.0, more) ∷ series) (s ∷ put_entry labels_eq series names more)) ≡ suc (length series) + cond (is_none (cond r (Some s.1) (samples_under series names))) 1 0
    by true rest = omega arith
    by false rest = omega (arith, rest)

put_count : (series : AllSeries) (names : LabelList) (more : Samples) → sample_count (put_entry labels_eq series names more) + length (samples_of series names) ≡ sample_count series + length more
put_count [] names more = omega arith
put_count (s ∷ series) names more = by (labels_eq names s.0) (put_count series names more)
  where
    by : (r : Bool) → sample_count (put_entry labels_eq series names more) + length (samples_of series names) ≡ sample_count series + length more
        → sample_count (cond r ((s.0, more) ∷ series) (s ∷ put_entry labels_eq series names more)) + length (unwrap_or (cond r (Some s.1) (samples_under series names)) []) ≡ length s.1 + sample_count series + length more
    by true rest = omega arith
    by false rest = omega (arith, rest)

insert_longer : (es : Samples) (at : Ms) (held : Held) → length es ≤ length (insert_entry time_cmp es at held)
insert_longer [] at held = omega arith
insert_longer (e ∷ es) at held =
    let later = insert_longer es at held in
    elim (time_cmp at e.0) as (λ r. time_cmp at e.0 ≡ r → suc (length es) ≤ length (insert_entry time_cmp (e ∷ es) at held)) [
      | Less ↦ λ h. rw h (omega arith)
      | Equal ↦ λ h. rw h (omega arith)
      | Greater ↦ λ h. rw h (omega (arith, later))
    ] refl

module _ (some all : AllSeries) (labels : LabelList) (at : Ms) (held : Held) (no_more : AreNoMore some all) where
  -- all of them have a sample more
  more_all : AreNoMore some (with_sample all labels at held)
  more_all =
      let more = insert_entry time_cmp (samples_of all labels) at held in
      let many = put_length all labels more in
      let count = put_count all labels more in
      let longer = insert_longer (samples_of all labels) at held in
      record { series = omega (arith, many, no_more.series); samples = omega (arith, count, longer, no_more.samples) }

  module _ (same : samples_under some labels ≡ samples_under all labels) where
    same_samples : samples_of some labels ≡ samples_of all labels
    same_samples = ap (λ (o : Option Samples). unwrap_or o []) same

    -- some of them as well
    more_both : AreNoMore (with_sample some labels at held) (with_sample all labels at held)
    more_both =
        let mine = insert_entry time_cmp (samples_of some labels) at held in
        let more = insert_entry time_cmp (samples_of all labels) at held in
        let many = put_length all labels more in
        let few = put_length some labels mine in
        let news = ap (λ (o : Option Samples). cond {A = ℕ} (is_none o) 1 0) same in
        let count = put_count all labels more in
        let fewer = put_count some labels mine in
        let old = ap length same_samples in
        let new = ap (λ (xs : Samples). length (insert_entry time_cmp xs at held)) same_samples in
        record { series = omega (arith, many, few, news, no_more.series); samples = omega (arith, count, fewer, old, new, no_more.samples) }

    -- what the whole takes the part takes
    part_takes : refusal_of all labels at held ≡ None → refusal_of some labels at held ≡ None
    part_takes free = subst (λ (o : Option Held). refusal_beside o (limit_broken some labels) held ≡ None) (sym (ap (λ (xs : Samples). held_in xs at) same_samples))
        (beside (held_in (samples_of all labels) at) (limits (is_none (samples_under all labels)) (ap (λ (o : Option Samples). is_none o) same)) free)
      where
        beside : (o : Option Held) → (limit_broken all labels ≡ None → limit_broken some labels ≡ None) → refusal_beside o (limit_broken all labels) held ≡ None → refusal_beside o (limit_broken some labels) held ≡ None
        beside None broken h = broken h
        beside (Some kept) broken h = h

        below : (k m n : ℕ) → m ≤ n → nat_le k n ≡ false → nat_le k m ≡ false
        below k m n le h = go (nat_le k m) refl
          where
            go : (b : Bool) → nat_le k m ≡ b → nat_le k m ≡ false
            go false e = e
            go true e = absurd (let l : k ≤ m = leb-true k m e in let t : nat_le k n ≡ true = le-leb k n (omega (arith, l, le)) in (cc))

        over : Bool → ℕ → ℕ → Option StoreRefusal
        over b n d = cond (b && nat_le 100000 n) (Some TooManySeries) (cond (nat_le 2000000 d) (Some TooManySamples) None)

        counts : (p q : Bool) → nat_le 2000000 (sample_count all) ≡ p → nat_le 2000000 (sample_count some) ≡ q → cond p (Some TooManySamples) None ≡ None → cond q (Some TooManySamples) None ≡ None
        counts p false e f h = refl
        counts true true e f h = absurd (cc)
        counts false true e f h = absurd (let x : nat_le 2000000 (sample_count some) ≡ false = below 2000000 (sample_count some) (sample_count all) no_more.samples e in (cc))

        limits : (b : Bool) → is_none (samples_under some labels) ≡ b → over b (length all) (sample_count all) ≡ None → limit_broken some labels ≡ None
        limits b e h = subst (λ (z : Bool). over z (length some) (sample_count some) ≡ None) (sym e) (go b (nat_le 100000 (length all)) (nat_le 100000 (length some)) refl refl h)
          where
            go : (b p q : Bool) → nat_le 100000 (length all) ≡ p → nat_le 100000 (length some) ≡ q
                → cond (b && p) (Some TooManySeries) (cond (nat_le 2000000 (sample_count all)) (Some TooManySamples) None) ≡ None
                → cond (b && q) (Some TooManySeries) (cond (nat_le 2000000 (sample_count some)) (Some TooManySamples) None) ≡ None
            go false p q e f h = counts (nat_le 2000000 (sample_count all)) (nat_le 2000000 (sample_count some)) refl refl h
            go true true q e f h = absurd (cc)
            go true false false e f h = counts (nat_le 2000000 (sample_count all)) (nat_le 2000000 (sample_count some)) refl refl h
            go true false true e f h = absurd (let x : nat_le 100000 (length some) ≡ false = below 100000 (length some) (length all) no_more.series e in (cc))

-- the labels of all are label sets
abbrev AreSets : AllSeries → Type 0
AreSets series = AllByRecursion (λ (s : LabelList × Samples). IsLabelSet s.0) series

sets_put : (series : AllSeries) (names : LabelList) (more : Samples) → IsLabelSet names → AreSets series → AreSets (put_entry labels_eq series names more)
sets_put [] names more set all = (set, tt)
sets_put (s ∷ series) names more set all = by (labels_eq names s.0) (sets_put series names more set all.1)
  where
    by : (r : Bool) → AreSets (put_entry labels_eq series names more) → AreSets (cond r ((s.0, more) ∷ series) (s ∷ put_entry labels_eq series names more))
    by true rest = (all.0, all.1)
    by false rest = (all.0, rest)

-- ---- one engine is loaded

told_labels : (one : Engine) (names labels : LabelList) → one.declared ≡ names → HasLabels names labels → (o : Option Holding) → IfSome o (λ h. (h.declared ≡ Some one.declared) × (h.samples ≡ one.samples))
    → IfSome o (λ h. IfSome h.declared (λ (d : LabelList). HasLabels d labels))
told_labels one names labels is has None x = tt
told_labels one names labels is has (Some h) x = subst (λ (d : Option LabelList). IfSome d (λ (n : LabelList). HasLabels n labels)) (sym (x.0 ∙ ap (λ (n : LabelList). Some n) is)) has

told_free : (one : Engine) (labels : LabelList) (at : Ms) (held : Held) → refusal_of one.samples labels at held ≡ None → (o : Option Holding) → IfSome o (λ h. (h.declared ≡ Some one.declared) × (h.samples ≡ one.samples))
    → IfSome o (λ h. refusal_of h.samples labels at held ≡ None)
told_free one labels at held free None x = tt
told_free one labels at held free (Some h) x = subst (λ (s : AllSeries). refusal_of s labels at held ≡ None) (sym x.1) free

told_more : (one : Engine) (labels : LabelList) (at : Ms) (held : Held) (o : Option Holding) → IfSome o (λ h. (h.declared ≡ Some one.declared) × (h.samples ≡ one.samples))
    → IfSome (option_map (loaded_with labels at held) o) (λ h. (h.declared ≡ Some one.declared) × (h.samples ≡ with_sample one.samples labels at held))
told_more one labels at held None x = tt
told_more one labels at held (Some h) x = (x.0, ap (λ (s : AllSeries). with_sample s labels at held) x.1)

module _ (declared : List LabelList) (labels : LabelList) (at : Ms) (held : Held) (i : ℕ) (of : engine_of declared labels ≡ Some i) where
  module _ (es : List EngineSeen) (series : AllSeries) (m : MayBeLoaded declared es series) where
    there : (names : LabelList) × (slice_get declared i ≡ Some names) × (has_declared names labels ≡ true)
    there = engine_at declared labels i of

    goer : (one : Engine) × (slice_get m.parts.engines i ≡ Some one) × (one.declared ≡ there.0)
    goer = map_at (λ (e : Engine). e.declared) m.parts.engines i there.0 (ap (λ (l : List LabelList). slice_get l i) m.parts.are ∙ there.1)

    taken_by : takes goer.0 labels ≡ true
    taken_by = subst (λ (names : LabelList). has_declared names labels ≡ true) (sym goer.2) there.2

    within : i < length declared
    within = get_within declared i there.0 there.1

    same_under : samples_under goer.0.samples labels ≡ samples_under series labels
    same_under =
        let own = one_holds (λ (one : Engine). HoldsItsOwn series one) m.parts.engines i goer.0 m.parts.parted.held goer.1 in
        own labels ∙ ap (λ b. cond b (samples_under series labels) None) taken_by

    fits : AreNoMore goer.0.samples series
    fits = m.parts.fits i goer.0 goer.1

    module _ (free : refusal_of series labels at held ≡ None) where
      pub may_load : (names : LabelList) → slice_get declared i ≡ Some names → IsLabelSet names → (e : EngineSeen) → slice_get es i ≡ Some e → MayLoad labels at held e
      may_load names at_names set e at_e =
          let is : there.0 ≡ names = some_same there.0 names (sym there.1 ∙ at_names) in
          let has = has_labels names labels set.filled (subst (λ (n : LabelList). has_declared n labels ≡ true) is there.2) in
          let holds = m.parts.held i goer.0 e goer.1 at_e in
          record {
            unasked = m.unasked i e within at_e;
            declared = told_labels goer.0 names labels (goer.2 ∙ is) has e.holding holds;
            taken = told_free goer.0 labels at held (part_takes goer.0.samples series labels at held fits same_under free) e.holding holds;
          }

      pub now_loaded : (fs : List EngineSeen) (u : ⊤) → IsCalled i (HasLoaded labels at held (Ok u)) es fs → length fs ≡ length es → PutsStayParted → IsLabelSet labels → MayBeLoaded declared fs (with_sample series labels at held)
      now_loaded fs u called many stay set = record { unasked = still; parts = record { sets = sets_put series labels (insert_entry time_cmp (samples_of series labels) at held) set m.parts.sets; boxes = record { some = m.parts.boxes.some; many = omega (arith, m.parts.boxes.many, many); few = m.parts.boxes.few }; engines = engines; are = are; parted = parted; fits = all_fit; held = all_hold } }
        where
          a : Around m.parts.engines i goer.0
          a = around m.parts.engines i goer.0 goer.1

          one_now : Engine
          one_now = with_samples (with_sample goer.0.samples labels at held) goer.0

          engines : List Engine
          engines = a.front ++ one_now ∷ a.back

          are : declared_to engines ≡ declared
          are = map_around (λ (e : Engine). e.declared) a.front a.back goer.0 one_now refl ∙ ap declared_to (sym a.whole) ∙ m.parts.are

          more : Samples
          more = insert_entry time_cmp (samples_of series labels) at held

          parted : Parted engines (with_sample series labels at held)
          parted =
              let mine : insert_entry time_cmp (samples_of goer.0.samples labels) at held ≡ more = ap (λ (o : Option Samples). insert_entry time_cmp (unwrap_or o []) at held) same_under in
              stay a.front a.back goer.0 series (with_sample series labels at held) (with_sample goer.0.samples labels at held) labels more
              (subst (λ (l : List Engine). Parted l series) a.whole m.parts.parted) taken_by (put_under series labels more)
              (subst (λ (x : Samples). IsPut goer.0.samples labels x (with_sample goer.0.samples labels at held)) mine (put_under goer.0.samples labels (insert_entry time_cmp (samples_of goer.0.samples labels) at held)))

          is_now : (k : ℕ) (one : Engine) → k ≡ i → slice_get engines k ≡ Some one → one_now ≡ one
          is_now k one e at_one = some_same one_now one (sym (a.here one_now) ∙ ap (λ n. slice_get engines n) (sym e) ∙ at_one)

          all_fit : (k : ℕ) (one : Engine) → slice_get engines k ≡ Some one → AreNoMore one.samples (with_sample series labels at held)
          all_fit k one at_one = ⊎_elim
              (λ e. subst (λ (x : Engine). AreNoMore x.samples (with_sample series labels at held)) (is_now k one e at_one) (more_both goer.0.samples series labels at held fits same_under))
              (λ n. more_all one.samples series labels at held (m.parts.fits k one (sym (a.there one_now k n) ∙ at_one)))
              (cases_eq k i)

          called_at : (f : EngineSeen) → slice_get fs i ≡ Some f → (e : EngineSeen) × (slice_get es i ≡ Some e) × HasLoaded labels at held (Ok u) e f
          called_at f at_f =
              let l = get_within fs i f at_f in
              let e = within_get es i (omega (arith, l, many)) in
              let g = called.one e.0 e.1 in
              (e.0, e.1, subst (λ (x : EngineSeen). HasLoaded labels at held (Ok u) e.0 x) (some_same g.0 f (sym g.1 ∙ at_f)) g.2)

          all_hold : (k : ℕ) (one : Engine) (f : EngineSeen) → slice_get engines k ≡ Some one → slice_get fs k ≡ Some f → IsHeldBy one f
          all_hold k one f at_one at_f = ⊎_elim
              (λ e.
              let c = called_at f (ap (λ n. slice_get fs n) (sym e) ∙ at_f) in
              let h = told_more goer.0 labels at held c.0.holding (m.parts.held i goer.0 c.0 goer.1 c.1) in
              let now : IsHeldBy one_now f = subst (λ (o : Option Holding). IfSome o (λ x. (x.declared ≡ Some goer.0.declared) × (x.samples ≡ with_sample goer.0.samples labels at held))) (sym c.2.loaded) h in
              subst (λ (x : Engine). IsHeldBy x f) (is_now k one e at_one) now)
              (λ n. m.parts.held k one f (sym (a.there one_now k n) ∙ at_one) (sym (called.others k n) ∙ at_f))
              (cases_eq k i)

          still : AreUnasked declared fs
          still k f l at_f = ⊎_elim
              (λ e. let c = called_at f (ap (λ n. slice_get fs n) (sym e) ∙ at_f) in c.2.asks.asks ∙ m.unasked i c.0 within c.1)
              (λ n. m.unasked k f l (sym (called.others k n) ∙ at_f))
              (cases_eq k i)

-- ---- what was judged isn't refused

free_of : (line : ℕ) (now : AllSeries) (r : Option StoreRefusal) → IsOk (unless_refused line r now) → r ≡ None
free_of line now None h = refl
free_of line now (Some refusal) h = absurd (cc)

put_of : (line : ℕ) (labels : LabelList) (at : Ms) (held : Held) (series : AllSeries) → refusal_of series labels at held ≡ None → sample_put line labels at held series ≡ Ok (with_sample series labels at held)
put_of line labels at held series free = rw free refl

module _ (declared : List LabelList) (line : ℕ) (labels : LabelList) (at : Ms) (held : Held) (i : ℕ) (of : engine_of declared labels ≡ Some i) (es : List EngineSeen) where
  pub may_load_at : MayPut false (MayBeLoaded declared es) (sample_put line labels at held) → (names : LabelList) → slice_get declared i ≡ Some names → IsLabelSet names
      → (e : EngineSeen) → slice_get es i ≡ Some e → MayLoad labels at held e
  may_load_at may = may_load declared labels at held i of es may.0 may.1 (free_of line (with_sample may.0 labels at held) (refusal_of may.0 labels at held) may.2)

  pub has_loaded : (fs : List EngineSeen) (u v : ⊤) → IsCalled i (HasLoaded labels at held (Ok u)) es fs → length fs ≡ length es → PutsStayParted → IsLabelSet labels
      → HasPut {X = ⊤} false (MayBeLoaded declared es) (MayBeLoaded declared fs) (sample_put line labels at held) (Ok v)
  has_loaded fs u v called many stay set = λ series m ok.
      let free = free_of line (with_sample series labels at held) (refusal_of series labels at held) ok in
      (with_sample series labels at held, now_loaded declared labels at held i of es series m free fs u called many stay set, put_of line labels at held series free)

-- ---- engines are called one by one

module _ (R : EngineSeen → EngineSeen → Type 0) (es : List EngineSeen) where
  pub none_called : AreCalled 0 R es es
  none_called = record { one = λ k e l at_e. absurd (omega (arith, l)); others = λ k l. refl; many = refl }

  pub one_called : (i : ℕ) (ds fs : List EngineSeen) → AreCalled i R es ds → IsCalled i R ds fs → length fs ≡ length ds → AreCalled (i + 1) R es fs
  one_called i ds fs before called many = record { one = each; others = λ k l. called.others k (λ e. absurd (omega (arith, l, e))) ∙ before.others k (omega (arith, l)); many = many ∙ before.many }
    where
      each : (k : ℕ) (e : EngineSeen) → k < i + 1 → slice_get es k ≡ Some e → (f : EngineSeen) × (slice_get fs k ≡ Some f) × R e f
      each k e l at_e = ⊎_elim
          (λ s.
          let here : slice_get ds i ≡ Some e = before.others i (omega arith) ∙ ap (λ n. slice_get es n) (sym s) ∙ at_e in
          let g = called.one e here in
          (g.0, ap (λ n. slice_get fs n) s ∙ g.1, g.2))
          (λ n. let b = before.one k e (omega (arith, l, n)) at_e in (b.0, called.others k n ∙ b.1, b.2))
          (cases_eq k i)

-- the engine that was at a place before the calls
before_call : (count : ℕ) (R : EngineSeen → EngineSeen → Type 0) (es fs : List EngineSeen) → AreCalled count R es fs → (k : ℕ) (f : EngineSeen) → k < count → slice_get fs k ≡ Some f → (e : EngineSeen) × (slice_get es k ≡ Some e) × R e f
before_call count R es fs calls k f l at_f =
    let w = get_within fs k f at_f in
    let e = within_get es k (omega (arith, w, calls.many)) in
    let g = calls.one k e.0 l e.1 in
    (e.0, e.1, subst (λ (x : EngineSeen). R e.0 x) (some_same g.0 f (sym g.1 ∙ at_f)) g.2)

-- ---- engines forget their asks

module _ (declared : List LabelList) (es fs : List EngineSeen) (calls : AreCalled (length declared) IsBegun es fs) where
  pub begun_unasked : AreUnasked declared fs
  begun_unasked k f l at_f = let b = before_call (length declared) IsBegun es fs calls k f l at_f in b.2.forgotten

  pub begun_boxes : HaveBoxes declared es → HaveBoxes declared fs
  begun_boxes boxes = record { some = boxes.some; many = omega (arith, boxes.many, calls.many); few = boxes.few }

  pub begun_told : AreDeclaredTo declared es → AreDeclaredTo declared fs
  begun_told told k names f at_names at_f =
      let b = before_call (length declared) IsBegun es fs calls k f (get_within declared k names at_names) at_f in
      subst (λ (o : Option Holding). IfSome o (λ h. h.declared ≡ Some names)) (sym b.2.holding) (told k names b.0 at_names b.1)

  pub begun_parts : (series : AllSeries) → HoldParts declared es series → MayBeLoaded declared fs series
  begun_parts series m = record { unasked = begun_unasked; parts = record { sets = m.sets; boxes = begun_boxes m.boxes; engines = m.engines; are = m.are; parted = m.parted; fits = m.fits; held = holds } }
    where
      holds : (k : ℕ) (one : Engine) (f : EngineSeen) → slice_get m.engines k ≡ Some one → slice_get fs k ≡ Some f → IsHeldBy one f
      holds k one f at_one at_f =
          let there : slice_get declared k ≡ Some one.declared = ap (λ (l : List LabelList). slice_get l k) (sym m.are) ∙ get_map (λ (e : Engine). e.declared) m.engines k one at_one in
          let b = before_call (length declared) IsBegun es fs calls k f (get_within declared k one.declared there) at_f in
          subst (λ (o : Option Holding). IfSome o (λ h. (h.declared ≡ Some one.declared) × (h.samples ≡ one.samples))) (sym b.2.holding) (m.held k one b.0 at_one b.1)

-- what may be carried out may be loaded once asks are forgotten
pub begun_may : (declared : List LabelList) (es fs : List EngineSeen) (put : AllSeries → Result AllSeries RunnerFault) → AreCalled (length declared) IsBegun es fs
    → MayPut false (HoldParts declared es) put → MayPut false (MayBeLoaded declared fs) put
begun_may declared es fs put calls may = (may.0, begun_parts declared es fs calls may.0 may.1, may.2)

pub begun_put : (X : Type 0) (declared : List LabelList) (es fs : List EngineSeen) (Holds : AllSeries → Type 0) (put : AllSeries → Result AllSeries RunnerFault) (result : Result X RunnerFault) → AreCalled (length declared) IsBegun es fs
    → HasPut false (MayBeLoaded declared fs) Holds put result → HasPut false (HoldParts declared es) Holds put result
begun_put X declared es fs Holds put result calls has = λ series m ok. has series (begun_parts declared es fs calls series m) ok

-- ---- engines drop their samples

abbrev engine_without : LabelList → Engine
engine_without names = record { declared = names; samples = [] }

declared_back : (declared : List LabelList) → declared_to (map engine_without declared) ≡ declared
declared_back [] = refl
declared_back (names ∷ declared) = ap (λ l. names ∷ l) (declared_back declared)

all_empty : (declared : List LabelList) → AllByRecursion (λ (one : Engine). one.samples ≡ []) (map engine_without declared)
all_empty [] = tt
all_empty (names ∷ declared) = (refl, all_empty declared)

told_cleared : (names : LabelList) (o : Option Holding) → IfSome o (λ h. h.declared ≡ Some names) → IfSome (option_map cleared o) (λ h. (h.declared ≡ Some names) × (h.samples ≡ []))
told_cleared names None x = tt
told_cleared names (Some h) x = (x, refl)

told_only : (names : LabelList) (one : Engine) (o : Option Holding) → IfSome o (λ h. (h.declared ≡ Some one.declared) × (h.samples ≡ one.samples)) → one.declared ≡ names → IfSome o (λ h. h.declared ≡ Some names)
told_only names one None x is = tt
told_only names one (Some h) x is = x.0 ∙ ap (λ (n : LabelList). Some n) is

module _ (declared : List LabelList) (es fs : List EngineSeen) (calls : AreCalled (length declared) IsCleared es fs) where
  pub cleared_all : HaveBoxes declared es → MayBeDeclared declared → AreDeclaredTo declared es → AreUnasked declared es → NothingIsParted → MayBeLoaded declared fs []
  cleared_all boxes may told unasked nothing = record {
    unasked = λ k f l at_f. let b = before_call (length declared) IsCleared es fs calls k f l at_f in b.2.asks.asks ∙ unasked k b.0 l b.1;
    parts = record {
      sets = tt;
      boxes = record { some = boxes.some; many = omega (arith, boxes.many, calls.many); few = boxes.few };
      engines = map engine_without declared;
      are = declared_back declared;
      parted = nothing (map engine_without declared) (subst MayBeDeclared (sym (declared_back declared)) may) (all_empty declared);
      fits = all_fit;
      held = holds;
    };
  }
    where
      all_fit : (k : ℕ) (one : Engine) → slice_get (map engine_without declared) k ≡ Some one → AreNoMore one.samples []
      all_fit k one at_one =
          let n = map_at engine_without declared k one at_one in
          subst (λ (x : Engine). AreNoMore x.samples []) n.2 (record { series = omega arith; samples = omega arith })

      holds : (k : ℕ) (one : Engine) (f : EngineSeen) → slice_get (map engine_without declared) k ≡ Some one → slice_get fs k ≡ Some f → IsHeldBy one f
      holds k one f at_one at_f =
          let n = map_at engine_without declared k one at_one in
          let b = before_call (length declared) IsCleared es fs calls k f (get_within declared k n.0 n.1) at_f in
          let h = told_cleared n.0 b.0.holding (told k n.0 b.0 n.1 b.1) in
          let now : IsHeldBy (engine_without n.0) f = subst (λ (o : Option Holding). IfSome o (λ x. (x.declared ≡ Some n.0) × (x.samples ≡ []))) (sym b.2.holding) h in
          subst (λ (x : Engine). IsHeldBy x f) n.2 now

  -- the same of engines that were loaded
  pub loaded_cleared : (series : AllSeries) → MayBeLoaded declared es series → NothingIsParted → MayBeLoaded declared fs []
  loaded_cleared series m nothing = cleared_all m.parts.boxes (subst MayBeDeclared m.parts.are m.parts.parted.declared) told m.unasked nothing
    where
      told : AreDeclaredTo declared es
      told k names e at_names at_e =
          let one = map_at (λ (x : Engine). x.declared) m.parts.engines k names (ap (λ (l : List LabelList). slice_get l k) m.parts.are ∙ at_names) in
          told_only names one.0 e.holding (m.parts.held k one.0 e one.1 at_e) one.2

-- ---- where a list of engines ends

module _ (X : Type 0) (result : Result X RunnerFault) (declared : List LabelList) (es fs gs : List EngineSeen) (same : gs ≡ fs) where
  pub ends_put : (put : AllSeries → Result AllSeries RunnerFault) → HasPut false (MayBeLoaded declared es) (MayBeLoaded declared fs) put result → HasPut false (MayBeLoaded declared es) (MayBeLoaded declared gs) put result
  ends_put put has = subst (λ (l : List EngineSeen). HasPut false (MayBeLoaded declared es) (MayBeLoaded declared l) put result) (sym same) has

  pub ends_gone : {n : ℕ} → HasGone n result es fs → HasGone n result es gs
  ends_gone {n} gone = subst (λ (l : List EngineSeen). HasGone n result es l) (sym same) gone
