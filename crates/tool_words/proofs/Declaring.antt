-- Pairs, sets and lists of `--engines`.
use Rattle.std.proofs.Common.{◌≡◌, ◌<◌, ◌≤◌, ◌+◌, ◌∙◌, ◌&&◌, ◌||◌, ◌==◌, ℕ, Bool, true, false, not, refl, sym, ap, subst, arith, List, [], ◌∷◌, ◌++◌, map, length, drop, get_or, Option, Some, None, Result, append_assoc, append-nil, bytes_eq}
use Rattle.std.specs.Prelude.{IfOk, IfSome, is_some, nat_le, slice_get, option_and_then, option_map, if◌then◌else◌}
use Rattle.std.specs.List.{AllByRecursion, IsDistinct, after_first, list_all, list_any, position_or_len, slice_split}
use Rattle.std.specs.Map.{keys_of}
use Rattle.std.proofs.lemmas.Bool.{leb-true}
use Rattle.std.proofs.lemmas.List.{drop_all, drop_more}
use Rattle.std.proofs.lemmas.List.Splits.{length-slice_split}
use Rattle.std.proofs.lemmas.Option.{get_or_from_slice_get, slice_get_within}
use Rattle.std.proofs.lemmas.Result.{IfOk-weaker}
use Rattle.std.proofs.lemmas.Slice.Eq.{bytes_eq-Decides}
use Rattle.label_set.specs.Entries.{all_keys_insert}
use Rattle.label_set.specs.LabelEquality.{labels_eq}
use Rattle.label_set.specs.Labels.{byte_cmp, is_named, metric_name, put_refusal, with_pair}
use Rattle.tool_words.specs.Said.{Text, name_in}
use Rattle.tool_words.specs.Engines.{AreDeclarable, AreDeclaredTo, Labels, all_labels_in, are_distinct, engines_named, engines_of, have_same_names, if_apart, is_declarable, labels_in, pair_in, pairs_listed, sets_listed, tell_apart, with_declared, with_pair_in, with_pairs_in}

-- ---- a pair

module _ (p : ℕ → Bool) where
  none_at : (xs : Text) → position_or_len p xs ≡ length xs → list_any p xs ≡ false
  none_at [] e = refl
  none_at (x ∷ xs) e = go (p x) refl (none_at xs)
    where
      go : (b : Bool) → p x ≡ b → (position_or_len p xs ≡ length xs → list_any p xs ≡ false) → list_any p (x ∷ xs) ≡ false
      go true f ih = absurd (let zero_is : 0 ≡ length (x ∷ xs) = rw f at e in omega (arith, zero_is))
      go false f ih = let more : 1 + position_or_len p xs ≡ length (x ∷ xs) = rw f at e in rw f (ih (omega (arith, more)))

  some_at : (xs : Text) → position_or_len p xs < length xs → list_any p xs ≡ true
  some_at [] l = absurd (omega (arith, l))
  some_at (x ∷ xs) l = go (p x) refl (some_at xs)
    where
      go : (b : Bool) → p x ≡ b → (position_or_len p xs < length xs → list_any p xs ≡ true) → list_any p (x ∷ xs) ≡ true
      go true f ih = rw f refl
      go false f ih = let more : 1 + position_or_len p xs < length (x ∷ xs) = rw f at l in rw f (ih (omega (arith, more)))

pub no_pair : (text : Text) → position_or_len (λ b. b == 61) text ≡ length text → pair_in text ≡ None
no_pair text e = rw (none_at (λ b. b == 61) text e) refl

pub one_pair : (text : Text) → position_or_len (λ b. b == 61) text < length text → (value : Text) → value ≡ after_first (λ b. b == 61) text
    → pair_in text ≡ Some (name_in text, value)
one_pair text l value is = rw (some_at (λ b. b == 61) text l, is) refl

module _ (labels : Labels) (text name value : Text) (at : pair_in text ≡ Some (name, value)) where
  here : with_pair_in labels text ≡ with_declared labels (name, value)
  here = ap (option_and_then (with_declared labels)) at

  pub not_declared : is_declarable name value ≡ false → with_pair_in labels text ≡ None
  not_declared e = here ∙ ap (λ b. if b && not (is_some (put_refusal labels name value)) then Some (with_pair labels name value) else None) e

  pub not_put : is_some (put_refusal labels name value) ≡ true → with_pair_in labels text ≡ None
  not_put e = here ∙ go (is_declarable name value)
    where
      go : (b : Bool) → (if b && not (is_some (put_refusal labels name value)) then Some (with_pair labels name value) else None) ≡ None
      go true = ap (λ b. if not b then Some (with_pair labels name value) else None) e
      go false = refl

  pub put : (new : Labels) → is_declarable name value ≡ true → is_some (put_refusal labels name value) ≡ false → new ≡ with_pair labels name value
      → with_pair_in labels text ≡ Some new
  put new e f is =
      here ∙ ap (λ b. if b && not (is_some (put_refusal labels name value)) then Some (with_pair labels name value) else None) e
      ∙ ap (λ b. if not b then Some (with_pair labels name value) else None) f ∙ ap Some (sym is)

-- ---- a set

module _ {X : Type 0} (f : X → Text) (xs : List X) (i : ℕ) (d : X) (within : i < length xs) where
  seen : map f (drop i xs) ≡ f (get_or xs i d) ∷ map f (drop (i + 1) xs)
  seen = ap (map f) (drop_more xs i d within)

  pub pairs_stop : (labels : Labels) → with_pair_in labels (f (get_or xs i d)) ≡ None → with_pairs_in labels (map f (drop i xs)) ≡ None
  pairs_stop labels e = ap (with_pairs_in labels) seen ∙ ap (option_and_then (λ (more : Labels). with_pairs_in more (map f (drop (i + 1) xs)))) e

  pub pairs_go : (labels new : Labels) → with_pair_in labels (f (get_or xs i d)) ≡ Some new
      → with_pairs_in labels (map f (drop i xs)) ≡ with_pairs_in new (map f (drop (i + 1) xs))
  pairs_go labels new e = ap (with_pairs_in labels) seen ∙ ap (option_and_then (λ (more : Labels). with_pairs_in more (map f (drop (i + 1) xs)))) e

  -- ---- sets

  pub sets_stop : (all : List Labels) → labels_in (f (get_or xs i d)) ≡ None → option_map (λ more. all ++ more) (all_labels_in (map f (drop i xs))) ≡ None
  sets_stop all e =
      ap (λ ts. option_map (λ more. all ++ more) (all_labels_in ts)) seen
      ∙ ap (λ o. option_map (λ more. all ++ more) (option_and_then (λ (labels : Labels). option_map (λ (more : List Labels). labels ∷ more) (all_labels_in (map f (drop (i + 1) xs)))) o)) e

  pub sets_go : (all : List Labels) (labels : Labels) → labels_in (f (get_or xs i d)) ≡ Some labels
      → option_map (λ more. (all ++ labels ∷ []) ++ more) (all_labels_in (map f (drop (i + 1) xs))) ≡ option_map (λ more. all ++ more) (all_labels_in (map f (drop i xs)))
  sets_go all labels e =
      joined (all_labels_in (map f (drop (i + 1) xs)))
      ∙ sym (ap (λ ts. option_map (λ more. all ++ more) (all_labels_in ts)) seen
      ∙ ap (λ o. option_map (λ more. all ++ more) (option_and_then (λ (labels : Labels). option_map (λ (more : List Labels). labels ∷ more) (all_labels_in (map f (drop (i + 1) xs)))) o)) e)
    where
      joined : (o : Option (List Labels)) → option_map (λ more. (all ++ labels ∷ []) ++ more) o ≡ option_map (λ more. all ++ more) (option_map (λ (more : List Labels). labels ∷ more) o)
      joined None = refl
      joined (Some more) = ap Some (append_assoc all (labels ∷ []) more)

pub pairs_end : {X : Type 0} (f : X → Text) (xs : List X) (i : ℕ) → length xs ≤ i → (labels : Labels) → with_pairs_in labels (map f (drop i xs)) ≡ Some labels
pairs_end f xs i l labels = ap (λ ys. with_pairs_in labels (map f ys)) (drop_all i xs l)

pub sets_end : {X : Type 0} (f : X → Text) (xs : List X) (i : ℕ) → length xs ≤ i → (all : List Labels) → option_map (λ more. all ++ more) (all_labels_in (map f (drop i xs))) ≡ Some all
sets_end f xs i l all = ap (λ ys. option_map (λ more. all ++ more) (all_labels_in (map f ys))) (drop_all i xs l) ∙ ap Some (append-nil all)

-- ---- sets that tell engines apart

drop_at_get : (xs : Labels) (i : ℕ) (x : Text × Text) → slice_get xs i ≡ Some x → drop i xs ≡ x ∷ drop (i + 1) xs
drop_at_get xs i x at = drop_more xs i x (slice_get_within xs i x at) ∙ ap (λ y. y ∷ drop (i + 1) xs) (get_or_from_slice_get xs i x x at)

pub same_step : (ps qs : Labels) (i : ℕ) (p q : Text × Text) → slice_get ps i ≡ Some p → slice_get qs i ≡ Some q
    → have_same_names (drop i ps) (drop i qs) ≡ (bytes_eq p.0 q.0 && have_same_names (drop (i + 1) ps) (drop (i + 1) qs))
same_step ps qs i p q first second = λ k. have_same_names (drop_at_get ps i p first k) (drop_at_get qs i q second k)

distinct_step : (all : List Labels) (i : ℕ) (d : Labels) → i < length all
    → are_distinct (drop i all) ≡ (not (list_any (labels_eq (get_or all i d)) (drop (i + 1) all)) && are_distinct (drop (i + 1) all))
distinct_step all i d l = ap are_distinct (drop_more all i d l)

-- one more set that is none of those behind it
pub distinct_go : (all : List Labels) (i : ℕ) (labels : Labels) (others : List Labels) → i < length all → labels ≡ get_or all i labels → others ≡ drop (i + 1) all → list_any (labels_eq labels) others ≡ false
    → are_distinct (drop i all) ≡ are_distinct (drop (i + 1) all)
distinct_go all i labels others l here behind none =
    distinct_step all i labels l ∙ ap (λ b. not b && are_distinct (drop (i + 1) all)) ((λ k. list_any (labels_eq (sym here k)) (sym behind k)) ∙ none)

-- ---- what is declared may be declared

same_keys : (labels others : Labels) → have_same_names labels others ≡ true → keys_of others ≡ keys_of labels
same_keys [] [] e = refl
same_keys [] (q ∷ qs) e = absurd (cc)
same_keys (p ∷ ps) [] e = absurd (cc)
same_keys (p ∷ ps) (q ∷ qs) e = go (bytes_eq p.0 q.0) refl e (same_keys ps qs)
  where
    go : (b : Bool) → bytes_eq p.0 q.0 ≡ b → (b && have_same_names ps qs) ≡ true → (have_same_names ps qs ≡ true → keys_of qs ≡ keys_of ps) → keys_of (q ∷ qs) ≡ keys_of (p ∷ ps)
    go true f e ih = let name : p.0 ≡ q.0 = (bytes_eq-Decides p.0 q.0).0 f in λ i. sym name i ∷ ih e i
    go false f e ih = absurd (cc)

all_same_keys : (first : Labels) (others : List Labels) → list_all (have_same_names first) others ≡ true → AllByRecursion (λ (labels : Labels). keys_of labels ≡ keys_of first) others
all_same_keys first [] e = tt
all_same_keys first (labels ∷ others) e = go (have_same_names first labels) refl e (all_same_keys first others)
  where
    go : (b : Bool) → have_same_names first labels ≡ b → (b && list_all (have_same_names first) others) ≡ true
        → (list_all (have_same_names first) others ≡ true → AllByRecursion (λ (labels : Labels). keys_of labels ≡ keys_of first) others)
        → AllByRecursion (λ (labels : Labels). keys_of labels ≡ keys_of first) (labels ∷ others)
    go true f e ih = (same_keys first labels f, ih e)
    go false f e ih = absurd (cc)

none_same : (labels : Labels) (others : List Labels) → list_any (labels_eq labels) others ≡ false → AllByRecursion (λ other. labels_eq labels other ≡ false) others
none_same labels [] e = tt
none_same labels (other ∷ others) e = go (labels_eq labels other) refl e (none_same labels others)
  where
    go : (b : Bool) → labels_eq labels other ≡ b → (b || list_any (labels_eq labels) others) ≡ false
        → (list_any (labels_eq labels) others ≡ false → AllByRecursion (λ other. labels_eq labels other ≡ false) others) → AllByRecursion (λ other. labels_eq labels other ≡ false) (other ∷ others)
    go true f e ih = absurd (cc)
    go false f e ih = (f, ih e)

all_distinct : (all : List Labels) → are_distinct all ≡ true → IsDistinct labels_eq all
unfolding IsDistinct
all_distinct [] e = tt
all_distinct (labels ∷ others) e = go (list_any (labels_eq labels) others) refl e (all_distinct others)
  where
    go : (b : Bool) → list_any (labels_eq labels) others ≡ b → (not b && are_distinct others) ≡ true → (are_distinct others ≡ true → IsDistinct labels_eq others)
        → AllByRecursion (λ other. labels_eq labels other ≡ false) others × IsDistinct labels_eq others
    go false f e ih = (none_same labels others f, ih e)
    go true f e ih = absurd (cc)

-- no pair names the metric
abbrev Unnamed : Labels → Type 0
Unnamed labels = AllByRecursion (λ (name : Text). bytes_eq name metric_name ≡ false) (keys_of labels)

unnamed_with : (labels : Labels) (name value : Text) → bytes_eq name metric_name ≡ false → Unnamed labels → Unnamed (with_pair labels name value)
unnamed_with labels name [] e u = u
unnamed_with labels name (b ∷ value) e u = all_keys_insert byte_cmp (λ (name : Text). bytes_eq name metric_name ≡ false) name (b ∷ value) labels e u

unnamed_declared : (labels : Labels) (pair : Text × Text) → Unnamed labels → IfSome (with_declared labels pair) Unnamed
unnamed_declared labels pair u = go (length pair.1 == 0) (bytes_eq pair.0 metric_name) refl (is_some (put_refusal labels pair.0 pair.1))
  where
    go : (empty metric : Bool) → bytes_eq pair.0 metric_name ≡ metric → (refused : Bool)
        → IfSome (if (not empty && not metric) && not refused then Some (with_pair labels pair.0 pair.1) else None) Unnamed
    go true metric e refused = tt
    go false true e refused = tt
    go false false e true = tt
    go false false e false = unnamed_with labels pair.0 pair.1 e u

unnamed_pair : (labels : Labels) (pair : Option (Text × Text)) → Unnamed labels → IfSome (option_and_then (with_declared labels) pair) Unnamed
unnamed_pair labels None u = tt
unnamed_pair labels (Some pair) u = unnamed_declared labels pair u

unnamed_pairs : (texts : List Text) (labels : Labels) → Unnamed labels → IfSome (with_pairs_in labels texts) Unnamed
unnamed_pairs [] labels u = u
unnamed_pairs (text ∷ texts) labels u = go (with_pair_in labels text) (unnamed_pair labels (pair_in text) u) (unnamed_pairs texts)
  where
    go : (o : Option Labels) → IfSome o Unnamed → ((more : Labels) → Unnamed more → IfSome (with_pairs_in more texts) Unnamed) → IfSome (option_and_then (λ (more : Labels). with_pairs_in more texts) o) Unnamed
    go None v ih = tt
    go (Some more) v ih = ih more v

-- as many sets as texts, none of which names the metric
record AreOf (sets : List Text) (all : List Labels) : Type 0 where
  pub as_many : length all ≡ length sets
  pub unnamed : AllByRecursion Unnamed all

of_sets : (sets : List Text) → IfSome (all_labels_in sets) (AreOf sets)
of_sets [] = record { as_many = refl; unnamed = tt }
of_sets (set ∷ sets) = go (labels_in set) (all_labels_in sets) (unnamed_pairs (pairs_listed set) [] tt) (of_sets sets)
  where
    go : (first : Option Labels) (others : Option (List Labels)) → IfSome first Unnamed → IfSome others (AreOf sets)
        → IfSome (option_and_then (λ (labels : Labels). option_map (λ (more : List Labels). labels ∷ more) others) first) (AreOf (set ∷ sets))
    go None others u of = tt
    go (Some labels) None u of = tt
    go (Some labels) (Some more) u of = record { as_many = omega (arith, of.as_many); unnamed = (u, of.unnamed) }

not_named : (names : List Text) → AllByRecursion (λ (name : Text). bytes_eq name metric_name ≡ false) names → is_named names metric_name ≡ false
not_named [] u = refl
not_named (name ∷ names) u = rw u.0 (not_named names u.1)

apart : (sets : List Text) (all : List Labels) → 0 < length sets → AreOf sets all → tell_apart all ≡ true → AreDeclarable all
apart sets [] l of e = absurd (let n = of.as_many in omega (arith, n, l))
apart sets (first ∷ others) l of e = go (list_all (have_same_names first) others) refl e
  where
    go : (b : Bool) → list_all (have_same_names first) others ≡ b → (b && are_distinct (first ∷ others)) ≡ true → AreDeclarable (first ∷ others)
    go true f e = record {
      some = omega arith;
      names = (refl, all_same_keys first others f);
      unnamed = not_named (keys_of first) of.unnamed.0;
      values = all_distinct (first ∷ others) e;
    }
    go false f e = absurd (cc)

some_set : (p : ℕ → Bool) (text : Text) → 0 < length (slice_split p text)
some_set p text = omega (arith, length-slice_split p text)

-- what boxes may be declared to, and no more of it than boxes
record AreOfBoxes (boxes : ℕ) (all : List Labels) : Type 0 where
  pub few : length all ≤ boxes
  pub declarable : AreDeclarable all

are_of_boxes : (boxes : ℕ) (list : Text) → IfSome (engines_named boxes list) (AreOfBoxes boxes)
are_of_boxes boxes list = counted (nat_le (length (sets_listed list)) boxes) refl
  where
    kept : length (sets_listed list) ≤ boxes → (all : List Labels) → AreOf (sets_listed list) all → (b : Bool) → tell_apart all ≡ b → IfSome (if b then Some all else None) (AreOfBoxes boxes)
    kept few all of true e = record {
      few = omega (arith, few, of.as_many);
      declarable = apart (sets_listed list) all (some_set (λ b. b == 59) list) of e;
    }
    kept few all of false e = tt

    go : length (sets_listed list) ≤ boxes → (o : Option (List Labels)) → IfSome o (AreOf (sets_listed list)) → IfSome (option_and_then if_apart o) (AreOfBoxes boxes)
    go few None of = tt
    go few (Some all) of = kept few all of (tell_apart all) refl

    counted : (b : Bool) → nat_le (length (sets_listed list)) boxes ≡ b
        → IfSome (if b then option_and_then if_apart (all_labels_in (sets_listed list)) else None) (AreOfBoxes boxes)
    counted true e = go (leb-true (length (sets_listed list)) boxes e) (all_labels_in (sets_listed list)) (of_sets (sets_listed list))
    counted false e = tt

of_boxes : {E : Type 0} (boxes : ℕ) (list : Text) (r : Result (Option (List Labels)) E) → IfOk r (λ engines. engines ≡ engines_named boxes list) → IfOk r (λ engines. IfSome engines (AreOfBoxes boxes))
of_boxes boxes list r named = IfOk-weaker r _ _ (λ engines e. subst (λ (o : Option (List Labels)). IfSome o (AreOfBoxes boxes)) (sym e) (are_of_boxes boxes list)) named

each_some : {P Q : List Labels → Type 0} → ((all : List Labels) → P all → Q all) → (o : Option (List Labels)) → IfSome o P → IfSome o Q
each_some follows None p = tt
each_some follows (Some all) p = follows all p

pub all_declarable : {E : Type 0} (boxes : ℕ) (list : Text) (r : Result (Option (List Labels)) E) → IfOk r (λ engines. engines ≡ engines_named boxes list) → IfOk r (λ engines. IfSome engines AreDeclarable)
all_declarable boxes list r named = IfOk-weaker r _ _ (each_some (λ all of. of.declarable)) (of_boxes boxes list r named)

pub all_few : {E : Type 0} (boxes : ℕ) (list : Text) (r : Result (Option (List Labels)) E) → IfOk r (λ engines. engines ≡ engines_named boxes list) → IfOk r (λ engines. IfSome engines (λ all. length all ≤ boxes))
all_few boxes list r named = IfOk-weaker r _ _ (each_some (λ all of. of.few)) (of_boxes boxes list r named)

-- without the option none is declared, with it what the list declares
pub declared_to : (boxes : ℕ) (value : Option Text) → IfSome (engines_of boxes value) (AreDeclaredTo boxes)
declared_to boxes None = record { few = omega arith; declarable = λ some. absurd (omega (arith, some)) }
declared_to boxes (Some list) = each_some (λ all of. record { few = of.few; declarable = λ some. of.declarable }) (engines_named boxes list) (are_of_boxes boxes list)
