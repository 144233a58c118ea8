-- Series of both sides that were compared are all of them, where they are as many.
use Rattle.std.proofs.Common.{◌≡◌, ◌<◌, ◌≤◌, ◌+◌, ℕ, zero, suc, Bool, true, false, List, [], ◌∷◌, length, map, slice_get, Option, None, Some, refl, sym, subst, ◌∙◌, arith}
use Rattle.std.specs.Prelude.{◌||◌, option_map, IfSome, IsSome}
use Rattle.std.specs.Borrow.{Bor}
use Rattle.std.specs.List.{AllByRecursion, IsDistinct, list_any}
use Rattle.std.specs.Ordering.{is_eq}
use Rattle.std.specs.declared.cmp.Ordering.TheVariants.{Less}
use Rattle.std.proofs.Math.Dec.{eqb}
use Rattle.std.proofs.lemmas.Bool.{eqb-true, ne_eqb}
use Rattle.std.proofs.lemmas.List.{length-map}
use Rattle.std.proofs.lemmas.Map.Keys.{IsDistinct-cons}
use Rattle.std.proofs.lemmas.Map.Steps.{length-le_from_distinct_below}
use Rattle.std.proofs.lemmas.Option.{slice_get_within}
use Rattle.label_set.specs.Labels.{labels_cmp}
use Rattle.promql_meaning.specs.declared.answer.ResultSeries.{ResultSeries}
use Rattle.script_check.specs.Beside.{points_beside, rises_behind}
use Rattle.script_check.specs.Paired.{HasLabels, IsThere}
use Rattle.script_check.specs.Rounds.{AreBelow, AreFalling, AreMatched, IsMatch, Match}
use Rattle.script_check.specs.Series.{Agrees, IsMet, IsMetBy, IsNear, LabelList, series_under}
use Rattle.script_check.proofs.Agreements.{one}
use Rattle.script_check.proofs.LineByLine.{less, points_near}
use Rattle.script_check.proofs.Pairs.{at_place, by_places, found_has, there_itself}
use Rattle.script_check.proofs.Sorted.{below_apart, then_below, ties_with_itself}

-- ---- one more

pub none_matched : (wanted got : List ResultSeries) → AreMatched wanted got None 0
none_matched wanted got = record { matches = []; count = refl; each = tt; falling = tt; below = λ labels h. tt }

pub one_more : (wanted got : List ResultSeries) (last : Option LabelList) (many : ℕ) (m : Match) → rises_behind last m.labels ≡ true → IsMatch wanted got m → AreMatched wanted got last many → AreMatched wanted got (Some m.labels) (many + 1)
one_more wanted got last many m rises is a = record {
  matches = m ∷ a.matches;
  count = omega (arith, a.count);
  each = (is, a.each);
  falling = (a.below m.labels rises, a.falling);
  below = λ labels h.
      let first = less (labels_cmp m.labels labels) h in
      (first, one (λ (x : Match). labels_cmp x.labels m.labels ≡ Less) (λ (x : Match). labels_cmp x.labels labels ≡ Less) (λ x b. then_below x.labels m.labels labels b first) a.matches (a.below m.labels rises));
}

-- what two series tell that stand side by side
pub match_at : (wanted got : List ResultSeries) (line place : ℕ) (s t : ResultSeries) → slice_get wanted line ≡ Some s → slice_get got place ≡ Some t → s.labels ≡ t.labels → points_beside s.points t.points ≡ true
    → IsMatch wanted got (record { labels = s.labels; line = line; place = place })
match_at wanted got line place s t e g same near = record {
  line = subst (HasLabels s.labels) (sym e) refl;
  place = subst (HasLabels s.labels) (sym g) (sym same);
  near = λ u v eu gv.
      let first : s ≡ u = let both : Some s ≡ Some u = sym e ∙ eu in cc in
      let second : t ≡ v = let both : Some t ≡ Some v = sym g ∙ gv in cc in
      subst (λ (x : ResultSeries). IsNear x v) first (subst (IsNear s) second (points_near s.points t.points near));
}

-- what holds of labels that may be there holds of labels that are
pub if_there : {X : Type 0} (P : Option X → Type 0) (o : Option (Bor X)) → P (option_map (λ (b : Bor X). b.now) o) → IfSome o (λ b. P (Some b.now))
if_there P None h = tt
if_there P (Some b) h = h

-- ---- places

same_if_has : (a b : LabelList) (o : Option ResultSeries) → HasLabels a o → HasLabels b o → a ≡ b
same_if_has a b None h k = absurd h
same_if_has a b (Some s) h k = sym h ∙ k

never_below : (a b : LabelList) → a ≡ b → labels_cmp a b ≡ Less → ⊥
never_below a b same h =
    let tie : is_eq (labels_cmp a b) ≡ true = subst (λ (l : LabelList). is_eq (labels_cmp a l) ≡ true) same (ties_with_itself a) in
    let no : false ≡ true = sym (below_apart a b h) ∙ tie in
    cc

none_passes : (p : ℕ → Bool) (xs : List ℕ) → list_any p xs ≡ false → AllByRecursion (λ x. p x ≡ false) xs
none_passes p [] h = tt
none_passes p (x ∷ xs) h = elim (p x) as (λ b. p x ≡ b → (b || list_any p xs) ≡ false → AllByRecursion (λ y. p y ≡ false) (x ∷ xs)) [
  | true ↦ λ e k. absurd (cc)
  | false ↦ λ e k. (e, none_passes p xs k)
] refl h

-- a match at a place
record Found (ms : List Match) (at : Match → ℕ) (q : ℕ) : Type 0 where
  place : ℕ
  found : Match
  is : slice_get ms place ≡ Some found
  there : at found ≡ q

found_in : (at : Match → ℕ) (ms : List Match) (q : ℕ) → list_any (eqb q) (map at ms) ≡ true → Found ms at q
found_in at [] q h = absurd (cc)
found_in at (m ∷ ms) q h = elim (eqb q (at m)) as (λ b. eqb q (at m) ≡ b → (b || list_any (eqb q) (map at ms)) ≡ true → Found (m ∷ ms) at q) [
  | true ↦ λ e k. record { place = zero; found = m; is = refl; there = sym (eqb-true q (at m) e) }
  | false ↦ λ e k. let later = found_in at ms q k in record { place = suc later.place; found = later.found; is = later.is; there = later.there }
] refl h

module _ (all : List ResultSeries) (at : Match → ℕ) where
  abbrev Stands : Match → Type 0
  Stands m = HasLabels m.labels (slice_get all (at m))

  other_places : (m : Match) (ms : List Match) → Stands m → AllByRecursion Stands ms → AreBelow m.labels ms → AllByRecursion (λ (p : ℕ). eqb (at m) p ≡ false) (map at ms)
  other_places m [] s a b = tt
  other_places m (x ∷ ms) s a b = (
    ne_eqb (at m) (at x) (λ same. never_below x.labels m.labels (same_if_has x.labels m.labels (slice_get all (at x)) a.0 (subst (λ (p : ℕ). HasLabels m.labels (slice_get all p)) same s)) b.0),
    other_places m ms s a.1 b.1,
  )

  apart : (ms : List Match) → AllByRecursion Stands ms → AreFalling ms → IsDistinct eqb (map at ms)
  unfolding IsDistinct
  apart [] a f = tt
  apart (m ∷ ms) a f = (other_places m ms a.0 a.1 f.0, apart ms a.1 f.1)

  place_within : (labels : LabelList) (o : Option ResultSeries) (p : ℕ) → slice_get all p ≡ o → HasLabels labels o → p < length all
  place_within labels None p e h = absurd h
  place_within labels (Some s) p e h = slice_get_within all p s e

  places_within : (ms : List Match) → AllByRecursion Stands ms → (q : ℕ) → list_any (eqb q) (map at ms) ≡ true → q < length all
  places_within [] a q h = absurd (cc)
  places_within (m ∷ ms) a q h = elim (eqb q (at m)) as (λ b. eqb q (at m) ≡ b → (b || list_any (eqb q) (map at ms)) ≡ true → q < length all) [
    | true ↦ λ e k. subst (λ (p : ℕ). p < length all) (sym (eqb-true q (at m) e)) (place_within m.labels (slice_get all (at m)) (at m) refl a.0)
    | false ↦ λ e k. places_within ms a.1 q k
  ] refl h

  with_one : (ms : List Match) (q : ℕ) → AllByRecursion Stands ms → q < length all → (p : ℕ) → list_any (eqb p) (q ∷ map at ms) ≡ true → p < length all
  with_one ms q a w p h = elim (eqb p q) as (λ b. eqb p q ≡ b → (b || list_any (eqb p) (map at ms)) ≡ true → p < length all) [
    | true ↦ λ e k. subst (λ (r : ℕ). r < length all) (sym (eqb-true p q e)) w
    | false ↦ λ e k. places_within ms a p k
  ] refl h

  -- as many places as there are series are those of all series
  each_place : (ms : List Match) → AllByRecursion Stands ms → AreFalling ms → length ms ≡ length all → (q : ℕ) → q < length all → list_any (eqb q) (map at ms) ≡ true
  each_place ms a f many q w = elim (list_any (eqb q) (map at ms)) as (λ b. list_any (eqb q) (map at ms) ≡ b → b ≡ true) [
    | true ↦ λ _. refl
    | false ↦ λ none. absurd (
        let distinct = IsDistinct-cons eqb q (map at ms) (none_passes (eqb q) (map at ms) none) (apart ms a f) in
        let few : length (q ∷ map at ms) ≤ length all = length-le_from_distinct_below (q ∷ map at ms) (length all) distinct (with_one ms q a w) in
        omega (arith, many, few, length-map ms at)
        )
  ] refl

  found_at : (ms : List Match) → AllByRecursion Stands ms → AreFalling ms → length ms ≡ length all → (q : ℕ) (s : ResultSeries) → slice_get all q ≡ Some s → Found ms at q
  found_at ms a f many q s e = found_in at ms q (each_place ms a f many q (slice_get_within all q s e))

-- labels stand in one match alone
unique : (ms : List Match) → AreFalling ms → (j k : ℕ) (m n : Match) → slice_get ms j ≡ Some m → slice_get ms k ≡ Some n → m.labels ≡ n.labels → m ≡ n
unique [] f j k m n e g same = absurd (cc)
unique (x ∷ ms) f zero zero m n e g same = let first : x ≡ m = cc in let second : x ≡ n = cc in sym first ∙ second
unique (x ∷ ms) f zero (suc k) m n e g same =
    let first : x ≡ m = cc in
    let below : labels_cmp n.labels x.labels ≡ Less = at_place (λ (y : Match). labels_cmp y.labels x.labels ≡ Less) ms k n f.0 g in
    absurd (never_below n.labels x.labels (subst (λ (y : Match). n.labels ≡ y.labels) (sym first) (sym same)) below)
unique (x ∷ ms) f (suc j) zero m n e g same =
    let first : x ≡ n = cc in
    let below : labels_cmp m.labels x.labels ≡ Less = at_place (λ (y : Match). labels_cmp y.labels x.labels ≡ Less) ms j m f.0 e in
    absurd (never_below m.labels x.labels (subst (λ (y : Match). m.labels ≡ y.labels) (sym first) same) below)
unique (x ∷ ms) f (suc j) (suc k) m n e g same = unique ms f.1 j k m n e g same

-- ---- agreement

labels_there : (all : List ResultSeries) (labels : LabelList) (i p : ℕ) (s : ResultSeries) → i ≡ p → slice_get all p ≡ Some s → HasLabels labels (slice_get all i) → s.labels ≡ labels
labels_there all labels i p s same e h = subst (HasLabels labels) e (subst (λ (k : ℕ). HasLabels labels (slice_get all k)) same h)

there_by : (all : List ResultSeries) (labels : LabelList) (o : Option ResultSeries) (q : ℕ) → slice_get all q ≡ o → HasLabels labels o → IsSome (series_under labels all)
there_by all labels None q e h = absurd h
there_by all labels (Some t) q e h = subst (λ (l : LabelList). IsSome (series_under l all)) h (there_itself all q t e)

module _ (wanted got : List ResultSeries) (last : Option LabelList) (many : ℕ) (a : AreMatched wanted got last many) (lines : length wanted ≡ many) (places : length got ≡ many) where
  line_found : (p : ℕ) (s : ResultSeries) → slice_get wanted p ≡ Some s → Found a.matches (λ (m : Match). m.line) p
  line_found = found_at wanted (λ (m : Match). m.line) a.matches (one (IsMatch wanted got) (λ (m : Match). HasLabels m.labels (slice_get wanted m.line)) (λ m is. is.line) a.matches a.each) a.falling (a.count ∙ sym lines)

  place_found : (q : ℕ) (t : ResultSeries) → slice_get got q ≡ Some t → Found a.matches (λ (m : Match). m.place) q
  place_found = found_at got (λ (m : Match). m.place) a.matches (one (IsMatch wanted got) (λ (m : Match). HasLabels m.labels (slice_get got m.place)) (λ m is. is.place) a.matches a.each) a.falling (a.count ∙ sym places)

  is_match : (at : Match → ℕ) (q : ℕ) (f : Found a.matches at q) → IsMatch wanted got f.found
  is_match at q f = at_place (IsMatch wanted got) a.matches f.place f.found a.each f.is

  line_has : (p : ℕ) (s : ResultSeries) (e : slice_get wanted p ≡ Some s) → s.labels ≡ (line_found p s e).found.labels
  line_has p s e = let f = line_found p s e in labels_there wanted f.found.labels f.found.line p s f.there e (is_match (λ (m : Match). m.line) p f).line

  place_has : (q : ℕ) (t : ResultSeries) (g : slice_get got q ≡ Some t) → t.labels ≡ (place_found q t g).found.labels
  place_has q t g = let f = place_found q t g in labels_there got f.found.labels f.found.place q t f.there g (is_match (λ (m : Match). m.place) q f).place

  near_if_same : (q : ℕ) (t : ResultSeries) → slice_get got q ≡ Some t → (p : ℕ) (s : ResultSeries) → slice_get wanted p ≡ Some s → s.labels ≡ t.labels → IsNear s t
  near_if_same q t g p s e same =
      let l = line_found p s e in
      let r = place_found q t g in
      let one_match : l.found ≡ r.found = unique a.matches a.falling l.place r.place l.found r.found l.is r.is (sym (line_has p s e) ∙ same ∙ place_has q t g) in
      let at : l.found.place ≡ q = subst (λ (m : Match). m.place ≡ q) (sym one_match) r.there in
      (is_match (λ (m : Match). m.line) p l).near s t (subst (λ (k : ℕ). slice_get wanted k ≡ Some s) (sym l.there) e) (subst (λ (k : ℕ). slice_get got k ≡ Some t) (sym at) g)

  line_there : (p : ℕ) (s : ResultSeries) → slice_get wanted p ≡ Some s → IsThere got s
  line_there p s e =
      let f = line_found p s e in
      subst (λ (l : LabelList). IsSome (series_under l got)) (sym (line_has p s e)) (there_by got f.found.labels (slice_get got f.found.place) f.found.place refl (is_match (λ (m : Match). m.line) p f).place)

  place_there : (q : ℕ) (t : ResultSeries) → slice_get got q ≡ Some t → IsThere wanted t
  place_there q t g =
      let f = place_found q t g in
      subst (λ (l : LabelList). IsSome (series_under l wanted)) (sym (place_has q t g)) (there_by wanted f.found.labels (slice_get wanted f.found.line) f.found.line refl (is_match (λ (m : Match). m.place) q f).line)

  abbrev IsNearToSame : ResultSeries → Type 0
  IsNearToSame t = (p : ℕ) (s : ResultSeries) → slice_get wanted p ≡ Some s → s.labels ≡ t.labels → IsNear s t

  line_met : (p : ℕ) (s : ResultSeries) → slice_get wanted p ≡ Some s → (o : Option ResultSeries) → series_under s.labels got ≡ o → IsSome o → IsMetBy s o
  line_met p s e None f h = absurd (cc)
  line_met p s e (Some t) f h =
      let found = found_has IsNearToSame got s.labels t (by_places IsNearToSame got near_if_same) f in
      found.1 p s e (sym found.0)

  pub all_matched : Agrees wanted got
  all_matched = record {
    each = by_places (IsMet got) wanted (λ p s e. line_met p s e (series_under s.labels got) refl (line_there p s e));
    no_other = by_places (IsThere wanted) got place_there;
  }
