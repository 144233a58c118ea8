-- A selection that looks at the series of a posting list.
use Rattle.std.proofs.Common.{◌≡◌, ◌∙◌, Bool, true, false, ℕ, zero, suc, ◌+◌, ◌<◌, ◌≤◌, List, [], ◌∷◌, ◌++◌, length, map, drop, Option, Some, None, slice_get, ap, sym, refl, subst, arith, if◌then◌else◌, Bor}
use Rattle.std.specs.Prelude.{MatchOption}
use Rattle.std.specs.List.{AllByRecursion}
use Rattle.std.specs.Option.{option_map}
use Rattle.std.proofs.lemmas.Option.{slice_get_within}
use Rattle.label_set.specs.Labels.{value_of}
use Rattle.label_set.specs.declared.rules.Rule.{Rule}
use Rattle.label_set.specs.declared.rules.RuleKind.TheVariants.{Eq}
use Rattle.match_rule.specs.Patterns.{kind_passes, labels_pass}
use Rattle.sample_store.specs.declared.shortest.PostingList.{PostingList}
use Rattle.sample_store.specs.Samples.{AllSeries, IsListed, IsShortest, Names, Pair, PassRule, has_pair, labels_at, looked_at, numbers_with, passing_at}
use Rattle.sample_store.proofs.Selects.{named}

-- the numbers of a pair are those of series that are there
within : (pair : Pair) (most n : ℕ) (series : AllSeries) → n + length series ≤ most → AllByRecursion (λ (k : ℕ). k < most) (numbers_with pair n series)
within pair most n [] h = tt
within pair most n (s ∷ series) h = by (has_pair pair s.0) (within pair most (n + 1) series (omega (arith, h)))
  where
    by : (b : Bool) → AllByRecursion (λ (k : ℕ). k < most) (numbers_with pair (n + 1) series)
        → AllByRecursion (λ (k : ℕ). k < most) (if b then n ∷ numbers_with pair (n + 1) series else numbers_with pair (n + 1) series)
    by true rest = (omega (arith, h), rest)
    by false rest = rest

pub all_below : (pair : Pair) (series : AllSeries) → AllByRecursion (λ (k : ℕ). k < length series) (numbers_with pair 0 series)
all_below pair series = within pair (length series) 0 series (omega arith)

-- and these have the pair
having : (pair : Pair) (all : AllSeries) (n : ℕ) (series : AllSeries) → ((k : ℕ) → labels_at all (n + k) ≡ labels_at series k)
    → AllByRecursion (λ (k : ℕ). has_pair pair (labels_at all k) ≡ true) (numbers_with pair n series)
having pair all n [] at = tt
having pair all n (s ∷ series) at =
    by (has_pair pair s.0) refl (having pair all (n + 1) series (λ k. let e : n + 1 + k ≡ n + suc k = omega arith in ap (labels_at all) e ∙ at (suc k)))
  where
    here : labels_at all n ≡ s.0
    here = let e : n ≡ n + 0 = omega arith in ap (labels_at all) e ∙ at 0

    by : (b : Bool) → has_pair pair s.0 ≡ b → AllByRecursion (λ (k : ℕ). has_pair pair (labels_at all k) ≡ true) (numbers_with pair (n + 1) series)
        → AllByRecursion (λ (k : ℕ). has_pair pair (labels_at all k) ≡ true) (if b then n ∷ numbers_with pair (n + 1) series else numbers_with pair (n + 1) series)
    by true e rest = (ap (has_pair pair) here ∙ e, rest)
    by false e rest = rest

all_have : (pair : Pair) (series : AllSeries) → AllByRecursion (λ (k : ℕ). has_pair pair (labels_at series k) ≡ true) (numbers_with pair 0 series)
all_have pair series = having pair series 0 series (λ k. let e : 0 + k ≡ k = omega arith in ap (labels_at series) e)

all_at : (P : ℕ → Type 0) (numbers : List ℕ) (i n : ℕ) → AllByRecursion P numbers → slice_get numbers i ≡ Some n → P n
all_at P [] i n a h = absurd (cc)
all_at P (x ∷ xs) zero n a h = let e : x ≡ n = cc in subst P e a.0
all_at P (x ∷ xs) (suc i) n a h = all_at P xs i n a.1 h

-- so a listed number is that of a series that is there and passes the rule whose list it is
module _ (rules : List Rule) (series : AllSeries) (place : ℕ) (numbers : List ℕ) (l : IsListed rules series place numbers) where
  pub rule_there : place < length rules
  rule_there = slice_get_within rules place (record { label = l.label; kind = Eq l.text }) l.asks

  pub listed_there : (i n : ℕ) → slice_get numbers i ≡ Some n → n < length series
  listed_there i n h = all_at (λ k. k < length series) numbers i n (subst (AllByRecursion (λ (k : ℕ). k < length series)) (sym l.exact) (all_below (l.label, l.text) series)) h

  pub listed_passes : (kept : List (Bool × List ℕ)) (i n : ℕ) → slice_get numbers i ≡ Some n → PassRule kept rules place (labels_at series n)
  listed_passes kept i n h =
      let pair : Pair = (l.label, l.text) in
      let names : Names = labels_at series n in
      let has : has_pair pair names ≡ true = all_at (λ k. has_pair pair (labels_at series k) ≡ true) numbers i n (subst (AllByRecursion (λ (k : ℕ). has_pair pair (labels_at series k) ≡ true)) (sym l.exact) (all_have pair series)) h in
      ap (option_map (λ (rule : Rule). kind_passes kept rule.kind (value_of names rule.label))) l.asks ∙ ap Some has

pub shortest_listed : (rules : List Rule) (series : AllSeries) (found : Option PostingList) (list : PostingList) → found ≡ Some list
    → MatchOption found (looked_at rules series ≡ length series) (λ one. IsShortest rules series one.rule one.numbers.now) → IsListed rules series list.rule list.numbers.now
shortest_listed rules series None list e m = absurd (cc)
shortest_listed rules series (Some one) list e m =
    let same : one ≡ list = cc in
    subst (λ (z : PostingList). IsListed rules series z.rule z.numbers.now) same m.0

append-none : (xs : List (Names × ℕ)) → xs ++ [] ≡ xs
append-none [] = refl
append-none (x ∷ xs) = ap (λ z. x ∷ z) (append-none xs)

map-push : (xs : List (Bor Names × ℕ)) (x : Bor Names × ℕ) → map named (xs ++ x ∷ []) ≡ map named xs ++ (x.0.now, x.1) ∷ []
map-push [] x = refl
map-push (y ∷ ys) x = ap (λ z. (y.0.now, y.1) ∷ z) (map-push ys x)

append-again : (xs ys : List (Names × ℕ)) (x : Names × ℕ) → (xs ++ x ∷ []) ++ ys ≡ xs ++ x ∷ ys
append-again [] ys x = refl
append-again (z ∷ zs) ys x = ap (λ k. z ∷ k) (append-again zs ys x)

module _ (kept : List (Bool × List ℕ)) (rules : List Rule) (series : AllSeries) where
  abbrev one-more : Bool → Names → ℕ → List (Names × ℕ) → List (Names × ℕ)
  one-more b names n rest = if b then (names, n) ∷ rest else rest

  passing_step : (numbers : List ℕ) (i n : ℕ) (names : Names) → slice_get numbers i ≡ Some n → labels_at series n ≡ names
      → passing_at kept rules series (drop i numbers) ≡ one-more (labels_pass kept rules names) names n (passing_at kept rules series (drop (i + 1) numbers))
  passing_step [] i n names h e = absurd (cc)
  passing_step (x ∷ xs) zero n names h e =
      let f : x ≡ n = cc in
      ap (λ z. one-more (labels_pass kept rules (labels_at series z)) (labels_at series z) z (passing_at kept rules series xs)) f
      ∙ ap (λ z. one-more (labels_pass kept rules z) z n (passing_at kept rules series xs)) e
  passing_step (x ∷ xs) (suc i) n names h e =
      let j : suc (i + 1) ≡ suc i + 1 = omega arith in
      subst (λ z. passing_at kept rules series (drop i xs) ≡ one-more (labels_pass kept rules names) names n (passing_at kept rules series (drop z (x ∷ xs)))) j (passing_step xs i n names h e)

  none-left : (numbers : List ℕ) (i : ℕ) → length numbers ≤ i → passing_at kept rules series (drop i numbers) ≡ []
  none-left [] zero h = refl
  none-left [] (suc i) h = refl
  none-left (x ∷ xs) zero h = absurd (omega (arith, h))
  none-left (x ∷ xs) (suc i) h = none-left xs i (omega (arith, h))

  pub all_looked_at : (numbers : List ℕ) (i : ℕ) (xs all : List (Names × ℕ)) → length numbers ≤ i → xs ++ passing_at kept rules series (drop i numbers) ≡ all → xs ≡ all
  all_looked_at numbers i xs all l h = sym (append-none xs) ∙ ap (λ z. xs ++ z) (sym (none-left numbers i l)) ∙ h

  module _ (numbers : List ℕ) (i n : ℕ) (names : Names) (all : List (Names × ℕ)) (xs : List (Bor Names × ℕ))
      (so : map named xs ++ passing_at kept rules series (drop i numbers) ≡ all) (there : slice_get numbers i ≡ Some n) (at : labels_at series n ≡ names) where
    pub passed_at : (ys : List (Bor Names × ℕ)) (x : Bor Names × ℕ) → labels_pass kept rules names ≡ true → ys ≡ xs ++ x ∷ [] → x.0.now ≡ names → x.1 ≡ n
        → map named ys ++ passing_at kept rules series (drop (i + 1) numbers) ≡ all
    passed_at ys x b e m j =
        let rest = passing_at kept rules series (drop (i + 1) numbers) in
        let f : map named xs ++ (names, n) ∷ rest ≡ all = ap (λ z. map named xs ++ z) (sym (passing_step numbers i n names there at ∙ ap (λ c. one-more c names n rest) b)) ∙ so in
        ap (λ z. map named z ++ rest) e ∙ ap (λ z. z ++ rest) (map-push xs x)
        ∙ append-again (map named xs) rest (x.0.now, x.1)
        ∙ (λ k. map named xs ++ (m k, j k) ∷ rest) ∙ f

    pub missed_at : labels_pass kept rules names ≡ false → map named xs ++ passing_at kept rules series (drop (i + 1) numbers) ≡ all
    missed_at b =
        let rest = passing_at kept rules series (drop (i + 1) numbers) in
        ap (λ z. map named xs ++ z) (sym (passing_step numbers i n names there at ∙ ap (λ c. one-more c names n rest) b)) ∙ so
