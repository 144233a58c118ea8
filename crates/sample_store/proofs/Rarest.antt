-- The shortest of the lists that some rules ask for.
use Rattle.std.proofs.Common.{◌≡◌, ◌≢◌, ◌∙◌, Bool, true, false, ℕ, zero, suc, ◌+◌, ◌<◌, ◌≤◌, List, [], ◌∷◌, length, drop, Option, Some, None, slice_get, ap, sym, refl, subst, arith, true≢false, Bor}
use Rattle.std.specs.Prelude.{◌==◌, MatchOption, min, if◌then◌else◌}
use Rattle.label_set.specs.declared.rules.Rule.{Rule}
use Rattle.label_set.specs.declared.rules.RuleKind.{RuleKind}
use Rattle.label_set.specs.declared.rules.RuleKind.TheVariants.{Eq, Ne, Re as Matching, Nre}
use Rattle.sample_store.specs.declared.shortest.PostingList.{PostingList}
use Rattle.sample_store.specs.Samples.{AllSeries, ArePostings, IsListed, IsShortest, Pair, Postings, asked, asked_under, fewer, fewest, looked_at, numbers_with, posted}

abbrev pub counted : AllSeries → Pair → ℕ
counted series pair = length (numbers_with pair 0 series)

-- what a rule that asks for a pair looks like
asks : (label : List ℕ) (kind : RuleKind) (pair : Pair) → asked_under label kind ≡ Some pair → (label ≡ pair.0) × (kind ≡ Eq pair.1) × (pair.1 ≢ [])
asks label (Eq text) pair h = by (length text == 0) refl h
  where
    by : (b : Bool) → (length text == 0) ≡ b → ◌≡◌ {A = Option Pair} (if b then None else Some (label, text)) (Some pair) → (label ≡ pair.0) × (Eq text ≡ Eq pair.1) × (pair.1 ≢ [])
    by true z e = absurd (cc)
    by false z e =
        let f : ◌≡◌ {A = Pair} (label, text) pair = cc in
        let empty : text ≢ [] = λ g. absurd (true≢false (sym (ap (λ (t : List ℕ). length t == 0) g) ∙ z)) in
        (ap (λ (p : Pair). p.0) f, ap (λ (p : Pair). Eq p.1) f, subst (λ (p : Pair). p.1 ≢ []) f empty)
asks label (Ne text) pair h = absurd (cc)
asks label (Matching id) pair h = absurd (cc)
asks label (Nre id) pair h = absurd (cc)

-- the list of a pair that a rule among the rules asks for
pub rule_listed : (series : AllSeries) (lists : Postings) (rules : List Rule) (i : ℕ) (rule : Rule) (pair : Pair) (numbers : List ℕ) → ArePostings series lists
    → slice_get rules i ≡ Some rule → asked rule ≡ Some pair → numbers ≡ posted lists pair → IsListed rules series i numbers
rule_listed series lists rules i rule pair numbers are there h e =
    let a = asks rule.label rule.kind pair h in
    let same : rule ≡ record { label = pair.0; kind = Eq pair.1 } = λ j. record { label = a.0 j; kind = a.1 j } in
    record { label = pair.0; text = pair.1; asks = there ∙ ap Some same; exact = e ∙ are.exact pair a.2 }

pub pair_found : (lists : Postings) (rule : Rule) (found : Option (Bor (List ℕ))) (numbers : Bor (List ℕ)) → found ≡ Some numbers
    → MatchOption found (asked rule ≡ None) (λ list. (pair : Pair) × (asked rule ≡ Some pair) × (list.now ≡ posted lists pair)) → (pair : Pair) × (asked rule ≡ Some pair) × (numbers.now ≡ posted lists pair)
pair_found lists rule None numbers e m = absurd (cc)
pair_found lists rule (Some list) numbers e m =
    let same : list ≡ numbers = cc in
    subst (λ (z : Bor (List ℕ)). (pair : Pair) × (asked rule ≡ Some pair) × (z.now ≡ posted lists pair)) same m

pub posted_count : (series : AllSeries) (lists : Postings) (rule : Rule) (pair : Pair) (numbers : List ℕ) → ArePostings series lists → asked rule ≡ Some pair → numbers ≡ posted lists pair
    → length numbers ≡ counted series pair
posted_count series lists rule pair numbers are h e = ap length (e ∙ are.exact pair (asks rule.label rule.kind pair h).2)

-- one rule after another
pub next_rule : (count : Pair → ℕ) (most i : ℕ) (rules : List Rule) (rule : Rule) → slice_get rules i ≡ Some rule
    → fewest count most (drop i rules) ≡ fewest count (fewer count most (asked rule)) (drop (i + 1) rules)
next_rule count most i [] rule h = absurd (cc)
next_rule count most zero (x ∷ xs) rule h = let e : x ≡ rule = cc in ap (λ z. fewest count (fewer count most (asked z)) xs) e
next_rule count most (suc i) (x ∷ xs) rule h =
    let j : suc (i + 1) ≡ suc i + 1 = omega arith in
    subst (λ z. fewest count most (drop i xs) ≡ fewest count (fewer count most (asked rule)) (drop z (x ∷ xs))) j (next_rule count most i xs rule h)

pub no_rule_left : (count : Pair → ℕ) (most i : ℕ) (rules : List Rule) → length rules ≤ i → fewest count most (drop i rules) ≡ most
no_rule_left count most zero [] h = refl
no_rule_left count most (suc i) [] h = refl
no_rule_left count most zero (x ∷ xs) h = absurd (omega (arith, h))
no_rule_left count most (suc i) (x ∷ xs) h = no_rule_left count most i xs (omega (arith, h))

-- a rule whose list is longer changes nothing, and a list that is no longer is the shortest so far
min-most : (n most : ℕ) → most < n → min n most ≡ most
min-most n most h = omega (arith, h)

min-less : (n most : ℕ) → n ≤ most → min n most ≡ n
min-less n most h = omega (arith, h)

pub not_fewer : (series : AllSeries) (lists : Postings) (rule : Rule) (pair : Pair) (numbers : List ℕ) (most : ℕ) → ArePostings series lists → asked rule ≡ Some pair → numbers ≡ posted lists pair
    → most < length numbers → fewer (counted series) most (asked rule) ≡ most
not_fewer series lists rule pair numbers most are h e l =
    let n = posted_count series lists rule pair numbers are h e in
    ap (fewer (counted series) most) h ∙ ap (λ z. min z most) (sym n) ∙ min-most (length numbers) most l

pub now_fewer : (series : AllSeries) (lists : Postings) (rule : Rule) (pair : Pair) (numbers : List ℕ) (most : ℕ) → ArePostings series lists → asked rule ≡ Some pair → numbers ≡ posted lists pair
    → length numbers ≤ most → fewer (counted series) most (asked rule) ≡ length numbers
now_fewer series lists rule pair numbers most are h e l =
    let n = posted_count series lists rule pair numbers are h e in
    ap (fewer (counted series) most) h ∙ ap (λ z. min z most) (sym n) ∙ min-less (length numbers) most l

pub none_asked : (series : AllSeries) (rule : Rule) (most : ℕ) → asked rule ≡ None → fewer (counted series) most (asked rule) ≡ most
none_asked series rule most h = ap (fewer (counted series) most) h

pub turned : (series : AllSeries) (rules : List Rule) (i most new all : ℕ) (rule : Rule) → slice_get rules i ≡ Some rule → fewer (counted series) most (asked rule) ≡ new
    → fewest (counted series) most (drop i rules) ≡ all → fewest (counted series) new (drop (i + 1) rules) ≡ all
turned series rules i most new all rule there e so =
    ap (λ m. fewest (counted series) m (drop (i + 1) rules)) (sym e) ∙ sym (next_rule (counted series) most i rules rule there) ∙ so

-- the shortest of all that were looked at is the shortest
pub best_is : (series : AllSeries) (rules : List Rule) (i most : ℕ) (best : Option PostingList) → length rules ≤ i → fewest (counted series) most (drop i rules) ≡ looked_at rules series
    → MatchOption best (most ≡ length series) (λ list. IsListed rules series list.rule list.numbers.now × (length list.numbers.now ≡ most))
    → MatchOption best (looked_at rules series ≡ length series) (λ list. IsShortest rules series list.rule list.numbers.now)
best_is series rules i most None l so m = sym so ∙ no_rule_left (counted series) most i rules l ∙ m
best_is series rules i most (Some list) l so m = (m.0, m.1 ∙ sym (no_rule_left (counted series) most i rules l) ∙ so)
