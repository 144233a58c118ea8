-- The labels of what is absent, one label further.
use Rattle.std.proofs.Common.{◌≡◌, ◌∙◌, ℕ, ◌+◌, ◌<◌, ◌≤◌, Bool, true, false, cond, List, [], ◌∷◌, ◌++◌, length, get_or, drop, map, ap, sym, refl, Option, None, Some, arith}
use Rattle.std.specs.Prelude.{◌==◌, filter, not, bytes_eq, is_some, MatchBool}
use Rattle.std.specs.List.{cons_option, filter_map, last_or}
use Rattle.std.specs.Option.{option_and_then, option_map, option_to_list}
use Rattle.std.proofs.lemmas.List.{drop_all}
use Rattle.std.proofs.lemmas.List.Elements.{filter-append}
use Rattle.label_set.specs.Labels.{is_named, metric_name, put_refusal, with_pair, without}
use Rattle.label_set.specs.declared.rules.Rule.{Rule}
use Rattle.label_set.specs.declared.rules.RuleKind.{RuleKind}
use Rattle.step_table.specs.Groups.{Names}
use Rattle.step_table.specs.Operators.{all_put}
use Rattle.promql_meaning.specs.Absences.{absent_pair, absent_value, equal_text, is_equality, kinds_on}
use Rattle.step_rules.specs.Absent.{pairs_among, pairs_on}
use Rattle.step_rules.specs.Rests.{drop_item}

-- ---- pairs that are put

abbrev Taken : Names → Names → Names → Bool → Type 0
Taken old new pairs taken = MatchBool taken (all_put old pairs ≡ Some new) (all_put old pairs ≡ None)

goes_on : (old new : Names) (ps rest : Names) → all_put old ps ≡ Some new → all_put old (ps ++ rest) ≡ all_put new rest
goes_on old new [] rest e = let same : old ≡ new = cc in ap (λ l. all_put l rest) same
goes_on old new (p ∷ ps) rest e =
    elim (is_some (put_refusal old p.0 p.1)) as (λ b. cond b None (all_put (with_pair old p.0 p.1) ps) ≡ Some new → cond b None (all_put (with_pair old p.0 p.1) (ps ++ rest)) ≡ all_put new rest) [
      | true ↦ λ f. absurd (cc)
      | false ↦ λ f. goes_on (with_pair old p.0 p.1) new ps rest f
    ] e

ends : (old : Names) (ps rest : Names) → all_put old ps ≡ None → all_put old (ps ++ rest) ≡ None
ends old [] rest e = absurd (cc)
ends old (p ∷ ps) rest e =
    elim (is_some (put_refusal old p.0 p.1)) as (λ b. cond b None (all_put (with_pair old p.0 p.1) ps) ≡ None → cond b None (all_put (with_pair old p.0 p.1) (ps ++ rest)) ≡ None) [
      | true ↦ λ f. refl
      | false ↦ λ f. ends (with_pair old p.0 p.1) ps rest f
    ] e

filter_more : (rules : List Rule) (label : List ℕ) (labels : List (List ℕ)) → filter_map (absent_pair rules) (label ∷ labels) ≡ option_to_list (absent_pair rules label) ++ filter_map (absent_pair rules) labels
filter_more rules label labels =
    elim (absent_pair rules label) as (λ o. cons_option o (filter_map (absent_pair rules) labels) ≡ option_to_list o ++ filter_map (absent_pair rules) labels) [ None ↦ refl | Some p ↦ refl ]

among_more : (rules : List Rule) (label : List ℕ) (labels : List (List ℕ)) → pairs_among rules (label ∷ labels) ≡ pairs_on rules label ++ pairs_among rules labels
among_more rules label labels =
    ap (without (metric_name ∷ [])) (filter_more rules label labels)
    ∙ filter-append (λ (p : List ℕ × List ℕ). not (is_named (metric_name ∷ []) p.0)) (option_to_list (absent_pair rules label)) (filter_map (absent_pair rules) labels)

pub put_more : (rules : List Rule) (label : List ℕ) (labels : List (List ℕ)) (old new : Names) (all : Option Names) → all_put old (pairs_on rules label) ≡ Some new
    → all_put old (pairs_among rules (label ∷ labels)) ≡ all → all_put new (pairs_among rules labels) ≡ all
put_more rules label labels old new all put told =
    sym (goes_on old new (pairs_on rules label) (pairs_among rules labels) put) ∙ ap (all_put old) (sym (among_more rules label labels)) ∙ told

pub put_stops : (rules : List Rule) (label : List ℕ) (labels : List (List ℕ)) (old : Names) (all : Option Names) → all_put old (pairs_on rules label) ≡ None
    → all_put old (pairs_among rules (label ∷ labels)) ≡ all → None ≡ all
put_stops rules label labels old all put told =
    sym (ends old (pairs_on rules label) (pairs_among rules labels) put) ∙ ap (all_put old) (sym (among_more rules label labels)) ∙ told

-- ---- one label

of_metric : (label : List ℕ) (o : Option (List ℕ)) (b : Bool) → is_named (metric_name ∷ []) label ≡ b
    → without (metric_name ∷ []) (option_to_list (option_map (λ (value : List ℕ). (label, value)) o)) ≡ cond b [] (option_to_list (option_map (λ (value : List ℕ). (label, value)) o))
of_metric label None true e = refl
of_metric label None false e = refl
of_metric label (Some v) true e = ap (λ b. cond (not b) ((label, v) ∷ []) []) e
of_metric label (Some v) false e = ap (λ b. cond (not b) ((label, v) ∷ []) []) e

pub metric_stays : (rules : List Rule) (label : List ℕ) (old : Names) → is_named (metric_name ∷ []) label ≡ true → all_put old (pairs_on rules label) ≡ Some old
metric_stays rules label old e = ap (all_put old) (of_metric label (absent_value (kinds_on rules label)) true e)

pub missing_stays : (rules : List Rule) (label : List ℕ) (old : Names) → is_named (metric_name ∷ []) label ≡ false → absent_value (kinds_on rules label) ≡ None → all_put old (pairs_on rules label) ≡ Some old
missing_stays rules label old e none =
    ap (all_put old) (of_metric label (absent_value (kinds_on rules label)) false e ∙ ap (λ o. option_to_list (option_map (λ (value : List ℕ). (label, value)) o)) none)

pub value_put : (rules : List Rule) (label value : List ℕ) (old new : Names) (taken : Bool) → is_named (metric_name ∷ []) label ≡ false → absent_value (kinds_on rules label) ≡ Some value
    → MatchBool taken ((is_some (put_refusal old label value) ≡ false) × (new ≡ with_pair old label value)) (is_some (put_refusal old label value) ≡ true) → Taken old new (pairs_on rules label) taken
value_put rules label value old new taken e some put =
    let pair = of_metric label (absent_value (kinds_on rules label)) false e ∙ ap (λ o. option_to_list (option_map (λ (value : List ℕ). (label, value)) o)) some in
    by pair taken put
  where
    by : pairs_on rules label ≡ (label, value) ∷ [] → (b : Bool) → MatchBool b ((is_some (put_refusal old label value) ≡ false) × (new ≡ with_pair old label value)) (is_some (put_refusal old label value) ≡ true) → Taken old new (pairs_on rules label) b
    by pair true put = ap (all_put old) pair ∙ ap (λ b. cond b None (Some (with_pair old label value))) put.0 ∙ ap Some (sym put.1)
    by pair false put = ap (all_put old) pair ∙ ap (λ b. cond b None (Some (with_pair old label value))) put

-- ---- the rules on a label

-- the text of the last rule, behind an earlier one's
abbrev pub latest : Option (List ℕ) → List RuleKind → Option (List ℕ)
latest text [] = text
latest text (kind ∷ kinds) = latest (equal_text kind) kinds

latest_is : (o : Option RuleKind) (kinds : List RuleKind) → latest (option_and_then equal_text o) kinds ≡ option_and_then equal_text (last_or o kinds)
latest_is o [] = refl
latest_is o (kind ∷ kinds) = latest_is (Some kind) kinds

pub latest_of_all : (kinds : List RuleKind) → latest None kinds ≡ option_and_then equal_text (last_or None kinds)
latest_of_all kinds = latest_is None kinds

pub kinds_next : (rules : List Rule) (label : List ℕ) (i : ℕ) (rule : Rule) → i < length rules → rule ≡ get_or rules i rule → bytes_eq rule.label label ≡ true → kinds_on (drop i rules) label ≡ rule.kind ∷ kinds_on (drop (i + 1) rules) label
kinds_next rules label i rule w is e =
    ap (λ rs. kinds_on rs label) (drop_item rules i rule w is)
    ∙ ap (λ b. map (λ (r : Rule). r.kind) (cond b (rule ∷ filter (λ (r : Rule). bytes_eq r.label label) (drop (i + 1) rules)) (filter (λ (r : Rule). bytes_eq r.label label) (drop (i + 1) rules)))) e

pub kinds_skip : (rules : List Rule) (label : List ℕ) (i : ℕ) (rule : Rule) → i < length rules → rule ≡ get_or rules i rule → bytes_eq rule.label label ≡ false → kinds_on (drop i rules) label ≡ kinds_on (drop (i + 1) rules) label
kinds_skip rules label i rule w is e =
    ap (λ rs. kinds_on rs label) (drop_item rules i rule w is)
    ∙ ap (λ b. map (λ (r : Rule). r.kind) (cond b (rule ∷ filter (λ (r : Rule). bytes_eq r.label label) (drop (i + 1) rules)) (filter (λ (r : Rule). bytes_eq r.label label) (drop (i + 1) rules)))) e

abbrev pub equalities : List RuleKind → ℕ
equalities kinds = length (filter is_equality kinds)

equalities_cons : (kind : RuleKind) (kinds : List RuleKind) → equalities (kind ∷ kinds) ≡ equalities (kind ∷ []) + equalities kinds
equalities_cons kind kinds =
    elim (is_equality kind) as (λ b. length (cond b (kind ∷ filter is_equality kinds) (filter is_equality kinds)) ≡ length (cond b (kind ∷ []) []) + equalities kinds) [ true ↦ omega arith | false ↦ omega arith ]

pub equalities_few : (rules : List Rule) (label : List ℕ) → equalities (kinds_on rules label) ≤ length rules
equalities_few [] label = omega arith
equalities_few (rule ∷ rules) label =
    let rest : equalities (kinds_on rules label) ≤ length rules = equalities_few rules label in
    elim (bytes_eq rule.label label) as (λ b. equalities (map (λ (r : Rule). r.kind) (cond b (rule ∷ filter (λ (r : Rule). bytes_eq r.label label) rules) (filter (λ (r : Rule). bytes_eq r.label label) rules))) ≤ length (rule ∷ rules)) [
      | true ↦ elim (is_equality rule.kind) as (λ b. length (cond b (rule.kind ∷ filter is_equality (kinds_on rules label)) (filter is_equality (kinds_on rules label))) ≤ length (rule ∷ rules)) [ true ↦ omega arith | false ↦ omega arith ]
      | false ↦ omega arith
    ]

-- what is known of the rules so far
pub record IsCounted (rules : List Rule) (label : List ℕ) (i count : ℕ) (last : Option (List ℕ)) : Type 0 where
  pub counts : count + equalities (kinds_on (drop i rules) label) ≡ equalities (kinds_on rules label)
  pub ends_in : latest last (kinds_on (drop i rules) label) ≡ latest None (kinds_on rules label)

pub counted_next : (rules : List Rule) (label : List ℕ) (i : ℕ) (rule : Rule) (count : ℕ) (last : Option (List ℕ)) → i < length rules → rule ≡ get_or rules i rule → bytes_eq rule.label label ≡ true
    → IsCounted rules label i count last → IsCounted rules label (i + 1) (count + equalities (rule.kind ∷ [])) (equal_text rule.kind)
counted_next rules label i rule count last w is e told =
    let next = kinds_next rules label i rule w is e in
    let counts = ap (λ ks. count + equalities ks) (sym next) ∙ told.counts in
    let parts = equalities_cons rule.kind (kinds_on (drop (i + 1) rules) label) in
    record {
      counts = omega (arith, counts, parts);
      ends_in = ap (latest last) (sym next) ∙ told.ends_in;
    }

pub counted_skip : (rules : List Rule) (label : List ℕ) (i : ℕ) (rule : Rule) (count : ℕ) (last : Option (List ℕ)) → i < length rules → rule ≡ get_or rules i rule → bytes_eq rule.label label ≡ false
    → IsCounted rules label i count last → IsCounted rules label (i + 1) count last
counted_skip rules label i rule count last w is e told =
    let next = kinds_skip rules label i rule w is e in
    record {
      counts = ap (λ ks. count + equalities ks) (sym next) ∙ told.counts;
      ends_in = ap (latest last) (sym next) ∙ told.ends_in;
    }

-- there is room to count one more
pub counts_within : (rules : List Rule) (label : List ℕ) (i : ℕ) (rule : Rule) (count : ℕ) (last : Option (List ℕ)) → i < length rules → rule ≡ get_or rules i rule → bytes_eq rule.label label ≡ true
    → IsCounted rules label i count last → count + equalities (rule.kind ∷ []) ≤ length rules
counts_within rules label i rule count last w is e told =
    let next = (counted_next rules label i rule count last w is e told).counts in
    omega (arith, next, equalities_few rules label)

pub counted_all : (rules : List Rule) (label : List ℕ) (i count : ℕ) (last : Option (List ℕ)) → length rules ≤ i → IsCounted rules label i count last
    → (count ≡ equalities (kinds_on rules label)) × (last ≡ option_and_then equal_text (last_or None (kinds_on rules label)))
counted_all rules label i count last w told =
    let none = ap (λ rs. kinds_on rs label) (drop_all i rules w) in
    let counts = ap (λ ks. count + equalities ks) (sym none) ∙ told.counts in
    (omega (arith, counts), ap (latest last) (sym none) ∙ told.ends_in ∙ latest_of_all (kinds_on rules label))

pub only_one : (rules : List Rule) (label : List ℕ) (i count : ℕ) (last : Option (List ℕ)) → length rules ≤ i → IsCounted rules label i count last → count ≡ 1 → last ≡ absent_value (kinds_on rules label)
only_one rules label i count last w told e =
    let all = counted_all rules label i count last w told in
    let kinds = kinds_on rules label in
    let one : (equalities kinds == 1) ≡ true = ap (λ n. n == 1) (sym all.0 ∙ e) in
    all.1 ∙ sym (ap (λ b. cond b (option_and_then equal_text (last_or None kinds)) None) one)
