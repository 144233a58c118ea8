-- One to one, a pair and a sum of two vectors are the same with their sides exchanged.
use Rattle.std.proofs.Common.{◌≡◌, ◌∙◌, ◌<◌, ℕ, zero, suc, arith, Bool, true, false, List, [], ◌∷◌, ◌++◌, map, refl, sym, ap, Some, None, Option, Ok, lit<}
use Rattle.std.specs.Prelude.{◌||◌, not, is_some, slice_index_or, if◌then◌else◌}
use Rattle.std.specs.declared.cmp.Ordering.{Ordering}
use Rattle.std.specs.declared.cmp.Ordering.TheVariants.{Less, Equal, Greater}
use Rattle.std.specs.Ordering.{match_ordering}
use Rattle.std.specs.List.{All, AllByRecursion, cons_option, filter_map, list_any}
use Rattle.std.specs.List.Sorted.{IsPermutation}
use Rattle.std.specs.Option.{option_map}
use Rattle.std.specs.Set.{sorted_merge}
use Rattle.std.proofs.lemmas.Bool.{false≢true}
use Rattle.std.proofs.lemmas.List.Elements.{All-head, All-tail}
use Rattle.label_set.specs.Labels.{metric_name, without}
use Rattle.label_set.specs.declared.rules.Pairing.{Pairing}
use Rattle.xfrac.specs.Laws.{IsNumber, SumIgnoresOrder}
use Rattle.xfrac.specs.declared.value.ArithOp.TheVariants.{Add}
use Rattle.xfrac.specs.declared.value.PairOp.TheVariants.{Arith}
use Rattle.xfrac.specs.Sums.{sum_of}
use Rattle.xfrac.specs.declared.value.XFrac.{XFrac}
use Rattle.step_table.specs.Laws.{one_to_one, plus, PlusExchangesPairs, PlusExchangesRows, PlusIsExchanged, PlusKeepsSignature}
use Rattle.step_table.specs.Groups.{Names, alone, has_several, items_of, lone_items, shared_names}
use Rattle.step_table.specs.Matching.{by_signature, duplicates, faults_of, is_empty, left_rows, matches, pair_marks, pair_outcome, pair_rows, signature_of}
use Rattle.step_table.specs.Operators.{matched_labels}
use Rattle.step_table.specs.OrderLaws.{mark_cmp_total, mark_cmp_ties, note_cmp_total, note_cmp_ties}
use Rattle.step_table.specs.Orders.{mark_cmp, note_cmp}
use Rattle.step_table.specs.Outcomes.{keyed, mark_of, row_of}
use Rattle.step_table.specs.Unions.{set_of, united, with_fatal}
use Rattle.step_table.specs.declared.marks.Mark.{Mark}
use Rattle.step_table.specs.declared.marks.Mark.TheVariants.{DuplicateOneSide, ImplicitManyToOne}
use Rattle.step_table.specs.declared.marks.Marks.{Marks}
use Rattle.step_table.specs.declared.outcomes.Outcome.{Outcome}
use Rattle.step_table.specs.declared.step.Row.{Row}
use Rattle.step_table.specs.declared.step.Step.{Step}
use Rattle.step_table.specs.Alike.{gathered_alike, none_shared, union_swapped}
use Rattle.step_table.proofs.Filters.{matched_unnamed}
use Rattle.step_table.proofs.Matched.{all_matched, kept, kept_under, with_partner}
use Rattle.step_table.specs.KeySets.{any_of_set, merged-nil}

-- ---- a pair

swapped : (x y : XFrac) → IsPermutation (x ∷ y ∷ []) (y ∷ x ∷ [])
swapped x y = record { moves = (0, 1) ∷ []; below = (lit< tt, lit< tt, tt); is = refl }

both_numbers : (x y : XFrac) → IsNumber x → IsNumber y → All IsNumber (x ∷ y ∷ [])
both_numbers x y p q k d l = at k l
  where
    at : (k : ℕ) → k < 2 → IsNumber (slice_index_or (x ∷ y ∷ []) k d)
    at zero l = p
    at (suc zero) l = q
    at (suc (suc k)) l = absurd (omega arith)

pub keeps_signature : PlusKeepsSignature
keeps_signature p a b = ap Some (matched_unnamed p.on p.names a.labels)

pub pairs_exchanged : SumIgnoresOrder → PlusExchangesPairs
pairs_exchanged law p a b m n alike =
    let order : sum_of (b.value ∷ a.value ∷ []) ≡ sum_of (a.value ∷ b.value ∷ []) = law (a.value ∷ b.value ∷ []) (b.value ∷ a.value ∷ []) (both_numbers a.value b.value m n) (swapped a.value b.value) in
    by (sum_of (a.value ∷ b.value ∷ [])) refl order
  where
    same : matched_labels p (without (metric_name ∷ []) a.labels) ≡ matched_labels p (without (metric_name ∷ []) b.labels)
    same = matched_unnamed p.on p.names a.labels ∙ ap (without (metric_name ∷ [])) alike ∙ sym (matched_unnamed p.on p.names b.labels)

    by : (sum : Option XFrac) → sum_of (a.value ∷ b.value ∷ []) ≡ sum → sum_of (b.value ∷ a.value ∷ []) ≡ sum → pair_outcome (Arith Add) (one_to_one p) a b ≡ pair_outcome (Arith Add) (one_to_one p) b a
    by None e f = rw (e, f) refl
    by (Some value) e f = rw (e, f) (ap (λ (labels : Names). let made : Outcome = record { labels = labels; value = Ok (Some value) } in made) same)

-- ---- the rows under a signature

-- a sum of two rows is a row, or it has a mark
row_or_mark : (p : Pairing) (a b : Row) → is_some (row_of (pair_outcome (Arith Add) (one_to_one p) a b)) ≡ not (is_some (mark_of (pair_outcome (Arith Add) (one_to_one p) a b)))
row_or_mark p a b = by (sum_of (a.value ∷ b.value ∷ [])) refl
  where
    by : (sum : Option XFrac) → sum_of (a.value ∷ b.value ∷ []) ≡ sum → is_some (row_of (pair_outcome (Arith Add) (one_to_one p) a b)) ≡ not (is_some (mark_of (pair_outcome (Arith Add) (one_to_one p) a b)))
    by None e = rw e refl
    by (Some value) e = rw e refl

two_rows : (r r' : Option Row) (rows : List Row) (m m' : Option Mark) (marks : List Mark) → is_some r ≡ not (is_some m) → is_some r' ≡ not (is_some m') → cons_option m (cons_option m' marks) ≡ [] → has_several (cons_option r (cons_option r' rows)) ≡ true
two_rows (Some x) (Some y) rows m m' marks e f g = refl
two_rows (Some x) None rows None None marks e f g = absurd (false≢true f)
two_rows (Some x) None rows None (Some n) marks e f g = absurd (cc)
two_rows (Some x) None rows (Some k) m' marks e f g = absurd (false≢true (sym e))
two_rows None r' rows None m' marks e f g = absurd (false≢true e)
two_rows None r' rows (Some k) m' marks e f g = absurd (cc)

abbrev IsOf : Pairing → Names → Row → Type 0
IsOf p names row = IsNumber row.value × (signature_of p row ≡ names)

-- where the one side has no duplicates, no sum overflows and none is crowded, the rows are those of exchanged sides
crossed : SumIgnoresOrder → (p : Pairing) (names : Names) (ls rs : List Row) → has_several rs ≡ false →
    with_partner mark_of (Arith Add) (one_to_one p) (alone rs) ls ≡ [] → has_several (with_partner row_of (Arith Add) (one_to_one p) (alone rs) ls) ≡ false →
    AllByRecursion (IsOf p names) ls → AllByRecursion (IsOf p names) rs →
    with_partner row_of (Arith Add) (one_to_one p) (alone rs) ls ≡ with_partner row_of (Arith Add) (one_to_one p) (alone ls) rs
crossed law p names ls (b ∷ b' ∷ bs) several faults crowd la ra = absurd (false≢true (sym several))
crossed law p names [] [] several faults crowd la ra = refl
crossed law p names (a ∷ []) [] several faults crowd la ra = refl
crossed law p names (a ∷ a' ∷ more) [] several faults crowd la ra = refl
crossed law p names [] (b ∷ []) several faults crowd la ra = refl
crossed law p names (a ∷ []) (b ∷ []) several faults crowd la ra =
    ap (λ outcome. cons_option (row_of outcome) []) (pairs_exchanged law p a b la.0.0 ra.0.0 (la.0.1 ∙ sym ra.0.1))
crossed law p names (a ∷ a' ∷ more) (b ∷ []) several faults crowd la ra =
    absurd (false≢true (sym crowd ∙ two_rows _ _ _ _ _ _ (row_or_mark p a b) (row_or_mark p a' b) faults))

-- ---- the rows of a sum without marks

mapped_none : {X Y : Type 0} (f : X → Y) (xs : List X) → map f xs ≡ [] → xs ≡ []
mapped_none f [] e = refl
mapped_none f (x ∷ xs) e = absurd (cc)

appended_none : {X : Type 0} (xs ys : List X) → xs ++ ys ≡ [] → (xs ≡ []) × (ys ≡ [])
appended_none [] ys e = (refl, e)
appended_none (x ∷ xs) ys e = absurd (cc)

kept_none : {X : Type 0} (h : Outcome → Option X) (pairs : List (Names × Outcome)) → filter_map (λ pair. h pair.1) pairs ≡ [] → kept h pairs ≡ []
kept_none h [] e = refl
kept_none h (pair ∷ pairs) e =
    elim (h pair.1) as (λ v. cons_option v (filter_map (λ pair. h pair.1) pairs) ≡ [] → cons_option (option_map (λ x. (pair.0, x)) v) (kept h pairs) ≡ []) [
      | None ↦ λ f. kept_none h pairs f
      | Some x ↦ λ f. absurd (cc)
    ] e

numbers_of : (rows : List Row) → All (λ row. IsNumber row.value) rows → AllByRecursion (λ row. IsNumber row.value) rows
numbers_of [] all = tt
numbers_of (row ∷ rows) all = (All-head (λ row. IsNumber row.value) row rows all, numbers_of rows (All-tail (λ row. IsNumber row.value) row rows all))

abbrev sums : Pairing → List Row → List Row → List (Names × Outcome)
sums p ls rs = matches (Arith Add) (one_to_one p) ls rs

-- where an addition has no marks, the rows under each signature are those of exchanged sides
sums_alike : SumIgnoresOrder → (p : Pairing) (ls rs : List Row) → All (λ row. IsNumber row.value) ls → All (λ row. IsNumber row.value) rs → duplicates p rs ≡ [] → faults_of (sums p ls rs) ≡ [] → shared_names (left_rows (sums p ls rs)) ≡ [] →
    (names : Names) → items_of (left_rows (sums p rs ls)) names ≡ items_of (left_rows (sums p ls rs)) names
sums_alike law p ls rs lm rm dup faults crowd names =
    let there : items_of (left_rows (sums p ls rs)) names ≡ with_partner row_of (Arith Add) (one_to_one p) (alone (items_of (by_signature p rs) names)) (items_of (by_signature p ls) names) = kept_under row_of (Arith Add) (one_to_one p) ls rs names in
    let back : items_of (left_rows (sums p rs ls)) names ≡ with_partner row_of (Arith Add) (one_to_one p) (alone (items_of (by_signature p ls) names)) (items_of (by_signature p rs) names) = kept_under row_of (Arith Add) (one_to_one p) rs ls names in
    let marked : items_of (kept mark_of (sums p ls rs)) names ≡ with_partner mark_of (Arith Add) (one_to_one p) (alone (items_of (by_signature p rs) names)) (items_of (by_signature p ls) names) = kept_under mark_of (Arith Add) (one_to_one p) ls rs names in
    let unmarked : with_partner mark_of (Arith Add) (one_to_one p) (alone (items_of (by_signature p rs) names)) (items_of (by_signature p ls) names) ≡ [] = sym marked ∙ ap (λ (es : List (Names × Mark)). items_of es names) (kept_none mark_of (sums p ls rs) faults) in
    back
    ∙ sym (crossed law p names (items_of (by_signature p ls) names) (items_of (by_signature p rs) names) (none_shared (by_signature p rs) dup names) unmarked (sym (ap has_several there) ∙ none_shared (left_rows (sums p ls rs)) crowd names)
    (all_matched (λ row. IsNumber row.value) p ls names (numbers_of ls lm)) (all_matched (λ row. IsNumber row.value) p rs names (numbers_of rs rm)))
    ∙ sym there

rows_exchanged : SumIgnoresOrder → (p : Pairing) (ls rs : List Row) → All (λ row. IsNumber row.value) ls → All (λ row. IsNumber row.value) rs → pair_marks (Arith Add) (one_to_one p) ls rs ≡ [] → pair_rows (Arith Add) (one_to_one p) rs ls ≡ pair_rows (Arith Add) (one_to_one p) ls rs
rows_exchanged law p ls rs lm rm none =
    let pairs : List (Names × Outcome) = sums p ls rs in
    let clashes = appended_none (map DuplicateOneSide (duplicates p rs) ++ faults_of pairs ++ map ImplicitManyToOne (shared_names (left_rows pairs))) _ none in
    let crowded = appended_none (map DuplicateOneSide (duplicates p rs) ++ faults_of pairs) (map ImplicitManyToOne (shared_names (left_rows pairs))) clashes.0 in
    let faults = appended_none (map DuplicateOneSide (duplicates p rs)) (faults_of pairs) crowded.0 in
    ap (λ (groups : List (Names × List Row)). lone_items (keyed (filter_map (λ group. alone group.1) groups)))
    (gathered_alike (left_rows (sums p rs ls)) (left_rows (sums p ls rs)) (sums_alike law p ls rs lm rm (mapped_none DuplicateOneSide (duplicates p rs) faults.0) faults.1 (mapped_none ImplicitManyToOne (shared_names (left_rows pairs)) crowded.1)))

-- ---- steps

second_none : {K : Type 0} (R : K → K → Ordering) (xs ys : List K) → sorted_merge R true xs ys ≡ [] → ys ≡ []
second_none R [] ys e = e
second_none R (x ∷ xs) [] e = refl
second_none R (x ∷ xs) (y ∷ ys) e =
    elim (R x y) as (λ r. match_ordering r (x ∷ sorted_merge R true xs (y ∷ ys)) (x ∷ sorted_merge R true xs ys) (y ∷ sorted_merge R true (x ∷ xs) ys) ≡ [] → y ∷ ys ≡ []) [
      | Less ↦ λ f. absurd (cc)
      | Equal ↦ λ f. absurd (cc)
      | Greater ↦ λ f. absurd (cc)
    ] e

set_none : (fatal : List Mark) → set_of mark_cmp fatal ≡ [] → fatal ≡ []
set_none [] e = refl
set_none (mark ∷ fatal) e =
    absurd (false≢true (sym (ap (list_any (λ (m : Mark). true)) e) ∙ any_of_set mark_cmp_total mark_cmp_ties (λ m. true) (mark ∷ fatal)))

no_marks : (marks : Marks) (fatal : List Mark) → (with_fatal marks fatal).fatal ≡ [] → fatal ≡ []
no_marks marks fatal e = set_none fatal (second_none mark_cmp marks.fatal (set_of mark_cmp fatal) e)

-- an operator's step, by whether a side has no rows
abbrev step_by : Bool → Marks → List Row → List Mark → Step
step_by b marks rows fatal = if b then record { table = record { rows = [] }; marks = marks } else record { table = record { rows = rows }; marks = with_fatal marks fatal }

tables_alike : (a b : Bool) (marks marks' : Marks) (rows rows' : List Row) (fatal fatal' : List Mark) → (fatal ≡ [] → rows' ≡ rows) → (step_by (a || b) marks rows fatal).marks.fatal ≡ [] → (step_by (b || a) marks' rows' fatal').table ≡ (step_by (a || b) marks rows fatal).table
tables_alike true true marks marks' rows rows' fatal fatal' same none = refl
tables_alike true false marks marks' rows rows' fatal fatal' same none = refl
tables_alike false true marks marks' rows rows' fatal fatal' same none = refl
tables_alike false false marks marks' rows rows' fatal fatal' same none = let e = same (no_marks marks fatal none) in λ i. record { rows = e i }

pub sums_exchange_rows : SumIgnoresOrder → PlusExchangesRows
sums_exchange_rows law p l r lm rm none =
    tables_alike (is_empty l.table.rows) (is_empty r.table.rows) (united l.marks r.marks) (united r.marks l.marks) (pair_rows (Arith Add) (one_to_one p) l.table.rows r.table.rows) (pair_rows (Arith Add) (one_to_one p) r.table.rows l.table.rows)
    (pair_marks (Arith Add) (one_to_one p) l.table.rows r.table.rows) (pair_marks (Arith Add) (one_to_one p) r.table.rows l.table.rows) (rows_exchanged law p l.table.rows r.table.rows lm rm) none

notes_made : (b : Bool) (marks : Marks) (rows : List Row) (fatal : List Mark) → (step_by b marks rows fatal).marks.notes ≡ marks.notes
notes_made true marks rows fatal = refl
notes_made false marks rows fatal = merged-nil note_cmp marks.notes

notes_of : (p : Pairing) (l r : Step) → (plus p l r).marks.notes ≡ (united l.marks r.marks).notes
notes_of p l r = notes_made (is_empty l.table.rows || is_empty r.table.rows) (united l.marks r.marks) (pair_rows (Arith Add) (one_to_one p) l.table.rows r.table.rows) (pair_marks (Arith Add) (one_to_one p) l.table.rows r.table.rows)

same_step : (s t : Step) → s.table ≡ t.table → s.marks.fatal ≡ t.marks.fatal → s.marks.notes ≡ t.marks.notes → s ≡ t
same_step s t e f g = λ i. record { table = e i; marks = record { fatal = f i; notes = g i } }

pub sums_exchanged : SumIgnoresOrder → PlusIsExchanged
sums_exchanged law p l r lm rm none none' =
    same_step (plus p r l) (plus p l r) (sums_exchange_rows law p l r lm rm none) (none' ∙ sym none)
    (notes_of p r l ∙ union_swapped note_cmp_total note_cmp_ties r.marks.notes l.marks.notes ∙ sym (notes_of p l r))
