-- Labels that are made anew, and histograms, that are parted.
use Rattle.std.proofs.Common.{◌≡◌, ◌∙◌, ℕ, Bool, true, false, cond, List, [], ◌∷◌, map, drop, refl, sym, ap, subst, Some, None}
use Rattle.std.specs.Prelude.{◌||◌, Option, Ok, filter, is_some, unwrap_or, bytes_eq, ℤ}
use Rattle.std.specs.BTreeMap.{insert_entry, is_at}
use Rattle.std.specs.List.{AllByRecursion, filter_map}
use Rattle.std.specs.Map.{lookup}
use Rattle.std.specs.Option.{option_map}
use Rattle.std.proofs.lemmas.Map.Lookups.{exact_bytes}
use Rattle.std.proofs.lemmas.Slice.Eq.{bytes_eq-Decides}
use Rattle.func_table.specs.declared.table.Func.TheVariants as func
use Rattle.label_set.specs.Labels.{byte_cmp, is_named, set_refusal, value_of, with_value, without}
use Rattle.match_rule.specs.Patterns.{pattern_groups}
use Rattle.promql_ast.specs.Folds.{fold-Call, fold-Words}
use Rattle.promql_ast.specs.declared.tree.Expr.{Expr}
use Rattle.promql_ast.specs.declared.tree.Node.TheVariants as node
use Rattle.xfrac.specs.declared.value.XFrac.{XFrac}
use Rattle.step_table.specs.Alike.{has_some}
use Rattle.step_table.specs.Groups.{Names, gathered}
use Rattle.step_table.specs.Laws.{UnionHasMarks, UnionHasNotes}
use Rattle.step_table.specs.Matching.{labelled}
use Rattle.step_table.specs.Orders.{note_cmp}
use Rattle.step_table.specs.Unions.{set_of}
use Rattle.step_table.specs.declared.step.Row.{Row}
use Rattle.step_table.specs.declared.step.Step.{Step}
use Rattle.promql_meaning.specs.Buckets.{bound_note, bound_of, bucket_label, bucket_of, bucket_quantiles, fixed_note, histogram_labels, histogram_outcome, histograms}
use Rattle.promql_meaning.specs.Countings.{with_label}
use Rattle.promql_meaning.specs.Givens.{step_of, with_scalar, words_of}
use Rattle.promql_meaning.specs.Meaning.{called, given_at, meaning, node_meaning, step_at, words_at}
use Rattle.promql_meaning.specs.Outcomes.{range_notes, with_notes}
use Rattle.promql_meaning.specs.Relabels.{joined_labels, relabelled, replaced_labels, separated}
use Rattle.promql_meaning.specs.Selecting.{Asked}
use Rattle.promql_meaning.specs.Templates.{Spans, expanded}
use Rattle.promql_meaning.specs.declared.buckets.Bucket.{Bucket}
use Rattle.promql_meaning.specs.declared.given.Given.{Given}
use Rattle.promql_meaning.specs.declared.given.Given.TheVariants as given
use Rattle.parting_laws.specs.LocalLaws.{HistogramsAreParted, LabelJoinsAreParted, ReplacementsAreParted, has_selector, node_rules}
use Rattle.parting_laws.specs.PartLaws.{IgnoresName, over}
use Rattle.parting_laws.specs.Portions.{ArePortions, HaveMarks, IsOfOne, LooksAt, Portion, StepParts}
use Rattle.parting_laws.proofs.Chosen.{all_mapped, both_along, chosen_all, chosen_filter, everywhere, if_some, mapped_along}
use Rattle.parting_laws.proofs.Declared.{not_among, value_left}
use Rattle.parting_laws.proofs.Locals.{ignore_name, with_others}
use Rattle.parting_laws.proofs.Made.{Keeps, row_labels}
use Rattle.parting_laws.proofs.PartedGroups.{gathered_in, groups_named}
use Rattle.parting_laws.proofs.Parts.{in_part, of_one_alike}
use Rattle.parting_laws.proofs.Puts.{lookup_put, same_key}
use Rattle.parting_laws.proofs.StepsParted.{made_parts, marks_with, row_parts, scalar_parts, test_of, vector_of}
use Rattle.parting_laws.proofs.WindowsParted.{chosen_notes, notes_parts}

-- ---- a label that is set

abbrev SameUnder : List (List ℕ) → Names → Names → Type 0
SameUnder names new labels = AllByRecursion (λ (n : List ℕ). value_of new n ≡ value_of labels n) names

value_put : (target value n : List ℕ) (labels : Names) → is_named (target ∷ []) n ≡ false → value_of (insert_entry byte_cmp labels target value) n ≡ value_of labels n
value_put target value n labels e = ap (λ o. unwrap_or o []) (lookup_put byte_cmp exact_bytes n target value labels ∙ ap (λ b. cond b (Some value) (value_at' n)) (by (is_at (byte_cmp n) target) refl))
  where
    value_at' : List ℕ → Option (List ℕ)
    value_at' m = lookup (is_at (byte_cmp m)) labels

    by : (b : Bool) → is_at (byte_cmp n) target ≡ b → is_at (byte_cmp n) target ≡ false
    by true f = let same : bytes_eq target n ≡ true = (bytes_eq-Decides target n).1 (sym (same_key byte_cmp exact_bytes n target f)) in let other : (bytes_eq target n || false) ≡ false = e in absurd (cc)
    by false f = f

set_keeps : (names : List (List ℕ)) (target value : List ℕ) (labels new : Names) → is_named names target ≡ false → with_label labels target value ≡ Some new → SameUnder names new labels
set_keeps names target [] labels new apart e =
    let same : without (target ∷ []) labels ≡ new = cc in
    subst (λ (z : Names). SameUnder names z labels) same
    (mapped_along (λ (n : List ℕ). is_named (target ∷ []) n ≡ false) (λ (n : List ℕ). value_of (without (target ∷ []) labels) n ≡ value_of labels n) (λ n h. value_left (target ∷ []) n labels h) names (not_among target names apart))
set_keeps names target (c ∷ value) labels new apart e = by (is_some (set_refusal labels target (c ∷ value))) e
  where
    by : (b : Bool) → cond b None (Some (with_value labels target (c ∷ value))) ≡ Some new → SameUnder names new labels
    by true f = absurd (cc)
    by false f =
        let same : insert_entry byte_cmp labels target (c ∷ value) ≡ new = cc in
        subst (λ (z : Names). SameUnder names z labels) same
        (mapped_along (λ (n : List ℕ). is_named (target ∷ []) n ≡ false) (λ (n : List ℕ). value_of (insert_entry byte_cmp labels target (c ∷ value)) n ≡ value_of labels n) (λ n h. value_put target (c ∷ value) n labels h) names (not_among target names apart))

replaced_keeps : (names : List (List ℕ)) (target template source pattern : List ℕ) → is_named names target ≡ false → (labels new : Names) → replaced_labels target template source pattern labels ≡ Some new → SameUnder names new labels
replaced_keeps names target template source pattern apart labels new e = by (pattern_groups pattern (value_of labels source)) refl
  where
    by : (o : Option Spans) → pattern_groups pattern (value_of labels source) ≡ o → SameUnder names new labels
    by None f = let g : Some labels ≡ Some new = rw f at e in let same : labels ≡ new = cc in subst (λ (z : Names). SameUnder names z labels) same (everywhere (λ (n : List ℕ). value_of labels n ≡ value_of labels n) (λ n. refl) names)
    by (Some spans) f = let g : with_label labels target (expanded spans (value_of labels source) template) ≡ Some new = rw f at e in set_keeps names target (expanded spans (value_of labels source) template) labels new apart g

module _ (names : List (List ℕ)) (asked : Asked) (portions : List Portion) (ok : ArePortions names portions asked.samples) where
  relabel_keeps : (f : Names → Option Names) → ((labels new : Names) → f labels ≡ Some new → SameUnder names new labels) → AllByRecursion (λ (p : Portion). Keeps row_labels (λ row. labelled (f row.labels) row.value) p.test) portions
  relabel_keeps f keeps = mapped_along (λ (p : Portion). LooksAt names p.test) (λ (p : Portion). Keeps row_labels (λ row. labelled (f row.labels) row.value) p.test) (λ p looks row v e. by p looks row v (f row.labels) refl e) portions ok.looks
    where
      by : (p : Portion) → LooksAt names p.test → (row : Row) (v : XFrac) (o : Option Names) → f row.labels ≡ o → (labelled o row.value).value ≡ Ok (Some v) → p.test (labelled o row.value).labels ≡ p.test row.labels
      by p looks row v None e g = absurd (cc)
      by p looks row v (Some new) e g = looks new row.labels (keeps row.labels new e)

  -- ---- a label that is taken out

  bucket_alike : is_named names bucket_label ≡ false → (p : Portion) → LooksAt names p.test → (labels : Names) → p.test (without (bucket_label ∷ []) labels) ≡ p.test labels
  bucket_alike apart p looks labels =
      looks (without (bucket_label ∷ []) labels) labels
      (mapped_along (λ (n : List ℕ). is_named (bucket_label ∷ []) n ≡ false) (λ (n : List ℕ). value_of (without (bucket_label ∷ []) labels) n ≡ value_of labels n) (λ n h. value_left (bucket_label ∷ []) n labels h) names (not_among bucket_label names apart))

  all_alike : is_named names bucket_label ≡ false → (labels : Names) → AllByRecursion (λ (p : Portion). p.test (without (bucket_label ∷ []) labels) ≡ p.test labels) portions
  all_alike apart labels = mapped_along (λ (p : Portion). LooksAt names p.test) (λ (p : Portion). p.test (without (bucket_label ∷ []) labels) ≡ p.test labels) (λ p looks. bucket_alike apart p looks labels) portions ok.looks

-- ---- histograms

abbrev Histogram : Type 0
Histogram = Names × List Bucket

abbrev histogram_names : Histogram → Names
histogram_names g = g.0

bucket_is : (row : Row) (item : Names × Bucket) → bucket_of row ≡ Some item → item.0 ≡ histogram_labels row
bucket_is row item e = by (bound_of row) e
  where
    by : (o : Option XFrac) → option_map (λ (bound : XFrac). (histogram_labels row, record { bound = bound; count = row.value })) o ≡ Some item → item.0 ≡ histogram_labels row
    by None f = absurd (cc)
    by (Some bound) f = let same : (histogram_labels row, record { bound = bound; count = row.value }) ≡ item = cc in ap (λ (z : Names × Bucket). z.0) (sym same)

histograms_in : (part : Names → Bool) → ((labels : Names) → part (without (bucket_label ∷ []) labels) ≡ part labels) → (rows : List Row)
    → histograms (filter (λ (row : Row). part row.labels) rows) ≡ filter (λ (g : Histogram). part g.0) (histograms rows)
histograms_in part alike rows =
    ap gathered (chosen_filter bucket_of (λ (row : Row). part row.labels) (λ (item : Names × Bucket). part item.0) rows
    (everywhere (λ (row : Row). (item : Names × Bucket) → bucket_of row ≡ Some item → part item.0 ≡ part row.labels) (λ row item e. ap part (bucket_is row item e) ∙ alike row.labels) rows))
    ∙ gathered_in part (filter_map bucket_of rows)

module _ (unions : UnionHasMarks) (note_unions : UnionHasNotes) (names : List (List ℕ)) (asked : Asked) (portions : List Portion) (ok : ArePortions names portions asked.samples) where
  histogram_parts : is_named names bucket_label ≡ false → (q : XFrac) (step : Step) (steps : Portion → Step) → StepParts portions step steps → StepParts portions (bucket_quantiles q step) (λ p. bucket_quantiles q (steps p))
  histogram_parts apart q step steps h =
      let rows : List Row = step.table.rows in
      let all : List Histogram = histograms rows in
      let pieces : Portion → List Histogram = λ p. histograms (steps p).table.rows in
      let are : AllByRecursion (λ (p : Portion). pieces p ≡ in_part test_of histogram_names p all) portions =
      mapped_along (λ (p : Portion). LooksAt names p.test × ((steps p).table.rows ≡ filter (λ (row : Row). p.test row.labels) rows)) (λ (p : Portion). pieces p ≡ in_part test_of histogram_names p all)
      (λ p k. ap histograms k.1 ∙ histograms_in p.test (bucket_alike names asked portions ok apart p k.0) rows) portions (both_along (λ (p : Portion). LooksAt names p.test) (λ (p : Portion). (steps p).table.rows ≡ filter (λ (row : Row). p.test row.labels) rows) portions ok.looks h.rows) in
      let one : AllByRecursion (λ (g : Histogram). IsOfOne portions g.0) all =
      groups_named (IsOfOne portions) (filter_map bucket_of rows)
      (all_mapped (IsOfOne portions) (λ (item : Names × Bucket). item.0) (filter_map bucket_of rows)
      (chosen_all bucket_of (λ (row : Row). IsOfOne portions row.labels) (λ (item : Names × Bucket). IsOfOne portions item.0)
      (λ row item e k. subst (IsOfOne portions) (sym (bucket_is row item e)) (of_one_alike test_of portions (histogram_labels row) row.labels (all_alike names asked portions ok apart row.labels) k)) rows h.one)) in
      let ranged : HaveMarks portions (with_notes step.marks (range_notes q)) (λ p. with_notes (steps p).marks (range_notes q)) = marks_with portions unions note_unions ok.some step.marks (λ p. (steps p).marks) (record { fatal = []; notes = set_of note_cmp (range_notes q) }) h.marks in
      let bounded : HaveMarks portions (with_notes (with_notes step.marks (range_notes q)) (filter_map bound_note rows)) (λ p. with_notes (with_notes (steps p).marks (range_notes q)) (filter_map bound_note (steps p).table.rows)) =
      notes_parts portions unions note_unions row_labels (filter_map bound_note) (λ note x. if_some (is_at (note_cmp note)) (bound_note x)) (chosen_notes bound_note) (with_notes step.marks (range_notes q)) (λ p. with_notes (steps p).marks (range_notes q)) rows (λ p. (steps p).table.rows) h.rows h.one ranged in
      made_parts portions unions histogram_names (histogram_outcome q) (with_notes (with_notes (with_notes step.marks (range_notes q)) (filter_map bound_note rows)) (filter_map (fixed_note q) all))
      (λ p. with_notes (with_notes (with_notes (steps p).marks (range_notes q)) (filter_map bound_note (steps p).table.rows)) (filter_map (fixed_note q) (pieces p))) all pieces are one
      (mapped_along (λ (p : Portion). IgnoresName p.test) (λ (p : Portion). Keeps histogram_names (histogram_outcome q) p.test) (λ p k g v e. k g.0) portions (ignore_name names portions asked.samples ok))
      (notes_parts portions unions note_unions histogram_names (filter_map (fixed_note q)) (λ note x. if_some (is_at (note_cmp note)) (fixed_note q x)) (chosen_notes (fixed_note q))
      (with_notes (with_notes step.marks (range_notes q)) (filter_map bound_note rows)) (λ p. with_notes (with_notes (steps p).marks (range_notes q)) (filter_map bound_note (steps p).table.rows)) all pieces are one bounded)

-- ---- expressions

words_mean : (asked : Asked) (e : Expr) (text : List ℕ) (t : ℤ) → e.node ≡ node.Words text → meaning asked e t ≡ given.Words text
words_mean asked e text t is = ap (λ (f : ℤ → Given). f t) (fold-Words (node_meaning asked) (λ e. e.node) e text is)

words_select_nothing : (e : Expr) (text : List ℕ) → e.node ≡ node.Words text → has_selector e ≡ false
words_select_nothing e text is = ap has_some (fold-Words node_rules (λ e. e.node) e text is)

module _ (unions : UnionHasMarks) (note_unions : UnionHasNotes) where
  pub replacements_parted : ReplacementsAreParted
  replacements_parted names e inner target label others is target_is apart none parted asked portions t ok =
      let gs : List Given = given_at (map (meaning asked) (target ∷ others)) t in
      let here : is_named names (words_of (meaning asked target t)) ≡ false = ap (λ (g : Given). is_named names (words_of g)) (words_mean asked target label t target_is) ∙ apart in
      let f : Names → Option Names = replaced_labels (words_of (meaning asked target t)) (words_at (given.Words [] ∷ gs) 2) (words_at (given.Words [] ∷ gs) 3) (words_at (given.Words [] ∷ gs) 4) in
      with_others e inner (target ∷ others) (λ hs g. called func.LabelReplace (g ∷ hs) t) asked portions t
      (λ a. ap (λ (m : ℤ → Given). m t) (fold-Call (node_meaning a) (λ e. e.node) e func.LabelReplace (inner ∷ target ∷ others) is)) (words_select_nothing target label target_is, none)
      (vector_of portions (λ g. called func.LabelReplace (g ∷ gs) t) (relabelled f) (λ g h. refl)
      (row_parts portions unions (λ row. labelled (f row.labels) row.value) (relabel_keeps names asked portions ok f (replaced_keeps names (words_of (meaning asked target t)) (words_at (given.Words [] ∷ gs) 2) (words_at (given.Words [] ∷ gs) 3) (words_at (given.Words [] ∷ gs) 4) here)))
      (meaning asked inner t) (λ p. meaning (over p.samples asked) inner t) (parted asked portions t ok))

  pub label_joins_parted : LabelJoinsAreParted
  label_joins_parted names e inner target label others is target_is apart none parted asked portions t ok =
      let gs : List Given = given_at (map (meaning asked) (target ∷ others)) t in
      let here : is_named names (words_of (meaning asked target t)) ≡ false = ap (λ (g : Given). is_named names (words_of g)) (words_mean asked target label t target_is) ∙ apart in
      let f : Names → Option Names = joined_labels (words_of (meaning asked target t)) (words_at (given.Words [] ∷ gs) 2) (map words_of (drop 3 (given.Words [] ∷ gs))) in
      with_others e inner (target ∷ others) (λ hs g. called func.LabelJoin (g ∷ hs) t) asked portions t
      (λ a. ap (λ (m : ℤ → Given). m t) (fold-Call (node_meaning a) (λ e. e.node) e func.LabelJoin (inner ∷ target ∷ others) is)) (words_select_nothing target label target_is, none)
      (vector_of portions (λ g. called func.LabelJoin (g ∷ gs) t) (relabelled f) (λ g h. refl)
      (row_parts portions unions (λ row. labelled (f row.labels) row.value) (relabel_keeps names asked portions ok f (λ labels new k. set_keeps names (words_of (meaning asked target t)) (separated (words_at (given.Words [] ∷ gs) 2) (map (value_of labels) (map words_of (drop 3 (given.Words [] ∷ gs))))) labels new here k)))
      (meaning asked inner t) (λ p. meaning (over p.samples asked) inner t) (parted asked portions t ok))

  pub histograms_parted : HistogramsAreParted
  histograms_parted names e quantile inner is apart none parted asked portions t ok =
      let qs : List Given = given_at (map (meaning asked) (quantile ∷ [])) t in
      with_others e inner (quantile ∷ []) (λ hs g. given.Vector (with_scalar bucket_quantiles (step_at hs 0) (step_of g))) asked portions t
      (λ a. ap (λ (m : ℤ → Given). m t) (fold-Call (node_meaning a) (λ e. e.node) e func.HistogramQuantile (quantile ∷ inner ∷ []) is)) (none, tt)
      (vector_of portions (λ g. given.Vector (with_scalar bucket_quantiles (step_at qs 0) (step_of g))) (λ step. with_scalar bucket_quantiles (step_at qs 0) step) (λ g h. refl)
      (scalar_parts portions unions note_unions ok.some bucket_quantiles (λ q. histogram_parts unions note_unions names asked portions ok apart q) (step_at qs 0))
      (meaning asked inner t) (λ p. meaning (over p.samples asked) inner t) (parted asked portions t ok))
