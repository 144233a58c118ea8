-- The order of rows isn't seen: by what comes of them, by an operator between two sides, by a set operator.
use Rattle.std.proofs.Common.{◌≡◌, ◌∙◌, Bool, true, false, List, [], ◌++◌, map, refl, sym, ap, subst, Option}
use Rattle.std.specs.Prelude.{◌||◌, filter, not, if◌then◌else◌}
use Rattle.std.specs.BTreeMap.{is_at}
use Rattle.std.specs.List.{filter_map}
use Rattle.std.specs.Map.{values_of}
use Rattle.std.specs.Option.{option_map}
use Rattle.func_table.specs.declared.table.SetOp.TheVariants.{And, Unless, Or}
use Rattle.label_set.specs.Labels.{labels_cmp}
use Rattle.label_set.specs.declared.rules.Pairing.{Pairing}
use Rattle.xfrac.specs.declared.value.PairOp.{PairOp}
use Rattle.step_table.specs.AllGathered.{all_gathered}
use Rattle.step_table.specs.Gathering.{settled_table}
use Rattle.step_table.specs.Groups.{Names, items_of, lone_items, shared_names}
use Rattle.step_table.specs.Matching.{by_signature, clash_mark, clash_marks, crowded, duplicates, faults_of, is_empty, left_rows, many_side, match_of, matches, one_side, pair_marks, pair_outcome, pair_rows, partner_of, signature_of, uncrowded}
use Rattle.step_table.specs.Operators.{is_grouped, is_left_one}
use Rattle.step_table.specs.Outcomes.{keyed, mark_of, row_of, settled, taken}
use Rattle.step_table.specs.Sets.{combined, is_on, rows_off, rows_on, step_of_rows}
use Rattle.step_table.specs.Shuffles.{CombinedIgnoresOrder, GroupsHaveAll, GroupsIgnoreOrder, OrIgnoresOrder, OutcomesIgnoreOrder, PairMarksIgnoreOrder, PairRowsIgnoreOrder, PairedIgnoresOrder, SettledIgnoresOrder, Shuffled, ShuffledIsPermutation, TableIsOneOrder, none, kept, swapped, joined}
use Rattle.step_table.specs.Shuffling.{alone_shuffled, any_shuffled, both_kept, chosen_alike, chosen_shuffled, fatal_shuffled, filtered_shuffled, front_kept, from_permutation, back_kept, items_shuffled, itself, lone_shuffled, mapped_shuffled, names_shuffled, shared_shuffled, to_permutation}
use Rattle.step_table.specs.Unions.{united, with_fatal}
use Rattle.step_table.specs.declared.marks.Mark.{Mark}
use Rattle.step_table.specs.declared.marks.Mark.TheVariants.{DuplicateOneSide, ImplicitManyToOne, SameLabelset}
use Rattle.step_table.specs.declared.marks.Marks.{Marks}
use Rattle.step_table.specs.declared.outcomes.Outcome.{Outcome}
use Rattle.step_table.specs.declared.step.Row.{Row}
use Rattle.step_table.specs.declared.step.Step.{Step}

pub is_permutation : ShuffledIsPermutation
is_permutation xs ys = (to_permutation xs ys, from_permutation xs ys)

pub groups_have_all : GroupsHaveAll
groups_have_all items = all_gathered items

pub groups_ignore_order : GroupsIgnoreOrder
groups_ignore_order xs ys s = (names_shuffled xs ys s, items_shuffled xs ys s)

-- ---- rows

same_step : {a b : List Row} {m n : Marks} → a ≡ b → m ≡ n → step_of_rows a m ≡ step_of_rows b n
same_step e f = λ i. record { table = record { rows = e i }; marks = f i }

keyed_shuffled : (xs ys : List Row) → Shuffled xs ys → Shuffled (keyed xs) (keyed ys)
keyed_shuffled xs ys s = mapped_shuffled (λ (row : Row). (row.labels, row)) xs ys s

pub settled_ignores_order : SettledIgnoresOrder
settled_ignores_order a b like =
    let rows = keyed_shuffled a.table.rows b.table.rows like.rows in
    same_step (lone_shuffled (keyed a.table.rows) (keyed b.table.rows) rows)
    (ap (λ (ms : Marks). with_fatal ms (map SameLabelset (shared_names (keyed a.table.rows)))) like.marks
    ∙ ap (λ (ls : List Names). with_fatal b.marks (map SameLabelset ls)) (shared_shuffled (keyed a.table.rows) (keyed b.table.rows) rows))

pub outcomes_ignore_order : OutcomesIgnoreOrder
outcomes_ignore_order marks xs ys s =
    settled_ignores_order (taken marks xs) (taken marks ys)
    (record { rows = chosen_shuffled row_of xs ys s; marks = fatal_shuffled marks (filter_map mark_of xs) (filter_map mark_of ys) (chosen_shuffled mark_of xs ys s) })

no_marks : Marks
no_marks = record { fatal = []; notes = [] }

pub table_is_one_order : TableIsOneOrder
table_is_one_order xs ys t u s =
    let same : settled (step_of_rows xs no_marks) ≡ settled (step_of_rows ys no_marks) = settled_ignores_order (step_of_rows xs no_marks) (step_of_rows ys no_marks) (record { rows = s; marks = refl }) in
    ap (λ (step : Step). step.table.rows) (sym (settled_table (step_of_rows xs no_marks) t) ∙ same ∙ settled_table (step_of_rows ys no_marks) u)

-- ---- an operator between vectors

module _ (op : PairOp) (p : Pairing) (many many' ones ones' : List Row) (s : Shuffled many many') (t : Shuffled ones ones') where
  signed : Shuffled (by_signature p ones) (by_signature p ones')
  signed = mapped_shuffled (λ (row : Row). (signature_of p row, row)) ones ones' t

  partners : (names : Names) → partner_of p ones names ≡ partner_of p ones' names
  partners names = alone_shuffled (items_of (by_signature p ones) names) (items_of (by_signature p ones') names) (items_shuffled (by_signature p ones) (by_signature p ones') signed names)

  matched : Shuffled (matches op p many ones) (matches op p many' ones')
  matched =
      subst (λ (r : List (Names × Outcome)). Shuffled (matches op p many ones) r)
      (chosen_alike (match_of op p ones) (match_of op p ones') many' (λ row. ap (λ (o : Option Row). option_map (λ (one : Row). (signature_of p row, pair_outcome op p row one)) o) (partners (signature_of p row))))
      (chosen_shuffled (match_of op p ones) many many' s)

  lefts : Shuffled (left_rows (matches op p many ones)) (left_rows (matches op p many' ones'))
  lefts = chosen_shuffled (λ (pair : Names × Outcome). option_map (λ row. (pair.0, row)) (row_of pair.1)) (matches op p many ones) (matches op p many' ones') matched

  lone_lefts : lone_items (left_rows (matches op p many ones)) ≡ lone_items (left_rows (matches op p many' ones'))
  lone_lefts = lone_shuffled (left_rows (matches op p many ones)) (left_rows (matches op p many' ones')) lefts

  kept_rows : Shuffled (uncrowded p.card (left_rows (matches op p many ones))) (uncrowded p.card (left_rows (matches op p many' ones')))
  kept_rows =
      elim (is_grouped p.card) as (λ b. Shuffled (if b then values_of (left_rows (matches op p many ones)) else lone_items (left_rows (matches op p many ones))) (if b then values_of (left_rows (matches op p many' ones')) else lone_items (left_rows (matches op p many' ones')))) [
        | true ↦ mapped_shuffled (λ (e : Names × Row). e.1) (left_rows (matches op p many ones)) (left_rows (matches op p many' ones')) lefts
        | false ↦ subst (λ (r : List Row). Shuffled (lone_items (left_rows (matches op p many ones))) r) lone_lefts (itself (lone_items (left_rows (matches op p many ones))))
      ]

  keyed_rows : Shuffled (keyed (uncrowded p.card (left_rows (matches op p many ones)))) (keyed (uncrowded p.card (left_rows (matches op p many' ones'))))
  keyed_rows = keyed_shuffled (uncrowded p.card (left_rows (matches op p many ones))) (uncrowded p.card (left_rows (matches op p many' ones'))) kept_rows

  pub same_pair_rows : pair_rows op p many ones ≡ pair_rows op p many' ones'
  same_pair_rows = lone_shuffled (keyed (uncrowded p.card (left_rows (matches op p many ones)))) (keyed (uncrowded p.card (left_rows (matches op p many' ones')))) keyed_rows

  crowds : crowded p.card (left_rows (matches op p many ones)) ≡ crowded p.card (left_rows (matches op p many' ones'))
  crowds = ap (λ (r : List Names). if is_grouped p.card then [] else r) (shared_shuffled (left_rows (matches op p many ones)) (left_rows (matches op p many' ones')) lefts)

  clashes : clash_marks p.card (uncrowded p.card (left_rows (matches op p many ones))) ≡ clash_marks p.card (uncrowded p.card (left_rows (matches op p many' ones')))
  clashes = ap (map (clash_mark p.card)) (shared_shuffled (keyed (uncrowded p.card (left_rows (matches op p many ones)))) (keyed (uncrowded p.card (left_rows (matches op p many' ones')))) keyed_rows)

  faults : Shuffled (faults_of (matches op p many ones)) (faults_of (matches op p many' ones'))
  faults = chosen_shuffled (λ (pair : Names × Outcome). mark_of pair.1) (matches op p many ones) (matches op p many' ones') matched

  abbrev listed : List Names → List Mark → List Names → List Mark → List Mark
  listed ds fs cs ks = map DuplicateOneSide ds ++ fs ++ map ImplicitManyToOne cs ++ ks

  same_but_faults : pair_marks op p many ones ≡ listed (duplicates p ones') (faults_of (matches op p many ones)) (crowded p.card (left_rows (matches op p many' ones'))) (clash_marks p.card (uncrowded p.card (left_rows (matches op p many' ones'))))
  same_but_faults =
      ap (λ (ds : List Names). listed ds (faults_of (matches op p many ones)) (crowded p.card (left_rows (matches op p many ones))) (clash_marks p.card (uncrowded p.card (left_rows (matches op p many ones))))) (shared_shuffled (by_signature p ones) (by_signature p ones') signed)
      ∙ ap (λ (cs : List Names). listed (duplicates p ones') (faults_of (matches op p many ones)) cs (clash_marks p.card (uncrowded p.card (left_rows (matches op p many ones))))) crowds
      ∙ ap (λ (ks : List Mark). listed (duplicates p ones') (faults_of (matches op p many ones)) (crowded p.card (left_rows (matches op p many' ones'))) ks) clashes

  pub same_pair_marks : (marks : Marks) → with_fatal marks (pair_marks op p many ones) ≡ with_fatal marks (pair_marks op p many' ones')
  same_pair_marks marks =
      ap (with_fatal marks) same_but_faults
      ∙ fatal_shuffled marks (listed (duplicates p ones') (faults_of (matches op p many ones)) (crowded p.card (left_rows (matches op p many' ones'))) (clash_marks p.card (uncrowded p.card (left_rows (matches op p many' ones'))))) (pair_marks op p many' ones')
      (let A = map DuplicateOneSide (duplicates p ones') in
      let C = map ImplicitManyToOne (crowded p.card (left_rows (matches op p many' ones'))) in
      let K = clash_marks p.card (uncrowded p.card (left_rows (matches op p many' ones'))) in
      let F = faults_of (matches op p many ones) in
      let F' = faults_of (matches op p many' ones') in
      back_kept K ((A ++ F) ++ C) ((A ++ F') ++ C) (back_kept C (A ++ F) (A ++ F') (front_kept A F F' faults)))

pub pair_rows_ignore_order : PairRowsIgnoreOrder
pair_rows_ignore_order op p many many' ones ones' s t = same_pair_rows op p many many' ones ones' s t

pub pair_marks_ignore_order : PairMarksIgnoreOrder
pair_marks_ignore_order op p marks many many' ones ones' s t = same_pair_marks op p many many' ones ones' s t marks

empty_shuffled : (xs ys : List Row) → Shuffled xs ys → is_empty xs ≡ is_empty ys
empty_shuffled _ _ none = refl
empty_shuffled _ _ (kept x xs ys s) = refl
empty_shuffled _ _ (swapped x y xs) = refl
empty_shuffled _ _ (joined xs ys zs s t) = empty_shuffled xs ys s ∙ empty_shuffled ys zs t

chosen_side : (b : Bool) (l l' r r' : List Row) → Shuffled l l' → Shuffled r r' → Shuffled (if b then l else r) (if b then l' else r')
chosen_side true l l' r r' s t = s
chosen_side false l l' r r' s t = t

-- an operator's step, by whether either side is empty
abbrev made : PairOp → Pairing → Bool → Bool → Step → Step → Step
made op p x y a b =
    if x || y then step_of_rows [] (united a.marks b.marks)
    else step_of_rows (pair_rows op p (many_side p.card a.table.rows b.table.rows) (one_side p.card a.table.rows b.table.rows))
    (with_fatal (united a.marks b.marks) (pair_marks op p (many_side p.card a.table.rows b.table.rows) (one_side p.card a.table.rows b.table.rows)))

pub paired_ignores_order : PairedIgnoresOrder
paired_ignores_order op p l l' r r' left right = by_sides (is_empty l.table.rows) (is_empty l'.table.rows) (is_empty r.table.rows) (is_empty r'.table.rows) (empty_shuffled l.table.rows l'.table.rows left.rows) (empty_shuffled r.table.rows r'.table.rows right.rows)
  where
    many : Shuffled (many_side p.card l.table.rows r.table.rows) (many_side p.card l'.table.rows r'.table.rows)
    many = chosen_side (is_left_one p.card) r.table.rows r'.table.rows l.table.rows l'.table.rows right.rows left.rows

    ones : Shuffled (one_side p.card l.table.rows r.table.rows) (one_side p.card l'.table.rows r'.table.rows)
    ones = chosen_side (is_left_one p.card) l.table.rows l'.table.rows r.table.rows r'.table.rows left.rows right.rows

    marks : united l.marks r.marks ≡ united l'.marks r'.marks
    marks = λ i. united (left.marks i) (right.marks i)

    both_full : made op p false false l r ≡ made op p false false l' r'
    both_full =
        same_step (same_pair_rows op p _ _ _ _ many ones)
        (same_pair_marks op p _ _ _ _ many ones (united l.marks r.marks) ∙ ap (λ (ms : Marks). with_fatal ms (pair_marks op p (many_side p.card l'.table.rows r'.table.rows) (one_side p.card l'.table.rows r'.table.rows))) marks)

    by_sides : (x x' y y' : Bool) → x ≡ x' → y ≡ y' → made op p x y l r ≡ made op p x' y' l' r'
    by_sides true true y y' e f = same_step refl marks
    by_sides false false true true e f = same_step refl marks
    by_sides false false false false e f = both_full
    by_sides true false y y' e f = absurd (cc)
    by_sides false true y y' e f = absurd (cc)
    by_sides false false true false e f = absurd (cc)
    by_sides false false false true e f = absurd (cc)

-- ---- set operators

filter_same : (f g : Row → Bool) → ((row : Row) → f row ≡ g row) → (rows : List Row) → filter f rows ≡ filter g rows
filter_same f g e rows = ap (λ (h : Row → Bool). filter h rows) (λ i row. e row i)

on_same : (p : Pairing) (side side' : List Row) → Shuffled side side' → (row : Row) → is_on p side row ≡ is_on p side' row
on_same p side side' s row = any_shuffled (λ (other : Row). is_at (labels_cmp (signature_of p row)) (signature_of p other)) side side' s

on_shuffled : (p : Pairing) (side side' rows rows' : List Row) → Shuffled side side' → Shuffled rows rows' → Shuffled (rows_on p side rows) (rows_on p side' rows')
on_shuffled p side side' rows rows' s t =
    subst (λ (r : List Row). Shuffled (rows_on p side rows) r) (filter_same (is_on p side) (is_on p side') (on_same p side side' s) rows') (filtered_shuffled (is_on p side) rows rows' t)

off_shuffled : (p : Pairing) (side side' rows rows' : List Row) → Shuffled side side' → Shuffled rows rows' → Shuffled (rows_off p side rows) (rows_off p side' rows')
off_shuffled p side side' rows rows' s t =
    subst (λ (r : List Row). Shuffled (rows_off p side rows) r) (filter_same (λ row. not (is_on p side row)) (λ row. not (is_on p side' row)) (λ row. ap not (on_same p side side' s row)) rows') (filtered_shuffled (λ row. not (is_on p side row)) rows rows' t)

pub or_ignores_order : OrIgnoresOrder
or_ignores_order p l l' r r' left right =
    settled_ignores_order (step_of_rows (l.table.rows ++ rows_off p l.table.rows r.table.rows) (united l.marks r.marks)) (step_of_rows (l'.table.rows ++ rows_off p l'.table.rows r'.table.rows) (united l'.marks r'.marks))
    (record {
      rows = both_kept l.table.rows l'.table.rows (rows_off p l.table.rows r.table.rows) (rows_off p l'.table.rows r'.table.rows) left.rows (off_shuffled p l.table.rows l'.table.rows r.table.rows r'.table.rows left.rows right.rows);
      marks = λ i. united (left.marks i) (right.marks i);
    })

pub combined_ignores_order : CombinedIgnoresOrder
combined_ignores_order And p l l' r r' left right =
    record { rows = on_shuffled p r.table.rows r'.table.rows l.table.rows l'.table.rows right.rows left.rows; marks = λ i. united (left.marks i) (right.marks i) }
combined_ignores_order Unless p l l' r r' left right =
    record { rows = off_shuffled p r.table.rows r'.table.rows l.table.rows l'.table.rows right.rows left.rows; marks = λ i. united (left.marks i) (right.marks i) }
combined_ignores_order Or p l l' r r' left right =
    let same = or_ignores_order p l l' r r' left right in
    record {
      rows = subst (λ (step : Step). Shuffled (combined l r Or p).table.rows step.table.rows) same (itself (combined l r Or p).table.rows);
      marks = ap (λ (step : Step). step.marks) same;
    }
