-- The values of rows through what filters, gathers, settles and pairs them.
use Rattle.std.proofs.Common.{◌≡◌, List, [], ◌∷◌, ◌++◌, map, refl, Option, Some, None, Result, Ok, Err}
use Rattle.std.specs.Prelude.{IfSome, ◌||◌, not}
use Rattle.std.specs.List.{AllByRecursion, cons_option, filter_map}
use Rattle.std.specs.Map.{values_of}
use Rattle.std.specs.BTreeMap.{is_at}
use Rattle.std.specs.Option.{option_map}
use Rattle.func_table.specs.declared.table.SetOp.{SetOp}
use Rattle.func_table.specs.declared.table.SetOp.TheVariants.{And, Unless, Or}
use Rattle.label_set.specs.Entries.{recursion_filter}
use Rattle.label_set.specs.Labels.{labels_cmp}
use Rattle.label_set.specs.declared.rules.Card.{Card}
use Rattle.label_set.specs.declared.rules.Pairing.{Pairing}
use Rattle.step_table.specs.Groups.{Names, alone, gathered, items_of, lone_items, names_among}
use Rattle.step_table.specs.Matching.{by_signature, is_empty, labelled, left_rows, many_side, match_of, matches, one_side, pair_outcome, pair_rows, pair_value, paired, partner_of, signature_of, uncrowded}
use Rattle.step_table.specs.Operators.{is_grouped, is_left_one, operated, pair_labels}
use Rattle.step_table.specs.Outcomes.{keyed, made_of_value, row_of, taken}
use Rattle.step_table.specs.Sets.{combined, is_on, rows_off, step_of_rows}
use Rattle.step_table.specs.declared.marks.Marks.{Marks}
use Rattle.step_table.specs.declared.outcomes.Outcome.{Outcome}
use Rattle.step_table.specs.declared.step.Row.{Row}
use Rattle.step_table.specs.declared.step.Step.{Step}
use Rattle.xfrac.specs.declared.value.NumFault.{NumFault}
use Rattle.xfrac.specs.declared.value.PairOp.{PairOp}
use Rattle.xfrac.specs.declared.value.XFrac.{XFrac}
use Rattle.promql_meaning.specs.Elements.{row_by_row}
use Rattle.promql_meaning.specs.Givens.{both, by_value, marked, value_in, with_scalar, with_scalars}
use Rattle.meaning_laws.specs.ValueLaws.{HasValues}
use Rattle.meaning_laws.proofs.Operations.{IsAnswer, V, chosen}

-- ---- lists

module _ {A B : Type 0} (Q : B → Type 0) (P : A → Type 0) where
  pub mapped_all : (f : A → B) → ((a : A) → P a → Q (f a)) → (xs : List A) → AllByRecursion P xs → AllByRecursion Q (map f xs)
  mapped_all f each [] h = tt
  mapped_all f each (x ∷ xs) h = (each x h.0, mapped_all f each xs h.1)

  pub made_all : (f : A → Option B) → ((a : A) → P a → IfSome (f a) Q) → (xs : List A) → AllByRecursion P xs → AllByRecursion Q (filter_map f xs)
  made_all f each [] h = tt
  made_all f each (x ∷ xs) h = by (f x) (each x h.0) (made_all f each xs h.1)
    where
      by : (o : Option B) → IfSome o Q → AllByRecursion Q (filter_map f xs) → AllByRecursion Q (cons_option o (filter_map f xs))
      by (Some b) k rest = (k, rest)
      by None k rest = rest

module _ {A : Type 0} (P : A → Type 0) where
  pub joined_all : (xs ys : List A) → AllByRecursion P xs → AllByRecursion P ys → AllByRecursion P (xs ++ ys)
  joined_all [] ys h k = k
  joined_all (x ∷ xs) ys h k = (h.0, joined_all xs ys h.1 k)

  pub front_all : (xs ys : List A) → AllByRecursion P (xs ++ ys) → AllByRecursion P xs
  front_all [] ys h = tt
  front_all (x ∷ xs) ys h = (h.0, front_all xs ys h.1)

  pub back_all : (xs ys : List A) → AllByRecursion P (xs ++ ys) → AllByRecursion P ys
  back_all [] ys h = h
  back_all (x ∷ xs) ys h = back_all xs ys h.1

  abbrev Beside : Names × A → Type 0
  Beside item = P item.1

  abbrev Within : Names × List A → Type 0
  Within group = AllByRecursion P group.1

  pub values_all : (items : List (Names × A)) → AllByRecursion Beside items → AllByRecursion P (values_of items)
  values_all [] h = tt
  values_all (item ∷ items) h = (h.0, values_all items h.1)

  pub items_all : (items : List (Names × A)) (names : Names) → AllByRecursion Beside items → AllByRecursion P (items_of items names)
  items_all items names h = values_all _ (recursion_filter Beside (λ item. is_at (labels_cmp names) item.0) items h)

  pub gathered_all : (items : List (Names × A)) → AllByRecursion Beside items → AllByRecursion Within (gathered items)
  unfolding gathered
  gathered_all items h = over (names_among items)
    where
      over : (ks : List Names) → AllByRecursion Within (map (λ names. (names, items_of items names)) ks)
      over [] = tt
      over (k ∷ ks) = (items_all items k h, over ks)

  pub alone_is : (xs : List A) → AllByRecursion P xs → IfSome (alone xs) P
  alone_is [] h = tt
  alone_is (x ∷ []) h = h.0
  alone_is (x ∷ y ∷ xs) h = tt

  pub lone_all : (items : List (Names × A)) → AllByRecursion Beside items → AllByRecursion P (lone_items items)
  lone_all items h = made_all P Within (λ group. alone group.1) (λ g k. alone_is g.1 k) (gathered items) (gathered_all items h)

-- ---- steps

abbrev pub R : Row → Type 0
R row = V row.value

abbrev pub IsOutcome : Outcome → Type 0
IsOutcome outcome = IsAnswer outcome.value

row_is : (o : Outcome) → IsOutcome o → IfSome (row_of o) R
row_is o h = by o.value h
  where
    by : (r : Result (Option XFrac) NumFault) → IsAnswer r → IfSome (made_of_value (λ (value : XFrac). record { labels = o.labels; value = value }) r) R
    by (Ok (Some v)) k = k
    by (Ok None) k = tt
    by (Err f) k = tt

pub taken_rows : (outcomes : List Outcome) → AllByRecursion IsOutcome outcomes → AllByRecursion R (filter_map row_of outcomes)
taken_rows outcomes h = made_all R IsOutcome row_of row_is outcomes h

pub taken_has : (marks : Marks) (outcomes : List Outcome) → AllByRecursion IsOutcome outcomes → HasValues (taken marks outcomes)
taken_has marks outcomes h = taken_rows outcomes h

keyed_has : (rows : List Row) → AllByRecursion R rows → AllByRecursion (λ (item : Names × Row). R item.1) (keyed rows)
keyed_has rows h = mapped_all (λ (item : Names × Row). R item.1) R (λ (row : Row). (row.labels, row)) (λ row k. k) rows h

settled_rows : (rows : List Row) → AllByRecursion R rows → AllByRecursion R (lone_items (keyed rows))
settled_rows rows h = lone_all R (keyed rows) (keyed_has rows h)

pub settled_outcomes : (outcomes : List Outcome) → AllByRecursion IsOutcome outcomes → AllByRecursion R (lone_items (keyed (filter_map row_of outcomes)))
settled_outcomes outcomes h = settled_rows (filter_map row_of outcomes) (taken_rows outcomes h)

pub rows_has : (f : Row → Outcome) → ((row : Row) → R row → IsOutcome (f row)) → (step : Step) → HasValues step → HasValues (row_by_row f step)
rows_has f each step h = settled_outcomes (map f step.table.rows) (mapped_all IsOutcome R f each step.table.rows h)

pub labelled_is : (labels : Option Names) (v : XFrac) → V v → IsOutcome (labelled labels v)
labelled_is (Some labels) v h = h
labelled_is None v h = tt

-- ---- scalars

value_in_rows : (rows : List Row) (marks : Marks) → AllByRecursion R rows → IfSome (value_in (step_of_rows rows marks)) V
value_in_rows [] marks h = tt
value_in_rows (row ∷ rows) marks h = h.0

pub value_in_is : (step : Step) → HasValues step → IfSome (value_in step) V
value_in_is step h = value_in_rows step.table.rows step.marks h

pub by_value_has : {A : Type 0} (Q : A → Type 0) (o : Option A) (marks : Marks) (f : A → Step) → IfSome o Q → ((a : A) → Q a → HasValues (f a)) → HasValues (by_value o marks f)
by_value_has Q None marks f h each = tt
by_value_has Q (Some a) marks f h each = each a h

pub scalar_has : (f : XFrac → Step → Step) → ((a : XFrac) (s : Step) → V a → HasValues s → HasValues (f a s)) → (scalar step : Step) → HasValues scalar → HasValues step → HasValues (with_scalar f scalar step)
scalar_has f each scalar step h k = by_value_has V (value_in scalar) _ (λ a. f a (marked scalar.marks step)) (value_in_is scalar h) (λ a v. each a (marked scalar.marks step) v k)

both_is : (o p : Option XFrac) → IfSome o V → IfSome p V → IfSome (both o p) (λ b. V b.0 × V b.1)
both_is (Some a) (Some b) h k = (h, k)
both_is (Some a) None h k = tt
both_is None (Some b) h k = tt
both_is None None h k = tt

pub scalars_has : (f : XFrac → XFrac → Step → Step) → ((a b : XFrac) (s : Step) → V a → V b → HasValues s → HasValues (f a b s)) → (first second step : Step)
    → HasValues first → HasValues second → HasValues step → HasValues (with_scalars f first second step)
scalars_has f each first second step h k l =
    by_value_has (λ b. V b.0 × V b.1) (both (value_in first) (value_in second)) _ (λ b. f b.0 b.1 (marked second.marks (marked first.marks step)))
    (both_is (value_in first) (value_in second) (value_in_is first h) (value_in_is second k)) (λ b v. each b.0 b.1 (marked second.marks (marked first.marks step)) v.0 v.1 l)

-- ---- two vectors

abbrev IsPair : Names × Outcome → Type 0
IsPair pair = IsOutcome pair.1

abbrev IsKept : Names × Row → Type 0
IsKept pair = R pair.1

left_is : (pair : Names × Outcome) → IsPair pair → IfSome (option_map (λ (row : Row). (pair.0, row)) (row_of pair.1)) IsKept
left_is pair h = by (row_of pair.1) (row_is pair.1 h)
  where
    by : (o : Option Row) → IfSome o R → IfSome (option_map (λ (row : Row). (pair.0, row)) o) IsKept
    by (Some row) k = k
    by None k = tt

module _ (op_is : (op : PairOp) (a b : XFrac) → V a → V b → IsAnswer (operated op a b)) (op : PairOp) (p : Pairing) where
  pair_value_is : (card : Card) (many one : XFrac) → V many → V one → IsAnswer (pair_value op card many one)
  pair_value_is card many one h k = chosen IsAnswer (is_left_one card) (operated op one many) (operated op many one) (op_is op one many k h) (op_is op many one h k)

  outcome_is : (many one : Row) → R many → R one → IsOutcome (pair_outcome op p many one)
  outcome_is many one h k = by (pair_value op p.card many.value one.value) refl (pair_value_is p.card many.value one.value h k)
    where
      by : (r : Result (Option XFrac) NumFault) → pair_value op p.card many.value one.value ≡ r → IsAnswer r → IsOutcome (pair_outcome op p many one)
      by (Ok (Some v)) e a = rw e (labelled_is (pair_labels op p many.labels one.labels) v a)
      by (Ok None) e a = rw e tt
      by (Err f) e a = rw e tt

  match_is : (ones : List Row) → AllByRecursion R ones → (row : Row) → R row → IfSome (match_of op p ones row) IsPair
  match_is ones h row k =
      by (partner_of p ones (signature_of p row))
      (alone_is R _ (items_all R (by_signature p ones) (signature_of p row) (mapped_all (λ (item : Names × Row). R item.1) R (λ (one : Row). (signature_of p one, one)) (λ one l. l) ones h)))
    where
      by : (o : Option Row) → IfSome o R → IfSome (option_map (λ (one : Row). (signature_of p row, pair_outcome op p row one)) o) IsPair
      by (Some one) l = outcome_is row one k l
      by None l = tt

  uncrowded_has : (left : List (Names × Row)) → AllByRecursion IsKept left → AllByRecursion R (uncrowded p.card left)
  uncrowded_has left h = chosen (AllByRecursion R) (is_grouped p.card) (values_of left) (lone_items left) (values_all R left h) (lone_all R left h)

  pair_rows_has : (many ones : List Row) → AllByRecursion R many → AllByRecursion R ones → AllByRecursion R (pair_rows op p many ones)
  pair_rows_has many ones h k =
      let pairs : AllByRecursion IsPair (matches op p many ones) = made_all IsPair R (match_of op p ones) (match_is ones k) many h in
      let left : AllByRecursion IsKept (left_rows (matches op p many ones)) = made_all IsKept IsPair _ left_is (matches op p many ones) pairs in
      lone_all R (keyed (uncrowded p.card (left_rows (matches op p many ones)))) (keyed_has _ (uncrowded_has (left_rows (matches op p many ones)) left))

  pub paired_has : (l r : Step) → HasValues l → HasValues r → HasValues (paired l r op p)
  paired_has l r h k =
      chosen HasValues (is_empty l.table.rows || is_empty r.table.rows) _ _ tt
      (pair_rows_has (many_side p.card l.table.rows r.table.rows) (one_side p.card l.table.rows r.table.rows)
      (chosen (AllByRecursion R) (is_left_one p.card) r.table.rows l.table.rows k h) (chosen (AllByRecursion R) (is_left_one p.card) l.table.rows r.table.rows h k))

pub combined_has : (l r : Step) (op : SetOp) (p : Pairing) → HasValues l → HasValues r → HasValues (combined l r op p)
combined_has l r And p h k = recursion_filter R (is_on p r.table.rows) l.table.rows h
combined_has l r Unless p h k = recursion_filter R (λ row. not (is_on p r.table.rows row)) l.table.rows h
combined_has l r Or p h k =
    settled_rows (l.table.rows ++ rows_off p l.table.rows r.table.rows) (joined_all R l.table.rows (rows_off p l.table.rows r.table.rows) h (recursion_filter R (λ row. not (is_on p l.table.rows row)) r.table.rows k))
