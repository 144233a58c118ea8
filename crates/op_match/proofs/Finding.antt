-- The pairs that are found, row by row of the many side.
use Rattle.std.proofs.Common.{◌≡◌, ◌∙◌, ◌<◌, ◌≤◌, ◌+◌, ℕ, zero, suc, arith, true, false, List, [], ◌∷◌, ◌++◌, map, length, get_or, take, refl, sym, ap, subst, Option, Some, None}
use Rattle.std.specs.Prelude.{⊤, Result, Ok, Err, slice_get}
use Rattle.std.specs.BTreeMap.{is_at}
use Rattle.std.specs.List.{AllByRecursion, IsDistinct, cons_option}
use Rattle.std.specs.Map.{keys_of, values_of}
use Rattle.std.specs.Ordering.{is_eq}
use Rattle.std.specs.Option.{option_map, option_to_list}
use Rattle.std.proofs.lemmas.List.{map-append}
use Rattle.std.proofs.lemmas.List.Elements.{filter_map-append}
use Rattle.label_set.specs.LabelEquality.{labels_eq}
use Rattle.label_set.specs.LabelOrder.{labels_cmp_total, labels_eq_at, labels_eq_equivalence}
use Rattle.label_set.specs.Labels.{labels_cmp, signature}
use Rattle.label_set.specs.declared.rules.Pairing.{Pairing}
use Rattle.std.proofs.lemmas.Cmp.{tied_itself}
use Rattle.step_batch.specs.Lent.{SlotsRise, entries_of, row_of}
use Rattle.step_batch.specs.declared.steps.Slot.{Slot}
use Rattle.step_put.specs.Puts.{AreAt}
use Rattle.step_table.specs.Groups.{Names, alone, items_of}
use Rattle.step_table.specs.Matching.{by_signature, faults_of, labelled, left_rows, match_of, matches, pair_outcome, pair_value, partner_of, signature_of}
use Rattle.step_table.specs.Operators.{pair_labels}
use Rattle.step_table.specs.Outcomes.{fault_mark, mark_of, row_of as outcome_row}
use Rattle.step_table.specs.declared.marks.Mark.{Mark}
use Rattle.step_table.specs.declared.marks.Mark.TheVariants.{Overflow}
use Rattle.step_table.specs.declared.outcomes.Outcome.{Outcome}
use Rattle.step_table.specs.declared.step.Row.{Row}
use Rattle.xfrac.specs.declared.value.NumFault.{NumFault}
use Rattle.xfrac.specs.declared.value.NumFault.TheVariants as fault
use Rattle.xfrac.specs.declared.value.PairOp.{PairOp}
use Rattle.xfrac.specs.declared.value.XFrac.{XFrac}
use Rattle.op_match.specs.Apart.{AreApart, pairs_left}
use Rattle.op_match.specs.Noted.{AreBelow, IsNoted}
use Rattle.op_match.specs.Places.{AreFound, ArePairs, ArePut, IsAdded, IsAt, IsNumbered, Stays, names_fed, rows_in}
use Rattle.op_match.specs.declared.meeting.Found.{Found}
use Rattle.op_match.specs.declared.sides.Fed.{Fed}
use Rattle.op_match.proofs.Lists.{none_behind, there, within}

-- ---- places of labels that are apart

-- numbers that differ are those of labels that differ
differ : (set : List Names) (i j : ℕ) (a b : Names) → IsDistinct labels_eq set → (i ≡ j → ⊥) → slice_get set i ≡ Some a → slice_get set j ≡ Some b → is_at (labels_cmp a) b ≡ false
unfolding IsDistinct
differ set i j a b d n x y = labels_eq_at a b ∙ apart set i j a b d n x y
  where
    later : (n : Names) (set : List Names) (j : ℕ) (b : Names) → AllByRecursion (λ (m : Names). labels_eq n m ≡ false) set → slice_get set j ≡ Some b → labels_eq n b ≡ false
    later n [] j b a y = absurd (cc)
    later n (m ∷ set) zero b a y = let same : m ≡ b = cc in subst (λ (z : Names). labels_eq n z ≡ false) same a.0
    later n (m ∷ set) (suc j) b a y = later n set j b a.1 y

    apart : (set : List Names) (i j : ℕ) (a b : Names) → IsDistinct labels_eq set → (i ≡ j → ⊥) → slice_get set i ≡ Some a → slice_get set j ≡ Some b → labels_eq a b ≡ false
    apart [] i j a b d n x y = absurd (cc)
    apart (m ∷ set) zero zero a b d n x y = absurd (n refl)
    apart (m ∷ set) zero (suc j) a b d n x y = let same : m ≡ a = cc in subst (λ (z : Names). labels_eq z b ≡ false) same (later m set j b d.0 y)
    apart (m ∷ set) (suc i) zero a b d n x y = let same : m ≡ b = cc in labels_eq_equivalence.symm a b ∙ subst (λ (z : Names). labels_eq z a ≡ false) same (later m set i a d.0 x)
    apart (m ∷ set) (suc i) (suc j) a b d n x y = apart set i j a b d.1 (λ h. n (ap suc h)) x y

-- no two numbers are equal
abbrev pub AreOnce : List ℕ → Type 0
AreOnce [] = ⊤
AreOnce (n ∷ ns) = AllByRecursion (λ (m : ℕ). n ≡ m → ⊥) ns × AreOnce ns

pub apart_keys : (set names : List Names) (ns : List ℕ) → IsDistinct labels_eq set → AreAt set names ns → AreOnce ns → AreApart names
apart_keys set [] [] d a o = tt
apart_keys set [] (n ∷ ns) d a o = absurd a
apart_keys set (m ∷ names) [] d a o = absurd a
apart_keys set (m ∷ names) (n ∷ ns) d a o = (behind names ns a.1 o.0, apart_keys set names ns d a.1 o.1)
  where
    behind : (names : List Names) (ns : List ℕ) → AreAt set names ns → AllByRecursion (λ (k : ℕ). n ≡ k → ⊥) ns → AllByRecursion (λ (k : Names). is_at (labels_cmp m) k ≡ false) names
    behind [] [] b p = tt
    behind [] (k ∷ ks) b p = absurd b
    behind (k ∷ names) [] b p = absurd b
    behind (k ∷ names) (j ∷ ns) b p = (differ set n j m k d p.0 a.0 b.0, behind names ns b.1 p.1)

-- numbers that are noted are once
pub noted_once : (at ns : List ℕ) → IsNoted at ns → AreOnce ns
noted_once at ns h = from 0 ns (λ j k e. h j k e ∙ ap Some (let s : j ≡ 0 + j = omega arith in s))
  where
    behind : (n i start : ℕ) (ns : List ℕ) → slice_get at n ≡ Some i → i < start → ((j k : ℕ) → slice_get ns j ≡ Some k → slice_get at k ≡ Some (start + j)) → AllByRecursion (λ (m : ℕ). n ≡ m → ⊥) ns
    behind n i start [] e l h = tt
    behind n i start (k ∷ ns) e l h = (
      λ same. let twice : Some i ≡ Some (start + 0) = sym e ∙ ap (slice_get at) same ∙ h 0 k refl in let one : i ≡ start + 0 = cc in omega arith,
      behind n i (start + 1) ns e (omega arith) (λ j m f. h (suc j) m f ∙ ap Some (let s : start + suc j ≡ start + 1 + j = omega arith in s)),
    )

    from : (start : ℕ) (ns : List ℕ) → ((j k : ℕ) → slice_get ns j ≡ Some k → slice_get at k ≡ Some (start + j)) → AreOnce ns
    from start [] h = tt
    from start (n ∷ ns) h = (
      behind n (start + 0) (start + 1) ns (h 0 n refl) (omega arith) (λ j m f. h (suc j) m f ∙ ap Some (let s : start + suc j ≡ start + 1 + j = omega arith in s)),
      from (start + 1) ns (λ j m f. h (suc j) m f ∙ ap Some (let s : start + suc j ≡ start + 1 + j = omega arith in s)),
    )

-- ---- the partner of a row

module _ {T : Type 0} (set : List Names) (d : IsDistinct labels_eq set) (names : Names) (n : ℕ) (here : slice_get set n ≡ Some names) where
  no_item : (items : List (Names × T)) (ns : List ℕ) → AreAt set (keys_of items) ns → AllByRecursion (λ (m : ℕ). n ≡ m → ⊥) ns → items_of items names ≡ []
  no_item [] ns a p = refl
  no_item (item ∷ items) [] a p = absurd a
  no_item (item ∷ items) (m ∷ ns) a p = rw (differ set n m names item.0 d p.0 here a.0) (no_item items ns a.1 p.1)

  pub no_partner : (items : List (Names × T)) (ns : List ℕ) → AreAt set (keys_of items) ns → ((i : ℕ) → slice_get ns i ≡ Some n → ⊥) → items_of items names ≡ []
  no_partner items ns a h = no_item items ns a (never ns h)
    where
      never : (ns : List ℕ) → ((i : ℕ) → slice_get ns i ≡ Some n → ⊥) → AllByRecursion (λ (m : ℕ). n ≡ m → ⊥) ns
      never [] h = tt
      never (m ∷ ns) h = (λ e. h 0 (ap Some (sym e)), never ns (λ i f. h (suc i) f))

  pub one_partner : (items : List (Names × T)) (ns : List ℕ) (i : ℕ) (item : Names × T) → AreAt set (keys_of items) ns → AreOnce ns → slice_get ns i ≡ Some n → slice_get items i ≡ Some item → items_of items names ≡ item.1 ∷ []
  one_partner [] ns i item a o e f = absurd (cc)
  one_partner (x ∷ items) [] i item a o e f = absurd a
  one_partner (x ∷ items) (m ∷ ns) zero item a o e f =
      let same : m ≡ n = cc in
      let is : x ≡ item = some_pair x item f in
      let key : names ≡ x.0 = some_names names x.0 (sym here ∙ ap (slice_get set) (sym same) ∙ a.0) in
      rw (subst (λ (z : Names). is_at (labels_cmp names) z ≡ true) key (ap is_eq (tied_itself labels_cmp_total names))) (ap (λ (r : List T). x.1 ∷ r) (no_item items ns a.1 (subst (λ (k : ℕ). AllByRecursion (λ (j : ℕ). k ≡ j → ⊥) ns) same o.0)) ∙ ap (λ (z : Names × T). z.1 ∷ []) is)
    where
      some_pair : (a b : Names × T) → Some a ≡ Some b → a ≡ b
      some_pair a b e = cc

      some_names : (a b : Names) → Some a ≡ Some b → a ≡ b
      some_names a b e = cc
  one_partner (x ∷ items) (m ∷ ns) (suc i) item a o e f =
      rw (differ set n m names x.0 d (λ same. earlier ns i o.0 (e ∙ ap Some same)) here a.0) (one_partner items ns i item a.1 o.1 e f)
    where
      earlier : (ks : List ℕ) (i : ℕ) → AllByRecursion (λ (j : ℕ). m ≡ j → ⊥) ks → slice_get ks i ≡ Some m → ⊥
      earlier [] i p f = absurd (cc)
      earlier (k ∷ ks) zero p f = p.0 (let s : m ≡ k = cc in s)
      earlier (k ∷ ks) (suc i) p f = earlier ks i p.1 f

-- ---- rows of slots

pub rows_more : (labels : List Names) (slots : List Slot) (i : ℕ) (d : Slot) → i < length slots → rows_in labels (take (i + 1) slots) ≡ rows_in labels (take i slots) ++ rows_in labels (get_or slots i d ∷ [])
rows_more labels [] i d l = absurd (omega arith)
rows_more labels (s ∷ slots) zero d l = refl
rows_more labels (s ∷ slots) (suc i) d l =
    let e : suc i + 1 ≡ suc (i + 1) = omega arith in
    rw e (one (slice_get labels s.place) (rows_more labels slots i d (omega arith)))
  where
    one : (o : Option Names) → rows_in labels (take (i + 1) slots) ≡ rows_in labels (take i slots) ++ rows_in labels (get_or slots i d ∷ [])
        → map row_of (cons_option (option_map (λ (n : Names). (n, s.value)) o) (entries_of labels (take (i + 1) slots))) ≡ map row_of (cons_option (option_map (λ (n : Names). (n, s.value)) o) (entries_of labels (take i slots))) ++ rows_in labels (get_or slots i d ∷ [])
    one None e = e
    one (Some n) e = ap (λ (rs : List Row). row_of (n, s.value) ∷ rs) e

pub row_at : (labels : List Names) (s : Slot) (n : Names) → slice_get labels s.place ≡ Some n → rows_in labels (s ∷ []) ≡ row_of (n, s.value) ∷ []
row_at labels s n e = ap (λ (o : Option Names). map row_of (cons_option (option_map (λ (m : Names). (m, s.value)) o) [])) e

pub matches_more : (op : PairOp) (p : Pairing) (done : List Row) (row : Row) (ones : List Row) → matches op p (done ++ row ∷ []) ones ≡ matches op p done ones ++ option_to_list (match_of op p ones row)
matches_more op p done row ones = filter_map-append (match_of op p ones) done (row ∷ []) ∙ ap (λ (ms : List (Names × Outcome)). matches op p done ones ++ ms) (alone_is (match_of op p ones row))
  where
    alone_is : (o : Option (Names × Outcome)) → cons_option o [] ≡ option_to_list o
    alone_is None = refl
    alone_is (Some m) = refl

-- ---- what is found

pub put_stays : (before after : List Names) (slots : List Slot) (rows : List Row) → Stays before after → ArePut before slots rows → ArePut after slots rows
put_stays before after [] [] s a = tt
put_stays before after [] (r ∷ rows) s a = absurd a
put_stays before after (x ∷ slots) [] s a = absurd a
put_stays before after (x ∷ slots) (r ∷ rows) s a = (s x.place r.labels a.0, a.1, put_stays before after slots rows s a.2)

put_more : (labels : List Names) (slots : List Slot) (rows : List Row) (s : Slot) (r : Row) → ArePut labels slots rows → slice_get labels s.place ≡ Some r.labels → s.value ≡ r.value → ArePut labels (slots ++ s ∷ []) (rows ++ r ∷ [])
put_more labels [] [] s r a h v = (h, v, tt)
put_more labels [] (x ∷ rows) s r a h v = absurd a
put_more labels (x ∷ slots) [] s r a h v = absurd a
put_more labels (x ∷ slots) (y ∷ rows) s r a h v = (a.0, a.1, put_more labels slots rows s r a.2 h v)

at_more : (set names : List Names) (ns : List ℕ) (n : Names) (k : ℕ) → AreAt set names ns → slice_get set k ≡ Some n → AreAt set (names ++ n ∷ []) (ns ++ k ∷ [])
at_more set [] [] n k a h = (h, tt)
at_more set [] (x ∷ ns) n k a h = absurd a
at_more set (x ∷ names) [] n k a h = absurd a
at_more set (x ∷ names) (y ∷ ns) n k a h = (a.0, at_more set names ns n k a.1 h)

-- of a pair without a row and a mark nothing is added
pub found_on : (set before after : List Names) (left : List (Names × Row)) (fatal : List Mark) (old new : Found) → Stays before after → new.slots.items ≡ old.slots.items → new.numbers.items ≡ old.numbers.items → new.fatal ≡ old.fatal
    → AreFound set before left fatal old → AreFound set after left fatal new
found_on set before after left fatal old new s a b e f = record {
  slots = subst (λ (xs : List Slot). ArePut after xs (values_of left)) (sym a) (put_stays before after old.slots.items (values_of left) s f.slots);
  numbers = subst (AreAt set (keys_of left)) (sym b) f.numbers;
  marks = e ∙ f.marks;
}

pub found_none : (set before after : List Names) (old new : Found) (names : Names) → Stays before after → new.slots.items ≡ old.slots.items → new.numbers.items ≡ old.numbers.items → new.fatal ≡ old.fatal
    → IsAdded set before old after new (names, record { labels = []; value = Ok None })
found_none set before after old new names s a b e left fatal f =
    subst (λ (ms : List Mark). AreFound set after (left ++ []) ms new) (sym (none_behind fatal)) (subst (λ (ls : List (Names × Row)). AreFound set after ls fatal new) (sym (none_behind left)) (found_on set before after left fatal old new s a b e f))

pub found_fault : (set before after : List Names) (old new : Found) (names : Names) (fault : NumFault) → Stays before after → new.slots.items ≡ old.slots.items → new.numbers.items ≡ old.numbers.items → new.fatal ≡ old.fatal ++ fault_mark fault ∷ []
    → IsAdded set before old after new (names, record { labels = []; value = Err fault })
found_fault set before after old new names fault s a b e left fatal f = record {
  slots = subst (λ (ls : List (Names × Row)). ArePut after new.slots.items (values_of ls)) (sym (none_behind left)) (subst (λ (xs : List Slot). ArePut after xs (values_of left)) (sym a) (put_stays before after old.slots.items (values_of left) s f.slots));
  numbers = subst (λ (ls : List (Names × Row)). AreAt set (keys_of ls) new.numbers.items) (sym (none_behind left)) (subst (AreAt set (keys_of left)) (sym b) f.numbers);
  marks = e ∙ ap (λ (ms : List Mark). ms ++ fault_mark fault ∷ []) f.marks;
}

pub found_value : (set before after : List Names) (old new : Found) (names labels : Names) (number place : ℕ) (value : XFrac) → Stays before after → slice_get set number ≡ Some names → slice_get after place ≡ Some labels
    → new.slots.items ≡ old.slots.items ++ record { place = place; value = value } ∷ [] → new.numbers.items ≡ old.numbers.items ++ number ∷ [] → new.fatal ≡ old.fatal
    → IsAdded set before old after new (names, record { labels = labels; value = Ok (Some value) })
found_value set before after old new names labels number place value s k h a b e left fatal f =
    let row : Row = record { labels = labels; value = value } in
    record {
      slots = subst (λ (rs : List Row). ArePut after new.slots.items rs) (sym (map-append (λ (m : Names × Row). m.1) left ((names, row) ∷ [])))
          (subst (λ (xs : List Slot). ArePut after xs (values_of left ++ row ∷ [])) (sym a) (put_more after old.slots.items (values_of left) (record { place = place; value = value }) row (put_stays before after old.slots.items (values_of left) s f.slots) h refl));
      numbers = subst (λ (ns : List Names). AreAt set ns new.numbers.items) (sym (map-append (λ (m : Names × Row). m.0) left ((names, row) ∷ [])))
          (subst (AreAt set (keys_of left ++ names ∷ [])) (sym b) (at_more set (keys_of left) old.numbers.items names number f.numbers k));
      marks = e ∙ f.marks ∙ sym (none_behind fatal);
    }

pub value_added : (set before after : List Names) (old new : Found) (names : Names) (number : ℕ) (value : XFrac) (labels : Option Names) (place : ℕ) → IsAt after labels (Some place) → Stays before after → slice_get set number ≡ Some names
    → new.slots.items ≡ old.slots.items ++ record { place = place; value = value } ∷ [] → new.numbers.items ≡ old.numbers.items ++ number ∷ [] → new.fatal ≡ old.fatal → IsAdded set before old after new (names, labelled labels value)
value_added set before after old new names number value (Some labels) place h s k a b e = found_value set before after old new names labels number place value s k h a b e
value_added set before after old new names number value None place h s k a b e = absurd h

pub limit_added : (set before after : List Names) (old new : Found) (names : Names) (value : XFrac) (labels : Option Names) → IsAt after labels None → Stays before after
    → new.slots.items ≡ old.slots.items → new.numbers.items ≡ old.numbers.items → new.fatal ≡ old.fatal ++ Overflow ∷ [] → IsAdded set before old after new (names, labelled labels value)
limit_added set before after old new names value None h s a b e = found_fault set before after old new names fault.Overflow s a b e
limit_added set before after old new names value (Some labels) h s a b e = absurd h

-- what comes of a pair, by its value
abbrev pub outcome_by : PairOp → Pairing → Names → Names → Result (Option XFrac) NumFault → Outcome
outcome_by op p n q (Ok (Some value)) = labelled (pair_labels op p n q) value
outcome_by op p n q (Ok None) = record { labels = []; value = Ok None }
outcome_by op p n q (Err f) = record { labels = []; value = Err f }

pub outcome_is : (op : PairOp) (p : Pairing) (many one : Row) (v : Result (Option XFrac) NumFault) → v ≡ pair_value op p.card many.value one.value → outcome_by op p many.labels one.labels v ≡ pair_outcome op p many one
outcome_is op p many one v e = ap (outcome_by op p many.labels one.labels) e ∙ told (pair_value op p.card many.value one.value) refl
  where
    told : (w : Result (Option XFrac) NumFault) → pair_value op p.card many.value one.value ≡ w → outcome_by op p many.labels one.labels (pair_value op p.card many.value one.value) ≡ pair_outcome op p many one
    told (Ok (Some value)) f = rw f refl
    told (Ok None) f = rw f refl
    told (Err x) f = rw f refl

pub added_as : (set before after : List Names) (old new : Found) (names : Names) (op : PairOp) (p : Pairing) (many one : Row) (v : Result (Option XFrac) NumFault) → v ≡ pair_value op p.card many.value one.value
    → IsAdded set before old after new (names, outcome_by op p many.labels one.labels v) → IsAdded set before old after new (names, pair_outcome op p many one)
added_as set before after old new names op p many one v e h = subst (λ (o : Outcome). IsAdded set before old after new (names, o)) (outcome_is op p many one v e) h

-- ---- a row of the many side

pub row_there : (labels : List Names) (low : ℕ) (slots : List Slot) (i : ℕ) (s : Slot) (n : Names) → SlotsRise low (length labels) slots → slice_get slots i ≡ Some s → slice_get labels s.place ≡ Some n → slice_get (rows_in labels slots) i ≡ Some (row_of (n, s.value))
row_there labels low [] i s n r e h = absurd (cc)
row_there labels low (x ∷ slots) zero s n r e h =
    let same : x ≡ s = cc in
    subst (λ (z : Slot). slice_get (rows_in labels (z ∷ slots)) 0 ≡ Some (row_of (n, s.value))) (sym same) (ap (λ (o : Option Names). slice_get (map row_of (cons_option (option_map (λ (m : Names). (m, s.value)) o) (entries_of labels slots))) 0) h)
row_there labels low (x ∷ slots) (suc i) s n r e h =
    ap (λ (o : Option Names). slice_get (map row_of (cons_option (option_map (λ (m : Names). (m, x.value)) o) (entries_of labels slots))) (suc i)) (there labels x.place [] r.1) ∙ row_there labels (x.place + 1) slots i s n r.2 e h

pub rows_count : (labels : List Names) (low : ℕ) (slots : List Slot) → SlotsRise low (length labels) slots → length (rows_in labels slots) ≡ length slots
rows_count labels low [] r = refl
rows_count labels low (x ∷ slots) r =
    ap (λ (o : Option Names). length (map row_of (cons_option (option_map (λ (m : Names). (m, x.value)) o) (entries_of labels slots)))) (there labels x.place [] r.1) ∙ ap suc (rows_count labels (x.place + 1) slots r.2)

pub at_count : (set names : List Names) (ns : List ℕ) → AreAt set names ns → length ns ≡ length names
at_count set [] [] a = refl
at_count set [] (x ∷ ns) a = absurd a
at_count set (x ∷ names) [] a = absurd a
at_count set (x ∷ names) (y ∷ ns) a = ap suc (at_count set names ns a.1)

signed_count : (p : Pairing) (rows : List Row) → length (keys_of (by_signature p rows)) ≡ length rows
signed_count p [] = refl
signed_count p (r ∷ rows) = ap suc (signed_count p rows)

-- there are as many numbers as slots
pub numbers_count : (set labels : List Names) (p : Pairing) (slots : List Slot) (ns : List ℕ) → SlotsRise 0 (length labels) slots → AreAt set (keys_of (by_signature p (rows_in labels slots))) ns → length ns ≡ length slots
numbers_count set labels p slots ns r a = at_count set (keys_of (by_signature p (rows_in labels slots))) ns a ∙ signed_count p (rows_in labels slots) ∙ rows_count labels 0 slots r

pub signed_there : (p : Pairing) (rows : List Row) (i : ℕ) (row : Row) → slice_get rows i ≡ Some row → slice_get (by_signature p rows) i ≡ Some (signature_of p row, row)
signed_there p [] i row e = absurd (cc)
signed_there p (r ∷ rows) zero row e = let same : r ≡ row = cc in ap (λ (z : Row). Some (signature_of p z, z)) same
signed_there p (r ∷ rows) (suc i) row e = signed_there p rows i row e

module _ (op : PairOp) (p : Pairing) (set before after : List Names) (done ones : List Row) (row : Row) (old new : Found) where
  grown : (m : Option (Names × Outcome)) → match_of op p ones row ≡ m → matches op p (done ++ row ∷ []) ones ≡ matches op p done ones ++ option_to_list m
  grown m e = matches_more op p done row ones ∙ ap (λ (o : Option (Names × Outcome)). matches op p done ones ++ option_to_list o) e

  pub pairs_more : (one : Row) → partner_of p ones (signature_of p row) ≡ Some one → IsAdded set before old after new (signature_of p row, pair_outcome op p row one) → ArePairs op p set before done ones old → ArePairs op p set after (done ++ row ∷ []) ones new
  pairs_more one e h f =
      let pair : Names × Outcome = (signature_of p row, pair_outcome op p row one) in
      let all = grown (Some pair) (ap (option_map (λ (o : Row). (signature_of p row, pair_outcome op p row o))) e) in
      let left : pairs_left op p (done ++ row ∷ []) ones ≡ pairs_left op p done ones ++ left_rows (pair ∷ []) = ap left_rows all ∙ filter_map-append left_one (matches op p done ones) (pair ∷ []) in
      let marks : faults_of (matches op p (done ++ row ∷ []) ones) ≡ faults_of (matches op p done ones) ++ faults_of (pair ∷ []) = ap faults_of all ∙ filter_map-append (λ (m : Names × Outcome). mark_of m.1) (matches op p done ones) (pair ∷ []) in
      subst (λ (ms : List Mark). AreFound set after (pairs_left op p (done ++ row ∷ []) ones) ms new) (sym marks) (subst (λ (ls : List (Names × Row)). AreFound set after ls (faults_of (matches op p done ones) ++ faults_of (pair ∷ [])) new) (sym left) (h (pairs_left op p done ones) (faults_of (matches op p done ones)) f))
    where
      left_one : Names × Outcome → Option (Names × Row)
      left_one pair = option_map (λ (r : Row). (pair.0, r)) (outcome_row pair.1)

  pub pairs_on : partner_of p ones (signature_of p row) ≡ None → AreFound set after (pairs_left op p done ones) (faults_of (matches op p done ones)) new → ArePairs op p set after (done ++ row ∷ []) ones new
  pairs_on e f =
      let all : matches op p (done ++ row ∷ []) ones ≡ matches op p done ones = grown None (ap (option_map (λ (o : Row). (signature_of p row, pair_outcome op p row o))) e) ∙ none_behind (matches op p done ones) in
      subst (λ (ms : List (Names × Outcome)). AreFound set after (left_rows ms) (faults_of ms) new) (sym all) f

-- ---- a slot of the many side

signed_slot : (set : List Names) (p : Pairing) (side : List Fed) (i number : ℕ) → IsNumbered set p side → option_map (λ (f : Fed). f.number) (slice_get side i) ≡ Some number
    → (n : Names) × (slice_get (names_fed side) i ≡ Some n) × (slice_get set number ≡ Some (signature p.on p.names n))
signed_slot set p [] i number h e = absurd (cc)
signed_slot set p (f ∷ side) zero number h e =
    let same : f.number ≡ number = cc in
    (f.labels, refl, subst (λ (k : ℕ). slice_get set k ≡ Some (signature p.on p.names f.labels)) same (h 0 f refl))
signed_slot set p (f ∷ side) (suc i) number h e = signed_slot set p side i number (λ j g k. h (suc j) g k) e

-- the numbers of slots are those of their rows' signatures
pub numbers_are : (set : List Names) (p : Pairing) (side : List Fed) (slots : List Slot) (i : ℕ) (s : Slot) (number : ℕ) (done : List ℕ) → i < length slots → s ≡ get_or slots i s → option_map (λ (f : Fed). f.number) (slice_get side s.place) ≡ Some number → IsNumbered set p side
    → AreAt set (keys_of (by_signature p (rows_in (names_fed side) (take i slots)))) done → AreAt set (keys_of (by_signature p (rows_in (names_fed side) (take (i + 1) slots)))) (done ++ number ∷ [])
numbers_are set p side slots i s number done l is e h a =
    let f = signed_slot set p side s.place number h e in
    let row : Row = row_of (f.0, s.value) in
    let rows : rows_in (names_fed side) (take (i + 1) slots) ≡ rows_in (names_fed side) (take i slots) ++ row ∷ [] =
    rows_more (names_fed side) slots i s l ∙ ap (λ (z : Slot). rows_in (names_fed side) (take i slots) ++ rows_in (names_fed side) (z ∷ [])) (sym is) ∙ ap (λ (rs : List Row). rows_in (names_fed side) (take i slots) ++ rs) (row_at (names_fed side) s f.0 f.1) in
    subst (λ (ns : List Names). AreAt set ns (done ++ number ∷ [])) (sym (ap (λ (rs : List Row). keys_of (by_signature p rs)) rows ∙ keys_more p (rows_in (names_fed side) (take i slots)) row))
    (at_more set (keys_of (by_signature p (rows_in (names_fed side) (take i slots)))) done (signature_of p row) number a f.2)
  where
    keys_more : (p : Pairing) (rows : List Row) (row : Row) → keys_of (by_signature p (rows ++ row ∷ [])) ≡ keys_of (by_signature p rows) ++ signature_of p row ∷ []
    keys_more p [] row = refl
    keys_more p (r ∷ rows) row = ap (λ (ns : List Names). signature_of p r ∷ ns) (keys_more p rows row)

module _ (op : PairOp) (p : Pairing) (set before after : List Names) (many ones : List Fed) (slot : Slot) (slots : List Slot) (number : ℕ) (at ns : List ℕ) (old new : Found) (d : IsDistinct labels_eq set) (h : IsNumbered set p many)
    (e : option_map (λ (f : Fed). f.number) (slice_get many slot.place) ≡ Some number) (a : AreAt set (keys_of (by_signature p (rows_in (names_fed ones) slots))) ns) (done : List Row) where
  abbrev one_rows : List Row
  one_rows = rows_in (names_fed ones) slots

  pub slot_more : (i : ℕ) (s : Slot) → IsNoted at ns → SlotsRise 0 (length (names_fed ones)) slots → slice_get ns i ≡ Some number → slice_get slots i ≡ Some s → s.place < length (names_fed ones)
      → ((names m o : Names) → slice_get set number ≡ Some names → slice_get (names_fed many) slot.place ≡ Some m → slice_get (names_fed ones) s.place ≡ Some o → IsAdded set before old after new (names, pair_outcome op p (row_of (m, slot.value)) (row_of (o, s.value))))
      → ArePairs op p set before done one_rows old → ArePairs op p set after (done ++ rows_in (names_fed many) (slot ∷ [])) one_rows new
  slot_more i s noted r k f w added pairs =
      let m = signed_slot set p many slot.place number h e in
      let row : Row = row_of (m.0, slot.value) in
      let o : Names = get_or (names_fed ones) s.place [] in
      let here : slice_get (names_fed ones) s.place ≡ Some o = there (names_fed ones) s.place [] w in
      let one : Row = row_of (o, s.value) in
      let items : items_of (by_signature p one_rows) (signature_of p row) ≡ one ∷ [] =
      one_partner set d (signature_of p row) number m.2 (by_signature p one_rows) ns i (signature_of p one, one) a (noted_once at ns noted) k (signed_there p one_rows i one (row_there (names_fed ones) 0 slots i s o r f here)) in
      subst (λ (rs : List Row). ArePairs op p set after (done ++ rs) one_rows new) (sym (row_at (names_fed many) slot m.0 m.1))
      (pairs_more op p set before after done one_rows row old new one (ap alone items) (added (signature_of p row) m.0 o m.2 m.1 here) pairs)

  pub slot_on : ((i : ℕ) → slice_get ns i ≡ Some number → ⊥) → AreFound set after (pairs_left op p done one_rows) (faults_of (matches op p done one_rows)) new → ArePairs op p set after (done ++ rows_in (names_fed many) (slot ∷ [])) one_rows new
  slot_on none found =
      let m = signed_slot set p many slot.place number h e in
      let row : Row = row_of (m.0, slot.value) in
      let items : items_of (by_signature p one_rows) (signature_of p row) ≡ [] = no_partner set d (signature_of p row) number m.2 (by_signature p one_rows) ns a none in
      subst (λ (rs : List Row). ArePairs op p set after (done ++ rs) one_rows new) (sym (row_at (names_fed many) slot m.0 m.1))
      (pairs_on op p set before after done one_rows row old new (ap alone items) found)

pub number_below : (set : List Names) (p : Pairing) (side : List Fed) (i number bound : ℕ) → IsNumbered set p side → option_map (λ (f : Fed). f.number) (slice_get side i) ≡ Some number → length set ≤ bound → number < bound
number_below set p side i number bound h e l = let f = signed_slot set p side i number h e in let w = within set number (signature p.on p.names f.0) f.2 in omega arith

pub at_below : (set names : List Names) (ns : List ℕ) (bound : ℕ) → AreAt set names ns → length set ≤ bound → AreBelow bound ns
at_below set [] [] bound a l = tt
at_below set [] (n ∷ ns) bound a l = absurd a
at_below set (m ∷ names) [] bound a l = absurd a
at_below set (m ∷ names) (n ∷ ns) bound a l = (let w = within set n m a.0 in let s : n < bound = omega arith in s, at_below set names ns bound a.1 l)

pub none_found : (set labels : List Names) (found : Found) → found.slots.items ≡ [] → found.numbers.items ≡ [] → found.fatal ≡ [] → AreFound set labels [] [] found
none_found set labels found a b e = record { slots = subst (λ (xs : List Slot). ArePut labels xs []) (sym a) tt; numbers = subst (AreAt set []) (sym b) tt; marks = e }
