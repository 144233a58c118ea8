-- The notes and marks of all parts together are those of the whole.
use Rattle.std.proofs.Common.{◌≡◌, ◌∙◌, Bool, true, false, List, [], ◌∷◌, map, refl, sym, ap, Some, None}
use Rattle.std.specs.Prelude.{◌||◌, Option, filter, Ok}
use Rattle.std.specs.BTreeMap.{is_at}
use Rattle.std.specs.List.{AllByRecursion, cons_option, filter_map, list_any}
use Rattle.std.specs.List.Sorted.{IsStrictlySortedBy}
use Rattle.xfrac.specs.declared.value.XFrac.{XFrac}
use Rattle.step_table.specs.Alike.{same_sets}
use Rattle.step_table.specs.Groups.{Names}
use Rattle.step_table.specs.KeySets.{any_of_set, merged-nil}
use Rattle.step_table.specs.Laws.{SettledIsWellFormed, TakenHasSets, UnionHasMarks, UnionHasNotes, UnionIsSet, has_mark, has_note}
use Rattle.step_table.specs.OrderLaws.{mark_cmp_ties, mark_cmp_total}
use Rattle.step_table.specs.Orders.{mark_cmp, note_cmp}
use Rattle.step_table.specs.Outcomes.{mark_of, taken}
use Rattle.step_table.specs.Unions.{set_of, union, united, with_fatal}
use Rattle.step_table.specs.WellFormed.{AreSets}
use Rattle.step_table.specs.declared.marks.Mark.{Mark}
use Rattle.step_table.specs.declared.marks.Mark.TheVariants.{SameLabelset}
use Rattle.step_table.specs.declared.marks.Marks.{Marks}
use Rattle.step_table.specs.declared.marks.Note.{Note}
use Rattle.step_table.specs.declared.outcomes.Outcome.{Outcome}
use Rattle.parting_laws.proofs.Chosen.{everywhere, mapped_along}
use Rattle.parting_laws.proofs.Made.{Keeps, made_step, shared_all, shared_made, shared_rows}
use Rattle.parting_laws.proofs.Parts.{IsOfOne, any_parted, in_part, of_one_alike}

abbrev pub nothing : Marks
nothing = record { fatal = []; notes = [] }

-- ---- tests of several

or_three : (a b c d e f : Bool) → (((a || b) || c) || ((d || e) || f)) ≡ (((a || d) || (b || e)) || (c || f))
or_three true b c d e f = refl
or_three false true c true e f = refl
or_three false true c false e f = refl
or_three false false true true e f = refl
or_three false false true false true f = refl
or_three false false true false false f = refl
or_three false false false d e f = refl

or_two : (a b c d : Bool) → ((a || b) || (c || d)) ≡ ((a || c) || (b || d))
or_two true b c d = refl
or_two false true true d = refl
or_two false true false d = refl
or_two false false c d = refl

any_three : {P : Type 0} (a b c : P → Bool) (ps : List P) → list_any (λ p. (a p || b p) || c p) ps ≡ ((list_any a ps || list_any b ps) || list_any c ps)
any_three a b c [] = refl
any_three a b c (p ∷ ps) = ap (λ z. ((a p || b p) || c p) || z) (any_three a b c ps) ∙ or_three (a p) (b p) (c p) (list_any a ps) (list_any b ps) (list_any c ps)

pub any_two : {P : Type 0} (a b : P → Bool) (ps : List P) → list_any (λ p. a p || b p) ps ≡ (list_any a ps || list_any b ps)
any_two a b [] = refl
any_two a b (p ∷ ps) = ap (λ z. (a p || b p) || z) (any_two a b ps) ∙ or_two (a p) (b p) (list_any a ps) (list_any b ps)

pub any_same : {P : Type 0} (a b : P → Bool) (ps : List P) → AllByRecursion (λ (p : P). a p ≡ b p) ps → list_any a ps ≡ list_any b ps
any_same a b [] e = refl
any_same a b (p ∷ ps) e = λ i. e.0 i || any_same a b ps e.1 i

pub or_none : (b : Bool) → b ≡ (b || false)
or_none true = refl
or_none false = refl

or_turned : (a b c : Bool) → ((a || b) || c) ≡ (a || (b || c))
or_turned true b c = refl
or_turned false b c = refl

-- ---- the marks of all parts

module _ {P : Type 0} where
  -- the notes and marks of all parts, with others
  abbrev pub union_over : (P → Marks) → Marks → List P → Marks
  union_over f marks [] = marks
  union_over f marks (p ∷ ps) = union_over f (united marks (f p)) ps

  module _ (unions : UnionHasMarks) where
    pub all_have : (f : P → Marks) (mark : Mark) (marks : Marks) (ps : List P) → has_mark (union_over f marks ps).fatal mark ≡ (has_mark marks.fatal mark || list_any (λ (p : P). has_mark (f p).fatal mark) ps)
    all_have f mark marks [] = or_none (has_mark marks.fatal mark)
    all_have f mark marks (p ∷ ps) =
        all_have f mark (united marks (f p)) ps ∙ ap (λ b. b || list_any (λ (p : P). has_mark (f p).fatal mark) ps) (unions marks (f p) mark)
        ∙ or_turned (has_mark marks.fatal mark) (has_mark (f p).fatal mark) (list_any (λ (p : P). has_mark (f p).fatal mark) ps)

  pub all_have_notes : UnionHasNotes → (f : P → Marks) (note : Note) (marks : Marks) (ps : List P) → has_note (union_over f marks ps).notes note ≡ (has_note marks.notes note || list_any (λ (p : P). has_note (f p).notes note) ps)
  all_have_notes unions f note marks [] = or_none (has_note marks.notes note)
  all_have_notes unions f note marks (p ∷ ps) =
      all_have_notes unions f note (united marks (f p)) ps ∙ ap (λ b. b || list_any (λ (p : P). has_note (f p).notes note) ps) (unions marks (f p) note)
      ∙ or_turned (has_note marks.notes note) (has_note (f p).notes note) (list_any (λ (p : P). has_note (f p).notes note) ps)

  pub same_notes : (f g : P → Marks) (m n : Marks) (ps : List P) → m.notes ≡ n.notes → AllByRecursion (λ (p : P). (f p).notes ≡ (g p).notes) ps → (union_over f m ps).notes ≡ (union_over g n ps).notes
  same_notes f g m n [] e a = e
  same_notes f g m n (p ∷ ps) e a = same_notes f g (united m (f p)) (united n (g p)) ps (λ i. union note_cmp (e i) (a.0 i)) a.1

  pub same_union : (f g : P → Marks) (marks : Marks) (ps : List P) → AllByRecursion (λ (p : P). f p ≡ g p) ps → union_over f marks ps ≡ union_over g marks ps
  same_union f g marks [] a = refl
  same_union f g marks (p ∷ ps) a = ap (λ (m : Marks). union_over f (united marks m) ps) a.0 ∙ same_union f g (united marks (g p)) ps a.1

  pub none_over : (ps : List P) → union_over (λ (p : P). nothing) nothing ps ≡ nothing
  none_over [] = refl
  none_over (p ∷ ps) = none_over ps

  pub all_sets : UnionIsSet → (f : P → Marks) (marks : Marks) (ps : List P) → AreSets marks → AllByRecursion (λ (p : P). AreSets (f p)) ps → AreSets (union_over f marks ps)
  all_sets sets f marks [] m a = m
  all_sets sets f marks (p ∷ ps) m a = all_sets sets f (united marks (f p)) ps (sets marks (f p) m a.0) a.1

pub no_sets : AreSets nothing
unfolding IsStrictlySortedBy
no_sets = record { fatal = tt; notes = tt }

-- ---- what is made of things

module _ {X : Type 0} (labels : X → Names) (outcome : X → Outcome) where
  -- whether a thing has a fault of this mark, and labels are those of this mark
  abbrev is_fault : Mark → X → Bool
  is_fault mark x = by (mark_of (outcome x))
    where
      by : Option Mark → Bool
      by None = false
      by (Some m) = is_at (mark_cmp mark) m

  abbrev is_clash : Mark → Names → Bool
  is_clash mark names = is_at (mark_cmp mark) (SameLabelset names)

  faults_are : (mark : Mark) (xs : List X) → list_any (is_at (mark_cmp mark)) (filter_map mark_of (map outcome xs)) ≡ list_any (is_fault mark) xs
  faults_are mark [] = refl
  faults_are mark (x ∷ xs) = by (mark_of (outcome x)) refl (faults_are mark xs)
    where
      by : (o : Option Mark) → mark_of (outcome x) ≡ o → list_any (is_at (mark_cmp mark)) (filter_map mark_of (map outcome xs)) ≡ list_any (is_fault mark) xs
          → list_any (is_at (mark_cmp mark)) (cons_option o (filter_map mark_of (map outcome xs))) ≡ (is_fault mark x || list_any (is_fault mark) xs)
      by None e rest = rw e rest
      by (Some m) e rest = rw e (ap (λ b. is_at (mark_cmp mark) m || b) rest)

  clashes_are : (mark : Mark) (names : List Names) → list_any (is_at (mark_cmp mark)) (map SameLabelset names) ≡ list_any (is_clash mark) names
  clashes_are mark [] = refl
  clashes_are mark (n ∷ names) = ap (λ b. is_clash mark n || b) (clashes_are mark names)

  -- the labels of an outcome are of one part where those of its thing are
  pub made_of_one : {P : Type 0} (test : P → Names → Bool) (ps : List P) → AllByRecursion (λ (p : P). Keeps labels outcome (test p)) ps
      → (x : X) (v : XFrac) → (outcome x).value ≡ Ok (Some v) → IsOfOne test ps (labels x) → IsOfOne test ps (outcome x).labels
  made_of_one {P = P} test ps keeps x v e is =
      of_one_alike test ps (outcome x).labels (labels x) (mapped_along (λ (p : P). Keeps labels outcome (test p)) (λ (p : P). test p (outcome x).labels ≡ test p (labels x)) (λ p k. k x v e) ps keeps) is

  pub own_notes : (marks : Marks) (xs : List X) → (made_step labels outcome marks xs).marks.notes ≡ marks.notes
  own_notes marks xs = merged-nil note_cmp (union note_cmp marks.notes []) ∙ merged-nil note_cmp marks.notes

  module _ (unions : UnionHasMarks) where
    with_fatal_has : (mark : Mark) (marks : Marks) (fatal : List Mark) → has_mark (with_fatal marks fatal).fatal mark ≡ (has_mark marks.fatal mark || list_any (is_at (mark_cmp mark)) fatal)
    with_fatal_has mark marks fatal = unions marks (record { fatal = set_of mark_cmp fatal; notes = [] }) mark ∙ ap (λ b. has_mark marks.fatal mark || b) (any_of_set mark_cmp_total mark_cmp_ties (is_at (mark_cmp mark)) fatal)

    -- the marks of what is made: those from before, its faults, and the labels that its rows share
    made_has : (mark : Mark) (marks : Marks) (xs : List X) → has_mark (made_step labels outcome marks xs).marks.fatal mark ≡ ((has_mark marks.fatal mark || list_any (is_fault mark) xs) || list_any (is_clash mark) (shared_rows labels outcome xs))
    made_has mark marks xs =
        with_fatal_has mark (with_fatal marks (filter_map mark_of (map outcome xs))) (map SameLabelset (shared_rows labels outcome xs))
        ∙ (λ i. (with_fatal_has mark marks (filter_map mark_of (map outcome xs)) ∙ ap (λ b. has_mark marks.fatal mark || b) (faults_are mark xs)) i || clashes_are mark (shared_rows labels outcome xs) i)

    module _ {P : Type 0} (test : P → Names → Bool) (before : P → Marks) (whole : Marks) (ps : List P) (xs : List X) where
      abbrev after : P → Marks
      after p = (made_step labels outcome (before p) (in_part test labels p xs)).marks

      clashes_parted : (mark : Mark) (qs : List P) → AllByRecursion (λ (p : P). Keeps labels outcome (test p)) qs
          → list_any (λ (p : P). list_any (is_clash mark) (shared_rows labels outcome (in_part test labels p xs))) qs ≡ list_any (λ (p : P). list_any (is_clash mark) (filter (test p) (shared_rows labels outcome xs))) qs
      clashes_parted mark qs keeps =
          any_same (λ (p : P). list_any (is_clash mark) (shared_rows labels outcome (in_part test labels p xs))) (λ (p : P). list_any (is_clash mark) (filter (test p) (shared_rows labels outcome xs))) qs
          (mapped_along (λ (p : P). Keeps labels outcome (test p)) (λ (p : P). list_any (is_clash mark) (shared_rows labels outcome (in_part test labels p xs)) ≡ list_any (is_clash mark) (filter (test p) (shared_rows labels outcome xs)))
          (λ p k. ap (list_any (is_clash mark)) (shared_made labels outcome (test p) k xs)) qs keeps)

      shared_of_one : AllByRecursion (λ (p : P). Keeps labels outcome (test p)) ps → AllByRecursion (λ (x : X). IsOfOne test ps (labels x)) xs → AllByRecursion (IsOfOne test ps) (shared_rows labels outcome xs)
      shared_of_one keeps one = shared_all labels outcome (IsOfOne test ps) (made_of_one test ps keeps) xs one

      -- a mark stands in what is made of all things exactly where it stands in what is made of those of a part
      pub parted_has : AllByRecursion (λ (p : P). Keeps labels outcome (test p)) ps → AllByRecursion (λ (x : X). IsOfOne test ps (labels x)) xs → (mark : Mark)
          → list_any (λ (p : P). has_mark (before p).fatal mark) ps ≡ has_mark whole.fatal mark → list_any (λ (p : P). has_mark (after p).fatal mark) ps ≡ has_mark (made_step labels outcome whole xs).marks.fatal mark
      parted_has keeps one mark old =
          let faults : list_any (λ (p : P). list_any (is_fault mark) (in_part test labels p xs)) ps ≡ list_any (is_fault mark) xs = any_parted test labels (is_fault mark) ps xs one in
          let clashes : list_any (λ (p : P). list_any (is_clash mark) (shared_rows labels outcome (in_part test labels p xs))) ps ≡ list_any (is_clash mark) (shared_rows labels outcome xs) =
          clashes_parted mark ps keeps ∙ any_parted test (λ (n : Names). n) (is_clash mark) ps (shared_rows labels outcome xs) (shared_of_one keeps one) in
          any_same (λ (p : P). has_mark (after p).fatal mark) (λ (p : P). (has_mark (before p).fatal mark || list_any (is_fault mark) (in_part test labels p xs)) || list_any (is_clash mark) (shared_rows labels outcome (in_part test labels p xs))) ps
          (everywhere (λ (p : P). has_mark (after p).fatal mark ≡ ((has_mark (before p).fatal mark || list_any (is_fault mark) (in_part test labels p xs)) || list_any (is_clash mark) (shared_rows labels outcome (in_part test labels p xs))))
          (λ p. made_has mark (before p) (in_part test labels p xs)) ps)
          ∙ any_three (λ (p : P). has_mark (before p).fatal mark) (λ (p : P). list_any (is_fault mark) (in_part test labels p xs)) (λ (p : P). list_any (is_clash mark) (shared_rows labels outcome (in_part test labels p xs))) ps
          ∙ (λ i. (old i || faults i) || clashes i)
          ∙ sym (made_has mark whole xs)

      same_members : AllByRecursion (λ (p : P). Keeps labels outcome (test p)) ps → AllByRecursion (λ (x : X). IsOfOne test ps (labels x)) xs → union_over before nothing ps ≡ whole
          → (mark : Mark) → has_mark (union_over after nothing ps).fatal mark ≡ has_mark (made_step labels outcome whole xs).marks.fatal mark
      same_members keeps one joined mark =
          all_have unions after mark nothing ps ∙ parted_has keeps one mark (sym (all_have unions before mark nothing ps) ∙ ap (λ (m : Marks). has_mark m.fatal mark) joined)

      -- the notes and marks of what is made of the things of each part are together those of what is made of all
      pub marks_made : UnionIsSet → TakenHasSets → SettledIsWellFormed → AllByRecursion (λ (p : P). Keeps labels outcome (test p)) ps → AllByRecursion (λ (x : X). IsOfOne test ps (labels x)) xs
          → AreSets whole → AllByRecursion (λ (p : P). AreSets (before p)) ps → union_over before nothing ps ≡ whole
          → union_over after nothing ps ≡ (made_step labels outcome whole xs).marks
      marks_made sets takens settleds keeps one w each joined =
          let made_sets : (m : Marks) (ys : List X) → AreSets m → AreSets (made_step labels outcome m ys).marks = λ m ys a. (settleds (taken m (map outcome ys)) (takens m (map outcome ys) a)).marks in
          let left : AreSets (union_over after nothing ps) = all_sets sets after nothing ps no_sets (mapped_along (λ (p : P). AreSets (before p)) (λ (p : P). AreSets (after p)) (λ p a. made_sets (before p) (in_part test labels p xs) a) ps each) in
          let fatal : (union_over after nothing ps).fatal ≡ (made_step labels outcome whole xs).marks.fatal =
          same_sets mark_cmp_total mark_cmp_ties (union_over after nothing ps).fatal (made_step labels outcome whole xs).marks.fatal left.fatal (made_sets whole xs w).fatal (same_members keeps one joined) in
          let notes : (union_over after nothing ps).notes ≡ (made_step labels outcome whole xs).marks.notes =
          same_notes after before nothing nothing ps refl (everywhere (λ (p : P). (after p).notes ≡ (before p).notes) (λ p. own_notes (before p) (in_part test labels p xs)) ps) ∙ ap (λ (m : Marks). m.notes) joined ∙ sym (own_notes whole xs) in
          λ i. record { fatal = fatal i; notes = notes i }
