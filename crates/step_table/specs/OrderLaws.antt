-- The orders of marks and notes are total, and tie only equal ones: what sets of them rest on.
use Rattle.std.proofs.Common.{◌≡◌, ℕ, ℤ, pos, List, [], refl, ap, subst}
use Rattle.std.specs.Cmp.{IsTotalOrder}
use Rattle.std.specs.Cmp.Lexicographic.{nat_list_cmp_total}
use Rattle.std.specs.Ordering.{nat_cmp, int_cmp, then_cmp, on, ordering_then}
use Rattle.std.specs.declared.cmp.Ordering.{Ordering}
use Rattle.std.specs.declared.cmp.Ordering.TheVariants.{Less, Equal, Greater}
use Rattle.std.proofs.lemmas.Cmp.{on_total, then_total, nat_cmp_total, int_cmp_total}
use Rattle.std.proofs.lemmas.Map.Lookups.{exact_signed, exact_bytes}
use Rattle.label_set.specs.Labels.{byte_cmp, labels_cmp}
use Rattle.label_set.specs.LabelOrder.{labels_cmp_total, labels_cmp_ties}
use Rattle.xfrac.specs.Order.{rank}
use Rattle.xfrac.specs.declared.value.XFrac.{XFrac}
use Rattle.xfrac.specs.declared.value.XFrac.TheVariants.{Fin, PosInf, NegInf, NaN}
use Rattle.step_table.specs.declared.marks.Mark.{Mark}
use Rattle.step_table.specs.declared.marks.Mark.TheVariants.{Overflow, Irrational, SameLabelset, DuplicateOneSide, ImplicitManyToOne, DuplicateResult, OutOfCalendar}
use Rattle.step_table.specs.declared.marks.Note.{Note}
use Rattle.step_table.specs.declared.marks.Note.TheVariants.{QuantileRange, BadBucket, NotCounter, FixedBuckets}
use Rattle.step_table.specs.Orders.{mark_rank, mark_cmp, number_cmp, parts_cmp, note_rank, note_cmp}

then_tied : (a b : Ordering) → ordering_then a b ≡ Equal → (a ≡ Equal) × (b ≡ Equal)
then_tied Less b e = absurd (cc)
then_tied Equal b e = (refl, e)
then_tied Greater b e = absurd (cc)

then_equal : (a : Ordering) → ordering_then a Equal ≡ a
then_equal Less = refl
then_equal Equal = refl
then_equal Greater = refl

-- ---- marks, by their kinds and then by their labels
abbrev mark_labels : Mark → List (List ℕ × List ℕ)
mark_labels Overflow = []
mark_labels Irrational = []
mark_labels (SameLabelset labels) = labels
mark_labels (DuplicateOneSide labels) = labels
mark_labels (ImplicitManyToOne labels) = labels
mark_labels (DuplicateResult labels) = labels
mark_labels OutOfCalendar = []

abbrev mark_keys : Mark → Mark → Ordering
mark_keys = then_cmp (on mark_rank nat_cmp) (on mark_labels labels_cmp)

mark_same : (a b : Mark) → mark_keys a b ≡ mark_cmp a b
mark_same Overflow Overflow = refl
mark_same Irrational Irrational = refl
mark_same (SameLabelset x) (SameLabelset y) = refl
mark_same (DuplicateOneSide x) (DuplicateOneSide y) = refl
mark_same (ImplicitManyToOne x) (ImplicitManyToOne y) = refl
mark_same (DuplicateResult x) (DuplicateResult y) = refl
mark_same OutOfCalendar OutOfCalendar = refl
mark_same _ _ = refl

pub mark_cmp_total : IsTotalOrder mark_cmp
mark_cmp_total = subst IsTotalOrder (λ i a b. mark_same a b i) (then_total (on_total mark_rank nat_cmp_total) (on_total mark_labels labels_cmp_total))

pub mark_cmp_ties : (a b : Mark) → mark_cmp a b ≡ Equal → a ≡ b
mark_cmp_ties Overflow Overflow e = refl
mark_cmp_ties Irrational Irrational e = refl
mark_cmp_ties (SameLabelset x) (SameLabelset y) e = ap SameLabelset (labels_cmp_ties x y e)
mark_cmp_ties (DuplicateOneSide x) (DuplicateOneSide y) e = ap DuplicateOneSide (labels_cmp_ties x y e)
mark_cmp_ties (ImplicitManyToOne x) (ImplicitManyToOne y) e = ap ImplicitManyToOne (labels_cmp_ties x y e)
mark_cmp_ties (DuplicateResult x) (DuplicateResult y) e = ap DuplicateResult (labels_cmp_ties x y e)
mark_cmp_ties OutOfCalendar OutOfCalendar e = refl
mark_cmp_ties _ _ e = absurd (cc)

-- ---- numbers, by their kinds and then by their parts
abbrev number_parts : XFrac → ℤ × ℕ
number_parts (Fin f) = f
number_parts PosInf = (pos 0, 1)
number_parts NegInf = (pos 0, 1)
number_parts NaN = (pos 0, 1)

abbrev number_keys : XFrac → XFrac → Ordering
number_keys = then_cmp (on rank nat_cmp) (on number_parts parts_cmp)

number_same : (a b : XFrac) → number_keys a b ≡ number_cmp a b
number_same (Fin x) (Fin y) = refl
number_same PosInf PosInf = refl
number_same NegInf NegInf = refl
number_same NaN NaN = refl
number_same _ _ = refl

parts_cmp_total : IsTotalOrder parts_cmp
parts_cmp_total = then_total (on_total (λ (f : ℤ × ℕ). f.0) int_cmp_total) (on_total (λ (f : ℤ × ℕ). pos f.1) int_cmp_total)

number_cmp_total : IsTotalOrder number_cmp
number_cmp_total = subst IsTotalOrder (λ i a b. number_same a b i) (then_total (on_total rank nat_cmp_total) (on_total number_parts parts_cmp_total))

parts_cmp_ties : (f g : ℤ × ℕ) → parts_cmp f g ≡ Equal → f ≡ g
parts_cmp_ties f g e =
    let both : (int_cmp f.0 g.0 ≡ Equal) × (int_cmp (pos f.1) (pos g.1) ≡ Equal) = then_tied _ _ e in
    let n : f.0 ≡ g.0 = exact_signed f.0 g.0 both.0 in
    let d : pos f.1 ≡ pos g.1 = exact_signed (pos f.1) (pos g.1) both.1 in
    let d' : f.1 ≡ g.1 = cc in
    λ i. (n i, d' i)

number_cmp_ties : (a b : XFrac) → number_cmp a b ≡ Equal → a ≡ b
number_cmp_ties (Fin x) (Fin y) e = ap Fin (parts_cmp_ties x y e)
number_cmp_ties PosInf PosInf e = refl
number_cmp_ties NegInf NegInf e = refl
number_cmp_ties NaN NaN e = refl
number_cmp_ties _ _ e = absurd (cc)

-- ---- notes, by their kinds and then by what they hold
abbrev note_number : Note → XFrac
note_number (QuantileRange number) = number
note_number (BadBucket text) = NaN
note_number (NotCounter text) = NaN
note_number FixedBuckets = NaN

abbrev note_text : Note → List ℕ
note_text (QuantileRange number) = []
note_text (BadBucket text) = text
note_text (NotCounter text) = text
note_text FixedBuckets = []

abbrev note_keys : Note → Note → Ordering
note_keys = then_cmp (on note_rank nat_cmp) (then_cmp (on note_text byte_cmp) (on note_number number_cmp))

note_same : (a b : Note) → note_keys a b ≡ note_cmp a b
note_same (QuantileRange x) (QuantileRange y) = refl
note_same (BadBucket x) (BadBucket y) = then_equal (byte_cmp x y)
note_same (NotCounter x) (NotCounter y) = then_equal (byte_cmp x y)
note_same FixedBuckets FixedBuckets = refl
note_same _ _ = refl

pub note_cmp_total : IsTotalOrder note_cmp
note_cmp_total = subst IsTotalOrder (λ i a b. note_same a b i) (then_total (on_total note_rank nat_cmp_total) (then_total (on_total note_text nat_list_cmp_total) (on_total note_number number_cmp_total)))

pub note_cmp_ties : (a b : Note) → note_cmp a b ≡ Equal → a ≡ b
note_cmp_ties (QuantileRange x) (QuantileRange y) e = ap QuantileRange (number_cmp_ties x y e)
note_cmp_ties (BadBucket x) (BadBucket y) e = ap BadBucket (exact_bytes x y e)
note_cmp_ties (NotCounter x) (NotCounter y) e = ap NotCounter (exact_bytes x y e)
note_cmp_ties FixedBuckets FixedBuckets e = refl
note_cmp_ties _ _ e = absurd (cc)
