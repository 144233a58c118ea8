-- The orders in which marks and notes are kept. (The order of marks is this project's own, for the least one is what a
-- failed evaluation names; the order of notes serves to keep them as a set.)
use Rattle.std.specs.Prelude.{ℕ, ℤ, pos}
use Rattle.std.specs.Ordering.{nat_cmp, int_cmp, then_cmp, on}
use Rattle.std.specs.declared.cmp.Ordering.{Ordering}
use Rattle.label_set.specs.Labels.{byte_cmp, labels_cmp}
use Rattle.xfrac.specs.Order.{rank}
use Rattle.xfrac.specs.declared.value.XFrac.{XFrac}
use Rattle.xfrac.specs.declared.value.XFrac.TheVariants.{Fin}
use Rattle.step_table.specs.declared.marks.Mark.{Mark}
use Rattle.step_table.specs.declared.marks.Mark.TheVariants.{Overflow, Irrational, SameLabelset, DuplicateOneSide, ImplicitManyToOne, DuplicateResult, OutOfCalendar}
use Rattle.step_table.specs.declared.marks.Note.{Note}
use Rattle.step_table.specs.declared.marks.Note.TheVariants.{QuantileRange, BadBucket, NotCounter, FixedBuckets}

-- the place of a mark's kind
abbrev pub mark_rank : Mark → ℕ
mark_rank Overflow = 0
mark_rank Irrational = 1
mark_rank (SameLabelset labels) = 2
mark_rank (DuplicateOneSide labels) = 3
mark_rank (ImplicitManyToOne labels) = 4
mark_rank (DuplicateResult labels) = 5
mark_rank OutOfCalendar = 6

-- marks by their kinds, and those of one kind by their labels
abbrev pub mark_cmp : Mark → Mark → Ordering
mark_cmp (SameLabelset a) (SameLabelset b) = labels_cmp a b
mark_cmp (DuplicateOneSide a) (DuplicateOneSide b) = labels_cmp a b
mark_cmp (ImplicitManyToOne a) (ImplicitManyToOne b) = labels_cmp a b
mark_cmp (DuplicateResult a) (DuplicateResult b) = labels_cmp a b
mark_cmp a b = nat_cmp (mark_rank a) (mark_rank b)

-- fractions by their numerators, and then by their denominators
abbrev pub parts_cmp : ℤ × ℕ → ℤ × ℕ → Ordering
parts_cmp = then_cmp (on (λ f. f.0) int_cmp) (on (λ f. pos f.1) int_cmp)

-- numbers by their kinds, and fractions by their parts; not the order of their values
abbrev pub number_cmp : XFrac → XFrac → Ordering
number_cmp (Fin a) (Fin b) = parts_cmp a b
number_cmp a b = nat_cmp (rank a) (rank b)

-- the place of a note's kind
abbrev pub note_rank : Note → ℕ
note_rank (QuantileRange number) = 0
note_rank (BadBucket text) = 1
note_rank (NotCounter text) = 2
note_rank FixedBuckets = 3

-- notes by their kinds, and those of one kind by what they hold
abbrev pub note_cmp : Note → Note → Ordering
note_cmp (QuantileRange a) (QuantileRange b) = number_cmp a b
note_cmp (BadBucket a) (BadBucket b) = byte_cmp a b
note_cmp (NotCounter a) (NotCounter b) = byte_cmp a b
note_cmp a b = nat_cmp (note_rank a) (note_rank b)
