-- The text of a note, and which notes are warnings. (That notes are warnings and info notes is Prometheus'; the texts are this
-- project's own.)
use Rattle.std.specs.Prelude.{ℕ, Bool, true, false, not, if◌then◌else◌, List, ◌++◌, codes, filter, map}
use Rattle.frac_text.specs.Spellings.{spelling}
use Rattle.label_set.specs.LabelText.{quoted}
use Rattle.step_table.specs.declared.marks.Note.{Note}
use Rattle.step_table.specs.declared.marks.Note.TheVariants.{QuantileRange, BadBucket, NotCounter, FixedBuckets}

-- the text of a note; that of a bucket stands in quotes, as a label's value does
abbrev pub note_text : Note → List ℕ
note_text (QuantileRange quantile) = codes "quantile value should be between 0 and 1, got " ++ spelling quantile
note_text (BadBucket bound) = codes "bucket label le is missing or has a malformed value of " ++ quoted bound
note_text (NotCounter name) = codes "metric might not be a counter, name does not end in _total/_sum/_count/_bucket: " ++ name
note_text FixedBuckets = codes "input to histogram_quantile needed to be fixed for monotonicity"

-- a note is a warning; the others are info notes
abbrev pub is_warning : Note → Bool
is_warning (QuantileRange quantile) = true
is_warning (BadBucket bound) = true
is_warning (NotCounter name) = false
is_warning FixedBuckets = false

-- a note is one of the warnings, or else one of the info notes
abbrev pub is_of : Bool → Note → Bool
is_of warnings note = if warnings then is_warning note else not (is_warning note)

-- the texts of the warnings, or else of the info notes, in their order
abbrev pub texts_of : Bool → List Note → List (List ℕ)
texts_of warnings notes = map note_text (filter (is_of warnings) notes)
