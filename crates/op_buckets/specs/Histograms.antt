-- What labels say of a bucket: its histogram and its bound. (Prometheus querying, "histogram_quantile".)
use Rattle.std.specs.Prelude.{◌≡◌, List, [], ◌∷◌, map, Option}
use Rattle.std.specs.Result.{result_ok}
use Rattle.label_set.specs.Labels.{value_of, without}
use Rattle.promql_meaning.specs.Buckets.{bucket_label, signed_number}
use Rattle.step_table.specs.Groups.{Names}
use Rattle.xfrac.specs.declared.value.XFrac.{XFrac}

-- the labels of the histogram that labels are a bucket of
abbrev pub histogram_of : Names → Names
histogram_of names = without (bucket_label ∷ []) names

-- the bucket's bound, where it is a number
abbrev pub bound_in : Names → Option XFrac
bound_in names = result_ok (signed_number (value_of names bucket_label))

-- beside labels stand those of their histograms, and their bounds
pub record AreRead (fed own : List Names) (limits : List (Option XFrac)) : Type 0 where
  pub histograms : own ≡ map histogram_of fed
  pub bounds : limits ≡ map bound_in fed
