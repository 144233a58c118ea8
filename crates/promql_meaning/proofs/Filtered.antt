-- What passes some rules and more, of what passes the first.
use Rattle.std.proofs.Common.{◌≡◌, ◌∙◌, ℕ, Bool, true, false, cond, List, [], ◌∷◌, ◌++◌, map, refl, sym, ap, Option, None, Some}
use Rattle.std.specs.Prelude.{ℤ, ◌&&◌, filter}
use Rattle.std.specs.List.{cons_option, filter_map}
use Rattle.std.specs.Option.{option_map}
use Rattle.std.proofs.lemmas.List.Folds.{list_all-append}
use Rattle.label_set.specs.Labels.{value_of}
use Rattle.label_set.specs.LabelOrder.{by_labels}
use Rattle.label_set.specs.declared.rules.Rule.{Rule}
use Rattle.match_rule.specs.Patterns.{kind_passes, labels_pass}
use Rattle.step_table.specs.Groups.{Names}
use Rattle.step_table.specs.declared.step.Row.{Row}
use Rattle.step_table.specs.declared.windows.WindowRow.{WindowRow}
use Rattle.ticks.specs.declared.moment.Ms.{Ms}
use Rattle.xfrac.specs.declared.value.XFrac.{XFrac}
use Rattle.promql_meaning.specs.Filters.{MoreRulesFilterRows, MoreRulesFilterWindows}
use Rattle.promql_meaning.specs.Givens.{unstamped}
use Rattle.promql_meaning.specs.Selecting.{AllSeries, Samples, newest, newest_row, newest_rows, passing, series_window, window, window_row}

abbrev Series : Type 0
Series = Names × Samples

-- ---- filters one after the other

module _ {X : Type 0} (p q r : X → Bool) (joins : (x : X) → r x ≡ (p x && q x)) where
  pub both_filtered : (xs : List X) → filter r xs ≡ filter q (filter p xs)
  both_filtered [] = refl
  both_filtered (x ∷ xs) = ap (λ b. cond b (x ∷ filter r xs) (filter r xs)) (joins x) ∙ by (p x) (both_filtered xs)
    where
      by : (b : Bool) → filter r xs ≡ filter q (filter p xs) → cond (b && q x) (x ∷ filter r xs) (filter r xs) ≡ filter q (cond b (x ∷ filter p xs) (filter p xs))
      by true rest = ap (λ ys. cond (q x) (x ∷ ys) ys) rest
      by false rest = rest

-- ---- what is made of the series that pass

module _ {Y : Type 0} (q : Names → Bool) (key : Y → Names) (make : Series → Option Y) (keeps : (s : Series) (rest : List Y) → filter (λ y. q (key y)) (cons_option (make s) rest) ≡ cond (q s.0) (cons_option (make s) (filter (λ y. q (key y)) rest)) (filter (λ y. q (key y)) rest)) where
  pub made_filtered : (series : AllSeries) → filter_map make (filter (λ (s : Series). q s.0) series) ≡ filter (λ y. q (key y)) (filter_map make series)
  made_filtered [] = refl
  made_filtered (s ∷ series) = by (q s.0) (made_filtered series) ∙ sym (keeps s (filter_map make series))
    where
      by : (b : Bool) → filter_map make (filter (λ (x : Series). q x.0) series) ≡ filter (λ y. q (key y)) (filter_map make series)
          → filter_map make (cond b (s ∷ filter (λ (x : Series). q x.0) series) (filter (λ (x : Series). q x.0) series))
          ≡ cond b (cons_option (make s) (filter (λ y. q (key y)) (filter_map make series))) (filter (λ y. q (key y)) (filter_map make series))
      by true rest = ap (cons_option (make s)) rest
      by false rest = rest

nothing_kept : {Y : Type 0} (b : Bool) (rest : List Y) → rest ≡ cond b rest rest
nothing_kept true rest = refl
nothing_kept false rest = refl

row_keeps : (q : Names → Bool) (closed : Bool) (m : ℤ) (s : Series) (rest : List Row)
    → filter (λ (row : Row). q row.labels) (cons_option (option_map unstamped (newest_row closed m s)) rest)
    ≡ cond (q s.0) (cons_option (option_map unstamped (newest_row closed m s)) (filter (λ (row : Row). q row.labels) rest)) (filter (λ (row : Row). q row.labels) rest)
row_keeps q closed m s rest = by (newest closed m s.1)
  where
    by : (o : Option (Ms × XFrac)) → filter (λ (row : Row). q row.labels) (cons_option (option_map unstamped (option_map (λ (x : Ms × XFrac). record { labels = s.0; at = x.0; value = x.1 }) o)) rest)
        ≡ cond (q s.0) (cons_option (option_map unstamped (option_map (λ (x : Ms × XFrac). record { labels = s.0; at = x.0; value = x.1 }) o)) (filter (λ (row : Row). q row.labels) rest))
        (filter (λ (row : Row). q row.labels) rest)
    by None = nothing_kept (q s.0) (filter (λ (row : Row). q row.labels) rest)
    by (Some x) = refl

window_keeps : (q : Names → Bool) (closed : Bool) (m range : ℤ) (s : Series) (rest : List WindowRow)
    → filter (λ (row : WindowRow). q row.labels) (cons_option (series_window closed m range s) rest)
    ≡ cond (q s.0) (cons_option (series_window closed m range s) (filter (λ (row : WindowRow). q row.labels) rest)) (filter (λ (row : WindowRow). q row.labels) rest)
window_keeps q closed m range s rest = by (window closed m range s.1)
  where
    by : (samples : List (Ms × XFrac)) → filter (λ (row : WindowRow). q row.labels) (cons_option (window_row s.0 samples) rest)
        ≡ cond (q s.0) (cons_option (window_row s.0 samples) (filter (λ (row : WindowRow). q row.labels) rest)) (filter (λ (row : WindowRow). q row.labels) rest)
    by [] = nothing_kept (q s.0) (filter (λ (row : WindowRow). q row.labels) rest)
    by (x ∷ samples) = refl

unstamped_rows : (closed : Bool) (m : ℤ) (series : AllSeries) → map unstamped (newest_rows closed m series) ≡ filter_map (λ (s : Series). option_map unstamped (newest_row closed m s)) series
unstamped_rows closed m [] = refl
unstamped_rows closed m (s ∷ series) = by (newest closed m s.1) (unstamped_rows closed m series)
  where
    by : (o : Option (Ms × XFrac)) → map unstamped (newest_rows closed m series) ≡ filter_map (λ (x : Series). option_map unstamped (newest_row closed m x)) series
        → map unstamped (cons_option (option_map (λ (x : Ms × XFrac). record { labels = s.0; at = x.0; value = x.1 }) o) (newest_rows closed m series))
        ≡ cons_option (option_map unstamped (option_map (λ (x : Ms × XFrac). record { labels = s.0; at = x.0; value = x.1 }) o)) (filter_map (λ (x : Series). option_map unstamped (newest_row closed m x)) series)
    by None rest = rest
    by (Some x) rest = ap (λ rows. record { labels = s.0; value = x.1 } ∷ rows) rest

-- ---- selectors

module _ (samples : AllSeries) (kept : List (Bool × List ℕ)) (rules more : List Rule) where
  passing_more : passing samples kept (rules ++ more) ≡ filter (λ (s : Series). labels_pass kept more s.0) (passing samples kept rules)
  passing_more =
      both_filtered (λ (s : Series). labels_pass kept rules s.0) (λ (s : Series). labels_pass kept more s.0) (λ (s : Series). labels_pass kept (rules ++ more) s.0)
      (λ s. list_all-append (λ (rule : Rule). kind_passes kept rule.kind (value_of s.0 rule.label)) rules more) (by_labels samples)

pub rows_filtered : MoreRulesFilterRows
rows_filtered samples kept rules more closed m =
    unstamped_rows closed m (passing samples kept (rules ++ more)) ∙ ap (filter_map (λ (s : Series). option_map unstamped (newest_row closed m s))) (passing_more samples kept rules more)
    ∙ made_filtered (labels_pass kept more) (λ (row : Row). row.labels) (λ (s : Series). option_map unstamped (newest_row closed m s)) (row_keeps (labels_pass kept more) closed m) (passing samples kept rules)
    ∙ ap (filter (λ (row : Row). labels_pass kept more row.labels)) (sym (unstamped_rows closed m (passing samples kept rules)))

pub windows_filtered : MoreRulesFilterWindows
windows_filtered samples kept rules more closed m range =
    ap (filter_map (series_window closed m range)) (passing_more samples kept rules more)
    ∙ made_filtered (labels_pass kept more) (λ (row : WindowRow). row.labels) (series_window closed m range) (window_keeps (labels_pass kept more) closed m range) (passing samples kept rules)
