-- Windows whose labels pass a filter.
use Rattle.std.proofs.Common.{◌≡◌, ◌∙◌, ◌+◌, ◌≤◌, ℕ, zero, suc, arith, Bool, true, false, cond, List, [], ◌∷◌, ◌++◌, length, get_or, slice_get, take, map, refl, sym, ap, subst, Some}
use Rattle.std.specs.Prelude.{◌||◌}
use Rattle.std.specs.List.{AllByRecursion, IsDistinct, list_any}
use Rattle.std.specs.Option.{option_map}
use Rattle.std.proofs.lemmas.List.{append_assoc, append-nil}
use Rattle.std.proofs.lemmas.Map.Keys.{IsDistinct-head, IsDistinct-tail}
use Rattle.label_set.specs.LabelEquality.{labels_eq}
use Rattle.label_set.specs.LabelOrder.{labels_eq_equivalence}
use Rattle.label_set.specs.declared.rules.Relabel.TheVariants.{Filter}
use Rattle.label_set.specs.declared.rules.Rule.{Rule}
use Rattle.match_rule.specs.Patterns.{labels_pass}
use Rattle.promql_meaning.specs.Filters.{passing_windows}
use Rattle.step_batch.specs.LentWindows.{IsWindow, WindowsAt, names_of, window_with, with_more_marks}
use Rattle.step_batch.specs.Lent.{no_marks}
use Rattle.step_put.specs.Feeding.{whole}
use Rattle.step_table.specs.Groups.{Names}
use Rattle.step_table.specs.declared.marks.Marks.{Marks}
use Rattle.step_table.specs.declared.windows.WindowRow.{WindowRow}
use Rattle.ticks.specs.declared.moment.Ms.{Ms}
use Rattle.xfrac.specs.declared.value.XFrac.{XFrac}
use Rattle.op_labels.specs.Rules.{Kept, fate_by, filtered_windows, staying, windows_staying}
use Rattle.op_labels.specs.declared.change.Fate.{Fate}
use Rattle.op_labels.specs.declared.change.Fate.TheVariants.{Stays, Beyond, Out}

-- ---- the window at a place

pub window_named : (rows : List WindowRow) (i : ℕ) (names : Names) → option_map (λ (w : WindowRow). w.labels) (slice_get rows i) ≡ Some names → names ≡ get_or (names_of rows) i names
window_named [] i names e = absurd (cc)
window_named (x ∷ rows) zero names e = let same : x.labels ≡ names = cc in sym same
window_named (x ∷ rows) (suc i) names e = window_named rows i names e

pub named_at : (rows : List WindowRow) (i : ℕ) (w : WindowRow) (names : Names) → slice_get rows i ≡ Some w → option_map (λ (x : WindowRow). x.labels) (slice_get rows i) ≡ Some names → w.labels ≡ names
named_at [] i w names e l = absurd (cc)
named_at (x ∷ rows) zero w names e l =
    let same : x ≡ w = cc in
    let labels : x.labels ≡ names = cc in
    ap (λ (z : WindowRow). z.labels) (sym same) ∙ labels
named_at (x ∷ rows) (suc i) w names e l = named_at rows i w names e l

pub window_is : (rows : List WindowRow) (i : ℕ) (w : WindowRow) (names : Names) (times : List Ms) (values : List XFrac) → slice_get rows i ≡ Some w
    → option_map (λ (x : WindowRow). x.labels) (slice_get rows i) ≡ Some names → option_map (λ (x : WindowRow). x.times) (slice_get rows i) ≡ Some times → option_map (λ (x : WindowRow). x.values) (slice_get rows i) ≡ Some values
    → window_with names times values ≡ w
window_is [] i w names times values e l t v = absurd (cc)
window_is (x ∷ rows) zero w names times values e l t v =
    let labels : x.labels ≡ names = cc in
    let ends : x.times ≡ times = cc in
    let numbers : x.values ≡ values = cc in
    let same : x ≡ w = cc in
    (λ j. window_with (sym labels j) (sym ends j) (sym numbers j)) ∙ same
window_is (x ∷ rows) (suc i) w names times values e l t v = window_is rows i w names times values e l t v

pub as_many : (rows : List WindowRow) (i : ℕ) (times : List Ms) (values : List XFrac) → AllByRecursion IsWindow rows → option_map (λ (x : WindowRow). x.times) (slice_get rows i) ≡ Some times → option_map (λ (x : WindowRow). x.values) (slice_get rows i) ≡ Some values
    → length times ≡ length values
as_many [] i times values a t v = absurd (cc)
as_many (x ∷ rows) zero times values a t v =
    let ends : x.times ≡ times = cc in
    let numbers : x.values ≡ values = cc in
    sym (ap length ends) ∙ a.0.same ∙ ap length numbers
as_many (x ∷ rows) (suc i) times values a t v = as_many rows i times values a.1 t v

-- ---- windows that stay

apart_at : (names : Names) (rows : List WindowRow) (i : ℕ) (w : WindowRow) → AllByRecursion (λ (y : Names). labels_eq names y ≡ false) (names_of rows) → slice_get rows i ≡ Some w → labels_eq w.labels names ≡ false
apart_at names [] i w a e = absurd (cc)
apart_at names (x ∷ rows) zero w a e = let same : x ≡ w = cc in labels_eq_equivalence.symm w.labels names ∙ ap (λ (z : WindowRow). labels_eq names z.labels) (sym same) ∙ a.0
apart_at names (x ∷ rows) (suc i) w a e = apart_at names rows i w a.1 e

-- no window before a place has its labels
pub fresh_at : (fates : List Fate) (rows : List WindowRow) (i : ℕ) (w : WindowRow) → IsDistinct labels_eq (names_of rows) → slice_get rows i ≡ Some w → list_any (labels_eq w.labels) (names_of (windows_staying (take i fates) (take i rows))) ≡ false
fresh_at fates [] i w d e = absurd (cc)
fresh_at fates (x ∷ rows) zero w d e = refl
fresh_at [] (x ∷ rows) (suc i) w d e = refl
fresh_at (fate ∷ fates) (x ∷ rows) (suc i) w d e =
    by fate (windows_staying (take i fates) (take i rows)) (apart_at x.labels rows i w (IsDistinct-head labels_eq x.labels (names_of rows) d) e) (fresh_at fates rows i w (IsDistinct-tail labels_eq x.labels (names_of rows) d) e)
  where
    by : (fate : Fate) (before : List WindowRow) → labels_eq w.labels x.labels ≡ false → list_any (labels_eq w.labels) (names_of before) ≡ false → list_any (labels_eq w.labels) (names_of (staying fate x ++ before)) ≡ false
    by Stays before apart rest = ap (λ (b : Bool). b || list_any (labels_eq w.labels) (names_of before)) apart ∙ rest
    by Beyond before apart rest = rest
    by Out before apart rest = rest

-- one window more
staying_more : (fates : List Fate) (rows : List WindowRow) (i : ℕ) (fate : Fate) (w : WindowRow) → slice_get fates i ≡ Some fate → slice_get rows i ≡ Some w
    → windows_staying (take (i + 1) fates) (take (i + 1) rows) ≡ windows_staying (take i fates) (take i rows) ++ staying fate w
staying_more [] rows i fate w f e = absurd (cc)
staying_more (g ∷ fates) [] i fate w f e = absurd (cc)
staying_more (g ∷ fates) (x ∷ rows) zero fate w f e =
    let same : g ≡ fate = cc in
    let alike : x ≡ w = cc in
    append-nil (staying g x) ∙ (λ j. staying (same j) (alike j))
staying_more (g ∷ fates) (x ∷ rows) (suc i) fate w f e =
    let n : suc i + 1 ≡ suc (i + 1) = omega arith in
    rw n (ap (λ (r : List WindowRow). staying g x ++ r) (staying_more fates rows i fate w f e) ∙ sym (append_assoc (staying g x) (windows_staying (take i fates) (take i rows)) (staying fate w)))

-- the windows that stayed up to a place, with an instant and marks
abbrev pub stayed : ℕ → List Fate → WindowsAt → WindowsAt
stayed i fates windows = record { at = windows.at; rows = windows_staying (take i fates) (take i windows.rows); marks = windows.marks }

pub begun : (fates : List Fate) (windows old new : WindowsAt) (at : Ms) (marks : Marks) → old ≡ record { at = at; rows = []; marks = no_marks } → at ≡ windows.at → marks ≡ windows.marks → new ≡ with_more_marks old marks → new ≡ stayed 0 fates windows
begun fates windows old new at marks o a m n =
    n ∙ ap (λ (z : WindowsAt). with_more_marks z marks) o ∙ (λ j. record { at = a j; rows = []; marks = m j })

pub stayed_more : (fates : List Fate) (windows old new : WindowsAt) (i : ℕ) (fate : Fate) (w : WindowRow) → slice_get fates i ≡ Some fate → slice_get windows.rows i ≡ Some w → old ≡ stayed i fates windows
    → new ≡ record { at = old.at; rows = old.rows ++ staying fate w; marks = old.marks } → new ≡ stayed (i + 1) fates windows
stayed_more fates windows old new i fate w f e o n =
    n ∙ ap (λ (z : WindowsAt). record { at = z.at; rows = z.rows ++ staying fate w; marks = z.marks }) o
    ∙ ap (λ (rows : List WindowRow). record { at = windows.at; rows = rows; marks = windows.marks }) (sym (staying_more fates windows.rows i fate w f e))

pub stayed_whole : (fates : List Fate) (windows : WindowsAt) (i : ℕ) → length windows.rows ≤ i → length fates ≤ i → stayed i fates windows ≡ record { at = windows.at; rows = windows_staying fates windows.rows; marks = windows.marks }
stayed_whole fates windows i l m j = record { at = windows.at; rows = windows_staying (whole fates i m j) (whole windows.rows i l j); marks = windows.marks }

-- ---- windows that pass

module _ (kept : Kept) (rules : List Rule) where
  -- the windows whose labels stay under a filter are those that pass it
  pub staying_pass : (rows : List WindowRow) → windows_staying (map (fate_by kept (Filter rules)) (names_of rows)) rows ≡ passing_windows kept rules rows
  staying_pass [] = refl
  staying_pass (w ∷ rows) =
      by (labels_pass kept rules w.labels) (windows_staying (map (fate_by kept (Filter rules)) (names_of rows)) rows)
      ∙ ap (λ (r : List WindowRow). cond (labels_pass kept rules w.labels) (w ∷ r) r) (staying_pass rows)
    where
      by : (b : Bool) (rest : List WindowRow) → staying (cond {A = Names × Fate} b (w.labels, Stays) ([], Out)).1 w ++ rest ≡ cond b (w ∷ rest) rest
      by true rest = refl
      by false rest = refl

  pub filter_passes : (fates : List Fate) (windows new : WindowsAt) → fates ≡ map (fate_by kept (Filter rules)) (names_of windows.rows) → new ≡ record { at = windows.at; rows = windows_staying fates windows.rows; marks = windows.marks }
      → new ≡ filtered_windows kept rules windows
  filter_passes fates windows new f n =
      n ∙ ap (λ (rows : List WindowRow). record { at = windows.at; rows = rows; marks = windows.marks }) (ap (λ (z : List Fate). windows_staying z windows.rows) f ∙ staying_pass windows.rows)
