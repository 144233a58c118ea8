-- Rows of windows, of which one is changed, or that become one more or fewer.
use Rattle.std.proofs.Common.{◌≡◌, ◌∙◌, ◌+◌, ◌<◌, ℕ, zero, suc, arith, Bool, true, false, List, [], ◌∷◌, ◌++◌, length, map, drop, slice_get, refl, sym, ap, subst, Some}
use Rattle.std.specs.Prelude.{ℤ, ◌<ℤ◌, ◌||◌, filter, cond, if◌then◌else◌, is_some, not}
use Rattle.std.specs.List.{AllByRecursion, IsDistinct, list_any, prefix_len}
use Rattle.std.specs.Map.{keys_of, lookup}
use Rattle.std.specs.Option.{option_map}
use Rattle.std.proofs.lemmas.List.{map-append}
use Rattle.std.proofs.lemmas.Map.Keys.{IsDistinct-head, IsDistinct-push, IsDistinct-tail}
use Rattle.indexmap.specs.IndexMap.{insert_entry, set_value_at}
use Rattle.label_set.specs.LabelEquality.{labels_decide, labels_eq}
use Rattle.label_set.specs.LabelOrder.{labels_eq_equivalence}
use Rattle.step_table.specs.Groups.{Names}
use Rattle.step_table.specs.declared.windows.WindowRow.{WindowRow}
use Rattle.ticks.specs.declared.moment.Ms.{Ms}
use Rattle.xfrac.specs.declared.value.XFrac.{XFrac}
use Rattle.step_batch.specs.Columns.{Columns, early, has_some}
use Rattle.step_batch.specs.LentWindows.{AreWindows, EndsBefore, IsWindow, TimesRise, behind, changed_at, columns_in, left_behind, lengthened, names_of, window_of, window_with, windows_of, with_sample}

abbrev Entry : Type 0
Entry = Names × Columns

never : true ≡ false → ⊥
never e = cc

-- ---- entries

-- a value that is written at a place
pub row_changed : (g : WindowRow → WindowRow) (es : List Entry) (i : ℕ) (p : Entry) (w : Columns) → slice_get es i ≡ Some p → ((m : Names) → window_of (m, w) ≡ g (window_of (m, p.1)))
    → windows_of (set_value_at es i w) ≡ changed_at g (windows_of es) i
row_changed g [] i p w h e = refl
row_changed g (x ∷ es) zero p w h e =
    let same : x ≡ p = cc in
    ap (λ (r : WindowRow). r ∷ windows_of es) (e x.0 ∙ ap (λ (z : Entry). g (window_of (x.0, z.1))) (sym same))
row_changed g (x ∷ es) (suc i) p w h e = ap (λ (r : List WindowRow). window_of x ∷ r) (row_changed g es i p w h e)

pub value_same : (es : List Entry) (i : ℕ) (p : Entry) (w : Columns) → slice_get es i ≡ Some p → w ≡ p.1 → set_value_at es i w ≡ es
value_same [] i p w h e = refl
value_same (x ∷ es) zero p w h e =
    let same : x ≡ p = cc in
    ap (λ (z : Columns). (x.0, z) ∷ es) (e ∙ ap (λ (z : Entry). z.1) (sym same))
value_same (x ∷ es) (suc i) p w h e = ap (λ (r : List Entry). x ∷ r) (value_same es i p w h e)

pub keys_are : (es : List Entry) → names_of (windows_of es) ≡ keys_of es
keys_are [] = refl
keys_are (e ∷ es) = ap (λ (r : List Names). e.0 ∷ r) (keys_are es)

pub labels_there : (es : List Entry) (i : ℕ) → option_map (λ (w : WindowRow). w.labels) (slice_get (windows_of es) i) ≡ slice_get (keys_of es) i
labels_there [] i = refl
labels_there (e ∷ es) zero = refl
labels_there (e ∷ es) (suc i) = labels_there es i

-- new labels go last
entry_last : (es : List Entry) (k : Names) (v : Columns) → list_any (labels_eq k) (keys_of es) ≡ false → insert_entry labels_eq es k v ≡ es ++ (k, v) ∷ []
entry_last [] k v h = refl
entry_last (e ∷ es) k v h =
    elim (labels_eq k e.0) as (λ b. (b || list_any (labels_eq k) (keys_of es)) ≡ false → (if b then (e.0, v) ∷ es else e ∷ insert_entry labels_eq es k v) ≡ e ∷ (es ++ (k, v) ∷ [])) [
      | true ↦ λ f. absurd (never f)
      | false ↦ λ f. ap (λ (r : List Entry). e ∷ r) (entry_last es k v f)
    ] h

pub row_last : (es now : List Entry) (k : Names) (v : Columns) (names : Names) (times : List Ms) (values : List XFrac) → now ≡ insert_entry labels_eq es k v → k ≡ names → v ≡ record { times = times; values = values }
    → list_any (labels_eq names) (names_of (windows_of es)) ≡ false → windows_of now ≡ windows_of es ++ window_with names times values ∷ []
row_last es now k v names times values e f g h =
    let free : list_any (labels_eq k) (keys_of es) ≡ false = subst (λ (z : Names). list_any (labels_eq z) (keys_of es) ≡ false) (sym f) (subst (λ (z : List Names). list_any (labels_eq names) z ≡ false) (keys_are es) h) in
    ap windows_of (e ∙ entry_last es k v free) ∙ map-append window_of es ((k, v) ∷ []) ∙ ap (λ (z : Names). windows_of es ++ window_of (z, v) ∷ []) f ∙ ap (λ (z : Columns). windows_of es ++ window_of (names, z) ∷ []) g

place_last : (t : Names → Bool) (ks : List Names) → list_any t ks ≡ false → prefix_len (λ x. not (t x)) ks ≡ length ks
place_last t [] h = refl
place_last t (k ∷ ks) h =
    elim (t k) as (λ b. (b || list_any t ks) ≡ false → cond (not b) (1 + prefix_len (λ x. not (t x)) ks) 0 ≡ suc (length ks)) [
      | true ↦ λ f. absurd (never f)
      | false ↦ λ f. let e = place_last t ks f in omega arith
    ] h

keys_length : (es : List Entry) → length (keys_of es) ≡ length (windows_of es)
keys_length [] = refl
keys_length (e ∷ es) = ap suc (keys_length es)

pub place_is_last : (es : List Entry) (k names : Names) (i : ℕ) → i ≡ prefix_len (λ x. not (labels_eq k x)) (keys_of es) → k ≡ names → list_any (labels_eq names) (names_of (windows_of es)) ≡ false → i ≡ length (windows_of es)
place_is_last es k names i e f h =
    let free : list_any (labels_eq k) (keys_of es) ≡ false = subst (λ (z : Names). list_any (labels_eq z) (keys_of es) ≡ false) (sym f) (subst (λ (z : List Names). list_any (labels_eq names) z ≡ false) (keys_are es) h) in
    e ∙ place_last (labels_eq k) (keys_of es) free ∙ keys_length es

none_found : (t : Names → Bool) (es : List Entry) → false ≡ is_some (lookup t es) → list_any t (keys_of es) ≡ false
none_found t [] h = refl
none_found t (e ∷ es) h =
    elim (t e.0) as (λ b. false ≡ is_some (cond b (Some e.1) (lookup t es)) → (b || list_any t (keys_of es)) ≡ false) [
      | true ↦ λ f. absurd (never (sym f))
      | false ↦ λ f. none_found t es f
    ] h

pub labels_free : (names : Names) (es : List Entry) → false ≡ is_some (lookup (labels_eq names) es) → list_any (labels_eq names) (names_of (windows_of es)) ≡ false
labels_free names es h = subst (λ (z : List Names). list_any (labels_eq names) z ≡ false) (sym (keys_are es)) (none_found (labels_eq names) es h)

-- ---- a sample more

itself : (n : Names) → labels_eq n n ≡ true
itself n = (labels_decide n n (labels_eq n n) refl).1 refl

pub sample_last : (rows : List WindowRow) (names : Names) (at : Ms) (value : XFrac) → list_any (labels_eq names) (names_of rows) ≡ false → with_sample rows names at value ≡ rows ++ window_with names (at ∷ []) (value ∷ []) ∷ []
sample_last [] names at value h = refl
sample_last (w ∷ rows) names at value h =
    elim (labels_eq names w.labels) as (λ b. (b || list_any (labels_eq names) (names_of rows)) ≡ false → (if b then lengthened at value w ∷ rows else w ∷ with_sample rows names at value) ≡ w ∷ (rows ++ window_with names (at ∷ []) (value ∷ []) ∷ [])) [
      | true ↦ λ f. absurd (never f)
      | false ↦ λ f. ap (λ (r : List WindowRow). w ∷ r) (sample_last rows names at value f)
    ] h

other_at : (l n : Names) (ks : List Names) (i : ℕ) → AllByRecursion (λ y. labels_eq l y ≡ false) ks → slice_get ks i ≡ Some n → labels_eq n l ≡ false
other_at l n [] i a h = absurd (cc)
other_at l n (k ∷ ks) zero a h = let same : k ≡ n = cc in labels_eq_equivalence.symm n l ∙ ap (labels_eq l) (sym same) ∙ a.0
other_at l n (k ∷ ks) (suc i) a h = other_at l n ks i a.1 h

pub sample_there : (es : List Entry) (names : Names) (i : ℕ) (at : Ms) (value : XFrac) → IsDistinct labels_eq (keys_of es) → slice_get (keys_of es) i ≡ Some names
    → with_sample (windows_of es) names at value ≡ changed_at (lengthened at value) (windows_of es) i
sample_there [] names i at value d h = absurd (cc)
sample_there (e ∷ es) names zero at value d h =
    let same : e.0 ≡ names = cc in
    let hit : labels_eq names e.0 ≡ true = ap (labels_eq names) same ∙ itself names in
    rw hit refl
sample_there (e ∷ es) names (suc i) at value d h =
    let miss : labels_eq names e.0 ≡ false = other_at e.0 names (keys_of es) i (IsDistinct-head labels_eq e.0 (keys_of es) d) h in
    rw miss (ap (λ (r : List WindowRow). window_of e ∷ r) (sample_there es names i at value (IsDistinct-tail labels_eq e.0 (keys_of es) d) h))

pub labels_kept : (rows : List WindowRow) (i : ℕ) (at : Ms) (value : XFrac) → option_map (λ (w : WindowRow). w.labels) (slice_get (changed_at (lengthened at value) rows i) i) ≡ option_map (λ (w : WindowRow). w.labels) (slice_get rows i)
labels_kept [] i at value = refl
labels_kept (w ∷ rows) zero at value = refl
labels_kept (w ∷ rows) (suc i) at value = labels_kept rows i at value

pub last_there : (rows : List WindowRow) (w : WindowRow) (i : ℕ) → i ≡ length rows → slice_get (rows ++ w ∷ []) i ≡ Some w
last_there [] w zero e = refl
last_there [] w (suc i) e = absurd (omega arith)
last_there (x ∷ rows) w zero e = absurd (omega arith)
last_there (x ∷ rows) w (suc i) e = last_there rows w i (omega arith)

-- ---- windows stay windows

length_more : {A : Type 0} (xs : List A) (x : A) → length (xs ++ x ∷ []) ≡ length xs + 1
length_more [] x = omega arith
length_more (y ∷ xs) x = let h = length_more xs x in omega arith

rise_more : (ts : List Ms) (at : Ms) → TimesRise ts → AllByRecursion (λ (t : Ms). t.0 <ℤ at.0) ts → TimesRise (ts ++ at ∷ [])
rise_more [] at r b = tt
rise_more (t ∷ []) at r b = (b.0, tt)
rise_more (t ∷ u ∷ ts) at r b = (r.0, rise_more (u ∷ ts) at r.1 b.1)

longer_is_window : (w : WindowRow) (at : Ms) (value : XFrac) → IsWindow w → EndsBefore at w → IsWindow (lengthened at value w)
longer_is_window w at value i b =
    let t = length_more w.times at in
    let v = length_more w.values value in
    let s = i.same in
    record { same = omega arith; some = omega arith; rising = rise_more w.times at i.rising b }

one_is_window : (names : Names) (at : Ms) (value : XFrac) → IsWindow (window_with names (at ∷ []) (value ∷ []))
one_is_window names at value = record { same = refl; some = omega arith; rising = tt }

each_changed : (rows : List WindowRow) (i : ℕ) (at : Ms) (value : XFrac) → AllByRecursion IsWindow rows → ((w : WindowRow) → slice_get rows i ≡ Some w → EndsBefore at w) → AllByRecursion IsWindow (changed_at (lengthened at value) rows i)
each_changed [] i at value a b = tt
each_changed (w ∷ rows) zero at value a b = (longer_is_window w at value a.0 (b w refl), a.1)
each_changed (w ∷ rows) (suc i) at value a b = (a.0, each_changed rows i at value a.1 b)

names_changed : (rows : List WindowRow) (i : ℕ) (at : Ms) (value : XFrac) → names_of (changed_at (lengthened at value) rows i) ≡ names_of rows
names_changed [] i at value = refl
names_changed (w ∷ rows) zero at value = refl
names_changed (w ∷ rows) (suc i) at value = ap (λ (r : List Names). w.labels ∷ r) (names_changed rows i at value)

pub windows_lengthened : (rows now : List WindowRow) (i : ℕ) (at : Ms) (value : XFrac) → AreWindows rows → now ≡ changed_at (lengthened at value) rows i → ((w : WindowRow) → slice_get rows i ≡ Some w → EndsBefore at w) → AreWindows now
windows_lengthened rows now i at value a e b = subst AreWindows (sym e) (record {
  distinct = subst (IsDistinct labels_eq) (sym (names_changed rows i at value)) a.distinct;
  each = each_changed rows i at value a.each b;
})

each_sample : (rows : List WindowRow) (names : Names) (at : Ms) (value : XFrac) → AllByRecursion IsWindow rows → ((i : ℕ) (w : WindowRow) → slice_get rows i ≡ Some w → w.labels ≡ names → EndsBefore at w) → AllByRecursion IsWindow (with_sample rows names at value)
each_sample [] names at value a b = (one_is_window names at value, tt)
each_sample (w ∷ rows) names at value a b =
    elim (labels_eq names w.labels) as (λ c. labels_eq names w.labels ≡ c → AllByRecursion IsWindow (if c then lengthened at value w ∷ rows else w ∷ with_sample rows names at value)) [
      | true ↦ λ h. (longer_is_window w at value a.0 (b 0 w refl (sym ((labels_decide names w.labels (labels_eq names w.labels) refl).0 h))), a.1)
      | false ↦ λ h. (a.0, each_sample rows names at value a.1 (λ i. b (suc i)))
    ] refl

names_sample : (rows : List WindowRow) (names : Names) (at : Ms) (value : XFrac) → names_of (with_sample rows names at value) ≡ (if list_any (labels_eq names) (names_of rows) then names_of rows else names_of rows ++ names ∷ [])
names_sample [] names at value = refl
names_sample (w ∷ rows) names at value =
    elim (labels_eq names w.labels) as (λ b. names_of (if b then lengthened at value w ∷ rows else w ∷ with_sample rows names at value) ≡ (if b || list_any (labels_eq names) (names_of rows) then w.labels ∷ names_of rows else w.labels ∷ (names_of rows ++ names ∷ []))) [
      | true ↦ refl
      | false ↦ ap (λ (r : List Names). w.labels ∷ r) (names_sample rows names at value) ∙ inner (list_any (labels_eq names) (names_of rows))
    ]
  where
    inner : (b : Bool) → w.labels ∷ (if b then names_of rows else names_of rows ++ names ∷ []) ≡ (if b then w.labels ∷ names_of rows else w.labels ∷ (names_of rows ++ names ∷ []))
    inner true = refl
    inner false = refl

distinct_more : (ks : List Names) (k : Names) → IsDistinct labels_eq ks → IsDistinct labels_eq (if list_any (labels_eq k) ks then ks else ks ++ k ∷ [])
distinct_more ks k d = elim (list_any (labels_eq k) ks) as (λ b. list_any (labels_eq k) ks ≡ b → IsDistinct labels_eq (if b then ks else ks ++ k ∷ [])) [
  | true ↦ λ h. d
  | false ↦ λ h. IsDistinct-push labels_eq_equivalence ks k d h
] refl

pub windows_sampled : (rows now : List WindowRow) (names : Names) (at : Ms) (value : XFrac) → AreWindows rows → now ≡ with_sample rows names at value → ((i : ℕ) (w : WindowRow) → slice_get rows i ≡ Some w → w.labels ≡ names → EndsBefore at w) → AreWindows now
windows_sampled rows now names at value a e b = subst AreWindows (sym e) (record {
  distinct = subst (IsDistinct labels_eq) (sym (names_sample rows names at value)) (distinct_more (names_of rows) names a.distinct);
  each = each_sample rows names at value a.each b;
})

each_more : (rows : List WindowRow) (w : WindowRow) → AllByRecursion IsWindow rows → IsWindow w → AllByRecursion IsWindow (rows ++ w ∷ [])
each_more [] w a i = (i, tt)
each_more (x ∷ rows) w a i = (a.0, each_more rows w a.1 i)

pub window_more : (rows now : List WindowRow) (w : WindowRow) → AreWindows rows → IsWindow w → list_any (labels_eq w.labels) (names_of rows) ≡ false → now ≡ rows ++ w ∷ [] → AreWindows now
window_more rows now w a i n e = subst AreWindows (sym e) (record {
  distinct = subst (IsDistinct labels_eq) (sym (map-append (λ (x : WindowRow). x.labels) rows (w ∷ []))) (IsDistinct-push labels_eq_equivalence (names_of rows) w.labels a.distinct n);
  each = each_more rows w a.each i;
})

-- ---- samples that are let go

-- the rows in front are changed
abbrev pub changed_front : {A : Type 0} → (A → A) → ℕ → List A → List A
changed_front g zero rows = rows
changed_front g (suc i) [] = []
changed_front g (suc i) (w ∷ rows) = g w ∷ changed_front g i rows

front_step : {A : Type 0} (g : A → A) (i : ℕ) (rows : List A) → changed_at g (changed_front g i rows) i ≡ changed_front g (suc i) rows
front_step g zero [] = refl
front_step g zero (w ∷ rows) = refl
front_step g (suc i) [] = refl
front_step g (suc i) (w ∷ rows) = ap (λ r. g w ∷ r) (front_step g i rows)

pub front_next : {A : Type 0} (g : A → A) (i : ℕ) (rows : List A) → changed_at g (changed_front g i rows) i ≡ changed_front g (i + 1) rows
front_next g i rows = let next : i + 1 ≡ suc i = omega arith in front_step g i rows ∙ ap (λ (k : ℕ). changed_front g k rows) (sym next)

pub front_length : {A : Type 0} (g : A → A) (i : ℕ) (rows : List A) → length (changed_front g i rows) ≡ length rows
front_length g zero rows = refl
front_length g (suc i) [] = refl
front_length g (suc i) (w ∷ rows) = ap suc (front_length g i rows)

pub front_whole : {A : Type 0} (g : A → A) (i : ℕ) (rows : List A) → i ≡ length rows → changed_front g i rows ≡ map g rows
front_whole g zero [] e = refl
front_whole g zero (w ∷ rows) e = absurd (omega arith)
front_whole g (suc i) [] e = absurd (omega arith)
front_whole g (suc i) (w ∷ rows) e = ap (λ r. g w ∷ r) (front_whole g i rows (omega arith))

-- windows that are left out
pub windows_left : (es : List Entry) → windows_of (filter (λ (e : Entry). has_some e.1) es) ≡ filter (λ (w : WindowRow). has_some (columns_in w)) (windows_of es)
windows_left [] = refl
windows_left (e ∷ es) =
    elim (has_some e.1) as (λ b. windows_of (cond b (e ∷ filter (λ (x : Entry). has_some x.1) es) (filter (λ (x : Entry). has_some x.1) es)) ≡ cond b (window_of e ∷ filter (λ (w : WindowRow). has_some (columns_in w)) (windows_of es)) (filter (λ (w : WindowRow). has_some (columns_in w)) (windows_of es))) [
      | true ↦ ap (λ (r : List WindowRow). window_of e ∷ r) (windows_left es)
      | false ↦ windows_left es
    ]

rise_tail : (t : Ms) (ts : List Ms) → TimesRise (t ∷ ts) → TimesRise ts
rise_tail t [] r = tt
rise_tail t (u ∷ ts) r = r.1

rise_drop : (n : ℕ) (ts : List Ms) → TimesRise ts → TimesRise (drop n ts)
rise_drop zero ts r = r
rise_drop (suc n) [] r = tt
rise_drop (suc n) (t ∷ ts) r = rise_drop n ts (rise_tail t ts r)

same_drop : (n : ℕ) (ts : List Ms) (vs : List XFrac) → length ts ≡ length vs → length (drop n ts) ≡ length (drop n vs)
same_drop zero ts vs e = e
same_drop (suc n) [] [] e = refl
same_drop (suc n) [] (v ∷ vs) e = absurd (omega arith)
same_drop (suc n) (t ∷ ts) [] e = absurd (omega arith)
same_drop (suc n) (t ∷ ts) (v ∷ vs) e = same_drop n ts vs (omega arith)

some_there : (times : List Ms) (values : List XFrac) → has_some (record { times = times; values = values }) ≡ true → 0 < length times
some_there [] values h = absurd (never (sym h))
some_there (t ∷ times) values h = omega arith

left_is_window : (edge : ℤ) (w : WindowRow) → IsWindow w → has_some (columns_in (left_behind edge w)) ≡ true → IsWindow (left_behind edge w)
left_is_window edge w i h =
    let n = early edge w.times in
    record { same = same_drop n w.times w.values i.same; some = some_there (drop n w.times) (drop n w.values) h; rising = rise_drop n w.times i.rising }

each_left : (edge : ℤ) (rows : List WindowRow) → AllByRecursion IsWindow rows → AllByRecursion IsWindow (behind edge rows)
each_left edge [] a = tt
each_left edge (w ∷ rows) a =
    elim (has_some (columns_in (left_behind edge w))) as (λ b. has_some (columns_in (left_behind edge w)) ≡ b → AllByRecursion IsWindow (cond b (left_behind edge w ∷ behind edge rows) (behind edge rows))) [
      | true ↦ λ h. (left_is_window edge w a.0 h, each_left edge rows a.1)
      | false ↦ λ h. each_left edge rows a.1
    ] refl

pub windows_behind : (rows : List WindowRow) (es : List Entry) (edge : ℤ) → AreWindows rows → windows_of es ≡ behind edge rows → IsDistinct labels_eq (keys_of es) → AreWindows (windows_of es)
windows_behind rows es edge a e d = record {
  distinct = subst (IsDistinct labels_eq) (sym (keys_are es)) d;
  each = subst (AllByRecursion IsWindow) (sym e) (each_left edge rows a.each);
}

pub windows_length : (es : List Entry) → length (windows_of es) ≡ length es
windows_length [] = refl
windows_length (e ∷ es) = ap suc (windows_length es)
