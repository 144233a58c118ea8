-- Where the samples of a load stand once they are put.
use Rattle.std.proofs.Common.{◌≡◌, ℕ, zero, suc, ◌+◌, Bool, true, false, cond, List, [], ◌∷◌, Option, None, Some, Result, Ok, Err, refl, sym, ap, subst, ◌∙◌, arith, ◌⊎◌, inl, inr, ⊎_elim, zero-add, slice_get}
use Rattle.std.specs.Prelude.{ℤ, pos, ◌*ℤ◌, ◌↔◌}
use Rattle.std.specs.BTreeMap.{insert_entry, is_at}
use Rattle.std.specs.Cmp.{IsTotalOrder, tied_itself}
use Rattle.std.specs.Map.{lookup}
use Rattle.std.specs.Ordering.{is_eq}
use Rattle.std.specs.declared.cmp.Ordering.{Ordering}
use Rattle.std.specs.declared.cmp.Ordering.TheVariants.{Less, Equal, Greater}
use Rattle.label_set.specs.LabelOrder.{labels_cmp_total, labels_cmp_ties}
use Rattle.label_set.specs.Labels.{labels_cmp}
use Rattle.sample_store.specs.Samples.{AllSeries, Samples, held_in, is_same, limit_broken, refusal_beside, refusal_of, samples_of, time_cmp, with_sample}
use Rattle.sample_store.specs.declared.refusal.StoreRefusal.{StoreRefusal}
use Rattle.sample_store.specs.declared.refusal.StoreRefusal.TheVariants.{Conflict}
use Rattle.sample_store.specs.Laws.{held_same, others_now, samples_now, time_cmp_total, time_cmp_ties}
use Rattle.ticks.specs.declared.moment.Ms.{Ms}
use Rattle.xfrac.specs.declared.value.Held.{Held}
use Rattle.test_runner.specs.Loads.{IsSaid, Slot, Empty, Filled, Outside, Stands, is_beyond, items_put, line_put, lines_put, left_by, left_by_all, samples_left, is_placed, line_slots, slot_put, slots_put, unless_refused}
use Rattle.script_read.specs.Outcomes.{then_try}
use Rattle.script_read.specs.Series.{LabelList}
use Rattle.test_runner.specs.declared.fault.LoadRefusal.TheVariants.{Unplaced}
use Rattle.test_runner.specs.declared.fault.RunnerFault.{RunnerFault}
use Rattle.test_runner.specs.declared.fault.RunnerFault.TheVariants.{Range, Refused}
use Rattle.script_read.specs.declared.script.Command.{Command}
use Rattle.script_read.specs.declared.script.Script.{Script}
use Rattle.script_read.specs.declared.script.SeriesLine.{SeriesLine}
use Rattle.script_read.specs.declared.script.What.{What}
use Rattle.script_read.specs.declared.script.What.TheVariants.{Clear, Load, Eval}

-- ---- entries by a key

module _ {K : Type 0} (cmp : K → K → Ordering) (total : IsTotalOrder cmp) (ties : (a b : K) → cmp a b ≡ Equal → a ≡ b) where
  itself : (k : K) → cmp k k ≡ Equal
  itself k = tied_itself total k

  -- keys are one, or they are told apart
  pub same_or_not : (a b : K) → (a ≡ b) ⊎ (a ≡ b → ⊥)
  same_or_not a b =
      elim (cmp a b) as (λ r. cmp a b ≡ r → (a ≡ b) ⊎ (a ≡ b → ⊥)) [
        | Equal ↦ λ h. inl (ties a b h)
        | Less ↦ λ h. inr (λ e. let t : cmp a b ≡ Equal = subst (λ (z : K). cmp a z ≡ Equal) e (itself a) in cc)
        | Greater ↦ λ h. inr (λ e. let t : cmp a b ≡ Equal = subst (λ (z : K). cmp a z ≡ Equal) e (itself a) in cc)
      ] refl

  apart : (a b : K) → (a ≡ b → ⊥) → is_at (cmp a) b ≡ false
  apart a b ne = elim (cmp a b) as (λ r. cmp a b ≡ r → is_eq r ≡ false) [ Equal ↦ λ h. absurd (ne (ties a b h)) | Less ↦ λ h. refl | Greater ↦ λ h. refl ] refl

  pub found_here : {X : Type 0} (es : List (K × X)) (k : K) (v : X) → lookup (is_at (cmp k)) (insert_entry cmp es k v) ≡ Some v
  found_here [] k v = rw (itself k) refl
  found_here (e ∷ es) k v =
      elim (cmp k e.0) as (λ r. cmp k e.0 ≡ r → lookup (is_at (cmp k)) (insert_entry cmp (e ∷ es) k v) ≡ Some v) [
        | Less ↦ λ h. rw (h, itself k) refl
        | Equal ↦ λ h. rw (h, h) refl
        | Greater ↦ λ h. rw (h, h) (found_here es k v)
      ] refl

  pub found_there : {X : Type 0} (es : List (K × X)) (k q : K) (v : X) → (k ≡ q → ⊥) → lookup (is_at (cmp q)) (insert_entry cmp es k v) ≡ lookup (is_at (cmp q)) es
  found_there [] k q v ne = rw (apart q k (λ e. ne (sym e))) refl
  found_there (e ∷ es) k q v ne =
      elim (cmp k e.0) as (λ r. cmp k e.0 ≡ r → lookup (is_at (cmp q)) (insert_entry cmp (e ∷ es) k v) ≡ lookup (is_at (cmp q)) (e ∷ es)) [
        | Less ↦ λ h. rw (h, apart q k (λ e. ne (sym e))) refl
        | Equal ↦ λ h. let off : is_at (cmp q) e.0 ≡ false = apart q e.0 (λ is. ne (ties k e.0 h ∙ sym is)) in rw (h, off) refl
        | Greater ↦ λ h. rw h (ap (cond (is_at (cmp q) e.0) (Some e.1)) (found_there es k q v ne))
      ] refl

-- ---- one sample

module _ (before : AllSeries) (labels : LabelList) (at : Ms) (held : Held) where
  abbrev now : AllSeries
  now = with_sample before labels at held

  pub put_stands : Stands now labels at held
  put_stands = ap (λ (samples : Samples). held_in samples at) (samples_now before labels at held) ∙ found_here time_cmp time_cmp_total time_cmp_ties (samples_of before labels) at held

  -- another sample stands as it did
  other_stands : (names : LabelList) (t : Ms) → ((labels ≡ names) × (at ≡ t) → ⊥) → held_in (samples_of now names) t ≡ held_in (samples_of before names) t
  other_stands names t ne = by (same_or_not labels_cmp labels_cmp_total labels_cmp_ties labels names)
    where
      by : (labels ≡ names) ⊎ (labels ≡ names → ⊥) → held_in (samples_of now names) t ≡ held_in (samples_of before names) t
      by (inl same) = subst (λ (n : LabelList). held_in (samples_of now n) t ≡ held_in (samples_of before n) t) same
          (ap (λ (samples : Samples). held_in samples t) (samples_now before labels at held) ∙ found_there time_cmp time_cmp_total time_cmp_ties (samples_of before labels) at t held (λ is. ne (same, is)))
      by (inr other) = ap (λ (samples : Samples). held_in samples t) (others_now before labels names at held other)

  -- what stood is what is put, where nothing is refused
  agrees : (broken : Option StoreRefusal) (kept : Held) → refusal_beside (Some kept) broken held ≡ None → kept ≡ held
  agrees broken kept taken =
      by (is_same kept held) refl taken
    where
      by : (b : Bool) → is_same kept held ≡ b → cond {A = Option StoreRefusal} b None (Some (Conflict kept held)) ≡ None → kept ≡ held
      by true h t = (held_same kept held).0 h
      by false h t = absurd (cc)

  pub stands_on : refusal_of before labels at held ≡ None → (names : LabelList) (t : Ms) (h : Held)
      → Stands now names t h ↔ (Stands before names t h ⊎ ((labels ≡ names) × (at ≡ t) × (held ≡ h)))
  stands_on taken names t h = (forth, back)
    where
      moved : (P : LabelList → Ms → Type 0) → labels ≡ names → at ≡ t → P labels at → P names t
      moved P l a p = subst (λ (u : Ms). P names u) a (subst (λ (n : LabelList). P n at) l p)

      both_or_not : (labels ≡ names) ⊎ (labels ≡ names → ⊥) → (at ≡ t) ⊎ (at ≡ t → ⊥) → ((labels ≡ names) × (at ≡ t)) ⊎ ((labels ≡ names) × (at ≡ t) → ⊥)
      both_or_not (inl l) (inl a) = inl (l, a)
      both_or_not (inl l) (inr differ) = inr (λ both. differ both.1)
      both_or_not (inr differ) a = inr (λ both. differ both.0)

      whether : ((labels ≡ names) × (at ≡ t)) ⊎ ((labels ≡ names) × (at ≡ t) → ⊥)
      whether = both_or_not (same_or_not labels_cmp labels_cmp_total labels_cmp_ties labels names) (same_or_not time_cmp time_cmp_total time_cmp_ties at t)

      -- what stands at the place of the sample is the sample
      here : labels ≡ names → at ≡ t → held_in (samples_of now names) t ≡ Some held
      here l a = moved (λ n u. held_in (samples_of now n) u ≡ Some held) l a put_stands

      kept-same : labels ≡ names → at ≡ t → Stands before names t h → h ≡ held
      kept-same l a stood =
          let R : LabelList → Ms → Type 0 = λ n u. refusal_of before n u held ≡ None in
          let P : Option Held → Type 0 = λ o. refusal_beside o (limit_broken before names) held ≡ None in
          agrees (limit_broken before names) h (subst P stood (moved R l a taken))

      forth : Stands now names t h → Stands before names t h ⊎ ((labels ≡ names) × (at ≡ t) × (held ≡ h))
      forth stands = by whether
        where
          by : ((labels ≡ names) × (at ≡ t)) ⊎ ((labels ≡ names) × (at ≡ t) → ⊥) → Stands before names t h ⊎ ((labels ≡ names) × (at ≡ t) × (held ≡ h))
          by (inl both) = let k = here both.0 both.1 in let e : held ≡ h = cc in inr (both.0, both.1, e)
          by (inr differ) = inl (sym (other_stands names t differ) ∙ stands)

      still : Stands before names t h → ((labels ≡ names) × (at ≡ t)) ⊎ ((labels ≡ names) × (at ≡ t) → ⊥) → Stands now names t h
      still stood (inl both) = here both.0 both.1 ∙ ap (λ (x : Held). Some x) (sym (kept-same both.0 both.1 stood))
      still stood (inr differ) = other_stands names t differ ∙ stood

      back : Stands before names t h ⊎ ((labels ≡ names) × (at ≡ t) × (held ≡ h)) → Stands now names t h
      back (inl stood) = still stood whether
      back (inr put) = here put.0 put.1 ∙ ap (λ (x : Held). Some x) put.2

-- ---- slots

module _ (line : ℕ) (labels : LabelList) (interval : Ms) where
  -- slots from a place on say that a sample stands at a time
  pub record IsSaidFrom (start : ℕ) (slots : List Slot) (names : LabelList) (t : Ms) (h : Held) : Type 0 where
    pub labels_are : labels ≡ names
    pub place : ℕ
    pub filled : slice_get slots place ≡ Some (Filled h)
    pub time : pos (start + place) *ℤ interval.0 ≡ t.0

  said_later : (start : ℕ) (slot : Slot) (slots : List Slot) (names : LabelList) (t : Ms) (h : Held) → IsSaidFrom (start + 1) slots names t h → IsSaidFrom start (slot ∷ slots) names t h
  said_later start slot slots names t h said =
      let e : start + suc said.place ≡ start + 1 + said.place = omega arith in
      record { labels_are = said.labels_are; place = suc said.place; filled = said.filled; time = ap (λ n. pos n *ℤ interval.0) e ∙ said.time }

  said_first : (start : ℕ) (held : Held) (slots : List Slot) (names : LabelList) (t : Ms) (h : Held) → labels ≡ names → record { 0 = pos start *ℤ interval.0 } ≡ t → held ≡ h
      → IsSaidFrom start (Filled held ∷ slots) names t h
  said_first start held slots names t h l a e =
      let z : start + 0 ≡ start = omega arith in
      record { labels_are = l; place = 0; filled = ap (λ (x : Held). Some (Filled x)) e; time = ap (λ n. pos n *ℤ interval.0) z ∙ ap (λ (u : Ms). u.0) a }

  -- the first slot says it, or a later one
  said_by_one : (start : ℕ) (slot : Slot) (slots : List Slot) (names : LabelList) (t : Ms) (h : Held) → IsSaidFrom start (slot ∷ slots) names t h
      → ((slot ≡ Filled h) × (labels ≡ names) × (pos start *ℤ interval.0 ≡ t.0)) ⊎ IsSaidFrom (start + 1) slots names t h
  said_by_one start slot slots names t h said = at said.place said.filled said.time
    where
      at : (i : ℕ) → slice_get (slot ∷ slots) i ≡ Some (Filled h) → pos (start + i) *ℤ interval.0 ≡ t.0
          → ((slot ≡ Filled h) × (labels ≡ names) × (pos start *ℤ interval.0 ≡ t.0)) ⊎ IsSaidFrom (start + 1) slots names t h
      at zero f is =
          let z : start ≡ start + 0 = omega arith in
          let e : slot ≡ Filled h = cc in
          inl (e, said.labels_are, ap (λ n. pos n *ℤ interval.0) z ∙ is)
      at (suc i) f is =
          let e : start + 1 + i ≡ start + suc i = omega arith in
          inr (record { labels_are = said.labels_are; place = i; filled = f; time = ap (λ n. pos n *ℤ interval.0) e ∙ is })

  -- a sample that is put isn't refused
  filled_put : (t : ℤ) (held : Held) (before now : AllSeries) (rest : AllSeries → Result AllSeries RunnerFault)
      → then_try (slot_put line labels t (Filled held) before) rest ≡ Ok now
      → (refusal_of before labels (record { 0 = t }) held ≡ None) × (rest (with_sample before labels (record { 0 = t }) held) ≡ Ok now)
  filled_put t held before now rest e = near (is_beyond t) e
    where
      next : AllSeries
      next = with_sample before labels (record { 0 = t }) held

      free : (r : Option StoreRefusal) → refusal_of before labels (record { 0 = t }) held ≡ r → then_try (unless_refused line r (with_sample before labels (record { 0 = t }) held)) rest ≡ Ok now
          → (refusal_of before labels (record { 0 = t }) held ≡ None) × (rest (with_sample before labels (record { 0 = t }) held) ≡ Ok now)
      free None h k = (h, k)
      free (Some refusal) h k = absurd (cc)

      near : (b : Bool) → then_try (cond b (Err (Range line)) (unless_refused line (refusal_of before labels (record { 0 = t }) held) (with_sample before labels (record { 0 = t }) held))) rest ≡ Ok now
          → (refusal_of before labels (record { 0 = t }) held ≡ None) × (rest (with_sample before labels (record { 0 = t }) held) ≡ Ok now)
      near true k = absurd (cc)
      near false k = free (refusal_of before labels (record { 0 = t }) held) refl k

  pub goes : (slots : List Slot) (start : ℕ) (before now : AllSeries) → slots_put line labels interval start slots before ≡ Ok now
      → (names : LabelList) (t : Ms) (h : Held) → Stands now names t h ↔ (Stands before names t h ⊎ IsSaidFrom start slots names t h)
  goes [] start before now e names t h =
      let same : before ≡ now = cc in (
        λ stands. inl (subst (λ (z : AllSeries). Stands z names t h) (sym same) stands),
        λ stands. ⊎_elim (λ stood. subst (λ (z : AllSeries). Stands z names t h) same stood) (λ said. let f = said.filled in absurd (cc)) stands,
      )
  goes (Outside ∷ slots) start before now e names t h = absurd (cc)
  goes (Empty ∷ slots) start before now e names t h =
      let later = goes slots (start + 1) before now e names t h in (
        λ stands. ⊎_elim (λ stood. inl stood) (λ said. inr (said_later start Empty slots names t h said)) (later.0 stands),
        λ stands. later.1 (⊎_elim (λ stood. inl stood) (λ said. ⊎_elim (λ first. let k = first.0 in absurd (cc)) (λ behind. inr behind) (said_by_one start Empty slots names t h said)) stands),
      )
  goes (Filled held ∷ slots) start before now e names t h =
      let put = filled_put (pos start *ℤ interval.0) held before now (slots_put line labels interval (start + 1) slots) e in
      let at : Ms = record { 0 = pos start *ℤ interval.0 } in
      let later = goes slots (start + 1) (with_sample before labels at held) now put.1 names t h in
      let one = stands_on before labels at held put.0 names t h in (
        λ stands. ⊎_elim
            (λ middle. ⊎_elim (λ stood. inl stood) (λ first. inr (said_first start held slots names t h first.0 first.1 first.2)) (one.0 middle))
            (λ said. inr (said_later start (Filled held) slots names t h said)) (later.0 stands),
        λ stands. later.1 (⊎_elim
            (λ stood. inl (one.1 (inl stood)))
            (λ said. ⊎_elim
            (λ first. let k : held ≡ h = (let f = first.0 in cc) in inl (one.1 (inr (first.1, ap (λ (z : ℤ). record { 0 = z }) first.2, k))))
            (λ behind. inr behind) (said_by_one start (Filled held) slots names t h said)) stands),
      )

items_puts : (interval : Ms) (line : SeriesLine) (before now : AllSeries) → items_put interval line before ≡ Ok now
    → (labels : LabelList) (at : Ms) (held : Held) → Stands now labels at held ↔ (Stands before labels at held ⊎ IsSaid interval line labels at held)
items_puts interval line before now e labels at held =
    let all = goes line.line line.labels interval (line_slots line.items) 0 before now e labels at held in (
      λ stands. ⊎_elim (λ stood. inl stood)
          (λ said. inr (record { labels_are = sym said.labels_are; place = said.place; filled = said.filled; time = sym said.time ∙ ap (λ n. pos n *ℤ interval.0) (zero-add said.place) }))
          (all.0 stands),
      λ stands. all.1 (⊎_elim (λ stood. inl stood)
          (λ said. inr (record { labels_are = sym said.labels_are; place = said.place; filled = said.filled; time = ap (λ n. pos n *ℤ interval.0) (zero-add said.place) ∙ sym said.time })) stands),
    )

-- ---- lines with a place

module _ (declared : List LabelList) where
  -- what is put of a line isn't refused, so that its series has a place
  placed_items : (interval : Ms) (line : SeriesLine) (before now : AllSeries) → line_put declared interval line before ≡ Ok now → items_put interval line before ≡ Ok now
  placed_items interval line before now e = by (is_placed declared line.labels) e
    where
      by : (b : Bool) → cond b (items_put interval line before) (Err (Refused (Unplaced line.line))) ≡ Ok now → items_put interval line before ≡ Ok now
      by true h = h
      by false h = absurd (cc)

  pub load_puts : (interval : Ms) (line : SeriesLine) (before now : AllSeries) → line_put declared interval line before ≡ Ok now
      → (labels : LabelList) (at : Ms) (held : Held) → Stands now labels at held ↔ (Stands before labels at held ⊎ IsSaid interval line labels at held)
  load_puts interval line before now e = items_puts interval line before now (placed_items interval line before now e)

  -- ---- engines change nothing of what is left

  abbrev Same : (f g : AllSeries → Result AllSeries RunnerFault) → Type 0
  Same f g = (s now : AllSeries) → f s ≡ Ok now → g s ≡ Ok now

  same_on : (r q : Result AllSeries RunnerFault) (f g : AllSeries → Result AllSeries RunnerFault) → ((s : AllSeries) → r ≡ Ok s → q ≡ Ok s) → Same f g → (now : AllSeries) → then_try r f ≡ Ok now → then_try q g ≡ Ok now
  same_on (Ok s) q f g first later now h = ap (λ (z : Result AllSeries RunnerFault). then_try z g) (first s refl) ∙ later s now h
  same_on (Err fault) q f g first later now h = absurd (cc)

  same_lines : (interval : Ms) (lines : List SeriesLine) → Same (lines_put declared interval lines) (lines_put [] interval lines)
  same_lines interval [] s now h = h
  same_lines interval (line ∷ lines) s now h =
      same_on (line_put declared interval line s) (line_put [] interval line s) (lines_put declared interval lines) (lines_put [] interval lines)
      (λ mid e. placed_items interval line s mid e) (same_lines interval lines) now h

  same_what : (what : What) → Same (left_by declared what) (left_by [] what)
  same_what Clear s now h = h
  same_what (Load interval lines) s now h = same_lines interval lines s now h
  same_what (Eval grid instant text expected) s now h = h

  same_all : (commands : List Command) → Same (left_by_all declared commands) (left_by_all [] commands)
  same_all [] s now h = h
  same_all (c ∷ cs) s now h =
      same_on (left_by declared c.what s) (left_by [] c.what s) (left_by_all declared cs) (left_by_all [] cs) (λ mid e. same_what c.what s mid e) (same_all cs) now h

  pub same_left : (script : Script) (series : AllSeries) → samples_left declared script ≡ Ok series → samples_left [] script ≡ Ok series
  same_left script series h = same_all script.commands [] series h
