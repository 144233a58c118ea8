-- Notes that lines want, and lines that hold of notes.
use Rattle.std.proofs.Common.{◌≡◌, ◌<◌, ◌≤◌, ℕ, zero, suc, Bool, true, false, cond, List, [], ◌∷◌, length, filter, map, not, slice_get, Some, refl, sym, subst, ◌∙◌, arith, inl, inr}
use Rattle.std.specs.Prelude.{◌||◌, bytes_eq, slice_index_or}
use Rattle.std.specs.List.{AllByRecursion, list_all, list_any}
use Rattle.std.proofs.Math.ListN.{replicate, set}
use Rattle.std.proofs.lemmas.Bool.{cases_eq}
use Rattle.std.proofs.lemmas.List.{get_or-replicate, get_or-set_other}
use Rattle.std.proofs.lemmas.Option.{slice_get_within}
use Rattle.std.proofs.lemmas.Slice.Eq.{bytes_eq-Decides}
use Rattle.script_read.specs.Lines.{is_empty}
use Rattle.script_read.specs.declared.script.Wanted.{Wanted}
use Rattle.script_read.specs.declared.script.Wanted.TheVariants.{Any, Msg, Regex}
use Rattle.step_table.specs.declared.marks.Note.{Note}
use Rattle.script_check.specs.NoteTexts.{is_of, note_text, texts_of}
use Rattle.script_check.specs.Noted.{AreNotesMarked, HasText, IsWantedIf}
use Rattle.script_check.specs.Verdicts.{PatternList, is_bare, meets, noted_holds}
use Rattle.script_check.proofs.Pairs.{by_places}

-- what one of some lists has
pub any_at : {X : Type 0} (p : X → Bool) (xs : List X) (place : ℕ) (x : X) → slice_get xs place ≡ Some x → p x ≡ true → list_any p xs ≡ true
any_at p [] place x e h = absurd (cc)
any_at p (y ∷ xs) zero x e h = let same : y ≡ x = cc in rw (same, h) refl
any_at p (y ∷ xs) (suc place) x e h = elim (p y) as (λ b. (b || list_any p xs) ≡ true) [ true ↦ refl | false ↦ any_at p xs place x e h ]

-- a note of the kind with a text that passes
pub among : (p : List ℕ → Bool) (warnings : Bool) (notes : List Note) (place : ℕ) (note : Note) → slice_get notes place ≡ Some note → is_of warnings note ≡ true → p (note_text note) ≡ true → list_any p (texts_of warnings notes) ≡ true
among p warnings [] place note e of h = absurd (cc)
among p warnings (first ∷ notes) zero note e of h = let same : first ≡ note = cc in rw (same, of, h) refl
among p warnings (first ∷ notes) (suc place) note e of h =
    elim (is_of warnings first) as (λ b. list_any p (map note_text (cond b (first ∷ filter (is_of warnings) notes) (filter (is_of warnings) notes))) ≡ true) [
      | true ↦ elim (p (note_text first)) as (λ b. (b || list_any p (texts_of warnings notes)) ≡ true) [ true ↦ refl | false ↦ among p warnings notes place note e of h ]
      | false ↦ among p warnings notes place note e of h
    ]

-- ---- marks

pub no_notes_marked : (part : List Note) (lines : List Wanted) → length part ≤ 65536 → AreNotesMarked part lines (replicate 65536 false)
no_notes_marked part lines few = record {
  each = λ place note g m. absurd (
      let w : place < length part = slice_get_within part place note g in
      let unset : slice_index_or (replicate 65536 false) place false ≡ false = get_or-replicate 65536 place false false (omega arith) in
      let no : false ≡ true = sym unset ∙ m in
      cc
      );
}

pub one_note_marked : (part : List Note) (lines : List Wanted) (marks : List Bool) (place k : ℕ) (message : List ℕ) → slice_get lines k ≡ Some (Msg message) → HasText message (slice_get part place)
    → AreNotesMarked part lines marks → AreNotesMarked part lines (set marks place true)
one_note_marked part lines marks place k message at has m = record {
  each = λ i note g set_there. elim (cases_eq i place) [
    | inl same ↦
        let here : slice_get part place ≡ Some note = subst (λ j. slice_get part j ≡ Some note) same g in
        let is : note_text note ≡ message = subst (HasText message) here has in
        λ kept. any_at (meets kept (note_text note)) lines k (Msg message) at ((bytes_eq-Decides (note_text note) message).1 is)
    | inr apart ↦ m.each i note g (sym (get_or-set_other marks place i true false apart) ∙ set_there)
  ];
}

pub each_is_wanted : (warnings : Bool) (part : List Note) (lines : List Wanted) (marks : List Bool) → AreNotesMarked part lines marks
    → ((place : ℕ) (note : Note) → slice_get part place ≡ Some note → is_of warnings note ≡ true → slice_index_or marks place false ≡ true) → AllByRecursion (IsWantedIf warnings lines) part
each_is_wanted warnings part lines marks m all = by_places (IsWantedIf warnings lines) part (λ place note g of. m.each place note g (all place note g of))

-- ---- all notes

pub wanted_by_all : (kept : PatternList) (warnings : Bool) (lines : List Wanted) (notes : List Note) → AllByRecursion (IsWantedIf warnings lines) notes → list_all (λ text. list_any (meets kept text) lines) (texts_of warnings notes) ≡ true
wanted_by_all kept warnings lines [] a = refl
wanted_by_all kept warnings lines (note ∷ notes) a =
    elim (is_of warnings note) as (λ b. is_of warnings note ≡ b → list_all (λ text. list_any (meets kept text) lines) (map note_text (cond b (note ∷ filter (is_of warnings) notes) (filter (is_of warnings) notes))) ≡ true) [
      | true ↦ λ e. rw (a.0 e kept) (wanted_by_all kept warnings lines notes a.1)
      | false ↦ λ e. wanted_by_all kept warnings lines notes a.1
    ] refl

pub wanted_by_bare : (kept : PatternList) (lines : List Wanted) (texts : List (List ℕ)) → list_any is_bare lines ≡ true → list_all (λ text. list_any (meets kept text) lines) texts ≡ true
wanted_by_bare kept lines [] h = refl
wanted_by_bare kept lines (text ∷ texts) h = rw (bare_meets text lines h) (wanted_by_bare kept lines texts h)
  where
    bare_meets : (t : List ℕ) (ls : List Wanted) → list_any is_bare ls ≡ true → list_any (meets kept t) ls ≡ true
    bare_meets t [] k = absurd (cc)
    bare_meets t (Any ∷ ls) k = refl
    bare_meets t (Msg message ∷ ls) k = elim (bytes_eq t message) as (λ b. (b || list_any (meets kept t) ls) ≡ true) [ true ↦ refl | false ↦ bare_meets t ls k ]
    bare_meets t (Regex id ∷ ls) k = elim (meets kept t (Regex id)) as (λ b. (b || list_any (meets kept t) ls) ≡ true) [ true ↦ refl | false ↦ bare_meets t ls k ]

-- the note at a place has a text
pub among_at : (warnings : Bool) (notes : List Note) (place : ℕ) (note : Note) (text : List ℕ) → slice_get notes place ≡ Some note → HasText text (slice_get notes place) → is_of warnings note ≡ true → list_any (λ one. bytes_eq one text) (texts_of warnings notes) ≡ true
among_at warnings notes place note text at has of =
    let is : note_text note ≡ text = subst (HasText text) at has in
    among (λ one. bytes_eq one text) warnings notes place note at of ((bytes_eq-Decides (note_text note) text).1 is)

pub has_one : (kept : PatternList) (texts : List (List ℕ)) → not (is_empty texts) ≡ true → list_any (λ text. meets kept text Any) texts ≡ true
has_one kept [] some = absurd (cc)
has_one kept (text ∷ texts) some = refl

pub one_more_holds : (kept : PatternList) (texts : List (List ℕ)) (line : Wanted) (lines : List Wanted) → list_any (λ text. meets kept text line) texts ≡ true → noted_holds kept lines texts ≡ true → noted_holds kept (line ∷ lines) texts ≡ true
one_more_holds kept texts line lines h k = rw h k
