-- Notes as a set: one that is added twice, and the notes of one window more.
use Rattle.std.proofs.Common.{◌≡◌, ◌∙◌, ℕ, List, [], ◌∷◌, ◌++◌, Option, Some, None, refl, sym, ap, subst, append-nil}
use Rattle.std.specs.Prelude.{fold}
use Rattle.std.specs.BTreeSet.{insert_key}
use Rattle.std.specs.Option.{option_to_list}
use Rattle.std.specs.Ordering.{match_ordering}
use Rattle.std.specs.declared.cmp.Ordering.TheVariants.{Less, Equal, Greater}
use Rattle.std.proofs.lemmas.Cmp.{tied_itself}
use Rattle.std.proofs.lemmas.List.Sums.{fold-append}
use Rattle.func_table.specs.declared.table.Window.{Window}
use Rattle.func_table.specs.declared.table.Window.TheVariants as window
use Rattle.promql_meaning.specs.Outcomes.{with_notes}
use Rattle.promql_meaning.specs.Ranges.{name_note}
use Rattle.step_table.specs.KeySets.{set_more}
use Rattle.step_table.specs.OrderLaws.{note_cmp_total}
use Rattle.step_table.specs.Orders.{note_cmp}
use Rattle.step_table.specs.Unions.{set_of, united}
use Rattle.step_table.specs.declared.marks.Marks.{Marks}
use Rattle.step_table.specs.declared.marks.Note.{Note}
use Rattle.xfrac.specs.declared.value.XFrac.{XFrac}
use Rattle.op_window.specs.NoteSets.{AreOneSet, IsTold}
use Rattle.op_window.specs.Rules.{notes_given}

-- ---- a note that is added twice

put_twice : (n : Note) (ks : List Note) → insert_key note_cmp (insert_key note_cmp ks n) n ≡ insert_key note_cmp ks n
put_twice n [] = let e = tied_itself note_cmp_total n in rw e refl
put_twice n (k ∷ ks) =
    elim (note_cmp n k) as (λ o. note_cmp n k ≡ o → insert_key note_cmp (match_ordering o (n ∷ k ∷ ks) (k ∷ ks) (k ∷ insert_key note_cmp ks n)) n ≡ match_ordering o (n ∷ k ∷ ks) (k ∷ ks) (k ∷ insert_key note_cmp ks n)) [
      | Less ↦ λ l. let e = tied_itself note_cmp_total n in rw e refl
      | Equal ↦ λ l. rw l refl
      | Greater ↦ λ l. rw l (ap (λ (ns : List Note). k ∷ ns) (put_twice n ks))
    ] refl

-- ---- lists of notes that are one set

-- they are one set with more notes too
pub with_more : (xs ys more : List Note) → AreOneSet xs ys → AreOneSet (xs ++ more) (ys ++ more)
with_more xs ys more e = fold-append (insert_key note_cmp) [] xs more ∙ ap (λ (ns : List Note). fold (insert_key note_cmp) ns more) e ∙ sym (fold-append (insert_key note_cmp) [] ys more)

-- ---- the name that was told last

twice_told : (o : Option Note) (notes : List Note) → AreOneSet ((notes ++ option_to_list o) ++ option_to_list o) (notes ++ option_to_list o)
twice_told None notes = ap (set_of note_cmp) (append-nil (notes ++ []))
twice_told (Some n) notes =
    set_more note_cmp (notes ++ n ∷ []) n ∙ ap (λ (ns : List Note). insert_key note_cmp ns n) (set_more note_cmp notes n) ∙ put_twice n (set_of note_cmp notes) ∙ sym (set_more note_cmp notes n)

-- a name whose note has been added
pub now_told : (name : List ℕ) (o : Option Note) (notes now : List Note) → o ≡ name_note name → now ≡ notes ++ option_to_list o → IsTold name now
now_told name o notes now e n = subst (λ (p : Option Note). AreOneSet (now ++ option_to_list p) now) e (subst (λ (ns : List Note). AreOneSet (ns ++ option_to_list o) ns) (sym n) (twice_told o notes))

-- ---- the step's marks

-- lists that are one set make one step's marks
set_same : (marks : Marks) (xs ys : List Note) → AreOneSet xs ys → with_notes marks xs ≡ with_notes marks ys
set_same marks xs ys e = ap (λ (ns : List Note). united marks (record { fatal = []; notes = ns })) e

pub given_same : {A : Type 0} (f : Window) (arg : XFrac) (outcomes : List A) (marks : Marks) (xs ys : List Note) → AreOneSet xs ys → with_notes marks (notes_given f arg outcomes xs) ≡ with_notes marks (notes_given f arg outcomes ys)
given_same window.QuantileOver arg outcomes marks xs ys e = refl
given_same window.Rate arg outcomes marks xs ys e = set_same marks xs ys e
given_same window.Increase arg outcomes marks xs ys e = set_same marks xs ys e
given_same window.Delta arg outcomes marks xs ys e = set_same marks xs ys e
given_same window.Irate arg outcomes marks xs ys e = set_same marks xs ys e
given_same window.Idelta arg outcomes marks xs ys e = set_same marks xs ys e
given_same window.Deriv arg outcomes marks xs ys e = set_same marks xs ys e
given_same window.PredictLinear arg outcomes marks xs ys e = set_same marks xs ys e
given_same window.Changes arg outcomes marks xs ys e = set_same marks xs ys e
given_same window.Resets arg outcomes marks xs ys e = set_same marks xs ys e
given_same window.AvgOver arg outcomes marks xs ys e = set_same marks xs ys e
given_same window.MinOver arg outcomes marks xs ys e = set_same marks xs ys e
given_same window.MaxOver arg outcomes marks xs ys e = set_same marks xs ys e
given_same window.SumOver arg outcomes marks xs ys e = set_same marks xs ys e
given_same window.CountOver arg outcomes marks xs ys e = set_same marks xs ys e
given_same window.StdvarOver arg outcomes marks xs ys e = set_same marks xs ys e
given_same window.LastOver arg outcomes marks xs ys e = set_same marks xs ys e
given_same window.PresentOver arg outcomes marks xs ys e = set_same marks xs ys e
