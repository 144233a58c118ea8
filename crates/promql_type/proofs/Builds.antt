-- Patterns that are kept one after another.
use Rattle.std.proofs.Common.{◌≡◌, ◌<◌, ◌≤◌, ◌+◌, ℕ, refl, ap, ◌∙◌, sym, subst, take, drop, get_or, length, List, [], ◌∷◌, ◌++◌, Bool, true}
use Rattle.std.specs.List.{AllByRecursion}
use Rattle.std.specs.Prelude.{Some, slice_get}
use Rattle.std.proofs.lemmas.Option.{slice_get_within}
use Rattle.std.proofs.lemmas.List.{drop_more, take_more, take-append-drop}
use Rattle.promql_ast.specs.declared.refusal.QueryRefusal.{QueryRefusal}
use Rattle.match_rule.specs.Gains.{Gains, gains_all}
use Rattle.match_rule.specs.Patterns.{is_readable, with_pattern}
use Rattle.promql_type.specs.declared.replace.Placed.{Placed}
use Rattle.promql_type.specs.declared.replace.Replacement.{Replacement}
use Rattle.promql_type.specs.declared.typed_tree.TypeFault.{TypeFault}
use Rattle.promql_type.specs.declared.typed_tree.TypeFault.TheVariants.{Refused, Memory}
use Rattle.promql_type.specs.Answers.{MayFault}
use Rattle.promql_type.specs.Replacements.{AreKept, AreTaken, HasCause, IsFirstRefused, Kept, kept_with}

pub kept_more : (kept : Kept) (front : List Replacement) (r : Replacement) → kept_with kept (front ++ r ∷ []) ≡ with_pattern (true, r.text) (kept_with kept front)
kept_more kept [] r = refl
kept_more kept (s ∷ front) r = kept_more (with_pattern (true, s.text) kept) front r

abbrev Numbers : Kept → Placed → Replacement → Type 0
Numbers kept p r = (p.at ≡ r.at) × (slice_get kept p.id.0 ≡ Some (true, r.text))

within : (kept : Kept) (k : ℕ) (x : Bool × List ℕ) → slice_get kept k ≡ Some x → k < length kept
within kept k x is = slice_get_within kept k x is

pub placed_more : (old kept : Kept) (front : List Replacement) (placed : List Placed) (r : Replacement) (p : Placed)
    → AreKept old front placed → Gains old kept → Numbers kept p r → AreKept kept (front ++ r ∷ []) (placed ++ p ∷ [])
placed_more old kept [] [] r p are gains is = (is.0, is.1, record {})
placed_more old kept [] (q ∷ qs) r p are gains is = absurd are
placed_more old kept (s ∷ front) [] r p are gains is = absurd are
placed_more old kept (s ∷ front) (q ∷ qs) r p are gains is =
    (are.0, gains.earlier q.id.0 (within old q.id.0 (true, s.text) are.1) ∙ are.1, placed_more old kept front qs r p are.2 gains is)

abbrev CanBeRead : Replacement → Type 0
CanBeRead r = is_readable true r.text ≡ true

readable_more : (front : List Replacement) (r : Replacement) → AllByRecursion CanBeRead front → CanBeRead r → AllByRecursion CanBeRead (front ++ r ∷ [])
readable_more [] r all can = (can, tt)
readable_more (s ∷ front) r all can = (all.0, readable_more front r all.1 can)

-- none are taken yet
pub none_taken : (kept : Kept) → AreTaken kept [] kept
none_taken kept = record { kept = refl; readable = tt; few = λ h. h }

-- one more is taken
taken_more : (before old now : Kept) (front : List Replacement) (r : Replacement) → AreTaken before front old → now ≡ with_pattern (true, r.text) old → CanBeRead r → length now ≤ 32
    → AreTaken before (front ++ r ∷ []) now
taken_more before old now front r taken kept can few = record {
  kept = kept ∙ ap (with_pattern (true, r.text)) taken.kept ∙ sym (kept_more before front r);
  readable = readable_more front r taken.readable can;
  few = λ _. few;
}

-- what is kept and placed once those at the front are
pub record AreSofar (before now : Kept) (done : List Replacement) (numbers : List Placed) : Type 0 where
  pub taken : AreTaken before done now
  pub placed : AreKept now done numbers
  pub gains : Gains before now

pub next_kept : (before old now : Kept) (wanted : List Replacement) (placed : List Placed) (i : ℕ) (r : Replacement) (p : Placed)
    → i < length wanted → r ≡ get_or wanted i r
    → AreSofar before old (take i wanted) placed → now ≡ with_pattern (true, r.text) old → CanBeRead r → length now ≤ 32 → Gains old now → Numbers now p r
    → AreSofar before now (take (i + 1) wanted) (placed ++ p ∷ [])
next_kept before old now wanted placed i r p lt is sofar kept can few gains numbers =
    let more : take (i + 1) wanted ≡ take i wanted ++ r ∷ [] = take_more wanted i r lt ∙ ap (λ x. take i wanted ++ x ∷ []) (sym is) in
    subst (λ (done : List Replacement). AreSofar before now done (placed ++ p ∷ [])) (sym more)
    (record {
      taken = taken_more before old now (take i wanted) r sofar.taken kept can few;
      placed = placed_more old now (take i wanted) placed r p sofar.placed gains numbers;
      gains = gains_all before old now sofar.gains gains;
    })

pub first_refused : (before old now : Kept) (wanted : List Replacement) (placed : List Placed) (i : ℕ) (r : Replacement) (refusal : QueryRefusal)
    → i < length wanted → r ≡ get_or wanted i r
    → AreSofar before old (take i wanted) placed → now ≡ old → HasCause old r refusal → IsFirstRefused before wanted now refusal
first_refused before old now wanted placed i r refusal lt is sofar same cause = record {
  front = take i wanted;
  string = r;
  behind = drop (i + 1) wanted;
  split = sym (take-append-drop i wanted) ∙ ap (λ rest. take i wanted ++ rest) (drop_more wanted i r lt ∙ ap (λ x. x ∷ drop (i + 1) wanted) (sym is));
  taken = subst (λ (k : Kept). AreTaken before (take i wanted) k) (sym same) sofar.taken;
  cause = subst (λ (k : Kept). HasCause k r refusal) (sym same) cause;
}

pub first_fault : (before old now : Kept) (wanted : List Replacement) (placed : List Placed) (i : ℕ) (r : Replacement) (fault : TypeFault)
    → i < length wanted → r ≡ get_or wanted i r
    → AreSofar before old (take i wanted) placed → now ≡ old → MayFault (HasCause old r) fault → MayFault (IsFirstRefused before wanted now) fault
first_fault before old now wanted placed i r (Refused refusal) lt is sofar same cause = first_refused before old now wanted placed i r refusal lt is sofar same cause
first_fault before old now wanted placed i r Memory lt is sofar same cause = record {}
