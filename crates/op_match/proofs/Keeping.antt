-- Labels of pairs that are kept, while labels are added.
use Rattle.std.proofs.Common.{◌≡◌, ◌∙◌, ◌<◌, ℕ, zero, suc, Bool, true, false, List, [], ◌∷◌, length, get_or, refl, sym, ap, subst, Option, Some, None}
use Rattle.std.specs.Prelude.{slice_get, if◌then◌else◌, IsTrue}
use Rattle.std.proofs.Math.ListN.{set}
use Rattle.label_set.specs.declared.rules.Pairing.{Pairing}
use Rattle.step_batch.specs.Lent.{Lent, stages}
use Rattle.step_table.specs.Groups.{Names}
use Rattle.step_table.specs.Operators.{pair_labels}
use Rattle.xfrac.specs.declared.value.PairOp.{PairOp}
use Rattle.op_match.specs.Places.{AreKept, IsAfter, IsAt, IsKeptAt, IsMatching, IsNumbered, Stays, names_fed}
use Rattle.op_match.specs.declared.kept.Kept.{Kept}
use Rattle.op_match.specs.declared.renewal.Matching.{Matching}
use Rattle.op_match.specs.declared.sides.Fed.{Fed}
use Rattle.op_match.proofs.Lists.{each_set, there}

pub at_stays : (before after : List Names) (names : Option Names) (place : Option ℕ) → Stays before after → IsAt before names place → IsAt after names place
at_stays before after (Some names) (Some place) s a = s place names a
at_stays before after None None s a = tt
at_stays before after (Some names) None s a = absurd a
at_stays before after None (Some place) s a = absurd a

pub keeps_on : (op : PairOp) (p : Pairing) (before after many more ones others : List Names) (kept : List (Option Kept)) → Stays before after → Stays many more → Stays ones others
    → AreKept op p before many ones kept → AreKept op p after more others kept
keeps_on op p before after many more ones others kept s t u h m k e =
    let was = h m k e in
    record {
      many_names = was.many_names;
      one_names = was.one_names;
      many_there = t m was.many_names was.many_there;
      one_there = u k.one was.one_names was.one_there;
      own = at_stays before after (pair_labels op p was.many_names was.one_names) k.own s was.own;
    }

pub keeps_set : (op : PairOp) (p : Pairing) (labels many ones : List Names) (kept : List (Option Kept)) (m : ℕ) (k : Kept) (n q : Names) → slice_get many m ≡ Some n → slice_get ones k.one ≡ Some q → IsAt labels (pair_labels op p n q) k.own
    → AreKept op p labels many ones kept → AreKept op p labels many ones (set kept m (Some k))
keeps_set op p labels many ones kept m k n q a b c h i j e =
    each_set (λ (i : ℕ) (o : Option Kept). (j : Kept) → o ≡ Some j → IsKeptAt op p labels many ones i j) kept m (Some k)
    (λ i o f j g. h i j (f ∙ ap Some g))
    (λ j g. let same : k ≡ j = cc in subst (IsKeptAt op p labels many ones m) same (record { many_names = n; one_names = q; many_there = a; one_there = b; own = c }))
    i (Some j) e j refl

pub some_is : {A : Type 0} (a b : A) → Some a ≡ Some b → a ≡ b
some_is a b e = cc

-- what is kept of a pair are its labels
pub kept_is : (op : PairOp) (p : Pairing) (labels many ones : List Names) (kept : List (Option Kept)) (m o : ℕ) (k : Kept) (n q : Names) → AreKept op p labels many ones kept → slice_get kept m ≡ Some (Some k) → k.one ≡ o
    → slice_get many m ≡ Some n → slice_get ones o ≡ Some q → IsAt labels (pair_labels op p n q) k.own
kept_is op p labels many ones kept m o k n q h e f a b =
    let was = h m k e in
    let same : was.many_names ≡ n = some_is was.many_names n (sym was.many_there ∙ a) in
    let other : was.one_names ≡ q = some_is was.one_names q (sym was.one_there ∙ ap (slice_get ones) f ∙ b) in
    subst (λ (z : Names). IsAt labels (pair_labels op p n z) k.own) other (subst (λ (z : Names). IsAt labels (pair_labels op p z was.one_names) k.own) same was.own)

pub name_there : (side : List Fed) (i : ℕ) (f : Fed) → slice_get side i ≡ Some f → slice_get (names_fed side) i ≡ Some f.labels
name_there [] i f e = absurd (cc)
name_there (g ∷ side) zero f e = let same : g ≡ f = some_is g f e in ap (λ (h : Fed). Some h.labels) same
name_there (g ∷ side) (suc i) f e = name_there side i f e

pub named : (side : List Fed) (i : ℕ) (d : Fed) (n : Names) → i < length side → slice_get (names_fed side) i ≡ Some n → (get_or side i d).labels ≡ n
named side i d n l e = some_is (get_or side i d).labels n (sym (name_there side i (get_or side i d) (there side i d l)) ∙ e)

-- ---- a matching

pub after_itself : (m : Matching) (rows : Lent) → IsAfter m rows m rows
after_itself m rows = record { op = refl; pairing = refl; signatures = refl; many = refl; ones = refl; room = refl; matching = λ h. h; stays = λ j x e. e; steps = refl; stages = refl }

pub after_both : (a b c : Matching) (r s t : Lent) → IsAfter a r b s → IsAfter b s c t → IsAfter a r c t
after_both a b c r s t x y = record {
  op = y.op ∙ x.op;
  pairing = y.pairing ∙ x.pairing;
  signatures = y.signatures ∙ x.signatures;
  many = y.many ∙ x.many;
  ones = y.ones ∙ x.ones;
  room = y.room ∙ x.room;
  matching = λ h. y.matching (x.matching h);
  stays = λ j n e. y.stays j n (x.stays j n e);
  steps = y.steps ∙ x.steps;
  stages = y.stages ∙ x.stages;
}

pub after_kept : (m : Matching) (kept : List (Option Kept)) (r s : Lent) → length kept ≡ length m.kept → (AreKept m.op m.pairing r.labels (names_fed m.many) (names_fed m.ones) m.kept → AreKept m.op m.pairing s.labels (names_fed m.many) (names_fed m.ones) kept)
    → Stays r.labels s.labels → s.steps ≡ r.steps → stages s ≡ stages r → IsAfter m r (record { op = m.op; pairing = m.pairing; signatures = m.signatures; many = m.many; ones = m.ones; kept = kept }) s
after_kept m kept r s l k t u v = record {
  op = refl;
  pairing = refl;
  signatures = refl;
  many = refl;
  ones = refl;
  room = l;
  matching = λ h. record { many = h.many; ones = h.ones; kept = k h.kept };
  stays = t;
  steps = u;
  stages = v;
}

-- ---- labels that are fed

pub none_kept : (op : PairOp) (p : Pairing) (labels many ones : List Names) → AreKept op p labels many ones []
none_kept op p labels many ones m k e = absurd (cc)

pub set_aside : (m : Matching) (labels : List Names) → IsMatching m labels → IsMatching (record { op = m.op; pairing = m.pairing; signatures = m.signatures; many = m.many; ones = m.ones; kept = [] }) []
set_aside m labels h = record { many = h.many; ones = h.ones; kept = none_kept m.op m.pairing [] (names_fed m.many) (names_fed m.ones) }

pub sides_taken : (m : Matching) (set : Lent) (many ones : List Fed) → IsNumbered set.labels m.pairing many → IsNumbered set.labels m.pairing ones → m.kept ≡ []
    → IsMatching (record { op = m.op; pairing = m.pairing; signatures = set; many = many; ones = ones; kept = m.kept }) []
sides_taken m set many ones a b e = record { many = a; ones = b; kept = subst (AreKept m.op m.pairing [] (names_fed many) (names_fed ones)) (sym e) (none_kept m.op m.pairing [] (names_fed many) (names_fed ones)) }

pub forgotten : (m : Matching) → m.kept ≡ [] → m.many ≡ [] → m.ones ≡ [] → IsMatching m []
forgotten m k a b = record {
  many = subst (IsNumbered m.signatures.labels m.pairing) (sym a) (λ i f e. absurd (cc));
  ones = subst (IsNumbered m.signatures.labels m.pairing) (sym b) (λ i f e. absurd (cc));
  kept = subst (AreKept m.op m.pairing [] (names_fed m.many) (names_fed m.ones)) (sym k) (none_kept m.op m.pairing [] (names_fed m.many) (names_fed m.ones));
}

-- what was kept stays where it is wanted, under the same labels
pub kept_again : (op : PairOp) (p : Pairing) (before after many more ones others : List Names) (b : Bool) (kept now : List (Option Kept)) → AreKept op p before many ones kept
    → (IsTrue b → Stays before after) → (IsTrue b → Stays many more) → (IsTrue b → Stays ones others) → ((m : ℕ) (k : Kept) → slice_get now m ≡ Some (Some k) → slice_get (if b then kept else []) m ≡ Some (Some k)) → AreKept op p after more others now
kept_again op p before after many more ones others true kept now h s t u n m k e = keeps_on op p before after many more ones others kept (s refl) (t refl) (u refl) h m k (n m k e)
kept_again op p before after many more ones others false kept now h s t u n m k e = absurd (none m k (n m k e))
  where
    none : (m : ℕ) (k : Kept) → slice_get {X = Option Kept} [] m ≡ Some (Some k) → ⊥
    none m k f = absurd (cc)

-- the labels of a buffer that has some are those that it had
pub labels_stay : (b : Bool) (labels now : List Names) → now ≡ (if b then [] else labels) → (now ≡ [] → ⊥) → Stays labels now
labels_stay true labels now e n j x h = absurd (n e)
labels_stay false labels now e n j x h = subst (λ (ns : List Names). slice_get ns j ≡ Some x) (sym e) h

-- ---- what labels that are added leave as it was

abbrev core : Matching → Matching
core m = record { op = m.op; pairing = m.pairing; signatures = m.signatures; many = m.many; ones = m.ones; kept = [] }

core_same : (a b : Matching) (r s : Lent) → IsAfter a r b s → core a ≡ core b
core_same a b r s h = λ i. record { op = sym h.op i; pairing = sym h.pairing i; signatures = sym h.signatures i; many = sym h.many i; ones = sym h.ones i; kept = [] }

-- what is said of a matching but for what it keeps
pub said_after : (P : PairOp → Pairing → Lent → List Fed → List Fed → Type 0) (a b : Matching) (r s : Lent) → IsAfter a r b s → P a.op a.pairing a.signatures a.many a.ones → P b.op b.pairing b.signatures b.many b.ones
said_after P a b r s h = subst (λ (m : Matching). P m.op m.pairing m.signatures m.many m.ones) (core_same a b r s h)

pub said_before : (P : PairOp → Pairing → Lent → List Fed → List Fed → Type 0) (a b : Matching) (r s : Lent) → IsAfter a r b s → P b.op b.pairing b.signatures b.many b.ones → P a.op a.pairing a.signatures a.many a.ones
said_before P a b r s h = subst (λ (m : Matching). P m.op m.pairing m.signatures m.many m.ones) (sym (core_same a b r s h))
