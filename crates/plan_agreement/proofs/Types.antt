-- A typed plan stays typed where what is put in the place of its parts is.
use Rattle.std.proofs.Common.{◌≡◌, ◌∙◌, List, [], ◌∷◌, ap, ap₂, refl, Bool, true, Some, None}
use Rattle.std.specs.Prelude.{◌&&◌, ◌||◌}
use Rattle.std.specs.List.{AllZip}
use Rattle.promql_type.specs.Kinds.{both, is_kind}
use Rattle.promql_type.specs.declared.kind.Kind.{Kind}
use Rattle.promql_type.specs.declared.kind.Kind.TheVariants.{Scalar, Vector, Windows}
use Rattle.logical_plan.specs.declared.nodes.Plan.{Plan}
use Rattle.logical_plan.specs.declared.nodes.PlanNode.TheOpen.{PlanNode-F}
use Rattle.logical_plan.specs.PlanTypes.{Typing, are_sound, element_kind, is_element, is_group, is_of, is_pair, is_relabel, is_sound, is_stamped, is_unstamped, is_window, kinds_of, node_typing, typing}
use Rattle.plan_agreement.specs.DescentLaws.{DescentsKeepTypes, FitsIn}
use Rattle.plan_agreement.specs.Descents.{descended}
use Rattle.plan_agreement.specs.SameNodes.{SameNode, number, time, select, range, subquery, element, stamp, window, absent, buckets, relabel, sort, scalar_of, vector_of, group, pair, set, filtered, ratio, once, gather}
use Rattle.plan_agreement.proofs.Ands.{and, both_follow, left, right}
use Rattle.plan_agreement.proofs.Descends.{every}

-- typed, of the same kind, and as much a selector with a stamp or without one
pub record Kept (after before : Typing) : Type 0 where
  pub kind : after.kind ≡ before.kind
  pub typed : after.typed ≡ true
  pub unstamped : is_unstamped before.select ≡ true → is_unstamped after.select ≡ true
  pub stamped : is_stamped before.select ≡ true → is_stamped after.select ≡ true

abbrev pub Stays : Typing → Typing → Type 0
Stays after before = before.typed ≡ true → Kept after before

sound_typed : (t : Typing) → is_sound t ≡ true → t.typed ≡ true
sound_typed t e = left t.typed (is_unstamped t.select) e

of_sound : (k : Kind) (t : Typing) → is_of k t ≡ true → is_sound t ≡ true
of_sound k t e = left (is_sound t) (is_kind k t.kind) e

sound_stays : (a b : Typing) → Stays a b → is_sound b ≡ true → is_sound a ≡ true
sound_stays a b s e =
    let k : Kept a b = s (sound_typed b e) in
    and a.typed (is_unstamped a.select) k.typed (k.unstamped (right b.typed (is_unstamped b.select) e))

kind_stays : (a b : Typing) → Stays a b → is_sound b ≡ true → a.kind ≡ b.kind
kind_stays a b s e = (s (sound_typed b e)).kind

of_stays : (k : Kind) (a b : Typing) → Stays a b → is_of k b ≡ true → is_of k a ≡ true
of_stays k a b s e =
    let sound : is_sound b ≡ true = of_sound k b e in
    and (is_sound a) (is_kind k a.kind) (sound_stays a b s sound) (ap (is_kind k) (kind_stays a b s sound) ∙ right (is_sound b) (is_kind k b.kind) e)

two_stay : (j k : Kind) (a b c d : Typing) → Stays a c → Stays b d → (is_of j c && is_of k d) ≡ true → (is_of j a && is_of k b) ≡ true
two_stay j k a b c d s r e = both_follow (is_of j c) (is_of k d) (is_of j a) (is_of k b) (of_stays j a c s) (of_stays k b d r) e

all_stay : (xs ys : List Typing) → AllZip Stays xs ys → are_sound ys ≡ true → are_sound xs ≡ true
all_stay [] [] z e = refl
all_stay [] (y ∷ ys) z e = absurd z
all_stay (x ∷ xs) [] z e = absurd z
all_stay (x ∷ xs) (y ∷ ys) z e = both_follow (is_sound y) (are_sound ys) (is_sound x) (are_sound xs) (sound_stays x y z.0) (all_stay xs ys z.1) e

kinds_stay : (xs ys : List Typing) → AllZip Stays xs ys → are_sound ys ≡ true → kinds_of xs ≡ kinds_of ys
kinds_stay [] [] z e = refl
kinds_stay [] (y ∷ ys) z e = absurd z
kinds_stay (x ∷ xs) [] z e = absurd z
kinds_stay (x ∷ xs) (y ∷ ys) z e =
    ap₂ (λ (k : Kind) (ks : List Kind). k ∷ ks) (kind_stays x y z.0 (left (is_sound y) (are_sound ys) e)) (kinds_stay xs ys z.1 (right (is_sound y) (are_sound ys) e))

-- no selector
plainly : (after before : Typing) → after.select ≡ None → after.kind ≡ before.kind → after.typed ≡ true → Kept after before
plainly after before none kind typed = record {
  kind = kind;
  typed = typed;
  unstamped = λ u. ap is_unstamped none;
  stamped = λ s. ap is_stamped none;
}

same : (t : Typing) → Stays t t
same t e = record { kind = refl; typed = e; unstamped = λ u. u; stamped = λ s. s }

-- a node of a first child and of others, whose kinds it takes
over_more : (a b : Typing) (xs ys : List Typing) (fits : Kind → List Kind → Bool) → Stays a b → AllZip Stays xs ys
    → (is_sound b && are_sound ys && fits b.kind (kinds_of ys)) ≡ true → (is_sound a && are_sound xs && fits a.kind (kinds_of xs)) ≡ true
over_more a b xs ys fits s z e =
    let sound : (is_sound b && are_sound ys) ≡ true = left (is_sound b && are_sound ys) (fits b.kind (kinds_of ys)) e in
    let first : is_sound b ≡ true = left (is_sound b) (are_sound ys) sound in
    let rest : are_sound ys ≡ true = right (is_sound b) (are_sound ys) sound in
    and (is_sound a && are_sound xs) (fits a.kind (kinds_of xs)) (and (is_sound a) (are_sound xs) (sound_stays a b s first) (all_stay xs ys z rest))
    (ap₂ fits (kind_stays a b s first) (kinds_stay xs ys z rest) ∙ right (is_sound b && are_sound ys) (fits b.kind (kinds_of ys)) e)

pub levels : (y z : PlanNode-F Typing Typing) → SameNode Stays y z → Stays (node_typing y) (node_typing z)
levels _ _ (number value) = same _
levels _ _ time = same _
levels _ _ (select rules moment stamped) = same _
levels _ _ (range rules moment length) = same _
levels _ _ (subquery a b length step moment s) = λ e. plainly _ _ refl refl (of_stays Vector a b s e)
levels _ _ (element f a b xs ys s z) = λ e.
    let sound : is_sound b ≡ true = left (is_sound b) (are_sound ys) (left (is_sound b && are_sound ys) (is_element f b.kind (kinds_of ys)) e) in
    plainly _ _ refl (ap (element_kind f) (kind_stays a b s sound)) (over_more a b xs ys (is_element f) s z e)
levels _ _ (stamp a b s) = λ e.
    let first : (b.typed && is_stamped b.select) ≡ true = left (b.typed && is_stamped b.select) (is_kind Vector b.kind) e in
    let k : Kept a b = s (left b.typed (is_stamped b.select) first) in
    plainly _ _ refl refl
    (and (a.typed && is_stamped a.select) (is_kind Vector a.kind) (and a.typed (is_stamped a.select) k.typed (k.stamped (right b.typed (is_stamped b.select) first)))
    (ap (is_kind Vector) k.kind ∙ right (b.typed && is_stamped b.select) (is_kind Vector b.kind) e))
levels _ _ (window f a b xs ys s z) = λ e. plainly _ _ refl refl (over_more a b xs ys (is_window f) s z e)
levels _ _ (absent labels a b s) = λ e. plainly _ _ refl refl (of_stays Vector a b s e)
levels _ _ (buckets a b c d s r) = λ e. plainly _ _ refl refl (two_stay Scalar Vector a b c d s r e)
levels _ _ (relabel rule a b s) = λ e. plainly _ _ refl refl (both_follow (is_relabel rule) (is_of Vector b) (is_relabel rule) (is_of Vector a) (λ h. h) (of_stays Vector a b s) e)
levels _ _ (sort down a b s) = λ e. plainly _ _ refl refl (of_stays Vector a b s e)
levels _ _ (scalar_of a b s) = λ e. plainly _ _ refl refl (of_stays Vector a b s e)
levels _ _ (vector_of a b s) = λ e. plainly _ _ refl refl (of_stays Scalar a b s e)
levels _ _ (group f grouping xs ys label z) = λ e.
    let sound : are_sound ys ≡ true = left (are_sound ys) (is_group f (kinds_of ys) label) e in
    plainly _ _ refl refl
    (and (are_sound xs) (is_group f (kinds_of xs) label) (all_stay xs ys z sound) (ap (λ (ks : List Kind). is_group f ks label) (kinds_stay xs ys z sound) ∙ right (are_sound ys) (is_group f (kinds_of ys) label) e))
levels _ _ (pair op a b c d pairing s r) = λ e.
    let sound : (is_sound c && is_sound d) ≡ true = left (is_sound c && is_sound d) (is_pair op pairing c.kind d.kind) e in
    let first : is_sound c ≡ true = left (is_sound c) (is_sound d) sound in
    let second : is_sound d ≡ true = right (is_sound c) (is_sound d) sound in
    plainly _ _ refl (ap₂ both (kind_stays a c s first) (kind_stays b d r second))
    (and (is_sound a && is_sound b) (is_pair op pairing a.kind b.kind) (and (is_sound a) (is_sound b) (sound_stays a c s first) (sound_stays b d r second))
    (ap₂ (is_pair op pairing) (kind_stays a c s first) (kind_stays b d r second) ∙ right (is_sound c && is_sound d) (is_pair op pairing c.kind d.kind) e))
levels _ _ (set op a b c d pairing s r) = λ e. plainly _ _ refl refl (two_stay Vector Vector a b c d s r e)
levels _ _ (filtered a b rules s) = λ e.
    let sound : is_sound b ≡ true = left (is_sound b) (is_kind Vector b.kind || is_kind Windows b.kind) e in
    plainly _ _ refl (kind_stays a b s sound)
    (and (is_sound a) (is_kind Vector a.kind || is_kind Windows a.kind) (sound_stays a b s sound)
    (ap (λ (k : Kind). is_kind Vector k || is_kind Windows k) (kind_stays a b s sound) ∙ right (is_sound b) (is_kind Vector b.kind || is_kind Windows b.kind) e))
levels _ _ (ratio a b c d s r) = λ e. plainly _ _ refl refl (two_stay Vector Vector a b c d s r e)
levels _ _ (once a b s) = λ e.
    let k : Kept a b = s e in
    record { kind = k.kind; typed = k.typed; unstamped = λ u. k.unstamped u; stamped = λ h. k.stamped h }
levels _ _ (gather expr kind engines) = same _

-- ---- plans

pub fits_in : (q p : Plan) → FitsIn q p → Kept (typing q) (typing p)
fits_in q p k = plainly (typing q) (typing p) k.no_selector k.kind k.typed

pub types_stay : DescentsKeepTypes
types_stay f p puts typed =
    let fits : (p q : Plan) → f p ≡ Some q → Stays (typing q) (typing p) = λ p q e h. fits_in q p (puts p q e h) in
    let k : Kept (typing (descended f p)) (typing p) = every f node_typing (λ p. p.node) Stays (λ at y z s. levels y z s) fits p (sound_typed (typing p) typed) in
    (and (typing (descended f p)).typed (is_unstamped (typing (descended f p)).select) k.typed (k.unstamped (right (typing p).typed (is_unstamped (typing p).select) typed)), k.kind)
