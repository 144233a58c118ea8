-- A typed plan stays typed under each rewrite.
use Rattle.std.proofs.Common.{◌≡◌, ◌∙◌, ℕ, List, [], ◌∷◌, ap, ap₂, refl, Bool, true, false, Some, None}
use Rattle.std.specs.Prelude.{◌&&◌, ◌||◌}
use Rattle.func_table.specs.declared.table.Aggregate.TheVariants as aggregate
use Rattle.label_set.specs.declared.rules.Grouping.{Grouping}
use Rattle.label_set.specs.declared.rules.Pairing.{Pairing}
use Rattle.label_set.specs.declared.rules.Rule.{Rule}
use Rattle.xfrac.specs.declared.value.PairOp.{PairOp}
use Rattle.promql_type.specs.Kinds.{both, is_kind}
use Rattle.promql_type.specs.declared.kind.Kind.{Kind}
use Rattle.promql_type.specs.declared.kind.Kind.TheVariants.{Scalar, Vector, Windows, Words}
use Rattle.logical_plan.specs.declared.nodes.Plan.{Plan}
use Rattle.logical_plan.specs.declared.nodes.PlanNode.TheOpen.{PlanNode-F}
use Rattle.logical_plan.specs.PlanTypes.{IsTyped, Typing, are_sound, element_kind, is_element, is_group, is_of, is_pair, is_relabel, is_sound, is_stamped, is_unstamped, is_window, kinds_of, node_typed, node_typing, typing}
use Rattle.plan_rewrite.specs.Rebuilding.{rebuilt}
use Rattle.opt_matchers.specs.Handing.{Operand, hand_rules}
use Rattle.opt_matchers.specs.RuleOrder.{order_rules}
use Rattle.opt_selects.specs.Bases.{merge_selects}
use Rattle.opt_selects.specs.Selectors.{ordered, selectors}
use Rattle.opt_selects.specs.Trimming.{trim}
use Rattle.opt_split_avg.specs.Averages.{split_average}
use Rattle.rewrite_laws.specs.Keeping.{KeepsTypes, StaysTyped}
use Rattle.rewrite_laws.proofs.Ands.{and, left, right}
use Rattle.rewrite_laws.proofs.Follows.{Any, Child, Follows, after_of, bares, before_of, befores, side_of}
use Rattle.rewrite_laws.proofs.Rules.{any_found}
use Rattle.rewrite_laws.proofs.Singles.{handed_follows, merged_follows, ordered_follows, split_follows}
use Rattle.rewrite_laws.proofs.Trimmed.{trimmed_follows}

-- of the same kind, typed, and no stamped selector where the other was none
record Loose (before after : Typing) : Type 0 where
  kind : after.kind ≡ before.kind
  typed : after.typed ≡ true
  unstamped : is_unstamped before.select ≡ true → is_unstamped after.select ≡ true

-- and no selector without a stamp
record Kept (before after : Typing) : Type 0 where
  loose : Loose before after
  stamped : is_stamped before.select ≡ true → is_stamped after.select ≡ true

abbrev Stays : Typing → Typing → Type 0
Stays before after = before.typed ≡ true → Kept before after

stays_same : (before after : Typing) → after ≡ before → Stays before after
stays_same before after e typed = record {
  loose = record {
    kind = ap (λ (t : Typing). t.kind) e;
    typed = ap (λ (t : Typing). t.typed) e ∙ typed;
    unstamped = λ u. ap (λ (t : Typing). is_unstamped t.select) e ∙ u;
  };
  stamped = λ s. ap (λ (t : Typing). is_stamped t.select) e ∙ s;
}

stays_on : (a b c : Typing) → Stays a b → Stays b c → Stays a c
stays_on a b c f g typed =
    let first = f typed in
    let second = g first.loose.typed in
    record {
      loose = record {
        kind = second.loose.kind ∙ first.loose.kind;
        typed = second.loose.typed;
        unstamped = λ u. second.loose.unstamped (first.loose.unstamped u);
      };
      stamped = λ s. second.stamped (first.stamped s);
    }

abbrev LooselyStays : Typing → Typing → Type 0
LooselyStays before after = before.typed ≡ true → Loose before after

abbrev C : Type 0
C = Child Typing LooselyStays Stays

sound_typed : (t : Typing) → is_sound t ≡ true → t.typed ≡ true
sound_typed t e = left t.typed (is_unstamped t.select) e

of_sound : (k : Kind) (t : Typing) → is_of k t ≡ true → is_sound t ≡ true
of_sound k t e = left (is_sound t) (is_kind k t.kind) e

sound_stays : (c : C) → is_sound c.before ≡ true → is_sound c.bare ≡ true
sound_stays c e =
    let l = c.loose (sound_typed c.before e) in
    and c.bare.typed (is_unstamped c.bare.select) l.typed (l.unstamped (right c.before.typed (is_unstamped c.before.select) e))

kind_stays : (c : C) → is_sound c.before ≡ true → c.bare.kind ≡ c.before.kind
kind_stays c e = (c.loose (sound_typed c.before e)).kind

of_stays : (k : Kind) (c : C) → is_of k c.before ≡ true → is_of k c.bare ≡ true
of_stays k c e =
    let s = of_sound k c.before e in
    and (is_sound c.bare) (is_kind k c.bare.kind) (sound_stays c s) (ap (is_kind k) (kind_stays c s) ∙ right (is_sound c.before) (is_kind k c.before.kind) e)

all_stay : (cs : List C) → are_sound (befores cs) ≡ true → are_sound (bares cs) ≡ true
all_stay [] e = refl
all_stay (c ∷ cs) e =
    and (is_sound c.bare) (are_sound (bares cs)) (sound_stays c (left (is_sound c.before) (are_sound (befores cs)) e)) (all_stay cs (right (is_sound c.before) (are_sound (befores cs)) e))

kinds_stay : (cs : List C) → are_sound (befores cs) ≡ true → kinds_of (bares cs) ≡ kinds_of (befores cs)
kinds_stay [] e = refl
kinds_stay (c ∷ cs) e =
    ap₂ (λ (k : Kind) (ks : List Kind). k ∷ ks) (kind_stays c (left (is_sound c.before) (are_sound (befores cs)) e)) (kinds_stay cs (right (is_sound c.before) (are_sound (befores cs)) e))

node_stays : (y : PlanNode-F Typing C) → node_typed (before_of y) ≡ true → Kept (node_typing (before_of y)) (node_typing (after_of y))
node_stays (PlanNode-F.Number value) e = record { loose = record { kind = refl; typed = refl; unstamped = λ u. u }; stamped = λ s. s }
node_stays PlanNode-F.Time e = record { loose = record { kind = refl; typed = refl; unstamped = λ u. u }; stamped = λ s. s }
node_stays (PlanNode-F.Select rules moment stamped) e = record { loose = record { kind = refl; typed = refl; unstamped = λ u. u }; stamped = λ s. s }
node_stays (PlanNode-F.Range rules moment range) e = record { loose = record { kind = refl; typed = refl; unstamped = λ u. u }; stamped = λ s. s }
node_stays (PlanNode-F.Subquery c range step moment) e = record { loose = record { kind = refl; typed = of_stays Vector c e; unstamped = λ u. u }; stamped = λ s. s }
node_stays (PlanNode-F.Element f c cs) e =
    let sound = left (is_sound c.before && are_sound (befores cs)) (is_element f c.before.kind (kinds_of (befores cs))) e in
    let first = left (is_sound c.before) (are_sound (befores cs)) sound in
    let rest = right (is_sound c.before) (are_sound (befores cs)) sound in
    let fits : is_element f c.bare.kind (kinds_of (bares cs)) ≡ true =
    ap₂ (is_element f) (kind_stays c first) (kinds_stay cs rest) ∙ right (is_sound c.before && are_sound (befores cs)) (is_element f c.before.kind (kinds_of (befores cs))) e in
    record { loose = record { kind = ap (element_kind f) (kind_stays c first); typed = and (is_sound c.bare && are_sound (bares cs)) (is_element f c.bare.kind (kinds_of (bares cs))) (and (is_sound c.bare) (are_sound (bares cs)) (sound_stays c first) (all_stay cs rest)) fits; unstamped = λ u. u }; stamped = λ s. s }
node_stays (PlanNode-F.Stamp c) e =
    let first = left (c.before.typed && is_stamped c.before.select) (is_kind Vector c.before.kind) e in
    let k = c.kept (left c.before.typed (is_stamped c.before.select) first) in
    let typed : (c.whole.typed && is_stamped c.whole.select && is_kind Vector c.whole.kind) ≡ true =
    and (c.whole.typed && is_stamped c.whole.select) (is_kind Vector c.whole.kind)
    (and c.whole.typed (is_stamped c.whole.select) k.loose.typed (k.stamped (right c.before.typed (is_stamped c.before.select) first)))
    (ap (is_kind Vector) k.loose.kind ∙ right (c.before.typed && is_stamped c.before.select) (is_kind Vector c.before.kind) e) in
    record { loose = record { kind = refl; typed = typed; unstamped = λ u. u }; stamped = λ s. s }
node_stays (PlanNode-F.Window f c cs) e =
    let sound = left (is_sound c.before && are_sound (befores cs)) (is_window f c.before.kind (kinds_of (befores cs))) e in
    let first = left (is_sound c.before) (are_sound (befores cs)) sound in
    let rest = right (is_sound c.before) (are_sound (befores cs)) sound in
    let fits : is_window f c.bare.kind (kinds_of (bares cs)) ≡ true =
    ap₂ (is_window f) (kind_stays c first) (kinds_stay cs rest) ∙ right (is_sound c.before && are_sound (befores cs)) (is_window f c.before.kind (kinds_of (befores cs))) e in
    record { loose = record { kind = refl; typed = and (is_sound c.bare && are_sound (bares cs)) (is_window f c.bare.kind (kinds_of (bares cs))) (and (is_sound c.bare) (are_sound (bares cs)) (sound_stays c first) (all_stay cs rest)) fits; unstamped = λ u. u }; stamped = λ s. s }
node_stays (PlanNode-F.Absent labels c) e = record { loose = record { kind = refl; typed = of_stays Vector c e; unstamped = λ u. u }; stamped = λ s. s }
node_stays (PlanNode-F.Buckets c d) e = record { loose = record { kind = refl; typed = and (is_of Scalar c.bare) (is_of Vector d.bare) (of_stays Scalar c (left (is_of Scalar c.before) (is_of Vector d.before) e)) (of_stays Vector d (right (is_of Scalar c.before) (is_of Vector d.before) e)); unstamped = λ u. u }; stamped = λ s. s }
node_stays (PlanNode-F.Relabel rule c) e = record { loose = record { kind = refl; typed = and (is_relabel rule) (is_of Vector c.bare) (left (is_relabel rule) (is_of Vector c.before) e) (of_stays Vector c (right (is_relabel rule) (is_of Vector c.before) e)); unstamped = λ u. u }; stamped = λ s. s }
node_stays (PlanNode-F.Sort down c) e = record { loose = record { kind = refl; typed = of_stays Vector c e; unstamped = λ u. u }; stamped = λ s. s }
node_stays (PlanNode-F.ScalarOf c) e = record { loose = record { kind = refl; typed = of_stays Vector c e; unstamped = λ u. u }; stamped = λ s. s }
node_stays (PlanNode-F.VectorOf c) e = record { loose = record { kind = refl; typed = of_stays Scalar c e; unstamped = λ u. u }; stamped = λ s. s }
node_stays (PlanNode-F.Group f grouping cs label) e =
    let rest = left (are_sound (befores cs)) (is_group f (kinds_of (befores cs)) label) e in
    record { loose = record { kind = refl; typed = and (are_sound (bares cs)) (is_group f (kinds_of (bares cs)) label) (all_stay cs rest) (ap (λ (ks : List Kind). is_group f ks label) (kinds_stay cs rest) ∙ right (are_sound (befores cs)) (is_group f (kinds_of (befores cs)) label) e); unstamped = λ u. u }; stamped = λ s. s }
node_stays (PlanNode-F.Pair op c d pairing) e =
    let sound = left (is_sound c.before && is_sound d.before) (is_pair op pairing c.before.kind d.before.kind) e in
    let first = left (is_sound c.before) (is_sound d.before) sound in
    let second = right (is_sound c.before) (is_sound d.before) sound in
    record { loose = record { kind = ap₂ both (kind_stays c first) (kind_stays d second); typed = and (is_sound c.bare && is_sound d.bare) (is_pair op pairing c.bare.kind d.bare.kind) (and (is_sound c.bare) (is_sound d.bare) (sound_stays c first) (sound_stays d second)) (ap₂ (is_pair op pairing) (kind_stays c first) (kind_stays d second) ∙ right (is_sound c.before && is_sound d.before) (is_pair op pairing c.before.kind d.before.kind) e); unstamped = λ u. u }; stamped = λ s. s }
node_stays (PlanNode-F.Set op c d pairing) e = record { loose = record { kind = refl; typed = and (is_of Vector c.bare) (is_of Vector d.bare) (of_stays Vector c (left (is_of Vector c.before) (is_of Vector d.before) e)) (of_stays Vector d (right (is_of Vector c.before) (is_of Vector d.before) e)); unstamped = λ u. u }; stamped = λ s. s }
node_stays (PlanNode-F.Filter c rules) e =
    let first = left (is_sound c.before) (is_kind Vector c.before.kind || is_kind Windows c.before.kind) e in
    record { loose = record { kind = kind_stays c first; typed = and (is_sound c.bare) (is_kind Vector c.bare.kind || is_kind Windows c.bare.kind) (sound_stays c first) (ap (λ (k : Kind). is_kind Vector k || is_kind Windows k) (kind_stays c first) ∙ right (is_sound c.before) (is_kind Vector c.before.kind || is_kind Windows c.before.kind) e); unstamped = λ u. u }; stamped = λ s. s }
node_stays (PlanNode-F.Ratio c d) e = record { loose = record { kind = refl; typed = and (is_of Vector c.bare) (is_of Vector d.bare) (of_stays Vector c (left (is_of Vector c.before) (is_of Vector d.before) e)) (of_stays Vector d (right (is_of Vector c.before) (is_of Vector d.before) e)); unstamped = λ u. u }; stamped = λ s. s }
node_stays (PlanNode-F.Once c) e =
    let k = c.kept e in
    record { loose = record { kind = k.loose.kind; typed = k.loose.typed; unstamped = λ u. k.loose.unstamped u }; stamped = λ s. k.stamped s }
node_stays (PlanNode-F.Gather expr kind engines) e = record { loose = record { kind = refl; typed = e; unstamped = λ u. u }; stamped = λ s. s }

is_vector : (k : Kind) → is_kind Vector k ≡ true → k ≡ Vector
is_vector Scalar e = absurd (cc)
is_vector Vector e = refl
is_vector Windows e = absurd (cc)
is_vector Words e = absurd (cc)

-- a filter over a selector is a vector too
filter_stays : Stays (record { kind = Vector; select = Some false; typed = true }) (record { kind = Vector; select = None; typed = true })
filter_stays e = record { loose = record { kind = refl; typed = refl; unstamped = λ u. refl }; stamped = λ s. refl }

-- sums and counts take what averages do
ratio_stays : (grouping : Grouping) (arguments : List Typing) (label : List ℕ)
    → Stays (node_typing {A = Typing} (PlanNode-F.Group aggregate.Avg grouping arguments label))
    (node_typing {A = Typing} (PlanNode-F.Ratio (node_typing {A = Typing} (PlanNode-F.Group aggregate.Sum grouping arguments label)) (node_typing {A = Typing} (PlanNode-F.Group aggregate.Count grouping arguments label))))
ratio_stays grouping arguments label e = record {
  loose = record {
    kind = refl;
    typed = ap (λ (b : Bool). ((b && true) && true) && ((b && true) && true)) e;
    unstamped = λ u. u;
  };
  stamped = λ s. s;
}

bare_sort_stays : (down : Bool) (c : C) → LooselyStays (node_typing {A = Typing} (PlanNode-F.Sort down c.before)) c.bare
bare_sort_stays down c e =
    let sound = left (is_sound c.before) (is_kind Vector c.before.kind) e in
    let l = c.loose (left c.before.typed (is_unstamped c.before.select) sound) in
    record {
      kind = l.kind ∙ is_vector c.before.kind (right (is_sound c.before) (is_kind Vector c.before.kind) e);
      typed = l.typed;
      unstamped = λ u. l.unstamped (right c.before.typed (is_unstamped c.before.select) sound);
    }

bare_once_stays : (c : C) → LooselyStays (node_typing {A = Typing} (PlanNode-F.Once c.before)) (node_typing {A = Typing} (PlanNode-F.Once c.bare))
bare_once_stays c e =
    let l = c.loose e in
    record { kind = l.kind; typed = l.typed; unstamped = λ u. l.unstamped u }

-- sides of an operator stay what they are
pair_stays : (at : ℕ) (op : PairOp) (a b : Operand) (more other : List Rule) (pairing : Pairing)
    → Stays (node_typing {A = Typing} (PlanNode-F.Pair op (side_of node_typing (λ p. p.node) a a.rules) (side_of node_typing (λ p. p.node) b b.rules) pairing))
    (node_typing {A = Typing} (PlanNode-F.Pair op (side_of node_typing (λ p. p.node) a more) (side_of node_typing (λ p. p.node) b other) pairing))
pair_stays at op a b more other pairing = stays_same _ _ refl

typings_follow : Follows Typing Typing node_typing (λ p. p.node) Any LooselyStays Stays
typings_follow = record {
  itself = λ b. stays_same b b refl;
  joined = stays_on;
  loosely = λ a b k e. (k e).loose;
  levels = λ at y. node_stays y;
  select = λ at rules more moment stamped good. stays_same _ _ refl;
  range = λ at rules more moment length good. stays_same _ _ refl;
  filtered_select = λ at rules base more moment good_base good. filter_stays;
  filtered_range = λ at rules base more moment length good_base good. stays_same _ _ refl;
  pair = λ at op a b more other pairing good_left good_right. pair_stays at op a b more other pairing;
  ratio = λ at grouping arguments label. ratio_stays grouping arguments label;
  bare_sort = λ at down c. bare_sort_stays down c;
  bare_once = λ at c. bare_once_stays c;
}

-- ---- each rewrite

stays_typed : (p q : Plan) → Stays (typing p) (typing q) → IsTyped p → StaysTyped p q
stays_typed p q s e =
    let k = s (left (typing p).typed (is_unstamped (typing p).select) e) in
    record { typed = and (typing q).typed (is_unstamped (typing q).select) k.loose.typed (k.loose.unstamped (right (typing p).typed (is_unstamped (typing p).select) e)); kind = k.loose.kind }

pub ordered_typed : (kept : List (Bool × List ℕ)) → KeepsTypes (rebuilt (order_rules kept))
ordered_typed kept p = stays_typed p _ (ordered_follows node_typing (λ p. p.node) LooselyStays Stays typings_follow kept p)

pub handed_typed : KeepsTypes (rebuilt hand_rules)
handed_typed p = stays_typed p _ (handed_follows node_typing (λ p. p.node) LooselyStays Stays typings_follow p)

pub merged_typed : KeepsTypes (λ p. rebuilt (merge_selects (ordered (selectors p))) p)
merged_typed p = stays_typed p _ (merged_follows node_typing (λ p. p.node) LooselyStays Stays typings_follow p (any_found p))

pub trimmed_typed : KeepsTypes trim
trimmed_typed p = stays_typed p _ (trimmed_follows node_typing (λ p. p.node) LooselyStays Stays typings_follow p)

pub split_typed : KeepsTypes (rebuilt split_average)
split_typed p = stays_typed p _ (split_follows node_typing (λ p. p.node) LooselyStays Stays typings_follow p)
