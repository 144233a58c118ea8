-- Parts over parts: what may be fed, and what is given.
use Rattle.std.proofs.Common.{◌≡◌, ◌++◌, Bool, true, false, List, refl, sym, subst}
use Rattle.std.proofs.lemmas.List.{append-nil}
use Rattle.std.specs.Prelude.{ℤ, IfOk, IsTrue, Result, Ok, Err, not}
use Rattle.exchange.specs.Asked.{MayRequest}
use Rattle.exchange.specs.declared.request.Request.{Request}
use Rattle.func_table.specs.declared.table.Element.{Element}
use Rattle.func_table.specs.declared.table.Element.TheVariants.{Neg}
use Rattle.logical_plan.specs.declared.nodes.Plan.{Plan}
use Rattle.op_element.specs.Rules.{element_step}
use Rattle.op_element.specs.declared.formula.ElementRule.{ElementRule}
use Rattle.op_element.specs.declared.formula.ElementRule.TheVariants as formula
use Rattle.op_labels.specs.Rules.{Kept}
use Rattle.op_small.specs.Rules.{small}
use Rattle.op_small.specs.declared.rule.SmallRule.{SmallRule}
use Rattle.op_small.specs.declared.rule.SmallRule.TheVariants.{Number}
use Rattle.plan_tree.specs.Asking.{HaveRequests}
use Rattle.plan_tree.specs.Nodes.{MayStart, shape_of}
use Rattle.plan_tree.specs.Shapes.{BinaryOf, ClampOf, InstantsOf, IsFit, Shape, StaysInTimes, UnaryOf, is_scalar, places_of, rule}
use Rattle.plan_tree.specs.Spending.{IsFresh}
use Rattle.plan_tree.specs.Worlds.{Gathers, world}
use Rattle.plan_work.specs.PlanLaws.{AreBeside, IsOver, IsThree}
use Rattle.plan_work.specs.TreeBounds.{StaysWithin}
use Rattle.promql_meaning.specs.Givens.{barren, no_marks}
use Rattle.promql_meaning.specs.Selecting.{AllSeries, Asked}
use Rattle.step_kernels.specs.Binaries.{binary_step}
use Rattle.step_kernels.specs.Unaries.{reads_rows, unary_step}
use Rattle.step_kernels.specs.declared.binary.BinaryRule.{BinaryRule}
use Rattle.step_kernels.specs.declared.unary.UnaryRule.{UnaryRule}
use Rattle.step_kernels.specs.declared.unary.UnaryRule.TheVariants as unary
use Rattle.step_table.specs.declared.step.Step.{Step}
use Rattle.ticks.specs.Listed.{IsListed}
use Rattle.ticks.specs.Walks.{IsInstant}
use Rattle.ticks.specs.declared.grid.Grid.{Grid}
use Rattle.ticks.specs.declared.moment.Ms.{Ms}
use Rattle.ticks.specs.declared.walk.Walk.{Walk}
use Rattle.xfrac.specs.declared.value.XFrac.{XFrac}
use Rattle.plan_parts.specs.Gathered.{IsQueryOver}
use Rattle.plan_parts.specs.Gives.{Gives}
use Rattle.plan_parts.specs.Requested.{AreAdded, AreMeant, EachAdded, HaveOwn, MayMake}
use Rattle.plan_parts.specs.Parts.{IsBesideNumber, IsBinary, IsAskedIn, IsChild, IsClamp, IsInstants, IsMade, IsPart, IsPartOf, IsUnary, OncesStay, below, keeps_scalar, under}
use Rattle.plan_parts.specs.declared.parts.Part.{Part}
use Rattle.plan_parts.specs.declared.unbuilt.Unbuilt.{Unbuilt}
use Rattle.plan_parts.specs.Adding.{AreBothAdded, added_then, each_as, each_both, each_none, in_order, meant_before, none_added, own_both, own_none, requests_stay}

pub ok_then : {X E : Type 0} {P Q : X → Type 0} (r : Result X E) → IfOk r P → ((x : X) → P x → Q x) → IfOk r Q
ok_then (Ok x) h f = f x h
ok_then (Err e) h f = h

-- a part that was built
pub part_at : (asked : Asked) (walk : Walk) (before now : List Request) (p : Plan) (built : Result Part Unbuilt) (part : Part) → built ≡ Ok part → IsPartOf asked walk before now p built → IsPart asked walk before now p part
part_at asked walk before now p built part e i = subst (λ (r : Result Part Unbuilt). IsPartOf asked walk before now p r) e i

abbrev built : Part → Result Part Unbuilt
built part = Ok part

pub same_part : (a b : Part) → built a ≡ built b → a ≡ b
same_part a b e = cc

pub not_true : (b : Bool) → IsTrue (not b) → b ≡ false
not_true true h = absurd (cc)
not_true false h = refl

-- minus of a scalar is a scalar
pub keeps_one : (f : Element) (scalar : Bool) (shape : Shape) → (IsTrue scalar → IsTrue (is_scalar shape)) → IsTrue (keeps_scalar f scalar) → IsTrue (is_scalar (UnaryOf (unary.Apply (formula.Apply f)) shape))
keeps_one Neg scalar shape k h = k h
keeps_one f scalar shape k h = absurd (cc)

pub onces_below : (asked : Asked) (c p : Plan) → IsChild c p → OncesStay asked p → OncesStay asked c
onces_below asked c p child stay = record { same = λ q once. stay.same q (below c p child once) }

-- requests of a child are some of the plan
pub named_below : (c p : Plan) (before now : List Request) → IsChild c p → EachAdded (λ (r : Request). IsAskedIn r c) before now → EachAdded (λ (r : Request). IsAskedIn r p) before now
named_below c p before now child = each_as (λ (r : Request). IsAskedIn r c) (λ (r : Request). IsAskedIn r p) before now (λ r is. under c p child is)

-- a part of the same plan, over the same samples
pub part_as : (asked given_asked : Asked) (walk : Walk) (before now : List Request) (p given : Plan) (part : Part) → given_asked ≡ asked → given ≡ p → IsPart given_asked walk before now given part → IsPart asked walk before now p part
part_as asked given_asked walk before now p given part a g i = subst (λ (q : Plan). IsPart asked walk before now q part) g (subst (λ (z : Asked). IsPart z walk before now given part) a i)

module _ (asked : Asked) (walk : Walk) (before now : List Request) (p : Plan) (part : Part) where
  abbrev S : AllSeries
  S = asked.samples

  abbrev K : Kept
  K = asked.kept

  -- what is given by a tree of this shape
  gives_as : (gathers : Gathers) (shape : Shape) (scalar : Bool) → IsMade part shape scalar → Gives asked (IsInstant walk) p scalar false (rule (world S gathers) K shape)
      → Gives asked (IsInstant walk) p part.scalar part.own (rule (world S gathers) K (shape_of part.tree))
  gives_as gathers shape scalar m g =
      subst (λ (b : Bool). Gives asked (IsInstant walk) p b part.own (rule (world S gathers) K (shape_of part.tree))) (sym m.scalar_is)
      (subst (λ (o : Bool). Gives asked (IsInstant walk) p scalar o (rule (world S gathers) K (shape_of part.tree))) (sym m.plain)
      (subst (λ (s : Shape). Gives asked (IsInstant walk) p scalar false (rule (world S gathers) K s)) (sym m.shape_is) g))

  -- a part of this shape
  shaped : (shape : Shape) (scalar : Bool) → IsMade part shape scalar → IsFit S shape → MayStart S K part.tree → AreAdded before now → HaveOwn before now (places_of shape) → ((times : List Ms) → IsListed walk times → HaveRequests now times part.tree) → EachAdded (λ (r : Request). IsAskedIn r p) before now → ((span : Grid) → IsQueryOver span K asked → MayMake span K before now)
      → ((t : ℤ) → IsInstant walk t → StaysInTimes shape t) → IsFresh part.tree → (IsTrue scalar → IsTrue (is_scalar shape))
      → ((gathers : Gathers) → AreMeant asked now gathers → OncesStay asked p → Gives asked (IsInstant walk) p scalar false (rule (world S gathers) K shape)) → StaysWithin asked walk p (shape_of part.tree) → IsPart asked walk before now p part
  shaped shape scalar m fit can added owns asks named make times fresh one gives within = record {
    sound = record {
      fit = subst (IsFit S) (sym m.shape_is) fit;
      can = can;
      times = λ t i. subst (λ (s : Shape). StaysInTimes s t) (sym m.shape_is) (times t i);
      fresh = fresh;
    };
    added = added;
    owns = subst (λ (s : Shape). HaveOwn before now (places_of s)) (sym m.shape_is) owns;
    asks = asks;
    named = named;
    make = make;
    scalar = λ h. subst (λ (s : Shape). IsTrue (is_scalar s)) (sym m.shape_is) (one (subst IsTrue m.scalar_is h));
    gives = λ gathers meant stay. gives_as gathers shape scalar m (gives gathers meant stay);
    within = within;
  }

  pub instants_part : (one : SmallRule) → before ≡ now → IsInstants one part → IsTrue (not (reads_rows one)) → Gives asked (IsInstant walk) p true false (λ t. small one t (barren no_marks)) → IsPart asked walk before now p part
  instants_part one same m fit g =
      shaped (InstantsOf one) true m.made fit (m.can S K) (subst (AreAdded before) same (none_added before)) (own_none before now) (λ times listed. m.asks now times) (subst (EachAdded (λ (r : Request). IsAskedIn r p) before) same (each_none (λ (r : Request). IsAskedIn r p) before)) (λ span over. subst (MayMake span K before) same (each_none (MayRequest span K) before)) (λ t i. tt) m.fresh (λ h. refl) (λ gathers meant stay. g) (m.within asked walk p)

  pub unary_part : (kept : Kept) (one : UnaryRule) (scalar : Bool) (inner : Plan) (rows : Part) → kept ≡ K → IsUnary kept one scalar rows part → IsPart asked walk before now inner rows → IsChild inner p → IsOver inner p
      → (IsTrue scalar → IsTrue (is_scalar (UnaryOf one (shape_of rows.tree))))
      → ((f : ℤ → Step) → Gives asked (IsInstant walk) inner rows.scalar rows.own f → Gives asked (IsInstant walk) p scalar false (λ t. unary_step K one t (f t))) → IsPart asked walk before now p part
  unary_part kept one scalar inner rows k u r c o h g =
      let can : MayStart S K part.tree = subst (λ (z : Kept). MayStart S z part.tree) k (u.can S (subst (λ (z : Kept). MayStart S z rows.tree) (sym k) r.sound.can)) in
      shaped (UnaryOf one (shape_of rows.tree)) scalar u.made r.sound.fit can r.added r.owns (λ times listed. u.asks now times (r.asks times listed)) (named_below inner p before now c r.named) r.make r.sound.times (u.fresh r.sound.fresh) h
      (λ gathers meant stay. g (rule (world S gathers) K (shape_of rows.tree)) (r.gives gathers meant (onces_below asked inner p c stay)))
      (u.within asked walk inner p o r.within)

  -- where a number stands beside the rows
  pub number_part : (one : BinaryRule) (value : XFrac) (first : Plan) (rows : Part) → IsBesideNumber one value rows part → IsPart asked walk before now first rows → IsChild first p → IsOver first p
      → ((f : ℤ → Step) → Gives asked (IsInstant walk) first rows.scalar rows.own f → Gives asked (IsInstant walk) p false false (λ t. binary_step one (f t) (small (Number value) t (barren no_marks)))) → IsPart asked walk before now p part
  number_part one value first rows m r c o g =
      shaped (BinaryOf one (shape_of rows.tree) (InstantsOf (Number value))) false m.made (λ w. refl, r.sound.fit, refl) (m.can S K r.sound.can) r.added (subst (HaveOwn before now) (sym (append-nil (places_of (shape_of rows.tree)))) r.owns)
      (λ times listed. m.asks now times (r.asks times listed)) (named_below first p before now c r.named) r.make (λ t i. (r.sound.times t i, tt)) (m.fresh r.sound.fresh) (λ h. absurd (cc))
      (λ gathers meant stay. g (rule (world S gathers) K (shape_of rows.tree)) (r.gives gathers meant (onces_below asked first p c stay))) (m.within asked walk first p o r.within)

  module _ (from until start end : List Request) (order : AreBothAdded before now from until start end) where
    pub binary_part : (one : BinaryRule) (scalar : Bool) (first second : Plan) (rows beside : Part) → IsBinary one scalar rows beside part → IsPart asked walk from until first rows → IsPart asked walk start end second beside
        → IsChild first p → IsChild second p → AreBeside first second p → (IsTrue scalar → IsTrue (is_scalar (BinaryOf one (shape_of rows.tree) (shape_of beside.tree))))
        → ((f h : ℤ → Step) → Gives asked (IsInstant walk) first rows.scalar rows.own f → Gives asked (IsInstant walk) second beside.scalar beside.own h → Gives asked (IsInstant walk) p scalar false (λ t. binary_step one (f t) (h t)))
        → IsPart asked walk before now p part
    binary_part one scalar first second rows beside b r q c d o h g =
        shaped (BinaryOf one (shape_of rows.tree) (shape_of beside.tree)) scalar b.made (λ w. q.scalar (b.reads w), r.sound.fit, q.sound.fit) (b.can S K r.sound.can q.sound.can) order.all
        (own_both before now from until start end (places_of (shape_of rows.tree)) (places_of (shape_of beside.tree)) order r.owns q.owns)
        (λ times listed. b.asks now times (requests_stay until now order.first_now times rows.tree (r.asks times listed)) (requests_stay end now order.second_now times beside.tree (q.asks times listed)))
        (each_both (λ (x : Request). IsAskedIn x p) before now from until start end order (named_below first p from until c r.named) (named_below second p start end d q.named))
        (λ span over. each_both (MayRequest span K) before now from until start end order (r.make span over) (q.make span over))
        (λ t i. (r.sound.times t i, q.sound.times t i)) (b.fresh r.sound.fresh q.sound.fresh) h
        (λ gathers meant stay.
        g (rule (world S gathers) K (shape_of rows.tree)) (rule (world S gathers) K (shape_of beside.tree)) (r.gives gathers (meant_before asked until now gathers order.first_now meant) (onces_below asked first p c stay))
        (q.gives gathers (meant_before asked end now gathers order.second_now meant) (onces_below asked second p d stay)))
        (b.within asked walk first second p o r.within q.within)

  module _ (one two : List Request) (added : AreAdded before one) (more : AreAdded one two) (most : AreAdded two now) where
    each_three : (Is : Request → Type 0) → EachAdded Is before one → EachAdded Is one two → EachAdded Is two now → EachAdded Is before now
    each_three Is f g h =
        each_both Is before now before one one now (in_order before one now added (added_then one two now more most)) f (each_both Is one now one two two now (in_order one two now more most) g h)

    pub clamp_part : (rule_is : ElementRule) (first second third : Plan) (rows low high : Part) → IsClamp rule_is rows low high part → IsPart asked walk before one first rows → IsPart asked walk one two second low → IsPart asked walk two now third high
        → IsChild first p → IsChild second p → IsChild third p → IsThree first second third p
        → ((f g h : ℤ → Step) → Gives asked (IsInstant walk) first rows.scalar rows.own f → Gives asked (IsInstant walk) second low.scalar low.own g → Gives asked (IsInstant walk) third high.scalar high.own h
        → Gives asked (IsInstant walk) p false false (λ t. element_step rule_is (g t) (h t) (f t)))
        → IsPart asked walk before now p part
    clamp_part rule_is first second third rows low high b r l h c d e o g =
        let behind = added_then one two now more most in
        let xs = places_of (shape_of rows.tree) in
        let ys = places_of (shape_of low.tree) in
        let zs = places_of (shape_of high.tree) in
        shaped (ClampOf rule_is (shape_of rows.tree) (shape_of low.tree) (shape_of high.tree)) false b.made
        (l.scalar b.scalars.0, h.scalar b.scalars.1, r.sound.fit, l.sound.fit, h.sound.fit) (b.can S K r.sound.can l.sound.can h.sound.can) (added_then before one now added behind)
        (own_both before now before one one now xs (ys ++ zs) (in_order before one now added behind) r.owns (own_both one now one two two now ys zs (in_order one two now more most) l.owns h.owns))
        (λ times listed. b.asks now times (requests_stay one now behind times rows.tree (r.asks times listed)) (requests_stay two now most times low.tree (l.asks times listed)) (h.asks times listed))
        (each_three (λ (x : Request). IsAskedIn x p) (named_below first p before one c r.named) (named_below second p one two d l.named) (named_below third p two now e h.named))
        (λ span over. each_three (MayRequest span K) (r.make span over) (l.make span over) (h.make span over))
        (λ t i. (r.sound.times t i, l.sound.times t i, h.sound.times t i)) (b.fresh r.sound.fresh l.sound.fresh h.sound.fresh) (λ w. absurd (cc))
        (λ gathers meant stay.
        g (rule (world S gathers) K (shape_of rows.tree)) (rule (world S gathers) K (shape_of low.tree)) (rule (world S gathers) K (shape_of high.tree))
        (r.gives gathers (meant_before asked one now gathers behind meant) (onces_below asked first p c stay)) (l.gives gathers (meant_before asked two now gathers most meant) (onces_below asked second p d stay))
        (h.gives gathers meant (onces_below asked third p e stay)))
        (b.within asked walk first second third p o r.within l.within h.within)
