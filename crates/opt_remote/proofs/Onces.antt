-- What stands under the Once nodes of a plan whose selectors became parts stays the same at each instant.
use Rattle.std.proofs.Common.{◌≡◌, ◌∙◌, ℕ, List, [], ◌∷◌, map, ap, ap₂, sym, refl, Bool, true, false}
use Rattle.std.specs.Prelude.{◌&&◌}
use Rattle.func_table.specs.declared.table.Func.TheVariants as func
use Rattle.label_set.specs.declared.rules.Rule.{Rule}
use Rattle.promql_ast.specs.Folds.{fold-Call, fold-Range, fold-Select}
use Rattle.promql_ast.specs.declared.tree.Expr.{Expr}
use Rattle.promql_ast.specs.declared.tree.Moment.{Moment}
use Rattle.promql_ast.specs.declared.tree.Node.TheOpen.{Node-F}
use Rattle.promql_meaning.specs.Steadiness.{steady_window}
use Rattle.step_table.specs.declared.cells.PartKind.{PartKind}
use Rattle.step_table.specs.declared.cells.PartKind.TheVariants as part
use Rattle.ticks.specs.declared.moment.Ms.{Ms}
use Rattle.logical_plan.specs.declared.nodes.PlanNode.TheOpen.{PlanNode-F}
use Rattle.logical_plan.specs.declared.steadiness.Facts.{Facts}
use Rattle.logical_plan.specs.PlanRules.{selector_of}
use Rattle.logical_plan.specs.Steadiness.{Checked, all_good, all_of, both, constant, is_steady, known_part, node_checked, part_facts, still_if}
use Rattle.opt_remote.specs.Laws.{OncesAreKept}
use Rattle.opt_remote.proofs.Ands.{and, left, right}
use Rattle.opt_remote.proofs.Follows.{Child, Follows, after_of, afters, before_of, befores, instant, ranged, timestamp}
use Rattle.opt_remote.proofs.Rebuilt.{every}

-- times as fixed, and as much that reads the instant
record AreAlike (a b : Facts) : Type 0 where
  fixed : b.fixed ≡ a.fixed
  still : b.still ≡ a.still

-- and values that are as much the samples' own times
record Stays (before after : Checked) : Type 0 where
  alike : AreAlike before.facts after.facts
  good : before.good ≡ true → after.good ≡ true
  own : after.facts.own ≡ before.facts.own

abbrev C : Type 0
C = Child Checked Stays

abbrev facts_of : List Checked → List Facts
facts_of cs = map (λ (c : Checked). c.facts) cs

both_alike : (a b c d : Facts) → AreAlike a c → AreAlike b d → AreAlike (both a b) (both c d)
both_alike a b c d e f = record { fixed = ap₂ (λ (x y : Bool). x && y) e.fixed f.fixed; still = ap₂ (λ (x y : Bool). x && y) e.still f.still }

all_alike : (a b : Facts) (cs : List C) → AreAlike a b → AreAlike (all_of a (facts_of (befores cs))) (all_of b (facts_of (afters cs)))
all_alike a b [] e = e
all_alike a b (c ∷ cs) e = all_alike (both a c.before.facts) (both b c.after.facts) cs (both_alike a c.before.facts b c.after.facts e c.kept.alike)

none_own : (a : Facts) (more : List Facts) → a.own ≡ false → (all_of a more).own ≡ false
none_own a [] e = e
none_own a (b ∷ more) e = none_own (both a b) more refl

same_own : (a b : Facts) (cs : List C) → a.own ≡ false → b.own ≡ false → (all_of b (facts_of (afters cs))).own ≡ (all_of a (facts_of (befores cs))).own
same_own a b cs e f = none_own b (facts_of (afters cs)) f ∙ sym (none_own a (facts_of (befores cs)) e)

itself : (a : Facts) → AreAlike a a
itself a = record { fixed = refl; still = refl }

over_constant : (c : C) → AreAlike (both constant c.before.facts) (both constant c.after.facts)
over_constant c = both_alike constant c.before.facts constant c.after.facts (itself constant) c.kept.alike

still_alike : (b : Bool) (x y : Facts) → AreAlike x y → AreAlike (still_if b x) (still_if b y)
still_alike b x y e = record { fixed = e.fixed; still = ap (λ (s : Bool). b && s) e.still }

all_stay_good : (cs : List C) → all_good (befores cs) ≡ true → all_good (afters cs) ≡ true
all_stay_good [] e = refl
all_stay_good (c ∷ cs) e =
    and c.after.good (all_good (afters cs)) (c.kept.good (left c.before.good (all_good (befores cs)) e)) (all_stay_good cs (right c.before.good (all_good (befores cs)) e))

more_good : (c : C) (cs : List C) → (c.before.good && all_good (befores cs)) ≡ true → (c.after.good && all_good (afters cs)) ≡ true
more_good c cs e = all_stay_good (c ∷ cs) e

two_good : (c d : C) → (c.before.good && d.before.good) ≡ true → (c.after.good && d.after.good) ≡ true
two_good c d e = and c.after.good d.after.good (c.kept.good (left c.before.good d.before.good e)) (d.kept.good (right c.before.good d.before.good e))

steady_alike : (a b : Facts) → AreAlike a b → is_steady b ≡ is_steady a
steady_alike a b e = ap₂ (λ (x y : Bool). x && y) e.fixed e.still

-- what is made of two that are alike
node : (before after : Checked) → AreAlike before.facts after.facts → (before.good ≡ true → after.good ≡ true) → after.facts.own ≡ before.facts.own → Stays before after
node before after alike good own = record { alike = alike; good = good; own = own }

same : (before after : Checked) → after ≡ before → Stays before after
same before after e = record {
  alike = record { fixed = ap (λ (c : Checked). c.facts.fixed) e; still = ap (λ (c : Checked). c.facts.still) e };
  good = λ g. ap (λ (c : Checked). c.good) e ∙ g;
  own = ap (λ (c : Checked). c.facts.own) e;
}

joined : (a b c : Checked) → Stays a b → Stays b c → Stays a c
joined a b c f g = record {
  alike = record { fixed = g.alike.fixed ∙ f.alike.fixed; still = g.alike.still ∙ f.alike.still };
  good = λ e. g.good (f.good e);
  own = g.own ∙ f.own;
}

stamped : (c : C) → AreAlike (still_if c.before.facts.own (both constant c.before.facts)) (still_if c.after.facts.own (both constant c.after.facts))
stamped c = record {
  fixed = (both_alike constant c.before.facts constant c.after.facts (itself constant) c.kept.alike).fixed;
  still = ap₂ (λ (x y : Bool). x && y) c.kept.own (both_alike constant c.before.facts constant c.after.facts (itself constant) c.kept.alike).still;
}

once_good : (before after : Checked) → Stays before after → (before.good && is_steady before.facts) ≡ true → (after.good && is_steady after.facts) ≡ true
once_good before after l e =
    and after.good (is_steady after.facts) (l.good (left before.good (is_steady before.facts) e))
    (steady_alike before.facts after.facts l.alike ∙ right before.good (is_steady before.facts) e)

levels : (y : PlanNode-F Checked C) → Stays (node_checked (before_of y)) (node_checked (after_of y))
levels (PlanNode-F.Number value) = same _ _ refl
levels PlanNode-F.Time = same _ _ refl
levels (PlanNode-F.Select rules moment stamped) = same _ _ refl
levels (PlanNode-F.Range rules moment range) = same _ _ refl
levels (PlanNode-F.Subquery c range step moment) = node _ _ (record { fixed = refl; still = c.kept.alike.still }) (λ e. c.kept.good e) refl
levels (PlanNode-F.Element f c cs) = node _ _ (all_alike _ _ cs (over_constant c)) (more_good c cs) (same_own (both constant c.before.facts) (both constant c.after.facts) cs refl refl)
levels (PlanNode-F.Stamp c) = node _ _ (stamped c) (λ e. c.kept.good e) refl
levels (PlanNode-F.Window f c cs) = node _ _ (still_alike (steady_window f) _ _ (all_alike _ _ cs (over_constant c))) (more_good c cs) (same_own (both constant c.before.facts) (both constant c.after.facts) cs refl refl)
levels (PlanNode-F.Absent labels c) = node _ _ (over_constant c) (λ e. c.kept.good e) refl
levels (PlanNode-F.Buckets c d) = node _ _ (both_alike _ _ _ _ c.kept.alike d.kept.alike) (two_good c d) refl
levels (PlanNode-F.Relabel rule c) = node _ _ (over_constant c) (λ e. c.kept.good e) refl
levels (PlanNode-F.Sort down c) = node _ _ (over_constant c) (λ e. c.kept.good e) refl
levels (PlanNode-F.ScalarOf c) = node _ _ (over_constant c) (λ e. c.kept.good e) refl
levels (PlanNode-F.VectorOf c) = node _ _ (over_constant c) (λ e. c.kept.good e) refl
levels (PlanNode-F.Group f grouping cs label) = node _ _ (all_alike constant constant cs (itself constant)) (all_stay_good cs) (same_own constant constant cs refl refl)
levels (PlanNode-F.Pair op c d pairing) = node _ _ (both_alike _ _ _ _ c.kept.alike d.kept.alike) (two_good c d) refl
levels (PlanNode-F.Set op c d pairing) = node _ _ (both_alike _ _ _ _ c.kept.alike d.kept.alike) (two_good c d) refl
levels (PlanNode-F.Filter c rules) = node _ _ (record { fixed = c.kept.alike.fixed; still = c.kept.alike.still }) (λ e. c.kept.good e) refl
levels (PlanNode-F.Ratio c d) = node _ _ (both_alike _ _ _ _ c.kept.alike d.kept.alike) (two_good c d) refl
levels (PlanNode-F.Once c) = node _ _ c.kept.alike (once_good c.before c.after c.kept) c.kept.own
levels (PlanNode-F.Gather expr kind engines) = same _ _ refl

-- ---- parts

-- a part whose facts are known
part_stays : (before : Checked) (e : Expr) (kind : PartKind) (engines : List ℕ) (facts : Facts) → known_part e ≡ facts → AreAlike before.facts facts → before.facts.own ≡ false
    → Stays before (node_checked (PlanNode-F.Gather e kind engines))
part_stays before e kind engines facts is alike own = record {
  alike = record { fixed = ap (λ (f : Facts). f.fixed) is ∙ alike.fixed; still = ap (λ (f : Facts). f.still) is ∙ alike.still };
  good = λ g. refl;
  own = sym own;
}

instant_known : (at : ℕ) (rules : List Rule) (moment : Moment) → known_part (instant at rules moment) ≡ part_facts (Node-F.Select (selector_of rules moment))
instant_known at rules moment = fold-Select part_facts (λ e. e.node) (instant at rules moment) (selector_of rules moment) refl

timestamp_known : (at within : ℕ) (rules : List Rule) (moment : Moment)
    → known_part (timestamp at within rules moment) ≡ part_facts (Node-F.Call func.Timestamp (part_facts (Node-F.Select (selector_of rules moment)) ∷ []))
timestamp_known at within rules moment =
    fold-Call part_facts (λ e. e.node) (timestamp at within rules moment) func.Timestamp (instant within rules moment ∷ []) refl
    ∙ ap (λ (f : Facts). part_facts (Node-F.Call func.Timestamp (f ∷ []))) (instant_known within rules moment)

range_known : (at : ℕ) (rules : List Rule) (moment : Moment) (range : Ms) → known_part (ranged at rules moment range) ≡ part_facts (Node-F.Range (selector_of rules moment) range)
range_known at rules moment range = fold-Range part_facts (λ e. e.node) (ranged at rules moment range) (selector_of rules moment) range refl

onces_follow : (engines : List ℕ) → Follows Checked Checked node_checked (λ p. p.node) Stays engines
onces_follow engines = record {
  itself = λ b. same b b refl;
  joined = joined;
  levels = λ at y. levels y;
  rows = λ at rules moment. part_stays _ (instant at rules moment) part.Rows engines _ (instant_known at rules moment) (record { fixed = refl; still = refl }) refl;
  times = λ at within rules moment. part_stays _ (timestamp at within rules moment) part.Rows engines _ (timestamp_known at within rules moment) (record { fixed = refl; still = refl }) refl;
  windows = λ at rules moment range. part_stays _ (ranged at rules moment range) part.Windows engines _ (range_known at rules moment range) (record { fixed = refl; still = refl }) refl;
  onces = λ at within rules moment. record { alike = record { fixed = refl; still = refl }; good = λ g. refl; own = refl };
}

-- ---- the law

pub onces_are_kept : OncesAreKept
onces_are_kept engines kept p e = (every node_checked (λ p. p.node) Stays engines (onces_follow engines) kept p).good e
