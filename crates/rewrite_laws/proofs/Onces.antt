-- What stands under Once nodes stays the same at each instant under each rewrite.
use Rattle.std.proofs.Common.{◌≡◌, ◌∙◌, ℕ, List, [], ◌∷◌, map, ap, ap₂, sym, refl, Bool, true, false}
use Rattle.std.specs.Prelude.{◌&&◌}
use Rattle.func_table.specs.declared.table.Aggregate.TheVariants as aggregate
use Rattle.label_set.specs.declared.rules.Grouping.{Grouping}
use Rattle.promql_meaning.specs.Steadiness.{steady_window}
use Rattle.logical_plan.specs.declared.steadiness.Facts.{Facts}
use Rattle.logical_plan.specs.declared.nodes.PlanNode.TheOpen.{PlanNode-F}
use Rattle.logical_plan.specs.Steadiness.{Checked, all_good, all_of, both, constant, is_steady, node_checked, still_if}
use Rattle.plan_rewrite.specs.Rebuilding.{rebuilt}
use Rattle.opt_matchers.specs.Handing.{hand_rules}
use Rattle.opt_matchers.specs.RuleOrder.{order_rules}
use Rattle.opt_pushdown.specs.Pushing.{push_filter}
use Rattle.opt_selects.specs.Bases.{merge_selects}
use Rattle.opt_selects.specs.Selectors.{ordered, selectors}
use Rattle.opt_selects.specs.Trimming.{trim}
use Rattle.opt_split_avg.specs.Averages.{split_average}
use Rattle.rewrite_laws.specs.Keeping.{KeepsOnces}
use Rattle.rewrite_laws.proofs.Ands.{and, left, right}
use Rattle.rewrite_laws.proofs.Follows.{Any, Child, Follows, Pushes, after_of, bares, before_of, befores}
use Rattle.rewrite_laws.proofs.Rules.{any_found}
use Rattle.rewrite_laws.proofs.Singles.{handed_follows, merged_follows, ordered_follows, pushed_follows, split_follows}
use Rattle.rewrite_laws.proofs.Trimmed.{trimmed_follows}

-- times as fixed, and as much that reads the instant
record AreAlike (a b : Facts) : Type 0 where
  fixed : b.fixed ≡ a.fixed
  still : b.still ≡ a.still

record Loose (before after : Checked) : Type 0 where
  alike : AreAlike before.facts after.facts
  good : before.good ≡ true → after.good ≡ true

-- and values that are as much the samples' own times
record Kept (before after : Checked) : Type 0 where
  loose : Loose before after
  own : after.facts.own ≡ before.facts.own

abbrev C : Type 0
C = Child Checked Loose Kept

abbrev facts_of : List Checked → List Facts
facts_of cs = map (λ (c : Checked). c.facts) cs

both_alike : (a b c d : Facts) → AreAlike a c → AreAlike b d → AreAlike (both a b) (both c d)
both_alike a b c d e f = record { fixed = ap₂ (λ (x y : Bool). x && y) e.fixed f.fixed; still = ap₂ (λ (x y : Bool). x && y) e.still f.still }

all_alike : (a b : Facts) (cs : List C) → AreAlike a b → AreAlike (all_of a (facts_of (befores cs))) (all_of b (facts_of (bares cs)))
all_alike a b [] e = e
all_alike a b (c ∷ cs) e = all_alike (both a c.before.facts) (both b c.bare.facts) cs (both_alike a c.before.facts b c.bare.facts e c.loose.alike)

none_own : (a : Facts) (more : List Facts) → a.own ≡ false → (all_of a more).own ≡ false
none_own a [] e = e
none_own a (b ∷ more) e = none_own (both a b) more refl

same_own : (a b : Facts) (cs : List C) → a.own ≡ false → b.own ≡ false → (all_of b (facts_of (bares cs))).own ≡ (all_of a (facts_of (befores cs))).own
same_own a b cs e f = none_own b (facts_of (bares cs)) f ∙ sym (none_own a (facts_of (befores cs)) e)

itself : (a : Facts) → AreAlike a a
itself a = record { fixed = refl; still = refl }

over_constant : (c : C) → AreAlike (both constant c.before.facts) (both constant c.bare.facts)
over_constant c = both_alike constant c.before.facts constant c.bare.facts (itself constant) c.loose.alike

still_alike : (b : Bool) (x y : Facts) → AreAlike x y → AreAlike (still_if b x) (still_if b y)
still_alike b x y e = record { fixed = e.fixed; still = ap (λ (s : Bool). b && s) e.still }

all_stay_good : (cs : List C) → all_good (befores cs) ≡ true → all_good (bares cs) ≡ true
all_stay_good [] e = refl
all_stay_good (c ∷ cs) e =
    and c.bare.good (all_good (bares cs)) (c.loose.good (left c.before.good (all_good (befores cs)) e)) (all_stay_good cs (right c.before.good (all_good (befores cs)) e))

more_good : (c : C) (cs : List C) → (c.before.good && all_good (befores cs)) ≡ true → (c.bare.good && all_good (bares cs)) ≡ true
more_good c cs e = all_stay_good (c ∷ cs) e

two_good : (c d : C) → (c.before.good && d.before.good) ≡ true → (c.bare.good && d.bare.good) ≡ true
two_good c d e = and c.bare.good d.bare.good (c.loose.good (left c.before.good d.before.good e)) (d.loose.good (right c.before.good d.before.good e))

steady_alike : (a b : Facts) → AreAlike a b → is_steady b ≡ is_steady a
steady_alike a b e = ap₂ (λ (x y : Bool). x && y) e.fixed e.still

-- what is made of two that are alike
node : (before after : Checked) → AreAlike before.facts after.facts → (before.good ≡ true → after.good ≡ true) → after.facts.own ≡ before.facts.own → Kept before after
node before after alike good own = record { loose = record { alike = alike; good = good }; own = own }

same : (before after : Checked) → after ≡ before → Kept before after
same before after e = record {
  loose = record {
    alike = record { fixed = ap (λ (c : Checked). c.facts.fixed) e; still = ap (λ (c : Checked). c.facts.still) e };
    good = λ g. ap (λ (c : Checked). c.good) e ∙ g;
  };
  own = ap (λ (c : Checked). c.facts.own) e;
}

joined : (a b c : Checked) → Kept a b → Kept b c → Kept a c
joined a b c f g = record {
  loose = record {
    alike = record { fixed = g.loose.alike.fixed ∙ f.loose.alike.fixed; still = g.loose.alike.still ∙ f.loose.alike.still };
    good = λ e. g.loose.good (f.loose.good e);
  };
  own = g.own ∙ f.own;
}

stamped : (c : C) → AreAlike (still_if c.before.facts.own (both constant c.before.facts)) (still_if c.whole.facts.own (both constant c.whole.facts))
stamped c = record {
  fixed = (both_alike constant c.before.facts constant c.whole.facts (itself constant) c.kept.loose.alike).fixed;
  still = ap₂ (λ (x y : Bool). x && y) c.kept.own (both_alike constant c.before.facts constant c.whole.facts (itself constant) c.kept.loose.alike).still;
}

once_good : (before after : Checked) → Loose before after → (before.good && is_steady before.facts) ≡ true → (after.good && is_steady after.facts) ≡ true
once_good before after l e =
    and after.good (is_steady after.facts) (l.good (left before.good (is_steady before.facts) e))
    (steady_alike before.facts after.facts l.alike ∙ right before.good (is_steady before.facts) e)

levels : (y : PlanNode-F Checked C) → Kept (node_checked (before_of y)) (node_checked (after_of y))
levels (PlanNode-F.Number value) = same _ _ refl
levels PlanNode-F.Time = same _ _ refl
levels (PlanNode-F.Select rules moment stamped) = same _ _ refl
levels (PlanNode-F.Range rules moment range) = same _ _ refl
levels (PlanNode-F.Subquery c range step moment) = node _ _ (record { fixed = refl; still = c.loose.alike.still }) (λ e. c.loose.good e) refl
levels (PlanNode-F.Element f c cs) = node _ _ (all_alike _ _ cs (over_constant c)) (more_good c cs) (same_own (both constant c.before.facts) (both constant c.bare.facts) cs refl refl)
levels (PlanNode-F.Stamp c) = node _ _ (stamped c) (λ e. c.kept.loose.good e) refl
levels (PlanNode-F.Window f c cs) = node _ _ (still_alike (steady_window f) _ _ (all_alike _ _ cs (over_constant c))) (more_good c cs) (same_own (both constant c.before.facts) (both constant c.bare.facts) cs refl refl)
levels (PlanNode-F.Absent labels c) = node _ _ (over_constant c) (λ e. c.loose.good e) refl
levels (PlanNode-F.Buckets c d) = node _ _ (both_alike _ _ _ _ c.loose.alike d.loose.alike) (two_good c d) refl
levels (PlanNode-F.Relabel rule c) = node _ _ (over_constant c) (λ e. c.loose.good e) refl
levels (PlanNode-F.Sort down c) = node _ _ (over_constant c) (λ e. c.loose.good e) refl
levels (PlanNode-F.ScalarOf c) = node _ _ (over_constant c) (λ e. c.loose.good e) refl
levels (PlanNode-F.VectorOf c) = node _ _ (over_constant c) (λ e. c.loose.good e) refl
levels (PlanNode-F.Group f grouping cs label) = node _ _ (all_alike constant constant cs (itself constant)) (all_stay_good cs) (same_own constant constant cs refl refl)
levels (PlanNode-F.Pair op c d pairing) = node _ _ (both_alike _ _ _ _ c.loose.alike d.loose.alike) (two_good c d) refl
levels (PlanNode-F.Set op c d pairing) = node _ _ (both_alike _ _ _ _ c.loose.alike d.loose.alike) (two_good c d) refl
levels (PlanNode-F.Filter c rules) = node _ _ (record { fixed = c.loose.alike.fixed; still = c.loose.alike.still }) (λ e. c.loose.good e) refl
levels (PlanNode-F.Ratio c d) = node _ _ (both_alike _ _ _ _ c.loose.alike d.loose.alike) (two_good c d) refl
levels (PlanNode-F.Once c) = node _ _ c.kept.loose.alike (once_good c.before c.whole c.kept.loose) c.kept.own
levels (PlanNode-F.Gather expr kind engines) = same _ _ refl

twice : (b : Bool) → (b && b) ≡ b
twice true = refl
twice false = refl

ratio : (grouping : Grouping) (cs : List Checked) (label : List ℕ)
    → Kept (node_checked (PlanNode-F.Group aggregate.Avg grouping cs label))
    (node_checked (PlanNode-F.Ratio (node_checked (PlanNode-F.Group aggregate.Sum grouping cs label)) (node_checked (PlanNode-F.Group aggregate.Count grouping cs label))))
ratio grouping cs label =
    node _ _ (record { fixed = twice (all_of constant (facts_of cs)).fixed; still = twice (all_of constant (facts_of cs)).still })
    (λ e. and (all_good cs) (all_good cs) e e) (sym (none_own constant (facts_of cs) refl))

onces_follow : Follows Checked Checked node_checked (λ p. p.node) Any Loose Kept
onces_follow = record {
  itself = λ b. same b b refl;
  joined = joined;
  loosely = λ a b k. k.loose;
  levels = λ at y. levels y;
  select = λ at rules more moment stamped good. same _ _ refl;
  range = λ at rules more moment length good. same _ _ refl;
  filtered_select = λ at rules base more moment good_base good. same _ _ refl;
  filtered_range = λ at rules base more moment length good_base good. same _ _ refl;
  pair = λ at op a b more other pairing good_left good_right. same _ _ refl;
  ratio = λ at grouping cs label. ratio grouping cs label;
  bare_sort = λ at down c. record { alike = record { fixed = c.loose.alike.fixed; still = c.loose.alike.still }; good = λ e. c.loose.good e };
  bare_once = λ at c. record { alike = c.loose.alike; good = once_good c.before c.bare c.loose };
}

onces_push : Pushes Checked Checked node_checked (λ p. p.node) Kept
onces_push = record {
  select = λ at below rules more moment. same _ _ refl;
  range = λ at below rules more moment length. same _ _ refl;
}

-- ---- each rewrite

pub ordered_onces : (kept : List (Bool × List ℕ)) → KeepsOnces (rebuilt (order_rules kept))
ordered_onces kept p e = (ordered_follows node_checked (λ p. p.node) Loose Kept onces_follow kept p).loose.good e

pub handed_onces : KeepsOnces (rebuilt hand_rules)
handed_onces p e = (handed_follows node_checked (λ p. p.node) Loose Kept onces_follow p).loose.good e

pub merged_onces : KeepsOnces (λ p. rebuilt (merge_selects (ordered (selectors p))) p)
merged_onces p e = (merged_follows node_checked (λ p. p.node) Loose Kept onces_follow p (any_found p)).loose.good e

pub trimmed_onces : KeepsOnces trim
trimmed_onces p e = (trimmed_follows node_checked (λ p. p.node) Loose Kept onces_follow p).loose.good e

pub split_onces : KeepsOnces (rebuilt split_average)
split_onces p e = (split_follows node_checked (λ p. p.node) Loose Kept onces_follow p).loose.good e

pub pushed_onces : KeepsOnces (rebuilt push_filter)
pushed_onces p e = (pushed_follows node_checked (λ p. p.node) Loose Kept onces_follow onces_push p).loose.good e
