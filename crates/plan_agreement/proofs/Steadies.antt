-- What stands under the Once nodes of a plan stays steady where what is put in the place of its parts is as steady as these.
use Rattle.std.proofs.Common.{◌≡◌, List, [], ◌∷◌, map, refl, Bool, true, false, Some}
use Rattle.std.specs.Prelude.{◌&&◌}
use Rattle.std.specs.List.{AllZip}
use Rattle.promql_meaning.specs.Steadiness.{steady_window}
use Rattle.logical_plan.specs.declared.steadiness.Facts.{Facts}
use Rattle.logical_plan.specs.declared.nodes.Plan.{Plan}
use Rattle.logical_plan.specs.declared.nodes.PlanNode.TheOpen.{PlanNode-F}
use Rattle.logical_plan.specs.Steadiness.{Checked, all_good, all_of, both, checked, constant, is_steady, node_checked, still_if}
use Rattle.plan_agreement.specs.DescentLaws.{DescentsKeepOnces, IsAsSteady, IsValidPart}
use Rattle.plan_agreement.specs.SameNodes.{SameNode, number, time, select, range, subquery, element, stamp, window, absent, buckets, relabel, sort, scalar_of, vector_of, group, pair, set, filtered, ratio, once, gather}
use Rattle.plan_agreement.proofs.Ands.{both_follow}
use Rattle.plan_agreement.proofs.Descends.{every_in}
use Rattle.plan_agreement.proofs.ValidParts.{goes_down, valid_part}

-- fixed and still where another one is
record Follows (a b : Facts) : Type 0 where
  fixed : b.fixed ≡ true → a.fixed ≡ true
  still : b.still ≡ true → a.still ≡ true

-- and the samples' own times, and good
record Kept (a b : Checked) : Type 0 where
  facts : Follows a.facts b.facts
  own : b.facts.own ≡ true → a.facts.own ≡ true
  good : b.good ≡ true → a.good ≡ true

same : (c : Checked) → Kept c c
same c = record { facts = record { fixed = λ h. h; still = λ h. h }; own = λ h. h; good = λ h. h }

itself : (a : Facts) → Follows a a
itself a = record { fixed = λ h. h; still = λ h. h }

both_facts : (a b c d : Facts) → Follows a c → Follows b d → Follows (both a b) (both c d)
both_facts a b c d f g = record {
  fixed = both_follow c.fixed d.fixed a.fixed b.fixed f.fixed g.fixed;
  still = both_follow c.still d.still a.still b.still f.still g.still;
}

over_one : (a b : Facts) → Follows a b → Follows (both constant a) (both constant b)
over_one a b f = both_facts constant a constant b (itself constant) f

still_facts : (h k : Bool) (a b : Facts) → (k ≡ true → h ≡ true) → Follows a b → Follows (still_if h a) (still_if k b)
still_facts h k a b f g = record { fixed = g.fixed; still = both_follow k b.still h a.still f g.still }

abbrev facts_of : List Checked → List Facts
facts_of cs = map (λ (c : Checked). c.facts) cs

all_facts : (a b : Facts) (xs ys : List Checked) → Follows a b → AllZip Kept xs ys → Follows (all_of a (facts_of xs)) (all_of b (facts_of ys))
all_facts a b [] [] f z = f
all_facts a b [] (y ∷ ys) f z = absurd z
all_facts a b (x ∷ xs) [] f z = absurd z
all_facts a b (x ∷ xs) (y ∷ ys) f z = all_facts (both a x.facts) (both b y.facts) xs ys (both_facts a x.facts b y.facts f z.0.facts) z.1

none_own : (a : Facts) (more : List Facts) → a.own ≡ false → (all_of a more).own ≡ false
none_own a [] e = e
none_own a (b ∷ more) e = none_own (both a b) more refl

never : (a b : Bool) → b ≡ false → b ≡ true → a ≡ true
never a b e h = absurd (cc)

all_goods : (xs ys : List Checked) → AllZip Kept xs ys → all_good ys ≡ true → all_good xs ≡ true
all_goods [] [] z e = refl
all_goods [] (y ∷ ys) z e = absurd z
all_goods (x ∷ xs) [] z e = absurd z
all_goods (x ∷ xs) (y ∷ ys) z e = both_follow y.good (all_good ys) x.good (all_good xs) z.0.good (all_goods xs ys z.1) e

more_good : (a b : Checked) (xs ys : List Checked) → Kept a b → AllZip Kept xs ys → (b.good && all_good ys) ≡ true → (a.good && all_good xs) ≡ true
more_good a b xs ys k z e = both_follow b.good (all_good ys) a.good (all_good xs) k.good (all_goods xs ys z) e

-- not of the samples' own times
plainly : (a b : Checked) → b.facts.own ≡ false → Follows a.facts b.facts → (b.good ≡ true → a.good ≡ true) → Kept a b
plainly a b none facts good = record { facts = facts; own = never a.facts.own b.facts.own none; good = good }

two : (a b c d : Checked) → Kept a c → Kept b d → (c.good && d.good) ≡ true → (a.good && b.good) ≡ true
two a b c d k l e = both_follow c.good d.good a.good b.good k.good l.good e

two_facts : (a b c d : Checked) → Kept a c → Kept b d → Follows (both a.facts b.facts) (both c.facts d.facts)
two_facts a b c d k l = both_facts a.facts b.facts c.facts d.facts k.facts l.facts

steady : (a b : Facts) → Follows a b → is_steady b ≡ true → is_steady a ≡ true
steady a b f e = both_follow b.fixed b.still a.fixed a.still f.fixed f.still e

levels : (y z : PlanNode-F Checked Checked) → SameNode Kept y z → Kept (node_checked y) (node_checked z)
levels _ _ (number value) = same _
levels _ _ time = same _
levels _ _ (select rules moment stamped) = same _
levels _ _ (range rules moment length) = same _
levels _ _ (subquery a b length step moment k) = plainly _ _ refl (record { fixed = λ h. h; still = k.facts.still }) (λ e. k.good e)
levels _ _ (element f a b xs ys k z) =
    plainly _ _ (none_own (both constant b.facts) (facts_of ys) refl) (all_facts (both constant a.facts) (both constant b.facts) xs ys (over_one a.facts b.facts k.facts) z) (λ e. more_good a b xs ys k z e)
levels _ _ (stamp a b k) = plainly _ _ refl (still_facts a.facts.own b.facts.own (both constant a.facts) (both constant b.facts) k.own (over_one a.facts b.facts k.facts)) (λ e. k.good e)
levels _ _ (window f a b xs ys k z) =
    plainly _ _ (none_own (both constant b.facts) (facts_of ys) refl)
    (still_facts (steady_window f) (steady_window f) (all_of (both constant a.facts) (facts_of xs)) (all_of (both constant b.facts) (facts_of ys)) (λ h. h) (all_facts (both constant a.facts) (both constant b.facts) xs ys (over_one a.facts b.facts k.facts) z))
    (λ e. more_good a b xs ys k z e)
levels _ _ (absent labels a b k) = plainly _ _ refl (over_one a.facts b.facts k.facts) (λ e. k.good e)
levels _ _ (buckets a b c d k l) = plainly _ _ refl (two_facts a b c d k l) (λ e. two a b c d k l e)
levels _ _ (relabel rule a b k) = plainly _ _ refl (over_one a.facts b.facts k.facts) (λ e. k.good e)
levels _ _ (sort down a b k) = plainly _ _ refl (over_one a.facts b.facts k.facts) (λ e. k.good e)
levels _ _ (scalar_of a b k) = plainly _ _ refl (over_one a.facts b.facts k.facts) (λ e. k.good e)
levels _ _ (vector_of a b k) = plainly _ _ refl (over_one a.facts b.facts k.facts) (λ e. k.good e)
levels _ _ (group f grouping xs ys label z) = plainly _ _ (none_own constant (facts_of ys) refl) (all_facts constant constant xs ys (itself constant) z) (λ e. all_goods xs ys z e)
levels _ _ (pair op a b c d pairing k l) = plainly _ _ refl (two_facts a b c d k l) (λ e. two a b c d k l e)
levels _ _ (set op a b c d pairing k l) = plainly _ _ refl (two_facts a b c d k l) (λ e. two a b c d k l e)
levels _ _ (filtered a b rules k) = plainly _ _ refl (record { fixed = k.facts.fixed; still = k.facts.still }) (λ e. k.good e)
levels _ _ (ratio a b c d k l) = plainly _ _ refl (two_facts a b c d k l) (λ e. two a b c d k l e)
levels _ _ (once a b k) = record {
  facts = k.facts;
  own = λ h. k.own h;
  good = λ e. both_follow b.good (is_steady b.facts) a.good (is_steady a.facts) k.good (steady a.facts b.facts k.facts) e;
}
levels _ _ (gather expr kind engines) = same _

pub onces_stay : DescentsKeepOnces
onces_stay longest latest f p puts valid good =
    let kept : (q r : Plan) → f q ≡ Some r → IsValidPart longest latest p q → Kept (checked r) (checked q) = λ q r e h.
    let s : IsAsSteady r q = puts q r e h in
    record { facts = record { fixed = s.fixed; still = s.still }; own = s.own; good = s.good } in
    (every_in f node_checked (λ p. p.node) Kept (λ at y z s. levels y z s) (IsValidPart longest latest p) (goes_down longest latest p) kept p (valid_part longest latest p valid)).good good
