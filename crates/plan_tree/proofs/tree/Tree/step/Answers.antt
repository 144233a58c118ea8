use Rattle.std.proofs.Common.{◌≡◌, ◌∙◌, ◌<◌, ◌≤◌, List, [], ◌∷◌, Option, None, length, refl, sym, subst, ap, arith, true, false}
use Rattle.std.specs.Prelude.{IsTrue, IfSome}
use Rattle.std.proofs.lemmas.Bool.{false≢true}
use Rattle.op_labels.specs.Rules.{Kept}
use Rattle.series_marks.specs.Walked.{all_rise}
use Rattle.step_batch.specs.Lent.{stages}
use Rattle.step_table.specs.Timed.{steps_over}
use Rattle.ticks.specs.Walks.{IsInstant, LeadsToTimes}
use Rattle.ticks.specs.declared.moment.Ms.{Ms}
use Rattle.ticks.specs.declared.walk.Walk.{Walk}
use Rattle.plan_tree.specs.declared.node.Node.{Node}
use Rattle.plan_tree.specs.declared.tree.Tree.{Tree}
use Rattle.plan_tree.specs.declared.turns.Fed.{Fed}
use Rattle.plan_tree.specs.Chains.{Chain, IsComing}
use Rattle.plan_tree.specs.Feeding.{CanFeed}
use Rattle.plan_tree.specs.Feeds.{fed_on}
use Rattle.plan_tree.specs.Nodes.{lent_by, shape_of}
use Rattle.plan_tree.specs.Shapes.{Shape, StaysInTimes, is_single, rule}
use Rattle.plan_tree.specs.Spending.{HasRead, IsAlong}
use Rattle.plan_tree.specs.Worlds.{world}
use Rattle.plan_tree.proofs.Chained.{chain_goes, chain_stays, not_none, one_alone}
use Rattle.plan_tree.proofs.Counted.{turn_counts}
use Rattle.plan_tree.proofs.Courses.{bounded_fed, bounded_here, spent_fed}
use Rattle.plan_tree.proofs.Filling.{feed_kept}
use Rattle.plan_tree.proofs.Parts.{fed_given}
use Rattle.plan_tree.proofs.Runs.{gone_fault, gone_ok_as, gone_then, memory_gone}
use Rattle.plan_tree.proofs.Spent.{PartFails, PartSpends}
use Rattle.plan_tree.proofs.Turned.{begun_may, can_turn, chain_due, none_at, ready_on, turn_lent, turn_there, turned}
use Rattle.plan_tree.proofs.tree.Tree.step.Goals as goal

pub begin-requires : goal.begin-requires
begin-requires g c =
    (c.args.store.now, c.requires.0, c.requires.1)

pub next_instants-requires : goal.next_instants-requires
next_instants-requires g c =
    subst LeadsToTimes (sym c.begin.ensures.walk) c.requires.1.times

pub feed_over-requires : goal.feed_over-requires
feed_over-requires g c =
    let S = c.args.store.now in
    let K = c.args.patterns.now in
    let T = c.args.self.now in
    let T1 = c.begin.new.self in
    let at = c.as_slice-at.result.now in
    let e = c.begin.ensures in
    let node_is : shape_of T1.node ≡ shape_of T.node = ap shape_of e.node in
    let chain : Chain T1.walk T1.fed at = subst (λ (ts : List Ms). Chain T1.walk T1.fed ts) (sym c.as_slice-at.ensures) c.in_ok-at.ensures.chain in
    let same : length at ≡ length c.in_ok-at.at = ap length c.as_slice-at.ensures in
    let few : length at ≤ T1.batch = (let f = c.in_ok-at.ensures.few in omega arith) in
    let some : 0 < length at = not_none (length at) (sym c.is_empty.ensures ∙ c.if-is_empty.false) in
    let walks = c.walks_are_listed.ensures in
    let b = c.in_ok-begin.ensures.begun S c.requires.0 c.requires.1 in
    let stays = chain_stays T1.walk T1.fed at (shape_of T1.node) (λ t i. subst (λ (s : Shape). StaysInTimes s t) (sym node_is) (c.requires.1.stays t (subst (λ (w : Walk). IsInstant w t) e.walk i))) chain in
    let single : IsTrue (is_single (shape_of T1.node)) → length at ≡ 1 = λ s. one_alone (length at) T1.batch some few (subst (λ n. n ≤ 1) (sym e.batch) (c.requires.1.single (subst (λ (z : Shape). IsTrue (is_single z)) node_is s))) in
    let cf = can_turn S K c.requires.0 _ T1 b at (chain_due walks.first walks.next T1.walk b.times T1.fed at b.listed chain) (chain_goes T1.walk T1.fed at chain) stays single some in
    fed_given S K _ T1.exchange.places T1.fed at c.begin.new.patterns T1.node T1.node refl e.patterns cf

pub returns-in_err-begin-clause-run : goal.returns-in_err-begin-clause-run
returns-in_err-begin-clause-run g c =
    gone_fault _ c.from_residual.result _ _ c.from_residual.ensures.1 c.in_err-begin.ensures.run

pub returns-in_err-begin-clause-bounded : goal.returns-in_err-begin-clause-bounded
returns-in_err-begin-clause-bounded g c start h =
    bounded_here c.spending_is_bounded.ensures c.args.store.now (all_rise c.args.store.now c.series.ensures.rising) c.args.self.now c.requires.1.fit start c.args.work.now h

pub returns-in_err-at-clause-run : goal.returns-in_err-at-clause-run
returns-in_err-at-clause-run g c =
    gone_then _ _ _ _ _ c.in_ok-begin.ensures.run (memory_gone c.from_residual-in_err-at.result _ _ c.from_residual-in_err-at.ensures.1 c.in_err-at.ensures.memory)

pub returns-in_err-at-clause-bounded : goal.returns-in_err-at-clause-bounded
returns-in_err-at-clause-bounded g c start h =
    bounded_here c.spending_is_bounded.ensures c.args.store.now (all_rise c.args.store.now c.series.ensures.rising) c.args.self.now c.requires.1.fit start c.args.work.now h

pub returns-then-is_empty-clause-bounded : goal.returns-then-is_empty-clause-bounded
returns-then-is_empty-clause-bounded g c start h =
    bounded_here c.spending_is_bounded.ensures c.args.store.now (all_rise c.args.store.now c.series.ensures.rising) c.args.self.now c.requires.1.fit start c.args.work.now h

pub returns-then-is_empty-clause-run : goal.returns-then-is_empty-clause-run
returns-then-is_empty-clause-run g c =
    gone_ok_as _ _ _ _ c.in_ok-begin.ensures.run

pub returns-then-is_empty-clause-same : goal.returns-then-is_empty-clause-same
returns-then-is_empty-clause-same g c =
    record { shape = ap shape_of c.begin.ensures.node; walk = c.begin.ensures.walk; batch = c.begin.ensures.batch }

pub returns-then-is_empty-clause-ready : goal.returns-then-is_empty-clause-ready
returns-then-is_empty-clause-ready g c known ready =
    let S = c.args.store.now in
    let K = c.args.patterns.now in
    let T = c.args.self.now in
    let T1 = c.begin.new.self in
    let e = c.begin.ensures in
    ready_on S K known _ _ T T1 e.walk (ap shape_of e.node) e.batch ready (begun_may S K known _ T1 c.in_ok-begin.ensures.asking (c.in_ok-begin.ensures.begun S known ready))

pub returns-then-is_empty-clause-turn : goal.returns-then-is_empty-clause-turn
returns-then-is_empty-clause-turn g c known ready =
    let S = c.args.store.now in
    let K = c.args.patterns.now in
    let T = c.args.self.now in
    let T1 = c.begin.new.self in
    let at = c.as_slice-at.result.now in
    let e = c.begin.ensures in
    let node_is : shape_of T1.node ≡ shape_of T.node = ap shape_of e.node in
    let chain : Chain T1.walk T1.fed at = subst (λ (ts : List Ms). Chain T1.walk T1.fed ts) (sym c.as_slice-at.ensures) c.in_ok-at.ensures.chain in
    let same : length at ≡ length c.in_ok-at.at = ap length c.as_slice-at.ensures in
    let few : length at ≤ T1.batch = (let f = c.in_ok-at.ensures.few in omega arith) in
    let none : c.in_ok-at.at ≡ [] = sym c.as_slice-at.ensures ∙ none_at at (sym c.is_empty.ensures ∙ c.if-is_empty.true) in
    let over : IsComing T1.walk T1.fed None = c.in_ok-at.ensures.none none (subst (λ n. 0 < n) (sym e.batch) ready.some) in (
      [],
      record {
        chain = tt;
        few = omega arith;
        some = λ h. absurd (false≢true h);
        over = λ h. (refl, subst (λ (w : Walk). IsComing w T.fed None) e.walk (subst (λ (f : Option Fed). IsComing T1.walk f None) e.fed over));
        fed = e.fed;
        lent = λ h. absurd (false≢true h);
      },
    )

pub returns-then-is_empty-clause-spent : goal.returns-then-is_empty-clause-spent
returns-then-is_empty-clause-spent g c start h =
    let T = c.args.self.now in
    let T1 = c.begin.new.self in
    let e = c.begin.ensures in
    record {
      along = subst (λ (w : Walk). IsAlong w T1.fed) (sym e.walk) (subst (λ (f : Option Fed). IsAlong T.walk f) (sym e.fed) h.along);
      read = h.read;
      has = subst (λ (n : Node). HasRead c.args.store.now T1.fed n h.read) (sym e.node) (subst (λ (f : Option Fed). HasRead c.args.store.now f T.node h.read) (sym e.fed) h.has);
      rises = h.rises;
    }

pub returns-in_err-feed_over-clause-run : goal.returns-in_err-feed_over-clause-run
returns-in_err-feed_over-clause-run g c =
    gone_then _ _ _ _ _ c.in_ok-begin.ensures.run (gone_fault _ c.from_residual-in_err-feed_over.result _ _ c.from_residual-in_err-feed_over.ensures.1 c.in_err-feed_over.ensures.run.gone)

pub returns-in_err-feed_over-clause-bounded : goal.returns-in_err-feed_over-clause-bounded
returns-in_err-feed_over-clause-bounded g c start h =
    let S = c.args.store.now in
    let T = c.args.self.now in
    let T1 = c.begin.new.self in
    let at = c.as_slice-at.result.now in
    let e = c.begin.ensures in
    let N = c.feed_over.new.node in
    let w = c.args.work.now in
    let x = c.feed_over.new.work in
    let chain1 : Chain T1.walk T1.fed at = subst (λ (ts : List Ms). Chain T1.walk T1.fed ts) (sym c.as_slice-at.ensures) c.in_ok-at.ensures.chain in
    let chain : Chain T.walk T.fed at = subst (λ (z : Walk). Chain z T.fed at) e.walk (subst (λ (f : Option Fed). Chain T1.walk f at) e.fed chain1) in
    let feed : PartFails S T.fed (fed_on T.fed at) T.node w x = subst (λ (f : Option Fed). PartFails S f (fed_on f at) T.node w x) e.fed (subst (λ (n : Node). PartFails S T1.fed (fed_on T1.fed at) n w x) e.node (λ was r. (c.feed_over.ensures.spent was r).0)) in
    bounded_fed c.spending_is_bounded.ensures S (all_rise S c.series.ensures.rising) T c.requires.1.fit start w x at chain feed h

pub returns-clause-bounded : goal.returns-clause-bounded
returns-clause-bounded g c start h =
    let S = c.args.store.now in
    let T = c.args.self.now in
    let T1 = c.begin.new.self in
    let at = c.as_slice-at.result.now in
    let e = c.begin.ensures in
    let N = c.feed_over.new.node in
    let w = c.args.work.now in
    let x = c.feed_over.new.work in
    let chain1 : Chain T1.walk T1.fed at = subst (λ (ts : List Ms). Chain T1.walk T1.fed ts) (sym c.as_slice-at.ensures) c.in_ok-at.ensures.chain in
    let chain : Chain T.walk T.fed at = subst (λ (z : Walk). Chain z T.fed at) e.walk (subst (λ (f : Option Fed). Chain T1.walk f at) e.fed chain1) in
    let feed : PartFails S T.fed (fed_on T.fed at) T.node w x = subst (λ (f : Option Fed). PartFails S f (fed_on f at) T.node w x) e.fed (subst (λ (n : Node). PartFails S T1.fed (fed_on T1.fed at) n w x) e.node (λ was r. (c.feed_over.ensures.spent was r).0)) in
    bounded_fed c.spending_is_bounded.ensures S (all_rise S c.series.ensures.rising) T c.requires.1.fit start w x at chain feed h

pub returns-clause-run : goal.returns-clause-run
returns-clause-run g c =
    gone_then _ _ _ _ _ c.in_ok-begin.ensures.run (gone_ok_as _ _ _ _ c.in_ok-feed_over.ensures.run.gone)

pub returns-clause-same : goal.returns-clause-same
returns-clause-same g c =
    record { shape = c.feed_over.ensures.shape ∙ ap shape_of c.begin.ensures.node; walk = c.begin.ensures.walk; batch = c.begin.ensures.batch }

pub returns-clause-there : goal.returns-clause-there
returns-clause-there g c =
    let S = c.args.store.now in
    let K = c.args.patterns.now in
    let T = c.args.self.now in
    let T1 = c.begin.new.self in
    let at = c.as_slice-at.result.now in
    let e = c.begin.ensures in
    let node_is : shape_of T1.node ≡ shape_of T.node = ap shape_of e.node in
    let chain : Chain T1.walk T1.fed at = subst (λ (ts : List Ms). Chain T1.walk T1.fed ts) (sym c.as_slice-at.ensures) c.in_ok-at.ensures.chain in
    let same : length at ≡ length c.in_ok-at.at = ap length c.as_slice-at.ensures in
    let few : length at ≤ T1.batch = (let f = c.in_ok-at.ensures.few in omega arith) in
    let some : 0 < length at = not_none (length at) (sym c.is_empty.ensures ∙ c.if-is_empty.false) in
    let walks = c.walks_are_listed.ensures in
    let b = c.in_ok-begin.ensures.begun S c.requires.0 c.requires.1 in
    let stays = chain_stays T1.walk T1.fed at (shape_of T1.node) (λ t i. subst (λ (s : Shape). StaysInTimes s t) (sym node_is) (c.requires.1.stays t (subst (λ (w : Walk). IsInstant w t) e.walk i))) chain in
    let single : IsTrue (is_single (shape_of T1.node)) → length at ≡ 1 = λ s. one_alone (length at) T1.batch some few (subst (λ n. n ≤ 1) (sym e.batch) (c.requires.1.single (subst (λ (z : Shape). IsTrue (is_single z)) node_is s))) in
    let cf = can_turn S K c.requires.0 _ T1 b at (chain_due walks.first walks.next T1.walk b.times T1.fed at b.listed chain) (chain_goes T1.walk T1.fed at chain) stays single some in
    let N = c.feed_over.new.node in
    let P2 = c.feed_over.new.exchange.places in
    let m = feed_kept S K c.begin.new.patterns _ _ T1.exchange.places P2 T1.fed at T1.node N e.patterns c.in_ok-feed_over.ensures.fed cf in
    let T2 = record T1 { node = N; exchange = c.feed_over.new.exchange; fed = c.fed_with-self.result } in
    let shape : shape_of N ≡ shape_of T1.node = c.feed_over.ensures.shape in
    λ h. turn_there S K c.requires.0 _ T1 b at _ P2 N m

pub returns-clause-ready : goal.returns-clause-ready
returns-clause-ready g c known ready =
    let S = c.args.store.now in
    let K = c.args.patterns.now in
    let T = c.args.self.now in
    let T1 = c.begin.new.self in
    let at = c.as_slice-at.result.now in
    let e = c.begin.ensures in
    let node_is : shape_of T1.node ≡ shape_of T.node = ap shape_of e.node in
    let chain : Chain T1.walk T1.fed at = subst (λ (ts : List Ms). Chain T1.walk T1.fed ts) (sym c.as_slice-at.ensures) c.in_ok-at.ensures.chain in
    let same : length at ≡ length c.in_ok-at.at = ap length c.as_slice-at.ensures in
    let few : length at ≤ T1.batch = (let f = c.in_ok-at.ensures.few in omega arith) in
    let some : 0 < length at = not_none (length at) (sym c.is_empty.ensures ∙ c.if-is_empty.false) in
    let walks = c.walks_are_listed.ensures in
    let b = c.in_ok-begin.ensures.begun S known ready in
    let stays = chain_stays T1.walk T1.fed at (shape_of T1.node) (λ t i. subst (λ (s : Shape). StaysInTimes s t) (sym node_is) (ready.stays t (subst (λ (w : Walk). IsInstant w t) e.walk i))) chain in
    let single : IsTrue (is_single (shape_of T1.node)) → length at ≡ 1 = λ s. one_alone (length at) T1.batch some few (subst (λ n. n ≤ 1) (sym e.batch) (ready.single (subst (λ (z : Shape). IsTrue (is_single z)) node_is s))) in
    let cf = can_turn S K known _ T1 b at (chain_due walks.first walks.next T1.walk b.times T1.fed at b.listed chain) (chain_goes T1.walk T1.fed at chain) stays single some in
    let N = c.feed_over.new.node in
    let P2 = c.feed_over.new.exchange.places in
    let m = feed_kept S K c.begin.new.patterns _ _ T1.exchange.places P2 T1.fed at T1.node N e.patterns c.in_ok-feed_over.ensures.fed cf in
    let T2 = record T1 { node = N; exchange = c.feed_over.new.exchange; fed = c.fed_with-self.result } in
    let shape : shape_of N ≡ shape_of T1.node = c.feed_over.ensures.shape in
    ready_on S K known _ _ T T2 e.walk (shape ∙ node_is) e.batch ready (begun_may S K known _ T2 c.in_ok-begin.ensures.asking (turned S K known _ T1 b at _ P2 N m T2 refl refl refl c.fed_with-self.ensures shape))

pub returns-clause-turn : goal.returns-clause-turn
returns-clause-turn g c known ready =
    let S = c.args.store.now in
    let K = c.args.patterns.now in
    let T = c.args.self.now in
    let T1 = c.begin.new.self in
    let at = c.as_slice-at.result.now in
    let e = c.begin.ensures in
    let node_is : shape_of T1.node ≡ shape_of T.node = ap shape_of e.node in
    let chain : Chain T1.walk T1.fed at = subst (λ (ts : List Ms). Chain T1.walk T1.fed ts) (sym c.as_slice-at.ensures) c.in_ok-at.ensures.chain in
    let same : length at ≡ length c.in_ok-at.at = ap length c.as_slice-at.ensures in
    let few : length at ≤ T1.batch = (let f = c.in_ok-at.ensures.few in omega arith) in
    let some : 0 < length at = not_none (length at) (sym c.is_empty.ensures ∙ c.if-is_empty.false) in
    let walks = c.walks_are_listed.ensures in
    let b = c.in_ok-begin.ensures.begun S known ready in
    let stays = chain_stays T1.walk T1.fed at (shape_of T1.node) (λ t i. subst (λ (s : Shape). StaysInTimes s t) (sym node_is) (ready.stays t (subst (λ (w : Walk). IsInstant w t) e.walk i))) chain in
    let single : IsTrue (is_single (shape_of T1.node)) → length at ≡ 1 = λ s. one_alone (length at) T1.batch some few (subst (λ n. n ≤ 1) (sym e.batch) (ready.single (subst (λ (z : Shape). IsTrue (is_single z)) node_is s))) in
    let cf = can_turn S K known _ T1 b at (chain_due walks.first walks.next T1.walk b.times T1.fed at b.listed chain) (chain_goes T1.walk T1.fed at chain) stays single some in
    let N = c.feed_over.new.node in
    let P2 = c.feed_over.new.exchange.places in
    let m = feed_kept S K c.begin.new.patterns _ _ T1.exchange.places P2 T1.fed at T1.node N e.patterns c.in_ok-feed_over.ensures.fed cf in
    let T2 = record T1 { node = N; exchange = c.feed_over.new.exchange; fed = c.fed_with-self.result } in
    let shape : shape_of N ≡ shape_of T1.node = c.feed_over.ensures.shape in (
      at,
      record {
        chain = subst (λ (w : Walk). Chain w T.fed at) e.walk (subst (λ (f : Option Fed). Chain T1.walk f at) e.fed chain);
        few = subst (λ n. length at ≤ n) e.batch few;
        some = λ h. some;
        over = λ h. absurd (false≢true (sym h));
        fed = c.fed_with-self.ensures ∙ ap (λ (f : Option Fed). fed_on f at) e.fed;
        lent = λ h. subst (λ (s : Shape). IfSome known (λ g. stages (lent_by P2 N) ≡ steps_over (rule (world S g) K s) at)) node_is (turn_lent S K known _ T1 b at _ P2 N m);
      },
    )

pub returns-clause-spent : goal.returns-clause-spent
returns-clause-spent g c start h =
    let S = c.args.store.now in
    let T = c.args.self.now in
    let T1 = c.begin.new.self in
    let at = c.as_slice-at.result.now in
    let e = c.begin.ensures in
    let N = c.feed_over.new.node in
    let w = c.args.work.now in
    let x = c.feed_over.new.work in
    let chain1 : Chain T1.walk T1.fed at = subst (λ (ts : List Ms). Chain T1.walk T1.fed ts) (sym c.as_slice-at.ensures) c.in_ok-at.ensures.chain in
    let chain : Chain T.walk T.fed at = subst (λ (z : Walk). Chain z T.fed at) e.walk (subst (λ (f : Option Fed). Chain T1.walk f at) e.fed chain1) in
    let feed : PartSpends S T.fed (fed_on T.fed at) T.node N w x = subst (λ (f : Option Fed). PartSpends S f (fed_on f at) T.node N w x) e.fed (subst (λ (n : Node). PartSpends S T1.fed (fed_on T1.fed at) n N w x) e.node c.in_ok-feed_over.ensures.spent) in
    spent_fed S T (record T1 { node = N; exchange = c.feed_over.new.exchange; fed = c.fed_with-self.result }) start w x at chain e.walk (c.fed_with-self.ensures ∙ ap (λ (f : Option Fed). fed_on f at) e.fed) feed h

pub returns-then-is_empty-clause-counted : goal.returns-then-is_empty-clause-counted
returns-then-is_empty-clause-counted g c =
    let T = c.args.self.now in
    let T1 = c.begin.new.self in
    let e = c.begin.ensures in
    let w = c.args.work.now.fetched in
    turn_counts c.args.store.now T.fed T1.fed T1.fed T1.fed T.node T1.node T1.node w w e.fed e.node refl refl

pub returns-clause-counted : goal.returns-clause-counted
returns-clause-counted g c =
    let T = c.args.self.now in
    let T1 = c.begin.new.self in
    let e = c.begin.ensures in
    turn_counts c.args.store.now T.fed T1.fed (fed_on T1.fed c.as_slice-at.result.now) c.fed_with-self.result T.node T1.node c.feed_over.new.node c.feed_over.new.work.fetched c.args.work.now.fetched e.fed e.node c.fed_with-self.ensures c.in_ok-feed_over.ensures.counted
