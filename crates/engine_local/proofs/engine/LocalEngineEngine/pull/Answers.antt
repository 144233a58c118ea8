use Rattle.std.proofs.Common.{rules, ◌≡◌, ◌∙◌, ◌+◌, ◌<◌, ◌≤◌, ◌^◌, ℕ, List, Some, None, Ok, Err, length, slice_get, slice_set, true, ap, subst, sym, refl, arith}
use Rattle.std.specs.Prelude.{Option, IsSome}
use Rattle.remote_api.specs.Seen.{GivesOwed, HasPulled}
use Rattle.remote_api.specs.Strays.{wrong_cell}
use Rattle.remote_api.specs.declared.engine.EngineFail.TheVariants as fail
use Rattle.remote_api.specs.declared.engine.Pulled.TheVariants as pulled
use Rattle.step_table.specs.declared.cells.StepCells.{StepCells}
use Rattle.ticks.specs.declared.moment.Ms.{Ms}
use Rattle.engine_local.specs.Local.{IsAllowed, Local, seen_ask, seen_of, times_of, went_on}
use Rattle.engine_local.specs.declared.own.OwnAsk.{OwnAsk}
use Rattle.engine_local.proofs.Lists.{all_at, all_set, got, inside}
use Rattle.engine_local.proofs.Pulls.{allowed_on, ended, few_given, found, found_in, gave, none_next, some_next, spent_pulled, with_asks, within_times}
use Rattle.engine_local.proofs.engine.LocalEngineEngine.pull.Goals as goal

pub index-requires : goal.index-requires
index-requires c =
    let there = found_in _ c.args.self.now c.args.ask c.args.patterns.now c.self.view_is c.requires.may in
    let w : c.args.ask < length c.self.inside.asks.items = inside c.self.inside.asks.items c.args.ask there.one there.here in
    search (rules, w)

pub same-self : goal.same-self
same-self c = refl

pub returns-then-is_none-clause-same : goal.returns-then-is_none-clause-same
returns-then-is_none-clause-same c = refl

pub returns-then-is_none-clause-pulled : goal.returns-then-is_none-clause-pulled
returns-then-is_none-clause-pulled c =
    let e = c.args.self.now in
    let there = found e c.args.ask c.args.patterns.now c.requires.may in
    let own : slice_get c.self.inside.asks.items c.args.ask ≡ Some there.one = subst (λ (l : Local). slice_get l.asks c.args.ask ≡ Some there.one) (sym c.self.view_is) there.here in
    let is = got c.self.inside.asks.items c.args.ask there.one c.index.result.now own c.index.ensures in
    let done = subst (λ (o : OwnAsk). o.next ≡ None) is (none_next c.index.result.now.next c.is_none.result c.is_none.ensures c.if-is_none.true) in
    subst (λ (steps : List StepCells). HasPulled c.args.ask c.args.most steps (Ok pulled.End) (seen_of e) (seen_of e)) (sym c.requires.empty)
    (ended e c.args.ask c.args.most there.one there.here (all_at IsAllowed c.self.inside.asks.items c.args.ask there.one own c.self.invariant) c.walks_are_listed.ensures.no_other done)

pub index-requires-2 : goal.index-requires-2
index-requires-2 c =
    let there = found_in _ c.args.self.now c.args.ask c.args.patterns.now c.self.view_is c.requires.may in
    let w : c.args.ask < length c.self.inside.asks.items = inside c.self.inside.asks.items c.args.ask there.one there.here in
    search (rules, w)

pub next_steps-requires-clause-allowed : goal.next_steps-requires-clause-allowed
next_steps-requires-clause-allowed c =
    let there = found_in _ c.args.self.now c.args.ask c.args.patterns.now c.self.view_is c.requires.may in
    let items = c.self.inside.asks.items in
    let is = got items c.args.ask there.one c.index-2.result.now there.here c.index-2.ensures in
    subst IsAllowed (sym is) (all_at IsAllowed items c.args.ask there.one there.here c.self.invariant)

pub next_steps-requires-clause-kept : goal.next_steps-requires-clause-kept
next_steps-requires-clause-kept c =
    let there = found_in _ c.args.self.now c.args.ask c.args.patterns.now c.self.view_is c.requires.may in
    let is = got c.self.inside.asks.items c.args.ask there.one c.index-2.result.now there.here c.index-2.ensures in
    ap (λ (o : OwnAsk). o.kept) is ∙ there.kept_are

pub next_steps-requires-clause-left : goal.next_steps-requires-clause-left
next_steps-requires-clause-left c =
    let there = found_in _ c.args.self.now c.args.ask c.args.patterns.now c.self.view_is c.requires.may in
    let items = c.self.inside.asks.items in
    let is = got items c.args.ask there.one c.index.result.now there.here c.index.ensures in
    let is2 = got items c.args.ask there.one c.index-2.result.now there.here c.index-2.ensures in
    subst (λ (o : OwnAsk). IsSome o.next) (is ∙ sym is2) (some_next c.index.result.now.next c.is_none.result c.is_none.ensures c.if-is_none.false)

pub next_steps-requires-clause-some : goal.next_steps-requires-clause-some
next_steps-requires-clause-some c = c.requires.some

pub index_mut-requires : goal.index_mut-requires
index_mut-requires c =
    let there = found_in _ c.args.self.now c.args.ask c.args.patterns.now c.self.view_is c.requires.may in
    let w : c.args.ask < length c.self.inside.asks.items = inside c.self.inside.asks.items c.args.ask there.one there.here in
    search (rules, w)

pub go_on-requires : goal.go_on-requires
go_on-requires c =
    let there = found_in _ c.args.self.now c.args.ask c.args.patterns.now c.self.view_is c.requires.may in
    let items = c.self.inside.asks.items in
    let is2 = got items c.args.ask there.one c.index-2.result.now there.here c.index-2.ensures in
    let is3 = got items c.args.ask there.one c.index_mut.result.now there.here c.index_mut.ensures.value in
    let steps = c.in-Ok.front.steps in
    let allowed = subst IsAllowed (sym is2) (all_at IsAllowed items c.args.ask there.one there.here c.self.invariant) in
    let few = few_given c.walks_keep_to_times.ensures.times c.self.inside.store c.index-2.result.now c.args.most steps allowed c.in-Ok.ensures.owed in
    let n : length c.as_slice.result.now ≡ length steps = ap length c.as_slice.ensures in
    let g : c.index_mut.result.now.given ≡ c.index-2.result.now.given = ap (λ (o : OwnAsk). o.given) (is3 ∙ sym is2) in
    record { few = omega (arith, few, n, g) }

pub invariant_of-self : goal.invariant_of-self
invariant_of-self c =
    let there = found_in _ c.args.self.now c.args.ask c.args.patterns.now c.self.view_is c.requires.may in
    let items = c.self.inside.asks.items in
    let o = c.index_mut.result.now in
    let steps = c.in-Ok.front.steps in
    let is2 = got items c.args.ask there.one c.index-2.result.now there.here c.index-2.ensures in
    let is3 = got items c.args.ask there.one o there.here c.index_mut.ensures.value in
    let same : c.index-2.result.now ≡ o = is2 ∙ sym is3 in
    let allowed = subst IsAllowed (sym is3) (all_at IsAllowed items c.args.ask there.one there.here c.self.invariant) in
    let gives = subst (λ (x : OwnAsk). GivesOwed c.args.most pulled.Frame steps (seen_ask c.self.inside.store x)) same c.in-Ok.ensures.owed in
    let behind = subst (λ (x : OwnAsk). c.in-Ok.front.next ≡ slice_get (times_of x) (x.given + length steps)) same c.in-Ok.ensures.behind in
    let n : length c.as_slice.result.now ≡ length steps = ap length c.as_slice.ensures in
    let more = allowed_on o (length steps) c.in-Ok.front.next allowed (within_times c.self.inside.store o c.args.most steps allowed gives) behind in
    let went : went_on (length steps) c.in-Ok.front.next o ≡ c.go_on.new.self = ap (λ (m : ℕ). went_on m c.in-Ok.front.next o) (sym n) ∙ sym c.go_on.ensures in
    all_set IsAllowed items c.args.ask c.go_on.new.self (subst IsAllowed went more) c.self.invariant

pub invariant_of-self-in-Err : goal.invariant_of-self-in-Err
invariant_of-self-in-Err c = c.self.invariant

pub returns-in-Ok-clause-same : goal.returns-in-Ok-clause-same
returns-in-Ok-clause-same c = c.next_steps.ensures.same

pub returns-in-Ok-clause-pulled : goal.returns-in-Ok-clause-pulled
returns-in-Ok-clause-pulled c =
    let there = found_in _ c.args.self.now c.args.ask c.args.patterns.now c.self.view_is c.requires.may in
    let items = c.self.inside.asks.items in
    let o = c.index_mut.result.now in
    let steps = c.in-Ok.front.steps in
    let next = c.in-Ok.front.next in
    let is2 = got items c.args.ask there.one c.index-2.result.now there.here c.index-2.ensures in
    let is3 = got items c.args.ask there.one o there.here c.index_mut.ensures.value in
    let same : c.index-2.result.now ≡ o = is2 ∙ sym is3 in
    let allowed = subst IsAllowed (sym is3) (all_at IsAllowed items c.args.ask there.one there.here c.self.invariant) in
    let n : length c.as_slice.result.now ≡ length steps = ap length c.as_slice.ensures in
    let v : Local = record { samples = c.self.inside.store; declared = c.self.inside.declared; asks = items; spent = c.self.inside.spent } in
    let gives = subst (λ (x : OwnAsk). GivesOwed c.args.most pulled.Frame steps (seen_ask c.self.inside.store x)) same c.in-Ok.ensures.owed in
    let here = there.here ∙ ap Some (sym is3) in
    let well = ap (λ (x : OwnAsk). wrong_cell x.ask steps) (sym same) ∙ c.in-Ok.ensures.well in
    let told = gave v c.args.ask c.args.most o here allowed c.walks_are_listed.ensures.no_other steps next gives well in
    let went : went_on (length steps) next o ≡ c.go_on.new.self = ap (λ (m : ℕ). went_on m next o) (sym n) ∙ sym c.go_on.ensures in
    subst (λ (l : Local). HasPulled c.args.ask c.args.most steps (Ok pulled.Frame) (seen_of l) (seen_of (with_asks (slice_set items c.args.ask c.go_on.new.self) v))) c.self.view_is
    (subst (λ (x : OwnAsk). HasPulled c.args.ask c.args.most steps (Ok pulled.Frame) (seen_of v) (seen_of (with_asks (slice_set items c.args.ask x) v))) went told)

pub returns-in-Err-clause-same : goal.returns-in-Err-clause-same
returns-in-Err-clause-same c = c.next_steps.ensures.same

pub returns-in-Err-clause-pulled : goal.returns-in-Err-clause-pulled
returns-in-Err-clause-pulled c =
    let v : Local = record { samples = c.self.inside.store; declared = c.self.inside.declared; asks = c.self.inside.asks.items; spent = c.self.inside.spent } in
    subst (λ (l : Local). HasPulled c.args.ask c.args.most c.args.frame.now.steps (Err fail.Memory) (seen_of l) (seen_of (record v { spent = true }))) c.self.view_is
    (spent_pulled v c.args.ask c.args.most c.args.frame.now.steps)
