use Rattle.std.proofs.Common.{◌∙◌, ◌<◌, ◌++◌, ◌∷◌, [], ℕ, List, length, arith, refl, sym, subst}
use Rattle.std.proofs.lemmas.List.{length-set}
use Rattle.step_batch.specs.declared.steps.Slot.{Slot}
use Rattle.xfrac.specs.Laws.{IsNumber}
use Rattle.op_rank.specs.Best.{Keeps}
use Rattle.op_rank.specs.Contenders.{AreNumbers, before, contenders_in, kept_in}
use Rattle.op_rank.proofs.Choosing.{all_take_more, begun, offered, place_below, place_within, whole_front}
use Rattle.op_rank.proofs.contenders.offer_all.Goals as goal

pub number_at-group-requires : goal.number_at-group-requires
number_at-group-requires c = place_within 0 (length c.args.ranking.now.groups.now) c.args.slots.now c.loop-i.i c.index-slots-i.result c.loop-i-test.true c.index-slots-i.is c.requires.groups

pub number_at-rank-requires : goal.number_at-rank-requires
number_at-rank-requires c =
    let l : c.index-slots-i.result.place < length c.args.ranking.now.groups.now = place_within 0 (length c.args.ranking.now.groups.now) c.args.slots.now c.loop-i.i c.index-slots-i.result c.loop-i-test.true c.index-slots-i.is c.requires.groups in
    omega (arith, l, c.requires.ranks)

pub index_mut-requires : goal.index_mut-requires
index_mut-requires c =
    let l : c.index-slots-i.result.place < length c.args.ranking.now.groups.now = place_within 0 (length c.args.ranking.now.groups.now) c.args.slots.now c.loop-i.i c.index-slots-i.result c.loop-i-test.true c.index-slots-i.is c.requires.groups in
    subst (λ (n : ℕ). c.number_at-group.result < n) (sym (c.loop-i.best.ok.0 ∙ c.loop-i.invariant.len)) (place_below (length c.args.best.now.items) c.args.ranking.now.groups.now c.index-slots-i.result c.number_at-group.result l c.number_at-group.ensures c.requires.within)

pub loop-i-init : goal.loop-i-init
loop-i-init c =
    let by = c.args.ranking.now in
    let w = c.args.wanted in
    record {
      len = refl;
      numbers = tt;
      keeps = begun w.down w.count by.groups.now by.ranks.now c.args.best.now.items c.requires.some c.requires.empty;
    }

pub loop-i-preserved : goal.loop-i-preserved
loop-i-preserved c =
    let i = c.loop-i.invariant in
    let by = c.args.ranking.now in
    let w = c.args.wanted in
    let n = c.loop-i.i in
    let slots = c.args.slots.now in
    let slot = c.index-slots-i.result in
    let place = c.number_at-group.result in
    let l : slot.place < length by.groups.now = place_within 0 (length by.groups.now) slots n slot c.loop-i-test.true c.index-slots-i.is c.requires.groups in
    let there : place < length c.loop-i.best.items = subst (λ (m : ℕ). place < m) (sym i.len) (place_below (length c.args.best.now.items) by.groups.now slot place l c.number_at-group.ensures c.requires.within) in
    record {
      len = length-set c.loop-i.best.items place c.offer.new.self ∙ i.len;
      numbers = all_take_more (λ (s : Slot). IsNumber s.value) slots n slot c.loop-i-test.true c.index-slots-i.is i.numbers c.is_number.ensures;
      keeps = offered w.down w.count by.groups.now by.ranks.now slots n slot c.loop-i.best.items c.index_mut.result.now c.offer.new.self place c.loop-i-test.true c.index-slots-i.is c.number_at-group.ensures there c.index_mut.ensures.value
          (λ all k. subst (λ (r : ℕ). Keeps (before w.down) w.count (all ++ record { at = n; value = slot.value; rank = r } ∷ []) c.offer.new.self.kept.items) c.number_at-rank.ensures (c.in_ok-offer.ensures all k)) i.keeps;
    }

pub returns : goal.returns
returns c =
    let i = c.loop-i.invariant in
    let by = c.args.ranking.now in
    let w = c.args.wanted in
    let all = whole_front c.args.slots.now c.loop-i.i c.loop-i-test.false in
    record {
      len = i.len;
      numbers = subst AreNumbers all i.numbers;
      keeps = λ group. subst (λ (ss : List Slot). Keeps (before w.down) w.count (contenders_in by.groups.now by.ranks.now group 0 ss) (kept_in c.loop-i.best.items group)) all (i.keeps group);
    }
