use Rattle.std.proofs.Common.{◌∙◌, ◌<◌, ℕ, get_or, length, sym, subst}
use Rattle.std.proofs.lemmas.List.{length-set}
use Rattle.op_aggregate.proofs.Grouping.{one_emptied, others_left, place_here}
use Rattle.op_aggregate.proofs.groups.empty_at.Goals as goal

pub index_mut-requires : goal.index_mut-requires
index_mut-requires c =
    subst (λ (k : ℕ). get_or c.args.places.now c.loop-place.place-index 0 < k) (sym (c.loop-place.all.ok.0 ∙ c.loop-place.invariant.many))
    (place_here (length c.args.all.now.items) c.args.places.now c.loop-place.place-index c.loop-place-test.true c.requires)

pub loop-place-preserved : goal.loop-place-preserved
loop-place-preserved c =
    let i = c.loop-place.invariant in
    let all = c.loop-place.all.items in
    let places = c.args.places.now in
    let n = c.loop-place.place-index in
    let here = subst (λ (k : ℕ). get_or places n 0 < k) (sym i.many) (place_here (length c.args.all.now.items) places n c.loop-place-test.true c.requires) in
    record {
      many = length-set all (get_or places n 0) c.new.result ∙ i.many;
      emptied = one_emptied c.args.f all places n c.new.result c.loop-place-test.true here c.new.ensures i.emptied;
      others = others_left c.args.all.now.items all places n c.new.result c.loop-place-test.true i.others;
    }
