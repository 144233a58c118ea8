use Rattle.std.proofs.Common.{◌≡◌, ◌∙◌, ◌<◌, arith, ap, length, sym, subst}
use Rattle.op_buckets.specs.SlotOrders.{IsOrder, slots_in}
use Rattle.op_buckets.proofs.SlotsOrdered.{slot_below, slots_count, slots_set}
use Rattle.op_buckets.proofs.order.read.Goals as goal

pub key_of-key-requires-clause-here : goal.key_of-key-requires-clause-here
key_of-key-requires-clause-here c =
    let keys = c.loop-i.keys.items in
    let same : slots_in keys ≡ slots_in c.args.keys.now.items = c.loop-i.invariant in
    let count : length keys ≡ length c.args.keys.now.items = sym (slots_count keys) ∙ ap length same ∙ slots_count c.args.keys.now.items in
    let within : c.loop-i.i < length keys = let l = c.loop-i-test.true in let n = c.len-i-end.ensures in omega (arith, l, n, count) in
    slot_below keys (length c.args.slots.now) c.loop-i.i c.index.result.now (subst IsOrder (sym same) c.requires.all) (count ∙ c.requires.count) within c.index.ensures

pub loop-i-preserved : goal.loop-i-preserved
loop-i-preserved c =
    let keys = c.loop-i.keys.items in
    let same : slots_in keys ≡ slots_in c.args.keys.now.items = c.loop-i.invariant in
    let count : length keys ≡ length c.args.keys.now.items = sym (slots_count keys) ∙ ap length same ∙ slots_count c.args.keys.now.items in
    let within : c.loop-i.i < length keys = let l = c.loop-i-test.true in let n = c.len-i-end.ensures in omega (arith, l, n, count) in
    slots_set keys c.loop-i.i c.index.result.now c.key_of-key.result within c.index.ensures c.key_of-key.ensures ∙ same
