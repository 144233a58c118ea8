use Rattle.std.proofs.Common.{◌≡◌, ◌∙◌, ◌++◌, ◌∷◌, [], List, length, sym, ap}
use Rattle.op_rank.specs.Entries.{entry_of}
use Rattle.op_rank.specs.declared.entries.Entry.{Entry}
use Rattle.op_rank.proofs.Choosing.{place_within}
use Rattle.op_rank.proofs.Splitting.{listed_more, numbers_more}
use Rattle.op_rank.proofs.entries.list.Goals as goal

pub number_at-group-requires : goal.number_at-group-requires
number_at-group-requires c = place_within 0 (length c.args.groups.now) c.args.slots.now c.loop-i.i c.index-slots-i.result c.loop-i-test.true c.index-slots-i.is c.requires

pub loop-i-preserved : goal.loop-i-preserved
loop-i-preserved c =
    let slot = c.index-slots-i.result in
    let same : c.push.new.self.items ≡ c.loop-i.entries.items ++ entry_of c.args.groups.now slot ∷ [] =
    c.in_ok-push.ensures.items ∙ (λ j. c.loop-i.entries.items ++ record { group = c.number_at-group.ensures j; value = slot.value } ∷ []) in
    record {
      list = same ∙ ap (λ (r : List Entry). r ++ entry_of c.args.groups.now slot ∷ []) c.loop-i.invariant.list ∙ sym (listed_more c.args.groups.now c.args.slots.now c.loop-i.i slot c.loop-i-test.true c.index-slots-i.is);
      numbers = numbers_more c.loop-i.entries.items c.push.new.self.items (entry_of c.args.groups.now slot) c.loop-i.invariant.numbers c.is_number.ensures same;
    }
