use Rattle.std.proofs.Common.{refl}
use Rattle.std.proofs.lemmas.List.{length-set}
use Rattle.std.proofs.lemmas.Result.{on_ok_weaker}
use Rattle.op_aggregate.proofs.Grouping.{room_here, rows_here, tallied_more}
use Rattle.op_aggregate.proofs.groups.Groups.add.Goals as goal

pub add-requires-clause-few : goal.add-requires-clause-few
add-requires-clause-few c =
    let t = c.requires.tallied in
    rows_here t.0 c.args.self.now c.args.place c.index_mut-group.result.now t.1 c.requires.there c.index_mut-group.ensures.value t.2

pub add-requires-clause-room : goal.add-requires-clause-room
add-requires-clause-room c =
    let t = c.requires.tallied in
    room_here t.0 c.args.self.now c.args.place c.index_mut-group.result.now t.1 c.requires.there c.index_mut-group.ensures.value t.2

pub returns-clause-tallied : goal.returns-clause-tallied
returns-clause-tallied c = on_ok_weaker c.add.result (λ step items t.
    tallied_more items c.args.self.now _ c.args.place c.args.value.now c.index_mut-group.result.now c.add.new.self c.requires.there c.index_mut-group.ensures.value c.is_number.ensures step refl refl (length-set c.args.self.now.all.items c.args.place c.add.new.self) c.in_ok-push_if.ensures t) c.add.ensures
