use Rattle.std.proofs.Common.{arith, ◌≡◌, ◌<◌, ◌^◌, true, subst, refl, length}
use Rattle.op_gather.specs.Queues.{has_room}
use Rattle.exchange.proofs.Lists.{get_within, map_within, same_at}
use Rattle.exchange.proofs.Turning.{blames_of, calm, end_stays, is_asked_at, is_turn, less_ended, less_fed, may_pull, none_refused, others_stay, place_fed, place_kept, pulled_fault, pulled_grown, room_within, same_asks, strayed, told_of}
use Rattle.remote_api.specs.declared.engine.Pulled.TheVariants as pulled
use Rattle.exchange.proofs.pulling.turn.Goals as goal

pub asking_at-at-requires : goal.asking_at-at-requires
asking_at-at-requires g c = room_within _ _ c.args.place.now c.requires.stands.0 c.args.k c.requires.stands.1 c.requires.room

pub pull_at-requires-clause-inside : goal.pull_at-requires-clause-inside
pull_at-requires-clause-inside g c =
    let p = c.requires.stands.0 in
    let s = c.requires.stands.1 in
    let i = is_turn _ _ c.args.place.now p c.args.k c.asking_at-at.result s c.asking_at-at.ensures c.requires.room in
    map_within _ c.args.engines.now _ i.e i.e_at

pub pull_at-requires-clause-may : goal.pull_at-requires-clause-may
pull_at-requires-clause-may g c =
    let p = c.requires.stands.0 in
    let s = c.requires.stands.1 in
    let i = is_turn _ _ c.args.place.now p c.args.k c.asking_at-at.result s c.asking_at-at.ensures c.requires.room in
    λ e at. may_pull _ _ c.args.place.now p s.dones c.args.k c.asking_at-at.result e i at

pub returns-in-Err-Failed-clause-grown : goal.returns-in-Err-Failed-clause-grown
returns-in-Err-Failed-clause-grown g c = pulled_grown c.asking_at-at.result c.args.most c.pull_at.new.frame.steps c.pull_at.result _ _ c.pull_at.ensures.pulled

pub returns-in-Err-Memory-clause-grown : goal.returns-in-Err-Memory-clause-grown
returns-in-Err-Memory-clause-grown g c = pulled_grown c.asking_at-at.result c.args.most c.pull_at.new.frame.steps c.pull_at.result _ _ c.pull_at.ensures.pulled

pub returns-in-Ok-clause-grown : goal.returns-in-Ok-clause-grown
returns-in-Ok-clause-grown g c = pulled_grown c.asking_at-at.result c.args.most c.pull_at.new.frame.steps c.pull_at.result _ _ c.pull_at.ensures.pulled

pub returns-in-Ok-End-clause-grown : goal.returns-in-Ok-End-clause-grown
returns-in-Ok-End-clause-grown g c = pulled_grown c.asking_at-at.result c.args.most c.pull_at.new.frame.steps c.pull_at.result _ _ c.pull_at.ensures.pulled

pub returns-in-Ok-feed-clause-grown : goal.returns-in-Ok-feed-clause-grown
returns-in-Ok-feed-clause-grown g c = pulled_grown c.asking_at-at.result c.args.most c.pull_at.new.frame.steps c.pull_at.result _ _ c.pull_at.ensures.pulled

pub returns-clause-grown : goal.returns-clause-grown
returns-clause-grown g c = pulled_grown c.asking_at-at.result c.args.most c.pull_at.new.frame.steps c.pull_at.result _ _ c.pull_at.ensures.pulled

pub returns-in-Err-Failed-clause-fault : goal.returns-in-Err-Failed-clause-fault
returns-in-Err-Failed-clause-fault g c =
    let p = c.requires.stands.0 in
    let s = c.requires.stands.1 in
    let i = is_turn _ _ c.args.place.now p c.args.k c.asking_at-at.result s c.asking_at-at.ensures c.requires.room in
    pulled_fault c.asking_at-at.result c.args.most c.pull_at.new.frame.steps c.pull_at.result _ _ c.pull_at.ensures.pulled i.e i.e_at (cc)

pub returns-in-Err-Failed-clause-blame : goal.returns-in-Err-Failed-clause-blame
returns-in-Err-Failed-clause-blame g c = is_asked_at c.args.place.now.asks c.args.k c.asking_at-at.result c.asking_at-at.ensures

pub overflow_cast-k : goal.overflow_cast-k
overflow_cast-k g c =
    let l : c.args.k < length c.args.place.now.asks = room_within _ _ c.args.place.now c.requires.stands.0 c.args.k c.requires.stands.1 c.requires.room in
    let f : length c.args.place.now.asks < 2 ^ 32 = c.requires.stands.1.few in
    omega (arith, l, f)

pub overflow_cast-k-in-Ok-Frame : goal.overflow_cast-k-in-Ok-Frame
overflow_cast-k-in-Ok-Frame g c =
    let l : c.args.k < length c.args.place.now.asks = room_within _ _ c.args.place.now c.requires.stands.0 c.args.k c.requires.stands.1 c.requires.room in
    let f : length c.args.place.now.asks < 2 ^ 32 = c.requires.stands.1.few in
    omega (arith, l, f)

pub finish-requires-clause-inside : goal.finish-requires-clause-inside
finish-requires-clause-inside g c =
    let p = c.requires.stands.0 in
    let s = c.requires.stands.1 in
    let i = is_turn _ _ c.args.place.now p c.args.k c.asking_at-at.result s c.asking_at-at.ensures c.requires.room in
    get_within _ c.args.k i.q i.q_at

pub feed-requires-clause-inside : goal.feed-requires-clause-inside
feed-requires-clause-inside g c =
    let p = c.requires.stands.0 in
    let s = c.requires.stands.1 in
    let i = is_turn _ _ c.args.place.now p c.args.k c.asking_at-at.result s c.asking_at-at.ensures c.requires.room in
    get_within _ c.args.k i.q i.q_at

pub feed-requires-clause-room : goal.feed-requires-clause-room
feed-requires-clause-room g c =
    let p = c.requires.stands.0 in
    let s = c.requires.stands.1 in
    let i = is_turn _ _ c.args.place.now p c.args.k c.asking_at-at.result s c.asking_at-at.ensures c.requires.room in
    λ z at. subst (λ x. has_room x ≡ true) (same_at _ c.args.k i.q z i.q_at at) i.room

pub returns-in-Ok-clause-stands : goal.returns-in-Ok-clause-stands
returns-in-Ok-clause-stands g c = λ p s.
    let i = is_turn _ _ c.args.place.now p c.args.k c.asking_at-at.result s c.asking_at-at.ensures c.requires.room in
    place_kept _ c.args.place.now _ _ _ p p s refl c.finish.ensures.ask c.in-Ok.ensures.going refl refl (c.in-Ok.ensures.stands p.all s.dones p.taken s.stands)
    (λ k b at. end_stays _ _ _ c.args.place.now p s.dones c.args.k c.asking_at-at.result c.args.most c.pull_at.new.frame.steps c.pull_at.result i c.pull_at.ensures.pulled (cc) b)

pub returns-in-Ok-clause-alone : goal.returns-in-Ok-clause-alone
returns-in-Ok-clause-alone g c =
    let p = c.requires.stands.0 in
    let s = c.requires.stands.1 in
    let i = is_turn _ _ c.args.place.now p c.args.k c.asking_at-at.result s c.asking_at-at.ensures c.requires.room in
    λ b h. end_stays _ _ _ c.args.place.now p s.dones c.args.k c.asking_at-at.result c.args.most c.pull_at.new.frame.steps c.pull_at.result i c.pull_at.ensures.pulled (cc) b

pub returns-in-Ok-clause-calm : goal.returns-in-Ok-clause-calm
returns-in-Ok-clause-calm g c =
    let p = c.requires.stands.0 in
    let s = c.requires.stands.1 in
    let i = is_turn _ _ c.args.place.now p c.args.k c.asking_at-at.result s c.asking_at-at.ensures c.requires.room in
    calm _ _ _ c.args.place.now p s.dones c.args.k c.asking_at-at.result c.args.most c.pull_at.new.frame.steps c.pull_at.result pulled.End i c.pull_at.ensures.pulled (cc) s.stands.listed (none_refused _ _ (c.in-Ok.ensures.exact p.all s.dones p.taken i.done s.stands i.done_at))

pub returns-in-Ok-clause-less : goal.returns-in-Ok-clause-less
returns-in-Ok-clause-less g c =
    let p = c.requires.stands.0 in
    let s = c.requires.stands.1 in
    let i = is_turn _ _ c.args.place.now p c.args.k c.asking_at-at.result s c.asking_at-at.ensures c.requires.room in
    less_ended _ _ c.args.k i.q i.q_at i.room (c.in-Ok.ensures.kept i.q i.q_at)

pub returns-in-Ok-End-clause-fault : goal.returns-in-Ok-End-clause-fault
returns-in-Ok-End-clause-fault g c =
    let p = c.requires.stands.0 in
    let s = c.requires.stands.1 in
    let i = is_turn _ _ c.args.place.now p c.args.k c.asking_at-at.result s c.asking_at-at.ensures c.requires.room in
    told_of _ c.in-Err.refusal c.asking_at-at.result.engine _ _ _ c.of.ensures (c.in-Err.ensures.exact p.all s.dones p.taken i.done s.stands i.done_at) (λ one e. strayed _ _ _ c.args.place.now p s.dones c.args.k c.asking_at-at.result c.args.most c.pull_at.new.frame.steps c.pull_at.result pulled.End i c.pull_at.ensures.pulled (cc) s.stands.listed one e)

pub returns-in-Ok-End-clause-blame : goal.returns-in-Ok-End-clause-blame
returns-in-Ok-End-clause-blame g c = blames_of c.args.place.now.asks c.args.k c.asking_at-at.result c.in-Err.refusal c.of.result c.asking_at-at.ensures c.of.ensures

pub returns-in-Ok-clause-asked : goal.returns-in-Ok-clause-asked
returns-in-Ok-clause-asked g c =
    let p = c.requires.stands.0 in
    let s = c.requires.stands.1 in
    let i = is_turn _ _ c.args.place.now p c.args.k c.asking_at-at.result s c.asking_at-at.ensures c.requires.room in
    same_asks _ _ _ c.args.place.now p s.dones c.args.k c.asking_at-at.result c.args.most c.pull_at.new.frame.steps c.pull_at.result pulled.End i c.pull_at.ensures.pulled (cc)

pub returns-in-Ok-feed-clause-asked : goal.returns-in-Ok-feed-clause-asked
returns-in-Ok-feed-clause-asked g c =
    let p = c.requires.stands.0 in
    let s = c.requires.stands.1 in
    let i = is_turn _ _ c.args.place.now p c.args.k c.asking_at-at.result s c.asking_at-at.ensures c.requires.room in
    same_asks _ _ _ c.args.place.now p s.dones c.args.k c.asking_at-at.result c.args.most c.pull_at.new.frame.steps c.pull_at.result pulled.Frame i c.pull_at.ensures.pulled (cc)

pub returns-in-Ok-feed-clause-stands : goal.returns-in-Ok-feed-clause-stands
returns-in-Ok-feed-clause-stands g c = λ p s.
    let i = is_turn _ _ c.args.place.now p c.args.k c.asking_at-at.result s c.asking_at-at.ensures c.requires.room in
    place_fed _ c.args.place.now _ _ _ p c.args.k c.asking_at-at.result c.args.most c.pull_at.new.frame.steps c.pull_at.result s i c.pull_at.ensures.pulled (cc) refl c.feed.ensures.ask c.in-Ok-feed.ensures.going (c.in-Ok-feed.ensures.stands p.all s.dones p.taken i.done s.stands i.done_at)

pub returns-in-Ok-feed-clause-alone : goal.returns-in-Ok-feed-clause-alone
returns-in-Ok-feed-clause-alone g c =
    let p = c.requires.stands.0 in
    let s = c.requires.stands.1 in
    let i = is_turn _ _ c.args.place.now p c.args.k c.asking_at-at.result s c.asking_at-at.ensures c.requires.room in
    λ b h. others_stay _ _ _ c.args.place.now p s.dones c.args.k c.asking_at-at.result c.args.most c.pull_at.new.frame.steps c.pull_at.result pulled.Frame i c.pull_at.ensures.pulled (cc) b (h c.args.k c.asking_at-at.result c.asking_at-at.ensures)

pub returns-in-Ok-feed-clause-calm : goal.returns-in-Ok-feed-clause-calm
returns-in-Ok-feed-clause-calm g c =
    let p = c.requires.stands.0 in
    let s = c.requires.stands.1 in
    let i = is_turn _ _ c.args.place.now p c.args.k c.asking_at-at.result s c.asking_at-at.ensures c.requires.room in
    calm _ _ _ c.args.place.now p s.dones c.args.k c.asking_at-at.result c.args.most c.pull_at.new.frame.steps c.pull_at.result pulled.Frame i c.pull_at.ensures.pulled (cc) s.stands.listed (none_refused _ _ (c.in-Ok-feed.ensures.exact p.all s.dones p.taken i.done s.stands i.done_at))

pub returns-in-Ok-feed-clause-less : goal.returns-in-Ok-feed-clause-less
returns-in-Ok-feed-clause-less g c =
    let p = c.requires.stands.0 in
    let s = c.requires.stands.1 in
    let i = is_turn _ _ c.args.place.now p c.args.k c.asking_at-at.result s c.asking_at-at.ensures c.requires.room in
    let n = c.in-Ok-feed.ensures.kept i.q i.q_at in
    less_fed _ _ c.args.k i.q _ n.0 i.q_at i.room n.1

pub returns-clause-fault : goal.returns-clause-fault
returns-clause-fault g c =
    let p = c.requires.stands.0 in
    let s = c.requires.stands.1 in
    let i = is_turn _ _ c.args.place.now p c.args.k c.asking_at-at.result s c.asking_at-at.ensures c.requires.room in
    told_of _ c.in-Err-feed.refusal c.asking_at-at.result.engine _ _ _ c.of-in-Err-feed.ensures (c.in-Err-feed.ensures.exact p.all s.dones p.taken i.done s.stands i.done_at) (λ one e. strayed _ _ _ c.args.place.now p s.dones c.args.k c.asking_at-at.result c.args.most c.pull_at.new.frame.steps c.pull_at.result pulled.Frame i c.pull_at.ensures.pulled (cc) s.stands.listed one e)

pub returns-clause-blame : goal.returns-clause-blame
returns-clause-blame g c = blames_of c.args.place.now.asks c.args.k c.asking_at-at.result c.in-Err-feed.refusal c.of-in-Err-feed.result c.asking_at-at.ensures c.of-in-Err-feed.ensures
