use Rattle.std.proofs.Common.{◌<◌, [], arith, length, map, refl}
use Rattle.std.proofs.lemmas.List.{length-map}
use Rattle.test_runner.proofs.Calling.{map_length}
use Rattle.test_runner.proofs.Gone.{loaded_failed, loaded_gone}
use Rattle.test_runner.proofs.Parts.{has_loaded, may_load_at}
use Rattle.test_runner.proofs.boxes.load_into.Goals as goal

pub load_at-requires-clause-may : goal.load_at-requires-clause-may
load_at-requires-clause-may g c =
    may_load_at c.args.target.declared.now c.args.target.line c.args.target.labels.now c.args.at c.args.held.now c.place_of-i.result c.place_of-i.ensures.place (map (λ b. (goal.Engine-dyn g (b.vtable, b.value)).seen b.value) c.args.engines.now) c.requires.may c.names_at.result.now c.names_at.ensures.there c.names_at.ensures.set

pub returns-in-Ok-clause-put : goal.returns-in-Ok-clause-put
returns-in-Ok-clause-put g c =
    has_loaded c.args.target.declared.now c.args.target.line c.args.target.labels.now c.args.at c.args.held.now c.place_of-i.result c.place_of-i.ensures.place (map (λ b. (goal.Engine-dyn g (b.vtable, b.value)).seen b.value) c.args.engines.now) (map (λ b. (goal.Engine-dyn g (b.vtable, b.value)).seen b.value) c.load_at.new.engines) _ _ c.in-Ok.ensures.loaded
    (map_length (λ b. (goal.Engine-dyn g (b.vtable, b.value)).seen b.value) c.load_at.new.engines c.args.engines.now c.load_at.ensures.len) c.puts_stay_parted.ensures.puts c.len.ensures.label_set

pub returns-in-Ok-clause-gone : goal.returns-in-Ok-clause-gone
returns-in-Ok-clause-gone g c =
    loaded_gone c.args.target.labels.now c.args.at c.args.held.now c.place_of-i.result (map (λ b. (goal.Engine-dyn g (b.vtable, b.value)).seen b.value) c.args.engines.now) (map (λ b. (goal.Engine-dyn g (b.vtable, b.value)).seen b.value) c.load_at.new.engines) (map_length (λ b. (goal.Engine-dyn g (b.vtable, b.value)).seen b.value) c.load_at.new.engines c.args.engines.now c.load_at.ensures.len) _ _ _ c.in-Ok.ensures.loaded tt

pub place_of-i-requires-clause-some : goal.place_of-i-requires-clause-some
place_of-i-requires-clause-some g c = c.requires.may.1.parts.boxes.some

pub load_at-requires-clause-inside : goal.load_at-requires-clause-inside
load_at-requires-clause-inside g c =
    let many = c.requires.may.1.parts.boxes.many in
    let size = length-map c.args.engines.now (λ b. (goal.Engine-dyn g (b.vtable, b.value)).seen b.value) in
    omega (arith, c.place_of-i.ensures.within, many, size)

pub returns-in-Err-Failed-clause-put : goal.returns-in-Err-Failed-clause-put
returns-in-Err-Failed-clause-put g c = λ series m ok. ([], tt, tt)

pub returns-in-Err-Memory-clause-put : goal.returns-in-Err-Memory-clause-put
returns-in-Err-Memory-clause-put g c = λ series m ok. ([], tt, tt)

pub returns-in-Err-Failed-clause-gone : goal.returns-in-Err-Failed-clause-gone
returns-in-Err-Failed-clause-gone g c =
    let within : c.place_of-i.result < length (map (λ b. (goal.Engine-dyn g (b.vtable, b.value)).seen b.value) c.args.engines.now) = (let many = c.requires.may.1.parts.boxes.many in omega (arith, c.place_of-i.ensures.within, many)) in
    loaded_gone c.args.target.labels.now c.args.at c.args.held.now c.place_of-i.result (map (λ b. (goal.Engine-dyn g (b.vtable, b.value)).seen b.value) c.args.engines.now) (map (λ b. (goal.Engine-dyn g (b.vtable, b.value)).seen b.value) c.load_at.new.engines) (map_length (λ b. (goal.Engine-dyn g (b.vtable, b.value)).seen b.value) c.load_at.new.engines c.args.engines.now c.load_at.ensures.len) _ _ _ c.load_at.ensures.loaded
    (c.place_of-i.ensures.within, loaded_failed c.args.target.labels.now c.args.at c.args.held.now c.place_of-i.result (map (λ b. (goal.Engine-dyn g (b.vtable, b.value)).seen b.value) c.args.engines.now) (map (λ b. (goal.Engine-dyn g (b.vtable, b.value)).seen b.value) c.load_at.new.engines) (map_length (λ b. (goal.Engine-dyn g (b.vtable, b.value)).seen b.value) c.load_at.new.engines c.args.engines.now c.load_at.ensures.len) c.load_at.result (cc) within c.load_at.ensures.loaded)

pub returns-in-Err-Memory-clause-gone : goal.returns-in-Err-Memory-clause-gone
returns-in-Err-Memory-clause-gone g c =
    loaded_gone c.args.target.labels.now c.args.at c.args.held.now c.place_of-i.result (map (λ b. (goal.Engine-dyn g (b.vtable, b.value)).seen b.value) c.args.engines.now) (map (λ b. (goal.Engine-dyn g (b.vtable, b.value)).seen b.value) c.load_at.new.engines) (map_length (λ b. (goal.Engine-dyn g (b.vtable, b.value)).seen b.value) c.load_at.new.engines c.args.engines.now c.load_at.ensures.len) _ _ _ c.load_at.ensures.loaded tt
