-- What an evaluation over the first boxes of a list makes of all of them, and of one that is lost.
use Rattle.std.proofs.Common.{◌≡◌, ◌∙◌, ℕ, ◌-◌, ◌<◌, ◌≤◌, List, ◌++◌, drop, length, map, take, slice_get, refl, sym, ap, subst, arith, Option, Some, None}
use Rattle.std.specs.Prelude.{Result, Ok, Err, IfErr, IfSome, MatchOption, OnOk, remove}
use Rattle.exchange.specs.Calls.{Each, Grows}
use Rattle.exchange.specs.Faults.{Faulted, HasFailed, HasStrayed}
use Rattle.exchange.specs.declared.fault.RunFault.{RunFault}
use Rattle.exchange.specs.declared.fault.RunFault.TheVariants as run
use Rattle.phys_plan.specs.Asks.{AreBegun}
use Rattle.plan_tree.specs.Feeding.{HasGone}
use Rattle.plan_tree.specs.RunLaws.{CallsFollow, as_done, done}
use Rattle.remote_api.specs.Seen.{EngineSeen, IsBegun, KeepsStrays}
use Rattle.remote_api.specs.declared.frame.Stray.{Stray}
use Rattle.step_table.specs.Groups.{Names}
use Rattle.query_engine.specs.Engines.{AreSoundAndTell, FaultedLast, IsNoFault, Leaves, Loses, LosesNamed, LosesNone, last_place, moved_last, named_by}
use Rattle.query_engine.proofs.Boxes.{before_each, drop_front, each_moved, each_whole, map_drop, map_moved, map_size, map_take, moved_size, moved_there, parts_size, take_front, take_get, take_inside, take_size}

-- ---- calls one behind another

bare : {T : Type 0} (r : Result T RunFault) (es fs : List EngineSeen) → HasGone r es fs → HasGone (as_done r) es fs
bare (Ok x) es fs h = record { many = h.many; grown = h.grown; calm = h.calm; fault = tt }
bare (Err run.Memory) es fs h = record { many = h.many; grown = h.grown; calm = tt; fault = tt }
bare (Err (run.EngineFault i)) es fs h = record { many = h.many; grown = h.grown; calm = tt; fault = h.fault }
bare (Err (run.OutOfStep i expected got)) es fs h = record { many = h.many; grown = h.grown; calm = tt; fault = h.fault }
bare (Err (run.WrongCell i at)) es fs h = record { many = h.many; grown = h.grown; calm = tt; fault = h.fault }

full : {T : Type 0} (r : Result T RunFault) (es fs : List EngineSeen) → HasGone (as_done r) es fs → HasGone r es fs
full (Ok x) es fs h = record { many = h.many; grown = h.grown; calm = h.calm; fault = tt }
full (Err run.Memory) es fs h = record { many = h.many; grown = h.grown; calm = tt; fault = tt }
full (Err (run.EngineFault i)) es fs h = record { many = h.many; grown = h.grown; calm = tt; fault = h.fault }
full (Err (run.OutOfStep i expected got)) es fs h = record { many = h.many; grown = h.grown; calm = tt; fault = h.fault }
full (Err (run.WrongCell i at)) es fs h = record { many = h.many; grown = h.grown; calm = tt; fault = h.fault }

-- a call behind others that were made
pub behind : {T : Type 0} → CallsFollow → (r : Result T RunFault) (es fs gs : List EngineSeen) → HasGone done es fs → HasGone r fs gs → HasGone r es gs
behind follow r es fs gs a b = full r es gs (follow (as_done r) es fs gs a (bare r fs gs b))

-- behind them an answer that tells of no engine
pub given : {T : Type 0} (x : T) (es fs : List EngineSeen) → HasGone done es fs → HasGone {T = T} (Ok x) es fs
given x es fs h = full (Ok x) es fs h

pub lacking : {T : Type 0} (es fs : List EngineSeen) → HasGone done es fs → HasGone {T = T} (Err run.Memory) es fs
lacking es fs h = record { many = h.many; grown = h.grown; calm = tt; fault = tt }

-- engines that were begun
pub begun_gone : (es fs : List EngineSeen) → length fs ≡ length es → Each IsBegun es fs → HasGone done es fs
begun_gone es fs many begun = record {
  many = many;
  grown = λ i e at. (let o = begun i e at in (o.0, o.1, record { holding = o.2.holding; faults = o.2.faults.cause.later; sound = o.2.faults.sound }));
  calm = λ i e at. (let o = begun i e at in (o.0, o.1, o.2.strays));
  fault = tt;
}

pub begun_are : (es fs : List EngineSeen) → length fs ≡ length es → Each IsBegun es fs → AreBegun fs
begun_are es fs many begun i f at = let o = before_each IsBegun es fs i f many begun at in (o.2.forgotten, o.2.going)

-- ---- the whole list

grows_itself : (e : EngineSeen) → Grows e e
grows_itself e = record { holding = refl; faults = omega arith; sound = λ s. s }

strays_itself : (e : EngineSeen) → KeepsStrays e e
strays_itself e = record { strays = refl; stray = refl }

failed_whole : (n i : ℕ) (es fs : List EngineSeen) → HasFailed i (take n es) (take n fs) → HasFailed i es fs
failed_whole n i es fs h = record { e = h.e; f = h.f; e_at = take_get es n i h.e h.e_at; f_at = take_get fs n i h.f h.f_at; rose = h.rose; unsound = h.unsound }

strayed_whole : (n i : ℕ) (one : Stray) (es fs : List EngineSeen) → HasStrayed i one (take n es) (take n fs) → HasStrayed i one es fs
strayed_whole n i one es fs h = record { e = h.e; f = h.f; e_at = take_get es n i h.e h.e_at; f_at = take_get fs n i h.f h.f_at; rose = h.rose; last = h.last; untold = h.untold }

faulted_whole : {T : Type 0} (r : Result T RunFault) (n : ℕ) (es fs : List EngineSeen) → Faulted r (take n es) (take n fs) → Faulted r es fs
faulted_whole (Ok x) n es fs h = tt
faulted_whole (Err run.Memory) n es fs h = tt
faulted_whole (Err (run.EngineFault i)) n es fs h = failed_whole n i es fs h
faulted_whole (Err (run.OutOfStep i expected got)) n es fs h = strayed_whole n i _ es fs h
faulted_whole (Err (run.WrongCell i at)) n es fs h = strayed_whole n i _ es fs h

-- what was made of the first boxes
module _ {B T : Type 0} (f : B → EngineSeen) (n : ℕ) (bs cs : List B) (r : Result T RunFault) (gone : HasGone r (map f (take n bs)) (map f (take n cs))) where
  abbrev es : List EngineSeen
  es = map f bs

  abbrev fs : List EngineSeen
  fs = map f cs

  fronts : HasGone r (take n es) (take n fs)
  fronts = subst (λ (gs : List EngineSeen). HasGone r (take n es) gs) (map_take f n cs) (subst (λ (ds : List EngineSeen). HasGone r ds (map f (take n cs))) (map_take f n bs) gone)

  -- an engine that is named is one of the first
  pub named_inside : IfErr r (λ fault. IfSome (named_by fault) (λ i. i < n))
  named_inside = by_result r fronts.fault
    where
      by_result : (s : Result T RunFault) → Faulted s (take n es) (take n fs) → IfErr s (λ fault. IfSome (named_by fault) (λ i. i < n))
      by_result (Ok x) h = tt
      by_result (Err run.Memory) h = tt
      by_result (Err (run.EngineFault i)) h = take_inside es n i h.e h.e_at
      by_result (Err (run.OutOfStep i expected got)) h = take_inside es n i h.e h.e_at
      by_result (Err (run.WrongCell i at)) h = take_inside es n i h.e h.e_at

  module _ (rest : drop n cs ≡ drop n bs) (many : length cs ≡ length bs) where
    pub as_many : length fs ≡ length es
    as_many = map_size f cs ∙ many ∙ sym (map_size f bs)

    pub all_grown : Each Grows es fs
    all_grown = each_whole Grows grows_itself n es fs fronts.grown (sym (map_drop f n cs) ∙ ap (map f) rest ∙ map_drop f n bs)

    pub all_calm : OnOk r (Each KeepsStrays es fs)
    all_calm = by_result r fronts.calm
      where
        by_result : (s : Result T RunFault) → OnOk s (Each KeepsStrays (take n es) (take n fs)) → OnOk s (Each KeepsStrays es fs)
        by_result (Ok x) h = each_whole KeepsStrays strays_itself n es fs h (sym (map_drop f n cs) ∙ ap (map f) rest ∙ map_drop f n bs)
        by_result (Err x) h = tt

    pub all_faulted : Faulted r es fs
    all_faulted = faulted_whole r n es fs fronts.fault

  -- where the declared boxes are sound and tell, none has failed or strayed
  pub none_at_fault : AreSoundAndTell (take n es) → IsNoFault r
  none_at_fault good = by_result r fronts.fault
    where
      by_result : (s : Result T RunFault) → Faulted s (take n es) (take n fs) → IsNoFault s
      by_result (Ok x) h = tt
      by_result (Err run.Memory) h = tt
      by_result (Err (run.EngineFault i)) h = h.unsound (good i h.e h.e_at).0
      by_result (Err (run.OutOfStep i expected got)) h = h.untold (good i h.e h.e_at).1
      by_result (Err (run.WrongCell i at)) h = h.untold (good i h.e h.e_at).1

-- a call for the first boxes leaves the others
module _ {B T : Type 0} (f : B → EngineSeen) (n : ℕ) (bs ys : List B) (r : Result T RunFault) (inside : n ≤ length bs) (gone : HasGone r (map f (take n bs)) (map f ys)) where
  front_size : length ys ≡ n
  front_size = sym (map_size f ys) ∙ gone.many ∙ map_size f (take n bs) ∙ take_size n bs inside

  pub front_gone : HasGone r (map f (take n bs)) (map f (take n (ys ++ drop n bs)))
  front_gone = subst (λ (zs : List B). HasGone r (map f (take n bs)) (map f zs)) (sym (take_front ys (drop n bs) n front_size)) gone

  pub front_rest : drop n (ys ++ drop n bs) ≡ drop n bs
  front_rest = drop_front ys (drop n bs) n front_size

  pub front_many : length (ys ++ drop n bs) ≡ length bs
  front_many = parts_size n bs ys inside front_size

-- a number among the declared ones is one of a box
pub named_boxes : (fault : RunFault) (n m : ℕ) → n ≤ m → IfSome (named_by fault) (λ i. i < n) → IfSome (named_by fault) (λ i. i < m)
named_boxes run.Memory n m l h = tt
named_boxes (run.EngineFault i) n m l h = omega (arith, l, h)
named_boxes (run.OutOfStep i expected got) n m l h = omega (arith, l, h)
named_boxes (run.WrongCell i at) n m l h = omega (arith, l, h)

-- ---- one that is lost

module _ (es fs : List EngineSeen) (many : length fs ≡ length es) (grown : Each Grows es fs) where
  -- of an answer that names no engine
  pub none_lost : (before now : List Names) → now ≡ before → LosesNone before now es fs
  none_lost before now same = record { labels = same; many = many; boxes = grown }

  one_lost : (i : ℕ) (before now : List Names) (gs : List EngineSeen) → i < length before → length before ≤ length es → now ≡ remove before i → gs ≡ moved_last i fs → Loses i before now es gs
  one_lost i before now gs inside within labels moved = record {
    one = inside;
    labels = labels;
    many = ap length moved ∙ moved_size i fs (omega (arith, inside, within, many)) ∙ many;
    boxes = subst (Each Grows (moved_last i es)) (sym moved) (each_moved Grows i es fs many grown);
  }

  failed_last : (i : ℕ) (gs : List EngineSeen) → gs ≡ moved_last i fs → HasFailed i es fs → HasFailed (last_place es) (moved_last i es) gs
  failed_last i gs moved h = record {
    e = h.e;
    f = h.f;
    e_at = moved_there i (length es) es h.e refl h.e_at;
    f_at = ap (λ (l : List EngineSeen). slice_get l (length es - 1)) moved ∙ moved_there i (length es) fs h.f (sym many) h.f_at;
    rose = h.rose;
    unsound = h.unsound;
  }

  strayed_last : (i : ℕ) (one : Stray) (gs : List EngineSeen) → gs ≡ moved_last i fs → HasStrayed i one es fs → HasStrayed (last_place es) one (moved_last i es) gs
  strayed_last i one gs moved h = record {
    e = h.e;
    f = h.f;
    e_at = moved_there i (length es) es h.e refl h.e_at;
    f_at = ap (λ (l : List EngineSeen). slice_get l (length es - 1)) moved ∙ moved_there i (length es) fs h.f (sym many) h.f_at;
    rose = h.rose;
    last = h.last;
    untold = h.untold;
  }

  -- a fault takes the labels of the engine that it names, and its box was moved
  pub lost : (fault : RunFault) (before now : List Names) (gs : List EngineSeen) → length before ≤ length es → IfSome (named_by fault) (λ i. i < length before)
      → MatchOption (named_by fault) (now ≡ before) (λ i. now ≡ remove before i) → MatchOption (named_by fault) (gs ≡ fs) (λ i. gs ≡ moved_last i fs) → LosesNamed (named_by fault) before now es gs
  lost run.Memory before now gs within inside labels moved = record { labels = labels; many = ap length moved ∙ many; boxes = subst (Each Grows es) (sym moved) grown }
  lost (run.EngineFault i) before now gs within inside labels moved = one_lost i before now gs inside within labels moved
  lost (run.OutOfStep i expected got) before now gs within inside labels moved = one_lost i before now gs inside within labels moved
  lost (run.WrongCell i at) before now gs within inside labels moved = one_lost i before now gs inside within labels moved

  pub lost_last : (T : Type 0) (fault : RunFault) (gs : List EngineSeen) → MatchOption (named_by fault) (gs ≡ fs) (λ i. gs ≡ moved_last i fs) → Faulted {T = T} (Err fault) es fs → FaultedLast {T = T} (Err fault) es gs
  lost_last T run.Memory gs moved h = tt
  lost_last T (run.EngineFault i) gs moved h = failed_last i gs moved h
  lost_last T (run.OutOfStep i expected got) gs moved h = strayed_last i _ gs moved h
  lost_last T (run.WrongCell i at) gs moved h = strayed_last i _ gs moved h

-- as many boxes stand there, whatever is left
leaves_many : {T : Type 0} (r : Result T RunFault) (before now : List Names) (ds gs : List EngineSeen) → Leaves r before now ds gs → length gs ≡ length ds
leaves_many (Ok x) before now ds gs h = h.many
leaves_many (Err run.Memory) before now ds gs h = h.many
leaves_many (Err (run.EngineFault i)) before now ds gs h = h.many
leaves_many (Err (run.OutOfStep i expected got)) before now ds gs h = h.many
leaves_many (Err (run.WrongCell i at)) before now ds gs h = h.many

-- boxes that were written over as a whole have given no stray where those that were written have given none
pub calm_whole : {B T : Type 0} (f : B → EngineSeen) (n : ℕ) (bs ds cs zs : List B) (r : Result T RunFault) (before now : List Names) → ds ≡ bs → length ds ≡ n → Leaves r before now (map f ds) (map f cs)
    → OnOk r (Each KeepsStrays (map f ds) (map f cs)) → OnOk r (Each KeepsStrays (map f bs) (map f (take n (cs ++ zs))))
calm_whole {B} f n bs ds cs zs r before now same size leaves calm =
    let many : length cs ≡ n = sym (map_size f cs) ∙ leaves_many r before now (map f ds) (map f cs) leaves ∙ map_size f ds ∙ size in
    subst (λ (xs : List B). OnOk r (Each KeepsStrays (map f bs) (map f xs))) (sym (take_front cs zs n many))
    (subst (λ (xs : List B). OnOk r (Each KeepsStrays (map f xs) (map f cs))) same calm)

-- boxes that were moved, as they are seen
pub seen_moved : {B : Type 0} (f : B → EngineSeen) (named : Option ℕ) (bs cs : List B) → MatchOption named (cs ≡ bs) (λ i. cs ≡ moved_last i bs) → MatchOption named (map f cs ≡ map f bs) (λ i. map f cs ≡ moved_last i (map f bs))
seen_moved f None bs cs is = ap (map f) is
seen_moved f (Some i) bs cs is = ap (map f) is ∙ map_moved f i bs

-- ---- without engines

module _ {T : Type 0} (declared : List Names) (es : List EngineSeen) where
  pub alone_leaves : (r : Result T RunFault) → IfErr r (λ fault. fault ≡ run.Memory) → Leaves r declared declared es es
  alone_leaves (Ok x) m = none_lost es es refl (λ i e at. (e, at, grows_itself e)) declared declared refl
  alone_leaves (Err fault) m =
      subst (λ (f : RunFault). Leaves {T = T} (Err f) declared declared es es) (sym m) (none_lost es es refl (λ i e at. (e, at, grows_itself e)) declared declared refl)

  pub alone_faulted : (r : Result T RunFault) → IfErr r (λ fault. fault ≡ run.Memory) → FaultedLast r es es
  alone_faulted (Ok x) m = tt
  alone_faulted (Err fault) m = subst (λ (f : RunFault). FaultedLast {T = T} (Err f) es es) (sym m) tt

  pub alone_calm : (r : Result T RunFault) → OnOk r (Each KeepsStrays es es)
  alone_calm (Ok x) = λ i e at. (e, at, strays_itself e)
  alone_calm (Err x) = tt

  pub alone_never : (r : Result T RunFault) → IfErr r (λ fault. fault ≡ run.Memory) → IsNoFault r
  alone_never (Ok x) m = tt
  alone_never (Err fault) m = subst (λ (f : RunFault). IsNoFault {T = T} (Err f)) (sym m) tt
