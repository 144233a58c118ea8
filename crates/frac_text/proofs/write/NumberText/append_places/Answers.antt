use Rattle.std.proofs.Common.{◌≤◌, length, ◌∷◌, [], length-append, subst, sym, ◌++◌, ◌-◌, ◌+◌, ◌*◌, ◌%◌, arith, ap, ◌∙◌, inl, inr}
use Rattle.frac_text.specs.Spellings.{places}
use Rattle.frac_text.proofs.Written.{places_step, places_done}
use Rattle.frac_text.proofs.write.NumberText.append_places.Goals as goal

pub returns-then-left-eq0 : goal.returns-then-left-eq0
returns-then-left-eq0 c =
    places_done c.loop.self (c.args.self.now ++ places 100 c.args.r c.args.d) c.loop.counter c.loop.left c.args.d (inl c.if-left-eq0.true) c.loop.invariant.is

pub returns : goal.returns
returns c =
    places_done c.loop.self (c.args.self.now ++ places 100 c.args.r c.args.d) c.loop.counter c.loop.left c.args.d (inr (omega arith)) c.loop.invariant.is

pub loop-preserved : goal.loop-preserved
loop-preserved c =
    record {
      is = ap (λ r. c.push.new.self ++ places (100 - (c.loop.counter + 1)) r c.args.d) c.divided-digit.ensures.rest
          ∙ ap (λ t. t ++ places (100 - (c.loop.counter + 1)) (c.loop.left * 10 % c.args.d) c.args.d) c.push.ensures
          ∙ places_step c.loop.self (c.args.self.now ++ places 100 c.args.r c.args.d) c.loop.counter c.loop.left c.args.d _ (omega arith) c.if-left-eq0.false (omega arith) c.loop.invariant.is;
      below = omega arith;
      room = subst (λ t. length t ≤ length c.args.self.now + (c.loop.counter + 1)) (sym c.push.ensures) (omega (arith, length-append c.loop.self ((48 + c.divided-digit.result.0) ∷ [])));
    }
