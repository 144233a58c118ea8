use Rattle.std.proofs.Common.{◌≡◌, ℕ, List, true, false, subst, rules, IfErr}
use Rattle.match_rule.specs.Patterns.{IsRefused, MayRefuse, regex_text}
use Rattle.match_rule.proofs.built.build.Goals as goal

pub returns-then-not-whole-clause-refused : goal.returns-then-not-whole-clause-refused
returns-then-not-whole-clause-refused c =
    let off : c.args.whole ≡ false = search rules in
    rw off c.build_text.ensures.refused

pub returns-clause-refused : goal.returns-clause-refused
returns-clause-refused c =
    let on : c.args.whole ≡ true = search rules in
    let text : c.as_str.result.now ≡ regex_text true c.args.text.now = search rules in
    rw on (subst (λ (t : List ℕ). IfErr c.build_text-2.result (MayRefuse (IsRefused t) ⊥)) text c.build_text-2.ensures.refused)
