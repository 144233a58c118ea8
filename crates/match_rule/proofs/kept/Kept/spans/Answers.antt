use Rattle.std.proofs.Common.{◌≡◌, ◌∙◌, false, true, sym, ap, is_none, rules}
use Rattle.match_rule.specs.Patterns.{is_plain}
use Rattle.match_rule.proofs.Searches.{found_groups, plain_groups}
use Rattle.match_rule.proofs.kept.Kept.spans.Goals.{in-None, in-Some}
use Rattle.match_rule.proofs.kept.Kept.spans.Goals as goal

pub returns-clause-spans : goal.returns-clause-spans
returns-clause-spans c =
    let text : c.args.self.now.1 ≡ c.self.inside.text = cc in
    let whole : c.self.inside.whole ≡ true = search rules in
    elim c.match-self.branch [
      | in-None w ↦
          let plain : is_plain c.self.inside.text ≡ true = sym c.self.invariant.0.0 ∙ ap is_none w.in-None.is in
          rw (w.result-is, text) (plain_groups w.plain_spans.result w.as_str.result.now c.self.inside.text c.args.value.now w.as_str.ensures plain w.plain_spans.ensures.spans)
      | in-Some w ↦
          let off : is_plain c.self.inside.text ≡ false = sym c.self.invariant.0.0 ∙ ap is_none w.in-Some.is in
          rw (w.result-is, text) (
          found_groups w.spans_in.result w.in-Some.matcher c.self.inside.whole c.self.inside.text c.args.value.now off whole
          (c.self.invariant.0.1 w.in-Some.matcher w.in-Some.is) (λ k. (c.type_inv.value k).fits) w.spans_in.ensures.spans
          )
    ]
