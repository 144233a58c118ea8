use Rattle.std.proofs.Common.{◌∙◌}
use Rattle.plan_rewrites.proofs.Chosen.{Steps, all_is, all_served, all_steady, all_typed, all_valid, joined_typed}
use Rattle.plan_rewrites.proofs.choosing.rewritten.Goals as goal

pub returns : goal.returns
returns c =
    let kept = c.args.patterns.now in
    let types = c.rewritten_plans_are_typed.ensures in
    let valid = c.rewritten_plans_are_valid.ensures in
    let onces = c.rewritten_onces_are_steady.ensures in
    let served = c.rewritten_plans_are_served.ensures in
    let s : Steps c.args.choices kept c.args.p c.in_ok-q.q = record {
      ordered = c.in_ok-ordered.ordered;
      handed = c.in_ok-handed.handed;
      joined = c.in_ok-joined.joined;
      bare = c.in_ok-bare.bare;
      ordered_is = c.in_ok-ordered.ensures.plan;
      handed_is = c.in_ok-handed.ensures.plan;
      joined_is = c.in_ok-joined.ensures.plan;
      bare_is = c.in_ok-bare.ensures.plan;
      split_is = c.in_ok-q.ensures.plan;
    } in
    record {
      plan = all_is c.args.choices kept c.args.p c.in_ok-q.q s;
      means = λ asked t typed sets.
          c.in_ok-q.ensures.means asked t
          ∙ c.in_ok-bare.ensures.means (joined_typed c.args.choices kept c.args.p c.in_ok-q.q s (types.ordered kept) types.handed types.merged typed).typed asked t
          ∙ c.in_ok-joined.ensures.means asked t ∙ c.in_ok-handed.ensures.means asked t sets ∙ c.in_ok-ordered.ensures.means asked t;
      typed = all_typed c.args.choices kept c.args.p c.in_ok-q.q s (types.ordered kept) types.handed types.merged types.trimmed types.split;
      valid = all_valid c.args.choices kept c.args.p c.in_ok-q.q s (valid.ordered kept) valid.handed valid.merged valid.trimmed valid.split;
      onces = all_steady c.args.choices kept c.args.p c.in_ok-q.q s (onces.ordered kept) onces.handed onces.merged onces.trimmed onces.split;
      served = all_served c.args.choices kept c.args.p c.in_ok-q.q s (served.ordered kept) served.handed served.merged served.trimmed served.split;
    }
