-- What holds of a base, one by one.
use Rattle.std.proofs.Common.{◌≡◌, List, true}
use Rattle.std.specs.Prelude.{Option, ◌&&◌, not}
use Rattle.std.proofs.lemmas.Bool.{and_from, and_parts}
use Rattle.label_set.specs.declared.rules.Rule.{Rule}
use Rattle.promql_ast.specs.declared.tree.Moment.{Moment}
use Rattle.ticks.specs.declared.moment.Ms.{Ms}
use Rattle.plan_rewrite.specs.RuleLists.{is_part}
use Rattle.opt_selects.specs.Bases.{is_base, same_moment, same_range, share_metric}
use Rattle.opt_selects.specs.declared.found.Found.{Found}

module _ (rules : List Rule) (moment : Moment) (range : Option Ms) (a : Found) where
  pub record IsBase : Type 0 where
    pub moments : same_moment a.moment moment ≡ true
    pub ranges : same_range a.range range ≡ true
    pub metrics : share_metric a.rules rules ≡ true
    pub part : is_part a.rules rules ≡ true
    pub proper : not (is_part rules a.rules) ≡ true

  pub base_parts : is_base rules moment range a ≡ true → IsBase
  base_parts e =
      let all = and_parts (same_moment a.moment moment && same_range a.range range && share_metric a.rules rules && is_part a.rules rules) (not (is_part rules a.rules)) e in
      let rules_pass = and_parts (same_moment a.moment moment && same_range a.range range && share_metric a.rules rules) (is_part a.rules rules) all.0 in
      let metrics = and_parts (same_moment a.moment moment && same_range a.range range) (share_metric a.rules rules) rules_pass.0 in
      let times = and_parts (same_moment a.moment moment) (same_range a.range range) metrics.0 in
      record { moments = times.0; ranges = times.1; metrics = metrics.1; part = rules_pass.1; proper = all.1 }

  pub base_from : IsBase → is_base rules moment range a ≡ true
  base_from h =
      and_from (same_moment a.moment moment && same_range a.range range && share_metric a.rules rules && is_part a.rules rules) (not (is_part rules a.rules))
      (and_from (same_moment a.moment moment && same_range a.range range && share_metric a.rules rules) (is_part a.rules rules)
      (and_from (same_moment a.moment moment && same_range a.range range) (share_metric a.rules rules)
      (and_from (same_moment a.moment moment) (same_range a.range range) h.moments h.ranges) h.metrics) h.part) h.proper
