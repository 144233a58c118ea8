-- What a check keeps is kept for the evaluation, and stays so.
use Rattle.std.proofs.Common.{◌∙◌, ℕ, Bool, true, List, [], ◌∷◌}
use Rattle.std.specs.List.{AllByRecursion}
use Rattle.std.proofs.lemmas.Option.{slice_get_within}
use Rattle.label_set.specs.Entries.{recursion_map}
use Rattle.match_rule.specs.Gains.{Gains}
use Rattle.promql_type.specs.Judging.{judged}
use Rattle.promql_type.specs.Replacements.{AreKept}
use Rattle.promql_type.specs.declared.replace.Placed.{Placed}
use Rattle.promql_type.specs.declared.replace.Replacement.{Replacement}
use Rattle.plain_eval.specs.Checked.{CheckedPatternsAreKept, KeptPatternsStay}
use Rattle.plain_eval.specs.Ready.{IsPatternKept}

kept_from : (kept : List (Bool × List ℕ)) (rs : List Replacement) (ps : List Placed) → AreKept kept rs ps → AllByRecursion (IsPatternKept kept) rs
kept_from kept [] ps are = tt
kept_from kept (r ∷ rs) [] are = absurd are
kept_from kept (r ∷ rs) (p ∷ ps) are = (record { number = p.id.0; there = are.1 }, kept_from kept rs ps are.2)

pub checked_patterns_are_kept_lem : CheckedPatternsAreKept
checked_patterns_are_kept_lem kept e placed are = kept_from kept (judged e).replacements placed are

stays : (before after : List (Bool × List ℕ)) (r : Replacement) → Gains before after → IsPatternKept before r → IsPatternKept after r
stays before after r gains is = record {
  number = is.number;
  there = gains.earlier is.number (slice_get_within before is.number (true, r.text) is.there) ∙ is.there;
}

pub kept_patterns_stay_lem : KeptPatternsStay
kept_patterns_stay_lem before after e gains are = recursion_map (IsPatternKept before) (IsPatternKept after) (λ r. stays before after r gains) (judged e).replacements are
