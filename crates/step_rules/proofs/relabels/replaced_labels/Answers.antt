use Rattle.std.proofs.Common.{◌≡◌, true, rules}
use Rattle.label_set.specs.Labels.{value_of}
use Rattle.promql_meaning.specs.Templates.{expanded}
use Rattle.step_rules.proofs.Replaced.{replaced_when}
use Rattle.step_rules.proofs.relabels.replaced_labels.Goals as goal

pub returns-clause-labels : goal.returns-clause-labels
returns-clause-labels c =
    let names = c.args.labels in
    let asked = c.args.replacing.now in
    let value = c.get-value.result.now in
    let spans = c.groups.new.into in
    let read : value ≡ value_of names asked.source = search rules in
    let matches : c.in_ok-matches.matches ≡ true = search rules in
    let filled : c.as_str-4.result.now ≡ expanded spans value asked.template = search rules in
    let target : c.as_str-3.result.now ≡ asked.target = search rules in
    replaced_when c.labels_with.result c.args.patterns.now asked.pattern.0 c.in_ok-matches.matches spans names value c.as_str-3.result.now c.as_str-4.result.now asked.target asked.template asked.source
    read matches c.in_ok-matches.ensures.answer filled target c.labels_with.ensures
