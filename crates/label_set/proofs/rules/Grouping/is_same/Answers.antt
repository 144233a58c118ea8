use Rattle.std.proofs.Common.{rules}
use Rattle.label_set.proofs.Sameness.{texts_from_eq, texts_to_eq}
use Rattle.label_set.proofs.rules.Grouping.is_same.Goals as goal

pub returns : goal.returns
returns c =
    let from = texts_from_eq c.args.self.now.names c.args.other.now.names in
    let back = texts_to_eq c.args.self.now.names c.args.other.now.names in
    search (rules, from, back)
