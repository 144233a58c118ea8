use Rattle.step_rules.proofs.templates.span_text.Goals as goal

pub range-requires-clause-start_le_end : goal.range-requires-clause-start_le_end
range-requires-clause-start_le_end c = (c.requires c.args.number (c.in-Some.from, c.in-Some.to) c.in-Some.ensures).0

pub range-requires-clause-start_boundary : goal.range-requires-clause-start_boundary
range-requires-clause-start_boundary c = λ positive. (c.requires c.args.number (c.in-Some.from, c.in-Some.to) c.in-Some.ensures).1

pub range-requires-clause-end_boundary : goal.range-requires-clause-end_boundary
range-requires-clause-end_boundary c = (c.requires c.args.number (c.in-Some.from, c.in-Some.to) c.in-Some.ensures).2
