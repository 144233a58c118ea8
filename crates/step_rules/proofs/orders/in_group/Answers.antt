use Rattle.step_rules.proofs.orders.in_group.Goals as goal

pub returns-clause-ranked : goal.returns-clause-ranked
returns-clause-ranked c = record { group = c.in_ok-group.ensures; number = c.is_valued.ensures }
