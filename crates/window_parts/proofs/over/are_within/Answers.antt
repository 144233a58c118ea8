use Rattle.window_parts.proofs.over.are_within.Goals as goal

pub returns-in-None-clause-near : goal.returns-in-None-clause-near
returns-in-None-clause-near c = λ n few reach. absurd (c.in-None.ensures.near n few reach)
