use Rattle.std.proofs.Common.{◌∙◌}
use Rattle.op_ratio.proofs.Naming.{placed_kept}
use Rattle.op_ratio.proofs.numbering.Numbering.renew.Goals as goal

pub returns-in_err-take-clause-numbered : goal.returns-in_err-take-clause-numbered
returns-in_err-take-clause-numbered c = record {
  sums_left = c.take.ensures.left ∙ c.begin.ensures.sums_left;
  counts_left = c.begin.ensures.counts_left;
  sums = c.take.ensures.named;
  counts = placed_kept c.begin.new.self.names c.take.new.buffer c.begin.new.self.counts c.take.ensures.kept c.begin.ensures.counts;
}

pub take-requires-2 : goal.take-requires-2
take-requires-2 c = record {
  named = placed_kept c.begin.new.self.names c.take.new.buffer c.begin.new.self.counts c.take.ensures.kept c.begin.ensures.counts;
}

pub returns-clause-numbered : goal.returns-clause-numbered
returns-clause-numbered c = record {
  sums_left = c.take.ensures.left ∙ c.begin.ensures.sums_left;
  counts_left = c.take-2.ensures.left ∙ c.begin.ensures.counts_left;
  sums = placed_kept c.take.new.buffer c.take-2.new.buffer c.take.new.self c.take-2.ensures.kept c.take.ensures.named;
  counts = c.take-2.ensures.named;
}
