use Rattle.frac_text.proofs.ReadBack.{script-spelling, literal-spelling}
use Rattle.frac_text.proofs.laws.spellings_are_numbers.Goals as goal

pub returns : goal.returns
returns c = record { script = script-spelling; literal = literal-spelling }
