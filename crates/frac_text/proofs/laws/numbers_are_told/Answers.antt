use Rattle.frac_text.proofs.Told.{literal_told, told_literal, script_told, told_script}
use Rattle.frac_text.proofs.laws.numbers_are_told.Goals as goal

pub returns : goal.returns
returns c = record {
  literal = λ text v. (literal_told text v, told_literal text v);
  script = λ text v. (script_told text v, told_script text v);
}
