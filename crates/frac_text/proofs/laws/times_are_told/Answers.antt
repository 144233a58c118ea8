use Rattle.frac_text.proofs.Timed.{time-taken, taken-time, time-beyond, beyond-time, time-bad, bad-time}
use Rattle.frac_text.proofs.laws.times_are_told.Goals as goal

pub returns : goal.returns
returns c = record {
  taken = λ text t. (time-taken text t, taken-time text t);
  beyond = λ text. (time-beyond text, beyond-time text);
  bad = λ text. (time-bad text, bad-time text);
}
