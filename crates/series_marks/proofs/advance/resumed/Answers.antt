use Rattle.std.proofs.Common.{◌≤◌, length, subst}
use Rattle.sample_store.specs.Samples.{Samples, samples_at}
use Rattle.series_marks.proofs.Stores.{rest_behind, samples_is}
use Rattle.series_marks.proofs.advance.resumed.Goals as goal

pub resume-requires-clause-within : goal.resume-requires-clause-within
resume-requires-clause-within c = λ one at. subst (λ (xs : Samples). c.args.place ≤ length xs) (samples_is c.args.store.now c.args.s one at) c.requires.within

pub returns-clause-rest : goal.returns-clause-rest
returns-clause-rest c = rest_behind (samples_at c.args.store.now c.args.s) c.args.place c.resume.result.before c.resume.result.rest c.resume.ensures.stands c.resume.ensures.place
