use Rattle.sample_store.specs.Samples.{samples_at}
use Rattle.series_marks.proofs.Stores.{behind_edge, few_behind}
use Rattle.series_marks.proofs.renew.place_behind.Goals as goal

pub returns-clause-later : goal.returns-clause-later
returns-clause-later g c = behind_edge (samples_at c.args.store.now c.args.s) c.place.result c.args.edge c.seek-cursor.result.before c.seek-cursor.result.rest c.seek-cursor.ensures.stands c.seek-cursor.ensures.ahead c.place.ensures c.requires.rises

pub returns-clause-within : goal.returns-clause-within
returns-clause-within g c = few_behind (samples_at c.args.store.now c.args.s) c.place.result c.seek-cursor.result.before c.seek-cursor.result.rest c.seek-cursor.ensures.stands c.place.ensures
