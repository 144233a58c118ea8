use Rattle.std.proofs.Common.{◌∙◌, ap, sym, refl}
use Rattle.std.proofs.lemmas.Option.{slice_get_read}
use Rattle.opt_selects.specs.Candidates.{is_under}
use Rattle.opt_selects.proofs.RowsGrow.{one_more}
use Rattle.opt_selects.proofs.candidates.rows_for.Goals as goal

pub loop-place-preserved : goal.loop-place-preserved
loop-place-preserved c = record {
  many = c.in_ok-stand.ensures.many ∙ c.loop-place.invariant.many;
  stand =
      one_more c.args.found.now c.loop-place.rows.items c.stand.new.rows.items c.loop-place.place c.index-found-place.result (slice_get_read c.args.found.now _ c.loop-place.place c.index-found-place.result refl c.loop-place-test.true c.index-found-place.is) c.in_ok-stand.ensures.stays
      (λ some. ap (λ keys. is_under c.stand.new.rows.items keys c.loop-place.place) (sym c.keys.ensures) ∙ c.in_ok-stand.ensures.stands (λ empty. some (sym c.keys.ensures ∙ empty)))
      c.loop-place.invariant.stand;
}
