use Rattle.std.proofs.Common.{◌≡◌, ◌∙◌, None, length, sym, ap, subst}
use Rattle.series_marks.specs.Reads.{after}
use Rattle.sample_store.specs.Samples.{samples_at}
use Rattle.sample_store.specs.Samples.{Samples}
use Rattle.series_marks.specs.declared.mark.Mark.{Mark}
use Rattle.series_marks.specs.Reads.{Rises, Spares, coming, mark_at, last_of}
use Rattle.series_marks.specs.Walked.{after_after}
use Rattle.series_marks.specs.Marked.{rises_at, spares_mark, last_after, is_mark, coming_mark, place_read, read_more}
use Rattle.series_marks.proofs.renew.go_on.Goals as goal

pub advance-requires-clause-rises : goal.advance-requires-clause-rises
advance-requires-clause-rises g c =
    let S = samples_at c.args.store.now c.args.s in
    subst (λ (k : Mark). Rises k.last (coming S k)) (sym c.requires.mark) (rises_at c.args.reached.0.0 c.args.reached.1.0 S c.requires.rises)

pub advance-requires-clause-spares : goal.advance-requires-clause-spares
advance-requires-clause-spares g c =
    let S = samples_at c.args.store.now c.args.s in
    subst (λ (k : Mark). Spares c.args.m.0 k.last k.ahead) (sym c.requires.mark) (spares_mark c.args.reached.0.0 c.args.reached.1.0 c.args.m.0 S c.requires.later)

pub returns-clause-mark : goal.returns-clause-mark
returns-clause-mark g c =
    let S = samples_at c.args.store.now c.args.s in
    let e = c.args.reached.0.0 in
    let a = c.args.reached.1.0 in
    let b = c.args.m.0 in
    let was = ap (coming S) c.requires.mark ∙ coming_mark e a S in
    is_mark e b S c.advance.result
    (c.advance.ensures.last ∙ ap (λ (xs : Samples). last_of b xs c.args.mark.last) was ∙ ap (λ (k : Mark). last_of b (after a (after e S)) k.last) c.requires.mark ∙ last_after a b (after e S) None c.requires.later)
    (c.advance.ensures.coming ∙ ap (after b) was ∙ after_after a b (after e S) c.requires.later)
    c.advance.ensures.ahead c.advance.ensures.within

pub returns-clause-read : goal.returns-clause-read
returns-clause-read g c =
    let S = samples_at c.args.store.now c.args.s in
    let e = c.args.reached.0.0 in
    let p = place_read e c.args.reached.1.0 S in
    let q = place_read e c.args.m.0 S in
    let w : c.args.mark.place ≡ (mark_at e c.args.reached.1.0 S).place = ap (λ (k : Mark). k.place) c.requires.mark in
    let v : c.advance.result.place ≡ (mark_at e c.args.m.0 S).place = ap (λ (k : Mark). k.place) (returns-clause-mark g c) in
    let r = c.advance.ensures.read in
    read_more c.advance.new.work.fetched c.args.work.now.fetched c.args.mark.place c.advance.result.place (mark_at e c.args.reached.1.0 S).place (mark_at e c.args.m.0 S).place (length (after e S)) (length S) _ _ r w v p q
