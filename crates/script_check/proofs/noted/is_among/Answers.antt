use Rattle.std.proofs.Common.{◌≡◌, ◌∙◌, length, refl, sym, true}
use Rattle.std.proofs.lemmas.Option.{slice_get_read}
use Rattle.script_check.specs.NoteTexts.{is_of}
use Rattle.script_check.proofs.Wanting.{among_at}
use Rattle.script_check.proofs.noted.is_among.Goals as goal

pub returns-in-Some : goal.returns-in-Some
returns-in-Some c = λ h.
    let notes = c.args.notes.now in
    let is = c.index-notes-place.is in
    let at = slice_get_read notes (length notes) c.in-Some.place c.index-notes-place.result refl c.in-Some.ensures.within is in
    let told = sym c.is_of.ensures ∙ h in
    let of : is_of c.args.warnings c.index-notes-place.result ≡ true = cc in
    among_at c.args.warnings notes c.in-Some.place c.index-notes-place.result c.args.text.now at c.in-Some.ensures.has of
