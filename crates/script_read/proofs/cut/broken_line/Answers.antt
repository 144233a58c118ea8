use Rattle.std.proofs.Common.{◌≡◌, eqb, length, true, refl, eq-eqb}
use Rattle.std.proofs.lemmas.Str.{utf8_valid_len-IsUtf8}
use Rattle.std.specs.Str.Lossy.{utf8_valid_len}
use Rattle.script_read.proofs.cut.broken_line.Goals as goal

pub returns-in-Ok : goal.returns-in-Ok
returns-in-Ok c =
    let bytes = c.args.bytes.now in
    let whole : eqb (utf8_valid_len bytes) (length bytes) ≡ true = eq-eqb _ _ (utf8_valid_len-IsUtf8 bytes c.in-Ok.ensures.cases.1) in
    rw whole refl
