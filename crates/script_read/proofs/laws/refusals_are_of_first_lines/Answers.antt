use Rattle.std.proofs.Common.{cond, Err, ap, sym, ◌∙◌}
use Rattle.std.proofs.lemmas.Bool.{le-ltb}
use Rattle.std.specs.Prelude.{length}
use Rattle.script_read.specs.Lines.{broken_line, lines_of}
use Rattle.script_read.specs.Reading.{text_read}
use Rattle.script_read.specs.Refusals.{limit}
use Rattle.script_read.specs.declared.fault.ReadFault.TheVariants.{Refused}
use Rattle.script_read.specs.declared.script.ScriptRefusal.TheVariants.{TooLarge}
use Rattle.script_read.proofs.FirstRefused.{first_refused}
use Rattle.script_read.proofs.laws.refusals_are_of_first_lines.Goals as goal

pub returns : goal.returns
returns c = λ kept bytes refusal small told h. first_refused kept (lines_of bytes) refusal
    (sym (ap (λ b. cond b (Err (Refused TooLarge)) (text_read kept (broken_line bytes) bytes)) (le-ltb limit (length bytes) small) ∙ ap (λ broken. text_read kept broken bytes) told) ∙ h)
