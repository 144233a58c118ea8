use Rattle.script_read.specs.Reading.{reading}
use Rattle.script_read.proofs.BlocksRead.{script_read}
use Rattle.script_read.proofs.Spelled.{NumbersAreTold}
use Rattle.script_read.proofs.Takes.{same_ok}
use Rattle.script_read.proofs.laws.each_script_is_read.Goals as goal

pub returns : goal.returns
returns c =
    let told : NumbersAreTold = λ text v. (c.numbers_are_told.ensures.script text v).0 in
    record {
      read = λ kept bytes commands. script_read told kept bytes commands;
      one = λ kept bytes a b h k. same_ok (reading kept bytes) a b (script_read told kept bytes a h) (script_read told kept bytes b k);
    }
