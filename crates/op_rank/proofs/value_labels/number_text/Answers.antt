use Rattle.std.proofs.Common.{◌∙◌, ◌++◌, ap}
use Rattle.frac_text.specs.Spellings.{spelling}
use Rattle.op_rank.proofs.Spelled.{spelled_text}
use Rattle.op_rank.proofs.value_labels.number_text.Goals as goal

pub unwrap-requires : goal.unwrap-requires
unwrap-requires c =
    c.from_utf8.ensures.succeeds (spelled_text _ c.args.value.now c.is_number.ensures
    (c.in_ok-write_number.ensures.ok ∙ ap (λ bytes. bytes ++ spelling c.args.value.now) c.new-bytes.ensures.items))
