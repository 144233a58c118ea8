use Rattle.func_table.proofs.Named.{names_found, others_unknown}
use Rattle.func_table.proofs.naming.functions_have_their_names.Goals as goal

pub returns : goal.returns
returns c = record { found = names_found; alone = others_unknown }
