use Rattle.std.proofs.Common.{refl}
use Rattle.print_laws.proofs.Again.{Spanned}
use Rattle.print_laws.proofs.Goods.{lexemes_are_raw}
use Rattle.print_laws.proofs.Values.{Spelled}
use Rattle.print_laws.proofs.Whole.{AreRaw, again}
use Rattle.print_laws.proofs.laws.canonical_texts_are_read.Goals as goal

pub returns : goal.returns
returns c =
    let spelled : Spelled = record {
      numbers = c.spellings_are_numbers.ensures.literal;
      decimals = c.decimals_end_by_the_hundredth.ensures;
      durations = c.spellings_are_durations.ensures;
      found = c.durations_are_found.ensures;
    } in
    let limits = c.parts_lie_within_limits.ensures in
    let spanned : Spanned = record { ranges = limits.ranges; steps = limits.steps; offsets = limits.offsets; times = limits.times } in
    let raw : AreRaw = λ text. lexemes_are_raw c.decimals_end_by_the_hundredth.ensures c.numbers_are_told.ensures.literal text (c.kinds_are_of_spellings.ensures text) in
    let alone = c.functions_have_their_names.ensures.alone in
    let in_grammar = c.what_is_read_is_a_query.ensures in
    let is_read = c.each_query_is_read.ensures.read in
    record {
      kept = λ text before kept e parses short. (again spelled alone spanned raw in_grammar is_read text before parses e refl short).0;
      anew = λ text before kept e parses short. (again spelled alone spanned raw in_grammar is_read text before parses e refl short).1;
    }
