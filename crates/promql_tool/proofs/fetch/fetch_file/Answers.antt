use Rattle.std.proofs.Common.{List, ℕ, Some, subst, sym}
use Rattle.promql_tool.specs.Found.{IsFound}
use Rattle.promql_tool.proofs.Fetching.{past_found, whole_found}
use Rattle.promql_tool.proofs.fetch.fetch_file.Goals as goal

pub returns-in-Ok-Whole-clause-file : goal.returns-in-Ok-Whole-clause-file
returns-in-Ok-Whole-clause-file g c =
    let told = g.L.Library.told c.args.library.now in
    let sound = g.L.Library.sound c.args.library.now in
    λ terms. subst (λ (bytes : List ℕ). IsFound told sound c.args.path.now (Some bytes)) (sym c.from_vec.ensures)
    (whole_found sound c.args.path.now told c.fetch.new.into.items (rw c.in-Ok-Whole.field-0-is at c.in-Ok-Whole.ensures.tells))

pub returns-in-Ok-PastLimit-clause-file : goal.returns-in-Ok-PastLimit-clause-file
returns-in-Ok-PastLimit-clause-file g c =
    λ terms. past_found (g.L.Library.sound c.args.library.now) c.args.path.now terms (g.L.Library.told c.args.library.now) c.fetch.new.into.items (rw c.in-Ok-PastLimit.field-0-is at c.in-Ok-PastLimit.ensures.tells)
