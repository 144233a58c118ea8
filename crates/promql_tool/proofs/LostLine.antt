-- How the line of an engine that was lost ends a run.
use Rattle.std.proofs.Common.{◌≡◌, ℕ, List, Option, Result, Ok, Err, OnErr, inl, inr}
use Rattle.std.specs.Prelude.{OnOk, ◌⊎◌, ⊤}
use Rattle.edge_io.specs.Written.{appended, WroteFront}
use Rattle.edge_io.specs.declared.sink.SinkFail.{SinkFail}
use Rattle.promql_tool.specs.Boxes.{EndsCut}
use Rattle.promql_tool.specs.Texts.{lost_text}
use Rattle.promql_tool.specs.declared.fault.Cut.TheVariants as cut
use Rattle.promql_tool.specs.declared.fault.Lost.{Lost}

pub lost_ended : (lost : Lost) (before now : Option (List ℕ)) (r : Result ⊤ SinkFail) (status : ℕ) → OnOk r (status ≡ 5) → OnErr r ((status ≡ 4) ⊎ (status ≡ 7)) → OnOk r (now ≡ appended before (lost_text lost))
    → OnErr r (WroteFront before now (lost_text lost)) → EndsCut (cut.Lost lost) before now status
lost_ended lost before now (Ok x) status five short wrote front = inl (five, wrote)
lost_ended lost before now (Err cause) status five short wrote front = inr (short, front)
