-- The labels of a result that are seen, beside lines that leave its series as they are.
use Rattle.std.proofs.Common.{◌≡◌, ℕ, Bool, true, false, List, [], ◌∷◌, ◌++◌, Result, Ok, Err, refl, ap, subst, IfOk}
use Rattle.promql_meaning.specs.declared.answer.ResultSeries.{ResultSeries}
use Rattle.script_read.specs.Expects.{Expectation, InOrder, Failing, Warning, Informing, WithoutWarnings, WithoutInfos, expectation_added, expectation_of, fits, wanted_for, with_asked}
use Rattle.script_read.specs.Lines.{words_of}
use Rattle.script_read.specs.Outcomes.{Makes, MakesWith, PatternList}
use Rattle.script_read.specs.Results.{AreSeen, number_alone, rows_in, scalar_added}
use Rattle.script_read.specs.Series.{LabelList}
use Rattle.script_read.specs.declared.fault.LineFault.{LineFault}
use Rattle.script_read.specs.declared.fault.LineFault.TheVariants.{Malformed}
use Rattle.script_read.specs.declared.script.Expectations.{Expectations}
use Rattle.script_read.specs.declared.script.Expected.{Expected}
use Rattle.script_read.specs.declared.script.Expected.TheVariants.{Scalar, Rows}
use Rattle.script_read.proofs.Takes.{give_ok, if_ok, same_ok, try_ok}

-- an expectation leaves the result as it is
asked_stays : (kept : PatternList) (e now : Expectations) (x : Expectation) → with_asked kept e x ≡ Ok now → e.result ≡ now.result
asked_stays kept e now InOrder h = ap (λ (n : Expectations). n.result) (same_ok (with_asked kept e InOrder) (record e { ordered = true }) now refl h)
asked_stays kept e now (Failing test) h = ap (λ (n : Expectations). n.result) (give_ok (wanted_for kept test) (λ wanted. record e { fail = e.fail ++ wanted ∷ [] }) now h).2
asked_stays kept e now (Warning test) h = ap (λ (n : Expectations). n.result) (give_ok (wanted_for kept test) (λ wanted. record e { warn = e.warn ++ wanted ∷ [] }) now h).2
asked_stays kept e now (Informing test) h = ap (λ (n : Expectations). n.result) (give_ok (wanted_for kept test) (λ wanted. record e { info = e.info ++ wanted ∷ [] }) now h).2
asked_stays kept e now WithoutWarnings h = ap (λ (n : Expectations). n.result) (same_ok (with_asked kept e WithoutWarnings) (record e { no_warn = true }) now refl h)
asked_stays kept e now WithoutInfos h = ap (λ (n : Expectations). n.result) (same_ok (with_asked kept e WithoutInfos) (record e { no_info = true }) now refl h)

result_stays : (kept : PatternList) (e now : Expectations) (instant : Bool) (text : List ℕ) → expectation_added kept e instant text ≡ Ok now → e.result ≡ now.result
result_stays kept e now instant text h =
    let x = try_ok (expectation_of text) _ now h in
    let k = if_ok (fits e instant x.0) (with_asked kept e x.0) Malformed now x.2 in
    asked_stays kept e now x.0 k.1

pub seen_stays : {X : Type 0} (r : Result X LineFault) (now : Expectations) (kept : PatternList) (e : Expectations) (instant : Bool) (text : List ℕ) (seen : LabelList → Bool)
    → MakesWith r now kept (λ more. expectation_added more e instant text) → AreSeen seen (rows_in e.result) → IfOk r (λ _. AreSeen seen (rows_in now.result))
seen_stays (Ok x) now kept e instant text seen h s =
    subst (λ (result : Expected). AreSeen seen (rows_in result)) (result_stays (kept ++ []) e now instant text (h [])) s
seen_stays (Err fault) now kept e instant text seen h s = tt

-- a scalar stands beside no series
scalar_alone : (instant : Bool) (old now : Expected) (text : List ℕ) → scalar_added instant old text ≡ Ok now → rows_in old ≡ rows_in now
scalar_alone true (Rows []) now text h = ap rows_in (give_ok (number_alone (words_of text)) Scalar now h).2
scalar_alone true (Rows (row ∷ rows)) now text h = absurd (cc)
scalar_alone true (Scalar value) now text h = absurd (cc)
scalar_alone false old now text h = absurd (cc)

pub scalar_seen : {X : Type 0} (r : Result X LineFault) (old now : Expected) (instant : Bool) (text : List ℕ) (seen : LabelList → Bool)
    → Makes r now (scalar_added instant old text) → AreSeen seen (rows_in old) → IfOk r (λ _. AreSeen seen (rows_in now))
scalar_seen (Ok x) old now instant text seen h s = subst (λ (rows : List ResultSeries). AreSeen seen rows) (scalar_alone instant old now text h) s
scalar_seen (Err fault) old now instant text seen h s = tt
