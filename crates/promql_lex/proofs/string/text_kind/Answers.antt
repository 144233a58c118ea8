use Rattle.std.proofs.Common.{◌∙◌, ◌≡◌, ap, true, false}
use Rattle.std.specs.Str.{is_utf8}
use Rattle.std.proofs.lemmas.Bool.{false_from_ne_true}
use Rattle.std.proofs.lemmas.Str.{is_utf8-from_IsUtf8, IsUtf8-from_is_utf8}
use Rattle.promql_lex.specs.declared.token.TokenKind.TheVariants.{Quoted}
use Rattle.promql_lex.proofs.string.text_kind.Goals as goal

pub returns-in_ok-of-in-Ok : goal.returns-in_ok-of-in-Ok
returns-in_ok-of-in-Ok c =
    let cases = rw c.in-Ok.text-is at c.in-Ok.ensures.cases in
    let same : is_utf8 c.args.bytes.now ≡ true = is_utf8-from_IsUtf8 _ cases.1 in
    rw same (ap Quoted (c.in_ok-of-in-Ok.ensures ∙ cases.0))

pub returns-in-Err : goal.returns-in-Err
returns-in-Err c =
    let none : is_utf8 c.args.bytes.now ≡ false = false_from_ne_true _ (λ h. c.in-Err.ensures.cases.0 (IsUtf8-from_is_utf8 _ h)) in
    rw none
