use Rattle.std.proofs.Common.{length, refl, ap, ◌∙◌}
use Rattle.std.specs.Prelude.{insert}
use Rattle.std.specs.String.{string_bytes}
use Rattle.std.proofs.lemmas.Slice.{pushed}
use Rattle.holders.specs.Answers.{on_err}
use Rattle.label_set.proofs.SpanLemmas.{kept_view, kept_within, named_view, named_within, put_view, put_within, text_kept}
use Rattle.label_set.proofs.pairs.Pairs.insert.Goals as goal

pub invariant_of-self-in_err-push_str-2 : goal.invariant_of-self-in_err-push_str-2
invariant_of-self-in_err-push_str-2 c =
    let named = pushed c.args.name.now refl c.in_ok-push_str.was c.push_str.ensures.bytes in
    let kept = text_kept _ _ _ _ _ c.in_err-push_str-2.was c.push_str-2.ensures.bytes in
    named_within (string_bytes c.self.inside.text) c.args.name.now c.args.value.now c.self.inside.spans c.utf8.name c.self.invariant _ (kept ∙ named)

pub returns-in_err-push_str-2-clause-err : goal.returns-in_err-push_str-2-clause-err
returns-in_err-push_str-2-clause-err c =
    let named = pushed c.args.name.now refl c.in_ok-push_str.was c.push_str.ensures.bytes in
    let kept = text_kept _ _ _ _ _ c.in_err-push_str-2.was c.push_str-2.ensures.bytes in
    on_err _ _ (named_view (string_bytes c.self.inside.text) c.args.name.now c.args.value.now c.self.inside.spans c.utf8.name c.self.invariant _ (kept ∙ named) ∙ c.self.view_is)

pub invariant_of-self-in_err-insert : goal.invariant_of-self-in_err-insert
invariant_of-self-in_err-insert c =
    let named = pushed c.args.name.now refl c.in_ok-push_str.was c.push_str.ensures.bytes in
    let whole = pushed c.args.value.now named c.in_ok-push_str-2.was c.push_str-2.ensures.bytes in
    kept_within (string_bytes c.self.inside.text) c.args.name.now c.args.value.now c.self.inside.spans c.utf8.name c.self.invariant c.utf8.value _ _ whole c.in_err-insert.ensures.err

pub returns-in_err-insert-clause-err : goal.returns-in_err-insert-clause-err
returns-in_err-insert-clause-err c =
    let named = pushed c.args.name.now refl c.in_ok-push_str.was c.push_str.ensures.bytes in
    let whole = pushed c.args.value.now named c.in_ok-push_str-2.was c.push_str-2.ensures.bytes in
    on_err _ _ (kept_view (string_bytes c.self.inside.text) c.args.name.now c.args.value.now c.self.inside.spans c.utf8.name c.self.invariant c.utf8.value _ _ whole c.in_err-insert.ensures.err ∙ c.self.view_is)

pub invariant_of-self-2 : goal.invariant_of-self-2
invariant_of-self-2 c =
    let text = string_bytes c.self.inside.text in
    let named = pushed c.args.name.now refl c.in_ok-push_str.was c.push_str.ensures.bytes in
    let whole = pushed c.args.value.now named c.in_ok-push_str-2.was c.push_str-2.ensures.bytes in
    let start = ap length c.as_str-start.ensures.value in
    let middle = ap length (c.as_str-middle.ensures.value ∙ named) in
    let end = ap length (c.as_str-end.ensures.value ∙ whole) in
    put_within text c.args.name.now c.args.value.now c.self.inside.spans c.utf8.name c.self.invariant c.utf8.value _ _ c.args.i (length c.as_str-start.result.now) (length c.as_str-middle.result.now) (length c.as_str-end.result.now) whole start middle end c.in_ok-insert.ensures.ok

pub returns-clause-ok : goal.returns-clause-ok
returns-clause-ok c =
    let text = string_bytes c.self.inside.text in
    let named = pushed c.args.name.now refl c.in_ok-push_str.was c.push_str.ensures.bytes in
    let whole = pushed c.args.value.now named c.in_ok-push_str-2.was c.push_str-2.ensures.bytes in
    let start = ap length c.as_str-start.ensures.value in
    let middle = ap length (c.as_str-middle.ensures.value ∙ named) in
    let end = ap length (c.as_str-end.ensures.value ∙ whole) in
    put_view text c.args.name.now c.args.value.now c.self.inside.spans c.utf8.name c.self.invariant c.utf8.value _ _ c.args.i (length c.as_str-start.result.now) (length c.as_str-middle.result.now) (length c.as_str-end.result.now) whole start middle end c.in_ok-insert.ensures.ok
    ∙ ap (λ ps. insert ps c.args.i (c.args.name.now, c.args.value.now)) c.self.view_is
