use Rattle.std.proofs.Common.{ℕ, List, ap, sym, ◌∙◌, ◌≡◌, ◌<◌, Some, length, slice_get, rules}
use Rattle.std.specs.Option.{option_map}
use Rattle.label_set.specs.Labels.{metric_name}
use Rattle.label_set.proofs.LabelLemmas.{length_without_at}
use Rattle.label_set.proofs.Texts.{text_of_named, text_of_nameless}
use Rattle.label_set.proofs.labels.Labels.text.Goals as goal
use Rattle.label_set.proofs.labels.Labels.text.Goals.{in-Ok+in_ok-push_named-in-Ok, in-Err+in_ok-push_braced-in-Err}

pub push_named-requires : goal.push_named-requires
push_named-requires c =
    let within : c.in-Ok.place < length c.self.inside.pairs = search rules in
    let key : option_map (λ p. p.0) (slice_get c.self.inside.pairs c.in-Ok.place) ≡ Some metric_name = c.in-Ok.ensures.2 in
    length_without_at c.self.inside.pairs metric_name c.in-Ok.place c.self.invariant within key

pub returns : goal.returns
returns c =
    let ps = c.self.inside.pairs in
    let view : c.args.self.now ≡ ps = cc in
    elim c.match-find.branch [
      | in-Ok+in_ok-push_named-in-Ok w ↦
          let value = w.in-Ok.ensures.1 ∙ ap (option_map (λ (p : List ℕ × List ℕ). p.1)) w.pair.ensures in
          rw (view, w.text-is, w.in_ok-push_named-in-Ok.ensures, c.new-text.ensures.items) (sym (text_of_named ps w.pair.result.1.now value))
      | in-Err+in_ok-push_braced-in-Err w ↦
          rw (view, w.text-is, w.in_ok-push_braced-in-Err.ensures, c.new-text.ensures.items) (sym (text_of_nameless ps w.in-Err.ensures.1))
    ]
