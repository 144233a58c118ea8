use Rattle.std.proofs.Common.{◌≡◌, ◌≢◌, ◌<◌, ◌∙◌, ℕ, List, [], ◌∷◌, Some, length, get_or, remove, slice_get, slice_set, ap, sym, subst, rules, arith}
use Rattle.std.proofs.lemmas.Grind.{common_steps}
use Rattle.std.proofs.lemmas.Option.{slice_get-get_or}
use Rattle.std.specs.BTreeMap.{insert_entry}
use Rattle.std.specs.Option.{option_map}
use Rattle.label_set.specs.Labels.{IsLabelSet, byte_cmp, with_value, without}
use Rattle.label_set.proofs.LabelLemmas.{IsLabelSet-remove, IsLabelSet-set, insert_at, name_at, with_value_filled, without_at}
use Rattle.label_set.proofs.labels.Labels.replace.Goals as goal

pub invariant_of-self : goal.invariant_of-self
invariant_of-self c =
    let ps = c.self.inside.pairs in
    let within : c.args.place < length ps = search rules in
    let at = slice_get-get_or ps c.args.place ([], []) within in
    subst IsLabelSet (sym (c.give_way_to.ensures ∙ c.in_ok-rest.ensures)) (IsLabelSet-remove ps c.self.invariant c.args.place within (get_or ps c.args.place ([], [])) at)

pub invariant_of-self-else-is_empty : goal.invariant_of-self-else-is_empty
invariant_of-self-else-is_empty c =
    let ps = c.self.inside.pairs in
    let within : c.args.place < length ps = search rules in
    let at = slice_get-get_or ps c.args.place ([], []) within in
    let filled : c.args.value.now ≢ [] = grind (arith, common_steps) in
    subst IsLabelSet (sym (c.give_way_to-else-is_empty.ensures ∙ c.in_ok-changed.ensures (get_or ps c.args.place ([], [])) at)) (IsLabelSet-set ps c.self.invariant c.args.place within (get_or ps c.args.place ([], [])) at c.args.value.now filled)

pub returns-in_ok-rest-clause-ok : goal.returns-in_ok-rest-clause-ok
returns-in_ok-rest-clause-ok c = λ name k.
    let ps = c.self.inside.pairs in
    let view : c.args.self.now ≡ ps = cc in
    let within : c.args.place < length ps = search rules in
    let key : option_map (λ (p : List ℕ × List ℕ). p.0) (slice_get ps c.args.place) ≡ Some name = rw view at k in
    let out : without (name ∷ []) ps ≡ remove ps c.args.place = without_at ps name c.self.invariant c.args.place within key in
    let empty : c.args.value.now ≡ [] = grind (arith, common_steps) in
    rw (view, empty, out) (c.give_way_to.ensures ∙ c.in_ok-rest.ensures)

pub returns-in_ok-changed-clause-ok : goal.returns-in_ok-changed-clause-ok
returns-in_ok-changed-clause-ok c = λ name k.
    let ps = c.self.inside.pairs in
    let value = c.args.value.now in
    let view : c.args.self.now ≡ ps = cc in
    let within : c.args.place < length ps = search rules in
    let key : option_map (λ (p : List ℕ × List ℕ). p.0) (slice_get ps c.args.place) ≡ Some name = rw view at k in
    let pair = get_or ps c.args.place ([], []) in
    let at = slice_get-get_or ps c.args.place ([], []) within in
    let same : pair.0 ≡ name = name_at ps c.self.invariant c.args.place within pair at name key in
    let filled : value ≢ [] = grind (arith, common_steps) in
    let e : with_value ps name value ≡ insert_entry byte_cmp ps name value = with_value_filled ps name value filled in
    let f : insert_entry byte_cmp ps name value ≡ slice_set ps c.args.place (name, value) = insert_at ps name c.self.invariant c.args.place within value key in
    rw view (c.give_way_to-else-is_empty.ensures ∙ c.in_ok-changed.ensures pair at ∙ ap (λ (n : List ℕ). slice_set ps c.args.place (n, value)) same ∙ sym (e ∙ f))
