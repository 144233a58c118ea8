-- Texts with a separator between them, one text further.
use Rattle.std.proofs.Common.{◌≡◌, ◌∙◌, ℕ, zero, suc, ◌+◌, ◌<◌, ◌≤◌, List, [], ◌∷◌, ◌++◌, length, get_or, drop, map, ap, sym, refl, add-one, append_assoc, append-nil}
use Rattle.std.proofs.lemmas.List.{drop_all}
use Rattle.label_set.specs.Labels.{value_of}
use Rattle.step_table.specs.Groups.{Names}
use Rattle.promql_meaning.specs.Relabels.{separated}
use Rattle.step_rules.specs.Joined.{gap_at}
use Rattle.step_rules.specs.Rests.{drop_item}

-- the texts from a place on, with the separators before them
abbrev pub from : List ℕ → ℕ → List (List ℕ) → List ℕ
from separator zero texts = separated separator texts
from separator (suc i) [] = []
from separator (suc i) (text ∷ texts) = separator ++ separated separator (text ∷ texts)

one_more : (separator : List ℕ) (i : ℕ) (text : List ℕ) (texts : List (List ℕ)) → from separator i (text ∷ texts) ≡ gap_at separator i ++ (text ++ from separator (suc i) texts)
one_more separator zero text [] = sym (append-nil text)
one_more separator zero text (other ∷ texts) = refl
one_more separator (suc i) text [] = ap (λ t. separator ++ t) (sym (append-nil text))
one_more separator (suc i) text (other ∷ texts) = refl

pub joined_more : (separator : List ℕ) (labels : Names) (sources : List (List ℕ)) (i : ℕ) (source : List ℕ) (old gapped new all : List ℕ) → i < length sources → source ≡ get_or sources i source
    → gapped ≡ old ++ gap_at separator i → new ≡ gapped ++ value_of labels source → old ++ from separator i (map (value_of labels) (drop i sources)) ≡ all
    → new ++ from separator (i + 1) (map (value_of labels) (drop (i + 1) sources)) ≡ all
joined_more separator labels sources i source old gapped new all w is gap put told =
    let rest = map (value_of labels) (drop (i + 1) sources) in
    let value = value_of labels source in
    let later = from separator (i + 1) rest in
    ap (λ t. t ++ later) (put ∙ ap (λ t. t ++ value) gap) ∙ append_assoc (old ++ gap_at separator i) value later ∙ append_assoc old (gap_at separator i) (value ++ later)
    ∙ ap (λ n. old ++ (gap_at separator i ++ (value ++ from separator n rest))) (add-one i)
    ∙ sym (ap (λ t. old ++ t) (ap (λ ss. from separator i (map (value_of labels) ss)) (drop_item sources i source w is) ∙ one_more separator i value rest)) ∙ told

none_left : (separator : List ℕ) (i : ℕ) → from separator i [] ≡ []
none_left separator zero = refl
none_left separator (suc i) = refl

pub joined_all : (separator : List ℕ) (labels : Names) (sources : List (List ℕ)) (i : ℕ) (text all : List ℕ) → length sources ≤ i → text ++ from separator i (map (value_of labels) (drop i sources)) ≡ all → text ≡ all
joined_all separator labels sources i text all w told =
    sym (append-nil text) ∙ ap (λ t. text ++ t) (sym (ap (λ ss. from separator i (map (value_of labels) ss)) (drop_all i sources w) ∙ none_left separator i)) ∙ told
