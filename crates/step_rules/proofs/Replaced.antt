-- What label_replace sets a label to.
use Rattle.std.proofs.Common.{◌≡◌, ◌∙◌, ℕ, Bool, true, false, List, [], ◌∷◌, ◌++◌, ap, append_assoc, map, sym, subst, refl, Option, None, Some, Result, Ok, Err}
use Rattle.std.specs.Prelude.{IfOk, MatchOption, slice_get}
use Rattle.label_set.specs.Labels.{value_of}
use Rattle.match_rule.specs.Patterns.{groups_at, pattern_groups}
use Rattle.step_table.specs.Groups.{Names}
use Rattle.promql_meaning.specs.Countings.{with_label}
use Rattle.promql_meaning.specs.Relabels.{replaced_labels}
use Rattle.promql_meaning.specs.Templates.{Spans, expanded}

found_gives : (target template source text : List ℕ) (names : Names) (spans : Spans) (o : Option Spans) → pattern_groups text (value_of names source) ≡ o → MatchOption o ((true ≡ false) × (spans ≡ [])) (λ s. (true ≡ true) × (spans ≡ s))
    → with_label names target (expanded spans (value_of names source) template) ≡ replaced_labels target template source text names
found_gives target template source text names spans None e found = let f : true ≡ false = found.0 in absurd (cc)
found_gives target template source text names spans (Some s) e found = rw e (ap (λ t. with_label names target (expanded t (value_of names source) template)) found.1)

-- the label is set to the template with its references replaced, where the pattern's groups are found
pub replaced_when : {E : Type 0} (r : Result (Option Names) E) (kept : List (Bool × List ℕ)) (id : ℕ) (b : Bool) (spans : Spans) (names : Names) (value set made target template source : List ℕ) → value ≡ value_of names source → b ≡ true
    → MatchOption (groups_at kept id value) ((b ≡ false) × (spans ≡ [])) (λ s. (b ≡ true) × (spans ≡ s)) → made ≡ expanded spans value template → set ≡ target → IfOk r (λ all. all ≡ with_label names set made)
    → IfOk r (λ l. (text : List ℕ) → slice_get kept id ≡ Some (true, text) → l ≡ replaced_labels target template source text names)
replaced_when (Err e) kept id b spans names value set made target template source read so found filled is all = tt
replaced_when (Ok l) kept id b spans names value set made target template source read so found filled is all = λ text there.
    let Q : List ℕ → Bool → Type 0 = λ v x. MatchOption (groups_at kept id v) ((x ≡ false) × (spans ≡ [])) (λ s. (x ≡ true) × (spans ≡ s)) in
    let moved : Q (value_of names source) true = subst (λ v. Q v true) read (subst (Q value) so found) in
    let told : MatchOption (pattern_groups text (value_of names source)) ((true ≡ false) × (spans ≡ [])) (λ s. (true ≡ true) × (spans ≡ s)) = rw there at moved in
    all ∙ ap (λ t. with_label names t made) is ∙ ap (with_label names target) (filled ∙ ap (λ v. expanded spans v template) read)
    ∙ found_gives target template source text names spans (pattern_groups text (value_of names source)) refl told

-- one row further
pub row_more : {A B : Type 0} (f : A → B) (old new all : List B) (o : B) (row : A) (items rest : List A) → items ≡ row ∷ rest → o ≡ f row → new ≡ old ++ o ∷ [] → old ++ map f items ≡ all → new ++ map f rest ≡ all
row_more f old new all o row items rest left is put told =
    ap (λ t. t ++ map f rest) (put ∙ ap (λ x. old ++ x ∷ []) is) ∙ append_assoc old (f row ∷ []) (map f rest) ∙ sym (ap (λ t. old ++ map f t) left) ∙ told

-- what is known of the pattern's text
pub when_kept : {A E : Type 0} (r : Result A E) (kept : List (Bool × List ℕ)) (id : ℕ) (f : List ℕ → A) (x : A) → IfOk r (λ a. a ≡ x) → ((text : List ℕ) → slice_get kept id ≡ Some (true, text) → x ≡ f text)
    → IfOk r (λ a. (text : List ℕ) → slice_get kept id ≡ Some (true, text) → a ≡ f text)
when_kept (Err e) kept id f x is told = tt
when_kept (Ok a) kept id f x is told = λ text there. is ∙ told text there
