-- The samples of a series of the store, and a cursor among them.
use Rattle.std.proofs.Common.{◌≡◌, ◌∙◌, ℕ, ◌+◌, ◌≤◌, true, false, cond, [], ◌∷◌, ◌++◌, length, drop, slice_get, Option, None, Some, refl, sym, ap, arith, length-append}
use Rattle.std.specs.Prelude.{int_lt, if◌then◌else◌, unwrap_or}
use Rattle.std.specs.Option.{option_map}
use Rattle.std.proofs.lemmas.Int.{ints}
use Rattle.sample_store.specs.Samples.{AllSeries, Names, Samples, later_than}
use Rattle.ticks.specs.declared.moment.Ms.{Ms}
use Rattle.series_marks.specs.Walked.{rises_next}
use Rattle.series_marks.specs.Reads.{Rises, Sample, after}
use Rattle.sample_store.specs.Samples.{samples_at}

-- ---- a series by its number

pub samples_is : (store : AllSeries) (s : ℕ) (one : Names × Samples) → slice_get store s ≡ Some one → samples_at store s ≡ one.1
samples_is store s one e = ap (λ (o : Option (Names × Samples)). unwrap_or (option_map (λ (z : Names × Samples). z.1) o) []) e

-- ---- a cursor

behind : (b r : Samples) → drop (length b) (b ++ r) ≡ r
behind [] r = refl
behind (x ∷ b) r = behind b r

pub rest_behind : (S : Samples) (p : ℕ) (b r : Samples) → b ++ r ≡ S → length b ≡ p → r ≡ drop p S
rest_behind S p b r w e = sym (behind b r) ∙ ap (λ n. drop n (b ++ r)) e ∙ ap (drop p) w

pub few_behind : (S : Samples) (p : ℕ) (b r : Samples) → b ++ r ≡ S → p ≡ length b → p ≤ length S
few_behind S p b r w e =
    let whole : length b + length r ≡ length S = sym (length-append b r) ∙ ap length w in
    omega arith

-- ---- the samples behind an edge

all_later : (edge : Ms) (x : Sample) (xs : Samples) → Rises (Some x) xs → int_lt edge.0 x.0.0 ≡ true → later_than edge xs ≡ xs
all_later edge x [] r h = refl
all_later edge x (y ∷ ys) r h = let e : int_lt edge.0 y.0.0 ≡ true = grind (arith, ints, h, r.0) in rw e (ap (λ (zs : Samples). y ∷ zs) (all_later edge y ys r.1 e))

pub after_edge : (edge : Ms) (xs : Samples) → Rises None xs → later_than edge xs ≡ after edge.0 xs
after_edge edge [] r = refl
after_edge edge (x ∷ xs) r =
    elim (int_lt edge.0 x.0.0) as (λ b. int_lt edge.0 x.0.0 ≡ b → cond b (x ∷ later_than edge xs) (later_than edge xs) ≡ (if b then x ∷ xs else after edge.0 xs)) [
      | true ↦ λ h. ap (λ (zs : Samples). x ∷ zs) (all_later edge x xs r h)
      | false ↦ λ h. after_edge edge xs (rises_next x xs r)
    ] refl

pub behind_edge : (S : Samples) (p : ℕ) (edge : Ms) (b r : Samples) → b ++ r ≡ S → r ≡ later_than edge S → p ≡ length b → Rises None S → drop p S ≡ after edge.0 S
behind_edge S p edge b r w later e rises = sym (rest_behind S p b r w (sym e)) ∙ later ∙ after_edge edge S rises

pub one_more : (b n : Samples) (x : Sample) → n ≡ b ++ x ∷ [] → length n ≡ length b + 1
one_more b n x e = ap length e ∙ length-append b (x ∷ [])
