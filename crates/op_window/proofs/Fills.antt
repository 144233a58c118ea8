-- Samples that are put behind others, up to a moment.
use Rattle.std.proofs.Common.{◌≡◌, ◌∙◌, ◌+◌, true, false, List, [], ◌∷◌, ◌++◌, length, Option, None, Some, refl, sym, ap, append_assoc, append-nil, length-append}
use Rattle.std.specs.Prelude.{ℤ, ◌<ℤ◌, ◌≤ℤ◌}
use Rattle.std.specs.List.{cons_option, filter_map}
use Rattle.promql_meaning.specs.Selecting.{fresh_sample, sample_times, sample_values}
use Rattle.sample_store.specs.Samples.{Samples}
use Rattle.series_marks.specs.Passing.{ge_is, lt_is}
use Rattle.series_marks.specs.Reads.{Rises, Sample, stands_at, until}
use Rattle.series_marks.specs.Walked.{eq_lt}
use Rattle.step_batch.specs.Columns.{Columns}
use Rattle.ticks.specs.declared.moment.Ms.{Ms}
use Rattle.xfrac.specs.declared.value.XFrac.{XFrac}
use Rattle.op_window.specs.Sliding.{Fresh, columns_of, with_samples}

pub one_more : (b n : Samples) (x : Sample) → n ≡ b ++ x ∷ [] → length n ≡ length b + 1
one_more b n x e = ap length e ∙ length-append b (x ∷ [])

pub until_past : (m : ℤ) (x : Sample) (xs rest : Samples) → rest ≡ x ∷ xs → m <ℤ x.0.0 → until m rest ≡ []
until_past m x xs rest is h = let e = lt_is m x.0.0 h in rw (is, e) refl

pub until_goes : (m : ℤ) (x : Sample) (xs rest : Samples) → rest ≡ x ∷ xs → x.0.0 ≤ℤ m → until m rest ≡ x ∷ until m xs
until_goes m x xs rest is h = let e = ge_is m x.0.0 h in rw (is, e) refl

never : false ≡ true → ⊥
never e = cc

pub until_there : (m : ℤ) (xs : Samples) (l : Option Sample) → stands_at m l ≡ true → Rises l xs → until m xs ≡ []
until_there m xs None h r = absurd (never h)
until_there m [] (Some x) h r = refl
until_there m (y ∷ ys) (Some x) h r = let e = eq_lt x.0.0 m y.0.0 h r.0 in rw e refl

-- ---- columns

abbrev cols : List Ms → List XFrac → Columns
cols ts vs = record { times = ts; values = vs }

cols_are : (ts us : List Ms) (vs ws : List XFrac) → ts ≡ us → vs ≡ ws → cols ts vs ≡ cols us ws
cols_are ts us vs ws e f = ap (λ (t : List Ms). cols t vs) e ∙ ap (λ (v : List XFrac). cols us v) f

times_both : (X Y : Fresh) → sample_times (X ++ Y) ≡ sample_times X ++ sample_times Y
times_both [] Y = refl
times_both (x ∷ X) Y = ap (λ (ts : List Ms). x.0 ∷ ts) (times_both X Y)

values_both : (X Y : Fresh) → sample_values (X ++ Y) ≡ sample_values X ++ sample_values Y
values_both [] Y = refl
values_both (x ∷ X) Y = ap (λ (vs : List XFrac). x.1 ∷ vs) (values_both X Y)

pub with_none : (c : Columns) → with_samples c [] ≡ c
with_none c = cols_are (c.times ++ []) c.times (c.values ++ []) c.values (append-nil c.times) (append-nil c.values)

pub with_both : (c : Columns) (X Y : Fresh) → with_samples (with_samples c X) Y ≡ with_samples c (X ++ Y)
with_both c X Y =
    cols_are (c.times ++ sample_times X ++ sample_times Y) (c.times ++ sample_times (X ++ Y)) (c.values ++ sample_values X ++ sample_values Y) (c.values ++ sample_values (X ++ Y))
    (append_assoc c.times (sample_times X) (sample_times Y) ∙ ap (λ (ts : List Ms). c.times ++ ts) (sym (times_both X Y)))
    (append_assoc c.values (sample_values X) (sample_values Y) ∙ ap (λ (vs : List XFrac). c.values ++ vs) (sym (values_both X Y)))

pub columns_both : (X Y : Fresh) → with_samples (columns_of X) Y ≡ columns_of (X ++ Y)
columns_both X Y = cols_are (sample_times X ++ sample_times Y) (sample_times (X ++ Y)) (sample_values X ++ sample_values Y) (sample_values (X ++ Y)) (sym (times_both X Y)) (sym (values_both X Y))

-- ---- samples that come

pub filled_end : (now was : Columns) (rest all : Samples) → rest ≡ [] → with_samples now (filter_map fresh_sample rest) ≡ with_samples was (filter_map fresh_sample all) → now ≡ with_samples was (filter_map fresh_sample all)
filled_end now was rest all e h = sym (with_none now) ∙ ap (λ (r : Samples). with_samples now (filter_map fresh_sample r)) (sym e) ∙ h

pub filled_more : (was now : Columns) (x : Sample) (xs rest : Samples) (all : Columns) → now ≡ with_samples was (filter_map fresh_sample (x ∷ [])) → rest ≡ x ∷ xs → with_samples was (filter_map fresh_sample rest) ≡ all
    → with_samples now (filter_map fresh_sample xs) ≡ all
filled_more was now x xs rest all e f h =
    ap (λ (z : Columns). with_samples z (filter_map fresh_sample xs)) e ∙ with_both was (filter_map fresh_sample (x ∷ [])) (filter_map fresh_sample xs)
    ∙ ap (with_samples was) (joins (fresh_sample x)) ∙ ap (λ (z : Samples). with_samples was (filter_map fresh_sample z)) (sym f) ∙ h
  where
    joins : (o : Option (Ms × XFrac)) → cons_option o [] ++ filter_map fresh_sample xs ≡ cons_option o (filter_map fresh_sample xs)
    joins None = refl
    joins (Some v) = refl
