-- The newest sample up to a moment and behind an edge: a search at the later one of the two, and one step back from there, find what a
-- walk from the edge comes to.
use Rattle.std.proofs.Common.{◌≡◌, ◌∙◌, suc, ◌+◌, ◌≤◌, true, false, [], ◌∷◌, ◌++◌, length, Option, None, Some, inl, inr, refl, sym, ap, subst, arith, length-append}
use Rattle.std.specs.Prelude.{ℤ, ◌<ℤ◌, ◌≤ℤ◌, int_lt, if◌then◌else◌, MatchOption}
use Rattle.std.specs.Option.{option_to_list}
use Rattle.std.proofs.lemmas.Int.{ints}
use Rattle.sample_store.specs.Samples.{EndsBy, EndsWith, Samples}
use Rattle.ticks.specs.declared.moment.Ms.{Ms}
use Rattle.series_marks.specs.Passing.{ge_is, lt_is}
use Rattle.series_marks.specs.Reads.{Rises, Sample, after, last_of, later_of, until}
use Rattle.series_marks.specs.Walked.{after_after, rises_next}

-- ---- behind a later time

after_kept : (e r : ℤ) (S : Samples) → e ≤ℤ r → after e (after r S) ≡ after r S
after_kept e r [] h = refl
after_kept e r (x ∷ xs) h = elim (int_lt r x.0.0) as (λ b. int_lt r x.0.0 ≡ b → after e (if b then x ∷ xs else after r xs) ≡ (if b then x ∷ xs else after r xs)) [
  | true ↦ λ k. let f : int_lt e x.0.0 ≡ true = grind (arith, ints, k, h) in rw f refl
  | false ↦ λ k. after_kept e r xs h
] refl

last_beyond : (m r : ℤ) (S : Samples) (l : Option Sample) → m ≤ℤ r → last_of m (after r S) l ≡ l
last_beyond m r [] l h = refl
last_beyond m r (x ∷ xs) l h = elim (int_lt r x.0.0) as (λ b. int_lt r x.0.0 ≡ b → last_of m (if b then x ∷ xs else after r xs) l ≡ l) [
  | true ↦ λ k. let f : int_lt m x.0.0 ≡ true = grind (arith, ints, k, h) in rw f refl
  | false ↦ λ k. last_beyond m r xs l h
] refl

-- ---- a sample in the middle

front_less : (P R : Samples) (p x : Sample) → Rises (Some x) (P ++ p ∷ R) → x.0.0 <ℤ p.0.0
front_less [] R p x r = r.0
front_less (y ∷ P) R p x r = let a = r.0 in let b = front_less P R p y r.1 in omega (arith, ints, a, b)

last_through : (m : ℤ) (P R : Samples) (p : Sample) (l : Option Sample) → Rises None (P ++ p ∷ R) → p.0.0 ≤ℤ m → last_of m R (Some p) ≡ Some p
    → last_of m (P ++ p ∷ R) l ≡ Some p
last_through m [] R p l r h k = let f = ge_is m p.0.0 h in rw f k
last_through m (x ∷ P) R p l r h k =
    let a = front_less P R p x r in
    let f = ge_is m x.0.0 (omega (arith, ints, a, h)) in
    rw f (last_through m P R p (Some x) (rises_next x (P ++ p ∷ R) r) h k)

last_is : (e m : ℤ) (P R : Samples) (p : Sample) → Rises None (P ++ p ∷ R) → e <ℤ p.0.0 → p.0.0 ≤ℤ m → last_of m R (Some p) ≡ Some p
    → last_of m (after e (P ++ p ∷ R)) None ≡ Some p
last_is e m [] R p r g h k = let f = lt_is e p.0.0 g in rw f (last_through m [] R p None r h k)
last_is e m (x ∷ P) R p r g h k = elim (int_lt e x.0.0) as (λ b. last_of m (if b then x ∷ (P ++ p ∷ R) else after e (P ++ p ∷ R)) None ≡ Some p) [
  | true ↦ last_through m (x ∷ P) R p None r h k
  | false ↦ last_is e m P R p (rises_next x (P ++ p ∷ R) r) g h k
]

after_behind : (e : ℤ) (P R : Samples) (p : Sample) → Rises None (P ++ p ∷ R) → p.0.0 ≤ℤ e → after e (P ++ p ∷ R) ≡ after e R
after_behind e [] R p r h = let f = ge_is e p.0.0 h in rw f refl
after_behind e (x ∷ P) R p r h =
    let a = front_less P R p x r in
    let f = ge_is e x.0.0 (omega (arith, ints, a, h)) in
    rw f (after_behind e P R p (rises_next x (P ++ p ∷ R) r) h)

-- what is behind a time has no earlier sample
longer : (r : ℤ) (P R : Samples) (p : Sample) → r <ℤ p.0.0 → suc (length R) ≤ length (after r (P ++ p ∷ R))
longer r [] R p h = let f = lt_is r p.0.0 h in rw f (omega arith)
longer r (x ∷ P) R p h = elim (int_lt r x.0.0) as (λ b. suc (length R) ≤ length (if b then x ∷ (P ++ p ∷ R) else after r (P ++ p ∷ R))) [
  | true ↦ let n = length-append P (p ∷ R) in omega (arith, n)
  | false ↦ longer r P R p h
]

not_beyond : (r : ℤ) (P R : Samples) (p : Sample) → R ≡ after r (P ++ p ∷ R) → p.0.0 ≤ℤ r
not_beyond r P R p e = elim (int_lt r p.0.0) as (λ b. int_lt r p.0.0 ≡ b → p.0.0 ≤ℤ r) [
  | true ↦ λ k. let a = longer r P R p (grind (arith, ints, k)) in let n = ap length e in absurd (omega (arith, a, n))
  | false ↦ λ k. grind (arith, ints, k)
] refl

snoc : (P R : Samples) (p : Sample) → (P ++ p ∷ []) ++ R ≡ P ++ p ∷ R
snoc [] R p = refl
snoc (x ∷ P) R p = ap (λ (zs : Samples). x ∷ zs) (snoc P R p)

-- ---- a search at the later one of an edge and a moment

record IsReach (e m r : ℤ) : Type 0 where
  pub edge : e ≤ℤ r
  pub moment : m ≤ℤ r
  pub sharp : (x : ℤ) → e <ℤ x → x ≤ℤ r → x ≤ℤ m

reach_is : (edge m : Ms) → IsReach edge.0 m.0 (later_of edge m).0
reach_is edge m = elim (int_lt m.0 edge.0) as (λ b. int_lt m.0 edge.0 ≡ b → IsReach edge.0 m.0 (if b then edge else m).0) [
  | true ↦ λ k. record { edge = omega (arith, ints); moment = grind (arith, ints, k); sharp = λ x g h. omega (arith, ints, g, h) }
  | false ↦ λ k. record { edge = grind (arith, ints, k); moment = omega (arith, ints); sharp = λ x g h. h }
] refl

pub after_reach : (edge m : Ms) (S : Samples) → after m.0 (after edge.0 S) ≡ after (later_of edge m).0 S
after_reach edge m S = elim (int_lt m.0 edge.0) as (λ b. int_lt m.0 edge.0 ≡ b → after m.0 (after edge.0 S) ≡ after (if b then edge else m).0 S) [
  | true ↦ λ k. after_kept m.0 edge.0 S (grind (arith, ints, k))
  | false ↦ λ k. after_after edge.0 m.0 S (grind (arith, ints, k))
] refl

module _ (edge m : Ms) (S B R : Samples) (rises : Rises None S) (whole : B ++ R ≡ S) (rest : R ≡ after (later_of edge m).0 S) where
  abbrev r : ℤ
  r = (later_of edge m).0

  none_behind : after edge.0 S ≡ after r S → last_of m.0 (after edge.0 S) None ≡ None
  none_behind e = ap (λ (s : Samples). last_of m.0 s None) e ∙ last_beyond m.0 r S None (reach_is edge m).moment

  split : (x : Sample) (f : EndsWith B x) → S ≡ f.0 ++ x ∷ R
  split x f = sym whole ∙ ap (λ (b : Samples). b ++ R) f.1 ∙ snoc f.0 R x

  -- one sample back stands the newest one
  newest_found : (x : Sample) → EndsWith B x → edge.0 <ℤ x.0.0 → last_of m.0 (after edge.0 S) None ≡ Some x
  newest_found x f g =
      let s = split x f in
      let k = not_beyond r f.0 R x (rest ∙ ap (after r) s) in
      let h : x.0.0 ≤ℤ m.0 = (reach_is edge m).sharp x.0.0 g k in
      let l : last_of m.0 R (Some x) ≡ Some x = ap (λ (t : Samples). last_of m.0 t (Some x)) rest ∙ last_beyond m.0 r S (Some x) (reach_is edge m).moment in
      ap (λ (t : Samples). last_of m.0 (after edge.0 t) None) s ∙ last_is edge.0 m.0 f.0 R x (subst (Rises None) s rises) g h l

  -- or none does behind the edge
  newest_missing : EndsBy edge B → None ≡ last_of m.0 (after edge.0 S) None
  newest_missing (inl none) =
      let s : S ≡ after r S = sym whole ∙ ap (λ (b : Samples). b ++ R) none ∙ rest in
      sym (none_behind (ap (after edge.0) s ∙ after_kept edge.0 r S (reach_is edge m).edge))
  newest_missing (inr last) =
      let s = split last.0 last.1 in
      sym (none_behind (ap (after edge.0) s ∙ after_behind edge.0 last.1.0 R last.0 (subst (Rises None) s rises) last.2 ∙ ap (after edge.0) rest ∙ after_kept edge.0 r S (reach_is edge m).edge))

  pub newest_is : (o : Option Sample) → MatchOption o (EndsBy edge B) (λ x. EndsWith B x × (edge.0 <ℤ x.0.0)) → o ≡ last_of m.0 (after edge.0 S) None
  newest_is None h = newest_missing h
  newest_is (Some x) h = sym (newest_found x h.0 h.1)

-- ---- what is read of it

one_at_most : (o : Option Sample) → length (option_to_list o) ≤ 1
one_at_most None = omega arith
one_at_most (Some x) = omega arith

pub newest_among : (m : ℤ) (T : Samples) → length (option_to_list (last_of m T None)) ≤ length (until m T)
newest_among m [] = omega arith
newest_among m (x ∷ xs) = elim (int_lt m x.0.0) as (λ b. length (option_to_list (if b then None else last_of m xs (Some x))) ≤ length (if b then [] else x ∷ until m xs)) [
  | true ↦ omega arith
  | false ↦ let h = one_at_most (last_of m xs (Some x)) in omega (arith, h)
]
