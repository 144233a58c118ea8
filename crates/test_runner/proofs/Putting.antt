-- What was put, part by part.
use Rattle.std.proofs.Common.{◌≡◌, ◌<◌, ℕ, ◌+◌, Bool, true, false, List, [], ◌∷◌, drop, get_or, length, Result, Ok, Err, refl, sym, ap, ◌∙◌, subst, rules}
use Rattle.std.specs.Prelude.{IsOk, OnOk}
use Rattle.std.proofs.lemmas.List.{drop_more}
use Rattle.sample_store.specs.Samples.{AllSeries}
use Rattle.script_read.specs.Outcomes.{then_try}
use Rattle.test_runner.specs.Boxes.{IsNoRun}
use Rattle.test_runner.specs.Loading.{Allowed, HasPut, Leaves, MayPut, UnlessFailed}
use Rattle.test_runner.specs.Parts.{HasGone}
use Rattle.test_runner.specs.declared.fault.LoadRefusal.{LoadRefusal}
use Rattle.test_runner.specs.declared.fault.RunnerFault.{RunnerFault}
use Rattle.test_runner.specs.declared.fault.RunnerFault.TheVariants.{Refused, Range, Run, Write, Memory}
use Rattle.test_runner.proofs.Gone.{no_engine}

abbrev pub Put : Type 0
Put = AllSeries → Result AllSeries RunnerFault

-- a part was put, so that only the rest is still to be put
abbrev pub HasCome : Bool → (Held Holds : AllSeries → Type 0) → (put rest : Put) → Type 0
HasCome judges Held Holds put rest = (series : AllSeries) → Held series → Allowed judges (put series) → (now : AllSeries) × Holds now × (put series ≡ rest now)

allowed_first : (judges : Bool) (r : Result AllSeries RunnerFault) (next : Put) → Allowed judges (then_try r next) → Allowed judges r
allowed_first true r next a = tt
allowed_first false (Ok s) next a = refl
allowed_first false (Err fault) next a = a

-- one thing is put, and another behind it
abbrev pub Splits : (whole first next : Put) → Type 0
Splits whole first next = (s : AllSeries) → whole s ≡ then_try (first s) next

-- a fault of a part is that of the whole
pub stopped : (X Y : Type 0) (fault : RunnerFault) (now later : AllSeries) (part whole : Result AllSeries RunnerFault) → (part ≡ Err fault → whole ≡ Err fault)
    → UnlessFailed {X = X} (Err fault) (Leaves {X = X} (Err fault) now part) → UnlessFailed {X = Y} (Err fault) (Leaves {X = Y} (Err fault) later whole)
stopped X Y (Refused refusal) now later part whole ends left = ends left
stopped X Y (Range at) now later part whole ends left = ends left
stopped X Y (Run fault) now later part whole ends left = tt
stopped X Y Write now later part whole ends left = left
stopped X Y Memory now later part whole ends left = tt

module _ (judges : Bool) (Held : AllSeries → Type 0) (put : Put) where
  pub come_here : HasCome judges Held Held put put
  come_here = λ series held allowed. (series, held, refl)

  module _ (Between : AllSeries → Type 0) (rest : Put) (come : HasCome judges Held Between put rest) where
    -- all of the rest was put
    pub come_end : (X : Type 0) (x : X) → ((s : AllSeries) → rest s ≡ Ok s) → HasPut {X = X} judges Held Between put (Ok x)
    come_end X x none = λ series held allowed. let here = come series held allowed in (here.0, here.1, here.2 ∙ none here.0)

    -- a number is outside the limits
    pub come_fail : (X : Type 0) (line : ℕ) (Any : AllSeries → Type 0) → ((s : AllSeries) → rest s ≡ Err (Range line)) → HasPut {X = X} judges Held Any put (Err (Range line))
    come_fail X line Any bad = λ series held allowed. let here = come series held allowed in ([], tt, here.2 ∙ bad here.0)

    -- a line has no place
    pub come_refused : (X : Type 0) (refusal : LoadRefusal) (Any : AllSeries → Type 0) → ((s : AllSeries) → rest s ≡ Err (Refused refusal)) → HasPut {X = X} judges Held Any put (Err (Refused refusal))
    come_refused X refusal Any bad = λ series held allowed. let here = come series held allowed in ([], tt, here.2 ∙ bad here.0)

    pub come_as : (other : Put) → ((s : AllSeries) → rest s ≡ other s) → HasCome judges Held Between put other
    come_as other same = λ series held allowed. let here = come series held allowed in (here.0, here.1, here.2 ∙ same here.0)

    -- the whole rest may be put, and was put
    module _ (last : Put) (same : (s : AllSeries) → rest s ≡ last s) where
      pub last_may : MayPut judges Held put → MayPut judges Between last
      last_may may = let here = come may.0 may.1 may.2 in (here.0, here.1, subst (λ r. Allowed judges r) (here.2 ∙ same here.0) may.2)

      pub last_put : (X : Type 0) (result : Result X RunnerFault) (Holds : AllSeries → Type 0) → HasPut {X = X} judges Between Holds last result → HasPut {X = X} judges Held Holds put result
      last_put X result Holds has = λ series held allowed.
          let here = come series held allowed in
          let whole : put series ≡ last here.0 = here.2 ∙ same here.0 in
          let got = has here.0 here.1 (subst (λ r. Allowed judges r) whole allowed) in
          (got.0, got.1, subst (λ (r : Result AllSeries RunnerFault). UnlessFailed result (Leaves result got.0 r)) (sym whole) got.2)

    module _ (first next : Put) (splits : Splits rest first next) where
      -- the first of the rest may be put
      pub come_may : MayPut judges Held put → MayPut judges Between first
      come_may may =
          let here = come may.0 may.1 may.2 in
          let whole : put may.0 ≡ then_try (first here.0) next = here.2 ∙ splits here.0 in
          (here.0, here.1, allowed_first judges (first here.0) next (subst (λ r. Allowed judges r) whole may.2))

      -- the first of the rest was put
      pub come_on : (X : Type 0) (x : X) (Holds : AllSeries → Type 0) → HasPut {X = X} judges Between Holds first (Ok x) → HasCome judges Held Holds put next
      come_on X x Holds has = λ series held allowed.
          let here = come series held allowed in
          let whole : put series ≡ then_try (first here.0) next = here.2 ∙ splits here.0 in
          let got = has here.0 here.1 (allowed_first judges (first here.0) next (subst (λ r. Allowed judges r) whole allowed)) in
          (got.0, got.1, whole ∙ ap (λ (r : Result AllSeries RunnerFault). then_try r next) got.2)

      -- the first of the rest was refused
      pub come_stop : (X Y : Type 0) (fault : RunnerFault) (Holds Any : AllSeries → Type 0) → HasPut {X = X} judges Between Holds first (Err fault) → HasPut {X = Y} judges Held Any put (Err fault)
      come_stop X Y fault Holds Any has = λ series held allowed.
          let here = come series held allowed in
          let whole : put series ≡ then_try (first here.0) next = here.2 ∙ splits here.0 in
          let got = has here.0 here.1 (allowed_first judges (first here.0) next (subst (λ r. Allowed judges r) whole allowed)) in
          ([], tt, stopped X Y fault got.0 [] (first here.0) (put series) (λ ends. whole ∙ ap (λ (r : Result AllSeries RunnerFault). then_try r next) ends) got.2)

-- the same put in other words
module _ (judges : Bool) (Held : AllSeries → Type 0) (f g : Put) (same : (s : AllSeries) → f s ≡ g s) where
  pub may_as : MayPut judges Held f → MayPut judges Held g
  may_as may = (may.0, may.1, subst (λ r. Allowed judges r) (same may.0) may.2)

  pub has_as : (X : Type 0) (result : Result X RunnerFault) (Holds : AllSeries → Type 0) → HasPut judges Held Holds g result → HasPut judges Held Holds f result
  has_as X result Holds has = λ series held allowed.
      let got = has series held (subst (λ r. Allowed judges r) (same series) allowed) in
      (got.0, got.1, subst (λ r. UnlessFailed result (Leaves result got.0 r)) (sym (same series)) got.2)

-- ---- what a store takes

pub store_may : (store : AllSeries) (put : Put) → MayPut true (λ (series : AllSeries). series ≡ store) put
store_may store put = (store, refl, tt)

module _ (old new : AllSeries) (put : Put) (X : Type 0) where
  unfailed : {n : ℕ} (fault : RunnerFault) (now : AllSeries) → HasGone {X = X} n (Err fault) [] [] → UnlessFailed {X = X} (Err fault) (Leaves {X = X} (Err fault) now (put old)) → Leaves {X = X} (Err fault) new (put old)
  unfailed (Refused refusal) now gone left = left
  unfailed (Range at) now gone left = left
  unfailed (Run fault) now gone left = absurd (no_engine X fault gone)
  unfailed Write now gone left = left
  unfailed Memory now gone left = tt

  pub store_left : {n : ℕ} (result : Result X RunnerFault) → HasPut true (λ (series : AllSeries). series ≡ old) (λ (series : AllSeries). series ≡ new) put result → HasGone {X = X} n result [] [] → Leaves result new (put old)
  store_left (Ok x) has gone = let got = has old refl tt in got.2 ∙ ap (λ (s : AllSeries). Ok s) got.1
  store_left (Err fault) has gone = let got = has old refl tt in unfailed fault got.0 gone got.2

  held_now : (result : Result X RunnerFault) → OnOk result (new ≡ new)
  held_now (Ok x) = refl
  held_now (Err fault) = tt

  unless : (result : Result X RunnerFault) (P : Type 0) → P → UnlessFailed result P
  unless (Ok x) P h = h
  unless (Err (Refused refusal)) P h = h
  unless (Err (Range at)) P h = h
  unless (Err (Run fault)) P h = tt
  unless (Err Write) P h = h
  unless (Err Memory) P h = h

  pub store_has : (result : Result X RunnerFault) → Leaves result new (put old) → HasPut true (λ (series : AllSeries). series ≡ old) (λ (series : AllSeries). series ≡ new) put result
  store_has result left = λ series held allowed.
      (new, held_now result, unless result (Leaves result new (put series)) (subst (λ (s : AllSeries). Leaves result new (put s)) (sym held) left))

-- no engine's fault comes of a store
pub store_sure : {n : ℕ} (X : Type 0) (result : Result X RunnerFault) → HasGone {X = X} n result [] [] → IsNoRun result
store_sure X (Ok x) gone = tt
store_sure X (Err (Refused refusal)) gone = tt
store_sure X (Err (Range at)) gone = tt
store_sure X (Err (Run fault)) gone = no_engine X fault gone
store_sure X (Err Write) gone = tt
store_sure X (Err Memory) gone = tt

-- ---- lists

pub next_of : {X : Type 0} (xs : List X) (i : ℕ) (x : X) → i < length xs → x ≡ get_or xs i x → drop i xs ≡ x ∷ drop (i + 1) xs
next_of xs i x lt is = drop_more xs i x lt ∙ ap (λ c. c ∷ drop (i + 1) xs) (sym is)
