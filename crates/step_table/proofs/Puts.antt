-- Pairs that are put one after another.
use Rattle.std.proofs.Common.{◌≡◌, ◌∙◌, ℕ, zero, suc, ◌+◌, true, false, List, [], ◌∷◌, drop, refl, sym, ap, add-one, Some, None}
use Rattle.std.specs.Prelude.{slice_get, is_some}
use Rattle.label_set.specs.Labels.{put_refusal, with_pair}
use Rattle.step_table.specs.Groups.{Names}
use Rattle.step_table.specs.Operators.{all_put}

drop_at : {X : Type 0} (xs : List X) (i : ℕ) (x : X) → slice_get xs i ≡ Some x → drop i xs ≡ x ∷ drop (i + 1) xs
drop_at [] i x e = absurd (cc)
drop_at (y ∷ xs) zero x e = let same : y ≡ x = cc in ap (λ z. z ∷ xs) same
drop_at (y ∷ xs) (suc i) x e = rw add-one (drop_at xs i x e ∙ rw add-one refl)

module _ (all pairs : Names) (i : ℕ) (name value : List ℕ) (at : slice_get pairs i ≡ Some (name, value)) where
  pub put_stops : is_some (put_refusal all name value) ≡ true → all_put all (drop i pairs) ≡ None
  put_stops e = ap (all_put all) (drop_at pairs i (name, value) at) ∙ rw e refl

  pub put_goes : (new : Names) → is_some (put_refusal all name value) ≡ false → new ≡ with_pair all name value → all_put new (drop (i + 1) pairs) ≡ all_put all (drop i pairs)
  put_goes new e is = ap (λ l. all_put l (drop (i + 1) pairs)) is ∙ sym (ap (all_put all) (drop_at pairs i (name, value) at) ∙ rw e refl)
