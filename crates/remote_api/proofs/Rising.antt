-- Rows whose neighbours rise in the order of their labels.
use Rattle.std.proofs.Common.{◌≡◌, ◌∙◌, sym, ap, subst, map, ℕ, ◌+◌, ◌-◌, ◌<◌, length, List, [], refl, true, false, arith}
use Rattle.std.specs.Prelude.{get_or, nat_lt}
use Rattle.std.specs.declared.cmp.Ordering.TheVariants.{Less}
use Rattle.std.proofs.lemmas.List.{get_or-map}
use Rattle.label_set.specs.Labels.{labels_cmp}
use Rattle.step_table.specs.Groups.{Names}
use Rattle.step_table.specs.declared.cells.CellRow.{CellRow}

abbrev Below : List CellRow → ℕ → Type 0
Below rows k = labels_cmp (get_or (map (λ (row : CellRow). row.labels) rows) k []) (get_or (map (λ (row : CellRow). row.labels) rows) (k + 1) []) ≡ Less

key_at : (rows : List CellRow) (i : ℕ) (x : CellRow) → i < length rows → x ≡ get_or rows i x → x.labels ≡ get_or (map (λ (row : CellRow). row.labels) rows) i []
key_at rows i x h is = ap (λ (row : CellRow). row.labels) is ∙ sym (get_or-map (λ (row : CellRow). row.labels) rows i x [] h)

last_below : (rows : List CellRow) (j : ℕ) (x y : CellRow) → x ≡ get_or rows j x → y ≡ get_or rows (j + 1) y → j + 1 < length rows → labels_cmp x.labels y.labels ≡ Less → Below rows j
last_below rows j x y a b high less = subst (λ (n : Names). labels_cmp n (get_or (map (λ (row : CellRow). row.labels) rows) (j + 1) []) ≡ Less) (key_at rows j x (omega (arith, high)) a) (subst (λ (n : Names). labels_cmp x.labels n ≡ Less) (key_at rows (j + 1) y high b) less)

last : (k i : ℕ) → nat_lt (k + 1) i ≡ false → k + 1 < i + 1 → i ≡ k + 1
last k i e h = grind (arith, e, h)

soon : (k i : ℕ) → nat_lt (k + 1) i ≡ true → k + 1 < i
soon k i e = grind (arith, e)

pub one_more : (rows : List CellRow) (i : ℕ) (x y : CellRow) → x ≡ get_or rows (i - 1) x → y ≡ get_or rows i y → i < length rows → labels_cmp x.labels y.labels ≡ Less → ((k : ℕ) → k + 1 < i → Below rows k) → (k : ℕ) → k + 1 < i + 1 → Below rows k
one_more rows i x y a b high less before k h = elim (nat_lt (k + 1) i) as (λ t. nat_lt (k + 1) i ≡ t → Below rows k) [
  | true ↦ λ e. before k (soon k i e)
  | false ↦ λ e. last_below rows k x y (let j : i - 1 ≡ k = (let q = last k i e h in omega (arith, q)) in subst (λ n. x ≡ get_or rows n x) j a) (let j : i ≡ k + 1 = last k i e h in subst (λ n. y ≡ get_or rows n y) j b) (omega (arith, h, high)) less
] refl
