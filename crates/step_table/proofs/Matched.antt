-- The pairs of two sides under a signature.
use Rattle.std.proofs.Common.{◌≡◌, ◌∙◌, true, false, cond, List, [], ◌∷◌, refl, sym, ap, Some, None, Option}
use Rattle.std.specs.Prelude.{filter}
use Rattle.std.specs.BTreeMap.{is_at}
use Rattle.std.specs.List.{AllByRecursion, cons_option, filter_map}
use Rattle.std.specs.Map.{values_of}
use Rattle.std.specs.Option.{option_map}
use Rattle.label_set.specs.Labels.{labels_cmp}
use Rattle.label_set.specs.LabelOrder.{labels_cmp_ties}
use Rattle.label_set.specs.declared.rules.Pairing.{Pairing}
use Rattle.xfrac.specs.declared.value.PairOp.{PairOp}
use Rattle.step_table.specs.Groups.{Names, items_of}
use Rattle.step_table.specs.Matching.{signature_of, by_signature, pair_outcome, partner_of, matches}
use Rattle.step_table.specs.declared.outcomes.Outcome.{Outcome}
use Rattle.step_table.specs.declared.step.Row.{Row}
use Rattle.step_table.proofs.LoneRows.{equal_from_is}

-- the rows under a signature have it, and what all rows have
pub all_matched : (P : Row → Type 0) (p : Pairing) (rows : List Row) (names : Names) → AllByRecursion P rows → AllByRecursion (λ row. P row × (signature_of p row ≡ names)) (items_of (by_signature p rows) names)
all_matched P p [] names a = tt
all_matched P p (row ∷ rows) names a =
    elim (is_at (labels_cmp names) (signature_of p row)) as (λ b. is_at (labels_cmp names) (signature_of p row) ≡ b → AllByRecursion (λ row. P row × (signature_of p row ≡ names))
    (values_of (cond b ((signature_of p row, row) ∷ filter (λ item. is_at (labels_cmp names) item.0) (by_signature p rows)) (filter (λ item. is_at (labels_cmp names) item.0) (by_signature p rows))))) [
      | true ↦ λ e. ((a.0, sym (labels_cmp_ties names (signature_of p row) (equal_from_is _ e))), all_matched P p rows names a.1)
      | false ↦ λ e. all_matched P p rows names a.1
    ] refl

module _ {X : Type 0} (h : Outcome → Option X) where
  -- what is kept of pairs, each under its signature
  abbrev pub kept : List (Names × Outcome) → List (Names × X)
  kept pairs = filter_map (λ pair. option_map (λ x. (pair.0, x)) (h pair.1)) pairs

  -- what is kept of rows with their partner, if there is one
  abbrev pub with_partner : PairOp → Pairing → Option Row → List Row → List X
  with_partner op p None rows = []
  with_partner op p (Some one) rows = filter_map (λ row. h (pair_outcome op p row one)) rows

  module _ (op : PairOp) (p : Pairing) where
    no_rows : (o : Option Row) → [] ≡ with_partner op p o []
    no_rows None = refl
    no_rows (Some one) = refl

    module _ (sig names : Names) (row : Row) (pairs : List (Names × Outcome)) (rows : List Row) where
      one_under : (o : Option Row) → is_at (labels_cmp names) sig ≡ true → items_of (kept pairs) names ≡ with_partner op p o rows → items_of (kept (cons_option (option_map (λ one. (sig, pair_outcome op p row one)) o) pairs)) names ≡ with_partner op p o (row ∷ rows)
      one_under None e same = same
      one_under (Some one) e same =
          elim (h (pair_outcome op p row one)) as (λ v. items_of (cons_option (option_map (λ x. (sig, x)) v) (kept pairs)) names ≡ cons_option v (filter_map (λ row. h (pair_outcome op p row one)) rows)) [
            | None ↦ same
            | Some x ↦ rw e (ap (λ xs. x ∷ xs) same)
          ]

      one_apart : (o : Option Row) → is_at (labels_cmp names) sig ≡ false → items_of (kept (cons_option (option_map (λ one. (sig, pair_outcome op p row one)) o) pairs)) names ≡ items_of (kept pairs) names
      one_apart None e = refl
      one_apart (Some one) e =
          elim (h (pair_outcome op p row one)) as (λ v. items_of (cons_option (option_map (λ x. (sig, x)) v) (kept pairs)) names ≡ items_of (kept pairs) names) [
            | None ↦ refl
            | Some x ↦ rw e refl
          ]

    -- under a signature there are the rows of the many side that have it, with the row of the one side that alone has it
    pub kept_under : (many ones : List Row) (names : Names) → items_of (kept (matches op p many ones)) names ≡ with_partner op p (partner_of p ones names) (items_of (by_signature p many) names)
    kept_under [] ones names = no_rows (partner_of p ones names)
    kept_under (row ∷ many) ones names =
        let rest = kept_under many ones names in
        elim (is_at (labels_cmp names) (signature_of p row)) as (λ b. is_at (labels_cmp names) (signature_of p row) ≡ b → items_of (kept (matches op p (row ∷ many) ones)) names ≡ with_partner op p (partner_of p ones names)
        (values_of (cond b ((signature_of p row, row) ∷ filter (λ item. is_at (labels_cmp names) item.0) (by_signature p many)) (filter (λ item. is_at (labels_cmp names) item.0) (by_signature p many))))) [
          | true ↦ λ e.
              let same : names ≡ signature_of p row = labels_cmp_ties names (signature_of p row) (equal_from_is _ e) in
              let partner : partner_of p ones names ≡ partner_of p ones (signature_of p row) = ap (partner_of p ones) same in
              let rows : List Row = items_of (by_signature p many) names in
              one_under (signature_of p row) names row (matches op p many ones) rows (partner_of p ones (signature_of p row)) e (rest ∙ ap (λ o. with_partner op p o rows) partner) ∙ ap (λ o. with_partner op p o (row ∷ rows)) (sym partner)
          | false ↦ λ e. one_apart (signature_of p row) names row (matches op p many ones) [] (partner_of p ones (signature_of p row)) e ∙ rest
        ] refl
