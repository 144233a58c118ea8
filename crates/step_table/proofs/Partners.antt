-- The one side as it is kept, and as it is defined.
use Rattle.std.proofs.Common.{◌≡◌, ◌∙◌, true, false, cond, List, [], ◌∷◌, map, refl, sym, ap, Some, None, Option}
use Rattle.std.specs.Prelude.{filter, unwrap_or}
use Rattle.std.specs.BTreeMap.{is_at}
use Rattle.std.specs.List.{filter_map}
use Rattle.std.specs.Map.{values_of, lookup}
use Rattle.std.specs.Option.{option_map}
use Rattle.std.proofs.lemmas.Map.Made.{keys_of-map_values, lookup-map_values}
use Rattle.label_set.specs.Labels.{labels_cmp}
use Rattle.label_set.specs.declared.rules.Pairing.{Pairing}
use Rattle.xfrac.specs.declared.value.PairOp.{PairOp}
use Rattle.step_table.specs.Groups.{Names, names_among, items_of, gathered, alone, shared_of}
use Rattle.step_table.specs.Matching.{signature_of, by_signature, pair_outcome, match_of, matches}
use Rattle.step_table.specs.OneSides.{read, partner_in, match_in}
use Rattle.step_table.specs.Unions.{set_of}
use Rattle.step_table.specs.declared.step.Row.{Row}
use Rattle.step_table.specs.Gathering.{found}
use denote.Ref.{Bor}

module _ {A B : Type 0} (f : A → B) where
  abbrev seen : List (Names × A) → List (Names × B)
  seen es = map (λ e. (e.0, f e.1)) es

  items_seen : (es : List (Names × A)) (names : Names) → map f (items_of es names) ≡ items_of (seen es) names
  items_seen [] names = refl
  items_seen (e ∷ es) names =
      elim (is_at (labels_cmp names) e.0) as (λ b. map f (values_of (cond b (e ∷ filter (λ item. is_at (labels_cmp names) item.0) es) (filter (λ item. is_at (labels_cmp names) item.0) es)))
      ≡ values_of (cond b ((e.0, f e.1) ∷ filter (λ item. is_at (labels_cmp names) item.0) (seen es)) (filter (λ item. is_at (labels_cmp names) item.0) (seen es)))) [
        | true ↦ ap (λ xs. f e.1 ∷ xs) (items_seen es names)
        | false ↦ items_seen es names
      ]

  abbrev group_seen : Names × List A → Names × List B
  group_seen group = (group.0, map f group.1)

  abbrev group_under : (es : List (Names × A)) → Names → Names × List A
  group_under es names = (names, items_of es names)

  abbrev group_under' : (es : List (Names × B)) → Names → Names × List B
  group_under' es names = (names, items_of es names)

  -- groups of what is seen are the groups, seen
  pub gathered_seen : (es : List (Names × A)) → map group_seen (gathered es) ≡ gathered (seen es)
  unfolding gathered
  gathered_seen es = over (names_among es) ∙ ap (λ ks. map (group_under' (seen es)) (set_of labels_cmp ks)) (sym (keys_of-map_values f es))
    where
      over : (ks : List Names) → map group_seen (map (group_under es) ks) ≡ map (group_under' (seen es)) ks
      over [] = refl
      over (k ∷ ks) = let here : map f (items_of es k) ≡ items_of (seen es) k = items_seen es k in let there : map group_seen (map (group_under es) ks) ≡ map (group_under' (seen es)) ks = over ks in cc

-- the groups of references to rows, each beside its signature
pub read_gathered : (p : Pairing) (rows : List Row) (pairs : List (Names × Bor Row)) → map (λ pair. (pair.0, pair.1.now)) pairs ≡ by_signature p rows → read (gathered pairs) ≡ gathered (by_signature p rows)
read_gathered p rows pairs e = gathered_seen (λ row. row.now) pairs ∙ ap gathered e

-- several references are to several rows
pub shared_read : (groups : List (Names × List (Bor Row))) → filter_map shared_of groups ≡ filter_map shared_of (read groups)
shared_read [] = refl
shared_read ((names, []) ∷ groups) = shared_read groups
shared_read ((names, row ∷ []) ∷ groups) = shared_read groups
shared_read ((names, row ∷ other ∷ rows) ∷ groups) = ap (λ xs. names ∷ xs) (shared_read groups)

-- what a look-up among references finds
pub partner_read : (groups : List (Names × List (Bor Row))) (names : Names) (found : Option (List (Bor Row))) → found ≡ lookup (is_at (labels_cmp names)) groups → alone (map (λ row. row.now) (unwrap_or found [])) ≡ partner_in (read groups) names
partner_read groups names found e = wrapped found ∙ ap (λ o. alone (unwrap_or (option_map (map (λ row. row.now)) o) [])) e ∙ ap (λ o. alone (unwrap_or o [])) (sym (lookup-map_values (map (λ row. row.now)) (is_at (labels_cmp names)) groups))
  where
    wrapped : (o : Option (List (Bor Row))) → alone (map (λ row. row.now) (unwrap_or o [])) ≡ alone (unwrap_or (option_map (map (λ row. row.now)) o) [])
    wrapped None = refl
    wrapped (Some rows) = refl

-- the pairs with the rows that a signature's group has alone
pub matches_in_groups : (op : PairOp) (p : Pairing) (many ones : List Row) → filter_map (match_in op p (gathered (by_signature p ones))) many ≡ matches op p many ones
matches_in_groups op p many ones = ap (λ f. filter_map f many) (λ i row. at row i)
  where
    at : (row : Row) → match_in op p (gathered (by_signature p ones)) row ≡ match_of op p ones row
    at row = ap (λ o. option_map (λ one. (signature_of p row, pair_outcome op p row one)) (alone o)) (found (by_signature p ones) (signature_of p row))
