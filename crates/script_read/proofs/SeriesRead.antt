-- A series and the words behind it are read as what their form says.
use Rattle.std.proofs.Common.{◌≡◌, ℕ, Bool, true, false, not, cond, List, [], ◌∷◌, ◌++◌, length, take, Some, None, Result, Ok, Err, refl, ap, sym, ◌∙◌, arith, append_assoc}
use Rattle.std.proofs.Math.Seq.{take-append_seam, drop-append-add}
use Rattle.std.specs.Prelude.{codes}
use Rattle.std.specs.List.{list_all, slice_split}
use Rattle.std.specs.Str.{is_utf8}
use Rattle.std.proofs.lemmas.Bool.Decides.{nat_tests}
use Rattle.label_set.specs.Labels.{metric_name}
use Rattle.promql_lex.specs.Tokens.{tokens_of}
use Rattle.promql_lex.specs.declared.token.Token.{Token}
use Rattle.script_read.specs.Lines.{from_blank, is_blank, words_behind}
use Rattle.script_read.specs.Outcomes.{then_give, then_try}
use Rattle.script_read.specs.Quotes.{before_place, place_outside, without_comment}
use Rattle.script_read.specs.Series.{LabelList, Series, behind_name, closed_at, closing, if_last, is_comma, is_sign, labels_inside, labels_named, labels_put, labels_with, name_front, opened, pair_put, part_put, series_at, series_bare, series_named, series_open, value_at, without_empty_end}
use Rattle.script_read.specs.SeriesForms.{AreInside, ArePairs, IsBraced, IsNamed, IsPair, IsWorded, bare_name, bare_worded, begins_blank, braced, braced_worded, more_pairs, name_alone, name_and_pairs, no_name, no_pairs, one_pair, pair, pairs_alone}
use Rattle.script_read.specs.Words.{continues_name, is_identifier, is_metric_name, is_reserved, starts_name, text_told}
use Rattle.script_read.specs.declared.fault.LineFault.{LineFault}
use Rattle.script_read.specs.declared.fault.LineFault.TheVariants.{Malformed}
use Rattle.script_read.specs.declared.quote.Quoting.TheVariants.{Outside}
use Rattle.script_read.proofs.Braces.{kept_front, place_stays}
use Rattle.script_read.proofs.FirstWords.{skipped}
use Rattle.script_read.proofs.Fronts.{and_both, front_dropped, front_taken, stops}
use Rattle.script_read.proofs.Names.{and_left, and_right}
use Rattle.script_read.proofs.SeriesFound.{last_kept, words_parted}

-- ---- what stands in braces

module _ (text : List ℕ) where
  pair_read : (labels more : LabelList) (part : List Token) → IsPair text labels part more → pair_put text labels part ≡ Ok more
  pair_read _ _ _ (pair labels more name value label sign quoted n s v p) =
      ap (λ r. then_try r (λ name. cond (is_sign text 61 sign) (then_try (value_at quoted) (λ worth. then_try (labels_put labels name worth) (if_last []))) (Err Malformed))) n
      ∙ ap (λ b. cond b (then_try (value_at quoted) (λ worth. then_try (labels_put labels name worth) (if_last []))) (Err Malformed)) s
      ∙ ap (λ r. then_try r (λ worth. then_try (labels_put labels name worth) (if_last []))) v
      ∙ ap (λ r. then_try r (if_last [])) p

  -- a pair stands in three tokens
  pair_part : (first : Bool) (labels more : LabelList) (part : List Token) → IsPair text labels part more → part_put text first labels part ≡ Ok more
  pair_part first _ _ _ (pair labels more name value label sign quoted n s v p) = pair_read labels more (label ∷ (sign ∷ (quoted ∷ []))) (pair labels more name value label sign quoted n s v p)

  pair_last : (labels more : LabelList) (part : List Token) → IsPair text labels part more → without_empty_end (part ∷ []) ≡ part ∷ []
  pair_last _ _ _ (pair labels more name value label sign quoted n s v p) = last_kept text label (sign ∷ (quoted ∷ []))

  pairs_read : (first : Bool) (labels all : LabelList) (parts : List (List Token)) → ArePairs text labels parts all → labels_with text first labels (without_empty_end parts) ≡ Ok all
  pairs_read first _ _ _ (no_pairs labels) = refl
  pairs_read first _ _ _ (one_pair labels more part h) =
      ap (labels_with text first labels) (pair_last labels more part h) ∙ ap (λ r. then_try r (λ all. labels_with text false all [])) (pair_part first labels more part h)
  pairs_read first _ _ _ (more_pairs labels more all part next parts h k) =
      ap (λ r. then_try r (λ now. labels_with text false now (without_empty_end (next ∷ parts)))) (pair_part first labels more part h) ∙ pairs_read false more all (next ∷ parts) k

  inside_read : (labels all : LabelList) (parts : List (List Token)) → AreInside text labels parts all → labels_with text true labels (without_empty_end parts) ≡ Ok all
  inside_read _ _ _ (pairs_alone labels all parts h) = pairs_read true labels all parts h
  inside_read _ _ _ (name_alone labels all name quoted v p) =
      ap (labels_with text true labels) (last_kept text quoted []) ∙ ap (λ r. then_try (then_try r (labels_put labels metric_name)) (λ more. labels_with text false more [])) v
      ∙ ap (λ r. then_try r (λ more. labels_with text false more [])) p
  inside_read _ _ _ (name_and_pairs labels more all name quoted next parts v p k) =
      ap (λ r. then_try (then_try r (labels_put labels metric_name)) (λ more. labels_with text false more (without_empty_end (next ∷ parts)))) v
      ∙ ap (λ r. then_try r (λ more. labels_with text false more (without_empty_end (next ∷ parts)))) p
      ∙ pairs_read false more all (next ∷ parts) k

-- ---- names

starts_continues : (byte : ℕ) → starts_name byte ≡ true → continues_name byte ≡ true
starts_continues byte h = grind (arith, nat_tests, h)

identifier_continues : (name : List ℕ) → is_identifier name ≡ true → list_all continues_name name ≡ true
identifier_continues [] h = refl
identifier_continues (first ∷ rest) h =
    and_both (continues_name first) (list_all continues_name rest) (starts_continues first (and_left (starts_name first) (list_all continues_name rest) h)) (and_right (starts_name first) (list_all continues_name rest) h)

named_continues : (name : List ℕ) (labels : LabelList) → IsNamed name labels → list_all continues_name name ≡ true
named_continues _ _ no_name = refl
named_continues _ _ (bare_name name labels h p) = identifier_continues name (and_left (is_identifier name) (not (is_reserved name)) h)

metric_read : (name : List ℕ) (labels : LabelList) → is_metric_name name ≡ true → labels_put [] metric_name name ≡ Ok labels → labels_named name ≡ Ok labels
metric_read [] labels h p = absurd (cc)
metric_read (first ∷ rest) labels h p = ap (λ b. cond b (labels_put [] metric_name (first ∷ rest)) (Err Malformed)) h ∙ p

named_read : (name : List ℕ) (labels : LabelList) → IsNamed name labels → labels_named name ≡ Ok labels
named_read _ _ no_name = refl
named_read _ _ (bare_name name labels h p) = metric_read name labels h p

-- ---- series

blank_ends_name : (byte : ℕ) → is_blank byte ≡ true → continues_name byte ≡ false
blank_ends_name byte h = grind (arith, nat_tests, h)

blank_stops : (rest : List ℕ) → begins_blank rest ≡ true → stops continues_name rest ≡ true
blank_stops [] h = refl
blank_stops (byte ∷ bytes) h = ap not (blank_ends_name byte h)

brace_stops : (gap inside : List ℕ) → list_all is_blank gap ≡ true → stops continues_name (gap ++ (123 ∷ inside)) ≡ true
brace_stops [] inside h = refl
brace_stops (byte ∷ gap) inside h = ap not (blank_ends_name byte (and_left (is_blank byte) (list_all is_blank gap) h))

-- a text with a name at its front
module _ (name back text : List ℕ) (continues : list_all continues_name name ≡ true) (ends : stops continues_name back ≡ true) (is : text ≡ name ++ back) where
  series_split : series_at text ≡ series_named name back (opened (from_blank back))
  series_split =
      let front : name_front text ≡ name = ap name_front is ∙ front_taken continues_name name back continues ends in
      let behind : behind_name text ≡ back = ap behind_name is ∙ front_dropped continues_name name back continues ends in
      ap (λ n. series_named n (behind_name text) (opened (from_blank (behind_name text)))) front ∙ ap (λ b. series_named name b (opened (from_blank b))) behind

bare_read : (name rest : List ℕ) (labels : LabelList) → (name ≡ [] → ⊥) → IsNamed name labels → series_bare name rest ≡ Ok (labels, rest)
bare_read [] rest labels some h = absurd (some refl)
bare_read (first ∷ bytes) rest labels some h = ap (λ r. then_give r (λ l. pair_of l rest)) (named_read (first ∷ bytes) labels h)
  where
    pair_of : LabelList → List ℕ → Series
    pair_of l r = (l, r)

-- what braces close
open_read : (name inside rest : List ℕ) (named labels : LabelList) → IsNamed name named → place_outside 125 (inside ++ codes "}") ≡ Some (length inside) → place_outside 35 inside ≡ None
    → is_utf8 inside ≡ true → AreInside inside named (slice_split (is_comma inside) (tokens_of inside)) labels → series_open name (inside ++ (125 ∷ rest)) ≡ Ok (labels, rest)
open_read name inside rest named labels n closes none told h =
    let text = inside ++ (125 ∷ rest) in
    let k = kept_front inside 125 rest none refl in
    let place : closing text ≡ Some (length inside) =
    ap (place_outside 125) (k.1 ∙ sym (append_assoc inside (125 ∷ []) k.0)) ∙ place_stays 125 Outside (inside ++ codes "}") k.0 (length inside) closes in
    let front : before_place (closing text) (without_comment text) ≡ inside =
    ap (λ p. before_place p (without_comment text)) place ∙ ap (take (length inside)) k.1 ∙ take-append_seam inside (125 ∷ k.0) in
    let read : labels_inside name inside ≡ Ok labels =
    ap (λ r. then_try r (λ named. then_try (text_told inside) (λ text. labels_with text true named (without_empty_end (slice_split (is_comma text) (tokens_of text)))))) (named_read name named n)
    ∙ ap (λ b. then_try (cond b (Ok inside) (Err Malformed)) (λ text. labels_with text true named (without_empty_end (slice_split (is_comma text) (tokens_of text))))) told
    ∙ inside_read inside named labels (slice_split (is_comma inside) (tokens_of inside)) h in
    ap (λ l. then_try (labels_inside name l) (closed_at (closing text) text)) front
    ∙ ap (λ r. then_try r (closed_at (closing text) text)) read
    ∙ ap (λ p. closed_at p text labels) place
    ∙ ap (λ l. found_of labels l) (drop-append-add inside (125 ∷ rest) 1)
  where
    found_of : LabelList → List ℕ → Result Series LineFault
    found_of l r = let found : Series = (l, r) in Ok found

-- what is read of a text: labels, and words behind them
pub record Reads (text : List ℕ) (labels : LabelList) (words : List (List ℕ)) : Type 0 where
  pub behind : List ℕ
  pub read : series_at text ≡ Ok (labels, behind)
  pub words_are : words_behind behind ≡ words
  pub begins : begins_blank behind ≡ true

braced_read : (series rest text : List ℕ) (labels : LabelList) → IsBraced series labels → text ≡ series ++ rest → series_at text ≡ Ok (labels, rest)
braced_read _ rest text _ (braced name gap inside series named labels n blank closes none told h is) whole =
    let back = gap ++ (123 ∷ (inside ++ (125 ∷ rest))) in
    let joined : text ≡ name ++ back =
    whole ∙ ap (λ l. l ++ rest) is ∙ append_assoc name (gap ++ (123 ∷ (inside ++ (125 ∷ [])))) rest
    ∙ ap (λ l. name ++ l) (append_assoc gap (123 ∷ (inside ++ (125 ∷ []))) rest ∙ ap (λ l. gap ++ (123 ∷ l)) (append_assoc inside (125 ∷ []) rest)) in
    series_split name back text (named_continues name named n) (brace_stops gap (inside ++ (125 ∷ rest)) blank) joined
    ∙ ap (λ b. series_named name back (opened b)) (skipped gap (123 ∷ (inside ++ (125 ∷ rest))) blank refl)
    ∙ open_read name inside rest named labels n closes none told h

pub worded_read : (text : List ℕ) (labels : LabelList) (words : List (List ℕ)) → IsWorded text labels words → Reads text labels words
worded_read _ _ _ (bare_worded name rest text labels words some n begins closed is whole) = record {
  behind = rest;
  read = series_split name rest text (named_continues name labels n) (blank_stops rest begins) whole ∙ ap (series_named name rest) closed ∙ bare_read name rest labels some n;
  words_are = words_parted rest begins ∙ is;
  begins = begins;
}
worded_read _ _ _ (braced_worded series rest text labels words b begins is whole) = record {
  behind = rest;
  read = braced_read series rest text labels b whole;
  words_are = words_parted rest begins ∙ is;
  begins = begins;
}
