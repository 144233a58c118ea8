-- A text that is read as a series, and the words behind it, is that by its form.
use Rattle.std.proofs.Common.{◌≡◌, ℕ, ◌+◌, Bool, true, false, not, cond, List, [], ◌∷◌, ◌++◌, length, take, drop, Option, Some, None, Ok, refl, ap, sym, ◌∙◌, subst, arith, append_assoc, take-append-drop}
use Rattle.std.proofs.Math.Seq.{take-append_seam, drop-append-add}
use Rattle.std.specs.Prelude.{◌==◌}
use Rattle.std.specs.List.{filter, list_all, prefix_len, slice_split}
use Rattle.std.specs.Str.{is_utf8}
use Rattle.std.proofs.lemmas.Bool.{eqb-true}
use Rattle.std.proofs.lemmas.List.Splits.{length-slice_split, slice_split-cons_yes}
use Rattle.label_set.specs.Labels.{metric_name}
use Rattle.promql_lex.specs.Tokens.{tokens_of}
use Rattle.promql_lex.specs.declared.token.Token.{Token}
use Rattle.script_read.specs.Lines.{from_blank, is_blank, is_empty, words_behind, words_of}
use Rattle.script_read.specs.Outcomes.{then_try}
use Rattle.script_read.specs.Quotes.{before_place, without_comment}
use Rattle.script_read.specs.Series.{LabelList, Series, behind_name, closed_at, closing, if_last, is_comma, is_sign, label_at, labels_inside, labels_named, labels_put, labels_with, name_front, opened, pair_put, part_put, series_at, series_bare, series_named, series_open, value_at, without_empty_end}
use Rattle.script_read.specs.SeriesForms.{AreInside, ArePairs, IsBraced, IsNamed, IsPair, IsWorded, bare_name, bare_worded, begins_blank, braced, braced_worded, more_pairs, name_alone, name_and_pairs, no_name, no_pairs, one_pair, pair, pairs_alone}
use Rattle.script_read.specs.Words.{continues_name, is_metric_name, text_told}
use Rattle.script_read.specs.declared.fault.LineFault.TheVariants.{Malformed}
use Rattle.script_read.specs.declared.quote.Quoting.TheVariants.{Outside}
use Rattle.script_read.proofs.Braces.{stands_at, uncommented}
use Rattle.script_read.proofs.FirstWords.{gap_of}
use Rattle.script_read.proofs.Takes.{give_ok, if_ok, same_ok, some_element, try_ok}

-- ---- what stands in braces

module _ (text : List ℕ) where
  last_ok : {X : Type 0} (rest : List Token) (x y : X) → if_last rest x ≡ Ok y → (rest ≡ []) × (x ≡ y)
  last_ok [] x y h = (refl, cc)
  last_ok (t ∷ ts) x y h = absurd (cc)

  pair_found : (labels more : LabelList) (part : List Token) → pair_put text labels part ≡ Ok more → IsPair text labels part more
  pair_found labels more [] h = absurd (cc)
  pair_found labels more (label ∷ []) h = absurd (cc)
  pair_found labels more (label ∷ (sign ∷ [])) h = absurd (cc)
  pair_found labels more (label ∷ (sign ∷ (quoted ∷ rest))) h =
      let name = try_ok (label_at text label) _ more h in
      let s = if_ok (is_sign text 61 sign) (then_try (value_at quoted) (λ worth. then_try (labels_put labels name.0 worth) (if_last rest))) Malformed more name.2 in
      let value = try_ok (value_at quoted) _ more s.1 in
      let put = try_ok (labels_put labels name.0 value.0) _ more value.2 in
      let end = last_ok rest put.0 more put.2 in
      subst (λ r. IsPair text labels (label ∷ (sign ∷ (quoted ∷ r))) more) (sym end.0)
      (pair labels more name.0 value.0 label sign quoted name.1 s.0 value.1 (put.1 ∙ ap Ok end.1))

  part_found : (labels more : LabelList) (part : List Token) → part_put text false labels part ≡ Ok more → IsPair text labels part more
  part_found labels more [] h = absurd (cc)
  part_found labels more (name ∷ []) h = absurd (cc)
  part_found labels more (label ∷ (sign ∷ part)) h = pair_found labels more (label ∷ (sign ∷ part)) h

  pub last_kept : (t : Token) (part : List Token) → without_empty_end ((t ∷ part) ∷ []) ≡ (t ∷ part) ∷ []
  last_kept t part = ap (λ b. cond b [] ((t ∷ part) ∷ [])) (some_element t part)

  pairs_found : (labels all : LabelList) (part : List Token) (parts : List (List Token)) → labels_with text false labels (without_empty_end (part ∷ parts)) ≡ Ok all → ArePairs text labels (part ∷ parts) all
  pairs_found labels all [] [] h = let same : labels ≡ all = cc in subst (ArePairs text labels ([] ∷ [])) same (no_pairs labels)
  pairs_found labels all (t ∷ part) [] h =
      let k = try_ok (part_put text false labels (t ∷ part)) (λ more. labels_with text false more []) all (ap (labels_with text false labels) (sym (last_kept t part)) ∙ h) in
      let same : k.0 ≡ all = same_ok (Ok k.0) k.0 all refl k.2 in
      one_pair labels all (t ∷ part) (part_found labels all (t ∷ part) (k.1 ∙ ap Ok same))
  pairs_found labels all part (next ∷ parts) h =
      let k = try_ok (part_put text false labels part) (λ more. labels_with text false more (without_empty_end (next ∷ parts))) all h in
      more_pairs labels k.0 all part next parts (part_found labels k.0 part k.1) (pairs_found k.0 all next parts k.2)

  inside_found : (labels all : LabelList) (part : List Token) (parts : List (List Token)) → labels_with text true labels (without_empty_end (part ∷ parts)) ≡ Ok all → AreInside text labels (part ∷ parts) all
  inside_found labels all [] [] h = let same : labels ≡ all = cc in pairs_alone labels all ([] ∷ []) (subst (ArePairs text labels ([] ∷ [])) same (no_pairs labels))
  inside_found labels all [] (next ∷ parts) h = absurd (cc)
  inside_found labels all (quoted ∷ []) [] h =
      let k = try_ok (part_put text true labels (quoted ∷ [])) (λ more. labels_with text false more []) all (ap (labels_with text true labels) (sym (last_kept quoted [])) ∙ h) in
      let v = try_ok (value_at quoted) (labels_put labels metric_name) k.0 k.1 in
      name_alone labels all v.0 quoted v.1 (v.2 ∙ k.2)
  inside_found labels all (quoted ∷ []) (next ∷ parts) h =
      let k = try_ok (part_put text true labels (quoted ∷ [])) (λ more. labels_with text false more (without_empty_end (next ∷ parts))) all h in
      let v = try_ok (value_at quoted) (labels_put labels metric_name) k.0 k.1 in
      name_and_pairs labels k.0 all v.0 quoted next parts v.1 v.2 (pairs_found k.0 all next parts k.2)
  inside_found labels all (label ∷ (sign ∷ part)) [] h =
      let whole = label ∷ (sign ∷ part) in
      let k = try_ok (part_put text true labels whole) (λ more. labels_with text false more []) all (ap (labels_with text true labels) (sym (last_kept label (sign ∷ part))) ∙ h) in
      let same : k.0 ≡ all = same_ok (Ok k.0) k.0 all refl k.2 in
      pairs_alone labels all (whole ∷ []) (one_pair labels all whole (pair_found labels all whole (k.1 ∙ ap Ok same)))
  inside_found labels all (label ∷ (sign ∷ part)) (next ∷ parts) h =
      let whole = label ∷ (sign ∷ part) in
      let k = try_ok (part_put text true labels whole) (λ more. labels_with text false more (without_empty_end (next ∷ parts))) all h in
      pairs_alone labels all (whole ∷ (next ∷ parts)) (more_pairs labels k.0 all whole next parts (pair_found labels k.0 whole k.1) (pairs_found k.0 all next parts k.2))

  -- a list is parted into one part or more
  parts_found : (labels all : LabelList) (tokens : List Token) → labels_with text true labels (without_empty_end (slice_split (is_comma text) tokens)) ≡ Ok all
      → AreInside text labels (slice_split (is_comma text) tokens) all
  parts_found labels all tokens h = by (slice_split (is_comma text) tokens) refl h
    where
      by : (parts : List (List Token)) → slice_split (is_comma text) tokens ≡ parts → labels_with text true labels (without_empty_end parts) ≡ Ok all → AreInside text labels parts all
      by [] e k = absurd (omega (arith, ap length e, length-slice_split (is_comma text) tokens))
      by (part ∷ parts) e k = inside_found labels all part parts k

-- ---- names

named_found : (name : List ℕ) (labels : LabelList) → labels_named name ≡ Ok labels → IsNamed name labels
named_found [] labels h = subst (IsNamed []) (same_ok (labels_named []) [] labels refl h) no_name
named_found (first ∷ rest) labels h =
    let k = if_ok (is_metric_name (first ∷ rest)) (labels_put [] metric_name (first ∷ rest)) Malformed labels h in
    bare_name (first ∷ rest) labels k.0 k.1

-- ---- series

pub words_blank : (byte : ℕ) (bytes : List ℕ) → is_blank byte ≡ true → words_of (byte ∷ bytes) ≡ words_of bytes
words_blank byte bytes h = ap (filter (λ word. not (is_empty word))) (slice_split-cons_yes is_blank byte bytes h)

pub words_parted : (behind : List ℕ) → begins_blank behind ≡ true → words_behind behind ≡ words_of behind
words_parted [] h = absurd (cc)
words_parted (byte ∷ bytes) h = ap (λ b. cond b (words_of bytes) []) h ∙ sym (words_blank byte bytes h)

opens_brace : (text inside : List ℕ) → opened text ≡ Some inside → text ≡ 123 ∷ inside
opens_brace [] inside h = absurd (cc)
opens_brace (first ∷ rest) inside h = by (first == 123) refl h
  where
    by : (b : Bool) → (first == 123) ≡ b → cond b (Some rest) None ≡ Some inside → first ∷ rest ≡ 123 ∷ inside
    by true e k = let same : rest ≡ inside = cc in ap (λ f. f ∷ rest) (eqb-true first 123 e) ∙ ap (λ l. 123 ∷ l) same
    by false e k = absurd (cc)

bare_ok : (name behind : List ℕ) (found : Series) → series_bare name behind ≡ Ok found → (name ≡ [] → ⊥) × (labels_named name ≡ Ok found.0) × (behind ≡ found.1)
bare_ok [] behind found h = absurd (cc)
bare_ok (first ∷ rest) behind found h =
    let g = give_ok (labels_named (first ∷ rest)) (λ labels. pair_of labels behind) found h in
    ((λ e. cc), g.1 ∙ ap (λ (f : Series). Ok f.0) g.2, ap (λ (f : Series). f.1) g.2)
  where
    pair_of : LabelList → List ℕ → Series
    pair_of labels l = (labels, l)

told_ok : (inside text : List ℕ) → text_told inside ≡ Ok text → (is_utf8 inside ≡ true) × (text ≡ inside)
told_ok inside text h = let k = if_ok (is_utf8 inside) (Ok inside) Malformed text h in (k.0, sym (same_ok (Ok inside) inside text refl k.1))

regroup : (name gap front behind : List ℕ) → (name ++ (gap ++ (123 ∷ (front ++ (125 ∷ []))))) ++ behind ≡ name ++ (gap ++ (123 ∷ (front ++ (125 ∷ behind))))
regroup name gap front behind =
    append_assoc name (gap ++ (123 ∷ (front ++ (125 ∷ [])))) behind
    ∙ ap (λ l. name ++ l) (append_assoc gap (123 ∷ (front ++ (125 ∷ []))) behind ∙ ap (λ l. gap ++ (123 ∷ l)) (append_assoc front (125 ∷ []) behind))

-- braces with a name before them, and what stands behind
record Closed (name gap text : List ℕ) (found : Series) : Type 0 where
  pub series : List ℕ
  pub is : IsBraced series found.0
  pub joined : name ++ (gap ++ (123 ∷ text)) ≡ series ++ found.1

module _ (name gap text : List ℕ) (found : Series) (blank : list_all is_blank gap ≡ true) where
  closed_found : (labels : LabelList) (place : ℕ) → closing text ≡ Some place → labels_inside name (before_place (closing text) (without_comment text)) ≡ Ok labels
      → closed_at (Some place) text labels ≡ Ok found → Closed name gap text found
  closed_found labels place e h k =
      let c = uncommented text in
      let s = stands_at 125 Outside (without_comment text) place e in
      let inside : before_place (closing text) (without_comment text) ≡ s.front =
      ap (λ p. before_place p (without_comment text)) e ∙ ap (λ n. take n (without_comment text)) (sym s.long) ∙ ap (take (length s.front)) s.joined ∙ take-append_seam s.front (125 ∷ s.back) in
      let n = try_ok (labels_named name) _ labels (ap (labels_inside name) (sym inside) ∙ h) in
      let t = try_ok (text_told s.front) _ labels n.2 in
      let told = told_ok s.front t.0 t.1 in
      let parts = parts_found s.front n.0 labels (tokens_of s.front)
      (subst (λ w. labels_with w true n.0 (without_empty_end (slice_split (is_comma w) (tokens_of w))) ≡ Ok labels) told.1 t.2) in
      let whole : text ≡ s.front ++ (125 ∷ (s.back ++ c.rest)) = c.joined ∙ ap (λ l. l ++ c.rest) s.joined ∙ append_assoc s.front (125 ∷ s.back) c.rest in
      let behind : drop (place + 1) text ≡ s.back ++ c.rest =
      ap (λ n. drop (n + 1) text) (sym s.long) ∙ ap (drop (length s.front + 1)) whole ∙ drop-append-add s.front (125 ∷ (s.back ++ c.rest)) 1 in
      let same : (labels, drop (place + 1) text) ≡ found = cc in
      let series = name ++ (gap ++ (123 ∷ (s.front ++ (125 ∷ [])))) in
      record {
        series = series;
        is = subst (IsBraced series) (ap (λ (f : Series). f.0) same) (braced name gap s.front series n.0 labels (named_found name n.0 n.1) blank (s.closes ∙ ap Some (sym s.long)) (s.clear 35 c.none) told.0 parts refl);
        joined = ap (λ l. name ++ (gap ++ (123 ∷ l))) whole ∙ sym (regroup name gap s.front (s.back ++ c.rest)) ∙ ap (λ l. series ++ l) (sym behind ∙ ap (λ (f : Series). f.1) same);
      }

  braces_found : series_open name text ≡ Ok found → Closed name gap text found
  braces_found h =
      let l = try_ok (labels_inside name (before_place (closing text) (without_comment text))) (closed_at (closing text) text) found h in
      by l.0 l.1 (closing text) refl l.2
    where
      by : (labels : LabelList) → labels_inside name (before_place (closing text) (without_comment text)) ≡ Ok labels → (place : Option ℕ) → closing text ≡ place
          → closed_at place text labels ≡ Ok found → Closed name gap text found
      by labels h None e k = absurd (cc)
      by labels h (Some place) e k = closed_found labels place e h k

pub worded_found : (text : List ℕ) (found : Series) → series_at text ≡ Ok found → begins_blank found.1 ≡ true → IsWorded text found.0 (words_behind found.1)
worded_found text found h begins = by (opened (from_blank (behind_name text))) refl h
  where
    whole : text ≡ name_front text ++ behind_name text
    whole = sym (take-append-drop (prefix_len continues_name text) text)

    by : (inside : Option (List ℕ)) → opened (from_blank (behind_name text)) ≡ inside → series_named (name_front text) (behind_name text) inside ≡ Ok found → IsWorded text found.0 (words_behind found.1)
    by None e k =
        let b = bare_ok (name_front text) (behind_name text) found k in
        bare_worded (name_front text) (behind_name text) text found.0 (words_behind found.1) b.0 (named_found (name_front text) found.0 b.1) (ap begins_blank b.2 ∙ begins) e
        (ap words_of b.2 ∙ sym (words_parted found.1 begins)) whole
    by (Some inside) e k =
        let g = gap_of (behind_name text) in
        let c = braces_found (name_front text) g.gap inside found g.blank k in
        braced_worded c.series found.1 text found.0 (words_behind found.1) c.is begins (sym (words_parted found.1 begins))
        (whole ∙ ap (λ l. name_front text ++ l) (g.joined ∙ ap (λ l. g.gap ++ l) (opens_brace (from_blank (behind_name text)) inside e)) ∙ c.joined)
