-- The matches of the command tell what the words say.
use Rattle.std.proofs.Common.{◌≡◌, ◌∙◌, Bool, true, false, cond, not, ◌&&◌, ◌||◌, refl, sym, subst, ap, ap₂, List, [], ◌∷◌, map, drop, Option, Some, None}
use Rattle.std.proofs.Common.{inl, inr}
use Rattle.std.specs.Prelude.{String, is_some, slice_get, option_map, option_and_then, MatchOption, IfSome}
use Rattle.std.specs.List.{AllByRecursion, find, fold, list_any}
use Rattle.std.specs.Str.{IsUtf8, bytes_eq}
use Rattle.clap.specs.Walk.{Held, Row, Text, has_row, nothing_held, settled, walk, walk_from, with_default}
use Rattle.clap.specs.Simple.{App, argument_words, entered, matches_of, names_of}
use Rattle.clap.specs.Walk.{rows_after, stop_after}
use Rattle.clap.specs.Takes.{is_given}
use Rattle.clap.specs.Kinds.{Kinds}
use Rattle.clap.specs.Faults.{built_fault, check_fault, defaults_fault, entered_fault, fault_of, level_fault, settle_fault, walk_fault}
use Rattle.tool_words.specs.Commands.{app, place_id}
use Rattle.tool_words.specs.Said.{Item, is_among, is_once, said, said_from}
use Rattle.std.specs.String.{string_bytes}
use Rattle.std.proofs.lemmas.Str.{IsUtf8-string_bytes}
use Rattle.clap.proofs.WalkLemmas.{first_value-rows, raw_values-rows}
use Rattle.clap.specs.Matches.{found_of}
use Rattle.clap.specs.Kinds.{HasKind, IsAmong}
use Rattle.clap.specs.Simple.{HasMatchesOf}
use Rattle.clap.specs.Faults.{is_simple_and_free}
use Rattle.clap.specs.Values.{kind_of}
use Rattle.clap.specs.Walk.{all_of, first_of, rows_of}
use Rattle.clap.specs.declared.error.Error.{Error}
use Rattle.clap.specs.declared.error.kind.ErrorKind.TheVariants.{OutOfMemory}
use Rattle.clap.specs.declared.parser.matches.ArgMatches.{ArgMatches}
use Rattle.tool_words.specs.Said.{if_once, value_of}
use Rattle.tool_words.specs.Tells.{Holds, Tells}
use Rattle.tool_words.proofs.Built.{simple, built_is, is_unbuilt, ready, rules, shape}
use Rattle.tool_words.proofs.Walked.{goes_from_start, pass, pass_or, run_is, taken, then_taken}
use Rattle.tool_words.proofs.Rows.{Named, Same, said_named, taken_says}

no_defaults : (options : List Text) (rows : List Row) → fold with_default rows (rules options) ≡ rows
no_defaults [] rows = kept (has_row place_id rows)
  where
    kept : (b : Bool) → cond b rows rows ≡ rows
    kept true = refl
    kept false = refl
no_defaults (x ∷ xs) rows = ap (λ rs. fold with_default rs (rules xs)) (kept (has_row x rows)) ∙ no_defaults xs rows
  where
    kept : (b : Bool) → cond b rows rows ≡ rows
    kept true = refl
    kept false = refl

or_true : (b : Bool) → (b || true) ≡ true
or_true true = refl
or_true false = refl

no_default_faults : (options : List Text) (rows : List Row) → defaults_fault rows (rules options) ≡ []
unfolding defaults_fault
no_default_faults [] rows = rw (or_true (has_row place_id rows)) refl
no_default_faults (x ∷ xs) rows = rw (or_true (has_row x rows)) (no_default_faults xs _)

none_required : (options : List Text) (rows : List Row) → list_any (λ a. a.required && not (is_given a.id rows)) (rules options) ≡ false
none_required [] rows = refl
none_required (x ∷ xs) rows = none_required xs rows

no_check_fault : (name : Text) (options : List Text) (rows : List Row) → check_fault (shape name options) rows false ≡ []
no_check_fault name options rows = rw (none_required options rows) refl

none_entered : (name : Text) (options : List Text) (stop : Option (Text × List Text)) → entered (ready name options) stop ≡ None
none_entered name options None = refl
none_entered name options (Some p) = refl

no_entered_fault : (name : Text) (options : List Text) (stop : Option (Text × List Text)) → entered_fault (ready name options) stop ≡ []
no_entered_fault name options None = refl
no_entered_fault name options (Some p) = refl

-- what the walk holds at its end
abbrev end_of : List Text → List Text → Held
end_of options words = (walk (rules options) [] nothing_held words).held

level_is : (name : Text) (options : List Text) (words : List Text) (x : Option (List Row)) → pass (level_fault (shape name options) [] nothing_held words false []) x
    ≡ pass (walk_fault (shape name options) [] (walk_from nothing_held) words) (pass (settle_fault (rules options) false (end_of options words)) x)
level_is name options words x =
    pass_or (walk_fault (shape name options) [] (walk_from nothing_held) words) _ x
    ∙ ap (pass (walk_fault (shape name options) [] (walk_from nothing_held) words))
    (pass_or (settle_fault (rules options) false (end_of options words)) _ x
    ∙ ap (pass (settle_fault (rules options) false (end_of options words)))
    (pass_or (defaults_fault (settled (rules options) (end_of options words)).rows (rules options)) _ x
    ∙ ap₂ (λ (a b : Kinds). pass a (pass b x)) (no_default_faults options _) (no_check_fault name options _)))

built_level : (name : Text) (options : List Text) (words : List Text) → built_fault (ready name options) nothing_held words ≡ level_fault (shape name options) [] nothing_held words false []
built_level name options words =
    let stop = stop_after (rules options) [] words in
    ap₂ (λ (o : Option (Text × List _)) (ks : Kinds). level_fault (shape name options) [] nothing_held words (is_some o) ks)
    (none_entered name options stop) (no_entered_fault name options stop)

arguments : (name : Text) (options : List Text) (words : List Text) → argument_words (app name options) words ≡ drop 1 words
arguments name options words = ap (λ (a : App). argument_words a words) (is_unbuilt name options)

module _ (name : Text) (options : List Text) (fresh : is_among options place_id ≡ false) (words : List Text) (utf8 : AllByRecursion IsUtf8 (drop 1 words)) where
  fault_is : fault_of (app name options) words ≡ level_fault (shape name options) [] nothing_held (drop 1 words) false []
  fault_is = ap₂ (λ (b : App) (ws : List Text). built_fault b nothing_held ws) (built_is name options) (arguments name options words) ∙ built_level name options (drop 1 words)

  rows_are : matches_of (app name options) words ≡ (settled (rules options) (end_of options (drop 1 words))).rows
  rows_are = ap₂ (λ (b : App) (ws : List Text). rows_after b.top.rules (names_of b) ws) (built_is name options) (arguments name options words) ∙ no_defaults options _

  -- the matches are the rows of what the words say, and a parse fails where there are none
  exact : pass (fault_of (app name options) words) (Some (matches_of (app name options) words)) ≡ then_taken [] (said_from options None (drop 1 words))
  exact =
      ap₂ (λ (ks : Kinds) (rs : List Row). pass ks (Some rs)) fault_is rows_are
      ∙ level_is name options (drop 1 words) _
      ∙ sym (run_is (shape name options) (walk_from nothing_held) (drop 1 words))
      ∙ goes_from_start name options fresh (drop 1 words) utf8

-- kinds of refusals, rows, and what the words say
abbrev Verdict : Kinds → List Row → Option (List Item) → Type 0
Verdict [] rows said = (items : List Item) × (said ≡ Some items) × Same rows items
Verdict (k ∷ ks) rows said = said ≡ None

empty_same : Same [] []
empty_same = record { option = λ m e. refl; places = refl }

verdict_of : (o : Option (List Item)) → IfSome o Named → (ks : Kinds) (rows : List Row) → pass ks (Some rows) ≡ then_taken [] o → Verdict ks rows (if_once o)
verdict_of None named [] rows e = absurd (cc)
verdict_of None named (k ∷ ks) rows e = refl
verdict_of (Some items) named ks rows e = go (taken [] items) (taken_says items [] [] named empty_same) ks e
  where
    go : (t : Option (List Row)) → MatchOption t (is_once [] items ≡ false) (λ after. (is_once [] items ≡ true) × Same after items) → (ks : Kinds) → pass ks (Some rows) ≡ t
        → Verdict ks rows (if_once (Some items))
    go None m [] e = absurd (cc)
    go None m (k ∷ ks) e = rw m refl
    go (Some after) m [] e =
        let is : after ≡ rows = cc in
        (items, rw m.0 refl, subst (λ (rs : List Row). Same rs items) is m.1)
    go (Some after) m (k ∷ ks) e = absurd (cc)

and_left : (a b : Bool) → (a && b) ≡ true → a ≡ true
and_left true b e = refl
and_left false b e = absurd (cc)

first_by_all : (name : Text) (rows : List Row) → first_of name rows ≡ option_and_then (λ vs. slice_get vs 0) (all_of name rows)
first_by_all name rows = go (find (λ r. bytes_eq r.id name) rows)
  where
    go : (o : Option Row) → option_and_then (λ (r : Row). slice_get r.values 0) o ≡ option_and_then (λ vs. slice_get vs 0) (option_map (λ (r : Row). r.values) o)
    go None = refl
    go (Some r) = refl

first_again : (o : Option Text) → option_and_then (λ vs. slice_get vs 0) (option_map (λ v. v ∷ []) o) ≡ o
first_again None = refl
first_again (Some v) = refl

holds_by : (m : ArgMatches) (items : List Item) → Same (rows_of (found_of m)) items → Holds m items
holds_by m items same = record {
  option = λ name apart. first_value-rows (found_of m) name ∙ first_by_all name (rows_of (found_of m))
      ∙ ap (option_and_then (λ vs. slice_get vs 0)) (same.option name apart) ∙ first_again (value_of name items);
  places = raw_values-rows (found_of m) place_id ∙ same.places;
}

each_utf8 : {Z : Type 0} (words : List (String Z)) → AllByRecursion IsUtf8 (map string_bytes words)
each_utf8 [] = tt
each_utf8 (w ∷ ws) = (IsUtf8-string_bytes w, each_utf8 ws)

all_utf8 : {Z : Type 0} (words : List (String Z)) → AllByRecursion IsUtf8 (drop 1 (map string_bytes words))
all_utf8 [] = tt
all_utf8 (w ∷ ws) = each_utf8 ws

module _ (name : Text) (options : List Text) (fresh : is_among options place_id ≡ false) {Z : Type 0} (words : List (String Z)) where
  verdict : Verdict (fault_of (app name options) (map string_bytes words)) (matches_of (app name options) (map string_bytes words)) (said options (drop 1 (map string_bytes words)))
  verdict = verdict_of (said_from options None (drop 1 (map string_bytes words))) (said_named options fresh (drop 1 (map string_bytes words))).0 _ _
      (exact name options fresh (map string_bytes words) (all_utf8 words))

  pub ok_tells : (a : App) (m : ArgMatches) → a ≡ app name options → HasMatchesOf a (map string_bytes words) m → fault_of a (map string_bytes words) ≡ []
      → Tells (Some m) (said options (drop 1 (map string_bytes words)))
  ok_tells a m is has none =
      let rows = (has (and_left _ _ (ap is_simple_and_free is ∙ simple name options))).0 in
      let v = subst (λ (ks : Kinds). Verdict ks (matches_of (app name options) (map string_bytes words)) (said options (drop 1 (map string_bytes words))))
      (ap (λ (b : App). fault_of b (map string_bytes words)) (sym is) ∙ none) verdict in
      (v.0, v.1, holds_by m v.0 (subst (λ (rs : List Row). Same rs v.0) (sym (rows ∙ ap (λ (b : App). matches_of b (map string_bytes words)) is)) v.2))

  pub err_tells : (a : App) (e : Error) → a ≡ app name options → HasKind (fault_of a (map string_bytes words)) e → (kind_of e ≡ OutOfMemory → ⊥)
      → Tells None (said options (drop 1 (map string_bytes words)))
  err_tells a e is (inl memory) other = absurd (other memory)
  err_tells a e is (inr among) other = go (fault_of (app name options) (map string_bytes words)) verdict (subst (λ (b : App). IsAmong (kind_of e) (fault_of b (map string_bytes words))) is among)
    where
      go : (ks : Kinds) → Verdict ks (matches_of (app name options) (map string_bytes words)) (said options (drop 1 (map string_bytes words))) → IsAmong (kind_of e) ks
          → said options (drop 1 (map string_bytes words)) ≡ None
      go [] v among = absurd among
      go (k ∷ ks) v among = v
