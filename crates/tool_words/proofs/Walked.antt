-- The walk of `clap` over the words, and what the words say.
use Rattle.std.proofs.Common.{arith, ◌≡◌, ◌∙◌, ℕ, Bool, true, false, cond, ◌&&◌, ◌==◌, refl, sym, subst, ap, ap₂, List, [], ◌∷◌, map, Option, Some, None}
use Rattle.std.specs.Prelude.{codes, encode_utf8_all, slice_get, if◌then◌else◌, option_and_then}
use Rattle.std.specs.List.{AllByRecursion, fold}
use Rattle.std.specs.Str.{IsUtf8, bytes_eq, chars}
use Rattle.std.proofs.lemmas.Slice.Eq.{bytes_eq-Decides}
use Rattle.std.proofs.lemmas.Bool.Decides.{Decides-eqb}
use Rattle.std.proofs.lemmas.Str.{IsCharBoundary-after_ascii, IsUtf8-drop, encodes-chars}
use Rattle.clap.specs.Lexer.{long_of, short_of}
use Rattle.clap.specs.Walk.{Held, Row, Text, Waiting, Walk, arg_by_id, arg_by_index, arg_by_long, arg_by_short, has_row, idle, is_pending, nothing_held, option, plain_word, positional, positional_held, pushed, reacted, settled, subcommand_met, used, value, walk_from, walked}
use Rattle.clap.specs.Simple.{Shape}
use Rattle.clap.specs.Kinds.{Kinds, or_else}
use Rattle.clap.specs.Faults.{flags_fault, positional_fault, settle_fault, turn_fault, use_fault, walk_fault}
use Rattle.tool_words.specs.Commands.{place_id}
use Rattle.tool_words.specs.Said.{Item, behind_dashes, given, is_among, is_dashed, name_in, opened as opened_said, option_said, placed, said_from, value_in, with_item}
use Rattle.tool_words.proofs.Built.{option_built, place_built, rules, shape}

-- ---- kinds that pass

abbrev pub pass : Kinds → Option (List Row) → Option (List Row)
pass [] x = x
pass (k ∷ ks) x = None

pub pass_or : (a b : Kinds) (x : Option (List Row)) → pass (or_else a b) x ≡ pass a (pass b x)
pass_or [] b x = refl
pass_or (k ∷ ks) b x = refl

pub pass_none : (a : Kinds) → pass a None ≡ None
pass_none [] = refl
pass_none (k ∷ ks) = refl

-- what a walk holds at its end, where no step of it fails
abbrev pub run : Shape → Walk → List Text → Option (List Row)
run s w [] = pass (settle_fault s.rules false w.held) (Some (settled s.rules w.held).rows)
run s w (word ∷ rest) = pass (turn_fault s [] w word) (run s (walked s.rules [] w word) rest)

pub run_is : (s : Shape) (w : Walk) (words : List Text) → run s w words
    ≡ pass (walk_fault s [] w words) (pass (settle_fault s.rules false (fold (walked s.rules []) w words).held) (Some (settled s.rules (fold (walked s.rules []) w words).held).rows))
unfolding walk_fault
run_is s w [] = refl
run_is s w (word ∷ rest) = ap (pass (turn_fault s [] w word)) (run_is s (walked s.rules [] w word) rest) ∙ sym (pass_or (turn_fault s [] w word) _ _)

-- ---- lookups

same : (x y : Text) → bytes_eq x y ≡ true → x ≡ y
same x y e = (bytes_eq-Decides x y).0 e

and_false : (b : Bool) → (b && false) ≡ false
and_false true = refl
and_false false = refl

find_long : (options : List Text) (n : Text) → arg_by_long (rules options) n ≡ (if is_among options n then Some (option_built n) else None)
find_long [] n = refl
find_long (x ∷ xs) n = go (bytes_eq x n) refl (find_long xs n)
  where
    go : (b : Bool) → bytes_eq x n ≡ b → arg_by_long (rules xs) n ≡ (if is_among xs n then Some (option_built n) else None)
        → arg_by_long (rules (x ∷ xs)) n ≡ (if is_among (x ∷ xs) n then Some (option_built n) else None)
    go true e ih = rw e (ap (λ y. Some (option_built y)) (same x n e))
    go false e ih = rw e ih

find_id : (options : List Text) (n : Text) → is_among options n ≡ true → arg_by_id (rules options) n ≡ Some (option_built n)
find_id [] n among = absurd (cc)
find_id (x ∷ xs) n among = go (bytes_eq x n) refl (find_id xs n)
  where
    go : (b : Bool) → bytes_eq x n ≡ b → (is_among xs n ≡ true → arg_by_id (rules xs) n ≡ Some (option_built n)) → arg_by_id (rules (x ∷ xs)) n ≡ Some (option_built n)
    go true e ih = rw e (ap (λ y. Some (option_built y)) (same x n e))
    go false e ih = rw e (ih (rw e at among))

find_place : (options : List Text) → is_among options place_id ≡ false → arg_by_id (rules options) place_id ≡ Some place_built
find_place [] fresh = refl
find_place (x ∷ xs) fresh = go (bytes_eq x place_id) refl (find_place xs)
  where
    go : (b : Bool) → bytes_eq x place_id ≡ b → (is_among xs place_id ≡ false → arg_by_id (rules xs) place_id ≡ Some place_built)
        → arg_by_id (rules (x ∷ xs)) place_id ≡ Some place_built
    go true e ih = absurd (let f : true ≡ false = rw e at fresh in cc)
    go false e ih = rw e (ih (rw e at fresh))

find_short : (options : List Text) (x : ℕ) → arg_by_short (rules options) x ≡ None
find_short [] x = refl
find_short (y ∷ ys) x = find_short ys x

find_index : (options : List Text) → arg_by_index (rules options) 1 ≡ Some place_built
find_index [] = refl
find_index (y ∷ ys) = find_index ys

-- ---- what a word is

pub data Kind (word : Text) : Type 0 where
  ends : bytes_eq word (codes "--") ≡ true → Kind word
  plain : bytes_eq word (codes "--") ≡ false → is_dashed word ≡ false → long_of word ≡ None → short_of word ≡ None → Kind word
  long : (text : Text) → bytes_eq word (codes "--") ≡ false → is_dashed word ≡ true → behind_dashes word ≡ Some text
      → long_of word ≡ Some (name_in text, value_in text) → Kind word
  short : (x : ℕ) (rest : Text) → bytes_eq word (codes "--") ≡ false → is_dashed word ≡ true → behind_dashes word ≡ None → long_of word ≡ None
      → short_of word ≡ Some (x ∷ rest) → word ≡ 45 ∷ x ∷ rest → Kind word

-- `--` begins with a minus sign and has more bytes
ends_dashed : (word : Text) → bytes_eq word (codes "--") ≡ true → is_dashed word ≡ false → ⊥
ends_dashed word e d =
    let is : word ≡ codes "--" = same word (codes "--") e in
    let f : true ≡ false = subst (λ (w : Text). is_dashed w ≡ false) is d in cc

kind_of_word : (word : Text) → Kind word
kind_of_word [] = plain refl refl refl refl
kind_of_word (x ∷ []) = go (x == 45) refl
  where
    go : (b : Bool) → (x == 45) ≡ b → Kind (x ∷ [])
    go true e = plain (and_false (x == 45)) refl (rw e refl) (rw e refl)
    go false e = plain (and_false (x == 45)) refl (rw e refl) (rw e refl)
kind_of_word (x ∷ y ∷ rest) = go (x == 45) (y == 45) rest refl refl
  where
    go : (a b : Bool) (r : Text) → (x == 45) ≡ a → (y == 45) ≡ b → Kind (x ∷ y ∷ r)
    go false b r e f = plain (rw e refl) e (rw e refl) (rw e refl)
    go true false r e f = short y r (rw (e, f) refl) e (rw (e, f) refl) (rw (e, f) refl) (rw (e, f) refl) (ap (λ n. n ∷ y ∷ r) ((Decides-eqb x 45).0 e))
    go true true [] e f = ends (rw (e, f) refl)
    go true true (z ∷ zs) e f = long (z ∷ zs) (rw (e, f) refl) e (rw (e, f) refl) (rw (e, f) refl)

-- the letter behind a minus sign
first_letter : (x : ℕ) (rest : Text) → IsUtf8 (45 ∷ x ∷ rest) → (c : ℕ) × (slice_get (chars (x ∷ rest)) 0 ≡ Some c)
first_letter x rest utf8 =
    let tail : IsUtf8 (x ∷ rest) = IsUtf8-drop (45 ∷ x ∷ rest) 1 utf8 (IsCharBoundary-after_ascii (45 ∷ x ∷ rest) 0 utf8 (omega arith) (omega arith)) in
    go (chars (x ∷ rest)) (encodes-chars (x ∷ rest) tail)
  where
    go : (cs : List ℕ) → encode_utf8_all cs ≡ x ∷ rest → (c : ℕ) × (slice_get cs 0 ≡ Some c)
    go [] e = absurd (cc)
    go (c ∷ cs) e = (c, refl)

-- the rows after the items, where no option is given twice
abbrev pub taken : List Row → List Item → Option (List Row)
taken rows [] = Some rows
taken rows (given n v ∷ rest) = if has_row n rows then None else taken (used (option_built n) (v ∷ []) rows) rest
taken rows (placed word ∷ rest) = taken (used place_built (word ∷ []) rows) rest

abbrev pub then_taken : List Row → Option (List Item) → Option (List Row)
then_taken rows said = option_and_then (taken rows) said

then_given : (rows : List Row) (n v : Text) (said : Option (List Item)) → then_taken rows (with_item (given n v) said)
    ≡ (if has_row n rows then None else then_taken (used (option_built n) (v ∷ []) rows) said)
then_given rows n v (Some items) = refl
then_given rows n v None = go (has_row n rows)
  where
    go : (b : Bool) → ◌≡◌ {A = Option (List Row)} None (if b then None else None)
    go true = refl
    go false = refl

then_placed : (rows : List Row) (word : Text) (said : Option (List Item)) → then_taken rows (with_item (placed word) said) ≡ then_taken (used place_built (word ∷ []) rows) said
then_placed rows word None = refl
then_placed rows word (Some items) = refl

-- a use of an option fails where it has a row
option_use : (n v : Text) (rows : List Row) (x : Option (List Row)) → pass (use_fault false (option_built n) (v ∷ []) rows) x ≡ (if has_row n rows then None else x)
option_use n v rows x = go (has_row n rows) refl
  where
    go : (b : Bool) → has_row n rows ≡ b → pass (use_fault false (option_built n) (v ∷ []) rows) x ≡ (if has_row n rows then None else x)
    go true e = rw e refl
    go false e = rw e refl

all_dashed : (names : List Text) (word : Text) (rest : List Text) → is_dashed word ≡ true → bytes_eq word (codes "--") ≡ false
    → said_from names None (word ∷ rest) ≡ option_said names (behind_dashes word) (λ waiting. said_from names waiting rest)
unfolding said_from
all_dashed names word rest d e = rw (e, d) refl

-- ---- the walk of the command

module _ (name : Text) (options : List Text) (fresh : is_among options place_id ≡ false) where
  -- the walk between two words
  abbrev at : Held → Waiting → Bool → Walk
  at h waiting trailing = record { held = h; waiting = waiting; position = 1; is_trailing = trailing; stopped = None }

  abbrev go_on : Held → Waiting → Bool → List Text → Option (List Row)
  go_on h waiting trailing words = run (shape name options) (at h waiting trailing) words

  abbrev fault_in : Held → Kinds
  fault_in h = settle_fault (rules options) false h

  -- nothing fails so far, and these are the rows
  record Clean (h : Held) (rows : List Row) : Type 0 where
    passes : fault_in h ≡ []
    holds : (settled (rules options) h).rows ≡ rows
    skip : h.skip ≡ 0

  -- something fails for sure
  record Doomed (h : Held) : Type 0 where
    fails : (x : Option (List Row)) → pass (fault_in h) x ≡ None
    skip : h.skip ≡ 0

  -- no option waits for a value
  record IsFree (waiting : Waiting) : Type 0 where
    plain : (word : Text) (h : Held) → plain_word (rules options) waiting word h ≡ (h, value)

  idle_free : IsFree idle
  idle_free = record { plain = λ word h. refl }

  positional_free : IsFree positional
  positional_free = record { plain = λ word h. refl }

  no_subcommand : (waiting : Waiting) (word : Text) → subcommand_met [] waiting word ≡ None
  no_subcommand idle word = refl
  no_subcommand (option id) word = refl
  no_subcommand positional word = refl

  place_fault : (h : Held) → positional_fault (rules options) false place_built h ≡ fault_in h
  place_fault h = ap (λ b. cond b [] (fault_in h)) (and_false (is_pending place_built h.pending))

  place_held : (word : Text) (h : Held) → positional_held (rules options) place_built word h ≡ pushed place_id word (settled (rules options) h)
  place_held word h = ap (λ b. pushed place_id word (cond b h (settled (rules options) h))) (and_false (is_pending place_built h.pending))

  -- a word behind `--`
  trailing_turn : (h : Held) (waiting : Waiting) (word : Text) (rest : List Text) → go_on h waiting true (word ∷ rest)
      ≡ pass (fault_in h) (go_on (pushed place_id word (settled (rules options) h)) positional true rest)
  unfolding walked
  trailing_turn h waiting word rest =
      rw (find_index options) (ap₂ (λ (ks : Kinds) (k : Held). pass ks (go_on k positional true rest)) (place_fault h) (place_held word h))

  -- `--`
  ends_turn : (h : Held) (waiting : Waiting) (word : Text) (rest : List Text) → bytes_eq word (codes "--") ≡ true
      → go_on h waiting false (word ∷ rest) ≡ go_on h waiting true rest
  unfolding walked
  ends_turn h waiting word rest e = rw (no_subcommand waiting word, e)

  -- a word that goes to the words that stand for themselves
  plain_turn : (h : Held) (waiting : Waiting) (word : Text) (rest : List Text) → IsFree waiting → bytes_eq word (codes "--") ≡ false → long_of word ≡ None
      → short_of word ≡ None → go_on h waiting false (word ∷ rest) ≡ pass (fault_in h) (go_on (pushed place_id word (settled (rules options) h)) positional false rest)
  unfolding walked
  plain_turn h waiting word rest free e l s =
      rw (no_subcommand waiting word, e, l, s, free.plain word h, find_index options)
      (ap₂ (λ (ks : Kinds) (k : Held). pass ks (go_on k positional false rest)) (place_fault h) (place_held word h))

  -- `-x`
  short_turn : (h : Held) (waiting : Waiting) (word : Text) (rest : List Text) (x : ℕ) (letters : Text) → h.skip ≡ 0 → bytes_eq word (codes "--") ≡ false
      → long_of word ≡ None → short_of word ≡ Some (x ∷ letters) → (c : ℕ) → slice_get (chars (x ∷ letters)) 0 ≡ Some c → go_on h waiting false (word ∷ rest) ≡ None
  unfolding flags_fault
  short_turn h waiting word rest x letters skip e l s c first =
      rw (no_subcommand waiting word, e, l, s, skip, first, find_short options c) refl

  -- `--name` where no option has this name
  unknown_turn : (h : Held) (waiting : Waiting) (word : Text) (rest : List Text) (n : Text) (v : Option Text) → bytes_eq word (codes "--") ≡ false
      → long_of word ≡ Some (n, v) → is_among options n ≡ false → go_on h waiting false (word ∷ rest) ≡ None
  unknown_turn h waiting word rest n v e l not_among = rw (no_subcommand waiting word, e, l, find_long options n, not_among) refl

  -- `--name=value`
  joined_turn : (h : Held) (waiting : Waiting) (word : Text) (rest : List Text) (n v : Text) → bytes_eq word (codes "--") ≡ false
      → long_of word ≡ Some (n, Some v) → is_among options n ≡ true → go_on h waiting false (word ∷ rest)
      ≡ pass (fault_in h) (pass (use_fault false (option_built n) (v ∷ []) (settled (rules options) h).rows) (go_on (reacted (rules options) (option_built n) (v ∷ []) h) idle false rest))
  unfolding walked
  joined_turn h waiting word rest n v e l among =
      rw (no_subcommand waiting word, e, l, find_long options n, among)
      (pass_or (or_else (fault_in h) (use_fault false (option_built n) (v ∷ []) (settled (rules options) h).rows)) [] _
      ∙ pass_or (fault_in h) (use_fault false (option_built n) (v ∷ []) (settled (rules options) h).rows) _)

  abbrev opened : Text → Held → Held
  opened n h = record (settled (rules options) h) { pending = Some (n, []) }

  -- `--name`
  apart_turn : (h : Held) (waiting : Waiting) (word : Text) (rest : List Text) (n : Text) → bytes_eq word (codes "--") ≡ false
      → long_of word ≡ Some (n, None) → is_among options n ≡ true → go_on h waiting false (word ∷ rest)
      ≡ pass (fault_in h) (go_on (opened n h) (option n) false rest)
  unfolding walked
  apart_turn h waiting word rest n e l among =
      rw (no_subcommand waiting word, e, l, find_long options n, among) (pass_or (fault_in h) [] _)

  abbrev filled_held : Text → Text → Held → Held
  filled_held n word h = record h { pending = Some (n, word ∷ []) }

  -- the value of an option
  value_turn : (h : Held) (word : Text) (rest : List Text) (n : Text) → h.pending ≡ Some (n, []) → is_among options n ≡ true → bytes_eq word (codes "--") ≡ false
      → long_of word ≡ None → short_of word ≡ None → go_on h (option n) false (word ∷ rest) ≡ go_on (filled_held n word h) idle false rest
  unfolding walked
  value_turn h word rest n p among e l s =
      let self : bytes_eq n n ≡ true = (bytes_eq-Decides n n).1 refl in
      rw (e, l, s, find_id options n among, p, self) refl

  doomed_trailing : (words : List Text) (h : Held) (waiting : Waiting) → Doomed h → go_on h waiting true words ≡ None
  doomed_trailing [] h waiting d = d.fails _
  doomed_trailing (word ∷ rest) h waiting d = trailing_turn h waiting word rest ∙ d.fails _

  -- a word that begins with a minus sign and has more bytes, where something fails for sure
  doomed_dashed : (word : Text) (rest : List Text) (h : Held) (waiting : Waiting) → IsUtf8 word → is_dashed word ≡ true → Doomed h → go_on h waiting false (word ∷ rest) ≡ None
  doomed_dashed word rest h waiting utf8 dashed d = go (kind_of_word word)
    where
      known : (text : Text) (v : Option Text) → v ≡ value_in text → bytes_eq word (codes "--") ≡ false → long_of word ≡ Some (name_in text, value_in text)
          → is_among options (name_in text) ≡ true → go_on h waiting false (word ∷ rest) ≡ None
      known text None is e l among = apart_turn h waiting word rest (name_in text) e (l ∙ ap (λ o. Some (name_in text, o)) (sym is)) among ∙ d.fails _
      known text (Some v) is e l among = joined_turn h waiting word rest (name_in text) v e (l ∙ ap (λ o. Some (name_in text, o)) (sym is)) among ∙ d.fails _

      by_name : (text : Text) (b : Bool) → is_among options (name_in text) ≡ b → bytes_eq word (codes "--") ≡ false → long_of word ≡ Some (name_in text, value_in text)
          → go_on h waiting false (word ∷ rest) ≡ None
      by_name text true among e l = known text (value_in text) refl e l among
      by_name text false among e l = unknown_turn h waiting word rest (name_in text) (value_in text) e l among

      go : Kind word → go_on h waiting false (word ∷ rest) ≡ None
      go (ends e) = ends_turn h waiting word rest e ∙ doomed_trailing rest h waiting d
      go (plain e not_dashed l s) = absurd (cc)
      go (long text e is_dash b l) = by_name text (is_among options (name_in text)) refl e l
      go (short x letters e is_dash b l s is) =
          let first = first_letter x letters (subst IsUtf8 is utf8) in
          short_turn h waiting word rest x letters d.skip e l s first.0 first.1

  doomed_free : (words : List Text) (h : Held) (waiting : Waiting) → AllByRecursion IsUtf8 words → IsFree waiting → Doomed h → go_on h waiting false words ≡ None
  doomed_free [] h waiting utf8 free d = d.fails _
  doomed_free (word ∷ rest) h waiting utf8 free d = go (kind_of_word word)
    where
      go : Kind word → go_on h waiting false (word ∷ rest) ≡ None
      go (ends e) = ends_turn h waiting word rest e ∙ doomed_trailing rest h waiting d
      go (plain e not_dashed l s) = plain_turn h waiting word rest free e l s ∙ d.fails _
      go (long text e is_dash b l) = doomed_dashed word rest h waiting utf8.0 is_dash d
      go (short x letters e is_dash b l s is) = doomed_dashed word rest h waiting utf8.0 is_dash d

  -- ---- what is clean stays clean

  passed : (h : Held) (rows : List Row) (x : Option (List Row)) → Clean h rows → pass (fault_in h) x ≡ x
  passed h rows x c = ap (λ ks. pass ks x) c.passes

  clean_place : (h : Held) (rows : List Row) (word : Text) → Clean h rows → Clean (pushed place_id word (settled (rules options) h)) (used place_built (word ∷ []) rows)
  clean_place h rows word c = record {
    passes = rw (find_place options fresh) refl;
    holds = rw (find_place options fresh) (ap (used place_built (word ∷ [])) c.holds);
    skip = c.skip;
  }

  clean_joined : (h : Held) (rows : List Row) (n v : Text) → Clean h rows → Clean (reacted (rules options) (option_built n) (v ∷ []) h) (used (option_built n) (v ∷ []) rows)
  clean_joined h rows n v c = record { passes = refl; holds = ap (used (option_built n) (v ∷ [])) c.holds; skip = c.skip }

  -- an option that waits for its value
  record Waits (n : Text) (h : Held) (rows : List Row) : Type 0 where
    among : is_among options n ≡ true
    pending : h.pending ≡ Some (n, [])
    holds : h.rows ≡ rows
    skip : h.skip ≡ 0

  waits_doomed : (n : Text) (h : Held) (rows : List Row) → Waits n h rows → Doomed h
  waits_doomed n h rows w = record { fails = λ x. rw (w.pending, find_id options n w.among) refl; skip = w.skip }

  waits_opened : (n : Text) (h : Held) (rows : List Row) → is_among options n ≡ true → Clean h rows → Waits n (opened n h) rows
  waits_opened n h rows among c = record { among = among; pending = refl; holds = c.holds; skip = c.skip }

  clean_filled : (n v : Text) (h : Held) (rows : List Row) → Waits n h rows → has_row n rows ≡ false → Clean (filled_held n v h) (used (option_built n) (v ∷ []) rows)
  clean_filled n v h rows w none = record {
    passes = rw (find_id options n w.among, w.holds, none) refl;
    holds = rw (find_id options n w.among) (ap (used (option_built n) (v ∷ [])) w.holds);
    skip = w.skip;
  }

  doomed_filled : (n v : Text) (h : Held) (rows : List Row) → Waits n h rows → has_row n rows ≡ true → Doomed (filled_held n v h)
  doomed_filled n v h rows w some = record { fails = λ x. rw (find_id options n w.among, w.holds, some) refl; skip = w.skip }

  -- ---- the walk gives the rows of what the words say

  trailing_goes : (words : List Text) (h : Held) (rows : List Row) (waiting : Waiting) → Clean h rows → go_on h waiting true words ≡ taken rows (map placed words)
  trailing_goes [] h rows waiting c = passed h rows _ c ∙ ap Some c.holds
  trailing_goes (word ∷ rest) h rows waiting c =
      trailing_turn h waiting word rest ∙ passed h rows _ c ∙ trailing_goes rest _ _ positional (clean_place h rows word c)

  abbrev Goes : List Text → Type 0
  Goes words = (h : Held) (rows : List Row) (waiting : Waiting) → Clean h rows → IsFree waiting → go_on h waiting false words ≡ then_taken rows (said_from options None words)

  abbrev GoesOn : List Text → Type 0
  GoesOn words = (n : Text) (h : Held) (rows : List Row) → Waits n h rows → go_on h (option n) false words ≡ then_taken rows (said_from options (Some n) words)

  goes_word : (word : Text) (rest : List Text) → IsUtf8 word → Goes rest → GoesOn rest → Goes (word ∷ rest)
  unfolding said_from
  goes_word word rest utf8 goes waits h rows waiting c free = go (kind_of_word word)
    where
      known : (text : Text) (v : Option Text) → v ≡ value_in text → bytes_eq word (codes "--") ≡ false → long_of word ≡ Some (name_in text, value_in text)
          → is_among options (name_in text) ≡ true → go_on h waiting false (word ∷ rest) ≡ then_taken rows (opened_said (name_in text) v (λ w. said_from options w rest))
      known text None is e l among =
          apart_turn h waiting word rest (name_in text) e (l ∙ ap (λ o. Some (name_in text, o)) (sym is)) among ∙ passed h rows _ c
          ∙ waits (name_in text) _ rows (waits_opened (name_in text) h rows among c)
      known text (Some v) is e l among =
          joined_turn h waiting word rest (name_in text) v e (l ∙ ap (λ o. Some (name_in text, o)) (sym is)) among ∙ passed h rows _ c
          ∙ option_use (name_in text) v (settled (rules options) h).rows (go_on (reacted (rules options) (option_built (name_in text)) (v ∷ []) h) idle false rest)
          ∙ ap₂ (λ (rs : List Row) (o : Option (List Row)). if has_row (name_in text) rs then None else o) c.holds (goes _ (used (option_built (name_in text)) (v ∷ []) rows) idle (clean_joined h rows (name_in text) v c) idle_free)
          ∙ sym (then_given rows (name_in text) v (said_from options None rest))

      by_name : (text : Text) (b : Bool) → is_among options (name_in text) ≡ b → bytes_eq word (codes "--") ≡ false → is_dashed word ≡ true → behind_dashes word ≡ Some text
          → long_of word ≡ Some (name_in text, value_in text) → go_on h waiting false (word ∷ rest) ≡ then_taken rows (said_from options None (word ∷ rest))
      by_name text true among e dashed b l = known text (value_in text) refl e l among ∙ rw (e, dashed, b, among) refl
      by_name text false among e dashed b l = unknown_turn h waiting word rest (name_in text) (value_in text) e l among ∙ rw (e, dashed, b, among) refl

      go : Kind word → go_on h waiting false (word ∷ rest) ≡ then_taken rows (said_from options None (word ∷ rest))
      go (ends e) = ends_turn h waiting word rest e ∙ trailing_goes rest h rows waiting c ∙ rw e refl
      go (plain e not_dashed l s) =
          plain_turn h waiting word rest free e l s ∙ passed h rows _ c ∙ goes _ _ positional (clean_place h rows word c) positional_free
          ∙ sym (then_placed rows word (said_from options None rest)) ∙ rw (e, not_dashed) refl
      go (long text e dashed b l) = by_name text (is_among options (name_in text)) refl e dashed b l
      go (short x letters e dashed b l s is) =
          let first = first_letter x letters (subst IsUtf8 is utf8) in
          short_turn h waiting word rest x letters c.skip e l s first.0 first.1 ∙ rw (e, dashed, b) refl

  goes_value : (word : Text) (rest : List Text) → AllByRecursion IsUtf8 (word ∷ rest) → Goes rest → GoesOn (word ∷ rest)
  unfolding said_from
  goes_value word rest utf8 goes n h rows w = go (is_dashed word) refl
    where
      filled : (b : Bool) → has_row n rows ≡ b → go_on (filled_held n word h) idle false rest ≡ then_taken rows (with_item (given n word) (said_from options None rest))
      filled true some = doomed_free rest _ idle utf8.1 idle_free (doomed_filled n word h rows w some) ∙ sym (then_given rows n word (said_from options None rest) ∙ rw some refl)
      filled false none = goes _ _ idle (clean_filled n word h rows w none) idle_free ∙ sym (then_given rows n word (said_from options None rest) ∙ rw none refl)

      plainly : Kind word → is_dashed word ≡ false → go_on h (option n) false (word ∷ rest) ≡ go_on (filled_held n word h) idle false rest
      plainly (ends e) d = absurd (ends_dashed word e d)
      plainly (plain e not_dashed l s) d = value_turn h word rest n w.pending w.among e l s
      plainly (long text e dashed b l) d = absurd (cc)
      plainly (short x letters e dashed b l s is) d = absurd (cc)

      go : (b : Bool) → is_dashed word ≡ b → go_on h (option n) false (word ∷ rest) ≡ then_taken rows (said_from options (Some n) (word ∷ rest))
      go true d = doomed_dashed word rest h (option n) utf8.0 d (waits_doomed n h rows w) ∙ rw d refl
      go false d = plainly (kind_of_word word) d ∙ filled (has_row n rows) refl ∙ rw d refl

  both_go : (words : List Text) → AllByRecursion IsUtf8 words → Goes words × GoesOn words
  unfolding said_from
  both_go [] utf8 = (λ h rows waiting c free. passed h rows _ c ∙ ap Some c.holds, λ n h rows w. (waits_doomed n h rows w).fails _)
  both_go (word ∷ rest) utf8 =
      let next = both_go rest utf8.1 in
      (goes_word word rest utf8.0 next.0 next.1, goes_value word rest utf8 next.0)

  pub goes_from_start : (words : List Text) → AllByRecursion IsUtf8 words → run (shape name options) (walk_from nothing_held) words ≡ then_taken [] (said_from options None words)
  goes_from_start words utf8 = (both_go words utf8).0 nothing_held [] idle (record { passes = refl; holds = refl; skip = refl }) idle_free
