-- The texts of operators, of what stands behind them, and of groupings are read as they are.
use Rattle.std.proofs.Common.{◌≡◌, ◌∙◌, ℕ, ◌+◌, ◌++◌, Bool, true, false, not, List, [], ◌∷◌, length, refl, ap, ap₂, sym, subst, append_assoc, codes}
use Rattle.std.specs.Prelude.{◌==◌, if◌then◌else◌, Option, Some, None}
use Rattle.std.proofs.lemmas.Bool.{eq-eqb, eqb-true}
use Rattle.std.specs.List.{AllByRecursion}
use Rattle.holders.specs.Joins.{both_of}
use Rattle.func_table.specs.declared.table.SetOp.TheVariants as sets
use Rattle.label_set.specs.declared.rules.Card.{Card}
use Rattle.label_set.specs.declared.rules.Card.TheVariants.{OneToOne, GroupLeft as ManyLeft, GroupRight as ManyRight}
use Rattle.label_set.specs.declared.rules.Grouping.{Grouping}
use Rattle.label_set.specs.declared.rules.Pairing.{Pairing}
use Rattle.promql_lex.specs.Names.{name_kind}
use Rattle.promql_lex.specs.Words.{word_of}
use Rattle.promql_lex.specs.declared.token.TokenKind.TheVariants as tokens
use Rattle.promql_lex.specs.declared.word.Word.{Word}
use Rattle.promql_lex.specs.declared.word.Word.TheVariants as words
use Rattle.promql_parts.specs.Labels.{grouping_of, no_grouping}
use Rattle.promql_parts.specs.Operators.{group_word, is_comparison, is_set_operator, matching_word, of_level, op_of, operator_of, pairing_of}
use Rattle.promql_parts.specs.Patterned.{Kept}
use Rattle.promql_parts.specs.Productions.{BinModifier, BoolModifier, GroupModifiers, Grouped, LabelList, Labels}
use Rattle.promql_parts.specs.Steps.{no_some, same_some, true_false}
use Rattle.promql_parts.specs.declared.lexeme.Lexeme.{Lexeme}
use Rattle.promql_parts.specs.declared.lexeme.LexemeKind.{LexemeKind}
use Rattle.promql_parts.specs.declared.lexeme.LexemeKind.TheVariants as kinds
use Rattle.promql_parts.specs.declared.lexeme.Sign.TheVariants.{Plus, Minus, Star, Slash, Percent, Caret, EqualTwice, Unequal, Less, LessEqual, Greater, GreaterEqual}
use Rattle.promql_parts.specs.declared.operator.BinaryOp.{BinaryOp}
use Rattle.promql_parts.specs.declared.operator.BinaryOp.TheVariants.{Arith, Compare, Set}
use Rattle.promql_parts.specs.declared.operator.Matching.{Matching}
use Rattle.promql_print.specs.Operators.{arithmetic_sign, comparison_sign, group_words, grouping_words, is_empty, is_grouped, matching_words, pairing_words, set_word, tells_grouping, word_with}
use Rattle.xfrac.specs.declared.value.ArithOp.TheVariants as arith
use Rattle.xfrac.specs.declared.value.CompareOp.TheVariants as comparison
use Rattle.print_laws.proofs.Bytes.{IsNamed, ends_name, ends_sign, or_right}
use Rattle.print_laws.proofs.Goods.{AreGood}
use Rattle.print_laws.proofs.LabelsRead.{IsFresh, labels_told}
use Rattle.print_laws.proofs.Items.{append_nil}
use Rattle.print_laws.proofs.Lexed.{Reads, always, blank, joined, lexeme, nothing, weaker, written}
use Rattle.print_laws.proofs.Marks.{caret_sign, equal_twice, greater, greater_equal, less, less_equal, minus_sign, percent, plus_sign, slash, star, unequal, word}
use Rattle.print_laws.proofs.Selectors.{back_good, front_good, good_label}

-- ---- labels that were read

module _ (kept : Kept) where
  abbrev Fresh : List (List ℕ) → List ℕ → Type 0
  Fresh taken label = IsFresh taken label

  label_list_good : {taken : List (List ℕ)} {xs : List Lexeme} {labels : List (List ℕ)} → LabelList taken xs labels → AreGood kept xs → AllByRecursion (IsFresh taken) labels
  label_list_good {taken = taken} (LabelList.one l label is) = λ good. ((good_label kept taken l label is good.0, is.fresh), tt)
  label_list_good {taken = taken} (LabelList.more {us = us} {xs = xs} {labels = labels} comma l label list sign is split) =
      λ good.
      both_of (IsFresh taken) labels (label ∷ []) (label_list_good list (front_good kept us xs (comma ∷ l ∷ []) split good))
      ((good_label kept taken l label is (back_good kept us xs (comma ∷ l ∷ []) split good).1.0, is.fresh), tt)

  pub labels_good : {taken : List (List ℕ)} {xs : List Lexeme} {labels : List (List ℕ)} → Labels taken xs labels → AreGood kept xs → AllByRecursion (IsFresh taken) labels
  labels_good (Labels.none begin close opens closes) = λ good. tt
  labels_good (Labels.listed {us = us} {xs = xs} begin close opens list closes split) =
      λ good. label_list_good list (front_good kept (xs ++ close ∷ []) xs (close ∷ []) refl (subst (AreGood kept) split good).1)
  labels_good (Labels.last_comma {us = us} {xs = xs} begin comma close opens list sign closes split) =
      λ good. label_list_good list (front_good kept (xs ++ comma ∷ close ∷ []) xs (comma ∷ close ∷ []) refl (subst (AreGood kept) split good).1)

-- ---- a word with labels

-- a word between blanks, and labels in parentheses
pub record WordTold (kept : Kept) (taken : List (List ℕ)) (at : ℕ) (w : Word) (s : List ℕ) (labels : List (List ℕ)) : Type 0 where
  pub ls : List Lexeme
  pub is : Labels taken ls labels
  pub reads : Reads kept always false false at (word_with (32 ∷ (s ++ (32 ∷ []))) labels) (lexeme (at + 1) (kinds.Word w s) ∷ ls)

pub word_told : (kept : Kept) (taken : List (List ℕ)) (at : ℕ) (w : Word) (s : List ℕ) (labels : List (List ℕ)) → IsNamed s → name_kind s ≡ tokens.Word → word_of s ≡ Some w
    → AllByRecursion (IsFresh taken) labels → WordTold kept taken at w s labels
word_told kept taken at w s labels named told known fresh =
    let front : Reads kept always false false at (32 ∷ (s ++ (32 ∷ []))) (lexeme (at + 1) (kinds.Word w s) ∷ []) =
    joined (blank {at = at}) (joined (word (at + 1) s w named told known) blank (λ rest ok. refl)) (λ rest ok. refl) in
    let rest = labels_told taken (at + length (32 ∷ (s ++ (32 ∷ [])))) labels fresh in
    record { ls = rest.ls; is = rest.is; reads = joined front rest.reads (λ rest ok. refl) }

-- ---- groupings

by_named : IsNamed (codes "by")
by_named = (record { piece = λ at rest. refl; outside = refl }, refl)

without_named : IsNamed (codes "without")
without_named = (record { piece = λ at rest. refl; outside = refl }, refl)

-- a grouping that is told, or the one that isn't
pub data GroupingTold (kept : Kept) (at : ℕ) (grouping : Grouping) : Type 0 where
  untold : grouping ≡ no_grouping → GroupingTold kept at grouping
  told : (ls : List Lexeme) → Grouped ls grouping → tells_grouping grouping ≡ true → Reads kept always false false at (grouping_words grouping) ls → GroupingTold kept at grouping

pub grouping_told : (kept : Kept) (at : ℕ) (without : Bool) (labels : List (List ℕ)) → AllByRecursion (IsFresh []) labels → GroupingTold kept at (grouping_of without labels)
grouping_told kept at true labels fresh =
    let found = word_told kept [] at words.Without (codes "without") labels without_named refl refl fresh in
    let l : Lexeme = lexeme (at + 1) (kinds.Word words.Without (codes "without")) in
    GroupingTold.told (l ∷ found.ls) (Grouped.without l (codes "without", refl) found.is) refl found.reads
grouping_told kept at false [] fresh = GroupingTold.untold refl
grouping_told kept at false (label ∷ labels) fresh =
    let found = word_told kept [] at words.By (codes "by") (label ∷ labels) by_named refl refl fresh in
    let l : Lexeme = lexeme (at + 1) (kinds.Word words.By (codes "by")) in
    GroupingTold.told (l ∷ found.ls) (Grouped.by l (codes "by", refl) found.is) refl found.reads

pub grouped_told : (kept : Kept) (at : ℕ) {ls : List Lexeme} {grouping : Grouping} → Grouped ls grouping → AreGood kept ls → GroupingTold kept at grouping
grouped_told kept at (Grouped.by {labels = labels} l is list) = λ good. grouping_told kept at false labels (labels_good kept list good.1)
grouped_told kept at (Grouped.without {labels = labels} l is list) = λ good. grouping_told kept at true labels (labels_good kept list good.1)

-- ---- matchings

on_named : IsNamed (codes "on")
on_named = (record { piece = λ at rest. refl; outside = refl }, refl)

ignoring_named : IsNamed (codes "ignoring")
ignoring_named = (record { piece = λ at rest. refl; outside = refl }, refl)

left_named : IsNamed (codes "group_left")
left_named = (record { piece = λ at rest. refl; outside = refl }, refl)

right_named : IsNamed (codes "group_right")
right_named = (record { piece = λ at rest. refl; outside = refl }, refl)

bool_named : IsNamed (codes "bool")
bool_named = (record { piece = λ at rest. refl; outside = refl }, refl)

record PairingTold (kept : Kept) (op : BinaryOp) (at : ℕ) (pairing : Pairing) : Type 0 where
  ls : List Lexeme
  is : GroupModifiers op ls pairing false
  reads : Reads kept always false false at (pairing_words pairing) ls

-- the matching word and its labels, where they are told
record MatchTold (kept : Kept) (at : ℕ) (on : Bool) (names : List (List ℕ)) (text : List ℕ) : Type 0 where
  l : Lexeme
  ls : List Lexeme
  matches : matching_word l.kind ≡ Some on
  is : Labels [] ls names
  reads : Reads kept always false false at text (l ∷ ls)

module _ (kept : Kept) where
  on_told : (at : ℕ) (names : List (List ℕ)) → AllByRecursion (IsFresh []) names → MatchTold kept at true names (word_with (codes " on ") names)
  on_told at names fresh =
      let found = word_told kept [] at words.On (codes "on") names on_named refl refl fresh in
      record { l = lexeme (at + 1) (kinds.Word words.On (codes "on")); ls = found.ls; matches = refl; is = found.is; reads = found.reads }

  ignoring_told : (at : ℕ) (names : List (List ℕ)) → AllByRecursion (IsFresh []) names → MatchTold kept at false names (word_with (codes " ignoring ") names)
  ignoring_told at names fresh =
      let found = word_told kept [] at words.Ignoring (codes "ignoring") names ignoring_named refl refl fresh in
      record { l = lexeme (at + 1) (kinds.Word words.Ignoring (codes "ignoring")); ls = found.ls; matches = refl; is = found.is; reads = found.reads }

  -- labels of one to one
  listed_told : (op : BinaryOp) (at : ℕ) (on : Bool) (names : List (List ℕ)) → AllByRecursion (IsFresh []) names → PairingTold kept op at (pairing_of on names OneToOne [])
  listed_told op at true names fresh =
      let found = on_told at names fresh in
      record { ls = found.l ∷ found.ls; is = GroupModifiers.listed found.l true found.matches found.is; reads = written (sym (append_nil _)) found.reads }
  listed_told op at false [] fresh = record { ls = []; is = GroupModifiers.none; reads = nothing }
  listed_told op at false (name ∷ names) fresh =
      let found = ignoring_told at (name ∷ names) fresh in
      record { ls = found.l ∷ found.ls; is = GroupModifiers.listed found.l false found.matches found.is; reads = written (sym (append_nil _)) found.reads }

  -- the group word and its labels
  record GroupTold (at : ℕ) (taken : List (List ℕ)) (card : Card) (extra : List (List ℕ)) : Type 0 where
    l : Lexeme
    ls : List Lexeme
    groups : group_word l.kind ≡ Some card
    is : Labels taken ls extra
    reads : Reads kept always false false at (group_words card extra) (l ∷ ls)

  group_told : (at : ℕ) (taken : List (List ℕ)) (card : Card) (extra : List (List ℕ)) → is_grouped card ≡ true → AllByRecursion (IsFresh taken) extra → GroupTold at taken card extra
  group_told at taken OneToOne extra grouped fresh = true_false (sym grouped)
  group_told at taken ManyLeft extra grouped fresh =
      let found = word_told kept taken at words.GroupLeft (codes "group_left") extra left_named refl refl fresh in
      record { l = lexeme (at + 1) (kinds.Word words.GroupLeft (codes "group_left")); ls = found.ls; groups = refl; is = found.is; reads = found.reads }
  group_told at taken ManyRight extra grouped fresh =
      let found = word_told kept taken at words.GroupRight (codes "group_right") extra right_named refl refl fresh in
      record { l = lexeme (at + 1) (kinds.Word words.GroupRight (codes "group_right")); ls = found.ls; groups = refl; is = found.is; reads = found.reads }

  both_told : (op : BinaryOp) (at : ℕ) (on : Bool) (names : List (List ℕ)) (card : Card) (extra : List (List ℕ)) → is_set_operator op ≡ false → is_grouped card ≡ true
      → MatchTold kept at on names (matching_words (pairing_of on names card extra)) → AllByRecursion (IsFresh (if on then names else [])) extra → PairingTold kept op at (pairing_of on names card extra)
  both_told op at on names card extra no_set grouped first fresh =
      let second = group_told (at + length (matching_words (pairing_of on names card extra))) (if on then names else []) card extra grouped fresh in
      record {
        ls = (first.l ∷ first.ls) ++ (second.l ∷ second.ls);
        is = GroupModifiers.grouped_with first.l second.l on card first.matches first.is second.groups no_set second.is refl;
        reads = joined first.reads second.reads (λ rest ok. refl);
      }

  pair_told : (op : BinaryOp) (at : ℕ) (on : Bool) (names : List (List ℕ)) (card : Card) (extra : List (List ℕ)) → is_set_operator op ≡ false → is_grouped card ≡ true
      → AllByRecursion (IsFresh []) names → AllByRecursion (IsFresh (if on then names else [])) extra → PairingTold kept op at (pairing_of on names card extra)
  pair_told op at true names card extra no_set grouped fresh more = both_told op at true names card extra no_set grouped (on_told at names fresh) more
  pair_told op at false names card extra no_set grouped fresh more =
      let text : word_with (codes " ignoring ") names ≡ matching_words (pairing_of false names card extra) =
      sym (ap (λ (t : Bool). if t then word_with (codes " ignoring ") names else []) (or_right (not (is_empty names)) (is_grouped card) grouped)) in
      both_told op at false names card extra no_set grouped (subst (MatchTold kept at false names) text (ignoring_told at names fresh)) more

  group_card : (kind : LexemeKind) (card : Card) → group_word kind ≡ Some card → is_grouped card ≡ true
  group_card (kinds.Word words.GroupLeft s) card is = subst (λ c. is_grouped c ≡ true) (same_some _ card is) refl
  group_card (kinds.Word words.GroupRight s) card is = subst (λ c. is_grouped c ≡ true) (same_some _ card is) refl
  group_card _ card is = no_some card is

  pairing_told : {op : BinaryOp} {xs : List Lexeme} {pairing : Pairing} {bare : Bool} (at : ℕ) → GroupModifiers op xs pairing bare → AreGood kept xs → PairingTold kept op at pairing
  pairing_told at GroupModifiers.none = λ good. record { ls = []; is = GroupModifiers.none; reads = nothing }
  pairing_told {op = op} at (GroupModifiers.listed {names = names} l on matches list) = λ good. listed_told op at on names (labels_good kept list good.1)
  pairing_told {op = op} at (GroupModifiers.grouped {us = us} {xs = xs} {names = names} l group on card matches list groups no_set split) =
      λ good. pair_told op at on names card [] no_set (group_card group.kind card groups) (labels_good kept list (front_good kept us (l ∷ xs) (group ∷ []) split good).1) tt
  pairing_told {op = op} at (GroupModifiers.grouped_with {us = us} {xs = xs} {ys = ys} {names = names} {extra = extra} l group on card matches list groups no_set more split) =
      λ good.
      pair_told op at on names card extra no_set (group_card group.kind card groups) (labels_good kept list (front_good kept us (l ∷ xs) (group ∷ ys) split good).1)
      (labels_good kept more (back_good kept us (l ∷ xs) (group ∷ ys) split good).1)

-- ---- operators

-- what stands behind an operator begins with a blank
abbrev pub starts_blank : List ℕ → Bool
starts_blank [] = false
starts_blank (byte ∷ bytes) = byte == 32

pub blank_ends : (p : List ℕ → Bool) → ((rest : List ℕ) → p (32 ∷ rest) ≡ true) → (rest : List ℕ) → starts_blank rest ≡ true → p rest ≡ true
blank_ends p h [] is = true_false (sym is)
blank_ends p h (b ∷ rest) is = subst (λ c. p (c ∷ rest) ≡ true) (sym (eqb-true b 32 is)) (h rest)

pub pairing_starts : (pairing : Pairing) (rest : List ℕ) → starts_blank (pairing_words pairing ++ (32 ∷ rest)) ≡ true
pairing_starts pairing rest = by pairing.on pairing.names pairing.card pairing.extra where
  by : (on : Bool) (names : List (List ℕ)) (card : Card) (extra : List (List ℕ)) → starts_blank (pairing_words (pairing_of on names card extra) ++ (32 ∷ rest)) ≡ true
  by true names card extra = refl
  by false (name ∷ names) card extra = refl
  by false [] OneToOne extra = refl
  by false [] ManyLeft extra = refl
  by false [] ManyRight extra = refl

abbrev pub sign_text : BinaryOp → List ℕ
sign_text (Arith op) = arithmetic_sign op
sign_text (Compare op) = comparison_sign op
sign_text (Set op) = set_word op

abbrev pub matching_text : Matching → List ℕ
matching_text m = (if m.flag then codes " bool" else []) ++ pairing_words m.pairing

abbrev pub op_kind : BinaryOp → LexemeKind
op_kind (Arith arith.Pow) = kinds.Sign Caret
op_kind (Arith arith.Mul) = kinds.Sign Star
op_kind (Arith arith.Div) = kinds.Sign Slash
op_kind (Arith arith.Rem) = kinds.Sign Percent
op_kind (Arith arith.Add) = kinds.Sign Plus
op_kind (Arith arith.Sub) = kinds.Sign Minus
op_kind (Compare comparison.Eq) = kinds.Sign EqualTwice
op_kind (Compare comparison.Ne) = kinds.Sign Unequal
op_kind (Compare comparison.Lt) = kinds.Sign Less
op_kind (Compare comparison.Le) = kinds.Sign LessEqual
op_kind (Compare comparison.Gt) = kinds.Sign Greater
op_kind (Compare comparison.Ge) = kinds.Sign GreaterEqual
op_kind (Set sets.And) = kinds.Word words.And (codes "and")
op_kind (Set sets.Unless) = kinds.Word words.Unless (codes "unless")
op_kind (Set sets.Or) = kinds.Word words.Or (codes "or")

module _ (kept : Kept) where
  spaced : {at : ℕ} {s : List ℕ} {ls : List Lexeme} → Reads kept always false false at s ls → Reads kept starts_blank false false at s ls
  spaced is = weaker (λ rest ok. refl) is

  signed : {at : ℕ} {s : List ℕ} {ls : List Lexeme} → Reads kept ends_sign false false at s ls → Reads kept starts_blank false false at s ls
  signed is = weaker (blank_ends ends_sign (λ rest. refl)) is

  worded : {at : ℕ} {s : List ℕ} {ls : List Lexeme} → Reads kept ends_name false false at s ls → Reads kept starts_blank false false at s ls
  worded is = weaker (blank_ends ends_name (λ rest. refl)) is

  pub sign_told : (at : ℕ) (op : BinaryOp) → Reads kept starts_blank false false at (sign_text op) (lexeme at (op_kind op) ∷ [])
  sign_told at (Arith arith.Pow) = spaced (caret_sign at)
  sign_told at (Arith arith.Mul) = spaced (star at)
  sign_told at (Arith arith.Div) = spaced (slash at)
  sign_told at (Arith arith.Rem) = spaced (percent at)
  sign_told at (Arith arith.Add) = spaced (plus_sign at)
  sign_told at (Arith arith.Sub) = spaced (minus_sign at)
  sign_told at (Compare comparison.Eq) = spaced (equal_twice at)
  sign_told at (Compare comparison.Ne) = spaced (unequal at)
  sign_told at (Compare comparison.Lt) = signed (less at)
  sign_told at (Compare comparison.Le) = spaced (less_equal at)
  sign_told at (Compare comparison.Gt) = signed (greater at)
  sign_told at (Compare comparison.Ge) = spaced (greater_equal at)
  sign_told at (Set sets.And) = worded (word at (codes "and") words.And (record { piece = λ at rest. refl; outside = refl }, refl) refl refl)
  sign_told at (Set sets.Unless) = worded (word at (codes "unless") words.Unless (record { piece = λ at rest. refl; outside = refl }, refl) refl refl)
  sign_told at (Set sets.Or) = worded (word at (codes "or") words.Or (record { piece = λ at rest. refl; outside = refl }, refl) refl refl)

abbrev level_in : Option (ℕ × BinaryOp) → ℕ
level_in None = 0
level_in (Some found) = found.0

-- the level of an operator's own sign
abbrev level_of : BinaryOp → ℕ
level_of op = level_in (operator_of (op_kind op))

own_sign : (op : BinaryOp) → operator_of (op_kind op) ≡ Some (level_of op, op)
own_sign (Arith arith.Pow) = refl
own_sign (Arith arith.Mul) = refl
own_sign (Arith arith.Div) = refl
own_sign (Arith arith.Rem) = refl
own_sign (Arith arith.Add) = refl
own_sign (Arith arith.Sub) = refl
own_sign (Compare comparison.Eq) = refl
own_sign (Compare comparison.Ne) = refl
own_sign (Compare comparison.Lt) = refl
own_sign (Compare comparison.Le) = refl
own_sign (Compare comparison.Gt) = refl
own_sign (Compare comparison.Ge) = refl
own_sign (Set sets.And) = refl
own_sign (Set sets.Unless) = refl
own_sign (Set sets.Or) = refl

abbrev HasLevel : ℕ × BinaryOp → Type 0
HasLevel found = found.0 ≡ level_of found.1

has_level : (kind : LexemeKind) (found : ℕ × BinaryOp) → operator_of kind ≡ Some found → HasLevel found
has_level (kinds.Sign Caret) found is = subst HasLevel (same_some _ found is) refl
has_level (kinds.Sign Star) found is = subst HasLevel (same_some _ found is) refl
has_level (kinds.Sign Slash) found is = subst HasLevel (same_some _ found is) refl
has_level (kinds.Sign Percent) found is = subst HasLevel (same_some _ found is) refl
has_level (kinds.Sign Plus) found is = subst HasLevel (same_some _ found is) refl
has_level (kinds.Sign Minus) found is = subst HasLevel (same_some _ found is) refl
has_level (kinds.Sign EqualTwice) found is = subst HasLevel (same_some _ found is) refl
has_level (kinds.Sign Unequal) found is = subst HasLevel (same_some _ found is) refl
has_level (kinds.Sign Less) found is = subst HasLevel (same_some _ found is) refl
has_level (kinds.Sign LessEqual) found is = subst HasLevel (same_some _ found is) refl
has_level (kinds.Sign Greater) found is = subst HasLevel (same_some _ found is) refl
has_level (kinds.Sign GreaterEqual) found is = subst HasLevel (same_some _ found is) refl
has_level (kinds.Word words.And s) found is = subst HasLevel (same_some _ found is) refl
has_level (kinds.Word words.Unless s) found is = subst HasLevel (same_some _ found is) refl
has_level (kinds.Word words.Or s) found is = subst HasLevel (same_some _ found is) refl
has_level _ found is = no_some found is

of_level_found : (level : ℕ) (o : Option (ℕ × BinaryOp)) (op : BinaryOp) → of_level level o ≡ Some op → o ≡ Some (level, op)
of_level_found level None op is = no_some op is
of_level_found level (Some (other, found)) op is = by_level (other == level) refl is where
  by_level : (t : Bool) → (other == level) ≡ t → ◌≡◌ {A = Option BinaryOp} (if t then Some found else None) (Some op) → ◌≡◌ {A = Option (ℕ × BinaryOp)} (Some (other, found)) (Some (level, op))
  by_level true same is = ap₂ (λ n f. Some (n, f)) (eqb-true other level same) (same_some found op is)
  by_level false same is = no_some op is

-- an operator's own sign is of the level at which it was read
pub same_level : (level : ℕ) (kind : LexemeKind) (op : BinaryOp) → op_of level kind ≡ Some op → op_of level (op_kind op) ≡ Some op
same_level level kind op is =
    let at : level ≡ level_of op = has_level kind (level, op) (of_level_found level (operator_of kind) op is) in
    ap (of_level level) (own_sign op) ∙ ap (λ (t : Bool). if t then Some op else None) (eq-eqb (level_of op) level (sym at))

-- ---- what stands behind an operator

pairing_begins : (pairing : Pairing) (rest : List ℕ) → starts_blank rest ≡ true → starts_blank (pairing_words pairing ++ rest) ≡ true
pairing_begins pairing [] ok = true_false (sym ok)
pairing_begins pairing (b ∷ rest) ok = subst (λ c. starts_blank (pairing_words pairing ++ (c ∷ rest)) ≡ true) (sym (eqb-true b 32 ok)) (pairing_starts pairing rest)

flag_begins : (flag : Bool) (rest : List ℕ) → starts_blank rest ≡ true → starts_blank ((if flag then codes " bool" else []) ++ rest) ≡ true
flag_begins true rest ok = refl
flag_begins false rest ok = ok

pub matching_begins : (matching : Matching) (rest : List ℕ) → starts_blank rest ≡ true → starts_blank (matching_text matching ++ rest) ≡ true
matching_begins matching rest ok =
    ap starts_blank (append_assoc (if matching.flag then codes " bool" else []) (pairing_words matching.pairing) rest)
    ∙ flag_begins matching.flag (pairing_words matching.pairing ++ rest) (pairing_begins matching.pairing rest ok)

pub record MatchingTold (kept : Kept) (op : BinaryOp) (at : ℕ) (matching : Matching) : Type 0 where
  pub ls : List Lexeme
  pub is : BinModifier op ls matching false
  pub reads : Reads kept starts_blank false false at (matching_text matching) ls
  pub fits : matching.flag ≡ true → is_comparison op ≡ true

module _ (kept : Kept) where
  flag_told : {op : BinaryOp} {xs : List Lexeme} {flag : Bool} (pairing : Pairing) (at : ℕ) → BoolModifier op xs flag → ((at : ℕ) → PairingTold kept op at pairing)
      → MatchingTold kept op at (record { flag = flag; pairing = pairing })
  flag_told pairing at BoolModifier.none pairs =
      let found = pairs at in
      record { ls = [] ++ found.ls; is = BinModifier.modifier BoolModifier.none found.is refl; reads = weaker (λ rest ok. refl) found.reads; fits = λ is. true_false (sym is) }
  flag_told pairing at (BoolModifier.flag l is compares) pairs =
      let found = pairs (at + 5) in
      let bool : Lexeme = lexeme (at + 1) (kinds.Word words.Bool (codes "bool")) in
      record {
        ls = (bool ∷ []) ++ found.ls;
        is = BinModifier.modifier (BoolModifier.flag bool (codes "bool", refl) compares) found.is refl;
        reads =
            joined (joined (blank {at = at}) (word (at + 1) (codes "bool") words.Bool bool_named refl refl) (λ rest ok. refl)) (weaker (λ rest ok. refl) found.reads)
            (λ rest ok. blank_ends ends_name (λ rest. refl) (pairing_words pairing ++ rest) (pairing_begins pairing rest ok));
        fits = λ so. compares;
      }

  pub matching_told : {op : BinaryOp} {us : List Lexeme} {matching : Matching} {bare : Bool} (at : ℕ) → BinModifier op us matching bare → AreGood kept us → MatchingTold kept op at matching
  matching_told at (BinModifier.modifier {us = us} {xs = xs} {ys = ys} {pairing = pairing} flags groups split) =
      λ good. flag_told pairing at flags (λ place. pairing_told kept place groups (back_good kept us xs ys split good))
