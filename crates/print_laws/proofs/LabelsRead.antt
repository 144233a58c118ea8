-- The texts of labels and of lists of them are read as they are.
use Rattle.std.proofs.Common.{◌≡◌, ℕ, ◌+◌, ◌++◌, Bool, true, false, not, List, [], ◌∷◌, length, map, refl, ap, sym, codes}
use Rattle.std.specs.Prelude.{◌&&◌, ◌||◌, ◌==◌, if◌then◌else◌, Option, Some, None, is_some}
use Rattle.std.specs.Char.{is_ascii_digit}
use Rattle.std.specs.Int.{is_in_range}
use Rattle.std.specs.List.{AllByRecursion, list_all}
use Rattle.frac_text.specs.Readings.{is_word}
use Rattle.label_set.specs.LabelText.{is_label_name, is_metric_name, is_name, is_name_byte, quoted}
use Rattle.promql_lex.specs.Names.{continues_name, is_query_word, name_kind, starts_name}
use Rattle.promql_lex.specs.Words.{word_of}
use Rattle.promql_lex.specs.declared.token.TokenKind.TheVariants as tokens
use Rattle.promql_lex.specs.declared.word.Word.{Word}
use Rattle.promql_parts.specs.Labels.{has_colon, is_among, label_of}
use Rattle.promql_parts.specs.Patterned.{Kept}
use Rattle.promql_parts.specs.Productions.{IsLabel, LabelList, Labels}
use Rattle.promql_parts.specs.Steps.{true_false}
use Rattle.promql_parts.specs.declared.lexeme.Lexeme.{Lexeme}
use Rattle.promql_parts.specs.declared.lexeme.LexemeKind.{LexemeKind}
use Rattle.promql_parts.specs.declared.lexeme.LexemeKind.TheVariants as kinds
use Rattle.promql_parts.specs.declared.lexeme.Sign.TheVariants.{LeftParen, RightParen}
use Rattle.promql_print.specs.Labels.{is_bare_name, is_number_word, label_text, labels_text, parted}
use Rattle.print_laws.proofs.Bytes.{BeginsName, IsNamed, and_both, and_first, and_second, differs, ends_name, not_true, or_either, or_first, or_left, or_right, or_second}
use Rattle.print_laws.proofs.Goods.{IsSome}
use Rattle.print_laws.proofs.Items.{ItemTold, list_told}
use Rattle.print_laws.proofs.Lexed.{Reads, always, joined, lexeme, weaker}
use Rattle.print_laws.proofs.Marks.{left_paren, name, right_paren, string, word}

-- ---- bytes of names

continues : (colon : Bool) (b : ℕ) → is_name_byte colon b ≡ true → continues_name false b ≡ true
continues colon b h =
    let d = is_in_range 48 57 b in
    let u = is_in_range 65 90 b in
    let l = is_in_range 97 122 b in
    let none = b == 95 || (b == 58 && true) in
    or_either (((l || u) || d) || b == 95) (colon && b == 58) h
    (λ more. or_either ((l || u) || d) (b == 95) more
    (λ more. or_either (l || u) d more
    (λ more. or_either l u more (λ e. or_left ((d || u) || l) none (or_right (d || u) l e)) (λ e. or_left ((d || u) || l) none (or_left (d || u) l (or_right d u e))))
    (λ e. or_left ((d || u) || l) none (or_left (d || u) l (or_left d u e))))
    (λ e. or_right ((d || u) || l) none (or_left (b == 95) (b == 58 && true) e)))
    (λ e. or_right ((d || u) || l) none (or_right (b == 95) (b == 58 && true) (and_both (b == 58) true (and_second colon (b == 58) e) refl)))

continue_all : (colon : Bool) (s : List ℕ) → list_all (is_name_byte colon) s ≡ true → list_all (continues_name false) s ≡ true
continue_all colon [] all = refl
continue_all colon (b ∷ s) all =
    and_both (continues_name false b) _ (continues colon b (and_first (is_name_byte colon b) _ all)) (continue_all colon s (and_second (is_name_byte colon b) _ all))

starts : (d u l x : Bool) → d ≡ false → (((d || u) || l) || x) ≡ true → ((u || l) || x) ≡ true
starts true u l x none h = true_false none
starts false u l x none h = h

pub begins_name : (b : ℕ) → continues_name false b ≡ true → is_ascii_digit b ≡ false → BeginsName b
begins_name b goes digit =
    let no : (other : ℕ) → continues_name false other ≡ false → (b == other) ≡ false = λ other fails. differs (continues_name false) b other goes fails in
    let first : starts_name false b ≡ true = starts (is_in_range 48 57 b) (is_in_range 65 90 b) (is_in_range 97 122 b) (b == 95 || (b == 58 && true)) digit goes in
    record {
      piece = λ at rest. rw (no 32 refl, no 9 refl, no 13 refl, no 10 refl, no 35 refl, no 34 refl, no 39 refl, no 96 refl, digit, no 46 refl, first) refl;
      outside = rw (no 91 refl, no 93 refl) refl;
    }

named : (colon : Bool) (s : List ℕ) → is_name colon s ≡ true → IsNamed s
named colon [] is = true_false (sym is)
named colon (b ∷ s) is =
    let all = continue_all colon (b ∷ s) (and_second _ (list_all (is_name_byte colon) (b ∷ s)) is) in
    (begins_name b (and_first (continues_name false b) _ all) (not_true _ (and_first _ (list_all (is_name_byte colon) (b ∷ s)) is)), all)

no_colon_byte : (b : ℕ) → is_name_byte false b ≡ true → (b == 58) ≡ false
no_colon_byte b h = differs (is_name_byte false) b 58 h refl

no_colon : (s : List ℕ) → list_all (is_name_byte false) s ≡ true → has_colon s ≡ false
no_colon [] all = refl
no_colon (b ∷ s) all = rw (no_colon_byte b (and_first (is_name_byte false b) _ all)) (no_colon s (and_second (is_name_byte false b) _ all))

label_bytes : (s : List ℕ) → is_label_name s ≡ true → has_colon s ≡ false
label_bytes [] is = refl
label_bytes (b ∷ s) is = no_colon (b ∷ s) (and_second _ (list_all (is_name_byte false) (b ∷ s)) is)

-- ---- one label

kind_is : (s : List ℕ) (t : Bool) → is_number_word s ≡ false → is_query_word s ≡ t → name_kind s ≡ (if t then tokens.Word else tokens.Name)
kind_is s t no_number is = rw (or_first (is_word s (codes "inf")) _ no_number, or_second (is_word s (codes "inf")) _ no_number, is) refl

word_there : (o : Option Word) → is_some o ≡ true → (w : Word) × (o ≡ Some w)
word_there None h = true_false (sym h)
word_there (Some w) h = (w, refl)

pub record LabelTold (kept : Kept) (at : ℕ) (label : List ℕ) : Type 0 where
  pub kind : LexemeKind
  pub is : label_of kind ≡ Some label
  pub reads : Reads kept ends_name false false at (label_text label) (lexeme at kind ∷ [])

module _ {kept : Kept} where
  bare_told : (at : ℕ) (label : List ℕ) (t : Bool) → is_label_name label ≡ true → is_number_word label ≡ false → is_query_word label ≡ t
      → (kind : LexemeKind) × (label_of kind ≡ Some label) × Reads kept ends_name false false at label (lexeme at kind ∷ [])
  bare_told at label true is no_number is_word_too =
      let w = word_there (word_of label) is_word_too in
      (kinds.Word w.0 label, refl, word at label w.0 (named false label is) (kind_is label true no_number is_word_too) w.1)
  bare_told at label false is no_number no_word =
      (kinds.Name label, ap (λ (t : Bool). if t then None else Some label) (label_bytes label is), name at label (named false label is) (kind_is label false no_number no_word))

  label_if : (at : ℕ) (label : List ℕ) (t : Bool) → IsSome label → (is_label_name label && not (is_number_word label)) ≡ t
      → (kind : LexemeKind) × (label_of kind ≡ Some label) × Reads kept ends_name false false at (if t then label else quoted label) (lexeme at kind ∷ [])
  label_if at label true some is =
      bare_told at label (is_query_word label) (and_first (is_label_name label) _ is) (not_true (is_number_word label) (and_second (is_label_name label) _ is)) refl
  label_if at label false some is = (kinds.Quoted label, refl, weaker (λ rest ok. refl) (string at label some.0))

  pub label_told : (at : ℕ) (label : List ℕ) → IsSome label → LabelTold kept at label
  label_told at label some =
      let told = label_if at label (is_label_name label && not (is_number_word label)) some refl in
      record { kind = told.0; is = told.1; reads = told.2 }

  -- a metric's name before the braces
  pub bare_name : (at : ℕ) (s : List ℕ) → is_bare_name s ≡ true → Reads kept ends_name false false at s (lexeme at (kinds.Name s) ∷ [])
  bare_name at s is =
      let neither = not_true (is_number_word s || is_query_word s) (and_second (is_metric_name s) _ is) in
      name at s (named true s (and_first (is_metric_name s) _ is)) (kind_is s false (or_first (is_number_word s) _ neither) (or_second (is_number_word s) _ neither))

-- ---- lists of labels

abbrev pub IsFresh : List (List ℕ) → List ℕ → Type 0
IsFresh taken label = IsSome label × (is_among taken label ≡ false)

pub record LabelsTold (kept : Kept) (taken : List (List ℕ)) (at : ℕ) (labels : List (List ℕ)) : Type 0 where
  pub ls : List Lexeme
  pub is : Labels taken ls labels
  pub reads : Reads kept always false false at (labels_text labels) ls

module _ {kept : Kept} where
  item_told : (taken : List (List ℕ)) (at : ℕ) (label : List ℕ) → IsFresh taken label → ItemTold kept (LabelList taken) label_text at label
  item_told taken at label fresh =
      let told = label_told at label fresh.0 in
      let l : Lexeme = lexeme at told.kind in
      let is : IsLabel taken l label = record { named = told.is; some = fresh.0.1; fresh = fresh.1 } in
      record { ls = l ∷ []; reads = told.reads; alone = LabelList.one l label is; behind = λ sign comma xs labels list. LabelList.more sign l label list comma is refl }

  pub labels_told : (taken : List (List ℕ)) (at : ℕ) (labels : List (List ℕ)) → AllByRecursion (IsFresh taken) labels → LabelsTold kept taken at labels
  labels_told taken at [] fresh = record {
    ls = lexeme at (kinds.Sign LeftParen) ∷ (lexeme (at + 1) (kinds.Sign RightParen) ∷ []);
    is = Labels.none (lexeme at (kinds.Sign LeftParen)) (lexeme (at + 1) (kinds.Sign RightParen)) refl refl;
    reads = joined (left_paren at) (right_paren (at + 1)) (λ rest ok. refl);
  }
  labels_told taken at (label ∷ labels) fresh =
      let told = list_told (LabelList taken) label_text (IsFresh taken) (item_told taken) (at + 1) label labels fresh.0 fresh.1 in
      let begin : Lexeme = lexeme at (kinds.Sign LeftParen) in
      let place : ℕ = at + 1 + length (parted false (map label_text (label ∷ labels))) in
      let close : Lexeme = lexeme place (kinds.Sign RightParen) in
      record {
        ls = begin ∷ (told.ls ++ close ∷ []);
        is = Labels.listed begin close refl told.is refl refl;
        reads = joined (left_paren at) (joined told.reads (right_paren place) (λ rest ok. refl)) (λ rest ok. refl);
      }
