-- The canonical text of each expression of the grammar is read as an expression that is the same apart from places.
use Rattle.std.proofs.Common.{◌≡◌, ◌∙◌, ℕ, zero, suc, ◌+◌, ◌≤◌, max, ◌++◌, Bool, true, false, List, [], ◌∷◌, length, map, refl, ap, ap₂, sym, subst, append_assoc, codes, ℤ, pos, negsuc, arith}
use Rattle.std.specs.Prelude.{Option, Some, None, if◌then◌else◌, Ok, Err}
use Rattle.frac_text.specs.Times.{time_limit}
use Rattle.func_table.specs.Names.{found_of}
use Rattle.func_table.specs.Naming.{FoundNamesAreTheirs, aggregate_name, function_name}
use Rattle.func_table.specs.declared.table.Aggregate.{Aggregate}
use Rattle.func_table.specs.declared.table.Found.TheVariants as found
use Rattle.func_table.specs.declared.table.Func.{Func}
use Rattle.label_set.specs.declared.rules.Grouping.{Grouping}
use Rattle.label_set.specs.declared.rules.Rule.{Rule}
use Rattle.promql_ast.specs.Parts.{IsFixedWithin}
use Rattle.promql_ast.specs.declared.tree.Expr.{Expr}
use Rattle.promql_ast.specs.declared.tree.Fixed.{Fixed}
use Rattle.promql_ast.specs.declared.tree.Moment.{Moment}
use Rattle.promql_ast.specs.declared.tree.Node.TheVariants.{Number, Words, Paren, Negate, Subquery, Call, Aggregate as Aggregated}
use Rattle.promql_lex.specs.declared.word.Word.TheVariants.{Over}
use Rattle.promql_parse.specs.Build.{moment_of, node_of, selector_of, tree}
use Rattle.promql_parse.specs.Grammar.{ArgumentList, Body, Operand, Phrase, Primary, Term, another, a_range, a_selector, a_subquery, takes_modifiers, term_tree}
use Rattle.promql_parse.specs.Reading.{seconds_of}
use Rattle.promql_parts.specs.Labels.{no_grouping}
use Rattle.promql_parts.specs.Limits.{IsLengthWithin, OffsetsAreWithin, RangesAreWithin, StepsAreWithin, TimesAreWithin}
use Rattle.promql_parts.specs.Operators.{is_comparison, op_of}
use Rattle.promql_parts.specs.Patterned.{Kept}
use Rattle.promql_parts.specs.Steps.{no_ok, same_ok, true_false}
use Rattle.promql_parts.specs.declared.lexeme.Lexeme.{Lexeme}
use Rattle.promql_parts.specs.declared.lexeme.LexemeKind.{LexemeKind}
use Rattle.promql_parts.specs.declared.lexeme.LexemeKind.TheVariants as kinds
use Rattle.promql_parts.specs.declared.lexeme.Sign.TheVariants.{Comma, LeftParen, Minus, RightParen}
use Rattle.promql_parts.specs.declared.operator.BinaryOp.{BinaryOp}
use Rattle.promql_parts.specs.declared.operator.BinaryOp.TheVariants as ops
use Rattle.promql_parts.specs.declared.operator.Matching.{Matching}
use Rattle.promql_print.specs.Canonical.{blank as blank_if, canonical, duration_text, fixed_text, moment_text, offset_text}
use Rattle.promql_print.specs.Labels.{comma, in_parens, parted, rules_text}
use Rattle.promql_print.specs.Operators.{grouping_words, tells_grouping}
use Rattle.ticks.specs.declared.moment.Ms.{Ms}
use Rattle.promql_ast.specs.declared.refusal.QueryRefusal.TheVariants.{NumberRange}
use Rattle.ticks.specs.Durations.{hundred_years}
use Rattle.xfrac.specs.Forming.{formed}
use Rattle.xfrac.specs.Fractions.{is_within, lowest}
use Rattle.xfrac.specs.declared.value.XFrac.TheVariants.{Fin}
use Rattle.xfrac.specs.declared.value.ArithOp.TheVariants.{Pow}
use Rattle.xfrac.specs.declared.value.XFrac.{XFrac}
use Rattle.print_laws.proofs.Bytes.{ends_name}
use Rattle.print_laws.proofs.CallsRead.{aggregate_named, function_named}
use Rattle.print_laws.proofs.Goods.{AreGood, Good}
use Rattle.print_laws.proofs.Items.{append_nil}
use Rattle.print_laws.proofs.Lexed.{Reads, always, blank, joined, lexeme, weaker, written}
use Rattle.print_laws.proofs.Marks.{comma_sign, left_paren, minus_sign, name, right_paren, string, word}
use Rattle.print_laws.proofs.ModifiersRead.{IsOffsetWithin, range_told, steps_told, with_fixed, with_offset}
use Rattle.print_laws.proofs.Nodes.{aggregate_is, bare_aggregate, bare_call, bare_negate, bare_number, bare_paren, bare_range, bare_select, bare_sides, bare_subquery, bare_words, call_is, negate_is, number_is, paren_is, range_is, select_is, sides_are, subquery_is, words_are}
use Rattle.print_laws.proofs.OperatorsRead.{GroupingTold, MatchingTold, grouped_told, matching_begins, matching_text, matching_told, op_kind, same_level, sign_text, sign_told, starts_blank}
use Rattle.print_laws.proofs.Selectors.{AreGoodRules, back_good, front_good, selector_good, selector_told}
use Rattle.print_laws.proofs.Values.{IsWritten, Spelled, formed_written, number_reads}
use Rattle.print_laws.specs.Same.{unplaced}

-- what is known of lengths, offsets and times
pub record Spanned : Type 0 where
  pub ranges : RangesAreWithin
  pub steps : StepsAreWithin
  pub offsets : OffsetsAreWithin
  pub times : TimesAreWithin

-- the canonical text of an expression is told at a place as an expression that is the same apart from places
pub record Told (kept : Kept) (Is : List Lexeme → Expr → Type 0) (at : ℕ) (e : Expr) : Type 0 where
  pub ls : List Lexeme
  pub tree : Expr
  pub same : unplaced tree ≡ unplaced e
  pub is : Is ls tree
  pub reads : Reads kept ends_name false false at (canonical kept e) ls

abbrev IsPrimary : ℕ → ℕ → List Lexeme → Expr → Type 0
IsPrimary b d ls e = Primary b ls e d

abbrev pub IsPhrase : ℕ → ℕ → ℕ → List Lexeme → Expr → Type 0
IsPhrase b level d ls e = Phrase b level ls e d

-- the same for arguments
record AllTold (kept : Kept) (b d at : ℕ) (es : List Expr) : Type 0 where
  ls : List Lexeme
  trees : List Expr
  same : map unplaced trees ≡ map unplaced es
  is : ArgumentList b ls trees d
  reads : Reads kept ends_name false false at (parted false (map (canonical kept) es)) ls

record BodyTold (kept : Kept) (b d at : ℕ) (es : List Expr) : Type 0 where
  ls : List Lexeme
  trees : List Expr
  same : map unplaced trees ≡ map unplaced es
  is : Body b ls trees d
  reads : Reads kept always false false at (in_parens (map (canonical kept) es)) ls

closed : {kept : Kept} {a b : Bool} {at : ℕ} {s : List ℕ} {ls : List Lexeme} → Reads kept always a b at s ls → Reads kept ends_name a b at s ls
closed is = weaker (λ rest ok. refl) is

-- ---- a duration in a number's place

seconds_some : (at : ℕ) (d : Ms) (value : XFrac) → seconds_of at d ≡ Ok value → formed d.0 1000 ≡ Some value
seconds_some at d value is = by (is_within (lowest d.0 1000)) refl where
  by : (t : Bool) → is_within (lowest d.0 1000) ≡ t → formed d.0 1000 ≡ Some value
  by true within =
      let found : formed d.0 1000 ≡ Some (Fin (lowest d.0 1000)) = ap (λ (t : Bool). if t then Some (Fin (lowest d.0 1000)) else None) within in
      let read : seconds_of at d ≡ Ok (Fin (lowest d.0 1000)) = rw within refl in
      found ∙ ap (λ v. Some v) (same_ok _ value (sym read ∙ is))
  by false within =
      let read : seconds_of at d ≡ Err (NumberRange at) = rw within refl in
      no_ok _ value (sym read ∙ is)

duration_written : Spelled → (at : ℕ) (d : Ms) (value : XFrac) → (n : ℕ) × (d ≡ record { 0 = pos n }) × (n ≤ hundred_years) → seconds_of at d ≡ Ok value → IsWritten value
duration_written spelled at d value (n, is, within) reads =
    formed_written spelled.decimals n 1000 3 value (omega arith) refl (subst (λ (x : Ms). formed x.0 1000 ≡ Some value) is (seconds_some at d value reads))

module _ (spelled : Spelled) (alone : FoundNamesAreTheirs) (spanned : Spanned) (kept : Kept) where
  -- ---- expressions without parts

  number_told : (b at place : ℕ) (value : XFrac) → IsWritten value → Told kept (IsPrimary b 1) at (tree place (Number value))
  number_told b at place value is = record {
    ls = lexeme at (kinds.Number value) ∷ [];
    tree = tree at (Number value);
    same = bare_number at value ∙ sym (bare_number place value);
    is = Primary.number (lexeme at (kinds.Number value)) value refl;
    reads = written (sym (number_is kept place value)) (number_reads spelled at value is);
  }

  words_told : (b at place : ℕ) (text : List ℕ) → Good kept (kinds.Quoted text) → Told kept (IsPrimary b 1) at (tree place (Words text))
  words_told b at place text good = record {
    ls = lexeme at (kinds.Quoted text) ∷ [];
    tree = tree at (Words text);
    same = bare_words at text ∙ sym (bare_words place text);
    is = Primary.words (lexeme at (kinds.Quoted text)) text refl;
    reads = written (sym (words_are kept place text)) (closed (string at text good));
  }

  -- ---- expressions over others

  paren_told : (b d at place : ℕ) (e : Expr) → Told kept (IsPhrase b 5 d) (at + 1) e → Told kept (IsPrimary (suc b) (d + 1)) at (tree place (Paren e))
  paren_told b d at place e inner =
      let begin : Lexeme = lexeme at (kinds.Sign LeftParen) in
      let behind : ℕ = at + 1 + length (canonical kept e) in
      let close : Lexeme = lexeme behind (kinds.Sign RightParen) in
      record {
        ls = begin ∷ (inner.ls ++ close ∷ []);
        tree = tree at (Paren inner.tree);
        same = bare_paren at inner.tree ∙ ap (λ x. tree 0 (Paren x)) inner.same ∙ sym (bare_paren place e);
        is = Primary.paren begin close refl inner.is refl refl;
        reads = written (sym (paren_is kept place e)) (closed (joined (left_paren at) (joined inner.reads (right_paren behind) (λ rest ok. refl)) (λ rest ok. refl)));
      }

  minus_told : (b d at place : ℕ) (e : Expr) → Told kept (IsPhrase b 0 d) (at + 1) e → Told kept (IsPhrase (suc b) 0 (d + 1)) at (tree place (Negate e))
  minus_told b d at place e inner =
      let sign : Lexeme = lexeme at (kinds.Sign Minus) in
      record {
        ls = sign ∷ inner.ls;
        tree = tree at (Negate inner.tree);
        same = bare_negate at inner.tree ∙ ap (λ x. tree 0 (Negate x)) inner.same ∙ sym (bare_negate place e);
        is = Phrase.minus sign refl inner.is;
        reads = written (sym (negate_is kept place e)) (joined (minus_sign at) inner.reads (λ rest ok. refl));
      }

  call_told : (b d at place : ℕ) (f : Func) (es : List Expr) → found_of (function_name f) ≡ found.Known f → BodyTold kept b d (at + length (function_name f)) es
      → Told kept (IsPrimary (suc b) (d + 1)) at (tree place (Call f es))
  call_told b d at place f es known body =
      let l : Lexeme = lexeme at (kinds.Name (function_name f)) in
      let named = function_named f in
      record {
        ls = l ∷ body.ls;
        tree = tree at (Call f body.trees);
        same = bare_call at f body.trees ∙ ap (λ xs. tree 0 (Call f xs)) body.same ∙ sym (bare_call place f es);
        is = Primary.call l (function_name f) f refl known body.is;
        reads = written (sym (call_is kept place f es)) (closed (joined (name at (function_name f) named.0 named.1) body.reads (λ rest ok. refl)));
      }

  lone_told : (b at place : ℕ) (f : Func) → found_of (function_name f) ≡ found.Known f → Told kept (IsPrimary (suc b) 1) at (tree place (Call f []))
  lone_told b at place f known =
      let l : Lexeme = lexeme at (kinds.Name (function_name f)) in
      let behind : ℕ = at + length (function_name f) in
      let begin : Lexeme = lexeme behind (kinds.Sign LeftParen) in
      let close : Lexeme = lexeme (behind + 1) (kinds.Sign RightParen) in
      let named = function_named f in
      record {
        ls = l ∷ (begin ∷ (close ∷ []));
        tree = tree at (Call f []);
        same = bare_call at f [] ∙ sym (bare_call place f []);
        is = Primary.call_of_none l begin close (function_name f) f refl known refl refl;
        reads = written (sym (call_is kept place f [])) (closed (joined (name at (function_name f) named.0 named.1) (joined (left_paren behind) (right_paren (behind + 1)) (λ rest ok. refl)) (λ rest ok. refl)));
      }

  over_told : (at : ℕ) (f : Aggregate) → Reads kept ends_name false false at (aggregate_name f) (lexeme at (kinds.Word (Over f) (aggregate_name f)) ∷ [])
  over_told at f = let named = aggregate_named f in word at (aggregate_name f) (Over f) named.0 named.1 named.2

  whole_told : (b d at place : ℕ) (f : Aggregate) (es : List Expr) → BodyTold kept b d (at + length (aggregate_name f)) es → Told kept (IsPrimary (suc b) (d + 1)) at (tree place (Aggregated f no_grouping es))
  whole_told b d at place f es body =
      let l : Lexeme = lexeme at (kinds.Word (Over f) (aggregate_name f)) in
      record {
        ls = l ∷ body.ls;
        tree = tree at (Aggregated f no_grouping body.trees);
        same = bare_aggregate at f no_grouping body.trees ∙ ap (λ xs. tree 0 (Aggregated f no_grouping xs)) body.same ∙ sym (bare_aggregate place f no_grouping es);
        is = Primary.aggregate l f (aggregate_name f, refl) body.is;
        reads = written (sym (aggregate_is kept place f no_grouping es)) (closed (joined (over_told at f) body.reads (λ rest ok. refl)));
      }

  grouping_starts : (without : Bool) (names : List (List ℕ)) (rest : List ℕ) → tells_grouping (record { without = without; names = names }) ≡ true
      → ends_name (grouping_words (record { without = without; names = names }) ++ rest) ≡ true
  grouping_starts true names rest tells = refl
  grouping_starts false [] rest tells = true_false (sym tells)
  grouping_starts false (n ∷ names) rest tells = refl

  grouped_over : (b d at place : ℕ) (f : Aggregate) (grouping : Grouping) (es : List Expr) → GroupingTold kept (at + length (aggregate_name f)) grouping → ((behind : ℕ) → BodyTold kept b d behind es)
      → Told kept (IsPrimary (suc b) (d + 1)) at (tree place (Aggregated f grouping es))
  grouped_over b d at place f grouping es (GroupingTold.untold is) body =
      subst (λ g. Told kept (IsPrimary (suc b) (d + 1)) at (tree place (Aggregated f g es))) (sym is) (whole_told b d at place f es (body (at + length (aggregate_name f))))
  grouped_over b d at place f grouping es (GroupingTold.told ls is tells reads) body =
      let l : Lexeme = lexeme at (kinds.Word (Over f) (aggregate_name f)) in
      let inner = body (at + length (aggregate_name f) + length (grouping_words grouping) + 1) in
      let text : canonical kept (tree place (Aggregated f grouping es)) ≡ aggregate_name f ++ (grouping_words grouping ++ (codes " " ++ in_parens (map (canonical kept) es))) =
      aggregate_is kept place f grouping es ∙ ap (λ (t : Bool). aggregate_name f ++ (grouping_words grouping ++ (blank_if t ++ in_parens (map (canonical kept) es)))) tells in
      record {
        ls = l ∷ (ls ++ inner.ls);
        tree = tree at (Aggregated f grouping inner.trees);
        same = bare_aggregate at f grouping inner.trees ∙ ap (λ xs. tree 0 (Aggregated f grouping xs)) inner.same ∙ sym (bare_aggregate place f grouping es);
        is = Primary.grouped_before l f (aggregate_name f, refl) is inner.is refl;
        reads =
            written (sym text)
            (closed
            (joined (over_told at f) (joined reads (joined blank inner.reads (λ rest ok. refl)) (λ rest ok. refl))
            (λ rest ok. ap ends_name (append_assoc (grouping_words grouping) (codes " " ++ in_parens (map (canonical kept) es)) rest) ∙ grouping_starts grouping.without grouping.names _ tells)));
      }

  -- ---- arguments

  one_told : (b d at : ℕ) (e : Expr) → Told kept (IsPhrase b 5 d) at e → AllTold kept b d at (e ∷ [])
  one_told b d at e told = record {
    ls = told.ls;
    trees = told.tree ∷ [];
    same = ap (λ x. x ∷ []) told.same;
    is = ArgumentList.one told.is;
    reads = written (sym (append_nil (canonical kept e))) told.reads;
  }

  parted_more : (es : List Expr) (e : Expr) → parted true (map (canonical kept) (es ++ e ∷ [])) ≡ parted true (map (canonical kept) es) ++ (comma true ++ canonical kept e)
  parted_more [] e = ap (λ xs. comma true ++ xs) (append_nil (canonical kept e))
  parted_more (f ∷ es) e =
      ap (λ xs. comma true ++ (canonical kept f ++ xs)) (parted_more es e)
      ∙ ap (λ xs. comma true ++ xs) (sym (append_assoc (canonical kept f) (parted true (map (canonical kept) es)) (comma true ++ canonical kept e)))
      ∙ sym (append_assoc (comma true) (canonical kept f ++ parted true (map (canonical kept) es)) (comma true ++ canonical kept e))

  parted_first : (f : Expr) (es : List Expr) (e : Expr) → parted false (map (canonical kept) ((f ∷ es) ++ e ∷ [])) ≡ parted false (map (canonical kept) (f ∷ es)) ++ (comma true ++ canonical kept e)
  parted_first f es e =
      ap (λ xs. canonical kept f ++ xs) (parted_more es e) ∙ sym (append_assoc (canonical kept f) (parted true (map (canonical kept) es)) (comma true ++ canonical kept e))

  map_last : (es : List Expr) (e : Expr) → map unplaced (es ++ e ∷ []) ≡ map unplaced es ++ unplaced e ∷ []
  map_last [] e = refl
  map_last (f ∷ es) e = ap (λ xs. unplaced f ∷ xs) (map_last es e)

  more_told : (b m n at : ℕ) (f : Expr) (es : List Expr) (e : Expr) → AllTold kept b m at (f ∷ es) → ((place : ℕ) → Told kept (IsPhrase b 5 n) place e) → AllTold kept b (max m n) at ((f ∷ es) ++ e ∷ [])
  more_told b m n at f es e all one =
      let front : ℕ = at + length (parted false (map (canonical kept) (f ∷ es))) in
      let sign : Lexeme = lexeme front (kinds.Sign Comma) in
      let told = one (front + 1 + 1) in
      record {
        ls = all.ls ++ sign ∷ told.ls;
        trees = all.trees ++ told.tree ∷ [];
        same = map_last all.trees told.tree ∙ ap₂ (λ xs x. xs ++ x ∷ []) all.same told.same ∙ sym (map_last (f ∷ es) e);
        is = ArgumentList.more sign all.is refl told.is refl;
        reads = written (sym (parted_first f es e)) (joined all.reads (joined (comma_sign front) (joined blank told.reads (λ rest ok. refl)) (λ rest ok. refl)) (λ rest ok. refl));
      }

  body_of : (b d at : ℕ) (es : List Expr) → AllTold kept b d (at + 1) es → BodyTold kept b d at es
  body_of b d at es all =
      let begin : Lexeme = lexeme at (kinds.Sign LeftParen) in
      let behind : ℕ = at + 1 + length (parted false (map (canonical kept) es)) in
      let close : Lexeme = lexeme behind (kinds.Sign RightParen) in
      record {
        ls = begin ∷ (all.ls ++ close ∷ []);
        trees = all.trees;
        same = all.same;
        is = Body.body begin close refl all.is refl refl;
        reads = joined (left_paren at) (joined all.reads (right_paren behind) (λ rest ok. refl)) (λ rest ok. refl);
      }

  -- ---- operators

  -- an operator between its sides
  sides_read : (op : BinaryOp) (matching : Matching) (at place : ℕ) (l r : Expr) (ls mods rs : List Lexeme) (sign : Lexeme)
      → Reads kept ends_name false false at (canonical kept l) ls
      → Reads kept starts_blank false false (at + length (canonical kept l) + 1) (sign_text op ++ matching_text matching) (sign ∷ mods)
      → Reads kept ends_name false false (at + length (canonical kept l) + 1 + length (sign_text op ++ matching_text matching) + 1) (canonical kept r) rs
      → (matching.flag ≡ true → is_comparison op ≡ true) → Reads kept ends_name false false at (canonical kept (tree place (node_of op matching l r))) (ls ++ sign ∷ (mods ++ rs))
  sides_read op matching at place l r ls mods rs sign left middle right fits =
      written (sym (sides_are kept place op matching l r fits))
      (joined left (joined blank (joined middle (joined blank right (λ rest ok. refl)) (λ rest ok. refl)) (λ rest ok. refl)) (λ rest ok. refl))

  sign_read : (at : ℕ) (op : BinaryOp) (matching : Matching) → (told : MatchingTold kept op (at + length (sign_text op)) matching)
      → Reads kept starts_blank false false at (sign_text op ++ matching_text matching) (lexeme at (op_kind op) ∷ told.ls)
  sign_read at op matching told = joined (sign_told kept at op) told.reads (matching_begins matching)

  binary_told : (b level m n at : ℕ) (op : BinaryOp) (matching : Matching) (l r : Expr) → op_of (suc level) (op_kind op) ≡ Some op → Told kept (IsPhrase b (suc level) m) at l
      → ((place : ℕ) → MatchingTold kept op place matching) → ((place : ℕ) → Told kept (IsPhrase b level n) place r)
      → Told kept (IsPhrase b (suc level) (max m n + 1)) at (tree l.at (node_of op matching l r))
  binary_told b level m n at op matching l r known left matched right =
      let place : ℕ = at + length (canonical kept l) + 1 in
      let mods = matched (place + length (sign_text op)) in
      let other = right (place + length (sign_text op ++ matching_text matching) + 1) in
      let sign : Lexeme = lexeme place (op_kind op) in
      record {
        ls = left.ls ++ sign ∷ (mods.ls ++ other.ls);
        tree = tree left.tree.at (node_of op matching left.tree other.tree);
        same = bare_sides left.tree.at op matching left.tree other.tree ∙ ap₂ (λ x y. tree 0 (node_of op matching x y)) left.same other.same ∙ sym (bare_sides l.at op matching l r);
        is = Phrase.binary sign left.is known mods.is other.is refl refl;
        reads = sides_read op matching at l.at l r left.ls mods.ls other.ls sign left.reads (sign_read place op matching mods) other.reads mods.fits;
      }

  -- ---- operands

  -- a term that is like another one apart from places
  abbrev IsLike : Term → Term → Type 0
  IsLike (a_selector rules) other = other ≡ a_selector rules
  IsLike (a_range rules range) other = other ≡ a_range rules range
  IsLike (a_subquery e range step) other = (f : Expr) × (other ≡ a_subquery f range step) × (unplaced f ≡ unplaced e)
  IsLike (another e) other = (f : Expr) × (other ≡ another f) × (unplaced f ≡ unplaced e)

  abbrev term_text : Term → List ℕ
  term_text (a_selector rules) = rules_text kept rules
  term_text (a_range rules range) = rules_text kept rules ++ (codes "[" ++ (duration_text range ++ codes "]"))
  term_text (a_subquery e range step) = canonical kept e ++ (codes "[" ++ (duration_text range ++ (codes ":" ++ (duration_text step ++ codes "]"))))
  term_text (another e) = canonical kept e

  record BaseTold (b d at : ℕ) (term : Term) : Type 0 where
    other : Term
    place : ℕ
    ls : List Lexeme
    is : Operand b other None None ls place d
    like : IsLike term other
    reads : Reads kept ends_name false false at (term_text term) ls

  record OperandTold (b d : ℕ) (term : Term) (offset : Option Ms) (fixed : Option Fixed) : Type 0 where
    base : (at : ℕ) → BaseTold b d at term
    of_offset : IsOffsetWithin offset
    of_fixed : IsFixedWithin time_limit fixed

  -- with its modifiers
  record FullTold (b d at : ℕ) (e : Expr) : Type 0 where
    other : Term
    offset : Option Ms
    fixed : Option Fixed
    place : ℕ
    ls : List Lexeme
    is : Operand b other offset fixed ls place d
    same : unplaced (term_tree place other (moment_of offset fixed)) ≡ unplaced e
    reads : Reads kept ends_name false false at (canonical kept e) ls

  same_tree : (term other : Term) (place at : ℕ) (moment : Moment) → IsLike term other → unplaced (term_tree place other moment) ≡ unplaced (term_tree at term moment)
  same_tree (a_selector rules) other place at moment like =
      ap (λ t. unplaced (term_tree place t moment)) like ∙ bare_select place (selector_of rules moment) ∙ sym (bare_select at (selector_of rules moment))
  same_tree (a_range rules range) other place at moment like =
      ap (λ t. unplaced (term_tree place t moment)) like ∙ bare_range place (selector_of rules moment) range ∙ sym (bare_range at (selector_of rules moment) range)
  same_tree (a_subquery e range step) other place at moment (f, is, same) =
      ap (λ t. unplaced (term_tree place t moment)) is ∙ bare_subquery place f range step moment ∙ ap (λ x. tree 0 (Subquery x range step moment)) same
      ∙ sym (bare_subquery at e range step moment)
  same_tree (another e) other place at moment (f, is, same) = ap (λ t. unplaced (term_tree place t moment)) is ∙ same

  takes_is : (term other : Term) → IsLike term other → takes_modifiers term ≡ true → takes_modifiers other ≡ true
  takes_is (a_selector rules) other like takes = ap takes_modifiers like
  takes_is (a_range rules range) other like takes = ap takes_modifiers like
  takes_is (a_subquery e range step) other (f, is, same) takes = ap takes_modifiers is
  takes_is (another e) other like takes = true_false (sym takes)

  moment_is : (offset : Option Ms) (fixed : Option Fixed) → moment_text (moment_of offset fixed) ≡ fixed_text fixed ++ offset_text (moment_of offset fixed).offset.0
  moment_is None fixed = refl
  moment_is (Some by) fixed = refl

  -- the text of an operand with its modifiers
  modified : (at : ℕ) (term : Term) (moment : Moment) → takes_modifiers term ≡ true → canonical kept (term_tree at term moment) ≡ term_text term ++ moment_text moment
  modified at (a_selector rules) moment takes = select_is kept at (selector_of rules moment)
  modified at (a_range rules range) moment takes =
      range_is kept at (selector_of rules moment) range
      ∙ ap (λ xs. rules_text kept rules ++ (codes "[" ++ xs)) (sym (append_assoc (duration_text range) (codes "]") (moment_text moment)))
      ∙ sym (append_assoc (rules_text kept rules) (codes "[" ++ (duration_text range ++ codes "]")) (moment_text moment))
  modified at (a_subquery e range step) moment takes =
      subquery_is kept at e range step moment
      ∙ ap (λ xs. canonical kept e ++ (codes "[" ++ (duration_text range ++ (codes ":" ++ xs)))) (sym (append_assoc (duration_text step) (codes "]") (moment_text moment)))
      ∙ ap (λ xs. canonical kept e ++ (codes "[" ++ xs)) (sym (append_assoc (duration_text range) (codes ":" ++ (duration_text step ++ codes "]")) (moment_text moment)))
      ∙ sym (append_assoc (canonical kept e) (codes "[" ++ (duration_text range ++ (codes ":" ++ (duration_text step ++ codes "]")))) (moment_text moment))
  modified at (another e) moment takes = true_false (sym takes)

  fixed_starts : (fixed : Option Fixed) (rest : List ℕ) → ends_name rest ≡ true → ends_name (fixed_text fixed ++ rest) ≡ true
  fixed_starts None rest ok = ok
  fixed_starts (Some (Fixed.At time)) rest ok = refl
  fixed_starts (Some Fixed.Start) rest ok = refl
  fixed_starts (Some Fixed.End) rest ok = refl

  offset_starts : (z : ℤ) (rest : List ℕ) → ends_name rest ≡ true → ends_name (offset_text z ++ rest) ≡ true
  offset_starts (pos zero) rest ok = ok
  offset_starts (pos (suc n)) rest ok = refl
  offset_starts (negsuc n) rest ok = refl

  with_modifiers : (b d at place : ℕ) (term : Term) (offset : Option Ms) (fixed : Option Fixed) → takes_modifiers term ≡ true → OperandTold b d term offset fixed
      → FullTold b d at (term_tree place term (moment_of offset fixed))
  with_modifiers b d at place term offset fixed takes told =
      let base = told.base at in
      let other_takes = takes_is term base.other base.like takes in
      let behind : ℕ = at + length (term_text term) in
      let first = with_fixed spelled kept b d base.place behind base.other base.ls fixed base.is other_takes told.of_fixed in
      let second = with_offset spelled kept b d base.place (behind + length (fixed_text fixed)) base.other (base.ls ++ first.0) fixed offset first.1 other_takes told.of_offset in
      record {
        other = base.other;
        offset = second.0;
        fixed = fixed;
        place = base.place;
        ls = base.ls ++ (first.0 ++ second.1);
        is = subst (λ xs. Operand b base.other second.0 fixed xs base.place d) (append_assoc base.ls first.0 second.1) second.2;
        same = ap (λ m. unplaced (term_tree base.place base.other m)) second.3 ∙ same_tree term base.other base.place place (moment_of offset fixed) base.like;
        reads =
            written (sym (modified place term (moment_of offset fixed) takes ∙ ap (λ xs. term_text term ++ xs) (moment_is offset fixed)))
            (joined base.reads (joined first.2 second.4 (offset_starts (moment_of offset fixed).offset.0))
            (λ rest ok. ap ends_name (append_assoc (fixed_text fixed) (offset_text (moment_of offset fixed).offset.0) rest)
            ∙ fixed_starts fixed (offset_text (moment_of offset fixed).offset.0 ++ rest) (offset_starts (moment_of offset fixed).offset.0 rest ok)));
      }

  -- nothing stands behind any other operand
  without_modifiers : (b d at place : ℕ) (e : Expr) (moment : Moment) → BaseTold b d at (another e) → FullTold b d at (term_tree place (another e) moment)
  without_modifiers b d at place e moment base = record {
    other = base.other;
    offset = None;
    fixed = None;
    place = base.place;
    ls = base.ls;
    is = base.is;
    same = ap (λ t. unplaced (term_tree base.place t (moment_of None None))) base.like.1 ∙ base.like.2;
    reads = base.reads;
  }

  full_told : (b d at place : ℕ) (term : Term) (offset : Option Ms) (fixed : Option Fixed) → OperandTold b d term offset fixed → FullTold b d at (term_tree place term (moment_of offset fixed))
  full_told b d at place (a_selector rules) offset fixed told = with_modifiers b d at place (a_selector rules) offset fixed refl told
  full_told b d at place (a_range rules range) offset fixed told = with_modifiers b d at place (a_range rules range) offset fixed refl told
  full_told b d at place (a_subquery e range step) offset fixed told = with_modifiers b d at place (a_subquery e range step) offset fixed refl told
  full_told b d at place (another e) offset fixed told = without_modifiers b d at place e (moment_of offset fixed) (told.base at)

  phrase_of : (b d at : ℕ) (e : Expr) → FullTold b d at e → Told kept (IsPhrase b 0 d) at e
  phrase_of b d at e full = record { ls = full.ls; tree = term_tree full.place full.other (moment_of full.offset full.fixed); same = full.same; is = Phrase.operand full.is; reads = full.reads }

  selector_base : (b at : ℕ) (rules : List Rule) → AreGoodRules kept rules → BaseTold b 1 at (a_selector rules)
  selector_base b at rules good =
      let told = selector_told kept at rules good in
      record { other = a_selector rules; place = at; ls = told.ls; is = Operand.selector told.is; like = refl; reads = told.reads }

  primary_base : (b d at : ℕ) (e : Expr) → Told kept (IsPrimary b d) at e → BaseTold b d at (another e)
  primary_base b d at e told = record { other = another told.tree; place = told.tree.at; ls = told.ls; is = Operand.primary told.is; like = (told.tree, refl, told.same); reads = told.reads }

  range_base : (b d at : ℕ) (rules : List Rule) (range : Ms) → IsLengthWithin range → BaseTold b d at (a_selector rules) → BaseTold b d at (a_range rules range)
  range_base b d at rules range within base =
      let told = range_told spelled kept (at + length (rules_text kept rules)) range within in
      record {
        other = a_range rules range;
        place = base.place;
        ls = base.ls ++ told.0;
        is = Operand.range (subst (λ t. Operand b t None None base.ls base.place d) base.like base.is) told.1 refl;
        like = refl;
        reads = joined base.reads (closed told.2) (λ rest ok. refl);
      }

  subquery_base : (b d at : ℕ) (e : Expr) (range step : Ms) → IsLengthWithin range → IsLengthWithin step → FullTold b d at e → BaseTold b (d + 1) at (a_subquery e range step)
  subquery_base b d at e range step within step_within full =
      let told = steps_told spelled kept (at + length (canonical kept e)) range step within step_within in
      record {
        other = a_subquery (term_tree full.place full.other (moment_of full.offset full.fixed)) range step;
        place = full.place;
        ls = full.ls ++ told.0;
        is = Operand.subquery full.is told.1 refl;
        like = (term_tree full.place full.other (moment_of full.offset full.fixed), refl, full.same);
        reads = joined full.reads (closed told.2) (λ rest ok. refl);
      }

  power_told : (b m n at place : ℕ) (matching : Matching) (l r : Expr) → FullTold (suc b) m at l → ((place : ℕ) → MatchingTold kept (ops.Arith Pow) place matching)
      → ((place : ℕ) → Told kept (IsPhrase b 0 n) place r) → Told kept (IsPhrase (suc b) 0 (max m n + 1)) at (tree place (node_of (ops.Arith Pow) matching l r))
  power_told b m n at place matching l r left matched right =
      let op : BinaryOp = ops.Arith Pow in
      let behind : ℕ = at + length (canonical kept l) + 1 in
      let mods = matched (behind + length (sign_text op)) in
      let other = right (behind + length (sign_text op ++ matching_text matching) + 1) in
      let sign : Lexeme = lexeme behind (op_kind op) in
      let first : Expr = term_tree left.place left.other (moment_of left.offset left.fixed) in
      record {
        ls = left.ls ++ sign ∷ (mods.ls ++ other.ls);
        tree = tree left.place (node_of op matching first other.tree);
        same = bare_sides left.place op matching first other.tree ∙ ap₂ (λ x y. tree 0 (node_of op matching x y)) left.same other.same ∙ sym (bare_sides place op matching l r);
        is = Phrase.power sign left.is refl mods.is other.is refl refl;
        reads = sides_read op matching at place l r left.ls mods.ls other.ls sign left.reads (sign_read behind op matching mods) other.reads mods.fits;
      }

  -- ---- lexemes of a production

  abbrev Has : Lexeme → Type 0
  Has l = Good kept l.kind

  inside : (us xs : List Lexeme) (begin close : Lexeme) → us ≡ begin ∷ xs ++ close ∷ [] → AreGood kept us → AreGood kept xs
  inside us xs begin close split good = front_good kept (xs ++ close ∷ []) xs (close ∷ []) refl (subst (AreGood kept) split good).1

  modifiers_of : (us xs ys zs : List Lexeme) (sign : Lexeme) → us ≡ xs ++ sign ∷ (ys ++ zs) → AreGood kept us → AreGood kept ys
  modifiers_of us xs ys zs sign split good = front_good kept (ys ++ zs) ys zs refl (back_good kept us xs (sign ∷ (ys ++ zs)) split good).1

  right_side : (us xs ys zs : List Lexeme) (sign : Lexeme) → us ≡ xs ++ sign ∷ (ys ++ zs) → AreGood kept us → AreGood kept zs
  right_side us xs ys zs sign split good = back_good kept (ys ++ zs) ys zs refl (back_good kept us xs (sign ∷ (ys ++ zs)) split good).1

  good_as : (l : Lexeme) (kind : LexemeKind) → l.kind ≡ kind → Has l → Good kept kind
  good_as l kind is good = subst (Good kept) is good

  named_known : (name_read : List ℕ) (f : Func) → found_of name_read ≡ found.Known f → found_of (function_name f) ≡ found.Known f
  named_known name_read f known = subst (λ s. found_of s ≡ found.Known f) (alone name_read f known) known

  some_arguments : {b d : ℕ} {xs : List Lexeme} {es : List Expr} → ArgumentList b xs es d → (f : Expr) × (more : List Expr) × (es ≡ f ∷ more)
  some_arguments (ArgumentList.one {e = e} p) = (e, [], refl)
  some_arguments (ArgumentList.more {e = e} sign list comma p split) =
      let found = some_arguments list in (found.0, found.1 ++ e ∷ [], ap (λ xs. xs ++ e ∷ []) found.2)

  more_of : (b m n at : ℕ) (es : List Expr) (e : Expr) → (f : Expr) × (more : List Expr) × (es ≡ f ∷ more) → AllTold kept b m at es → ((place : ℕ) → Told kept (IsPhrase b 5 n) place e)
      → AllTold kept b (max m n) at (es ++ e ∷ [])
  more_of b m n at es e (f, more, is) all one =
      subst (λ xs. AllTold kept b (max m n) at (xs ++ e ∷ [])) (sym is) (more_told b m n at f more e (subst (λ xs. AllTold kept b m at xs) is all) one)

  loosened : (b d at : ℕ) (e : Expr) → Told kept (IsPhrase b 0 d) at e → Told kept (IsPhrase b 5 d) at e
  loosened b d at e told = record { ls = told.ls; tree = told.tree; same = told.same; is = Phrase.tighter (Phrase.tighter (Phrase.tighter (Phrase.tighter (Phrase.tighter told.is)))); reads = told.reads }

  primary_phrase : (b d at : ℕ) (e : Expr) → Told kept (IsPrimary b d) at e → Told kept (IsPhrase b 0 d) at e
  primary_phrase b d at e told = record { ls = told.ls; tree = told.tree; same = told.same; is = Phrase.operand (Operand.primary told.is); reads = told.reads }

  tighter_told : (b level d at : ℕ) (e : Expr) → Told kept (IsPhrase b level d) at e → Told kept (IsPhrase b (suc level) d) at e
  tighter_told b level d at e told = record { ls = told.ls; tree = told.tree; same = told.same; is = Phrase.tighter told.is; reads = told.reads }

  -- ---- productions

  mutual
    primary_told : {b d : ℕ} {xs : List Lexeme} {e : Expr} → Primary b xs e d → AreGood kept xs → (at : ℕ) → Told kept (IsPrimary b d) at e
    primary_told (Primary.number {b = b} l value is) = λ good at. number_told b at l.at value (good_as l (kinds.Number value) is good.0)
    primary_told (Primary.duration {b = b} l duration value is so) = λ good at. number_told b at l.at value (duration_written spelled l.at duration value (good_as l (kinds.Duration duration) is good.0) so)
    primary_told (Primary.words {b = b} l text is) = λ good at. words_told b at l.at text (good_as l (kinds.Quoted text) is good.0)
    primary_told (Primary.paren {b = b} {d = d} {us = us} {xs = xs} {e = e} begin close opens p closes split) =
        λ good at. paren_told b d at begin.at e (phrase_told p (inside us xs begin close split good) (at + 1))
    primary_told (Primary.call {b = b} {d = d} {es = es} l name_read f is known inner) =
        λ good at. call_told b d at l.at f es (named_known name_read f known) (body_told inner good.1 (at + length (function_name f)))
    primary_told (Primary.call_of_none {b = b} l begin close name_read f is known opens closes) = λ good at. lone_told b at l.at f (named_known name_read f known)
    primary_told (Primary.aggregate {b = b} {d = d} {es = es} l f is inner) = λ good at. whole_told b d at l.at f es (body_told inner good.1 (at + length (aggregate_name f)))
    primary_told (Primary.grouped_before {b = b} {d = d} {us = us} {xs = xs} {ys = ys} {es = es} {grouping = grouping} l f word_is is inner split) =
        λ good at. grouped_over b d at l.at f grouping es (grouped_told kept (at + length (aggregate_name f)) is (front_good kept us (l ∷ xs) ys split good).1)
        (body_told inner (back_good kept us (l ∷ xs) ys split good))
    primary_told (Primary.grouped_behind {b = b} {d = d} {us = us} {xs = xs} {ys = ys} {es = es} {grouping = grouping} l f word_is inner is split) =
        λ good at. grouped_over b d at l.at f grouping es (grouped_told kept (at + length (aggregate_name f)) is (back_good kept us (l ∷ xs) ys split good))
        (body_told inner (front_good kept us (l ∷ xs) ys split good).1)

    body_told : {b d : ℕ} {us : List Lexeme} {es : List Expr} → Body b us es d → AreGood kept us → (at : ℕ) → BodyTold kept b d at es
    body_told (Body.body {b = b} {d = d} {us = us} {xs = xs} {es = es} begin close opens list closes split) =
        λ good at. body_of b d at es (arguments_told list (inside us xs begin close split good) (at + 1))

    arguments_told : {b d : ℕ} {xs : List Lexeme} {es : List Expr} → ArgumentList b xs es d → AreGood kept xs → (at : ℕ) → AllTold kept b d at es
    arguments_told (ArgumentList.one {b = b} {d = d} {e = e} p) = λ good at. one_told b d at e (phrase_told p good at)
    arguments_told (ArgumentList.more {b = b} {m = m} {n = n} {us = us} {xs = xs} {ys = ys} {es = es} {e = e} sign list comma p split) =
        λ good at. more_of b m n at es e (some_arguments list) (arguments_told list (front_good kept us xs (sign ∷ ys) split good) at)
        (phrase_told p (back_good kept us xs (sign ∷ ys) split good).1)

    operand_told : {b at d : ℕ} {term : Term} {offset : Option Ms} {fixed : Option Fixed} {xs : List Lexeme} → Operand b term offset fixed xs at d → AreGood kept xs → OperandTold b d term offset fixed
    operand_told (Operand.selector {b = b} {rules = rules} is) = λ good. record { base = λ at. selector_base b at rules (selector_good kept is good); of_offset = tt; of_fixed = tt }
    operand_told (Operand.primary {b = b} {d = d} {e = e} p) = λ good. record { base = λ at. primary_base b d at e (primary_told p good at); of_offset = tt; of_fixed = tt }
    operand_told (Operand.range {b = b} {d = d} {us = us} {xs = xs} {ys = ys} {rules = rules} {length = range} p brackets split) =
        λ good. let told = operand_told p (front_good kept us xs ys split good) in
        record { base = λ at. range_base b d at rules range (spanned.ranges ys range brackets) (told.base at); of_offset = tt; of_fixed = tt }
    operand_told (Operand.subquery {b = b} {at = place} {d = d} {term = term} {offset = offset} {fixed = fixed} {us = us} {xs = xs} {ys = ys} {length = range} {step = step} p brackets split) =
        λ good. let told = operand_told p (front_good kept us xs ys split good) in
        let within = spanned.steps ys range step brackets in
        record {
          base = λ at. subquery_base b d at (term_tree place term (moment_of offset fixed)) range step within.0 within.1 (full_told b d at place term offset fixed told);
          of_offset = tt;
          of_fixed = tt;
        }
    operand_told (Operand.offset {us = us} {xs = xs} {ys = ys} {by = by} p takes behind split) =
        λ good. let told = operand_told p (front_good kept us xs ys split good) in record { base = told.base; of_offset = spanned.offsets ys by behind; of_fixed = told.of_fixed }
    operand_told (Operand.time {us = us} {xs = xs} {ys = ys} {fixed = fixed} p takes behind split) =
        λ good. let told = operand_told p (front_good kept us xs ys split good) in record { base = told.base; of_offset = told.of_offset; of_fixed = spanned.times ys fixed behind }

    pub phrase_told : {b level d : ℕ} {xs : List Lexeme} {e : Expr} → Phrase b level xs e d → AreGood kept xs → (at : ℕ) → Told kept (IsPhrase b level d) at e
    phrase_told (Phrase.operand {b = b} {at = place} {d = d} {term = term} {offset = offset} {fixed = fixed} p) =
        λ good at. phrase_of b d at (term_tree place term (moment_of offset fixed)) (full_told b d at place term offset fixed (operand_told p good))
    phrase_told (Phrase.power {b = b} {at = place} {m = m} {n = n} {term = term} {offset = offset} {fixed = fixed} {us = us} {xs = xs} {ys = ys} {zs = zs} {r = r} {matching = matching} caret p is between q apart split) =
        λ good at. power_told b m n at place matching (term_tree place term (moment_of offset fixed)) r
        (full_told (suc b) m at place term offset fixed (operand_told p (front_good kept us xs (caret ∷ (ys ++ zs)) split good)))
        (λ behind. matching_told kept behind between (modifiers_of us xs ys zs caret split good)) (phrase_told q (right_side us xs ys zs caret split good))
    phrase_told (Phrase.minus {b = b} {d = d} {e = e} sign is p) = λ good at. minus_told b d at sign.at e (phrase_told p good.1 (at + 1))
    phrase_told (Phrase.plus {b = b} {d = d} {e = e} sign is p) =
        λ good at. primary_phrase (suc b) (d + 1) at (tree sign.at (Paren e)) (paren_told b d at sign.at e (loosened b d (at + 1) e (phrase_told p good.1 (at + 1))))
    phrase_told (Phrase.tighter {b = b} {level = level} {d = d} {e = e} p) = λ good at. tighter_told b level d at e (phrase_told p good at)
    phrase_told (Phrase.binary {b = b} {level = level} {m = m} {n = n} {us = us} {xs = xs} {ys = ys} {zs = zs} {op = op} {l = l} {r = r} {matching = matching} sign p is between q apart split) =
        λ good at. binary_told b level m n at op matching l r (same_level (suc level) sign.kind op is) (phrase_told p (front_good kept us xs (sign ∷ (ys ++ zs)) split good) at)
        (λ behind. matching_told kept behind between (modifiers_of us xs ys zs sign split good)) (phrase_told q (right_side us xs ys zs sign split good))
