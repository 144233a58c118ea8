-- The parts of Prometheus' grammar in which nothing nests, as productions: which lexemes, as a whole, are a part, and what it
-- stands for. Each constructor is a production, lists are left recursive, and nothing stands behind what is looked at.
use Rattle.std.specs.Prelude.{◌≡◌, ◌<◌, ℕ, ◌&&◌, Bool, true, false, not, if◌then◌else◌, List, [], ◌∷◌, ◌++◌, map, Option, Some, None, is_some, Ok}
use Rattle.std.specs.List.{list_all}
use Rattle.frac_text.specs.Times.{time_limit}
use Rattle.label_set.specs.declared.rules.Card.{Card}
use Rattle.label_set.specs.declared.rules.Card.TheVariants.{OneToOne}
use Rattle.label_set.specs.declared.rules.Grouping.{Grouping}
use Rattle.label_set.specs.declared.rules.Pairing.{Pairing}
use Rattle.label_set.specs.declared.rules.PatternId.{PatternId}
use Rattle.label_set.specs.declared.rules.Rule.{Rule}
use Rattle.label_set.specs.declared.rules.RuleKind.TheVariants.{Eq, Ne, Re as Matching, Nre}
use Rattle.promql_ast.specs.declared.tree.Fixed.{Fixed}
use Rattle.promql_ast.specs.declared.tree.Fixed.TheVariants as fixed
use Rattle.promql_parts.specs.Labels.{grouping_of, is_among, label_of}
use Rattle.promql_parts.specs.Operators.{group_word, is_comparison, is_set_operator, matching_word, no_pairing, pairing_of}
use Rattle.promql_parts.specs.Reads.{begins}
use Rattle.promql_parts.specs.Selectors.{is_empty_text, matcher_of, name_matcher, named_rules, names_twice, refuses_nothing}
use Rattle.promql_parts.specs.Spans.{amount_kind, minute, ms}
use Rattle.promql_parts.specs.declared.lexeme.Lexeme.{Lexeme}
use Rattle.promql_parts.specs.declared.lexeme.LexemeKind.{LexemeKind}
use Rattle.promql_parts.specs.declared.lexeme.LexemeKind.TheVariants as kinds
use Rattle.promql_parts.specs.declared.lexeme.Sign.{Sign}
use Rattle.promql_parts.specs.declared.lexeme.Sign.TheVariants.{LeftParen, RightParen, LeftBrace, RightBrace, LeftBracket, RightBracket, Comma, Colon, Plus, Minus, Equal, Unequal, Matches, Unmatched, AtSign}
use Rattle.promql_lex.specs.declared.word.Word.{Word}
use Rattle.promql_lex.specs.declared.word.Word.TheVariants.{By, Without, On, Ignoring, GroupLeft, GroupRight, Bool as Flag, Offset, Start, End, Atan2}
use Rattle.promql_parts.specs.declared.operator.BinaryOp.{BinaryOp}
use Rattle.promql_parts.specs.declared.operator.Matching.{Matching as Matched}
use Rattle.promql_parts.specs.declared.selector.Matcher.{Matcher}
use Rattle.ticks.specs.declared.moment.Ms.{Ms}
use Rattle.ticks.specs.Durations.{hundred_years}

abbrev pub IsSign : Sign → Lexeme → Type 0
IsSign sign l = l.kind ≡ kinds.Sign sign

-- a word, however it is spelled
abbrev pub IsWord : Word → Lexeme → Type 0
IsWord word l = (spelling : List ℕ) × (l.kind ≡ kinds.Word word spelling)

-- `grouping_label`: a name without a colon, a word or a string, which isn't empty; it is none of those that are taken
pub record IsLabel (taken : List (List ℕ)) (l : Lexeme) (label : List ℕ) : Type 0 where
  pub named : label_of l.kind ≡ Some label
  pub some : is_empty_text label ≡ false
  pub fresh : is_among taken label ≡ false

-- `grouping_label_list`
pub data LabelList (taken : List (List ℕ)) : List Lexeme → List (List ℕ) → Type 0 where
  one : (l : Lexeme) (label : List ℕ) → IsLabel taken l label → LabelList taken (l ∷ []) (label ∷ [])
  more : {us xs : List Lexeme} {labels : List (List ℕ)} (comma l : Lexeme) (label : List ℕ) → LabelList taken xs labels → IsSign Comma comma → IsLabel taken l label
      → us ≡ xs ++ comma ∷ l ∷ [] → LabelList taken us (labels ++ label ∷ [])

-- `grouping_labels`: labels in parentheses, and a last comma
pub data Labels (taken : List (List ℕ)) : List Lexeme → List (List ℕ) → Type 0 where
  none : (begin close : Lexeme) → IsSign LeftParen begin → IsSign RightParen close → Labels taken (begin ∷ close ∷ []) []
  listed : {us xs : List Lexeme} {labels : List (List ℕ)} (begin close : Lexeme) → IsSign LeftParen begin → LabelList taken xs labels → IsSign RightParen close
      → us ≡ begin ∷ xs ++ close ∷ [] → Labels taken us labels
  last_comma : {us xs : List Lexeme} {labels : List (List ℕ)} (begin comma close : Lexeme) → IsSign LeftParen begin → LabelList taken xs labels → IsSign Comma comma
      → IsSign RightParen close → us ≡ begin ∷ xs ++ comma ∷ close ∷ [] → Labels taken us labels

-- `aggregate_modifier`
pub data Grouped : List Lexeme → Grouping → Type 0 where
  by : {xs : List Lexeme} {labels : List (List ℕ)} (word : Lexeme) → IsWord By word → Labels [] xs labels → Grouped (word ∷ xs) (grouping_of false labels)
  without : {xs : List Lexeme} {labels : List (List ℕ)} (word : Lexeme) → IsWord Without word → Labels [] xs labels → Grouped (word ∷ xs) (grouping_of true labels)

-- `label_matcher`
pub data OneMatcher : List Lexeme → Matcher → Type 0 where
  equals : (l op v : Lexeme) (label text : List ℕ) → IsLabel [] l label → IsSign Equal op → v.kind ≡ kinds.Quoted text
      → OneMatcher (l ∷ op ∷ v ∷ []) (matcher_of label (Eq text) (is_empty_text text) false)
  differs : (l op v : Lexeme) (label text : List ℕ) → IsLabel [] l label → IsSign Unequal op → v.kind ≡ kinds.Quoted text
      → OneMatcher (l ∷ op ∷ v ∷ []) (matcher_of label (Ne text) (not (is_empty_text text)) false)
  passes : (l op v : Lexeme) (label : List ℕ) (id : PatternId) (passes_empty : Bool) → IsLabel [] l label → IsSign Matches op → v.kind ≡ kinds.Pattern id passes_empty
      → OneMatcher (l ∷ op ∷ v ∷ []) (matcher_of label (Matching id) passes_empty false)
  fails : (l op v : Lexeme) (label : List ℕ) (id : PatternId) (passes_empty : Bool) → IsLabel [] l label → IsSign Unmatched op → v.kind ≡ kinds.Pattern id passes_empty
      → OneMatcher (l ∷ op ∷ v ∷ []) (matcher_of label (Nre id) (not passes_empty) false)
  quoted_name : (l : Lexeme) (text : List ℕ) → l.kind ≡ kinds.Quoted text → OneMatcher (l ∷ []) (name_matcher text true)

-- `label_match_list`
pub data MatcherList : List Lexeme → List Matcher → Type 0 where
  one : {xs : List Lexeme} {m : Matcher} → OneMatcher xs m → MatcherList xs (m ∷ [])
  more : {us xs ys : List Lexeme} {matchers : List Matcher} {m : Matcher} (comma : Lexeme) → MatcherList xs matchers → IsSign Comma comma → OneMatcher ys m
      → us ≡ xs ++ comma ∷ ys → MatcherList us (matchers ++ m ∷ [])

-- `label_matchers`: rules in braces, and a last comma
pub data Matchers : List Lexeme → List Matcher → Type 0 where
  none : (begin close : Lexeme) → IsSign LeftBrace begin → IsSign RightBrace close → Matchers (begin ∷ close ∷ []) []
  listed : {us xs : List Lexeme} {matchers : List Matcher} (begin close : Lexeme) → IsSign LeftBrace begin → MatcherList xs matchers → IsSign RightBrace close
      → us ≡ begin ∷ xs ++ close ∷ [] → Matchers us matchers
  last_comma : {us xs : List Lexeme} {matchers : List Matcher} (begin comma close : Lexeme) → IsSign LeftBrace begin → MatcherList xs matchers → IsSign Comma comma
      → IsSign RightBrace close → us ≡ begin ∷ xs ++ comma ∷ close ∷ [] → Matchers us matchers

-- the rules of a selector: one of them refuses the empty text, and there aren't two names
pub record IsSelector (name : Option (List ℕ)) (matchers : List Matcher) (rules : List Rule) : Type 0 where
  pub some : (refuses_nothing name && list_all (λ m. m.passes_empty) matchers) ≡ false
  pub once : names_twice (is_some name) matchers ≡ false
  pub all : rules ≡ named_rules name ++ map (λ m. m.rule) matchers

-- `metric_identifier`: a name, or a word but those that stand behind operators
abbrev pub metric_name : LexemeKind → Option (List ℕ)
metric_name (kinds.Name name) = Some name
metric_name (kinds.Word Flag spelling) = None
metric_name (kinds.Word On spelling) = None
metric_name (kinds.Word Ignoring spelling) = None
metric_name (kinds.Word GroupLeft spelling) = None
metric_name (kinds.Word GroupRight spelling) = None
metric_name (kinds.Word Atan2 spelling) = None
metric_name (kinds.Word word spelling) = Some spelling
metric_name _ = None

-- `vector_selector`, with the place of its first byte
pub data Selected : List Lexeme → ℕ → List Rule → Type 0 where
  named : (l : Lexeme) (name : List ℕ) → metric_name l.kind ≡ Some name → Selected (l ∷ []) l.at (named_rules (Some name))
  named_braces : {xs : List Lexeme} {matchers : List Matcher} {rules : List Rule} (l : Lexeme) (name : List ℕ) → metric_name l.kind ≡ Some name → Matchers xs matchers
      → IsSelector (Some name) matchers rules → Selected (l ∷ xs) l.at rules
  braces : {xs : List Lexeme} {matchers : List Matcher} {rules : List Rule} (l : Lexeme) → Matchers (l ∷ xs) matchers → IsSelector None matchers rules
      → Selected (l ∷ xs) l.at rules

-- a duration or a number of seconds, up to a limit
abbrev pub IsAmount : ℕ → Lexeme → ℕ → Type 0
IsAmount most l n = amount_kind most l l.kind ≡ Ok n

-- `positive_duration_expr`
pub record IsLength (l : Lexeme) (length : Ms) : Type 0 where
  pub n : ℕ
  pub amount : IsAmount hundred_years l n
  pub positive : 0 < n
  pub is : length ≡ ms false n

-- the brackets of `matrix_selector`
pub data RangeBrackets : List Lexeme → Ms → Type 0 where
  range : (begin l close : Lexeme) (length : Ms) → IsSign LeftBracket begin → IsLength l length → IsSign RightBracket close → RangeBrackets (begin ∷ l ∷ close ∷ []) length

-- the brackets of `subquery_expr`; without a step it is a minute
pub data StepBrackets : List Lexeme → Ms → Ms → Type 0 where
  without_step : (begin l colon close : Lexeme) (length : Ms) → IsSign LeftBracket begin → IsLength l length → IsSign Colon colon → IsSign RightBracket close
      → StepBrackets (begin ∷ l ∷ colon ∷ close ∷ []) length minute
  with_step : (begin l colon s close : Lexeme) (length step : Ms) → IsSign LeftBracket begin → IsLength l length → IsSign Colon colon → IsLength s step
      → IsSign RightBracket close → StepBrackets (begin ∷ l ∷ colon ∷ s ∷ close ∷ []) length step

-- `signed_or_unsigned_number`
pub data Signed (most : ℕ) : List Lexeme → Ms → Type 0 where
  unsigned : (l : Lexeme) (n : ℕ) → IsAmount most l n → Signed most (l ∷ []) (ms false n)
  plus : (sign l : Lexeme) (n : ℕ) → IsSign Plus sign → IsAmount most l n → Signed most (sign ∷ l ∷ []) (ms false n)
  minus : (sign l : Lexeme) (n : ℕ) → IsSign Minus sign → IsAmount most l n → Signed most (sign ∷ l ∷ []) (ms true n)

-- what stands behind the operand in `offset_expr`
pub data OffsetBehind : List Lexeme → Ms → Type 0 where
  offset : {xs : List Lexeme} {time : Ms} (word : Lexeme) → IsWord Offset word → Signed hundred_years xs time → OffsetBehind (word ∷ xs) time

-- what stands behind the operand in `step_invariant_expr`
pub data TimeBehind : List Lexeme → Fixed → Type 0 where
  time : {xs : List Lexeme} {instant : Ms} (sign : Lexeme) → IsSign AtSign sign → Signed time_limit xs instant → TimeBehind (sign ∷ xs) (fixed.At instant)
  start : (sign word begin close : Lexeme) → IsSign AtSign sign → IsWord Start word → IsSign LeftParen begin → IsSign RightParen close
      → TimeBehind (sign ∷ word ∷ begin ∷ close ∷ []) fixed.Start
  end : (sign word begin close : Lexeme) → IsSign AtSign sign → IsWord End word → IsSign LeftParen begin → IsSign RightParen close
      → TimeBehind (sign ∷ word ∷ begin ∷ close ∷ []) fixed.End

-- `bool_modifier`: behind a comparison alone
pub data BoolModifier (op : BinaryOp) : List Lexeme → Bool → Type 0 where
  none : BoolModifier op [] false
  flag : (word : Lexeme) → IsWord Flag word → is_comparison op ≡ true → BoolModifier op (word ∷ []) true

-- `on_or_ignoring` and `group_modifiers` behind it; a group word behind no set operator, and none of its labels among those of
-- `on`. `bare`: it ends in a group word without labels, so that a parenthesis behind it would begin them.
pub data GroupModifiers (op : BinaryOp) : List Lexeme → Pairing → Bool → Type 0 where
  none : GroupModifiers op [] no_pairing false
  listed : {xs : List Lexeme} {names : List (List ℕ)} (word : Lexeme) (on : Bool) → matching_word word.kind ≡ Some on → Labels [] xs names
      → GroupModifiers op (word ∷ xs) (pairing_of on names OneToOne []) false
  grouped : {us xs : List Lexeme} {names : List (List ℕ)} (word group : Lexeme) (on : Bool) (card : Card) → matching_word word.kind ≡ Some on → Labels [] xs names
      → group_word group.kind ≡ Some card → is_set_operator op ≡ false → us ≡ word ∷ xs ++ group ∷ [] → GroupModifiers op us (pairing_of on names card []) true
  grouped_with : {us xs ys : List Lexeme} {names extra : List (List ℕ)} (word group : Lexeme) (on : Bool) (card : Card) → matching_word word.kind ≡ Some on → Labels [] xs names
      → group_word group.kind ≡ Some card → is_set_operator op ≡ false → Labels (if on then names else []) ys extra → us ≡ word ∷ xs ++ group ∷ ys
      → GroupModifiers op us (pairing_of on names card extra) false

-- a parenthesis right behind a group word begins its labels, and no operand
abbrev pub begins_labels : Bool → List Lexeme → Bool
begins_labels bare ls = bare && begins LeftParen ls

-- `bin_modifier`
pub data BinModifier (op : BinaryOp) : List Lexeme → Matched → Bool → Type 0 where
  modifier : {us xs ys : List Lexeme} {flag bare : Bool} {pairing : Pairing} → BoolModifier op xs flag → GroupModifiers op ys pairing bare → us ≡ xs ++ ys
      → BinModifier op us (record { flag = flag; pairing = pairing }) bare
