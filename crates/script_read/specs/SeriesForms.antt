-- The forms of series and of their items, one by one. (The promqltest format, and PromQL's selectors.)
use Rattle.std.specs.Prelude.{◌≡◌, ◌≢◌, ℕ, Bool, false, List, [], ◌∷◌, ◌++◌, length, codes, Ok, None, Some, IsTrue}
use Rattle.std.specs.List.{list_all, slice_split}
use Rattle.std.specs.Str.{is_utf8}
use Rattle.xfrac.specs.Arithmetic.{whole_number}
use Rattle.xfrac.specs.Forming.{negated}
use Rattle.xfrac.specs.declared.value.XFrac.{XFrac}
use Rattle.label_set.specs.Labels.{metric_name}
use Rattle.promql_lex.specs.Tokens.{tokens_of}
use Rattle.promql_lex.specs.declared.token.Token.{Token}
use Rattle.script_read.specs.Items.{count_spelled}
use Rattle.script_read.specs.Lines.{from_blank, is_blank, words_of}
use Rattle.script_read.specs.Quotes.{place_outside}
use Rattle.script_read.specs.Series.{LabelList, is_comma, is_sign, label_at, labels_put, opened, value_at}
use Rattle.script_read.specs.Words.{is_metric_name, number_spelled}
use Rattle.script_read.specs.declared.script.SeriesItem.{SeriesItem}
use Rattle.script_read.specs.declared.script.SeriesItem.TheVariants.{Gap, Stale, Run}

-- ---- items

-- a number, and the step behind a sign
pub data IsStep : List ℕ → XFrac → Type 0 where
  up : (spelled : List ℕ) (by : XFrac) → number_spelled spelled ≡ Ok by → IsStep (43 ∷ spelled) by
  down : (spelled : List ℕ) (by : XFrac) → number_spelled spelled ≡ Ok by → IsStep (45 ∷ spelled) (negated by)

pub data IsItem : List ℕ → SeriesItem → Type 0 where
  -- `_`
  one_gap : IsItem (codes "_") (Gap 1)
  -- `_xn`
  more_gaps : (count word : List ℕ) (n : ℕ) → count_spelled count ≡ Ok n → word ≡ codes "_x" ++ count → IsItem word (Gap n)
  -- `stale`
  stale_marker : IsItem (codes "stale") Stale
  -- a number
  number : (word : List ℕ) (a : XFrac) → number_spelled word ≡ Ok a → IsItem word (Run a (whole_number 0) 0)
  -- `axn`
  same : (first count word : List ℕ) (a : XFrac) (n : ℕ) → number_spelled first ≡ Ok a → count_spelled count ≡ Ok n
      → word ≡ first ++ (codes "x" ++ count) → IsItem word (Run a (whole_number 0) n)
  -- `a+bxn` and `a-bxn`
  stepped : (first step count word : List ℕ) (a b : XFrac) (n : ℕ) → number_spelled first ≡ Ok a → IsStep step b → count_spelled count ≡ Ok n
      → word ≡ first ++ (step ++ (codes "x" ++ count)) → IsItem word (Run a b n)

-- ---- labels in braces

-- `l="v"`, beside labels that take it
pub data IsPair (text : List ℕ) : LabelList → List Token → LabelList → Type 0 where
  pair : (labels more : LabelList) (name value : List ℕ) (label sign quoted : Token) → label_at text label ≡ Ok name → IsTrue (is_sign text 61 sign)
      → value_at quoted ≡ Ok value → labels_put labels name value ≡ Ok more → IsPair text labels (label ∷ (sign ∷ (quoted ∷ []))) more

-- the parts between commas: pairs; nothing stands behind a last comma
pub data ArePairs (text : List ℕ) : LabelList → List (List Token) → LabelList → Type 0 where
  no_pairs : (labels : LabelList) → ArePairs text labels ([] ∷ []) labels
  one_pair : (labels more : LabelList) (part : List Token) → IsPair text labels part more → ArePairs text labels (part ∷ []) more
  more_pairs : (labels more all : LabelList) (part next : List Token) (parts : List (List Token)) → IsPair text labels part more
      → ArePairs text more (next ∷ parts) all → ArePairs text labels (part ∷ (next ∷ parts)) all

-- what stands in braces: pairs, or the metric's name in quotes and then pairs
pub data AreInside (text : List ℕ) : LabelList → List (List Token) → LabelList → Type 0 where
  pairs_alone : (labels all : LabelList) (parts : List (List Token)) → ArePairs text labels parts all → AreInside text labels parts all
  name_alone : (labels all : LabelList) (name : List ℕ) (quoted : Token) → value_at quoted ≡ Ok name → labels_put labels metric_name name ≡ Ok all
      → AreInside text labels ((quoted ∷ []) ∷ []) all
  name_and_pairs : (labels more all : LabelList) (name : List ℕ) (quoted : Token) (next : List Token) (parts : List (List Token)) → value_at quoted ≡ Ok name
      → labels_put labels metric_name name ≡ Ok more → ArePairs text more (next ∷ parts) all → AreInside text labels ((quoted ∷ []) ∷ (next ∷ parts)) all

-- ---- a series

-- a bare name, or none
pub data IsNamed : List ℕ → LabelList → Type 0 where
  no_name : IsNamed [] []
  bare_name : (name : List ℕ) (labels : LabelList) → IsTrue (is_metric_name name) → labels_put [] metric_name name ≡ Ok labels → IsNamed name labels

-- `name{l="v",..}`, `{l="v",..}`, `{"name",l="v",..}` and `{}`: the braces end at the first `}` outside quotes, and no comment
-- stands in them; what does is UTF-8, since the file is
pub data IsBraced : List ℕ → LabelList → Type 0 where
  braced : (name gap inside text : List ℕ) (named labels : LabelList) → IsNamed name named → IsTrue (list_all is_blank gap)
      → place_outside 125 (inside ++ codes "}") ≡ Some (length inside) → place_outside 35 inside ≡ None → IsTrue (is_utf8 inside)
      → AreInside inside named (slice_split (is_comma inside) (tokens_of inside)) labels
      → text ≡ name ++ (gap ++ (codes "{" ++ (inside ++ codes "}"))) → IsBraced text labels

abbrev pub begins_blank : List ℕ → Bool
begins_blank [] = false
begins_blank (byte ∷ bytes) = is_blank byte

-- a series, and the words behind it, which a blank parts from it
pub data IsWorded : List ℕ → LabelList → List (List ℕ) → Type 0 where
  -- `name`, behind which no brace opens
  bare_worded : (name rest text : List ℕ) (labels : LabelList) (words : List (List ℕ)) → name ≢ [] → IsNamed name labels → IsTrue (begins_blank rest)
      → opened (from_blank rest) ≡ None → words_of rest ≡ words → text ≡ name ++ rest → IsWorded text labels words
  -- with braces
  braced_worded : (series rest text : List ℕ) (labels : LabelList) (words : List (List ℕ)) → IsBraced series labels → IsTrue (begins_blank rest)
      → words_of rest ≡ words → text ≡ series ++ rest → IsWorded text labels words
