-- Series as a script writes them: `name`, `name{l="v",..}`, `{l="v",..}`, `{"name",l="v",..}` or `{}`. What stands in braces
-- are tokens of the query language, so that strings are as there. (The promqltest format, and PromQL's selectors.)
use Rattle.std.specs.Prelude.{ℕ, ◌+◌, ◌-◌, Bool, true, false, if◌then◌else◌, ◌==◌, not, List, [], ◌∷◌, take, drop, bytes_eq, Option, None, Some, Result, Ok, Err, take_while}
use Rattle.std.specs.List.{list_all, prefix_len, slice_split}
use Rattle.label_set.specs.Labels.{metric_name, put_refusal, with_pair}
use Rattle.label_set.specs.declared.labels.LabelRefusal.{LabelRefusal}
use Rattle.promql_lex.specs.Tokens.{tokens_of}
use Rattle.promql_lex.specs.declared.token.Token.{Token}
use Rattle.promql_lex.specs.declared.token.TokenKind.{TokenKind}
use Rattle.promql_lex.specs.declared.token.TokenKind.TheVariants.{Name, Word, Quoted, Sign}
use Rattle.script_read.specs.Lines.{from_blank, is_empty}
use Rattle.script_read.specs.Outcomes.{then_give, then_try}
use Rattle.script_read.specs.Quotes.{before_place, place_outside, without_comment}
use Rattle.script_read.specs.Words.{continues_name, is_metric_name, text_told}
use Rattle.script_read.specs.declared.fault.LineFault.{LineFault}
use Rattle.script_read.specs.declared.fault.LineFault.TheVariants.{Malformed, BadLabels}

-- labels: pairs of a name and a value
abbrev pub LabelList : Type 0
LabelList = List (List ℕ × List ℕ)

-- ---- tokens

-- the bytes of a token
abbrev pub spelling : List ℕ → Token → List ℕ
spelling text t = take (t.end - t.at) (drop t.at text)

-- a sign of one byte
abbrev pub is_sign_spelled : TokenKind → ℕ → List ℕ → Bool
is_sign_spelled Sign byte spelled = bytes_eq spelled (byte ∷ [])
is_sign_spelled _ byte spelled = false

abbrev pub is_sign : List ℕ → ℕ → Token → Bool
is_sign text byte t = is_sign_spelled t.kind byte (spelling text t)

abbrev pub is_comma : List ℕ → Token → Bool
is_comma text t = is_sign text 44 t

-- the name of a label: a name without a colon, a word, or a quoted name
abbrev pub label_named : TokenKind → List ℕ → Result (List ℕ) LineFault
label_named (Quoted name) spelled = Ok name
label_named Word spelled = text_told spelled
label_named Name spelled = if list_all (λ byte. not (byte == 58)) spelled then text_told spelled else Err Malformed
label_named _ spelled = Err Malformed

abbrev pub label_at : List ℕ → Token → Result (List ℕ) LineFault
label_at text t = label_named t.kind (spelling text t)

-- what a quoted value stands for
abbrev pub value_quoted : TokenKind → Result (List ℕ) LineFault
value_quoted (Quoted value) = Ok value
value_quoted _ = Err Malformed

abbrev pub value_at : Token → Result (List ℕ) LineFault
value_at t = value_quoted t.kind

-- ---- labels in braces

-- labels with one more pair, unless they refuse it
abbrev pub put_unless : Option LabelRefusal → LabelList → Result LabelList LineFault
put_unless None labels = Ok labels
put_unless (Some refusal) labels = Err BadLabels

abbrev pub labels_put : LabelList → List ℕ → List ℕ → Result LabelList LineFault
labels_put labels name value = put_unless (put_refusal labels name value) (with_pair labels name value)

-- nothing stands behind
abbrev pub if_last : {X : Type 0} → List Token → X → Result X LineFault
if_last [] x = Ok x
if_last (t ∷ ts) x = Err Malformed

-- a label, `=` and a value, and nothing behind them: a label that is refused comes before what stands behind it
abbrev pub pair_put : List ℕ → LabelList → List Token → Result LabelList LineFault
pair_put text labels (label ∷ (sign ∷ (value ∷ rest))) = then_try (label_at text label) (λ name.
    if is_sign text 61 sign then then_try (value_at value) (λ worth. then_try (labels_put labels name worth) (if_last rest)) else Err Malformed)
pair_put text labels _ = Err Malformed

-- what a part of the braces says: a pair, or in the first one the metric's name in quotes
abbrev pub part_put : List ℕ → Bool → LabelList → List Token → Result LabelList LineFault
part_put text first labels (name ∷ []) = if first then then_try (value_at name) (labels_put labels metric_name) else Err Malformed
part_put text first labels part = pair_put text labels part

-- parts without the last one, where nothing stands there: a last comma is taken, and so are empty braces
abbrev pub without_empty_end : List (List Token) → List (List Token)
without_empty_end [] = []
without_empty_end (part ∷ []) = if is_empty part then [] else part ∷ []
without_empty_end (part ∷ (next ∷ parts)) = part ∷ without_empty_end (next ∷ parts)

-- labels with what each part says
abbrev pub labels_with : List ℕ → Bool → LabelList → List (List Token) → Result LabelList LineFault
labels_with text first labels [] = Ok labels
labels_with text first labels (part ∷ parts) = then_try (part_put text first labels part) (λ more. labels_with text false more parts)

-- ---- a series

-- the bytes of a name at the front of a text, and what stands behind them
abbrev pub name_front : List ℕ → List ℕ
name_front text = take_while continues_name text

abbrev pub behind_name : List ℕ → List ℕ
behind_name text = drop (prefix_len continues_name text) text

-- the labels of a metric's name; there are none where there is no name
abbrev pub labels_named : List ℕ → Result LabelList LineFault
labels_named [] = Ok []
labels_named (first ∷ rest) = if is_metric_name (first ∷ rest) then labels_put [] metric_name (first ∷ rest) else Err Malformed

-- the labels of a name and of what stands in braces, whose tokens are parted by commas
abbrev pub labels_inside : List ℕ → List ℕ → Result LabelList LineFault
labels_inside name inside = then_try (labels_named name) (λ named. then_try (text_told inside) (λ text.
    labels_with text true named (without_empty_end (slice_split (is_comma text) (tokens_of text)))))

-- a series, and the text behind it
abbrev pub Series : Type 0
Series = LabelList × List ℕ

-- braces end where they are closed
abbrev pub closed_at : Option ℕ → List ℕ → LabelList → Result Series LineFault
closed_at None text labels = Err Malformed
closed_at (Some place) text labels = Ok (labels, drop (place + 1) text)

-- braces are closed by the first `}` outside quotes and comments
abbrev pub closing : List ℕ → Option ℕ
closing text = place_outside 125 (without_comment text)

-- a series whose braces are open
abbrev pub series_open : List ℕ → List ℕ → Result Series LineFault
series_open name text = then_try (labels_inside name (before_place (closing text) (without_comment text))) (closed_at (closing text) text)

-- a metric's name alone
abbrev pub series_bare : List ℕ → List ℕ → Result Series LineFault
series_bare [] behind = Err Malformed
series_bare (first ∷ rest) behind = then_give (labels_named (first ∷ rest)) (λ labels. (labels, behind))

-- a brace is opened, with blanks before it
abbrev pub opened : List ℕ → Option (List ℕ)
opened [] = None
opened (first ∷ rest) = if first == 123 then Some rest else None

abbrev pub series_named : List ℕ → List ℕ → Option (List ℕ) → Result Series LineFault
series_named name behind None = series_bare name behind
series_named name behind (Some inside) = series_open name inside

-- the series at the front of a text
abbrev pub series_at : List ℕ → Result Series LineFault
series_at text = series_named (name_front text) (behind_name text) (opened (from_blank (behind_name text)))
