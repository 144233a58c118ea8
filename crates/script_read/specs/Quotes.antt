-- What stands outside the quotes of a line. (PromQL's strings: in double or single quotes a byte behind a backslash closes
-- nothing; in backquotes each byte stands for itself.)
use Rattle.std.specs.Prelude.{ℕ, ◌+◌, Bool, true, false, ◌==◌, ◌&&◌, ◌||◌, not, if◌then◌else◌, List, [], ◌∷◌, take, Option, None, Some, option_map}
use Rattle.script_read.specs.declared.quote.Quoting.{Quoting}
use Rattle.script_read.specs.declared.quote.Quoting.TheVariants.{Outside, Inside, Escaped}

abbrev pub is_quote : ℕ → Bool
is_quote byte = byte == 34 || (byte == 39 || byte == 96)

abbrev pub is_open : Quoting → Bool
is_open Outside = false
is_open _ = true

-- which quote is open behind a byte
abbrev pub quoting_behind : Quoting → ℕ → Quoting
quoting_behind Outside byte = if is_quote byte then Inside byte else Outside
quoting_behind (Inside quote) byte =
    if byte == quote then Outside else if (byte == 92 && not (quote == 96)) then Escaped quote else Inside quote
quoting_behind (Escaped quote) byte = Inside quote

-- the place of the first such byte outside quotes
abbrev pub place_from : ℕ → Quoting → List ℕ → Option ℕ
place_from wanted quoting [] = None
place_from wanted quoting (byte ∷ bytes) =
    if (byte == wanted && not (is_open quoting)) then Some 0 else option_map (λ place. place + 1) (place_from wanted (quoting_behind quoting byte) bytes)

abbrev pub place_outside : ℕ → List ℕ → Option ℕ
place_outside wanted text = place_from wanted Outside text

-- the text before a place, or all of it
abbrev pub before_place : Option ℕ → List ℕ → List ℕ
before_place None text = text
before_place (Some place) text = take place text

-- a series line without its comment: a `#` outside quotes, and what stands behind it
abbrev pub without_comment : List ℕ → List ℕ
without_comment text = before_place (place_outside 35 text) text

-- the second of two braces (`brace`: the byte before is one, outside quotes)
abbrev pub closes_pair : Bool → ℕ → Bool
closes_pair brace byte = brace && byte == 123

abbrev pub histogram_from : Bool → Quoting → List ℕ → Bool
histogram_from brace quoting [] = false
histogram_from brace quoting (byte ∷ bytes) =
    closes_pair brace byte || histogram_from (byte == 123 && not (is_open quoting)) (quoting_behind quoting byte) bytes

-- `{{` stands outside quotes
abbrev pub has_histogram : List ℕ → Bool
has_histogram text = histogram_from false Outside text
