-- Strings: in double or single quotes with escapes, or raw in backquotes. (PromQL's string literals, which follow Go's. That
-- escapes of a byte are refused above 127 is this project's own, so that each string is a text.)
use Rattle.std.specs.Prelude.{ℕ, zero, suc, ◌+◌, ◌*◌, Bool, ◌==◌, ◌&&◌, ◌||◌, not, nat_lt, if◌then◌else◌, List, [], ◌∷◌, ◌++◌, Option, Some, None, option_map, Result, Ok, Err, encode_utf8}
use Rattle.std.specs.Char.{digit_value}
use Rattle.promql_lex.specs.declared.escape.Escape.{Escape}

-- how many bytes stand before the closing quote, if it stands on this line; a byte behind a backslash closes nothing
abbrev pub body_len : Bool → ℕ → List ℕ → Option ℕ
body_len escaped quote [] = None
body_len escaped quote (byte ∷ bytes) =
    if byte == 10 then None
    else if (not escaped && byte == quote) then Some 0
    else option_map (λ n. n + 1) (body_len (not escaped && byte == 92) quote bytes)

-- how many bytes stand before the next backquote, on whatever line
abbrev pub raw_len : List ℕ → Option ℕ
raw_len [] = None
raw_len (byte ∷ bytes) = if byte == 96 then Some 0 else option_map (λ n. n + 1) (raw_len bytes)

abbrev pub escape_of : ℕ → ℕ → Option Escape
escape_of size code = Some (record { stands_for = code; size = size })

-- `\a \b \f \n \r \t \v \\`, and the string's own quote
abbrev pub simple_escape : ℕ → ℕ → Option Escape
simple_escape quote byte =
    if byte == 97 then escape_of 1 7
    else if byte == 98 then escape_of 1 8
    else if byte == 102 then escape_of 1 12
    else if byte == 110 then escape_of 1 10
    else if byte == 114 then escape_of 1 13
    else if byte == 116 then escape_of 1 9
    else if byte == 118 then escape_of 1 11
    else if (byte == 92 || byte == quote) then escape_of 1 byte
    else None

-- a digit of a base up to 16
abbrev pub digit_in : ℕ → ℕ → Option ℕ
digit_in base byte = if nat_lt (digit_value byte) base then Some (digit_value byte) else None

-- a number by its higher and its lower digits
abbrev pub joined : ℕ → Option ℕ → Option ℕ → Option ℕ
joined factor (Some high) (Some low) = Some (high * factor + low)
joined factor _ _ = None

abbrev pub two : ℕ → ℕ → Option ℕ
two a b = joined 16 (digit_in 16 a) (digit_in 16 b)

abbrev pub four : ℕ → ℕ → ℕ → ℕ → Option ℕ
four a b c d = joined 256 (two a b) (two c d)

-- an escape of a byte stands for one up to 127
abbrev pub byte_escape : Option ℕ → Option Escape
byte_escape None = None
byte_escape (Some code) = if nat_lt code 128 then escape_of 3 code else None

-- three octal digits, of which the first is given
abbrev pub octal_escape : ℕ → List ℕ → Option Escape
octal_escape a (b ∷ (c ∷ bytes)) = byte_escape (joined 8 (joined 8 (digit_in 8 a) (digit_in 8 b)) (digit_in 8 c))
octal_escape a _ = None

-- two hexadecimal digits
abbrev pub hexadecimal_escape : List ℕ → Option Escape
hexadecimal_escape (a ∷ (b ∷ bytes)) = byte_escape (two a b)
hexadecimal_escape _ = None

-- the number of a character is at most 0x10FFFF and no surrogate, which is one from 0xD800 to 0xDFFF
abbrev pub is_character : ℕ → Bool
is_character code = nat_lt code 55296 || (nat_lt 57343 code && nat_lt code 1114112)

abbrev pub character_escape : ℕ → Option ℕ → Option Escape
character_escape size None = None
character_escape size (Some code) = if is_character code then escape_of size code else None

-- four hexadecimal digits
abbrev pub short_escape : List ℕ → Option Escape
short_escape (a ∷ (b ∷ (c ∷ (d ∷ bytes)))) = character_escape 5 (four a b c d)
short_escape _ = None

-- eight hexadecimal digits
abbrev pub long_escape : List ℕ → Option Escape
long_escape (a ∷ (b ∷ (c ∷ (d ∷ (e ∷ (f ∷ (g ∷ (h ∷ bytes)))))))) = character_escape 9 (joined 65536 (four a b c d) (four e f g h))
long_escape _ = None

-- the escape behind a backslash
abbrev pub escape_at : ℕ → List ℕ → Option Escape
escape_at quote [] = None
escape_at quote (byte ∷ bytes) =
    if byte == 120 then hexadecimal_escape bytes
    else if byte == 117 then short_escape bytes
    else if byte == 85 then long_escape bytes
    else if nat_lt (digit_value byte) 8 then octal_escape byte bytes
    else simple_escape quote byte

-- bytes in front of what is decoded
abbrev pub behind : List ℕ → Result (List ℕ) ℕ → Result (List ℕ) ℕ
behind front (Ok bytes) = Ok (front ++ bytes)
behind front (Err place) = Err place

abbrev pub after_escape : ℕ → Option Escape → (ℕ → Result (List ℕ) ℕ) → Result (List ℕ) ℕ
after_escape at None rest = Err at
after_escape at (Some e) rest = behind (encode_utf8 e.stands_for) (rest e.size)

-- what a body stands for, or the place of its first bad escape; the first `wait` bytes are part of an escape that is read
abbrev pub decoded : ℕ → ℕ → ℕ → List ℕ → Result (List ℕ) ℕ
decoded wait quote at [] = Ok []
decoded (suc wait) quote at (byte ∷ bytes) = decoded wait quote (at + 1) bytes
decoded zero quote at (byte ∷ bytes) =
    if byte == 92 then after_escape at (escape_at quote bytes) (λ n. decoded n quote (at + 1) bytes)
    else behind (byte ∷ []) (decoded zero quote (at + 1) bytes)
