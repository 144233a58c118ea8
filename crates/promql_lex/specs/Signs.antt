-- Signs. (PromQL's operators and punctuation.)
use Rattle.std.specs.Prelude.{ℕ, ◌+◌, Bool, false, ◌==◌, ◌&&◌, ◌||◌, nat_le, nat_lt, List, [], ◌∷◌}
use Rattle.std.specs.List.{prefix_len}

-- two bytes that are one sign: == != =~ !~ <= >=
abbrev pub is_double : ℕ → ℕ → Bool
is_double a b = (b == 61 && (a == 61 || (a == 33 || (a == 60 || a == 62)))) || (b == 126 && (a == 61 || a == 33))

-- one byte that is a sign: ( ) { } [ ] , : + - * / % ^ = < > @
abbrev pub is_single : ℕ → Bool
is_single a =
    a == 40 || (a == 41 || (a == 123 || (a == 125 || (a == 91 || (a == 93 || (a == 44 || (a == 58 || (a == 43
    || (a == 45 || (a == 42 || (a == 47 || (a == 37 || (a == 94 || (a == 61 || (a == 60 || (a == 62 || a == 64))))))))))))))))

abbrev pub begins_double : ℕ → List ℕ → Bool
begins_double a [] = false
begins_double a (b ∷ bytes) = is_double a b

-- the bytes of a character behind its first one, in UTF-8
abbrev pub is_continuation : ℕ → Bool
is_continuation byte = nat_le 128 byte && nat_lt byte 192

-- a character, from its first byte on
abbrev pub character_len : List ℕ → ℕ
character_len bytes = 1 + prefix_len is_continuation bytes
