-- A metric's or a label's name is ASCII, so it is a text.
use Rattle.std.proofs.Common.{◌≡◌, ◌<◌, ℕ, Bool, true, false, List, [], ◌∷◌, arith, refl}
use Rattle.std.specs.Prelude.{◌&&◌}
use Rattle.std.specs.List.{list_all}
use Rattle.std.specs.Str.{IsAscii, IsUtf8}
use Rattle.std.proofs.lemmas.Bool.Decides.{nat_tests}
use Rattle.std.proofs.lemmas.Str.Ascii.{IsAscii-nil, IsAscii-cons}
use Rattle.std.proofs.lemmas.Str.{IsUtf8-from_ascii}
use Rattle.script_read.specs.Words.{starts_name, continues_name, is_ascii, is_identifier, is_metric_name}
use Rattle.std.proofs.lemmas.Bool.{ltb-true}
use Rattle.std.proofs.Math.Dec.{ltb}

pub and_left : (a b : Bool) → (a && b) ≡ true → a ≡ true
and_left true b h = refl
and_left false b h = absurd (cc)

pub and_right : (a b : Bool) → (a && b) ≡ true → b ≡ true
and_right true b h = h
and_right false b h = absurd (cc)

start_ascii : (b : ℕ) → starts_name b ≡ true → b < 128
start_ascii b h = grind (arith, nat_tests)

continue_ascii : (b : ℕ) → continues_name b ≡ true → b < 128
continue_ascii b h = grind (arith, nat_tests)

all_ascii : (text : List ℕ) → list_all continues_name text ≡ true → IsAscii text
all_ascii [] h = IsAscii-nil
all_ascii (b ∷ text) h =
    IsAscii-cons b text (continue_ascii b (and_left (continues_name b) (list_all continues_name text) h)) (all_ascii text (and_right (continues_name b) (list_all continues_name text) h))

identifier_ascii : (text : List ℕ) → is_identifier text ≡ true → IsAscii text
identifier_ascii [] h = IsAscii-nil
identifier_ascii (b ∷ text) h =
    IsAscii-cons b text (start_ascii b (and_left (starts_name b) (list_all continues_name text) h)) (all_ascii text (and_right (starts_name b) (list_all continues_name text) h))

pub name_is_text : (text : List ℕ) → is_metric_name text ≡ true → IsUtf8 text
name_is_text text h = IsUtf8-from_ascii text (identifier_ascii text (and_left (is_identifier text) _ h))

bytes_ascii : (text : List ℕ) → is_ascii text ≡ true → IsAscii text
bytes_ascii [] h = IsAscii-nil
bytes_ascii (b ∷ text) h =
    IsAscii-cons b text (ltb-true b 128 (and_left (ltb b 128) (is_ascii text) h)) (bytes_ascii text (and_right (ltb b 128) (is_ascii text) h))

pub ascii_is_text : (text : List ℕ) → is_ascii text ≡ true → IsUtf8 text
ascii_is_text text h = IsUtf8-from_ascii text (bytes_ascii text h)
