-- The words at the front of a line, which blanks part, and the rest of the line. (The promqltest format.)
use Rattle.std.specs.Prelude.{◌≡◌, ◌≢◌, ℕ, Bool, true, not, List, [], ◌∷◌, ◌++◌, IsTrue}
use Rattle.std.specs.List.{list_all}
use Rattle.std.specs.Str.{is_utf8}
use Rattle.script_read.specs.Lines.{is_blank}

-- bytes that are no blanks, at least one
pub record IsWord (word : List ℕ) : Type 0 where
  pub some : word ≢ []
  pub whole : IsTrue (list_all (λ byte. not (is_blank byte)) word)

-- blanks, at least one
pub record AreBlanks (gap : List ℕ) : Type 0 where
  pub some : gap ≢ []
  pub blank : IsTrue (list_all is_blank gap)

abbrev pub begins_word : List ℕ → Bool
begins_word [] = true
begins_word (byte ∷ bytes) = not (is_blank byte)

-- a text to the end of the line, from a word on (it is UTF-8, since the file is)
pub record IsFilled (text : List ℕ) : Type 0 where
  pub some : text ≢ []
  pub begun : IsTrue (begins_word text)
  pub told : IsTrue (is_utf8 text)

-- the first words of a line, and the rest of it from the next word on
pub data Parted : List (List ℕ) → List ℕ → List ℕ → Type 0 where
  -- nothing but blanks stands behind the word
  last_word : (word gap text : List ℕ) → IsWord word → IsTrue (list_all is_blank gap) → text ≡ word ++ gap → Parted (word ∷ []) [] text
  -- text stands behind it
  before_rest : (word gap rest text : List ℕ) → IsWord word → AreBlanks gap → rest ≢ [] → IsTrue (begins_word rest) → text ≡ word ++ (gap ++ rest)
      → Parted (word ∷ []) rest text
  -- words stand behind it
  more_words : (word gap behind text rest : List ℕ) (words : List (List ℕ)) → IsWord word → AreBlanks gap → Parted words rest behind
      → text ≡ word ++ (gap ++ behind) → Parted (word ∷ words) rest text
