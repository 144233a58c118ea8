-- The rows that `clap` keeps, and the items that the words say.
use Rattle.std.proofs.Common.{◌≡◌, ◌∙◌, Bool, true, false, refl, sym, subst, ap, List, [], ◌∷◌, ◌++◌, map, Option, Some, None, append_assoc, append-nil}
use Rattle.std.specs.Prelude.{codes, if◌then◌else◌, is_some, option_map, unwrap_or, IfSome, MatchOption, ⊤}
use Rattle.std.specs.Str.{bytes_eq}
use Rattle.std.proofs.lemmas.Slice.Eq.{bytes_eq-Decides}
use Rattle.clap.specs.declared.parser.matches.ValueSource.TheVariants.{CommandLine}
use Rattle.clap.specs.Walk.{reading_by, Row, Text, all_of, at_row, has_row, used, with_values, without}
use Rattle.clap.specs.declared.builder.value_parser.Reading.{Reading}
use Rattle.clap.specs.declared.parser.matches.ValueSource.{ValueSource}
use Rattle.tool_words.specs.Commands.{place_id}
use Rattle.tool_words.specs.Said.{Item, given, is_among, is_once, opened, option_said, placed, places_of, said_from, value_of, with_item, name_in, value_in, behind_dashes, is_dashed}
use Rattle.tool_words.specs.Tells.{if_any}
use Rattle.tool_words.proofs.Built.{option_built, place_built}
use Rattle.tool_words.proofs.Walked.{taken}

-- ---- rows

absent : (id : Text) (change : Row → List Row) (missing : List Row) (rows : List Row) → has_row id rows ≡ false → at_row id change missing rows ≡ rows ++ missing
absent id change missing [] none = refl
absent id change missing (r ∷ rs) none = go (bytes_eq r.id id) refl (absent id change missing rs)
  where
    go : (b : Bool) → bytes_eq r.id id ≡ b → (has_row id rs ≡ false → at_row id change missing rs ≡ rs ++ missing) → at_row id change missing (r ∷ rs) ≡ r ∷ rs ++ missing
    go true e ih = absurd (let f : true ≡ false = rw e at none in cc)
    go false e ih = rw e (ap (λ xs. r ∷ xs) (ih (rw e at none)))

has_row_all : (id : Text) (rows : List Row) → has_row id rows ≡ is_some (all_of id rows)
has_row_all id [] = refl
has_row_all id (r ∷ rs) = go (bytes_eq r.id id) refl (has_row_all id rs)
  where
    go : (b : Bool) → bytes_eq r.id id ≡ b → has_row id rs ≡ is_some (all_of id rs) → has_row id (r ∷ rs) ≡ is_some (all_of id (r ∷ rs))
    go true e ih = rw e refl
    go false e ih = rw e ih

module _ (id : Text) (how : Reading) (from : ValueSource) (values : List Text) where
  self : bytes_eq id id ≡ true
  self = (bytes_eq-Decides id id).1 refl

  own_row : (rows : List Row) → all_of id (with_values id how from values rows) ≡ Some (unwrap_or (all_of id rows) [] ++ values)
  own_row [] = rw self refl
  own_row (r ∷ rs) = go (bytes_eq r.id id) refl (own_row rs)
    where
      go : (b : Bool) → bytes_eq r.id id ≡ b → all_of id (with_values id how from values rs) ≡ Some (unwrap_or (all_of id rs) [] ++ values)
          → all_of id (with_values id how from values (r ∷ rs)) ≡ Some (unwrap_or (all_of id (r ∷ rs)) [] ++ values)
      go true e ih = rw (e, e) refl
      go false e ih = rw (e, e) ih

  other_row : (m : Text) (rows : List Row) → bytes_eq id m ≡ false → all_of m (with_values id how from values rows) ≡ all_of m rows
  other_row m [] apart = rw apart refl
  other_row m (r ∷ rs) apart = go (bytes_eq r.id id) (bytes_eq r.id m) refl refl (other_row m rs apart)
    where
      go : (b c : Bool) → bytes_eq r.id id ≡ b → bytes_eq r.id m ≡ c → all_of m (with_values id how from values rs) ≡ all_of m rs
          → all_of m (with_values id how from values (r ∷ rs)) ≡ all_of m (r ∷ rs)
      go true true e f ih =
          let is : r.id ≡ id = (bytes_eq-Decides r.id id).0 e in
          let g : bytes_eq id m ≡ true = subst (λ (x : Text). bytes_eq x m ≡ true) is f in
          absurd (cc)
      go true false e f ih = rw (e, f) refl
      go false true e f ih = rw (e, f) refl
      go false false e f ih = rw (e, f) ih

-- ---- items

value_more : (m : Text) (before : List Item) (item : Item) → value_of m (before ++ item ∷ []) ≡ (if is_some (value_of m before) then value_of m before else value_of m (item ∷ []))
value_more m [] item = refl
value_more m (given n v ∷ rest) item = go (bytes_eq n m) refl (value_more m rest item)
  where
    go : (b : Bool) → bytes_eq n m ≡ b → value_of m (rest ++ item ∷ []) ≡ (if is_some (value_of m rest) then value_of m rest else value_of m (item ∷ []))
        → value_of m (given n v ∷ rest ++ item ∷ []) ≡ (if is_some (value_of m (given n v ∷ rest)) then value_of m (given n v ∷ rest) else value_of m (item ∷ []))
    go true e ih = rw e refl
    go false e ih = rw e ih
value_more m (placed w ∷ rest) item = value_more m rest item

places_more : (before : List Item) (item : Item) → places_of (before ++ item ∷ []) ≡ places_of before ++ places_of (item ∷ [])
places_more [] item = refl
places_more (given n v ∷ rest) item = places_more rest item
places_more (placed w ∷ rest) item = ap (λ ws. w ∷ ws) (places_more rest item)

-- no option is named as the words that stand for themselves
abbrev pub Named : List Item → Type 0
Named [] = ⊤
Named (given n v ∷ rest) = (bytes_eq n place_id ≡ false) × Named rest
Named (placed w ∷ rest) = Named rest

named_more : (item : Item) (said : Option (List Item)) → ((items : List Item) → Named items → Named (item ∷ items)) → IfSome said Named → IfSome (with_item item said) Named
named_more item None f h = tt
named_more item (Some items) f h = f items h

apart_from : (options : List Text) (n : Text) → is_among options place_id ≡ false → is_among options n ≡ true → bytes_eq n place_id ≡ false
apart_from options n fresh among = go (bytes_eq n place_id) refl
  where
    go : (b : Bool) → bytes_eq n place_id ≡ b → bytes_eq n place_id ≡ false
    go false e = e
    go true e =
        let is : n ≡ place_id = (bytes_eq-Decides n place_id).0 e in
        let f : is_among options place_id ≡ true = subst (λ (x : Text). is_among options x ≡ true) is among in
        absurd (cc)

named_places : (words : List Text) → Named (map placed words)
named_places [] = tt
named_places (w ∷ ws) = named_places ws

module _ (options : List Text) (fresh : is_among options place_id ≡ false) where
  abbrev pub SaidNamed : List Text → Type 0
  SaidNamed words = IfSome (said_from options None words) Named × ((n : Text) → is_among options n ≡ true → IfSome (said_from options (Some n) words) Named)

  if_among : (n : Text) (v : Option Text) (rest : List Text) → SaidNamed rest → (b : Bool) → is_among options n ≡ b
      → IfSome (if b then opened n v (λ w. said_from options w rest) else None) Named
  if_among n v rest ih false e = tt
  if_among n None rest ih true e = ih.1 n e
  if_among n (Some v) rest ih true e = named_more (given n v) (said_from options None rest) (λ items h. (apart_from options n fresh e, h)) ih.0

  option_named : (text : Option Text) (rest : List Text) → SaidNamed rest → IfSome (option_said options text (λ w. said_from options w rest)) Named
  option_named None rest ih = tt
  option_named (Some text) rest ih = if_among (name_in text) (value_in text) rest ih (is_among options (name_in text)) refl

  choose : (b : Bool) (x y : Option (List Item)) → IfSome x Named → IfSome y Named → IfSome (if b then x else y) Named
  choose true x y p q = p
  choose false x y p q = q

  pub said_named : (words : List Text) → SaidNamed words
  unfolding said_from
  said_named [] = (tt, λ n e. tt)
  said_named (word ∷ rest) =
      let ih = said_named rest in (
        choose (bytes_eq word (codes "--")) _ _ (named_places rest)
            (choose (is_dashed word) _ _ (option_named (behind_dashes word) rest ih) (named_more (placed word) (said_from options None rest) (λ items h. h) ih.0)),
        λ n e. choose (is_dashed word) None _ tt (named_more (given n word) (said_from options None rest) (λ items h. (apart_from options n fresh e, h)) ih.0),
      )

-- ---- rows and items that say the same

pub record Same (rows : List Row) (items : List Item) : Type 0 where
  pub option : (m : Text) → bytes_eq place_id m ≡ false → all_of m rows ≡ option_map (λ v. v ∷ []) (value_of m items)
  pub places : all_of place_id rows ≡ if_any (places_of items)

flip : (x y : Text) → bytes_eq x y ≡ false → bytes_eq y x ≡ false
flip x y e = go (bytes_eq y x) refl
  where
    go : (b : Bool) → bytes_eq y x ≡ b → bytes_eq y x ≡ false
    go false f = f
    go true f =
        let g : bytes_eq x y ≡ true = (bytes_eq-Decides x y).1 (sym ((bytes_eq-Decides y x).0 f)) in
        absurd (cc)

no_value : (n : Text) (rows : List Row) (items : List Item) → Same rows items → bytes_eq n place_id ≡ false → has_row n rows ≡ is_some (value_of n items)
no_value n rows items same apart = has_row_all n rows ∙ ap is_some (same.option n (flip n place_id apart)) ∙ mapped (value_of n items)
  where
    mapped : (o : Option Text) → is_some (option_map (λ v. v ∷ []) o) ≡ is_some o
    mapped None = refl
    mapped (Some v) = refl

given_same : (n v : Text) (rows : List Row) (items : List Item) → Same rows items → bytes_eq n place_id ≡ false → value_of n items ≡ None
    → Same (used (option_built n) (v ∷ []) rows) (items ++ given n v ∷ [])
given_same n v rows items same apart none =
    let no_row : has_row n rows ≡ false = no_value n rows items same apart ∙ ap is_some none in
    let gone : without n rows ≡ rows = absent n (λ _. []) [] rows no_row ∙ append-nil rows in
    record {
      option = λ m not_place. at m not_place (bytes_eq n m) refl gone;
      places = ap (λ rs. all_of place_id (with_values n (reading_by (option_built n)) CommandLine (v ∷ []) rs)) gone ∙ other_row n (reading_by (option_built n)) CommandLine (v ∷ []) place_id rows apart ∙ same.places
          ∙ ap if_any (sym (places_more items (given n v) ∙ append-nil (places_of items)));
    }
  where
    at : (m : Text) → bytes_eq place_id m ≡ false → (b : Bool) → bytes_eq n m ≡ b → without n rows ≡ rows
        → all_of m (used (option_built n) (v ∷ []) rows) ≡ option_map (λ x. x ∷ []) (value_of m (items ++ given n v ∷ []))
    at m not_place true e gone =
        let is : n ≡ m = (bytes_eq-Decides n m).0 e in
        let here : all_of n rows ≡ None = same.option n (flip n place_id apart) ∙ ap (option_map (λ x. x ∷ [])) none in
        let value : value_of n (items ++ given n v ∷ []) ≡ Some v = value_more n items (given n v) ∙ rw (none, (bytes_eq-Decides n n).1 refl) refl in
        subst (λ (x : Text). all_of x (used (option_built n) (v ∷ []) rows) ≡ option_map (λ y. y ∷ []) (value_of x (items ++ given n v ∷ []))) is
        (ap (λ rs. all_of n (with_values n (reading_by (option_built n)) CommandLine (v ∷ []) rs)) gone ∙ own_row n (reading_by (option_built n)) CommandLine (v ∷ []) rows ∙ ap (λ o. Some (unwrap_or o [] ++ v ∷ [])) here
        ∙ sym (ap (option_map (λ y. y ∷ [])) value))
    at m not_place false e gone =
        ap (λ rs. all_of m (with_values n (reading_by (option_built n)) CommandLine (v ∷ []) rs)) gone ∙ other_row n (reading_by (option_built n)) CommandLine (v ∷ []) m rows e ∙ same.option m not_place
        ∙ ap (option_map (λ x. x ∷ [])) (sym (value_more m items (given n v) ∙ rw e (keep (value_of m items))))
      where
        keep : (o : Option Text) → (if is_some o then o else None) ≡ o
        keep None = refl
        keep (Some x) = refl

placed_same : (w : Text) (rows : List Row) (items : List Item) → Same rows items → Same (used place_built (w ∷ []) rows) (items ++ placed w ∷ [])
placed_same w rows items same = record {
  option = λ m not_place. other_row place_id _ _ (w ∷ []) m rows not_place ∙ same.option m not_place
      ∙ ap (option_map (λ x. x ∷ [])) (sym (value_more m items (placed w) ∙ keep (value_of m items)));
  places = own_row place_id _ _ (w ∷ []) rows ∙ ap (λ o. Some (unwrap_or o [] ++ w ∷ [])) same.places ∙ any (places_of items) ∙ ap if_any (sym (places_more items (placed w)));
}
  where
    keep : (o : Option Text) → (if is_some o then o else None) ≡ o
    keep None = refl
    keep (Some x) = refl

    any : (ws : List Text) → Some (unwrap_or (if_any ws) [] ++ w ∷ []) ≡ if_any (ws ++ w ∷ [])
    any [] = refl
    any (x ∷ xs) = refl

-- the rows after items, where no option is given twice: these are all items
abbrev pub Says : List Row → List Item → List Item → List Item → Type 0
Says rows before items all = MatchOption (taken rows items) (is_once before items ≡ false) (λ after. (is_once before items ≡ true) × Same after all)

pub taken_says : (items : List Item) (rows : List Row) (before : List Item) → Named items → Same rows before → Says rows before items (before ++ items)
taken_says [] rows before named same = (refl, subst (λ (xs : List Item). Same rows xs) (sym (append-nil before)) same)
taken_says (placed w ∷ rest) rows before named same =
    subst (λ (xs : List Item). Says (used place_built (w ∷ []) rows) (before ++ placed w ∷ []) rest xs) (append_assoc before (placed w ∷ []) rest)
    (taken_says rest _ (before ++ placed w ∷ []) named (placed_same w rows before same))
taken_says (given n v ∷ rest) rows before named same = go (value_of n before) refl (taken_says rest (used (option_built n) (v ∷ []) rows) (before ++ given n v ∷ []) named.1)
  where
    go : (o : Option Text) → value_of n before ≡ o
        → (Same (used (option_built n) (v ∷ []) rows) (before ++ given n v ∷ []) → Says (used (option_built n) (v ∷ []) rows) (before ++ given n v ∷ []) rest ((before ++ given n v ∷ []) ++ rest))
        → Says rows before (given n v ∷ rest) (before ++ given n v ∷ rest)
    go (Some x) e ih = rw (no_value n rows before same named.0, e) refl
    go None e ih =
        rw (no_value n rows before same named.0, e)
        (subst (λ (xs : List Item). Says (used (option_built n) (v ∷ []) rows) (before ++ given n v ∷ []) rest xs) (append_assoc before (given n v ∷ []) rest)
        (ih (given_same n v rows before same named.0 e)))
