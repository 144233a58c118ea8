-- The function and the relation agree.
use Rattle.std.proofs.Common.{◌≡◌, ◌∙◌, ◌<◌, ℕ, Bool, true, false, cond, ◌==◌, refl, sym, subst, ap, ap₂, arith, ◌+◌, suc, not, take, drop, List, [], ◌∷◌, ◌++◌, map, length, Option, Some, None}
use Rattle.std.specs.Prelude.{codes, if◌then◌else◌}
use Rattle.std.specs.List.{list_any, prefix_len}
use Rattle.std.specs.Str.{bytes_eq}
use Rattle.std.proofs.lemmas.Bool.Decides.{Decides-eqb}
use Rattle.std.proofs.lemmas.Slice.Eq.{bytes_eq-Decides}
use Rattle.tool_words.specs.Said.{Item, Text, behind_dashes, given, is_among, is_dashed, name_in, opened, option_said, placed, said_from, value_in, with_item}
use Rattle.tool_words.specs.Says.{AreNames, Says, apart, behind, ends, joined, place}

-- a first byte that is no `=` stays in the name
name_on : (x : ℕ) (xs : Text) → (x == 61) ≡ false → name_in (x ∷ xs) ≡ x ∷ name_in xs
name_on x xs e =
    let n = prefix_len (λ y. not (y == 61)) xs in
    let next : 1 + n ≡ suc n = omega arith in
    rw e (ap (λ k. take k (x ∷ xs)) next)

value_on : (x : ℕ) (xs : Text) → (x == 61) ≡ false → value_in (x ∷ xs) ≡ value_in xs
value_on x xs e =
    let n = prefix_len (λ y. not (y == 61)) xs in
    let next : (1 + n) + 1 ≡ suc (n + 1) = omega arith in
    rw e (ap (λ k. cond (list_any (λ y. y == 61) xs) (Some (drop k (x ∷ xs))) None) next)

name_alone : (name : Text) → list_any (λ x. x == 61) name ≡ false → (name_in name ≡ name) × (value_in name ≡ None)
name_alone [] plain = (refl, refl)
name_alone (x ∷ xs) plain = go (x == 61) refl (name_alone xs)
  where
    go : (b : Bool) → (x == 61) ≡ b → (list_any (λ y. y == 61) xs ≡ false → (name_in xs ≡ xs) × (value_in xs ≡ None)) → (name_in (x ∷ xs) ≡ x ∷ xs) × (value_in (x ∷ xs) ≡ None)
    go true e ih = absurd (let f : true ≡ false = rw e at plain in cc)
    go false e ih =
        let rest = ih (rw e at plain) in
        (name_on x xs e ∙ ap (λ ys. x ∷ ys) rest.0, value_on x xs e ∙ rest.1)

name_before : (name value : Text) → list_any (λ x. x == 61) name ≡ false → (name_in (name ++ (codes "=" ++ value)) ≡ name) × (value_in (name ++ (codes "=" ++ value)) ≡ Some value)
name_before [] value plain = (refl, refl)
name_before (x ∷ xs) value plain = go (x == 61) refl (name_before xs value)
  where
    go : (b : Bool) → (x == 61) ≡ b
        → (list_any (λ y. y == 61) xs ≡ false → (name_in (xs ++ (codes "=" ++ value)) ≡ xs) × (value_in (xs ++ (codes "=" ++ value)) ≡ Some value))
        → (name_in (x ∷ xs ++ (codes "=" ++ value)) ≡ x ∷ xs) × (value_in (x ∷ xs ++ (codes "=" ++ value)) ≡ Some value)
    go true e ih = absurd (let f : true ≡ false = rw e at plain in cc)
    go false e ih =
        let rest = ih (rw e at plain) in
        (name_on x (xs ++ (codes "=" ++ value)) e ∙ ap (λ ys. x ∷ ys) rest.0, value_on x (xs ++ (codes "=" ++ value)) e ∙ rest.1)

-- a text is its name, and where it has an `=` that and its value
whole : (text : Text) → value_in text ≡ None → name_in text ≡ text
whole [] e = refl
whole (x ∷ xs) e = go (x == 61) refl (whole xs)
  where
    go : (b : Bool) → (x == 61) ≡ b → (value_in xs ≡ None → name_in xs ≡ xs) → name_in (x ∷ xs) ≡ x ∷ xs
    go true f ih = absurd (let g = rw f at e in cc)
    go false f ih = name_on x xs f ∙ ap (λ ys. x ∷ ys) (ih (sym (value_on x xs f) ∙ e))

parted : (text v : Text) → value_in text ≡ Some v → name_in text ++ (codes "=" ++ v) ≡ text
parted [] v e = absurd (cc)
parted (x ∷ xs) v e = go (x == 61) refl (parted xs v)
  where
    go : (b : Bool) → (x == 61) ≡ b → (value_in xs ≡ Some v → name_in xs ++ (codes "=" ++ v) ≡ xs) → name_in (x ∷ xs) ++ (codes "=" ++ v) ≡ x ∷ xs
    go true f ih =
        let g = rw f at e in
        let h : v ≡ xs = cc in
        rw f (ap₂ (λ y ys. y ∷ ys) (sym ((Decides-eqb x 61).0 f)) h)
    go false f ih = ap (λ t. t ++ (codes "=" ++ v)) (name_on x xs f) ∙ ap (λ ys. x ∷ ys) (ih (sym (value_on x xs f) ∙ e))

-- a word that isn't dashed is no `--`
no_end : (word : Text) → is_dashed word ≡ false → bytes_eq word (codes "--") ≡ false
no_end word d = go (bytes_eq word (codes "--")) refl
  where
    go : (b : Bool) → bytes_eq word (codes "--") ≡ b → bytes_eq word (codes "--") ≡ false
    go false e = e
    go true e =
        let is : word ≡ codes "--" = (bytes_eq-Decides word (codes "--")).0 e in
        let f : true ≡ false = subst (λ (w : Text). is_dashed w ≡ false) is d in
        absurd (cc)

not_nil : (name rest : Text) → 0 < length name → bytes_eq (name ++ rest) [] ≡ false
not_nil [] rest some = absurd (omega arith)
not_nil (x ∷ xs) rest some = refl

no_nil : (name : Text) → 0 < length name → bytes_eq name [] ≡ false
no_nil [] some = absurd (omega arith)
no_nil (x ∷ xs) some = refl

pub said_by : (names : List Text) → AreNames names → (words : List Text) (items : List Item) → Says names words items → said_from names None words ≡ Some items
unfolding said_from
said_by names ok words items ends = refl
said_by names ok words items (place word rest said d h) = rw (no_end word d, d, said_by names ok rest said h) refl
said_by names ok words items (apart name value rest said among d h) =
    let n = ok name among in
    let parts = name_alone name n.plain in
    rw (no_nil name n.some, parts.0, parts.1, among, d, said_by names ok rest said h) refl
said_by names ok words items (joined name value rest said among h) =
    let n = ok name among in
    let parts = name_before name value n.plain in
    rw (not_nil name (codes "=" ++ value) n.some, parts.0, parts.1, among, said_by names ok rest said h) refl
said_by names ok words items (behind rest) = refl

-- ---- the other way

behind_is : (word text : Text) → behind_dashes word ≡ Some text → word ≡ codes "--" ++ text
behind_is [] text e = absurd (cc)
behind_is (x ∷ []) text e = absurd (cc)
behind_is (x ∷ y ∷ rest) text e = go (x == 45) (y == 45) refl refl
  where
    go : (a b : Bool) → (x == 45) ≡ a → (y == 45) ≡ b → x ∷ y ∷ rest ≡ codes "--" ++ text
    go false b f g = absurd (let h = rw f at e in cc)
    go true false f g = absurd (let h = rw (f, g) at e in cc)
    go true true f g =
        let h = rw (f, g) at e in
        let i : rest ≡ text = cc in
        let j : x ≡ 45 = (Decides-eqb x 45).0 f in
        let k : y ≡ 45 = (Decides-eqb y 45).0 g in
        rw (i, j, k) refl

module _ (names : List Text) where
  -- where an option waits, its value comes first
  record Valued (n : Text) (words : List Text) (items : List Item) : Type 0 where
    value : Text
    rest : List Text
    said : List Item
    words_are : words ≡ value ∷ rest
    items_are : items ≡ given n value ∷ said
    undashed : is_dashed value ≡ false
    says : Says names rest said

  abbrev Spells : List Text → Type 0
  Spells words = ((items : List Item) → said_from names None words ≡ Some items → Says names words items)
      × ((n : Text) (items : List Item) → said_from names (Some n) words ≡ Some items → Valued n words items)

  -- what `with_item` gives
  more : (item : Item) (o : Option (List Item)) (items : List Item) → with_item item o ≡ Some items → (rest : List Item) × (o ≡ Some rest) × (items ≡ item ∷ rest)
  more item None items e = absurd (cc)
  more item (Some rest) items e = (rest, refl, cc)

  put : (words other : List Text) (items others : List Item) → words ≡ other → items ≡ others → Says names other others → Says names words items
  put words other items others e f h = subst (λ (ws : List Text). Says names ws items) (sym e) (subst (λ (xs : List Item). Says names other xs) (sym f) h)

  named : (word : Text) (rest : List Text) → Spells rest → (text : Text) (v : Option Text) (items : List Item) → word ≡ codes "--" ++ text → value_in text ≡ v
      → is_among names (name_in text) ≡ true → opened (name_in text) v (λ w. said_from names w rest) ≡ Some items → Says names (word ∷ rest) items
  named word rest ih text None items is none among e =
      let v = ih.1 (name_in text) items e in
      put _ _ _ _ (ap₂ (λ (w : Text) (ws : List Text). w ∷ ws) (is ∙ ap (λ t. codes "--" ++ t) (sym (whole text none))) v.words_are) v.items_are
      (apart (name_in text) v.value v.rest v.said among v.undashed v.says)
  named word rest ih text (Some v) items is some among e =
      let m = more (given (name_in text) v) (said_from names None rest) items e in
      put _ _ _ _ (ap (λ (w : Text). w ∷ rest) (is ∙ ap (λ t. codes "--" ++ t) (sym (parted text v some)))) m.2 (joined (name_in text) v rest m.0 among (ih.0 m.0 m.1))

  words_say : (word : Text) (rest : List Text) → Spells rest → (items : List Item) → said_from names None (word ∷ rest) ≡ Some items → Says names (word ∷ rest) items
  unfolding said_from
  words_say word rest ih items e = go (bytes_eq word (codes "--")) (is_dashed word) refl refl
    where
      by_name : (text : Text) (b : Bool) → is_among names (name_in text) ≡ b → behind_dashes word ≡ Some text
          → (if b then opened (name_in text) (value_in text) (λ w. said_from names w rest) else None) ≡ Some items → Says names (word ∷ rest) items
      by_name text true among is f = named word rest ih text (value_in text) items (behind_is word text is) refl among f
      by_name text false among is f = absurd (cc)

      by_dashes : (o : Option Text) → behind_dashes word ≡ o → option_said names o (λ w. said_from names w rest) ≡ Some items → Says names (word ∷ rest) items
      by_dashes None is f = absurd (cc)
      by_dashes (Some text) is f = by_name text (is_among names (name_in text)) refl is f

      go : (a b : Bool) → bytes_eq word (codes "--") ≡ a → is_dashed word ≡ b → Says names (word ∷ rest) items
      go true b f g =
          let h : Some (map placed rest) ≡ Some items = rw f at e in
          let i : items ≡ map placed rest = cc in
          put _ _ _ _ (ap (λ (w : Text). w ∷ rest) ((bytes_eq-Decides word (codes "--")).0 f)) i (behind rest)
      go false false f g =
          let m = more (placed word) (said_from names None rest) items (rw (f, g) at e) in
          put _ _ _ _ refl m.2 (place word rest m.0 g (ih.0 m.0 m.1))
      go false true f g = by_dashes (behind_dashes word) refl (rw (f, g) at e)

  value_says : (word : Text) (rest : List Text) → Spells rest → (n : Text) (items : List Item) → said_from names (Some n) (word ∷ rest) ≡ Some items → Valued n (word ∷ rest) items
  unfolding said_from
  value_says word rest ih n items e = go (is_dashed word) refl
    where
      go : (b : Bool) → is_dashed word ≡ b → Valued n (word ∷ rest) items
      go true f = absurd (let g : None ≡ Some items = rw f at e in cc)
      go false f =
          let m = more (given n word) (said_from names None rest) items (rw f at e) in
          record { value = word; rest = rest; said = m.0; words_are = refl; items_are = m.2; undashed = f; says = ih.0 m.0 m.1 }

  spells : (words : List Text) → Spells words
  unfolding said_from
  spells [] = (λ items e. let is : items ≡ [] = cc in subst (λ (xs : List Item). Says names [] xs) (sym is) ends, λ n items e. absurd (cc))
  spells (word ∷ rest) = (words_say word rest (spells rest), value_says word rest (spells rest))

  pub spelled : (words : List Text) (items : List Item) → said_from names None words ≡ Some items → Says names words items
  spelled words = (spells words).0
