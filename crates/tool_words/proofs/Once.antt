-- Where no option is given twice.
use Rattle.std.proofs.Common.{◌≡◌, ◌∙◌, Bool, true, false, refl, sym, subst, ap, not, ◌&&◌, List, [], ◌∷◌, ◌++◌, Option, Some, None, append_assoc, append-nil}
use Rattle.std.specs.Prelude.{is_some, if◌then◌else◌}
use Rattle.tool_words.specs.Said.{Item, Text, given, if_once, is_once, placed, value_of}

-- no option of the items is given in those before it, nor in the ones before all of them
abbrev pub OnceBehind : List Item → List Item → Type 0
OnceBehind before items = (front rest : List Item) (name value : Text) → items ≡ front ++ given name value ∷ rest → value_of name (before ++ front) ≡ None

none_of : (o : Option Text) → is_some o ≡ false → o ≡ None
none_of None e = refl
none_of (Some v) e = absurd (cc)

front_of : (b c : Bool) → (not b && c) ≡ true → (b ≡ false) × (c ≡ true)
front_of false true e = (refl, refl)
front_of false false e = absurd (cc)
front_of true c e = absurd (cc)

nothing : (front rest : List Item) (item : Item) → ◌≡◌ {A = List Item} [] (front ++ item ∷ rest) → ⊥
nothing [] rest item e = cc
nothing (f ∷ front) rest item e = cc

pub once_behind : (items before : List Item) → is_once before items ≡ true → OnceBehind before items
once_behind [] before once front rest name value is = absurd (nothing front rest (given name value) is)
once_behind (placed w ∷ items) before once [] rest name value is = absurd (cc)
once_behind (placed w ∷ items) before once (f ∷ front) rest name value is =
    let head : placed w ≡ f = cc in
    let tail : items ≡ front ++ given name value ∷ rest = cc in
    subst (λ (i : Item). value_of name (before ++ i ∷ front) ≡ None) head
    (ap (value_of name) (sym (append_assoc before (placed w ∷ []) front)) ∙ once_behind items (before ++ placed w ∷ []) once front rest name value tail)
once_behind (given n v ∷ items) before once [] rest name value is =
    let same : n ≡ name = cc in
    let parts = front_of (is_some (value_of n before)) (is_once (before ++ given n v ∷ []) items) once in
    subst (λ (m : Text). value_of m (before ++ []) ≡ None) same (ap (value_of n) (append-nil before) ∙ none_of (value_of n before) parts.0)
once_behind (given n v ∷ items) before once (f ∷ front) rest name value is =
    let head : given n v ≡ f = cc in
    let tail : items ≡ front ++ given name value ∷ rest = cc in
    let parts = front_of (is_some (value_of n before)) (is_once (before ++ given n v ∷ []) items) once in
    subst (λ (i : Item). value_of name (before ++ i ∷ front) ≡ None) head
    (ap (value_of name) (sym (append_assoc before (given n v ∷ []) front)) ∙ once_behind items (before ++ given n v ∷ []) parts.1 front rest name value tail)

pub behind_once : (items before : List Item) → OnceBehind before items → is_once before items ≡ true
behind_once [] before once = refl
behind_once (placed w ∷ items) before once = behind_once items (before ++ placed w ∷ []) (λ front rest name value is.
    ap (value_of name) (append_assoc before (placed w ∷ []) front) ∙ once (placed w ∷ front) rest name value (ap (λ xs. placed w ∷ xs) is))
behind_once (given n v ∷ items) before once =
    let none : value_of n before ≡ None = ap (value_of n) (sym (append-nil before)) ∙ once [] items n v refl in
    rw none (behind_once items (before ++ given n v ∷ []) (λ front rest name value is.
    ap (value_of name) (append_assoc before (given n v ∷ []) front) ∙ once (given n v ∷ front) rest name value (ap (λ xs. given n v ∷ xs) is)))

-- what is said is what the words spell, and no option is given twice
pub said_parts : (o : Option (List Item)) (items : List Item) → if_once o ≡ Some items → (o ≡ Some items) × (is_once [] items ≡ true)
said_parts None items e = absurd (cc)
said_parts (Some xs) items e = go (is_once [] xs) refl e
  where
    go : (b : Bool) → is_once [] xs ≡ b → (if b then Some xs else None) ≡ Some items → (Some xs ≡ Some items) × (is_once [] items ≡ true)
    go true f e =
        let is : xs ≡ items = cc in
        (ap Some is, subst (λ (ys : List Item). is_once [] ys ≡ true) is f)
    go false f e = absurd (cc)
