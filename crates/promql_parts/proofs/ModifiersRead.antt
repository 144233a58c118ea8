-- What stands between an operator and its right side is read.
use Rattle.std.proofs.Common.{◌≡◌, ℕ, refl, ap, ◌∙◌, sym, Bool, true, false, cond, List, [], ◌∷◌, ◌++◌, append_assoc}
use Rattle.std.proofs.lemmas.Bool.{cond-true, cond-false}
use Rattle.std.specs.Prelude.{Some, None, Ok}
use Rattle.label_set.specs.declared.rules.Card.{Card}
use Rattle.label_set.specs.declared.rules.Pairing.{Pairing}
use Rattle.promql_parts.specs.Laws.{ModifierIsRead, is_modifier}
use Rattle.promql_parts.specs.Operators.{extra_at, flag_at, group_at, group_begun, group_kind, group_word, is_comparison, is_flag, is_set_operator, listed_at, matching_at, matching_word, pairing_at, pairing_kind, pairing_of}
use Rattle.promql_parts.specs.Productions.{BinModifier, BoolModifier, begins_labels, GroupModifiers, Labels}
use Rattle.promql_parts.specs.Reads.{Read, ◌>>=◌, begins}
use Rattle.promql_parts.specs.Signs.{is_sign}
use Rattle.promql_parts.specs.Steps.{no_some, true_false}
use Rattle.promql_parts.specs.declared.lexeme.Lexeme.{Lexeme}
use Rattle.promql_parts.specs.declared.lexeme.LexemeKind.{LexemeKind}
use Rattle.promql_parts.specs.declared.lexeme.LexemeKind.TheVariants as kinds
use Rattle.promql_parts.specs.declared.lexeme.Sign.TheVariants.{LeftParen}
use Rattle.promql_lex.specs.declared.word.Word.TheVariants.{On, Ignoring, GroupLeft, GroupRight, Bool as Flag}
use Rattle.promql_parts.specs.declared.operator.BinaryOp.{BinaryOp}
use Rattle.promql_parts.specs.declared.operator.Matching.{Matching}
use Rattle.promql_parts.proofs.PartsRead.{labels_read}

no_flag : (k : LexemeKind) → is_modifier k ≡ false → is_flag k ≡ false
no_flag (kinds.Word Flag spelling) is = true_false is
no_flag _ is = refl

no_matching : (k : LexemeKind) → is_modifier k ≡ false → matching_word k ≡ None
no_matching (kinds.Word On spelling) is = true_false is
no_matching (kinds.Word Ignoring spelling) is = true_false is
no_matching _ is = refl

no_group : (k : LexemeKind) → is_modifier k ≡ false → group_word k ≡ None
no_group (kinds.Word GroupLeft spelling) is = true_false is
no_group (kinds.Word GroupRight spelling) is = true_false is
no_group _ is = refl

matching_no_flag : (k : LexemeKind) (on : Bool) → matching_word k ≡ Some on → is_flag k ≡ false
matching_no_flag (kinds.Word On spelling) on is = refl
matching_no_flag (kinds.Word Ignoring spelling) on is = refl
matching_no_flag _ on is = no_some _ is

module _ (op : BinaryOp) (end : ℕ) (l : Lexeme) (ls : List Lexeme) (plain : is_modifier l.kind ≡ false) where
  abbrev with_names : Bool → Read (List (List ℕ)) → Read Pairing
  with_names on q = q >>= λ names. group_kind op on names.0 (group_begun names.1) end names.1

  abbrev with_extra : Bool → List (List ℕ) → Card → Read (List (List ℕ)) → Read Pairing
  with_extra on names card q = q >>= λ extra. Ok (pairing_of on names card extra.0, extra.1)

  -- up to the labels of a matching word
  names_read : (word : Lexeme) (on : Bool) (xs : List Lexeme) (names : List (List ℕ)) (us : List Lexeme) → matching_word word.kind ≡ Some on → Labels [] xs names
      → pairing_at op end (word ∷ xs ++ us) ≡ group_kind op on names (group_begun us) end us
  unfolding listed_at
  names_read word on xs names us is list = ap (λ o. pairing_kind op o end (word ∷ xs ++ us)) is ∙ ap (with_names on) (labels_read [] end list us)

  group_read : (on : Bool) (names : List (List ℕ)) (group : Lexeme) (card : Card) (us : List Lexeme) (extra : List (List ℕ)) (rest : List Lexeme) → group_word group.kind ≡ Some card → is_set_operator op ≡ false
      → extra_at (cond on names []) end us ≡ Ok (extra, rest) → group_kind op on names (group_begun (group ∷ us)) end (group ∷ us) ≡ Ok (pairing_of on names card extra, rest)
  unfolding group_at
  group_read on names group card us extra rest is no_set got =
      ap (λ o. group_kind op on names o end (group ∷ us)) is ∙ cond-false (is_set_operator op) _ _ no_set ∙ ap (with_extra on names card) got

  no_extra : (taken : List (List ℕ)) (us : List Lexeme) → begins LeftParen us ≡ false → extra_at taken end us ≡ Ok ([], us)
  unfolding extra_at
  no_extra taken us none = cond-false (begins LeftParen us) _ _ none

  labels_begin : {taken : List (List ℕ)} {xs : List Lexeme} {labels : List (List ℕ)} → Labels taken xs labels → (us : List Lexeme) → begins LeftParen (xs ++ us) ≡ true
  labels_begin (Labels.none begin close opens closes) us = ap (is_sign LeftParen) opens
  labels_begin (Labels.listed begin close opens list closes split) us = ap (λ z. begins LeftParen (z ++ us)) split ∙ ap (is_sign LeftParen) opens
  labels_begin (Labels.last_comma begin comma close opens list is_comma closes split) us = ap (λ z. begins LeftParen (z ++ us)) split ∙ ap (is_sign LeftParen) opens

  some_extra : (taken : List (List ℕ)) {xs : List Lexeme} {labels : List (List ℕ)} → Labels taken xs labels → (us : List Lexeme) → extra_at taken end (xs ++ us) ≡ Ok (labels, us)
  unfolding extra_at
  some_extra taken {xs} list us = cond-true (begins LeftParen (xs ++ us)) _ _ (labels_begin list us) ∙ labels_read taken end list us

  pairing_read : (xs : List Lexeme) (pairing : Pairing) (bare : Bool) → GroupModifiers op xs pairing bare → begins_labels bare (l ∷ ls) ≡ false → pairing_at op end (xs ++ l ∷ ls) ≡ Ok (pairing, l ∷ ls)
  pairing_read xs pairing bare GroupModifiers.none apart = ap (λ o. pairing_kind op o end (l ∷ ls)) (no_matching l.kind plain)
  pairing_read xs pairing bare (GroupModifiers.listed {xs = ys} {names = names} word on is list) apart =
      names_read word on ys names (l ∷ ls) is list ∙ ap (λ o. group_kind op on names o end (l ∷ ls)) (no_group l.kind plain)
  pairing_read us pairing bare (GroupModifiers.grouped {xs = ys} {names = names} word group on card is list is_group no_set split) apart =
      ap (λ z. pairing_at op end (z ++ l ∷ ls)) split ∙ ap (λ z. pairing_at op end (word ∷ z)) (append_assoc ys (group ∷ []) (l ∷ ls))
      ∙ names_read word on ys names (group ∷ l ∷ ls) is list ∙ group_read on names group card (l ∷ ls) [] (l ∷ ls) is_group no_set (no_extra (cond on names []) (l ∷ ls) apart)
  pairing_read us pairing bare (GroupModifiers.grouped_with {xs = ys} {ys = zs} {names = names} {extra = extra} word group on card is list is_group no_set others split) apart =
      ap (λ z. pairing_at op end (z ++ l ∷ ls)) split ∙ ap (λ z. pairing_at op end (word ∷ z)) (append_assoc ys (group ∷ zs) (l ∷ ls))
      ∙ names_read word on ys names (group ∷ zs ++ l ∷ ls) is list ∙ group_read on names group card (zs ++ l ∷ ls) extra (l ∷ ls) is_group no_set (some_extra (cond on names []) others (l ∷ ls))

  pairing_no_flag : {xs : List Lexeme} {pairing : Pairing} {bare : Bool} → GroupModifiers op xs pairing bare → flag_at op end (xs ++ l ∷ ls) ≡ Ok (false, xs ++ l ∷ ls)
  pairing_no_flag GroupModifiers.none = cond-false (is_flag l.kind) _ _ (no_flag l.kind plain)
  pairing_no_flag (GroupModifiers.listed word on is list) = cond-false (is_flag word.kind) _ _ (matching_no_flag word.kind on is)
  pairing_no_flag (GroupModifiers.grouped {us = us} {xs = ys} word group on card is list is_group no_set split) =
      ap (λ z. flag_at op end (z ++ l ∷ ls)) split ∙ cond-false (is_flag word.kind) _ _ (matching_no_flag word.kind on is) ∙ ap (λ z. Ok (false, z ++ l ∷ ls)) (sym split)
  pairing_no_flag (GroupModifiers.grouped_with {us = us} {xs = ys} word group on card is list is_group no_set others split) =
      ap (λ z. flag_at op end (z ++ l ∷ ls)) split ∙ cond-false (is_flag word.kind) _ _ (matching_no_flag word.kind on is) ∙ ap (λ z. Ok (false, z ++ l ∷ ls)) (sym split)

  flag_read : {xs ys : List Lexeme} {flag bare : Bool} {pairing : Pairing} → BoolModifier op xs flag → GroupModifiers op ys pairing bare → flag_at op end (xs ++ (ys ++ l ∷ ls)) ≡ Ok (flag, ys ++ l ∷ ls)
  flag_read BoolModifier.none others = pairing_no_flag others
  flag_read (BoolModifier.flag word is compares) others = cond-true (is_flag word.kind) _ _ (ap is_flag is.1) ∙ cond-true (is_comparison op) _ _ compares

  modifier_read : (us : List Lexeme) (matching : Matching) (bare : Bool) → BinModifier op us matching bare → begins_labels bare (l ∷ ls) ≡ false → matching_at op end (us ++ l ∷ ls) ≡ Ok (matching, l ∷ ls)
  unfolding matching_at
  modifier_read us matching bare (BinModifier.modifier {xs = xs} {ys = ys} {flag = flag} {pairing = pairing} is others split) apart =
      ap (λ z. matching_at op end (z ++ l ∷ ls)) split ∙ ap (matching_at op end) (append_assoc xs ys (l ∷ ls))
      ∙ ap (λ (q : Read Bool). q >>= λ flag. pairing_at op end flag.1 >>= λ pairing. Ok (record { flag = flag.0; pairing = pairing.0 }, pairing.1)) (flag_read is others)
      ∙ ap (λ (q : Read Pairing). q >>= λ pairing. Ok (record { flag = flag; pairing = pairing.0 }, pairing.1)) (pairing_read ys pairing bare others apart)

pub modifier_is_read : ModifierIsRead
modifier_is_read op end xs matching bare is l ls plain apart = modifier_read op end l ls plain xs matching bare is apart
