-- Lists whose items are parted by commas.
use Rattle.std.proofs.Common.{◌≡◌, ℕ, ◌+◌, ◌++◌, Bool, true, false, List, [], ◌∷◌, length, map, refl, ap, sym, subst, append_assoc, codes}
use Rattle.std.specs.List.{AllByRecursion}
use Rattle.promql_parts.specs.Patterned.{Kept}
use Rattle.promql_parts.specs.Productions.{IsSign}
use Rattle.promql_parts.specs.declared.lexeme.Lexeme.{Lexeme}
use Rattle.promql_parts.specs.declared.lexeme.LexemeKind.TheVariants as kinds
use Rattle.promql_parts.specs.declared.lexeme.Sign.TheVariants.{Comma}
use Rattle.promql_print.specs.Labels.{parted}
use Rattle.print_laws.proofs.Bytes.{ends_name}
use Rattle.print_laws.proofs.Lexed.{Reads, always, blank, joined, lexeme, nothing}
use Rattle.print_laws.proofs.Marks.{comma_sign}

pub append_nil : {X : Type 0} (xs : List X) → xs ++ [] ≡ xs
append_nil [] = refl
append_nil (x ∷ xs) = ap (λ ys. x ∷ ys) (append_nil xs)

-- an item is told at a place by lexemes that are a list alone and go on with a list
pub record ItemTold {X : Type 0} (kept : Kept) (IsList : List Lexeme → List X → Type 0) (text : X → List ℕ) (at : ℕ) (x : X) : Type 0 where
  pub ls : List Lexeme
  pub reads : Reads kept ends_name false false at (text x) ls
  pub alone : IsList ls (x ∷ [])
  pub behind : (sign : Lexeme) → IsSign Comma sign → (xs : List Lexeme) (ys : List X) → IsList xs ys → IsList (xs ++ sign ∷ ls) (ys ++ x ∷ [])

-- a list is told
pub record ListTold {X : Type 0} (kept : Kept) (IsList : List Lexeme → List X → Type 0) (text : X → List ℕ) (started : Bool) (at : ℕ) (front : List Lexeme) (before xs : List X) : Type 0 where
  pub ls : List Lexeme
  pub is : IsList (front ++ ls) (before ++ xs)
  pub reads : Reads kept ends_name false false at (parted started (map text xs)) ls

module _ {X : Type 0} {kept : Kept} (IsList : List Lexeme → List X → Type 0) (text : X → List ℕ) (Known : X → Type 0) (item : (at : ℕ) (x : X) → Known x → ItemTold kept IsList text at x) where
  -- a comma and a blank
  gap : (at : ℕ) → Reads kept always false false at (codes ", ") (lexeme at (kinds.Sign Comma) ∷ [])
  gap at = joined (comma_sign at) blank (λ rest ok. refl)

  rest_ends : (xs : List X) (rest : List ℕ) → ends_name rest ≡ true → ends_name (parted true (map text xs) ++ rest) ≡ true
  rest_ends [] rest ok = ok
  rest_ends (x ∷ xs) rest ok = refl

  pub rest_told : (at : ℕ) (front : List Lexeme) (before xs : List X) → IsList front before → AllByRecursion Known xs → ListTold kept IsList text true at front before xs
  rest_told at front before [] is known =
      record { ls = []; is = subst (λ ls. IsList ls (before ++ [])) (sym (append_nil front)) (subst (IsList front) (sym (append_nil before)) is); reads = nothing }
  rest_told at front before (x ∷ xs) is known =
      let told = item (at + 2) x known.0 in
      let sign : Lexeme = lexeme at (kinds.Sign Comma) in
      let more = rest_told (at + 2 + length (text x)) (front ++ sign ∷ told.ls) (before ++ x ∷ []) xs (told.behind sign refl front before is) known.1 in
      record {
        ls = (sign ∷ []) ++ (told.ls ++ more.ls);
        is =
            subst (λ ls. IsList ls (before ++ x ∷ xs)) (append_assoc front (sign ∷ told.ls) more.ls)
            (subst (λ ys. IsList ((front ++ sign ∷ told.ls) ++ more.ls) ys) (append_assoc before (x ∷ []) xs) more.is);
        reads = joined (gap at) (joined told.reads more.reads (rest_ends xs)) (λ rest ok. refl);
      }

  pub list_told : (at : ℕ) (x : X) (xs : List X) → Known x → AllByRecursion Known xs → ListTold kept IsList text false at [] [] (x ∷ xs)
  list_told at x xs one known =
      let told = item at x one in
      let more = rest_told (at + length (text x)) told.ls (x ∷ []) xs told.alone known in
      record { ls = told.ls ++ more.ls; is = more.is; reads = joined told.reads more.reads (rest_ends xs) }
