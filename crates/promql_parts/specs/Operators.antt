-- Binary operators, from the tightest to the loosest, and `bin_modifier` of Prometheus' grammar: how their sides are matched.
use Rattle.std.specs.Prelude.{ℕ, Bool, true, false, ◌==◌, if◌then◌else◌, List, [], ◌∷◌, drop, Option, Some, None, Ok, Err}
use Rattle.func_table.specs.declared.table.SetOp.TheVariants as sets
use Rattle.label_set.specs.declared.rules.Card.{Card}
use Rattle.label_set.specs.declared.rules.Card.TheVariants.{OneToOne, GroupLeft as ManyLeft, GroupRight as ManyRight}
use Rattle.label_set.specs.declared.rules.Pairing.{Pairing}
use Rattle.promql_parts.specs.declared.lexeme.Lexeme.{Lexeme}
use Rattle.promql_parts.specs.declared.lexeme.LexemeKind.{LexemeKind}
use Rattle.promql_parts.specs.declared.lexeme.LexemeKind.TheVariants as kinds
use Rattle.promql_parts.specs.declared.lexeme.Sign.TheVariants.{LeftParen, Plus, Minus, Star, Slash, Percent, Caret, EqualTwice, Unequal, Less, LessEqual, Greater, GreaterEqual}
use Rattle.promql_lex.specs.declared.word.Word.TheVariants.{And, Or, Unless, On, Ignoring, GroupLeft, GroupRight, Bool as Flag}
use Rattle.promql_parts.specs.declared.operator.BinaryOp.{BinaryOp}
use Rattle.promql_parts.specs.declared.operator.BinaryOp.TheVariants.{Arith, Compare, Set}
use Rattle.promql_parts.specs.declared.operator.Matching.{Matching}
use Rattle.promql_parts.specs.Reads.{Read, ◌>>=◌, refused, refused_at, begins}
use Rattle.promql_parts.specs.Labels.{labels_at}
use Rattle.xfrac.specs.declared.value.ArithOp.TheVariants as arith
use Rattle.xfrac.specs.declared.value.CompareOp.TheVariants as comparison

-- `^` is of level 0, `* / %` of 1, `+ -` of 2, comparisons of 3, `and unless` of 4 and `or` of 5: a lower level binds tighter
abbrev pub operator_of : LexemeKind → Option (ℕ × BinaryOp)
operator_of (kinds.Sign Caret) = Some (0, Arith arith.Pow)
operator_of (kinds.Sign Star) = Some (1, Arith arith.Mul)
operator_of (kinds.Sign Slash) = Some (1, Arith arith.Div)
operator_of (kinds.Sign Percent) = Some (1, Arith arith.Rem)
operator_of (kinds.Sign Plus) = Some (2, Arith arith.Add)
operator_of (kinds.Sign Minus) = Some (2, Arith arith.Sub)
operator_of (kinds.Sign EqualTwice) = Some (3, Compare comparison.Eq)
operator_of (kinds.Sign Unequal) = Some (3, Compare comparison.Ne)
operator_of (kinds.Sign Less) = Some (3, Compare comparison.Lt)
operator_of (kinds.Sign LessEqual) = Some (3, Compare comparison.Le)
operator_of (kinds.Sign Greater) = Some (3, Compare comparison.Gt)
operator_of (kinds.Sign GreaterEqual) = Some (3, Compare comparison.Ge)
operator_of (kinds.Word And spelling) = Some (4, Set sets.And)
operator_of (kinds.Word Unless spelling) = Some (4, Set sets.Unless)
operator_of (kinds.Word Or spelling) = Some (5, Set sets.Or)
operator_of _ = None

-- an operator of this level
abbrev pub of_level : ℕ → Option (ℕ × BinaryOp) → Option BinaryOp
of_level level None = None
of_level level (Some (other, op)) = if other == level then Some op else None

abbrev pub op_of : ℕ → LexemeKind → Option BinaryOp
op_of level kind = of_level level (operator_of kind)

abbrev pub op_at : ℕ → List Lexeme → Option BinaryOp
op_at level [] = None
op_at level (l ∷ ls) = op_of level l.kind

abbrev pub is_comparison : BinaryOp → Bool
is_comparison (Compare op) = true
is_comparison _ = false

abbrev pub is_set_operator : BinaryOp → Bool
is_set_operator (Set op) = true
is_set_operator _ = false

abbrev pub pairing_of : Bool → List (List ℕ) → Card → List (List ℕ) → Pairing
pairing_of on names card extra = record { on = on; names = names; card = card; extra = extra }

-- without matching words all labels count
abbrev pub no_pairing : Pairing
no_pairing = pairing_of false [] OneToOne []

abbrev pub is_flag : LexemeKind → Bool
is_flag (kinds.Word Flag spelling) = true
is_flag _ = false

-- `bool` stands behind a comparison alone
abbrev pub flag_at : BinaryOp → ℕ → List Lexeme → Read Bool
flag_at op end [] = Ok (false, [])
flag_at op end (l ∷ ls) = if is_flag l.kind then (if is_comparison op then Ok (true, ls) else Err (refused l)) else Ok (false, l ∷ ls)

-- `on` and `ignoring`
abbrev pub matching_word : LexemeKind → Option Bool
matching_word (kinds.Word On spelling) = Some true
matching_word (kinds.Word Ignoring spelling) = Some false
matching_word _ = None

abbrev pub matching_begun : List Lexeme → Option Bool
matching_begun [] = None
matching_begun (l ∷ ls) = matching_word l.kind

abbrev pub group_word : LexemeKind → Option Card
group_word (kinds.Word GroupLeft spelling) = Some ManyLeft
group_word (kinds.Word GroupRight spelling) = Some ManyRight
group_word _ = None

abbrev pub group_begun : List Lexeme → Option Card
group_begun [] = None
group_begun (l ∷ ls) = group_word l.kind

-- the labels of a group, if they are there, none of which is among those of `on`
unfoldable pub extra_at : List (List ℕ) → ℕ → List Lexeme → Read (List (List ℕ))
extra_at taken end ls = if begins LeftParen ls then labels_at taken end ls else Ok ([], ls)

unfoldable pub group_at : Bool → List (List ℕ) → Card → ℕ → List Lexeme → Read Pairing
group_at on names card end ls = extra_at (if on then names else []) end ls >>= λ extra. Ok (pairing_of on names card extra.0, extra.1)

-- a group word doesn't stand behind a set operator
abbrev pub group_kind : BinaryOp → Bool → List (List ℕ) → Option Card → ℕ → List Lexeme → Read Pairing
group_kind op on names None end ls = Ok (pairing_of on names OneToOne [], ls)
group_kind op on names (Some card) end ls = if is_set_operator op then Err (refused_at end ls) else group_at on names card end (drop 1 ls)

unfoldable pub listed_at : BinaryOp → Bool → ℕ → List Lexeme → Read Pairing
listed_at op on end ls = labels_at [] end ls >>= λ names. group_kind op on names.0 (group_begun names.1) end names.1

abbrev pub pairing_kind : BinaryOp → Option Bool → ℕ → List Lexeme → Read Pairing
pairing_kind op None end ls = Ok (no_pairing, ls)
pairing_kind op (Some on) end ls = listed_at op on end (drop 1 ls)

abbrev pub pairing_at : BinaryOp → ℕ → List Lexeme → Read Pairing
pairing_at op end ls = pairing_kind op (matching_begun ls) end ls

-- what stands between an operator and its right side
unfoldable pub matching_at : BinaryOp → ℕ → List Lexeme → Read Matching
matching_at op end ls = do
  flag ← flag_at op end ls
  pairing ← pairing_at op end flag.1
  Ok (record { flag = flag.0; pairing = pairing.0 }, pairing.1)
