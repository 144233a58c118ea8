-- Operands of the grammar as the reader makes them.
use Rattle.std.proofs.Common.{◌≡◌, ◌<◌, ℕ, ◌+◌, ◌-◌, refl, ap, ◌∙◌, sym, true, List, arith}
use Rattle.std.specs.Prelude.{Option, Some, None}
use Rattle.label_set.specs.declared.rules.Rule.{Rule}
use Rattle.promql_ast.specs.declared.tree.Fixed.{Fixed}
use Rattle.promql_ast.specs.declared.tree.Moment.{Moment}
use Rattle.promql_ast.specs.declared.tree.Node.TheVariants.{Select, Range, Subquery}
use Rattle.promql_parse.specs.Build.{is_plain, may_fix, may_offset, moment_of, operand_built, selector_of, tree}
use Rattle.promql_parse.specs.Grammar.{Operand, Term, another, a_range, a_selector, a_subquery, takes_modifiers, term_tree}
use Rattle.promql_parse.specs.declared.build.Operand.{Operand as Made}
use Rattle.promql_parse.specs.declared.build.Part.{Part}
use Rattle.promql_parse.specs.declared.build.Part.TheVariants as parts
use Rattle.promql_parts.specs.Steps.{true_false}
use Rattle.promql_parts.specs.declared.lexeme.Lexeme.{Lexeme}
use Rattle.ticks.specs.declared.moment.Ms.{Ms}
use Rattle.promql_parse.proofs.Cuts.{cut, cut_stepped}

abbrev pub part_of : Term → ℕ → Part
part_of (a_selector rules) depth = parts.Selector rules
part_of (a_range rules length) depth = parts.Range rules length
part_of (a_subquery e length step) depth = parts.Subquery (cut e (depth - 1)) length step
part_of (another e) depth = parts.Other (cut e depth)

abbrev pub operand_of : ℕ → Term → Option Ms → Option Fixed → ℕ → Made
operand_of at term offset fixed depth = record { at = at; part = part_of term depth; offset = offset; fixed = fixed }

abbrev pub IsSized : Term → ℕ → Type 0
IsSized (a_selector rules) depth = depth ≡ 1
IsSized (a_range rules length) depth = depth ≡ 1
IsSized (a_subquery e length step) depth = 0 < depth
IsSized (another e) depth = Unit {0}

pub sized : {b at d : ℕ} {term : Term} {offset : Option Ms} {fixed : Option Fixed} {xs : List Lexeme} → Operand b term offset fixed xs at d → IsSized term d
sized (Operand.selector is) = refl
sized (Operand.primary is) = tt
sized (Operand.range p brackets split) = sized p
sized (Operand.subquery {d = d} p brackets split) = omega arith
sized (Operand.offset p takes behind split) = sized p
sized (Operand.time p takes behind split) = sized p

-- an operand's tree stands where it begins
pub placed : {b at d : ℕ} {term : Term} {offset : Option Ms} {fixed : Option Fixed} {xs : List Lexeme} → Operand b term offset fixed xs at d → (moment : Moment) → (term_tree at term moment).at ≡ at
placed (Operand.selector is) moment = refl
placed (Operand.primary is) moment = refl
placed (Operand.range p brackets split) moment = refl
placed (Operand.subquery p brackets split) moment = refl
placed (Operand.offset p takes behind split) moment = placed p moment
placed (Operand.time p takes behind split) moment = placed p moment

pub built_so : (at : ℕ) (term : Term) (offset : Option Ms) (fixed : Option Fixed) (depth : ℕ) → IsSized term depth
    → operand_built (operand_of at term offset fixed depth) ≡ cut (term_tree at term (moment_of offset fixed)) depth
built_so at (a_selector rules) offset fixed depth is = ap (cut (tree at (Select (selector_of rules (moment_of offset fixed))))) (sym is)
built_so at (a_range rules length) offset fixed depth is = ap (cut (tree at (Range (selector_of rules (moment_of offset fixed)) length))) (sym is)
built_so at (a_subquery e length step) offset fixed depth is =
    let same : depth - 1 + 1 ≡ depth = omega (arith, is) in
    cut_stepped e (depth - 1) at length step (moment_of offset fixed) ∙ ap (cut (tree at (Subquery e length step (moment_of offset fixed)))) same
built_so at (another e) offset fixed depth is = refl

-- a range stands behind a selector without modifiers
pub data IsPlain : Term → Option Ms → Option Fixed → Type 0 where
  plain : (rules : List Rule) → IsPlain (a_selector rules) None None

pub plain_found : (at : ℕ) (term : Term) (offset : Option Ms) (fixed : Option Fixed) (depth : ℕ) → is_plain (operand_of at term offset fixed depth) ≡ true → IsPlain term offset fixed
plain_found at (a_selector rules) None None depth is = IsPlain.plain rules
plain_found at (a_selector rules) None (Some time) depth is = true_false (sym is)
plain_found at (a_selector rules) (Some offset) fixed depth is = true_false (sym is)
plain_found at (a_range rules length) offset fixed depth is = true_false (sym is)
plain_found at (a_subquery e length step) offset fixed depth is = true_false (sym is)
plain_found at (another e) offset fixed depth is = true_false (sym is)

pub offset_found : (at : ℕ) (term : Term) (offset : Option Ms) (fixed : Option Fixed) (depth : ℕ) → may_offset (operand_of at term offset fixed depth) ≡ true
    → (takes_modifiers term ≡ true) × (offset ≡ None)
offset_found at (a_selector rules) None fixed depth is = (refl, refl)
offset_found at (a_range rules length) None fixed depth is = (refl, refl)
offset_found at (a_subquery e length step) None fixed depth is = (refl, refl)
offset_found at (another e) offset fixed depth is = true_false (sym is)
offset_found at _ (Some offset) fixed depth is = true_false (sym is)

pub time_found : (at : ℕ) (term : Term) (offset : Option Ms) (fixed : Option Fixed) (depth : ℕ) → may_fix (operand_of at term offset fixed depth) ≡ true
    → (takes_modifiers term ≡ true) × (fixed ≡ None)
time_found at (a_selector rules) offset None depth is = (refl, refl)
time_found at (a_range rules length) offset None depth is = (refl, refl)
time_found at (a_subquery e length step) offset None depth is = (refl, refl)
time_found at (another e) offset fixed depth is = true_false (sym is)
time_found at _ offset (Some time) depth is = true_false (sym is)
