-- The steps of the levels and of the nesting.
use Rattle.std.proofs.Common.{◌≡◌, ℕ, zero, suc, ◌-◌, ◌<◌, ap, ◌∙◌, sym, List, arith}
use Rattle.std.specs.Prelude.{Ok, Err}
use Rattle.promql_ast.specs.declared.refusal.QueryRefusal.TheVariants.{TooDeep}
use Rattle.promql_lex.specs.declared.fault.LexFault.{LexFault}
use Rattle.promql_lex.specs.declared.fault.LexFault.TheVariants as faults
use Rattle.promql_parse.specs.Reading.{Opens, chain_turn, level_at, unary_at, within}
use Rattle.promql_parse.specs.declared.build.Built.{Built}
use Rattle.promql_parts.specs.Reads.{Fails, ◌>>=◌, all_turns}
use Rattle.promql_parts.specs.Turns.{Going, begun}
use Rattle.promql_parts.specs.declared.lexeme.Lexeme.{Lexeme}

module _ (end : ℕ) where
  pub too_deep : (budget at : ℕ) → budget ≡ 0 → within end budget at ≡ Err (TooDeep at)
  unfolding within
  too_deep budget at is = ap (λ b. within end b at) is

  pub deeper : (budget at : ℕ) → 0 < budget → within end budget at ≡ Ok (level_at end (within end (budget - 1)))
  unfolding within
  deeper zero at some = absurd (omega (arith, some))
  deeper (suc more) at some = ap (λ b. Ok (level_at end (within end b))) (omega arith)

  pub level_zero : (opens : Opens) (level : ℕ) (ls : List Lexeme) → level ≡ 0 → level_at end opens level ls ≡ unary_at end opens ls
  unfolding level_at
  level_zero opens level ls is = ap (λ l. level_at end opens l ls) is

  pub level_up : (opens : Opens) (level : ℕ) (ls : List Lexeme) → 0 < level
      → level_at end opens level ls ≡ (level_at end opens (level - 1) ls >>= λ first. all_turns (chain_turn end level (level_at end opens (level - 1))) first.0 first.1)
  unfolding level_at
  level_up opens zero ls some = absurd (omega (arith, some))
  level_up opens (suc level) ls some =
      let same : level ≡ suc level - 1 = omega arith in
      ap (λ l. level_at end opens l ls >>= λ first. all_turns (chain_turn end (suc level) (level_at end opens l)) first.0 first.1) same

  pub fails_up : (opens : Opens) (level : ℕ) (ls : List Lexeme) (e : LexFault) → 0 < level → Fails e (level_at end opens (level - 1) ls) → Fails e (level_at end opens level ls)
  fails_up opens level ls faults.Memory some is = tt
  fails_up opens level ls (faults.Refused r) some is =
      level_up opens level ls some ∙ ap (λ q. q >>= λ first. all_turns (chain_turn end level (level_at end opens (level - 1))) first.0 first.1) is

  pub chain_begun : (opens : Opens) (level : ℕ) (ls : List Lexeme) (left : Built) (rest : List Lexeme) → 0 < level → level_at end opens (level - 1) ls ≡ Ok (left, rest)
      → Going (chain_turn end level (level_at end opens (level - 1))) left rest (level_at end opens level ls)
  chain_begun opens level ls left rest some is =
      let start = begun (chain_turn end level (level_at end opens (level - 1))) left rest in
      record {
        room = start.room;
        enough = start.enough;
        same = start.same ∙ sym (level_up opens level ls some ∙ ap (λ q. q >>= λ first. all_turns (chain_turn end level (level_at end opens (level - 1))) first.0 first.1) is);
      }
