-- The places of a text's lexemes rise.
use Rattle.std.proofs.Common.{◌≡◌, ◌∙◌, ℕ, ◌+◌, ◌-◌, ◌≤◌, Bool, true, false, List, [], ◌∷◌, map, length, refl, sym, subst, arith}
use Rattle.std.specs.Prelude.{Result, Ok, drop}
use Rattle.promql_ast.specs.declared.refusal.QueryRefusal.{QueryRefusal}
use Rattle.promql_ast.specs.declared.tree.Expr.{Expr}
use Rattle.promql_lex.specs.Laws.{AreLaidOut}
use Rattle.promql_lex.specs.Tokens.{is_bad, tokens_of}
use Rattle.promql_lex.specs.declared.token.Token.{Token}
use Rattle.promql_parse.specs.Laws.{ReadIsInGrammar}
use Rattle.promql_parse.specs.Parsing.{Parses}
use Rattle.promql_parts.specs.Lexemes.{lexeme_of}
use Rattle.promql_parts.specs.Patterned.{Becomes, Kept, Patterned}
use Rattle.promql_parts.specs.declared.lexeme.Lexeme.{Lexeme}
use Rattle.promql_type.specs.Edges.{EdgesAreJudgedAlike}
use Rattle.promql_type.specs.Judging.{Judgement}
use Rattle.promql_type.specs.Settled.{settled}
use Rattle.query_places.specs.Apart.{CallsStandApart, StandApart}
use Rattle.query_places.proofs.Spread.{Lie, calls_of, lie_le, phrase_over}

-- lexemes lie up to some place
record Lies (low : ℕ) (ls : List Lexeme) : Type 0 where
  pub high : ℕ
  pub lie : Lie low ls high

lower : (a b high : ℕ) (ls : List Lexeme) → a ≤ b → Lie b ls high → Lie a ls high
lower a b high [] le lie = omega (arith, le, lie)
lower a b high (l ∷ ls) le lie = let k = lie.0 in (omega (arith, le, k), lie.1)

laid : (text whole : List ℕ) (place : ℕ) (ts : List Token) → AreLaidOut place text ts → Lies place (map (lexeme_of whole) ts)
laid text whole place [] is = record { high = place; lie = omega arith }
laid text whole place (t ∷ ts) is = by_kind (is_bad t.kind) refl (λ good. laid (drop (t.end - place) text) whole t.end ts (is.5 good))
  where
    by_kind : (bad : Bool) → is_bad t.kind ≡ bad → (is_bad t.kind ≡ false → Lies t.end (map (lexeme_of whole) ts)) → Lies place (map (lexeme_of whole) (t ∷ ts))
    by_kind true so rest = subst (λ (others : List Token). Lies place (map (lexeme_of whole) (t ∷ others))) (sym (is.4 so)) (record { high = t.at + 1; lie = (is.0, omega arith) })
    by_kind false so rest =
        let given = rest so in
        let before = is.1 in
        record { high = given.high; lie = (is.0, lower (t.at + 1) t.end given.high (map (lexeme_of whole) ts) (omega (arith, before)) given.lie) }

-- a lexeme keeps its place
same_place : {behind : Bool} {before after : Kept} {l m : Lexeme} → Becomes behind before l after m → m.at ≡ l.at
same_place (Becomes.same l is) = refl
same_place (Becomes.other l is) = refl
same_place (Becomes.pattern l m text after behind is at pattern) = at

patterned : {behind : Bool} {before after : Kept} {ls ms : List Lexeme} → Patterned behind before ls after ms → (low high : ℕ) → Lie low ls high → Lie low ms high
patterned Patterned.done = λ low high lie. lie
patterned (Patterned.last l m ls after becomes bad) =
    λ low high lie. let k = lie.0 in let at = same_place becomes in let h = lie_le (l.at + 1) ls high lie.1 in (omega (arith, k, at), omega (arith, at, h))
patterned (Patterned.more l m ls ms then after becomes good rest) =
    λ low high lie.
    let k = lie.0 in
    let at = same_place becomes in
    (omega (arith, k, at), patterned rest (m.at + 1) high (subst (λ (p : ℕ). Lie (p + 1) ls high) (sym at) lie.1))

of_parse : {text : List ℕ} {before after : Kept} {answer : Result Expr QueryRefusal} → ((t : List ℕ) → AreLaidOut 0 t (tokens_of t)) → ReadIsInGrammar → Parses text before after answer
    → (e : Expr) → answer ≡ Ok e → StandApart (calls_of e)
of_parse order grammar (Parses.too_long long) = λ e is. absurd (cc)
of_parse {text = text} order grammar (Parses.read after ls answer few lexed read) =
    λ e is.
    let l = laid text text 0 (tokens_of text) (order text) in
    let tree = grammar (length text) ls e (read ∙ is) in
    (phrase_over tree.2 0 l.high (patterned lexed 0 l.high l.lie)).apart

pub stand_apart : ((text : List ℕ) → AreLaidOut 0 text (tokens_of text)) → ReadIsInGrammar → EdgesAreJudgedAlike → CallsStandApart
stand_apart order grammar alike text before after e closed parses =
    subst (λ (j : Judgement). StandApart j.replacements) (sym (alike closed (settled e))) (of_parse order grammar parses e refl)
