-- Arguments that are read are in the grammar.
use Rattle.std.proofs.Common.{◌≡◌, ◌<◌, ℕ, zero, suc, ◌+◌, max, refl, ap, ◌∙◌, sym, subst, ⊎_elim, Bool, cond, List, [], ◌∷◌, ◌++◌, append_assoc, length, length-append, arith}
use Rattle.std.specs.Prelude.{Ok}
use Rattle.promql_ast.specs.declared.tree.Expr.{Expr}
use Rattle.promql_parse.specs.Build.{add}
use Rattle.promql_parse.specs.Grammar.{ArgumentList, Body, Phrase}
use Rattle.promql_parse.specs.Reading.{arguments_at, arguments_turn, body_at}
use Rattle.promql_parse.specs.declared.build.Arguments.{Arguments}
use Rattle.promql_parse.specs.declared.build.Built.{Built}
use Rattle.promql_parts.specs.Labels.{item_behind}
use Rattle.promql_parts.specs.Productions.{IsSign}
use Rattle.promql_parts.specs.Reads.{Read, after, turns}
use Rattle.promql_parts.specs.Steps.{after_found, bind_ok, item_found, same_ok}
use Rattle.promql_parts.specs.declared.lexeme.Lexeme.{Lexeme}
use Rattle.promql_parts.specs.declared.lexeme.Sign.TheVariants.{LeftParen, RightParen, Comma}
use Rattle.promql_parse.proofs.Cuts.{cut, cut_add, cut_arguments}

-- the lexemes begin with a phrase of this level, and it was made so
pub record Parsed (b level : ℕ) (ls : List Lexeme) (made : Built) (rest : List Lexeme) : Type 0 where
  pub front : List Lexeme
  pub e : Expr
  pub depth : ℕ
  pub split : ls ≡ front ++ rest
  pub phrase : Phrase b level front e depth
  pub made_so : made ≡ cut e depth

-- what stands before an argument: nothing, or arguments and a comma
pub data Before (b : ℕ) : List Lexeme → List Expr → ℕ → Type 0 where
  start : Before b [] [] 0
  behind : {m : ℕ} {us xs : List Lexeme} {es : List Expr} (c : Lexeme) → ArgumentList b xs es m → IsSign Comma c → us ≡ xs ++ c ∷ [] → Before b us es m

pub added : {b m : ℕ} {us : List Lexeme} {es : List Expr} → Before b us es m → (ys : List Lexeme) (e : Expr) (n : ℕ) → Phrase b 5 ys e n → ArgumentList b (us ++ ys) (es ++ e ∷ []) (max m n)
added {b} Before.start ys e n phrase = let same : n ≡ max 0 n = omega arith in subst (ArgumentList b ys (e ∷ [])) same (ArgumentList.one phrase)
added (Before.behind {us = us} {xs = xs} c list comma split) ys e n phrase = ArgumentList.more c list comma phrase (ap (λ z. z ++ ys) split ∙ append_assoc xs (c ∷ []) ys)

module _ (end b : ℕ) (reader : List Lexeme → Read Built) (sound : (ls : List Lexeme) (made : Built) (rest : List Lexeme) → reader ls ≡ Ok (made, rest) → Parsed b 5 ls made rest) where
  pub record Listed (us ls : List Lexeme) (made : Arguments) (rest : List Lexeme) : Type 0 where
    pub mid : List Lexeme
    pub es : List Expr
    pub depth : ℕ
    pub split : ls ≡ mid ++ rest
    pub list : ArgumentList b (us ++ mid) es depth
    pub made_so : made ≡ cut_arguments es depth

  at_close : (us ls front mid rest : List Lexeme) (es : List Expr) (d : ℕ) (made : Arguments) → ls ≡ front ++ mid → mid ≡ rest → ArgumentList b (us ++ front) es d → made ≡ cut_arguments es d
      → Listed us ls made rest
  at_close us ls front mid rest es d made split ends list so = record { mid = front; es = es; depth = d; split = split ∙ ap (λ x. front ++ x) ends; list = list; made_so = so }

  after_comma : (us ls front mid rest : List Lexeme) (u : Lexeme) (made : Arguments) → ls ≡ front ++ u ∷ mid → Listed (us ++ (front ++ u ∷ [])) mid made rest → Listed us ls made rest
  after_comma us ls front mid rest u made split next = record {
    mid = front ++ u ∷ next.mid;
    es = next.es;
    depth = next.depth;
    split = split ∙ ap (λ x. front ++ u ∷ x) next.split ∙ sym (append_assoc front (u ∷ next.mid) rest);
    list = subst (λ v. ArgumentList b v next.es next.depth) (append_assoc us (front ++ u ∷ []) next.mid ∙ ap (λ x. us ++ x) (append_assoc front (u ∷ []) next.mid)) next.list;
    made_so = next.made_so;
  }

  shorter : (n : ℕ) (ls front mid : List Lexeme) (u : Lexeme) → ls ≡ front ++ u ∷ mid → length ls < suc n → length mid < n
  shorter n ls front mid u split room = let sizes : length ls ≡ length front + length (u ∷ mid) = ap length split ∙ length-append front (u ∷ mid) in omega (arith, sizes, room)

  abbrev pub TurnsFound : ℕ → Type 0
  TurnsFound n = (us : List Lexeme) (es : List Expr) (m : ℕ) (ls : List Lexeme) (made : Arguments) (rest : List Lexeme) → Before b us es m → length ls < n
      → turns (arguments_turn end reader) n (cut_arguments es m) ls ≡ Ok (made, rest) → Listed us ls made rest

  -- behind an argument
  argument_next : (n : ℕ) → TurnsFound n → (us front ls mid : List Lexeme) (es : List Expr) (d : ℕ) (all : Arguments) → ls ≡ front ++ mid → ArgumentList b (us ++ front) es d → all ≡ cut_arguments es d
      → length ls < suc n → (another : Bool) (tail : List Lexeme) → item_behind end RightParen mid ≡ Ok (another, tail) → (made : Arguments) (rest : List Lexeme)
      → cond another (turns (arguments_turn end reader) n all tail) (Ok (all, tail)) ≡ Ok (made, rest) → Listed us ls made rest
  argument_next n more us front ls mid es d all split list so room another tail read made rest go =
      ⊎_elim
      (λ q.
      let whole : ls ≡ front ++ q.1.0 ∷ tail = split ∙ ap (λ x. front ++ x) q.1.1 in
      after_comma us ls front tail rest q.1.0 made whole
      (more (us ++ (front ++ q.1.0 ∷ [])) es d tail made rest (Before.behind q.1.0 list q.1.2 (sym (append_assoc us front (q.1.0 ∷ [])))) (shorter n ls front tail q.1.0 whole room)
      (ap (λ a. turns (arguments_turn end reader) n a tail) (sym so) ∙ sym (ap (λ b. cond b (turns (arguments_turn end reader) n all tail) (Ok (all, tail))) q.0) ∙ go)))
      (λ q.
      let ends = same_ok (all, tail) (made, rest) (sym (ap (λ b. cond b (turns (arguments_turn end reader) n all tail) (Ok (all, tail))) q.0) ∙ go) in
      at_close us ls front mid rest es d made split (q.1 ∙ ap (λ x. x.1) ends) list (sym (ap (λ x. x.0) ends) ∙ so))
      (item_found end RightParen mid another tail read)

  pub turns_found : (n : ℕ) → TurnsFound n
  unfolding turns arguments_turn
  turns_found zero us es m ls made rest before room read = absurd (omega (arith, room))
  turns_found (suc n) us es m ls made rest before room read =
      let turned = bind_ok (arguments_turn end reader (cut_arguments es m) ls) _ _ read in
      let r = bind_ok (reader ls) _ _ turned.1 in
      let i = bind_ok (item_behind end RightParen r.0.1) _ _ r.2 in
      let p = sound ls r.0.0 r.0.1 r.1 in
      argument_next n (turns_found n) us p.front ls r.0.1 (es ++ p.e ∷ []) (max m p.depth) (add (cut_arguments es m) r.0.0) p.split (added before p.front p.e p.depth p.phrase)
      (ap (add (cut_arguments es m)) p.made_so ∙ cut_add es p.e m p.depth) room i.0.0 i.0.1 i.1 made rest
      (ap (λ x. cond x.0 (turns (arguments_turn end reader) n x.1 x.2) (Ok (x.1, x.2))) (same_ok _ _ i.2) ∙ turned.2)

  pub record InParens (begin : Lexeme) (ls : List Lexeme) (made : Arguments) (rest : List Lexeme) : Type 0 where
    pub front : List Lexeme
    pub es : List Expr
    pub depth : ℕ
    pub split : ls ≡ front ++ rest
    pub body : Body b (begin ∷ front) es depth
    pub made_so : made ≡ cut_arguments es depth

  -- from behind the opening parenthesis
  pub arguments_found : (begin : Lexeme) → IsSign LeftParen begin → (ls : List Lexeme) (made : Arguments) (rest : List Lexeme) → arguments_at end reader ls ≡ Ok (made, rest)
      → InParens begin ls made rest
  unfolding arguments_at
  arguments_found begin opens ls made rest read =
      let t = bind_ok _ _ _ read in
      let c = bind_ok _ _ _ t.2 in
      let all = turns_found (suc (length ls)) [] [] 0 ls t.0.0 t.0.1 Before.start (omega arith) t.1 in
      let close = after_found end RightParen t.0.1 c.0 c.1 in
      let ends = same_ok _ _ c.2 in
      record {
        front = all.mid ++ close.0 ∷ [];
        es = all.es;
        depth = all.depth;
        split = all.split ∙ ap (λ x. all.mid ++ x) (close.1 ∙ ap (λ x. close.0 ∷ x) (ap (λ x. x.1) ends)) ∙ sym (append_assoc all.mid (close.0 ∷ []) rest);
        body = Body.body begin close.0 opens all.list close.2 refl;
        made_so = sym (ap (λ x. x.0) ends) ∙ all.made_so;
      }

  pub record BodyFound (ls : List Lexeme) (made : Arguments) (rest : List Lexeme) : Type 0 where
    pub front : List Lexeme
    pub es : List Expr
    pub depth : ℕ
    pub split : ls ≡ front ++ rest
    pub body : Body b front es depth
    pub made_so : made ≡ cut_arguments es depth

  pub body_found : (ls : List Lexeme) (made : Arguments) (rest : List Lexeme) → body_at end reader ls ≡ Ok (made, rest) → BodyFound ls made rest
  unfolding body_at
  body_found ls made rest read =
      let a = bind_ok (after end LeftParen ls) _ _ read in
      let begin = after_found end LeftParen ls a.0 a.1 in
      let f = arguments_found begin.0 begin.2 a.0 made rest a.2 in
      record { front = begin.0 ∷ f.front; es = f.es; depth = f.depth; split = begin.1 ∙ ap (λ x. begin.0 ∷ x) f.split; body = f.body; made_so = f.made_so }
