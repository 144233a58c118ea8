-- Where the readers of labels, groupings, ranges, offsets, times and of what stands behind an operator stop.
use Rattle.std.proofs.Common.{◌≡◌, ◌⊎◌, ℕ, zero, suc, refl, ap, ◌∙◌, sym, subst, ⊎_elim, Bool, true, false, cond, List, [], ◌∷◌, ◌++◌, append_assoc, append-nil, drop, length, arith}
use Rattle.std.proofs.lemmas.Bool.{cond-true}
use Rattle.std.specs.Prelude.{◌&&◌, nat_lt, unsigned_abs, Option, Some, None, Err}
use Rattle.frac_text.specs.Times.{time_limit}
use Rattle.label_set.specs.declared.rules.Card.{Card}
use Rattle.label_set.specs.declared.rules.Card.TheVariants.{OneToOne}
use Rattle.label_set.specs.declared.rules.Pairing.{Pairing}
use Rattle.promql_ast.specs.declared.refusal.QueryRefusal.TheVariants.{Expected}
use Rattle.promql_ast.specs.declared.tree.Fixed.{Fixed}
use Rattle.promql_ast.specs.declared.tree.Fixed.TheVariants as fixed
use Rattle.promql_parts.specs.Labels.{grouping_at, grouping_of, is_among, judged, label_at, label_kind, label_of, labels_at, labels_turn}
use Rattle.promql_parts.specs.Laws.{IsBrackets}
use Rattle.promql_parts.specs.Operators.{extra_at, flag_at, group_at, group_begun, group_kind, is_comparison, is_flag, is_set_operator, listed_at, matching_at, matching_begun, matching_word, no_pairing, pairing_kind, pairing_of}
use Rattle.promql_parts.specs.Productions.{BinModifier, BoolModifier, GroupModifiers, IsLength, IsSign, LabelList, Labels, Signed, StepBrackets, TimeBehind}
use Rattle.promql_parts.specs.Reads.{◌>>=◌, after, begins, refused, refused_at}
use Rattle.promql_parts.specs.Spans.{amount_at, amount_kind, brackets_at, called_at, instant_at, length_at, minute, ms, positive, preprocessor_at, range_behind, signed_at, step_at, unsigned, up_to, when_kind, seconds_up_to}
use Rattle.frac_text.specs.Times.{milliseconds_of}
use Rattle.promql_parts.specs.Steps.{after_found, begins_found, chosen}
use Rattle.promql_parts.specs.Stops.{Begins, BracketsStop, GroupingsStop, MatchingBegun, MatchingsStop, OffsetsStop, Stops, StopsAt, TimesStop}
use Rattle.promql_parts.specs.Stopped.{bind_err, no_err, same_err, after_stops, a_second, behind_part, lexeme_of_sign, second, second_is, stops_here}
use Rattle.promql_parts.specs.declared.lexeme.Lexeme.{Lexeme}
use Rattle.promql_parts.specs.declared.lexeme.LexemeKind.{LexemeKind}
use Rattle.promql_parts.specs.declared.lexeme.LexemeKind.TheVariants as kinds
use Rattle.promql_parts.specs.declared.lexeme.Sign.TheVariants.{LeftParen, RightParen, LeftBracket, RightBracket, Colon, Plus, Minus, AtSign}
use Rattle.promql_parts.specs.declared.operator.BinaryOp.{BinaryOp}
use Rattle.promql_parts.specs.declared.span.Brackets.TheVariants.{Steps}
use Rattle.ticks.specs.declared.moment.Ms.{Ms}
use Rattle.ticks.specs.Durations.{hundred_years}
use Rattle.promql_parts.proofs.LabelsFound.{OneLabel, in_parens, label_found, labels_found, longer, single, word_grouped}
use Rattle.promql_parts.proofs.Lists.{Before, Inside, closing, turns_found}
use Rattle.promql_parts.proofs.ModifiersFound.{flag_found, group_begins, word_begins}
use Rattle.promql_parts.proofs.SpansFound.{edge_found, length_found, preprocessor_begins}
use Rattle.promql_parts.proofs.Stopping.{Open, list_stops}

-- ---- labels
module _ (taken : List (List ℕ)) (end : ℕ) where
  judged_goes_on : {Goal : Type 0} (place at : ℕ) (label : List ℕ) → judged taken at label ≡ Err (Expected place) → Goal
  judged_goes_on place at [] read = let e = same_err {A = List ℕ} _ _ read in absurd (cc e)
  judged_goes_on place at (byte ∷ bytes) read =
      ⊎_elim (λ p. let e = same_err {A = List ℕ} _ _ p.1 in absurd (cc e)) (λ p. no_err _ _ p.1) (chosen (is_among taken (byte ∷ bytes)) _ _ _ read)

  label_kind_stops : (place : ℕ) (l : Lexeme) (o : Option (List ℕ)) → label_kind taken l o ≡ Err (Expected place) → refused l ≡ Expected place
  label_kind_stops place l None read = same_err {A = List ℕ} _ _ read
  label_kind_stops place l (Some label) read = judged_goes_on place l.at label read

  -- nothing of a label is read before it is refused
  abbrev NoLabel : List Lexeme → Type 0
  NoLabel front = front ≡ []

  label_stops : Stops end (label_at taken end) NoLabel
  label_stops place [] read = stops_here end place NoLabel [] (same_err {A = List ℕ × List Lexeme} _ _ read) refl
  label_stops place (l ∷ ls) read =
      ⊎_elim (λ p. stops_here end place NoLabel (l ∷ ls) (label_kind_stops place l (label_of l.kind) p) refl) (λ p. no_err _ _ p.2) (bind_err (label_kind taken l (label_of l.kind)) _ _ read)

  -- a list that is begun is one where the parenthesis closes
  list_closes : (u : Lexeme) → IsSign LeftParen u → (front : List Lexeme) → Open (LabelList taken) NoLabel front → Begins (Labels taken) (u ∷ front)
  list_closes u opens front (Open.within {xs = xs} {ys = ys} {items = items} before nothing split) =
      let here : front ≡ xs = split ∙ ap (λ z. xs ++ z) nothing ∙ append-nil xs in
      (lexeme_of_sign RightParen ∷ [], items, subst (λ z. Labels taken (u ∷ z ++ lexeme_of_sign RightParen ∷ []) items) (sym here) (in_parens taken end u (lexeme_of_sign RightParen) opens refl (closing before)))
  list_closes u opens front (Open.behind {items = items} list) =
      (lexeme_of_sign RightParen ∷ [], items, in_parens taken end u (lexeme_of_sign RightParen) opens refl (Inside.some list))

  pub labels_stop : Stops end (labels_at taken end) (Begins (Labels taken))
  unfolding labels_at labels_turn
  labels_stop place ls read =
      ⊎_elim
      (λ p.
      stops_here end place (Begins (Labels taken)) ls (after_stops end place LeftParen ls p)
      (lexeme_of_sign LeftParen ∷ lexeme_of_sign RightParen ∷ [], [], Labels.none (lexeme_of_sign LeftParen) (lexeme_of_sign RightParen) refl refl))
      (λ p.
      let u = after_found end LeftParen ls p.0 p.1 in
      ⊎_elim
      (λ q.
      behind_part end place (Open (LabelList taken) NoLabel) (Begins (Labels taken)) (u.0 ∷ []) ls p.0 u.1 (list_closes u.0 u.2)
      (list_stops (OneLabel taken) (LabelList taken) (single taken) (longer taken) end RightParen (label_at taken end) (label_found taken end) NoLabel label_stops place (suc (length p.0)) [] [] p.0 Before.start
      (omega arith) q))
      (λ q.
      ⊎_elim
      (λ r.
      let all = turns_found (OneLabel taken) (LabelList taken) (single taken) (longer taken) end RightParen (label_at taken end) (label_found taken end) (suc (length p.0)) [] [] p.0 q.0.0 q.0.1 Before.start (omega arith) q.1 in
      no_err _ _ (sym (cond-true (begins RightParen q.0.1) _ _ all.closes) ∙ r))
      (λ r. no_err _ _ r.2)
      (bind_err (after end RightParen q.0.1) _ _ q.2))
      (bind_err _ _ _ p.2))
      (bind_err (after end LeftParen ls) _ _ read)

pub groupings_stop : GroupingsStop
unfolding grouping_at
groupings_stop end without l word place ls read =
    ⊎_elim
    (λ p.
    let s = labels_stop [] end place ls p in
    record {
      front = s.front;
      back = s.back;
      split = s.split;
      there = s.there;
      begun = (s.begun.0, grouping_of without s.begun.1, word_grouped l l.kind refl without word s.begun.2);
    })
    (λ p. no_err _ _ p.2)
    (bind_err (labels_at [] end ls) _ _ read)

-- ---- ranges
up_to_goes_on : {Goal : Type 0} (place at most n : ℕ) → up_to at most n ≡ Err (Expected place) → Goal
up_to_goes_on place at most n read = ⊎_elim (λ p. let e = same_err {A = ℕ} _ _ p.1 in absurd (cc e)) (λ p. no_err _ _ p.1) (chosen (nat_lt most n) _ _ _ read)

seconds_go_on : {Goal : Type 0} (place at most : ℕ) (o : Option ℕ) → seconds_up_to at most o ≡ Err (Expected place) → Goal
seconds_go_on place at most None read = let e = same_err {A = ℕ} _ _ read in absurd (cc e)
seconds_go_on place at most (Some n) read = up_to_goes_on place at most n read

amount_stops : (most place : ℕ) (l : Lexeme) (k : LexemeKind) → amount_kind most l k ≡ Err (Expected place) → refused l ≡ Expected place
amount_stops most place l (kinds.Duration duration) read = up_to_goes_on place l.at hundred_years (unsigned_abs duration.0) read
amount_stops most place l (kinds.Number value) read = seconds_go_on place l.at most (milliseconds_of value) read
amount_stops most place l _ read = same_err {A = ℕ} _ _ read

positive_goes_on : {Goal : Type 0} (place at n : ℕ) → positive at n ≡ Err (Expected place) → Goal
positive_goes_on place at zero read = let e = same_err {A = Ms} _ _ read in absurd (cc e)
positive_goes_on place at (suc n) read = no_err _ _ read

length_stops : (end place : ℕ) (ls : List Lexeme) → length_at end ls ≡ Err (Expected place) → refused_at end ls ≡ Expected place
length_stops end place [] read = same_err {A = Ms × List Lexeme} _ _ read
length_stops end place (l ∷ ls) read =
    ⊎_elim
    (λ p. ⊎_elim (λ q. amount_stops hundred_years place l l.kind q) (λ q. positive_goes_on place l.at q.0 q.2) (bind_err (amount_kind hundred_years l l.kind) _ _ p))
    (λ p. no_err _ _ p.2)
    (bind_err (amount_kind hundred_years l l.kind >>= positive l.at) _ _ read)

module _ (end place : ℕ) (plain : Bool) (begin : Lexeme) (opens : IsSign LeftBracket begin) where
  abbrev InBrackets : List Lexeme → Type 0
  InBrackets = Begins (IsBrackets begin plain)

  abbrev colon : Lexeme
  colon = lexeme_of_sign Colon

  abbrev bracket : Lexeme
  bracket = lexeme_of_sign RightBracket

  module _ (l : Lexeme) (length : Ms) (is_length : IsLength l length) where
    abbrev BehindLength : List Lexeme → Type 0
    BehindLength front = InBrackets (l ∷ front)

    step_stops : (c : Lexeme) → IsSign Colon c → (ls : List Lexeme) → step_at end length ls ≡ Err (Expected place) → StopsAt end place (λ front. BehindLength (c ∷ front)) ls
    unfolding step_at
    step_stops c is ls read =
        ⊎_elim (λ p. no_err _ _ p.1)
        (λ p.
        ⊎_elim
        (λ q. stops_here end place (λ front. BehindLength (c ∷ front)) ls (length_stops end place ls q) (bracket ∷ [], Steps length minute, StepBrackets.without_step begin l c bracket length opens is_length is refl))
        (λ q.
        let s = length_found end ls q.0.0 q.0.1 q.1 in
        ⊎_elim
        (λ r. record {
          front = s.0 ∷ [];
          back = q.0.1;
          split = s.1;
          there = after_stops end place RightBracket q.0.1 r;
          begun = (bracket ∷ [], Steps length q.0.0, StepBrackets.with_step begin l c s.0 bracket length q.0.0 opens is_length is s.2 refl);
        })
        (λ r. no_err _ _ r.2)
        (bind_err (after end RightBracket q.0.1) _ _ q.2))
        (bind_err (length_at end ls) _ _ p.1))
        (chosen (begins RightBracket ls) _ _ _ read)

    range_stops : (ls : List Lexeme) → range_behind plain end length ls ≡ Err (Expected place) → StopsAt end place BehindLength ls
    range_stops ls read =
        ⊎_elim (λ p. no_err _ _ p.1)
        (λ p.
        ⊎_elim
        (λ q.
        stops_here end place BehindLength ls (after_stops end place Colon ls q)
        (colon ∷ bracket ∷ [], Steps length minute, StepBrackets.without_step begin l colon bracket length opens is_length refl refl))
        (λ q.
        let c = after_found end Colon ls q.0 q.1 in
        behind_part end place (λ front. BehindLength (c.0 ∷ front)) BehindLength (c.0 ∷ []) ls q.0 c.1 (λ front begun. begun) (step_stops c.0 c.2 q.0 q.2))
        (bind_err (after end Colon ls) _ _ p.1))
        (chosen (plain && begins RightBracket ls) _ _ _ read)

pub brackets_stop : BracketsStop
unfolding brackets_at
brackets_stop end plain begin opens place ls read =
    ⊎_elim
    (λ p.
    stops_here end place (InBrackets end place plain begin opens) ls (length_stops end place ls p) (
      second ∷ lexeme_of_sign Colon ∷ lexeme_of_sign RightBracket ∷ [],
      Steps (ms false 1000) minute,
      StepBrackets.without_step begin second (lexeme_of_sign Colon) (lexeme_of_sign RightBracket) (ms false 1000) opens a_second refl refl,
    ))
    (λ p.
    let l = length_found end ls p.0.0 p.0.1 p.1 in
    behind_part end place (BehindLength end place plain begin opens l.0 p.0.0 l.2) (InBrackets end place plain begin opens) (l.0 ∷ []) ls p.0.1 l.1 (λ front begun. begun)
    (range_stops end place plain begin opens l.0 p.0.0 l.2 p.0.1 p.2))
    (bind_err (length_at end ls) _ _ read)

-- ---- offsets and times
module _ (most end : ℕ) where
  amount_at_stops : (place : ℕ) (ls : List Lexeme) → amount_at most end ls ≡ Err (Expected place) → refused_at end ls ≡ Expected place
  amount_at_stops place [] read = same_err {A = ℕ × List Lexeme} _ _ read
  amount_at_stops place (l ∷ ls) read = ⊎_elim (λ p. amount_stops most place l l.kind p) (λ p. no_err _ _ p.2) (bind_err (amount_kind most l l.kind) _ _ read)

  sign_stops : (place : ℕ) (ls : List Lexeme) (minus plus : Bool) → begins Minus ls ≡ minus → begins Plus ls ≡ plus
      → amount_at most end (cond minus (drop 1 ls) (cond plus (drop 1 ls) ls)) ≡ Err (Expected place) → StopsAt end place (Begins (Signed most)) ls
  sign_stops place ls true plus is_minus is_plus read =
      let u = begins_found Minus ls is_minus in record {
        front = u.0 ∷ [];
        back = drop 1 ls;
        split = u.1;
        there = amount_at_stops place (drop 1 ls) read;
        begun = (second ∷ [], ms true 1000, Signed.minus u.0 second 1000 u.2 (second_is most));
      }
  sign_stops place ls false true is_minus is_plus read =
      let u = begins_found Plus ls is_plus in record {
        front = u.0 ∷ [];
        back = drop 1 ls;
        split = u.1;
        there = amount_at_stops place (drop 1 ls) read;
        begun = (second ∷ [], ms false 1000, Signed.plus u.0 second 1000 u.2 (second_is most));
      }
  sign_stops place ls false false is_minus is_plus read =
      stops_here end place (Begins (Signed most)) ls (amount_at_stops place ls read) (second ∷ [], ms false 1000, Signed.unsigned second 1000 (second_is most))

  signed_stops : Stops end (signed_at most end) (Begins (Signed most))
  unfolding signed_at
  signed_stops place ls read =
      ⊎_elim (λ p. sign_stops place ls (begins Minus ls) (begins Plus ls) refl refl p) (λ p. no_err _ _ p.2) (bind_err (amount_at most end (unsigned ls)) _ _ read)

pub offsets_stop : OffsetsStop
offsets_stop end = signed_stops hundred_years end

module _ (end place : ℕ) (sign : Lexeme) (is_at : IsSign AtSign sign) where
  abbrev BehindAt : List Lexeme → Type 0
  BehindAt front = Begins TimeBehind (sign ∷ front)

  when_stops : (ls : List Lexeme) (o : Option Fixed) → preprocessor_at ls ≡ o → when_kind end o ls ≡ Err (Expected place) → StopsAt end place BehindAt ls
  unfolding instant_at called_at
  when_stops ls None is read =
      ⊎_elim
      (λ p.
      let s = signed_stops time_limit end place ls p in
      record { front = s.front; back = s.back; split = s.split; there = s.there; begun = (s.begun.0, fixed.At s.begun.1, TimeBehind.time sign is_at s.begun.2) })
      (λ p. no_err _ _ p.2)
      (bind_err (signed_at time_limit end ls) _ _ read)
  when_stops ls (Some edge) is read =
      let u = preprocessor_begins end sign is_at ls edge is in
      ⊎_elim
      (λ p. record {
        front = u.0 ∷ [];
        back = drop 1 ls;
        split = u.1;
        there = after_stops end place LeftParen (drop 1 ls) p;
        begun =
            (lexeme_of_sign LeftParen ∷ lexeme_of_sign RightParen ∷ [], edge, edge_found end sign is_at u.0 u.0.kind refl (lexeme_of_sign LeftParen) (lexeme_of_sign RightParen) refl refl edge u.2);
      })
      (λ p.
      let begin = after_found end LeftParen (drop 1 ls) p.0 p.1 in
      ⊎_elim
      (λ q. record {
        front = u.0 ∷ begin.0 ∷ [];
        back = p.0;
        split = u.1 ∙ ap (λ x. u.0 ∷ x) begin.1;
        there = after_stops end place RightParen p.0 q;
        begun = (lexeme_of_sign RightParen ∷ [], edge, edge_found end sign is_at u.0 u.0.kind refl begin.0 (lexeme_of_sign RightParen) begin.2 refl edge u.2);
      })
      (λ q. no_err _ _ q.2)
      (bind_err (after end RightParen p.0) _ _ p.2))
      (bind_err (after end LeftParen (drop 1 ls)) _ _ read)

pub times_stop : TimesStop
times_stop end sign is place ls read = when_stops end place sign is ls (preprocessor_at ls) refl read

-- ---- behind an operator
module _ (op : BinaryOp) (end place : ℕ) where
  flag_stops : (ls : List Lexeme) → flag_at op end ls ≡ Err (Expected place) → refused_at end ls ≡ Expected place
  flag_stops [] read = no_err _ _ read
  flag_stops (l ∷ ls) read =
      ⊎_elim (λ p. ⊎_elim (λ q. no_err _ _ q.1) (λ q. same_err {A = Bool × List Lexeme} _ _ q.1) (chosen (is_comparison op) _ _ _ p.1)) (λ p. no_err _ _ p.1) (chosen (is_flag l.kind) _ _ _ read)

  -- the group modifiers that are begun
  record PairingBegun (front : List Lexeme) : Type 0 where
    pub more : List Lexeme
    pub pairing : Pairing
    pub bare : Bool
    pub is : GroupModifiers op (front ++ more) pairing bare

  module _ (word : Lexeme) (on : Bool) (is_word : matching_word word.kind ≡ Some on) where
    abbrev BehindWord : List Lexeme → Type 0
    BehindWord front = PairingBegun (word ∷ front)

    module _ (xs : List Lexeme) (names : List (List ℕ)) (listed : Labels [] xs names) where
      group_stops : (ls : List Lexeme) (o : Option Card) → group_begun ls ≡ o → group_kind op on names o end ls ≡ Err (Expected place) → StopsAt end place (λ front. BehindWord (xs ++ front)) ls
      unfolding group_at extra_at
      group_stops ls None begun read = no_err _ _ read
      group_stops ls (Some card) begun read =
          let u = group_begins op end ls card begun in
          ⊎_elim
          (λ p.
          stops_here end place (λ front. BehindWord (xs ++ front)) ls (same_err {A = Pairing × List Lexeme} _ _ p.1) (record {
            more = [];
            pairing = pairing_of on names OneToOne [];
            bare = false;
            is = subst (λ z. GroupModifiers op (word ∷ z) (pairing_of on names OneToOne []) false) (sym (append-nil (xs ++ []) ∙ append-nil xs)) (GroupModifiers.listed word on is_word listed);
          }))
          (λ p.
          ⊎_elim
          (λ q.
          ⊎_elim
          (λ r.
          behind_part end place (Begins (Labels (cond on names []))) (λ front. BehindWord (xs ++ front)) (u.0 ∷ []) ls (drop 1 ls) u.1
          (λ front begun. record {
            more = begun.0;
            pairing = pairing_of on names card begun.1;
            bare = false;
            is =
                subst (λ z. GroupModifiers op (word ∷ z) (pairing_of on names card begun.1) false) (sym (append_assoc xs (u.0 ∷ front) begun.0))
                (GroupModifiers.grouped_with word u.0 on card is_word listed u.2 p.0 begun.2 refl);
          })
          (labels_stop (cond on names []) end place (drop 1 ls) r.1))
          (λ r. no_err _ _ r.1)
          (chosen (begins LeftParen (drop 1 ls)) _ _ _ q))
          (λ q. no_err _ _ q.2)
          (bind_err (extra_at (cond on names []) end (drop 1 ls)) _ _ p.1))
          (chosen (is_set_operator op) _ _ _ read)

    listed_stops : (ls : List Lexeme) → listed_at op on end ls ≡ Err (Expected place) → StopsAt end place BehindWord ls
    unfolding listed_at
    listed_stops ls read =
        ⊎_elim
        (λ p.
        let s = labels_stop [] end place ls p in
        record {
          front = s.front;
          back = s.back;
          split = s.split;
          there = s.there;
          begun = record { more = s.begun.0; pairing = pairing_of on s.begun.1 OneToOne []; bare = false; is = GroupModifiers.listed word on is_word s.begun.2 };
        })
        (λ p.
        let f = labels_found [] end ls p.0.0 p.0.1 p.1 in
        behind_part end place (λ front. BehindWord (f.front ++ front)) BehindWord f.front ls p.0.1 f.split (λ front begun. begun) (group_stops f.front p.0.0 f.is p.0.1 (group_begun p.0.1) refl p.2))
        (bind_err (labels_at [] end ls) _ _ read)

  pairing_stops : (ls : List Lexeme) (o : Option Bool) → matching_begun ls ≡ o → pairing_kind op o end ls ≡ Err (Expected place) → StopsAt end place PairingBegun ls
  pairing_stops ls None begun read = no_err _ _ read
  pairing_stops ls (Some on) begun read =
      let u = word_begins op end ls on begun in
      behind_part end place (λ front. PairingBegun (u.0 ∷ front)) PairingBegun (u.0 ∷ []) ls (drop 1 ls) u.1 (λ front begun. begun) (listed_stops u.0 on u.2 (drop 1 ls) read)

pub matchings_stop : MatchingsStop
unfolding matching_at
matchings_stop op end place ls read =
    ⊎_elim
    (λ p.
    stops_here end place (MatchingBegun op) ls (flag_stops op end place ls p)
    (record { more = []; matching = record { flag = false; pairing = no_pairing }; bare = false; is = BinModifier.modifier {xs = []} {ys = []} BoolModifier.none GroupModifiers.none refl }))
    (λ p.
    let f = flag_found op end ls p.0.0 p.0.1 p.1 in
    ⊎_elim
    (λ q.
    behind_part end place (PairingBegun op end place) (MatchingBegun op) f.front ls p.0.1 f.split
    (λ front begun. record { more = begun.more; matching = record { flag = p.0.0; pairing = begun.pairing }; bare = begun.bare; is = BinModifier.modifier f.is begun.is (append_assoc f.front front begun.more) })
    (pairing_stops op end place p.0.1 (matching_begun p.0.1) refl q))
    (λ q. no_err _ _ q.2)
    (bind_err (pairing_kind op (matching_begun p.0.1) end p.0.1) _ _ p.2))
    (bind_err (flag_at op end ls) _ _ read)
