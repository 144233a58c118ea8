-- A refusal of a part stands whatever follows its lexeme.
use Rattle.std.proofs.Common.{◌≡◌, ◌⊎◌, ℕ, refl, ap, inr, Bool, true, false, cond, List, [], ◌∷◌, ◌++◌}
use Rattle.std.specs.Prelude.{◌&&◌, Option, Some, None, Ok, Err}
use Rattle.frac_text.specs.Times.{time_limit}
use Rattle.label_set.specs.declared.rules.Card.{Card}
use Rattle.label_set.specs.declared.rules.Pairing.{Pairing}
use Rattle.promql_ast.specs.declared.refusal.QueryRefusal.TheVariants.{Expected}
use Rattle.promql_ast.specs.declared.tree.Fixed.{Fixed}
use Rattle.promql_ast.specs.declared.tree.Fixed.TheVariants as fixed
use Rattle.promql_parts.specs.Labels.{grouping_at, grouping_behind, grouping_of, grouping_word, item_behind, label_at, label_kind, label_of, labels_at, labels_turn, optional_grouping}
use Rattle.promql_parts.specs.Laws.{Sound}
use Rattle.promql_parts.specs.Operators.{extra_at, flag_at, group_at, group_begun, group_kind, group_word, is_comparison, is_flag, is_set_operator, listed_at, matching_at, matching_word, pairing_at, pairing_kind, pairing_of}
use Rattle.promql_parts.specs.Productions.{OneMatcher}
use Rattle.promql_parts.specs.Reads.{Read, ◌>>=◌, after, all_turns}
use Rattle.promql_parts.specs.Selectors.{alone_at, braces_at, closed_at, is_empty_text, labelled_at, match_op, match_op_at, matcher_at, matcher_kind, matcher_or, matchers_turn, rule_behind, rules_of, value_at}
use Rattle.promql_parts.specs.Signs.{is_sign}
use Rattle.promql_parts.specs.Spans.{amount_at, amount_kind, brackets_at, called_at, instant_at, length_at, minute, ms, positive, preprocessor, range_behind, signed_at, step_at, when_at, when_kind}
use Rattle.promql_parts.specs.Standing.{Ended, after_stands, all_turns_ended, all_turns_stand, bind_ended, bind_stands, choice_stands, close_stands, ended_stands, here, item_ended, item_stands, left, map_ended, map_stands, pure_stands, refuses, turned}
use Rattle.promql_parts.specs.Stands.{BracesStand, BracketsStand, GroupingBehindStands, GroupingStands, MatchingStands, OffsetStands, Stands, TimeStands, pair}
use Rattle.promql_parts.specs.declared.lexeme.Lexeme.{Lexeme}
use Rattle.promql_parts.specs.declared.lexeme.LexemeKind.{LexemeKind}
use Rattle.promql_parts.specs.declared.lexeme.LexemeKind.TheVariants as kinds
use Rattle.promql_parts.specs.declared.lexeme.Sign.{Sign}
use Rattle.promql_parts.specs.declared.lexeme.Sign.TheVariants.{LeftParen, RightParen, RightBrace, RightBracket, Colon, Plus, Minus}
use Rattle.promql_parts.specs.declared.operator.BinaryOp.{BinaryOp}
use Rattle.promql_parts.specs.declared.selector.MatchOp.{MatchOp}
use Rattle.promql_parts.specs.declared.selector.Matcher.{Matcher}
use Rattle.promql_parts.specs.declared.span.Brackets.TheVariants as brackets
use Rattle.ticks.specs.declared.moment.Ms.{Ms}
use Rattle.ticks.specs.Durations.{hundred_years}
use Rattle.promql_parts.proofs.LabelsFound.{OneLabel, label_found}
use Rattle.promql_parts.proofs.Lists.{list_turn}
use Rattle.promql_parts.proofs.MatchersFound.{matcher_found}
use Rattle.promql_parts.proofs.Shrinks.{list_shrinks}

module _ (end other : ℕ) (more : List Lexeme) where
  abbrev Same : {X : Type 0} → Read X → Read X → Type 0
  Same {X} r s = Stands (pair {X = X}) end more r s

  -- ---- lists in brackets
  module _ {X : Type 0} (One : List Lexeme → X → Type 0) (close : Sign) (item : ℕ → List Lexeme → Read X) (sound : Sound (item end) One) (wants : item end [] ≡ Err (Expected end))
      (stands : (ls : List Lexeme) → Same (item end ls) (item other (ls ++ more))) where
    list_end : (items : List X) → (list_turn end close (item end) items [] ≡ Ok (false, items, [])) ⊎ (list_turn end close (item end) items [] ≡ Err (Expected end))
    list_end items = inr (ap (λ (q : Read X). q >>= λ x. item_behind end close x.1 >>= λ next. Ok (next.0, items ++ x.0 ∷ [], next.1)) wants)

    list_steps : (items : List X) (l : Lexeme) (ls : List Lexeme) → Stands turned end more (list_turn end close (item end) items (l ∷ ls)) (list_turn other close (item other) items (l ∷ ls ++ more))
    list_steps items l ls =
        choice_stands turned end more (is_sign close l.kind) _ _ _ _ (Stands.goes (false, items) l ls)
        (bind_stands pair turned end more (λ x. item_behind end close x.1 >>= λ next. Ok (next.0, items ++ x.0 ∷ [], next.1)) (λ x. item_behind other close x.1 >>= λ next. Ok (next.0, items ++ x.0 ∷ [], next.1))
        (λ x. map_ended turned end more (λ another. (another, items ++ x ∷ [])) (item_ended end other more close))
        (λ x u us. map_stands turned end more (λ another. (another, items ++ x ∷ [])) (item_stands end other more close (u ∷ us)))
        (stands (l ∷ ls)))

    pub list_stands : (items : List X) (ls : List Lexeme) → Same (all_turns (list_turn end close (item end)) items ls) (all_turns (list_turn other close (item other)) items (ls ++ more))
    list_stands items ls = all_turns_stand (list_turn end close (item end)) (list_turn other close (item other)) end more list_end list_steps (list_shrinks One end close (item end) sound) items ls

    pub list_ended : (items : List X) → Ended pair end (all_turns (list_turn end close (item end)) items [])
    list_ended items = all_turns_ended (list_turn end close (item end)) (list_turn other close (item other)) end more list_end list_steps (list_shrinks One end close (item end) sound) items

  -- ---- labels
  label_stands : (taken : List (List ℕ)) (ls : List Lexeme) → Same (label_at taken end ls) (label_at taken other (ls ++ more))
  label_stands taken [] = Stands.wants _
  label_stands taken (l ∷ ls) = pure_stands pair end more (label_kind taken l (label_of l.kind)) (λ label. Ok (label, ls)) (λ label. Ok (label, ls ++ more)) (λ label. here pair end more label ls)

  labels_stand : (taken : List (List ℕ)) (ls : List Lexeme) → Same (labels_at taken end ls) (labels_at taken other (ls ++ more))
  unfolding labels_at labels_turn
  labels_stand taken ls =
      bind_stands left pair end more (λ inside. all_turns (labels_turn taken end) [] inside >>= λ labels. after end RightParen labels.1 >>= λ rest. Ok (labels.0, rest))
      (λ inside. all_turns (labels_turn taken other) [] inside >>= λ labels. after other RightParen labels.1 >>= λ rest. Ok (labels.0, rest))
      (λ u. bind_ended pair pair end more (λ labels. after end RightParen labels.1 >>= λ rest. Ok (labels.0, rest)) (λ labels. after other RightParen labels.1 >>= λ rest. Ok (labels.0, rest)) (λ x. Ended.wanted)
      (list_ended (OneLabel taken) RightParen (label_at taken) (label_found taken end) refl (label_stands taken) []))
      (λ u l us. bind_stands pair pair end more (λ labels. after end RightParen labels.1 >>= λ rest. Ok (labels.0, rest)) (λ labels. after other RightParen labels.1 >>= λ rest. Ok (labels.0, rest)) (λ x. Ended.wanted) (λ x v vs. close_stands end other more RightParen x (v ∷ vs))
      (list_stands (OneLabel taken) RightParen (label_at taken) (label_found taken end) refl (label_stands taken) [] (l ∷ us)))
      (after_stands end other more LeftParen ls)

  grouping_stands : (without : Bool) (l : Lexeme) (ls : List Lexeme) → Same (grouping_at without end (l ∷ ls)) (grouping_at without other (l ∷ ls ++ more))
  unfolding grouping_at
  grouping_stands without l ls = map_stands pair end more (grouping_of without) (labels_stand [] ls)

  optional_stands : (o : Option Bool) (l : Lexeme) (ls : List Lexeme) → Same (optional_grouping o end (l ∷ ls)) (optional_grouping o other (l ∷ ls ++ more))
  optional_stands None l ls = Stands.goes _ l ls
  optional_stands (Some without) l ls = grouping_stands without l ls

  grouping_behind_stands : (ls : List Lexeme) → Same (grouping_behind end ls) (grouping_behind other (ls ++ more))
  grouping_behind_stands [] = Stands.all _ _
  grouping_behind_stands (l ∷ ls) = optional_stands (grouping_word l.kind) l ls

  -- ---- matchers
  alone_stands : (k : LexemeKind) (ls : List Lexeme) → Same (alone_at end k ls) (alone_at other k (ls ++ more))
  alone_stands (kinds.Quoted text) ls = here pair end more _ ls
  alone_stands _ ls = refuses pair end more other ls

  or_stands : (v : Lexeme) (o : Option Matcher) (vs : List Lexeme) → Same (matcher_or v o vs) (matcher_or v o (vs ++ more))
  or_stands v None vs = Stands.stops _
  or_stands v (Some m) vs = here pair end more m vs

  value_stands : (label : List ℕ) (op : MatchOp) (ls : List Lexeme) → Same (value_at end label op ls) (value_at other label op (ls ++ more))
  value_stands label op [] = Stands.wants _
  value_stands label op (v ∷ vs) = or_stands v (matcher_kind label op v.kind) vs

  op_stands : (l u : Lexeme) (label : List ℕ) (o : Option MatchOp) (us : List Lexeme) → Same (rule_behind end l label o (u ∷ us)) (rule_behind other l label o (u ∷ us ++ more))
  op_stands l u label None us = alone_stands l.kind (u ∷ us)
  op_stands l u label (Some op) us = choice_stands pair end more (is_empty_text label) _ _ _ _ (Stands.stops _) (value_stands label op us)

  rule_stands : (l : Lexeme) (label : List ℕ) (ls : List Lexeme) → Same (rule_behind end l label (match_op_at ls) ls) (rule_behind other l label (match_op_at (ls ++ more)) (ls ++ more))
  rule_stands l label [] = ended_stands pair end more (alone_ended l.kind) _
    where
      alone_ended : (k : LexemeKind) → Ended pair end (alone_at end k [])
      alone_ended (kinds.Quoted text) = Ended.there _
      alone_ended _ = Ended.wanted
  rule_stands l label (u ∷ us) = op_stands l u label (match_op u.kind) us

  labelled_stands : (l : Lexeme) (o : Option (List ℕ)) (ls : List Lexeme) → Same (labelled_at end l o ls) (labelled_at other l o (ls ++ more))
  labelled_stands l None ls = Stands.stops _
  labelled_stands l (Some label) ls = rule_stands l label ls

  matcher_stands : (ls : List Lexeme) → Same (matcher_at end ls) (matcher_at other (ls ++ more))
  matcher_stands [] = Stands.wants _
  matcher_stands (l ∷ ls) = labelled_stands l (label_of l.kind) ls

  braces_stand : (name : Option (List ℕ)) (ls : List Lexeme) → Same (braces_at end name ls) (braces_at other name (ls ++ more))
  unfolding braces_at matchers_turn
  braces_stand name ls =
      bind_stands pair pair end more (λ found. closed_at end name found.0 found.1) (λ found. closed_at other name found.0 found.1) (λ x. Ended.wanted) (λ x l us. pure_stands pair end more (rules_of l.at name x) (λ rules. Ok (rules, us)) (λ rules. Ok (rules, us ++ more)) (λ rules. here pair end more rules us))
      (list_stands OneMatcher RightBrace matcher_at (matcher_found end) refl matcher_stands [] ls)

  -- ---- ranges, offsets and times
  length_stands : (ls : List Lexeme) → Same (length_at end ls) (length_at other (ls ++ more))
  length_stands [] = Stands.wants _
  length_stands (l ∷ ls) = pure_stands pair end more (amount_kind hundred_years l l.kind >>= positive l.at) (λ length. Ok (length, ls)) (λ length. Ok (length, ls ++ more)) (λ length. here pair end more length ls)

  step_stands : (range : Ms) (ls : List Lexeme) → Same (step_at end range ls) (step_at other range (ls ++ more))
  unfolding step_at
  step_stands range [] = Stands.wants _
  step_stands range (l ∷ ls) =
      choice_stands pair end more (is_sign RightBracket l.kind) _ _ _ _ (here pair end more (brackets.Steps range minute) ls)
      (bind_stands pair pair end more (λ step. after end RightBracket step.1 >>= λ rest. Ok (brackets.Steps range step.0, rest)) (λ step. after other RightBracket step.1 >>= λ rest. Ok (brackets.Steps range step.0, rest))
      (λ step. Ended.wanted) (λ step u us. close_stands end other more RightBracket (brackets.Steps range step) (u ∷ us)) (length_stands (l ∷ ls)))

  step_ended : (range : Ms) → Ended pair end (step_at end range [])
  unfolding step_at
  step_ended range = Ended.wanted

  range_ended : (plain : Bool) (range : Ms) → Ended pair end (range_behind plain end range [])
  range_ended true range = Ended.wanted
  range_ended false range = Ended.wanted

  range_stands : (plain : Bool) (range : Ms) (l : Lexeme) (ls : List Lexeme) → Same (range_behind plain end range (l ∷ ls)) (range_behind plain other range (l ∷ ls ++ more))
  range_stands plain range l ls =
      choice_stands pair end more (plain && is_sign RightBracket l.kind) _ _ _ _ (here pair end more (brackets.Range range) ls)
      (bind_stands left pair end more (step_at end range) (step_at other range) (λ u. step_ended range) (λ u v vs. step_stands range (v ∷ vs)) (after_stands end other more Colon (l ∷ ls)))

  brackets_stand : (plain : Bool) (ls : List Lexeme) → Same (brackets_at plain end ls) (brackets_at plain other (ls ++ more))
  unfolding brackets_at
  brackets_stand plain ls = bind_stands pair pair end more (λ range. range_behind plain end range.0 range.1) (λ range. range_behind plain other range.0 range.1) (λ range. range_ended plain range) (λ range l us. range_stands plain range l us) (length_stands ls)

  amount_stands : (most : ℕ) (ls : List Lexeme) → Same (amount_at most end ls) (amount_at most other (ls ++ more))
  amount_stands most [] = Stands.wants _
  amount_stands most (l ∷ ls) = pure_stands pair end more (amount_kind most l l.kind) (λ n. Ok (n, ls)) (λ n. Ok (n, ls ++ more)) (λ n. here pair end more n ls)

  abbrev by_signs : ℕ → ℕ → Bool → Bool → List Lexeme → List Lexeme → Read Ms
  by_signs most at minus plus ls behind = amount_at most at (cond minus behind (cond plus behind ls)) >>= λ n. Ok (ms minus n.0, n.1)

  signs_stand : (most : ℕ) (minus plus : Bool) (l : Lexeme) (ls : List Lexeme) → Same (by_signs most end minus plus (l ∷ ls) ls) (by_signs most other minus plus (l ∷ ls ++ more) (ls ++ more))
  signs_stand most true plus l ls = map_stands pair end more (ms true) (amount_stands most ls)
  signs_stand most false true l ls = map_stands pair end more (ms false) (amount_stands most ls)
  signs_stand most false false l ls = map_stands pair end more (ms false) (amount_stands most (l ∷ ls))

  signed_stands : (most : ℕ) (ls : List Lexeme) → Same (signed_at most end ls) (signed_at most other (ls ++ more))
  unfolding signed_at
  signed_stands most [] = Stands.wants _
  signed_stands most (l ∷ ls) = signs_stand most (is_sign Minus l.kind) (is_sign Plus l.kind) l ls

  called_stands : (time : Fixed) (ls : List Lexeme) → Same (called_at end time ls) (called_at other time (ls ++ more))
  unfolding called_at
  called_stands time ls =
      bind_stands left pair end more (λ inside. after end RightParen inside >>= λ rest. Ok (time, rest)) (λ inside. after other RightParen inside >>= λ rest. Ok (time, rest)) (λ u. Ended.wanted)
      (λ u l us. close_stands end other more RightParen time (l ∷ us)) (after_stands end other more LeftParen ls)

  kind_stands : (o : Option Fixed) (l : Lexeme) (ls : List Lexeme) → Same (when_kind end o (l ∷ ls)) (when_kind other o (l ∷ ls ++ more))
  unfolding instant_at
  kind_stands None l ls = map_stands pair end more fixed.At (signed_stands time_limit (l ∷ ls))
  kind_stands (Some time) l ls = called_stands time ls

  when_stands : (ls : List Lexeme) → Same (when_at end ls) (when_at other (ls ++ more))
  unfolding instant_at signed_at
  when_stands [] = Stands.wants _
  when_stands (l ∷ ls) = kind_stands (preprocessor l.kind) l ls

  -- ---- what stands between an operator and its right side
  flag_stands : (op : BinaryOp) (ls : List Lexeme) → Same (flag_at op end ls) (flag_at op other (ls ++ more))
  flag_stands op [] = Stands.all false _
  flag_stands op (l ∷ ls) =
      choice_stands pair end more (is_flag l.kind) _ _ _ _ (choice_stands pair end more (is_comparison op) _ _ _ _ (here pair end more true ls) (Stands.stops _)) (Stands.goes false l ls)

  extra_stands : (taken : List (List ℕ)) (ls : List Lexeme) → Same (extra_at taken end ls) (extra_at taken other (ls ++ more))
  unfolding extra_at
  extra_stands taken [] = Stands.all [] _
  extra_stands taken (l ∷ ls) = choice_stands pair end more (is_sign LeftParen l.kind) _ _ _ _ (labels_stand taken (l ∷ ls)) (Stands.goes [] l ls)

  group_stands : (on : Bool) (names : List (List ℕ)) (card : Card) (ls : List Lexeme) → Same (group_at on names card end ls) (group_at on names card other (ls ++ more))
  unfolding group_at
  group_stands on names card ls = map_stands pair end more (pairing_of on names card) (extra_stands (cond on names []) ls)

  group_kind_stands : (op : BinaryOp) (on : Bool) (names : List (List ℕ)) (o : Option Card) (l : Lexeme) (ls : List Lexeme)
      → Same (group_kind op on names o end (l ∷ ls)) (group_kind op on names o other (l ∷ ls ++ more))
  group_kind_stands op on names None l ls = Stands.goes _ l ls
  group_kind_stands op on names (Some card) l ls = choice_stands pair end more (is_set_operator op) _ _ _ _ (Stands.stops _) (group_stands on names card ls)

  listed_stands : (op : BinaryOp) (on : Bool) (ls : List Lexeme) → Same (listed_at op on end ls) (listed_at op on other (ls ++ more))
  unfolding listed_at
  listed_stands op on ls =
      bind_stands pair pair end more (λ names. group_kind op on names.0 (group_begun names.1) end names.1) (λ names. group_kind op on names.0 (group_begun names.1) other names.1)
      (λ names. Ended.there _) (λ names l us. group_kind_stands op on names (group_word l.kind) l us) (labels_stand [] ls)

  pairing_stands : (op : BinaryOp) (o : Option Bool) (l : Lexeme) (ls : List Lexeme) → Same (pairing_kind op o end (l ∷ ls)) (pairing_kind op o other (l ∷ ls ++ more))
  pairing_stands op None l ls = Stands.goes _ l ls
  pairing_stands op (Some on) l ls = listed_stands op on ls

  matching_stands : (op : BinaryOp) (ls : List Lexeme) → Same (matching_at op end ls) (matching_at op other (ls ++ more))
  unfolding matching_at
  matching_stands op ls =
      bind_stands pair pair end more
      (λ flag. pairing_at op end flag.1 >>= λ pairing. Ok (record { flag = flag.0; pairing = pairing.0 }, pairing.1))
      (λ flag. pairing_at op other flag.1 >>= λ pairing. Ok (record { flag = flag.0; pairing = pairing.0 }, pairing.1))
      (λ flag. Ended.there _)
      (λ flag l us. map_stands pair end more (λ (pairing : Pairing). record { flag = flag; pairing = pairing }) (pairing_stands op (matching_word l.kind) l us))
      (flag_stands op ls)

pub grouping_always : GroupingStands
grouping_always without l end other ls more = grouping_stands end other more without l ls

pub grouping_behind_always : GroupingBehindStands
grouping_behind_always end other ls more = grouping_behind_stands end other more ls

pub braces_always : BracesStand
braces_always name end other ls more = braces_stand end other more name ls

pub brackets_always : BracketsStand
brackets_always plain end other ls more = brackets_stand end other more plain ls

pub offset_always : OffsetStands
offset_always end other ls more = signed_stands end other more hundred_years ls

pub time_always : TimeStands
time_always end other ls more = when_stands end other more ls

pub matching_always : MatchingStands
matching_always op end other ls more = matching_stands end other more op ls
