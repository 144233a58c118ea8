-- A text whose lexemes have the same patterns as another one keeps the same, whatever is kept before.
use Rattle.std.proofs.Common.{◌≡◌, ◌∙◌, ℕ, zero, suc, ◌≤◌, ◌++◌, Bool, true, false, List, [], ◌∷◌, length, refl, ap, sym, subst}
use Rattle.std.specs.Prelude.{Some, if◌then◌else◌, slice_get}
use Rattle.match_rule.specs.Patterns.{is_kept, number_of, with_pattern}
use Rattle.promql_ast.specs.declared.refusal.QueryRefusal.TheVariants.{TooManyPatterns}
use Rattle.promql_parts.specs.Patterned.{Becomes, IsPattern, Kept, Patterned, is_bad}
use Rattle.promql_parts.specs.Steps.{no_some, same_some, true_false}
use Rattle.promql_parts.specs.declared.lexeme.Lexeme.{Lexeme}
use Rattle.promql_parts.specs.declared.lexeme.LexemeKind.{LexemeKind}
use Rattle.promql_parts.specs.declared.lexeme.LexemeKind.TheVariants as kinds
use Rattle.print_laws.proofs.Goods.{AllRaw, Raw}
use Rattle.print_laws.proofs.Items.{append_nil}
use Rattle.print_laws.proofs.Kept.{Grown, found, grows, kept_then}
use Rattle.print_laws.proofs.Numbered.{kind_numbers, numbers}

-- patterns with these numbers are kept one after the other
pub data Follows : Kept → List ℕ → Kept → Type 0 where
  done : {kept : Kept} → Follows kept [] kept
  next : {before middle after : Kept} {ns : List ℕ} (text : List ℕ) (n : ℕ) → middle ≡ with_pattern (true, text) before → n ≡ number_of (true, text) before → length middle ≤ 32
      → Follows middle ns after → Follows before (n ∷ ns) after

-- ---- the patterns of a text that was read

raw_none : (kind : LexemeKind) → Raw kind → kind_numbers kind ≡ []
raw_none (kinds.Pattern id passes_empty) raw = absurd raw
raw_none _ raw = refl

unmoved : (before after : Kept) (ms ns : List ℕ) → ms ≡ [] → Follows before ns after → Follows before (ms ++ ns) after
unmoved before after ms ns none later = subst (λ ks. Follows before (ks ++ ns) after) (sym none) later

pattern_follows : {at : ℕ} {text : List ℕ} {before after : Kept} {kind : LexemeKind} → IsPattern at text before after kind → (ns : List ℕ) (last : Kept) → Follows after ns last
    → Follows before (kind_numbers kind ++ ns) last
pattern_follows {text = text} (IsPattern.kept after id passes readable is few number told) = λ ns last later. Follows.next text id.0 is number few later
pattern_follows (IsPattern.refused after plain refused is) = λ ns last later. subst (λ ks. Follows ks ns last) is later
pattern_follows (IsPattern.too_many after readable kept full is) = λ ns last later. subst (λ ks. Follows ks ns last) is later

becomes_follows : {behind : Bool} {before after : Kept} {l m : Lexeme} → Becomes behind before l after m → Raw l.kind → (ns : List ℕ) (last : Kept) → Follows after ns last
    → Follows before (kind_numbers m.kind ++ ns) last
becomes_follows {before = before} (Becomes.same l no_sign) = λ raw ns last later. unmoved before last (kind_numbers l.kind) ns (raw_none l.kind raw) later
becomes_follows {before = before} (Becomes.other l no_string) = λ raw ns last later. unmoved before last (kind_numbers l.kind) ns (raw_none l.kind raw) later
becomes_follows (Becomes.pattern l m text after sign string place is) = λ raw ns last later. pattern_follows is ns last later

pub follows : {behind : Bool} {before after : Kept} {ls ms : List Lexeme} → Patterned behind before ls after ms → AllRaw ls → Follows before (numbers ms) after
follows Patterned.done = λ raw. Follows.done
follows (Patterned.last l m ls after becomes bad) = λ raw. becomes_follows becomes raw.0 [] after Follows.done
follows {after = after} (Patterned.more l m ls ms middle _ becomes good later) = λ raw. becomes_follows becomes raw.0 (numbers ms) after (follows later raw.1)

-- ---- the same patterns

follows_none : {before after : Kept} {ns : List ℕ} → Follows before ns after → ns ≡ [] → before ≡ after
follows_none Follows.done = λ none. refl
follows_none (Follows.next {ns = ns} text n is number few later) = λ none. no_none n ns none where
  HasFirst : List ℕ → Type 0
  HasFirst [] = ⊥
  HasFirst (k ∷ ks) = Unit {0}

  no_none : {Goal : Type 0} (n : ℕ) (ns : List ℕ) → n ∷ ns ≡ [] → Goal
  no_none n ns none = absurd (subst HasFirst none tt)

record Next (before after : Kept) (n : ℕ) (ns : List ℕ) : Type 0 where
  middle : Kept
  text : List ℕ
  is : middle ≡ with_pattern (true, text) before
  number : n ≡ number_of (true, text) before
  few : length middle ≤ 32
  later : Follows middle ns after

next_of : {before after : Kept} {ks : List ℕ} → Follows before ks after → (n : ℕ) (ns : List ℕ) → ks ≡ n ∷ ns → Next before after n ns
next_of Follows.done = λ n ns is. no_first n ns is where
  HasNone : List ℕ → Type 0
  HasNone [] = Unit {0}
  HasNone (k ∷ ks) = ⊥

  no_first : {Goal : Type 0} (n : ℕ) (ns : List ℕ) → [] ≡ n ∷ ns → Goal
  no_first n ns is = absurd (subst HasNone is tt)
next_of {before = before} {after = after} (Follows.next {middle = middle} {ns = rest} text k is number few later) =
    λ n ns same. record {
      middle = middle;
      text = text;
      is = is;
      number = sym (ap (first_or 0) same) ∙ number;
      few = few;
      later = subst (λ ms. Follows middle ms after) (ap rest_of same) later;
    }
  where
    first_or : ℕ → List ℕ → ℕ
    first_or d [] = d
    first_or d (k ∷ ks) = k

    rest_of : List ℕ → List ℕ
    rest_of [] = []
    rest_of (k ∷ ks) = ks

there_further : (xs ys : Kept) (n : ℕ) (p : Bool × List ℕ) → slice_get xs n ≡ Some p → slice_get (xs ++ ys) n ≡ Some p
there_further [] ys n p is = no_some p is
there_further (x ∷ xs) ys zero p is = is
there_further (x ∷ xs) ys (suc n) p is = there_further xs ys n p is

follows_more : {before after : Kept} {ns : List ℕ} → Follows before ns after → (n : ℕ) (p : Bool × List ℕ) → slice_get before n ≡ Some p → slice_get after n ≡ Some p
follows_more Follows.done = λ n p is. is
follows_more {before = before} {after = after} (Follows.next {middle = middle} text k is number few later) =
    λ n p there. follows_more later n p (subst (λ ks. slice_get ks n ≡ Some p) (sym is) (by (is_kept (true, text) before) n p there))
  where
    by : (t : Bool) (n : ℕ) (p : Bool × List ℕ) → slice_get before n ≡ Some p → slice_get (if t then before else before ++ (true, text) ∷ []) n ≡ Some p
    by true n p there = there
    by false n p there = there_further before ((true, text) ∷ []) n p there

kept_there : (text : List ℕ) (before middle : Kept) → middle ≡ with_pattern (true, text) before → slice_get middle (number_of (true, text) before) ≡ Some (true, text)
kept_there text before middle is =
    let p : Bool × List ℕ = (true, text) in
    let both = kept_then p before (is_kept p before) refl in
    subst (λ ks. slice_get ks (number_of p before) ≡ Some p) (sym is) (subst (λ n. slice_get (with_pattern p before) n ≡ Some p) both.0 (found p (with_pattern p before) both.1))

-- two patterns that come to the same number where the same are kept in the end
same_text : (text other : List ℕ) (first before middle after last : Kept) (n : ℕ) (ns : List ℕ) → middle ≡ with_pattern (true, text) first → n ≡ number_of (true, text) first → Grown middle last
    → after ≡ with_pattern (true, other) before → n ≡ number_of (true, other) before → Follows after ns last → other ≡ text
same_text text other first before middle after last n ns is number grown other_is other_number later =
    let one : slice_get last n ≡ Some (true, text) =
    ap (λ ks. slice_get ks n) grown.is
    ∙ there_further middle grown.more n (true, text) (subst (λ k. slice_get middle k ≡ Some (true, text)) (sym number) (kept_there text first middle is)) in
    let two : slice_get last n ≡ Some (true, other) =
    follows_more later n (true, other) (subst (λ k. slice_get after k ≡ Some (true, other)) (sym other_number) (kept_there other before after other_is)) in
    ap (λ (p : Bool × List ℕ). p.1) (same_some (true, other) (true, text) (sym two ∙ one))

-- ---- one lexeme

-- a refused one is the last, and keeps nothing
last_anew : {behind : Bool} {first last : Kept} {l m : Lexeme} → Becomes behind first l last m → is_bad m.kind ≡ true → Raw l.kind → (before : Kept) → Follows before (kind_numbers m.kind) last → Becomes behind before l last m
last_anew {behind = behind} {last = last} (Becomes.same l no_sign) =
    λ bad raw before later. subst (λ ks. Becomes behind ks l last l) (sym (follows_none later (raw_none l.kind raw))) (Becomes.same l no_sign)
last_anew {behind = behind} {last = last} (Becomes.other l no_string) =
    λ bad raw before later. subst (λ ks. Becomes behind ks l last l) (sym (follows_none later (raw_none l.kind raw))) (Becomes.other l no_string)
last_anew (Becomes.pattern l m text after sign string place is) = λ bad raw before later. Becomes.pattern l m text after sign string place (by is bad before later) where
  by : {at : ℕ} {first last : Kept} {kind : LexemeKind} → IsPattern at text first last kind → is_bad kind ≡ true → (before : Kept) → Follows before (kind_numbers kind) last → IsPattern at text before last kind
  by (IsPattern.kept after id passes readable is few number told) = λ bad before later. true_false (sym bad)
  by (IsPattern.refused after plain refused is) = λ bad before later. IsPattern.refused after plain refused (sym (follows_none later refl))
  by {at = at} (IsPattern.too_many after readable kept full is) =
      λ bad before later. subst (λ ks. IsPattern at text ks after (kinds.Bad (TooManyPatterns at))) (sym is ∙ sym (follows_none later refl)) (IsPattern.too_many after readable kept full is)

-- what another lexeme becomes, and what is kept then
record MoreAnew (behind : Bool) (before last : Kept) (l m : Lexeme) (ns : List ℕ) : Type 0 where
  middle : Kept
  becomes : Becomes behind before l middle m
  later : Follows middle ns last

pattern_anew : {at : ℕ} {text : List ℕ} {first middle : Kept} {kind : LexemeKind} → IsPattern at text first middle kind → is_bad kind ≡ false → (before last : Kept) (ns : List ℕ) → Grown middle last
    → Follows before (kind_numbers kind ++ ns) last → (after : Kept) × IsPattern at text before after kind × Follows after ns last
pattern_anew {at = at} {text = text} {first = first} (IsPattern.kept middle id passes readable is few number told) =
    λ good before last ns grown later.
    let another = next_of later id.0 ns refl in
    let same : another.text ≡ text = same_text text another.text first before middle another.middle last id.0 ns is number grown another.is another.number another.later in (
      another.middle,
      IsPattern.kept another.middle id passes readable (subst (λ s. another.middle ≡ with_pattern (true, s) before) same another.is) another.few
          (subst (λ s. id.0 ≡ number_of (true, s) before) same another.number) told,
      another.later,
    )
pattern_anew (IsPattern.refused after plain refused is) = λ good before last ns grown later. true_false good
pattern_anew (IsPattern.too_many after readable kept full is) = λ good before last ns grown later. true_false good

more_anew : {behind : Bool} {first middle : Kept} {l m : Lexeme} → Becomes behind first l middle m → is_bad m.kind ≡ false → Raw l.kind → (before last : Kept) (ns : List ℕ) → Grown middle last
    → Follows before (kind_numbers m.kind ++ ns) last → MoreAnew behind before last l m ns
more_anew (Becomes.same l no_sign) =
    λ good raw before last ns grown later. record { middle = before; becomes = Becomes.same l no_sign; later = subst (λ ks. Follows before (ks ++ ns) last) (raw_none l.kind raw) later }
more_anew (Becomes.other l no_string) =
    λ good raw before last ns grown later. record { middle = before; becomes = Becomes.other l no_string; later = subst (λ ks. Follows before (ks ++ ns) last) (raw_none l.kind raw) later }
more_anew (Becomes.pattern l m text after sign string place is) =
    λ good raw before last ns grown later.
    let another = pattern_anew is good before last ns grown later in
    record { middle = another.0; becomes = Becomes.pattern l m text another.0 sign string place another.1; later = another.2 }

-- ---- all lexemes

pub anew : {behind : Bool} {first last : Kept} {ls ms : List Lexeme} → Patterned behind first ls last ms → AllRaw ls → (before : Kept) → Follows before (numbers ms) last → Patterned behind before ls last ms
anew {behind = behind} {last = last} Patterned.done = λ raw before later. subst (λ ks. Patterned behind ks [] last []) (sym (follows_none later refl)) Patterned.done
anew (Patterned.last l m ls after becomes bad) =
    λ raw before later. Patterned.last l m ls after (last_anew becomes bad raw.0 before (subst (λ ns. Follows before ns after) (append_nil (kind_numbers m.kind)) later)) bad
anew {last = last} (Patterned.more l m ls ms middle _ becomes good others) =
    λ raw before later.
    let another = more_anew becomes good raw.0 before last (numbers ms) (grows others) later in
    Patterned.more l m ls ms another.middle last another.becomes good (anew others raw.1 another.middle another.later)
