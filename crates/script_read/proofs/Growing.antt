-- Patterns that are gathered.
use Rattle.std.proofs.Common.{◌≡◌, ◌⊎◌, inl, inr, ℕ, Bool, true, false, Option, Some, List, [], ◌∷◌, ◌++◌, Contains, refl, ap, sym, subst, ◌∙◌, arith, append_assoc, append-nil, length-append, slice_get, length, ◌<◌, ◌≤◌}
use Rattle.std.specs.Prelude.{if◌then◌else◌}
use Rattle.std.proofs.lemmas.List.Elements.{Contains-append_cases, Contains-push_cases}
use Rattle.std.proofs.lemmas.Option.{slice_get-get_or}
use Rattle.std.proofs.Math.ListN.{get_or-append}
use Rattle.match_rule.specs.Gains.{Gains}
use Rattle.match_rule.specs.Patterns.{is_kept, is_readable, with_pattern}
use Rattle.script_read.specs.Expects.{Gathers, GrowsBy, IsSearch, search_on}
use Rattle.script_read.specs.Lines.{Numbered}
use Rattle.script_read.specs.Outcomes.{PatternList}

-- a line that adds no pattern
pub grows_none : (search : Option (List ℕ)) (before now : PatternList) → now ≡ before → GrowsBy search before now
grows_none search before now is = record {
  more = [];
  behind = is ∙ sym (append-nil before);
  named = λ p at. absurd (omega (arith, at.1));
  readable = λ p at. absurd (omega (arith, at.1));
  few = λ h. subst (λ (l : PatternList). length l ≤ 32) (sym is) h;
}

only : (p q : Bool × List ℕ) (P : Bool × List ℕ → Type 0) → P p → Contains (p ∷ []) q → P q
only p q P h at = elim (Contains-push_cases [] p q at) [ inl none ↦ absurd (omega (arith, none.1)) | inr same ↦ subst P same h ]

-- a line that adds its pattern, unless it is kept
pub grows_one : (text : List ℕ) (before now : PatternList) → now ≡ with_pattern (false, text) before → is_readable false text ≡ true → length now ≤ 32 → GrowsBy (Some text) before now
grows_one text before now is can few = go (is_kept (false, text) before) is
  where
    go : (kept : Bool) → now ≡ (if kept then before else before ++ (false, text) ∷ []) → GrowsBy (Some text) before now
    go true is = grows_none (Some text) before now is
    go false is = record {
      more = (false, text) ∷ [];
      behind = is;
      named = λ p at. only (false, text) p (IsSearch (Some text)) (refl, refl) at;
      readable = λ p at. only (false, text) p (λ (q : Bool × List ℕ). is_readable q.0 q.1 ≡ true) can at;
      few = λ _. few;
    }

pub gathers_line : (lines : List Numbered) (line : Numbered) (a b : PatternList) → Contains lines line → GrowsBy (search_on line.text) a b → Gathers lines a b
gathers_line lines line a b there h = record { more = h.more; behind = h.behind; named = λ p at. (line, there, h.named p at); readable = h.readable; few = h.few }

either : (lines : List Numbered) (a b c : PatternList) (f : Gathers lines a b) (g : Gathers lines b c) (p : Bool × List ℕ) → Contains f.more p ⊎ Contains g.more p
    → (line : Numbered) × Contains lines line × IsSearch (search_on line.text) p
either lines a b c f g p (inl at) = f.named p at
either lines a b c f g p (inr at) = g.named p at

each_readable : (xs ys : PatternList) (P : Bool × List ℕ → Type 0) → ((p : Bool × List ℕ) → Contains xs p → P p) → ((p : Bool × List ℕ) → Contains ys p → P p) → (p : Bool × List ℕ) → Contains xs p ⊎ Contains ys p → P p
each_readable xs ys P left right p (inl at) = left p at
each_readable xs ys P left right p (inr at) = right p at

pub gathers_all : (lines : List Numbered) (a b c : PatternList) → Gathers lines a b → Gathers lines b c → Gathers lines a c
gathers_all lines a b c f g = record {
  more = f.more ++ g.more;
  behind = g.behind ∙ ap (λ l. l ++ g.more) f.behind ∙ append_assoc a f.more g.more;
  named = λ p at. either lines a b c f g p (Contains-append_cases f.more g.more p at);
  readable = λ p at. each_readable f.more g.more (λ (q : Bool × List ℕ). is_readable q.0 q.1 ≡ true) f.readable g.readable p (Contains-append_cases f.more g.more p at);
  few = λ h. g.few (f.few h);
}

pub gathers_among : (lines all : List Numbered) (a b : PatternList) → ((line : Numbered) → Contains lines line → Contains all line) → Gathers lines a b → Gathers all a b
gathers_among lines all a b there h = record {
  more = h.more;
  behind = h.behind;
  named = λ p at. let found = h.named p at in (found.0, there found.0 found.1, found.2);
  readable = h.readable;
  few = h.few;
}

-- what is said of the patterns that are kept then, behind which others may stand
pub gathered : (before now last more : PatternList) → now ≡ before ++ last → before ++ (last ++ more) ≡ now ++ more
gathered before now last more is = rw is (sym (append_assoc before last more))

stays : (a more : PatternList) (k : ℕ) → k < length a → slice_get (a ++ more) k ≡ slice_get a k
stays a more k lt =
    slice_get-get_or (a ++ more) k (false, []) (omega (arith, length-append a more, lt)) ∙ ap Some (get_or-append a more (false, []) k lt) ∙ sym (slice_get-get_or a k (false, []) lt)

-- no pattern loses its number
pub gathers_gains : (lines : List Numbered) (a b : PatternList) → Gathers lines a b → Gains a b
gathers_gains lines a b h = record {
  earlier = λ k lt. ap (λ l. slice_get l k) h.behind ∙ stays a h.more k lt;
  more = omega (arith, ap length h.behind, length-append a h.more);
}
