-- Where a byte stands outside quotes.
use Rattle.std.proofs.Common.{◌≡◌, ◌≤◌, ℕ, suc, ◌+◌, ◌-◌, Bool, true, false, not, cond, List, [], ◌∷◌, ◌++◌, length, take, Option, Some, None, option_map, refl, ap, sym, ◌∙◌, arith, append-nil}
use Rattle.std.proofs.Math.Seq.{take-append_seam, take-append-add}
use Rattle.std.specs.Prelude.{◌==◌, ◌&&◌}
use Rattle.std.proofs.lemmas.Bool.{eqb-true}
use Rattle.script_read.specs.Quotes.{before_place, is_open, place_from, place_outside, quoting_behind, without_comment}
use Rattle.script_read.specs.declared.quote.Quoting.{Quoting}
use Rattle.script_read.specs.declared.quote.Quoting.TheVariants.{Outside}
use Rattle.script_read.proofs.Names.{and_left}
use Rattle.script_read.proofs.Takes.{by_test, map_some}

map_none : (o : Option ℕ) → option_map (λ p. p + 1) o ≡ None → o ≡ None
map_none (Some p) h = absurd (cc)
map_none None h = refl

-- the byte stands behind a front in which it doesn't stand outside quotes
pub record Stands (wanted : ℕ) (quoting : Quoting) (text : List ℕ) (place : ℕ) : Type 0 where
  pub front : List ℕ
  pub back : List ℕ
  pub joined : text ≡ front ++ (wanted ∷ back)
  pub long : length front ≡ place
  pub none : place_from wanted quoting front ≡ None
  pub closes : place_from wanted quoting (front ++ (wanted ∷ [])) ≡ Some place
  -- what stands nowhere in the text stands nowhere in its front
  pub clear : (byte : ℕ) → place_from byte quoting text ≡ None → place_from byte quoting front ≡ None

from_step : (wanted : ℕ) (quoting : Quoting) (byte : ℕ) (bytes : List ℕ) (b : Bool) → (byte == wanted && not (is_open quoting)) ≡ b
    → place_from wanted quoting (byte ∷ bytes) ≡ cond b (Some 0) (option_map (λ place. place + 1) (place_from wanted (quoting_behind quoting byte) bytes))
from_step wanted quoting byte bytes b e = ap (λ v. cond v (Some 0) (option_map (λ place. place + 1) (place_from wanted (quoting_behind quoting byte) bytes))) e

pub stands_at : (wanted : ℕ) (quoting : Quoting) (text : List ℕ) (place : ℕ) → place_from wanted quoting text ≡ Some place → Stands wanted quoting text place
stands_at wanted quoting [] place h = absurd (cc)
stands_at wanted quoting (byte ∷ bytes) place h =
    by_test (byte == wanted && not (is_open quoting)) _ _ (Some place) h
    (λ e k.
    let same : 0 ≡ place = cc in
    let is : byte ≡ wanted = eqb-true byte wanted (and_left (byte == wanted) (not (is_open quoting)) e) in
    record {
      front = [];
      back = bytes;
      joined = ap (λ b. b ∷ bytes) is;
      long = same;
      none = refl;
      closes = ap (λ b. place_from wanted quoting (b ∷ [])) (sym is) ∙ from_step wanted quoting byte [] true e ∙ ap Some same;
      clear = λ other _. refl;
    })
    (λ e k.
    let m = map_some (place_from wanted (quoting_behind quoting byte) bytes) place k in
    let s = stands_at wanted (quoting_behind quoting byte) bytes m.0 m.1 in
    record {
      front = byte ∷ s.front;
      back = s.back;
      joined = ap (λ l. byte ∷ l) s.joined;
      long = omega (arith, s.long, m.2);
      none = from_step wanted quoting byte s.front false e ∙ ap (option_map (λ place. place + 1)) s.none;
      closes = from_step wanted quoting byte (s.front ++ (wanted ∷ [])) false e ∙ ap (option_map (λ place. place + 1)) s.closes ∙ ap Some m.2;
      clear = λ other h. clear_more quoting byte bytes s.front other h s.clear;
    })
  where
    clear_more : (quoting : Quoting) (byte : ℕ) (bytes front : List ℕ) (other : ℕ) → place_from other quoting (byte ∷ bytes) ≡ None
        → ((o : ℕ) → place_from o (quoting_behind quoting byte) bytes ≡ None → place_from o (quoting_behind quoting byte) front ≡ None) → place_from other quoting (byte ∷ front) ≡ None
    clear_more quoting byte bytes front other h more =
        by_test (byte == other && not (is_open quoting)) _ _ None h (λ _ k. absurd (cc))
        (λ f k. from_step other quoting byte front false f ∙ ap (option_map (λ place. place + 1)) (more other (map_none (place_from other (quoting_behind quoting byte) bytes) k)))

-- ---- more behind a text

-- the place stays where it is
pub place_stays : (wanted : ℕ) (quoting : Quoting) (text more : List ℕ) (place : ℕ) → place_from wanted quoting text ≡ Some place → place_from wanted quoting (text ++ more) ≡ Some place
place_stays wanted quoting [] more place h = absurd (cc)
place_stays wanted quoting (byte ∷ bytes) more place h =
    by_test (byte == wanted && not (is_open quoting)) _ _ (Some place) h
    (λ e k. from_step wanted quoting byte (bytes ++ more) true e ∙ k)
    (λ e k.
    let m = map_some (place_from wanted (quoting_behind quoting byte) bytes) place k in
    from_step wanted quoting byte (bytes ++ more) false e ∙ ap (option_map (λ p. p + 1)) (place_stays wanted (quoting_behind quoting byte) bytes more m.0 m.1) ∙ ap Some m.2)

-- what doesn't stand in a text, nor right behind it, stands further on
pub place_past : (wanted : ℕ) (quoting : Quoting) (text : List ℕ) (other : ℕ) (more : List ℕ) (place : ℕ) → place_from wanted quoting text ≡ None → (other == wanted) ≡ false
    → place_from wanted quoting (text ++ (other ∷ more)) ≡ Some place → length text + 1 ≤ place
place_past wanted quoting [] other more place h o k =
    let e : (other == wanted && not (is_open quoting)) ≡ false = ap (λ b. b && not (is_open quoting)) o in
    let m = map_some (place_from wanted (quoting_behind quoting other) more) place (sym (from_step wanted quoting other more false e) ∙ k) in
    omega (arith, m.2)
place_past wanted quoting (byte ∷ bytes) other more place h o k =
    by_test (byte == wanted && not (is_open quoting)) _ _ None h (λ _ l. absurd (cc))
    (λ e l.
    let m = map_some (place_from wanted (quoting_behind quoting byte) (bytes ++ (other ∷ more))) place (sym (from_step wanted quoting byte (bytes ++ (other ∷ more)) false e) ∙ k) in
    let past = place_past wanted (quoting_behind quoting byte) bytes other more m.0 (map_none (place_from wanted (quoting_behind quoting byte) bytes) l) o m.1 in
    omega (arith, past, m.2))

-- ---- comments

-- a text as what isn't its comment, and the rest
pub record Uncommented (text : List ℕ) : Type 0 where
  pub rest : List ℕ
  pub joined : text ≡ without_comment text ++ rest
  pub none : place_outside 35 (without_comment text) ≡ None

pub uncommented : (text : List ℕ) → Uncommented text
uncommented text = by (place_outside 35 text) refl
  where
    by : (place : Option ℕ) → place_outside 35 text ≡ place → Uncommented text
    by None e =
        let is : without_comment text ≡ text = ap (λ p. before_place p text) e in
        record { rest = []; joined = sym is ∙ sym (append-nil (without_comment text)); none = ap (place_outside 35) is ∙ e }
    by (Some place) e =
        let s = stands_at 35 Outside text place e in
        let front : take place text ≡ s.front = ap (λ n. take n text) (sym s.long) ∙ ap (take (length s.front)) s.joined ∙ take-append_seam s.front (35 ∷ s.back) in
        let is : without_comment text ≡ s.front = ap (λ p. before_place p text) e ∙ front in
        record { rest = 35 ∷ s.back; joined = s.joined ∙ ap (λ l. l ++ (35 ∷ s.back)) (sym is); none = ap (place_outside 35) is ∙ s.none }

-- a front without comments, and one byte more, aren't in the comment
pub kept_front : (front : List ℕ) (other : ℕ) (more : List ℕ) → place_outside 35 front ≡ None → (other == 35) ≡ false
    → (rest : List ℕ) × (without_comment (front ++ (other ∷ more)) ≡ front ++ (other ∷ rest))
kept_front front other more h o = by (place_outside 35 (front ++ (other ∷ more))) refl
  where
    by : (place : Option ℕ) → place_outside 35 (front ++ (other ∷ more)) ≡ place → (rest : List ℕ) × (without_comment (front ++ (other ∷ more)) ≡ front ++ (other ∷ rest))
    by None e = (more, ap (λ p. before_place p (front ++ (other ∷ more))) e)
    by (Some place) e =
        let past = place_past 35 Outside front other more place h o e in
        let k = place - (length front + 1) in
        let at : place ≡ length front + (k + 1) = omega (arith, past) in
        let one : k + 1 ≡ suc k = omega arith in (
          take k more,
          ap (λ p. before_place p (front ++ (other ∷ more))) e ∙ ap (λ n. take n (front ++ (other ∷ more))) at ∙ take-append-add front (other ∷ more) (k + 1)
              ∙ ap (λ n. front ++ take n (other ∷ more)) one,
        )
