-- What is summed unit by unit is what the pairs of a text stand for.
use Rattle.std.proofs.Common.{◌≡◌, ℕ, ◌+◌, ◌*◌, ◌<◌, Bool, true, false, cond, List, [], ◌∷◌, length, None, Some, find, inl, inr, ◌⊎◌, bytes_eq, refl, sym, ap, subst, ◌∙◌, arith}
use Rattle.std.specs.Prelude.{ℤ, pos, ◌≤◌, Option, option_map, Ok, Err}
use Rattle.std.proofs.lemmas.Bool.{and_parts, and_from, cases_lt, cond-true, cond-false, ltb-true, lt-ltb, le-ltb}
use Rattle.ticks.specs.declared.moment.Ms.{Ms}
use Rattle.ticks.specs.declared.refusal.TickRefusal.TheVariants.{BadDuration, OutOfRange}
use Rattle.std.proofs.lemmas.Slice.Eq.{bytes_eq-Decides}
use Rattle.ticks.specs.declared.unit.Unit.{Unit}
use Rattle.ticks.specs.declared.unit.Unit.TheVariants.{Year, Week, Day, Hour, Minute, Second, Millisecond}
use Rattle.ticks.specs.Durations.{begins_with, duration_answer, duration_in, hundred_years, IsCapped, IsDuration, number, Spells, sum_by, within_years}
use Rattle.ticks.specs.Runs.{digits_of, after_digits, name_at, after_name}
use Rattle.ticks.specs.Units.{milliseconds_in, name_of, units}
use Rattle.ticks.specs.Pairs.{find-name, find-passes, Spells-from_step, Spells-nil, Step, step-from_Spells}
use Rattle.ticks.specs.Written.{AreFalling-longer, Descend, units-descend}

Spells-longer : (length longest : ℕ) (text : List ℕ) (n : ℕ) → length < longest → Spells length text n → Spells longest text n
Spells-longer length longest text n less spells = record {
  pairs = spells.pairs;
  falling = AreFalling-longer length longest spells.pairs less spells.falling;
  spelled = spells.spelled;
  amount = spells.amount;
}

mapped : (f : ℕ → ℕ) (o : Option ℕ) (n : ℕ) → option_map f o ≡ Some n → (more : ℕ) × (o ≡ Some more) × (f more ≡ n)
mapped f None n is = absurd (cc is)
mapped f (Some more) n is = (more, refl, cc is)

Spells-begun : (unit : Unit) (longest n more : ℕ) (text : List ℕ) → milliseconds_in unit < longest → begins_with unit text ≡ true
    → Spells (milliseconds_in unit) (after_name (after_digits text)) more → number (digits_of text) * milliseconds_in unit + more ≡ n → Spells longest text n
Spells-begun unit longest n more text shorter begins rest amount =
    let both = and_parts _ _ begins in
    let named : name_of unit ≡ name_at (after_digits text) = (bytes_eq-Decides (name_of unit) (name_at (after_digits text))).0 both.1 in
    Spells-from_step longest n text (record {
      unit = unit;
      more = more;
      some = ltb-true 0 (length (digits_of text)) both.0;
      found = ap (λ (l : List ℕ). find (λ u. bytes_eq (name_of u) l) units) (sym named) ∙ find-name unit;
      shorter = shorter;
      rest = rest;
      amount = amount;
    })

pub sum_by-Spells : (longest_first : List Unit) (longest : ℕ) (text : List ℕ) (n : ℕ) → Descend longest longest_first → sum_by longest_first text ≡ Some n → Spells longest text n
unfolding sum_by
sum_by-Spells [] longest [] n descend is = record { pairs = []; falling = tt; spelled = refl; amount = cc is }
sum_by-Spells [] longest (byte ∷ bytes) n descend is = absurd (cc is)
sum_by-Spells (unit ∷ shorter) longest text n descend is =
    each (begins_with unit text) refl (λ more e. sum_by-Spells shorter (milliseconds_in unit) (after_name (after_digits text)) more descend.1 e)
    (λ e. sum_by-Spells shorter (milliseconds_in unit) text n descend.1 e) is where
      each : (b : Bool) → begins_with unit text ≡ b → ((more : ℕ) → sum_by shorter (after_name (after_digits text)) ≡ Some more → Spells (milliseconds_in unit) (after_name (after_digits text)) more)
          → (sum_by shorter text ≡ Some n → Spells (milliseconds_in unit) text n)
          → cond b (option_map (λ more. number (digits_of text) * milliseconds_in unit + more) (sum_by shorter (after_name (after_digits text)))) (sum_by shorter text) ≡ Some n → Spells longest text n
      each true begins taken left e =
          let some = mapped (λ more. number (digits_of text) * milliseconds_in unit + more) (sum_by shorter (after_name (after_digits text))) n e in
          Spells-begun unit longest n some.0 text descend.0 begins (taken some.0 some.1) some.2
      each false begins taken left e = Spells-longer (milliseconds_in unit) longest text n descend.0 (left e)

abbrev IsAmong : Unit → List Unit → Type 0
IsAmong unit [] = ⊥
IsAmong unit (first ∷ rest) = (unit ≡ first) ⊎ IsAmong unit rest

among-shorter : (unit : Unit) (longest_first : List Unit) (longest : ℕ) → Descend longest longest_first → IsAmong unit longest_first → milliseconds_in unit < longest
among-shorter unit [] longest descend among = absurd among
among-shorter unit (first ∷ rest) longest descend (inl same) = subst (λ (u : Unit). milliseconds_in u < longest) (sym same) descend.0
among-shorter unit (first ∷ rest) longest descend (inr among) =
    let less = among-shorter unit rest (milliseconds_in first) descend.1 among in
    omega (arith, less, descend.0)

same-unit : (a b : Unit) → Some a ≡ Some b → a ≡ b
same-unit a b is = cc is

-- the first pair of a text has the unit that the text begins with
begun-unit : (unit : Unit) (longest n : ℕ) (text : List ℕ) → begins_with unit text ≡ true → (step : Step longest (digits_of text) (name_at (after_digits text)) (after_name (after_digits text)) n) → step.unit ≡ unit
begun-unit unit longest n text begins step =
    let first : find (λ u. bytes_eq (name_of u) (name_at (after_digits text))) units ≡ Some step.unit = step.found in
    let named : name_of unit ≡ name_at (after_digits text) = (bytes_eq-Decides (name_of unit) (name_at (after_digits text))).0 (and_parts _ _ begins).1 in
    let found : find (λ u. bytes_eq (name_of u) (name_at (after_digits text))) units ≡ Some unit = ap (λ (l : List ℕ). find (λ u. bytes_eq (name_of u) l) units) (sym named) ∙ find-name unit in
    same-unit step.unit unit (sym first ∙ found)

unit-begins : (longest n : ℕ) (text : List ℕ) (step : Step longest (digits_of text) (name_at (after_digits text)) (after_name (after_digits text)) n) → begins_with step.unit text ≡ true
unit-begins longest n text step =
    and_from _ _ (lt-ltb 0 (length (digits_of text)) step.some)
    (find-passes (λ u. bytes_eq (name_of u) (name_at (after_digits text))) units step.unit step.found)

begun-some : (unit : Unit) (text : List ℕ) → begins_with unit text ≡ true → 0 < length text
begun-some unit [] begins = absurd (cc begins)
begun-some unit (byte ∷ bytes) begins = omega arith

-- a text that doesn't begin with the longest unit is one of shorter units
Spells-left : (unit : Unit) (shorter : List Unit) (longest n : ℕ) (text : List ℕ) → Descend (milliseconds_in unit) shorter
    → ((u : Unit) → milliseconds_in u < longest → IsAmong u (unit ∷ shorter)) → begins_with unit text ≡ false → Spells longest text n → Spells (milliseconds_in unit) text n
Spells-left unit shorter longest n [] descend all begins spells =
    let none : n ≡ 0 = Spells-nil longest n [] refl spells in
    record { pairs = []; falling = tt; spelled = refl; amount = sym none }
Spells-left unit shorter longest n (byte ∷ bytes) descend all begins spells = by_unit (all step.unit step.shorter)
  where
    step : Step longest (digits_of (byte ∷ bytes)) (name_at (after_digits (byte ∷ bytes))) (after_name (after_digits (byte ∷ bytes))) n
    step = step-from_Spells longest n (byte ∷ bytes) (omega arith) spells

    by_unit : IsAmong step.unit (unit ∷ shorter) → Spells (milliseconds_in unit) (byte ∷ bytes) n
    by_unit (inl same) =
        let is : begins_with unit (byte ∷ bytes) ≡ true = subst (λ (u : Unit). begins_with u (byte ∷ bytes) ≡ true) same (unit-begins longest n (byte ∷ bytes) step) in
        absurd (cc (is, begins))
    by_unit (inr among) =
        Spells-from_step (milliseconds_in unit) n (byte ∷ bytes) (record {
          unit = step.unit;
          more = step.more;
          some = step.some;
          found = step.found;
          shorter = among-shorter step.unit shorter (milliseconds_in unit) descend among;
          rest = step.rest;
          amount = step.amount;
        })

pub Spells-sum_by : (longest_first : List Unit) (longest : ℕ) (text : List ℕ) (n : ℕ) → Descend longest longest_first → ((u : Unit) → milliseconds_in u < longest → IsAmong u longest_first)
    → Spells longest text n → sum_by longest_first text ≡ Some n
unfolding sum_by
Spells-sum_by [] longest [] n descend all spells =
    let none : n ≡ 0 = Spells-nil longest n [] refl spells in
    ap (λ m. Some m) (sym none)
Spells-sum_by [] longest (byte ∷ bytes) n descend all spells =
    let step = step-from_Spells longest n (byte ∷ bytes) (omega arith) spells in
    absurd (all step.unit step.shorter)
Spells-sum_by (unit ∷ shorter) longest text n descend all spells =
    each (begins_with unit text) refl (λ more rest. Spells-sum_by shorter (milliseconds_in unit) (after_name (after_digits text)) more descend.1 fewer rest)
    (λ left. Spells-sum_by shorter (milliseconds_in unit) text n descend.1 fewer left) where
      fewer : (u : Unit) → milliseconds_in u < milliseconds_in unit → IsAmong u shorter
      fewer u less = among (all u (let longer = descend.0 in omega arith))
        where
          among : IsAmong u (unit ∷ shorter) → IsAmong u shorter
          among (inl same) = absurd (omega (arith, less, ap milliseconds_in same))
          among (inr rest) = rest

      each : (b : Bool) → begins_with unit text ≡ b → ((more : ℕ) → Spells (milliseconds_in unit) (after_name (after_digits text)) more → sum_by shorter (after_name (after_digits text)) ≡ Some more)
          → (Spells (milliseconds_in unit) text n → sum_by shorter text ≡ Some n)
          → cond b (option_map (λ more. number (digits_of text) * milliseconds_in unit + more) (sum_by shorter (after_name (after_digits text)))) (sum_by shorter text) ≡ Some n
      each true begins taken left =
          let step = step-from_Spells longest n text (begun-some unit text begins) spells in
          let same : step.unit ≡ unit = begun-unit unit longest n text begins step in
          let rest : Spells (milliseconds_in unit) (after_name (after_digits text)) step.more = subst (λ (u : Unit). Spells (milliseconds_in u) (after_name (after_digits text)) step.more) same step.rest in
          let amount : number (digits_of text) * milliseconds_in unit + step.more ≡ n = subst (λ (u : Unit). number (digits_of text) * milliseconds_in u + step.more ≡ n) same step.amount in
          ap (option_map (λ more. number (digits_of text) * milliseconds_in unit + more)) (taken step.more rest) ∙ ap (λ m. Some m) amount
      each false begins taken left = left (Spells-left unit shorter longest n text descend.1 all begins spells)

units-all : (u : Unit) → IsAmong u units
units-all Year = inl refl
units-all Week = inr (inl refl)
units-all Day = inr (inr (inl refl))
units-all Hour = inr (inr (inr (inl refl)))
units-all Minute = inr (inr (inr (inr (inl refl))))
units-all Second = inr (inr (inr (inr (inr (inl refl)))))
units-all Millisecond = inr (inr (inr (inr (inr (inr (inl refl))))))

pub duration_in-IsDuration : (text : List ℕ) (n : ℕ) → duration_in text ≡ Some n → IsDuration text n
unfolding duration_in
duration_in-IsDuration [] n is = absurd (cc is)
duration_in-IsDuration (byte ∷ bytes) n is = record { some = omega arith; spells = sum_by-Spells units (milliseconds_in Year + 1) (byte ∷ bytes) n units-descend is }

pub IsDuration-duration_in : (text : List ℕ) (n : ℕ) → IsDuration text n → duration_in text ≡ Some n
unfolding duration_in
IsDuration-duration_in [] n is = absurd (omega (arith, is.some))
IsDuration-duration_in (byte ∷ bytes) n is = Spells-sum_by units (milliseconds_in Year + 1) (byte ∷ bytes) n units-descend (λ u less. units-all u) is.spells

pub duration_in-none : (text : List ℕ) → ((n : ℕ) → IsDuration text n → ⊥) → duration_in text ≡ None
duration_in-none text none = by_answer (duration_in text) refl
  where
    by_answer : (o : Option ℕ) → duration_in text ≡ o → o ≡ None
    by_answer None is = refl
    by_answer (Some n) is = absurd (none n (duration_in-IsDuration text n is))

-- a capped count tells whether a number is within the limit
pub capped-long : (n counted : ℕ) → IsCapped n counted → hundred_years < counted → hundred_years < n
capped-long n counted capped long = elim (cases_lt hundred_years n) [ inl over ↦ over | inr under ↦ absurd (omega (arith, capped.within under)) ]

pub capped-small : (n counted : ℕ) → IsCapped n counted → counted ≤ hundred_years → n ≤ hundred_years
capped-small n counted capped small = elim (cases_lt hundred_years n) [ inl over ↦ absurd (omega (arith, capped.beyond over)) | inr under ↦ under ]

-- what a text is answered with, by what it spells
pub answer-bad : (text : List ℕ) → ((n : ℕ) → IsDuration text n → ⊥) → Err BadDuration ≡ duration_answer text
answer-bad text none = ap within_years (sym (duration_in-none text none))

pub answer-long : (text : List ℕ) (n : ℕ) → IsDuration text n → hundred_years < n → Err OutOfRange ≡ duration_answer text
answer-long text n is long =
    sym (ap within_years (IsDuration-duration_in text n is) ∙ cond-true _ _ _ (lt-ltb hundred_years n long))

abbrev milliseconds : ℤ → Ms
milliseconds d = record { 0 = d }

pub answer-taken : (text : List ℕ) (n : ℕ) (d : ℤ) → IsDuration text n → n ≤ hundred_years → d ≡ pos n → Ok (record { 0 = d }) ≡ duration_answer text
answer-taken text n d is small same =
    ap (λ (z : ℤ). Ok (milliseconds z)) same ∙ sym (ap within_years (IsDuration-duration_in text n is) ∙ cond-false _ _ _ (le-ltb hundred_years n small))
