-- A text of pairs falls into its first digits, the name after them and the rest in one way.
use Rattle.std.proofs.Common.{◌≡◌, ℕ, suc, ◌+◌, ◌*◌, ◌<◌, ◌≤◌, min, ◌^◌, ◌-◌, Bool, true, false, cond, not, List, [], ◌∷◌, ◌++◌, length, take, drop, None, Some, find, inl, inr, bytes_eq, refl, sym, ap, subst, ◌∙◌, arith, get_or, zero, take-append-drop, length-append}
use Rattle.std.proofs.lemmas.Bool.{cases_lt, cond-false, cond-true, le-ltb, lt-ltb}
use Rattle.std.proofs.lemmas.Bool.Decides.{nat_tests}
use Rattle.std.proofs.lemmas.Int.Digits.{digits_value_more}
use Rattle.std.proofs.Math.Seq.{take-append_seam, drop-append_seam}
use Rattle.std.proofs.lemmas.Slice.Eq.{bytes_eq-Decides}
use Rattle.std.specs.Char.{digit_value, is_ascii_digit}
use Rattle.std.specs.List.{position_or_len, prefix_len}
use Rattle.ticks.specs.declared.unit.Unit.{Unit}
use Rattle.ticks.specs.declared.unit.Unit.TheVariants.{Year, Week, Day, Hour, Minute, Second, Millisecond}
use Rattle.ticks.specs.Durations.{AreDigits, AreFalling, hundred_years, IsCapped, Spells, number, text_of, total}
use Rattle.ticks.specs.Runs.{digits_of, after_digits, name_at, after_name}
use Rattle.ticks.specs.Units.{milliseconds_in, name_of, units}

prefix_len-append : (digits rest : List ℕ) → AreDigits digits → prefix_len is_ascii_digit rest ≡ 0 → prefix_len is_ascii_digit (digits ++ rest) ≡ length digits
prefix_len-append [] rest all stop = stop
prefix_len-append (digit ∷ digits) rest all stop =
    let first = all.0 in
    let later = prefix_len-append digits rest all.1 stop in
    ap (λ b. cond b (1 + prefix_len is_ascii_digit (digits ++ rest)) 0) first ∙ omega (arith, later)

name_first : (unit : Unit) (rest : List ℕ) → prefix_len is_ascii_digit (name_of unit ++ rest) ≡ 0
name_first Year rest = refl
name_first Week rest = refl
name_first Day rest = refl
name_first Hour rest = refl
name_first Minute rest = refl
name_first Second rest = refl
name_first Millisecond rest = refl

name_run : (unit : Unit) (rest : List ℕ) → position_or_len is_ascii_digit rest ≡ 0 → position_or_len is_ascii_digit (name_of unit ++ rest) ≡ length (name_of unit)
name_run Year rest stop = ap (λ (n : ℕ). 1 + n) stop
name_run Week rest stop = ap (λ (n : ℕ). 1 + n) stop
name_run Day rest stop = ap (λ (n : ℕ). 1 + n) stop
name_run Hour rest stop = ap (λ (n : ℕ). 1 + n) stop
name_run Minute rest stop = ap (λ (n : ℕ). 1 + n) stop
name_run Second rest stop = ap (λ (n : ℕ). 1 + n) stop
name_run Millisecond rest stop = ap (λ (n : ℕ). 1 + (1 + n)) stop

pairs_first : (longest : ℕ) (pairs : List (List ℕ × Unit)) → AreFalling longest pairs → position_or_len is_ascii_digit (text_of pairs) ≡ 0
pairs_first longest [] falling = refl
pairs_first longest (([], unit) ∷ pairs) falling = absurd (omega (arith, falling.0))
pairs_first longest ((digit ∷ digits, unit) ∷ pairs) falling =
    ap (λ b. cond (not b) (1 + position_or_len is_ascii_digit (digits ++ (name_of unit ++ text_of pairs))) 0) falling.1.0

pub find-name : (unit : Unit) → find (λ u. bytes_eq (name_of u) (name_of unit)) units ≡ Some unit
find-name Year = refl
find-name Week = refl
find-name Day = refl
find-name Hour = refl
find-name Minute = refl
find-name Second = refl
find-name Millisecond = refl

-- the first pair of a text, and what the pairs after it are
pub record Step (longest : ℕ) (digits name later : List ℕ) (n : ℕ) : Type 0 where
  pub unit : Unit
  pub more : ℕ
  pub some : 0 < length digits
  pub found : find (λ u. bytes_eq (name_of u) name) units ≡ Some unit
  pub shorter : milliseconds_in unit < longest
  pub rest : Spells (milliseconds_in unit) later more
  pub amount : number digits * milliseconds_in unit + more ≡ n

step-cons : (longest : ℕ) (digits : List ℕ) (unit : Unit) (pairs : List (List ℕ × Unit)) → AreFalling longest ((digits, unit) ∷ pairs)
    → let text = digits ++ (name_of unit ++ text_of pairs) in Step longest (digits_of text) (name_at (after_digits text)) (after_name (after_digits text)) (number digits * milliseconds_in unit + total pairs)
step-cons longest digits unit pairs falling =
    let rest : List ℕ = name_of unit ++ text_of pairs in
    let text : List ℕ = digits ++ rest in
    let run : prefix_len is_ascii_digit text ≡ length digits = prefix_len-append digits rest falling.1 (name_first unit (text_of pairs)) in
    let front : digits_of text ≡ digits = ap (λ k. take k text) run ∙ take-append_seam digits rest in
    let after : after_digits text ≡ rest = ap (λ k. drop k text) run ∙ drop-append_seam digits rest in
    let letters : position_or_len is_ascii_digit rest ≡ length (name_of unit) = name_run unit (text_of pairs) (pairs_first (milliseconds_in unit) pairs falling.3) in
    let name : name_at (after_digits text) ≡ name_of unit = ap name_at after ∙ ap (λ k. take k rest) letters ∙ take-append_seam (name_of unit) (text_of pairs) in
    let later : after_name (after_digits text) ≡ text_of pairs = ap after_name after ∙ ap (λ k. drop k rest) letters ∙ drop-append_seam (name_of unit) (text_of pairs) in
    record {
      unit = unit;
      more = total pairs;
      some = subst (λ (l : List ℕ). 0 < length l) (sym front) falling.0;
      found = ap (λ (l : List ℕ). find (λ u. bytes_eq (name_of u) l) units) name ∙ find-name unit;
      shorter = falling.2;
      rest = record { pairs = pairs; falling = falling.3; spelled = sym later; amount = refl };
      amount = ap (λ (l : List ℕ). number l * milliseconds_in unit + total pairs) front;
    }

step-pairs : (longest n : ℕ) (text : List ℕ) (pairs : List (List ℕ × Unit)) → 0 < length text → AreFalling longest pairs → text_of pairs ≡ text → total pairs ≡ n
    → Step longest (digits_of text) (name_at (after_digits text)) (after_name (after_digits text)) n
step-pairs longest n text [] some falling spelled amount = absurd (omega (arith, ap length spelled))
step-pairs longest n text ((digits, unit) ∷ pairs) some falling spelled amount =
    subst (λ (m : ℕ). Step longest (digits_of text) (name_at (after_digits text)) (after_name (after_digits text)) m) amount
    (subst (λ (t : List ℕ). Step longest (digits_of t) (name_at (after_digits t)) (after_name (after_digits t)) (number digits * milliseconds_in unit + total pairs)) spelled
    (step-cons longest digits unit pairs falling))

-- a text of pairs that isn't empty begins with a pair
pub step-from_Spells : (longest n : ℕ) (text : List ℕ) → 0 < length text → Spells longest text n
    → Step longest (digits_of text) (name_at (after_digits text)) (after_name (after_digits text)) n
step-from_Spells longest n text some spells = step-pairs longest n text spells.pairs some spells.falling spells.spelled spells.amount

pub find-passes : {X : Type 0} (p : X → Bool) (xs : List X) (x : X) → find p xs ≡ Some x → p x ≡ true
find-passes p [] x found = absurd (cc found)
find-passes {X} p (y ∷ ys) x found = passes (p y) refl (find-passes p ys x) found where
  passes : (b : Bool) → p y ≡ b → (find p ys ≡ Some x → p x ≡ true) → cond b (Some y) (find p ys) ≡ Some x → p x ≡ true
  passes true is later found =
      let same : y ≡ x = cc found in
      subst (λ z. p z ≡ true) same is
  passes false is later found = later found

pub AreDigits-digits_of : (text : List ℕ) → AreDigits (digits_of text)
AreDigits-digits_of [] = tt
AreDigits-digits_of (byte ∷ bytes) = digits (is_ascii_digit byte) refl (AreDigits-digits_of bytes) where
  digits : (b : Bool) → is_ascii_digit byte ≡ b → AreDigits (digits_of bytes) → AreDigits (take (cond b (1 + prefix_len is_ascii_digit bytes) 0) (byte ∷ bytes))
  digits true is later =
      let next : suc (prefix_len is_ascii_digit bytes) ≡ 1 + prefix_len is_ascii_digit bytes = omega arith in
      subst (λ k. AreDigits (take k (byte ∷ bytes))) next (is, later)
  digits false is later = tt

-- a text that begins with a pair, whose rest is a text of pairs, is one
pub Spells-from_step : (longest n : ℕ) (text : List ℕ) → Step longest (digits_of text) (name_at (after_digits text)) (after_name (after_digits text)) n → Spells longest text n
Spells-from_step longest n text step =
    let after : List ℕ = after_digits text in
    let named : name_of step.unit ≡ name_at after =
    (bytes_eq-Decides (name_of step.unit) (name_at after)).0 (find-passes (λ u. bytes_eq (name_of u) (name_at after)) units step.unit step.found) in
    let joined : name_of step.unit ++ text_of step.rest.pairs ≡ after =
    ap (λ (l : List ℕ). l ++ text_of step.rest.pairs) named ∙ ap (λ (l : List ℕ). name_at after ++ l) step.rest.spelled
    ∙ take-append-drop (position_or_len is_ascii_digit after) after in
    record {
      pairs = (digits_of text, step.unit) ∷ step.rest.pairs;
      falling = (step.some, AreDigits-digits_of text, step.shorter, step.rest.falling);
      spelled = ap (λ (l : List ℕ). digits_of text ++ l) joined ∙ take-append-drop (prefix_len is_ascii_digit text) text;
      amount = ap (λ (m : ℕ). number (digits_of text) * milliseconds_in step.unit + m) step.rest.amount ∙ step.amount;
    }

-- the same of parts that code has cut out
step-seen : (longest n : ℕ) (text digits name later : List ℕ) → digits ≡ digits_of text → name ≡ name_at (after_digits text) → later ≡ after_name (after_digits text)
    → 0 < length text → Spells longest text n → Step longest digits name later n
step-seen longest n text digits name later front letters back some spells =
    subst (λ (d : List ℕ). Step longest d name later n) (sym front)
    (subst (λ (l : List ℕ). Step longest (digits_of text) l later n) (sym letters)
    (subst (λ (l : List ℕ). Step longest (digits_of text) (name_at (after_digits text)) l n) (sym back) (step-from_Spells longest n text some spells)))

Spells-seen : (longest n : ℕ) (text digits name later : List ℕ) → digits ≡ digits_of text → name ≡ name_at (after_digits text) → later ≡ after_name (after_digits text)
    → Step longest digits name later n → Spells longest text n
Spells-seen longest n text digits name later front letters back step =
    Spells-from_step longest n text
    (subst (λ (d : List ℕ). Step longest d (name_at (after_digits text)) (after_name (after_digits text)) n) front
    (subst (λ (l : List ℕ). Step longest digits l (after_name (after_digits text)) n) letters
    (subst (λ (l : List ℕ). Step longest digits name l n) back step)))

-- what a text of pairs is, after its first pair was cut out and its unit was looked for
module _ (longest : ℕ) (text digits name later : List ℕ) (front : digits ≡ digits_of text) (letters : name ≡ name_at (after_digits text)) (back : later ≡ after_name (after_digits text)) where
  pub no_digits : (n : ℕ) → 0 < length text → length digits ≡ 0 → Spells longest text n → ⊥
  no_digits n some none spells = omega (arith, (step-seen longest n text digits name later front letters back some spells).some)

  pub no_unit : (n : ℕ) → 0 < length text → find (λ u. bytes_eq (name_of u) name) units ≡ None → Spells longest text n → ⊥
  no_unit n some none spells =
      let found = (step-seen longest n text digits name later front letters back some spells).found in
      cc (none, found)

  pub not_shorter : (unit : Unit) (n : ℕ) → 0 < length text → find (λ u. bytes_eq (name_of u) name) units ≡ Some unit → longest ≤ milliseconds_in unit → Spells longest text n → ⊥
  not_shorter unit n some found long spells =
      let step = step-seen longest n text digits name later front letters back some spells in
      let same : step.unit ≡ unit = cc (found, step.found) in
      omega (arith, step.shorter, ap milliseconds_in same, long)

  pub Spells-split : (unit : Unit) (n : ℕ) → 0 < length text → find (λ u. bytes_eq (name_of u) name) units ≡ Some unit → Spells longest text n
      → (more : ℕ) × Spells (milliseconds_in unit) later more × (number digits * milliseconds_in unit + more ≡ n)
  Spells-split unit n some found spells =
      let step = step-seen longest n text digits name later front letters back some spells in
      let same : step.unit ≡ unit = cc (found, step.found) in (
        step.more,
        subst (λ (u : Unit). Spells (milliseconds_in u) later step.more) same step.rest,
        subst (λ (u : Unit). number digits * milliseconds_in u + step.more ≡ n) same step.amount,
      )

  pub Spells-joined : (unit : Unit) (more : ℕ) → 0 < length digits → find (λ u. bytes_eq (name_of u) name) units ≡ Some unit → milliseconds_in unit < longest → Spells (milliseconds_in unit) later more
      → Spells longest text (number digits * milliseconds_in unit + more)
  Spells-joined unit more some found shorter rest =
      Spells-seen longest _ text digits name later front letters back
      (record { unit = unit; more = more; some = some; found = found; shorter = shorter; rest = rest; amount = refl })

-- a text without a byte is no pair, and stands for none
pub Spells-nil : (longest n : ℕ) (text : List ℕ) → length text ≡ 0 → Spells longest text n → n ≡ 0
Spells-nil longest n text none spells = nil-pairs spells.pairs spells.falling spells.spelled spells.amount where
  nil-pairs : (pairs : List (List ℕ × Unit)) → AreFalling longest pairs → text_of pairs ≡ text → total pairs ≡ n → n ≡ 0
  nil-pairs [] falling spelled amount = sym amount
  nil-pairs ((digits, unit) ∷ pairs) falling spelled amount =
      absurd (omega (arith, falling.0, ap length spelled, length-append digits (name_of unit ++ text_of pairs)))

scaled : (unit : Unit) (n : ℕ) → n ≤ n * milliseconds_in unit
scaled Year n = omega arith
scaled Week n = omega arith
scaled Day n = omega arith
scaled Hour n = omega arith
scaled Minute n = omega arith
scaled Second n = omega arith
scaled Millisecond n = omega arith

IsCapped-sum : (n counted more rest product scale : ℕ) → n ≤ product → counted ≤ scale → (counted ≡ n → scale ≡ product) → IsCapped n counted → IsCapped more rest
    → IsCapped (product + more) (min (min scale (2 ^ 64 - 1) + rest) (2 ^ 64 - 1))
IsCapped-sum n counted more rest product scale least grows same first later =
    elim (cases_lt hundred_years n) [
      | inl over ↦
          let big : hundred_years < counted = first.beyond over in
          record { within = λ h. absurd (omega arith); beyond = λ h. omega arith }
      | inr under ↦
          let exact : counted ≡ n = first.within under in
          let equal : scale ≡ product = same exact in
          elim (cases_lt hundred_years more) [
            | inl over ↦
                let big : hundred_years < rest = later.beyond over in
                record { within = λ h. absurd (omega arith); beyond = λ h. omega arith }
            | inr within ↦
                let plain : rest ≡ more = later.within within in
                record { within = λ h. omega arith; beyond = λ h. omega arith }
          ]
    ]

digit-range : (c : ℕ) → is_ascii_digit c ≡ true → (48 ≤ c) × (c ≤ 57)
digit-range c is = grind (arith, nat_tests)

pub digit-at : (digits : List ℕ) (i : ℕ) → AreDigits digits → i < length digits → (48 ≤ get_or digits i 0) × (get_or digits i 0 ≤ 57)
digit-at [] i all within = absurd (omega arith)
digit-at (c ∷ cs) zero all within = digit-range c all.0
digit-at (c ∷ cs) (suc i) all within = digit-at cs i all.1 (omega arith)

digit-worth : (c : ℕ) → 48 ≤ c → c ≤ 57 → digit_value c ≡ c - 48
digit-worth c low high = cond-false _ _ _ (le-ltb c 48 low) ∙ cond-true _ _ _ (lt-ltb c 58 (omega arith))

-- the capped number of one more digit
pub IsCapped-digit : (digits : List ℕ) (i n next : ℕ) → AreDigits digits → i < length digits → IsCapped (number (take i digits)) n
    → next ≡ min (min (n * 10) (2 ^ 64 - 1) + (get_or digits i 0 - 48)) (2 ^ 64 - 1) → IsCapped (number (take (i + 1) digits)) next
IsCapped-digit digits i n next all within capped is =
    let range = digit-at digits i all within in
    let more : number (take (i + 1) digits) ≡ number (take i digits) * 10 + (get_or digits i 0 - 48) =
    digits_value_more 10 digits i within ∙ ap (λ (d : ℕ). number (take i digits) * 10 + d) (digit-worth (get_or digits i 0) range.0 range.1) in
    subst (λ (m : ℕ). IsCapped m next) (sym more)
    (subst (λ (k : ℕ). IsCapped (number (take i digits) * 10 + (get_or digits i 0 - 48)) k) (sym is)
    (IsCapped-sum (number (take i digits)) n (get_or digits i 0 - 48) (get_or digits i 0 - 48) (number (take i digits) * 10) (n * 10) (omega arith) (omega arith)
    (λ e. ap (λ (k : ℕ). k * 10) e) capped (record { within = λ h. refl; beyond = λ h. h })))

-- the capped sum of a capped count of a unit and a capped rest
IsCapped-pair : (unit : Unit) (n counted more rest : ℕ) → IsCapped n counted → IsCapped more rest
    → IsCapped (n * milliseconds_in unit + more) (min (min (counted * milliseconds_in unit) (2 ^ 64 - 1) + rest) (2 ^ 64 - 1))
IsCapped-pair unit n counted more rest first later =
    IsCapped-sum n counted more rest (n * milliseconds_in unit) (counted * milliseconds_in unit) (scaled unit n) (scaled unit counted)
    (λ e. ap (λ (k : ℕ). k * milliseconds_in unit) e) first later

-- the same where the length, the product and the sum were computed one by one
pub IsCapped-counted : (unit : Unit) (n counted more rest span product sum : ℕ) → span ≡ milliseconds_in unit → product ≡ min (counted * span) (2 ^ 64 - 1) → sum ≡ min (product + rest) (2 ^ 64 - 1)
    → IsCapped n counted → IsCapped more rest → IsCapped (n * milliseconds_in unit + more) sum
IsCapped-counted unit n counted more rest span product sum is_span is_product is_sum first later =
    let computed : sum ≡ min (min (counted * milliseconds_in unit) (2 ^ 64 - 1) + rest) (2 ^ 64 - 1) =
    is_sum ∙ ap (λ (p : ℕ). min (p + rest) (2 ^ 64 - 1)) (is_product ∙ ap (λ (l : ℕ). min (counted * l) (2 ^ 64 - 1)) is_span) in
    subst (λ (v : ℕ). IsCapped (n * milliseconds_in unit + more) v) (sym computed) (IsCapped-pair unit n counted more rest first later)

-- what is counted of a text whose first pair was cut out, given what is counted of the rest
pub IsCapped-text : (longest : ℕ) (text digits name later : List ℕ) → digits ≡ digits_of text → name ≡ name_at (after_digits text) → later ≡ after_name (after_digits text)
    → (unit : Unit) (n counted rest span product sum : ℕ) → 0 < length text → find (λ u. bytes_eq (name_of u) name) units ≡ Some unit
    → span ≡ milliseconds_in unit → product ≡ min (counted * span) (2 ^ 64 - 1) → sum ≡ min (product + rest) (2 ^ 64 - 1)
    → IsCapped (number digits) counted → ((more : ℕ) → Spells span later more → IsCapped more rest) → Spells longest text n → IsCapped n sum
IsCapped-text longest text digits name later front letters back unit n counted rest span product sum some found is_span is_product is_sum first follow spells =
    let split = Spells-split longest text digits name later front letters back unit n some found spells in
    let inner : IsCapped split.0 rest = follow split.0 (subst (λ (l : ℕ). Spells l later split.0) (sym is_span) split.1) in
    subst (λ (m : ℕ). IsCapped m sum) split.2
    (IsCapped-counted unit (number digits) counted split.0 rest span product sum is_span is_product is_sum first inner)

pub Spells-moved : (longest longest' n : ℕ) (text text' : List ℕ) → longest' ≡ longest → text' ≡ text → Spells longest text n → Spells longest' text' n
Spells-moved longest longest' n text text' limit same spells =
    record {
      pairs = spells.pairs;
      falling = subst (λ (l : ℕ). AreFalling l spells.pairs) (sym limit) spells.falling;
      spelled = spells.spelled ∙ sym same;
      amount = spells.amount;
    }
