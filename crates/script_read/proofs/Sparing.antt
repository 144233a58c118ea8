-- What isn't refused for a pattern.
use Rattle.std.proofs.Common.{◌≡◌, ℕ, ◌∷◌, Bool, true, false, List, [], Result, Ok, Err, Option, None, Some, cond, refl, ap, sym, ◌∙◌}
use Rattle.frac_text.specs.Readings.{script_answer}
use Rattle.frac_text.specs.declared.refusal.NumberRefusal.{NumberRefusal}
use Rattle.frac_text.specs.declared.refusal.NumberRefusal.TheVariants as numbers
use Rattle.xfrac.specs.declared.value.XFrac.{XFrac}
use Rattle.std.specs.Prelude.{bytes_eq, codes}
use Rattle.std.specs.Str.{is_utf8}
use Rattle.script_read.specs.Expects.{Failing, Informing, Warning, Anything, Message, Search, Expectation, RefusesPattern, Tested, alone, behind_mark, expect_of, expectation_of, expected_by, filled, is_marked, plain_worded, search_in, test_of, tested_worded}
use Rattle.script_read.specs.Lines.{behind_word, first_word, is_empty}
use Rattle.script_read.specs.Outcomes.{Fails, PatternList, in_front, joined, then_give, then_try}
use Rattle.script_read.specs.Words.{is_ascii, number_spelled, spelled_or_refused, text_told}
use Rattle.script_read.specs.declared.fault.LineFault.{LineFault}
use Rattle.script_read.specs.declared.fault.LineFault.TheVariants.{Malformed, NativeHistogram, NumberRange, BadPattern, BadLabels, Memory}

abbrev pub is_other : LineFault → Bool
is_other BadPattern = false
is_other _ = true

-- it isn't refused for a pattern
abbrev pub spares : {X : Type 0} → Result X LineFault → Bool
spares (Ok x) = true
spares (Err fault) = is_other fault

pub record Spared {X : Type 0} (r : Result X LineFault) : Type 0 where
  pub is : spares r ≡ true

-- ---- steps

pub try_spares : {X Y : Type 0} (r : Result X LineFault) (make : X → Result Y LineFault) → Spared r → ((x : X) → Spared (make x)) → Spared (then_try r make)
try_spares (Ok x) make h k = k x
try_spares (Err e) make h k = record { is = h.is }

pub give_spares : {X Y : Type 0} (r : Result X LineFault) (make : X → Y) → Spared r → Spared (then_give r make)
give_spares (Ok x) make h = record { is = refl }
give_spares (Err e) make h = record { is = h.is }

pub front_spares : {X : Type 0} (xs : List X) (r : Result (List X) LineFault) → Spared r → Spared (in_front xs r)
front_spares xs (Ok ys) h = record { is = refl }
front_spares xs (Err e) h = h

pub joined_spares : {X : Type 0} (r s : Result (List X) LineFault) → Spared r → Spared s → Spared (joined r s)
joined_spares (Ok xs) s h k = front_spares xs s k
joined_spares (Err e) s h k = record { is = h.is }

pub if_spares : {X : Type 0} (b : Bool) (r s : Result X LineFault) → Spared r → Spared s → Spared (cond b r s)
if_spares true r s h k = h
if_spares false r s h k = k

-- ---- words

spelled_spares : (r : Result XFrac NumberRefusal) → Spared (spelled_or_refused r)
spelled_spares (Ok value) = record { is = refl }
spelled_spares (Err numbers.NumberRange) = record { is = refl }
spelled_spares (Err numbers.BadNumber) = record { is = refl }
spelled_spares (Err numbers.LeadingZero) = record { is = refl }

pub number_spares : (text : List ℕ) → Spared (number_spelled text)
number_spares text = if_spares (is_ascii text) (spelled_or_refused (script_answer text)) (Err Malformed) (spelled_spares (script_answer text)) (record { is = refl })

pub text_spares : (text : List ℕ) → Spared (text_told text)
text_spares text = if_spares (is_utf8 text) (Ok text) (Err Malformed) (record { is = refl }) (record { is = refl })

pub filled_spares : (text : List ℕ) → Spared (filled text)
filled_spares [] = record { is = refl }
filled_spares (byte ∷ bytes) = text_spares (byte ∷ bytes)

-- ---- expectations

test_spares : (text : List ℕ) → Spared (test_of text)
test_spares text =
    if_spares (is_empty text) (Ok Anything) _ (record { is = refl })
    (if_spares (is_marked (codes "msg:") text) (then_give (filled (behind_mark (codes "msg:") text)) Message) _ (give_spares (filled (behind_mark (codes "msg:") text)) Message (filled_spares _))
    (if_spares (is_marked (codes "regex:") text) (then_give (filled (behind_mark (codes "regex:") text)) Search) (Err Malformed) (give_spares (filled (behind_mark (codes "regex:") text)) Search (filled_spares _)) (record { is = refl })))

tested_spares : (word : List ℕ) (test : Tested) → Spared (tested_worded word test)
tested_spares word test =
    if_spares (bytes_eq word (codes "fail")) (Ok (Failing test)) _ (record { is = refl })
    (if_spares (bytes_eq word (codes "warn")) (Ok (Warning test)) _ (record { is = refl }) (if_spares (bytes_eq word (codes "info")) (Ok (Informing test)) (Err Malformed) (record { is = refl }) (record { is = refl })))

alone_spares : (expectation : Expectation) (text : List ℕ) → Spared (alone expectation text)
alone_spares expectation [] = record { is = refl }
alone_spares expectation (byte ∷ bytes) = record { is = refl }

expected_spares : (plain : Option Expectation) (word behind : List ℕ) → Spared (expected_by plain word behind)
expected_spares (Some expectation) word behind = alone_spares expectation behind
expected_spares None word behind = try_spares _ _ (test_spares behind) (tested_spares word)

pub expectation_spares : (text : List ℕ) → Spared (expectation_of text)
expectation_spares text =
    if_spares (bytes_eq (first_word text) (codes "expect")) (expect_of (behind_word text)) _ (expected_spares (plain_worded (first_word (behind_word text))) (first_word (behind_word text)) (behind_word (behind_word text)))
    (if_spares (bytes_eq (first_word text) (codes "expected_fail_message")) (then_give (filled (behind_word text)) (λ message. Failing (Message message))) _
    (give_spares (filled (behind_word text)) (λ message. Failing (Message message)) (filled_spares _))
    (if_spares (bytes_eq (first_word text) (codes "expected_fail_regexp")) (then_give (filled (behind_word text)) (λ pattern. Failing (Search pattern))) (Err Malformed)
    (give_spares (filled (behind_word text)) (λ pattern. Failing (Search pattern)) (filled_spares _)) (record { is = refl })))

-- ---- what this says of the clauses

pub spared : (kept : PatternList) (search : Option (List ℕ)) (e : LineFault) → is_other e ≡ true → RefusesPattern kept search e
spared kept None Malformed h = tt
spared kept None NativeHistogram h = tt
spared kept None NumberRange h = tt
spared kept None BadLabels h = tt
spared kept None Memory h = tt
spared kept None BadPattern h = absurd (cc)
spared kept (Some pattern) Malformed h = tt
spared kept (Some pattern) NativeHistogram h = tt
spared kept (Some pattern) NumberRange h = tt
spared kept (Some pattern) BadLabels h = tt
spared kept (Some pattern) Memory h = tt
spared kept (Some pattern) BadPattern h = absurd (cc)

-- a step that failed, where what is said is spared
pub spared_by : {X : Type 0} (said : Result X LineFault) (e : LineFault) → Spared said → Fails e said → is_other e ≡ true
spared_by said Malformed h f = refl
spared_by said NativeHistogram h f = refl
spared_by said NumberRange h f = refl
spared_by said BadLabels h f = refl
spared_by said Memory h f = refl
spared_by said BadPattern h f = sym (ap spares f) ∙ h.is

-- a line that is no expectation names no pattern
pub refused_none : (kept : PatternList) (said : Result Expectation LineFault) (e : LineFault) → said ≡ Err e → Spared said → RefusesPattern kept (search_in said) e
refused_none kept said e is h = rw is (spared kept None e (sym (ap spares is) ∙ h.is))
