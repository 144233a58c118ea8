-- What reading a text of a number answers, told by what it spells.
use Rattle.std.proofs.Common.{◌≡◌, ℕ, ◌<◌, ◌≤◌, refl, sym, subst, ap, ◌∙◌, arith, Bool, true, false, cond, not, ◌==◌, ◌&&◌, ◌||◌, List, [], ◌∷◌, length, map, get_or, inl, inr, ◌⊎◌, Some, None}
use Rattle.std.specs.Prelude.{Option, Result, Ok, Err, pos, codes, bytes_eq}
use Rattle.std.specs.Char.{to_ascii_lowercase}
use Rattle.std.specs.List.{filter}
use Rattle.std.specs.Str.Parse.{digits_value}
use Rattle.std.proofs.lemmas.Bool.{and_from, cond-true, cond-false, eqb-true, eq-eqb, ne_eqb, lt-ltb, true≢false, false≢true}
use Rattle.std.proofs.lemmas.Slice.Eq.{bytes_eq-Decides}
use Rattle.xfrac.specs.Forming.{formed, negated}
use Rattle.xfrac.specs.declared.value.XFrac.{XFrac}
use Rattle.xfrac.specs.declared.value.XFrac.TheVariants.{PosInf, NaN}
use Rattle.frac_text.specs.declared.digits.Base.TheVariants.{Sixteen}
use Rattle.frac_text.specs.declared.refusal.NumberRefusal.{NumberRefusal}
use Rattle.frac_text.specs.declared.refusal.NumberRefusal.TheVariants.{BadNumber}
use Rattle.frac_text.specs.Decimals.{Decimal, decimal_of, has_leading_zero, value_of}
use Rattle.frac_text.specs.Digits.{is_digit, is_run_in, number_in}
use Rattle.frac_text.specs.Literals.{IsRun, IsDecimalOf, IsHexadecimal, IsInAnyCase, IsLiteral, IsScriptNumber, IsUnsignedNumber}
use Rattle.frac_text.specs.Readings.{decimal_answer, hexadecimal_answer, is_word, judged, literal_answer, plain_answer, script_answer, turned}
use Rattle.frac_text.proofs.Numerals.{IsLow, decimal_found, decimal_read, first_low, zero_found, zero_read}
use Rattle.frac_text.proofs.Runs.{run_digits, run_joined, run_passes, run_some}

abbrev answered : XFrac → Result XFrac NumberRefusal
answered v = Ok v

same_answer : (v w : XFrac) → answered v ≡ Ok w → v ≡ w
same_answer v w is = cc is

-- ---- decimal numbers

decimal_told : (grouped : Bool) (text : List ℕ) (v : XFrac) → decimal_answer (has_leading_zero grouped text) (decimal_of grouped text) ≡ Ok v → IsDecimalOf grouped text v
decimal_told grouped text v is = by_decimal (decimal_of grouped text) refl is
  where
    by_value : (d : Decimal) (b : Bool) (o : Option XFrac) → decimal_of grouped text ≡ Some d → has_leading_zero grouped text ≡ b → value_of d ≡ o → judged b o ≡ Ok v → IsDecimalOf grouped text v
    by_value d b None reads lead worth e = absurd (cc e)
    by_value d true (Some w) reads lead worth e = absurd (cc e)
    by_value d false (Some w) reads lead worth e =
        (λ zero. true≢false (sym (zero_found grouped text zero) ∙ lead), (d, decimal_read grouped text d reads, worth ∙ ap (λ x. Some x) (same_answer w v e)))

    by_decimal : (o : Option Decimal) → decimal_of grouped text ≡ o → decimal_answer (has_leading_zero grouped text) o ≡ Ok v → IsDecimalOf grouped text v
    by_decimal None reads e = absurd (cc e)
    by_decimal (Some d) reads e = by_value d (has_leading_zero grouped text) (value_of d) reads refl refl e

told_decimal : (grouped : Bool) (text : List ℕ) (v : XFrac) → IsDecimalOf grouped text v → decimal_answer (has_leading_zero grouped text) (decimal_of grouped text) ≡ Ok v
told_decimal grouped text v is =
    let d : Decimal = is.1.0 in
    let reads : decimal_of grouped text ≡ Some d = decimal_found grouped text d is.1.1 in
    let lead : has_leading_zero grouped text ≡ false = by_lead (has_leading_zero grouped text) refl in
    ap (decimal_answer (has_leading_zero grouped text)) reads ∙ ap (λ b. judged b (value_of d)) lead ∙ ap (judged false) is.1.2
  where
    by_lead : (b : Bool) → has_leading_zero grouped text ≡ b → b ≡ false
    by_lead false lead = refl
    by_lead true lead = absurd (is.0 (zero_read grouped text is.1.0 (decimal_found grouped text is.1.0 is.1.1) lead))

-- ---- words

word_told : (text word : List ℕ) → is_word text word ≡ true → IsInAnyCase word text
word_told text word is = (bytes_eq-Decides (map to_ascii_lowercase text) word).0 is

told_word : (text word : List ℕ) → IsInAnyCase word text → is_word text word ≡ true
told_word text word is = (bytes_eq-Decides (map to_ascii_lowercase text) word).1 is

low : (c : ℕ) → (c < 65) → to_ascii_lowercase c ≡ c
low c small = cond-true _ _ _ (lt-ltb c 65 small)

-- a decimal number is no word, since it begins with a digit or a point
no_word : (grouped : Bool) (text : List ℕ) (v : XFrac) (w : ℕ) (word : List ℕ) → 58 ≤ w → IsDecimalOf grouped text v → is_word text (w ∷ word) ≡ false
no_word grouped text v w word high is = by_word (is_word text (w ∷ word)) refl
  where
    by_word : (b : Bool) → is_word text (w ∷ word) ≡ b → b ≡ false
    by_word false other = refl
    by_word true same = absurd (clash text (first_low grouped text is.1.0 is.1.1) (word_told text (w ∷ word) same))
      where
        clash : (t : List ℕ) → IsLow t → map to_ascii_lowercase t ≡ w ∷ word → ⊥
        clash [] small e = absurd small
        clash (c ∷ cs) small e =
            let under : c < 58 = small in
            let first : to_ascii_lowercase c ≡ w = ap (λ l. get_or l 0 0) e in
            let stays : to_ascii_lowercase c ≡ c = low c (omega arith) in
            omega arith

word_first : (grouped : Bool) (text : List ℕ) (v : XFrac) → IsDecimalOf grouped text v → (is_word text (codes "inf") ≡ false) × (is_word text (codes "nan") ≡ false)
word_first grouped text v is = (no_word grouped text v 105 (110 ∷ 102 ∷ []) (omega arith) is, no_word grouped text v 110 (97 ∷ 110 ∷ []) (omega arith) is)

abbrev chosen : Bool → Bool → Result XFrac NumberRefusal → Result XFrac NumberRefusal
chosen b c r = cond b (Ok PosInf) (cond c (Ok NaN) r)

plain_told : (grouped : Bool) (text : List ℕ) (v : XFrac) → plain_answer grouped text ≡ Ok v → IsUnsignedNumber grouped text v
plain_told grouped text v is = by_words (is_word text (codes "inf")) (is_word text (codes "nan")) refl refl is
  where
    by_words : (b c : Bool) → is_word text (codes "inf") ≡ b → is_word text (codes "nan") ≡ c → chosen b c (decimal_answer (has_leading_zero grouped text) (decimal_of grouped text)) ≡ Ok v → IsUnsignedNumber grouped text v
    by_words true c inf nan e = inl (word_told text (codes "inf") inf, sym (same_answer PosInf v e))
    by_words false true inf nan e = inr (inl (word_told text (codes "nan") nan, sym (same_answer NaN v e)))
    by_words false false inf nan e = inr (inr (decimal_told grouped text v e))

told_plain : (grouped : Bool) (text : List ℕ) (v : XFrac) → IsUnsignedNumber grouped text v → plain_answer grouped text ≡ Ok v
told_plain grouped text v (inl inf) = cond-true _ _ _ (told_word text (codes "inf") inf.0) ∙ ap (λ x. answered x) (sym inf.1)
told_plain grouped text v (inr (inl nan)) =
    let other : is_word text (codes "inf") ≡ false = ap (λ (l : List ℕ). bytes_eq l (codes "inf")) nan.0 in
    cond-false _ _ _ other ∙ cond-true _ _ _ (told_word text (codes "nan") nan.0) ∙ ap (λ x. answered x) (sym nan.1)
told_plain grouped text v (inr (inr decimal)) =
    let words = word_first grouped text v decimal in
    cond-false _ _ _ words.0 ∙ cond-false _ _ _ words.1 ∙ told_decimal grouped text v decimal

-- ---- hexadecimal numbers

abbrev formed_in : List ℕ → Option XFrac
formed_in digits = formed (pos (digits_value 16 digits)) 1

judged_told : (o : Option XFrac) (v : XFrac) → judged false o ≡ Ok v → o ≡ Some v
judged_told None v is = absurd (cc is)
judged_told (Some w) v is = ap (λ x. Some x) (same_answer w v is)

hexadecimal_told : (c : ℕ) (digits : List ℕ) (v : XFrac) → (c == 120 || c == 88) ≡ true → hexadecimal_answer digits ≡ Ok v → IsHexadecimal (48 ∷ (c ∷ digits)) v
hexadecimal_told c digits v mark is = by_tests (not (length digits == 0)) (is_run_in Sixteen true digits) refl refl is
  where
    marked : (b : Bool) → (c == 120) ≡ b → (b || c == 88) ≡ true → (c ≡ 120) ⊎ (c ≡ 88)
    marked true is p = inl (eqb-true c 120 is)
    marked false is p = inr (eqb-true c 88 p)

    some_length : (b : Bool) → (length digits == 0) ≡ b → not b ≡ true → 0 < length digits
    some_length true none p = absurd (false≢true p)
    some_length false none p = by_list digits none
      where
        by_list : (l : List ℕ) → (length l == 0) ≡ false → 0 < length l
        by_list [] n = absurd (true≢false n)
        by_list (x ∷ xs) n = omega arith

    by_run : formed (pos (number_in Sixteen digits)) 1 ≡ Some v → IsRun Sixteen true digits (filter (is_digit Sixteen) digits) ⊎ ((run : List ℕ) × (digits ≡ 95 ∷ run) × IsRun Sixteen true run (filter (is_digit Sixteen) digits)) → IsHexadecimal (48 ∷ (c ∷ digits)) v
    by_run worth (inl run) = record { mark = c; run = digits; digits = filter (is_digit Sixteen) digits; marked = marked (c == 120) refl mark; spelled = inl refl; reads = run; value = worth }
    by_run worth (inr joined) = record { mark = c; run = joined.0; digits = filter (is_digit Sixteen) digits; marked = marked (c == 120) refl mark; spelled = inr (ap (λ (l : List ℕ). 48 ∷ (c ∷ l)) joined.1); reads = joined.2; value = worth }

    by_tests : (b d : Bool) → not (length digits == 0) ≡ b → is_run_in Sixteen true digits ≡ d → cond (b && d) (judged false (formed (pos (number_in Sixteen digits)) 1)) (Err BadNumber) ≡ Ok v → IsHexadecimal (48 ∷ (c ∷ digits)) v
    by_tests true true some passes e = by_run (judged_told (formed (pos (number_in Sixteen digits)) 1) v e) (run_joined Sixteen digits (some_length (length digits == 0) refl some) passes)
    by_tests true false some passes e = absurd (cc e)
    by_tests false d some passes e = absurd (cc e)

told_run : (run digits : List ℕ) (v : XFrac) → 0 < length run → is_run_in Sixteen true run ≡ true → filter (is_digit Sixteen) run ≡ digits → formed_in digits ≡ Some v → hexadecimal_answer run ≡ Ok v
told_run run digits v some passes has worth =
    let long : not (length run == 0) ≡ true = ap not (ne_eqb (length run) 0 (λ e. omega arith)) in
    cond-true _ _ _ (and_from _ _ long passes) ∙ ap (λ ds. judged false (formed_in ds)) has ∙ ap (judged false) worth

told_hexadecimal : (run digits : List ℕ) (v : XFrac) → IsRun Sixteen true run digits → formed_in digits ≡ Some v → (hexadecimal_answer run ≡ Ok v) × (hexadecimal_answer (95 ∷ run) ≡ Ok v)
told_hexadecimal run digits v is worth = (
  told_run run digits v (run_some Sixteen true run digits is).0 (run_passes Sixteen true true run digits is) (run_digits Sixteen true run digits is) worth,
  told_run (95 ∷ run) digits v (omega arith) (run_passes Sixteen true false run digits is) (run_digits Sixteen true run digits is) worth,
)

-- ---- literals

pub literal_told : (text : List ℕ) (v : XFrac) → literal_answer text ≡ Ok v → IsLiteral text v
literal_told [] v is = inr (plain_told true [] v is)
literal_told (c ∷ []) v is = inr (plain_told true (c ∷ []) v is)
literal_told (c ∷ (x ∷ cs)) v is = by_prefix (c == 48) (x == 120 || x == 88) refl refl is
  where
    by_prefix : (b d : Bool) → (c == 48) ≡ b → (x == 120 || x == 88) ≡ d → cond (b && d) (hexadecimal_answer cs) (plain_answer true (c ∷ (x ∷ cs))) ≡ Ok v → IsLiteral (c ∷ (x ∷ cs)) v
    by_prefix true true zero mark e = inl (subst (λ z. IsHexadecimal (z ∷ (x ∷ cs)) v) (sym (eqb-true c 48 zero)) (hexadecimal_told x cs v mark e))
    by_prefix true false zero mark e = inr (plain_told true (c ∷ (x ∷ cs)) v e)
    by_prefix false d zero mark e = inr (plain_told true (c ∷ (x ∷ cs)) v e)

-- no text that begins as hexadecimal numbers do is another number
no_prefix : (x : ℕ) (cs : List ℕ) (v : XFrac) → (x ≡ 120) ⊎ (x ≡ 88) → IsUnsignedNumber true (48 ∷ (x ∷ cs)) v → ⊥
no_prefix x cs v mark (inl inf) = false≢true (eq-eqb 48 105 (ap (λ (l : List ℕ). get_or l 0 0) inf.0))
no_prefix x cs v mark (inr (inl nan)) = false≢true (eq-eqb 48 110 (ap (λ (l : List ℕ). get_or l 0 0) nan.0))
no_prefix x cs v mark (inr (inr decimal)) = by_mark mark (decimal_found true (48 ∷ (x ∷ cs)) decimal.1.0 decimal.1.1)
  where
    no_decimal : (z : ℕ) → decimal_of true (48 ∷ (z ∷ cs)) ≡ None → decimal_of true (48 ∷ (z ∷ cs)) ≡ Some decimal.1.0 → ⊥
    no_decimal z gone reads =
        let clash : None ≡ Some decimal.1.0 = sym gone ∙ reads in
        cc clash

    by_mark : (x ≡ 120) ⊎ (x ≡ 88) → decimal_of true (48 ∷ (x ∷ cs)) ≡ Some decimal.1.0 → ⊥
    by_mark (inl is) reads = no_decimal 120 refl (subst (λ z. decimal_of true (48 ∷ (z ∷ cs)) ≡ Some decimal.1.0) is reads)
    by_mark (inr is) reads = no_decimal 88 refl (subst (λ z. decimal_of true (48 ∷ (z ∷ cs)) ≡ Some decimal.1.0) is reads)

mark_test : (x : ℕ) → (x ≡ 120) ⊎ (x ≡ 88) → (x == 120 || x == 88) ≡ true
mark_test x (inl is) = subst (λ z. (z == 120 || z == 88) ≡ true) (sym is) refl
mark_test x (inr is) = subst (λ z. (z == 120 || z == 88) ≡ true) (sym is) refl

told_prefix : (text : List ℕ) (x : ℕ) (cs : List ℕ) → text ≡ 48 ∷ (x ∷ cs) → (x ≡ 120) ⊎ (x ≡ 88) → literal_answer text ≡ hexadecimal_answer cs
told_prefix text x cs is mark = ap literal_answer is ∙ cond-true _ _ _ (mark_test x mark)

pub told_literal : (text : List ℕ) (v : XFrac) → IsLiteral text v → literal_answer text ≡ Ok v
told_literal text v (inl h) = by_spelling h.spelled
  where
    by_spelling : (text ≡ 48 ∷ (h.mark ∷ h.run)) ⊎ (text ≡ 48 ∷ (h.mark ∷ (95 ∷ h.run))) → literal_answer text ≡ Ok v
    by_spelling (inl is) = told_prefix text h.mark h.run is h.marked ∙ (told_hexadecimal h.run h.digits v h.reads h.value).0
    by_spelling (inr is) = told_prefix text h.mark (95 ∷ h.run) is h.marked ∙ (told_hexadecimal h.run h.digits v h.reads h.value).1
told_literal [] v (inr plain) = told_plain true [] v plain
told_literal (c ∷ []) v (inr plain) = told_plain true (c ∷ []) v plain
told_literal (c ∷ (x ∷ cs)) v (inr plain) = cond-false _ _ _ (by_prefix (c == 48) (x == 120) (x == 88) refl refl refl) ∙ told_plain true (c ∷ (x ∷ cs)) v plain
  where
    clash : c ≡ 48 → (x ≡ 120) ⊎ (x ≡ 88) → ⊥
    clash zero mark = no_prefix x cs v mark (subst (λ z. IsUnsignedNumber true (z ∷ (x ∷ cs)) v) zero plain)

    by_prefix : (b d e : Bool) → (c == 48) ≡ b → (x == 120) ≡ d → (x == 88) ≡ e → (b && (d || e)) ≡ false
    by_prefix false d e zero lower upper = refl
    by_prefix true true e zero lower upper = absurd (clash (eqb-true c 48 zero) (inl (eqb-true x 120 lower)))
    by_prefix true false true zero lower upper = absurd (clash (eqb-true c 48 zero) (inr (eqb-true x 88 upper)))
    by_prefix true false false zero lower upper = refl

-- ---- scripts

turned_told : (r : Result XFrac NumberRefusal) (v : XFrac) → turned r ≡ Ok v → (w : XFrac) × (r ≡ Ok w) × (v ≡ negated w)
turned_told (Ok w) v is = (w, refl, sym (same_answer (negated w) v is))
turned_told (Err refusal) v is = absurd (cc is)

pub script_told : (text : List ℕ) (v : XFrac) → script_answer text ≡ Ok v → IsScriptNumber text v
script_told [] v is = absurd (cc is)
script_told (c ∷ cs) v is = by_sign (c == 45) (c == 43) refl refl is
  where
    by_sign : (b d : Bool) → (c == 45) ≡ b → (c == 43) ≡ d → cond b (turned (plain_answer false cs)) (cond d (plain_answer false cs) (plain_answer false (c ∷ cs))) ≡ Ok v → IsScriptNumber (c ∷ cs) v
    by_sign true d is other e =
        let w = turned_told (plain_answer false cs) v e in
        inr (inr (cs, w.0, ap (λ z. z ∷ cs) (eqb-true c 45 is), plain_told false cs w.0 w.1, w.2))
    by_sign false true other is e = inr (inl (cs, ap (λ z. z ∷ cs) (eqb-true c 43 is), plain_told false cs v e))
    by_sign false false other none e = inl (plain_told false (c ∷ cs) v e)

low_first : (c : ℕ) (cs : List ℕ) (sign : ℕ) → (sign ≡ 43) ⊎ (sign ≡ 45) → c ≡ sign → (word : List ℕ) → 58 ≤ get_or word 0 0 → map to_ascii_lowercase (c ∷ cs) ≡ word → ⊥
low_first c cs sign is e word high same =
    let small : sign < 58 = by_sign is in
    let first : to_ascii_lowercase c ≡ get_or word 0 0 = ap (λ (l : List ℕ). get_or l 0 0) same in
    let stays : to_ascii_lowercase c ≡ c = low c (omega arith) in
    omega arith
  where
    by_sign : (sign ≡ 43) ⊎ (sign ≡ 45) → sign < 58
    by_sign (inl i) = omega arith
    by_sign (inr i) = omega arith

signed_clash : (cs : List ℕ) (d : Decimal) (sign : ℕ) → decimal_of false (sign ∷ cs) ≡ None → decimal_of false (sign ∷ cs) ≡ Some d → ⊥
signed_clash cs d sign gone reads =
    let clash : None ≡ Some d = sym gone ∙ reads in
    cc clash

no_text : (v : XFrac) → IsUnsignedNumber false [] v → ⊥
no_text v (inl inf) = false≢true (eq-eqb 0 3 (ap length inf.0))
no_text v (inr (inl nan)) = false≢true (eq-eqb 0 3 (ap length nan.0))
no_text v (inr (inr decimal)) = signed_empty (decimal_found false [] decimal.1.0 decimal.1.1)
  where
    signed_empty : None ≡ Some decimal.1.0 → ⊥
    signed_empty clash = cc clash

-- a number without a sign has none
no_sign : (c : ℕ) (cs : List ℕ) (v : XFrac) (sign : ℕ) → (sign ≡ 43) ⊎ (sign ≡ 45) → IsUnsignedNumber false (c ∷ cs) v → c ≡ sign → ⊥
no_sign c cs v sign is (inl inf) e = low_first c cs sign is e (105 ∷ 110 ∷ 102 ∷ []) (omega arith) inf.0
no_sign c cs v sign is (inr (inl nan)) e = low_first c cs sign is e (110 ∷ 97 ∷ 110 ∷ []) (omega arith) nan.0
no_sign c cs v sign (inl is) (inr (inr decimal)) e = signed_clash cs decimal.1.0 43 refl (subst (λ z. decimal_of false (z ∷ cs) ≡ Some decimal.1.0) (e ∙ is) (decimal_found false (c ∷ cs) decimal.1.0 decimal.1.1))
no_sign c cs v sign (inr is) (inr (inr decimal)) e = signed_clash cs decimal.1.0 45 refl (subst (λ z. decimal_of false (z ∷ cs) ≡ Some decimal.1.0) (e ∙ is) (decimal_found false (c ∷ cs) decimal.1.0 decimal.1.1))

pub told_script : (text : List ℕ) (v : XFrac) → IsScriptNumber text v → script_answer text ≡ Ok v
told_script [] v (inl plain) = absurd (no_text v plain)
told_script (c ∷ cs) v (inl plain) =
    cond-false _ _ _ (ne_eqb c 45 (no_sign c cs v 45 (inr refl) plain)) ∙ cond-false _ _ _ (ne_eqb c 43 (no_sign c cs v 43 (inl refl) plain)) ∙ told_plain false (c ∷ cs) v plain
told_script text v (inr (inl plus)) = ap script_answer plus.1 ∙ told_plain false plus.0 v plus.2
told_script text v (inr (inr minus)) = ap script_answer minus.2 ∙ ap turned (told_plain false minus.0 minus.1 minus.3) ∙ ap (λ x. answered x) (sym minus.4)
