-- An expectation is read as what its form says.
use Rattle.std.proofs.Common.{◌≡◌, ℕ, Bool, true, cond, List, [], ◌∷◌, ◌++◌, Result, Ok, Err, refl, ap, ◌∙◌}
use Rattle.std.specs.Prelude.{◌||◌, bytes_eq, codes}
use Rattle.script_read.specs.ExpectationForms.{IsExpectation, IsTest, any_test, message_test, search_test, expect_ordered, expect_no_warn, expect_no_info, expect_fail, expect_warn, expect_info, old_message, old_search}
use Rattle.script_read.specs.Expects.{Expectation, Tested, Anything, Message, Search, Failing, behind_mark, is_marked, expect_of, expectation_of, expected_by, filled, is_expectation, plain_worded, test_of, tested_worded}
use Rattle.script_read.specs.Lines.{behind_word, first_word}
use Rattle.script_read.specs.Outcomes.{then_give, then_try}
use Rattle.script_read.specs.Parted.{Parted}
use Rattle.script_read.specs.declared.fault.LineFault.{LineFault}
use Rattle.script_read.specs.declared.fault.LineFault.TheVariants.{Malformed}
use Rattle.script_read.proofs.CommandsRead.{filled_is}
use Rattle.script_read.proofs.FirstWords.{parted_behind, parted_first, skipped}
use Rattle.script_read.proofs.Takes.{some_element}

-- what a text that isn't empty tests
abbrev marked : List ℕ → Result Tested LineFault
marked text =
    cond (is_marked (codes "msg:") text) (then_give (filled (behind_mark (codes "msg:") text)) Message)
    (cond (is_marked (codes "regex:") text) (then_give (filled (behind_mark (codes "regex:") text)) Search) (Err Malformed))

test_read : (text : List ℕ) (test : Tested) → IsTest text test → test_of text ≡ Ok test
test_read _ _ any_test = refl
test_read _ _ (message_test gap message text g f is) =
    ap test_of is ∙ ap (λ b. cond b (Ok Anything) (marked (codes "msg:" ++ (gap ++ message)))) (some_element 109 (codes "sg:" ++ (gap ++ message))) ∙ ap (λ l. then_give (filled l) Message) (skipped gap message g f.begun) ∙ ap (λ r. then_give r Message) (filled_is message f)
test_read _ _ (search_test gap pattern text g f is) =
    ap test_of is ∙ ap (λ b. cond b (Ok Anything) (marked (codes "regex:" ++ (gap ++ pattern)))) (some_element 114 (codes "egex:" ++ (gap ++ pattern))) ∙ ap (λ l. then_give (filled l) Search) (skipped gap pattern g f.begun) ∙ ap (λ r. then_give r Search) (filled_is pattern f)

-- an expectation by its first word, and what stands behind it
abbrev worded : List ℕ → List ℕ → Result Expectation LineFault
worded word behind =
    cond (bytes_eq word (codes "expect")) (expect_of behind) (cond (bytes_eq word (codes "expected_fail_message")) (then_give (filled behind) (λ message. Failing (Message message)))
    (cond (bytes_eq word (codes "expected_fail_regexp")) (then_give (filled behind) (λ pattern. Failing (Search pattern))) (Err Malformed)))

abbrev expected : List ℕ → List ℕ → Result Expectation LineFault
expected word behind = expected_by (plain_worded word) word behind

module _ (text name rest : List ℕ) (h : Parted (codes "expect" ∷ (name ∷ [])) rest text) where
  expected_as : expectation_of text ≡ expected name rest
  expected_as =
      let h1 = parted_behind _ _ _ h in
      ap (λ w. worded w (behind_word text)) (parted_first _ _ _ h)
      ∙ ap (λ w. expected w (behind_word (behind_word text))) (parted_first _ _ _ h1)
      ∙ ap (expected name) (parted_behind _ _ _ h1)

pub expectation_read : (text : List ℕ) (x : Expectation) → IsExpectation text x → expectation_of text ≡ Ok x
expectation_read _ _ (expect_ordered text h) = expected_as text (codes "ordered") [] h
expectation_read _ _ (expect_no_warn text h) = expected_as text (codes "no_warn") [] h
expectation_read _ _ (expect_no_info text h) = expected_as text (codes "no_info") [] h
expectation_read _ _ (expect_fail text rest test h t) = expected_as text (codes "fail") rest h ∙ ap (λ r. then_try r (tested_worded (codes "fail"))) (test_read rest test t)
expectation_read _ _ (expect_warn text rest test h t) = expected_as text (codes "warn") rest h ∙ ap (λ r. then_try r (tested_worded (codes "warn"))) (test_read rest test t)
expectation_read _ _ (expect_info text rest test h t) = expected_as text (codes "info") rest h ∙ ap (λ r. then_try r (tested_worded (codes "info"))) (test_read rest test t)
expectation_read _ _ (old_message text message h f) =
    ap (λ w. worded w (behind_word text)) (parted_first _ _ _ h) ∙ ap (λ l. then_give (filled l) (λ m. Failing (Message m))) (parted_behind _ _ _ h)
    ∙ ap (λ r. then_give r (λ m. Failing (Message m))) (filled_is message f)
expectation_read _ _ (old_search text pattern h f) =
    ap (λ w. worded w (behind_word text)) (parted_first _ _ _ h) ∙ ap (λ l. then_give (filled l) (λ m. Failing (Search m))) (parted_behind _ _ _ h)
    ∙ ap (λ r. then_give r (λ m. Failing (Search m))) (filled_is pattern f)

abbrev begins_with : List ℕ → Bool
begins_with word = bytes_eq word (codes "expect") || (bytes_eq word (codes "expected_fail_message") || bytes_eq word (codes "expected_fail_regexp"))

begins : (text word : List ℕ) → first_word text ≡ word → begins_with word ≡ true → is_expectation text ≡ true
begins text word first h = ap begins_with first ∙ h

-- a line of that form begins as an expectation does
pub expectation_begins : (text : List ℕ) (x : Expectation) → IsExpectation text x → is_expectation text ≡ true
expectation_begins _ _ (expect_ordered text h) = begins text (codes "expect") (parted_first _ _ _ h) refl
expectation_begins _ _ (expect_no_warn text h) = begins text (codes "expect") (parted_first _ _ _ h) refl
expectation_begins _ _ (expect_no_info text h) = begins text (codes "expect") (parted_first _ _ _ h) refl
expectation_begins _ _ (expect_fail text rest test h t) = begins text (codes "expect") (parted_first _ _ _ h) refl
expectation_begins _ _ (expect_warn text rest test h t) = begins text (codes "expect") (parted_first _ _ _ h) refl
expectation_begins _ _ (expect_info text rest test h t) = begins text (codes "expect") (parted_first _ _ _ h) refl
expectation_begins _ _ (old_message text message h f) = begins text (codes "expected_fail_message") (parted_first _ _ _ h) refl
expectation_begins _ _ (old_search text pattern h f) = begins text (codes "expected_fail_regexp") (parted_first _ _ _ h) refl
