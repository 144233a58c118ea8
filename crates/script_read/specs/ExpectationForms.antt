-- The forms of expectations, one by one. (The promqltest format.)
use Rattle.std.specs.Prelude.{◌≡◌, ℕ, List, [], ◌∷◌, ◌++◌, codes, IsTrue}
use Rattle.std.specs.List.{list_all}
use Rattle.script_read.specs.Expects.{Expectation, Tested, Anything, Message, Search, InOrder, Failing, Warning, Informing, WithoutWarnings, WithoutInfos}
use Rattle.script_read.specs.Lines.{is_blank}
use Rattle.script_read.specs.Parted.{IsFilled, Parted}

-- what stands behind `fail`, `warn` or `info`
pub data IsTest : List ℕ → Tested → Type 0 where
  -- nothing
  any_test : IsTest [] Anything
  -- `msg:` and a text
  message_test : (gap message text : List ℕ) → IsTrue (list_all is_blank gap) → IsFilled message → text ≡ codes "msg:" ++ (gap ++ message) → IsTest text (Message message)
  -- `regex:` and a pattern
  search_test : (gap pattern text : List ℕ) → IsTrue (list_all is_blank gap) → IsFilled pattern → text ≡ codes "regex:" ++ (gap ++ pattern) → IsTest text (Search pattern)

pub data IsExpectation : List ℕ → Expectation → Type 0 where
  -- `expect ordered`
  expect_ordered : (text : List ℕ) → Parted (codes "expect" ∷ (codes "ordered" ∷ [])) [] text → IsExpectation text InOrder
  -- `expect no_warn`
  expect_no_warn : (text : List ℕ) → Parted (codes "expect" ∷ (codes "no_warn" ∷ [])) [] text → IsExpectation text WithoutWarnings
  -- `expect no_info`
  expect_no_info : (text : List ℕ) → Parted (codes "expect" ∷ (codes "no_info" ∷ [])) [] text → IsExpectation text WithoutInfos
  -- `expect fail`
  expect_fail : (text rest : List ℕ) (test : Tested) → Parted (codes "expect" ∷ (codes "fail" ∷ [])) rest text → IsTest rest test → IsExpectation text (Failing test)
  -- `expect warn`
  expect_warn : (text rest : List ℕ) (test : Tested) → Parted (codes "expect" ∷ (codes "warn" ∷ [])) rest text → IsTest rest test → IsExpectation text (Warning test)
  -- `expect info`
  expect_info : (text rest : List ℕ) (test : Tested) → Parted (codes "expect" ∷ (codes "info" ∷ [])) rest text → IsTest rest test → IsExpectation text (Informing test)
  -- `expected_fail_message <text>`
  old_message : (text message : List ℕ) → Parted (codes "expected_fail_message" ∷ []) message text → IsFilled message → IsExpectation text (Failing (Message message))
  -- `expected_fail_regexp <text>`
  old_search : (text pattern : List ℕ) → Parted (codes "expected_fail_regexp" ∷ []) pattern text → IsFilled pattern → IsExpectation text (Failing (Search pattern))
