-- A line that is read as an expectation is one by its form.
use Rattle.std.proofs.Common.{◌≡◌, ℕ, true, List, [], ◌∷◌, ◌++◌, length, take, drop, Ok, Option, Some, None, refl, ap, sym, ◌∙◌, subst, take-append-drop}
use Rattle.std.specs.Prelude.{bytes_eq, codes}
use Rattle.script_read.specs.ExpectationForms.{IsExpectation, IsTest, any_test, message_test, search_test, expect_ordered, expect_no_warn, expect_no_info, expect_fail, expect_warn, expect_info, old_message, old_search}
use Rattle.script_read.specs.Expects.{Expectation, Tested, Anything, Message, Search, InOrder, Failing, Warning, Informing, WithoutWarnings, WithoutInfos, alone, behind_mark, expectation_of, expected_by, filled, is_marked, plain_worded, test_of, tested_worded}
use Rattle.script_read.specs.Lines.{behind_word, first_word, is_empty}
use Rattle.script_read.specs.Parted.{Parted}
use Rattle.script_read.proofs.CommandsFound.{filled_ok}
use Rattle.script_read.proofs.FirstWords.{cut_of, gap_of, word_alone, word_beside, word_then}
use Rattle.script_read.proofs.Takes.{by_test, give_ok, no_element, same_bytes, same_ok, try_ok}

-- ---- tests

-- a mark, blanks and a text
module _ (mark text : List ℕ) (marked : is_marked mark text ≡ true) where
  mark_joined : text ≡ mark ++ ((gap_of (drop (length mark) text)).gap ++ behind_mark mark text)
  mark_joined =
      sym (take-append-drop (length mark) text)
      ∙ ap (λ l. l ++ drop (length mark) text) (same_bytes (take (length mark) text) mark marked)
      ∙ ap (λ l. mark ++ l) (gap_of (drop (length mark) text)).joined

test_found : (text : List ℕ) (test : Tested) → test_of text ≡ Ok test → IsTest text test
test_found text test h =
    by_test (is_empty text) _ _ (Ok test) h (λ e k. subst (λ t. IsTest t test) (sym (no_element text e)) (subst (IsTest []) (same_ok (Ok Anything) Anything test refl k) any_test)) (λ _ l.
    by_test (is_marked (codes "msg:") text) _ _ (Ok test) l (λ e k.
    let mark = codes "msg:" in
    let g = give_ok (filled (behind_mark mark text)) Message test k in
    let f = filled_ok (behind_mark mark text) g.0 (gap_of (drop 4 text)).begun g.1 in
    subst (IsTest text) (ap Message (sym f.1) ∙ g.2) (message_test (gap_of (drop 4 text)).gap (behind_mark mark text) text (gap_of (drop 4 text)).blank f.0 (mark_joined mark text e))) (λ _ m.
    by_test (is_marked (codes "regex:") text) _ _ (Ok test) m (λ e k.
    let mark = codes "regex:" in
    let g = give_ok (filled (behind_mark mark text)) Search test k in
    let f = filled_ok (behind_mark mark text) g.0 (gap_of (drop 6 text)).begun g.1 in
    subst (IsTest text) (ap Search (sym f.1) ∙ g.2) (search_test (gap_of (drop 6 text)).gap (behind_mark mark text) text (gap_of (drop 6 text)).blank f.0 (mark_joined mark text e))) (λ _ k. absurd (cc))))

-- ---- expectations

alone_ok : (x y : Expectation) (behind : List ℕ) → alone x behind ≡ Ok y → (behind ≡ []) × (x ≡ y)
alone_ok x y [] h = (refl, same_ok (alone x []) x y refl h)
alone_ok x y (byte ∷ bytes) h = absurd (cc)

plain_ok : (word : List ℕ) (p x : Expectation) (name : List ℕ) → bytes_eq word name ≡ true → Some x ≡ Some p → (word ≡ name) × (x ≡ p)
plain_ok word p x name e k = (same_bytes word name e, cc)

module _ (text : List ℕ) (first : first_word text ≡ codes "expect") (x : Expectation) where
  -- two words, and nothing behind them
  two_words : (name : List ℕ) → (name ≡ [] → ⊥) → first_word (behind_word text) ≡ name → behind_word (behind_word text) ≡ [] → Parted (codes "expect" ∷ (name ∷ [])) [] text
  two_words name some second none = word_beside text (codes "expect") first (λ k. cc) _ _ (word_alone (behind_word text) name second some none)

  plain_found : (p : Expectation) → plain_worded (first_word (behind_word text)) ≡ Some p → alone p (behind_word (behind_word text)) ≡ Ok x → IsExpectation text x
  plain_found p named h =
      let w = first_word (behind_word text) in
      let a = alone_ok p x (behind_word (behind_word text)) h in
      subst (IsExpectation text) a.1 (
      by_test (bytes_eq w (codes "ordered")) _ _ (Some p) named (λ e k. let o = plain_ok w p InOrder (codes "ordered") e k in subst (IsExpectation text) o.1 (expect_ordered text (two_words (codes "ordered") (λ k. cc) o.0 a.0))) (λ _ l.
      by_test (bytes_eq w (codes "no_warn")) _ _ (Some p) l (λ e k. let o = plain_ok w p WithoutWarnings (codes "no_warn") e k in subst (IsExpectation text) o.1 (expect_no_warn text (two_words (codes "no_warn") (λ k. cc) o.0 a.0))) (λ _ m.
      by_test (bytes_eq w (codes "no_info")) _ _ (Some p) m (λ e k. let o = plain_ok w p WithoutInfos (codes "no_info") e k in subst (IsExpectation text) o.1 (expect_no_info text (two_words (codes "no_info") (λ k. cc) o.0 a.0))) (λ _ k. absurd (cc)))))

  tested_found : (test : Tested) → IsTest (behind_word (behind_word text)) test → tested_worded (first_word (behind_word text)) test ≡ Ok x → IsExpectation text x
  tested_found test is h =
      let w = first_word (behind_word text) in
      let rest = behind_word (behind_word text) in
      by_test (bytes_eq w (codes "fail")) _ _ (Ok x) h (λ e k. subst (IsExpectation text) (same_ok (Ok (Failing test)) (Failing test) x refl k) (expect_fail text rest test (before_test (codes "fail") (λ k. cc) (same_bytes w (codes "fail") e)) is)) (λ _ l.
      by_test (bytes_eq w (codes "warn")) _ _ (Ok x) l (λ e k. subst (IsExpectation text) (same_ok (Ok (Warning test)) (Warning test) x refl k) (expect_warn text rest test (before_test (codes "warn") (λ k. cc) (same_bytes w (codes "warn") e)) is)) (λ _ m.
      by_test (bytes_eq w (codes "info")) _ _ (Ok x) m (λ e k. subst (IsExpectation text) (same_ok (Ok (Informing test)) (Informing test) x refl k) (expect_info text rest test (before_test (codes "info") (λ k. cc) (same_bytes w (codes "info") e)) is)) (λ _ k. absurd (cc))))
    where
      before_test : (name : List ℕ) → (name ≡ [] → ⊥) → first_word (behind_word text) ≡ name → Parted (codes "expect" ∷ (name ∷ [])) (behind_word (behind_word text)) text
      before_test name some second = word_beside text (codes "expect") first (λ k. cc) _ _ (word_then (behind_word text) name second some)

  expect_found : (p : Option Expectation) → plain_worded (first_word (behind_word text)) ≡ p → expected_by p (first_word (behind_word text)) (behind_word (behind_word text)) ≡ Ok x → IsExpectation text x
  expect_found (Some p) is h = plain_found p is h
  expect_found None is h =
      let rest = behind_word (behind_word text) in
      let t = try_ok (test_of rest) (tested_worded (first_word (behind_word text))) x h in
      tested_found t.0 (test_found rest t.0 t.1) t.2

pub expectation_found : (text : List ℕ) (x : Expectation) → expectation_of text ≡ Ok x → IsExpectation text x
expectation_found text x h =
    let w = first_word text in
    let rest = behind_word text in
    by_test (bytes_eq w (codes "expect")) _ _ (Ok x) h (λ e k. expect_found text (same_bytes w (codes "expect") e) x (plain_worded (first_word rest)) refl k) (λ _ l.
    by_test (bytes_eq w (codes "expected_fail_message")) _ _ (Ok x) l (λ e k.
    let g = give_ok (filled rest) (λ message. Failing (Message message)) x k in
    let f = filled_ok rest g.0 (cut_of text).begun g.1 in
    subst (IsExpectation text) (ap (λ m. Failing (Message m)) (sym f.1) ∙ g.2) (old_message text rest (word_then text (codes "expected_fail_message") (same_bytes w (codes "expected_fail_message") e) (λ k. cc)) f.0)) (λ _ m.
    by_test (bytes_eq w (codes "expected_fail_regexp")) _ _ (Ok x) m (λ e k.
    let g = give_ok (filled rest) (λ pattern. Failing (Search pattern)) x k in
    let f = filled_ok rest g.0 (cut_of text).begun g.1 in
    subst (IsExpectation text) (ap (λ m. Failing (Search m)) (sym f.1) ∙ g.2) (old_search text rest (word_then text (codes "expected_fail_regexp") (same_bytes w (codes "expected_fail_regexp") e) (λ k. cc)) f.0)) (λ _ k. absurd (cc))))
