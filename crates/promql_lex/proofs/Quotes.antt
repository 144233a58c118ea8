-- The closing quote of a string is the first that closes it.
use Rattle.std.proofs.Common.{◌≡◌, ℕ, suc, ◌+◌, ◌++◌, ◌∙◌, Bool, true, false, List, [], ◌∷◌, length, take, refl, ap, subst, arith, not, eqb-true}
use Rattle.std.specs.Prelude.{◌&&◌, ◌==◌, if◌then◌else◌, Option, Some, None, option_map}
use Rattle.promql_lex.specs.Quoted.{body_len, raw_len}
use Rattle.promql_lex.proofs.Sizes.{if_both}

pub none_some : (n : ℕ) (A : Type 0) → ◌≡◌ {A = Option ℕ} None (Some n) → A
none_some n A h = absurd (cc)

pub some_inner : (x y : ℕ) → ◌≡◌ {A = Option ℕ} (Some x) (Some y) → x ≡ y
some_inner x y h = cc

pub and_second : (a b : Bool) → (a && b) ≡ true → b ≡ true
and_second true b h = h
and_second false b h = absurd (cc)

-- the cases of the byte in front: a line feed, the closing quote, another
abbrev body_case : Bool → Bool → Option ℕ → Option ℕ
body_case feed closes later = if feed then None else if closes then Some 0 else option_map (λ n. n + 1) later

abbrev raw_case : Bool → Option ℕ → Option ℕ
raw_case closes later = if closes then Some 0 else option_map (λ n. n + 1) later

one_more : (o : Option ℕ) (n : ℕ) → o ≡ Some n → option_map (λ k. k + 1) o ≡ Some (suc n)
one_more o n h = let e : n + 1 ≡ suc n = omega arith in ap (option_map (λ k. k + 1)) h ∙ ap Some e

-- where the text in front of the quote is empty
at_once : (P : ℕ → ℕ → Type 0) (quote b n : ℕ) → ◌≡◌ {A = Option ℕ} (Some 0) (Some n) → b ≡ quote → P 0 b → P n quote
at_once P quote b n is same h = subst (λ m. P m quote) (some_inner 0 n is) (subst (P 0) same h)

body_here : (escaped : Bool) (quote b n : ℕ) (bs : List ℕ) → (b == 10) ≡ false → (not escaped && b == quote) ≡ true → ◌≡◌ {A = Option ℕ} (Some 0) (Some n)
    → body_len escaped quote (take n (b ∷ bs) ++ quote ∷ []) ≡ Some (length (take n (b ∷ bs)))
body_here escaped quote b n bs plain closes is =
    let later = body_len (not escaped && b == 92) quote [] in
    let one : body_len escaped quote (b ∷ []) ≡ Some 0 = ap (λ c. body_case c (not escaped && b == quote) later) plain ∙ ap (λ c. body_case false c later) closes in
    at_once (λ m x. body_len escaped quote (take m (b ∷ bs) ++ x ∷ []) ≡ Some (length (take m (b ∷ bs)))) quote b n is (eqb-true b quote (and_second (not escaped) (b == quote) closes)) one

body_behind : (o : Option ℕ) (escaped : Bool) (quote b n : ℕ) (bs : List ℕ) → (b == 10) ≡ false → (not escaped && b == quote) ≡ false
    → ((k : ℕ) → o ≡ Some k → body_len (not escaped && b == 92) quote (take k bs ++ quote ∷ []) ≡ Some (length (take k bs))) → option_map (λ k. k + 1) o ≡ Some n
    → body_len escaped quote (take n (b ∷ bs) ++ quote ∷ []) ≡ Some (length (take n (b ∷ bs)))
body_behind None escaped quote b n bs plain open_yet there h = absurd (cc)
body_behind (Some k) escaped quote b n bs plain open_yet there h =
    let later = body_len (not escaped && b == 92) quote (take k bs ++ quote ∷ []) in
    let e : suc k ≡ n = omega (arith, some_inner (k + 1) n h) in
    let here : body_len escaped quote (b ∷ (take k bs ++ quote ∷ [])) ≡ Some (suc (length (take k bs))) =
    ap (λ c. body_case c (not escaped && b == quote) later) plain ∙ ap (λ c. body_case false c later) open_yet ∙ one_more later (length (take k bs)) (there k refl) in
    subst (λ m. body_len escaped quote (take m (b ∷ bs) ++ quote ∷ []) ≡ Some (length (take m (b ∷ bs)))) e here

pub body_first : (escaped : Bool) (quote n : ℕ) (text : List ℕ) → body_len escaped quote text ≡ Some n → body_len escaped quote (take n text ++ quote ∷ []) ≡ Some (length (take n text))
body_first escaped quote n [] h = absurd (none_some n ⊥ h)
body_first escaped quote n (b ∷ bs) h =
    let Goal = body_len escaped quote (take n (b ∷ bs) ++ quote ∷ []) ≡ Some (length (take n (b ∷ bs))) in
    let P = λ (o : Option ℕ). o ≡ Some n → Goal in
    let behind = body_len (not escaped && b == 92) quote bs in
    let later = option_map (λ k. k + 1) behind in
    if_both P (b == 10) None (if (not escaped && b == quote) then Some 0 else later) (λ _ e. none_some n Goal e)
    (λ plain. if_both P (not escaped && b == quote) (Some 0) later (λ closes e. body_here escaped quote b n bs plain closes e)
    (λ open_yet e. body_behind behind escaped quote b n bs plain open_yet (λ k f. body_first (not escaped && b == 92) quote k bs f) e)) h

raw_here : (b n : ℕ) (bs : List ℕ) → (b == 96) ≡ true → ◌≡◌ {A = Option ℕ} (Some 0) (Some n) → raw_len (take n (b ∷ bs) ++ 96 ∷ []) ≡ Some (length (take n (b ∷ bs)))
raw_here b n bs closes is =
    let one : raw_len (b ∷ []) ≡ Some 0 = ap (λ c. raw_case c (raw_len [])) closes in
    at_once (λ m x. raw_len (take m (b ∷ bs) ++ x ∷ []) ≡ Some (length (take m (b ∷ bs)))) 96 b n is (eqb-true b 96 closes) one

raw_behind : (o : Option ℕ) (b n : ℕ) (bs : List ℕ) → (b == 96) ≡ false → ((k : ℕ) → o ≡ Some k → raw_len (take k bs ++ 96 ∷ []) ≡ Some (length (take k bs))) → option_map (λ k. k + 1) o ≡ Some n
    → raw_len (take n (b ∷ bs) ++ 96 ∷ []) ≡ Some (length (take n (b ∷ bs)))
raw_behind None b n bs open_yet there h = absurd (cc)
raw_behind (Some k) b n bs open_yet there h =
    let later = raw_len (take k bs ++ 96 ∷ []) in
    let e : suc k ≡ n = omega (arith, some_inner (k + 1) n h) in
    let here : raw_len (b ∷ (take k bs ++ 96 ∷ [])) ≡ Some (suc (length (take k bs))) = ap (λ c. raw_case c later) open_yet ∙ one_more later (length (take k bs)) (there k refl) in
    subst (λ m. raw_len (take m (b ∷ bs) ++ 96 ∷ []) ≡ Some (length (take m (b ∷ bs)))) e here

pub raw_first : (n : ℕ) (text : List ℕ) → raw_len text ≡ Some n → raw_len (take n text ++ 96 ∷ []) ≡ Some (length (take n text))
raw_first n [] h = absurd (none_some n ⊥ h)
raw_first n (b ∷ bs) h =
    let Goal = raw_len (take n (b ∷ bs) ++ 96 ∷ []) ≡ Some (length (take n (b ∷ bs))) in
    let P = λ (o : Option ℕ). o ≡ Some n → Goal in
    if_both P (b == 96) (Some 0) (option_map (λ k. k + 1) (raw_len bs)) (λ closes e. raw_here b n bs closes e)
    (λ open_yet e. raw_behind (raw_len bs) b n bs open_yet (λ k f. raw_first k bs f) e) h
