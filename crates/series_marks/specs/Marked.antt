-- Marks at two moments, for proofs.
use Rattle.std.proofs.Common.{◌≡◌, ◌∙◌, ℕ, zero, suc, ◌+◌, ◌-◌, ◌≤◌, Bool, true, false, [], ◌∷◌, length, drop, Option, None, Some, refl, sym, ap, subst, arith, length-append, length-drop}
use Rattle.std.specs.Prelude.{ℤ, ◌≤ℤ◌, int_lt, if◌then◌else◌}
use Rattle.std.specs.Ordering.{int_eq}
use Rattle.std.specs.Option.{option_to_list}
use Rattle.std.proofs.lemmas.Int.{ints}
use Rattle.sample_store.specs.Samples.{Samples}
use Rattle.series_marks.specs.Reads.{after}
use Rattle.series_marks.specs.declared.mark.Mark.{Mark}
use Rattle.series_marks.specs.Reads.{Sample, Rises, Spares, last_of, until, stands_at, head_of, ahead_of, coming, mark_with, mark_at, read_at}
use Rattle.series_marks.specs.Walked.{UpTo, last_up, rises_after, rises_last}
use Rattle.series_marks.specs.Passing.{drop_next}

-- ---- two moments

pub last_after : (a b : ℤ) (xs : Samples) (l : Option Sample) → a ≤ℤ b → last_of b (after a xs) (last_of a xs l) ≡ last_of b xs l
last_after a b [] l h = refl
last_after a b (x ∷ xs) l h =
    elim (int_lt a x.0.0) as (λ c. int_lt a x.0.0 ≡ c → last_of b (if c then x ∷ xs else after a xs) (if c then l else last_of a xs (Some x)) ≡ last_of b (x ∷ xs) l) [
      | true ↦ λ e. refl
      | false ↦ λ e. let d : int_lt b x.0.0 ≡ false = grind (arith, ints, h, e) in rw d (last_after a b xs (Some x) h)
    ] refl

pub until_after : (m : ℤ) (xs : Samples) → length (until m xs) + length (after m xs) ≡ length xs
until_after m [] = refl
until_after m (x ∷ xs) = elim (int_lt m x.0.0) as (λ c. length (if c then [] else x ∷ until m xs) + length (if c then x ∷ xs else after m xs) ≡ suc (length xs)) [
  | true ↦ omega arith
  | false ↦ let h = until_after m xs in omega arith
]

-- ---- the rest is a tail

pub record IsTail (T S : Samples) : Type 0 where
  pub from : ℕ
  pub within : from ≤ length S
  pub is : T ≡ drop from S

tail_more : (x : Sample) (T S : Samples) → IsTail T S → IsTail T (x ∷ S)
tail_more x T S t = record { from = suc t.from; within = let h = t.within in omega arith; is = t.is }

pub after_tail : (m : ℤ) (S : Samples) → IsTail (after m S) S
after_tail m [] = record { from = 0; within = omega arith; is = refl }
after_tail m (x ∷ xs) = elim (int_lt m x.0.0) as (λ c. IsTail (if c then x ∷ xs else after m xs) (x ∷ xs)) [
  | true ↦ record { from = 0; within = omega arith; is = refl }
  | false ↦ tail_more x (after m xs) xs (after_tail m xs)
]

drop_none : (n : ℕ) → drop {A = Sample} n [] ≡ []
drop_none zero = refl
drop_none (suc n) = refl

drop_drop : (n k : ℕ) (S : Samples) → drop n (drop k S) ≡ drop (k + n) S
drop_drop n zero S = let e : 0 + n ≡ n = omega arith in rw e refl
drop_drop n (suc k) [] = let e : suc k + n ≡ suc (k + n) = omega arith in rw e (drop_none n)
drop_drop n (suc k) (x ∷ S) = let e : suc k + n ≡ suc (k + n) = omega arith in rw e (drop_drop n k S)

pub tail_tail : (T U S : Samples) → IsTail T U → IsTail U S → IsTail T S
tail_tail T U S t u = record {
  from = u.from + t.from;
  within = let h : length U ≡ length S - u.from = ap length u.is ∙ length-drop u.from S in let a = t.within in let b = u.within in omega arith;
  is = t.is ∙ ap (drop t.from) u.is ∙ drop_drop t.from u.from S;
}

length_tail : (T S : Samples) (t : IsTail T S) → t.from + length T ≡ length S
length_tail T S t = let h : length T ≡ length S - t.from = ap length t.is ∙ length-drop t.from S in let a = t.within in omega arith

-- what is behind a mark is the tail that it was made of, whether or not a sample is kept
pub coming_none : (T S : Samples) (place : ℕ) → IsTail T S → place ≡ length S + 0 - length T → drop place S ≡ T
coming_none T S place t e = let h = length_tail T S t in let k : place ≡ t.from = omega arith in rw k (sym t.is)

pub coming_some : (x : Sample) (xs S : Samples) (place : ℕ) → IsTail (x ∷ xs) S → place ≡ length S + 1 - suc (length xs) → drop place S ≡ xs
coming_some x xs S place t e =
    let h : t.from + suc (length xs) ≡ length S = length_tail (x ∷ xs) S t in
    let k : place ≡ t.from + 1 = omega arith in
    sym (drop_next S t.from place x xs k (sym t.is))

pub coming_with : (b : Bool) (T S : Samples) (last : Option Sample) → IsTail T S
    → coming S (mark_with (length S) (length T) last (if b then None else head_of T)) ≡ T
coming_with true T S last t = coming_none T S (length S + 0 - length T) t refl
coming_with false [] S last t = coming_none [] S (length S + 0 - 0) t refl
coming_with false (x ∷ xs) S last t = ap (λ r. x ∷ r) (coming_some x xs S (length S + 1 - suc (length xs)) t refl)

pub coming_mark : (e m : ℤ) (S : Samples) → coming S (mark_at e m S) ≡ after m (after e S)
coming_mark e m S =
    coming_with (stands_at m (last_of m (after e S) None)) (after m (after e S)) S (last_of m (after e S) None)
    (tail_tail (after m (after e S)) (after e S) S (after_tail m (after e S)) (after_tail e S))

-- how many samples a mark has read, and its place
kept_few : (b : Bool) (T : Samples) → length (option_to_list (if b then None else head_of T)) ≤ length T
kept_few true T = omega arith
kept_few false [] = omega arith
kept_few false (x ∷ xs) = omega arith

pub place_read : (e m : ℤ) (S : Samples) → (mark_at e m S).place + length (after e S) ≡ length S + read_at e m S
place_read e m S =
    let T = after m (after e S) in
    let l = last_of m (after e S) None in
    let k = kept_few (stands_at m l) T in
    let t = length_tail T S (tail_tail T (after e S) S (after_tail m (after e S)) (after_tail e S)) in
    let u = until_after m (after e S) in
    omega arith

pub place_within : (e m : ℤ) (S : Samples) → (mark_at e m S).place ≤ length S
place_within e m S =
    let T = after m (after e S) in
    let l = last_of m (after e S) None in
    let k = kept_few (stands_at m l) T in
    let t = length_tail T S (tail_tail T (after e S) S (after_tail m (after e S)) (after_tail e S)) in
    omega arith

-- ---- times rise behind a mark

-- ---- no sample is kept where one stands at the moment

spares_by : (a b : ℤ) (l : Option Sample) (T : Samples) → a ≤ℤ b → UpTo a l → Spares b l (ahead_of a l T)
spares_by a b None [] h u = tt
spares_by a b None (x ∷ xs) h u = tt
spares_by a b (Some y) T h u = elim (int_eq y.0.0 a) as (λ c. int_eq y.0.0 a ≡ c → Spares b (Some y) (if c then None else head_of T)) [
  | true ↦ λ e. tt
  | false ↦ λ e. by_head T e
] refl
  where
    by_head : (T : Samples) → int_eq y.0.0 a ≡ false → Spares b (Some y) (head_of T)
    by_head [] e = tt
    by_head (x ∷ xs) e = grind (arith, ints, e, u, h)

pub spares_mark : (e a b : ℤ) (S : Samples) → a ≤ℤ b → Spares b (mark_at e a S).last (mark_at e a S).ahead
spares_mark e a b S h = spares_by a b (last_of a (after e S) None) (after a (after e S)) h (last_up a (after e S) None tt)

-- ---- a mark is what its parts are

pub is_mark : (e m : ℤ) (S : Samples) (mark : Mark) → mark.last ≡ last_of m (after e S) None → coming S mark ≡ after m (after e S) → mark.ahead ≡ ahead_of m mark.last (coming S mark)
    → mark.place ≤ length S → mark ≡ mark_at e m S
is_mark e m S mark last rest ahead within =
    let l = last_of m (after e S) None in
    let T = after m (after e S) in
    let a : mark.ahead ≡ ahead_of m l T = ahead ∙ ap (λ x. ahead_of m x (coming S mark)) last ∙ ap (ahead_of m l) rest in
    let n : length (option_to_list mark.ahead) + (length S - mark.place) ≡ length T =
    sym (length-append (option_to_list mark.ahead) (drop mark.place S) ∙ ap (λ k. length (option_to_list mark.ahead) + k) (length-drop mark.place S)) ∙ ap length rest in
    let p : mark.place ≡ length S + length (option_to_list mark.ahead) - length T = omega arith in
    let q : mark.place ≡ length S + length (option_to_list (ahead_of m l T)) - length T = p ∙ ap (λ x. length S + length (option_to_list x) - length T) a in
    ap (λ k. record { place = k; last = mark.last; ahead = mark.ahead }) q ∙ ap (λ x. record { place = (mark_at e m S).place; last = x; ahead = mark.ahead }) last
    ∙ ap (λ x. record { place = (mark_at e m S).place; last = l; ahead = x }) a

pub rises_at : (e m : ℤ) (S : Samples) → Rises None S → Rises (mark_at e m S).last (coming S (mark_at e m S))
rises_at e m S r = subst (λ (xs : Samples). Rises (last_of m (after e S) None) xs) (sym (coming_mark e m S)) (rises_last m (after e S) None (rises_after e S r))

-- what is read between two moments is what the places differ by
pub read_more : (now was p q pm qm left all rp rq : ℕ) → now + p ≡ was + q → p ≡ pm → q ≡ qm → pm + left ≡ all + rp → qm + left ≡ all + rq → now + rp ≡ was + rq
read_more now was p q pm qm left all rp rq a b c d e = omega arith

-- at first nothing is read
pub read_first : (now was p q left all rq : ℕ) → now + p ≡ was + q → p + left ≡ all → q + left ≡ all + rq → now ≡ was + rq
read_first now was p q left all rq a b c = omega arith

pub place_first : (S T : Samples) (p : ℕ) → T ≡ drop p S → p ≤ length S → p + length T ≡ length S
place_first S T p e w = let h : length T ≡ length S - p = ap length e ∙ length-drop p S in omega arith
