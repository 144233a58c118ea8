-- A word that is read as an item is one by its form.
use Rattle.std.proofs.Common.{◌≡◌, ℕ, suc, ◌+◌, Bool, true, false, not, List, [], ◌∷◌, ◌++◌, length, take, drop, position, Option, Some, None, Ok, refl, ap, sym, ◌∙◌, subst, arith, append_assoc, take-append-drop}
use Rattle.std.specs.Prelude.{◌==◌, ◌&&◌, bytes_eq, codes}
use Rattle.std.specs.List.{position_or_len}
use Rattle.std.proofs.lemmas.Bool.{eqb-true, ltb-true}
use Rattle.std.proofs.lemmas.Bool.Decides.{nat_tests}
use Rattle.std.proofs.lemmas.List.Sums.{passes_at_first, split_at_first}
use Rattle.std.proofs.lemmas.Option.{cond_some}
use Rattle.std.proofs.Math.Dec.{ltb}
use Rattle.xfrac.specs.Arithmetic.{whole_number}
use Rattle.xfrac.specs.Forming.{negated}
use Rattle.xfrac.specs.declared.value.XFrac.{XFrac}
use Rattle.script_read.specs.Items.{count_spelled, gap_spelled, is_exponent, is_sign, item_spelled, item_unmarked, run_spelled, run_values, step_behind, step_place, step_signed, values_spelled}
use Rattle.script_read.specs.Outcomes.{then_give}
use Rattle.script_read.specs.SeriesForms.{IsItem, IsStep, one_gap, more_gaps, stale_marker, number, same, stepped, up, down}
use Rattle.script_read.specs.Words.{number_spelled}
use Rattle.script_read.specs.declared.fault.LineFault.TheVariants.{Malformed}
use Rattle.script_read.specs.declared.script.SeriesItem.{SeriesItem}
use Rattle.script_read.specs.declared.script.SeriesItem.TheVariants.{Gap, Stale, Run}
use Rattle.script_read.proofs.Names.{and_left}
use Rattle.script_read.proofs.Takes.{by_test, give_ok, if_ok, map_some, same_bytes, same_ok, try_ok}

-- ---- where a sign stands

-- what stands from the place on begins with a sign
pub record IsSigned (text : List ℕ) (place : ℕ) : Type 0 where
  pub sign : ℕ
  pub rest : List ℕ
  pub is : drop place text ≡ sign ∷ rest
  pub signs : is_sign sign ≡ true

signed_more : (byte : ℕ) (bytes : List ℕ) (place : ℕ) → IsSigned bytes place → IsSigned (byte ∷ bytes) (place + 1)
signed_more byte bytes place h =
    let e : place + 1 ≡ suc place = omega arith in
    record { sign = h.sign; rest = h.rest; is = ap (λ n. drop n (byte ∷ bytes)) e ∙ h.is; signs = h.signs }

sign_behind : (before : ℕ) (text : List ℕ) (place : ℕ) → step_behind before text ≡ Some place → IsSigned text place
sign_behind before [] place h = absurd (cc)
sign_behind before (byte ∷ bytes) place h =
    by_test (is_sign byte && not (is_exponent before)) _ _ (Some place) h
    (λ e k. let same : 0 ≡ place = cc in subst (IsSigned (byte ∷ bytes)) same (record { sign = byte; rest = bytes; is = refl; signs = and_left (is_sign byte) (not (is_exponent before)) e }))
    (λ _ k. let m = map_some (step_behind byte bytes) place k in subst (IsSigned (byte ∷ bytes)) m.2 (signed_more byte bytes m.0 (sign_behind byte bytes m.0 m.1)))

sign_placed : (text : List ℕ) (place : ℕ) → step_place text ≡ Some place → IsSigned text place
sign_placed [] place h = absurd (cc)
sign_placed (first ∷ rest) place h = let m = map_some (step_behind first rest) place h in subst (IsSigned (first ∷ rest)) m.2 (signed_more first rest m.0 (sign_behind first rest m.0 m.1))

plus_or_minus : (sign : ℕ) → is_sign sign ≡ true → (sign == 45) ≡ false → sign ≡ 43
plus_or_minus sign h k = grind (arith, nat_tests, h, k)

step_found : (sign : ℕ) (rest : List ℕ) (by : XFrac) → is_sign sign ≡ true → step_signed (sign ∷ rest) ≡ Ok by → IsStep (sign ∷ rest) by
step_found sign rest by signs h =
    by_test (sign == 45) _ _ (Ok by) h
    (λ e k. let g = give_ok (number_spelled rest) negated by k in subst (λ s. IsStep (s ∷ rest) by) (sym (eqb-true sign 45 e)) (subst (IsStep (45 ∷ rest)) g.2 (down rest g.0 g.1)))
    (λ e k. subst (λ s. IsStep (s ∷ rest) by) (sym (plus_or_minus sign signs e)) (up rest by k))

-- ---- runs

-- values and a count
module _ (word values count : List ℕ) (joined : word ≡ values ++ (codes "x" ++ count)) (item : SeriesItem) where
  run_found : run_spelled values count ≡ Ok item → IsItem word item
  run_found h =
      let r = try_ok (run_values (step_place values) values) _ item h in
      let n = give_ok (count_spelled count) (Run r.0.0 r.0.1) item r.2 in
      subst (IsItem word) n.2 (by r.0 n.0 n.1 (step_place values) refl r.1)
    where
      by : (run : XFrac × XFrac) (more : ℕ) → count_spelled count ≡ Ok more → (place : Option ℕ) → step_place values ≡ place → run_values place values ≡ Ok run → IsItem word (Run run.0 run.1 more)
      by run more counted None is k =
          let g = give_ok (number_spelled values) (λ first. (first, whole_number 0)) run k in
          subst (λ (v : XFrac × XFrac). IsItem word (Run v.0 v.1 more)) g.2 (same values count word g.0 more g.1 counted joined)
      by run more counted (Some place) is k =
          let t = try_ok (number_spelled (take place values)) _ run k in
          let g = give_ok (step_signed (drop place values)) (λ step. (t.0, step)) run t.2 in
          let s = sign_placed values place is in
          let step = step_found s.sign s.rest g.0 s.signs (ap step_signed (sym s.is) ∙ g.1) in
          subst (λ (v : XFrac × XFrac). IsItem word (Run v.0 v.1 more)) g.2
          (stepped (take place values) (s.sign ∷ s.rest) count word t.0 g.0 more t.1 step counted
          (joined ∙ ap (λ l. l ++ (codes "x" ++ count)) (sym (take-append-drop place values) ∙ ap (λ l. take place values ++ l) s.is) ∙ simp append_assoc refl))

-- ---- items

module _ (word : List ℕ) (item : SeriesItem) where
  -- a word with an `x`, before and behind it
  times_split : (place : ℕ) → position (λ byte. byte == 120) word ≡ Some place → word ≡ take place word ++ (120 ∷ drop (place + 1) word)
  times_split place h =
      let p : ℕ → Bool = λ byte. byte == 120 in
      let both = cond_some (ltb (position_or_len p word) (length word)) (position_or_len p word) place h in
      let lt = ltb-true (position_or_len p word) (length word) both.0 in
      subst (λ j. word ≡ take j word ++ (120 ∷ drop (j + 1) word)) both.1
      (split_at_first p word 0 lt ∙ ap (λ b. take (position_or_len p word) word ++ (b ∷ drop (position_or_len p word + 1) word)) (eqb-true _ 120 (passes_at_first p word 0 lt)))

  values_found : (place : Option ℕ) → position (λ byte. byte == 120) word ≡ place → values_spelled place word ≡ Ok item → IsItem word item
  values_found None is h = let g = give_ok (number_spelled word) (λ first. Run first (whole_number 0) 0) item h in subst (IsItem word) g.2 (number word g.0 g.1)
  values_found (Some place) is h = run_found word (take place word) (drop (place + 1) word) (times_split place is) item h

  gap_found : (rest : List ℕ) → word ≡ 95 ∷ rest → gap_spelled rest ≡ Ok item → IsItem word item
  gap_found [] is h = subst (λ w. IsItem w item) (sym is) (subst (IsItem (codes "_")) (same_ok (gap_spelled []) (Gap 1) item refl h) one_gap)
  gap_found (first ∷ count) is h =
      let k = if_ok (first == 120) (then_give (count_spelled count) Gap) Malformed item h in
      let g = give_ok (count_spelled count) Gap item k.1 in
      subst (IsItem word) g.2 (more_gaps count word g.0 g.1 (is ∙ ap (λ f. 95 ∷ (f ∷ count)) (eqb-true first 120 k.0)))

  unmarked_found : (w : List ℕ) → word ≡ w → item_unmarked w ≡ Ok item → IsItem word item
  unmarked_found [] is h = absurd (cc)
  unmarked_found (first ∷ rest) is h =
      by_test (first == 95) _ _ (Ok item) h (λ e k. gap_found rest (is ∙ ap (λ f. f ∷ rest) (eqb-true first 95 e)) k) (λ _ k.
      values_found (position (λ byte. byte == 120) word) refl (subst (λ w. values_spelled (position (λ byte. byte == 120) w) w ≡ Ok item) (sym is) k))

  pub item_found : item_spelled word ≡ Ok item → IsItem word item
  item_found h =
      by_test (bytes_eq word (codes "stale")) _ _ (Ok item) h (λ e k. subst (λ w. IsItem w item) (sym (same_bytes word (codes "stale") e)) (subst (IsItem (codes "stale")) (same_ok (Ok Stale) Stale item refl k) stale_marker)) (λ _ k.
      unmarked_found word refl k)
