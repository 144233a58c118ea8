-- Lists of rules with one list more.
use Rattle.std.proofs.Common.{◌≡◌, ◌∙◌, ℕ, Bool, true, false, List, Option, Some, refl, sym, ap, subst, true≢false, if◌then◌else◌}
use Rattle.std.specs.Prelude.{is_some, IfOk, IfSome, OnOk, Result, Ok, Err}
use Rattle.std.specs.Borrow.{Bor}
use Rattle.std.specs.Option.{option_map}
use Rattle.label_set.specs.declared.rules.Rule.{Rule}
use Rattle.match_rule.specs.Patterns.{HaveTheirPatterns}
use Rattle.sample_store.specs.Samples.{AllSeries}
use Rattle.plan_bases.specs.Bases.{AreRight, AreSeries, Holds, Kept, Lists, Stays, is_under, series_under}
use Rattle.plan_bases.specs.RuleEquality.{rules_decide, rules_eq}

pub on_ok_then : {X E : Type 0} {P Q : Type 0} (r : Result X E) → OnOk r P → (P → Q) → OnOk r Q
on_ok_then (Ok x) h f = f h
on_ok_then (Err e) h f = h

pub on_ok_both : {X E : Type 0} {P Q R : Type 0} (r : Result X E) → OnOk r P → OnOk r Q → (P → Q → R) → OnOk r R
on_ok_both (Ok x) h k f = f h k
on_ok_both (Err e) h k f = h

pub if_ok_all : {X E : Type 0} {P : Type 0} (r : Result X E) → P → IfOk r (λ _. P)
if_ok_all (Ok x) h = h
if_ok_all (Err e) h = tt

-- rules whose patterns are kept and that aren't there don't hold
pub new_rules : (kept : Kept) (lists : Lists) (joined rules : List Rule) → joined ≡ rules → HaveTheirPatterns kept joined → is_under lists joined ≡ false → Holds kept lists rules → ⊥
new_rules kept lists joined rules e have off holds =
    true≢false (sym (subst (Holds kept lists) (sym e) holds have) ∙ off)

pub some_at : {X : Type 0} (P : X → Type 0) (o : Option X) (x : X) → o ≡ Some x → IfSome o P → P x
some_at P o x e h = subst (λ z. IfSome z P) e h

pub found_is : (o : Option (Bor (List ℕ))) (s : Bor (List ℕ)) (there : Option (List ℕ)) → o ≡ Some s → option_map (λ (b : Bor (List ℕ)). b.now) o ≡ there → there ≡ Some s.now
found_is o s there e f = sym f ∙ ap (option_map (λ (b : Bor (List ℕ)). b.now)) e

module _ (rules : List Rule) (series : List ℕ) (before after : Lists)
    (now : (others : List Rule) → series_under after others ≡ (if rules_eq rules others then Some series else series_under before others)) where
  pub put_right : (kept : Kept) (samples : AllSeries) → AreRight kept samples before → AreSeries kept samples rules series → AreRight kept samples after
  put_right kept samples right are = λ others found is. by (rules_eq rules others) others refl found (sym (now others) ∙ is)
    where
      by : (b : Bool) (o : List Rule) → rules_eq rules o ≡ b → (found : List ℕ) → (if b then Some series else series_under before o) ≡ Some found → AreSeries kept samples o found
      by true o e found is =
          let same : series ≡ found = cc in
          subst (AreSeries kept samples o) same (subst (λ (r : List Rule). AreSeries kept samples r series) ((rules_decide rules o).0 e) are)
      by false o e found is = right o found is

  pub put_stays : Stays before after
  put_stays = λ others there. ap is_some (now others) ∙ by (rules_eq rules others) others there
    where
      by : (b : Bool) (o : List Rule) → is_under before o ≡ true → is_some (if b then Some series else series_under before o) ≡ true
      by true o there = refl
      by false o there = there

  pub put_there : is_under after rules ≡ true
  put_there = ap is_some (now rules ∙ ap (λ (b : Bool). if b then Some series else series_under before rules) ((rules_decide rules rules).1 refl))
