-- What `==` and a hash say of lists of rules: they are equal by `==` exactly where they are the same rules in the same order. (This
-- project's own.)
use Rattle.std.proofs.Common.{◌≡◌, ◌++◌, ◌==◌, ℕ, Bool, true, false, List, [], ◌∷◌, ap, refl, sym}
use Rattle.std.specs.Prelude.{◌&&◌, bytes_eq}
use Rattle.std.specs.Bool.{Decides, one_answer}
use Rattle.std.specs.Cmp.{IsEquivalence}
use Rattle.std.specs.Cmp.Lexicographic.{pointwise}
use Rattle.std.specs.Hash as fed
use Rattle.std.specs.List.{flat_map}
use Rattle.std.proofs.lemmas.Bool.Decides.{Decides-and, Decides-eqb, Decides-like}
use Rattle.std.proofs.lemmas.Slice.Eq.{bytes_eq-Decides, slice_eq-Decides}
use Rattle.label_set.specs.declared.rules.PatternId.{PatternId}
use Rattle.label_set.specs.declared.rules.Rule.{Rule}
use Rattle.label_set.specs.declared.rules.RuleKind.{RuleKind}
use Rattle.label_set.specs.declared.rules.RuleKind.TheVariants.{Eq, Ne, Re, Nre}

-- the same test, of the same text or by the same pattern
abbrev pub kind_eq : RuleKind → RuleKind → Bool
kind_eq (Eq a) (Eq b) = bytes_eq a b
kind_eq (Ne a) (Ne b) = bytes_eq a b
kind_eq (Re a) (Re b) = a.0 == b.0
kind_eq (Nre a) (Nre b) = a.0 == b.0
kind_eq a b = false

-- the same test of the same label
abbrev pub rule_eq : Rule → Rule → Bool
rule_eq a b = bytes_eq a.label b.label && kind_eq a.kind b.kind

-- the same rules in the same order
abbrev pub rules_eq : List Rule → List Rule → Bool
rules_eq = pointwise rule_eq

-- the text that a rule compares with; none where it has a pattern
abbrev pub compared_text : RuleKind → List ℕ
compared_text (Eq text) = text
compared_text (Ne text) = text
compared_text kind = []

-- the writes of a hash
abbrev pub rule_hash : Rule → List (List ℕ)
rule_hash rule = fed.str rule.label ++ fed.str (compared_text rule.kind)

abbrev pub rules_hash : List Rule → List (List ℕ)
rules_hash rules = flat_map rule_hash rules

-- ---- `==` tells whether they are equal

not_true : false ≡ true → ⊥
not_true h = cc

same_id : (a b : PatternId) → a.0 ≡ b.0 → a ≡ b
same_id a b e = ap (λ (n : ℕ). record { 0 = n }) e

kind_decides : (a b : RuleKind) → Decides (kind_eq a b) (a ≡ b)
kind_decides (Eq a) (Eq b) = Decides-like _ (ap Eq) (λ h. cc) (bytes_eq-Decides a b)
kind_decides (Ne a) (Ne b) = Decides-like _ (ap Ne) (λ h. cc) (bytes_eq-Decides a b)
kind_decides (Re a) (Re b) = Decides-like _ (λ e. ap Re (same_id a b e)) (λ h. let same : a ≡ b = cc in ap (λ (p : PatternId). p.0) same) (Decides-eqb a.0 b.0)
kind_decides (Nre a) (Nre b) = Decides-like _ (λ e. ap Nre (same_id a b e)) (λ h. let same : a ≡ b = cc in ap (λ (p : PatternId). p.0) same) (Decides-eqb a.0 b.0)
kind_decides a b = (λ h. absurd (not_true h), λ h. absurd (cc))

rule_decides : (a b : Rule) → Decides (rule_eq a b) (a ≡ b)
rule_decides a b =
    Decides-like _ (λ both. λ i. record { label = both.0 i; kind = both.1 i }) (λ e. (ap (λ (r : Rule). r.label) e, ap (λ (r : Rule). r.kind) e))
    (Decides-and _ _ (bytes_eq-Decides a.label b.label) (kind_decides a.kind b.kind))

pub rules_decide : (a b : List Rule) → Decides (rules_eq a b) (a ≡ b)
rules_decide a b = slice_eq-Decides rule_decides a b _ refl

-- so it is an equivalence, and a hash feeds alike what it finds equal
pub rules_equivalence : IsEquivalence rules_eq
rules_equivalence = record {
  refl = λ a. (rules_decide a a).1 refl;
  symm = λ a b. one_answer (rules_eq a b) (rules_eq b a) (rules_decide a b) ((λ h. sym ((rules_decide b a).0 h)), (λ e. (rules_decide b a).1 (sym e)));
  congr = λ a b c h. ap (λ (rules : List Rule). rules_eq rules c) ((rules_decide a b).0 h);
}

pub rules_alike : (a b : List Rule) → rules_eq a b ≡ true → rules_hash a ≡ rules_hash b
rules_alike a b h = ap rules_hash ((rules_decide a b).0 h)
