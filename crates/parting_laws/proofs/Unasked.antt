-- Engines that aren't asked for an expression, and what stands in one over no samples.
use Rattle.std.proofs.Common.{◌≡◌, ◌∙◌, ℕ, Bool, true, false, cond, List, [], ◌∷◌, length, refl, sym, ap, arith}
use Rattle.std.specs.Prelude.{◌||◌, ◌&&◌, not, filter, bytes_eq}
use Rattle.std.specs.List.{AllByRecursion, list_all, list_any}
use Rattle.std.specs.Map.{keys_of}
use Rattle.std.proofs.lemmas.List.{length-map}
use Rattle.std.proofs.lemmas.Slice.Eq.{bytes_eq-Decides}
use Rattle.label_set.specs.LabelOrder.{by_labels}
use Rattle.label_set.specs.Labels.{value_of}
use Rattle.label_set.specs.declared.rules.Rule.{Rule}
use Rattle.label_set.specs.declared.rules.RuleKind.{RuleKind}
use Rattle.label_set.specs.declared.rules.RuleKind.TheVariants.{Eq, Ne, Re, Nre}
use Rattle.match_rule.specs.Patterns.{kind_passes, labels_pass}
use Rattle.step_table.specs.Groups.{Names}
use Rattle.promql_meaning.specs.Meaning.{meaning}
use Rattle.promql_meaning.specs.Selecting.{AllSeries, Samples, passing}
use Rattle.parting_laws.specs.Gathers.{UnaskedGivesNothing, asks_another, excludes, is_asked, selects_none}
use Rattle.parting_laws.specs.LocalLaws.{rules_in}
use Rattle.parting_laws.specs.PartLaws.{IsPartOf, over}
use Rattle.parting_laws.specs.Parted.{Engine, Parted, declared_names, has_declared, has_pair, takes}
use Rattle.parting_laws.specs.Portions.{ArePortions, IsOfOne, LooksAt, Portion, portion_of, portions_of}
use Rattle.parting_laws.proofs.Chosen.{all_mapped, both_true, filter_mapped, filtered_none, mapped_along}
use Rattle.parting_laws.proofs.Constants.{selections_decide}
use Rattle.parting_laws.proofs.Held.{each_looks, each_one, engines_hold}

-- ---- rules that ask a declared label for another value

kind_fails : (kept : List (Bool × List ℕ)) (kind : RuleKind) (value had : List ℕ) → had ≡ value → asks_another kind value ≡ true → kind_passes kept kind had ≡ false
kind_fails kept (Eq text) value had same e = ap (λ (v : List ℕ). bytes_eq v text) same ∙ by (bytes_eq value text) e
  where
    by : (b : Bool) → not b ≡ true → b ≡ false
    by true f = absurd (cc)
    by false f = refl
kind_fails kept (Ne text) value had same e = absurd (cc)
kind_fails kept (Re id) value had same e = absurd (cc)
kind_fails kept (Nre id) value had same e = absurd (cc)

module _ (kept : List (Bool × List ℕ)) (labels : Names) where
  rule_fails : (rule : Rule) (declared : Names) → has_declared declared labels ≡ true → list_any (excludes rule) declared ≡ true → kind_passes kept rule.kind (value_of labels rule.label) ≡ false
  rule_fails rule [] h e = absurd (cc)
  rule_fails rule (pair ∷ declared) h e =
      let has = both_true (has_pair labels pair) (has_declared declared labels) h in
      by has.0 (λ g. rule_fails rule declared has.1 g) (excludes rule pair) refl e
    where
      by : has_pair labels pair ≡ true → (list_any (excludes rule) declared ≡ true → kind_passes kept rule.kind (value_of labels rule.label) ≡ false) → (b : Bool) → excludes rule pair ≡ b → (b || list_any (excludes rule) declared) ≡ true
          → kind_passes kept rule.kind (value_of labels rule.label) ≡ false
      by has rest true f g =
          let two = both_true (bytes_eq pair.0 rule.label) (asks_another rule.kind pair.1) f in
          let name : pair.0 ≡ rule.label = (bytes_eq-Decides pair.0 rule.label).0 two.0 in
          let value : value_of labels pair.0 ≡ pair.1 = (bytes_eq-Decides (value_of labels pair.0) pair.1).0 has in
          kind_fails kept rule.kind pair.1 (value_of labels rule.label) (ap (value_of labels) (sym name) ∙ value) two.1
      by has rest false f g = rest g

  none_passes : (declared : Names) (rules : List Rule) → has_declared declared labels ≡ true → list_any (λ (rule : Rule). list_any (excludes rule) declared) rules ≡ true → labels_pass kept rules labels ≡ false
  none_passes declared [] h e = absurd (cc)
  none_passes declared (rule ∷ rules) h e = by (λ g. none_passes declared rules h g) (list_any (excludes rule) declared) refl e
    where
      none : (b : Bool) → (b && false) ≡ false
      none true = refl
      none false = refl

      by : (list_any (λ (r : Rule). list_any (excludes r) declared) rules ≡ true → labels_pass kept rules labels ≡ false) → (b : Bool) → list_any (excludes rule) declared ≡ b → (b || list_any (λ (r : Rule). list_any (excludes r) declared) rules) ≡ true
          → (kind_passes kept rule.kind (value_of labels rule.label) && labels_pass kept rules labels) ≡ false
      by rest true f g = ap (λ b. b && labels_pass kept rules labels) (rule_fails rule declared h f)
      by rest false f g = ap (λ b. kind_passes kept rule.kind (value_of labels rule.label) && b) (rest g) ∙ none (kind_passes kept rule.kind (value_of labels rule.label))

-- ---- an engine that isn't asked

nothing_left : {X : Type 0} (p q : X → Bool) → ((x : X) → q x ≡ true → p x ≡ false) → (xs : List X) → filter p (filter q xs) ≡ []
nothing_left p q h [] = refl
nothing_left p q h (x ∷ xs) = by (q x) refl (nothing_left p q h xs)
  where
    by : (b : Bool) → q x ≡ b → filter p (filter q xs) ≡ [] → filter p (cond b (x ∷ filter q xs) (filter q xs)) ≡ []
    by true e rest = rw (h x e) rest
    by false e rest = rest

none_passing : (engine : Engine) (samples : AllSeries) (kept : List (Bool × List ℕ)) (rules : List Rule) → IsPartOf (takes engine) samples engine.samples → selects_none engine rules ≡ true → passing engine.samples kept rules ≡ []
none_passing engine samples kept rules parted e =
    ap (filter (λ (s : Names × Samples). labels_pass kept rules s.0)) parted
    ∙ nothing_left (λ (s : Names × Samples). labels_pass kept rules s.0) (λ (s : Names × Samples). takes engine s.0) (λ s h. none_passes kept s.0 engine.declared rules h e) (by_labels samples)

all_none : (engine : Engine) (samples : AllSeries) (kept : List (Bool × List ℕ)) (all : List (List Rule)) → IsPartOf (takes engine) samples engine.samples → list_all (selects_none engine) all ≡ true
    → AllByRecursion (λ (rules : List Rule). passing engine.samples kept rules ≡ passing [] kept rules) all
all_none engine samples kept [] parted e = tt
all_none engine samples kept (rules ∷ all) parted e =
    let two = both_true (selects_none engine rules) (list_all (selects_none engine) all) e in
    (none_passing engine samples kept rules parted two.0, all_none engine samples kept all parted two.1)

pub unasked_gives_nothing : UnaskedGivesNothing
unasked_gives_nothing engines asked e t parted =
    mapped_along (λ (engine : Engine). IsPartOf (takes engine) asked.samples engine.samples) (λ (engine : Engine). is_asked e engine ≡ false → meaning (over engine.samples asked) e t ≡ meaning (over [] asked) e t)
    (λ engine h none. selections_decide asked engine.samples [] e t (all_none engine asked.samples asked.kept (rules_in e) h (by (list_all (selects_none engine) (rules_in e)) none)))
    engines (engines_hold engines asked.samples parted)
  where
    by : (b : Bool) → not b ≡ false → b ≡ true
    by true f = refl
    by false f = absurd (cc)

-- ---- engines as portions

declared_looks : (declared : Names) → LooksAt (keys_of declared) (has_declared declared)
declared_looks [] m n a = refl
declared_looks (pair ∷ declared) m n a = λ i. bytes_eq (a.0 i) pair.1 && declared_looks declared m n a.1 i

one_of_portions : (engines : List Engine) (labels : Names) → length (filter (λ (e : Engine). takes e labels) engines) ≡ 1 → IsOfOne (portions_of engines) labels
one_of_portions engines labels e =
    ap length (filter_mapped (λ (p : Portion). p.test labels) portion_of engines) ∙ length-map (filter (λ (e : Engine). takes e labels) engines) portion_of ∙ e

pub one_of_engines : (engines : List Engine) (labels : Names) → IsOfOne (portions_of engines) labels → length (filter (λ (e : Engine). takes e labels) engines) ≡ 1
one_of_engines engines labels e =
    sym (length-map (filter (λ (e : Engine). takes e labels) engines) portion_of) ∙ sym (ap length (filter_mapped (λ (p : Portion). p.test labels) portion_of engines)) ∙ e

pub engines_are_portions : (engines : List Engine) (samples : AllSeries) → Parted engines samples → ArePortions (declared_names engines) (portions_of engines) samples
engines_are_portions engines samples parted = record {
  unnamed = parted.declared.unnamed;
  some = omega arith;
  looks = (
    λ m n a. refl,
    all_mapped (λ (p : Portion). LooksAt (declared_names engines) p.test) portion_of engines (each_looks engines samples (λ (names : List (List ℕ)) (engine : Engine). LooksAt names (takes engine)) (λ engine. declared_looks engine.declared) parted),
  );
  held = (sym (filtered_none (by_labels samples)), all_mapped (λ (p : Portion). IsPartOf p.test samples p.samples) portion_of engines (engines_hold engines samples parted));
  one = mapped_along (λ (s : Names × Samples). length (filter (λ (e : Engine). takes e s.0) engines) ≡ 1) (λ (s : Names × Samples). IsOfOne (portions_of engines) s.0) (λ s e. one_of_portions engines s.0 e) samples (each_one engines samples parted);
}
