-- What a plan is served by where parts of it are changed, for proofs. (This project's own.)
use Rattle.std.specs.Prelude.{◌≡◌, ◌&&◌, ◌||◌, ◌++◌, Bool, true, false, List, [], ◌∷◌, refl, ⊤}
use Rattle.std.specs.List.{AllByRecursion}
use Rattle.holders.specs.Joins.{back_of, both_of, front_of}
use Rattle.label_set.specs.declared.rules.PatternId.{PatternId}
use Rattle.label_set.specs.declared.rules.Relabel.{Relabel as Relabelling}
use Rattle.label_set.specs.declared.rules.Relabel.TheVariants as relabel
use Rattle.label_set.specs.declared.rules.Rule.{Rule}
use Rattle.logical_plan.specs.declared.nodes.PlanNode.TheOpen.{PlanNode-F}
use Rattle.match_rule.specs.Patterns.{HaveTheirPatterns, HasItsPattern, IsWholeId}
use Rattle.promql_type.specs.Replacements.{Kept}
use Rattle.plan_serving.specs.Serving.{Serving, all_patterns, all_rules, are_served, node_serving}

module _ (kept : Kept) where
  abbrev pub IsPattern : PatternId → Type 0
  IsPattern id = IsWholeId kept id.0

  -- what gives windows gives them still, what is served is served still, and each pattern is kept where each was
  pub record Stays (before after : Serving) : Type 0 where
    pub ranges : before.ranges ≡ true → after.ranges ≡ true
    pub points : before.points ≡ true → after.points ≡ true
    pub served : before.served ≡ true → after.served ≡ true
    pub rules : HaveTheirPatterns kept before.rules → HaveTheirPatterns kept after.rules
    pub patterns : AllByRecursion IsPattern before.patterns → AllByRecursion IsPattern after.patterns

  pub stays_itself : (s : Serving) → Stays s s
  stays_itself s = record { ranges = λ e. e; points = λ e. e; served = λ e. e; rules = λ h. h; patterns = λ h. h }

  pub stays_on : (a b c : Serving) → Stays a b → Stays b c → Stays a c
  stays_on a b c f g = record {
    ranges = λ e. g.ranges (f.ranges e);
    points = λ e. g.points (f.points e);
    served = λ e. g.served (f.served e);
    rules = λ h. g.rules (f.rules h);
    patterns = λ h. g.patterns (f.patterns h);
  }

  -- each of some
  abbrev pub AllStay : List Serving → List Serving → Type 0
  AllStay [] [] = ⊤
  AllStay [] (a ∷ cs) = ⊥
  AllStay (b ∷ bs) [] = ⊥
  AllStay (b ∷ bs) (a ∷ cs) = Stays b a × AllStay bs cs

  both_hold : (a b c d : Bool) → (a ≡ true → c ≡ true) → (b ≡ true → d ≡ true) → (a && b) ≡ true → (c && d) ≡ true
  both_hold true b true d f g e = g e
  both_hold true b false d f g e = absurd (no (f refl))
    where
      no : false ≡ true → ⊥
      no h = absurd (cc)
  both_hold false b c d f g e = absurd (cc)

  all_served : (bs cs : List Serving) → AllStay bs cs → are_served bs ≡ true → are_served cs ≡ true
  all_served [] [] all e = refl
  all_served [] (a ∷ cs) all e = absurd all
  all_served (b ∷ bs) [] all e = absurd all
  all_served (b ∷ bs) (a ∷ cs) all e = both_hold b.served (are_served bs) a.served (are_served cs) all.0.served (all_served bs cs all.1) e

  all_have : (bs cs : List Serving) → AllStay bs cs → HaveTheirPatterns kept (all_rules bs) → HaveTheirPatterns kept (all_rules cs)
  all_have [] [] all h = h
  all_have [] (a ∷ cs) all h = absurd all
  all_have (b ∷ bs) [] all h = absurd all
  all_have (b ∷ bs) (a ∷ cs) all h =
      both_of (λ (r : Rule). HasItsPattern kept r.kind) a.rules (all_rules cs) (all.0.rules (front_of (λ (r : Rule). HasItsPattern kept r.kind) b.rules (all_rules bs) h))
      (all_have bs cs all.1 (back_of (λ (r : Rule). HasItsPattern kept r.kind) b.rules (all_rules bs) h))

  all_kept : (bs cs : List Serving) → AllStay bs cs → AllByRecursion IsPattern (all_patterns bs) → AllByRecursion IsPattern (all_patterns cs)
  all_kept [] [] all h = h
  all_kept [] (a ∷ cs) all h = absurd all
  all_kept (b ∷ bs) [] all h = absurd all
  all_kept (b ∷ bs) (a ∷ cs) all h =
      both_of IsPattern a.patterns (all_patterns cs) (all.0.patterns (front_of IsPattern b.patterns (all_patterns bs) h)) (all_kept bs cs all.1 (back_of IsPattern b.patterns (all_patterns bs) h))

  -- a node over some, which serves them itself and has these rules and patterns
  abbrev pub node_over : Bool → Bool → Bool → List Rule → List PatternId → List Serving → Serving
  node_over ranges points served rules patterns ss =
      record { ranges = ranges; points = points; served = served && are_served ss; rules = rules ++ all_rules ss; patterns = patterns ++ all_patterns ss }

  pub over_stays : (ranges points served more_ranges more_points more_served : Bool) (rules : List Rule) (patterns : List PatternId) (bs cs : List Serving) → (ranges ≡ true → more_ranges ≡ true)
      → (points ≡ true → more_points ≡ true) → (served ≡ true → more_served ≡ true) → AllStay bs cs
      → Stays (node_over ranges points served rules patterns bs) (node_over more_ranges more_points more_served rules patterns cs)
  over_stays ranges points served more_ranges more_points more_served rules patterns bs cs f g h all = record {
    ranges = f;
    points = g;
    served = both_hold served (are_served bs) more_served (are_served cs) h (all_served bs cs all);
    rules = λ k.
        both_of (λ (r : Rule). HasItsPattern kept r.kind) rules (all_rules cs) (front_of (λ (r : Rule). HasItsPattern kept r.kind) rules (all_rules bs) k)
        (all_have bs cs all (back_of (λ (r : Rule). HasItsPattern kept r.kind) rules (all_rules bs) k));
    patterns = λ k. both_of IsPattern patterns (all_patterns cs) (front_of IsPattern patterns (all_patterns bs) k) (all_kept bs cs all (back_of IsPattern patterns (all_patterns bs) k));
  }

  -- one that gives no windows and has nothing of its own
  pub plain_stays : (bs cs : List Serving) → AllStay bs cs → Stays (node_over false false true [] [] bs) (node_over false false true [] [] cs)
  plain_stays bs cs all = over_stays false false true false false true [] [] bs cs (λ e. e) (λ e. e) (λ e. e) all

  -- a function of windows, a filter, and a change of labels
  or_still : (a b c d : Bool) → (a ≡ true → c ≡ true) → (b ≡ true → d ≡ true) → (a || b) ≡ true → (c || d) ≡ true
  or_still true b true d f g e = refl
  or_still true b false d f g e = absurd (no (f refl))
    where
      no : false ≡ true → ⊥
      no h = absurd (cc)
  or_still false b true d f g e = refl
  or_still false b false d f g e = g e

  pub window_stays : (b a : Serving) (bs cs : List Serving) → Stays b a → AllStay bs cs
      → Stays (node_over false false (b.ranges || b.points) [] [] (b ∷ bs)) (node_over false false (a.ranges || a.points) [] [] (a ∷ cs))
  window_stays b a bs cs s all =
      over_stays false false (b.ranges || b.points) false false (a.ranges || a.points) [] [] (b ∷ bs) (a ∷ cs) (λ e. e) (λ e. e) (or_still b.ranges b.points a.ranges a.points s.ranges s.points) (s, all)

  pub filter_stays : (rules : List Rule) (b a : Serving) → Stays b a → Stays (node_over b.ranges false true rules [] (b ∷ [])) (node_over a.ranges false true rules [] (a ∷ []))
  filter_stays rules b a s = over_stays b.ranges false true a.ranges false true rules [] (b ∷ []) (a ∷ []) s.ranges (λ e. e) (λ e. e) (s, tt)

  pub relabel_stays : (rule : Relabelling) (b a : Serving) → Stays b a → Stays (node_serving {A = Serving} (PlanNode-F.Relabel rule b)) (node_serving {A = Serving} (PlanNode-F.Relabel rule a))
  relabel_stays (relabel.Replace target template source pattern) b a s =
      over_stays false false true false false true [] (pattern ∷ []) (b ∷ []) (a ∷ []) (λ e. e) (λ e. e) (λ e. e) (s, tt)
  relabel_stays (relabel.Join target separator sources) b a s = plain_stays (b ∷ []) (a ∷ []) (s, tt)
  relabel_stays (relabel.Filter rules) b a s = plain_stays (b ∷ []) (a ∷ []) (s, tt)
