-- A node over children that agree agrees.
use Rattle.std.proofs.Common.{List, [], ◌∷◌, refl}
use Rattle.std.specs.Prelude.{ℤ}
use Rattle.std.specs.List.{AllZip}
use Rattle.step_table.specs.Laws.{UnionHasMarks}
use Rattle.promql_meaning.specs.Givens.{step_of}
use Rattle.promql_meaning.specs.Meaning.{as_scalar}
use Rattle.promql_meaning.specs.Selecting.{moment_of}
use Rattle.promql_meaning.specs.declared.given.Given.{Given}
use Rattle.logical_plan.specs.PlanMeaning.{Meant, givens_at, node_meant, plain}
use Rattle.plan_agreement.specs.AgreementLaws.{DescentsKeepAgreement, NodesKeepAgreement}
use Rattle.plan_agreement.specs.DescentLaws.{IsValidPart, ValidDescentsKeepAgreement}
use Rattle.plan_agreement.specs.Agreements.{AgreeGivens, AgreeMeants, scalars, vectors}
use Rattle.plan_agreement.specs.SameNodes.{number, time, select, range, subquery, element, stamp, window, absent, buckets, relabel, sort, scalar_of, vector_of, group, pair, set, filtered, ratio, once, gather}
use Rattle.plan_agreement.proofs.Agreeing.{AllAgree, one_agrees, same_given, steps_agree}
use Rattle.plan_agreement.proofs.Descends.{every, every_in}
use Rattle.plan_agreement.proofs.ValidParts.{goes_down, valid_part}
use Rattle.plan_agreement.proofs.Functions.{absent_agrees, buckets_agree, combined_agree, element_agrees, filtered_agrees, group_agrees, operation_agrees, points_agree, ratio_agrees, relabel_agrees, stamp_agrees, window_agrees}

pub same_meant : (m : Meant) → AgreeMeants m m
same_meant m = record { own = refl; gives = λ t. same_given (m.gives t) }

-- not of the samples' own times
plainly : (f g : ℤ → Given) → ((t : ℤ) → AgreeGivens (f t) (g t)) → AgreeMeants (plain f) (plain g)
plainly f g h = record { own = refl; gives = h }

all_agree : (ms ns : List Meant) (t : ℤ) → AllZip AgreeMeants ms ns → AllAgree (givens_at ms t) (givens_at ns t)
all_agree [] [] t z = tt
all_agree [] (n ∷ ns) t z = absurd z
all_agree (m ∷ ms) [] t z = absurd z
all_agree (m ∷ ms) (n ∷ ns) t z = (z.0.gives t, all_agree ms ns t z.1)

pub nodes_agree : UnionHasMarks → NodesKeepAgreement
nodes_agree u asked _ _ (number value) = same_meant _
nodes_agree u asked _ _ time = same_meant _
nodes_agree u asked _ _ (select rules moment stamped) = same_meant _
nodes_agree u asked _ _ (range rules moment length) = same_meant _
nodes_agree u asked _ _ (subquery a b length step moment h) =
    plainly _ _ (λ t. points_agree u moment.closed (λ v. step_of (a.gives v)) (λ v. step_of (b.gives v)) length step (moment_of asked moment t) (λ v. steps_agree (a.gives v) (b.gives v) (h.gives v)))
nodes_agree u asked _ _ (element f a b xs ys h z) = plainly _ _ (λ t. element_agrees u f (givens_at xs t) (givens_at ys t) (a.gives t) (b.gives t) (all_agree xs ys t z) (h.gives t))
nodes_agree u asked _ _ (stamp a b h) = plainly _ _ (λ t. stamp_agrees u a.own b.own t (a.gives t) (b.gives t) h.own (h.gives t))
nodes_agree u asked _ _ (window f a b xs ys h z) = plainly _ _ (λ t. vectors _ _ (window_agrees u f t (givens_at xs t) (givens_at ys t) (a.gives t) (b.gives t) (all_agree xs ys t z) (h.gives t)))
nodes_agree u asked _ _ (absent labels a b h) = plainly _ _ (λ t. absent_agrees u labels (a.gives t) (b.gives t) (h.gives t))
nodes_agree u asked _ _ (buckets a b c d h k) = plainly _ _ (λ t. vectors _ _ (buckets_agree u (a.gives t) (b.gives t) (c.gives t) (d.gives t) (h.gives t) (k.gives t)))
nodes_agree u asked _ _ (relabel rule a b h) = plainly _ _ (λ t. relabel_agrees u asked rule (a.gives t) (b.gives t) (h.gives t))
nodes_agree u asked _ _ (sort down a b h) = plainly _ _ (λ t. vectors _ _ (steps_agree (a.gives t) (b.gives t) (h.gives t)))
nodes_agree u asked _ _ (scalar_of a b h) = plainly _ _ (λ t. scalars _ _ (one_agrees as_scalar (λ s k. k) (step_of (a.gives t)) (step_of (b.gives t)) (steps_agree (a.gives t) (b.gives t) (h.gives t))))
nodes_agree u asked _ _ (vector_of a b h) = plainly _ _ (λ t. vectors _ _ (steps_agree (a.gives t) (b.gives t) (h.gives t)))
nodes_agree u asked _ _ (group f grouping xs ys label z) = plainly _ _ (λ t. vectors _ _ (group_agrees u f grouping label (givens_at xs t) (givens_at ys t) (all_agree xs ys t z)))
nodes_agree u asked _ _ (pair op a b c d pairing h k) = plainly _ _ (λ t. operation_agrees u op pairing (a.gives t) (b.gives t) (c.gives t) (d.gives t) (h.gives t) (k.gives t))
nodes_agree u asked _ _ (set op a b c d pairing h k) =
    plainly _ _ (λ t. vectors _ _ (combined_agree u op pairing (step_of (a.gives t)) (step_of (b.gives t)) (step_of (c.gives t)) (step_of (d.gives t)) (steps_agree (a.gives t) (c.gives t) (h.gives t)) (steps_agree (b.gives t) (d.gives t) (k.gives t))))
nodes_agree u asked _ _ (filtered a b rules h) = plainly _ _ (λ t. filtered_agrees u asked.kept rules (a.gives t) (b.gives t) (h.gives t))
nodes_agree u asked _ _ (ratio a b c d h k) =
    plainly _ _ (λ t. vectors _ _ (ratio_agrees u (step_of (a.gives t)) (step_of (b.gives t)) (step_of (c.gives t)) (step_of (d.gives t)) (steps_agree (a.gives t) (c.gives t) (h.gives t)) (steps_agree (b.gives t) (d.gives t) (k.gives t))))
nodes_agree u asked _ _ (once a b h) = h
nodes_agree u asked _ _ (gather expr kind engines) = same_meant _

pub descents_agree : UnionHasMarks → DescentsKeepAgreement
descents_agree u asked f p puts = every f (node_meant asked) (λ p. p.node) AgreeMeants (λ at y z s. nodes_agree u asked y z s) puts p

pub valid_descents_agree : UnionHasMarks → ValidDescentsKeepAgreement
valid_descents_agree u asked longest latest f p puts valid =
    every_in f (node_meant asked) (λ p. p.node) AgreeMeants (λ at y z s. nodes_agree u asked y z s) (IsValidPart longest latest p) (goes_down longest latest p) puts p (valid_part longest latest p valid)
