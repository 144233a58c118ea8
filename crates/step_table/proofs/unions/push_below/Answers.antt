use Rattle.std.proofs.Common.{◌∙◌, [], ◌∷◌, ◌++◌, refl, sym, ap}
use Rattle.step_table.proofs.Merges.{head_tail, ended_none, ended_less, ended_equal, goes_on}
use Rattle.step_table.proofs.unions.push_below.Goals as goal

pub loop-rest-init : goal.loop-rest-init
loop-rest-init g c = record { at = λ xs. refl }

pub returns-in-Less : goal.returns-in-Less
returns-in-Less g c = ended_less _ _ _ _ _ _ c.loop-rest.invariant _ _ (head_tail g.T.Ord.cmp c.loop-rest.rest.now c.item-item.result c.in-len1-up.len_at_least c.item-item.is) (sym c.cmp.ensures ∙ c.in-Less.is)

pub returns-in-Equal : goal.returns-in-Equal
returns-in-Equal g c =
    ended_equal _ _ _ _ _ _ c.loop-rest.invariant _ _ (head_tail g.T.Ord.cmp c.loop-rest.rest.now c.item-item.result c.in-len1-up.len_at_least c.item-item.is ∙ ap (λ r. c.item-item.result ∷ r) (sym c.split_at.ensures.back)) (sym c.cmp.ensures ∙ c.in-Equal.is)

pub loop-rest-preserved : goal.loop-rest-preserved
loop-rest-preserved g c =
    goes_on _ _ _ _ _ _ c.loop-rest.invariant _ _ (head_tail g.T.Ord.cmp c.loop-rest.rest.now c.item-item.result c.in-len1-up.len_at_least c.item-item.is ∙ ap (λ r. c.item-item.result ∷ r) (sym c.split_at-in-Greater.ensures.back)) (sym c.cmp.ensures ∙ c.in-Greater.is) _ (c.in_ok-push-in-Greater.ensures.ok ∙ ap (λ z. c.loop-rest.all ++ z ∷ []) (c.requires c.item-item.result c.in_ok-clone-in-Greater.field-0 c.in_ok-clone-in-Greater.ensures.cases))

pub returns : goal.returns
returns g c = ended_none _ _ _ _ _ _ c.loop-rest.invariant c.in_default.len_below
