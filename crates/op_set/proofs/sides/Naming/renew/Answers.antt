use Rattle.std.proofs.Common.{◌∙◌, Bool, ap}
use Rattle.op_set.specs.Sides.{lent_labels}
use Rattle.op_set.proofs.Named.{named_kept, own_placed, signed_placed, taken_named}
use Rattle.op_set.proofs.sides.Naming.renew.Goals as goal

pub take-requires-clause-own : goal.take-requires-clause-own
take-requires-clause-own c = own_placed _ _ _ _ c.begin.new.self.left c.begin.ensures.named.left

pub returns-in_err-take-clause-named : goal.returns-in_err-take-clause-named
returns-in_err-take-clause-named c = record {
  left = taken_named _ _ _ _ _ _ c.begin.new.self.left c.take.new.self c.begin.ensures.named.left
      c.take.ensures.signed_left c.take.ensures.own_left c.take.ensures.lent c.take.ensures.signed c.take.ensures.own;
  right = named_kept _ _ _ _ _ _ c.begin.new.self.right c.take.ensures.signatures c.take.ensures.kept c.begin.ensures.named.right;
}

pub take-requires-2-clause-signed : goal.take-requires-2-clause-signed
take-requires-2-clause-signed c =
    signed_placed _ _ _ _ c.begin.new.self.right (named_kept _ _ _ _ _ _ c.begin.new.self.right c.take.ensures.signatures c.take.ensures.kept c.begin.ensures.named.right)

pub take-requires-2-clause-own : goal.take-requires-2-clause-own
take-requires-2-clause-own c =
    own_placed _ _ _ _ c.begin.new.self.right (named_kept _ _ _ _ _ _ c.begin.new.self.right c.take.ensures.signatures c.take.ensures.kept c.begin.ensures.named.right)

pub returns-clause-named : goal.returns-clause-named
returns-clause-named c =
    let left = taken_named _ _ _ _ _ _ c.begin.new.self.left c.take.new.self c.begin.ensures.named.left
    c.take.ensures.signed_left c.take.ensures.own_left c.take.ensures.lent c.take.ensures.signed c.take.ensures.own in
    let right = named_kept _ _ _ _ _ _ c.begin.new.self.right c.take.ensures.signatures c.take.ensures.kept c.begin.ensures.named.right in
    let lent = c.take-2.ensures.lent ∙ ap (λ (lends : Bool). lent_labels lends c.take-2.new.self.signed.fed) c.lends_right-lends.ensures in
    record {
      left = named_kept _ _ _ _ _ _ c.take.new.self c.take-2.ensures.signatures c.take-2.ensures.kept left;
      right = taken_named _ _ _ _ _ _ c.begin.new.self.right c.take-2.new.self right c.take-2.ensures.signed_left c.take-2.ensures.own_left lent c.take-2.ensures.signed c.take-2.ensures.own;
    }
