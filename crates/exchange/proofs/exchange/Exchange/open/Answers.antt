use Rattle.std.proofs.Common.{◌∙◌, sym, ap, slice_get}
use Rattle.exchange.specs.Exchanging.{Exchanging}
use Rattle.exchange.proofs.Owing.{all_owed_by}
use Rattle.exchange.proofs.Opening.{all_opened_by, asks_theirs_by, in_order_by, requests_theirs_by}
use Rattle.exchange.proofs.exchange.Exchange.open.Goals as goal

pub open_places-requires-clause-may : goal.open_places-requires-clause-may
open_places-requires-clause-may g c = λ k r at. c.requires.may k r (ap (λ (x : Exchanging). slice_get x.requests k) (sym c.self.view_is) ∙ ap (λ l. slice_get l k) (sym c.as_slice.ensures) ∙ at)

pub returns-in-Ok-clause-stand : goal.returns-in-Ok-clause-stand
returns-in-Ok-clause-stand g c = λ ps ow.
    all_opened_by c.args.span.now c.args.patterns.now _ _ c.as_slice.result.now c.self.inside.requests c.args.self.now.requests c.in-Ok.places c.into_vec.result.items ps c.as_slice.ensures (ap (λ (x : Exchanging). x.requests) c.self.view_is) c.into_vec.ensures c.in-Ok.ensures.size c.in-Ok.ensures.opened c.in-Ok.ensures.apart c.self.invariant.1 c.requires.may ow

pub returns-in-Ok-clause-owed : goal.returns-in-Ok-clause-owed
returns-in-Ok-clause-owed g c = all_owed_by c.args.span.now c.args.patterns.now _ c.self.inside.requests c.args.self.now.requests c.walks_are_listed.ensures.one (ap (λ (x : Exchanging). x.requests) c.self.view_is) c.self.invariant.1

pub returns-in-Err-clause-owed : goal.returns-in-Err-clause-owed
returns-in-Err-clause-owed g c = all_owed_by c.args.span.now c.args.patterns.now _ c.self.inside.requests c.args.self.now.requests c.walks_are_listed.ensures.one (ap (λ (x : Exchanging). x.requests) c.self.view_is) c.self.invariant.1

pub returns-in-Ok-clause-asks : goal.returns-in-Ok-clause-asks
returns-in-Ok-clause-asks g c = asks_theirs_by c.args.span.now c.args.patterns.now _ _ c.as_slice.result.now c.self.inside.requests c.args.self.now.requests c.in-Ok.places c.into_vec.result.items c.as_slice.ensures (ap (λ (x : Exchanging). x.requests) c.self.view_is) c.into_vec.ensures c.in-Ok.ensures.opened

pub returns-in-Ok-clause-gathers : goal.returns-in-Ok-clause-gathers
returns-in-Ok-clause-gathers g c = requests_theirs_by c.args.span.now c.args.patterns.now _ _ c.as_slice.result.now c.self.inside.requests c.args.self.now.requests c.in-Ok.places c.into_vec.result.items c.as_slice.ensures (ap (λ (x : Exchanging). x.requests) c.self.view_is) c.into_vec.ensures c.in-Ok.ensures.opened

pub returns-in-Ok-clause-asked : goal.returns-in-Ok-clause-asked
returns-in-Ok-clause-asked g c = in_order_by c.args.span.now c.args.patterns.now _ _ c.as_slice.result.now c.self.inside.requests c.args.self.now.requests c.as_slice.ensures (ap (λ (x : Exchanging). x.requests) c.self.view_is) c.in-Ok.ensures.asked
