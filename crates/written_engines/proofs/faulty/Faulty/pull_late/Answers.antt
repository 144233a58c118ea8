use Rattle.std.proofs.Common.{rules, ◌≡◌, subst}
use Rattle.std.specs.Prelude.{Ok}
use Rattle.engine_local.specs.Local.{seen_of}
use Rattle.remote_api.specs.Seen.{HasPulled}
use Rattle.remote_api.specs.declared.engine.Pulled.{Pulled}
use Rattle.remote_api.specs.declared.engine.Pulled.TheVariants as pulled
use Rattle.written_engines.proofs.Untold.{passed_on, some_given, strayed_as}
use Rattle.written_engines.proofs.faulty.Faulty.pull_late.Goals as goal

pub go_astray-requires : goal.go_astray-requires
go_astray-requires c =
    let f = c.args.self.now in
    let is : c.in-Ok-Frame.field-0 ≡ pulled.Frame = search rules in
    some_given f.inner f.faults f.strays f.stray c.args.ask c.args.most c.pull.new.self c.args.patterns.now c.pull.new.frame.steps c.requires.may (subst (λ (p : Pulled). HasPulled c.args.ask c.args.most c.pull.new.frame.steps (Ok p) (seen_of f.inner) (seen_of c.pull.new.self)) is c.in-Ok-Frame.ensures.pulled)

pub returns-in-Ok-Frame-clause-pulled : goal.returns-in-Ok-Frame-clause-pulled
returns-in-Ok-Frame-clause-pulled c =
    let f = c.args.self.now in
    let is : c.in-Ok-Frame.field-0 ≡ pulled.Frame = search rules in
    strayed_as f.inner f.faults f.strays f.stray c.args.ask c.args.most c.pull.new.self c.go_astray.new.self.inner c.pull.new.frame.steps c.go_astray.new.frame.steps c.go_astray.new.self.strays c.go_astray.new.self.faults c.go_astray.new.self.stray
    c.go_astray.ensures.late c.go_astray.ensures.inner c.go_astray.ensures.faults (subst (λ (p : Pulled). HasPulled c.args.ask c.args.most c.pull.new.frame.steps (Ok p) (seen_of f.inner) (seen_of c.pull.new.self)) is c.in-Ok-Frame.ensures.pulled)

pub returns-in-Ok-End-clause-pulled : goal.returns-in-Ok-End-clause-pulled
returns-in-Ok-End-clause-pulled c =
    let f = c.args.self.now in
    let is : c.in-Ok-End.field-0 ≡ pulled.End = search rules in
    passed_on f.inner f.faults f.strays f.stray c.args.ask c.args.most c.pull.new.self c.pull.new.frame.steps (Ok pulled.End) (subst (λ (p : Pulled). HasPulled c.args.ask c.args.most c.pull.new.frame.steps (Ok p) (seen_of f.inner) (seen_of c.pull.new.self)) is c.in-Ok-End.ensures.pulled)
