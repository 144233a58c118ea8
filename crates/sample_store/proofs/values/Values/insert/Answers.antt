use Rattle.std.proofs.Common.{◌≡◌, List, OnOk, rules, ap, sym, ◌∙◌, map, insert}
use Rattle.std.proofs.lemmas.Result.{on_ok_weaker}
use Rattle.xfrac.specs.declared.value.Held.{Held}
use Rattle.sample_store.specs.Values.{whole_held}
use Rattle.sample_store.proofs.Widths.{map_inserted}
use Rattle.sample_store.proofs.values.Values.insert.Goals as goal

pub returns-in-Some-clause-ok : goal.returns-in-Some-clause-ok
returns-in-Some-clause-ok c =
    let n = c.in-Some.n in
    let ns = c.in-Wholes.numbers in
    let i = c.args.i in
    let put : OnOk c.insert.result (c.insert.new.self ≡ insert ns i n) = search rules in
    let whole : c.args.held.now ≡ whole_held n = search rules in
    let view : map whole_held ns ≡ c.args.self.now = search rules in
    on_ok_weaker c.insert.result (λ e. ap (map whole_held) e ∙ map_inserted ns i n ∙ ap (λ (z : List Held). insert z i (whole_held n)) view ∙ ap (λ (z : Held). insert c.args.self.now i z) (sym whole)) put
