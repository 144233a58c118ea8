use Rattle.std.proofs.Common.{◌≡◌, ◌+◌, ◌∷◌, ◌∙◌, ap, drop, refl, rules, subst, sym, true, List}
use Rattle.std.specs.List.{list_any}
use Rattle.std.proofs.lemmas.List.{drop_more}
use Rattle.script_read.specs.declared.script.Wanted.{Wanted}
use Rattle.script_check.specs.Verdicts.{AreKept, meets, noted_holds}
use Rattle.script_check.proofs.Searches.{none_searched, one_met}
use Rattle.script_check.proofs.tested.are_met.Goals as goal

pub loop-line-init : goal.loop-line-init
loop-line-init c = record {
  same = refl;
  kept = c.requires;
  so_far = refl;
  met = none_searched (λ line. list_any (λ text. meets c.args.searches.now text line) c.args.texts.now);
}

pub loop-line-preserved : goal.loop-line-preserved
loop-line-preserved c =
    let kept = c.args.searches.now in
    let lines = c.args.lines.now in
    let texts = c.args.texts.now in
    let i = c.loop-line.line-index in
    let line = c.line-item.result in
    let parted : drop i lines ≡ line ∷ drop (i + 1) lines = drop_more lines i line c.loop-line-test.true ∙ ap (λ (one : Wanted). one ∷ drop (i + 1) lines) (sym c.line-item.is) in
    let met : list_any (λ text. meets kept text line) texts ≡ true = search rules in
    record {
      same = search rules;
      kept = (subst (AreKept kept) parted c.loop-line.invariant.kept).1;
      so_far = one_met kept texts line (drop (i + 1) lines) met ∙ ap (λ (ls : List Wanted). noted_holds kept ls texts) (sym parted) ∙ c.loop-line.invariant.so_far;
      met = c.mark.ensures (λ one. list_any (λ text. meets kept text one) texts) met c.loop-line.invariant.met;
    }
