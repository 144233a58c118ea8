use Rattle.std.proofs.Common.{◌≡◌, ◌<◌, ◌≤◌, ◌+◌, ◌-◌, ◌/◌, ℕ, List, Some, ap, sym, subst, ◌∙◌, length, slice_get, rules, arith}
use Rattle.std.specs.Cmp.Lexicographic.{nat_list_cmp_total}
use Rattle.std.specs.Option.{option_map}
use Rattle.std.specs.declared.cmp.Ordering.TheVariants.{Less, Equal, Greater}
use Rattle.std.proofs.lemmas.Map.Entries.{lookup_at_gap}
use Rattle.std.proofs.lemmas.Option.{same_Some}
use Rattle.label_set.specs.Entries.{insert_at_gap, lookup_at_place, lower_half, upper_half, at_above_earlier}
use Rattle.label_set.specs.Labels.{byte_cmp}
use Rattle.label_set.proofs.LabelLemmas.{byte_cmp_equal}
use Rattle.label_set.proofs.labels.find.Goals as goal

pub loop-low-preserved-in-Less : goal.loop-low-preserved-in-Less
loop-low-preserved-in-Less c =
    let m = c.loop-low.low + (c.loop-low.high - c.loop-low.low) / 2 in
    let inside : m < c.loop-low.high = omega arith in
    let less : byte_cmp c.args.name.now c.pair.result.0.now ≡ Less = cc in
    lower_half byte_cmp nat_list_cmp_total _ _ c.requires.ordered _ _ _ _ c.loop-low.invariant (omega arith) inside c.pair.ensures less

pub returns-in-Equal : goal.returns-in-Equal
returns-in-Equal c =
    let ps = c.args.pairs.now in
    let m = c.loop-low.low + (c.loop-low.high - c.loop-low.low) / 2 in
    let same : byte_cmp c.args.name.now c.pair.result.0.now ≡ Equal = cc in
    let same_there : (e : List ℕ × List ℕ) → slice_get ps m ≡ Some e → byte_cmp c.args.name.now e.0 ≡ Equal = λ e h. subst (λ (q : List ℕ × List ℕ). byte_cmp c.args.name.now q.0 ≡ Equal) (same_Some _ e (sym c.pair.ensures ∙ h)) same in
    let within : m < length ps = search rules in
    let is_name : c.pair.result.0.now ≡ c.args.name.now = byte_cmp_equal _ _ same in
    let key : option_map (λ (p : List ℕ × List ℕ). p.0) (slice_get ps m) ≡ Some c.args.name.now = rw c.pair.ensures (ap Some is_name) in (
      within,
      lookup_at_place byte_cmp _ _ _ within (at_above_earlier byte_cmp nat_list_cmp_total _ _ c.requires.ordered _ _ c.pair.ensures same) same_there,
      key,
    )

pub loop-low-preserved : goal.loop-low-preserved
loop-low-preserved c =
    let m = c.loop-low.low + (c.loop-low.high - c.loop-low.low) / 2 in
    let inside : m < c.loop-low.high = omega arith in
    let greater : byte_cmp c.args.name.now c.pair.result.0.now ≡ Greater = cc in
    upper_half byte_cmp nat_list_cmp_total _ _ c.requires.ordered _ _ _ _ c.loop-low.invariant inside c.pair.ensures greater

pub returns : goal.returns
returns c =
    let met : c.loop-low.high ≤ c.loop-low.low = omega arith in
    let below : (e : List ℕ × List ℕ) → slice_get c.args.pairs.now c.loop-low.low ≡ Some e → byte_cmp c.args.name.now e.0 ≡ Less = λ e h. c.loop-low.invariant.after c.loop-low.low e met h in
    let within : c.loop-low.low ≤ length c.args.pairs.now = omega arith in (
      within,
      lookup_at_gap nat_list_cmp_total _ _ c.loop-low.low c.requires.ordered c.loop-low.invariant.before below,
      λ v. insert_at_gap byte_cmp _ v _ _ within c.loop-low.invariant.before below,
    )
