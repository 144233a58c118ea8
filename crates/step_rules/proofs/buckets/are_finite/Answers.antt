use Rattle.std.proofs.Common.{rules, ◌≡◌, ◌∙◌, subst, true}
use Rattle.std.proofs.lemmas.List.Elements.{All-more}
use Rattle.xfrac.specs.Laws.{IsNumber}
use Rattle.promql_meaning.specs.declared.buckets.Bucket.{Bucket}
use Rattle.window_fn.specs.Slopes.{is_finite}
use Rattle.step_rules.proofs.Bounds.{all_taken, finite_behind}
use Rattle.step_rules.proofs.buckets.are_finite.Goals as goal

pub loop-bucket-preserved : goal.loop-bucket-preserved
loop-bucket-preserved c =
    let buckets = c.args.buckets.now in
    let i = c.loop-bucket.bucket-index in
    let item = c.bucket-item.result in
    let finite : is_finite c.bucket-item.result.count ≡ true = search rules in
    record {
      finite = finite_behind buckets i item c.loop-bucket-test.true c.bucket-item.is finite ∙ c.loop-bucket.invariant.finite;
      bounds = All-more (λ (b : Bucket). IsNumber b.bound) buckets i item c.loop-bucket-test.true c.loop-bucket.invariant.bounds (subst (λ (b : Bucket). IsNumber b.bound) c.bucket-item.is c.is_number.ensures);
    }

pub returns-clause-bounds : goal.returns-clause-bounds
returns-clause-bounds c = λ e. all_taken (λ (b : Bucket). IsNumber b.bound) c.args.buckets.now c.loop-bucket.bucket-index c.loop-bucket-test.false c.loop-bucket.invariant.bounds
