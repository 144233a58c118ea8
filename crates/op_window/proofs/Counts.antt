-- What was read of series, where memory didn't run out.
use Rattle.std.proofs.Common.{◌≡◌, ℕ, ◌+◌, List, None, Some, sym, ap, subst, arith}
use Rattle.sample_store.specs.Samples.{AllSeries, Samples}
use Rattle.series_marks.specs.Reaches.{reads_of}
use Rattle.series_marks.specs.Reads.{Reached, edge_of, read_at, read_of}
use Rattle.ticks.specs.declared.moment.Ms.{Ms}

-- ---- a series

pub begun_read : (reached : Reached) (edge m : Ms) (S : Samples) (now was : ℕ) → reached ≡ None → now ≡ was + read_at edge.0 m.0 S → now + read_of reached S ≡ was + read_of (Some (edge_of reached edge, m)) S
begun_read reached edge m S now was is h = subst (λ (r : Reached). now + read_of r S ≡ was + read_of (Some (edge_of r edge, m)) S) (sym is) (omega (arith, h))

pub gone_read : (reached : Reached) (r : Ms × Ms) (edge m : Ms) (S : Samples) (now was : ℕ) → reached ≡ Some r → now + read_at r.0.0 r.1.0 S ≡ was + read_at r.0.0 m.0 S → now + read_of reached S ≡ was + read_of (Some (edge_of reached edge, m)) S
gone_read reached r edge m S now was is h = subst (λ (o : Reached). now + read_of o S ≡ was + read_of (Some (edge_of o edge, m)) S) (sym is) h

-- ---- all series

pub counts_next : (store : AllSeries) (series here : List ℕ) (start reached fresh on : Reached) (now was begin : ℕ) → here ≡ series → fresh ≡ on → was + reads_of start store series ≡ begin + reads_of reached store series
    → now + reads_of reached store here ≡ was + reads_of on store here → now + reads_of start store series ≡ begin + reads_of fresh store series
counts_next store series here start reached fresh on now was begin p e a b =
    let c : now + reads_of reached store series ≡ was + reads_of on store series = subst (λ (xs : List ℕ). now + reads_of reached store xs ≡ was + reads_of on store xs) p b in
    let d : reads_of fresh store series ≡ reads_of on store series = ap (λ (r : Reached). reads_of r store series) e in
    omega (arith, a, c, d)
