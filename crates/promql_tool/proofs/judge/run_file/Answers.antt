use Rattle.std.proofs.Common.{List, ℕ, Some, refl, subst, sym}
use Rattle.promql_tool.specs.Chosen.{under}
use Rattle.promql_tool.specs.Found.{IsFound}
use Rattle.promql_tool.proofs.BoxLists.{still_itself}
use Rattle.promql_tool.proofs.Mapped.{bytes_came, bytes_cut, bytes_ended, bytes_stopped}
use Rattle.promql_tool.specs.Spending.{no_file}
use Rattle.promql_tool.proofs.Spending.{bytes_spend}
use Rattle.promql_tool.proofs.judge.run_file.Goals as goal

pub returns-in-Bytes-clause-cut : goal.returns-in-Bytes-clause-cut
returns-in-Bytes-clause-cut g c =
    let found = IsFound (g.L.Library.told c.args.library.now) (g.L.Library.sound c.args.library.now) in
    let is_found = subst (λ (bytes : List ℕ). found c.args.path.now (Some bytes)) (sym c.as_slice.ensures) (rw c.in-Bytes.is at (c.in_ok-bytes.ensures.file (under c.args.options.now.closed c.args.declared.now))) in
    λ tell. bytes_cut _ _ found c.args.path.now c.as_slice.result.now is_found _ _ c.run_bytes.result (c.run_bytes.ensures.cut tell)

pub returns-in-Bytes-clause-ran : goal.returns-in-Bytes-clause-ran
returns-in-Bytes-clause-ran g c =
    let found = IsFound (g.L.Library.told c.args.library.now) (g.L.Library.sound c.args.library.now) in
    let is_found = subst (λ (bytes : List ℕ). found c.args.path.now (Some bytes)) (sym c.as_slice.ensures) (rw c.in-Bytes.is at (c.in_ok-bytes.ensures.file (under c.args.options.now.closed c.args.declared.now))) in
    λ tell. bytes_came _ _ found c.args.path.now c.as_slice.result.now is_found _ _ c.run_bytes.result _ (c.run_bytes.ensures.ran tell)

pub returns-in_err-bytes-clause-bounded : goal.returns-in_err-bytes-clause-bounded
returns-in_err-bytes-clause-bounded g c = λ none. no_file refl

pub returns-in-Bytes-clause-bounded : goal.returns-in-Bytes-clause-bounded
returns-in-Bytes-clause-bounded g c =
    let found = IsFound (g.L.Library.told c.args.library.now) (g.L.Library.sound c.args.library.now) in
    let is_found = subst (λ (bytes : List ℕ). found c.args.path.now (Some bytes)) (sym c.as_slice.ensures) (rw c.in-Bytes.is at (c.in_ok-bytes.ensures.file (under c.args.options.now.closed c.args.declared.now))) in
    λ none. bytes_spend c.args.options.now found c.args.path.now c.as_slice.result.now c.args.work.now c.run_bytes.new.work is_found (c.run_bytes.ensures.bounded none)

pub returns-in-Stopped-clause-bounded : goal.returns-in-Stopped-clause-bounded
returns-in-Stopped-clause-bounded g c = λ none. no_file refl

pub returns-in-Bytes-clause-came : goal.returns-in-Bytes-clause-came
returns-in-Bytes-clause-came g c =
    let found = IsFound (g.L.Library.told c.args.library.now) (g.L.Library.sound c.args.library.now) in
    let is_found = subst (λ (bytes : List ℕ). found c.args.path.now (Some bytes)) (sym c.as_slice.ensures) (rw c.in-Bytes.is at (c.in_ok-bytes.ensures.file (under c.args.options.now.closed c.args.declared.now))) in
    bytes_ended _ _ found c.args.path.now c.as_slice.result.now is_found _ _ c.run_bytes.result _ c.run_bytes.ensures.came

pub returns-in-Bytes-clause-stopped : goal.returns-in-Bytes-clause-stopped
returns-in-Bytes-clause-stopped g c =
    let found = IsFound (g.L.Library.told c.args.library.now) (g.L.Library.sound c.args.library.now) in
    let is_found = subst (λ (bytes : List ℕ). found c.args.path.now (Some bytes)) (sym c.as_slice.ensures) (rw c.in-Bytes.is at (c.in_ok-bytes.ensures.file (under c.args.options.now.closed c.args.declared.now))) in
    λ tell. bytes_stopped (under c.args.options.now.closed c.args.declared.now) found c.args.path.now c.as_slice.result.now is_found _ _ c.run_bytes.result (c.run_bytes.ensures.stopped tell)

pub returns-in-Stopped-clause-boxes : goal.returns-in-Stopped-clause-boxes
returns-in-Stopped-clause-boxes g c = still_itself _

pub returns-in-Stopped-clause-ran : goal.returns-in-Stopped-clause-ran
returns-in-Stopped-clause-ran g c = λ tell. (rw c.in-Stopped.is at (c.in_ok-bytes.ensures.file (under c.args.options.now.closed c.args.declared.now)), refl, refl)

pub returns-in-Stopped-clause-came : goal.returns-in-Stopped-clause-came
returns-in-Stopped-clause-came g c = (rw c.in-Stopped.is at (c.in_ok-bytes.ensures.file (under c.args.options.now.closed c.args.declared.now)), refl, refl)
